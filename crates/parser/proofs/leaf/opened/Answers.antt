use Rattle.std.proofs.Common.{rules}
use Rattle.grammar.specs.Text.{if◌then◌otherwise◌}
use Rattle.grammar.specs.Grammar.{open_after}
use Rattle.parser.proofs.leaf.opened.Goals as goal

pub returns-in-88 : goal.returns-in-88
unfolding open_after if◌then◌otherwise◌
returns-in-88 c = search rules

pub returns-in-69 : goal.returns-in-69
unfolding open_after if◌then◌otherwise◌
returns-in-69 c = search rules

pub returns-in_default : goal.returns-in_default
unfolding open_after if◌then◌otherwise◌
returns-in_default c = search rules
