use Rattle.std.proofs.Common.{◌∙◌}
use Rattle.parser.specs.Laws.Leaves.{qualifies_is}
use Rattle.parser.proofs.leaf.qualifier.Goals as goal

pub returns : goal.returns
returns c = c.is_some.ensures ∙ qualifies_is c.args.c c.qualifier.result c.qualifier.ensures.0
