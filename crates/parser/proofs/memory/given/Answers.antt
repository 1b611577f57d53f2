use Rattle.std.proofs.Common.{le-leb}
use Rattle.std.proofs.lemmas.Bool.{lt-leb}
use Rattle.grammar.specs.Text.{if◌then◌otherwise◌}
use Rattle.parser.specs.Demanglers.{given_length}
use Rattle.parser.proofs.memory.given.Goals as goal

pub returns-then-n-gt-TEXT : goal.returns-then-n-gt-TEXT
unfolding given_length if◌then◌otherwise◌
returns-then-n-gt-TEXT c = rw (lt-leb _ _ c.if-n-gt-TEXT.true)

pub returns : goal.returns
unfolding given_length if◌then◌otherwise◌
returns c = rw (le-leb _ _ c.if-n-gt-TEXT.false)
