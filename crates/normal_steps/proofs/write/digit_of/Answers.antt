use mathlib.Core.Path.{refl}
use borrow.Author.Tests.{lt-ltb, le-ltb}
use Rattle.grammar.specs.Text.{if◌then◌otherwise◌}
use Rattle.catalogue.specs.Spelling.{digit_of}
use native.Mathlib.Omega.{arith}
use Rattle.normal_steps.proofs.write.digit_of.Goals as goal

pub returns-then-d-lt10 : goal.returns-then-d-lt10
unfolding digit_of if◌then◌otherwise◌
returns-then-d-lt10 c =
    rw (lt-ltb c.args.d 10 (omega arith)) refl

pub returns-else-d-lt10 : goal.returns-else-d-lt10
unfolding digit_of if◌then◌otherwise◌
returns-else-d-lt10 c =
    rw (le-ltb c.args.d 10 (omega arith)) refl
