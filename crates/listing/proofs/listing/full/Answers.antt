use borrow.Author.Tests.{eq-eqb, ne_eqb}
use Rattle.grammar.specs.Text.{if◌then◌otherwise◌}
use Rattle.listing.proofs.listing.full.Goals as goal

pub returns-then-taken-eq0 : goal.returns-then-taken-eq0
unfolding if◌then◌otherwise◌
returns-then-taken-eq0 c =
    rw (eq-eqb c.args.taken 0 c.if-taken-eq0.true)

pub returns : goal.returns
unfolding if◌then◌otherwise◌
returns c =
    rw (ne_eqb c.args.taken 0 c.if-taken-eq0.false)
