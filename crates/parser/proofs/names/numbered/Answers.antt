use Rattle.std.proofs.Common.{sym, ◌∙◌, arith}
use Rattle.grammar.specs.Text.{if◌then◌otherwise◌}
use Rattle.grammar.specs.Laws.Places.{starts_inside}
use Rattle.parser.specs.Source.{behind_number}
use Rattle.parser.proofs.names.numbered.Goals as goal

pub returns-then-here : goal.returns-then-here
unfolding behind_number if◌then◌otherwise◌
returns-then-here c =
    let e = sym c.here.ensures ∙ c.if-here.true in
    (rw (← c.digits-end.ensures.behind, e), omega (arith, starts_inside c.args.s.now c.digits-end.result.next 95 e))

pub returns-else-here : goal.returns-else-here
unfolding behind_number if◌then◌otherwise◌
returns-else-here c =
    let e = sym c.here.ensures ∙ c.if-here.false in
    (rw (← c.digits-end.ensures.behind, e), omega (arith, c.digits-end.ensures.inside))
