use Rattle.std.proofs.Common.{ℕ, ◌+◌, ap, ◌∙◌, arith, length, length-drop}
use Rattle.std.proofs.lemmas.Result.{err_from_is_err_and}
use Rattle.parser.specs.declared.demangler.Demangler.{Demangler}
use Rattle.parser.specs.Laws.Demanglers.{took, took_none, lent_moved}
use Rattle.parser.specs.Demanglers.{lent}
use Rattle.reader.specs.Cycle as cycle
use Rattle.reader.proofs.cycle.structor.Goals as goal

pub returns-in_err-take : goal.returns-in_err-take
returns-in_err-take c =
    let p = err_from_is_err_and c.from_residual.result c.from_residual.ensures.1 in
    let k = took_none c.in_err-take.ensures in
    rw (p.1, p.2, k.why_is) (cycle.short (omega (arith, ap length k.so, length-drop (c.args.d.now.state.at + 1) c.args.d.now.s.now)) (ap (λ (x : Demangler). x.s.now) k.is) (ap lent k.is))

pub returns : goal.returns
returns c =
    let d = c.args.d.now in
    let k = took c.in_ok-take.ensures in
    let e = ap (λ (x : Demangler). record x { stack = c.put.new.self }) k.is in
    let i = k.past.inside in
    cycle.structor (omega arith)
    (e ∙ ap (λ (n : ℕ). record d { state = record d.state { at = n }; stack = c.put.new.self }) {x = d.state.at + 1 + 1} {y = d.state.at + 2} (omega arith))
    (lent_moved d c.put.new.self {at = d.state.at + 1 + 1} k.is c.put.ensures.same)
    (rw k.is at c.put.ensures.left)
