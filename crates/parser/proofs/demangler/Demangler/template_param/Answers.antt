use Rattle.std.proofs.Math.Path.{refl}
use Rattle.std.proofs.Common.{arith}
use Rattle.parser.specs.Laws.References.{index_prepared, param_none, param_unended, param_unfit, param_read}
use Rattle.parser.specs.Laws.Demanglers.{failed, needed, lacked_leaf, prepared_at}
use Rattle.parser.proofs.demangler.Demangler.template_param.Goals as goal
use Rattle.parser.proofs.demangler.Demangler.template_param.Goals.{in-None, in-Some}

pub returns-in_err-need : goal.returns-in_err-need
returns-in_err-need c =
    rw (failed c.from_residual.result c.from_residual.ensures.1) (lacked_leaf (λ f σ h. param_none c.args.self.now.s.now c.args.self.now.state.at σ h.rest f) c.in_err-need.ensures)

pub returns-in_err-index : goal.returns-in_err-index
returns-in_err-index c =
    rw (failed c.from_residual-in_err-index.result c.from_residual-in_err-index.ensures.1) (param_unended (needed c.in_ok-need.ensures) c.in_err-index.ensures)

pub returns-in-Some-eq18446744073709551615 : goal.returns-in-Some-eq18446744073709551615
returns-in-Some-eq18446744073709551615 c = param_unfit (needed c.in_ok-need.ensures) c.in_ok-index.ensures (rw c.in-Some-eq18446744073709551615.is (omega arith))

pub argument-requires : goal.argument-requires
argument-requires c =
    let n = needed c.in_ok-need.ensures in
    index_prepared c.in_ok-index.ensures (prepared_at n.is (omega (arith, n.past.inside)) c.requires)

pub returns : goal.returns
returns c =
    param_read
    (needed c.in_ok-need.ensures)
    c.in_ok-index.ensures
    (elim c.match-branch-3.branch [ in-None w ↦ rw (w.in-None.is, w.i-is) refl | in-Some w ↦ rw (w.in-Some.is, w.i-is) refl ])
    (elim c.match-branch-3.branch [ in-None w ↦ omega (arith, w.i-is) | in-Some w ↦ omega (arith, w.i-is, w.in-Some.n-test.1) ])
    c.argument.ensures
