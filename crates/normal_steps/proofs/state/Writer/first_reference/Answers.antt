use Rattle.std.proofs.Common.{refl, ap, ◌∙◌, arith}
use Rattle.normal_walk.specs.Walk.{reference}
use Rattle.normal_steps.specs.Carries.{tells, refuses}
use Rattle.normal_steps.specs.Laws.Moves.{holds_moved}
use Rattle.normal_steps.specs.Laws.Limits.{passed_none, spent}
use Rattle.normal_steps.specs.Laws.Told.{by}
use Rattle.normal_steps.specs.Laws.Steps.{with_none}
use Rattle.normal_steps.specs.Laws.LeafSteps.{reference_none, reference_is}
use Rattle.normal_steps.proofs.state.Writer.first_reference.Goals as goal

pub returns-in_err-reference-clause-kept : goal.returns-in_err-reference-clause-kept
returns-in_err-reference-clause-kept c =
    rw c.from_residual.ensures (record { symbol = refl; stays = refl; same = refl; is = λ σ h. by (with_none _ (ap reference h.rest ∙ c.in_err-reference.ensures)) refuses })

pub returns-then-self-reference-clause-kept : goal.returns-then-self-reference-clause-kept
returns-then-self-reference-clause-kept c =
    record { symbol = refl; stays = refl; same = refl; is = λ σ h. by (reference_none h c.in_ok-reference.ensures _ c.if-self-reference.true) refuses }

pub settle-requires : goal.settle-requires
settle-requires c =
    let x = c.in_ok-reference.ensures in
    let h = c.requires.1.1 in
    let b = x.behind in
    let t = c.entry-t.ensures _ h in
    (t.1, (record { stands = omega arith; fits = omega (arith, c.requires.0); spare = omega (arith, c.requires.0) }, (_, holds_moved h _ (omega arith) x.inside)))

pub returns-clause-kept : goal.returns-clause-kept
returns-clause-kept c =
    record {
      symbol = c.settle.ensures.symbol;
      stays = c.settle.ensures.stays;
      same = c.settle.ensures.same;
      is = λ σ h.
          let x = c.in_ok-reference.ensures in
          let w = passed_none c.args.self.now.state refl in
          let b = x.behind in
          let t = c.entry-t.ensures σ h in
          let v = c.settle.ensures.is _ (holds_moved h _ (omega arith) x.inside) in
          let l = v.limits in
          by (reference_is h x _ t.0)
          (tells v.holds (omega arith, spent w l (omega arith) (omega arith) (omega arith) (omega (arith, c.requires.0))) (omega (arith, t.1.1, h.few_nodes, h.place, h.source)));
    }
