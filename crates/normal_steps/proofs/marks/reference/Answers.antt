use Rattle.std.proofs.Common.{sym, drop, ◌∙◌, arith}
use Rattle.grammar.specs.Text.{run, digit}
use Rattle.normal_steps.specs.Laws.Leaves.{index_none, index_some, ref_open, ref_wrong, ref_right}
use Rattle.normal_steps.proofs.marks.reference.Goals as goal
use Rattle.normal_steps.proofs.marks.reference.Goals.{then-not-here-via-then-not-here, then-not-here-via-else-not-here+then-not-canonical, then-end-at, else-end-at}

pub returns-then-not-here : goal.returns-then-not-here
returns-then-not-here c =
    let n = c.digits-number.ensures.behind in
    elim c.then-not-here.branch [
      | then-not-here-via-then-not-here w ↦ ref_open c.args.s.now c.args.at _ n (sym c.here.ensures ∙ w.if-not-here.true)
      | then-not-here-via-else-not-here+then-not-canonical w ↦
          ref_wrong c.args.s.now c.args.at _ n (sym c.here.ensures ∙ w.if-not-here.false) (sym w.canonical.ensures ∙ w.if-not-canonical.true)
    ]

pub returns : goal.returns
returns c =
    let n = c.digits-number.ensures in
    let d = run (digit 36) (drop c.args.at c.args.s.now) in
    ref_right c.args.s.now c.args.at _ n.behind (sym c.here.ensures ∙ c.if-not-here.false) (sym c.canonical.ensures ∙ c.if-not-canonical.false) _
    (elim c.if-end-at.branch [
      | then-end-at w ↦ omega (arith, index_none d (omega (arith, n.behind)))
      | else-end-at w ↦ omega (arith, w.min.ensures, w.saturating_add.ensures, n.is, index_some d (omega (arith, n.behind)))
    ])
