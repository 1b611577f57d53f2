use Rattle.std.proofs.Common.{sym, ap, drop, ◌∙◌, arith}
use Rattle.grammar.specs.Text.{digit}
use Rattle.catalogue.specs.Bytes.{all}
use Rattle.normal_walk.proofs.Laws.Digits.{run_all}
use Rattle.normal_steps.specs.Laws.Parts.{run_is}
use Rattle.normal_steps.specs.Laws.Leaves.{value_open, value_wrong, value_right}
use Rattle.normal_steps.proofs.marks.value.Goals as goal
use Rattle.normal_steps.proofs.marks.value.Goals.{then-not-here-via-then-not-here, then-not-here-via-else-not-here+then-not-value_ok}

pub value_ok-requires : goal.value_ok-requires
value_ok-requires c =
    ap (all (digit 10)) (sym (run_is (digit 10) c.args.s.now c.args.from _ c.digits-to.ensures.behind)) ∙ run_all (digit 10) (drop c.args.from c.args.s.now)

pub returns-then-not-here : goal.returns-then-not-here
returns-then-not-here c =
    let n = c.digits-to.ensures.behind in
    elim c.then-not-here.branch [
      | then-not-here-via-then-not-here w ↦ value_open c.args.s.now c.args.kind c.args.minus c.args.from _ n (sym c.here.ensures ∙ w.if-not-here.true)
      | then-not-here-via-else-not-here+then-not-value_ok w ↦
          value_wrong c.args.s.now c.args.kind c.args.minus c.args.from _ n (sym c.here.ensures ∙ w.if-not-here.false) (sym w.value_ok.ensures ∙ w.if-not-value_ok.true)
    ]

pub returns : goal.returns
returns c =
    let h = sym c.here.ensures ∙ c.if-not-here.false in
    (value_right c.args.s.now c.args.kind c.args.minus c.args.from _ c.digits-to.ensures.behind h (sym c.value_ok.ensures ∙ c.if-not-value_ok.false), omega arith)
