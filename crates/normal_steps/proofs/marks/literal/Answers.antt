use Rattle.std.proofs.Common.{◌≡◌, ◌≤◌, ◌<◌, length, get_or, sym, subst, ◌∙◌, arith}
use Rattle.std.proofs.lemmas.Bool.Decides.{nat_tests}
use Rattle.std.proofs.lemmas.List.{get_or_read}
use Rattle.normal_steps.specs.Answers.{LitIs}
use Rattle.normal_steps.specs.Laws.Leaves.{literal_end, literal_minus, literal_plain, from_value}
use Rattle.normal_steps.proofs.marks.literal.Goals as goal
use Rattle.normal_steps.proofs.marks.literal.Goals.{then-minus, else-minus}

pub returns-in_err-kind : goal.returns-in_err-kind
returns-in_err-kind c =
    let l : length c.args.s.now ≤ c.args.at = grind (arith, nat_tests, c.in_err-kind.ensures) in
    subst (LitIs c.args.s.now c.args.at) (sym c.from_residual.ensures) (literal_end _ _ l)

pub returns : goal.returns
returns c =
    let l : c.args.at < length c.args.s.now = grind (arith, nat_tests, c.in_ok-kind.ensures) in
    let k : c.in_ok-kind.field-0.now ≡ get_or c.args.s.now c.args.at 0 = get_or_read c.args.s.now _ _ l c.in_ok-kind.ensures.lookup.1 0 in
    from_value c.args.s.now c.args.at _ _ _ c.value.result (elim c.if-minus.branch [ then-minus w ↦ omega arith | else-minus w ↦ omega arith ])
    (elim c.if-minus.branch [
      | then-minus w ↦ rw (k, w.if-minus.true, w.from-is) (literal_minus c.args.s.now c.args.at l (sym c.here-minus.ensures ∙ w.if-minus.true))
      | else-minus w ↦ rw (k, w.if-minus.false, w.from-is) (literal_plain c.args.s.now c.args.at l (sym c.here-minus.ensures ∙ w.if-minus.false))
    ])
    c.value.ensures
