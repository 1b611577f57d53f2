use Rattle.std.proofs.Common.{refl, sym, subst, ◌∙◌, arith}
use Rattle.normal_steps.specs.Answers.{NameIs}
use Rattle.normal_steps.specs.Laws.Parts.{part_length}
use Rattle.normal_steps.specs.Laws.Leaves.{name_zero, name_long, name_by, name_some}
use Rattle.normal_steps.proofs.words.source_name.Goals as goal
use Rattle.normal_steps.proofs.words.source_name.Goals.{then-s-to-via-then-s-to, then-s-to-via-else-s-to+then-not-is_name}

pub returns-then-here : goal.returns-then-here
returns-then-here c =
    name_zero c.args.s.now c.args.at _ refl (sym c.here.ensures ∙ c.if-here.true)

pub returns-in_err-to : goal.returns-in_err-to
returns-in_err-to c =
    let n = c.digits-length.ensures in
    let z = sym c.here.ensures ∙ c.if-here.false in
    subst (NameIs c.args.s.now c.args.at) (sym c.from_residual.ensures) (name_long c.args.s.now c.args.at _ n.behind z (omega (arith, n.is, c.in_err-to.ensures)))

pub returns-then-s-to : goal.returns-then-s-to
returns-then-s-to c =
    let n = c.digits-length.ensures in
    let z = sym c.here.ensures ∙ c.if-here.false in
    elim c.then-s-to.branch [
      | then-s-to-via-then-s-to w ↦ name_long c.args.s.now c.args.at _ n.behind z (omega (arith, n.is, c.in_ok-to.ensures))
      | then-s-to-via-else-s-to+then-not-is_name w ↦
          name_by c.args.s.now c.args.at _ n.behind z c.in_ok-to.to (omega (arith, n.is, c.in_ok-to.ensures)) (omega arith) ∙ rw (sym w.is_name.ensures ∙ w.if-not-is_name.true) refl
    ]

pub returns : goal.returns
returns c =
    let n = c.digits-length.ensures in
    let z = sym c.here.ensures ∙ c.if-here.false in
    let o = sym c.is_name.ensures ∙ c.if-not-is_name.false in
    let m = name_some _ o in
    record {
      is = name_by c.args.s.now c.args.at _ n.behind z c.in_ok-to.to (omega (arith, n.is, c.in_ok-to.ensures)) (omega arith) ∙ rw o refl;
      behind = omega (arith, n.behind);
      some = omega (arith, part_length c.args.s.now c.digits-length.result.next c.in_ok-to.to (omega arith));
      inside = omega arith;
    }
