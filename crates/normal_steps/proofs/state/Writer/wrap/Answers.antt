use Rattle.std.proofs.Common.{sym, ap, ◌∙◌, refl, arith}
use Rattle.normal_nodes.specs.Nodes.{wrap_node, may_stand}
use Rattle.normal_steps.specs.Carries.{tells, refuses}
use Rattle.normal_steps.specs.Laws.Limits.{room_after, stretch_same, took_more}
use Rattle.normal_steps.specs.Laws.Told.{told, by}
use Rattle.normal_steps.specs.Laws.Steps.{entered_is, when_true, when_false}
use Rattle.normal_steps.specs.Laws.Slices.{numbered_note}
use Rattle.normal_steps.proofs.state.Writer.wrap.Goals as goal

pub returns-then-not-may_stand : goal.returns-then-not-may_stand
returns-then-not-may_stand c =
    record {
      symbol = refl;
      same = refl;
      is = λ σ h. by (when_false _ (ap (may_stand c.args.c) (sym (c.tag_of.ensures σ h)) ∙ sym c.may_stand.ensures ∙ c.if-not-may_stand.true)) refuses;
    }

pub enter-requires : goal.enter-requires
enter-requires c =
    let r = c.requires.1 in
    let t = told (rw c.from.ensures at (c.note-u.ensures.is r.1.1.0 r.1.1.1)) in
    let l = t.1.0 in
    (numbered_note _ r.1.1.0 t.0 t.1.1.0, (stretch_same r.0 l, (room_after r.1.0 l, (_, t.0))))

pub returns : goal.returns
returns c =
    record {
      symbol = c.enter.ensures.symbol ∙ c.note-u.ensures.symbol;
      same = c.enter.ensures.same ∙ c.note-u.ensures.same;
      is = λ σ h.
          let e = ap (may_stand c.args.c) (sym (c.tag_of.ensures σ h)) ∙ sym c.may_stand.ensures ∙ c.if-not-may_stand.false in
          let t = told (rw c.from.ensures at (c.note-u.ensures.is σ h)) in
          let v = c.enter.ensures.is _ t.0 in
          by (when_true _ e ∙ entered_is (wrap_node c.args.c c.args.t) c.args.from σ t.1.1.0)
          (tells v.holds (took_more c.args.from t.1.0 v.limits (omega arith) (omega (arith, t.1.0.out))) t.1.1.1);
    }
