use Rattle.std.proofs.Common.{sym, ap, ◌∙◌}
use Rattle.normal_steps.specs.Carries.{but_tables}
use Rattle.normal_steps.specs.Laws.Limits.{took_less}
use Rattle.normal_steps.specs.Laws.Told.{went_as}
use Rattle.normal_steps.specs.Laws.Steps.{nested_newest, nested_old, nested_other}
use Rattle.normal_steps.proofs.state.Writer.enter_nested.Goals.{else-tag_of-from-via-then-tag_of-from+else-newest, else-tag_of-from-via-else-tag_of-from}
use Rattle.normal_steps.proofs.state.Writer.enter_nested.Goals as goal

pub returns-then-newest : goal.returns-then-newest
returns-then-newest c =
    record {
      symbol = c.settle.ensures.symbol;
      same = c.settle.ensures.same;
      stays = ap but_tables c.settle.ensures.stays;
      is = λ σ h.
          let w = c.settle.ensures.is σ h in
          let e = sym (c.tag_of.ensures σ h) ∙ c.if-tag_of-from.true ∙ c.from.ensures in
          let f = sym (c.newest.ensures σ h) ∙ c.if-newest.true in
          went_as (nested_newest c.args.u c.args.from σ e f) w.holds (took_less w.limits);
    }

pub returns : goal.returns
returns c =
    record {
      symbol = c.enter.ensures.symbol;
      same = c.enter.ensures.same;
      stays = c.enter.ensures.stays;
      is = λ σ h.
          let w = c.enter.ensures.is σ h in
          let t = c.tag_of.ensures σ h in
          went_as
          (elim c.else-tag_of-from.branch [
            | else-tag_of-from-via-then-tag_of-from+else-newest x ↦ nested_old c.args.u c.args.from σ (sym (x.newest.ensures σ h) ∙ x.if-newest.false)
            | else-tag_of-from-via-else-tag_of-from x ↦ nested_other c.args.u c.args.from σ (λ e. x.if-tag_of-from.false (t ∙ e ∙ sym c.from.ensures))
          ])
          w.holds w.limits;
    }
