use Rattle.std.proofs.Common.{refl, arith}
use Rattle.normal_steps.specs.Carries.{tells}
use Rattle.normal_steps.specs.Laws.Told.{told, by}
use Rattle.normal_steps.specs.Laws.Steps.{counted_is}
use Rattle.normal_steps.specs.Laws.Moves.{holds_counted}
use Rattle.normal_steps.specs.Laws.Limits.{took_counted}
use Rattle.normal_steps.proofs.state.Writer.arg.Goals as goal

pub returns : goal.returns
returns c =
    record {
      symbol = c.note-u.ensures.symbol;
      same = c.note-u.ensures.same;
      stays = c.note-u.ensures.stays;
      is = λ σ h.
          let t = told (c.note-u.ensures.is σ h) in
          let r = c.requires.1.1.0 in
          let i = h.args_count in
          let j = t.0.args_count in
          by (counted_is c.args.t c.args.x σ t.1.1.0)
          (tells (holds_counted t.0 (omega (arith, r.args, t.1.0.at))) (took_counted t.1.0 refl (omega arith)) t.1.1.1);
    }
