use Rattle.std.proofs.Common.{refl, arith}
use Rattle.normal_steps.specs.Laws.Limits.{passed_none, passed_more}
use Rattle.normal_steps.specs.Laws.Moves.{next_byte, holds_next}
use Rattle.normal_steps.proofs.state.Writer.copy_byte.Goals as goal

pub returns : goal.returns
returns c =
    record {
      symbol = c.put_byte.ensures.symbol;
      same = c.put_byte.ensures.same;
      stays = c.put_byte.ensures.stays;
      is = let w = c.args.self.now in
          let y = c.put_byte.ensures.is in
          (passed_more 1 (passed_none w.state refl) y.0, λ σ h k t e. let f = next_byte h e in rw f.0 (y.1 _ (holds_next h e) (omega (arith, h.short))));
    }
