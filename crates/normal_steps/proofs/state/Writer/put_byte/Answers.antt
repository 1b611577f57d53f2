use Rattle.std.proofs.Common.{refl, arith, length-set}
use Rattle.normal_steps.specs.Laws.WrittenAt.{wrote_one}
use Rattle.normal_steps.specs.Laws.Slices.{puts_by}
use Rattle.normal_steps.proofs.state.Writer.put_byte.Goals as goal

pub returns : goal.returns
returns c =
    record {
      symbol = refl;
      same = simp length-set refl;
      stays = refl;
      is = let w = c.args.self.now in
          puts_by refl (wrote_one w.out.now w.state.out c.args.c (omega arith));
    }
