use Prim.Native.Nat.{◌/◌}
use native.Mathlib.Omega.{arith}
use Rattle.normal_steps.specs.Laws.SeqIds.{bits_less}
use Rattle.normal_steps.proofs.write.by_36.Goals as goal

pub loop-split-smaller : goal.loop-split-smaller
loop-split-smaller c =
    bits_less (c.reduced-split.result.low / 36) (c.loop-split.split.low / 36) (omega (arith, c.reduced-split.ensures)) (omega arith)
