use mathlib.Core.Path.{◌≡◌}
use Prim.Native.Nat.{◌+◌, ◌*◌, ◌/◌}
use Rattle.normal_steps.specs.Laws.SeqIds.{bits}
use Rattle.normal_steps.proofs.write.by_36.Given as goal

abbrev pub invariant-loop-split : goal.invariant-loop-split
invariant-loop-split l = 36 * l.split.high + l.split.low ≡ l.n

abbrev pub decreases-loop-split : goal.decreases-loop-split
decreases-loop-split l = bits (l.split.low / 36)
