use mathlib.Core.Path.{◌≡◌}
use Prim.Native.Nat.{◌-◌, ◌*◌, ◌≤◌}
use Rattle.normal_steps.proofs.write.Split.reduced.Given as goal

abbrev pub invariant-loop-part : goal.invariant-loop-part
invariant-loop-part l = (l.part ≡ 36 * l.times) × (1 ≤ l.times) × (l.part ≤ l.self.low)

abbrev pub decreases-loop-part : goal.decreases-loop-part
decreases-loop-part l = l.self.low - l.part
