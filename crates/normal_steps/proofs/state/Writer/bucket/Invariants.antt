use Rattle.std.proofs.Common.{◌≡◌, ◌%◌, ◌<◌, drop}
use Rattle.normal_steps.specs.Chains.{buckets, summed}
use Rattle.normal_steps.proofs.state.Writer.bucket.Given as goal

abbrev pub invariant-loop-c : goal.invariant-loop-c
invariant-loop-c l = (l.sum < buckets) × (summed l.sum (drop l.c-index l.c-items) ≡ summed (l.x.of % buckets) l.c-items)
