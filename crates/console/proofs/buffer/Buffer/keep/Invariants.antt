use Rattle.std.proofs.Common.{length}
use Rattle.console.specs.Buffer.{Begun}
use Rattle.console.proofs.buffer.Buffer.keep.Given as goal

abbrev pub invariant-loop-rest : goal.invariant-loop-rest
invariant-loop-rest l = Begun l.chunk l.rest l.initial.self l.self

abbrev pub decreases-loop-rest : goal.decreases-loop-rest
decreases-loop-rest l = length l.rest
