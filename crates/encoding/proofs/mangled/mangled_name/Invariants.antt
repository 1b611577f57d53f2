use Rattle.std.proofs.Common.{length}
use Rattle.encoding.specs.Laws.Clones.{Cloned}
use Rattle.encoding.proofs.mangled.mangled_name.Given as goal

abbrev pub invariant-loop-rest : goal.invariant-loop-rest
invariant-loop-rest l = Cloned l.initial.d l.d l.n

abbrev pub decreases-loop-rest : goal.decreases-loop-rest
decreases-loop-rest l = length l.d.s.now
