use Rattle.std.proofs.Common.{◌≡◌}
use Rattle.parser.specs.Demanglers.{state_of, lent}
use Rattle.encoding.specs.Laws.Ends.{Qualifying}
use Rattle.encoding.proofs.functions.qualified.Given as goal

abbrev pub invariant-loop-c : goal.invariant-loop-c
invariant-loop-c l =
    ((l.d ≡ record l.initial.d { stack = l.d.stack }) × (lent l.d ≡ lent l.initial.d))
    × Qualifying l.c-items l.initial.d.stack.bytes.now l.d.stack.bytes.now (state_of l.initial.d) (state_of l.d) l.n l.size l.c-index
