use Rattle.std.proofs.Common.{◌≡◌, ◌++◌, length, take, drop}
use Rattle.demangle.proofs.symbol.copy.Given as goal

abbrev pub invariant-loop-i : goal.invariant-loop-i
invariant-loop-i l = record { size : length l.out ≡ length l.initial.out; is : l.out ≡ take l.i l.text ++ drop l.i l.initial.out }
