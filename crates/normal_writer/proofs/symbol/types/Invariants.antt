use Rattle.normal_writer.specs.Laws.Loops.{bytes_left}
use Rattle.normal_writer.specs.Laws.Symbols.{Turned}
use Rattle.normal_writer.proofs.symbol.types.Given as goal

abbrev pub invariant-loop-w : goal.invariant-loop-w
invariant-loop-w l = Turned l.initial.w l.w

abbrev pub decreases-loop-w : goal.decreases-loop-w
decreases-loop-w l = bytes_left l.w
