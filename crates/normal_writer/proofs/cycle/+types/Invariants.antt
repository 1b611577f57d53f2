use Prim.Native.Nat.{◌+◌, ◌*◌}
use Rattle.normal_writer.specs.Laws.Loops.{bytes_left}
use Rattle.normal_writer.specs.Laws.Types.{ArgsSoFar}
use Rattle.normal_writer.specs.Laws.Parts.{MoreSoFar}
use Rattle.normal_writer.proofs.cycle.+types.Given as goal

abbrev pub decreases-args : goal.decreases-args
decreases-args l = 3 * bytes_left l.w.now + 2

abbrev pub decreases-more : goal.decreases-more
decreases-more l = 3 * bytes_left l.w.now

abbrev pub decreases-named : goal.decreases-named
decreases-named l = 3 * bytes_left l.w.now

abbrev pub decreases-nested : goal.decreases-nested
decreases-nested l = 3 * bytes_left l.w.now

abbrev pub decreases-parts : goal.decreases-parts
decreases-parts l = 3 * bytes_left l.w.now

abbrev pub decreases-referred : goal.decreases-referred
decreases-referred l = 3 * bytes_left l.w.now

abbrev pub decreases-ty : goal.decreases-ty
decreases-ty l = 3 * bytes_left l.w.now + 1

abbrev pub decreases-with_args : goal.decreases-with_args
decreases-with_args l = 3 * bytes_left l.w.now

abbrev pub decreases-wrap : goal.decreases-wrap
decreases-wrap l = 3 * bytes_left l.w.now

abbrev pub invariant-args-loop-x : goal.invariant-args-loop-x
invariant-args-loop-x l = ArgsSoFar l.initial.w l.initial.of l.w l.of

abbrev pub decreases-args-loop-x : goal.decreases-args-loop-x
decreases-args-loop-x l = bytes_left l.w

abbrev pub invariant-more-loop-w : goal.invariant-more-loop-w
invariant-more-loop-w l = MoreSoFar l.from l.initial.w l.initial.of l.initial.alone l.w l.of l.alone

abbrev pub decreases-more-loop-w : goal.decreases-more-loop-w
decreases-more-loop-w l = bytes_left l.w
