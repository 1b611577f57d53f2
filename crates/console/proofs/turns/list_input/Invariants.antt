use Rattle.std.proofs.Common.{◌-◌, ◌+◌, ◌≤◌, length, ◌≡◌, false, eqb}
use Rattle.listing.specs.Cut.{most_kept}
use Rattle.console.specs.Lister.{SameLister}
use Rattle.console.specs.Turns.{Goes}
use Rattle.console.proofs.turns.list_input.Given as goal

abbrev pub invariant-loop-buffer : goal.invariant-loop-buffer
invariant-loop-buffer g l = record {
  goes : Goes l.fn.lister.kind (eqb l.n 0) (g.R.Read.remaining l.fn.input) (g.R.Read.remaining l.input) (g.W.Write.contents l.fn.output) (g.W.Write.contents l.output) l.buffer;
  room : most_kept + 1 + length l.chunk ≤ length l.buffer.lines.now;
  same : SameLister l.fn.lister l.lister;
}

abbrev pub decreases-loop-buffer : goal.decreases-loop-buffer
decreases-loop-buffer g l = l.buffer.start - l.buffer.from

abbrev pub invariant-loop : goal.invariant-loop
invariant-loop g l = record {
  goes : Goes l.fn.lister.kind false (g.R.Read.remaining l.fn.input) (g.R.Read.remaining l.input) (g.W.Write.contents l.fn.output) (g.W.Write.contents l.output) l.buffer;
  none : l.buffer.from ≡ l.buffer.start;
  room : most_kept + 1 + length l.chunk ≤ length l.buffer.lines.now;
  same : SameLister l.fn.lister l.lister;
}
