use Rattle.std.proofs.Common.{arith}
use Rattle.normal_steps.specs.Laws.Slices.{entry_is}
use Rattle.normal_steps.proofs.state.Writer.entry.Goals as goal

pub returns : goal.returns
returns c σ h = rw c.from.ensures (entry_is h c.args.i (omega arith))
