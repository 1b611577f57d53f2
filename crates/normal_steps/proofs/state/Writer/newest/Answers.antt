use Rattle.std.proofs.Common.{eq-eqb, arith}
use Rattle.normal_steps.specs.Laws.Slices.{newest_none, newest_is}
use Rattle.normal_steps.proofs.state.Writer.newest.Goals as goal

pub returns-then-n-ne0 : goal.returns-then-n-ne0
returns-then-n-ne0 c σ h = rw c.from.ensures (newest_is h c.args.d (omega arith))

pub returns-else-n-ne0 : goal.returns-else-n-ne0
returns-else-n-ne0 c σ h = rw (eq-eqb c.args.self.now.state.table 0 c.if-n-ne0.false) (newest_none h c.args.d c.if-n-ne0.false)
