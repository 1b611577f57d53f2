use Rattle.std.proofs.Common.{arith}
use Rattle.console.specs.Laws.Buffer.{completes, completes_none}
use Rattle.console.proofs.buffer.Buffer.complete.Goals as goal

pub returns-then-self : goal.returns-then-self
returns-then-self c = completes (omega (arith, c.if-self.true)) c.end_line.ensures

pub returns-else-self : goal.returns-else-self
returns-else-self c = completes_none _ (omega (arith, c.if-self.false))
