use Rattle.std.proofs.Common.{ap, arith, length}
use Rattle.parser.specs.Recalls.{recalls, long}
use Rattle.parser.specs.Laws.Demanglers.{failed, given_ok, given_err}
use Rattle.parser.proofs.memory.entry.Goals as goal

pub returns-in_err-n-clause-recalls : goal.returns-in_err-n-clause-recalls
returns-in_err-n-clause-recalls c l h =
    let e = given_err _ c.in_err-n.ensures in
    rw (failed c.from_residual.result c.from_residual.ensures.1, e.1) (long (omega (arith, e.0, ap length (c.get-text.ensures l h))))

pub put-requires : goal.put-requires
put-requires c = (given_ok _ c.in_ok-n.ensures).0

pub returns-clause-recalls : goal.returns-clause-recalls
returns-clause-recalls c l h =
    let e = given_ok _ c.in_ok-n.ensures in
    rw (e.1, c.get-text.ensures l h) (recalls (omega (arith, e.0, ap length (c.get-text.ensures l h))) (rw (c.get-text.ensures l h) at c.put.ensures.left))
