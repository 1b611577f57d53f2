use Rattle.std.proofs.Common.{◌≡◌, ◌%◌, arith}
use Rattle.grammar.specs.Laws.Decimals.{writing_none, from_some, writing_more, writing_done}
use Rattle.grammar.proofs.numbers.write_decimal.Goals as goal

pub loop-rest-init : goal.loop-rest-init
loop-rest-init c =
    writing_none _ _ _ (omega arith)

pub overflow_sub-from : goal.overflow_sub-from
overflow_sub-from c =
    omega (arith, from_some c.loop-rest.invariant c.requires.0 c.requires.1)

pub bounds-out-from : goal.bounds-out-from
bounds-out-from c =
    omega (arith, from_some c.loop-rest.invariant c.requires.0 c.requires.1, c.loop-rest.invariant.inside, c.loop-rest.invariant.size)

pub returns-then-rest-eq0 : goal.returns-then-rest-eq0
returns-then-rest-eq0 c =
    let n = c.loop-rest.rest in
    let e : n % 10 ≡ n = omega arith in
    rw e (writing_done c.loop-rest.invariant c.requires.0 c.requires.1 (omega arith))

pub loop-rest-preserved : goal.loop-rest-preserved
loop-rest-preserved c =
    writing_more c.loop-rest.invariant c.requires.0 c.requires.1 (omega arith)
