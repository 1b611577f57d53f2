use Rattle.std.proofs.Common.{rules, tests, arith}
use Rattle.encoding.specs.Laws.Ends.{void_before, void_alone}
use Rattle.encoding.proofs.functions.lone_void.Goals as goal

pub returns-then-d : goal.returns-then-d
returns-then-d c = void_alone c.args.d.now c.args.list (omega (arith, c.if-d.true)) c.lone_void.ensures

pub returns-else-d : goal.returns-else-d
returns-else-d c = void_before c.args.d.now c.args.list (search (rules, tests)) (omega (arith, c.requires.0, c.if-d.false))
