use Rattle.std.proofs.Common.{rules, tests}
use Rattle.grammar.specs.Text.{b}
use Rattle.reader.specs.Laws.Funcs.{alone_told, alone_unlike}
use Rattle.reader.proofs.lists.Joined.lone_void.Goals as goal

pub returns-then-self-eq4 : goal.returns-then-self-eq4
unfolding b
returns-then-self-eq4 c =
    alone_told c.args.self c.args.stack.now (search (rules, tests)) (search (rules, tests)) c.newest.ensures c.as_slice.ensures c.eq.ensures

pub returns-else-self-eq4 : goal.returns-else-self-eq4
returns-else-self-eq4 c = alone_unlike c.args.self c.args.stack.now (search (rules, tests)) c.if-self-eq4.either
