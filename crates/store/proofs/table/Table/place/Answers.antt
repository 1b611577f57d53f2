use Rattle.std.proofs.Common.{arith}
use Rattle.grammar.specs.Limits.{most_entries}
use Rattle.store.specs.Laws.Entries.{placed}
use Rattle.store.proofs.table.Table.place.Goals as goal

pub returns : goal.returns
returns c l store count bytes h i =
    placed h i (c.start-from.ensures l most_entries h.ends_is (omega (arith, h.count_is, i))) (c.start-to.ensures l most_entries h.ends_is (omega (arith, h.count_is, i)))
