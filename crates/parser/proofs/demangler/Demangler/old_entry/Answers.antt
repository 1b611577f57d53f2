use Rattle.std.proofs.Common.{arith}
use Rattle.parser.specs.Laws.References.{index_prepared, entry_refused, entry_read}
use Rattle.parser.specs.Laws.Demanglers.{failed}
use Rattle.parser.proofs.demangler.Demangler.old_entry.Goals as goal
use Rattle.parser.proofs.demangler.Demangler.old_entry.Goals.{in-None, in-Some}

pub returns-in_err-index : goal.returns-in_err-index
returns-in_err-index c = rw (failed c.from_residual.result c.from_residual.ensures.1) (entry_refused c.in_err-index.ensures)

pub recall-requires : goal.recall-requires
recall-requires c = index_prepared c.in_ok-index.ensures c.requires

pub returns : goal.returns
returns c =
    entry_read
    c.in_ok-index.ensures
    (elim c.match-branch-2.branch [
      | in-None w ↦ rw (w.in-None.is, w.k-is) (omega arith)
      | in-Some w ↦ rw (w.in-Some.is, w.k-is) (omega (arith, w.saturating_add-k.ensures))
    ])
    c.recall.ensures.reads
