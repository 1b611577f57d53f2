use Rattle.std.proofs.Common.{rules}
use Rattle.store.specs.Stack.{zeros}
use Rattle.answer.specs.Lent.{all_slices_of}
use Rattle.listing.specs.Laws.Entry.{goes_lists}
use Rattle.listing.proofs.listing.list_lines.Goals as goal

pub returns-clause-left : goal.returns-clause-left
unfolding zeros
returns-clause-left c =
    goes_lists _ _ (all_slices_of c.args.name.now c.args.work.now c.args.numbers.now) _ c.list_uncleared-listed.ensures.lines
    (search rules)
    (record { text = search rules; store = search rules; ends = search rules })
    (record { words = search rules; tables = search rules; chains = search rules })
