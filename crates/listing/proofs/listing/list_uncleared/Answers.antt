use Rattle.answer.specs.Lent.{all_slices_of}
use Rattle.listing.specs.Laws.Entry.{least_lengths, goes_none, goes_some}
use Rattle.listing.proofs.listing.list_uncleared.Goals as goal

pub returns-then-not-fits-clause-lines : goal.returns-then-not-fits-clause-lines
returns-then-not-fits-clause-lines c =
    goes_none _ (all_slices_of c.args.name.now c.args.work.now c.args.numbers.now) c.fits.ensures _ _ c.if-not-fits.true

pub invariant_of-lister : goal.invariant_of-lister
invariant_of-lister c =
    record { long = least_lengths _ (all_slices_of c.args.name.now c.args.work.now c.args.numbers.now) c.fits.ensures c.if-not-fits.false }

pub returns-clause-lines : goal.returns-clause-lines
returns-clause-lines c =
    goes_some _ (all_slices_of c.args.name.now c.args.work.now c.args.numbers.now) c.fits.ensures _ c.if-not-fits.false c.write_lines.ensures.lines
