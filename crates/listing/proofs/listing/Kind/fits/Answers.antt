use Rattle.std.proofs.Common.{true≢false, sym, ◌∙◌}
use borrow.Author.Tests.{lt-leb}
use Rattle.answer.specs.Lent.{all_slices_of}
use Rattle.listing.specs.Laws.Entry.{short_name, short_work, long_work}
use Rattle.listing.proofs.listing.Kind.fits.Goals as goal
use Rattle.listing.proofs.listing.Kind.fits.Goals.{then-name-ge-NAME, else-name-ge-NAME}

pub returns-then-fits : goal.returns-then-fits
returns-then-fits c =
    let l = all_slices_of c.args.name.now c.args.work.now c.args.numbers.now in
    elim c.if-name-ge-NAME.branch [
      | then-name-ge-NAME w ↦ long_work c.args.self l w.if-name-ge-NAME.true (sym (rw (sym w.least_ends.ensures) w.fits.ensures) ∙ sym w.value-is ∙ c.if-fits.true) (rw (sym c.least_numbers.ensures) c.fits-then-fits.ensures)
      | else-name-ge-NAME w ↦ absurd (true≢false (sym c.if-fits.true ∙ w.value-is ∙ lt-leb _ _ w.if-name-ge-NAME.false))
    ]

pub returns-else-fits : goal.returns-else-fits
returns-else-fits c =
    let l = all_slices_of c.args.name.now c.args.work.now c.args.numbers.now in
    elim c.if-name-ge-NAME.branch [
      | then-name-ge-NAME w ↦ c.if-fits.false ∙ short_work c.args.self l w.if-name-ge-NAME.true (sym (rw (sym w.least_ends.ensures) w.fits.ensures) ∙ sym w.value-is ∙ c.if-fits.false)
      | else-name-ge-NAME w ↦ c.if-fits.false ∙ short_name c.args.self l w.if-name-ge-NAME.false
    ]
