use mathlib.Core.Path.{sym, ◌∙◌}
use Rattle.std.proofs.lemmas.Result.{err_from_is_err_and}
use Rattle.answer.specs.Lent.{all_slices_of}
use Rattle.normalize.specs.Laws.Answers.{front_refuses, front_short, numbers_short, reading_refuses, reading_accepts}
use Rattle.normalize.proofs.reading.normalize_uncleared.Goals as goal
use Rattle.normalize.proofs.reading.normalize_uncleared.Goals.{then-not-fits-via-then-not-fits, then-not-fits-via-else-not-fits+then-not-fits-2}

pub returns-in_err-behind_front-clause-told : goal.returns-in_err-behind_front-clause-told
returns-in_err-behind_front-clause-told c =
    let p = err_from_is_err_and c.from_residual.result c.from_residual.ensures.1 in
    rw (p.1, p.2) (front_refuses c.in_err-behind_front.ensures (all_slices_of c.args.out.now c.args.work.now c.args.numbers.now))

pub returns-then-not-fits-clause-told : goal.returns-then-not-fits-clause-told
returns-then-not-fits-clause-told c =
    let l = all_slices_of c.args.out.now c.args.work.now c.args.numbers.now in
    elim c.then-not-fits.branch [
      | then-not-fits-via-then-not-fits w ↦ front_short c.in_ok-behind_front.ensures l (sym c.fits.ensures ∙ w.if-not-fits.true)
      | then-not-fits-via-else-not-fits+then-not-fits-2 w ↦ numbers_short c.in_ok-behind_front.ensures l (sym c.fits.ensures ∙ w.if-not-fits.false) (sym w.fits-else-not-fits.ensures ∙ w.if-not-fits-2.true)
    ]

pub returns-in_err-accepted-clause-told : goal.returns-in_err-accepted-clause-told
returns-in_err-accepted-clause-told c =
    let p = err_from_is_err_and c.from_residual-in_err-accepted.result c.from_residual-in_err-accepted.ensures.1 in
    rw (p.1, p.2) (reading_refuses c.in_ok-behind_front.ensures (all_slices_of c.args.out.now c.args.work.now c.args.numbers.now)
    (sym c.fits.ensures ∙ c.if-not-fits.false) (sym c.fits-else-not-fits.ensures ∙ c.if-not-fits-2.false) c.in_err-accepted.ensures.told)

pub returns-clause-told : goal.returns-clause-told
returns-clause-told c =
    reading_accepts c.in_ok-behind_front.ensures (all_slices_of c.args.out.now c.args.work.now c.args.numbers.now)
    (sym c.fits.ensures ∙ c.if-not-fits.false) (sym c.fits-else-not-fits.ensures ∙ c.if-not-fits-2.false) c.in_ok-accepted.ensures.told c.write_within.ensures.told
