use mathlib.Core.Path.{sym, ◌∙◌}
use Rattle.std.proofs.lemmas.Result.{err_from_is_err_and}
use Rattle.answer.specs.Lent.{slices_of}
use Rattle.answer.specs.Laws.Told.{fit_long}
use Rattle.demangle.specs.Laws.Told.{front_refuses, front_short, front_reads}
use Rattle.demangle.proofs.reading.demangle_uncleared.Goals as goal

pub returns-in_err-at-clause-told : goal.returns-in_err-at-clause-told
returns-in_err-at-clause-told c =
    let p = err_from_is_err_and c.from_residual.result c.from_residual.ensures.1 in
    rw (p.1, p.2) (front_refuses c.in_err-at.ensures (slices_of c.args.out.now c.args.work.now))

pub returns-then-not-fits-clause-told : goal.returns-then-not-fits-clause-told
returns-then-not-fits-clause-told c =
    front_short c.in_ok-at.ensures (slices_of c.args.out.now c.args.work.now) (sym c.fits.ensures ∙ c.if-not-fits.true)

pub read_behind-requires : goal.read_behind-requires
read_behind-requires c =
    (c.in_ok-at.ensures.inside, fit_long _ _ (sym c.fits.ensures ∙ c.if-not-fits.false))

pub returns-clause-told : goal.returns-clause-told
returns-clause-told c =
    front_reads c.in_ok-at.ensures (slices_of c.args.out.now c.args.work.now) (sym c.fits.ensures ∙ c.if-not-fits.false) c.read_behind.ensures.told
