use Rattle.std.proofs.lemmas.Result.{err_from_is_err_and}
use Rattle.normalize.specs.Laws.FromWriter.{not_written, refused_as, was_written, written_is}
use Rattle.normalize.specs.Laws.Answers.{told_6, told_normal}
use Rattle.normalize.proofs.reading.write.Goals as goal

pub returns-in_err-ok_or : goal.returns-in_err-ok_or
returns-in_err-ok_or c =
    let a = c.in_err-ok_or.ensures in
    let p = err_from_is_err_and c.from_residual.result c.from_residual.ensures.1 in
    rw (p.1, p.2, refused_as a.value a.ok_part) (told_6 c.args.s.now c.args.out.now (not_written c.write_symbol.ensures.is a.ok_part))

pub returns : goal.returns
returns c =
    let (σ, (e, h)) = was_written c.write_symbol.ensures.is c.in_ok-ok_or.ensures.ok_part in
    told_normal c.args.s.now c.args.out.now e (written_is c.write_symbol.new.w h) c.print.ensures
