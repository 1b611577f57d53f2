use Rattle.std.proofs.Common.{length, ap, arith}
use Rattle.std.proofs.lemmas.Result.{err_from_is_err_and}
use Rattle.grammar.specs.Text.{Text}
use Rattle.grammar.specs.Names.{within, mangled_name}
use Rattle.answer.specs.Laws.Told.{tells_as}
use Rattle.demangle.specs.Laws.Tells.{read_fits, tells_read, tells_unread}
use Rattle.encoding.specs.Laws.Specials.{begun_by}
use Rattle.demangle.proofs.reading.read.Goals as goal

pub mangled_name-requires : goal.mangled_name-requires
mangled_name-requires c =
    (omega (arith, c.requires.0, ap length c.new-d.ensures.begins.symbol), begun_by c.new-d.result c.new-d.ensures.begins.state)

pub returns-in_err-n : goal.returns-in_err-n
returns-in_err-n c =
    let p = err_from_is_err_and c.from_residual.result c.from_residual.ensures.1 in
    rw (p.1, p.2)
    (tells_as (ap (λ (s : Text). within (length c.args.out.now) (mangled_name s)) c.new-d.ensures.begins.symbol) (tells_unread c.args.out.now c.in_err-n.ensures))

pub print-requires : goal.print-requires
print-requires c =
    read_fits c.new-d.result c.new-d.ensures.begins.state c.in_ok-n.ensures

pub returns : goal.returns
returns c =
    tells_as (ap (λ (s : Text). within (length c.args.out.now) (mangled_name s)) c.new-d.ensures.begins.symbol)
    (tells_read c.new-d.result c.new-d.ensures.begins.state c.in_ok-n.ensures c.print.ensures)
