use mathlib.Core.Path.{sym, subst}
use native.Mathlib.Omega.{arith}
use lib.Seq.{length-take-le}
use Rattle.grammar.specs.Text.{Text}
use Rattle.listing.specs.Listing.{listing_line}
use Rattle.listing.specs.Printed.{Printed}
use Rattle.listing.specs.Laws.Answers.{line_is}
use Rattle.listing.specs.Laws.Kinds.{short_told}
use Rattle.listing.proofs.listing.Lister.write_line.Goals as goal

pub slice_bounds-print_line-end : goal.slice_bounds-print_line-end
slice_bounds-print_line-end c =
    let e = short_told _ _ c.answer-answer.ensures.told in
    sym (length-take-le _ _ (omega (arith, e, c.bytes-bytes.ensures, c.answer-answer.new.self.long.name)))

pub print_line-requires : goal.print_line-requires
print_line-requires c =
    let e = short_told _ _ c.answer-answer.ensures.told in
    let k = length-take-le c.bytes-bytes.result c.answer-answer.new.self.name.now (omega (arith, e, c.bytes-bytes.ensures, c.answer-answer.new.self.long.name)) in
    omega (arith, k, e, c.bytes-bytes.ensures)

pub returns-clause-line : goal.returns-clause-line
unfolding listing_line
returns-clause-line c =
    subst (λ (t : Text). Printed t c.args.out.now c.print_line.new.out c.print_line.result)
    (line_is c.number.result c.bytes-bytes.result c.answer-answer.ensures.told c.number.ensures c.bytes-bytes.ensures) c.print_line.ensures
