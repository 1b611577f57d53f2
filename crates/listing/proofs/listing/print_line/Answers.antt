use native.Mathlib.Omega.{arith}
use Rattle.listing.specs.Laws.Printed.{not_printed, line_length, line_printed}
use Rattle.listing.proofs.listing.print_line.Goals as goal

pub returns-then-out-last : goal.returns-then-out-last
returns-then-out-last c =
    not_printed _ _ (omega (arith, line_length c.args.name.now _ c.write_head-from.ensures))

pub returns : goal.returns
returns c =
    line_printed c.args.name.now _ c.write_head-from.ensures c.args.out.now _ _ c.if-out-last.false c.copy_from_slice.ensures.after c.copy_from_slice-2.ensures.after
