use mathlib.Core.Path.{◌≡◌}
use Prim.Native.Nat.{◌-◌}
use native.Mathlib.Omega.{arith}
use lib.ListN.{length, length-set}
use Rattle.listing.specs.Laws.Printed.{digits_fit, digits, heads}
use Rattle.listing.proofs.listing.write_head.Goals as goal

pub write_decimal-second-requires : goal.write_decimal-second-requires
write_decimal-second-requires c =
    (omega (arith, digits_fit c.args.bytes c.requires), simp length-set (omega arith))

pub overflow_sub-comma : goal.overflow_sub-comma
overflow_sub-comma c =
    omega (arith, c.write_decimal-second.ensures.place, digits_fit c.args.bytes c.requires)

pub bounds-out-comma : goal.bounds-out-comma
bounds-out-comma c =
    omega (arith, c.write_decimal-second.ensures.place, c.write_decimal-second.auto.out, length-set c.args.out.now 11 44)

pub write_decimal-requires : goal.write_decimal-requires
write_decimal-requires c = (
  omega (arith, c.write_decimal-second.ensures.place, digits_fit c.args.bytes c.requires, digits_fit c.from.result (omega (arith, c.from.ensures, c.ranges.number.fits))),
  simp length-set (omega (arith, c.write_decimal-second.ensures.place, c.write_decimal-second.auto.out, length-set c.args.out.now 11 44)),
)

pub returns : goal.returns
returns c =
    let z : length c.write_decimal-second.new.out ≡ 12 = omega (arith, c.write_decimal-second.auto.out, length-set c.args.out.now 11 44, c.told-out) in
    heads c.args.out.now c.write_decimal-second.new.out c.write_decimal.new.out c.told-out z (omega (arith, c.write_decimal.auto.out, length-set c.write_decimal-second.new.out (c.write_decimal-second.result - 1) 44))
    (digits c.requires (simp length-set (omega (arith, c.told-out))) c.write_decimal-second.ensures)
    (digits (omega (arith, c.ranges.number.fits)) (simp length-set (omega (arith, z, c.write_decimal-second.ensures.place))) (rw c.from.ensures at c.write_decimal.ensures))
