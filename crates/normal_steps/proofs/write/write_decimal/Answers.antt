use mathlib.Core.Path.{ap}
use Prim.Native.Nat.{ℕ, ◌+◌}
use native.Mathlib.Omega.{arith}
use lib.ListN.{length}
use Rattle.normal_steps.specs.Laws.WrittenAt.{decimal_as, wrote_decimal}
use Rattle.normal_steps.proofs.write.write_decimal.Goals as goal

pub write_decimal-requires : goal.write_decimal-requires
write_decimal-requires c =
    let e = ap length (decimal_as c.args.n (omega arith)) in
    (omega (arith, e, c.decimal_length.ensures), omega (arith, c.decimal_length.ensures))

pub returns : goal.returns
returns c =
    wrote_decimal (omega arith) (ap (λ (k : ℕ). c.args.at + k) c.decimal_length.ensures) c.write_decimal.ensures
