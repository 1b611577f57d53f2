use Rattle.std.proofs.Common.{refl, arith}
use Rattle.normal_steps.specs.Laws.Slices.{out_size}
use Rattle.normal_steps.specs.Laws.Memory.{settle_not, index_most, reference_room, settle_here}
use Rattle.normal_steps.proofs.state.Writer.settle.Goals as goal

pub write_reference-self-requires : goal.write_reference-self-requires
write_reference-self-requires c =
    let h = c.requires.1.1.1 in
    let k = rw c.from-kept.ensures at c.in-Some.ensures in
    let r = reference_room h c.args.d c.args.from c.requires.0 c.requires.1.0 k in
    (index_most h c.args.d c.args.from c.requires.0 c.requires.1.0 k, omega (arith, out_size h, r))

pub returns-in-Some : goal.returns-in-Some
returns-in-Some c =
    record {
      symbol = refl;
      same = rw c.write_reference-self.auto.out refl;
      stays = refl;
      is = λ σ h. settle_here h c.args.d c.args.from c.requires.0 c.requires.1.0 (rw c.from-kept.ensures at c.in-Some.ensures) c.write_reference-self.ensures;
    }

pub returns-in_default : goal.returns-in_default
returns-in_default c =
    record {
      symbol = refl;
      same = refl;
      stays = refl;
      is = λ σ h. settle_not h c.args.d c.args.from c.requires.0 c.requires.1.0 (omega (arith, c.from-kept.ensures, c.in_default.ensures));
    }
