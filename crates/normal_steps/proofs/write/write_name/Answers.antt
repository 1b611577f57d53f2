use Rattle.std.proofs.Common.{◌∙◌, arith, length-append}
use Rattle.catalogue.specs.Spelling.{length_digits}
use Rattle.normal_steps.specs.Laws.Slices.{wrote_paste}
use Rattle.normal_steps.specs.Laws.WrittenAt.{wrote_both}
use Rattle.normal_steps.proofs.write.write_name.Goals as goal

pub returns : goal.returns
returns c =
    let w = c.args.word.now in
    let n = length-append (length_digits w) w in
    let p = wrote_paste c.write_decimal-next.new.out w c.write_decimal-next.result in
    wrote_both (omega arith) c.write_decimal-next.ensures (record { is = c.copy.ensures ∙ p.is; end = omega arith })
