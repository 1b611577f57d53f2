use Rattle.normal_steps.specs.Laws.WrittenAt.{decimal_length}
use Rattle.normal_steps.proofs.write.decimal_length.Goals as goal

pub returns : goal.returns
returns c =
    let e = c.checked_ilog10.ensures in
    let u = c.unwrap_or.ensures in
    rw u (decimal_length c.args.n c.checked_ilog10.result e.none e.power_le e.next_power_gt)
