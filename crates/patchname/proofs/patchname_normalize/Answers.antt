use Rattle.std.proofs.Common.{rules}
use Rattle.answer.specs.Laws.Lent.{all_slices_back}
use Rattle.patchname.specs.Exports.{told}
use Rattle.patchname.proofs.patchname_normalize.Goals as goal

pub returns : goal.returns
returns c =
    let a = c.normalize-answer in
    told a.result c.tell.ensures (all_slices_back a.new.work (search rules) (search rules) (search rules) a.new.numbers (search rules) (search rules) (search rules)) a.ensures.left
