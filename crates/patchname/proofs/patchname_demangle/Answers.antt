use Rattle.std.proofs.Common.{rules}
use Rattle.answer.specs.Laws.Lent.{slices_back}
use Rattle.patchname.specs.Exports.{told}
use Rattle.patchname.proofs.patchname_demangle.Goals as goal

pub returns : goal.returns
returns c =
    let a = c.demangle-answer in
    told a.result c.tell.ensures (slices_back a.new.work (search rules) (search rules) (search rules)) a.ensures.left
