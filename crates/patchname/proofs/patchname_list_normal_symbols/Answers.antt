use Rattle.std.proofs.Common.{rules}
use Rattle.answer.specs.Laws.Lent.{all_slices_back}
use Rattle.patchname.specs.Exports.{told_listing}
use Rattle.patchname.proofs.patchname_list_normal_symbols.Goals as goal

pub returns : goal.returns
returns c =
    let a = c.list_lines-listed in
    told_listing a.result c.tell_listing.ensures
    (all_slices_back a.new.work (search rules) (search rules) (search rules) a.new.numbers (search rules) (search rules) (search rules)) a.ensures.left
