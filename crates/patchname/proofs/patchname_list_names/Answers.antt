use Rattle.std.proofs.Common.{rules}
use Rattle.listing.specs.declared.listing.Kind.TheVariants.{Names}
use Rattle.answer.specs.Laws.Lent.{slices_back}
use Rattle.patchname.specs.Exports.{told_listing, no_numbers}
use Rattle.patchname.proofs.patchname_list_names.Goals as goal

pub returns : goal.returns
returns c =
    let a = c.list_lines-listed in
    told_listing a.result c.tell_listing.ensures (slices_back a.new.work (search rules) (search rules) (search rules))
    (no_numbers Names c.args.input.now c.args.out.now c.args.name.now c.args.text.now c.args.store.now c.args.ends.now a.ensures.left)
