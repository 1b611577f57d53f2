use Rattle.std.proofs.Common.{arith}
use Rattle.store.proofs.table.Table.get.Goals as goal

pub slice_bounds-result-count : goal.slice_bounds-result-count
slice_bounds-result-count c =
    let p = c.place-at.ensures c.requires.0 _ _ _ c.requires.1.0 c.requires.1.1 in omega (arith, p.size)

pub slice_bounds-result-start : goal.slice_bounds-result-start
slice_bounds-result-start c =
    let p = c.place-at.ensures c.requires.0 _ _ _ c.requires.1.0 c.requires.1.1 in omega (arith, p.size)

pub slice_bounds-result-end : goal.slice_bounds-result-end
slice_bounds-result-end c =
    let p = c.place-at.ensures c.requires.0 _ _ _ c.requires.1.0 c.requires.1.1 in omega (arith, p.within, c.args.self.now.bytes_size)

pub returns : goal.returns
returns c l h =
    (c.place-at.ensures l _ _ _ h c.requires.1.1).is
