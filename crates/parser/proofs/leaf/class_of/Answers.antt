use Rattle.std.proofs.Common.{rules, arith}
use Rattle.parser.specs.Laws.Leaves.{classed_whole, classed_behind}
use Rattle.parser.proofs.leaf.class_of.Goals as goal

-- u is the run of the windows that the search took, from the end
pub returns-in-Some : goal.returns-in-Some
returns-in-Some c =
    let (u, e, r) = c.rposition.ensures.runs in
    let (m, n) = rw c.in-Some.is at r in
    let w = rw (e, c.windows.ensures.size, c.windows.ensures.rest) at (c.windows.ensures.runs_back u u.seen) (omega arith) in
    classed_behind _ c.before-to.ensures.0 c.before-to.ensures.1 c.in-Some.i (search rules) (search rules) (λ k l. search (rules, w.2 k, (n (search rules)).1 k (search rules)))

pub returns-in-None : goal.returns-in-None
returns-in-None c =
    let (u, e, r) = c.rposition.ensures.runs in
    let (m, n) = rw c.in-None.is at r in
    let w = rw (e, c.windows.ensures.size, c.windows.ensures.rest) at (c.windows.ensures.runs_back u u.seen) (omega arith) in
    classed_whole _ c.before-to.ensures.0 c.before-to.ensures.1 (λ k l. search (rules, w.2 k, w.1 m, n (search rules) k, u.reads k c.args.text))
