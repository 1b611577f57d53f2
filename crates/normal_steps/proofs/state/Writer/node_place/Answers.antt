use Rattle.std.proofs.Common.{ℕ, sym, subst, ◌∙◌, get_or, arith}
use Rattle.normal_steps.specs.Rows.{node_at, node_of}
use Rattle.normal_steps.specs.Laws.Chains.{bucket_below, Left, left_first, left_next}
use Rattle.normal_steps.specs.Laws.Found.{found_at, found_none}
use Rattle.normal_steps.proofs.state.Writer.node_place.Goals as goal

pub offset_bounds-self-head : goal.offset_bounds-self-head
offset_bounds-self-head c = omega (arith, c.requires.1.1, bucket_below (node_of c.args.self.now.s.now c.args.x))

pub bounds-self-head : goal.bounds-self-head
bounds-self-head c = omega (arith, c.requires.0.linked.size, c.requires.1.1, bucket_below (node_of c.args.self.now.s.now c.args.x))

pub loop-i-init : goal.loop-i-init
loop-i-init c =
    let w = c.args.self.now in
    let x = node_of w.s.now c.args.x in
    let n = w.state.nodes in
    let P : ℕ → Type 0 = λ k. Left (node_at w.s.now w.ends.now w.words.now) n x n (get_or w.chains.now k 0) in
    rw c.from-i.ensures (omega arith, subst P (sym c.requires.1.1) (left_first c.requires.0.linked x))

pub returns-then-same_row : goal.returns-then-same_row
returns-then-same_row c =
    found_at c.requires.0 (node_of c.args.self.now.s.now c.args.x) c.loop-i.i (omega (arith, c.loop-i.invariant.0)) (sym c.same_row.ensures ∙ c.if-same_row.true)

pub loop-i-preserved : goal.loop-i-preserved
loop-i-preserved c =
    let v = c.loop-i.invariant in
    rw c.from-i-in-loop-i.ensures
    (omega (arith, v.0), left_next c.requires.0.linked (node_of c.args.self.now.s.now c.args.x) v.0 v.1 (omega arith) (sym c.same_row.ensures ∙ c.if-same_row.false))

pub returns : goal.returns
returns c = found_none c.requires.0 (node_of c.args.self.now.s.now c.args.x) c.loop-i.invariant.1 (omega arith)
