use mathlib.Core.Path.{◌≡◌, sym, ap, ◌∙◌}
use Prim.Native.Nat.{◌+◌, ◌≤◌}
use lib.ListN.{length, length-set}
use Rattle.normal_steps.specs.Laws.SeqIds.{ref_none, ref_some, ref_some_length}
use Rattle.normal_steps.specs.Laws.WrittenAt.{wrote_as, wrote_one, wrote_two, wrote_both, wrote_behind}
use native.Mathlib.Omega.{arith}
use Rattle.normal_steps.proofs.write.write_reference.Goals.{After-write_seq_id-end}
use Rattle.normal_steps.proofs.write.write_reference.Goals as goal

pub bounds-out-at-then-i-eq0 : goal.bounds-out-at-then-i-eq0
bounds-out-at-then-i-eq0 c =
    let e = ref_none c.args.i c.if-i-eq0.true in simp length-set (omega (arith, ap length e))

pub returns-then-i-eq0 : goal.returns-then-i-eq0
returns-then-i-eq0 c =
    let e = ref_none c.args.i c.if-i-eq0.true in
    wrote_as (sym e) (wrote_two c.args.out.now c.args.at 83 95 (omega (arith, ap length e)))

pub write_seq_id-end-requires : goal.write_seq_id-end-requires
write_seq_id-end-requires c =
    let l = ref_some_length c.args.i c.if-i-eq0.false in
    (omega (arith, c.requires.0), simp length-set (omega (arith, l, c.requires.1)))

-- the slice keeps its length
same : (c : After-write_seq_id-end) → length c.write_seq_id-end.new.out ≡ length c.args.out.now
same c = c.write_seq_id-end.auto.out ∙ length-set c.args.out.now c.args.at 83

pub bounds-out-end : goal.bounds-out-end
bounds-out-end c =
    let l = ref_some_length c.args.i c.if-i-eq0.false in
    omega (arith, l, c.write_seq_id-end.ensures.end, same (goal.at.bounds-out-end c).After-write_seq_id-end, c.requires.1)

pub overflow_add-result-2 : goal.overflow_add-result-2
overflow_add-result-2 c =
    omega (arith, bounds-out-end c, same (goal.at.overflow_add-result-2 c).After-write_seq_id-end)

pub returns : goal.returns
returns c =
    let h : c.args.at + 1 ≤ length c.args.out.now = omega (arith, bounds-out-end c, c.write_seq_id-end.ensures.end, same (goal.at.returns c).After-write_seq_id-end) in
    wrote_as (sym (ref_some c.args.i c.if-i-eq0.false))
    (wrote_both h (wrote_one c.args.out.now c.args.at 83 h) (wrote_behind 95 c.write_seq_id-end.auto.out (bounds-out-end c) c.write_seq_id-end.ensures))
