use mathlib.Core.List.{[], ◌∷◌, ◌++◌}
use mathlib.Core.Path.{sym, ap, ◌∙◌}
use Prim.Native.Nat.{ℕ}
use native.Mathlib.Omega.{arith}
use lib.ListN.{length}
use Rattle.catalogue.specs.Spelling.{base36}
use Rattle.normal_steps.specs.Laws.SeqIds.{one_digit, more_digits, more_digits_length}
use Rattle.normal_steps.specs.Laws.WrittenAt.{wrote_as, wrote_one, wrote_behind}
use Rattle.normal_steps.proofs.write.+write_seq_id.Goals as goal

pub bounds-out-at : goal.bounds-out-at
bounds-out-at t c = omega (arith, c.requires.1, ap length (one_digit c.args.n c.by_36-split.ensures c.if-split-eq0.true))

pub returns-then-split-eq0 : goal.returns-then-split-eq0
returns-then-split-eq0 t c =
    wrote_as (ap (λ (d : ℕ). d ∷ []) c.digit_of.ensures ∙ sym (one_digit c.args.n c.by_36-split.ensures c.if-split-eq0.true))
    (wrote_one c.args.out.now c.args.at c.digit_of.result (omega (arith, bounds-out-at t c)))

pub write_seq_id-last-requires : goal.write_seq_id-last-requires
write_seq_id-last-requires t c =
    let f = c.by_36-split.ensures in
    let l = more_digits_length c.args.n f c.if-split-eq0.false in
    (omega (arith, l, c.decreases), (omega (arith, f, c.requires.0), omega (arith, l, c.requires.1)))

pub bounds-out-last : goal.bounds-out-last
bounds-out-last t c =
    let w = c.write_seq_id-last in
    let l = more_digits_length c.args.n c.by_36-split.ensures c.if-split-eq0.false in
    omega (arith, l, w.ensures.end, w.auto.out, c.requires.1)

pub returns : goal.returns
returns t c =
    let w = c.write_seq_id-last in
    let f = c.by_36-split in
    wrote_as (ap (λ (d : ℕ). base36 f.result.high f.result.high ++ (d ∷ [])) c.digit_of-2.ensures
    ∙ sym (more_digits c.args.n f.ensures c.if-split-eq0.false))
    (wrote_behind c.digit_of-2.result w.auto.out (bounds-out-last t c) w.ensures)
