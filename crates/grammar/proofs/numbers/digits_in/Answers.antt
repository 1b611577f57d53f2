use Rattle.std.proofs.Common.{◌≡◌, ℕ, ◌+◌, ◌*◌, ◌<◌, min, [], length, get_or, drop, refl, sym, ap, ◌∙◌, arith}
use Rattle.grammar.specs.Text.{Text, run, digit, digit_value, number}
use Rattle.grammar.specs.Numbers.{most}
use Rattle.grammar.proofs.Digits.{digits_more, digits_stop, digits_end, cut}
use Rattle.grammar.proofs.numbers.digits_in.Invariants.{Begun}
use Rattle.grammar.proofs.numbers.digits_in.Goals as goal

done : {base : ℕ} {s : Text} {at value next : ℕ} → Begun base s at value next → run (digit base) (drop next s) ≡ []
    → (value ≡ min (number base 0 (run (digit base) (drop at s))) most) × (next ≡ at + length (run (digit base) (drop at s)))
unfolding number
done {base} {s} {at} {value} {next} b e = (omega (arith, b.is ∙ ap (λ (t : Text). min (number base value t) most) e), omega (arith, b.ends ∙ ap (λ (t : Text). next + length t) e))

pub loop-next-init : goal.loop-next-init
loop-next-init c =
    record { fits = omega arith; within = omega arith; is = refl; ends = refl }

pub returns-then-base-d : goal.returns-then-base-d
returns-then-base-d c =
    let (v, n) = done c.loop-next.invariant (digits_stop c.args.base c.args.s.now c.loop-next.next (omega arith) (omega (arith, c.digit_value-d.ensures))) in
    record { is = v; behind = n; inside = omega arith }

pub loop-next-preserved : goal.loop-next-preserved
unfolding number
loop-next-preserved c =
    let byte = get_or c.args.s.now c.loop-next.next 0 in
    let d : digit_value byte < c.args.base = omega (arith, c.digit_value-d.ensures) in
    let e = digits_more c.args.base c.args.s.now c.loop-next.next (omega arith) d in
    let t = run (digit c.args.base) (drop (c.loop-next.next + 1) c.args.s.now) in
    let v : c.saturating_add-value.result ≡ min (c.loop-next.value * c.args.base + digit_value byte) most = omega (arith, c.saturating_add-value.ensures, c.saturating_mul.ensures, c.digit_value-d.ensures) in
    record {
      fits = omega (arith, v);
      within = omega arith;
      is = c.loop-next.invariant.is
          ∙ ap (λ (u : Text). min (number c.args.base c.loop-next.value u) most) e
          ∙ cut c.args.base c.requires t (c.loop-next.value * c.args.base + digit_value byte)
          ∙ ap (λ (n : ℕ). min (number c.args.base n t) most) (sym v);
      ends = omega (arith, c.loop-next.invariant.ends, ap length e);
    }

pub returns : goal.returns
returns c =
    let (v, n) = done c.loop-next.invariant (digits_end _ _ _ c.loop-next-test.false) in
    record { is = v; behind = omega (arith, n, c.max.ensures, c.loop-next.invariant.within); inside = omega (arith, c.max.ensures) }
