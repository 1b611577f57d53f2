-- Laws of digits: their values, the run of them that stands at a place, and the number that they write, up to 2^64 - 1. Assumes nothing.
use Rattle.std.proofs.Common.{◌≡◌, ℕ, ◌+◌, ◌*◌, ◌<◌, ◌≤◌, min, true, false, [], ◌∷◌, length, get_or, drop, sym, ap, ◌∙◌, ⊎_elim, eq-or-lt_of_le, mul-le-mul_left, arith, le-ltb, lt-ltb, le-leb}
use native.Mathlib.Nat.{min-le_left}
use borrow.Author.Tests.{lt-leb}
use Rattle.grammar.specs.Text.{Text, if◌then◌otherwise◌, between, run, digit, digit_value, number}
use Rattle.grammar.specs.Numbers.{most}
use Rattle.grammar.specs.Laws.Places.{rest_some, rest_none}

-- a byte within a range, under it and over it
module _ (lo hi c : ℕ) where
  pub in_range : lo ≤ c → c ≤ hi → between lo hi c ≡ true
  in_range l h = rw (le-leb lo c l, le-leb c hi h)

  pub under : c < lo → between lo hi c ≡ false
  under h = rw (lt-leb lo c h)

  pub over : lo ≤ c → hi < c → between lo hi c ≡ false
  over l h = rw (le-leb lo c l, lt-leb c hi h)

-- the run of digits at a place
module _ (base : ℕ) (s : Text) (i : ℕ) where
  pub digits_more : i < length s → digit_value (get_or s i 0) < base
      → run (digit base) (drop i s) ≡ get_or s i 0 ∷ run (digit base) (drop (i + 1) s)
  unfolding if◌then◌otherwise◌ run digit
  digits_more h d = rw (rest_some s i h, lt-ltb _ _ d)

  pub digits_stop : i < length s → base ≤ digit_value (get_or s i 0) → run (digit base) (drop i s) ≡ []
  unfolding if◌then◌otherwise◌ run digit
  digits_stop h d = rw (rest_some s i h, le-ltb _ _ d)

  pub digits_end : length s ≤ i → run (digit base) (drop i s) ≡ []
  unfolding run
  digits_end h = rw (rest_none s i h)

-- a number that is cut off at 2^64 - 1 before the next digits are read is the same, cut off behind them
module _ (base : ℕ) (some : 1 ≤ base) where
  cut_one : (n d : ℕ) → min (n * base + d) most ≡ min (min n most * base + d) most
  cut_one n d = ⊎_elim
      (λ (e : min n most ≡ n). rw e)
      (λ (h : min n most < n).
      let k : most ≤ n * base = omega (arith, mul-le-mul_left n some) in
      let e : min n most ≡ most = omega arith in
      rw e (omega arith))
      (eq-or-lt_of_le (min-le_left n most))

  pub cut : (t : Text) (n : ℕ) → min (number base n t) most ≡ min (number base (min n most) t) most
  unfolding number
  cut [] n = omega arith
  cut (x ∷ t) n =
      cut t (n * base + digit_value x)
      ∙ ap (λ (m : ℕ). min (number base m t) most) (cut_one n (digit_value x))
      ∙ sym (cut t (min n most * base + digit_value x))
