-- Laws of what is told of a symbol before it is read. Assumes nothing.
use Rattle.std.specs.Prelude.{Bool, not, ◌||◌, [], ◌∷◌, ◌≡◌, ℕ, zero, suc, ◌≤◌, ◌<◌, eqb, nat_le, length, get_or, Ok, Err, IsAscii, MatchBool}
use Rattle.std.specs.Str.{IsNotAscii}
use Rattle.std.proofs.Math.Bool.{true, false}
use Rattle.std.proofs.Common.{true≢false, sym, arith}
use Rattle.std.proofs.Math.Path.{refl}
use borrow.Author.Tests.{le-leb, lt-leb, lt-ltb, le-ltb}
use Rattle.grammar.specs.Text.{Text, b, if◌then◌otherwise◌, choose, starts}
use Rattle.grammar.specs.Limits.{most_symbol_bytes}
use Rattle.grammar.specs.Reader.{find}
use Rattle.grammar.specs.Names.{front, high}
use Rattle.answer.specs.Laws.Told.{both_true}
use Rattle.grammar.specs.declared.refusal.Refusal.TheVariants.{LongSymbol, HighByte, NoFront}
use Rattle.demangle.specs.Symbols.{Fronts}

-- ---- bytes of 128 or more

or_true : (q : Bool) → q || true ≡ true
or_true true = refl
or_true false = refl

high_none : (s : Text) → IsAscii s → high s ≡ false
unfolding high
high_none [] h = refl
high_none (x ∷ s) h = rw (lt-leb 128 x (h 0)) (high_none s (λ i. h (suc i)))

high_some : (s : Text) (i : ℕ) → 128 ≤ get_or s i 0 → high s ≡ true
unfolding high
high_some [] i h = absurd (omega (arith, h))
high_some (x ∷ s) zero h = rw (le-leb 128 x h) refl
high_some (x ∷ s) (suc i) h = rw (high_some s i h) (or_true (nat_le 128 x))

-- std's test of the same
pub ascii_high : (s : Text) (r : Bool) → MatchBool r (IsAscii s) (IsNotAscii s) → high s ≡ not r
ascii_high s true h = high_none s h
ascii_high s false h = high_some s h.0 h.1

-- ---- a text that begins with a word is as long

starts_long : (s w : Text) → starts s w ≡ true → length w ≤ length s
unfolding starts
starts_long s [] e = omega arith
starts_long [] (y ∷ w) e = absurd (true≢false (sym e))
starts_long (x ∷ s) (y ∷ w) e = omega (arith, starts_long s w (both_true (eqb x y) (starts s w) e).1)

-- ---- the front

module _ (s : Text) where
  pub front_1 : most_symbol_bytes < length s → Fronts s (Err LongSymbol)
  unfolding front if◌then◌otherwise◌
  front_1 h = record { is = λ f. rw (lt-ltb most_symbol_bytes (length s) h); inside = tt }

  module _ (h : length s ≤ most_symbol_bytes) where
    pub front_2 : high s ≡ true → Fronts s (Err HighByte)
    unfolding front if◌then◌otherwise◌
    front_2 g = record { is = λ f. rw (le-ltb most_symbol_bytes (length s) h, g); inside = tt }

    module _ (g : high s ≡ false) where
      pub front_z : starts s (b "_Z") ≡ true → Fronts s (Ok 2)
      unfolding front find b choose if◌then◌otherwise◌
      front_z e = record { is = λ f. rw (le-ltb most_symbol_bytes (length s) h, g, e); inside = (starts_long s (b "_Z") e, h) }

      module _ (e : starts s (b "_Z") ≡ false) where
        pub front_zz : starts s (b "__Z") ≡ true → Fronts s (Ok 3)
        unfolding front find b choose if◌then◌otherwise◌
        front_zz k = record { is = λ f. rw (le-ltb most_symbol_bytes (length s) h, g, e, k); inside = (starts_long s (b "__Z") k, h) }

        pub front_3 : starts s (b "__Z") ≡ false → Fronts s (Err NoFront)
        unfolding front find b choose if◌then◌otherwise◌
        front_3 k = record { is = λ f. rw (le-ltb most_symbol_bytes (length s) h, g, e, k); inside = tt }
