-- What the library's methods tell of texts. Assumes nothing.
use Rattle.std.proofs.Common.{◌≡◌, ℕ, ◌+◌, ◌-◌, ◌<◌, ◌≤◌, Bool, true, false, eqb, ◌&&◌, [], ◌∷◌, length, take, drop, refl, sym, ap, ap₂, ◌∙◌, arith, tests, drop_of_length-le}
use denote.Ref.{Bor}
use mathlib.Core.Logic.{◌⊎◌, ⊎_elim}
use Rattle.std.specs.Prelude.{Option, Some, None, unwrap_or, nat_eq, slice_range, MatchOption}
use Rattle.std.specs.Option.{option_eq}
use Rattle.std.specs.List.{AllWithin, HoldsAt, starts_with}
use Rattle.std.proofs.lemmas.Iterator.{index_from_first}
use Rattle.std.proofs.lemmas.List.{take_rest}
use Rattle.grammar.specs.Text.{Text, if◌then◌otherwise◌, starts, run}
use Rattle.grammar.specs.Laws.Runs.{run_within, starts_one, starts_none}

-- a run ends at the first byte that fails its test
module _ (p : ℕ → Bool) where
  fails : (x : ℕ) (t : Text) → p x ≡ false → length (run p (x ∷ t)) ≡ 0
  unfolding run if◌then◌otherwise◌
  fails x t e = rw e refl

  passes : (x : ℕ) (t : Text) → p x ≡ true → length (run p (x ∷ t)) ≡ length (run p t) + 1
  unfolding run if◌then◌otherwise◌
  passes x t e = rw e (omega arith)

  nothing : length (run p []) ≡ 0
  unfolding run
  nothing = refl

  -- the place where a search from `at` on ends
  module _ (s : Text) (at r : ℕ) (o : Option ℕ) (rest : Text) where
    pub next_place : at ≤ length s → rest ≡ take (length s - at) (drop at s)
        → MatchOption o (AllWithin (λ x. p x ≡ true) rest 0 (length rest)) (λ i. (i < length rest) × HoldsAt (λ x. p x ≡ false) rest i × AllWithin (λ x. p x ≡ true) rest 0 i)
        → r ≡ unwrap_or o (length rest) → (at + r ≡ at + length (run p (drop at s))) × (at + r ≤ length s)
    next_place l e m h =
        let k : length (run p rest) ≡ r = index_from_first (λ t. length (run p t)) (λ x. p x ≡ false) (λ x. p x ≡ true) nothing fails passes rest o m ∙ sym h in
        let j : r ≡ length (run p (drop at s)) = sym k ∙ ap (λ (t : Text). length (run p t)) (e ∙ take_rest s at) in
        (omega (arith, j), omega (arith, j, run_within p s at l))

-- what `get` gives from a place on, or nothing past the end
pub rest_or_none : (s : Text) (at : ℕ) (o : Option (Bor Text)) (d : Bor Text)
    → MatchOption o ((length s < at) ⊎ (length s < length s)) (λ x. (at ≤ length s) × (length s ≤ length s) × (x.now ≡ slice_range s at (length s)) × (length x.now + at ≡ length s))
    → d.now ≡ [] → (unwrap_or o d).now ≡ drop at s
rest_or_none s at None d h e = e ∙ sym (drop_of_length-le s (⊎_elim (λ l. omega arith) (λ l. omega arith) h))
rest_or_none s at (Some x) d h e = h.2 ∙ take_rest s at

-- what `==` tells of a byte that `get` gives
pub byte_or_none : (s : Text) (at c : ℕ) (o : Option (Bor ℕ)) (d : Bor ℕ) → MatchOption o (length s ≤ at) (λ x. (at < length s) × HoldsAt (λ y. x.now ≡ y) s at)
    → d.now ≡ c → option_eq (λ x y. nat_eq x.now y.now) o (Some d) ≡ starts (drop at s) (c ∷ [])
byte_or_none s at c None d h e = sym (starts_none s at c h)
byte_or_none s at c (Some x) d h e = ap₂ (λ (y z : ℕ). eqb y z) (h.1 0) e ∙ sym (starts_one s at c h.0)

-- what `starts_with` tells of a slice
turned : (x y : ℕ) → eqb x y ≡ eqb y x
turned x y = grind (arith, tests)

pub starts_first : (t w : Text) → starts t w ≡ starts_with nat_eq t w
unfolding starts
starts_first t [] = refl
starts_first [] (y ∷ w) = refl
starts_first (x ∷ t) (y ∷ w) = ap₂ (λ (p q : Bool). p && q) (turned x y) (starts_first t w)
