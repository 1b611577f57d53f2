-- Tests of bytes at a place, and of parts. Assumes nothing.
use Rattle.std.specs.Prelude.{Bool, true, false, not, ◌&&◌, ◌||◌, ◌⊎◌, ◌≡◌, ℕ, ◌+◌, ◌≤◌, ◌<◌, eqb, ltb, leb, length, map, drop, get_or}
use mathlib.Core.List.{List, [], ◌∷◌}
use Rattle.std.specs.Cmp.Lexicographic.{pointwise}
use Rattle.std.specs.List.{list_any, list_all}
use denote.Ref.{Bor}
use Rattle.std.proofs.Common.{ne_eqb, inl, inr, ap, ◌∙◌, arith, ltb-true, ltb-false, leb-true, drop-drop}
use Rattle.std.proofs.Math.Path.{refl, sym}
use Prim.Native.String.{String}
use Rattle.std.proofs.lemmas.Bool.Decides.{nat_tests}
use Rattle.grammar.specs.Text.{Text, if◌then◌otherwise◌, b, same, starts, between, digit, digit_value}
use Rattle.grammar.specs.Laws.Text.{same_not}
use Rattle.grammar.specs.Laws.Places.{starts_byte}
use Rattle.grammar.specs.Laws.NameSteps.{starts_one}
use Rattle.catalogue.specs.Bytes.{all, first, and_left, and_right, eqb_yes}
use Rattle.catalogue.specs.Class.{word_byte, listed, leading_zero, numeral, reserved}
use Rattle.catalogue.specs.Recogniser.{if_next}
use Rattle.catalogue.proofs.Laws.ReadsBack.{next_no}

-- ---------------------------------------------------------------- a byte at a place

pub byte_next : {A : Type 0} {c : ℕ} {t r : Text} (f : Text → A) (x : A) → t ≡ c ∷ r → if_next c t f x ≡ f r
unfolding if◌then◌otherwise◌
byte_next {A} {c} {t} {r} f x e = rw (e, eqb_yes c) refl

module _ (c : ℕ) where
  pub first_zero : (t : Text) → first (λ d. eqb d c) t ≡ starts t (c ∷ [])
  unfolding starts
  first_zero [] = refl
  first_zero (d ∷ t) = sym (starts_byte d c t)

  module _ {A : Type 0} (f : Text → A) (x : A) where
    pub next_not : (t : Text) → starts t (c ∷ []) ≡ false → if_next c t f x ≡ x
    next_not t h = next_no c t f x (first_zero t ∙ h)

    pub next_here : (s : Text) (at : ℕ) → starts (drop at s) (c ∷ []) ≡ true → if_next c (drop at s) f x ≡ f (drop (at + 1) s)
    next_here s at h = byte_next f x (starts_one (drop at s) c h) ∙ ap f (drop-drop 1 at s)

-- ---------------------------------------------------------------- numbers

pub lt_or_le : (m n : ℕ) → (m < n) ⊎ (n ≤ m)
lt_or_le m n = go (ltb m n) refl
  where
    go : (q : Bool) → ltb m n ≡ q → (m < n) ⊎ (n ≤ m)
    go true e = inl (ltb-true m n e)
    go false e = inr (ltb-false m n e)

-- ---------------------------------------------------------------- bytes by their ranges

pub digit_is : (c : ℕ) → digit 10 c ≡ between 48 57 c
unfolding if◌then◌otherwise◌ digit digit_value
digit_is c = grind (arith, nat_tests)

pub word_byte_is : (c : ℕ) → word_byte c ≡ (between 97 122 c || (between 65 90 c || (between 48 57 c || eqb c 95)))
unfolding if◌then◌otherwise◌ digit digit_value word_byte
word_byte_is c = grind (arith, nat_tests)

-- for a test of a byte
pub ruleset ranges = (word_byte_is, nat_tests)

-- ---------------------------------------------------------------- digits

pub numeral_none : (v : Text) → length v ≡ 0 → numeral v ≡ false
unfolding numeral
numeral_none [] l = refl
numeral_none (x ∷ v) l = absurd (omega arith)

pub numeral_is : (v : Text) → 0 < length v → all (digit 10) v ≡ true → numeral v ≡ not (leading_zero v)
unfolding numeral
numeral_is [] l h = absurd (omega arith)
numeral_is (x ∷ v) l h = rw (and_left (digit 10 x) (all (digit 10) v) h, and_right (digit 10 x) (all (digit 10) v) h) refl

-- ---------------------------------------------------------------- what the library's tests answer

-- `all`
pub all_is : (p : ℕ → Bool) (t : Text) → list_all p t ≡ all p t
all_is p [] = refl
all_is p (x ∷ t) = ap (λ (q : Bool). p x && q) (all_is p t)

-- `==` of two texts
pub same_is : (s t : Text) → pointwise eqb s t ≡ same s t
unfolding same
same_is [] [] = refl
same_is [] (y ∷ t) = refl
same_is (x ∷ s) [] = refl
same_is (x ∷ s) (y ∷ t) = ap (λ (q : Bool). eqb x y && q) (same_is s t)

pub same_byte : (t : Text) (x : ℕ) → same t (x ∷ []) ≡ (eqb (length t) 1 && eqb (get_or t 0 0) x)
unfolding same
same_byte [] x = refl
same_byte (y ∷ []) x = and_true (eqb y x)
  where
    and_true : (q : Bool) → q && true ≡ q
    and_true true = refl
    and_true false = refl
same_byte (y ∷ z ∷ t) x = rw (ne_eqb (length (y ∷ z ∷ t)) 1 (λ e. omega arith)) (and_false (eqb y x))
  where
    and_false : (q : Bool) → q && false ≡ false
    and_false true = refl
    and_false false = refl

-- `any` over some words
pub listed_any : (n : Text) (xs : List (Bor Text)) (ws : List String) → map (λ x. x.now) xs ≡ map b ws → list_any (λ x. pointwise eqb n x.now) xs ≡ listed n ws
unfolding listed
listed_any n [] [] e = refl
listed_any n [] (w ∷ ws) e = cc
listed_any n (x ∷ xs) [] e = cc
listed_any n (x ∷ xs) (w ∷ ws) e =
    let f : x.now ≡ b w = cc in
    let g : map (λ (y : Bor Text). y.now) xs ≡ map b ws = cc in
    rw (same_is n x.now, f, listed_any n xs ws g) refl

-- ---------------------------------------------------------------- listed words

-- no word of the list has more than k bytes
no_longer : ℕ → List String → Bool
no_longer k [] = true
no_longer k (w ∷ ws) = leb (length (b w)) k && no_longer k ws

unlisted : (k : ℕ) (n : Text) (ws : List String) → no_longer k ws ≡ true → k < length n → listed n ws ≡ false
unfolding listed no_longer b
unlisted k n [] h l = refl
unlisted k n (w ∷ ws) h l =
    let i = leb-true (length (b w)) k (and_left (leb (length (b w)) k) (no_longer k ws) h) in
    rw (same_not n (b w) (λ e. omega (arith, i, e)), unlisted k n ws (and_right (leb (length (b w)) k) (no_longer k ws) h) l) refl

pub long_free : (n : Text) → 10 < length n → listed n reserved ≡ false
unfolding reserved no_longer b
long_free n l = unlisted 10 n reserved refl l
