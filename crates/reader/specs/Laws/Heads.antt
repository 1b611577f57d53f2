-- Laws of the byte that a type begins with. Assumes nothing.
use Rattle.std.specs.Prelude.{◌≡◌, ℕ, ◌+◌, ◌-◌, ◌<◌, ◌≤◌, Bool, true, false, ◌&&◌, leb, ◌⊎◌, [], ◌∷◌, ◌==◌, ◌≢◌, nat_le, nat_lt, refl}
use Rattle.std.proofs.Common.{inl, inr, sym, subst, arith, ne_eqb, leb-true, leb-false, le-leb, le-ltb, lt-ltb}
use Rattle.std.proofs.Math.Option.{none}
use Prim.Native.String.{String}
use Rattle.grammar.specs.Text.{Text, b, holds, starts, digit, digit_value, if◌then◌otherwise◌}
use Rattle.grammar.specs.Tables.{letters, wrappers}
use Rattle.grammar.specs.Reader.{find, word_for}
use Rattle.grammar.specs.Laws.Finds.{all_of}
use Rattle.grammar.specs.Laws.Steps.{no_word, type_heads}
use Rattle.reader.specs.Cycle.{Wraps}

-- ---------------------------------------------------------------- letters and wrappers

pub no_letter : (c : ℕ) (r : Text) → none ≡ word_for letters (c ∷ []) → find letters (c ∷ r) ≡ none
unfolding all_of letters b
no_letter c r e = no_word letters c r tt (sym e)

-- the row of a wrapper's byte
abbrev pub Row_of : ℕ → Type 0
Row_of c = (u : String × String) × (Wraps c u × ((c == 68) ≡ false))

pub either : {A B C : Type 0} → A ⊎ B → (A → C) → (B → C) → C
either (inl x) f g = f x
either (inr y) f g = g y

row_by : {c k : ℕ} → c ≡ k → Row_of k → Row_of c
row_by e h = subst Row_of (sym e) h

abbrev pub Lettered : ℕ → Type 0
Lettered c = (c ≡ 67) ⊎ ((c ≡ 75) ⊎ ((c ≡ 82) ⊎ ((c ≡ 86) ⊎ (c ≡ 114))))

pub lettered_row : (c : ℕ) → Lettered c → Row_of c
unfolding find wrappers starts b if◌then◌otherwise◌
lettered_row c (inl e) = row_by e ((" complex", ""), ((λ t. refl), refl))
lettered_row c (inr (inl e)) = row_by e ((" const", " const"), ((λ t. refl), refl))
lettered_row c (inr (inr (inl e))) = row_by e (("&", "&"), ((λ t. refl), refl))
lettered_row c (inr (inr (inr (inl e)))) = row_by e ((" volatile", " volatile"), ((λ t. refl), refl))
lettered_row c (inr (inr (inr (inr e)))) = row_by e ((" restrict", ""), ((λ t. refl), refl))

-- O and P, which the code finds by their neighbours
pub between_row : (c : ℕ) → (c ≢ 77) → (c ≢ 78) → 77 ≤ c → c < 81 → Row_of c
unfolding find wrappers starts b if◌then◌otherwise◌
between_row c i j l k = first (nat_le c 77) refl
  where
    third : (q : Bool) → nat_le c 79 ≡ q → 79 ≤ c → Row_of c
    third true e a = row_by {c = c} {k = 79} (omega (arith, leb-true c 79 e)) (("&&", "&&"), ((λ t. refl), refl))
    third false e a = row_by {c = c} {k = 80} (omega (arith, leb-false c 79 e)) (("*", "*"), ((λ t. refl), refl))

    second : (q : Bool) → nat_le c 78 ≡ q → 78 ≤ c → Row_of c
    second true e a = absurd (j (omega (arith, leb-true c 78 e)))
    second false e a = third (nat_le c 79) refl (omega (arith, leb-false c 78 e))

    first : (q : Bool) → nat_le c 77 ≡ q → Row_of c
    first true e = absurd (i (omega (arith, leb-true c 77 e)))
    first false e = second (nat_le c 78) refl (omega (arith, leb-false c 77 e))

-- ---------------------------------------------------------------- bytes that begin no type but a class

-- none of the arms of the code
abbrev pub Armless : ℕ → Type 0
Armless c = ((((((((Unit {0} × (Lettered c → ⊥)) × (c ≢ 65)) × (c ≢ 70)) × (c ≢ 77)) × (c ≢ 68)) × (c ≢ 117)) × (c ≢ 78)) × (c ≢ 84)) × (c ≢ 83)

pub no_head : (c : ℕ) → Armless c → (c ≢ 79) → (c ≢ 80) → holds c type_heads ≡ false
unfolding holds b
no_head c h o p =
    let k : Lettered c → ⊥ = h.0.0.0.0.0.0.0.0.1 in
    simp (
      ne_eqb c 68 h.0.0.0.0.1,
      ne_eqb c 80 p,
      ne_eqb c 82 (λ e. k (inr (inr (inl e)))),
      ne_eqb c 79 o,
      ne_eqb c 75 (λ e. k (inr (inl e))),
      ne_eqb c 86 (λ e. k (inr (inr (inr (inl e))))),
      ne_eqb c 67 (λ e. k (inl e)),
      ne_eqb c 114 (λ e. k (inr (inr (inr (inr e))))),
      ne_eqb c 70 h.0.0.0.0.0.0.1,
      ne_eqb c 65 h.0.0.0.0.0.0.0.1,
      ne_eqb c 77 h.0.0.0.0.0.1,
      ne_eqb c 117 h.0.0.0.1,
      ne_eqb c 78 h.0.0.1,
      ne_eqb c 84 h.0.1,
      ne_eqb c 83 h.1,
    )

-- no digit
ten_more : (q r : Bool) (c : ℕ) → 10 ≤ (if q then c - 65 + 10 otherwise if r then c - 97 + 10 otherwise 36)
unfolding if◌then◌otherwise◌
ten_more true r c = omega arith
ten_more false true c = omega arith
ten_more false false c = omega arith

pub digit_not : (c : ℕ) → (48 ≤ c → 58 ≤ c) → digit 10 c ≡ false
unfolding digit digit_value if◌then◌otherwise◌
digit_not c l = go (nat_le 48 c) (nat_le c 57) refl refl
  where
    told : Bool → ℕ
    told q = if q then c - 48 otherwise (if leb 65 c && nat_le c 90 then c - 65 + 10 otherwise if nat_le 97 c && nat_le c 122 then c - 97 + 10 otherwise 36)

    go : (q r : Bool) → nat_le 48 c ≡ q → nat_le c 57 ≡ r → nat_lt (told (nat_le 48 c && nat_le c 57)) 10 ≡ false
    go true true e f = absurd (omega (arith, l (leb-true 48 c e), leb-true c 57 f))
    go true false e f = rw (e, f) (le-ltb _ 10 (ten_more (nat_le 65 c && nat_le c 90) (nat_le 97 c && nat_le c 122) c))
    go false r e f = rw e (le-ltb _ 10 (ten_more (nat_le 65 c && nat_le c 90) (nat_le 97 c && nat_le c 122) c))

pub digit_in : (c : ℕ) → 48 ≤ c → c < 58 → digit 10 c ≡ true
unfolding digit digit_value if◌then◌otherwise◌
digit_in c h l = rw (le-leb c 57 (omega arith), le-leb 48 c (omega arith)) (lt-ltb (c - 48) 10 (omega arith))
