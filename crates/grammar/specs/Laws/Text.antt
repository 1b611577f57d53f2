-- Laws of texts: what it means that a test of them holds, and numbers in decimal.
use Rattle.std.specs.Prelude.{◌≡◌, ℕ, zero, suc, ◌+◌, ◌-◌, ◌/◌, ◌%◌, ◌<◌, ◌≤◌, Bool, true, false, ◌&&◌, ◌||◌, T, [], ◌∷◌, ◌++◌, length, drop, ◌==◌, ◌≢◌, refl}
use Rattle.std.proofs.Common.{true≢false, sym, ap, ap₂, ◌∙◌, subst, arith, lt-ltb, le-ltb, eqb→eq}
use Rattle.std.proofs.Math.Bool.{and-false}
use Rattle.grammar.specs.Text.{Text, if◌then◌otherwise◌, same, starts, decimal}

pub both : (p q : Bool) → T (p && q) → T p × T q
both true q h = (tt, h)
both false q h = absurd h

-- neither of two tests holds
pub neither : (p q : Bool) → p || q ≡ false → (p ≡ false) × (q ≡ false)
neither true q h = absurd (true≢false h)
neither false q h = (refl, h)

pub same→eq : (s t : Text) → T (same s t) → s ≡ t
unfolding same
same→eq [] [] h = refl
same→eq [] (y ∷ t) h = absurd h
same→eq (x ∷ s) [] h = absurd h
same→eq (x ∷ s) (y ∷ t) h =
    let (p, q) = both (x == y) (same s t) h in
    ap₂ (λ (a : ℕ) (l : Text). a ∷ l) (eqb→eq x y p) (same→eq s t q)

-- texts of other lengths are not the same
pub same_not : (s t : Text) → (length s ≢ length t) → same s t ≡ false
unfolding same
same_not [] [] n = absurd (n refl)
same_not [] (y ∷ t) n = refl
same_not (x ∷ s) [] n = refl
same_not (x ∷ s) (y ∷ t) n = ap (λ (q : Bool). (x == y) && q) (same_not s t (λ e. n (ap suc e))) ∙ and-false (x == y)

-- any text begins with nothing
pub starts_nothing : (t : Text) → starts t [] ≡ true
unfolding starts
starts_nothing [] = refl
starts_nothing (x ∷ t) = refl

-- what a text begins with stands first in it
starts_there : (t w : Text) → T (starts t w) → t ≡ w ++ drop (length w) t
unfolding starts
starts_there t [] h = refl
starts_there [] (y ∷ w) h = absurd h
starts_there (x ∷ t) (y ∷ w) h =
    let (p, q) = both (x == y) (starts t w) h in
    ap₂ (λ (z : ℕ) (u : Text). z ∷ u) (eqb→eq x y p) (starts_there t w q)

pub starts_is : (t w : Text) → starts t w ≡ true → t ≡ w ++ drop (length w) t
starts_is t w e = starts_there t w (subst T (sym e) tt)

-- one digit, and the last digit apart
pub decimal_last : (k n : ℕ) → n < 10 → 1 ≤ k → decimal k n ≡ (48 + n) ∷ []
unfolding decimal if◌then◌otherwise◌
decimal_last zero n h l = absurd (omega arith)
decimal_last (suc k) n h l = rw (lt-ltb n 10 h)

pub decimal_more : (k n : ℕ) → 10 ≤ n → 1 ≤ k → decimal k n ≡ decimal (k - 1) (n / 10) ++ ((48 + n % 10) ∷ [])
unfolding decimal if◌then◌otherwise◌
decimal_more zero n h l = absurd (omega arith)
decimal_more (suc k) n h l = rw (le-ltb n 10 h) (ap (λ (j : ℕ). decimal j (n / 10) ++ ((48 + n % 10) ∷ [])) {x = k} {y = suc k - 1} (omega arith))
