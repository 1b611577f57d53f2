-- Laws of Bytes.antt. Assumes nothing.
use Rattle.std.specs.Prelude.{Bool, true, false, not, ◌||◌, ◌⊎◌, [], ◌∷◌, ◌++◌, ◌≡◌, refl, ℕ}
use Rattle.std.proofs.Common.{inl, inr, sym, ap}
use Rattle.grammar.specs.Text.{Text, if◌then◌otherwise◌, run, past}
use Rattle.catalogue.specs.Bytes.{all, first, and_left, and_right}

pub or_left : (p q : Bool) → p || q ≡ false → p ≡ false
or_left true q h = h
or_left false q h = refl

pub or_right : (p q : Bool) → p || q ≡ false → q ≡ false
or_right true q h = cc
or_right false q h = h

pub or_no : (p q : Bool) → p ≡ false → q ≡ false → p || q ≡ false
or_no true q h k = h
or_no false q h k = k

pub or-false : (p : Bool) → p || false ≡ p
or-false true = refl
or-false false = refl

pub or_true : (p : Bool) → p || true ≡ true
or_true true = refl
or_true false = refl

pub or_cases : (p q : Bool) → p || q ≡ true → (p ≡ true) ⊎ (q ≡ true)
or_cases true q h = inl refl
or_cases false q h = inr h

pub not-true : (p : Bool) → not p ≡ true → p ≡ false
not-true true h = sym h
not-true false h = refl

-- ---------------------------------------------------------------- the longest run that passes a test

pub run_of : (p : ℕ → Bool) (v m : Text) → all p v ≡ true → first p m ≡ false → run p (v ++ m) ≡ v
unfolding run if◌then◌otherwise◌
run_of p [] [] h e = refl
run_of p [] (x ∷ m) h e = rw e refl
run_of p (x ∷ v) m h e = rw (and_left (p x) (all p v) h) (ap (◌∷◌ x) (run_of p v m (and_right (p x) (all p v) h) e))

pub past_of : (p : ℕ → Bool) (v m : Text) → all p v ≡ true → first p m ≡ false → past p (v ++ m) ≡ m
unfolding past if◌then◌otherwise◌
past_of p [] [] h e = refl
past_of p [] (x ∷ m) h e = rw e refl
past_of p (x ∷ v) m h e = rw (and_left (p x) (all p v) h) (past_of p v m (and_right (p x) (all p v) h) e)

pub all_append : (p : ℕ → Bool) (x y : Text) → all p x ≡ true → all p y ≡ true → all p (x ++ y) ≡ true
all_append p [] y h e = e
all_append p (c ∷ x) y h e = rw (and_left (p c) (all p x) h) (all_append p x y (and_right (p c) (all p x) h) e)
