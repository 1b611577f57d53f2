-- Laws of tests on bytes and texts.
use Rattle.std.specs.Prelude.{Bool, true, false, ◌&&◌, [], ◌∷◌, ◌≡◌, refl, ℕ, T, eqb}
use Rattle.std.proofs.lemmas.Bool.{false≢true}
use Rattle.std.proofs.Common.{sym, ◌∙◌, ap₂, eqb→eq}
use Rattle.std.proofs.Math.Dec.{eqb_refl}
use Rattle.grammar.specs.Text.{Text, same}

-- every byte passes a test
abbrev pub all : (ℕ → Bool) → Text → Bool
all p [] = true
all p (x ∷ t) = p x && all p t

-- the first byte is there and passes
abbrev pub first : (ℕ → Bool) → Text → Bool
first p [] = false
first p (x ∷ t) = p x

-- ---------------------------------------------------------------- tests joined

pub and_left : (p q : Bool) → p && q ≡ true → p ≡ true
and_left true q h = refl
and_left false q h = h

pub and_right : (p q : Bool) → p && q ≡ true → q ≡ true
and_right true q h = h
and_right false q h = cc

pub and_both : (p q : Bool) → p ≡ true → q ≡ true → p && q ≡ true
and_both true q h k = k
and_both false q h k = h

-- ---------------------------------------------------------------- equal texts

pub to_T : (p : Bool) → p ≡ true → T p
to_T true h = tt
to_T false h = absurd (false≢true h)

pub of_T : (p : Bool) → T p → p ≡ true
of_T true h = refl
of_T false h = absurd h

pub eqb_yes : (n : ℕ) → eqb n n ≡ true
eqb_yes n = of_T (eqb n n) (eqb_refl n)

pub eqb_eq : (m n : ℕ) → eqb m n ≡ true → m ≡ n
eqb_eq m n h = eqb→eq m n (to_T (eqb m n) h)

pub same_eq : (s t : Text) → same s t ≡ true → s ≡ t
unfolding same
same_eq [] [] h = refl
same_eq [] (y ∷ t) h = cc
same_eq (x ∷ s) [] h = cc
same_eq (x ∷ s) (y ∷ t) h =
    ap₂ ◌∷◌ (eqb_eq x y (and_left (eqb x y) (same s t) h)) (same_eq s t (and_right (eqb x y) (same s t) h))

pub same_yes : (s : Text) → same s s ≡ true
unfolding same
same_yes [] = refl
same_yes (x ∷ s) = and_both (eqb x x) (same s s) (eqb_yes x) (same_yes s)

pub same_differ : (s t : Text) → same s t ≡ false → ¬ (s ≡ t)
same_differ s t h e = false≢true (sym h ∙ rw e (same_yes t))

decide_same : (s t : Text) (q : Bool) → same s t ≡ q → Dec (s ≡ t)
decide_same s t true h = yes (same_eq s t h)
decide_same s t false h = no (same_differ s t h)

-- equality of texts, decided by the grammar's test
unfoldable pub text_discrete : Discrete Text
unfolding decide_same
text_discrete s t = decide_same s t (same s t) refl
