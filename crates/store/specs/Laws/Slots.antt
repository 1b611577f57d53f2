-- Laws of slots. Assumes nothing.
use Rattle.std.specs.Prelude.{◌≡◌, refl, [], ◌∷◌, ◌++◌, Bool, true, false, ℕ, ◌+◌, ◌*◌, ◌≤◌, ◌<◌, length, take, drop, get_or, eqb}
use Rattle.std.proofs.Common.{sym, ap, ◌∙◌, append_assoc, append-nil, add-mul, add-one, arith, eq-eqb, ne_eqb, length-append, take-append-drop, take-suc}
use Rattle.grammar.specs.Text.{Text, if◌then◌otherwise◌, each}
use Rattle.grammar.specs.Grammar.{at_slots}
use Rattle.store.specs.Stack.{slots_in, at_slot}

pub slots_append : (s t : Text) → slots_in (s ++ t) ≡ slots_in s + slots_in t
unfolding slots_in
slots_append [] t = omega arith
slots_append (x ∷ s) t = omega (arith, slots_append s t)

pub at_slots_none : (w : Text) → at_slots w [] ≡ []
unfolding at_slots each
at_slots_none w = refl

pub at_slots_cons : (w : Text) (x : ℕ) (t : Text) → at_slots w (x ∷ t) ≡ at_slot w x ++ at_slots w t
unfolding at_slots each at_slot
at_slots_cons w x t = refl

pub at_slots_append : (w s t : Text) → at_slots w (s ++ t) ≡ at_slots w s ++ at_slots w t
at_slots_append w [] t = rw (at_slots_none w)
at_slots_append w (x ∷ s) t = rw (at_slots_cons w x (s ++ t), at_slots_cons w x s, at_slots_append w s t, append_assoc)

one : (w : Text) (x : ℕ) (q : Bool) → length (if q then w ++ (x ∷ []) otherwise (x ∷ [])) ≡ 1 + (if q then 1 otherwise 0) * length w
unfolding if◌then◌otherwise◌
one w x true = omega (arith, length-append w (x ∷ []))
one w x false = omega arith

pub length_at_slots : (w t : Text) → length (at_slots w t) ≡ length t + slots_in t * length w
unfolding slots_in at_slot
length_at_slots w [] = ap length (at_slots_none w) ∙ omega arith
length_at_slots w (x ∷ t) =
    ap length (at_slots_cons w x t)
    ∙ length-append (at_slot w x) (at_slots w t)
    ∙ omega (arith, one w x (eqb x 1), length_at_slots w t, add-mul (if eqb x 1 then 1 otherwise 0) (slots_in t) (length w))

pub at_slot_yes : (w : Text) (x : ℕ) → x ≡ 1 → at_slot w x ≡ w ++ (x ∷ [])
unfolding at_slot if◌then◌otherwise◌
at_slot_yes w x e = ap (λ (q : Bool). if q then w ++ (x ∷ []) otherwise (x ∷ [])) (eq-eqb x 1 e)

pub at_slot_no : (w : Text) (x : ℕ) → (x ≡ 1 → ⊥) → at_slot w x ≡ x ∷ []
unfolding at_slot if◌then◌otherwise◌
at_slot_no w x e = ap (λ (q : Bool). if q then w ++ (x ∷ []) otherwise (x ∷ [])) (ne_eqb x 1 e)

-- one byte more
pub at_slots_more : (w t : Text) (i : ℕ) → i < length t → at_slots w (take (i + 1) t) ≡ at_slots w (take i t) ++ at_slot w (get_or t i 0)
at_slots_more w t i h =
    ap (λ (k : ℕ). at_slots w (take k t)) (add-one i)
    ∙ ap (at_slots w) (take-suc t i 0 h)
    ∙ at_slots_append w (take i t) (get_or t i 0 ∷ [])
    ∙ ap (λ (z : Text). at_slots w (take i t) ++ z) (at_slots_cons w (get_or t i 0) [] ∙ ap (λ (z : Text). at_slot w (get_or t i 0) ++ z) (at_slots_none w) ∙ append-nil (at_slot w (get_or t i 0)))

pub at_slots_part : (w t : Text) (i : ℕ) → length (at_slots w (take i t)) ≤ length (at_slots w t)
at_slots_part w t i =
    omega (arith, ap (λ (z : Text). length (at_slots w z)) (sym (take-append-drop i t)) ∙ ap length (at_slots_append w (take i t) (drop i t)) ∙ length-append (at_slots w (take i t)) (at_slots w (drop i t)))
