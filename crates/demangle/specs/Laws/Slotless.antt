-- Laws of a text without its slots. Assumes nothing.
use Rattle.std.specs.Prelude.{Bool, true, false, cond, not, List, [], ◌∷◌, ◌++◌, ◌≡◌, refl, ℕ, suc, ◌+◌, ◌≤◌, ◌<◌, eqb, length, take, drop, get_or, set, filter}
use Rattle.std.specs.List.{enumerate_from}
use Rattle.std.proofs.Common.{append_assoc, sym, ap, ◌∙◌, add-one, arith, take-suc, length-take-le, drop-cons}
use Rattle.std.proofs.Math.Seq.{take-length}
use Rattle.std.proofs.lemmas.Grind.{get_or_default_zero}
use Rattle.std.proofs.lemmas.List.{set_at}
use Rattle.std.proofs.lemmas.List.FromFn.{get_or-enumerate_from, length-enumerate_from}
use Rattle.grammar.specs.Text.{Text, if◌then◌otherwise◌, each}
use Rattle.grammar.specs.Names.{without_slots}
use Rattle.store.specs.Stack.{slots_in}

one : (x : ℕ) (t : Text) (q : Bool) → (if q then 1 otherwise 0) + length ((if q then [] otherwise x ∷ []) ++ t) ≡ 1 + length t
unfolding if◌then◌otherwise◌
one x t true = omega arith
one x t false = omega arith

-- the slots are what is left out
pub slotless_length : (t : Text) → slots_in t + length (without_slots t) ≡ length t
unfolding slots_in without_slots each
slotless_length [] = omega arith
slotless_length (x ∷ t) = omega (arith, one x (without_slots t) (eqb x 1), slotless_length t)

-- a text that has none is its own
bare : (x : ℕ) (s t : Text) (q : Bool) → (if q then 1 otherwise 0) + slots_in t ≡ 0 → (slots_in t ≡ 0 → s ≡ t) → (if q then [] otherwise x ∷ []) ++ s ≡ x ∷ t
unfolding if◌then◌otherwise◌
bare x s t true e f = absurd (omega (arith, e))
bare x s t false e f = ap (λ (z : Text). x ∷ z) (f (omega (arith, e)))

slotless_same : (t : Text) → slots_in t ≡ 0 → without_slots t ≡ t
unfolding slots_in without_slots each
slotless_same [] e = refl
slotless_same (x ∷ t) e = bare x (without_slots t) t (eqb x 1) e (slotless_same t)

-- it is written as it stands
pub slotless_copied : (t out : Text) → slots_in t ≡ 0 → t ++ drop (length t) out ≡ without_slots t ++ drop (length (without_slots t)) out
slotless_copied t out e = ap (λ (x : Text). x ++ drop (length x) out) (sym (slotless_same t e))

-- ---- its bytes, one after the other

abbrev pub no_slot : ℕ → Bool
no_slot x = not (eqb x 1)

kept : (x : ℕ) (s t : Text) (q : Bool) → s ≡ t → cond (not q) (x ∷ s) s ≡ (if q then [] otherwise x ∷ []) ++ t
unfolding if◌then◌otherwise◌
kept x s t true e = e
kept x s t false e = ap (λ (z : Text). x ∷ z) e

slotless_filter : (t : Text) → filter no_slot t ≡ without_slots t
unfolding without_slots each
slotless_filter [] = refl
slotless_filter (x ∷ t) = kept x (filter no_slot t) (without_slots t) (eqb x 1) (slotless_filter t)

-- a byte is written behind those that are there
pub byte_behind : (w out : Text) (at x : ℕ) → at ≡ length w → at < length out → set (w ++ drop at out) at x ≡ (w ++ (x ∷ [])) ++ drop (at + 1) out
byte_behind w out at x e h =
    ap (λ (z : Text). set (w ++ z) at x) (drop-cons out at 0 h)
    ∙ set_at w (get_or out at 0) (drop (suc at) out) x at (sym e)
    ∙ ap (λ (k : ℕ). w ++ x ∷ drop k out) (sym (add-one at))
    ∙ sym (append_assoc w (x ∷ []) (drop (at + 1) out))

-- it is the next one of a text
next_behind : (w out : Text) (i : ℕ) → i < length w → length w ≤ length out → set (take i w ++ drop i out) i (get_or w i 0) ≡ take (i + 1) w ++ drop (i + 1) out
next_behind w out i h l =
    byte_behind (take i w) out i (get_or w i 0) (sym (length-take-le i w (omega arith))) (omega arith)
    ∙ ap (λ (z : Text). z ++ drop (i + 1) out) (sym (take-suc w i 0 h) ∙ ap (λ (k : ℕ). take k w) (sym (add-one i)))

module _ (t : Text) where
  abbrev pub bytes_of : List (ℕ × ℕ)
  bytes_of = enumerate_from 0 (filter no_slot t)

  -- the byte of a turn, and its place
  pub slotless_turn : {i at c : ℕ} → i < length bytes_of → (at, c) ≡ get_or bytes_of i (at, c) → (i < length (without_slots t)) × ((at ≡ i) × (c ≡ get_or (without_slots t) i 0))
  slotless_turn {i} {at} {c} h e =
      let l : i < length (filter no_slot t) = omega (arith, h, length-enumerate_from 0 (filter no_slot t)) in
      let g = e ∙ get_or-enumerate_from 0 (filter no_slot t) i (at, c) l in
      let f : c ≡ get_or (filter no_slot t) i 0 = ap (λ (p : ℕ × ℕ). p.1) g ∙ get_or_default_zero (filter no_slot t) i c l in
      (rw (slotless_filter t) at l, (omega (arith, ap (λ (p : ℕ × ℕ). p.0) g), rw (slotless_filter t) at f))

  -- it is written behind those that are there
  module _ (out : Text) {o : Text} {i : ℕ} (e : o ≡ take i (without_slots t) ++ drop i out) where
    pub slotless_step : {at c n : ℕ} → length (without_slots t) ≤ length out → (i < length (without_slots t)) × ((at ≡ i) × (c ≡ get_or (without_slots t) i 0)) → n ≡ i + 1
        → set o at c ≡ take n (without_slots t) ++ drop n out
    slotless_step l h f = rw (e, h.1.0, h.1.1, f) (next_behind (without_slots t) out i h.0 l)

    pub slotless_end : i ≡ length bytes_of → o ≡ without_slots t ++ drop (length (without_slots t)) out
    slotless_end h =
        let f : i ≡ length (without_slots t) = h ∙ length-enumerate_from 0 (filter no_slot t) ∙ ap length (slotless_filter t) in
        e ∙ rw (f, take-length (without_slots t)) refl
