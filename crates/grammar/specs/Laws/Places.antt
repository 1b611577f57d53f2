-- What stands at a place of a text, in the form in which the code's tests tell it, and behind a run. Assumes nothing.
use Rattle.std.specs.Prelude.{Some, None, ◌≡◌, ℕ, suc, ◌+◌, ◌<◌, ◌≤◌, Bool, true, false, ◌&&◌, [], ◌∷◌, length, drop, ◌==◌, slice_index, slice_index_or, slice_set, refl}
use Rattle.std.proofs.Common.{drop-drop, sym, ap, ap₂, ◌∙◌, add-one, arith, eq-eqb, length-set, length-drop, drop_of_length-le, drop-cons, drop-set-lt, get_or-set_same}
use Rattle.grammar.specs.States.{peeked}
use Rattle.std.proofs.lemmas.Bool.{false≢true}
use Rattle.std.proofs.Math.Bool.{and-true}
use Rattle.grammar.specs.Text.{Text, if◌then◌otherwise◌, starts, run, past}
use Rattle.grammar.specs.Laws.Text.{starts_nothing}

module _ (s : Text) (i : ℕ) where
  pub rest_some : i < length s → drop i s ≡ slice_index s i ∷ drop (i + 1) s
  rest_some h = rw (add-one, drop-cons s i 0)

  pub rest_none : length s ≤ i → drop i s ≡ []
  rest_none h = drop_of_length-le s h

-- a byte written in front of the last ones
pub set_front : (l : Text) (i x : ℕ) → i < length l → drop i (slice_set l i x) ≡ x ∷ drop (i + 1) l
set_front l i x h =
    drop-cons (slice_set l i x) i 0 (simp length-set h)
    ∙ ap₂ (λ (y : ℕ) (t : Text). y ∷ t) (get_or-set_same l i x 0 h) (drop-set-lt (suc i) l i x (omega arith) ∙ ap (λ (j : ℕ). drop j l) (sym (add-one i)))

-- a byte in front
pub starts_byte : (x c : ℕ) (t : Text) → starts (x ∷ t) (c ∷ []) ≡ (x == c)
unfolding starts
starts_byte x c t = ap (λ (q : Bool). (x == c) && q) (starts_nothing t) ∙ and-true (x == c)

pub starts_inside : (s : Text) (at c : ℕ) → starts (drop at s) (c ∷ []) ≡ true → at < length s
unfolding starts
starts_inside s at c h = omega (arith, some_there (drop at s) h, length-drop at s)
  where
    some_there : (t : Text) → starts t (c ∷ []) ≡ true → 0 < length t
    some_there [] e = absurd (false≢true e)
    some_there (x ∷ t) e = omega arith

-- the byte c stands at a place
pub record Stands (s : Text) (at c : ℕ) : Type 0 where
  pub there : drop at s ≡ c ∷ drop (at + 1) s
  pub ahead : starts (drop at s) (c ∷ []) ≡ true
  pub inside : at < length s
  pub byte : slice_index_or s at 0 ≡ c

pub stands_by : {s : Text} {at c : ℕ} (u : Text) → drop at s ≡ c ∷ u → Stands s at c
stands_by {s} {at} {c} u e =
    let i : at < length s = omega (arith, length-drop at s, ap length e) in
    let g : slice_index_or s at 0 ∷ drop (at + 1) s ≡ c ∷ u = sym (rest_some s at i) ∙ e in
    record {
      there = e ∙ ap (λ (t : Text). c ∷ t) (ap (drop 1) (sym e) ∙ drop-drop 1 at s);
      ahead = rw e (starts_byte c c u ∙ eq-eqb c c refl);
      inside = i;
      byte = cc;
    }

-- what stands behind a run
pub past_run : (p : ℕ → Bool) (t : Text) → past p t ≡ drop (length (run p t)) t
unfolding past run if◌then◌otherwise◌
past_run p [] = refl
past_run p (x ∷ t) = go (p x) (past_run p t)
  where
    go : (q : Bool) → past p t ≡ drop (length (run p t)) t → (if q then past p t otherwise x ∷ t) ≡ drop (length (if q then x ∷ run p t otherwise [])) (x ∷ t)
    go true e = e
    go false e = refl

-- ---------------------------------------------------------------- the next byte

pub peek_byte : (t : Text) {c : ℕ} → peeked t ≡ Some c → t ≡ c ∷ drop 1 t
peek_byte [] e = let z : ◌≡◌ {A = ℕ} 0 1 = cc in absurd (omega arith)
peek_byte (x ∷ t) {c} e = let f : x ≡ c = cc in ap (λ (y : ℕ). y ∷ t) f

pub peek_end : (t : Text) → peeked t ≡ None → t ≡ []
peek_end [] e = refl
peek_end (x ∷ t) e = let z : ◌≡◌ {A = ℕ} 0 1 = cc in absurd (omega arith)

module _ (s : Text) (at : ℕ) {c : ℕ} (e : peeked (drop at s) ≡ Some c) where
  pub byte_there : drop at s ≡ c ∷ drop (at + 1) s
  byte_there = peek_byte (drop at s) e ∙ ap (λ (t : Text). c ∷ t) (drop-drop 1 at s)

  pub byte_within : at < length s
  byte_within = omega (arith, length-drop at s, ap length (peek_byte (drop at s) e))
