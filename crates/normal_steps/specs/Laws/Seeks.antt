-- Laws of Seeks.antt. Assumes nothing.
use Rattle.std.specs.Prelude.{Bool, ◌≡◌, length}
use Rattle.std.proofs.Math.Bool.{true, false, true≢false}
use mathlib.Core.List.{List, [], ◌∷◌, ◌++◌}
use Rattle.std.proofs.Math.Option.{Option, none, some, none-ne-some}
use Rattle.std.proofs.Math.Path.{refl, ap}
use Rattle.std.proofs.Common.{sym, ◌∙◌}
use Prim.Native.Nat.{ℕ, zero, suc}
use Rattle.std.proofs.Math.ListN.{get_elem?}
use Rattle.grammar.specs.Text.{if◌then◌otherwise◌}
use Rattle.normal_nodes.specs.Nodes.{later, seek_by}

none_later : (o : Option ℕ) → later o ≡ none → o ≡ none
none_later none e = refl
none_later (some i) e = absurd (none-ne-some (suc i) (sym e))

module _ {A : Type 0} (p : A → Bool) where
  pub seek_empty : seek_by p [] ≡ none
  unfolding seek_by
  seek_empty = refl

  pub seek_here : (us : List A) (x : A) (ws : List A) → seek_by p us ≡ none → p x ≡ true → seek_by p (us ++ (x ∷ ws)) ≡ some (length us)
  unfolding seek_by if◌then◌otherwise◌
  seek_here [] x ws e t = rw t refl
  seek_here (u ∷ us) x ws e t = go (p u) e (λ f. seek_here us x ws f t)
    where
      go : (q : Bool) → (if q then some 0 otherwise later (seek_by p us)) ≡ none → (seek_by p us ≡ none → seek_by p (us ++ (x ∷ ws)) ≡ some (length us))
          → (if q then some 0 otherwise later (seek_by p (us ++ (x ∷ ws)))) ≡ some (suc (length us))
      go true f g = absurd (none-ne-some 0 (sym f))
      go false f g = ap later (g (none_later (seek_by p us) f))

  -- one more that does not pass
  pub seek_past : (us : List A) (x : A) → seek_by p us ≡ none → p x ≡ false → seek_by p (us ++ (x ∷ [])) ≡ none
  unfolding seek_by if◌then◌otherwise◌
  seek_past [] x e t = rw t refl
  seek_past (u ∷ us) x e t = go (p u) e (λ f. seek_past us x f t)
    where
      go : (q : Bool) → (if q then some 0 otherwise later (seek_by p us)) ≡ none → (seek_by p us ≡ none → seek_by p (us ++ (x ∷ [])) ≡ none)
          → (if q then some 0 otherwise later (seek_by p (us ++ (x ∷ [])))) ≡ none
      go true f g = absurd (none-ne-some 0 (sym f))
      go false f g = ap later (g (none_later (seek_by p us) f))

  -- what was found is found where more stands behind it
  seek_kept : (us ws : List A) (i : ℕ) → seek_by p us ≡ some i → seek_by p (us ++ ws) ≡ some i
  unfolding seek_by if◌then◌otherwise◌
  seek_kept [] ws i e = absurd (none-ne-some i e)
  seek_kept (u ∷ us) ws i e = go (p u) (seek_by p us) (λ j f. seek_kept us ws j f) e
    where
      go : (q : Bool) (o : Option ℕ) → ((j : ℕ) → o ≡ some j → seek_by p (us ++ ws) ≡ some j) → (if q then some 0 otherwise later o) ≡ some i
          → (if q then some 0 otherwise later (seek_by p (us ++ ws))) ≡ some i
      go true o f g = g
      go false none f g = absurd (none-ne-some i g)
      go false (some j) f g = ap later (f j refl) ∙ g

  -- one more that does not pass leaves the place
  pub seek_skip : (us : List A) (x : A) → p x ≡ false → seek_by p (us ++ (x ∷ [])) ≡ seek_by p us
  seek_skip us x t = go (seek_by p us) refl
    where
      go : (o : Option ℕ) → seek_by p us ≡ o → seek_by p (us ++ (x ∷ [])) ≡ o
      go none e = seek_past us x e t
      go (some i) e = seek_kept us (x ∷ []) i e

  pub seek_longer : (us : List A) (x : A) (i : ℕ) → seek_by p us ≡ some i → seek_by p (us ++ (x ∷ [])) ≡ some i
  seek_longer us x i e = seek_kept us (x ∷ []) i e

  -- where none was found, none passes
  pub none_passes : (xs : List A) (k : ℕ) (x : A) → seek_by p xs ≡ none → get_elem? xs k ≡ some x → p x ≡ true → ⊥
  unfolding seek_by if◌then◌otherwise◌
  none_passes [] k x e f t = none-ne-some x f
  none_passes (y ∷ xs) zero x e f t = let g : y ≡ x = cc in go (p y) (ap p g ∙ t) e
    where
      go : (q : Bool) → q ≡ true → (if q then some 0 otherwise later (seek_by p xs)) ≡ none → ⊥
      go true g h = none-ne-some 0 (sym h)
      go false g h = true≢false (sym g)
  none_passes (y ∷ xs) (suc k) x e f t = go (p y) (λ g. none_passes xs k x g f t) e
    where
      go : (q : Bool) → (seek_by p xs ≡ none → ⊥) → (if q then some 0 otherwise later (seek_by p xs)) ≡ none → ⊥
      go true g h = none-ne-some 0 (sym h)
      go false g h = g (none_later (seek_by p xs) h)
