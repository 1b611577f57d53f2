-- The definitions of the walk with numbers at a first byte. Assumes nothing.
use Rattle.std.specs.Prelude.{Bool, [], ◌∷◌, ◌≡◌, eqb, length}
use Rattle.std.proofs.Math.Path.{refl}
use Prim.Native.Nat.{ℕ, zero, suc}
use Rattle.grammar.specs.Text.{Text}
use Rattle.catalogue.specs.Recogniser.{lead}
use Rattle.normal_nodes.specs.Nodes.{Notes, bad, note_at_lead, note_at_parts, note_at_more, note_type, note_args, note_parts, note_more}

module _ (σ : Notes) where
  pub type_none : (m : ℕ) → σ.rest ≡ [] → note_type m σ ≡ bad
  unfolding note_type
  type_none zero e = refl
  type_none (suc m) e = rw e refl

  pub parts_none : (m from : ℕ) → σ.rest ≡ [] → note_parts m from σ ≡ bad
  unfolding note_parts
  parts_none zero from e = refl
  parts_none (suc m) from e = rw e refl

  module _ {c : ℕ} {t : Text} (m : ℕ) (e : σ.rest ≡ c ∷ t) where
    pub type_some : note_type (suc m) σ
        ≡ note_at_lead (lead c) c (length σ.out) t σ (λ τ. note_type m τ) (λ u τ. note_args m u τ) (λ from τ. note_parts m from τ)
    unfolding note_type
    type_some = rw e refl

    pub parts_some : (from : ℕ) → note_parts (suc m) from σ ≡ note_at_parts (lead c) from t σ (λ u lone τ. note_more m u lone from τ)
    unfolding note_parts
    parts_some from = rw e refl

    pub more_some : (u : ℕ) (lone : Bool) (from : ℕ) → note_more (suc m) u lone from σ
        ≡ note_at_more (eqb c 73) u lone from t σ (λ v τ. note_args m v τ) (λ v l τ. note_more m v l from τ)
    unfolding note_more
    more_some u lone from = rw e refl
