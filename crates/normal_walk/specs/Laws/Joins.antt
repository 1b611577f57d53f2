-- What holds of a reading, where there is one: one law for each way in which readings are joined.
use Rattle.std.specs.Prelude.{Bool, ◌≡◌, ℕ}
use Rattle.std.proofs.Math.Bool.{true, false}
use mathlib.Core.List.{List, [], ◌∷◌}
use Rattle.std.proofs.Math.Option.{Option, none, some}
use Rattle.std.proofs.Math.Path.{refl}
use Rattle.std.proofs.Common.{ap}
use Rattle.std.proofs.Math.Dec.{eqb}
use Rattle.grammar.specs.Text.{Text, if◌then◌otherwise◌, choose}
use Rattle.catalogue.specs.Bytes.{eqb_eq}
use Rattle.catalogue.specs.Tree.{Ty}
use Rattle.catalogue.specs.Recogniser.{Rd, rd, stop, bind, if_next}
use Rattle.normal_walk.specs.Walk.{Walk, got, bad, Walker, next, when, keep, with}

-- ---------------------------------------------------------------- leaves

unfoldable pub OfRd : {A : Type 0} → Rd A → (A → Text → Type 0) → Type 0
OfRd (rd x r) P = P x r
OfRd stop P = Unit

pub rd_rd : {A : Type 0} (P : A → Text → Type 0) (x : A) (r : Text) → P x r → OfRd (rd x r) P
unfolding OfRd
rd_rd P x r h = h

pub rd_stop : {A : Type 0} (P : A → Text → Type 0) → OfRd stop P
unfolding OfRd
rd_stop P = tt

pub rd_keep : {A : Type 0} (P : A → Text → Type 0) (p : Bool) (o : Rd A) → (p ≡ true → OfRd o P) → OfRd (keep p o) P
unfolding OfRd
rd_keep P true o h = h refl
rd_keep P false o h = tt

pub rd_then : {A B : Type 0} (P : A → Text → Type 0) (Q : B → Text → Type 0) (o : Rd A) (f : A → Text → Rd B) → OfRd o P
    → ((x : A) (r : Text) → P x r → OfRd (f x r) Q) → OfRd (bind o f) Q
unfolding OfRd
rd_then P Q (rd x r) f h k = k x r h
rd_then P Q stop f h k = tt

pub rd_next : {A : Type 0} (P : A → Text → Type 0) (c : ℕ) (s : Text) (f : Text → Rd A) (o : Rd A) → ((r : Text) → s ≡ c ∷ r → OfRd (f r) P)
    → OfRd o P → OfRd (if_next c s f o) P
unfolding OfRd if◌then◌otherwise◌
rd_next P c [] f o h k = k
rd_next P c (d ∷ s) f o h k = go (eqb d c) refl
  where
    go : (p : Bool) → eqb d c ≡ p → OfRd (if p then f s otherwise o) P
    go true e = h s (ap (λ x. x ∷ s) (eqb_eq d c e))
    go false e = k

pub rd_map : {A : Type 0} (P Q : A → Text → Type 0) (o : Rd A) → ((x : A) (r : Text) → P x r → Q x r) → OfRd o P → OfRd o Q
unfolding OfRd
rd_map P Q (rd x r) f h = f x r h
rd_map P Q stop f h = tt

-- ---------------------------------------------------------------- walks

abbrev pub Claim : Type 0 → Type 1
Claim A = A → Text → List Ty → ℕ → Text → Type 0

unfoldable pub Of : {A : Type 0} → Walk A → Claim A → Type 0
Of (got x w vs k r) P = P x w vs k r
Of bad P = Unit

module _ {A : Type 0} (P : Claim A) where
  pub of_got : (x : A) (w : Text) (vs : List Ty) (k : ℕ) (r : Text) → P x w vs k r → Of (got x w vs k r) P
  unfolding Of
  of_got x w vs k r h = h

  pub of_bad : Of bad P
  unfolding Of
  of_bad = tt

  pub of_when : (p : Bool) (o : Walk A) → (p ≡ true → Of o P) → Of (when p o) P
  unfolding Of
  of_when true o h = h refl
  of_when false o h = tt

  pub of_with : {B : Type 0} (Q : B → Text → Type 0) (o : Rd B) (f : B → Text → Walk A) → OfRd o Q
      → ((x : B) (r : Text) → Q x r → Of (f x r) P) → Of (with o f) P
  unfolding Of OfRd
  of_with Q (rd x r) f h k = k x r h
  of_with Q stop f h k = tt

  pub of_then : {B : Type 0} (Q : Claim B) (o : Walk B) (f : B → Text → Walker A) → Of o Q
      → ((x : B) (w : Text) (vs : List Ty) (k : ℕ) (r : Text) → Q x w vs k r → Of (f x w vs k r) P) → Of (next o f) P
  unfolding Of
  of_then Q (got x w vs k r) f h g = g x w vs k r h
  of_then Q bad f h g = tt

  pub of_next : (c : ℕ) (s : Text) (f : Text → Walk A) (o : Walk A) → ((r : Text) → s ≡ c ∷ r → Of (f r) P) → Of o P → Of (if_next c s f o) P
  unfolding if◌then◌otherwise◌
  of_next c [] f o h k = k
  of_next c (d ∷ s) f o h k = go (eqb d c) refl
    where
      go : (p : Bool) → eqb d c ≡ p → Of (if p then f s otherwise o) P
      go true e = h s (ap (λ x. x ∷ s) (eqb_eq d c e))
      go false e = k

  pub of_choose : {B : Type 0} (o : Option B) (f : B → Walk A) → ((x : B) → o ≡ some x → Of (f x) P) → Of (choose o f bad) P
  unfolding Of choose
  of_choose (some x) f h = h x refl
  of_choose none f h = tt

  pub of_map : (Q : Claim A) (o : Walk A) → ((x : A) (w : Text) (vs : List Ty) (k : ℕ) (r : Text) → Q x w vs k r → P x w vs k r) → Of o Q → Of o P
  unfolding Of
  of_map Q (got x w vs k r) f h = f x w vs k r h
  of_map Q bad f h = tt
