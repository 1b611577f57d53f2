-- The definitions of the walk with numbers, one step at a time. Assumes nothing.
use Rattle.std.specs.Prelude.{Bool, ◌&&◌, [], ◌≡◌, ℕ, ◌+◌, eqb}
use Rattle.std.proofs.Math.Bool.{true, false}
use Rattle.std.proofs.Math.Path.{refl}
use Rattle.std.proofs.Common.{sym, ap, ◌∙◌, arith, eq-eqb, ne_eqb}
use Prim.Native.Char.{code}
use Rattle.grammar.specs.Text.{Text, if◌then◌otherwise◌}
use Rattle.catalogue.specs.Recogniser.{Rd, rd, stop}
use Rattle.normal_nodes.specs.Nodes.{Node, node, Notes, Noter, noted, number_of, enter, Got, got, bad, next, with, when, counted, tag_of, note_last_is}
use Rattle.normal_nodes.specs.Nodes.{settled, entered, entered_nested}
use Rattle.normal_steps.specs.Carries.{counts_arg}

-- ---------------------------------------------------------------- joined readings

-- what follows a test, a reading and an answer
pub when_true : {A : Type 0} {q : Bool} (g : Got A) → q ≡ true → when q g ≡ g
when_true g e = rw e refl

pub when_false : {A : Type 0} {q : Bool} (g : Got A) → q ≡ false → when q g ≡ bad
when_false g e = rw e refl

pub with_none : {A B : Type 0} {o : Rd A} (f : A → Text → Got B) → o ≡ stop → with o f ≡ bad
with_none f e = rw e refl

pub with_some : {A B : Type 0} {o : Rd A} {x : A} {r : Text} (f : A → Text → Got B) → o ≡ rd x r → with o f ≡ f x r
with_some f e = rw e refl

module _ {A B : Type 0} {g : Got A} where
  pub on_got : {x : A} {σ : Notes} (f : A → Noter B) → g ≡ got x σ → next g f ≡ f x σ
  on_got f e = ap (λ (y : Got A). next y f) e

  pub on_bad : (f : A → Noter B) → g ≡ bad → next g f ≡ bad
  on_bad f e = ap (λ (y : Got A). next y f) e

-- ---------------------------------------------------------------- nodes

-- the number of a node that enters the table, and of an argument that is counted
pub entered_is : (x : Node) (from : ℕ) (σ : Notes) {d : ℕ} → d ≡ number_of x σ.nodes → enter x from σ ≡ got d (entered d from (noted x σ))
entered_is x from σ e = ap (λ (j : ℕ). got j (entered j from (noted x σ))) (sym e)

pub counted_is : (t x : ℕ) (σ : Notes) {d : ℕ} → d ≡ number_of (node (x + 256) t []) σ.nodes
    → counts_arg t x σ ≡ got d (counted (noted (node (x + 256) t []) σ))
counted_is t x σ e =
    let f : 256 + x ≡ x + 256 = omega arith in
    ap (λ (j : ℕ). got (number_of (node j t []) σ.nodes) (counted (noted (node j t []) σ))) f
    ∙ ap (λ (j : ℕ). got j (counted (noted (node (x + 256) t []) σ))) (sym e)

-- ---------------------------------------------------------------- nested types

module _ (d from : ℕ) (σ : Notes) where
  pub nested_newest : tag_of σ.nodes d ≡ code "N" → note_last_is d σ.table ≡ true → entered_nested d from σ ≡ settled d from σ
  unfolding entered_nested if◌then◌otherwise◌
  nested_newest e f = rw (eq-eqb _ _ e, f) refl

  pub nested_old : note_last_is d σ.table ≡ false → entered_nested d from σ ≡ entered d from σ
  unfolding entered_nested if◌then◌otherwise◌
  nested_old f = go (eqb (tag_of σ.nodes d) (code "N"))
    where
      go : (q : Bool) → (if q && note_last_is d σ.table then settled d from σ otherwise entered d from σ) ≡ entered d from σ
      go true = rw f refl
      go false = refl

  pub nested_other : (tag_of σ.nodes d ≡ code "N" → ⊥) → entered_nested d from σ ≡ entered d from σ
  unfolding entered_nested if◌then◌otherwise◌
  nested_other f = rw (ne_eqb _ _ f) refl
