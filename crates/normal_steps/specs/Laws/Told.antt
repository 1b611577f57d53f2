-- An answer of a step, taken apart and put together. Assumes nothing.
use Rattle.std.specs.Prelude.{◌≡◌, refl, ℕ, ◌<◌, Option, Some, None}
use Rattle.std.proofs.Common.{sym, subst, arith}
use Rattle.grammar.specs.Text.{Text}
use Rattle.normal_nodes.specs.Nodes.{Notes, Got, got, bad}
use Rattle.normal_steps.specs.Carries.{Work, Carries, Refines, tells, refuses, Went, most_number}
use Rattle.normal_steps.specs.declared.state.State.{State}

-- a number was told
pub record Answered (s : Text) (L : State → Type 0) (ws : Work) (p : State) (d : ℕ) (g : Got ℕ) : Type 0 where
  pub state : Notes
  pub holds : Carries s ws p state
  pub limits : L p
  pub small : d < most_number
  pub is : g ≡ got d state

module _ {s : Text} {L : State → Type 0} {ws : Work} {p : State} where
  pub answered : {d : ℕ} {g : Got ℕ} → Refines s L ws p (Some d) g → Answered s L ws p d g
  answered (tells {σ = σ} h l m) = record { state = σ; holds = h; limits = l; small = m; is = refl }

  pub refused : {g : Got ℕ} → Refines s L ws p None g → g ≡ bad
  refused refuses = refl

  pub by : {r : Option ℕ} {f g : Got ℕ} → f ≡ g → Refines s L ws p r g → Refines s L ws p r f
  by {r} e h = subst (λ (x : Got ℕ). Refines s L ws p r x) (sym e) h

  -- where the definition has a number, it is the one that was told
  pub told : {d e : ℕ} {τ : Notes} → Refines s L ws p (Some d) (got e τ) → Carries s ws p τ × (L p × ((d ≡ e) × (d < most_number)))
  told {d} {e} {τ} x =
      let w = answered x in
      let i = w.is in
      let a : d ≡ e = cc in
      let b : w.state ≡ τ = cc in
      (subst (λ (ρ : Notes). Carries s ws p ρ) b w.holds, (w.limits, (a, w.small)))

  -- and it is not refused
  pub never : {r : Option ℕ} {e : ℕ} {τ : Notes} → Refines s L ws p r (got e τ) → r ≡ None → ⊥
  never {e = e} {τ = τ} x q =
      let i = refused (subst (λ (o : Option ℕ). Refines s L ws p o (got e τ)) q x) in let z : ◌≡◌ {A = ℕ} 0 1 = cc in omega arith

  pub went_as : {τ τ' : Notes} → τ' ≡ τ → Carries s ws p τ → L p → Went s ws L p τ'
  went_as e h l = record { holds = subst (λ (y : Notes). Carries s ws p y) (sym e) h; limits = l }

-- within wider limits
pub within : {s : Text} {L K : State → Type 0} {ws : Work} {p : State} {r : Option ℕ} {g : Got ℕ}
    → ((q : State) → L q → K q) → Refines s L ws p r g → Refines s K ws p r g
within k (tells h l m) = tells h (k _ l) m
within k refuses = refuses
