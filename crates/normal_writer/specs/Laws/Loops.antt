-- A loop of a member as far as it went. Assumes nothing.
use Rattle.std.specs.Prelude.{◌≡◌, ℕ, ◌+◌, ◌-◌, ◌≤◌, ◌<◌, length, Option}
use Rattle.std.proofs.Common.{◌∙◌, arith}
use Rattle.normal_nodes.specs.Nodes.{Got}
use Rattle.normal_steps.specs.States.{moved_to}
use Rattle.normal_steps.specs.Carries.{slices_of, lent, Ready, most_number}
use Rattle.normal_steps.specs.Laws.Told.{Answered}
use Rattle.normal_steps.specs.declared.state.State.{State}
use Rattle.normal_steps.specs.declared.state.Writer.{Writer}

-- a number was told, and the writer is w
abbrev pub Told : (State → Type 0) → Writer → ℕ → Got ℕ → Type 0
Told L w d g = Answered w.s.now L (slices_of w) w.state d g

-- the writer at another place of the symbol, and one byte on
abbrev pub gone : Writer → ℕ → Writer
gone w to = record w { state = moved_to w.state to }

abbrev pub moved : Writer → Writer
moved w = gone w (w.state.at + 1)

abbrev pub bytes_left : Writer → ℕ
bytes_left w = length w.s.now - w.state.at

-- G is what the rest may answer, F the whole: what the rest answers, the whole answers
pub record SoFar (F : Writer → Option ℕ → Type 0) (w₀ : Writer) (G : Writer → Option ℕ → Type 0) (w : Writer) (t : ℕ) : Type 0 where
  pub source : w.s.now ≡ w₀.s.now
  pub same : lent w ≡ lent w₀
  pub further : w₀.state.at ≤ w.state.at
  pub small : t < most_number
  pub ready : Ready w
  pub whole : (w' : Writer) (r : Option ℕ) → G w' r → F w' r

-- as `SoFar`, in any slices
pub record SoFarInAny (F : Writer → Option ℕ → Type 0) (w₀ : Writer) (G : Writer → Option ℕ → Type 0) (w : Writer) (t : ℕ) : Type 0 where
  pub source : w.s.now ≡ w₀.s.now
  pub further : w₀.state.at ≤ w.state.at
  pub small : t < most_number
  pub ready : Ready w
  pub whole : (w' : Writer) (r : Option ℕ) → G w' r → F w' r

module _ {F G : Writer → Option ℕ → Type 0} {w₀ w : Writer} {t : ℕ} where
  pub so_far_in_any : SoFar F w₀ G w t → SoFarInAny F w₀ G w t
  so_far_in_any y = record { source = y.source; further = y.further; small = y.small; ready = y.ready; whole = y.whole }

  pub so_far_lent : SoFarInAny F w₀ G w t → lent w ≡ lent w₀ → SoFar F w₀ G w t
  so_far_lent y n = record { source = y.source; same = n; further = y.further; small = y.small; ready = y.ready; whole = y.whole }

module _ {F : Writer → Option ℕ → Type 0} where
  pub one_more : {G H : Writer → Option ℕ → Type 0} {w₀ w : Writer} (w₁ : Writer) {t d : ℕ} → SoFarInAny F w₀ G w t
      → w₁.s.now ≡ w.s.now → w.state.at ≤ w₁.state.at → d < most_number → Ready w₁ → ((w' : Writer) (r : Option ℕ) → H w' r → G w' r)
      → SoFarInAny F w₀ H w₁ d
  one_more w₁ y z l k h g =
      record {
        source = z ∙ y.source;
        further = omega (arith, l, y.further);
        small = k;
        ready = h;
        whole = λ w' r x. y.whole w' r (g w' r x);
      }

  pub one_more_lent : {G H : Writer → Option ℕ → Type 0} {w₀ w : Writer} (w₁ : Writer) {t d : ℕ} → SoFar F w₀ G w t
      → w₁.s.now ≡ w.s.now → lent w₁ ≡ lent w → w.state.at ≤ w₁.state.at → d < most_number → Ready w₁ → ((w' : Writer) (r : Option ℕ) → H w' r → G w' r)
      → SoFar F w₀ H w₁ d
  one_more_lent w₁ y z n l k h g = so_far_lent (one_more w₁ (so_far_in_any y) z l k h g) (n ∙ y.same)
