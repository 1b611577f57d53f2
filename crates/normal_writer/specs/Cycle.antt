-- What the members of the cycle promise.
use Rattle.std.specs.Prelude.{◌∷◌, ◌≡◌, ℕ, suc, ◌+◌, ◌≤◌, length, Option}
use Rattle.grammar.specs.Text.{Text}
use Rattle.catalogue.specs.Recogniser.{Lead}
use Rattle.normal_nodes.specs.Nodes.{Notes, note_at_lead, note_with_args, note_type, note_args, note_parts}
use Rattle.normal_steps.specs.Carries.{Held, Spent, Answers, Fueled}
use Rattle.normal_steps.specs.declared.state.Writer.{Writer}

-- a type whose first byte is c, by that byte
abbrev pub Leads : Lead → ℕ → Writer → Writer → Option ℕ → Type 0
Leads l c w w' r =
    (σ : Notes) → Held w σ → (m : ℕ) → length w.s.now ≤ suc m + w.state.at → (t : Text) → σ.rest ≡ c ∷ t
    → Answers (Spent 1 4 w.state.out w.state) w' r
    (note_at_lead l c (length σ.out) t σ (λ τ. note_type m τ) (λ u τ. note_args m u τ) (λ from τ. note_parts m from τ))

-- arguments, if there are any
abbrev pub WithArgs : ℕ → ℕ → Writer → Writer → Option ℕ → Type 0
WithArgs t from = Fueled 0 4 from 0 (λ m. note_with_args t from (λ u τ. note_args m u τ))
