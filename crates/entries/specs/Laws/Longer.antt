-- What the entries answer and leave is what they did under the limit before T-07. Assumes nothing.
use Rattle.std.specs.Prelude.{true, ◌≡◌, ℕ, Result}
use Rattle.std.proofs.Math.Path.{ap}
use Rattle.std.proofs.Common.{◌∙◌}
use Rattle.grammar.specs.Text.{Text}
use Rattle.grammar.specs.Limits.{most_symbol_bytes}
use Rattle.grammar.specs.Names.{Answer, refusal, answer}
use Rattle.grammar.specs.Laws.Longer.{earlier_symbol_bytes, earlier_answer}
use Rattle.catalogue.specs.Answer.{normal_work_fits, normal_answer}
use Rattle.catalogue.specs.Laws.Longer.{earlier_normal_answer}
use Rattle.grammar.specs.declared.refusal.Refusal.{Refusal}
use Rattle.answer.specs.Told.{Slices, lent}
use Rattle.entries.specs.Outcome.{leaves, Leaves, demangled, Demangles, normalized, Normalizes}

module _ (s : Text) (l l' : Slices) (r : Result ℕ Refusal) where
  pub earlier_demangles : Demangles s l l' r → (answer earlier_symbol_bytes (lent l) s ≡ refusal 1 → ⊥) → Leaves (answer earlier_symbol_bytes (lent l) s) l l' r
  unfolding demangled
  earlier_demangles h i = h ∙ ap (λ (a : Answer). leaves a l) (earlier_answer s (lent l) i)

  -- with work slices that are long enough for the new limit, and so for both
  module _ (fits : normal_work_fits most_symbol_bytes (lent l) ≡ true) where
    pub earlier_normalizes : Normalizes s l l' r → (normal_answer earlier_symbol_bytes (lent l) s ≡ refusal 1 → ⊥)
        → (normal_answer earlier_symbol_bytes (lent l) s ≡ refusal 13 → ⊥) → Leaves (normal_answer earlier_symbol_bytes (lent l) s) l l' r
    unfolding normalized
    earlier_normalizes h i j = h ∙ ap (λ (a : Answer). leaves a l) (earlier_normal_answer s (lent l) fits i j)
