-- Laws of what a writing left: the normal symbol stands in front. Assumes nothing.
use Rattle.std.proofs.Math.Option.{Option as Normal, none, some}
use Rattle.std.specs.Prelude.{◌≡◌, refl, ℕ, ◌≤◌, length, take, Option, Some, None, Result, Err}
use Rattle.std.specs.Option.{ok_or}
use Rattle.grammar.specs.declared.refusal.Refusal.{Refusal}
use Rattle.std.proofs.Common.{ap, ◌∙◌, arith}
use Rattle.grammar.specs.Text.{Text}
use Rattle.store.specs.Laws.Fronts.{front_take, front_most}
use Rattle.normal_nodes.specs.Nodes.{Notes}
use Rattle.normal_steps.specs.declared.state.Writer.{Writer}
use Rattle.normal_steps.specs.Carries.{Held}
use Rattle.normal_steps.specs.Laws.Slices.{out_size}
use Rattle.normal_writer.specs.Writes.{Writes, writes, outside}

module _ (w : Writer) {σ : Notes} (h : Held w σ) where
  pub written_fits : w.state.out ≤ length w.out.now
  written_fits = omega (arith, out_size h, front_most h.out_is, h.out_count)

  pub written_is : take w.state.out w.out.now ≡ σ.out
  written_is = ap (λ (n : ℕ). take n w.out.now) h.out_count ∙ front_take h.out_is

module _ {w : Writer} where
  pub not_written : {r : Option (Unit {0})} {x : Normal Text} → Writes w r x → r ≡ None → x ≡ none
  not_written (writes h) e = absurd (let z : ◌≡◌ {A = ℕ} 0 1 = cc in omega arith)
  not_written outside e = refl

  pub was_written : {r : Option (Unit {0})} {x : Normal Text} {u : Unit {0}} → Writes w r x → r ≡ Some u → (σ : Notes) × ((x ≡ some σ.out) × Held w σ)
  was_written (writes {σ = σ} h) e = (σ, (refl, h))
  was_written outside e = absurd (let z : ◌≡◌ {A = ℕ} 0 1 = cc in omega arith)

-- the refusal in place of an answer that is none
pub refused_as : {r : Option (Unit {0})} {e f : Refusal} → ◌≡◌ {A = Result (Unit {0}) Refusal} (Err f) (ok_or r e) → r ≡ None → f ≡ e
refused_as {r} {e} {f} h i = let z : ◌≡◌ {A = Result (Unit {0}) Refusal} (Err f) (Err e) = h ∙ ap (λ (x : Option (Unit {0})). ok_or x e) i in cc
