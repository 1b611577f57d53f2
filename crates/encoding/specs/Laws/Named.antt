-- A name, and what comes behind it: nothing, parameters, or a type returned and parameters. Assumes nothing.
use Rattle.std.specs.Prelude.{Bool, [], ◌++◌, ◌≡◌, refl, ℕ, ◌+◌, ◌≤◌, take}
use Rattle.std.proofs.Math.Bool.{true, false}
use Rattle.std.proofs.Common.{sym, ◌∙◌, subst, arith}
use Rattle.std.proofs.Math.Path.{ap}
use Rattle.std.proofs.Math.ListN.{drop}
use Rattle.grammar.specs.Text.{Text, b, if◌then◌otherwise◌, each}
use Rattle.grammar.specs.Limits.{most_text_bytes}
use Rattle.grammar.specs.Reader.{State, Result, ok, refused, Reader, onto, give, set_cv}
use Rattle.grammar.specs.Grammar.{reading, ⟨name⟩, ⟨type⟩, ended, bare_function_type, function_or_data}
use Rattle.store.specs.Stack.{Tail}
use Rattle.grammar.specs.States.{Progress, Read, read, Refused, cv_to}
use Rattle.parser.specs.Holds.{Halves, Memory, mem, window, Holds, Stands, Refines, Reads, keep}
use Rattle.parser.specs.Laws.Holds.{by, by_state, less, Got, got, refused_on, holds_cv, with_cv}
use Rattle.reader.specs.Laws.Opens.{wrote_fits}
use Rattle.encoding.specs.Encodings.{qualified_by, Qualifies, GoesOn, with_parameters, with_returned}
use Rattle.encoding.specs.Laws.Functions.{goes_on_at}
use Rattle.grammar.specs.declared.refusal.Refusal.{Refusal}

-- ---------------------------------------------------------------- the definition

abbrev behind : Text → Text → Text → Reader Text
behind n q r σ = onto (λ ps. give (r ++ n ++ b "(" ++ ps ++ b ")" ++ q)) (bare_function_type reading σ)

abbrev returned_first : Reader Text
returned_first u = onto (λ r v. ok (r ++ b " ") v) (reading ⟨type⟩ u)

abbrev function_on : Text → Text → Bool → Reader Text
function_on n q templated σ = onto (behind n q) ((if templated then returned_first otherwise (λ u. ok [] u)) σ)

abbrev named_on : Text → Text → Bool → Reader Text
named_on n q over = if over then give (n ++ q) otherwise (λ σ. function_on n q σ.templated σ)

abbrev from_name : Text → Reader Text
from_name n σ = named_on n σ.cv (ended σ.rest) (with_cv [] σ)

named_is : (σ : State) → function_or_data reading σ ≡ onto from_name (reading ⟨name⟩ σ)
unfolding function_or_data onto set_cv
named_is σ = refl

onto_ok : (f : Text → Text) (g : Text → Reader Text) (x : Result Text) → onto g (onto (λ r v. ok (f r) v) x) ≡ onto (λ r. g (f r)) x
unfolding onto
onto_ok f g (ok t σ) = refl
onto_ok f g (refused r) = refl

returned_is : (n q : Text) (σ : State) → function_on n q true σ ≡ with_returned n q σ
unfolding if◌then◌otherwise◌
returned_is n q σ = onto_ok (λ r. r ++ b " ") (behind n q) (reading ⟨type⟩ σ)

-- ---------------------------------------------------------------- answers

module _ {s text text₁ : Text} {store ends store₁ ends₁ : Halves} {p : Progress} {r : Read}
    (f : Reads (reading ⟨name⟩) (keep (p.depth + 1)) (p.at + 1) s (mem text store ends) (mem text₁ store₁ ends₁) p r) {σ : State} (h : Holds s (mem text store ends) p σ) where
  abbrev pub Named : Memory → Read → Type 0
  Named m' v = Refines (keep p.depth) p.depth s (window (mem text store ends) p) (p.at + 1) m' v (function_or_data reading σ)

  pub name_refused : {m' : Memory} {j : Refusal} → r ≡ Refused j → Named m' r
  name_refused e = by (named_is σ) (refused_on from_name e (f σ h))

  module _ {named : Progress} {n : ℕ} (e : r ≡ read named n) where
    pub name_got : Got (keep (p.depth + 1)) p.depth s (window (mem text store ends) p) (p.at + 1) (mem text₁ store₁ ends₁) named n (reading ⟨name⟩ σ)
    name_got = got e (f σ h)

    module _ {next : Progress} (z : next ≡ cv_to named 0 0) where
      abbrev pub there : State
      there = with_cv [] name_got.state

      pub name_holds : Holds s (mem text₁ store₁ ends₁) next there
      unfolding each
      name_holds = by_state z (holds_cv name_got.wrote.holds 0 0 (omega arith) (omega arith))

      pub name_fits : (n ≤ next.top) × (n ≤ most_text_bytes)
      name_fits =
          let y = wrote_fits name_got.wrote (omega arith) in
          (omega (arith, y.0, ap (λ (x : Progress). x.top) z), y.1)

      name_stands : Stands (keep (p.depth + 1)) p.depth s (window (mem text store ends) p) (p.at + 1) (mem text₁ store₁ ends₁) next n name_got.said there
      name_stands =
          let w = name_got.wrote in
          record {
            holds = name_holds;
            tail = subst (λ (x : Progress). Tail (keep (p.depth + 1)) (take x.top text₁) (window (mem text store ends) p ++ name_got.said)) (sym z) w.tail;
            size = omega (arith, w.size, w.short);
            level = ap (λ (x : Progress). x.depth) z ∙ w.level;
            more = omega (arith, w.more, ap (λ (x : Progress). x.at) z);
            least = omega arith;
            most = omega (arith, h.deep);
          }

      abbrev left : ℕ
      left = named.cv.from

      abbrev right : ℕ
      right = named.cv.to

      name_is : (over : Bool) → ended (drop next.at s) ≡ over → function_or_data reading σ ≡ named_on name_got.said (qualified_by s left right) over there
      unfolding onto
      name_is over x =
          let y = name_got in
          named_is σ
          ∙ ap (onto from_name) y.is
          ∙ ap (λ (q : Text). named_on y.said q (ended y.state.rest) there) y.wrote.holds.cv
          ∙ ap (λ (q : Bool). named_on y.said (qualified_by s left right) q there) (ap ended (y.wrote.holds.rest ∙ ap (λ (w : Progress). drop w.at s) (sym z)) ∙ x)

      pub name_over : {m' : Memory} {v : Read} → ended (drop next.at s) ≡ true → Qualifies s (mem text₁ store₁ ends₁) m' next n left right v → Named m' v
      unfolding if◌then◌otherwise◌
      name_over x g = by (name_is true x) (less (omega arith) (g _ _ _ _ _ _ name_stands))

      templated_is : (q : Bool) → next.templated ≡ q →
          function_on name_got.said (qualified_by s left right) there.templated there ≡ function_on name_got.said (qualified_by s left right) q there
      templated_is q x = ap (λ (w : Bool). function_on name_got.said (qualified_by s left right) w there) (name_holds.templated ∙ x)

      pub name_templated : {m' : Memory} {v : Read} → ended (drop next.at s) ≡ false → next.templated ≡ true →
          GoesOn with_returned s (mem text₁ store₁ ends₁) m' next n left right v → Named m' v
      unfolding if◌then◌otherwise◌
      name_templated x y g =
          by (name_is false x ∙ templated_is true y ∙ returned_is name_got.said (qualified_by s left right) there)
          (goes_on_at with_returned left right g name_stands)

      pub name_plain : {m' : Memory} {v : Read} → ended (drop next.at s) ≡ false → next.templated ≡ false →
          GoesOn with_parameters s (mem text₁ store₁ ends₁) m' next n left right v → Named m' v
      unfolding if◌then◌otherwise◌ onto
      name_plain x y g = by (name_is false x ∙ templated_is false y) (goes_on_at with_parameters left right g name_stands)
