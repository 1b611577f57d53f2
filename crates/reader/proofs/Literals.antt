-- Laws of literals: a mangled name, and a value printed. Assumes nothing.
use Rattle.std.proofs.Common.{◌≡◌, ℕ, ◌+◌, [], ◌∷◌, refl, sym, ap, ◌∙◌, subst}
use Rattle.std.specs.Prelude.{Result, Ok, Bool, drop, true, ◌-◌, take}
use Rattle.grammar.specs.Text.{Text, starts}
use Rattle.grammar.specs.Reader.{give}
use Rattle.grammar.specs.Grammar.{reading, ⟨name⟩, ⟨expr-primary⟩, literal}
use Rattle.reader.specs.Laws.Lits.{lit_name_E, lit_name_open, Printed}
use Rattle.parser.specs.Holds.{part, Stands, Memory, keep, Refines}
use Rattle.parser.specs.declared.demangler.Demangler.{Demangler}
use Rattle.parser.specs.Demanglers.{state_of, memory_of, Eats, eats, stays, at_place, Prints, Parses, outcome}
use Rattle.grammar.specs.declared.refusal.Refusal.{Refusal}

-- a mangled name as a literal, and the E behind it, if there is one
pub name_primary :
    (d : Demangler) {d₃ d₄ : Demangler} {n : ℕ} {q : Bool} → starts (drop d.state.at d.s.now) (76 ∷ []) ≡ true → starts (drop (d.state.at + 1) d.s.now) (95 ∷ []) ≡ true →
    Parses (reading ⟨name⟩) (keep (d.state.depth + 1)) (d.state.at + 1 + 1 + 1) (at_place d (d.state.at + 1 + 1)) d₃ (Ok n) → Eats 69 d₃ d₄ q → Parses (reading ⟨expr-primary⟩) (keep d.state.depth) (d.state.at + 1) d d₄ (Ok n)
name_primary d {d₃} {d₄} {n} l g w (eats f x) = subst (λ (y : Demangler). Parses (reading ⟨expr-primary⟩) (keep d.state.depth) (d.state.at + 1) d y (Ok n)) (sym x) (record {
  symbol = w.symbol;
  same = w.same;
  reads = λ σ h. lit_name_E h l g refl w.reads refl (ap (λ (t : Text). starts (drop d₃.state.at t) (69 ∷ [])) (sym w.symbol) ∙ f) refl;
})
name_primary d {d₃} {d₄} {n} l g w (stays f x) = subst (λ (y : Demangler). Parses (reading ⟨expr-primary⟩) (keep d.state.depth) (d.state.at + 1) d y (Ok n)) (sym x) (record {
  symbol = w.symbol;
  same = w.same;
  reads = λ σ h. lit_name_open h l g refl w.reads refl (ap (λ (t : Text). starts (drop d₃.state.at t) (69 ∷ [])) (sym w.symbol) ∙ f);
})

-- a literal printed, as the law of literals asks for it
pub printed_from :
    {s : Text} (d₃ : Demangler) {d₅ d₆ : Demangler} (to : ℕ) {n : ℕ} {r : Result ℕ Refusal} → d₃.s.now ≡ s → d₅ ≡ record d₃ { state = record d₃.state { at = to + 1 } } → d₅.s.now ≡ s → Prints (take (to - d₃.state.at) (drop d₃.state.at d₅.s.now)) n d₅ d₆ r →
    Printed s (memory_of d₃) (memory_of d₆) (state_of d₅) n (part s d₃.state.at to) (outcome (state_of d₆) r)
printed_from {s} d₃ {d₅} {d₆} to {n} {r} e f y q k l base from t σ h a z =
    subst (λ (x : Text). Refines k l s base from (memory_of d₆) (outcome (state_of d₆) r) (give (literal t x) σ)) (ap (λ (x : Text). take (to - d₃.state.at) (drop d₃.state.at x)) y)
    (q.is k l s base from t σ (subst (λ (m : Memory). Stands (k + 18) l s base from m (state_of d₅) n t σ) (sym (ap memory_of f)) h) a z)
