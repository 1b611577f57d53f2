-- Laws of names and types with template arguments. Assumes nothing.
use Rattle.std.specs.Prelude.{◌≡◌, ℕ, Bool, true, false, ◌++◌, refl}
use Rattle.std.proofs.Common.{ap, subst, sym, arith}
use Rattle.grammar.specs.Text.{Text}
use Rattle.grammar.specs.Reader.{State, onto, set_args, set_templated, recorded}
use Rattle.grammar.specs.Grammar.{reading, ⟨template-args⟩, name_args, name_instance, type_instance, std_ahead}
use Rattle.store.specs.Laws.Entries.{entries_sized, no_entries}
use Rattle.store.specs.declared.table.Table.{Table}
use Rattle.parser.specs.declared.demangler.Demangler.{Demangler}
use Rattle.parser.specs.Demanglers.{state_of, memory_of, Held, lent}
use Rattle.parser.specs.Holds.{Holds, Stands, window}
use Rattle.parser.specs.Laws.Halves.{holds_args}
use Rattle.parser.specs.Laws.Holds.{holds_templated}
use Rattle.reader.specs.Instances.{instance_of, at_S_of, bare, marked}
use Rattle.reader.specs.Laws.Opens.{at_S, s_name_is, s_type_is}
use Rattle.reader.specs.Laws.Standing.{stands_kept}

pub instance_is : (q : Bool) (x : Text) (σ : State) → instance_of q x σ ≡ onto (λ a u. recorded (x ++ a) (marked q u)) (reading ⟨template-args⟩ (bare q σ))
unfolding name_instance type_instance name_args set_args set_templated onto
instance_is true x σ = refl
instance_is false x σ = refl

pub at_S_is : (q : Bool) (σ : State) → at_S_of q σ ≡ at_S (instance_of q) (std_ahead σ.rest) σ
at_S_is true σ = s_name_is σ
at_S_is false σ = s_type_is σ

-- ---------------------------------------------------------------- other arguments, and the mark of a name that has some

-- d' is d in the state that f gives, and the stack is the same
pub record Passes (f : State → State) (d d' : Demangler) : Type 0 where
  pub others : d' ≡ record d { state = record d.state { templated = d'.state.templated }; args = d'.args }
  pub same : lent d' ≡ lent d
  pub holds : (σ : State) → Held d σ → Holds d.s.now (memory_of d') (state_of d') (f σ)

-- a text that stands goes on standing
pub passed :
    {k l : ℕ} {base : Text} {from n : ℕ} {d d' : Demangler} {t : Text} {σ : State} {f : State → State} →
    Passes f d d' → Stands k l d.s.now base from (memory_of d) (state_of d) n t σ → Stands k l d.s.now base from (memory_of d') (state_of d') n t (f σ)
passed {d = d} {σ = σ} c h =
    stands_kept h (c.holds σ h.holds) (ap (λ (x : Demangler). window (memory_of x) (state_of x)) c.others) (ap (λ (x : Demangler). x.state.depth) c.others)
    (omega (arith, h.more, ap (λ (x : Demangler). x.state.at) c.others))

pub passes_none : (d : Demangler) {f : State → State} → ((σ : State) → f σ ≡ σ) → Passes f d d
passes_none d e = record { others = refl; same = refl; holds = λ σ h. subst (λ (x : State). Held d x) (sym (e σ)) h }

pub passes_bare : (d : Demangler) (x : Table) → (x.bytes ≡ d.args.bytes) × (x.ends ≡ d.args.ends) → (x.count ≡ 0) × (x.used ≡ 0) → Passes (bare true) d (record d { args = x })
passes_bare d x e f = record {
  others = refl;
  same = rw (e.0, e.1) refl;
  holds = λ σ h. holds_args h (rw (e.0, e.1, f.0, f.1) (no_entries (entries_sized h.args)));
}

pub passes_marked : (d : Demangler) → Passes (marked true) d (record d { state = record d.state { templated = true } })
passes_marked d = record { others = refl; same = refl; holds = λ σ h. holds_templated h true }
