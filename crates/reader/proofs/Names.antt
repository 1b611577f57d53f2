-- Laws of a name's arguments and its mark, of std:: in front, and of a constructor or destructor that stands alone. Assumes nothing.
use Rattle.std.proofs.Common.{◌≡◌, ℕ, ◌+◌, ◌≤◌, Bool, true, false, ◌&&◌, [], ◌∷◌, ◌++◌, length, drop, length-drop, refl, sym, ap, subst, arith}
use Rattle.std.proofs.lemmas.Bool.{false≢true}
use Rattle.std.specs.Prelude.{Option, Some, Result, nat_eq}
use Rattle.grammar.specs.declared.refusal.Refusal.{Refusal}
use Rattle.grammar.specs.Tables.{◌⇒◌}
use Rattle.grammar.specs.Reader.{State, Reader, onto, push_sub, give, at_code, refused}
use Rattle.grammar.specs.Text.{Text, b, starts, run}
use Rattle.grammar.specs.Grammar.{reading, ⟨unqualified-name⟩, name_instance, std_ahead, std_name}
use Rattle.grammar.specs.Laws.Agree.{moved}
use Rattle.grammar.specs.Laws.Runs.{need_here}
use Rattle.store.specs.declared.table.Table.{Table}
use Rattle.parser.specs.declared.demangler.Demangler.{Demangler}
use Rattle.parser.specs.Demanglers.{state_of, memory_of, Held, at_place, outcome, lent}
use Rattle.grammar.specs.States.{read, moved_to, peeked}
use Rattle.parser.specs.Laws.Demanglers.{puts_of}
use Rattle.parser.specs.Holds.{Refines, window, keep}
use Rattle.reader.specs.Cycle.{Structor, structor, short}
use Rattle.reader.specs.Laws.Opers.{unq_short, unq_structor}
use Rattle.reader.specs.Instances.{bare, marked}
use Rattle.reader.specs.Laws.Instances.{Passes, passes_none, passes_bare, passes_marked}

module _ (q : Bool) (d d' : Demangler) where
  pub bared_not : q ≡ false → d' ≡ d → Passes (bare q) d d'
  bared_not e f = rw (e, f) (passes_none d (λ σ. refl))

  pub bared : (x : Table) → q ≡ true → d' ≡ record d { args = x } → (x.bytes ≡ d.args.bytes) × (x.ends ≡ d.args.ends) → (x.count ≡ 0) × (x.used ≡ 0) → Passes (bare q) d d'
  bared x e f g h = rw (e, f) (passes_bare d x g h)

  pub marked_not : q ≡ false → d' ≡ d → Passes (marked q) d d'
  marked_not e f = rw (e, f) (passes_none d (λ σ. refl))

  pub marked_too : q ≡ true → d' ≡ record d { state = record d.state { templated = true } } → Passes (marked q) d d'
  marked_too e f = rw (e, f) (passes_marked d)

abbrev pub std-rest : Text → Reader Text
std-rest x u = onto (λ _. at_code ("I" ⇒ name_instance reading (b "std::" ++ x) ∷ []) (give (b "std::" ++ x))) (push_sub (b "std::" ++ x) u)

and_first : (p q : Bool) → (p && q) ≡ true → p ≡ true
and_first true q e = refl
and_first false q e = e

std-starts : (t : Text) → std_ahead t ≡ true → starts t (b "St") ≡ true
unfolding std_ahead starts b
std-starts [] h = absurd (false≢true h)
std-starts (x ∷ []) h = absurd (false≢true h)
std-starts (x ∷ y ∷ []) h = absurd (false≢true h)
std-starts (x ∷ y ∷ z ∷ t) h = and_first _ _ h

std-long : (t : Text) → std_ahead t ≡ true → 2 ≤ length t
unfolding std_ahead
std-long [] h = absurd (false≢true h)
std-long (x ∷ []) h = absurd (false≢true h)
std-long (x ∷ y ∷ t) h = omega arith

pub std-inside : (s : Text) (at : ℕ) → std_ahead (drop at s) ≡ true → at + 2 ≤ length s
std-inside s at h = omega (arith, std-long (drop at s) h, length-drop at s)

pub std-open : (s : Text) (at : ℕ) (σ : State) → σ.rest ≡ drop at s → std_ahead (drop at s) ≡ true → std_name reading σ ≡ onto std-rest (reading ⟨unqualified-name⟩ (moved (drop (at + 2) s) σ))
unfolding std_name onto b
std-open s at σ e h = ap (onto (λ _ u. onto std-rest (reading ⟨unqualified-name⟩ u))) (need_here "St" s at σ e (std-starts (drop at s) h))

pub structor_symbol : {w : Text} {d d' : Demangler} {r : Result ℕ Refusal} → Structor w d d' r → d'.s.now ≡ d.s.now
structor_symbol (structor l f n u) = ap (λ (x : Demangler). x.s.now) f
structor_symbol (short l f n) = f

pub structor_same : {w : Text} {d d' : Demangler} {r : Result ℕ Refusal} → Structor w d d' r → lent d' ≡ lent d
structor_same (structor l f n u) = n
structor_same (short l f n) = n

module _ (d : Demangler) {to c : ℕ} {o : Option ℕ} {σ : State} (h : Held d σ) (n : (to ≡ d.state.at + length (run (λ x. nat_eq x 76) (drop d.state.at d.s.now))) × (to ≤ length d.s.now))
    (k : o ≡ peeked (drop to d.s.now)) (e : o ≡ Some c) (y : ℕ) (i : c ≡ y) {w : Text} (z : length w ≡ 6)
    (one : reading ⟨unqualified-name⟩ (moved (y ∷ []) σ) ≡ refused 4) (two : (u : Text) (x : ℕ) → reading ⟨unqualified-name⟩ (moved (y ∷ x ∷ u) σ) ≡ give w (moved u σ)) where
  pub structor_alone : {d' : Demangler} {r : Result ℕ Refusal} → Structor w (at_place d to) d' r →
      Refines (keep d.state.depth) d.state.depth d.s.now (window (memory_of d) (state_of d)) (d.state.at + 1) (memory_of d') (outcome (state_of d') r) (reading ⟨unqualified-name⟩ σ)
  structor_alone (short l f g) = unq_short {q = moved_to (state_of d) to} h n refl k e y one i l
  structor_alone {d' = d'} (structor l f g u) =
      subst
      (λ (x : Demangler). Refines (keep d.state.depth) d.state.depth d.s.now (window (memory_of d) (state_of d)) (d.state.at + 1) (memory_of x) (read (state_of x) (length w)) (reading ⟨unqualified-name⟩ σ))
      (sym f)
      (subst
      (λ (j : ℕ). Refines (keep d.state.depth) d.state.depth d.s.now (window (memory_of d) (state_of d)) (d.state.at + 1) (memory_of (record d { state = record d.state { at = to + 2 }; stack = d'.stack })) (read (state_of (record d { state = record d.state { at = to + 2 }; stack = d'.stack })) j) (reading ⟨unqualified-name⟩ σ))
      (sym z)
      (unq_structor {q = moved_to (state_of d) to} h n refl k e (omega (arith, l)) refl y z two i (puts_of (at_place d (to + 2)) d'.stack u)))
