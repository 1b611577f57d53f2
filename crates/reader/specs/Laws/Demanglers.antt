-- Laws of readings one behind another: what a reading came to, as the next one asks for it, and readings one level down. Assumes nothing.
use Rattle.std.specs.Prelude.{◌≡◌, ℕ, ◌+◌, ◌≤◌, Bool, [], ◌∷◌, drop, Result, Ok, Err, refl}
use Rattle.std.proofs.Common.{sym, ap, subst, ◌∙◌, le-ltb}
use Rattle.grammar.specs.Text.{Text, starts, if◌then◌otherwise◌}
use Rattle.grammar.specs.Limits.{most_open}
use Rattle.grammar.specs.Reader.{State, Reader, entered}
use Rattle.grammar.specs.Grammar.{Production, reading}
use Rattle.grammar.specs.Grammar as g
use Rattle.grammar.specs.States.{Progress, Read, Refused}
use Rattle.grammar.specs.States as states
use Rattle.grammar.specs.declared.refusal.Refusal.{Refusal}
use Rattle.grammar.specs.declared.refusal.Refusal.TheVariants.{TooDeep}
use Rattle.parser.specs.declared.demangler.Demangler.{Demangler}
use Rattle.parser.specs.Demanglers.{state_of, memory_of, Held, Prepared, at_depth, Enters, outcome, Parses, lent}
use Rattle.parser.specs.Holds.{Holds, Reads, window, keep}
use Rattle.parser.specs.Laws.Demanglers.{deeper_by_one, went_in, stayed_out, prepared_deeper}
use Rattle.parser.specs.Laws.Holds.{Got, got}
use Rattle.reader.specs.Cycle.{Instance, Instanced}
use Rattle.reader.specs.Laws.Opens.{too_deep, still_refused, left_again}

-- ---------------------------------------------------------------- the symbol is the first one's

pub held_from : (d' : Demangler) {s : Text} {σ : State} → d'.s.now ≡ s → Holds s (memory_of d') (state_of d') σ → Held d' σ
held_from d' {σ = σ} e h = subst (λ (x : Text). Holds x (memory_of d') (state_of d') σ) (sym e) h

pub reads_from :
    {f : Reader Text} {k from : ℕ} {s : Text} {d' d'' : Demangler} {r : Result ℕ Refusal} → d'.s.now ≡ s → Parses f k from d' d'' r →
    Reads f k from s (memory_of d') (memory_of d'') (state_of d') (outcome (state_of d'') r)
reads_from {f} {k} {from} {d' = d'} {d''} {r} e h = subst (λ (x : Text). Reads f k from x (memory_of d') (memory_of d'') (state_of d') (outcome (state_of d'') r)) e h.reads

pub instance_from :
    {f : Text → Reader Text} {x : ℕ} {s : Text} {d' d'' : Demangler} (r : Result ℕ Refusal) → d'.s.now ≡ s → Instanced f x d' d'' r →
    Instance f x s (memory_of d') (memory_of d'') (state_of d') (outcome (state_of d'') r)
instance_from {f} {x} {d' = d'} {d''} r e h = subst (λ (y : Text). Instance f x y (memory_of d') (memory_of d'') (state_of d') (outcome (state_of d'') r)) e h.is

-- the byte ahead
pub ahead_from : (d' : Demangler) {s : Text} {σ : State} (c : ℕ) {r q : Bool} → d'.s.now ≡ s → Holds s (memory_of d') (state_of d') σ → r ≡ starts (drop d'.state.at d'.s.now) (c ∷ []) → r ≡ q → starts σ.rest (c ∷ []) ≡ q
ahead_from d' c e h f i = ap (λ (t : Text). starts t (c ∷ [])) (h.rest ∙ ap (drop d'.state.at) (sym e)) ∙ sym f ∙ i

-- ---------------------------------------------------------------- what a reading came to

module _ {f : Reader Text} {k from : ℕ} {d d' : Demangler} {n : ℕ} (h : Parses f k from d d' (Ok n)) where
  pub read_of : {σ : State} → Held d σ → Got k d.state.depth d.s.now (window (memory_of d) (state_of d)) from (memory_of d') (state_of d') n (f σ)
  read_of {σ} i = got refl (h.reads σ i)

  pub prepared_behind : Prepared d → Prepared d'
  prepared_behind i = let w = read_of i.1 in (w.state, held_from d' h.symbol w.wrote.holds)

-- ---------------------------------------------------------------- one level down

refused_entered : (p : Progress) → most_open ≤ p.depth → Refused TooDeep ≡ states.entered p
unfolding if◌then◌otherwise◌
refused_entered p l = rw (le-ltb p.depth most_open l)

module _ (k : Production) (f : Reader Text) (opens : (σ : State) → g.production reading k σ ≡ entered f σ) (d : Demangler) {d₁ : Demangler} where
  pub deep_parses : {e : Refusal} → Enters d d₁ (Err e) → Parses (reading k) (keep (d.state.depth + 1)) (d.state.at + 1) d d₁ (Err e)
  deep_parses {e} h =
      let w = stayed_out h in
      record {
        symbol = ap (λ (x : Demangler). x.s.now) w.is;
        same = ap lent w.is;
        reads = too_deep k f opens (ap (λ (x : Refusal). Refused x) w.why_is ∙ refused_entered (state_of d) w.so) refl;
      }

  pub prepared_in : {u : Unit {0}} → Enters d d₁ (Ok u) → Prepared d → Prepared d₁
  prepared_in i h = let w = went_in i in prepared_deeper w.1 w.0 h

  module _ {d₂ : Demangler} {u : Unit {0}} (i : Enters d d₁ (Ok u)) where
    inner_parses : {r : Result ℕ Refusal} → Parses f (keep d₁.state.depth) (d₁.state.at + 1) d₁ d₂ r → Parses f (keep (d.state.depth + 1)) (d.state.at + 1) (deeper_by_one d) d₂ r
    inner_parses {r} h = subst (λ (x : Demangler). Parses f (keep x.state.depth) (x.state.at + 1) x d₂ r) (went_in i).1 h

    pub refused_parses : {e : Refusal} → Parses f (keep d₁.state.depth) (d₁.state.at + 1) d₁ d₂ (Err e) → Parses (reading k) (keep (d.state.depth + 1)) (d.state.at + 1) d d₂ (Err e)
    refused_parses h =
        let w = inner_parses h in
        record { symbol = w.symbol; same = w.same; reads = still_refused k f opens {p = state_of d} (went_in i).0 refl w.reads refl }

    pub read_parses :
        {d₃ : Demangler} {n : ℕ} → d₃ ≡ at_depth d₂ d.state.depth → Parses f (keep d₁.state.depth) (d₁.state.at + 1) d₁ d₂ (Ok n) →
        Parses (reading k) (keep (d.state.depth + 1)) (d.state.at + 1) d d₃ (Ok n)
    read_parses {n = n} e h =
        let w = inner_parses h in
        subst (λ (x : Demangler). Parses (reading k) (keep (d.state.depth + 1)) (d.state.at + 1) d x (Ok n)) (sym e)
        (record { symbol = w.symbol; same = w.same; reads = left_again k f opens {p = state_of d} (went_in i).0 refl w.reads refl refl })
