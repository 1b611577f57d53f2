-- Laws of a nested name's loop, as a demangler has it: what is known behind N and the qualifiers, and of each part. Assumes nothing.
use Rattle.grammar.specs.Laws.Places.{byte_there}
use Rattle.std.proofs.Common.{◌≡◌, ℕ, ◌+◌, ◌-◌, Bool, true, false, ◌∷◌, refl, sym, ap, ◌∙◌, subst, arith}
use Rattle.std.specs.Prelude.{List, Result, Ok, Err, Some, None, ◌<◌, ◌≤◌, ◌≢◌, length, drop}
use Rattle.grammar.specs.Text.{Text, run}
use Rattle.grammar.specs.Reader.{State, onto}
use Rattle.grammar.specs.Grammar.{reading, ⟨nested-name⟩}
use Rattle.grammar.specs.Laws.Agree.{moved}
use Rattle.grammar.specs.Laws.Loops.{closed}
use Rattle.grammar.specs.States.{moved_to, peeked}
use Rattle.grammar.specs.declared.refusal.Refusal.{Refusal}
use Rattle.grammar.specs.declared.refusal.Refusal.TheVariants.{NoRule}
use Rattle.parser.specs.Leaves.{qualifies}
use Rattle.parser.specs.declared.demangler.Demangler.{Demangler}
use Rattle.parser.specs.Demanglers.{state_of, memory_of, Held, Prepared, Parses, given_length, lent}
use Rattle.parser.specs.Holds.{part, refuses, keep}
use Rattle.parser.specs.Laws.Demanglers.{Passed, ParsesInAny, parses_lent, given_by}
use Rattle.parser.specs.Laws.Holds.{by, holds_moved, sooner}
use Rattle.reader.specs.Lists.{ReadsPart, prefix_as, PreparedFor}
use Rattle.reader.specs.declared.lists.Parts.{Parts}
use Rattle.reader.specs.Laws.Demanglers.{held_from}
use Rattle.reader.specs.Laws.Nested.{no_parts, prefixes, named, nested_open, Prefixed, prefixed_4, prefixed_E, ReadsNext, prefixed_refuses, prefixed_more, further, Prefixing}
use Rattle.reader.specs.Laws.Nested.{prefixing_more, ready_for}
use Rattle.grammar.specs.Grammar as g
use Rattle.reader.specs.Cycle as cycle

module _ {s : Text} (d : Demangler) {d' : Demangler} {q : Parts} {c : ℕ} (r : Result Parts Refusal) (y : d.s.now ≡ s)
    (h : (t : List ℕ) → drop d.state.at d.s.now ≡ c ∷ t → cycle.Prefixed (g.prefix reading) d d' q r) where
  pub prefix_from : ReadsNext c s (memory_of d) (memory_of d') (state_of d) q (prefix_as (state_of d') r)
  prefix_from t e =
      subst (λ (x : Text). ReadsPart (g.prefix reading) x (memory_of d) (memory_of d') (state_of d) q (prefix_as (state_of d') r)) y (h t (ap (drop d.state.at) y ∙ e)).is

  pub symbol_behind : peeked (drop d.state.at d.s.now) ≡ Some c → d'.s.now ≡ s
  symbol_behind e = (h (drop (d.state.at + 1) d.s.now) (byte_there d.s.now d.state.at e)).symbol ∙ y

pub same_behind :
    (d : Demangler) {d' : Demangler} {q : Parts} {c : ℕ} (r : Result Parts Refusal) {l : List ℕ} → lent d ≡ l →
    ((t : List ℕ) → drop d.state.at d.s.now ≡ c ∷ t → cycle.Prefixed (g.prefix reading) d d' q r) → peeked (drop d.state.at d.s.now) ≡ Some c → lent d' ≡ l
same_behind d r y h e = (h (drop (d.state.at + 1) d.s.now) (byte_there d.s.now d.state.at e)).same ∙ y

-- behind the E of a nested name whose qualifiers stand between the two places
abbrev pub closed_at : Bool → ℕ → ℕ → Demangler → Demangler
closed_at true from to d = record d { state = record d.state { at = d.state.at + 1; cv = record { from = from; to = to }; templated = false } }
closed_at false from to d = record d { state = record d.state { at = d.state.at + 1; cv = record { from = from; to = to } } }

closed_lent : (z : Bool) (from to : ℕ) (d : Demangler) → lent (closed_at z from to d) ≡ lent d
closed_lent true from to d = refl
closed_lent false from to d = refl

module _ {d d₁ : Demangler} {to : ℕ} (v : Passed 78 d d₁) (i : (to ≡ d₁.state.at + length (run qualifies (drop d₁.state.at d₁.s.now))) × (to ≤ length d₁.s.now)) where
  place_behind : (to ≡ d.state.at + 1 + length (run qualifies (drop (d.state.at + 1) d.s.now))) × (to ≤ length d.s.now)
  place_behind = subst (λ (x : Demangler). (to ≡ x.state.at + length (run qualifies (drop x.state.at x.s.now))) × (to ≤ length x.s.now)) v.is i

  -- the loop has come as far as d₂
  module _ (d₂ : Demangler) {q : Parts} (y : d₂.s.now ≡ d₁.s.now) (l : Prefixing d₁.s.now (memory_of d₁) (moved_to (state_of d₁) to) (memory_of d₂) (state_of d₂) q) where
    symbol_first : d₂.s.now ≡ d.s.now
    symbol_first = y ∙ ap (λ (x : Demangler). x.s.now) v.is

    ahead_first : {o : _} → peeked (drop d₂.state.at d₂.s.now) ≡ o → peeked (drop d₂.state.at d.s.now) ≡ o
    ahead_first e = ap (λ (t : Text). peeked (drop d₂.state.at t)) (sym symbol_first) ∙ e

    module _ {σ : State} (h : Held d σ) where
      opened_by : reading ⟨nested-name⟩ σ ≡ onto (named (part d.s.now (d.state.at + 1) to)) (onto closed (prefixes no_parts (moved (drop to d.s.now) σ)))
      opened_by = nested_open d.s.now d.state.at σ h.rest v.past.ahead place_behind.0

      parts_by_now : Prefixed d.s.now (memory_of d) (moved_to (state_of d) to) (memory_of d₂) (state_of d₂) q (moved (drop to d.s.now) σ)
      parts_by_now =
          (subst (λ (x : Demangler). Prefixing x.s.now (memory_of x) (moved_to (state_of x) to) (memory_of d₂) (state_of d₂) q) v.is l).so_far
          (moved (drop to d.s.now) σ)
          (holds_moved h to place_behind.1)

    -- no E is left
    pub nested_ends : {k from : ℕ} → peeked (drop d₂.state.at d₂.s.now) ≡ None → ParsesInAny (reading ⟨nested-name⟩) k from d d₂ (Err NoRule)
    nested_ends e = record {
      symbol = symbol_first;
      reads = λ σ h. by (opened_by h ∙ prefixed_4 (parts_by_now h) (part d.s.now (d.state.at + 1) to) (ahead_first e)) refuses;
    }

    -- the loop is behind the N
    pub nested_further : Prepared d → (d.state.at + 1 ≤ d₂.state.at) × (d₂.s.now ≡ d.s.now)
    nested_further (σ, h) = (omega (arith, (parts_by_now h).here.stands.more, place_behind.0), symbol_first)

    -- what one part more asks for
    pub nested_ready : Prepared d → PreparedFor q d₂
    nested_ready (σ, h) = let w = parts_by_now h in ((w.state, held_from d₂ symbol_first w.here.stands.holds), ready_for w)

    module _ {c : ℕ} (e : peeked (drop d₂.state.at d₂.s.now) ≡ Some c) where
      -- at the E
      pub nested_closes :
          (z : Bool) {d₃ : Demangler} {r : Result ℕ Refusal} → c ≡ 69 → q.structor ≡ z → r ≡ given_length q.n → d₃ ≡ closed_at z d₁.state.at to d₂ →
          ParsesInAny (reading ⟨nested-name⟩) (keep d.state.depth) (d.state.at + 1) d d₃ r
      nested_closes z {d₃} {r} f w j u =
          subst
          (λ (x : Demangler). ParsesInAny (reading ⟨nested-name⟩) (keep d.state.depth) (d.state.at + 1) d x r)
          (sym (u ∙ ap (λ (k : ℕ). closed_at z k to d₂) (ap (λ (x : Demangler). x.state.at) v.is)))
          (at_E z w)
        where
          at_E : (z : Bool) → q.structor ≡ z → ParsesInAny (reading ⟨nested-name⟩) (keep d.state.depth) (d.state.at + 1) d (closed_at z (d.state.at + 1) to d₂) r
          at_E true w = record {
            symbol = symbol_first;
            reads = λ σ h.
                by (opened_by h)
                (sooner (omega (arith, place_behind.0))
                (prefixed_E (parts_by_now h) (d.state.at + 1) to (omega (arith, place_behind.0)) place_behind.1 (ahead_first e) f w (given_by (state_of (closed_at true (d.state.at + 1) to d₂)) q.n j)));
          }
          at_E false w = record {
            symbol = symbol_first;
            reads = λ σ h.
                by (opened_by h)
                (sooner (omega (arith, place_behind.0))
                (prefixed_E (parts_by_now h) (d.state.at + 1) to (omega (arith, place_behind.0)) place_behind.1 (ahead_first e) f w (given_by (state_of (closed_at false (d.state.at + 1) to d₂)) q.n j)));
          }

      module _ (n : c ≢ 69) {d₃ : Demangler} where
        -- a part that is none
        pub nested_refuses :
            {k from : ℕ} {j : Refusal} → ((t : List ℕ) → drop d₂.state.at d₂.s.now ≡ c ∷ t → cycle.Prefixed (g.prefix reading) d₂ d₃ q (Err j)) →
            ParsesInAny (reading ⟨nested-name⟩) k from d d₃ (Err j)
        nested_refuses {k} {from} {j} x = record {
          symbol = symbol_behind d₂ (Err j) symbol_first x e;
          reads = λ σ h.
              by (opened_by h) (prefixed_refuses (parts_by_now h) (ahead_first e) n (prefix_from d₂ (Err j) symbol_first x) (part d.s.now (d.state.at + 1) to) refl refl);
        }

        module _ {q' : Parts} (x : (t : List ℕ) → drop d₂.state.at d₂.s.now ≡ c ∷ t → cycle.Prefixed (g.prefix reading) d₂ d₃ q (Ok q')) where
          pub nested_nearer : Prepared d → length d₃.s.now - d₃.state.at < length d₂.s.now - d₂.state.at
          nested_nearer (σ, h) =
              let w = prefixed_more (parts_by_now h) (ahead_first e) n (prefix_from d₂ (Ok q') symbol_first x) refl in
              omega (
                arith,
                further (parts_by_now h) (ahead_first e) n (prefix_from d₂ (Ok q') symbol_first x) refl,
                w.here.stands.holds.place,
                ap length (symbol_behind d₂ (Ok q') symbol_first x e),
                ap length symbol_first,
              )

          pub nested_more : Prefixing d₁.s.now (memory_of d₁) (moved_to (state_of d₁) to) (memory_of d₃) (state_of d₃) q'
          nested_more = prefixing_more l (ap (λ (t : Text). peeked (drop d₂.state.at t)) (sym y) ∙ e) n (prefix_from d₂ (Ok q') y x) refl

  -- the loop has come as far as d₂, in the slices that were lent
  module _ (d₂ : Demangler) {q : Parts} (y : d₂.s.now ≡ d₁.s.now) (w : lent d₂ ≡ lent d₁) (l : Prefixing d₁.s.now (memory_of d₁) (moved_to (state_of d₁) to) (memory_of d₂) (state_of d₂) q) where
    same_first : lent d₂ ≡ lent d
    same_first = w ∙ ap lent v.is

    pub nested_ends_lent : {k from : ℕ} → peeked (drop d₂.state.at d₂.s.now) ≡ None → Parses (reading ⟨nested-name⟩) k from d d₂ (Err NoRule)
    nested_ends_lent e = parses_lent (nested_ends d₂ y l e) same_first

    module _ {c : ℕ} (e : peeked (drop d₂.state.at d₂.s.now) ≡ Some c) where
      pub nested_closes_lent :
          (z : Bool) {d₃ : Demangler} {r : Result ℕ Refusal} → c ≡ 69 → q.structor ≡ z → r ≡ given_length q.n → d₃ ≡ closed_at z d₁.state.at to d₂ →
          Parses (reading ⟨nested-name⟩) (keep d.state.depth) (d.state.at + 1) d d₃ r
      nested_closes_lent z f g j u = parses_lent (nested_closes d₂ y l e z f g j u) (ap lent u ∙ closed_lent z d₁.state.at to d₂ ∙ same_first)

      module _ (n : c ≢ 69) {d₃ : Demangler} where
        pub nested_refuses_lent :
            {k from : ℕ} {j : Refusal} → ((t : List ℕ) → drop d₂.state.at d₂.s.now ≡ c ∷ t → cycle.Prefixed (g.prefix reading) d₂ d₃ q (Err j)) →
            Parses (reading ⟨nested-name⟩) k from d d₃ (Err j)
        nested_refuses_lent {j = j} x = parses_lent (nested_refuses d₂ y l e n x) (same_behind d₂ (Err j) same_first x e)
