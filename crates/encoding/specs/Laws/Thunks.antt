-- Offsets and the rows of thunks, by the bytes that stand first. Assumes nothing.
use Rattle.std.specs.Prelude.{Bool, true, false, ℕ, ◌+◌, ◌≤◌, drop, get_or, Result as Result', Ok, Err}
use mathlib.Core.List.{[], ◌∷◌}
use Rattle.std.proofs.Math.Path.{◌≡◌, refl, sym, ap, subst}
use Rattle.std.proofs.Common.{ap₂, eq-eqb, ◌∙◌, arith}
use Rattle.std.proofs.Math.ListN.{length}
use Rattle.grammar.specs.Text.{Text, b, if◌then◌otherwise◌, choose, same, starts, run, digit}
use Rattle.grammar.specs.Limits.{most_text_bytes}
use Rattle.grammar.specs.Reader.{State, Result, ok, refused, Reader, onto, go_to, start, find, by_code, cases, need}
use Rattle.grammar.specs.Grammar.{reading, unsigned, offset, labelled, thunks, function_or_data}
use Rattle.grammar.specs.Laws.Text.{same_not, starts_is, starts_nothing}
use Rattle.grammar.specs.Laws.Agree.{moved}
use Rattle.grammar.specs.Laws.Runs.{every_at, eat_here, eat_not, need_here, need_not}
use Rattle.grammar.specs.Laws.Places.{rest_some, starts_inside}
use Rattle.grammar.specs.Words.{longest_word}
use Rattle.store.specs.Stack.{Put}
use Rattle.store.specs.declared.stack.Stack.{Stack}
use Rattle.parser.specs.Holds.{Holds, window, keep}
use Rattle.parser.specs.declared.demangler.Demangler.{Demangler}
use Rattle.parser.specs.Demanglers.{state_of, memory_of, Held, Prepared, at_place, Eats, eats, stays, Needs, needs, lacks, outcome, given_length, Parses, lent}
use Rattle.parser.specs.Laws.Demanglers.{ParsesInAny, parses_in_any, held_at, puts_of, reads_of, given_by, lent_stack}
use Rattle.parser.specs.Laws.Holds.{holds_puts}
use Rattle.encoding.specs.Encodings.{Begun, Encodes, refuses, Encoded, Stepped, past, stopped, StepsOver, two_offsets}
use Rattle.encoding.specs.Laws.Answers.{encodes_by, encodes_refines}
use Rattle.encoding.specs.Laws.Specials.{fresh_holds, behind_refused, behind_got, behind_given}
use Rattle.grammar.specs.declared.refusal.Refusal.{Refusal}
use Rattle.grammar.specs.declared.refusal.Refusal.TheVariants.{NoRule}

-- ---------------------------------------------------------------- two bytes that stand first

module _ (s : Text) {x y : ℕ} where
  pub starts_both : 2 ≤ length s → get_or s 0 0 ≡ x → get_or s 1 0 ≡ y → starts s (x ∷ y ∷ []) ≡ true
  unfolding starts
  starts_both l h k =
      let e : s ≡ x ∷ y ∷ drop 2 s = rest_some s 0 (omega arith) ∙ ap₂ (λ (i : ℕ) (t : Text). i ∷ t) h (rest_some s 1 (omega arith) ∙ ap (λ (i : ℕ). i ∷ drop 2 s) k) in
      ap (λ (t : Text). starts t (x ∷ y ∷ [])) e ∙ rw (eq-eqb x x refl, eq-eqb y y refl) (starts_nothing (drop 2 s))

  pub starts_unlike : (2 ≤ length s → get_or s 0 0 ≡ x → get_or s 1 0 ≡ y → ⊥) → starts s (x ∷ y ∷ []) ≡ false
  starts_unlike h = go (starts s (x ∷ y ∷ [])) refl
    where
      go : (q : Bool) → starts s (x ∷ y ∷ []) ≡ q → q ≡ false
      go false e = refl
      go true e =
          let f = starts_is s (x ∷ y ∷ []) e in
          absurd (h (omega (arith, ap length f)) (ap (λ (t : Text). get_or t 0 0) f) (ap (λ (t : Text). get_or t 1 0) f))

-- ---------------------------------------------------------------- what is stepped over, taken apart

-- d' is d at another place, and there the grammar's x goes on
pub record Place (d d' : Demangler) (σ : State) (x : Result (Unit {0})) : Type 0 where
  pub at : ℕ
  pub within : at ≤ length d.s.now
  pub next : d' ≡ at_place d at
  pub is : x ≡ ok tt (moved (drop at d.s.now) σ)

-- d' is d at another place, and there the grammar's x ends with e
pub record Nowhere (d d' : Demangler) (x : Result (Unit {0})) (e : Refusal) : Type 0 where
  pub at : ℕ
  pub next : d' ≡ at_place d at
  pub is : x ≡ refused 4
  pub why : e ≡ NoRule

module _ {d d' : Demangler} {σ : State} {x : Result (Unit {0})} where
  stepped_none : {e : Refusal} → Stepped d d' σ x (Err e) → Nowhere d d' x e
  stepped_none (stopped {at} a c) = record { at = at; next = a; is = c; why = refl }

  stepped_next : {u : Unit {0}} → Stepped d d' σ x (Ok u) → Place d d' σ x
  unfolding go_to
  stepped_next (past {at} l a c) = record { at = at; within = l; next = a; is = c }

  -- from another place
  stepped_from : {at : ℕ} {r : Result' (Unit {0}) Refusal} → Stepped (at_place d at) d' (moved (drop at d.s.now) σ) x r → Stepped d d' σ x r
  unfolding go_to
  stepped_from (past l a c) = past l a c
  stepped_from (stopped {at} a c) = stopped {at = at} a c

-- ---------------------------------------------------------------- offsets

module _ (s : Text) (at : ℕ) (σ : State) (e : σ.rest ≡ drop at s) {end : ℕ} (n : end ≡ at + length (run (digit 10) (drop at s))) where
  no_digits : end ≡ at → unsigned σ ≡ refused 4
  unfolding unsigned onto if◌then◌otherwise◌ same
  no_digits h = rw (every_at (digit 10) s at σ e, none_there (run (digit 10) (drop at s)) (omega (arith, n, h)))
    where
      none_there : (d : Text) → length d ≡ 0 → d ≡ []
      none_there [] z = refl
      none_there (x ∷ d) z = absurd (omega arith)

  module _ (h : end ≡ at → ⊥) where
    by_end : unsigned σ ≡ need "_" (moved (drop end s) σ)
    unfolding unsigned onto if◌then◌otherwise◌
    by_end = rw (every_at (digit 10) s at σ e, same_not (run (digit 10) (drop at s)) [] (λ z. h (omega (arith, n, z))), ← n)

    digits_open : starts (drop end s) (95 ∷ []) ≡ false → unsigned σ ≡ refused 4
    unfolding b
    digits_open g = by_end ∙ need_not "_" s end (moved (drop end s) σ) refl g

    digits_closed : starts (drop end s) (95 ∷ []) ≡ true → unsigned σ ≡ go_to (drop (end + 1) s) σ
    unfolding b go_to
    digits_closed g = by_end ∙ need_here "_" s end (moved (drop end s) σ) refl g

module _ {d : Demangler} {end : ℕ} (n : end ≡ d.state.at + length (run (digit 10) (drop d.state.at d.s.now))) where
  pub unsigned_none : end ≡ d.state.at → StepsOver unsigned d d (Err NoRule)
  unsigned_none h σ e = stopped {at = d.state.at} refl (no_digits d.s.now d.state.at σ e n h)

  pub unsigned_ate : {d' : Demangler} {r : Result' (Unit {0}) Refusal} → (end ≡ d.state.at → ⊥) → Needs 95 (at_place d end) d' r → StepsOver unsigned d d' r
  unsigned_ate h (needs g f) σ e = past {at = end + 1} (omega (arith, starts_inside d.s.now end 95 g)) f (digits_closed d.s.now d.state.at σ e n h g)
  unsigned_ate h (lacks g f) σ e = stopped {at = end} f (digits_open d.s.now d.state.at σ e n h g)

offset_behind : {d d₁ d₂ : Demangler} {q : Bool} {r : Result' (Unit {0}) Refusal} → Eats 110 d d₁ q → StepsOver unsigned d₁ d₂ r → StepsOver offset d d₂ r
unfolding offset onto b
offset_behind {d} {d₁} {d₂} {r = r} (stays h e) f σ i =
    let k = subst (λ (x : Demangler). StepsOver unsigned x d₂ r) e f σ i in
    subst (λ (x : Result (Unit {0})). Stepped d d₂ σ x r) (sym (ap (onto (λ _. unsigned)) (eat_not "n" d.s.now d.state.at σ i h))) k
offset_behind {d} {d₁} {d₂} {r = r} (eats h e) f σ i =
    let k = subst (λ (x : Demangler). StepsOver unsigned x d₂ r) e f (moved (drop (d.state.at + 1) d.s.now) σ) refl in
    subst (λ (x : Result (Unit {0})). Stepped d d₂ σ x r) (sym (ap (onto (λ _. unsigned)) (eat_here "n" d.s.now d.state.at σ i h))) (stepped_from k)

module _ {d d₁ : Demangler} {q : Bool} {end : ℕ} (e : Eats 110 d d₁ q) (n : end ≡ d₁.state.at + length (run (digit 10) (drop d₁.state.at d₁.s.now))) where
  pub offset_none : end ≡ d₁.state.at → StepsOver offset d d₁ (Err NoRule)
  offset_none h = offset_behind e (unsigned_none n h)

  pub offset_ate : {d₂ : Demangler} {r : Result' (Unit {0}) Refusal} → (end ≡ d₁.state.at → ⊥) → Needs 95 (at_place d₁ end) d₂ r → StepsOver offset d d₂ r
  offset_ate h f = offset_behind e (unsigned_ate n h f)

-- two offsets, one after the other
module _ {d d₁ : Demangler} where
  pub no_offset : {e : Refusal} → StepsOver offset d d₁ (Err e) → StepsOver two_offsets d d₁ (Err e)
  unfolding onto
  no_offset {e} g σ h =
      let z = stepped_none (g σ h) in
      subst (λ (x : Refusal). Stepped d d₁ σ (two_offsets σ) (Err x)) (sym z.why) (stopped {at = z.at} z.next (ap (onto (λ _. offset)) z.is))

  pub next_offset : {d₂ : Demangler} {u : Unit {0}} {r : Result' (Unit {0}) Refusal} → StepsOver offset d d₁ (Ok u) → StepsOver offset d₁ d₂ r → StepsOver two_offsets d d₂ r
  unfolding onto
  next_offset {d₂} {r = r} g f σ h =
      let z = stepped_next (g σ h) in
      let k = subst (λ (x : Demangler). StepsOver offset x d₂ r) z.next f (moved (drop z.at d.s.now) σ) refl in
      subst (λ (x : Result (Unit {0})). Stepped d d₂ σ x r) (sym (ap (onto (λ _. offset)) z.is)) (stepped_from k)

-- ---------------------------------------------------------------- the rows

abbrev base : Reader Text
base = function_or_data reading

abbrev rows : Reader Text
rows = cases (thunks reading) base

-- the grammar's reading behind T and a letter
abbrev opened : Text → State
opened s = moved (drop 2 s) (start s)

onto_onto : {A B C : Type 0} (f : A → Reader B) (g : B → Reader C) (x : Result A) → onto (λ y σ. onto g (f y σ)) x ≡ onto g (onto f x)
unfolding onto
onto_onto f g (ok y σ) = refl
onto_onto f g (refused r) = refl

module _ (s : Text) where
  pub row_h : starts s (84 ∷ 104 ∷ []) ≡ true → rows (start s) ≡ onto (λ _. labelled (b "non-virtual thunk to ") base) (offset (opened s))
  unfolding thunks by_code find choose onto go_to starts b if◌then◌otherwise◌ start
  row_h e = subst (λ (t : Text). rows (start t) ≡ onto (λ _. labelled (b "non-virtual thunk to ") base) (offset (opened t))) (sym (starts_is s (84 ∷ 104 ∷ []) e)) refl

  pub row_v : starts s (84 ∷ 118 ∷ []) ≡ true → rows (start s) ≡ onto (λ _. labelled (b "virtual thunk to ") base) (two_offsets (opened s))
  unfolding thunks by_code find choose onto go_to starts b if◌then◌otherwise◌ start
  row_v e =
      subst (λ (t : Text). rows (start t) ≡ onto (λ _. labelled (b "virtual thunk to ") base) (two_offsets (opened t))) (sym (starts_is s (84 ∷ 118 ∷ []) e))
      (onto_onto (λ _. offset) (λ _. labelled (b "virtual thunk to ") base) (offset (opened s)))

  pub no_thunk : starts s (84 ∷ 104 ∷ []) ≡ false → starts s (84 ∷ 118 ∷ []) ≡ false → rows (start s) ≡ base (start s)
  unfolding thunks by_code find choose onto b if◌then◌otherwise◌ start
  no_thunk e f = rw (e, f)

-- ---------------------------------------------------------------- a function or data behind offsets

-- the place is behind a thunk's offsets, and the reading goes on there with its label in front
pub record Labelled (d d' : Demangler) (w : Text) : Type 0 where
  pub at : ℕ
  pub within : at ≤ length d.s.now
  pub next : d' ≡ at_place d at
  pub is : rows (start d.s.now) ≡ labelled w base (moved (drop at d.s.now) (start d.s.now))
  pub fits : length w ≤ longest_word

module _ {d : Demangler} (w : Text) {f : Reader (Unit {0})} (row : rows (start d.s.now) ≡ onto (λ _. labelled w base) (f (opened d.s.now))) where
  labelled_by : {d' : Demangler} {u : Unit {0}} → length w ≤ longest_word → StepsOver f (at_place d 2) d' (Ok u) → Labelled d d' w
  unfolding onto
  labelled_by l g =
      let z = stepped_next (g (opened d.s.now) refl) in
      record { at = z.at; within = z.within; next = z.next; is = row ∙ ap (onto (λ _. labelled w base)) z.is; fits = l }

  unlabelled_by : {d' : Demangler} {e : Refusal} → StepsOver f (at_place d 2) d' (Err e) → Encoded d d' (Err e) (rows (start d.s.now))
  unfolding onto
  unlabelled_by {d'} {e} g =
      let z = stepped_none (g (opened d.s.now) refl) in
      subst (λ (x : Refusal). Encoded d d' (Err x) (rows (start d.s.now))) (sym z.why)
      (record { symbol = ap (λ (x : Demangler). x.s.now) z.next; same = ap lent z.next; is = encodes_by (row ∙ ap (onto (λ _. labelled w base)) z.is) refuses })

module _ (d : Demangler) where
  module _ (e : starts d.s.now (84 ∷ 104 ∷ []) ≡ true) where
    pub labelled_h : {d' : Demangler} {u : Unit {0}} → StepsOver offset (at_place d 2) d' (Ok u) → Labelled d d' (b "non-virtual thunk to ")
    unfolding b
    labelled_h g = labelled_by _ (row_h d.s.now e) (omega arith) g

    pub unlabelled_h : {d' : Demangler} {r : Refusal} → StepsOver offset (at_place d 2) d' (Err r) → Encoded d d' (Err r) (rows (start d.s.now))
    unlabelled_h g = unlabelled_by _ (row_h d.s.now e) g

  module _ (e : starts d.s.now (84 ∷ 118 ∷ []) ≡ true) where
    pub labelled_v : {d₁ d₂ : Demangler} {u v : Unit {0}} → StepsOver offset (at_place d 2) d₁ (Ok u) → StepsOver offset d₁ d₂ (Ok v) → Labelled d d₂ (b "virtual thunk to ")
    unfolding b
    labelled_v g f = labelled_by _ (row_v d.s.now e) (omega arith) (next_offset g f)

    pub unlabelled_v : {d₁ : Demangler} {r : Refusal} → StepsOver offset (at_place d 2) d₁ (Err r) → Encoded d d₁ (Err r) (rows (start d.s.now))
    unlabelled_v {d₁} g = unlabelled_by _ (row_v d.s.now e) (no_offset g)

    pub unlabelled_second : {d₁ d₂ : Demangler} {u : Unit {0}} {r : Refusal} → StepsOver offset (at_place d 2) d₁ (Ok u) → StepsOver offset d₁ d₂ (Err r) →
        Encoded d d₂ (Err r) (rows (start d.s.now))
    unlabelled_second g f = unlabelled_by _ (row_v d.s.now e) (next_offset g f)

-- no thunk
pub plain_encoded : {d d' : Demangler} {r : Result' ℕ Refusal} → length d.s.now ≤ most_text_bytes → Begun d → starts d.s.now (84 ∷ 104 ∷ []) ≡ false →
    starts d.s.now (84 ∷ 118 ∷ []) ≡ false →
    Parses base (keep d.state.depth) (d.state.at + 1) d d' r → Encoded d d' r (rows (start d.s.now))
plain_encoded {d} l h e f g = record { symbol = g.symbol; same = g.same; is = encodes_by (no_thunk d.s.now e f) (encodes_refines (omega arith) (g.reads (start d.s.now) (fresh_holds l h))) }

-- as `Encoded`, in any slices
pub record EncodedInAny (d d' : Demangler) (r : Result' ℕ Refusal) (f : Result Text) : Type 0 where
  pub symbol : d'.s.now ≡ d.s.now
  pub is : Encodes (keep 0) d.s.now (window (memory_of d) (state_of d)) (memory_of d') (outcome (state_of d') r) f

encoded_lent : {d d' : Demangler} {r : Result' ℕ Refusal} {f : Result Text} → EncodedInAny d d' r f → lent d' ≡ lent d → Encoded d d' r f
encoded_lent e s = record { symbol = e.symbol; same = s; is = e.is }

module _ {d d' : Demangler} {w : Text} (l : length d.s.now ≤ most_text_bytes) (h : Begun d) (i : Labelled d d' w) where
  abbrev there : State
  there = moved (drop i.at d.s.now) (start d.s.now)

  pub labelled_held : Held d' there
  labelled_held = held_at i.next i.within (fresh_holds l h)

  pub labelled_symbol : d'.s.now ≡ d.s.now
  labelled_symbol = ap (λ (x : Demangler). x.s.now) i.next

  labelled_holds : Holds d.s.now (memory_of d') (state_of d') there
  labelled_holds = subst (λ (t : Text). Holds t (memory_of d') (state_of d') there) labelled_symbol labelled_held

  -- the word is put, and a reading goes on behind it
  module _ (x : Stack) (u : Put d'.stack.bytes.now x.bytes.now d'.stack.top x.top w) where
    pub put_prepared : Prepared (record d' { stack = x })
    put_prepared = (there, holds_puts (puts_of d' x u) labelled_held)

    module _ {d₂ : Demangler} where
      pub labelled_refused : {e : Refusal} → ParsesInAny base (keep d'.state.depth) (d'.state.at + 1) (record d' { stack = x }) d₂ (Err e) → EncodedInAny d d₂ (Err e) (rows (start d.s.now))
      labelled_refused g = record { symbol = g.symbol ∙ labelled_symbol; is = encodes_by i.is (behind_refused labelled_holds (puts_of d' x u) (reads_of labelled_symbol g) refl) }

      pub labelled_short : {n : ℕ} → ParsesInAny base (keep d'.state.depth) (d'.state.at + 1) (record d' { stack = x }) d₂ (Ok n) → n ≤ most_text_bytes
      labelled_short g = let v = (behind_got labelled_holds (puts_of d' x u) (reads_of labelled_symbol g) refl).wrote in omega (arith, v.size, v.short)

      pub labelled_given : {n : ℕ} {r : Result' ℕ Refusal} → ParsesInAny base (keep d'.state.depth) (d'.state.at + 1) (record d' { stack = x }) d₂ (Ok n) → r ≡ given_length (n + length w) →
          EncodedInAny d d₂ r (rows (start d.s.now))
      labelled_given {n} {r} g e = record {
        symbol = g.symbol ∙ labelled_symbol;
        is = encodes_by i.is
            (subst (λ (y : Demangler). Encodes (keep 0) d.s.now (window (memory_of y) (state_of y)) (memory_of d₂) (outcome (state_of d₂) r) (labelled w base there)) i.next
            (behind_given labelled_holds (puts_of d' x u) (reads_of labelled_symbol g) (omega arith) i.fits refl (given_by (state_of d₂) (n + length w) e)));
      }

    module _ (n : x.bytes.ghost_name ≡ d'.stack.bytes.ghost_name) where
      put_lent : lent (record d' { stack = x }) ≡ lent d
      put_lent = lent_stack d' x n ∙ ap lent i.next

      module _ {d₂ : Demangler} where
        pub labelled_refused_lent : {e : Refusal} → Parses base (keep d'.state.depth) (d'.state.at + 1) (record d' { stack = x }) d₂ (Err e) → Encoded d d₂ (Err e) (rows (start d.s.now))
        labelled_refused_lent g = encoded_lent (labelled_refused (parses_in_any g)) (g.same ∙ put_lent)

        pub labelled_given_lent : {n : ℕ} {r : Result' ℕ Refusal} → Parses base (keep d'.state.depth) (d'.state.at + 1) (record d' { stack = x }) d₂ (Ok n) → r ≡ given_length (n + length w) →
            Encoded d d₂ r (rows (start d.s.now))
        labelled_given_lent g e = encoded_lent (labelled_given (parses_in_any g) e) (g.same ∙ put_lent)
