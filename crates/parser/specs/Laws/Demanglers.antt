-- Laws of what a demangler's methods promise: what is known behind each answer, and equations of a demangler. Assumes nothing.
use Rattle.std.specs.Prelude.{◌≡◌, ℕ, ◌+◌, ◌<◌, ◌≤◌, min, Bool, true, false, List, [], ◌∷◌, ◌++◌, leb, length, drop, Result, Ok, Err, IsErrAnd}
use Rattle.std.proofs.Math.Path.{refl, sym}
use Rattle.std.proofs.Common.{ap, ap₂, subst, ◌∙◌, arith, length-append, leb-true, leb-false}
use Rattle.grammar.specs.Limits.{most_open, most_text_bytes, kept_bytes}
use Rattle.grammar.specs.Text.{Text, b, if◌then◌otherwise◌, starts}
use Rattle.grammar.specs.Reader.{State, Reader, refused, onto, give, recorded}
use Rattle.grammar.specs.Laws.Agree.{moved}
use Rattle.grammar.specs.Laws.NameSteps.{starts_one}
use Rattle.grammar.specs.Laws.States.{Past, past_by}
use Rattle.grammar.specs.States.{Progress, read, Refused}
use Rattle.grammar.specs.declared.refusal.Refusal.{Refusal}
use Rattle.grammar.specs.declared.refusal.Refusal.TheVariants.{NoRule, TooDeep, LongText}
use Rattle.parser.specs.declared.demangler.Demangler.{Demangler}
use Rattle.grammar.specs.Refusals.{refusal_number}
use Rattle.store.specs.Stack.{Put, Cut, newest}
use Rattle.store.specs.Table.{Entries, Room}
use Rattle.store.specs.Laws.Tails.{size, top_size}
use Rattle.store.specs.declared.stack.Stack.{Stack}
use Rattle.store.specs.declared.table.Table.{Table}
use Rattle.parser.specs.Holds.{Halves, mem, Holds, Stands, Refines, refuses, Reads, Pushes, Puts, Cuts, window, given_of}
use Rattle.parser.specs.Recalls.{Recalls, recalls, long}
use Rattle.parser.specs.Demanglers.{state_of, memory_of, lent, Held, Prepared, at_place, at_depth, Takes, takes, ends, Eats, eats, stays, Needs, needs, lacks, Enters, enters, deep, outcome}
use Rattle.parser.specs.Demanglers.{given_length, Parses, OthersStay, StackAndSubs, Leaf, pushed_as, PushesOnto, PushesSub, Turns}
use Rattle.parser.specs.Laws.Holds.{at_level, by, refused_on, puts_by, cuts_by, got, holds_moved, holds_entered, sooner}
use Rattle.parser.specs.Laws.Halves.{Pushed, pushes_not, pushes_entry, give_long, wrote_one, recorded_given}
use Rattle.parser.specs.Laws.Wraps.{newest_text}

abbrev pub deeper_by_one : Demangler → Demangler
deeper_by_one d = at_depth d (d.state.depth + 1)

-- ---------------------------------------------------------------- a byte passed over

-- the byte c stood at d's place, and d' is d behind it
pub record Passed (c : ℕ) (d d' : Demangler) : Type 0 where
  pub past : Past d.s.now (state_of d) c (state_of d')
  pub is : d' ≡ at_place d (d.state.at + 1)

-- nothing was passed over, and d' is d; e is why
pub record Stayed (P : Type 0) (e why : Refusal) (d d' : Demangler) : Type 0 where
  pub so : P
  pub why_is : e ≡ why
  pub is : d' ≡ d

pub took_none : {d d' : Demangler} {e : Refusal} → Takes d d' (Err e) → Stayed (drop d.state.at d.s.now ≡ []) e NoRule d d'
took_none (ends f g) = record { so = f; why_is = refl; is = g }

module _ {c : ℕ} {d d' : Demangler} where
  passed_by : (u : Text) → drop d.state.at d.s.now ≡ c ∷ u → d' ≡ at_place d (d.state.at + 1) → Passed c d d'
  passed_by u e f = record { past = past_by u e (ap state_of f); is = f }

  pub took : Takes d d' (Ok c) → Passed c d d'
  took (takes e f) = passed_by _ e f

  pub ate : {q : Bool} → q ≡ true → Eats c d d' q → Passed c d d'
  ate e (eats f g) = passed_by _ (starts_one (drop d.state.at d.s.now) c f) g
  ate e (stays f g) = let z : ◌≡◌ {A = ℕ} 0 1 = cc in absurd (omega arith)

  pub ate_none : {q : Bool} → q ≡ false → Eats c d d' q → (starts (drop d.state.at d.s.now) (c ∷ []) ≡ false) × (d' ≡ d)
  ate_none e (stays f g) = (f, g)
  ate_none e (eats f g) = let z : ◌≡◌ {A = ℕ} 0 1 = cc in absurd (omega arith)

  pub needed : {u : Unit {0}} → Needs c d d' (Ok u) → Passed c d d'
  needed (needs f g) = passed_by _ (starts_one (drop d.state.at d.s.now) c f) g

  pub lacked : {e : Refusal} → Needs c d d' (Err e) → Stayed (starts (drop d.state.at d.s.now) (c ∷ []) ≡ false) e NoRule d d'
  lacked (lacks f g) = record { so = f; why_is = refl; is = g }

-- a byte that was needed was not there
pub lacked_parses :
    {f : Reader Text} {k from c : ℕ} {d d' : Demangler} {e : Refusal} → (starts (drop d.state.at d.s.now) (c ∷ []) ≡ false → (σ : State) → Held d σ → f σ ≡ refused 4) →
    Needs c d d' (Err e) → Parses f k from d d' (Err e)
lacked_parses o (lacks n e) = record { symbol = ap (λ (x : Demangler). x.s.now) e; same = ap lent e; reads = λ σ h. by (o n σ h) refuses }

-- what a `?` hands back
pub failed : {A : Type 0} {e : Refusal} (r : Result A Refusal) → IsErrAnd r (λ x. x ≡ e) → r ≡ Err e
failed (Err x) i = ap Err i
failed (Ok x) i = absurd i

-- ---------------------------------------------------------------- one level down

module _ {d d' : Demangler} where
  pub went_in : {u : Unit {0}} → Enters d d' (Ok u) → (d.state.depth < most_open) × (d' ≡ deeper_by_one d)
  went_in (enters l e) = (l, e)

  pub stayed_out : {e : Refusal} → Enters d d' (Err e) → Stayed (most_open ≤ d.state.depth) e TooDeep d d'
  stayed_out (deep l f) = record { so = l; why_is = refl; is = f }

-- ---------------------------------------------------------------- equations of a demangler

module _ {d d' : Demangler} (e : d' ≡ d) where
  pub held_by : {σ : State} → Held d σ → Held d' σ
  held_by {σ} h = subst (λ (x : Demangler). Held x σ) (sym e) h

module _ {f g : Reader Text} {k from : ℕ} {d d' : Demangler} where
  -- a reading that is another one
  pub parses_as : {r : Result ℕ Refusal} → ((σ : State) → Held d σ → g σ ≡ f σ) → Parses f k from d d' r → Parses g k from d d' r
  parses_as o h = record { symbol = h.symbol; same = h.same; reads = λ σ u. by (o σ u) (h.reads σ u) }

  -- a reading that begins with one that is refused
  pub parses_none :
      {l to : ℕ} {e : Refusal} (m : Text → Reader Text) → ((σ : State) → Held d σ → g σ ≡ onto m (f σ)) → Parses f k from d d' (Err e) → Parses g l to d d' (Err e)
  parses_none m o h = record { symbol = h.symbol; same = h.same; reads = λ σ u. by (o σ u) (refused_on m refl (h.reads σ u)) }

-- ---------------------------------------------------------------- all but the place and the stack

module _ (d : Demangler) {d' : Demangler} where
  pub others_by : {at : ℕ} {x : Stack} → d' ≡ record d { state = record d.state { at = at }; stack = x } → OthersStay d d'
  others_by e = subst (λ (y : Demangler). OthersStay d y) (sym e) refl

  pub others_then : {d'' : Demangler} → OthersStay d d' → OthersStay d' d'' → OthersStay d d''
  others_then {d''} e f = f ∙ ap (λ (y : Demangler). record y { state = record y.state { at = d''.state.at }; stack = d''.stack }) e

-- ---------------------------------------------------------------- the slices that were lent

pub lent_stack : (d : Demangler) (x : Stack) → x.bytes.ghost_name ≡ d.stack.bytes.ghost_name → lent (record d { stack = x }) ≡ lent d
lent_stack d x e = ap (λ (n : ℕ). n ∷ d.subs.bytes.ghost_name ∷ d.subs.ends.ghost_name ∷ d.args.bytes.ghost_name ∷ d.args.ends.ghost_name ∷ []) e

pub lent_moved : (d : Demangler) {d₁ : Demangler} (x : Stack) {at : ℕ} → d₁ ≡ at_place d at → x.bytes.ghost_name ≡ d₁.stack.bytes.ghost_name → lent (record d₁ { stack = x }) ≡ lent d
lent_moved d {d₁} x e n = lent_stack d₁ x n ∙ ap lent e

pub lent_subs : (d : Demangler) (x : Table) → (x.bytes.ghost_name ≡ d.subs.bytes.ghost_name) × (x.ends.ghost_name ≡ d.subs.ends.ghost_name) → lent (record d { subs = x }) ≡ lent d
lent_subs d x e = ap₂ (λ (m n : ℕ). d.stack.bytes.ghost_name ∷ m ∷ n ∷ d.args.bytes.ghost_name ∷ d.args.ends.ghost_name ∷ []) e.0 e.1

pub lent_args : (d : Demangler) (x : Table) → (x.bytes.ghost_name ≡ d.args.bytes.ghost_name) × (x.ends.ghost_name ≡ d.args.ends.ghost_name) → lent (record d { args = x }) ≡ lent d
lent_args d x e = ap₂ (λ (m n : ℕ). d.stack.bytes.ghost_name ∷ d.subs.bytes.ghost_name ∷ d.subs.ends.ghost_name ∷ m ∷ n ∷ []) e.0 e.1

pub texts_by : (d : Demangler) {d' : Demangler} {x : Stack} {y : Table} → d' ≡ record d { stack = x; subs = y } → StackAndSubs d d'
texts_by d e = subst (λ (z : Demangler). StackAndSubs d z) (sym e) refl

-- ---------------------------------------------------------------- readings in any slices

-- as `Parses`, but which slices are left is not said
pub record ParsesInAny (f : Reader Text) (k from : ℕ) (d d' : Demangler) (r : Result ℕ Refusal) : Type 0 where
  pub symbol : d'.s.now ≡ d.s.now
  pub reads : Reads f k from d.s.now (memory_of d) (memory_of d') (state_of d) (outcome (state_of d') r)

-- as `Leaf`, in any slices
pub record LeafInAny (f : Reader Text) (k from : ℕ) (d d' : Demangler) (r : Result ℕ Refusal) : Type 0 where
  pub parses : ParsesInAny f k from d d' r
  pub others : OthersStay d d'

module _ {f : Reader Text} {k from : ℕ} {d d' : Demangler} {r : Result ℕ Refusal} where
  pub parses_in_any : Parses f k from d d' r → ParsesInAny f k from d d' r
  parses_in_any h = record { symbol = h.symbol; reads = h.reads }

  -- it leaves those that were lent
  pub parses_lent : ParsesInAny f k from d d' r → lent d' ≡ lent d → Parses f k from d d' r
  parses_lent h s = record { symbol = h.symbol; same = s; reads = h.reads }

  pub leaf_lent : LeafInAny f k from d d' r → lent d' ≡ lent d → Leaf f k from d d' r
  leaf_lent h s = record { parses = parses_lent h.parses s; others = h.others }

-- ---------------------------------------------------------------- readings that call no other back

pub leaf_reads :
    {f : Reader Text} {k from : ℕ} {d d' : Demangler} {r : Result ℕ Refusal} → OthersStay d d' → Reads f k from d.s.now (memory_of d) (memory_of d') (state_of d) (outcome (state_of d') r) →
    LeafInAny f k from d d' r
leaf_reads e h = record { parses = record { symbol = ap (λ (y : Demangler). y.s.now) e; reads = h }; others = e }

pub leaf_reads_lent :
    {f : Reader Text} {k from : ℕ} {d d' : Demangler} {r : Result ℕ Refusal} → OthersStay d d' → lent d' ≡ lent d →
    Reads f k from d.s.now (memory_of d) (memory_of d') (state_of d) (outcome (state_of d') r) →
    Leaf f k from d d' r
leaf_reads_lent e s h = leaf_lent (leaf_reads e h) s

-- a leaf whose first byte was not there
pub lacked_leaf :
    {f : Reader Text} {k from c : ℕ} {d d' : Demangler} {e : Refusal} → (starts (drop d.state.at d.s.now) (c ∷ []) ≡ false → (σ : State) → Held d σ → f σ ≡ refused 4) →
    Needs c d d' (Err e) → Leaf f k from d d' (Err e)
lacked_leaf {d = d} o h = record { parses = lacked_parses o h; others = others_by d (lacked h).is }

-- ---------------------------------------------------------------- from another place of the symbol

module _ {d d' : Demangler} {at : ℕ} (e : d' ≡ at_place d at) where
  pub held_at : {σ : State} → at ≤ length d.s.now → Held d σ → Held d' (moved (drop at d.s.now) σ)
  held_at l h = held_by e (holds_moved h at l)

  pub prepared_at : at ≤ length d.s.now → Prepared d → Prepared d'
  prepared_at l h = (moved (drop at d.s.now) h.0, held_at l h.1)

  -- a reading from there, seen from d
  pub parses_at :
      {f : Reader Text} {k from : ℕ} {d'' : Demangler} {r : Result ℕ Refusal} {σ : State} →
      Parses f k d'.state.at d' d'' r → Held d σ → at ≤ length d.s.now → from ≤ at →
      Refines k d.state.depth d.s.now (window (memory_of d) (state_of d)) from (memory_of d'') (outcome (state_of d'') r) (f (moved (drop at d.s.now) σ))
  parses_at {f} {k} {d'' = d''} {r = r} {σ = σ} h g l u =
      sooner u ((subst (λ (x : Demangler). Parses f k x.state.at x d'' r) e h).reads (moved (drop at d.s.now) σ) (holds_moved g at l))

  -- a leaf that is another one from there
  pub leaf_moved :
      {f g : Reader Text} {k from : ℕ} {d'' : Demangler} {r : Result ℕ Refusal} → at ≤ length d.s.now → from ≤ at →
      ((σ : State) → Held d σ → g σ ≡ f (moved (drop at d.s.now) σ)) → Leaf f k d'.state.at d' d'' r → Leaf g k from d d'' r
  leaf_moved l u o h = leaf_reads_lent (others_then d (others_by d e) h.others) (h.parses.same ∙ ap lent e) (λ σ g. by (o σ g) (parses_at h.parses g l u))

-- what is known behind a reading that returned n, of every demangler that was prepared
pub record Done (k from n : ℕ) (d d' : Demangler) : Type 0 where
  pub prepared : Prepared d'
  pub symbol : d'.s.now ≡ d.s.now
  pub level : d'.state.depth ≡ d.state.depth
  pub more : from ≤ d'.state.at
  pub within : d'.state.at ≤ length d.s.now
  pub short : n ≤ most_text_bytes
  pub least : min (d.stack.top + n) k ≤ d'.stack.top

-- a reading of the same symbol, and what it leaves
module _ {f : Reader Text} {k from : ℕ} {d d' : Demangler} where
  pub reads_of : {s : Text} {r : Result ℕ Refusal} → d.s.now ≡ s → ParsesInAny f k from d d' r → Reads f k from s (memory_of d) (memory_of d') (state_of d) (outcome (state_of d') r)
  reads_of {s} {r} e h = subst (λ (x : Text). Reads f k from x (memory_of d) (memory_of d') (state_of d) (outcome (state_of d') r)) e h.reads

  pub done : {n : ℕ} → Parses f k from d d' (Ok n) → Prepared d → Done k from n d d'
  done {n} h (σ, g) =
      let v = got refl (h.reads σ g) in
      let w = v.wrote in record {
        prepared = (v.state, subst (λ (x : Text). Holds x (memory_of d') (state_of d') v.state) (sym h.symbol) w.holds);
        symbol = h.symbol;
        level = w.level;
        more = w.more;
        within = w.holds.place;
        short = omega (arith, w.size, w.short);
        least = omega (arith, size w.tail, w.tail.most, length-append (window (memory_of d) (state_of d)) v.said, w.size, top_size w.holds.text, top_size g.text);
      }

module _ {d d' : Demangler} (e : d' ≡ deeper_by_one d) where
  pub held_deeper : {σ : State} → d.state.depth < most_open → Held d σ → Held d' (at_level (σ.depth + 1) σ)
  held_deeper l h = held_by e (holds_entered h l)

  pub prepared_deeper : d.state.depth < most_open → Prepared d → Prepared d'
  prepared_deeper l h = (at_level (h.0.depth + 1) h.0, held_deeper l h.1)

-- ---------------------------------------------------------------- lengths that are returned

pub outcome_given : (p : Progress) (n : ℕ) → outcome p (given_length n) ≡ given_of p n
unfolding given_length given_of if◌then◌otherwise◌
outcome_given p n = go (leb n most_text_bytes)
  where
    go : (q : Bool) → outcome p (if q then Ok n otherwise Err LongText) ≡ (if q then read p n otherwise Refused LongText)
    go true = refl
    go false = refl

pub given_by : {r : Result ℕ Refusal} (p : Progress) (n : ℕ) → r ≡ given_length n → outcome p r ≡ given_of p n
given_by p n e = ap (outcome p) e ∙ outcome_given p n

module _ (n : ℕ) where
  pub given_ok : {i : ℕ} → Ok i ≡ given_length n → (n ≤ most_text_bytes) × (i ≡ n)
  unfolding given_length if◌then◌otherwise◌
  given_ok {i} e = go (leb n most_text_bytes) refl e
    where
      go : (q : Bool) → leb n most_text_bytes ≡ q → Ok i ≡ (if q then Ok n otherwise Err LongText) → (n ≤ most_text_bytes) × (i ≡ n)
      go true f g = (leb-true n most_text_bytes f, cc)
      go false f g = let z : ◌≡◌ {A = ℕ} 0 1 = cc in absurd (omega arith)

  pub given_err : {r : Refusal} → Err r ≡ given_length n → (most_text_bytes < n) × (r ≡ LongText)
  unfolding given_length if◌then◌otherwise◌
  given_err {r} e = go (leb n most_text_bytes) refl e
    where
      go : (q : Bool) → leb n most_text_bytes ≡ q → Err r ≡ (if q then Ok n otherwise Err LongText) → (most_text_bytes < n) × (r ≡ LongText)
      go true f g = let z : ◌≡◌ {A = ℕ} 0 1 = cc in absurd (omega arith)
      go false f g = (leb-false n most_text_bytes f, cc)

-- ---------------------------------------------------------------- entries recalled and recorded

pub recalls_reads :
    (d : Demangler) {x : Stack} {r : Result ℕ Refusal} {t : Text} {σ : State} → Held d σ → Recalls t d.stack x r →
    Refines kept_bytes d.state.depth d.s.now (window (memory_of d) (state_of d)) d.state.at (memory_of (record d { stack = x })) (outcome (state_of (record d { stack = x })) r) (give t σ)
recalls_reads d h (recalls l u) = wrote_one h (record { same = refl; put = u }) refl l (omega arith)
recalls_reads d {t = t} {σ = σ} h (long l) = by (give_long t σ l) refuses

-- as `PushesOnto`, in any slices
pub record PushesOntoInAny (push : Text → Reader (Unit {0})) (n : ℕ) (d o d' : Demangler) (r : Result (Unit {0}) Refusal) : Type 0 where
  pub others : d' ≡ o
  pub prepared : Prepared d → Prepared d'
  pub is :
      (k l : ℕ) (s base : Text) (from : ℕ) (t : Text) (σ : State) → Stands k l s base from (memory_of d) (state_of d) n t σ →
      Pushes s (memory_of d') n (state_of d') (pushed_as (state_of d') n r) (push t σ)

pub pushes_lent :
    {push : Text → Reader (Unit {0})} {n : ℕ} {d o d' : Demangler} {r : Result (Unit {0}) Refusal} → PushesOntoInAny push n d o d' r → lent d' ≡ lent d → PushesOnto push n d o d' r
pushes_lent h s = record { others = h.others; same = s; prepared = h.prepared; is = h.is }

-- a push onto a table, whose texts in the grammar's state are `of` and are set by `to`
module _
    (j : Refusal) {push : Text → Reader (Unit {0})} (of : State → List Text) (to : List Text → State → State)
    (is : (t : Text) (σ : State) → push t σ ≡ Pushed (of σ ++ (t ∷ [])) (to (of σ ++ (t ∷ [])) σ) (refusal_number j))
    {d : Demangler} {ys zs : List ℕ} {c i n : ℕ} {q : Bool} (holds : (s : Text) (σ : State) → Holds s (memory_of d) (state_of d) σ → Entries (of σ) ys zs c i) (room : Room c i n q) where
  pub pushes_full : q ≡ false → PushesOnto push n d d d (Err j)
  pushes_full e = record { others = refl; same = refl; prepared = λ g. g; is = λ k l s base from t σ h. pushes_not h (holds s σ h.holds) room (to (of σ ++ (t ∷ [])) σ) j (is t σ) e }

  pub pushes_more :
      {d' : Demangler} {ys' zs' : List ℕ} {c' i' : ℕ} {w : Text} {u : Unit {0}} → d'.s.now ≡ d.s.now →
      ((s : Text) (σ : State) (l : List Text) → Holds s (memory_of d) (state_of d) σ → Entries l ys' zs' c' i' → Holds s (memory_of d') (state_of d') (to l σ)) →
      q ≡ true → w ≡ newest d.stack.bytes.now d.stack.top n → ((l : List Text) → Entries l ys zs c i → Entries (l ++ (w ∷ [])) ys' zs' c' i') →
      PushesOntoInAny push n d d' d' (Ok u)
  pushes_more {w = w} symbol hold e f more = record {
    others = refl;
    prepared = λ (σ, h). (to (of σ ++ (w ∷ [])) σ, rw symbol (hold d.s.now σ _ h (more (of σ) (holds d.s.now σ h))));
    is = λ k l s base from t σ h.
        pushes_entry h (holds s σ h.holds) room (to (of σ ++ (t ∷ [])) σ) j (is t σ) e
        (hold s σ _ h.holds (rw (f ∙ newest_text h (omega (arith, h.size, room.yes e))) at (more (of σ) (holds s σ h.holds))));
  }

  pub pushes_more_lent :
      {d' : Demangler} {ys' zs' : List ℕ} {c' i' : ℕ} {w : Text} {u : Unit {0}} → d'.s.now ≡ d.s.now → lent d' ≡ lent d →
      ((s : Text) (σ : State) (l : List Text) → Holds s (memory_of d) (state_of d) σ → Entries l ys' zs' c' i' → Holds s (memory_of d') (state_of d') (to l σ)) →
      q ≡ true → w ≡ newest d.stack.bytes.now d.stack.top n → ((l : List Text) → Entries l ys zs c i → Entries (l ++ (w ∷ [])) ys' zs' c' i') →
      PushesOnto push n d d' d' (Ok u)
  pushes_more_lent symbol same hold e f more = pushes_lent (pushes_more symbol hold e f more) same

module _ {k l : ℕ} {s base : Text} {from n : ℕ} {t : Text} {σ : State} (d d' : Demangler) (h : Stands k l s base from (memory_of d) (state_of d) n t σ) where
  pub records_given : {u : Unit {0}} → PushesSub n d d' (Ok u) → Refines k l s base from (memory_of d') (outcome (state_of d') (given_length n)) (recorded t σ)
  records_given p =
      rw (outcome_given (state_of d') n)
      (recorded_given (ap (λ (x : Demangler). window (memory_of x) (state_of x)) p.others) (ap (λ (x : Demangler). x.state.depth) p.others) (ap (λ (x : Demangler). x.state.at) p.others) h
      (p.is k l s base from t σ h))

-- ---------------------------------------------------------------- texts on the stack

module _ (d : Demangler) (x : Stack) where
  pub puts_of : {t : Text} → Put d.stack.bytes.now x.bytes.now d.stack.top x.top t → Puts d.stack.bytes.now x.bytes.now (state_of d) (state_of (record d { stack = x })) t
  puts_of u = puts_by refl u

  pub cuts_of : {k n : ℕ} → Cut d.stack.bytes.now x.bytes.now d.stack.top x.top k n → Cuts d.stack.bytes.now x.bytes.now (state_of d) (state_of (record d { stack = x })) k n
  cuts_of u = cuts_by refl u

-- a word put and returned, from another place
pub gives_word :
    (d : Demangler) {d₁ : Demangler} (x : Stack) {at from : ℕ} {w : Text} {σ : State} → d₁ ≡ at_place d at → Held d σ → at ≤ length d.s.now → from ≤ at →
    length w ≤ most_text_bytes → Put d₁.stack.bytes.now x.bytes.now d₁.stack.top x.top w →
    Refines kept_bytes d.state.depth d.s.now (window (memory_of d) (state_of d)) from (memory_of (record d₁ { stack = x })) (outcome (state_of (record d₁ { stack = x })) (Ok (length w)))
    (give w (moved (drop at d.s.now) σ))
gives_word d {d₁} x {at} {from} {w} {σ} e h l i j u =
    subst
    (λ (y : Demangler). Put y.stack.bytes.now x.bytes.now y.stack.top x.top w →
    Refines kept_bytes d.state.depth d.s.now (window (memory_of d) (state_of d)) from (memory_of (record y { stack = x })) (outcome (state_of (record y { stack = x })) (Ok (length w)))
    (give w (moved (drop at d.s.now) σ)))
    (sym e)
    (λ v. wrote_one (holds_moved h at l) (record { same = refl; put = v }) refl j i)
    u

-- a leaf that does so
pub leaf_gives :
    (d : Demangler) {d₁ : Demangler} (x : Stack) {f : Reader Text} {at from : ℕ} {w : Text} → d₁ ≡ at_place d at → at ≤ length d.s.now → from ≤ at →
    length w ≤ most_text_bytes → Put d₁.stack.bytes.now x.bytes.now d₁.stack.top x.top w → ((σ : State) → Held d σ → f σ ≡ give w (moved (drop at d.s.now) σ)) →
    LeafInAny f kept_bytes from d (record d₁ { stack = x }) (Ok (length w))
leaf_gives d x e l i j u o = leaf_reads (others_by d (ap (λ (y : Demangler). record y { stack = x }) e)) (λ σ h. by (o σ h) (gives_word d x e h l i j u))

pub leaf_gives_lent :
    (d : Demangler) {d₁ : Demangler} (x : Stack) {f : Reader Text} {at from : ℕ} {w : Text} → d₁ ≡ at_place d at → at ≤ length d.s.now → from ≤ at →
    length w ≤ most_text_bytes → x.bytes.ghost_name ≡ d₁.stack.bytes.ghost_name → Put d₁.stack.bytes.now x.bytes.now d₁.stack.top x.top w →
    ((σ : State) → Held d σ → f σ ≡ give w (moved (drop at d.s.now) σ)) →
    Leaf f kept_bytes from d (record d₁ { stack = x }) (Ok (length w))
leaf_gives_lent d x e l i j n u o = leaf_lent (leaf_gives d x e l i j u o) (lent_moved d x e n)

abbrev bytes_of : Demangler → Halves
bytes_of d = record { low = d.subs.bytes.now; high = d.args.bytes.now }

abbrev ends_of : Demangler → Halves
ends_of d = record { low = d.subs.ends.now; high = d.args.ends.now }

module _ {c m : ℕ} {d d' : Demangler} (t : Turns c m d d') where
  pub turns_held : {σ : State} → Held d σ → Held d' σ
  turns_held {σ} h =
      subst
      (λ (y : Demangler). Holds y.s.now (mem d'.stack.bytes.now (bytes_of y) (ends_of y)) (state_of d') σ)
      (sym t.others)
      (t.turned.holds d.s.now _ _ σ h)

  pub turns_stands :
      {k l : ℕ} {s base : Text} {from : ℕ} (x y : Text) {σ : State} → length x ≡ c → length y ≡ m →
      Stands k l s base from (memory_of d) (state_of d) (c + m) (x ++ y) σ → Stands k l s base from (memory_of d') (state_of d') (m + 1 + c) (y ++ b " " ++ x) σ
  turns_stands {k} {l} {s} {base} {from} x y {σ} e f h =
      subst
      (λ (z : Demangler). Stands k l s base from (mem d'.stack.bytes.now (bytes_of z) (ends_of z)) (state_of d') (m + 1 + c) (y ++ b " " ++ x) σ)
      (sym t.others)
      (t.turned.stands k l s base from _ _ x y σ e f h)
