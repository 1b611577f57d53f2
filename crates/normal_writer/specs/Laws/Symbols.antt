-- Whole symbols: the state at the start, the name, the types, and the answer. Assumes nothing.
use Rattle.std.specs.Prelude.{Bool, true, false, not, ◌&&◌, [], ◌∷◌, ◌≡◌, eqb, length, drop, Option, Some, None}
use Rattle.std.proofs.lemmas.Bool.{false≢true, lt-leb}
use Rattle.std.proofs.Math.Option.{Option as Normal, none, some}
use Rattle.std.proofs.Math.Path.{refl, ap, subst}
use Rattle.std.proofs.Common.{sym, ◌∙◌, arith, eq-eqb, ne_eqb, le-leb, length-drop}
use Prim.Native.Nat.{ℕ, suc, ◌+◌, ◌-◌, ◌*◌, ◌≤◌, ◌<◌}
use Rattle.grammar.specs.Text.{Text, if◌then◌otherwise◌, starts}
use Rattle.grammar.specs.Laws.Text.{starts_nothing}
use Rattle.grammar.specs.Limits.{most_symbol_bytes}
use Rattle.catalogue.specs.Class.{most_arguments}
use Rattle.catalogue.specs.Spelling.{name_bytes}
use Rattle.catalogue.specs.Recogniser.{Rd, stop, if_next}
use Rattle.normal_walk.specs.Walk.{name}
use Rattle.normal_nodes.specs.Nodes.{Notes, notes, Got, got, bad, next, when, with, begun, a_bare, a_lit, note_add_all, tag_of, note_at_scoped, at_function}
use Rattle.normal_nodes.specs.Nodes.{note_at_end, note_at_params, note_type, note_types, note_parts, symbol_of, note_encoding, note_symbol}
use Rattle.normal_steps.specs.Parts.{part}
use Rattle.grammar.specs.Laws.Places.{rest_some, rest_none}
use Rattle.normal_steps.specs.Laws.Tests.{next_here, next_not}
use Rattle.normal_steps.specs.States.{begun_at, moved_to}
use Rattle.normal_steps.specs.Laws.Told.{answered, refused}
use Rattle.normal_steps.specs.Laws.LeafSteps.{name_size}
use Rattle.normal_steps.specs.Answers.{NameAt}
use Rattle.normal_steps.specs.Laws.Found.{found_nothing}
use Rattle.normal_steps.specs.Laws.Tabled.{tabled_nothing}
use Rattle.normal_steps.specs.Rows.{nodes_of}
use Rattle.normal_steps.specs.Carries.{slices_of, lent, Carries, Held, Ready, Spent, Spare, Answers, Fueled, Puts, Tag, Closes, closed}
use Rattle.normal_writer.specs.Laws.Loops.{Told, gone}
use Rattle.normal_writer.specs.Writes.{Begins, Writes, writes, outside, Heads, heads, nameless, Scoped, Plain, Functions, at_plain, Ended, ended, broken, Types}
use Rattle.normal_steps.specs.declared.state.State.{State}
use Rattle.normal_steps.specs.declared.state.Writer.{Writer}

-- ---------------------------------------------------------------- the start

-- nothing is noted, and t is written
pub begun_holds : (t : Text) (w : Writer) → Begins t w → length w.s.now ≤ most_symbol_bytes → (at : ℕ) → at ≤ length w.s.now → length t + 1 ≤ 4 * at
    → Held (gone w at) (notes t [] [] 0 (drop at w.s.now))
unfolding nodes_of note_add_all
begun_holds t w b l at h k = subst (λ (p : State). Carries w.s.now (slices_of w) (moved_to p at) (notes t [] [] 0 (drop at w.s.now))) (sym b.is) (record {
  source = l;
  place = h;
  rest = refl;
  nodes_are = refl;
  found = found_nothing b.numbers;
  tabled = tabled_nothing b.numbers.tables;
  table_count = refl;
  firsts_count = refl;
  out_is = b.out;
  out_count = refl;
  args_count = refl;
  few_nodes = omega arith;
  few_entries = omega arith;
  few_args = omega arith;
  short = k;
})

-- ---------------------------------------------------------------- answers

heads_by : {w : Writer} {r : Option Bool} {f g : Got Bool} → f ≡ g → Heads w r g → Heads w r f
heads_by {w} {r} e h = subst (λ (x : Got Bool). Heads w r x) (sym e) h

-- ---------------------------------------------------------------- a source name

pub plain_none : (s : Text) (w : Writer) → name (drop 2 s) ≡ stop → Plain s w None
plain_none s w e = heads_by (ap (λ (x : Rd Text). with x (λ n r. got false (begun (name_bytes n) r))) e) nameless

module _ (s : Text) (w : Writer) (z : w.s.now ≡ s) (b : Begins (95 ∷ 90 ∷ []) w) (l : length s ≤ most_symbol_bytes) {from to : ℕ} (h : NameAt s 2 from to) where
  abbrev word : Text
  word = name_bytes (part w.s.now from to)

  here : NameAt w.s.now 2 from to
  here = subst (λ (x : Text). NameAt x 2 from to) (sym z) h

  -- it has as many bytes as were read
  word_size : length word + 2 ≡ to
  word_size = let a = name_size here in omega arith

  out_is : w.state.out ≡ 2
  out_is = ap (λ (p : State). p.out) b.is

  pub plain_room : w.state.out + length word ≤ length w.out.now
  plain_room = omega (arith, out_is, word_size, h.inside, b.out.size)

  pub plain_heads : (w₁ : Writer) → Puts word (gone w to) w₁ → Plain s w₁ (Some false)
  plain_heads w₁ y =
      let k = word_size in
      let n : 2 ≤ to = omega (arith, h.behind, h.some) in
      let i = begun_holds (95 ∷ 90 ∷ []) w b (omega (arith, ap length z)) to here.inside (omega arith) in
      heads_by (ap (λ (x : Text). at_plain (drop 2 x)) (sym z) ∙ ap (λ (x : Rd Text). with x (λ n r. got false (begun (name_bytes n) r))) here.is)
      (heads (y.1 (notes (95 ∷ 90 ∷ []) [] [] 0 (drop to w.s.now)) i (omega (arith, out_is))) (omega (arith, ap (λ (p : State). p.at) y.0)))

-- ---------------------------------------------------------------- a nested name

abbrev pub first : Text → Text → Notes
first s t = notes t [] [] 0 (drop (length t) s)

-- t is written and taken, and nothing is noted
module _ (s t : Text) (w : Writer) (z : w.s.now ≡ s) (b : Begins t w) (l : length s ≤ most_symbol_bytes) (two : 2 ≤ length t) (fits : length t ≤ length s) where
  at_is : w.state.at ≡ length t
  at_is = ap (λ (p : State). p.at) b.is

  pub scoped_held : Held w (first s t)
  scoped_held =
      let h = begun_holds t w b (omega (arith, ap length z)) (length t) (omega (arith, ap length z)) (omega arith) in
      let k : Carries w.s.now (slices_of w) (begun_at (length t) (length t)) (first w.s.now t) =
      subst (λ (p : State). Carries w.s.now (slices_of w) (moved_to p (length t)) (first w.s.now t)) b.is h in
      subst (λ (p : State). Carries w.s.now (slices_of w) p (first s t)) (sym b.is)
      (subst (λ (x : Text). Carries w.s.now (slices_of w) (begun_at (length t) (length t)) (first x t)) z k)

  pub scoped_holds : Ready w
  scoped_holds = (_, scoped_held)

  module _ (w₁ : Writer) where
    by_size : {r : Option ℕ} → Fueled 1 5 w.state.out 0 (λ m. note_parts m w.state.out) w w₁ r → (m : ℕ) → length s ≤ m + length t
        → Answers (Spent 1 5 w.state.out w.state) w₁ r (note_parts m (length t) (first s t))
    by_size {r} f m k =
        subst (λ (j : ℕ). Answers (Spent 1 5 w.state.out w.state) w₁ r (note_parts m j (first s t))) (ap (λ (p : State). p.out) b.is)
        (f (first s t) scoped_held m (omega (arith, at_is, ap length z)))

    pub scoped_none : (c : Bool) → Fueled 1 5 w.state.out 0 (λ m. note_parts m w.state.out) w w₁ None → Scoped t c s w₁ None
    scoped_none c f m k = heads_by (ap (note_at_scoped c) (refused (by_size f m k))) nameless

    module _ {u : ℕ} (f : Fueled 1 5 w.state.out 0 (λ m. note_parts m w.state.out) w w₁ (Some u)) where
      pub scoped_told : (m : ℕ) → length s ≤ m + length t → Told (Spent 1 5 w.state.out w.state) w₁ u (note_parts m (length t) (first s t))
      scoped_told m k = answered (by_size f m k)

      pub scoped_next : (Spare 1 w₁.state) × Ready w₁
      scoped_next = let a = scoped_told (length s) (omega arith) in (omega (arith, a.limits.out), (a.state, a.holds))

      module _ (c : Bool) {v : ℕ} {y : Bool} (d : Tag w₁ u v) (x : y ≡ a_bare v) where
        by_tag : (m : ℕ) (k : length s ≤ m + length t) → note_at_scoped c (note_parts m (length t) (first s t)) ≡ when y (got c (closed (scoped_told m k).state))
        by_tag m k =
            let a = scoped_told m k in
            ap (note_at_scoped c) a.is ∙ ap (λ (b : Bool). when b (got c (closed a.state))) (sym (x ∙ ap (λ (j : ℕ). a_bare j) (d a.state a.holds)))

        pub scoped_full : y ≡ false → Scoped t c s w₁ None
        scoped_full h m k = heads_by (by_tag m k ∙ ap (λ (b : Bool). when b (got c (closed (scoped_told m k).state))) h) nameless

        pub scoped_heads : (w₂ : Writer) → y ≡ true → Closes w₁ w₂ → Scoped t c s w₂ (Some c)
        scoped_heads w₂ h g m k =
            let a = scoped_told m k in
            let j = g a.state a.holds in
            heads_by (by_tag m k ∙ ap (λ (b : Bool). when b (got c (closed a.state))) h) (heads j.holds (omega (arith, j.limits.at, a.limits.at, at_is)))

-- ---------------------------------------------------------------- a function's name

module _ (m : ℕ) where
  abbrev constant : Text → Got Bool
  constant t = note_at_scoped true (note_parts m 4 (notes (95 ∷ 90 ∷ 78 ∷ 75 ∷ []) [] [] 0 t))

  abbrev other : Text → Got Bool
  other t = note_at_scoped false (note_parts m 3 (notes (95 ∷ 90 ∷ 78 ∷ []) [] [] 0 t))

  abbrev nested : Text → Got Bool
  nested t = if_next 75 t constant (other t)

module _ (s : Text) (w : Writer) {r : Option Bool} where
  pub function_plain : starts (drop 2 s) (78 ∷ []) ≡ false → Plain s w r → Functions s w r
  function_plain h f m k = heads_by (next_not 78 (nested m) (at_plain (drop 2 s)) (drop 2 s) h) f

  module _ (h : starts (drop 2 s) (78 ∷ []) ≡ true) where
    pub function_scoped : starts (drop 3 s) (75 ∷ []) ≡ false → Scoped (95 ∷ 90 ∷ 78 ∷ []) false s w r → Functions s w r
    function_scoped e f m k =
        heads_by (next_here 78 (nested m) (at_plain (drop 2 s)) s 2 h ∙ next_not 75 (constant m) (other m (drop 3 s)) (drop 3 s) e) (f m k)

    pub function_constant : starts (drop 3 s) (75 ∷ []) ≡ true → Scoped (95 ∷ 90 ∷ 78 ∷ 75 ∷ []) true s w r → Functions s w r
    function_constant e f m k =
        heads_by (next_here 78 (nested m) (at_plain (drop 2 s)) s 2 h ∙ next_here 75 (constant m) (other m (drop 3 s)) s 3 e) (f m (omega arith))

-- ---------------------------------------------------------------- types

-- the types are read on from here, with enough fuel
pub record Goes (w : Writer) (g : Got (Unit {0})) : Type 0 where
  pub state : Notes
  pub fuel : ℕ
  pub holds : Held w state
  pub enough : length w.s.now + 1 ≤ fuel + w.state.at
  pub is : g ≡ note_at_end state state.rest (λ ρ. note_types fuel ρ)

pub goes_ended : {w : Writer} {g : Got (Unit {0})} → Goes w g → length w.s.now ≤ w.state.at → Ended w (Some tt) g
goes_ended {w} {g} a h =
    let e : g ≡ got tt a.state = a.is ∙ ap (λ (t : Text). note_at_end a.state t (λ ρ. note_types a.fuel ρ)) (a.holds.rest ∙ rest_none w.s.now w.state.at h) in
    subst (λ (x : Got (Unit {0})). Ended w (Some tt) x) (sym e) (ended a.holds)

pub ends_broken : (w : Writer) {g : Got (Unit {0})} → g ≡ bad → Ended w None g
ends_broken w e = subst (λ (x : Got (Unit {0})). Ended w None x) (sym e) broken

module _ (w : Writer) {g : Got (Unit {0})} (a : Goes w g) (here : w.state.at < length w.s.now) (w₁ : Writer) where
  abbrev less : ℕ
  less = a.fuel - 1

  step : g ≡ next (note_type less a.state) (λ t τ. when (not (a_lit (tag_of τ.nodes t))) (note_at_end τ τ.rest (λ ρ. note_types less ρ)))
  unfolding note_types
  step =
      a.is
      ∙ ap (λ (t : Text). note_at_end a.state t (λ ρ. note_types a.fuel ρ)) (a.holds.rest ∙ rest_some w.s.now w.state.at here)
      ∙ ap (λ (m : ℕ). note_types m a.state) {x = a.fuel} {y = suc less} (omega (arith, a.enough))

  typed : {r : Option ℕ} → Fueled 1 4 w.state.out 0 note_type w w₁ r → Answers (Spent 1 4 w.state.out w.state) w₁ r (note_type less a.state)
  typed f = f a.state a.holds less (omega (arith, a.enough))

  pub turn_none : Fueled 1 4 w.state.out 0 note_type w w₁ None → g ≡ bad
  turn_none f = step ∙ ap (λ (x : Got ℕ). next x (λ t τ. when (not (a_lit (tag_of τ.nodes t))) (note_at_end τ τ.rest (λ ρ. note_types less ρ)))) (refused (typed f))

  module _ {t : ℕ} (f : Fueled 1 4 w.state.out 0 note_type w w₁ (Some t)) where
    pub turn_told : Told (Spent 1 4 w.state.out w.state) w₁ t (note_type less a.state)
    turn_told = answered (typed f)

    module _ {v : ℕ} (d : Tag w₁ t v) where
      abbrev after : Notes
      after = turn_told.state

      by_lit : (y : Bool) → a_lit v ≡ y → g ≡ when (not y) (note_at_end after after.rest (λ ρ. note_types less ρ))
      by_lit y z =
          step
          ∙ ap (λ (x : Got ℕ). next x (λ t τ. when (not (a_lit (tag_of τ.nodes t))) (note_at_end τ τ.rest (λ ρ. note_types less ρ)))) turn_told.is
          ∙ ap (λ (y : Bool). when (not y) (note_at_end after after.rest (λ ρ. note_types less ρ)))
          (ap (λ (c : ℕ). a_lit c) (sym (d after turn_told.holds)) ∙ z)

      pub turn_lit : v ≡ 76 → g ≡ bad
      turn_lit z = by_lit true (eq-eqb v 76 z)

      pub turn_more : w₁.s.now ≡ w.s.now → (v ≡ 76 → ⊥) → Goes w₁ g
      turn_more e z = record {
        state = after;
        fuel = less;
        holds = turn_told.holds;
        enough = omega (arith, a.enough, turn_told.limits.at, ap length e);
        is = by_lit false (ne_eqb v 76 z);
      }

-- the turns of the loop so far, from w to w'
pub record Turned (w w' : Writer) : Type 0 where
  pub source : w'.s.now ≡ w.s.now
  pub same : lent w' ≡ lent w
  pub goes : (σ : Notes) → Held w σ → (m : ℕ) → length w.s.now + 1 ≤ m + w.state.at → Goes w' (note_at_end σ σ.rest (λ ρ. note_types m ρ))

-- where the first state is ready, so is this one
pub turned_from : {w w' : Writer} → Turned w w' → (y : Ready w) → Goes w' (note_at_end y.0 y.0.rest (λ ρ. note_types (length w.s.now + 1) ρ))
turned_from {w} a y = a.goes y.0 y.1 (length w.s.now + 1) (omega arith)

-- ---------------------------------------------------------------- whole symbols

abbrev behind : Text → Normal Text
behind t = symbol_of (note_encoding (suc (length t)) t)

symbol_by : (s : Text) → note_symbol s ≡ (if starts s (95 ∷ 90 ∷ []) then behind (drop 2 s) otherwise none)
unfolding starts note_symbol if◌then◌otherwise◌
symbol_by [] = refl
symbol_by (c ∷ []) = go (eqb c 95)
  where
    go : (x : Bool) → (if x then none otherwise none) ≡ (if x && false then behind [] otherwise none)
    go true = refl
    go false = refl
symbol_by (c ∷ d ∷ t) = rw (starts_nothing t) (go (eqb c 95) (eqb d 90))
  where
    go : (x y : Bool) → (if x then (if y then behind t otherwise none) otherwise none) ≡ (if x && (y && true) then behind t otherwise none)
    go true true = refl
    go true false = refl
    go false y = refl

pub symbol_not : (s : Text) → starts s (95 ∷ 90 ∷ []) ≡ false → note_symbol s ≡ none
unfolding if◌then◌otherwise◌
symbol_not s h = symbol_by s ∙ rw h refl

symbol_is : (s : Text) → starts s (95 ∷ 90 ∷ []) ≡ true → note_symbol s ≡ behind (drop 2 s)
unfolding if◌then◌otherwise◌
symbol_is s h = symbol_by s ∙ rw h refl

long : (s : Text) → starts s (95 ∷ 90 ∷ []) ≡ true → 2 ≤ length s
unfolding starts
long [] h = absurd (false≢true h)
long (c ∷ []) h = absurd (go (eqb c 95) h)
  where
    go : (x : Bool) → (x && false) ≡ true → ⊥
    go true e = false≢true e
    go false e = false≢true e
long (c ∷ d ∷ t) h = omega arith

-- what an answer with a name says
pub record Headed_by (w : Writer) (k : Bool) (g : Got Bool) : Type 0 where
  pub state : Notes
  pub holds : Held w state
  pub far : 2 ≤ w.state.at
  pub is : g ≡ got k state

-- what an answer with types says
pub record Ended_by (w : Writer) (g : Got (Unit {0})) : Type 0 where
  pub state : Notes
  pub holds : Held w state
  pub is : g ≡ got tt state

module _ {w : Writer} where
  headed : {k : Bool} {g : Got Bool} → Heads w (Some k) g → Headed_by w k g
  headed (heads {σ = σ} h l) = record { state = σ; holds = h; far = l; is = refl }

  unheaded : {g : Got Bool} → Heads w None g → g ≡ bad
  unheaded nameless = refl

  ends : {g : Got (Unit {0})} → Ended w (Some tt) g → Ended_by w g
  ends (ended {σ = σ} h) = record { state = σ; holds = h; is = refl }

  unended : {g : Got (Unit {0})} → Ended w None g → g ≡ bad
  unended broken = refl

pub outside_by : (w : Writer) (s : Text) → note_symbol s ≡ none → Writes w None (note_symbol s)
outside_by w s e = subst (λ (x : Normal Text). Writes w None x) (sym e) outside

params_some : (k : Bool) (σ : Notes) (t : Text) (f : Notes → Got (Unit {0})) → (k ≡ true → 0 < length t) → note_at_params k σ t f ≡ note_at_end σ t f
params_some false σ [] f h = refl
params_some true σ [] f h = let z = h refl in absurd (omega arith)
params_some k σ (d ∷ t) f h = refl

module _ (s : Text) (y : starts s (95 ∷ 90 ∷ []) ≡ true) (w : Writer) where
  abbrev size : ℕ
  size = suc (length (drop 2 s))

  abbrev read_types : Bool → Notes → Got (Unit {0})
  read_types k σ = note_at_params k σ σ.rest (λ τ. note_types size τ)

  named : {r : Option Bool} → Functions s w r → Heads w r (at_function (drop 2 s) (λ from σ. note_parts size from σ))
  named f = f size (omega (arith, long s y, length-drop 2 s))

  named_by : (g : Got Bool) → at_function (drop 2 s) (λ from σ. note_parts size from σ) ≡ g → note_symbol s ≡ symbol_of (next g (λ k σ. read_types k σ))
  unfolding note_encoding
  named_by g e = symbol_is s y ∙ ap (λ (x : Got Bool). symbol_of (next x (λ k σ. read_types k σ))) e

  pub symbol_nameless : Functions s w None → note_symbol s ≡ none
  symbol_nameless f = named_by bad (unheaded (named f))

  module _ (z : w.s.now ≡ s) {k : Bool} (f : Functions s w (Some k)) where
    pub symbol_headed : Headed_by w k (at_function (drop 2 s) (λ from σ. note_parts size from σ))
    symbol_headed = headed (named f)

    pub symbol_ready : Ready w
    symbol_ready = (symbol_headed.state, symbol_headed.holds)

    abbrev first_types : Notes
    first_types = symbol_headed.state

    by_types : note_symbol s ≡ symbol_of (read_types k first_types)
    by_types = named_by (got k first_types) symbol_headed.is

    rest_is : first_types.rest ≡ drop w.state.at w.s.now
    rest_is = symbol_headed.holds.rest

    -- a K and no types
    pub symbol_alone : k ≡ true → length w.s.now ≤ w.state.at → note_symbol s ≡ none
    symbol_alone e l =
        by_types
        ∙ ap (λ (c : Bool). symbol_of (read_types c first_types)) e
        ∙ ap (λ (t : Text). symbol_of (note_at_params true first_types t (λ τ. note_types size τ))) (rest_is ∙ rest_none w.s.now w.state.at l)

    module _ (h : k ≡ true → w.state.at < length w.s.now) (w₁ : Writer) where
      typed_symbol : {r : Option (Unit {0})} → Types w w₁ r → Ended w₁ r (note_at_end first_types first_types.rest (λ τ. note_types size τ))
      typed_symbol t = t first_types symbol_headed.holds size (omega (arith, symbol_headed.far, long s y, length-drop 2 s, ap length z))

      by_end : (g : Got (Unit {0})) → note_at_end first_types first_types.rest (λ τ. note_types size τ) ≡ g → note_symbol s ≡ symbol_of g
      by_end g e =
          by_types
          ∙ ap symbol_of (params_some k first_types first_types.rest (λ τ. note_types size τ)
          (λ (x : k ≡ true). omega (arith, h x, ap length rest_is, length-drop w.state.at w.s.now)))
          ∙ ap symbol_of e

      pub symbol_broken : Types w w₁ None → note_symbol s ≡ none
      symbol_broken t = by_end bad (unended (typed_symbol t))

      module _ (t : Types w w₁ (Some tt)) where
        symbol_ended : Ended_by w₁ (note_at_end first_types first_types.rest (λ τ. note_types size τ))
        symbol_ended = ends (typed_symbol t)

        args_are : w₁.state.args ≡ symbol_ended.state.args
        args_are = symbol_ended.holds.args_count

        pub symbol_many : most_arguments < w₁.state.args → note_symbol s ≡ none
        unfolding if◌then◌otherwise◌
        symbol_many l = by_end (got tt symbol_ended.state) symbol_ended.is ∙ rw (lt-leb symbol_ended.state.args most_arguments (omega (arith, args_are))) refl

        pub symbol_writes : w₁.state.args ≤ most_arguments → Writes w₁ (Some tt) (note_symbol s)
        unfolding if◌then◌otherwise◌
        symbol_writes l =
            let x : note_symbol s ≡ some symbol_ended.state.out =
            by_end (got tt symbol_ended.state) symbol_ended.is ∙ rw (le-leb symbol_ended.state.args most_arguments (omega (arith, args_are))) refl in
            subst (λ (v : Normal Text). Writes w₁ (Some tt) v) (sym x) (writes symbol_ended.holds)
