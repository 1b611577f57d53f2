-- Laws of template arguments: the level, the list between the brackets and the bracket that closes it. Assumes nothing.
use Rattle.std.proofs.Common.{◌≡◌, ℕ, ◌+◌, ◌≤◌, ◌<◌, Bool, true, false, [], ◌∷◌, ◌++◌, List, suc, length, length-append, drop, min, refl, sym, ap, ◌∙◌, subst, arith}
use Rattle.std.specs.Prelude.{Result, Ok, Err, ◌-◌, ◌==◌, ◌&&◌, nat_eq, slice_index, take}
use Rattle.std.specs.Cmp.Lexicographic.{pointwise}
use Rattle.std.proofs.Common.{eqb-true, drop-cons, get_or-take, drop_of_length-le}
use Rattle.std.proofs.lemmas.Bool.{eqb-false}
use Rattle.grammar.specs.Text.{Text, b, starts, join, same}
use Rattle.grammar.specs.Limits.{most_open, most_length}
use Rattle.grammar.specs.Reader.{State, ok, onto, give}
use Rattle.grammar.specs.Grammar.{reading, ⟨template-args⟩}
use Rattle.grammar.specs.Grammar as g
use Rattle.grammar.specs.Laws.Agree.{moved}
use Rattle.grammar.specs.Laws.Steps.{at_level}
use Rattle.grammar.specs.Laws.Loops.{closed}
use Rattle.grammar.specs.declared.refusal.Refusal.{Refusal}
use Rattle.grammar.specs.declared.refusal.Refusal.TheVariants.{NoRule}
use Rattle.store.specs.Stack.{Put, newest, Stack as Stacked}
use Rattle.store.specs.Laws.Lists.{same_texts}
use Rattle.store.specs.Laws.Tails.{top_size}
use Rattle.store.specs.declared.stack.Stack.{Stack}
use Rattle.parser.specs.declared.demangler.Demangler.{Demangler}
use Rattle.parser.specs.Demanglers.{state_of, memory_of, Held, at_place, at_depth, Enters, Parses, given_length, lent}
use Rattle.parser.specs.Holds.{Stands, Puts, refuses, window, keep}
use Rattle.parser.specs.Laws.Demanglers.{Passed, Stayed, ParsesInAny, parses_lent, deeper_by_one, went_in, stayed_out, puts_of, given_by, lent_stack}
use Rattle.parser.specs.Laws.Holds.{by, holds_puts}
use Rattle.parser.specs.Laws.Wraps.{stands_puts}
use Rattle.reader.specs.declared.lists.Joined.{Joined}
use Rattle.reader.specs.declared.lists.Kind.TheVariants.{Arguments}
use Rattle.reader.specs.Cycle.{Itemized}
use Rattle.reader.specs.Laws.Items.{looped}
use Rattle.reader.specs.Laws.Brackets.{bracket_stands, stands_last, angled_more, angled_plain, args_given}
use Rattle.reader.specs.Laws.Closes.{GotList, got_list, list_refused, closed_no, then_refused, args_8, args_is, args_open}
use Rattle.reader.specs.Laws.Standing.{given_as}

-- ---------------------------------------------------------------- template arguments

-- one level down, behind the byte
abbrev pub within : Demangler → Demangler
within d = deeper_by_one (at_place d (d.state.at + 1))

-- back at the level, behind another byte
abbrev pub without : Demangler → Demangler → Demangler
without d d' = record d' { state = record d'.state { at = d'.state.at + 1; depth = d.state.depth } }

-- no level more
pub args_too_deep :
    {d d₁ d₂ : Demangler} {e : Refusal} → Passed 73 d d₁ → Enters d₁ d₂ (Err e) → Parses (reading ⟨template-args⟩) (keep (d.state.depth + 1)) (d.state.at + 1) d d₂ (Err e)
args_too_deep {d} {d₁} {d₂} {e} p h =
    let o = stayed_out h in
    rw o.why_is (record {
      symbol = ap (λ (x : Demangler). x.s.now) (o.is ∙ p.is);
      same = ap lent (o.is ∙ p.is);
      reads = λ σ k. by (args_8 d.s.now d.state.at σ k.rest (ap (λ (t : Text). starts t (73 ∷ [])) k.rest ∙ p.past.ahead) (omega (arith, k.depth, o.so, ap (λ (x : Demangler). x.state.depth) p.is))) refuses;
    })

-- the newest byte, as code compares it
only : (q : Bool) → (q && true) ≡ q
only true = refl
only false = refl

pub newest_byte :
    (text : Text) (top c : ℕ) {u v : Text} {q : Bool} → Stacked text top → 1 ≤ top → u ≡ newest text top 1 → v ≡ c ∷ [] → q ≡ pointwise nat_eq u v → q ≡ (slice_index text (top - 1) == c)
unfolding same
newest_byte text top c {u} {v} {q} h l e f g =
    let z : length (take top text) ≡ top = top_size h in
    let a : newest text top 1 ≡ slice_index text (top - 1) ∷ [] =
    drop-cons (take top text) (top - 1) 0 (omega (arith, z, l))
    ∙ ap (λ (x : ℕ). x ∷ drop (suc (top - 1)) (take top text)) (get_or-take top text (top - 1) 0 (omega (arith, l)))
    ∙ ap (λ (t : Text). slice_index text (top - 1) ∷ t) (drop_of_length-le (take top text) {i = suc (top - 1)} (omega (arith, z, l))) in
    g ∙ ap (λ (t : Text). pointwise nat_eq t v) (e ∙ a) ∙ ap (pointwise nat_eq (slice_index text (top - 1) ∷ [])) f
    ∙ same_texts (slice_index text (top - 1) ∷ []) (c ∷ []) ∙ only (slice_index text (top - 1) == c)

-- what closes a list, whether a > stands before it or not
abbrev pub close_of : Bool → Text
close_of true = 32 ∷ 62 ∷ []
close_of false = 62 ∷ []

angled_as : (ts : List Text) (q : Bool) → (slice_index (60 ∷ join (b ", ") ts) (length (join (b ", ") ts)) == 62) ≡ q → g.angled ts ≡ (60 ∷ join (b ", ") ts) ++ close_of q
angled_as ts true e = angled_more ts (eqb-true _ 62 e)
angled_as ts false e = angled_plain ts (eqb-false _ 62 e)

-- an I, a level and a <
pub record InAngles (d d' : Demangler) (x : Stack) : Type 0 where
  pub ahead : starts (drop d.state.at d.s.now) (73 ∷ []) ≡ true
  pub inside : d.state.at + 1 ≤ length d.s.now
  pub below : d.state.depth < most_open
  pub is : d' ≡ within d
  pub same : lent (record (within d) { stack = x }) ≡ lent d
  pub puts : Puts d.stack.bytes.now x.bytes.now (state_of (within d)) (state_of (record (within d) { stack = x })) (60 ∷ [])

-- as `InAngles`, in any slices
pub record InAnglesInAny (d d' : Demangler) (x : Stack) : Type 0 where
  pub ahead : starts (drop d.state.at d.s.now) (73 ∷ []) ≡ true
  pub inside : d.state.at + 1 ≤ length d.s.now
  pub below : d.state.depth < most_open
  pub is : d' ≡ within d
  pub puts : Puts d.stack.bytes.now x.bytes.now (state_of (within d)) (state_of (record (within d) { stack = x })) (60 ∷ [])

module _ {d d' : Demangler} {x : Stack} where
  pub angles_in_any : InAngles d d' x → InAnglesInAny d d' x
  angles_in_any o = record { ahead = o.ahead; inside = o.inside; below = o.below; is = o.is; puts = o.puts }

  angles_lent : InAnglesInAny d d' x → lent (record (within d) { stack = x }) ≡ lent d → InAngles d d' x
  angles_lent o s = record { ahead = o.ahead; inside = o.inside; below = o.below; is = o.is; same = s; puts = o.puts }

pub opened :
    {d d₁ d₂ : Demangler} (x : Stack) {u : Unit {0}} → Passed 73 d d₁ → Enters d₁ d₂ (Ok u) → Put d₂.stack.bytes.now x.bytes.now d₂.stack.top x.top (60 ∷ []) → InAnglesInAny d d₂ x
opened {d} {d₁} {d₂} x p e u =
    let w = went_in e in
    let f : d₂ ≡ within d = w.1 ∙ ap deeper_by_one p.is in
    record {
      ahead = p.past.ahead;
      inside = omega (arith, p.past.inside);
      below = omega (arith, w.0, ap (λ (y : Demangler). y.state.depth) p.is);
      is = f;
      puts = puts_of (within d) x (subst (λ (y : Demangler). Put y.stack.bytes.now x.bytes.now y.stack.top x.top (60 ∷ [])) f u);
    }

pub opened_lent :
    {d d₁ d₂ : Demangler} (x : Stack) {u : Unit {0}} → Passed 73 d d₁ → Enters d₁ d₂ (Ok u) → Put d₂.stack.bytes.now x.bytes.now d₂.stack.top x.top (60 ∷ []) → x.bytes.ghost_name ≡ d₂.stack.bytes.ghost_name → InAngles d d₂ x
opened_lent {d} {d₁} {d₂} x p e u n =
    let o = opened x p e u in
    angles_lent o (lent_stack (within d) x (n ∙ ap (λ (y : Demangler). y.stack.bytes.ghost_name) o.is))

module _ {d d' : Demangler} {x : Stack} (o : InAnglesInAny d d' x) where
  -- the state of the list
  abbrev list_state : State → State
  list_state σ = at_level (σ.depth + 1) (moved (drop (d.state.at + 1) d.s.now) σ)

  args_are :
      {σ : State} → Held d σ →
      reading ⟨template-args⟩ σ ≡ onto (λ t u. ok t (at_level σ.depth u)) (onto (λ ts. give (g.angled ts)) (onto closed (looped Arguments [] (list_state σ))))
  args_are {σ} h = args_is d.s.now d.state.at σ h.rest (ap (λ (t : Text). starts t (73 ∷ [])) h.rest ∙ o.ahead) (omega (arith, h.depth, o.below))

  opened_in : {σ : State} → Held d σ → Held (record (within d) { stack = x }) (list_state σ)
  opened_in h = holds_puts o.puts (args_open refl refl o.below o.inside h)

  pub opened_held : {σ : State} → Held d σ → Held (record d' { stack = x }) (list_state σ)
  opened_held {σ} h = subst (λ (y : Demangler). Held (record y { stack = x }) (list_state σ)) (sym o.is) (opened_in h)

  module _ {d₄ : Demangler} where
    list_in : (r : Result Joined Refusal) → Itemized Arguments (record d' { stack = x }) d₄ r → Itemized Arguments (record (within d) { stack = x }) d₄ r
    list_in r i = subst (λ (y : Demangler). Itemized Arguments (record y { stack = x }) d₄ r) o.is i

    -- a list that is none
    pub args_no_list : {e : Refusal} → Itemized Arguments (record d' { stack = x }) d₄ (Err e) → ParsesInAny (reading ⟨template-args⟩) (keep (d.state.depth + 1)) (d.state.at + 1) d d₄ (Err e)
    args_no_list {e} i =
        let j = list_in (Err e) i in
        record {
          symbol = j.symbol;
          reads = λ σ h. by (args_are h ∙ then_refused _ (then_refused _ (then_refused _ (list_refused refl (j.is _ (opened_in h)))))) refuses;
        }

    module _ {l : Joined} (i : Itemized Arguments (record d' { stack = x }) d₄ (Ok l)) where
      pub list_symbol : d₄.s.now ≡ d.s.now
      list_symbol = (list_in (Ok l) i).symbol

      pub list_is :
          {σ : State} → Held d σ →
          GotList (keep (d.state.depth + 1)) (d.state.depth + 1) d.s.now (window (memory_of (record (within d) { stack = x })) (state_of (record (within d) { stack = x }))) (d.state.at + 1)
          (memory_of d₄) (state_of d₄) l.n l.count (looped Arguments [] (list_state σ))
      list_is h = got_list refl ((list_in (Ok l) i).is _ (opened_in h))

      ahead_E : {q : Bool} {σ : State} (h : Held d σ) → starts (drop d₄.state.at d₄.s.now) (69 ∷ []) ≡ q → starts (list_is h).state.rest (69 ∷ []) ≡ q
      ahead_E h e = ap (λ (t : Text). starts t (69 ∷ [])) ((list_is h).stands.holds.rest ∙ ap (drop d₄.state.at) (sym list_symbol)) ∙ e

      -- no E behind the list
      pub args_unclosed :
          {d₅ : Demangler} {e : Refusal} → Stayed (starts (drop d₄.state.at d₄.s.now) (69 ∷ []) ≡ false) e NoRule d₄ d₅ →
          ParsesInAny (reading ⟨template-args⟩) (keep (d.state.depth + 1)) (d.state.at + 1) d d₅ (Err e)
      args_unclosed {d₅} {e} z =
          rw z.why_is (record {
            symbol = ap (λ (y : Demangler). y.s.now) z.is ∙ list_symbol;
            reads = λ σ h. by (args_are h ∙ then_refused _ (then_refused _ (closed_no (list_is h).is (ahead_E h z.so)))) refuses;
          })

      module _ {d₅ : Demangler} (p : Passed 69 d₄ d₅) where
        pub bracketed :
            {σ : State} (h : Held d σ) →
            Stands (keep (d.state.depth + 1)) d.state.depth d.s.now (window (memory_of d) (state_of d)) (d.state.at + 1) (memory_of d₄) (state_of (without d d₄))
            (min (length (60 ∷ join (b ", ") (list_is h).texts)) most_length) (60 ∷ join (b ", ") (list_is h).texts) (at_level d.state.depth (moved (drop (d₄.state.at + 1) d.s.now) (list_is h).state))
        bracketed h =
            bracket_stands (state_of d) {mv = state_of (at_place d₄ (d₄.state.at + 1))} {at = d.state.at + 1} {end = d₄.state.at + 1} refl refl o.below (args_open refl refl o.below o.inside h) o.puts
            (list_is h).stands refl refl (omega arith) (omega (arith, p.past.inside, ap length list_symbol))

        -- behind the E and back at the level
        back_out : {d₆ : Demangler} {depth : ℕ} → d₆ ≡ at_depth d₅ depth → depth ≡ d.state.depth → d₆ ≡ without d d₄
        back_out e a = e ∙ ap (at_depth d₅) a ∙ ap (λ (z : Demangler). at_depth z d.state.depth) p.is

        pub args_closed :
            {d₆ : Demangler} {y : Stack} {w : Text} {q : Bool} {m depth : ℕ} {r : Result ℕ Refusal} → d₆ ≡ at_depth d₅ depth → depth ≡ d.state.depth →
            q ≡ (slice_index d₆.stack.bytes.now (d₆.stack.top - 1) == 62) → w ≡ close_of q →
            Put d₆.stack.bytes.now y.bytes.now d₆.stack.top y.top w → m ≡ min (l.n + (length w + 1)) most_length → r ≡ given_length m →
            ParsesInAny (reading ⟨template-args⟩) (keep (d.state.depth + 1)) (d.state.at + 1) d (record d₆ { stack = y }) r
        args_closed {d₆} {y} {w} {q} {m} {r = r} i a e f u n k =
            let x = back_out i a in
            let there : record d₆ { stack = y } ≡ record (without d d₄) { stack = y } = ap (λ (z : Demangler). record z { stack = y }) x in
            let u' : Put d₄.stack.bytes.now y.bytes.now d₄.stack.top y.top w = subst (λ (z : Demangler). Put z.stack.bytes.now y.bytes.now z.stack.top y.top w) x u in
            let e' : q ≡ (slice_index d₄.stack.bytes.now (d₄.stack.top - 1) == 62) = e ∙ ap (λ (z : Demangler). slice_index z.stack.bytes.now (z.stack.top - 1) == 62) x in
            subst (λ (z : Demangler). ParsesInAny (reading ⟨template-args⟩) (keep (d.state.depth + 1)) (d.state.at + 1) d z r) (sym there) (record {
              symbol = list_symbol;
              reads = λ σ h.
                  let g = list_is h in
                  let s = bracketed h in
                  by (args_are h ∙ args_given d.s.now d₄.state.at g.is g.stands.holds.rest (ahead_E h p.past.ahead) h.depth
                  (angled_as g.texts q (ap (λ (i : ℕ). i == 62) (sym (stands_last s)) ∙ sym e') ∙ ap (λ (t : Text). (60 ∷ join (b ", ") g.texts) ++ t) (sym f)))
                  (given_as (given_by (state_of (record (without d d₄) { stack = y })) m k)
                  (stands_puts s (puts_of (without d d₄) y u') (omega (arith, n, g.stands.size, length-append (60 ∷ join (b ", ") g.texts) w))));
            })

-- ---------------------------------------------------------------- in the slices that were lent

module _ {d d' : Demangler} {x : Stack} (o : InAngles d d' x) {d₄ : Demangler} where
  list_same : (r : Result Joined Refusal) → Itemized Arguments (record d' { stack = x }) d₄ r → lent d₄ ≡ lent d
  list_same r i = (list_in (angles_in_any o) r i).same ∙ o.same

  pub args_no_list_lent : {e : Refusal} → Itemized Arguments (record d' { stack = x }) d₄ (Err e) → Parses (reading ⟨template-args⟩) (keep (d.state.depth + 1)) (d.state.at + 1) d d₄ (Err e)
  args_no_list_lent {e} i = parses_lent (args_no_list (angles_in_any o) i) (list_same (Err e) i)

  module _ {l : Joined} (i : Itemized Arguments (record d' { stack = x }) d₄ (Ok l)) where
    pub args_unclosed_lent :
        {d₅ : Demangler} {e : Refusal} → Stayed (starts (drop d₄.state.at d₄.s.now) (69 ∷ []) ≡ false) e NoRule d₄ d₅ →
        Parses (reading ⟨template-args⟩) (keep (d.state.depth + 1)) (d.state.at + 1) d d₅ (Err e)
    args_unclosed_lent z = parses_lent (args_unclosed (angles_in_any o) i z) (ap lent z.is ∙ list_same (Ok l) i)

    module _ {d₅ : Demangler} (p : Passed 69 d₄ d₅) where
      pub args_closed_lent :
          {d₆ : Demangler} {y : Stack} {w : Text} {q : Bool} {m depth : ℕ} {r : Result ℕ Refusal} → d₆ ≡ at_depth d₅ depth → depth ≡ d.state.depth →
          q ≡ (slice_index d₆.stack.bytes.now (d₆.stack.top - 1) == 62) → w ≡ close_of q →
          Put d₆.stack.bytes.now y.bytes.now d₆.stack.top y.top w → y.bytes.ghost_name ≡ d₆.stack.bytes.ghost_name → m ≡ min (l.n + (length w + 1)) most_length → r ≡ given_length m →
          Parses (reading ⟨template-args⟩) (keep (d.state.depth + 1)) (d.state.at + 1) d (record d₆ { stack = y }) r
      args_closed_lent {d₆} {y} g a e f u v n k =
          parses_lent (args_closed (angles_in_any o) i p g a e f u n k)
          (lent_stack d₆ y v ∙ ap lent (back_out (angles_in_any o) i p g a) ∙ list_same (Ok l) i)
