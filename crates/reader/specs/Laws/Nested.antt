-- A nested name as far as its parts are read: the loop of the definition from the start is the loop from here. Assumes nothing.
use Rattle.std.specs.Prelude.{◌≡◌, ℕ, suc, ◌+◌, ◌-◌, ◌<◌, ◌≤◌, min, Bool, true, false, not, List, [], ◌∷◌, length, take, drop, ◌==◌, ◌≢◌, refl}
use Rattle.std.proofs.Math.Path.{sym, ap, ap₂}
use Rattle.std.proofs.Common.{◌∙◌, subst, arith}
use borrow.Author.Tests.{eq-eqb, ne_eqb}
use Rattle.grammar.specs.Text.{Text, b, choose, join, starts, each, run, if◌then◌otherwise◌}
use Rattle.grammar.specs.Limits.{most_entry_bytes, most_length}
use Rattle.grammar.specs.Reader.{State, Result, ok, refused, Reader, onto, return, need, every, give, set_cv, set_templated, while, up_to_E}
use Rattle.grammar.specs.Grammar.{reading, ⟨nested-name⟩, last, qualifier}
use Rattle.grammar.specs.Grammar as g
use Rattle.grammar.specs.Laws.Agree.{moved, unread}
use Rattle.grammar.specs.Laws.Fuel.{reading_ends, reading_is, prefix_shrinks}
use Rattle.grammar.specs.Loops.{before_E}
use Rattle.grammar.specs.Laws.Places.{starts_byte, peek_byte, peek_end, byte_within}
use Rattle.grammar.specs.Laws.Loops.{closed, parts_loop, up_to_E_is}
use Rattle.parser.specs.Holds.{Memory, part, Holds, Stands, Refines, refuses, window, keep, given_of}
use Rattle.parser.specs.Laws.Halves.{give_long}
use Rattle.parser.specs.Laws.Holds.{by, with_cv, with_templated, holds_moved, holds_cv, holds_templated, given_refines}
use Rattle.parser.specs.Leaves.{qualifies}
use Rattle.grammar.specs.Laws.Runs.{every_at, need_here, need_not}
use Rattle.grammar.specs.States.{peeked, moved_to, cv_to, templated_to, Progress, Read}
use Rattle.std.specs.Prelude as peeked_as
use Rattle.reader.specs.declared.lists.Kind.TheVariants.{Types}
use Rattle.reader.specs.declared.lists.Parts.{Parts}
use Rattle.reader.specs.Lists.{Prefix, Reached, Unreached, Alike, same_text, both_long, Parted, Parting, parted, unparted, ReadsPart, unprefixed_of}
use Rattle.reader.specs.Laws.Items.{while_stops, while_goes, ends_on, on_byte}
use Rattle.reader.specs.Laws.Arrays.{run_front}
use Rattle.reader.specs.Laws.Closes.{closed_no, closed_yes, then_ok, then_refused, behind_is}
use Rattle.reader.specs.Laws.Standing.{stands_nothing, stands_kept, parted_kept, stands_least}
use Rattle.grammar.specs.Refusals.{refusal_number}
use Rattle.grammar.specs.declared.refusal.Refusal.{Refusal}

abbrev pub no_parts : g.Parts
no_parts = record { texts = []; structor = false }

abbrev pub prefixes : g.Parts → Reader g.Parts
prefixes ps = while before_E (g.prefix reading) ps

-- ---------------------------------------------------------------- the definition

abbrev pub named : Text → g.Parts → Reader Text
named q ps = λ (σ : State). onto (λ _. λ (τ : State). onto (λ _. give (join (b "::") ps.texts)) ((if ps.structor then set_templated false otherwise return tt) τ)) (set_cv (each qualifier q) σ)

abbrev qualified : Text → Reader Text
qualified q u = onto (named q) (up_to_E (g.prefix reading) no_parts u)

abbrev opened : Unit {0} → Reader Text
opened _ u = onto qualified (every qualifies u)

nested_is : (σ : State) → reading ⟨nested-name⟩ σ ≡ onto opened (need "N" σ)
unfolding g.nested_name g.production
nested_is σ = reading_is ⟨nested-name⟩ σ

up_prefixes : (ps : g.Parts) (σ : State) → up_to_E (g.prefix reading) ps σ ≡ onto closed (prefixes ps σ)
up_prefixes ps σ = up_to_E_is (g.prefix reading) (λ x u. prefix_shrinks reading reading (suc (unread u)) (λ k v h. reading_ends k v) x u (omega arith)) ps σ

module _ (s : Text) (at : ℕ) (σ : State) (e : σ.rest ≡ drop at s) where
  pub nested_4 : starts (drop at s) (78 ∷ []) ≡ false → reading ⟨nested-name⟩ σ ≡ refused 4
  unfolding onto b
  nested_4 h = nested_is σ ∙ ap (onto opened) (need_not "N" s at σ e h)

  pub nested_open : {to : ℕ} → starts (drop at s) (78 ∷ []) ≡ true → to ≡ at + 1 + length (run qualifies (drop (at + 1) s)) →
      reading ⟨nested-name⟩ σ ≡ onto (named (part s (at + 1) to)) (onto closed (prefixes no_parts (moved (drop to s) σ)))
  unfolding onto b
  nested_open {to} h r =
      let q : Text = run qualifies (drop (at + 1) s) in
      let is_part : q ≡ part s (at + 1) to = sym (run_front qualifies (drop (at + 1) s)) ∙ ap (λ (j : ℕ). take j (drop (at + 1) s)) {x = length q} {y = to - (at + 1)} (omega arith) in
      nested_is σ
      ∙ ap (onto opened) (need_here "N" s at σ e h)
      ∙ ap (onto qualified) (every_at qualifies s (at + 1) (moved (drop (at + 1) s) σ) refl)
      ∙ ap (onto (named q)) (up_prefixes no_parts (moved (drop (at + 1 + length q) s) σ))
      ∙ ap₂ (λ (x : Text) (j : ℕ). onto (named x) (onto closed (prefixes no_parts (moved (drop j s) σ)))) is_part (sym r)

-- ---------------------------------------------------------------- the loop, one step at a time

module _ (ps : g.Parts) (σ : State) where
  pub prefixes_stop : before_E σ.rest ≡ false → prefixes ps σ ≡ ok ps σ
  prefixes_stop e = while_stops before_E (g.prefix reading) ps σ (parts_loop before_E ps σ) e

  pub prefixes_go : {qs : g.Parts} {τ : State} → before_E σ.rest ≡ true → g.prefix reading ps σ ≡ ok qs τ → prefixes ps σ ≡ prefixes qs τ
  prefixes_go e f = while_goes before_E (g.prefix reading) ps σ (parts_loop before_E ps σ) e ∙ then_ok (λ y. prefixes y) f

  pub prefixes_refuse : {r : ℕ} → before_E σ.rest ≡ true → g.prefix reading ps σ ≡ refused r → prefixes ps σ ≡ refused r
  prefixes_refuse e f = while_goes before_E (g.prefix reading) ps σ (parts_loop before_E ps σ) e ∙ then_refused (λ y. prefixes y) f

-- ---------------------------------------------------------------- the parts so far

pub record Prefixed (s : Text) (m₀ : Memory) (p₀ : Progress) (m : Memory) (p : Progress) (q : Parts) (σ₀ : State) : Type 0 where
  pub parts : g.Parts
  pub state : State
  pub here : Parted (keep p₀.depth) p₀.depth s (window m₀ p₀) p₀.at m p q parts state
  pub same : prefixes no_parts σ₀ ≡ prefixes parts state

abbrev pub empty : Parts
empty = record { n = 0; last = 0; count = 0; structor = false }

pub prefixed_start : {s : Text} {m : Memory} {p : Progress} {σ : State} → Holds s m p σ → Prefixed s m p m p empty σ
unfolding join last choose
prefixed_start {s} {m} {p} {σ} h = record {
  parts = no_parts;
  state = σ;
  here = record {
    shown = [];
    stands = stands_nothing h (omega arith) (omega (arith, h.deep));
    alike = same_text refl;
    final = λ _. refl;
    within = omega arith;
    count = omega arith;
    structor = refl;
  };
  same = refl;
}

module _ {s : Text} {m₀ : Memory} {p₀ : Progress} {m : Memory} {p : Progress} {q : Parts} {σ₀ : State} (l : Prefixed s m₀ p₀ m p q σ₀) where
  -- as a part's reading asks for it
  pub at_depth : Parted (keep p.depth) p.depth s (window m₀ p₀) p₀.at m p q l.parts l.state
  at_depth = subst (λ (d : ℕ). Parted (keep d) d s (window m₀ p₀) p₀.at m p q l.parts l.state) (sym l.here.stands.level) l.here

  pub ends_here : peeked (drop p.at s) ≡ peeked_as.None → before_E l.state.rest ≡ false
  ends_here e = ends_on Types (l.here.stands.holds.rest ∙ peek_end (drop p.at s) e)

  pub byte_here : {c : ℕ} {r : Bool} → peeked (drop p.at s) ≡ peeked_as.Some c → (c == 69) ≡ r → before_E l.state.rest ≡ not r
  byte_here {c} e f = on_byte Types c (l.here.stands.holds.rest ∙ peek_byte (drop p.at s) e) f

  -- no E is left
  pub prefixed_4 : (x : Text) → peeked (drop p.at s) ≡ peeked_as.None → onto (named x) (onto closed (prefixes no_parts σ₀)) ≡ refused 4
  unfolding onto starts
  prefixed_4 x e =
      ap (onto (named x)) (closed_no {f = prefixes no_parts σ₀} {ts = l.parts} {τ = l.state} (l.same ∙ prefixes_stop l.parts l.state (ends_here e))
      (ap (λ (t : Text). starts t (69 ∷ [])) (l.here.stands.holds.rest ∙ peek_end (drop p.at s) e)))

-- ---------------------------------------------------------------- the E

give_alike : {u t : Text} (σ : State) → Alike u t → give u σ ≡ give t σ
give_alike σ (same_text e) = ap (λ (y : Text). give y σ) e
give_alike {u} {t} σ (both_long i j) = give_long u σ (omega arith) ∙ sym (give_long t σ (omega arith))

-- the state behind the E of a constructor, and of others
abbrev last_state : Bool → Text → State → State
last_state true x τ = with_templated false (with_cv (each qualifier x) τ)
last_state false x τ = with_cv (each qualifier x) τ

named_is : (x : Text) (ps : g.Parts) (τ : State) (q : Bool) → ps.structor ≡ q → named x ps τ ≡ give (join (b "::") ps.texts) (last_state q x τ)
unfolding onto set_cv set_templated if◌then◌otherwise◌
named_is x ps τ true e = rw e
named_is x ps τ false e = rw e

abbrev last_parser : Bool → ℕ → ℕ → Progress → Progress
last_parser true from to p = templated_to (cv_to (moved_to p (p.at + 1)) from to) false
last_parser false from to p = cv_to (moved_to p (p.at + 1)) from to

last_holds : (q : Bool) {s : Text} {m : Memory} {p : Progress} {σ : State} (from to : ℕ) → Holds s m p σ → p.at < length s → from ≤ to → to ≤ length s → Holds s m (last_parser q from to p) (last_state q (part s from to) (moved (drop (p.at + 1) s) σ))
last_holds true {p = p} from to h l i j = holds_templated (holds_cv (holds_moved h (p.at + 1) (omega arith)) from to i j) false
last_holds false {p = p} from to h l i j = holds_cv (holds_moved h (p.at + 1) (omega arith)) from to i j

last_top : (q : Bool) (from to : ℕ) (p : Progress) → ((last_parser q from to p).top ≡ p.top) × (((last_parser q from to p).depth ≡ p.depth) × ((last_parser q from to p).at ≡ p.at + 1))
last_top true from to p = (refl, (refl, refl))
last_top false from to p = (refl, (refl, refl))

module _ {s : Text} {m₀ : Memory} {p₀ : Progress} {m : Memory} {p : Progress} {q : Parts} {σ₀ : State} (l : Prefixed s m₀ p₀ m p q σ₀) where
  pub prefixed_E :
      {r : Read} {z : Bool} {c : ℕ} (from to : ℕ) → from ≤ to → to ≤ length s → peeked (drop p.at s) ≡ peeked_as.Some c → c ≡ 69 → q.structor ≡ z →
      r ≡ given_of (last_parser z from to p) q.n → Refines (keep p₀.depth) p₀.depth s (window m₀ p₀) p₀.at m r (onto (named (part s from to)) (onto closed (prefixes no_parts σ₀)))
  unfolding onto
  prefixed_E {r} {z} {c} from to i j e f w g =
      let h = l.here in
      let t : l.state.rest ≡ c ∷ drop 1 (drop p.at s) = h.stands.holds.rest ∙ peek_byte (drop p.at s) e in
      let a : p.at < length s = byte_within s p.at e in
      let here : starts l.state.rest (69 ∷ []) ≡ true = ap (λ (y : Text). starts y (69 ∷ [])) t ∙ starts_byte c 69 (drop 1 (drop p.at s)) ∙ eq-eqb c 69 f in
      let y : moved (drop 1 l.state.rest) l.state ≡ moved (drop (p.at + 1) s) l.state = behind_is s p.at l.state h.stands.holds.rest in
      let o = last_top z from to p in
      let st : Stands (keep p₀.depth) p₀.depth s (window m₀ p₀) p₀.at m (last_parser z from to p) q.n h.shown (last_state z (part s from to) (moved (drop (p.at + 1) s) l.state)) =
      stands_kept h.stands (last_holds z from to h.stands.holds a i j) (ap (λ (v : ℕ). take v m.text) o.0) o.1.0 (omega (arith, o.1.1, h.stands.more)) in
      by (ap (onto (named (part s from to))) (closed_yes {f = prefixes no_parts σ₀} (l.same ∙ prefixes_stop l.parts l.state (byte_here l e (eq-eqb c 69 f))) here)
      ∙ ap (named (part s from to) l.parts) y
      ∙ named_is (part s from to) l.parts (moved (drop (p.at + 1) s) l.state) z (sym h.structor ∙ w)
      ∙ sym (give_alike (last_state z (part s from to) (moved (drop (p.at + 1) s) l.state)) h.alike))
      (subst (λ (v : Read). Refines (keep p₀.depth) p₀.depth s (window m₀ p₀) p₀.at m v (give h.shown (last_state z (part s from to) (moved (drop (p.at + 1) s) l.state)))) (sym g) (given_refines st))

-- ---------------------------------------------------------------- one part more

part_refused : {k d : ℕ} {s base : Text} {from : ℕ} {m : Memory} {r : Prefix} {f : Result g.Parts} {j : Refusal} → r ≡ Unreached j → Parting k d s base from m r f → f ≡ refused (refusal_number j)
part_refused {k} {d} {s} {base} {from} {m} {r} {f} {j} e h = told (subst (λ (x : Prefix). Parting k d s base from m x f) e h)
  where
    told : {f : Result g.Parts} → Parting k d s base from m (Unreached j) f → f ≡ refused (refusal_number j)
    told unparted = refl

pub record GotParts (k d : ℕ) (s base : Text) (from : ℕ) (m : Memory) (p : Progress) (q : Parts) (f : Result g.Parts) : Type 0 where
  pub parts : g.Parts
  pub state : State
  pub here : Parted k d s base from m p q parts state
  pub is : f ≡ ok parts state

got_parts :
    {k d : ℕ} {s base : Text} {from : ℕ} {m : Memory} {r : Prefix} {f : Result g.Parts} {p : Progress} {q : Parts} →
    r ≡ Reached p q → Parting k d s base from m r f → GotParts k d s base from m p q f
got_parts {k} {d} {s} {base} {from} {m} {r} {f} {p} {q} e h = told (subst (λ (x : Prefix). Parting k d s base from m x f) e h)
  where
    told : {f : Result g.Parts} → Parting k d s base from m (Reached p q) f → GotParts k d s base from m p q f
    told (parted {ps = ps} {σ = σ} w) = record { parts = ps; state = σ; here = w; is = refl }

abbrev pub ReadsNext : ℕ → Text → Memory → Memory → Progress → Parts → Prefix → Type 0
ReadsNext c s m m' p q r = (t : List ℕ) → drop p.at s ≡ c ∷ t → ReadsPart (g.prefix reading) s m m' p q r

module _ {s : Text} {m₀ : Memory} {p₀ : Progress} {m m' : Memory} {p : Progress} {q : Parts} {σ₀ : State} {c : ℕ} {r : Prefix} (l : Prefixed s m₀ p₀ m p q σ₀)
    (e : peeked (drop p.at s) ≡ peeked_as.Some c) (n : c ≡ 69 → ⊥) (x : ReadsNext c s m m' p q r) where
  told_next : Parting (keep p.depth) p.depth s (window m₀ p₀) (p.at + 1) m' r (g.prefix reading l.parts l.state)
  told_next = x (drop 1 (drop p.at s)) (peek_byte (drop p.at s) e) (window m₀ p₀) p₀.at l.parts l.state (at_depth l)

  pub prefixed_refuses :
      {k d : ℕ} {s' base : Text} {from : ℕ} {m'' : Memory} {v : Read} {j : Refusal} (y : Text) → r ≡ Unreached j → v ≡ unprefixed_of r →
      Refines k d s' base from m'' v (onto (named y) (onto closed (prefixes no_parts σ₀)))
  unfolding onto
  prefixed_refuses {k} {d} {s'} {base} {from} {m''} {v} {j} y f g =
      by (ap (onto (named y)) (then_refused closed (l.same ∙ prefixes_refuse l.parts l.state (byte_here l e (ne_eqb c 69 n)) (part_refused f told_next))))
      (subst (λ (w : Read). Refines k d s' base from m'' w (refused (refusal_number j))) (sym (g ∙ ap unprefixed_of f)) refuses)

  pub prefixed_more : {p' : Progress} {q' : Parts} → r ≡ Reached p' q' → Prefixed s m₀ p₀ m' p' q' σ₀
  prefixed_more {p'} {q'} f =
      let w = got_parts f told_next in
      let d : p.depth ≡ p₀.depth = l.here.stands.level in
      let h : Parted (keep p₀.depth) p₀.depth s (window m₀ p₀) (p.at + 1) m' p' q' w.parts w.state =
      subst (λ (y : ℕ). Parted (keep y) y s (window m₀ p₀) (p.at + 1) m' p' q' w.parts w.state) d w.here in
      record {
        parts = w.parts;
        state = w.state;
        here = parted_kept h h.stands.holds refl refl (omega (arith, h.stands.more, l.here.stands.more));
        same = l.same ∙ prefixes_go l.parts l.state (byte_here l e (ne_eqb c 69 n)) w.is;
      }

  pub further : {p' : Progress} {q' : Parts} → r ≡ Reached p' q' → p.at + 1 ≤ p'.at
  further f = (got_parts f told_next).here.stands.more

-- ---------------------------------------------------------------- the loop so far

pub record Prefixing (s : Text) (m₀ : Memory) (p₀ : Progress) (m : Memory) (p : Progress) (q : Parts) : Type 0 where
  pub so_far : (σ₀ : State) → Holds s m₀ p₀ σ₀ → Prefixed s m₀ p₀ m p q σ₀

pub prefixing_start : {s : Text} {m : Memory} {p : Progress} → Prefixing s m p m p empty
prefixing_start = record { so_far = λ σ₀ h. prefixed_start h }

pub prefixing_more :
    {s : Text} {m₀ : Memory} {p₀ : Progress} {m m' : Memory} {p p' : Progress} {q q' : Parts} {c : ℕ} {r : Prefix} →
    Prefixing s m₀ p₀ m p q → peeked (drop p.at s) ≡ peeked_as.Some c → (c ≢ 69) → ReadsNext c s m m' p q r → r ≡ Reached p' q' →
    Prefixing s m₀ p₀ m' p' q'
prefixing_more i e n x f = record { so_far = λ σ₀ h₀. prefixed_more (i.so_far σ₀ h₀) e n x f }

-- what one part more asks for
pub ready_for :
    {s : Text} {m₀ : Memory} {p₀ : Progress} {m : Memory} {p : Progress} {q : Parts} {σ₀ : State} → Prefixed s m₀ p₀ m p q σ₀ →
    (q.n ≤ most_length) × ((q.last ≤ q.n) × (min q.n most_entry_bytes ≤ p.top))
ready_for l = (omega (arith, l.here.stands.size), (l.here.within, stands_least l.here.stands))
