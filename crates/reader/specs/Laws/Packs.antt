-- Packs inside one another as far as they are read: the definition from the start is the definition from here. Assumes nothing.
use Rattle.std.specs.Prelude.{◌≡◌, ℕ, zero, suc, ◌+◌, ◌-◌, ◌<◌, ◌≤◌, min, Bool, true, false, ◌&&◌, List, [], ◌∷◌, ◌++◌, length, take, drop, ◌==◌, ◌≢◌, nat_lt, slice_index, slice_set}
use Rattle.std.proofs.lemmas.Bool.{false≢true}
use Rattle.std.proofs.Common.{append_assoc, append-nil, sym, ◌∙◌, arith, eq-eqb, ne_eqb, eqb-true, ltb-true, length-append, get_or-set_same, get_or-set_other}
use Rattle.std.proofs.Math.Path.{refl, ap, subst}
use Rattle.grammar.specs.Text.{Text, b, starts, join}
use Rattle.grammar.specs.Limits.{most_text_bytes, most_length}
use Rattle.grammar.specs.Reader.{State, Result, ok, refused, Reader, onto, return, give, while, one_more}
use Rattle.grammar.specs.Grammar.{reading, ⟨template-arg⟩}
use Rattle.grammar.specs.Grammar as g
use Rattle.grammar.specs.Laws.Agree.{moved, bind}
use Rattle.grammar.specs.Laws.Agree as agree
use Rattle.grammar.specs.Laws.Fuel.{reading_ends}
use Rattle.grammar.specs.Loops.{before_E}
use Rattle.grammar.specs.Laws.Places.{starts_byte, peek_byte, peek_end, byte_within}
use Rattle.grammar.specs.Laws.Loops.{closed, items_loop, up_to_E_is}
use Rattle.store.specs.Stack.{Tail}
use Rattle.store.specs.Laws.Tails.{whole, both}
use Rattle.parser.specs.Holds.{Halves, Memory, mem, Holds, Reads, Refines, reads, refuses, Puts, window, keep}
use Rattle.parser.specs.Laws.Halves.{give_short, give_long}
use Rattle.parser.specs.Laws.Holds.{by, holds_moved, holds_puts, tail_puts, got}
use Rattle.grammar.specs.States.{peeked, moved_to, Progress, Read, read, Refused}
use Rattle.parser.specs.Laws.Adds.{puts_from}
use Rattle.std.specs.Prelude as peeked_as
use Rattle.reader.specs.declared.lists.Kind.TheVariants.{Types}
use Rattle.reader.specs.declared.lists.Packs.{Packs}
use Rattle.reader.specs.Laws.Separators.{join_more, before_same}
use Rattle.reader.specs.Lists.{before_text, opens_pack, last_size}
use Rattle.reader.specs.Laws.Items.{while_stops, while_goes, ends_on, on_byte, refused_is}
use Rattle.reader.specs.Laws.Closes.{closed_no, closed_yes, then_refused, then_ok, behind_is, arg_pack}
use Rattle.grammar.specs.declared.refusal.Refusal.{Refusal}
use Rattle.grammar.specs.declared.refusal.Refusal.TheVariants.{LongText}
use Rattle.grammar.specs.Refusals.{refusal_number}

-- ---------------------------------------------------------------- the definition, from a pack with texts on

abbrev packed : List Text → Reader (List Text)
packed ts = while before_E (one_more (reading ⟨template-arg⟩)) ts

abbrev ended : List Text → Reader Text
ended us = give (join (b ", ") us)

-- the rest of a pack that has these texts
abbrev rest_of : List Text → Reader Text
rest_of ts σ = onto ended (onto closed (packed ts σ))

pack_is : (σ : State) → g.pack reading σ ≡ rest_of [] σ
unfolding g.pack
pack_is σ = ap (onto ended) (up_to_E_is (one_more (reading ⟨template-arg⟩)) (λ x u. bind (reading_ends ⟨template-arg⟩ u) λ t v h. agree.reads h) [] σ)

-- a pack that is read becomes a text of the pack around it, and so on outwards; the innermost comes first
abbrev outward : List (List Text) → Result Text → Result Text
outward [] r = r
outward (o ∷ os) r = onto (λ t u. outward os (rest_of (o ++ (t ∷ [])) u)) r

out_refused : (os : List (List Text)) (j : ℕ) → outward os (refused j) ≡ refused j
unfolding onto
out_refused [] j = refl
out_refused (o ∷ os) j = refl

module _ (os : List (List Text)) (ts : List Text) (σ : State) where
  stops : before_E σ.rest ≡ false → packed ts σ ≡ ok ts σ
  stops e = while_stops before_E (one_more (reading ⟨template-arg⟩)) ts σ (items_loop ⟨template-arg⟩ before_E ts σ) e

  through : (r : Result Text) → outward os (onto ended (onto closed (onto (λ y. packed y) (onto (λ t. return (ts ++ (t ∷ []))) r)))) ≡ outward (ts ∷ os) r
  unfolding onto
  through (ok t u) = refl
  through (refused j) = out_refused os j

  -- an argument ahead
  goes : before_E σ.rest ≡ true → outward os (rest_of ts σ) ≡ outward (ts ∷ os) (reading ⟨template-arg⟩ σ)
  goes e = ap (λ (x : Result (List Text)). outward os (onto ended (onto closed x))) (while_goes before_E (one_more (reading ⟨template-arg⟩)) ts σ (items_loop ⟨template-arg⟩ before_E ts σ) e) ∙ through (reading ⟨template-arg⟩ σ)

  goes_on : {t : Text} {τ : State} → before_E σ.rest ≡ true → reading ⟨template-arg⟩ σ ≡ ok t τ → outward os (rest_of ts σ) ≡ outward os (rest_of (ts ++ (t ∷ [])) τ)
  unfolding onto
  goes_on e f = goes e ∙ ap (outward (ts ∷ os)) f

  goes_wrong : {j : ℕ} → before_E σ.rest ≡ true → reading ⟨template-arg⟩ σ ≡ refused j → outward os (rest_of ts σ) ≡ refused j
  goes_wrong {j} e f = goes e ∙ ap (outward (ts ∷ os)) f ∙ out_refused (ts ∷ os) j

  goes_in : (s : Text) (at : ℕ) → σ.rest ≡ drop at s → before_E σ.rest ≡ true → starts σ.rest (74 ∷ []) ≡ true → outward os (rest_of ts σ) ≡ outward (ts ∷ os) (rest_of [] (moved (drop (at + 1) s) σ))
  goes_in s at r e f = goes e ∙ ap (outward (ts ∷ os)) (arg_pack s at σ r f ∙ pack_is (moved (drop (at + 1) s) σ))

  -- no E is left
  goes_open : before_E σ.rest ≡ false → starts σ.rest (69 ∷ []) ≡ false → outward os (rest_of ts σ) ≡ refused 4
  goes_open e f = ap (outward os) (then_refused ended (closed_no (stops e) f)) ∙ out_refused os 4

  -- an E
  goes_out : (s : Text) (at : ℕ) → σ.rest ≡ drop at s → before_E σ.rest ≡ false → starts σ.rest (69 ∷ []) ≡ true → rest_of ts σ ≡ give (join (b ", ") ts) (moved (drop (at + 1) s) σ)
  goes_out s at r e f = then_ok ended (closed_yes (stops e) f) ∙ ap (give (join (b ", ") ts)) (behind_is s at σ r)

-- ---------------------------------------------------------------- the texts, and their bytes

-- the bytes of texts, with two more for each
abbrev weight : List Text → ℕ
weight [] = 0
weight (t ∷ ts) = length t + 2 + weight ts

weight_more : (ts : List Text) (t : Text) → weight (ts ++ (t ∷ [])) ≡ weight ts + (length t + 2)
weight_more [] t = omega arith
weight_more (x ∷ ts) t = omega (arith, weight_more ts t)

join_size : (ts : List Text) → length (join (b ", ") ts) ≡ weight ts - 2
unfolding join b
join_size [] = refl
join_size (x ∷ []) = omega arith
join_size (x ∷ y ∷ ts) = omega (arith, join_size (y ∷ ts), length-append x (44 ∷ 32 ∷ join (44 ∷ 32 ∷ []) (y ∷ ts)))

some_weight : (ts : List Text) {n : ℕ} → n ≡ min (weight ts) most_length → min n 1 ≡ min (length ts) 1
some_weight [] e = omega arith
some_weight (t ∷ ts) e = omega arith

-- what stands below the innermost pack
abbrev under : List (List Text) → Text
under [] = []
under (o ∷ os) = under os ++ (join (b ", ") o ++ before_text (length o))

-- the sizes of the packs around the innermost, the outermost first
abbrev Sizes : List ℕ → List (List Text) → Type 0
Sizes outer [] = Unit {0}
Sizes outer (o ∷ os) = (slice_index outer (length os) ≡ min (weight o) most_length) × Sizes outer os

sizes_set : (outer : List ℕ) (i a : ℕ) (os : List (List Text)) → length os ≤ i → Sizes outer os → Sizes (slice_set outer i a) os
sizes_set outer i a [] h f = tt
sizes_set outer i a (o ∷ os) h f = (get_or-set_other outer i (length os) a 0 (λ e. omega (arith, e)) ∙ f.0, sizes_set outer i a os (omega arith) f.1)

-- ---------------------------------------------------------------- the packs so far

pub record Packed (s : Text) (m₀ : Memory) (p₀ : Progress) (m : Memory) (p : Progress) (outer : List ℕ) (level n : ℕ) (σ₀ : State) : Type 0 where
  pub around : List (List Text)
  pub texts : List Text
  pub state : State
  pub holds : Holds s m p state
  pub tail : Tail (keep p₀.depth) (window m p) (window m₀ p₀ ++ (under around ++ join (b ", ") texts))
  pub depth : p.depth ≡ p₀.depth
  pub more : p₀.at ≤ p.at
  pub level_is : level ≡ length around
  pub size : n ≡ min (weight texts) most_length
  pub sizes : Sizes outer around
  pub same : g.pack reading σ₀ ≡ outward around (rest_of texts state)

pub packed_start : {s : Text} {m : Memory} {p : Progress} {outer : List ℕ} {level : ℕ} {σ : State} → Holds s m p σ → level ≡ 0 → Packed s m p m p outer level 0 σ
unfolding join
packed_start {s} {m} {p} {outer} {level} {σ} h z = record {
  around = [];
  texts = [];
  state = σ;
  holds = h;
  tail = rw append-nil (whole _ (window m p));
  depth = refl;
  more = omega arith;
  level_is = z;
  size = omega arith;
  sizes = tt;
  same = pack_is σ;
}

pub opens_J : (level c : ℕ) → opens_pack level c ≡ true → (c ≡ 74) × (level < 64)
opens_J level c e = go (c == 74) (nat_lt level 64) refl refl e
  where
    go : (q r : Bool) → (c == 74) ≡ q → nat_lt level 64 ≡ r → (q && r) ≡ true → (c ≡ 74) × (level < 64)
    go true true f h k = (eqb-true c 74 f, ltb-true level 64 h)
    go true false f h k = absurd (false≢true k)
    go false r f h k = absurd (false≢true k)

-- whether a pack is around the innermost, and its size
outermost : (outer : List ℕ) (level : ℕ) → peeked_as.None ≡ last_size outer level → level ≡ 0
outermost outer zero f = refl
outermost outer (suc level) f = let z : ◌≡◌ {A = ℕ} 0 1 = cc in absurd (omega arith)

inner : (outer : List ℕ) (level : ℕ) {x : ℕ} → peeked_as.Some x ≡ last_size outer level → 0 < level
inner outer zero f = let z : ◌≡◌ {A = ℕ} 0 1 = cc in absurd (omega arith)
inner outer (suc level) f = omega arith

last_is : (outer : List ℕ) (level : ℕ) (os : List (List Text)) {x : ℕ} → level ≡ suc (length os) → peeked_as.Some x ≡ last_size outer level → x ≡ slice_index outer (length os)
last_is outer zero os k f = absurd (omega (arith, k))
last_is outer (suc level) os {x} k f =
    let g : x ≡ slice_index outer level = cc in
    g ∙ ap (λ (j : ℕ). slice_index outer j) (omega (arith, k))

module _ {s : Text} {m₀ : Memory} {p₀ : Progress} {m : Memory} {p : Progress} {outer : List ℕ} {level n : ℕ} {σ₀ : State} (l : Packed s m₀ p₀ m p outer level n σ₀) where
  -- no E is left
  pub packed_4 : peeked (drop p.at s) ≡ peeked_as.None → g.pack reading σ₀ ≡ refused 4
  unfolding starts
  packed_4 e =
      let r : l.state.rest ≡ [] = l.holds.rest ∙ peek_end (drop p.at s) e in
      l.same ∙ goes_open l.around l.texts l.state (ends_on Types r) (ap (λ (t : Text). starts t (69 ∷ [])) r)

  module _ {c : ℕ} (e : peeked (drop p.at s) ≡ peeked_as.Some c) where
    first : l.state.rest ≡ c ∷ drop 1 (drop p.at s)
    first = l.holds.rest ∙ peek_byte (drop p.at s) e

    pub inside : p.at < length s
    inside = byte_within s p.at e

    ahead : {x : ℕ} → c ≡ x → starts l.state.rest (x ∷ []) ≡ true
    ahead {x} f = ap (λ (t : Text). starts t (x ∷ [])) first ∙ starts_byte c x (drop 1 (drop p.at s)) ∙ eq-eqb c x f

    before : (c ≢ 69) → before_E l.state.rest ≡ true
    before f = on_byte Types c first (ne_eqb c 69 f)

    at_E : c ≡ 69 → before_E l.state.rest ≡ false
    at_E f = on_byte Types c first (eq-eqb c 69 f)

-- ---------------------------------------------------------------- a pack opens

opens_at :
    {s : Text} {m₀ : Memory} {p₀ : Progress} {text text' : List ℕ} {store ends : Halves} {p q p' : Progress} {outer : List ℕ} {level n c : ℕ} {σ₀ : State} →
    Packed s m₀ p₀ (mem text store ends) p outer level n σ₀ → peeked (drop p.at s) ≡ peeked_as.Some c → Puts text text' p q (before_text n) →
    opens_pack level c ≡ true → length outer ≡ 64 → p' ≡ moved_to q (p.at + 1) → Packed s m₀ p₀ (mem text' store ends) p' (slice_set outer level n) (level + 1) 0 σ₀
unfolding join
opens_at {s} {m₀} {p₀} {text} {text'} {store} {ends} {p} {q} {p'} {outer} {level} {n} {c} {σ₀} l e u o z f =
    let a = opens_J level c o in
    let i : p.at < length s = inside l e in
    let j : Text = join (b ", ") l.texts in
    let below : Text = under l.around in
    let is : (below ++ j) ++ before_text n ≡ (below ++ (j ++ before_text (length l.texts))) ++ [] =
    append_assoc below j (before_text n) ∙ ap (λ (x : Text). below ++ (j ++ x)) (before_same (b ", ") n (length l.texts) (some_weight l.texts l.size)) ∙ sym (append-nil _) in
    subst (λ (x : Progress). Packed s m₀ p₀ (mem text' store ends) x (slice_set outer level n) (level + 1) 0 σ₀) (sym f) (record {
      around = l.texts ∷ l.around;
      texts = [];
      state = moved (drop (p.at + 1) s) l.state;
      holds = holds_moved (holds_puts u l.holds) (p.at + 1) (omega arith);
      tail =
          subst (λ (x : Text). Tail (keep p₀.depth) (take q.top text') (window m₀ p₀ ++ x)) is
          (tail_puts u (window m₀ p₀) (below ++ j) l.holds (omega (arith, l.holds.deep, l.depth)) l.tail);
      depth = ap (λ (x : Progress). x.depth) u.same ∙ l.depth;
      more = omega (arith, l.more);
      level_is = omega (arith, l.level_is);
      size = omega arith;
      sizes = (
        ap (λ (x : ℕ). slice_index (slice_set outer level n) x) (sym l.level_is) ∙ get_or-set_same outer level n 0 (omega (arith, a.1, z)) ∙ l.size,
        sizes_set outer level n l.around (omega (arith, l.level_is)) l.sizes,
      );
      same =
          l.same
          ∙ goes_in l.around l.texts l.state s p.at l.holds.rest (before l e (λ x. omega (arith, x, a.0))) (ahead l e a.0);
    })

-- bytes put by a state that is further on
puts_ahead :
    {text text' : List ℕ} {p p' q : Progress} {t : Text} {i : ℕ} → p' ≡ moved_to p i → Puts text text' p' q t → Puts text text' p (moved_to q p.at) t × (q ≡ moved_to (moved_to q p.at) i)
puts_ahead {text} {text'} {p} {p'} {q} {t} {i} v u =
    let w : Puts text text' (moved_to p i) q t = puts_from v u in
    (record { same = ap (λ (z : Progress). moved_to z p.at) w.same; put = w.put }, ap (λ (j : ℕ). moved_to q j) (ap (λ (z : Progress). z.at) w.same))

pub packed_opens :
    {s : Text} {m₀ : Memory} {p₀ : Progress} {text text' : List ℕ} {store ends : Halves} {p q p' : Progress} {outer outer' : List ℕ} {level level' n c : ℕ} {σ₀ : State} →
    Packed s m₀ p₀ (mem text store ends) p outer level n σ₀ → peeked (drop p.at s) ≡ peeked_as.Some c → p' ≡ moved_to p (p.at + 1) → Puts text text' p' q (before_text n) →
    opens_pack level c ≡ true → length outer ≡ 64 → (level' ≡ level + 1) × (outer' ≡ slice_set outer level n) → Packed s m₀ p₀ (mem text' store ends) q outer' level' 0 σ₀
packed_opens l e v u o z w =
    let k = puts_ahead v u in
    rw (w.0, w.1) (opens_at l e k.0 o z k.1)

-- ---------------------------------------------------------------- a text more

module _ {s : Text} {m₀ : Memory} {p₀ : Progress} {text text' : List ℕ} {store ends : Halves} {m'' : Memory} {p q : Progress} {outer : List ℕ} {level n c : ℕ} {σ₀ : State} {r : Read}
    (l : Packed s m₀ p₀ (mem text store ends) p outer level n σ₀) (e : peeked (drop p.at s) ≡ peeked_as.Some c) (i : c ≡ 69 → ⊥)
    (u : Puts text text' p q (before_text n)) (k : Reads (reading ⟨template-arg⟩) (keep q.depth) (q.at + 1) s (mem text' store ends) m'' q r) where
  told : Refines (keep q.depth) q.depth s (take q.top text') (q.at + 1) m'' r (reading ⟨template-arg⟩ l.state)
  told = k l.state (holds_puts u l.holds)

  pub packed_refuses : {k d : ℕ} {s' base : Text} {from : ℕ} {m : Memory} {j : Refusal} → r ≡ Refused j → Refines k d s' base from m r (g.pack reading σ₀)
  packed_refuses {k} {d} {s'} {base} {from} {m} {j} f =
      by (l.same ∙ goes_wrong l.around l.texts l.state (before l e i) (refused_is f told))
      (subst (λ (x : Read). Refines k d s' base from m x (refused (refusal_number j))) (sym f) refuses)

  module _ {p'' : Progress} {x : ℕ} (f : r ≡ read p'' x) where
    pub text_short : x ≤ most_text_bytes
    text_short = let w = (got f told).wrote in omega (arith, w.size, w.short)

    pub text_further : p.at < p''.at
    text_further = omega (arith, (got f told).wrote.more, ap (λ (z : Progress). z.at) u.same)

    pub packed_more : {n' : ℕ} → n' ≡ min (n + (x + 2)) most_length → Packed s m₀ p₀ m'' p'' outer level n' σ₀
    packed_more {n'} o =
        let h = got f told in
        let w = h.wrote in
        let t : Text = h.said in
        let d : q.depth ≡ p₀.depth = ap (λ (z : Progress). z.depth) u.same ∙ l.depth in
        let j : Text = join (b ", ") l.texts in
        let below : Text = under l.around in
        let a : Tail (keep p₀.depth) (take q.top text') (window m₀ p₀ ++ ((below ++ j) ++ before_text n)) =
        tail_puts u (window m₀ p₀) (below ++ j) l.holds (omega (arith, l.holds.deep, l.depth)) l.tail in
        let v : Tail (keep p₀.depth) (window m'' p'') (take q.top text' ++ t) =
        subst (λ (z : ℕ). Tail (keep z) (window m'' p'') (take q.top text' ++ t)) d w.tail in
        let is : ((below ++ j) ++ before_text n) ++ t ≡ below ++ join (b ", ") (l.texts ++ (t ∷ [])) =
        ap (λ (z : Text). z ++ t) (append_assoc below j (before_text n))
        ∙ append_assoc below (j ++ before_text n) t
        ∙ ap (λ (z : Text). below ++ z) (append_assoc j (before_text n) t ∙ sym (join_more (b ", ") n l.texts t (some_weight l.texts l.size))) in
        record {
          around = l.around;
          texts = l.texts ++ (t ∷ []);
          state = h.state;
          holds = w.holds;
          tail = subst (λ (z : Text). Tail (keep p₀.depth) (window m'' p'') (window m₀ p₀ ++ z)) is (both (window m₀ p₀) ((below ++ j) ++ before_text n) t a v);
          depth = w.level ∙ d;
          more = omega (arith, w.more, l.more, ap (λ (z : Progress). z.at) u.same);
          level_is = l.level_is;
          size = omega (arith, o, l.size, w.size, weight_more l.texts t);
          sizes = l.sizes;
          same = l.same ∙ goes_on l.around l.texts l.state (before l e i) h.is;
        }

-- ---------------------------------------------------------------- a pack closes

module _ {s : Text} {m₀ : Memory} {p₀ : Progress} {m : Memory} {p : Progress} {outer : List ℕ} {level n c : ℕ} {σ₀ : State}
    (l : Packed s m₀ p₀ m p outer level n σ₀) (e : peeked (drop p.at s) ≡ peeked_as.Some c) (i : c ≡ 69) where
  abbrev behind : State
  behind = moved (drop (p.at + 1) s) l.state

  -- the text of the innermost pack
  abbrev shown : Text
  shown = join (b ", ") l.texts

  given : rest_of l.texts l.state ≡ give shown behind
  given = goes_out l.around l.texts l.state s p.at l.holds.rest (at_E l e i) (ahead l e i)

  shown_size : length shown ≡ weight l.texts - 2
  shown_size = join_size l.texts

  -- the pack is too long
  pub packed_long : {j k d from : ℕ} {s' base : Text} {m' : Memory} → j ≡ n - 2 → most_text_bytes < j → Refines k d s' base from m' (Refused LongText) (g.pack reading σ₀)
  packed_long v o =
      let y : most_text_bytes < length shown = omega (arith, v, o, l.size, shown_size) in
      by (l.same ∙ ap (outward l.around) (given ∙ give_long shown behind y) ∙ out_refused l.around 11) refuses

  module _ {j : ℕ} (u : j ≡ n - 2) (o : j ≤ most_text_bytes) where
    fits : length shown ≡ j
    fits = omega (arith, u, o, l.size, shown_size)

    -- no pack is around it
    pub packed_ends : peeked_as.None ≡ last_size outer level → Refines (keep p₀.depth) p₀.depth s (window m₀ p₀) (p₀.at + 1) m (read (moved_to p (p.at + 1)) j) (g.pack reading σ₀)
    packed_ends f = go l.around l.tail l.level_is l.same
      where
        go : (around : List (List Text)) → Tail (keep p₀.depth) (window m p) (window m₀ p₀ ++ (under around ++ shown)) → level ≡ length around →
            g.pack reading σ₀ ≡ outward around (rest_of l.texts l.state) → Refines (keep p₀.depth) p₀.depth s (window m₀ p₀) (p₀.at + 1) m (read (moved_to p (p.at + 1)) j) (g.pack reading σ₀)
        go [] t d h = by (h ∙ given ∙ give_short shown behind (omega (arith, o, fits))) (reads (record {
          holds = holds_moved l.holds (p.at + 1) (omega (arith, inside l e));
          tail = t;
          size = omega (arith, fits);
          short = omega (arith, o, fits);
          level = l.depth;
          more = omega (arith, l.more);
        }))
        go (y ∷ os) t d h = absurd (omega (arith, d, outermost outer level f))

    -- its text is one more of the pack around it
    pub packed_closes : {outer' : List ℕ} {level' x n' : ℕ} → (level' ≡ level - 1) × ((outer' ≡ outer) × (peeked_as.Some x ≡ last_size outer level)) → n' ≡ min (x + (j + 2)) most_length →
        Packed s m₀ p₀ m (moved_to p (p.at + 1)) outer' level' n' σ₀
    unfolding onto
    packed_closes {outer'} {level'} {x} {n'} w v = rw (w.0, w.1.0) (go l.around l.tail l.level_is l.sizes l.same)
      where
        go : (around : List (List Text)) → Tail (keep p₀.depth) (window m p) (window m₀ p₀ ++ (under around ++ shown)) → level ≡ length around → Sizes outer around →
            g.pack reading σ₀ ≡ outward around (rest_of l.texts l.state) → Packed s m₀ p₀ m (moved_to p (p.at + 1)) outer (level - 1) n' σ₀
        go [] t k z h = absurd (omega (arith, inner outer level w.1.1, k))
        go (y ∷ os) t k z h = record {
          around = os;
          texts = y ++ (shown ∷ []);
          state = behind;
          holds = holds_moved l.holds (p.at + 1) (omega (arith, inside l e));
          tail =
              subst (λ (x : Text). Tail (keep p₀.depth) (window m p) (window m₀ p₀ ++ x))
              (append_assoc (under os) (join (b ", ") y ++ before_text (length y)) shown
              ∙ ap (λ (x : Text). under os ++ x) (append_assoc (join (b ", ") y) (before_text (length y)) shown ∙ sym (join_more (b ", ") (length y) y shown refl))) t;
          depth = l.depth;
          more = omega (arith, l.more);
          level_is = omega (arith, k);
          size = omega (arith, v, last_is outer level os k w.1.1, z.0, l.size, shown_size, u, o, weight_more y shown);
          sizes = z.1;
          same = h ∙ ap (outward (y ∷ os)) (given ∙ give_short shown behind (omega (arith, o, fits)));
        }

  -- the sizes that are there are small
  pub outer_small : {x : ℕ} → peeked_as.Some x ≡ last_size outer level → x ≤ most_length
  outer_small {x} f = go l.around l.level_is l.sizes
    where
      go : (around : List (List Text)) → level ≡ length around → Sizes outer around → x ≤ most_length
      go [] k z = absurd (omega (arith, inner outer level f, k))
      go (y ∷ os) k z = omega (arith, last_is outer level os k f, z.0)

-- ---------------------------------------------------------------- the loop so far

-- what the loop keeps
abbrev pub Packing : Text → Memory → Progress → Memory → Progress → Packs → ℕ → Type 0
Packing s m₀ p₀ m p outer n = (σ₀ : State) → Holds s m₀ p₀ σ₀ → Packed s m₀ p₀ m p outer.sizes outer.level n σ₀
