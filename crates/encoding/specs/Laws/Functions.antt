-- Parameters behind a name, and the type that a function returns before it. Assumes nothing.
use Rattle.std.specs.Prelude.{Bool, true, false, not, ◌&&◌, ◌≡◌, refl, T, length, take, Result as Result'}
use mathlib.Core.List.{List, [], ◌∷◌, ◌++◌, append-nil, append_assoc}
use Rattle.std.proofs.Common.{sym, ◌∙◌, subst, arith, length-append}
use Rattle.std.proofs.Math.Path.{ap}
use Prim.Native.Nat.{ℕ, ◌+◌, ◌≤◌, ◌<◌, min}
use Rattle.grammar.specs.Text.{Text, b, if◌then◌otherwise◌, same, join}
use Rattle.grammar.specs.Reader.{State, Result, ok, Reader, onto, give, while, one_more}
use Rattle.grammar.specs.Grammar.{reading, ⟨type⟩, ended, only_void, bare_function_type}
use Rattle.grammar.specs.Laws.Text.{both, same→eq}
use Rattle.grammar.specs.Limits.{most_text_bytes, most_entry_bytes, most_length}
use Rattle.store.specs.Stack.{Tail, Cut}
use Rattle.store.specs.Laws.Tails.{dropped, size, top_size}
use Rattle.grammar.specs.declared.part.Part.{Part}
use Rattle.grammar.specs.States.{Progress, Read, read, Refused}
use Rattle.parser.specs.Holds.{Halves, Memory, mem, window, Holds, Stands, Refines, refuses, Reads, Puts, Cuts, keep}
use Rattle.parser.specs.declared.demangler.Demangler.{Demangler}
use Rattle.parser.specs.Demanglers.{state_of, memory_of, outcome}
use Rattle.parser.specs.Laws.Holds.{by, less, Got, got, refused_on, holds_puts, stands}
use Rattle.parser.specs.Laws.Halves.{give_short, give_long}
use Rattle.parser.specs.Laws.Wraps.{holds_cuts, stands_puts}
use Rattle.reader.specs.declared.lists.Joined.{Joined}
use Rattle.reader.specs.declared.lists.Kind.TheVariants.{Parameters}
use Rattle.reader.specs.Lists.{Texts}
use Rattle.reader.specs.Lists.{Listed, Unlisted}
use Rattle.reader.specs.Lists.{Lists, listed, ReadsItems, refused_of}
use Rattle.reader.specs.Laws.LocFns.{unlisted_on}
use Rattle.reader.specs.Laws.Standing.{stands_joined, stands_least}
use Rattle.encoding.specs.Encodings.{qualified_by, Qualifies, Qualified, OnlyVoid, LoneVoid, GoesOn, Going, with_parameters, with_returned}
use Rattle.grammar.specs.declared.refusal.Refusal.{Refusal}
use Rattle.grammar.specs.declared.refusal.Refusal.TheVariants.{LongText}

-- ---------------------------------------------------------------- the symbol is the first one's

module _ {s : Text} (d : Demangler) (e : d.s.now ≡ s) where
  pub void_from : {list : Joined} {r q : Bool} → LoneVoid d list r → r ≡ q → OnlyVoid s (memory_of d) (state_of d) list.n list.count q
  void_from {list} {r} h i =
      subst (λ (v : Bool). OnlyVoid s (memory_of d) (state_of d) list.n list.count v) i (subst (λ (x : Text). OnlyVoid x (memory_of d) (state_of d) list.n list.count r) e h)

  module _ {d' : Demangler} {n : ℕ} (cv : Part) (r : Result' ℕ Refusal) where
    pub qualified_from : Qualified d d' n cv r → Qualifies s (memory_of d) (memory_of d') (state_of d) n cv.from cv.to (outcome (state_of d') r)
    qualified_from h = subst (λ (x : Text). Qualifies x (memory_of d) (memory_of d') (state_of d) n cv.from cv.to (outcome (state_of d') r)) e h.is

    pub going_from : (f : Text → Text → Reader Text) → Going f d d' n cv r → GoesOn f s (memory_of d) (memory_of d') (state_of d) n cv.from cv.to (outcome (state_of d') r)
    going_from f h = subst (λ (x : Text). GoesOn f x (memory_of d) (memory_of d') (state_of d) n cv.from cv.to (outcome (state_of d') r)) e h.is

-- ---------------------------------------------------------------- the definition

abbrev pub parameters : Reader (List Text)
parameters = while (λ t. not (ended t)) (one_more (reading ⟨type⟩)) []

abbrev shown : Bool → List Text → Text
shown q ts = if q then [] otherwise join (b ", ") ts

abbrev listed_on : List Text → Reader Text
listed_on ts τ = give (shown (only_void ts && same τ.rest []) ts) τ

abbrev closed_by : Text → Text → Text → Reader Text
closed_by t q ps = give (t ++ b "(" ++ ps ++ b ")" ++ q)

parameters_is : (t q : Text) (σ : State) → with_parameters t q σ ≡ onto (closed_by t q) (onto listed_on (parameters σ))
unfolding bare_function_type onto
parameters_is t q σ = refl

-- ---------------------------------------------------------------- lists

-- what an answer with a list says
pub record Counted (k d : ℕ) (s base : Text) (from : ℕ) (m : Memory) (p : Progress) (n count : ℕ) (f : Result (List Text)) : Type 0 where
  pub said : List Text
  pub state : State
  pub stands : Stands k d s base from m p n (join (b ", ") said) state
  pub count_is : count ≡ length said
  pub is : f ≡ ok said state

counted : {k d : ℕ} {s base : Text} {from : ℕ} {m : Memory} {r : Texts} {f : Result (List Text)} {p : Progress} {n count : ℕ} → r ≡ Listed p n count → Lists k d s base from m r f →
    Counted k d s base from m p n count f
counted {k} {d} {s} {base} {from} {m} {r} {f} {p} {n} {count} e h = told (subst (λ (x : Texts). Lists k d s base from m x f) e h)
  where
    told : {f : Result (List Text)} → Lists k d s base from m (Listed p n count) f → Counted k d s base from m p n count f
    told (listed {ts = ts} {σ = σ} w i) = record { said = ts; state = σ; stands = w; count_is = i; is = refl }

void_size : (ts : List Text) → T (only_void ts) → length (join (b ", ") ts) ≡ 4
unfolding only_void join b
void_size [] e = absurd e
void_size (t ∷ []) e = ap length (same→eq t (b "void") e)
void_size (t ∷ u ∷ ts) e = absurd e

-- ---------------------------------------------------------------- parameters

one_more_byte : (t : Text) → length (t ++ b "(") ≡ length t + 1
unfolding b
one_more_byte t = length-append t (b "(")

closing_byte : (t : Text) → length (t ++ b ")") ≡ length t + 1
unfolding b
closing_byte t = length-append t (b ")")

module _ {s text text₁ text₂ : Text} {store ends store₂ ends₂ : Halves} {p o : Progress} {r : Texts}
    (u : Puts text text₁ p o (b "(")) (f : ReadsItems Parameters s (mem text₁ store ends) (mem text₂ store₂ ends₂) o r) where
  -- what is on the stack behind the opening bracket
  module _ {σ : State} (h : Holds s (mem text store ends) p σ) {last : Progress} {m count : ℕ} (i : r ≡ Listed last m count) where
    pub list : Counted (keep (o.depth + 1)) o.depth s (window (mem text₁ store ends) o) o.at (mem text₂ store₂ ends₂) last m count (parameters σ)
    list = counted i (f σ (holds_puts u h))

    pub list_least : min m most_entry_bytes ≤ last.top
    list_least = stands_least list.stands

    pub list_void : {q : Bool} → OnlyVoid s (mem text₂ store₂ ends₂) last m count q → q ≡ (only_void list.said && same list.state.rest [])
    list_void v = v _ _ _ _ list.said list.state list.stands list.count_is

    void_four : OnlyVoid s (mem text₂ store₂ ends₂) last m count true → length (join (b ", ") list.said) ≡ 4
    void_four v = void_size list.said (both (only_void list.said) (same list.state.rest []) (subst T (list_void v) tt)).0

    pub void_room : OnlyVoid s (mem text₂ store₂ ends₂) last m count true → 4 ≤ last.top
    void_room v = omega (arith, void_four v, list.stands.size, list_least)

  module _ {base : Text} {at n : ℕ} {t : Text} {σ : State} (from to : ℕ) (h : Stands (keep (p.depth + 1)) p.depth s base at (mem text store ends) p n t σ) where
    abbrev pub Opened : Memory → Read → Type 0
    Opened m' v = Refines (keep p.depth) p.depth s base at m' v (with_parameters t (qualified_by s from to) σ)

    abbrev closing : Text → Reader Text
    closing = closed_by t (qualified_by s from to)

    pub items_refused : {m' : Memory} {j : Refusal} {v : Read} → r ≡ Unlisted j → v ≡ refused_of r → Opened m' v
    items_refused i g = by (parameters_is t (qualified_by s from to) σ) (unlisted_on listed_on closing i g (f σ (holds_puts u h.holds)))

    module _ (l : n ≤ most_text_bytes + 1 + most_text_bytes) {last : Progress} {m count : ℕ} (i : r ≡ Listed last m count) where
      abbrev found : Counted (keep (o.depth + 1)) o.depth s (window (mem text₁ store ends) o) o.at (mem text₂ store₂ ends₂) last m count (parameters σ)
      found = list h.holds i

      abbrev words : Text
      words = join (b ", ") found.said

      shown_is : {v : Bool} → OnlyVoid s (mem text₂ store₂ ends₂) last m count v → with_parameters t (qualified_by s from to) σ ≡ onto closing (give (shown v found.said) found.state)
      unfolding onto
      shown_is x =
          parameters_is t (qualified_by s from to) σ
          ∙ ap (λ (w : Result (List Text)). onto closing (onto listed_on w)) found.is
          ∙ ap (λ (w : Bool). onto closing (give (shown w found.said) found.state)) (sym (list_void h.holds i x))

      opened : Stands (keep (p.depth + 1)) p.depth s base at (mem text₁ store ends) o (n + 1) (t ++ b "(") σ
      opened = stands_puts h u (omega (arith, h.size, one_more_byte t))

      whole : Stands (keep (p.depth + 1)) p.depth s base at (mem text₂ store₂ ends₂) last (min (n + 1 + m) most_length) ((t ++ b "(") ++ words) found.state
      whole = stands_joined opened found.stands (omega (arith, ap (λ (x : Progress). x.depth) u.same)) (omega (arith, opened.more))

      -- a void alone is removed again
      module _ (x : OnlyVoid s (mem text₂ store₂ ends₂) last m count true) {text₃ : Text} {bare : Progress} (c : Cuts text₂ text₃ last bare 4 0) where
        bare_tail : Tail (keep p.depth) (take bare.top text₃) (base ++ (t ++ b "("))
        bare_tail =
            let e = void_four h.holds i x in
            let k : Cut text₂ text₃ last.top bare.top (length words) (length {A = ℕ} []) = rw e c.cut in
            let y : Tail (keep (p.depth + 1)) (take last.top text₂) ((base ++ (t ++ b "(")) ++ (words ++ [])) =
            subst (Tail (keep (p.depth + 1)) (take last.top text₂))
            (sym (append_assoc base (t ++ b "(") words) ∙ ap (λ (z : Text). (base ++ (t ++ b "(")) ++ z) (sym (append-nil words))) whole.tail in
            subst (Tail (keep p.depth) (take bare.top text₃)) (append-nil (base ++ (t ++ b "(")))
            (dropped (base ++ (t ++ b "(")) words [] y whole.holds.text (omega (arith, e)) (omega (arith, e)) k)

        bare_stands : Stands (keep p.depth) p.depth s base at (mem text₃ store₂ ends₂) bare (n + 1) (t ++ b "(") found.state
        bare_stands = record {
          holds = holds_cuts c whole.holds;
          tail = bare_tail;
          size = opened.size;
          level = ap (λ (z : Progress). z.depth) c.same ∙ whole.level;
          more = omega (arith, ap (λ (z : Progress). z.at) c.same, whole.more);
          least = omega arith;
          most = omega (arith, h.most);
        }

        void_is : with_parameters t (qualified_by s from to) σ ≡ give (((t ++ b "(") ++ b ")") ++ qualified_by s from to) found.state
        unfolding onto if◌then◌otherwise◌
        void_is =
            shown_is x
            ∙ ap (onto closing) (give_short [] found.state (omega arith))
            ∙ ap (λ (z : Text). give ((z ++ b ")") ++ qualified_by s from to) found.state) (append-nil (t ++ b "("))

        pub void_given : {text₄ : Text} {m' : Memory} {close : Progress} {v : Read} →
            Puts text₃ text₄ bare close (b ")") → Qualifies s (mem text₄ store₂ ends₂) m' close (n + 2) from to v → Opened m' v
        void_given y g = by void_is (g _ _ _ _ _ _ (stands_puts bare_stands y (omega (arith, opened.size, closing_byte (t ++ b "(")))))

      module _ (x : OnlyVoid s (mem text₂ store₂ ends₂) last m count false) where
        pub list_long : {m' : Memory} → most_text_bytes < m → Opened m' (Refused LongText)
        unfolding onto if◌then◌otherwise◌
        list_long y = by (shown_is x ∙ ap (onto closing) (give_long words found.state (omega (arith, found.stands.size)))) refuses

        list_is : m ≤ most_text_bytes → with_parameters t (qualified_by s from to) σ ≡ give ((((t ++ b "(") ++ words) ++ b ")") ++ qualified_by s from to) found.state
        unfolding onto if◌then◌otherwise◌
        list_is y = shown_is x ∙ ap (onto closing) (give_short words found.state (omega (arith, found.stands.size)))

        pub list_given : {text₃ : Text} {m' : Memory} {close : Progress} {v : Read} → m ≤ most_text_bytes →
            Puts text₂ text₃ last close (b ")") → Qualifies s (mem text₃ store₂ ends₂) m' close (n + m + 2) from to v → Opened m' v
        list_given y w g =
            by (list_is y) (less (omega arith) (g _ _ _ _ _ _ (stands_puts whole w (omega (arith, whole.size, closing_byte ((t ++ b "(") ++ words))))))

-- ---------------------------------------------------------------- the type returned

-- a reading that goes on, at the depth of the text
pub goes_on_at :
    (f : Text → Text → Reader Text) (from to : ℕ) {d : ℕ} {s base : Text} {at : ℕ} {m m' : Memory} {p : Progress} {n : ℕ} {t : Text} {σ : State} {r : Read} →
    GoesOn f s m m' p n from to r → Stands (keep (d + 1)) d s base at m p n t σ → Refines (keep d) d s base at m' r (f t (qualified_by s from to) σ)
goes_on_at f from to {d} {s} {base} {at} {m} {m'} {p} {n} {t} {σ} {r} g h =
    subst (λ (j : ℕ). Stands (keep (j + 1)) j s base at m p n t σ → Refines (keep j) j s base at m' r (f t (qualified_by s from to) σ)) h.level (g base at t σ) h

module _ {s text text₁ : Text} {store ends store₁ ends₁ : Halves} {p : Progress} {r : Read}
    (f : Reads (reading ⟨type⟩) (keep (p.depth + 1)) (p.at + 1) s (mem text store ends) (mem text₁ store₁ ends₁) p r) where
  module _ {σ : State} (h : Holds s (mem text store ends) p σ) {last : Progress} {m : ℕ} (e : r ≡ read last m) where
    pub returned : Got (keep (p.depth + 1)) p.depth s (window (mem text store ends) p) (p.at + 1) (mem text₁ store₁ ends₁) last m (reading ⟨type⟩ σ)
    returned = got e (f σ h)

    pub returned_short : m ≤ most_text_bytes
    returned_short = omega (arith, returned.wrote.size, returned.wrote.short)

    pub returned_room : (n : ℕ) → n ≤ p.top → n ≤ most_text_bytes → n + m ≤ last.top
    returned_room n i j =
        let w = returned.wrote in
        omega (arith, w.size, w.short, w.tail.most, size w.tail, top_size w.holds.text, top_size h.text, length-append (window (mem text store ends) p) returned.said)

  module _ {base : Text} {at n : ℕ} {t : Text} {σ : State} (from to : ℕ) (h : Stands (keep (p.depth + 1)) p.depth s base at (mem text store ends) p n t σ) where
    pub type_refused : {m' : Memory} {j : Refusal} → r ≡ Refused j → Refines (keep p.depth) p.depth s base at m' r (with_returned t (qualified_by s from to) σ)
    type_refused e = refused_on (λ x. with_parameters (x ++ b " " ++ t) (qualified_by s from to)) e (f σ h.holds)

    pub type_returned :
        {last turned : Progress} {m : ℕ} {m₂ m' : Memory} {v : Read} → n ≤ most_text_bytes → r ≡ read last m →
        ((x y : Text) (τ : State) → length x ≡ n → length y ≡ m → Stands (keep (p.depth + 1)) p.depth s base at (mem text₁ store₁ ends₁) last (n + m) (x ++ y) τ →
        Stands (keep (p.depth + 1)) p.depth s base at m₂ turned (m + 1 + n) (y ++ b " " ++ x) τ) →
        GoesOn with_parameters s m₂ m' turned (m + 1 + n) from to v → Refines (keep p.depth) p.depth s base at m' v (with_returned t (qualified_by s from to) σ)
    unfolding onto
    type_returned {last} {turned} {m} {m₂} {m'} {v} l e q g =
        let y = returned h.holds e in
        let w = y.wrote in
        let a = stands_joined {to = at} h (stands w (omega arith) (omega (arith, h.most))) (omega arith) (omega (arith, h.more)) in
        let z : min (n + m) most_length ≡ n + m = omega (arith, w.size, w.short) in
        let o = q t y.said y.state (omega (arith, h.size)) (sym w.size)
        (subst (λ (i : ℕ). Stands (keep (p.depth + 1)) p.depth s base at (mem text₁ store₁ ends₁) last i (t ++ y.said) y.state) z a) in
        by (ap (onto (λ x. with_parameters (x ++ b " " ++ t) (qualified_by s from to))) y.is) (goes_on_at with_parameters from to g o)
