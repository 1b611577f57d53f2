-- A list of texts as far as it is read: the loop of the definition from the start is the loop from here. Assumes nothing.
use Rattle.grammar.specs.Laws.Places.{peek_byte, peek_end, starts_byte}
use Rattle.std.specs.Prelude.{◌≡◌, ℕ, ◌+◌, ◌*◌, ◌<◌, ◌≤◌, min, Bool, true, false, not, List, [], ◌∷◌, ◌++◌, length, take, drop, refl}
use Rattle.std.proofs.Common.{sym, ◌∙◌, subst, arith, length-append}
use Rattle.std.proofs.Math.Path.{ap}
use Rattle.grammar.specs.Text.{Text, b, if◌then◌otherwise◌, same, join}
use Rattle.grammar.specs.Limits.{most_open, most_text_bytes, most_entry_bytes, most_length, kept_bytes}
use Rattle.grammar.specs.Reader.{State, Result, ok, refused, Reader, onto, return, push_arg, while, one_more}
use Rattle.grammar.specs.Grammar.{reading, ⟨type⟩, ⟨template-arg⟩, ended}
use Rattle.grammar.specs.Loops.{before_E}
use Rattle.grammar.specs.Laws.Loops.{Stepped, items_loop, args_loop}
use Rattle.parser.specs.Holds.{Halves, Memory, mem, Holds, Wrote, Stands, Reads, Refines, reads, refuses, Puts, Pushes, pushed, full, window, keep}
use Rattle.parser.specs.Laws.Holds.{by, holds_puts, refused_on, Got, got}
use Rattle.grammar.specs.States.{peeked, args_to, Progress, Read, read, Refused}
use Rattle.std.specs.Prelude as peeked_as
use Rattle.reader.specs.declared.lists.Kind.{Kind}
use Rattle.reader.specs.declared.lists.Kind.TheVariants.{Parameters, Types, Arguments}
use Rattle.reader.specs.Lists.{Texts, Unlisted, goes_on, item_of, kept_by, stops_at, Lists, listed, unlisted, unlisted_of, before_text}
use Rattle.reader.specs.Lists as lists
use Rattle.reader.specs.Laws.Separators.{join_more, before_size}
use Rattle.reader.specs.Laws.Standing.{stands_nothing, stands_sized, wrote_kept, wrote_behind}
use Rattle.grammar.specs.Refusals.{refusal_number}
use Rattle.grammar.specs.declared.refusal.Refusal.{Refusal}

-- ---------------------------------------------------------------- the loop, one step at a time

module _ {A : Type 0} (on : Text → Bool) (step : A → Reader A) (x : A) (σ : State) (is : while on step x σ ≡ Stepped on step x σ) where
  abbrev stepped : Bool → Result A
  stepped q = if◌then◌otherwise◌ {A = Reader A} q (λ u. onto (λ y. while on step y) (step x u)) (return x) σ

  pub while_stops : on σ.rest ≡ false → while on step x σ ≡ ok x σ
  unfolding if◌then◌otherwise◌
  while_stops e = is ∙ ap stepped e

  pub while_goes : on σ.rest ≡ true → while on step x σ ≡ onto (λ y. while on step y) (step x σ)
  unfolding if◌then◌otherwise◌
  while_goes e = is ∙ ap stepped e

abbrev pub looped : Kind → List Text → Reader (List Text)
looped kind l = while (goes_on kind) (one_more (item_of kind)) l

loop_is : (kind : Kind) (l : List Text) (σ : State) → looped kind l σ ≡ Stepped (goes_on kind) (one_more (item_of kind)) l σ
loop_is Parameters l σ = items_loop ⟨type⟩ (goes_on Parameters) l σ
loop_is Types l σ = items_loop ⟨type⟩ (goes_on Types) l σ
loop_is Arguments l σ = args_loop (goes_on Arguments) l σ

module _ (kind : Kind) (l : List Text) (σ : State) where
  pub loop_stops : goes_on kind σ.rest ≡ false → looped kind l σ ≡ ok l σ
  loop_stops e = while_stops (goes_on kind) (one_more (item_of kind)) l σ (loop_is kind l σ) e

  goes : {r : Result Text} → goes_on kind σ.rest ≡ true → item_of kind σ ≡ r → looped kind l σ ≡ onto (λ y. looped kind y) (onto (λ t. return (l ++ (t ∷ []))) r)
  goes e f = while_goes (goes_on kind) (one_more (item_of kind)) l σ (loop_is kind l σ) e ∙ ap (λ (r : Result Text). onto (λ y. looped kind y) (onto (λ t. return (l ++ (t ∷ []))) r)) f

  pub loop_goes : {t : Text} {τ : State} → goes_on kind σ.rest ≡ true → item_of kind σ ≡ ok t τ → looped kind l σ ≡ looped kind (l ++ (t ∷ [])) τ
  unfolding onto
  loop_goes e f = goes e f

  pub loop_refuses : {r : ℕ} → goes_on kind σ.rest ≡ true → item_of kind σ ≡ refused r → looped kind l σ ≡ refused r
  unfolding onto
  loop_refuses e f = goes e f

pub ends_on : (kind : Kind) {t : Text} → t ≡ [] → goes_on kind t ≡ false
unfolding ended before_E same
ends_on Parameters e = rw e
ends_on Types e = rw e
ends_on Arguments e = rw e

pub on_byte : (kind : Kind) (c : ℕ) {t u : Text} {q : Bool} → t ≡ c ∷ u → stops_at kind c ≡ q → goes_on kind t ≡ not q
unfolding ended before_E same b
on_byte Parameters c {t} {u} e f = rw e (ap not (starts_byte c 46 u ∙ f))
on_byte Types c {t} {u} e f = rw e (ap not (starts_byte c 69 u ∙ f))
on_byte Arguments c {t} {u} e f = rw e (ap not (starts_byte c 69 u ∙ f))

-- ---------------------------------------------------------------- the list so far

pub kept_bounds : (kind : Kind) (d : ℕ) → d ≤ most_open → (most_entry_bytes ≤ kept_by kind d) × (kept_by kind d ≤ kept_bytes)
kept_bounds Parameters d h = (omega arith, omega arith)
kept_bounds Types d h = (omega arith, omega arith)
kept_bounds Arguments d h = (omega arith, omega arith)

-- so many texts were read since the state σ₀, and stand above what stood there
pub record Listed (kind : Kind) (s : Text) (m₀ : Memory) (p₀ : Progress) (m : Memory) (p : Progress) (n count : ℕ) (σ₀ : State) : Type 0 where
  pub texts : List Text
  pub state : State
  pub stands : Stands (kept_by kind p₀.depth) p₀.depth s (window m₀ p₀) p₀.at m p n (join (b ", ") texts) state
  pub count_is : count ≡ length texts
  pub same : looped kind [] σ₀ ≡ looped kind texts state

pub listed_start : (kind : Kind) {s : Text} {m : Memory} {p : Progress} {σ : State} → Holds s m p σ → Listed kind s m p m p 0 0 σ
unfolding join
listed_start kind {s} {m} {p} {σ} h = record {
  texts = [];
  state = σ;
  stands = stands_nothing h (kept_bounds kind p.depth h.deep).0 (kept_bounds kind p.depth h.deep).1;
  count_is = refl;
  same = refl;
}

pub refused_is : {k d : ℕ} {s base : Text} {from : ℕ} {m : Memory} {r : Read} {f : Result Text} {j : Refusal} → r ≡ Refused j → Refines k d s base from m r f → f ≡ refused (refusal_number j)
refused_is {k} {d} {s} {base} {from} {m} {r} {f} {j} e h = told (subst (λ (x : Read). Refines k d s base from m x f) e h)
  where
    told : {f : Result Text} → Refines k d s base from m (Refused j) f → f ≡ refused (refusal_number j)
    told refuses = refl

module _ {kind : Kind} {s : Text} {m₀ : Memory} {p₀ : Progress} {m : Memory} {p : Progress} {n count : ℕ} {σ₀ : State} (l : Listed kind s m₀ p₀ m p n count σ₀) where
  pub at_end : peeked (drop p.at s) ≡ peeked_as.None → goes_on kind l.state.rest ≡ false
  at_end e = ends_on kind (l.stands.holds.rest ∙ peek_end (drop p.at s) e)

  pub at_byte : {c : ℕ} {q : Bool} → peeked (drop p.at s) ≡ peeked_as.Some c → stops_at kind c ≡ q → goes_on kind l.state.rest ≡ not q
  at_byte {c} e f = on_byte kind c (l.stands.holds.rest ∙ peek_byte (drop p.at s) e) f

  pub listed_ends : goes_on kind l.state.rest ≡ false → Lists (kept_by kind p₀.depth) p₀.depth s (window m₀ p₀) p₀.at m (lists.Listed p n count) (looped kind [] σ₀)
  listed_ends e =
      subst (λ (x : Result (List Text)). Lists (kept_by kind p₀.depth) p₀.depth s (window m₀ p₀) p₀.at m (lists.Listed p n count) x)
      (sym (l.same ∙ loop_stops kind l.texts l.state e)) (listed l.stands l.count_is)

  pub listed_refuses :
      {k d k' d' : ℕ} {s' base s'' base' : Text} {from from' : ℕ} {m' m'' : Memory} {r : Read} {list : Texts} {j : Refusal} →
      goes_on kind l.state.rest ≡ true → r ≡ Refused j → Refines k d s' base from m' r (item_of kind l.state) → list ≡ unlisted_of r →
      Lists k' d' s'' base' from' m'' list (looped kind [] σ₀)
  listed_refuses {k' = k'} {d' = d'} {s'' = s''} {base' = base'} {from' = from'} {m'' = m''} {r = r} {list = list} {j = j} e f h g =
      subst (λ (x : Result (List Text)). Lists k' d' s'' base' from' m'' list x)
      (sym (l.same ∙ loop_refuses kind l.texts l.state e (refused_is f h)))
      (subst (λ (x : Texts). Lists k' d' s'' base' from' m'' x (refused (refusal_number j))) (sym (g ∙ ap unlisted_of f)) unlisted)

comma_size : (n : ℕ) → length (before_text n) ≡ 2 * min n 1
unfolding b
comma_size n = before_size (b ", ") refl n

-- one text more, behind a comma if it is not the first
pub listed_more :
    {kind : Kind} {s : Text} {m₀ : Memory} {p₀ : Progress} {text text' : List ℕ} {store ends : Halves} {m'' : Memory} {p q p'' : Progress} {n count x n' : ℕ} {σ₀ : State}
    (l : Listed kind s m₀ p₀ (mem text store ends) p n count σ₀) → Puts text text' p q (before_text count) → goes_on kind l.state.rest ≡ true →
    Got (kept_by kind q.depth) q.depth s (take q.top text') (q.at + 1) m'' p'' x (item_of kind l.state) →
    n' ≡ min (n + (2 * min count 1 + x)) most_length → Listed kind s m₀ p₀ m'' p'' n' (count + 1) σ₀
listed_more {kind} {s} {m₀} {p₀} {text} {text'} {store} {ends} {m''} {p} {q} {p''} {n} {count} {x} {n'} {σ₀} l u i h e =
    let d : q.depth ≡ p₀.depth = ap (λ (z : Progress). z.depth) u.same ∙ l.stands.level in
    let t : Text = h.said in
    let j : Text = join (b ", ") l.texts in
    let f : join (b ", ") (l.texts ++ (t ∷ [])) ≡ j ++ (before_text count ++ t) = join_more (b ", ") count l.texts t (omega (arith, l.count_is)) in
    let y = wrote_behind {to = p₀.at} l.stands u h.wrote (omega (arith, ap (kept_by kind) d)) (omega (arith, l.stands.more, ap (λ (z : Progress). z.at) u.same)) in
    record {
      texts = l.texts ++ (t ∷ []);
      state = h.state;
      stands = stands_sized n' y f (omega (arith, e, y.size, ap length f, comma_size count));
      count_is = omega (arith, l.count_is, length-append l.texts (t ∷ []));
      same = l.same ∙ loop_goes kind l.texts l.state i h.is;
    }

-- ---------------------------------------------------------------- one turn of the loop

-- the loop so far
pub record Listing (kind : Kind) (s : Text) (m₀ : Memory) (p₀ : Progress) (m : Memory) (p : Progress) (n count : ℕ) : Type 0 where
  pub far : p₀.at + count ≤ p.at
  pub inside : p.at ≤ length s
  pub short : length s ≤ most_text_bytes
  pub small : n ≤ most_length
  pub so_far : (σ₀ : State) → Holds s m₀ p₀ σ₀ → Listed kind s m₀ p₀ m p n count σ₀

pub listing_start : (kind : Kind) {s : Text} {m : Memory} {p : Progress} {σ : State} → Holds s m p σ → Listing kind s m p m p 0 0
listing_start kind h = record {
  far = omega arith;
  inside = h.place;
  short = h.source;
  small = omega arith;
  so_far = λ σ₀ g. listed_start kind g;
}

pub listing_more :
    {kind : Kind} {s : Text} {m₀ : Memory} {p₀ : Progress} {text text' : List ℕ} {store ends : Halves} {m'' : Memory} {p q p'' : Progress} {n count x n' c : ℕ} {r : Read} {σ : State} →
    Listing kind s m₀ p₀ (mem text store ends) p n count → Holds s m₀ p₀ σ → Puts text text' p q (before_text count) →
    peeked (drop p.at s) ≡ peeked_as.Some c → stops_at kind c ≡ false → r ≡ read p'' x →
    Reads (item_of kind) (kept_by kind q.depth) (q.at + 1) s (mem text' store ends) m'' q r →
    n' ≡ min (n + (2 * min count 1 + x)) most_length → Listing kind s m₀ p₀ m'' p'' n' (count + 1)
listing_more {kind} {s} {m₀} {p₀} {text} {text'} {store} {ends} {m''} {p} {q} {p''} {n} {count} {x} {n'} {c} {r} {σ} i h u e f g k o =
    let l = i.so_far σ h in
    let w = got g (k l.state (holds_puts u l.stands.holds)) in
    let v = w.wrote.holds in
    record {
      far = omega (arith, i.far, w.wrote.more, ap (λ (z : Progress). z.at) u.same);
      inside = v.place;
      short = v.source;
      small = omega (arith, o);
      so_far = λ σ₀ h₀. let l₀ = i.so_far σ₀ h₀ in
          listed_more l₀ u (at_byte l₀ e f) (got g (k l₀.state (holds_puts u l₀.stands.holds))) (omega (arith, o));
    }

-- ---------------------------------------------------------------- one text of a list, by the list's kind

pub by_kind :
    {kind k' : Kind} {d : ℕ} {s base : Text} {from : ℕ} {m : Memory} {r : Read} (σ : State) → kind ≡ k' →
    Refines (kept_by k' d) d s base from m r (item_of k' σ) → Refines (kept_by kind d) d s base from m r (item_of kind σ)
by_kind {d = d} {s = s} {base = base} {from = from} {m = m} {r = r} σ e h = subst (λ (k : Kind). Refines (kept_by k d) d s base from m r (item_of k σ)) (sym e) h

pub argument_refused :
    {kind : Kind} {k d d' : ℕ} {s base s' base' : Text} {from from' : ℕ} {m m' : Memory} {r : Read} {j : Refusal} (σ : State) → kind ≡ Arguments → r ≡ Refused j →
    Refines k d' s' base' from' m' r (reading ⟨template-arg⟩ σ) → Refines (kept_by kind d) d s base from m r (item_of kind σ)
argument_refused σ e f h = by_kind σ e (refused_on _ f h)

pub argument_pushed :
    {kind : Kind} {d : ℕ} {s base : Text} {from : ℕ} {text : List ℕ} {store ends store' ends' : Halves} {p : Progress} {n c b : ℕ} {t : Text} {r : Read} {τ : State} (σ : State) →
    kind ≡ Arguments → reading ⟨template-arg⟩ σ ≡ ok t τ → Wrote (keep d) d s base from (mem text store ends) p n t τ →
    Pushes s (mem text store' ends') n (args_to p c b) r (push_arg t τ) → Refines (kept_by kind d) d s base from (mem text store' ends') r (item_of kind σ)
unfolding onto
argument_pushed {kind} {d} {s} {base} {from} {text} {store} {ends} {store'} {ends'} {p} {n} {c} {b} {t} {r} {τ} σ e f w h =
    by_kind σ e (by (ap (onto (λ x. λ (u : State). onto (λ _. return x) (push_arg x u))) f) (told h))
  where
    told : {v : Read} {g : Result (Unit {0})} → Pushes s (mem text store' ends') n (args_to p c b) v g → Refines (keep d) d s base from (mem text store' ends') v (onto (λ _. return t) g)
    told (pushed h) = reads (wrote_kept w (omega arith) h refl w.level w.more)
    told full = refuses
