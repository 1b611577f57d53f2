-- Laws of Halves.antt. Assumes nothing.
use Rattle.std.specs.Prelude.{Bool, ◌&&◌, ◌≡◌, List, [], ◌∷◌, ◌++◌, ℕ, zero, suc, ◌+◌, ◌-◌, ◌≤◌, ◌<◌, take, drop, get_or}
use Rattle.std.proofs.Math.Bool.{true, false}
use Rattle.std.proofs.Math.Path.{refl, ap₂, subst}
use Rattle.std.proofs.Common.{sym, ap, ◌∙◌, arith, length-append, length-drop, length-take-le}
use Rattle.std.proofs.Math.Option.{Option, some}
use borrow.Author.Tests.{le-leb, lt-leb, leb-true}
use Rattle.std.proofs.Math.Dec.{leb}
use Rattle.std.proofs.Math.ListN.{length, get_elem?}
use Rattle.grammar.specs.Text.{Text, if◌then◌otherwise◌, choose, same}
use Rattle.grammar.specs.Limits.{most_entries, most_text_bytes, most_entry_bytes, kept_bytes}
use Rattle.grammar.specs.Reader.{State, Result, ok, refused, Reader, onto, refuse, set_subs, set_args, bytes_of, fits, push_sub, push_arg, give, recorded}
use Rattle.grammar.specs.Grammar.{last}
use Rattle.store.specs.Stack.{lent}
use Rattle.store.specs.Table.{Entries, Room}
use Rattle.store.specs.Laws.Tails.{newest_lent, put_tail, whole}
use Rattle.store.specs.Laws.Entries.{entries_sized, no_entries, some_entry, no_entry, bytes_append, bytes_one}
use Rattle.grammar.specs.States.{Progress, Read, read, Refused, subs_to, args_to}
use Rattle.parser.specs.Holds.{Halves, Memory, mem, window, part, Holds, Stands, Refines, refuses, Puts, Pushes, pushed, full, given_of}
use Rattle.parser.specs.Laws.Holds.{answers, by, given_refines, holds_puts}
use Rattle.parser.specs.Halves.{with_subs, with_args}
use Rattle.grammar.specs.Refusals.{refusal_number}
use Rattle.grammar.specs.declared.refusal.Refusal.{Refusal}

-- ---------------------------------------------------------------- tables

-- other tables
holds_tables : {s text : Text} {store ends store' ends' : Halves} {p : Progress} {σ : State} {l r : List Text} {c b i j : ℕ} → Holds s (mem text store ends) p σ
    → Entries l store'.low ends'.low c b → Entries r store'.high ends'.high i j
    → Holds s (mem text store' ends') (args_to (subs_to p c b) i j) (with_args r (with_subs l σ))
holds_tables h x y = record {
  source = h.source;
  place = h.place;
  rest = h.rest;
  depth = h.depth;
  deep = h.deep;
  text = h.text;
  subs = x;
  args = y;
  cv = h.cv;
  cv_within = h.cv_within;
  templated = h.templated;
}

module _ {s text : Text} {store ends : Halves} {p : Progress} {σ : State} (h : Holds s (mem text store ends) p σ) {l : List Text} {ys zs : List ℕ} {c b : ℕ} (e : Entries l ys zs c b) where
  pub holds_subs : Holds s (mem text (record store { low = ys }) (record ends { low = zs })) (subs_to p c b) (with_subs l σ)
  holds_subs = holds_tables h e h.args

  pub holds_args : Holds s (mem text (record store { high = ys }) (record ends { high = zs })) (args_to p c b) (with_args l σ)
  holds_args = holds_tables h h.subs e

-- no arguments are left, whatever their halves hold
pub holds_no_args : {s : Text} {m : Memory} {p : Progress} {σ : State} → Holds s m p σ → Holds s m (args_to p 0 0) (with_args [] σ)
holds_no_args h = holds_tables h h.subs (no_entries (entries_sized h.args))

-- ---------------------------------------------------------------- whether one entry more fits

module _ {l : List Text} {store ends : Text} {c b : ℕ} (e : Entries l store ends c b) (t : Text) where
  count_more : length (l ++ (t ∷ [])) ≡ c + 1
  count_more = omega (arith, e.count_is, length-append l (t ∷ []))

  bytes_more : bytes_of (l ++ (t ∷ [])) ≡ b + length t
  bytes_more = omega (arith, e.bytes_is, bytes_append l (t ∷ []), bytes_one t)

  pub fits_more : c < most_entries → b + length t ≤ most_entry_bytes → fits (l ++ (t ∷ [])) ≡ true
  unfolding fits
  fits_more i j = ap₂ (λ (q r : Bool). q && r) (le-leb (length (l ++ (t ∷ []))) most_entries (omega (arith, count_more)))
      (le-leb (bytes_of (l ++ (t ∷ []))) most_entry_bytes (omega (arith, bytes_more)))

  pub fits_not : (c < most_entries → b + length t ≤ most_entry_bytes → ⊥) → fits (l ++ (t ∷ [])) ≡ false
  unfolding fits
  fits_not never = go _ _ refl refl
    where
      go : (q r : Bool) → leb (length (l ++ (t ∷ []))) most_entries ≡ q → leb (bytes_of (l ++ (t ∷ []))) most_entry_bytes ≡ r
          → (leb (length (l ++ (t ∷ []))) most_entries && leb (bytes_of (l ++ (t ∷ []))) most_entry_bytes) ≡ false
      go true true x y = absurd (never (omega (arith, leb-true (length (l ++ (t ∷ []))) most_entries x, count_more))
          (omega (arith, leb-true (bytes_of (l ++ (t ∷ []))) most_entry_bytes y, bytes_more)))
      go true false x y = ap₂ (λ (q r : Bool). q && r) x y
      go false r x y = ap₂ (λ (q r : Bool). q && r) x y

-- what a push answers, by whether the text fits
abbrev pub Pushed : List Text → State → ℕ → Result (Unit {0})
Pushed l σ j = if fits l then ok tt σ otherwise refused j

if_at : {A B : Type 0} (q : Bool) (f g : A → B) (x : A) → (if q then f otherwise g) x ≡ (if q then f x otherwise g x)
unfolding if◌then◌otherwise◌
if_at true f g x = refl
if_at false f g x = refl

module _ (t : Text) (σ : State) where
  pub push_sub_is : push_sub t σ ≡ Pushed (σ.subs ++ (t ∷ [])) (with_subs (σ.subs ++ (t ∷ [])) σ) 9
  unfolding push_sub onto set_subs
  push_sub_is = if_at (fits (σ.subs ++ (t ∷ []))) (set_subs (σ.subs ++ (t ∷ []))) (refuse 9) σ

  pub push_arg_is : push_arg t σ ≡ Pushed (σ.args ++ (t ∷ [])) (with_args (σ.args ++ (t ∷ [])) σ) 10
  unfolding push_arg onto set_args
  push_arg_is = if_at (fits (σ.args ++ (t ∷ []))) (set_args (σ.args ++ (t ∷ []))) (refuse 10) σ

-- ---------------------------------------------------------------- pushes

pub pushes_by : {s : Text} {m : Memory} {n : ℕ} {q : Progress} {r : Read} {f g : Result (Unit {0})} → f ≡ g → Pushes s m n q r g → Pushes s m n q r f
pushes_by {s} {m} {n} {q} {r} e h = subst (λ (x : Result (Unit {0})). Pushes s m n q r x) (sym e) h

-- the newest n bytes are the text
pub newest_part : {k d : ℕ} {s base : Text} {from : ℕ} {m : Memory} {p : Progress} {n : ℕ} {t : Text} {σ : State} → Stands k d s base from m p n t σ → length t ≤ most_entry_bytes → (n ≤ p.top) × (lent m.text p.top n ≡ t)
newest_part {base = base} {t = t} h l = newest_lent base t h.holds.text h.tail (omega (arith, h.size)) (omega (arith, h.least))

-- a push onto one of the tables, which answers f
module _ {k d : ℕ} {s base : Text} {from : ℕ} {m : Memory} {p : Progress} {n : ℕ} {t : Text} {σ : State} (h : Stands k d s base from m p n t σ)
    {l : List Text} {ys zs : List ℕ} {c b : ℕ} {q : Bool} (e : Entries l ys zs c b) (g : Room c b n q) (σ' : State) (j : Refusal)
    {f : Result (Unit {0})} (i : f ≡ Pushed (l ++ (t ∷ [])) σ' (refusal_number j)) where
  by_fit : (v : Bool) → fits (l ++ (t ∷ [])) ≡ v → f ≡ (if v then ok tt σ' otherwise refused (refusal_number j))
  by_fit v u = i ∙ ap (λ (x : Bool). if◌then◌otherwise◌ {A = Result (Unit {0})} x (ok tt σ') (refused (refusal_number j))) u

  pub pushes_not : {m' : Memory} {r : Progress} → q ≡ false → Pushes s m' n r (Refused j) f
  unfolding if◌then◌otherwise◌
  pushes_not u = pushes_by (by_fit false (fits_not e t (λ x y. g.no u x (omega (arith, h.size))))) full

  pub pushes_entry : {m' : Memory} {r : Progress} → q ≡ true → Holds s m' r σ' → Pushes s m' n r (read r n) f
  unfolding if◌then◌otherwise◌
  pushes_entry u v = let (x, y) = g.yes u in pushes_by (by_fit true (fits_more e t x (omega (arith, h.size)))) (pushed v)

-- ---------------------------------------------------------------- texts that become entries and are returned

-- what a push that had room says: the text stands as it did, in a state with one entry more
pub record Stored (k d : ℕ) (s base : Text) (from : ℕ) (m : Memory) (p : Progress) (n : ℕ) (t : Text) (f : Result (Unit {0})) : Type 0 where
  pub state : State
  pub stands : Stands k d s base from m p n t state
  pub is : f ≡ ok tt state

-- where a push left the stack and the place
module _ {k d : ℕ} {s base : Text} {from : ℕ} {m m' : Memory} {p p' : Progress} {n : ℕ} {t : Text} {σ : State}
    (w : window m' p' ≡ window m p) (i : p'.depth ≡ p.depth) (j : p'.at ≡ p.at) (h : Stands k d s base from m p n t σ) where
  pub stored : {f : Result (Unit {0})} → Pushes s m' n p' (read p' n) f → Stored k d s base from m' p' n t f
  stored u = told u
    where
      told : {q : Progress} {c : ℕ} {f : Result (Unit {0})} → Pushes s m' n p' (read q c) f → Stored k d s base from m' p' n t f
      told (pushed {σ = τ} v) = record {
        state = τ;
        stands = record { holds = v; tail = rw w h.tail; size = h.size; level = i ∙ h.level; more = omega (arith, j, h.more); least = h.least; most = h.most };
        is = refl;
      }

  pub recorded_given : Pushes s m' n p' (read p' n) (push_sub t σ) → Refines k d s base from m' (given_of p' n) (recorded t σ)
  unfolding recorded onto
  recorded_given u = let v = stored u in by (ap (onto (λ _. give t)) v.is) (given_refines v.stands)

pub recorded_full : {k d : ℕ} {s s' base : Text} {from : ℕ} {m m' : Memory} {p : Progress} {n : ℕ} (t : Text) (σ : State) {r : Read} {j : Refusal} → r ≡ Refused j → Pushes s m n p r (push_sub t σ) → Refines k d s' base from m' r (recorded t σ)
unfolding recorded onto
recorded_full {k} {d} {s} {s'} {base} {from} {m} {m'} {p} {n} t σ {r} {j} e u =
    subst (λ (x : Read). Refines k d s' base from m' x (recorded t σ)) (sym e) (told (subst (λ (x : Read). Pushes s m n p x (push_sub t σ)) e u))
  where
    told : {j : Refusal} {f : Result (Unit {0})} → Pushes s m n p (Refused j) f → Refines k d s' base from m' (Refused j) (onto (λ _. give t) f)
    told full = refuses

module _ (t : Text) (σ : State) where
  pub recorded_no : fits (σ.subs ++ (t ∷ [])) ≡ false → recorded t σ ≡ refused 9
  unfolding recorded onto if◌then◌otherwise◌
  recorded_no e = rw (push_sub_is t σ, e)

  pub recorded_long : fits (σ.subs ++ (t ∷ [])) ≡ true → most_text_bytes < length t → recorded t σ ≡ refused 11
  unfolding recorded onto give if◌then◌otherwise◌
  recorded_long e l = rw (push_sub_is t σ, e, lt-leb (length t) most_text_bytes l)

-- ---------------------------------------------------------------- entries recalled

pub some_given : (l : List Text) (k : ℕ) (g : Reader Text) (σ : State) → k < length l → choose (get_elem? l k) give g σ ≡ give (get_or l k []) σ
unfolding choose
some_given l k g σ i = ap (λ (o : Option Text). choose o give g σ) (some_entry l k i)

pub none_given : (l : List Text) (k : ℕ) (g : Reader Text) (σ : State) → length l ≤ k → choose (get_elem? l k) give g σ ≡ g σ
unfolding choose
none_given l k g σ i = ap (λ (o : Option Text). choose o give g σ) (no_entry l k i)

-- ---------------------------------------------------------------- the newest entry

last_some : (l : List Text) (k : ℕ) → length l ≡ suc k → last l ≡ some (get_or l k [])
unfolding last
last_some [] k e = absurd (omega arith)
last_some (t ∷ []) zero e = refl
last_some (t ∷ []) (suc k) e = absurd (omega arith)
last_some (t ∷ u ∷ l) zero e = absurd (omega arith)
last_some (t ∷ u ∷ l) (suc k) e = last_some (u ∷ l) k (omega arith)

pub last_chosen : (l : List Text) (k : ℕ) (t : Text) → length l ≡ k + 1 → choose (last l) (same t) false ≡ same t (get_or l k [])
unfolding choose
last_chosen l k t e = ap (λ (o : Option Text). choose o (same t) false) (last_some l k (omega arith))

pub last_none : (l : List Text) (t : Text) → length l ≡ 0 → choose (last l) (same t) false ≡ false
unfolding choose last
last_none [] t e = refl
last_none (u ∷ l) t e = absurd (omega arith)

-- ---------------------------------------------------------------- one text put and returned

pub part_size : (s : Text) {from to : ℕ} → from ≤ to → to ≤ length s → length (part s from to) ≡ to - from
part_size s {from} {to} i j = length-take-le (to - from) (drop from s) (simp length-drop (omega arith))

pub give_short : (t : Text) (σ : State) → length t ≤ most_text_bytes → give t σ ≡ ok t σ
unfolding give if◌then◌otherwise◌
give_short t σ l = ap (λ (q : Bool). (if q then (λ u. ok t u) otherwise refuse 11) σ) (le-leb (length t) most_text_bytes l)

pub give_long : (t : Text) (σ : State) → most_text_bytes < length t → give t σ ≡ refused 11
unfolding give if◌then◌otherwise◌
give_long t σ l = ap (λ (q : Bool). (if q then (λ u. ok t u) otherwise refuse 11) σ) (lt-leb (length t) most_text_bytes l)

pub wrote_one : {s text text' : Text} {store ends : Halves} {from : ℕ} {p p' : Progress} {n : ℕ} {t : Text} {σ : State}
    → Holds s (mem text store ends) p σ → Puts text text' p p' t → length t ≡ n → length t ≤ most_text_bytes → from ≤ p.at
    → Refines kept_bytes p.depth s (window (mem text store ends) p) from (mem text' store ends) (read p' n) (give t σ)
wrote_one {s} {text} {text'} {store} {ends} {from} {p} {p'} {n} {t} {σ} h u e l m = answers (give_short t σ l) (record {
  holds = holds_puts u h;
  tail = put_tail t h.text (omega arith) u.put (whole kept_bytes (take p.top text));
  size = sym e;
  short = l;
  level = ap (λ (q : Progress). q.depth) u.same;
  more = omega (arith, ap (λ (q : Progress). q.at) u.same);
})
