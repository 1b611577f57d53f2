-- Laws of what the state holds, and of answers. Assumes nothing.
use Rattle.std.proofs.Math.Bool.{Bool}
use Rattle.std.specs.Prelude.{true, false, ◌++◌, ◌≡◌, ℕ, ◌+◌, ◌≤◌, ◌<◌, leb, length, take, drop}
use Rattle.std.proofs.Common.{append_assoc, sym, ap, subst, arith, le-leb, leb-true, leb-false}
use Rattle.std.proofs.Math.Path.{refl}
use Rattle.std.proofs.lemmas.Bool.{lt-leb}
use Rattle.grammar.specs.Text.{Text, if◌then◌otherwise◌, each}
use Rattle.grammar.specs.Limits.{most_open, most_text_bytes, most_entry_bytes, kept_bytes}
use Rattle.grammar.specs.Reader.{State, Result, ok, refused, Reader, onto, give}
use Rattle.grammar.specs.Grammar.{qualifier}
use Rattle.grammar.specs.Laws.Agree.{moved}
use Rattle.store.specs.Stack.{Stack, Tail, Put, Cut}
use Rattle.store.specs.Laws.Tails.{put_tail, weaken}
use Rattle.grammar.specs.States.{Progress, Read, read, Refused, moved_to, raised_to, deeper, at_depth, cv_to, templated_to}
use Rattle.parser.specs.Holds.{Halves, Memory, mem, part, Holds, Wrote, Stands, Refines, reads, refuses, Puts, Cuts, given_of}
use Rattle.grammar.specs.declared.refusal.Refusal.{Refusal}
use Rattle.grammar.specs.declared.refusal.Refusal.TheVariants.{LongText}

-- ---------------------------------------------------------------- states

-- the grammar's state with another field
abbrev pub at_level : ℕ → State → State
at_level n σ = record { rest = σ.rest; subs = σ.subs; args = σ.args; depth = n; cv = σ.cv; templated = σ.templated }

abbrev pub with_cv : Text → State → State
with_cv t σ = record { rest = σ.rest; subs = σ.subs; args = σ.args; depth = σ.depth; cv = t; templated = σ.templated }

abbrev pub with_templated : Bool → State → State
with_templated q σ = record { rest = σ.rest; subs = σ.subs; args = σ.args; depth = σ.depth; cv = σ.cv; templated = q }

-- what a method hands back holds what its equation says
pub by_state : {s : Text} {m : Memory} {p q : Progress} {σ : State} → q ≡ p → Holds s m p σ → Holds s m q σ
by_state {s} {m} {p} {q} {σ} e h = subst (λ (r : Progress). Holds s m r σ) (sym e) h

module _ {s : Text} {m : Memory} {p : Progress} {σ : State} (h : Holds s m p σ) where
  pub holds_moved : (at : ℕ) → at ≤ length s → Holds s m (moved_to p at) (moved (drop at s) σ)
  holds_moved at l = record {
    source = h.source;
    place = l;
    rest = refl;
    depth = h.depth;
    deep = h.deep;
    text = h.text;
    subs = h.subs;
    args = h.args;
    cv = h.cv;
    cv_within = h.cv_within;
    templated = h.templated;
  }

  pub holds_depth : (d : ℕ) → d ≤ most_open → Holds s m (at_depth p d) (at_level d σ)
  holds_depth d l = record {
    source = h.source;
    place = h.place;
    rest = h.rest;
    depth = refl;
    deep = l;
    text = h.text;
    subs = h.subs;
    args = h.args;
    cv = h.cv;
    cv_within = h.cv_within;
    templated = h.templated;
  }

  pub holds_entered : p.depth < most_open → Holds s m (deeper p) (at_level (σ.depth + 1) σ)
  holds_entered l = record {
    source = h.source;
    place = h.place;
    rest = h.rest;
    depth = ap (λ (n : ℕ). n + 1) h.depth;
    deep = omega arith;
    text = h.text;
    subs = h.subs;
    args = h.args;
    cv = h.cv;
    cv_within = h.cv_within;
    templated = h.templated;
  }

  pub holds_templated : (q : Bool) → Holds s m (templated_to p q) (with_templated q σ)
  holds_templated q = record {
    source = h.source;
    place = h.place;
    rest = h.rest;
    depth = h.depth;
    deep = h.deep;
    text = h.text;
    subs = h.subs;
    args = h.args;
    cv = h.cv;
    cv_within = h.cv_within;
    templated = refl;
  }

  pub holds_cv : (from to : ℕ) → from ≤ to → to ≤ length s → Holds s m (cv_to p from to) (with_cv (each qualifier (part s from to)) σ)
  holds_cv from to l k = record {
    source = h.source;
    place = h.place;
    rest = h.rest;
    depth = h.depth;
    deep = h.deep;
    text = h.text;
    subs = h.subs;
    args = h.args;
    cv = refl;
    cv_within = (l, k);
    templated = h.templated;
  }

-- another text on the stack
pub holds_text : {s text text' : Text} {store ends : Halves} {p : Progress} {σ : State} → Holds s (mem text store ends) p σ → (top : ℕ) → Stack text' top → Holds s (mem text' store ends) (raised_to p top) σ
holds_text h top c = record {
  source = h.source;
  place = h.place;
  rest = h.rest;
  depth = h.depth;
  deep = h.deep;
  text = c;
  subs = h.subs;
  args = h.args;
  cv = h.cv;
  cv_within = h.cv_within;
  templated = h.templated;
}

-- the state with the top that `put`, or `cut`, hands back
pub puts_by : {text text' : Text} {p r : Progress} {top : ℕ} {t : Text} → r ≡ raised_to p top → Put text text' p.top top t → Puts text text' p r t
puts_by {text} {text'} {p} {r} {top} {t} e h = subst (λ (q : Progress). Puts text text' p q t) (sym e) (record { same = refl; put = h })

pub cuts_by : {text text' : Text} {p r : Progress} {top k n : ℕ} → r ≡ raised_to p top → Cut text text' p.top top k n → Cuts text text' p r k n
cuts_by {text} {text'} {p} {r} {top} {k} {n} e h = subst (λ (q : Progress). Cuts text text' p q k n) (sym e) (record { same = refl; cut = h })

module _ {s text text' : Text} {store ends : Halves} {p p' : Progress} {t : Text} (u : Puts text text' p p' t) where
  pub holds_puts : {σ : State} → Holds s (mem text store ends) p σ → Holds s (mem text' store ends) p' σ
  holds_puts h = by_state u.same (holds_text h p'.top u.put.stack)

  pub tail_puts : {k : ℕ} {σ : State} (base a : Text) → Holds s (mem text store ends) p σ → k ≤ kept_bytes → Tail k (take p.top text) (base ++ a) → Tail k (take p'.top text') (base ++ (a ++ t))
  tail_puts base a h l w = rw (← append_assoc) (put_tail t h.text l u.put w)

-- ---------------------------------------------------------------- answers

module _ {k d : ℕ} {s base : Text} {from : ℕ} {m : Memory} where
  -- the definition's side, by an equation
  pub by : {r : Read} {f g : Result Text} → f ≡ g → Refines k d s base from m r g → Refines k d s base from m r f
  by {r} e h = subst (λ (x : Result Text). Refines k d s base from m r x) (sym e) h

  pub answers : {p : Progress} {n : ℕ} {t : Text} {σ : State} {f : Result Text} → f ≡ ok t σ → Wrote k d s base from m p n t σ → Refines k d s base from m (read p n) f
  answers e w = by e (reads w)

-- what an answer with a text says
pub record Got (k d : ℕ) (s base : Text) (from : ℕ) (m : Memory) (p : Progress) (n : ℕ) (f : Result Text) : Type 0 where
  pub said : Text
  pub state : State
  pub wrote : Wrote k d s base from m p n said state
  pub is : f ≡ ok said state

pub got : {k d : ℕ} {s base : Text} {from : ℕ} {m : Memory} {r : Read} {f : Result Text} {p : Progress} {n : ℕ} → r ≡ read p n → Refines k d s base from m r f → Got k d s base from m p n f
got {k} {d} {s} {base} {from} {m} {r} {f} {p} {n} e h = told (subst (λ (x : Read). Refines k d s base from m x f) e h)
  where
    told : {f : Result Text} → Refines k d s base from m (read p n) f → Got k d s base from m p n f
    told (reads {t = t} {σ = σ} w) = record { said = t; state = σ; wrote = w; is = refl }

-- an answer without one is the whole answer
pub refused_on : {k d k' d' : ℕ} {s base s' base' : Text} {from from' : ℕ} {m m' : Memory} {r : Read} {f : Result Text} {j : Refusal} (g : Text → Reader Text) → r ≡ Refused j → Refines k d s base from m r f → Refines k' d' s' base' from' m' r (onto g f)
unfolding onto
refused_on {k} {d} {k'} {d'} {s} {base} {s'} {base'} {from} {from'} {m} {m'} {r} {f} {j} g e h =
    subst (λ (x : Read). Refines k' d' s' base' from' m' x (onto g f)) (sym e) (told (subst (λ (x : Read). Refines k d s base from m x f) e h))
  where
    told : {f : Result Text} → Refines k d s base from m (Refused j) f → Refines k' d' s' base' from' m' (Refused j) (onto g f)
    told refuses = refuses

-- ---------------------------------------------------------------- texts returned

module _ {k d : ℕ} {s base : Text} {from : ℕ} {m : Memory} {p : Progress} {n : ℕ} {t : Text} {σ : State} where
  pub stands : Wrote k d s base from m p n t σ → most_entry_bytes ≤ k → k ≤ kept_bytes → Stands k d s base from m p n t σ
  stands w l u = record {
    holds = w.holds;
    tail = w.tail;
    size = omega (arith, w.size, w.short);
    level = w.level;
    more = w.more;
    least = l;
    most = u;
  }

  pub short_enough : Stands k d s base from m p n t σ → length t ≤ most_text_bytes → Wrote k d s base from m p n t σ
  short_enough h l = record {
    holds = h.holds;
    tail = h.tail;
    size = omega (arith, h.size);
    short = l;
    level = h.level;
    more = h.more;
  }

  pub given_refines : Stands k d s base from m p n t σ → Refines k d s base from m (given_of p n) (give t σ)
  unfolding given_of give if◌then◌otherwise◌
  given_refines h = go (leb n most_text_bytes) refl
    where
      given : Bool → Read
      given q = if q then read p n otherwise Refused LongText

      told : Bool → State → Result Text
      told q = if q then (λ u. ok t u) otherwise (λ u. refused 11)

      go : (q : Bool) → leb n most_text_bytes ≡ q → Refines k d s base from m (given q) (told (leb (length t) most_text_bytes) σ)
      go true e =
          let l : length t ≤ most_text_bytes = omega (arith, leb-true n most_text_bytes e, h.size) in
          by (ap (λ (q : Bool). told q σ) (le-leb (length t) most_text_bytes l)) (reads (short_enough h l))
      go false e =
          let l : most_text_bytes < length t = omega (arith, leb-false n most_text_bytes e, h.size) in
          by (ap (λ (q : Bool). told q σ) (lt-leb (length t) most_text_bytes l)) refuses

-- ---------------------------------------------------------------- fewer bytes promised

pub less : {j k d : ℕ} {s base : Text} {from : ℕ} {m : Memory} {r : Read} {f : Result Text} → j ≤ k → Refines k d s base from m r f → Refines j d s base from m r f
less l (reads w) = reads (record {
  holds = w.holds;
  tail = weaken l w.tail;
  size = w.size;
  short = w.short;
  level = w.level;
  more = w.more;
})
less l refuses = refuses

-- an answer seen from an earlier place
pub sooner : {k d : ℕ} {s base : Text} {from to : ℕ} {m : Memory} {r : Read} {f : Result Text} → from ≤ to → Refines k d s base to m r f → Refines k d s base from m r f
sooner l (reads w) = reads (record {
  holds = w.holds;
  tail = w.tail;
  size = w.size;
  short = w.short;
  level = w.level;
  more = omega (arith, w.more);
})
sooner l refuses = refuses
