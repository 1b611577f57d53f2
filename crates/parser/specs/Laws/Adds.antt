-- Laws of Adds.antt. Assumes nothing.
use Rattle.std.specs.Prelude.{[], ◌++◌, ◌≡◌, refl, ℕ, ◌≤◌, min, length, take, drop}
use Rattle.std.proofs.Common.{append_assoc, append-nil, ap, ◌∙◌, subst, arith}
use Rattle.grammar.specs.Text.{Text}
use Rattle.grammar.specs.Limits.{most_length, kept_bytes}
use Rattle.grammar.specs.Reader.{State, Reader}
use Rattle.grammar.specs.Laws.Agree.{moved}
use Rattle.store.specs.Stack.{Stack}
use Rattle.store.specs.Laws.Tails.{put_tail, chain, whole, weaken}
use Rattle.grammar.specs.States.{Progress, Read, raised_to, moved_to}
use Rattle.parser.specs.Holds.{Halves, Memory, mem, window, Holds, Reads, Refines, Stands, Puts}
use Rattle.parser.specs.Laws.Holds.{by_state, holds_text, holds_moved, sooner}
use Rattle.parser.specs.Adds.{Adds}

pub adds_none : {text : Text} {p : Progress} → Stack text p.top → Adds text text p p []
adds_none {text} {p} c = record { same = refl; stack = c; tail = rw append-nil (whole kept_bytes (take p.top text)) }

pub adds_more : {text text' text'' : Text} {p p' p'' : Progress} {t u : Text} → Adds text text' p p' t → Puts text' text'' p' p'' u → Adds text text'' p p'' (t ++ u)
adds_more {p'' = p''} {t = t} {u = u} a h = record {
  same = h.same ∙ ap (λ (q : Progress). raised_to q p''.top) a.same;
  stack = h.put.stack;
  tail = rw (← append_assoc) (put_tail u a.stack (omega arith) h.put a.tail);
}

pub adds_adds : {text text' text'' : Text} {p p' p'' : Progress} {t u : Text} → Adds text text' p p' t → Adds text' text'' p' p'' u → Adds text text'' p p'' (t ++ u)
adds_adds {p'' = p''} {t = t} {u = u} a b = record {
  same = b.same ∙ ap (λ (q : Progress). raised_to q p''.top) a.same;
  stack = b.stack;
  tail = rw (← append_assoc) (chain u a.tail b.tail);
}

-- the same from another place
pub adds_moved : {text text' : Text} {p p' : Progress} {t : Text} (at : ℕ) → Adds text text' p p' t → Adds text text' (moved_to p at) (moved_to p' at) t
adds_moved at a = record { same = ap (λ (q : Progress). moved_to q at) a.same; stack = a.stack; tail = a.tail }

-- a text put by a state that a method handed back
pub puts_from : {text text' : Text} {p q r : Progress} {t : Text} → q ≡ p → Puts text text' q r t → Puts text text' p r t
puts_from {text} {text'} {p} {q} {r} {t} e h = subst (λ (x : Progress). Puts text text' x r t) e h

module _ {s text text' : Text} {store ends : Halves} {p p' : Progress} {t : Text} {σ : State} (a : Adds text text' p p' t) (h : Holds s (mem text store ends) p σ) where
  pub holds_adds : Holds s (mem text' store ends) p' σ
  holds_adds = by_state a.same (holds_text h p'.top a.stack)

  pub stands_adds : {n from : ℕ} → n ≡ min (length t) most_length → from ≤ p.at → Stands kept_bytes p.depth s (take p.top text) from (mem text' store ends) p' n t σ
  stands_adds e l = record {
    holds = holds_adds;
    tail = a.tail;
    size = e;
    level = ap (λ (q : Progress). q.depth) a.same;
    more = omega (arith, l, ap (λ (q : Progress). q.at) a.same);
    least = omega arith;
    most = omega arith;
  }

-- behind a text that stands on the stack
pub stands_more :
    {k d : ℕ} {s base : Text} {from : ℕ} {text text' : Text} {store ends : Halves} {p p' : Progress} {n : ℕ} {t u : Text} {σ : State} →
    Adds text text' p p' u → Stands k d s base from (mem text store ends) p n t σ →
    Stands k d s base from (mem text' store ends) p' (min (length (t ++ u)) most_length) (t ++ u) σ
stands_more {t = t} {u = u} a h = record {
  holds = by_state a.same (holds_text h.holds _ a.stack);
  tail = rw (← append_assoc) (chain u h.tail (weaken h.most a.tail));
  size = refl;
  level = ap (λ (q : Progress). q.depth) a.same ∙ h.level;
  more = omega (arith, ap (λ (q : Progress). q.at) a.same, h.more);
  least = h.least;
  most = h.most;
}

-- a reading of the code from another place, seen from where the state came from
pub reads_moved :
    {f : Reader Text} {k at from : ℕ} {s : Text} {m m' : Memory} {p q : Progress} {r : Read} {σ : State} →
    q ≡ moved_to p at → Reads f k q.at s m m' q r → Holds s m p σ → at ≤ length s → from ≤ at →
    Refines k p.depth s (window m p) from m' r (f (moved (drop at s) σ))
reads_moved {f = f} {k = k} {at = at} {s = s} {m = m} {m' = m'} {p = p} {q = q} {r = r} {σ = σ} e h g l u =
    sooner u (subst (λ (x : Progress). Reads f k x.at s m m' x r) e h (moved (drop at s) σ) (holds_moved g at l))
