-- A text on the stack: in another state, or with another text behind it. Assumes nothing.
use Rattle.std.specs.Prelude.{◌≡◌, ℕ, ◌+◌, ◌≤◌, min, Bool, [], ◌++◌, length, take, drop, refl}
use Rattle.std.proofs.Common.{append_assoc, append-nil, sym, ap, ◌∙◌, subst, arith, length-append}
use Rattle.grammar.specs.Text.{Text}
use Rattle.grammar.specs.Limits.{most_text_bytes, most_entry_bytes, most_length, kept_bytes}
use Rattle.grammar.specs.Reader.{State, give}
use Rattle.grammar.specs.Grammar as g
use Rattle.grammar.specs.Laws.Agree.{moved}
use Rattle.store.specs.Stack.{Stack, Tail}
use Rattle.store.specs.Laws.Tails.{whole, both, weaken, size, top_size}
use Rattle.parser.specs.Holds.{Halves, Memory, mem, window, Holds, Wrote, Stands, Refines, Puts, keep, given_of}
use Rattle.parser.specs.Laws.Holds.{by_state, with_templated, holds_moved, holds_templated, holds_puts, given_refines}
use Rattle.parser.specs.Laws.Adds.{puts_from}
use Rattle.parser.specs.Laws.Wraps.{stands_puts}
use Rattle.grammar.specs.States.{moved_to, templated_to, Progress, Read}
use Rattle.reader.specs.declared.lists.Parts.{Parts}
use Rattle.reader.specs.Lists.{Parted}

-- ---------------------------------------------------------------- another state

module _ {k d : ℕ} {s base : Text} {from to : ℕ} {m m' : Memory} {p p' : Progress} {σ σ' : State} where
  pub stands_kept : {n : ℕ} {t : Text} → Stands k d s base from m p n t σ → Holds s m' p' σ' → window m' p' ≡ window m p → p'.depth ≡ p.depth → to ≤ p'.at → Stands k d s base to m' p' n t σ'
  stands_kept {t = t} h g w e l = record {
    holds = g;
    tail = subst (λ (x : Text). Tail k x (base ++ t)) (sym w) h.tail;
    size = h.size;
    level = e ∙ h.level;
    more = l;
    least = h.least;
    most = h.most;
  }

  pub parted_kept : {q : Parts} {ps : g.Parts} → Parted k d s base from m p q ps σ → Holds s m' p' σ' → window m' p' ≡ window m p → p'.depth ≡ p.depth → to ≤ p'.at → Parted k d s base to m' p' q ps σ'
  parted_kept h g w e l = record {
    shown = h.shown;
    stands = stands_kept h.stands g w e l;
    alike = h.alike;
    final = h.final;
    within = h.within;
    count = h.count;
    structor = h.structor;
  }

pub stands_moved :
    {k d : ℕ} {s base : Text} {from : ℕ} {m : Memory} {p q : Progress} {n : ℕ} {t : Text} {τ : State} (at : ℕ) →
    q ≡ moved_to p at → Stands k d s base from m p n t τ → p.at ≤ at → at ≤ length s → Stands k d s base from m q n t (moved (drop at s) τ)
stands_moved {m = m} at e h l u =
    stands_kept h (by_state e (holds_moved h.holds at u)) (ap (window m) e) (ap (λ (x : Progress). x.depth) e) (omega (arith, l, h.more, ap (λ (x : Progress). x.at) e))

pub stands_templated :
    {k d : ℕ} {s base : Text} {from : ℕ} {m : Memory} {p q : Progress} {n : ℕ} {t : Text} {σ : State} (b : Bool) →
    Stands k d s base from m p n t σ → q ≡ templated_to p b → Stands k d s base from m q n t (with_templated b σ)
stands_templated {m = m} b h e =
    stands_kept h (by_state e (holds_templated h.holds b)) (ap (window m) e) (ap (λ (x : Progress). x.depth) e) (omega (arith, h.more, ap (λ (x : Progress). x.at) e))

pub stands_sized : {k d : ℕ} {s base : Text} {from : ℕ} {m : Memory} {p : Progress} {n : ℕ} {t u : Text} {σ : State} (j : ℕ) → Stands k d s base from m p n t σ → u ≡ t → j ≡ min (length u) most_length → Stands k d s base from m p j u σ
stands_sized {k} {base = base} {m = m} {p = p} j h e f = record {
  holds = h.holds;
  tail = subst (λ (x : Text). Tail k (window m p) (base ++ x)) (sym e) h.tail;
  size = f;
  level = h.level;
  more = h.more;
  least = h.least;
  most = h.most;
}

pub given_as : {k d : ℕ} {s base : Text} {from : ℕ} {m : Memory} {p : Progress} {n : ℕ} {t : Text} {σ : State} {r : Read} → r ≡ given_of p n → Stands k d s base from m p n t σ → Refines k d s base from m r (give t σ)
given_as {k} {d} {s} {base} {from} {m} {t = t} {σ = σ} e h = subst (λ (x : Read). Refines k d s base from m x (give t σ)) (sym e) (given_refines h)

-- ---------------------------------------------------------------- bytes kept

pub wrote_kept :
    {j k d d' : ℕ} {s base : Text} {from to : ℕ} {m m' : Memory} {p p' : Progress} {n : ℕ} {t : Text} {σ σ' : State} →
    Wrote k d s base from m p n t σ → j ≤ k → Holds s m' p' σ' → window m' p' ≡ window m p → p'.depth ≡ d' → to ≤ p'.at → Wrote j d' s base to m' p' n t σ'
wrote_kept {j} {base = base} {t = t} w l h e f i = record {
  holds = h;
  tail = subst (λ (x : Text). Tail j x (base ++ t)) (sym e) (weaken l w.tail);
  size = w.size;
  short = w.short;
  level = f;
  more = i;
}

-- fewer bytes promised
pub fewer : {j k d : ℕ} {s base : Text} {from : ℕ} {m : Memory} {p : Progress} {n : ℕ} {t : Text} {σ : State} → j ≤ k → Wrote k d s base from m p n t σ → Wrote j d s base from m p n t σ
fewer l w = wrote_kept w l w.holds refl w.level w.more

pub wrote_moved :
    {j k d : ℕ} {s base : Text} {from to : ℕ} {m : Memory} {p : Progress} {n : ℕ} {t : Text} {σ : State} (at : ℕ) →
    Wrote k d s base to m p n t σ → j ≤ k → from ≤ at → at ≤ length s → Wrote j d s base from m (moved_to p at) n t (moved (drop at s) σ)
wrote_moved at w l u v = wrote_kept w l (holds_moved w.holds at v) refl w.level u

pub stands_least : {k d : ℕ} {s base : Text} {from : ℕ} {m : Memory} {p : Progress} {n : ℕ} {t : Text} {σ : State} → Stands k d s base from m p n t σ → min n most_entry_bytes ≤ p.top
stands_least {base = base} {t = t} h = omega (arith, h.least, h.tail.most, size h.tail, top_size h.holds.text, length-append base t, h.size)

-- so many bytes are there after a text was read behind n bytes
pub wrote_least :
    {k d : ℕ} {s text : Text} {from top : ℕ} {m : Memory} {p : Progress} {j : ℕ} {t : Text} {σ : State} →
    Stack text top → Wrote k d s (take top text) from m p j t σ → most_entry_bytes ≤ k → (n : ℕ) → min n most_entry_bytes ≤ top → min (n + j) most_entry_bytes ≤ p.top
wrote_least {text = text} {top = top} {t = t} c w l n i = omega (arith, top_size c, top_size w.holds.text, size w.tail, w.tail.most, length-append (take top text) t, w.size)

pub stands_at :
    {k d : ℕ} {s base : Text} {from : ℕ} {m : Memory} {p : Progress} {n : ℕ} {t : Text} {σ : State} (j to : ℕ) →
    Wrote k d s base from m p n t σ → j ≤ k → to ≤ from → most_entry_bytes ≤ j → j ≤ kept_bytes → Stands j d s base to m p n t σ
stands_at j to w l i x y = record {
  holds = w.holds;
  tail = weaken l w.tail;
  size = omega (arith, w.size, w.short);
  level = w.level;
  more = omega (arith, w.more);
  least = x;
  most = y;
}

-- no text yet
pub stands_nothing : {k : ℕ} {s : Text} {m : Memory} {p : Progress} {σ : State} → Holds s m p σ → most_entry_bytes ≤ k → k ≤ kept_bytes → Stands k p.depth s (window m p) p.at m p 0 [] σ
stands_nothing {k} {m = m} {p = p} h l u = record {
  holds = h;
  tail = rw append-nil (whole k (window m p));
  size = omega arith;
  level = refl;
  more = omega arith;
  least = l;
  most = u;
}

-- ---------------------------------------------------------------- a text behind another

pub stands_joined :
    {k k' d : ℕ} {s base : Text} {from from' to : ℕ} {m m' : Memory} {p p' : Progress} {n n' : ℕ} {t u : Text} {σ σ' : State} →
    Stands k d s base from m p n t σ → Stands k' p.depth s (window m p) from' m' p' n' u σ' → k ≤ k' → to ≤ from' →
    Stands k d s base to m' p' (min (n + n') most_length) (t ++ u) σ'
stands_joined {base = base} {t = t} {u = u} h w l i = record {
  holds = w.holds;
  tail = both base t u h.tail (weaken l w.tail);
  size = omega (arith, h.size, w.size, length-append t u);
  level = w.level ∙ h.level;
  more = omega (arith, w.more, i);
  least = h.least;
  most = h.most;
}

-- a text behind one that was put
module _ {k d : ℕ} {s base : Text} {from from' to : ℕ} {text text' : Text} {store ends : Halves} {m : Memory} {p q r : Progress} {n j : ℕ} {t z x : Text} {σ τ : State} where
  pub stands_behind :
      {k' : ℕ} → Stands k d s base from (mem text store ends) p n t σ → Puts text text' p q z → Stands k' q.depth s (take q.top text') from' m r j x τ → k ≤ k' → to ≤ from' →
      Stands k d s base to m r (min (n + (length z + j)) most_length) (t ++ (z ++ x)) τ
  stands_behind h u w l i =
      stands_sized _ (stands_joined (stands_puts h u refl) w l i) (sym (append_assoc t z x)) (omega (arith, h.size, w.size, length-append t (z ++ x), length-append z x))

  pub wrote_behind :
      {k' : ℕ} → Stands k d s base from (mem text store ends) p n t σ → Puts text text' p q z → Wrote k' q.depth s (take q.top text') from' m r j x τ → k ≤ k' → to ≤ from' →
      Stands k d s base to m r (min (n + (length z + j)) most_length) (t ++ (z ++ x)) τ
  wrote_behind h u w l i = stands_behind h u (stands_at k from' w l (omega arith) h.least h.most) (omega arith) i

pub joined :
    {k k' d : ℕ} {s base : Text} {from from' : ℕ} {m m' : Memory} {p p' : Progress} {n n' : ℕ} {t u : Text} {σ σ' : State} →
    Stands k d s base from m p n t σ → Wrote k' p.depth s (window m p) from' m' p' n' u σ' → k ≤ k' → length t ≤ most_entry_bytes →
    Stands k d s base from' m' p' (n + n') (t ++ u) σ'
joined {k} {from' = from'} {n = n} {n' = n'} {t = t} {u = u} h w l i =
    stands_sized (n + n') (stands_joined h (stands_at k from' w l (omega arith) h.least h.most) (omega arith) (omega arith)) refl
    (omega (arith, h.size, w.size, w.short, length-append t u))

pub stands_both :
    {k k' d : ℕ} {s base : Text} {from from' : ℕ} {m m' : Memory} {p p' : Progress} {n n' : ℕ} {t t' : Text} {σ σ' : State} (j to : ℕ) →
    Wrote k d s base from m p n t σ → Wrote k' p.depth s (window m p) from' m' p' n' t' σ' →
    j ≤ k → j ≤ k' → to ≤ from' → most_entry_bytes ≤ j → j ≤ kept_bytes → Stands j d s base to m' p' (n + n') (t ++ t') σ'
stands_both {from = from} {n = n} {n' = n'} {t = t} {t' = t'} j to w v l l' i x y =
    stands_sized (n + n') (stands_joined (stands_at j from w l (omega arith) x y) (stands_at j to v l' i x y) (omega arith) (omega arith)) refl
    (omega (arith, w.size, w.short, v.size, v.short, length-append t t'))

-- ---------------------------------------------------------------- a word put in front

module _ {s text text' : Text} {store ends : Halves} {p a q : Progress} {at : ℕ} {word : Text} {σ : State} (e : a ≡ moved_to p at) (u : Puts text text' a q word) (h : Holds s (mem text store ends) p σ) (l : at ≤ length s) where
  pub word_holds : Holds s (mem text' store ends) q (moved (drop at s) σ)
  word_holds = holds_puts (puts_from e u) (holds_moved h at l)

  -- the word, and a text that was read behind it
  pub word_joined :
      {m : Memory} {r : Progress} {n j : ℕ} {x : Text} {σ' : State} → p.at ≤ at → length word ≤ most_text_bytes → n ≡ j + length word →
      Wrote (keep q.depth) q.depth s (window (mem text' store ends) q) (q.at + 1) m r j x σ' →
      Stands (keep p.depth) p.depth s (window (mem text store ends) p) (p.at + 1) m r n (word ++ x) σ'
  word_joined {x = x} i b z w =
      let v = puts_from e u in
      let d : q.depth ≡ p.depth = ap (λ (y : Progress). y.depth) v.same in
      let f : q.at ≡ at = ap (λ (y : Progress). y.at) v.same in
      let y = wrote_behind {to = p.at + 1} (stands_nothing {k = keep p.depth} (holds_moved h at l) (omega arith) (omega (arith, h.deep))) v w (omega arith) (omega arith) in
      stands_sized _ y refl (omega (arith, y.size, w.size, w.short))
