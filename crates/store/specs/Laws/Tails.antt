-- Laws of what the stack keeps. Assumes nothing.
use Rattle.std.specs.Prelude.{◌≡◌, refl, ◌++◌, ℕ, ◌+◌, ◌-◌, ◌≤◌, length, take, drop}
use Rattle.std.proofs.Common.{sym, ap, ◌∙◌, append_assoc, arith, length-append, length-drop, drop-drop, take_at, drop_at, length-take-le, take-take}
use Rattle.std.proofs.lemmas.List.{drop-append-le}
use Rattle.grammar.specs.Text.{Text}
use Rattle.grammar.specs.Limits.{kept_bytes}
use Rattle.store.specs.Stack.{Stack, Tail, Put, Cut, lent}
use Rattle.store.specs.declared.stack.Stack.{Stack as Code}
use Rattle.store.specs.Laws.Lists.{drop_take}

-- what the struct of the code keeps
pub stack_of : (s : Code) → Stack s.bytes.now s.top
stack_of s = record { size = s.size; most = s.most }

pub whole : (k : ℕ) (w : Text) → Tail k w w
whole k w = record { lost = 0; most = omega arith; is = refl }

pub weaken : {j k : ℕ} {w full : Text} → j ≤ k → Tail k w full → Tail j w full
weaken l h = record { lost = h.lost; most = omega (arith, h.most); is = h.is }

pub size : {k : ℕ} {w full : Text} (h : Tail k w full) → length w ≡ length full - h.lost
size {k} {w} {full} h = ap length h.is ∙ length-drop h.lost full

-- a text put on a tail is put on the whole
pub chain : {k : ℕ} {w w' full : Text} (t : Text) → Tail k w full → Tail k w' (w ++ t) → Tail k w' (full ++ t)
chain {k} {w} {w'} {full} t h g =
    let s = size h in
    let m : g.lost ≤ length w + length t - k = simp length-append at g.most in
    let b : h.lost ≤ length full = omega (arith, h.most) in
    record {
      lost = h.lost + g.lost;
      most = simp length-append (omega (arith, h.most));
      is =
          g.is
          ∙ ap (λ (l : Text). drop g.lost (l ++ t)) h.is
          ∙ ap (drop g.lost) (sym (drop-append-le h.lost full t b))
          ∙ drop-drop g.lost h.lost (full ++ t);
    }

-- two texts, one after the other
pub both : {k : ℕ} {w₁ w₂ : Text} (w t u : Text) → Tail k w₁ (w ++ t) → Tail k w₂ (w₁ ++ u) → Tail k w₂ (w ++ (t ++ u))
both w t u g h = rw (← append_assoc) (chain u g h)

pub top_size : {text : Text} {top : ℕ} → Stack text top → length (take top text) ≡ top
top_size {text} {top} h = length-take-le top text (omega (arith, h.size, h.most))

-- what `put` leaves
pub put_tail : {k : ℕ} {text text' full : Text} {top top' : ℕ} (t : Text) → Stack text top → k ≤ kept_bytes → Put text text' top top' t
    → Tail k (take top text) full → Tail k (take top' text') (full ++ t)
put_tail {k} {text} {text'} {full} {top} t c l p h =
    let s = size h in
    let z = top_size c in
    let b : h.lost ≤ length full = omega (arith, h.most) in
    let d : h.lost + p.lost ≤ length full = omega (arith, p.most) in
    record {
      lost = h.lost + p.lost;
      most = simp length-append (omega (arith, h.most, p.most));
      is =
          p.is
          ∙ ap (λ (x : Text). drop p.lost x ++ t) h.is
          ∙ ap (λ (x : Text). x ++ t) (drop-drop p.lost h.lost full)
          ∙ sym (drop-append-le (h.lost + p.lost) full t d);
    }

-- the newest text, which is whole
pub newest_is : {k : ℕ} {w : Text} (a t : Text) → Tail k w (a ++ t) → length t ≤ k → (length t ≤ length w) × (drop (length w - length t) w ≡ t)
newest_is {k} {w} a t h l =
    let s : length w ≡ length a + length t - h.lost = size h ∙ ap (λ (n : ℕ). n - h.lost) (length-append a t) in
    let m : h.lost ≤ length a + length t - k = simp length-append at h.most in
    let b : h.lost ≤ length a = omega arith in
    (omega arith, ap (drop (length w - length t)) h.is ∙ drop-drop (length w - length t) h.lost (a ++ t) ∙ drop_at a t (h.lost + (length w - length t)) (omega arith))

pub newest_lent : {k : ℕ} {text : Text} {top n : ℕ} (a t : Text) → Stack text top → Tail k (take top text) (a ++ t) → n ≡ length t → length t ≤ k → (n ≤ top) × (lent text top n ≡ t)
newest_lent {k} {text} {top} {n} a t g h e l =
    let z : length (take top text) ≡ top = top_size g in
    let i = newest_is a t h l in
    (omega (arith, i.0), sym (drop_take (top - n) top text) ∙ ap (λ (j : ℕ). drop j (take top text)) {x = top - n} {y = length (take top text) - length t} (omega arith) ∙ i.1)

module _ {k : ℕ} {text text' : Text} {top top' : ℕ} (a b c : Text) (t : Tail k (take top text) (a ++ (b ++ c))) (l : Stack text top) where
  -- what `cut` leaves where no more than so much was lost
  cut_is : {j : ℕ} → t.lost ≤ length a → t.lost ≤ length a + length c - j → Cut text text' top top' (length b) (length c) → Tail j (take top' text') (a ++ c)
  cut_is m n h =
      let w : Text = take top text in
      let d : Text = drop t.lost a in
      let z = top_size l in
      let s : top + t.lost ≡ length a + (length b + length c) =
      omega (arith, size t, length-append a (b ++ c), length-append b c) in
      let e : length d ≡ length a - t.lost = length-drop t.lost a in
      let i : w ≡ d ++ (b ++ c) = t.is ∙ drop-append-le t.lost a (b ++ c) m in
      let x : take (top - (length b + length c)) text ≡ d =
      sym (take-take (top - (length b + length c)) top text (omega arith))
      ∙ ap (take (top - (length b + length c))) i
      ∙ take_at d (b ++ c) (top - (length b + length c)) (omega arith) in
      let y : drop (top - length c) w ≡ c =
      ap (drop (top - length c)) (i ∙ sym (append_assoc d b c)) ∙ drop_at (d ++ b) c (top - length c) (simp length-append (omega arith)) in
      record {
        lost = t.lost;
        most = simp length-append (omega arith);
        is = h.is ∙ rw (x, y) (sym (drop-append-le t.lost a c m));
      }

  -- a text dropped from below the newest
  pub dropped : {j : ℕ} → j + length b ≤ k → length b + length c ≤ k → Cut text text' top top' (length b) (length c) → Tail j (take top' text') (a ++ c)
  dropped m n h =
      let q : t.lost ≤ length a + (length b + length c) - k = simp length-append at t.most in
      cut_is (omega arith) (omega arith) h

-- a text that is put on the stack in place of one below it, which is no longer
pub replaced :
    {k : ℕ} {text text₁ text₂ : Text} {top top₁ top₂ : ℕ} (a b x r : Text) → Tail k (take top text) (a ++ (b ++ x)) → Stack text top →
    Put text text₁ top top₁ r → Cut text₁ text₂ top₁ top₂ (length b) (length (x ++ r)) →
    k ≤ kept_bytes → length b + length x ≤ k → length b ≤ length r → Tail k (take top₂ text₂) (a ++ (x ++ r))
replaced {k} {text} {text₁} {text₂} {top} {top₁} a b x r t l p h m n o =
    let s = size t in
    let z = top_size l in
    let w : length (a ++ (b ++ x)) ≡ length a + (length b + length x) = simp length-append in
    let q : t.lost ≤ length a + (length b + length x) - k = simp length-append at t.most in
    let d : t.lost + p.lost ≤ length (a ++ (b ++ x)) = omega (arith, p.most) in
    let u : Tail 0 (take top₁ text₁) (a ++ (b ++ (x ++ r))) = record {
      lost = t.lost + p.lost;
      most = simp length-append (omega (arith, p.most));
      is =
          p.is
          ∙ ap (λ (y : Text). drop p.lost y ++ r) t.is
          ∙ ap (λ (y : Text). y ++ r) (drop-drop p.lost t.lost (a ++ (b ++ x)))
          ∙ sym (drop-append-le (t.lost + p.lost) (a ++ (b ++ x)) r d)
          ∙ ap (drop (t.lost + p.lost)) (simp append_assoc);
    } in
    cut_is a b (x ++ r) u p.stack (omega (arith, p.most)) (simp length-append (omega (arith, p.most))) h
