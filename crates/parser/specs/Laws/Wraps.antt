-- Laws of texts that take the place of others on the stack, of slots, and of words told. Assumes nothing.
use Rattle.std.specs.Prelude.{Option as Returned, Some, None, IfSome, Ok, Err, ok_or, Bool, true, false, ◌||◌, ◌≡◌, [], ◌∷◌, ◌++◌, ℕ, ◌+◌, ◌-◌, ◌*◌, ◌≤◌, min, eqb, length, take, drop}
use Rattle.std.proofs.Math.Path.{refl, ap, subst}
use Rattle.std.proofs.Common.{sym, ap₂, ◌∙◌, append_assoc, append-nil, arith, eq-eqb, ne_eqb, eqb-true, length-append, length-drop, take-take, take_at, drop_at, drop-drop}
use Rattle.std.specs.Borrow.{Bor}
use Rattle.std.proofs.Math.Option.{Option, none, some}
use Rattle.std.proofs.lemmas.Bool.{eqb-false}
use Rattle.std.proofs.lemmas.List.{drop-append-le}
use Rattle.grammar.specs.Text.{Text, if◌then◌otherwise◌, choose, holds}
use Rattle.grammar.specs.Words.{word_of, longest_word}
use Rattle.grammar.specs.declared.refusal.Refusal.{Refusal}
use Rattle.grammar.specs.Reader.{State}
use Rattle.grammar.specs.Grammar.{at_slots}
use Rattle.grammar.specs.Limits.{most_entry_bytes, most_length, kept_bytes}
use Rattle.store.specs.Stack.{Stack, Tail, Put, Cut, slots_in, newest, below_newest}
use Rattle.store.specs.Laws.Lists.{part_of}
use Rattle.store.specs.Laws.Slots.{length_at_slots}
use Rattle.store.specs.Laws.Tails.{size, top_size, newest_is, replaced, weaken}
use Rattle.grammar.specs.States.{Progress}
use Rattle.parser.specs.Holds.{Halves, Memory, mem, Holds, Stands, Puts, Cuts}
use Rattle.parser.specs.Laws.Holds.{by_state, holds_text, holds_puts, tail_puts}
use Rattle.parser.specs.Laws.Halves.{newest_part}

-- ---------------------------------------------------------------- states

pub holds_cuts : {s text text' : Text} {store ends : Halves} {p p' : Progress} {k n : ℕ} {σ : State} → Cuts text text' p p' k n → Holds s (mem text store ends) p σ → Holds s (mem text' store ends) p' σ
holds_cuts {p' = p'} u h = by_state u.same (holds_text h p'.top u.cut.stack)

-- so many bytes are there after a text was put
pub puts_least : {text text' : Text} {p p' : Progress} {t : Text} → Stack text p.top → Puts text text' p p' t → min p.top kept_bytes + length t ≤ p'.top
puts_least {text} {text'} {p} {p'} {t} c u =
    let e = ap length u.put.is in
    let x = length-append (drop u.put.lost (take p.top text)) t in
    let y = length-drop u.put.lost (take p.top text) in
    omega (arith, top_size c, top_size u.put.stack, u.put.most)

pub puts_top : {text text' : Text} {p p' : Progress} {t : Text} (n : ℕ) → Stack text p.top → Puts text text' p p' t → n ≤ p.top → n ≤ kept_bytes → n + length t ≤ p'.top
puts_top n c u l m = omega (arith, puts_least c u)

-- ---------------------------------------------------------------- a text more on the stack, and one in place of another

module _ {k d : ℕ} {s base : Text} {from : ℕ} {text text₁ : Text} {store ends : Halves} {p p₁ : Progress} {n : ℕ} {t : Text} {σ : State} (h : Stands k d s base from (mem text store ends) p n t σ) where
  pub stands_puts : {r : Text} {n₁ : ℕ} → Puts text text₁ p p₁ r → n₁ ≡ min (length (t ++ r)) most_length → Stands k d s base from (mem text₁ store ends) p₁ n₁ (t ++ r) σ
  stands_puts u e = record {
    holds = holds_puts u h.holds;
    tail = tail_puts u base t h.holds h.most h.tail;
    size = e;
    level = ap (λ (q : Progress). q.depth) u.same ∙ h.level;
    more = omega (arith, ap (λ (q : Progress). q.at) u.same, h.more);
    least = h.least;
    most = h.most;
  }

  pub stands_replaced : {text₂ : Text} {p₂ : Progress} {r : Text} {n₁ : ℕ} → Puts text text₁ p p₁ r → Cuts text₁ text₂ p₁ p₂ n n₁
      → length t ≡ n → length r ≡ n₁ → n ≤ n₁ → n ≤ most_entry_bytes → n₁ ≤ most_length → Stands k d s base from (mem text₂ store ends) p₂ n₁ r σ
  stands_replaced {text₂} {p₂} {r} {n₁} u v e f i j l =
      let w : Tail k (take p.top text) (base ++ (t ++ [])) = rw append-nil h.tail in
      let x : Cut text₁ text₂ p₁.top p₂.top (length t) (length r) = rw (e, f) v.cut in
      record {
        holds = holds_cuts v (holds_puts u h.holds);
        tail = replaced base t [] r w h.holds.text u.put x h.most (omega (arith, h.least)) (omega arith);
        size = omega arith;
        level = ap (λ (q : Progress). q.depth) v.same ∙ ap (λ (q : Progress). q.depth) u.same ∙ h.level;
        more = omega (arith, ap (λ (q : Progress). q.at) v.same, ap (λ (q : Progress). q.at) u.same, h.more);
        least = h.least;
        most = h.most;
      }

-- the newest bytes, as the stack's functions take them
pub newest_text :
    {k d : ℕ} {s base : Text} {from : ℕ} {m : Memory} {p : Progress} {n : ℕ} {t : Text} {σ : State} →
    Stands k d s base from m p n t σ → length t ≤ most_entry_bytes → newest m.text p.top n ≡ t
newest_text {base = base} {m = m} {p = p} {n = n} {t = t} h l =
    let z : length (take p.top m.text) ≡ p.top = top_size h.holds.text in
    ap (λ (j : ℕ). drop j (take p.top m.text)) {x = p.top - n} {y = length (take p.top m.text) - length t} (omega (arith, h.size)) ∙ (newest_is base t h.tail (omega (arith, h.least))).1

pub newest_size : {text : Text} {top : ℕ} (n : ℕ) → Stack text top → n ≤ top → length (newest text top n) ≡ n
newest_size {text} {top} n h l = omega (arith, length-drop (top - n) (take top text), top_size h)

-- the newest text's front and end
pub below_text :
    {k d : ℕ} {s base : Text} {from : ℕ} {m : Memory} {p : Progress} {n : ℕ} (x y : Text) {σ : State} →
    Stands k d s base from m p n (x ++ y) σ → length (x ++ y) ≤ most_entry_bytes → below_newest m.text p.top (length y) (length x) ≡ x
below_text {m = m} {p = p} {n = n} x y h l =
    let e : n ≡ length x + length y = omega (arith, h.size, length-append x y) in
    let i : n ≤ p.top = omega (arith, (newest_part h l).0) in
    let a : ℕ = p.top - (length x + length y) in
    part_of a (length x) p.top m.text (take p.top m.text) (omega arith) (sym (take-take p.top p.top m.text (omega arith)))
    ∙ ap (λ (j : ℕ). take (length x) (drop j (take p.top m.text))) {x = a} {y = p.top - n} (omega arith)
    ∙ ap (take (length x)) (newest_text h l)
    ∙ take_at x y (length x) refl

pub end_text :
    {k d : ℕ} {s base : Text} {from : ℕ} {m : Memory} {p : Progress} {n : ℕ} (x y : Text) {σ : State} →
    Stands k d s base from m p n (x ++ y) σ → length (x ++ y) ≤ most_entry_bytes → newest m.text p.top (length y) ≡ y
end_text {m = m} {p = p} {n = n} x y h l =
    let e : n ≡ length x + length y = omega (arith, h.size, length-append x y) in
    let i : n ≤ p.top = omega (arith, (newest_part h l).0) in
    ap (λ (j : ℕ). drop j (take p.top m.text)) {x = p.top - length y} {y = p.top - n + length x} (omega arith)
    ∙ sym (drop-drop (length x) (p.top - n) (take p.top m.text))
    ∙ ap (drop (length x)) (newest_text h l)
    ∙ drop_at x y (length x) refl

-- a text that is put on the stack is kept besides what was kept
put_tail_more :
    {k : ℕ} {text text' full : Text} {top top' : ℕ} (t : Text) → Stack text top → k ≤ kept_bytes → Put text text' top top' t
    → Tail k (take top text) full → Tail (k + length t) (take top' text') (full ++ t)
put_tail_more {k} {text} {text'} {full} {top} t c l p h =
    let s = size h in
    let z = top_size c in
    let d : h.lost + p.lost ≤ length full = omega (arith, p.most, h.most) in
    record {
      lost = h.lost + p.lost;
      most = simp length-append (omega (arith, h.most, p.most));
      is =
          p.is
          ∙ ap (λ (x : Text). drop p.lost x ++ t) h.is
          ∙ ap (λ (x : Text). x ++ t) (drop-drop p.lost h.lost full)
          ∙ sym (drop-append-le (h.lost + p.lost) full t d);
    }

-- the front of the newest text once more behind it and w, and away from where it was
module _ {k d : ℕ} {s base : Text} {from : ℕ} {text text₁ : Text} {store ends : Halves} {p p₁ : Progress} {n c m : ℕ} (x y w : Text) {σ : State} (h : Stands k d s base from (mem text store ends) p n (x ++ y) σ)
    (e : length x ≡ c) (f : length y ≡ m) (g : length w ≡ 1) (i : c + m ≤ most_entry_bytes) (u : Puts text text₁ p p₁ w) where
  spaced : Tail (k + 1) (take p₁.top text₁) (base ++ (x ++ (y ++ w)))
  spaced = rw g at (simp append_assoc at (put_tail_more w h.holds.text h.most u.put h.tail))

  long : length (x ++ (y ++ w)) ≡ c + m + 1
  long = simp length-append (omega arith)

  front : take c (drop (p₁.top - (c + m + 1)) text₁) ≡ x
  front =
      let z : length (take p₁.top text₁) ≡ p₁.top = top_size u.put.stack in
      let q = newest_is base (x ++ (y ++ w)) spaced (omega (arith, long, h.least)) in
      part_of (p₁.top - (c + m + 1)) c p₁.top text₁ (take p₁.top text₁) (omega (arith, q.0, long)) (sym (take-take p₁.top p₁.top text₁ (omega arith)))
      ∙ ap (λ (j : ℕ). take c (drop j (take p₁.top text₁))) {x = p₁.top - (c + m + 1)} {y = length (take p₁.top text₁) - length (x ++ (y ++ w))} (omega (arith, long))
      ∙ ap (take c) q.1
      ∙ take_at x (y ++ w) c e

  pub stands_turned : {text₂ text₃ : Text} {p₂ p₃ : Progress} → Puts text₁ text₂ p₁ p₂ (take c (drop (p₁.top - (c + m + 1)) text₁)) → Cuts text₂ text₃ p₂ p₃ c (m + 1 + c) → Stands k d s base from (mem text₃ store ends) p₃ (m + 1 + c) (y ++ w ++ x) σ
  stands_turned {text₂} {text₃} {p₂} {p₃} v o =
      let a : Puts text₁ text₂ p₁ p₂ x = rw front at v in
      let z : length (y ++ w ++ x) ≡ m + 1 + c = simp length-append (omega arith) in
      let r : Cut text₂ text₃ p₂.top p₃.top (length x) (length (y ++ w ++ x)) = rw (e, z) o.cut in
      let j : ℕ = min (k + 1) kept_bytes in
      record {
        holds = holds_cuts o (holds_puts a (holds_puts u h.holds));
        tail =
            weaken {j = k} {k = j} (omega (arith, h.most))
            (replaced base x (y ++ w) x (weaken {j = j} {k = k + 1} (omega arith) spaced) u.put.stack a.put r (omega arith) (simp length-append (omega (arith, h.least))) (omega arith));
        size = omega arith;
        level = ap (λ (q : Progress). q.depth) o.same ∙ ap (λ (q : Progress). q.depth) a.same ∙ ap (λ (q : Progress). q.depth) u.same ∙ h.level;
        more = omega (arith, ap (λ (q : Progress). q.at) o.same, ap (λ (q : Progress). q.at) a.same, ap (λ (q : Progress). q.at) u.same, h.more);
        least = h.least;
        most = h.most;
      }

-- ---------------------------------------------------------------- slots

abbrev tally : Bool → ℕ → ℕ
tally q n = (if q then 1 otherwise 0) + n

tally_no : (q : Bool) (n : ℕ) → tally q n ≡ 0 → (q ≡ false) × (n ≡ 0)
unfolding if◌then◌otherwise◌
tally_no true n e = absurd (omega arith)
tally_no false n e = (refl, omega arith)

no_slot : (t : Text) → slots_in t ≡ 0 → holds 1 t ≡ false
unfolding slots_in holds
no_slot [] e = refl
no_slot (x ∷ t) e =
    let (f, g) = tally_no (eqb x 1) (slots_in t) e in
    ap₂ (λ (q r : Bool). q || r) (ne_eqb 1 x (λ z. eqb-false x 1 f (sym z))) (no_slot t g)

some_slot : (t : Text) → (slots_in t ≡ 0 → ⊥) → holds 1 t ≡ true
unfolding slots_in holds if◌then◌otherwise◌
some_slot [] n = absurd (n refl)
some_slot (x ∷ t) n = go (eqb x 1) refl (some_slot t)
  where
    go : (q : Bool) → eqb x 1 ≡ q → ((slots_in t ≡ 0 → ⊥) → holds 1 t ≡ true) → (eqb 1 x || holds 1 t) ≡ true
    go true e f = ap (λ (r : Bool). r || holds 1 t) (eq-eqb 1 x (sym (eqb-true x 1 e)))
    go false e f =
        ap₂ (λ (r v : Bool). r || v) (ne_eqb 1 x (λ z. eqb-false x 1 e (sym z))) (f (λ z. n (ap (λ (q : Bool). tally q (slots_in t)) e ∙ omega (arith, z))))

module _ (t x y : Text) where
  pub behind : slots_in t ≡ 0 → (if holds 1 t then x otherwise y) ≡ y
  unfolding if◌then◌otherwise◌
  behind e = ap (λ (q : Bool). if q then x otherwise y) (no_slot t e)

  pub inside : (slots_in t ≡ 0 → ⊥) → (if holds 1 t then x otherwise y) ≡ x
  unfolding if◌then◌otherwise◌
  inside e = ap (λ (q : Bool). if q then x otherwise y) (some_slot t e)

pub woven_size : (w t : Text) {n slots each : ℕ} → length t ≡ n → slots_in t ≡ slots → length w ≡ each → length (at_slots w t) ≡ n + slots * each
woven_size w t {n} e f g = length_at_slots w t ∙ ap (λ (i : ℕ). i + slots_in t * length w) e ∙ ap₂ (λ (i j : ℕ). n + i * j) f g

-- ---------------------------------------------------------------- words told

pub some_is : {x y : Text} → some x ≡ some y → x ≡ y
unfolding choose
some_is e = ap (λ (o : Option Text). choose o (λ z. z) []) e

pub some_not : {A : Type 0} {x : A} → some x ≡ none → ⊥
unfolding choose
some_not {A} e = absurd (omega (arith, ap {B = ℕ} (λ (o : Option A). choose o (λ _. 1) 0) e))

-- the word that `ok_or` hands on, and what it makes of none
module _ {f : Option Text} where
  pub spelled_some : {w : Bor Text} (o : Returned (Bor Text)) (e : Refusal) → Ok w ≡ ok_or o e → (word_of o ≡ f) × IfSome o (λ v. length v.now ≤ longest_word)
      → (f ≡ some w.now) × (length w.now ≤ longest_word)
  spelled_some {w} (Some v) e i (j, l) =
      let h : v ≡ w = cc in
      (sym j ∙ ap (λ (x : Bor Text). some x.now) h, subst (λ (x : Bor Text). length x.now ≤ longest_word) h l)
  spelled_some None e i j = let z : ◌≡◌ {A = ℕ} 0 1 = cc in absurd (omega arith)

  pub spelled_none : {r e : Refusal} (o : Returned (Bor Text)) → Err r ≡ ok_or o e → (word_of o ≡ f) × IfSome o (λ v. length v.now ≤ longest_word) → (f ≡ none) × (r ≡ e)
  spelled_none (Some v) i j = let z : ◌≡◌ {A = ℕ} 0 1 = cc in absurd (omega arith)
  spelled_none None i (j, l) = (sym j, cc)
