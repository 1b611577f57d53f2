-- Laws of Printed.antt. Assumes nothing.
use Rattle.std.specs.Prelude.{Bool, [], ◌∷◌, ◌++◌, ◌≡◌, ℕ, suc, ◌+◌, ◌-◌, ◌≤◌, ◌<◌, drop, Some, None}
use Rattle.std.proofs.Math.Bool.{true, false}
use Rattle.std.proofs.Common.{append_assoc, sym, ◌∙◌, arith, length-drop, drop_of_length-le, drop-drop, take_at}
use Rattle.std.proofs.Math.Path.{refl, ap, ap₂}
use Rattle.std.proofs.Math.Dec.{leb}
use borrow.Author.Tests.{le-leb, lt-leb, leb-true, leb-false}
use borrow.Rule.Slice.PartMut.{put_mid}
use Rattle.std.proofs.Math.ListN.{length, take, set, length-append}
use Rattle.std.proofs.Math.Seq.{take-length, take_all, drop-append-add}
use Rattle.std.proofs.lemmas.List.{set_split, drop_at}
use Rattle.grammar.specs.Text.{Text, if◌then◌otherwise◌, decimal}
use Rattle.grammar.specs.Laws.Places.{set_front}
use Rattle.grammar.specs.Numbers.{decimal_size, Decimal}
use Rattle.grammar.specs.Laws.Decimals.{decimal_some, decimal_most, decimal_enough, decimal_from}
use Rattle.listing.specs.Listing.{head, line, line_feed}
use Rattle.listing.specs.Printed.{Heads, if_fits, Printed}

-- ---------------------------------------------------------------- digits

pub five_digits : (n : ℕ) → n < 100000 → decimal 20 n ≡ decimal 5 n
five_digits n h = let l : n < 100000000000000000000 = omega arith in decimal_enough 20 5 n (omega arith) (omega arith) l h

pub digits_fit : (n : ℕ) → n < 100000 → decimal_size n ≤ 5
digits_fit n h = omega (arith, ap length (five_digits n h), decimal_most 5 n)

-- the digits of n stand in the list l' from r on, and behind them what l has from `end` on
pub record Digits (n end : ℕ) (l l' : Text) (r : ℕ) : Type 0 where
  pub low : end ≤ r + 5
  pub below : r < end
  pub is : drop r l' ≡ decimal 5 n ++ drop end l

pub digits : {n end : ℕ} {l l' : Text} {r : ℕ} → n < 100000 → end ≤ length l → Decimal n end l l' r → Digits n end l l' r
digits {n} {end} {l} h k w = record {
  low = omega (arith, w.place, digits_fit n h);
  below = omega (arith, w.place, decimal_some 20 n (omega arith));
  is = decimal_from w k ∙ ap (λ (t : Text). t ++ drop end l) (five_digits n h);
}

pub heads : {number bytes second r : ℕ} (l l₁ l₂ : Text) → length l ≡ 12 → length l₁ ≡ 12 → length l₂ ≡ 12 → Digits bytes 11 (set l 11 44) l₁ second → Digits number (second - 1) (set l₁ (second - 1) 44) l₂ r
    → Heads number bytes l₂ r
unfolding head
heads {number} {bytes} {second} {r} l l₁ l₂ z z₁ z₂ d e =
    let a : drop 11 (set l 11 44) ≡ 44 ∷ [] = set_front l 11 44 (omega arith) ∙ ap (λ (t : Text). 44 ∷ t) (drop_of_length-le l {i = 12} (omega arith)) in
    let c : drop (second - 1) (set l₁ (second - 1) 44) ≡ 44 ∷ drop second l₁ =
    set_front l₁ (second - 1) 44 (omega (arith, d.below)) ∙ ap (λ (j : ℕ). 44 ∷ drop j l₁) {x = second - 1 + 1} {y = second} (omega (arith, d.low)) in
    let f : drop r l₂ ≡ head number bytes =
    e.is ∙ ap (λ (t : Text). decimal 5 number ++ t) (c ∙ ap (λ (t : Text). 44 ∷ t) (d.is ∙ ap (λ (t : Text). decimal 5 bytes ++ t) a)) in
    record { place = omega (arith, ap length f, length-drop r l₂, e.below, d.below); is = f }

module _ (t l : Text) where
  pub not_printed : length l < length t → Printed t l l None
  unfolding if_fits if◌then◌otherwise◌
  not_printed h = record { size = rw (lt-leb (length t) (length l) h) refl; is = refl }

  pub printed : {l' : Text} {r : ℕ} → length t ≤ length l → r ≡ length t → l' ≡ t ++ drop (length t) l → Printed t l l' (Some r)
  unfolding if_fits if◌then◌otherwise◌
  printed h e f = record {
    size = ap Some e ∙ rw (le-leb (length t) (length l) h);
    is = f ∙ ap (λ (u : Text). u ++ drop (length t) l) (sym (take-length t)) ∙ ap (λ (j : ℕ). take j t ++ drop j l) (sym e);
  }

  -- a text fits, or nothing was printed
  pub prints : {l' : Text} {n : ℕ} → Printed t l l' (Some n) → (n ≡ length t) × (length t ≤ length l)
  unfolding if_fits if◌then◌otherwise◌
  prints {l'} {n} p = go (leb (length t) (length l)) refl p.size where
    go : (q : Bool) → leb (length t) (length l) ≡ q → Some n ≡ (if q then Some (length t) otherwise None) → (n ≡ length t) × (length t ≤ length l)
    go true e f = (cc, leb-true (length t) (length l) e)
    go false e f = absurd cc

  pub prints_not : {l' : Text} → Printed t l l' None → length l < length t
  unfolding if_fits if◌then◌otherwise◌
  prints_not {l'} p = go (leb (length t) (length l)) refl p.size where
    go : (q : Bool) → leb (length t) (length l) ≡ q → None ≡ (if q then Some (length t) otherwise None) → length l < length t
    go true e f = absurd cc
    go false e f = leb-false (length t) (length l) e

module _ {number r : ℕ} (name front : Text) (h : Heads number (length name) front r) where
  pub line_length : length (line number (length name) name) ≡ 12 - r + length name + 1
  unfolding line
  line_length =
      length-append (head number (length name)) (name ++ (line_feed ∷ []))
      ∙ omega (arith, length-append name (line_feed ∷ []), h.place)

  -- the head was copied to the front, the name behind it, and the line feed behind both
  pub line_printed : (l a c : Text) → 12 - r + length name < length l → a ≡ take (12 - r) (drop r front) → c ≡ name
      → Printed (line number (length name) name) l (set (put_mid (12 - r) (12 - r + length name - (12 - r)) (a ++ drop (12 - r) l) c) (12 - r + length name) 10) (Some (12 - r + length name + 1))
  unfolding line
  line_printed l a c k e f =
      let d : Text = head number (length name) in
      let m : ℕ = 12 - r in
      let i : ℕ = m + length name in
      let n : length d ≡ m = omega (arith, h.place) in
      let w : length (d ++ name) ≡ i = omega (arith, length-append d name) in
      let x : put_mid m (i - m) (a ++ drop m l) c ≡ (d ++ name) ++ drop i l =
      ap₂ (λ (u v : Text). put_mid m (i - m) (u ++ drop m l) v) (e ∙ ap (take m) h.is ∙ take_all m d (omega (arith, n))) f
      ∙ ap₂ (λ (u v : Text). u ++ (name ++ drop (i - m) v)) (take_at d (drop m l) m n) (drop_at d (drop m l) m n)
      ∙ ap (λ (u : Text). d ++ (name ++ u)) (drop-drop (i - m) m l ∙ ap (λ (j : ℕ). drop j l) {x = m + (i - m)} {y = i} (omega arith))
      ∙ sym (append_assoc d name (drop i l)) in
      let y : set ((d ++ name) ++ drop i l) i 10 ≡ (d ++ name) ++ (10 ∷ drop (suc i) l) =
      set_split ((d ++ name) ++ drop i l) i 10 (omega (arith, w, length-append (d ++ name) (drop i l), length-drop i l))
      ∙ ap₂ (λ (u v : Text). u ++ (10 ∷ v)) (take_at (d ++ name) (drop i l) i w)
      (ap (λ (j : ℕ). drop j ((d ++ name) ++ drop i l)) {x = suc i} {y = length (d ++ name) + 1} (omega (arith, w)) ∙ drop-append-add (d ++ name) (drop i l) 1 ∙ drop-drop 1 i l ∙ ap (λ (j : ℕ). drop j l) {x = i + 1} {y = suc i} (omega arith)) in
      let z : (d ++ name) ++ (10 ∷ drop (suc i) l) ≡ (d ++ (name ++ (10 ∷ []))) ++ drop (length (d ++ (name ++ (10 ∷ [])))) l =
      ap (λ (j : ℕ). (d ++ name) ++ (10 ∷ drop j l)) {x = suc i} {y = length (d ++ (name ++ (10 ∷ [])))} (omega (arith, line_length))
      ∙ append_assoc d name (10 ∷ drop (length (d ++ (name ++ (10 ∷ [])))) l)
      ∙ ap (λ (u : Text). d ++ u) (sym (append_assoc name (10 ∷ []) (drop (length (d ++ (name ++ (10 ∷ [])))) l)))
      ∙ sym (append_assoc d (name ++ (10 ∷ [])) (drop (length (d ++ (name ++ (10 ∷ [])))) l)) in
      printed (line number (length name) name) l (omega (arith, line_length)) (sym line_length) (ap (λ (u : Text). set u i 10) x ∙ y ∙ z)
