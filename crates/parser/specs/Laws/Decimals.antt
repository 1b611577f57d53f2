-- A byte before a number in decimal, at the end of 21 bytes. Assumes nothing.
use Rattle.std.specs.Prelude.{List, ◌∷◌, ◌++◌, ◌≡◌, ℕ, ◌+◌, ◌-◌, ◌≤◌, ◌<◌, length, take, drop, set}
use Rattle.std.proofs.Common.{append-nil, sym, ap, ◌∙◌, arith, length-set, length-drop, drop_of_length-le, take_all}
use Rattle.grammar.specs.Text.{Text, decimal}
use Rattle.grammar.specs.Numbers.{Decimal}
use Rattle.grammar.specs.Laws.Decimals.{decimal_most, decimal_some, decimal_from}
use Rattle.grammar.specs.Laws.Places.{set_front}

module _ {i : ℕ} {l l' : List ℕ} {r : ℕ} (w : Decimal i 21 l l' r) (size : length l ≡ 21) (size' : length l' ≡ 21) where
  -- there is room for it
  pub digits_room : (1 ≤ r) × (r < 21)
  digits_room = (omega (arith, w.place, decimal_most 20 i), omega (arith, w.place, decimal_some 20 i (omega arith)))

  behind : (x : ℕ) → drop (r - 1) (set l' (r - 1) x) ≡ x ∷ decimal 20 i
  behind x =
      let a = digits_room in
      set_front l' (r - 1) x (omega arith)
      ∙ ap (λ (j : ℕ). x ∷ drop j l') {x = r - 1 + 1} {y = r} (omega arith)
      ∙ ap (λ (t : Text). x ∷ t)
      (decimal_from w (omega arith)
      ∙ ap (λ (t : Text). decimal 20 i ++ t) (drop_of_length-le l {i = 21} (omega arith))
      ∙ append-nil (decimal 20 i))

  pub marked_text : (x : ℕ) → take (21 - (r - 1)) (drop (r - 1) (set l' (r - 1) x)) ≡ x ∷ decimal 20 i
  marked_text x =
      take_all (21 - (r - 1)) (drop (r - 1) (set l' (r - 1) x)) (simp (length-drop, length-set) (omega arith)) ∙ behind x

  pub marked_size : (x : ℕ) → length (x ∷ decimal 20 i) ≡ 21 - (r - 1)
  marked_size x = ap length (sym (behind x)) ∙ simp (length-drop, length-set) (omega arith)
