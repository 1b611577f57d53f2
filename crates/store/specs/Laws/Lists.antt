-- Laws of lists. Assumes nothing.
use Rattle.std.specs.Prelude.{◌≡◌, refl, Bool, ◌&&◌, ◌==◌, nat_eq, List, [], ◌∷◌, ◌++◌, ℕ, zero, suc, ◌+◌, ◌-◌, ◌≤◌, length, take, drop}
use Rattle.std.specs.Cmp.Lexicographic.{pointwise}
use Rattle.std.proofs.Common.{sym, ap, ◌∙◌, append-nil, arith, length-drop, drop_of_length-le, take-take, take_all, take_at, drop_at, length-take-le}
use Rattle.std.proofs.Math.Nat.{sub-zero, zero-sub, suc-sub-suc}
use Rattle.std.proofs.Math.Seq.{take-nil}
use Rattle.grammar.specs.Text.{Text, same}

pub drop_take : (f n : ℕ) (l : List ℕ) → drop f (take n l) ≡ take (n - f) (drop f l)
drop_take zero n l = simp sub-zero
drop_take (suc f) zero l = simp zero-sub
drop_take (suc f) (suc n) [] = simp take-nil
drop_take (suc f) (suc n) (x ∷ l) = simp suc-sub-suc (drop_take f n l)

-- a part that lies in front does not change where the front does not
pub part_of : (a n top : ℕ) (l m : List ℕ) → a + n ≤ top → take top l ≡ take top m → take n (drop a l) ≡ take n (drop a m)
part_of a n top l m h e = sym (first l) ∙ ap (λ (k : List ℕ). take n (drop a k)) e ∙ first m where
  first : (k : List ℕ) → take n (drop a (take top k)) ≡ take n (drop a k)
  first k = ap (take n) (drop_take a top k) ∙ take-take n (top - a) (drop a k) (omega arith)

-- ---- a part that was lent: the first n, `&mut s[..n]`, and those from n on, `&mut s[n..]`

module _ (n : ℕ) (xs ys : List ℕ) where
  pub first_back : length ys ≡ n → take n (ys ++ drop n xs) ≡ ys
  first_back e = take_at ys (drop n xs) n e

  pub first_other : length ys ≡ n → drop n (ys ++ drop n xs) ≡ drop n xs
  first_other e = drop_at ys (drop n xs) n e

pub second_lent : (n : ℕ) (xs : List ℕ) → take (length xs - n) (drop n xs) ≡ drop n xs
second_lent n xs = take_all (length xs - n) (drop n xs) (simp length-drop (omega arith))

module _ (n : ℕ) (xs ys : List ℕ) (h : n ≤ length xs) where
  pub second_back : drop n (take n xs ++ (ys ++ drop (length xs - n) (drop n xs))) ≡ ys
  second_back =
      drop_at (take n xs) (ys ++ drop (length xs - n) (drop n xs)) n (length-take-le n xs h)
      ∙ ap (λ (z : List ℕ). ys ++ z) (drop_of_length-le (drop n xs) {i = length xs - n} (simp length-drop (omega arith)))
      ∙ append-nil ys

  pub second_other : take n (take n xs ++ (ys ++ drop (length xs - n) (drop n xs))) ≡ take n xs
  second_other = take_at (take n xs) (ys ++ drop (length xs - n) (drop n xs)) n (length-take-le n xs h)

-- `==` of two slices
pub same_texts : (s t : Text) → pointwise nat_eq s t ≡ same s t
unfolding same
same_texts [] [] = refl
same_texts [] (y ∷ t) = refl
same_texts (x ∷ s) [] = refl
same_texts (x ∷ s) (y ∷ t) = ap (λ (q : Bool). x == y && q) (same_texts s t)
