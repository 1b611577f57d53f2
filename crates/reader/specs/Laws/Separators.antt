-- Laws of Separators.antt. Assumes nothing.
use Rattle.std.specs.Prelude.{◌≡◌, ℕ, zero, suc, ◌*◌, ◌<◌, min, List, [], ◌∷◌, ◌++◌, length}
use mathlib.Core.List.{append_assoc, append-nil}
use Rattle.std.proofs.Math.Path.{refl, ap}
use Rattle.std.proofs.Common.{sym, ◌∙◌, arith}
use Rattle.grammar.specs.Text.{Text, join}
use Rattle.store.specs.Stack.{Stack, Put}
use Rattle.parser.specs.Holds.{Puts}
use Rattle.grammar.specs.States.{Progress}
use Rattle.reader.specs.Separators.{before}

pub puts_nothing : {text : Text} {p : Progress} → Stack text p.top → Puts text text p p []
puts_nothing c = record { same = refl; put = record { lost = 0; most = omega arith; is = sym (append-nil _); stack = c } }

module _ (sep : Text) where
  pub join_more : (n : ℕ) (ts : List Text) (t : Text) → min n 1 ≡ min (length ts) 1 → join sep (ts ++ (t ∷ [])) ≡ join sep ts ++ (before sep n ++ t)
  unfolding join
  join_more zero [] t e = refl
  join_more (suc n) [] t e = absurd (omega arith)
  join_more zero (x ∷ ts) t e = absurd (omega arith)
  join_more (suc n) (x ∷ []) t e = refl
  join_more (suc n) (x ∷ y ∷ ts) t e = ap (λ (u : Text). x ++ (sep ++ u)) (join_more (suc n) (y ∷ ts) t (omega arith)) ∙ simp append_assoc refl

  pub before_same : (m n : ℕ) → min m 1 ≡ min n 1 → before sep m ≡ before sep n
  before_same zero zero e = refl
  before_same zero (suc n) e = absurd (omega arith)
  before_same (suc m) zero e = absurd (omega arith)
  before_same (suc m) (suc n) e = refl

  pub before_size : length sep ≡ 2 → (n : ℕ) → length (before sep n) ≡ 2 * min n 1
  before_size e zero = refl
  before_size e (suc n) = omega arith

  pub put_some : {text text' : Text} {top top' : ℕ} (n : ℕ) → 0 < n → Put text text' top top' sep → Put text text' top top' (before sep n)
  put_some zero l u = absurd (omega arith)
  put_some (suc n) l u = u
