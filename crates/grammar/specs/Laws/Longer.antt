-- A longer limit keeps every answer that is not 1 (T-07). Assumes nothing.
use Rattle.std.specs.Prelude.{◌≡◌, ℕ, ◌≤◌, Bool, true, false, length, ◌≢◌, nat_lt}
use Rattle.std.proofs.Math.Path.{refl}
use Rattle.std.proofs.Common.{arith}
use borrow.Author.Tests.{ltb-false, le-ltb}
use Rattle.grammar.specs.Text.{Text, if◌then◌otherwise◌}
use Rattle.grammar.specs.Limits.{most_symbol_bytes}
use Rattle.grammar.specs.Names.{Answer, refusal, Lent, front, demangle, answer}

-- the limit before T-07
abbrev pub earlier_symbol_bytes : ℕ
earlier_symbol_bytes = 4096

-- of any two limits
module _ {m n : ℕ} (h : m ≤ n) (t : Text) where
  -- whatever is read behind the front
  pub longer_front : (f : Text → Answer) → (front m t f ≢ refusal 1) → front n t f ≡ front m t f
  unfolding front if◌then◌otherwise◌
  longer_front f k = go (nat_lt m (length t)) refl
    where
      go : (q : Bool) → nat_lt m (length t) ≡ q → front n t f ≡ front m t f
      go true e = absurd (k (rw e))
      go false e = rw (e, le-ltb n (length t) (omega (arith, ltb-false m (length t) e)))

  pub longer_demangle : (demangle m t ≢ refusal 1) → demangle n t ≡ demangle m t
  unfolding demangle
  longer_demangle k = longer_front _ k

  -- with the slices of the entry
  pub longer_answer : (l : Lent) → (answer m l t ≢ refusal 1) → answer n l t ≡ answer m l t
  unfolding answer
  longer_answer l k = longer_front _ k

-- "an answer that was neither 1 nor 13 under the old limit is the same under the new"; no name has 13
module _ (t : Text) where
  pub earlier_name : (demangle earlier_symbol_bytes t ≢ refusal 1) → demangle most_symbol_bytes t ≡ demangle earlier_symbol_bytes t
  earlier_name = longer_demangle (omega arith) t

  pub earlier_answer : (l : Lent) → (answer earlier_symbol_bytes l t ≢ refusal 1) → answer most_symbol_bytes l t ≡ answer earlier_symbol_bytes l t
  earlier_answer = longer_answer (omega arith) t
