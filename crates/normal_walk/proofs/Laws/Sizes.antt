-- Lengths: of a reference, and of a source name that was read.
use Rattle.std.specs.Prelude.{Bool, true, false, [], ◌∷◌, ◌++◌, ◌≡◌, refl, ℕ, zero, suc, ◌+◌, ◌/◌, ◌%◌, ◌≤◌, ◌<◌, ltb, length}
use Rattle.std.proofs.Common.{sym, ap, arith, length-append}
use Rattle.grammar.specs.Text.{Text, if◌then◌otherwise◌}
use Rattle.grammar.specs.Limits.{most_symbol_bytes}
use Rattle.catalogue.specs.Spelling.{digit_of, base36, ref_digits, ref_bytes, name_bytes}
use Rattle.catalogue.proofs.Laws.ReadsBack.{name_two}
use Rattle.normal_walk.specs.Walk.{name}
use Rattle.normal_walk.proofs.Laws.Digits.{base36_one}
use Rattle.normal_walk.specs.Laws.Joins.{OfRd, rd_map}
use Rattle.normal_walk.proofs.Laws.Leaves.{name_sound}

base36_two : (k n : ℕ) → n < 1296 → length (base36 k n) ≤ 2
unfolding base36 if◌then◌otherwise◌
base36_two zero n h = omega arith
base36_two (suc k) n h = go (ltb n 36) refl
  where
    go : (p : Bool) → ltb n 36 ≡ p → length (if p then digit_of n ∷ [] otherwise base36 k (n / 36) ++ (digit_of (n % 36) ∷ [])) ≤ 2
    go true e = omega arith
    go false e = let d = ap length (base36_one k (n / 36) (omega arith)) in simp length-append (omega arith)

base36_three : (k n : ℕ) → n < 46656 → length (base36 k n) ≤ 3
unfolding base36 if◌then◌otherwise◌
base36_three zero n h = omega arith
base36_three (suc k) n h = go (ltb n 36)
  where
    go : (p : Bool) → length (if p then digit_of n ∷ [] otherwise base36 k (n / 36) ++ (digit_of (n % 36) ∷ [])) ≤ 3
    go true = omega arith
    go false = let d = base36_two k (n / 36) (omega arith) in simp length-append (omega arith)

-- of an entry that a symbol has room for
pub ref_length : (i : ℕ) → i ≤ most_symbol_bytes → length (ref_bytes i) ≤ 5
unfolding ref_digits
ref_length zero h = omega arith
ref_length (suc i) h = let k = base36_three i i (omega arith) in simp length-append (omega arith)

pub name_length : (s : Text) → OfRd (name s) (λ n r. (length (name_bytes n) + length r ≡ length s) × (2 ≤ length (name_bytes n)))
name_length s =
    rd_map _ _ (name s) (λ n r h. (rw (← h.0) (sym (length-append (name_bytes n) r)), name_two n h.1)) (name_sound s)
