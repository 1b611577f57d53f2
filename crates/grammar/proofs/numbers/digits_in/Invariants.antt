use Rattle.std.proofs.Common.{◌≡◌, ℕ, ◌+◌, ◌≤◌, min, max, length, drop}
use Rattle.grammar.specs.Text.{Text, run, digit, number}
use Rattle.grammar.specs.Numbers.{most}
use Rattle.grammar.proofs.numbers.digits_in.Given as goal

pub record Begun (base : ℕ) (s : Text) (at value next : ℕ) : Type 0 where
  pub fits : value ≤ most
  pub within : next ≤ max at (length s)
  pub is : min (number base 0 (run (digit base) (drop at s))) most ≡ min (number base value (run (digit base) (drop next s))) most
  pub ends : at + length (run (digit base) (drop at s)) ≡ next + length (run (digit base) (drop next s))

abbrev pub invariant-loop-next : goal.invariant-loop-next
invariant-loop-next l = Begun l.base l.s l.at l.value l.next
