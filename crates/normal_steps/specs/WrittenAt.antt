-- A text written into another from a place on, and the digits of small numbers. Assumes nothing.
use Rattle.std.specs.Prelude.{◌≡◌, ◌++◌, ℕ, ◌+◌, length, take, drop}
use Rattle.grammar.specs.Text.{Text}

pub record WrittenAt (out out' : Text) (at r : ℕ) (w : Text) : Type 0 where
  pub is : out' ≡ take at out ++ w ++ drop (at + length w) out
  pub end : r ≡ at + length w
