-- What the code tells of a number in a base: its value up to 2^64 - 1, and the place behind its digits; and a number written in decimal.
use Rattle.std.specs.Prelude.{◌≡◌, ℕ, ◌+◌, ◌≤◌, min, max, ◌++◌, length, take, drop}
use Rattle.grammar.specs.Text.{Text, run, digit, number, decimal}
use Rattle.grammar.specs.declared.numbers.Number.{Number}

-- 2^64 - 1
abbrev pub most : ℕ
most = 18446744073709551615

-- the number whose digits stand at a place of the text s
pub record Numbered (base : ℕ) (s : Text) (at : ℕ) (r : Number) : Type 0 where
  pub is : r.value ≡ min (number base 0 (run (digit base) (drop at s))) most
  pub behind : r.next ≡ at + length (run (digit base) (drop at s))
  pub inside : r.next ≤ max at (length s)

-- no number below 2^64 has more than 20 digits
abbrev pub decimal_size : ℕ → ℕ
decimal_size n = length (decimal 20 n)

-- the digits of n stand in l' from r up to `end`, and all else as in l
pub record Decimal (n end : ℕ) (l l' : Text) (r : ℕ) : Type 0 where
  pub place : r + decimal_size n ≡ end
  pub is : l' ≡ take r l ++ (decimal 20 n ++ drop end l)
