-- What the functions that write a line leave, and the laws of it. Assumes nothing.
use Rattle.std.specs.Prelude.{◌≡◌, ◌++◌, ℕ, ◌+◌, leb, length, take, drop, Option, Some, None, unwrap_or}
use Rattle.grammar.specs.Text.{Text, if◌then◌otherwise◌}
use Rattle.listing.specs.Listing.{head}

-- ---------------------------------------------------------------- the head of a line

-- of the 12 bytes those from r on are the head of a line
pub record Heads (number bytes : ℕ) (l : Text) (r : ℕ) : Type 0 where
  pub place : r + length (head number bytes) ≡ 12
  pub is : drop r l ≡ head number bytes

-- ---------------------------------------------------------------- a line

-- the length of a text, if it fits into so many bytes
unfoldable pub if_fits : ℕ → ℕ → Option ℕ
if_fits n room = if leb n room then Some n otherwise None

-- the text t stands at the front of l', if it fits
pub record Printed (t : Text) (l l' : Text) (r : Option ℕ) : Type 0 where
  pub size : r ≡ if_fits (length t) (length l)
  pub is : l' ≡ take (unwrap_or r 0) t ++ drop (unwrap_or r 0) l
