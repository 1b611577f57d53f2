-- The stack of texts in a slice of 51,200 bytes: its first `top` bytes, the newest last; those behind them may be anything.
use Rattle.std.specs.Prelude.{◌≡◌, [], ◌∷◌, ◌++◌, ℕ, ◌+◌, ◌-◌, ◌≤◌, min, length, take, drop, replicate, eqb}
use Rattle.grammar.specs.Text.{Text, if◌then◌otherwise◌}
use Rattle.grammar.specs.Limits.{kept_bytes, stack_bytes}

unfoldable pub zeros : ℕ → Text
zeros n = replicate n 0

pub record Stack (text : Text) (top : ℕ) : Type 0 where
  pub size : length text ≡ stack_bytes
  pub most : top ≤ stack_bytes

-- w is `full` without its oldest bytes; its newest k bytes, at least, are there
pub record Tail (k : ℕ) (w full : Text) : Type 0 where
  pub lost : ℕ
  pub most : lost ≤ length full - k
  pub is : w ≡ drop lost full

-- the text t was put on the stack, which may have lost its oldest bytes
pub record Put (text text' : Text) (top top' : ℕ) (t : Text) : Type 0 where
  pub lost : ℕ
  pub most : lost ≤ top - kept_bytes
  pub is : take top' text' ≡ drop lost (take top text) ++ t
  pub stack : Stack text' top'

-- the k bytes below the newest n were removed
pub record Cut (text text' : Text) (top top' k n : ℕ) : Type 0 where
  pub top_is : top' ≡ top - k
  pub is : take top' text' ≡ take (top - (k + n)) text ++ drop (top - n) (take top text)
  pub stack : Stack text' top'

-- the oldest bytes may have left, so that there is room for so many more
pub record Room (text text' : Text) (top top' size : ℕ) : Type 0 where
  pub below : top' ≤ top
  pub long : min top kept_bytes ≤ top'
  pub room : top' + size ≤ stack_bytes
  pub is : take top' text' ≡ drop (top - top') (take top text)
  pub stack : Stack text' top'

-- the text t was put on the stack, which had room
pub record Grown (text text' : Text) (top top' : ℕ) (t : Text) : Type 0 where
  pub top_is : top' ≡ top + length t
  pub is : take top' text' ≡ take top text ++ t
  pub stack : Stack text' top'

-- how many of the bytes are slots
unfoldable pub slots_in : Text → ℕ
slots_in [] = 0
slots_in (x ∷ t) = (if eqb x 1 then 1 otherwise 0) + slots_in t

-- what stands for a byte where the text w is put in front of each slot
unfoldable pub at_slot : Text → ℕ → Text
at_slot w x = if eqb x 1 then w ++ (x ∷ []) otherwise x ∷ []

-- the newest n bytes, as code takes them
abbrev pub lent : Text → ℕ → ℕ → Text
lent text top n = take (top - (top - n)) (drop (top - n) text)

-- the newest n bytes, and the d bytes right below them
abbrev pub newest : Text → ℕ → ℕ → Text
newest text top n = drop (top - n) (take top text)

abbrev pub below_newest : Text → ℕ → ℕ → ℕ → Text
below_newest text top n d = take d (drop (top - (d + n)) text)
