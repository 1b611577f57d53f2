-- Source names as a loop reads them: one identifier after the other, with a count of the tags that are open. Assumes nothing.
use Rattle.std.specs.Prelude.{◌≡◌, ◌&&◌, [], ◌∷◌, ℕ, zero, suc, ◌+◌, leb, length, drop, Option, Some, None}
use Rattle.grammar.specs.Text.{Text, if◌then◌otherwise◌, starts, run, digit, number}
use Rattle.grammar.specs.declared.part.Part.{Part}
use Rattle.parser.specs.declared.demangler.Demangler.{Demangler}
use Rattle.parser.specs.Adds.{Adds}
use Rattle.parser.specs.Demanglers.{state_of, lent, StackAlone}

-- the place behind digits and an underscore, if there are any
unfoldable pub behind_number : Text → ℕ → ℕ
behind_number s at = let end = at + length (run (digit 10) (drop at s)) in if starts (drop end s) (95 ∷ []) then end + 1 otherwise end

-- the identifier behind its length, which is positive and not past the end
unfoldable pub identified : Text → ℕ → Option Part
identified s at =
    let d = run (digit 10) (drop at s) in
    let from = at + length d in
    let n = number 10 0 d in
    if leb 1 n && leb n (length (drop from s)) then Some (record { from = from; to = from + n }) otherwise None

-- a closing bracket for each open tag
unfoldable pub closers : ℕ → Text
closers zero = []
closers (suc k) = 93 ∷ closers k

-- a closing bracket for each of so many tags was put
pub record Closes (tags : ℕ) (d d' : Demangler) : Type 0 where
  pub others : StackAlone d d'
  pub same : lent d' ≡ lent d
  pub adds : Adds d.stack.bytes.now d'.stack.bytes.now (state_of d) (state_of d') (closers tags)
