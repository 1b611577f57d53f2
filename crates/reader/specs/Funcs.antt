-- A function type on the stack: the type that it returns, and its parameters. Assumes nothing.
use Rattle.std.specs.Prelude.{◌≡◌, ℕ, ◌+◌, min, List, [], ◌∷◌, ◌++◌, length, Result}
use Rattle.grammar.specs.Text.{Text, b, if◌then◌otherwise◌, join}
use Rattle.grammar.specs.Limits.{most_length}
use Rattle.grammar.specs.Reader.{State, recorded}
use Rattle.grammar.specs.Grammar.{slot, only_void}
use Rattle.parser.specs.Holds.{Memory, Stands, Refines, keep}
use Rattle.grammar.specs.States.{Progress, Read}
use Rattle.grammar.specs.declared.refusal.Refusal.{Refusal}
use Rattle.parser.specs.declared.demangler.Demangler.{Demangler}
use Rattle.parser.specs.Demanglers.{state_of, memory_of, outcome, lent}

-- the text of a function type that returns r and takes ts
abbrev pub function_text : Text → List Text → Text
function_text r ts = r ++ b " (" ++ (slot ∷ []) ++ b ")(" ++ (if only_void ts then [] otherwise join (b ", ") ts) ++ b ")"

-- what stands between the two
abbrev pub opening : Text
opening = 32 ∷ 40 ∷ 1 ∷ 41 ∷ 40 ∷ []

-- the type returned, of r bytes, and `count` parameters, of n bytes, are on the stack, and they become the function type
abbrev pub FuncEnd : Memory → Memory → Progress → ℕ → ℕ → ℕ → Read → Type 0
FuncEnd m m' p r n count x =
    (s base : Text) (from : ℕ) (t : Text) (ts : List Text) (σ : State) →
    Stands (keep (p.depth + 1)) p.depth s base from m p (min (r + (5 + n)) most_length) (t ++ (opening ++ join (b ", ") ts)) σ →
    r ≡ length t → n ≡ min (length (join (b ", ") ts)) most_length → count ≡ length ts →
    Refines (keep p.depth) p.depth s base from m' x (recorded (function_text t ts) σ)

pub record FuncEnds (d d' : Demangler) (r n count : ℕ) (x : Result ℕ Refusal) : Type 0 where
  pub others : d' ≡ record d { stack = d'.stack; subs = d'.subs }
  pub same : lent d' ≡ lent d
  pub is : FuncEnd (memory_of d) (memory_of d') (state_of d) r n count (outcome (state_of d') x)
