-- A text that was read becomes the output.
use Rattle.std.specs.Prelude.{[], ℕ, length, Result}
use Rattle.grammar.specs.Text.{Text}
use Rattle.grammar.specs.Reader.{State, ok}
use Rattle.grammar.specs.Names.{within, finished}
use Rattle.grammar.specs.declared.refusal.Refusal.{Refusal}
use Rattle.parser.specs.declared.demangler.Demangler.{Demangler}
use Rattle.parser.specs.Holds.{keep}
use Rattle.parser.specs.Demanglers.{state_of, memory_of}
use Rattle.encoding.specs.Encodings.{Prints}
use Rattle.answer.specs.Told.{Tells}

-- the newest n bytes as a name
abbrev pub PrintsName : Demangler → ℕ → Text → Text → Result ℕ Refusal → Type 0
PrintsName d n out out' r =
    (t : Text) (σ : State) → Prints (keep 0) d.s.now [] (memory_of d) (state_of d) n t σ → Tells (within (length out) (finished (ok t σ))) out out' r
