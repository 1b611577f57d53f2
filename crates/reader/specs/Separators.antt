-- Texts with a separator between them: what stands before one text more. Assumes nothing.
use Rattle.std.specs.Prelude.{ℕ, zero, suc, []}
use Rattle.grammar.specs.Text.{Text}

-- what stands before another text: nothing before the first
abbrev pub before : Text → ℕ → Text
before sep zero = []
before sep (suc n) = sep
