-- Parts of a text, and the longest run at a place. Assumes nothing.
use Rattle.std.specs.Prelude.{ℕ, ◌-◌, take, drop}
use Rattle.grammar.specs.Text.{Text}

-- the bytes from a place up to another
abbrev pub part : Text → ℕ → ℕ → Text
part s from to = take (to - from) (drop from s)
