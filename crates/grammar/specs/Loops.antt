-- The loops of the reading, one step at a time, without a count of steps.
use Rattle.std.specs.Prelude.{Bool, not, ◌||◌, []}
use Rattle.grammar.specs.Text.{Text, b, same, starts}
use Rattle.grammar.specs.Reader.{Reader, ◌>>=◌, ◌>>◌, return, push_arg}
use Rattle.grammar.specs.Grammar.{⟨template-arg⟩, reading}

-- what one turn of a list reads: an item, or a template argument with its push
abbrev pub argument : Reader Text
argument = do
  t ← reading ⟨template-arg⟩
  push_arg t
  return t

-- not at an E, nor at the end
unfoldable pub before_E : Text → Bool
before_E t = not (same t [] || starts t (b "E"))
