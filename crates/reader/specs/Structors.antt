-- A constructor or destructor: the class again behind the parts so far. Assumes nothing.
use Rattle.std.specs.Prelude.{ℕ, [], ◌∷◌, ◌==◌}
use Rattle.grammar.specs.Text.{Text, if◌then◌otherwise◌}

-- a destructor's class stands behind this
unfoldable pub tilde_of : ℕ → Text
tilde_of c = if c == 68 then 126 ∷ [] otherwise []
