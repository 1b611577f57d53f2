-- A name or a type with its template arguments, and either of them at S: what the two share. Assumes nothing.
use Rattle.std.specs.Prelude.{Bool, true, false, []}
use Rattle.grammar.specs.Text.{Text}
use Rattle.grammar.specs.Reader.{State, Reader}
use Rattle.grammar.specs.Grammar.{reading, name_instance, type_instance, s_name, s_type}
use Rattle.parser.specs.Halves.{with_args}
use Rattle.parser.specs.Laws.Holds.{with_templated}

-- a name, or else a type, with its arguments
abbrev pub instance_of : Bool → Text → Reader Text
instance_of true = name_instance reading
instance_of false = type_instance reading

-- a name, or else a type, at S
abbrev pub at_S_of : Bool → Reader Text
at_S_of true = s_name reading
at_S_of false = s_type reading

-- the state in which the arguments are read
abbrev pub bare : Bool → State → State
bare true σ = with_args [] σ
bare false σ = σ

-- the state from which the entry is made
abbrev pub marked : Bool → State → State
marked true σ = with_templated true σ
marked false σ = σ
