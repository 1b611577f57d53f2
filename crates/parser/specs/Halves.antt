-- The grammar's state with another table. Assumes nothing.
use Rattle.std.specs.Prelude.{List}
use Rattle.grammar.specs.Text.{Text}
use Rattle.grammar.specs.Reader.{State}

abbrev pub with_subs : List Text → State → State
with_subs l σ = record { rest = σ.rest; subs = l; args = σ.args; depth = σ.depth; cv = σ.cv; templated = σ.templated }

abbrev pub with_args : List Text → State → State
with_args l σ = record { rest = σ.rest; subs = σ.subs; args = l; depth = σ.depth; cv = σ.cv; templated = σ.templated }
