-- What the methods of the reader's state answer: the next states, each an equation of the whole record.
use Rattle.std.specs.Prelude.{ℕ, ◌+◌, false, [], ◌∷◌, nat_lt, Option, Some, None, Result, Ok, Err}
use Rattle.grammar.specs.Limits.{most_open}
use Rattle.grammar.specs.Text.{Text, if◌then◌otherwise◌, starts}
use Rattle.grammar.specs.declared.state.Parser.{Parser}
use Rattle.grammar.specs.declared.refusal.Refusal.{Refusal}
use Rattle.grammar.specs.declared.refusal.Refusal.TheVariants.{TooDeep}

-- nothing is read
abbrev pub begun : Parser
begun = record { at = 0; depth = 0; cv = record { from = 0; to = 0 }; templated = false }

-- behind the next byte
abbrev pub behind : Parser → Parser
behind p = record p { at = p.at + 1 }

-- the next byte, if there is one, and the state behind it
abbrev pub taken : Parser → Text → Option (ℕ × Parser)
taken p [] = None
taken p (c ∷ t) = Some (c, behind p)

-- the state behind the byte c, if it is the next one
abbrev pub eaten : Parser → ℕ → Text → Option Parser
eaten p c t = if starts t (c ∷ []) then Some (behind p) otherwise None

abbrev pub back_at : Parser → ℕ → Parser
back_at p depth = record p { depth = depth }

-- the state one level down
abbrev pub deeper : Parser → Result Parser Refusal
deeper p = if nat_lt p.depth most_open then Ok (back_at p (p.depth + 1)) otherwise Err TooDeep
