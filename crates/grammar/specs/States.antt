-- What the code's state is, the texts of the work slices left out: its next states, each an equation of the whole record, and what a step comes to.
use Rattle.std.specs.Prelude.{ℕ, ◌+◌, ◌≤◌, Bool, false, [], ◌∷◌, length, nat_lt, Option, Some, None}
use Rattle.grammar.specs.Limits.{most_open}
use Rattle.grammar.specs.Text.{Text, if◌then◌otherwise◌}
use Rattle.grammar.specs.declared.part.Part.{Part}
use Rattle.grammar.specs.declared.refusal.Refusal.{Refusal}
use Rattle.grammar.specs.declared.refusal.Refusal.TheVariants.{TooDeep}

-- a part of the symbol
abbrev pub Within : Text → Part → Type 0
Within s p = (p.from ≤ p.to) × (p.to ≤ length s)

-- how much of a table is used: its entries, and the bytes of all of them
pub record Used : Type 0 where
  pub count : ℕ
  pub bytes : ℕ

-- the place of the next byte to be read, the readings that are open, the bytes of the stack of texts that are used, the tables, the qualifiers of the
-- newest nested name, and whether the newest name has template arguments
pub record Progress : Type 0 where
  pub at : ℕ
  pub depth : ℕ
  pub top : ℕ
  pub subs : Used
  pub args : Used
  pub cv : Part
  pub templated : Bool

-- the state, and the length of the text that was read; or why none was
pub data Read : Type 0 where
  read : Progress → ℕ → Read
  Refused : Refusal → Read

-- the empty state
abbrev pub fresh : Progress
fresh = record { at = 0; depth = 0; top = 0; subs = record { count = 0; bytes = 0 }; args = record { count = 0; bytes = 0 }; cv = record { from = 0; to = 0 }; templated = false }

abbrev pub moved_to : Progress → ℕ → Progress
moved_to p at = record { at = at; depth = p.depth; top = p.top; subs = p.subs; args = p.args; cv = p.cv; templated = p.templated }

abbrev pub raised_to : Progress → ℕ → Progress
raised_to p top = record { at = p.at; depth = p.depth; top = top; subs = p.subs; args = p.args; cv = p.cv; templated = p.templated }

abbrev pub at_depth : Progress → ℕ → Progress
at_depth p depth = record { at = p.at; depth = depth; top = p.top; subs = p.subs; args = p.args; cv = p.cv; templated = p.templated }

abbrev pub deeper : Progress → Progress
deeper p = record { at = p.at; depth = p.depth + 1; top = p.top; subs = p.subs; args = p.args; cv = p.cv; templated = p.templated }

abbrev pub entered : Progress → Read
entered p = if nat_lt p.depth most_open then read (deeper p) 0 otherwise Refused TooDeep

abbrev pub subs_to : Progress → ℕ → ℕ → Progress
subs_to p count bytes = record { at = p.at; depth = p.depth; top = p.top; subs = record { count = count; bytes = bytes }; args = p.args; cv = p.cv; templated = p.templated }

abbrev pub args_to : Progress → ℕ → ℕ → Progress
args_to p count bytes = record { at = p.at; depth = p.depth; top = p.top; subs = p.subs; args = record { count = count; bytes = bytes }; cv = p.cv; templated = p.templated }

abbrev pub cv_to : Progress → ℕ → ℕ → Progress
cv_to p from to = record { at = p.at; depth = p.depth; top = p.top; subs = p.subs; args = p.args; cv = record { from = from; to = to }; templated = p.templated }

abbrev pub templated_to : Progress → Bool → Progress
templated_to p templated = record { at = p.at; depth = p.depth; top = p.top; subs = p.subs; args = p.args; cv = p.cv; templated = templated }

-- the next byte, if there is one
abbrev pub peeked : Text → Option ℕ
peeked [] = None
peeked (c ∷ t) = Some c
