-- The next states of the writing.
use Rattle.std.specs.Prelude.{ℕ}
use Rattle.normal_steps.specs.declared.state.State.{State}

abbrev pub begun_at : ℕ → ℕ → State
begun_at at out = record { at = at; out = out; nodes = 0; table = 0; firsts = 0; args = 0 }

abbrev pub moved_to : State → ℕ → State
moved_to p at = record p { at = at }

abbrev pub written_to : State → ℕ → State
written_to p out = record p { out = out }

abbrev pub noted_to : State → ℕ → State
noted_to p nodes = record p { nodes = nodes }

abbrev pub entered_to : State → ℕ → ℕ → State
entered_to p table firsts = record p { table = table; firsts = firsts }

abbrev pub counted_to : State → ℕ → State
counted_to p args = record p { args = args }
