use Rattle.std.specs.Prelude.{◌≡◌, ◌++◌, ◌-◌, take}
use Rattle.grammar.specs.Grammar.{at_slots}
use Rattle.store.specs.Stack.{Grown, newest, below_newest}
use Rattle.store.proofs.stack.Stack.pieces.Given as goal

abbrev pub invariant-loop-i : goal.invariant-loop-i
invariant-loop-i l =
    (l.self.bytes.ghost_name ≡ l.initial.self.bytes.ghost_name) × Grown l.initial.self.bytes.now l.self.bytes.now l.initial.self.top l.self.top
    (at_slots (below_newest l.initial.self.bytes.now l.initial.self.top l.n l.d ++ l.word) (take (l.i - (l.initial.self.top - l.n)) (newest l.initial.self.bytes.now l.initial.self.top l.n)))
