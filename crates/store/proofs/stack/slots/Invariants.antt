use Rattle.std.proofs.Common.{◌≡◌, ◌+◌, ◌≤◌, length}
use Rattle.store.specs.Stack.{slots_in}
use Rattle.store.proofs.stack.slots.Given as goal

-- so many are found, and the others lie ahead
abbrev pub invariant-loop : goal.invariant-loop
invariant-loop l =
    (l.found + length l.iterator' ≡ slots_in l.text) × (l.found + length l.iterator' ≤ length l.text)
