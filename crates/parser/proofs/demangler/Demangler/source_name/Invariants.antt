use Rattle.std.proofs.Common.{◌≡◌, ◌-◌, length}
use Rattle.parser.specs.Demanglers.{state_of, lent, OthersStay}
use Rattle.parser.specs.Laws.Tags.{Tagging}
use Rattle.parser.proofs.demangler.Demangler.source_name.Given as goal

abbrev pub invariant-loop-part : goal.invariant-loop-part
invariant-loop-part l =
    (OthersStay l.initial.self l.self × (lent l.self ≡ lent l.initial.self))
    × Tagging l.initial.self.s.now l.initial.self.stack.bytes.now l.self.stack.bytes.now (state_of l.initial.self) (state_of l.self) l.n l.tags

abbrev pub decreases-loop-part : goal.decreases-loop-part
decreases-loop-part l = length l.self.s.now - l.self.state.at
