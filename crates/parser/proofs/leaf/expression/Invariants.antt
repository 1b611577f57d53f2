use Rattle.std.proofs.Common.{◌≡◌, ◌+◌, ◌≤◌, ◌<◌, drop}
use Rattle.grammar.specs.Grammar.{skipped}
use Rattle.parser.proofs.leaf.expression.Given as goal

abbrev pub invariant-loop-end : goal.invariant-loop-end
invariant-loop-end l = (0 < l.d) × (l.d ≤ l.end + 1) × (skipped (drop l.at l.s) 1 ≡ skipped (drop l.end l.s) l.d)
