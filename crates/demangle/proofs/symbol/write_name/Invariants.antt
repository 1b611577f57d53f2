use Rattle.std.proofs.Common.{◌≡◌, ◌++◌, length, take, drop}
use Rattle.grammar.specs.Names.{without_slots}
use Rattle.demangle.proofs.symbol.write_name.Given as goal

abbrev pub invariant-loop-at : goal.invariant-loop-at
invariant-loop-at l = record {
  can : (goal.iterator-loop-at).can_next l.at-iterator;
  finite : (goal.iterator-loop-at).is_finite l.at-iterator;
  size : length l.out ≡ length l.initial.out;
  is : l.out ≡ take (length l.yielded) (without_slots l.text) ++ drop (length l.yielded) l.initial.out;
}
