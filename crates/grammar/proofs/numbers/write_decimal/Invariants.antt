use Rattle.grammar.specs.Laws.Decimals.{Writing}
use Rattle.grammar.proofs.numbers.write_decimal.Given as goal

abbrev pub invariant-loop-rest : goal.invariant-loop-rest
invariant-loop-rest l = Writing l.n l.end l.initial.out l.out l.from l.rest

abbrev pub decreases-loop-rest : goal.decreases-loop-rest
decreases-loop-rest l = l.rest
