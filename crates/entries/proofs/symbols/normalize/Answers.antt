use Rattle.std.proofs.Common.{rules}
use Rattle.store.specs.Stack.{zeros}
use Rattle.answer.specs.Lent.{all_slices_of}
use Rattle.entries.specs.Laws.Outcome.{cleared_normalizes}
use Rattle.entries.proofs.symbols.normalize.Goals as goal

pub returns-clause-left : goal.returns-clause-left
unfolding zeros
returns-clause-left c =
    cleared_normalizes c.args.s.now (all_slices_of c.args.out.now c.args.work.now c.args.numbers.now)
    (search rules) (search rules) (search rules) (search rules) (search rules) (search rules) c.normalize_uncleared-answer.ensures.told
