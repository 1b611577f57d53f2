use Rattle.std.proofs.Common.{rules}
use Rattle.store.specs.Stack.{zeros}
use Rattle.answer.proofs.work.Numbers.clear.Goals as goal

pub returns-clause-cleared : goal.returns-clause-cleared
unfolding zeros
returns-clause-cleared c =
    record { words = search rules; tables = search rules; chains = search rules }
