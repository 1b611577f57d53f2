use Rattle.std.proofs.Common.{rules}
use Rattle.store.specs.Stack.{zeros}
use Rattle.answer.proofs.work.Work.clear.Goals as goal

pub returns-clause-cleared : goal.returns-clause-cleared
unfolding zeros
returns-clause-cleared c =
    record { text = search rules; store = search rules; ends = search rules }
