use Rattle.std.proofs.Common.{rules, tests}
use Rattle.encoding.specs.Laws.Ends.{ended_by}
use Rattle.encoding.proofs.functions.ended.Goals as goal

pub returns : goal.returns
returns c = ended_by _ _ _ c.peek.ensures c.is_none_or.ensures (λ x k. search (rules, tests))
