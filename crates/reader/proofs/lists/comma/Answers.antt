use Rattle.grammar.specs.Text.{b}
use Rattle.reader.specs.Laws.Separators.{put_some}
use Rattle.reader.proofs.lists.comma.Goals as goal

pub returns-then-n-gt0-clause-left : goal.returns-then-n-gt0-clause-left
unfolding b
returns-then-n-gt0-clause-left c = put_some (b ", ") c.args.n c.if-n-gt0.true c.put.ensures.left
