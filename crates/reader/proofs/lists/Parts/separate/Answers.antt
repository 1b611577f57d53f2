use Rattle.grammar.specs.Text.{b}
use Rattle.reader.specs.Laws.Separators.{put_some}
use Rattle.reader.proofs.lists.Parts.separate.Goals as goal

pub returns-then-self-gt0-clause-left : goal.returns-then-self-gt0-clause-left
unfolding b
returns-then-self-gt0-clause-left c = put_some (b "::") c.args.self.count c.if-self-gt0.true c.put.ensures.left
