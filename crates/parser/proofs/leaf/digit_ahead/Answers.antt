use Rattle.std.proofs.Common.{length, ◌∙◌, arith, le-ltb}
use Rattle.parser.specs.Laws.Leaves.{digit_at, digit_past}
use Rattle.parser.proofs.leaf.digit_ahead.Goals as goal

pub returns-then-at-s : goal.returns-then-at-s
returns-then-at-s c = c.digit.ensures ∙ digit_at c.args.s.now c.args.at (omega arith)

pub returns-else-at-s : goal.returns-else-at-s
returns-else-at-s c =
    le-ltb c.args.at (length c.args.s.now) (omega arith) ∙ digit_past c.args.s.now c.args.at (omega arith)
