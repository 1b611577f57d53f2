use Rattle.std.proofs.Common.{◌∙◌}
use Rattle.parser.specs.Laws.Leaves.{digit_is}
use Rattle.parser.proofs.leaf.digit.Goals as goal

pub returns : goal.returns
returns c = c.is_ascii_digit.ensures.value ∙ digit_is c.args.c
