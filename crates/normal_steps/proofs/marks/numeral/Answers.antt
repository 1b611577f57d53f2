use Rattle.std.proofs.Common.{◌<◌, length, not, sym, ap, ◌∙◌, arith}
use Rattle.std.proofs.lemmas.Bool.Decides.{nat_tests}
use Rattle.normal_steps.specs.Laws.Tests.{numeral_is, numeral_none}
use Rattle.normal_steps.proofs.marks.numeral.Goals as goal

pub returns-then-not-is_empty : goal.returns-then-not-is_empty
returns-then-not-is_empty c =
    let l : 0 < length c.args.digits.now = grind (arith, nat_tests) in
    ap not c.leading_zero.ensures ∙ sym (numeral_is c.args.digits.now l c.requires)

pub returns-else-not-is_empty : goal.returns-else-not-is_empty
returns-else-not-is_empty c = grind (arith, nat_tests, numeral_none)
