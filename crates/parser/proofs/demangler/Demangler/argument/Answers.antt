use Rattle.std.proofs.Common.{arith}
use Rattle.parser.specs.Laws.Holds.{by}
use Rattle.parser.specs.Laws.Halves.{none_given}
use Rattle.parser.specs.Laws.Demanglers.{leaf_reads_lent}
use Rattle.parser.proofs.demangler.Demangler.argument.Goals as goal

pub returns-then-i-self : goal.returns-then-i-self
returns-then-i-self c = c.recall_arg.ensures.reads _

pub returns : goal.returns
returns c =
    leaf_reads_lent c.number.ensures.others c.number.ensures.parses.same (λ σ h. by (none_given σ.args _ _ σ (omega (arith, c.if-i-self.false, h.args.count_is))) (c.number.ensures.parses.reads σ h))
