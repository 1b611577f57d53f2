use Rattle.std.proofs.Math.Path.{refl}
use Rattle.std.proofs.Common.{arith}
use Rattle.parser.specs.Laws.Holds.{by}
use Rattle.parser.specs.Laws.Halves.{some_given}
use Rattle.parser.specs.Laws.Demanglers.{recalls_reads, lent_stack, leaf_reads_lent}
use Rattle.parser.proofs.demangler.Demangler.recall_arg.Goals as goal

pub returns-clause-reads : goal.returns-clause-reads
returns-clause-reads c f =
    leaf_reads_lent refl (lent_stack c.args.self.now c.entry.new.stack c.entry.ensures.same)
    (λ σ h. by (some_given σ.args c.args.k f σ (omega (arith, c.requires.1, h.args.count_is))) (recalls_reads c.args.self.now h (c.entry.ensures.recalls σ.args h.args)))
