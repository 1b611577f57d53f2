use Rattle.std.proofs.Math.Path.{refl}
use Rattle.std.proofs.Common.{arith}
use Rattle.grammar.specs.Reader.{refuse}
use Rattle.parser.specs.Holds.{refuses}
use Rattle.parser.specs.Laws.Holds.{by}
use Rattle.parser.specs.Laws.Halves.{none_given, some_given}
use Rattle.parser.specs.Laws.Demanglers.{recalls_reads, lent_stack, leaf_reads_lent}
use Rattle.parser.proofs.demangler.Demangler.recall.Goals as goal

pub returns-then-self-k-clause-reads : goal.returns-then-self-k-clause-reads
returns-then-self-k-clause-reads c = leaf_reads_lent refl refl (λ σ h. by (none_given σ.subs c.args.k (refuse 7) σ (omega (arith, c.if-self-k.true, h.subs.count_is))) refuses)

pub returns-clause-reads : goal.returns-clause-reads
returns-clause-reads c =
    leaf_reads_lent refl (lent_stack c.args.self.now c.entry.new.stack c.entry.ensures.same)
    (λ σ h. by (some_given σ.subs c.args.k (refuse 7) σ (omega (arith, c.if-self-k.false, h.subs.count_is))) (recalls_reads c.args.self.now h (c.entry.ensures.recalls σ.subs h.subs)))
