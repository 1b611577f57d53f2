use Rattle.std.proofs.Common.{refl, ap, ◌∙◌}
use Rattle.store.specs.Laws.Tails.{stack_of}
use Rattle.parser.specs.declared.demangler.Demangler.{Demangler}
use Rattle.parser.specs.Source.{closers}
use Rattle.parser.specs.Laws.Source.{closers_more}
use Rattle.parser.specs.Laws.Adds.{adds_none, adds_more}
use Rattle.parser.specs.Laws.Demanglers.{puts_of, lent_stack}
use Rattle.parser.proofs.demangler.Demangler.close_tags.Goals as goal

pub loop-init : goal.loop-init
unfolding closers
loop-init c = record { others = refl; same = refl; adds = adds_none (stack_of c.args.self.now.stack) }

pub loop-preserved : goal.loop-preserved
loop-preserved c =
    record {
      others = ap (λ (x : Demangler). record x { stack = c.put.new.self }) c.loop.invariant.others;
      same = lent_stack c.loop.self c.put.new.self c.put.ensures.same ∙ c.loop.invariant.same;
      adds = rw (← closers_more c.loop.counter) (adds_more c.loop.invariant.adds (puts_of c.loop.self c.put.new.self c.put.ensures.left));
    }
