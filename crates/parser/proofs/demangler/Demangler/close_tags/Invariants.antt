use Rattle.parser.specs.Source.{Closes}
use Rattle.parser.proofs.demangler.Demangler.close_tags.Given as goal

abbrev pub invariant-loop : goal.invariant-loop
invariant-loop l = Closes l.counter l.initial.self l.self
