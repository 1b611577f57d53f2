use Rattle.store.specs.Laws.Tails.{stack_of}
use Rattle.store.proofs.Stacks.{grown_set}
use Rattle.store.proofs.stack.Stack.place_byte.Goals as goal

pub returns-clause-left : goal.returns-clause-left
returns-clause-left c = grown_set c.args.x (stack_of c.args.self.now) c.requires
