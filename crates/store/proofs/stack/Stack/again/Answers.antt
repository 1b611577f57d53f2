use Rattle.store.specs.Laws.Tails.{stack_of}
use Rattle.store.proofs.Stacks.{again_put}
use Rattle.store.proofs.stack.Stack.again.Goals as goal

pub returns-clause-left : goal.returns-clause-left
returns-clause-left c =
    again_put c.args.back c.args.n (stack_of c.args.self.now) c.requires.0 c.requires.1.0 c.requires.1.1.0 c.room.ensures.left c.repeat.ensures.left
