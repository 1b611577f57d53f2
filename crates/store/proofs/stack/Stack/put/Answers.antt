use Rattle.store.specs.Laws.Tails.{stack_of}
use Rattle.store.proofs.Stacks.{room_put}
use Rattle.store.proofs.stack.Stack.put.Goals as goal

pub returns-clause-left : goal.returns-clause-left
returns-clause-left c =
    room_put c.args.word.now (stack_of c.args.self.now) c.room.ensures.left c.place.ensures.left
