use Rattle.std.proofs.Common.{ℕ, ◌+◌, ◌*◌, length, ap, arith}
use Rattle.store.specs.Laws.Tails.{stack_of}
use Rattle.store.proofs.Stacks.{weave_fits, weave_put}
use Rattle.store.proofs.stack.Stack.weave.Goals as goal

pub pieces-requires : goal.pieces-requires
pieces-requires c = (
  omega (arith, c.room.ensures.left.long),
  weave_fits c.args.n c.args.d (stack_of c.args.self.now) c.room.ensures.left c.requires.0 c.requires.1.0 c.args.word.now
      (ap (λ (k : ℕ). c.args.n + k * (c.args.d + length c.args.word.now)) c.slots-holes.ensures.0),
)

pub returns-clause-left : goal.returns-clause-left
returns-clause-left c =
    weave_put c.args.n c.args.d (stack_of c.args.self.now) c.room.ensures.left c.requires.0 c.requires.1.0 c.args.word.now c.pieces.ensures.left
