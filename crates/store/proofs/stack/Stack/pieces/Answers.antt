use Rattle.std.proofs.Common.{refl, ◌∙◌, arith}
use Rattle.store.specs.Laws.Tails.{stack_of}
use Rattle.store.proofs.Stacks.{pieces_none, pieces_done, piece_fits, piece_more}
use Rattle.store.proofs.stack.Stack.pieces.Goals as goal

pub loop-i-init : goal.loop-i-init
loop-i-init c =
    (refl, pieces_none c.args.n c.args.d c.args.word.now (stack_of c.args.self.now) c.requires.0)

pub piece-requires : goal.piece-requires
piece-requires c =
    let g = c.loop-i.invariant.1 in (
      omega (arith, g.top_is),
      piece_fits c.args.n c.args.d c.args.word.now (stack_of c.args.self.now) c.requires.0 c.loop-i.i c.loop-i.auto.i (omega arith) g c.requires.1,
    )

pub loop-i-preserved : goal.loop-i-preserved
loop-i-preserved c =
    let g = c.loop-i.invariant in
    (c.piece.ensures.same ∙ g.0, piece_more c.args.n c.args.d c.args.word.now (stack_of c.args.self.now) c.requires.0 c.loop-i.i c.loop-i.auto.i (omega arith) g.1 c.piece.ensures.left)

pub returns-clause-left : goal.returns-clause-left
returns-clause-left c =
    pieces_done c.args.n c.args.d c.args.word.now (stack_of c.args.self.now) c.requires.0 c.loop-i.i (omega arith) c.loop-i.invariant.1
