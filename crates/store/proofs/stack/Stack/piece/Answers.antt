use Rattle.std.proofs.Common.{◌++◌, take, drop, length, ap, arith}
use Rattle.store.specs.Laws.Slots.{at_slot_no}
use Rattle.store.specs.Laws.Tails.{stack_of}
use Rattle.store.proofs.Stacks.{part_size, slot_room, slot_put, byte_put}
use Rattle.store.proofs.stack.Stack.piece.Goals.{then-x-eq1, else-x-eq1}
use Rattle.store.proofs.stack.Stack.piece.Goals as goal

pub repeat-requires : goal.repeat-requires
repeat-requires c =
    (c.requires.0, omega (arith, slot_room c.args.low c.args.d c.args.word.now c.args.x (stack_of c.args.self.now) c.requires.0 c.requires.1 c.if-x-eq1.true))

pub place-requires : goal.place-requires
place-requires c =
    omega (
      arith,
      c.repeat.ensures.left.top_is,
      part_size c.args.low c.args.d (stack_of c.args.self.now) c.requires.0,
      slot_room c.args.low c.args.d c.args.word.now c.args.x (stack_of c.args.self.now) c.requires.0 c.requires.1 c.if-x-eq1.true,
    )

pub place_byte-requires : goal.place_byte-requires
place_byte-requires c =
    let s = c.args.self.now in
    let w = take c.args.d (drop c.args.low s.bytes.now) ++ c.args.word.now in
    elim c.if-x-eq1.branch [
      | then-x-eq1 u ↦ rw u.self-is (omega (
        arith,
        u.repeat.ensures.left.top_is,
        u.place.ensures.left.top_is,
        part_size c.args.low c.args.d (stack_of c.args.self.now) c.requires.0,
        slot_room c.args.low c.args.d c.args.word.now c.args.x (stack_of c.args.self.now) c.requires.0 c.requires.1 u.if-x-eq1.true,
      ))
      | else-x-eq1 u ↦ rw u.self-is (omega (arith, c.requires.1, ap length (at_slot_no w c.args.x u.if-x-eq1.false)))
    ]

pub returns-clause-left : goal.returns-clause-left
returns-clause-left c =
    elim c.if-x-eq1.branch [
      | then-x-eq1 u ↦ slot_put c.args.low c.args.d c.args.word.now c.args.x u.if-x-eq1.true u.repeat.ensures.left u.place.ensures.left (rw u.self-is at c.place_byte.ensures.left)
      | else-x-eq1 u ↦ byte_put c.args.low c.args.d c.args.word.now c.args.x u.if-x-eq1.false (rw u.self-is at c.place_byte.ensures.left)
    ]
