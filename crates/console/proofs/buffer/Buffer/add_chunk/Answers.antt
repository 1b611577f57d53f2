use Rattle.std.proofs.Common.{◌≡◌, length, arith}
use Rattle.std.proofs.lemmas.Bool.Decides.{nat_tests}
use Rattle.console.specs.Laws.Buffer.{adds_end, adds_chunk}
use Rattle.console.proofs.buffer.Buffer.add_chunk.Goals as goal

pub returns-then-is_empty : goal.returns-then-is_empty
returns-then-is_empty c =
    let none : length c.args.chunk.now ≡ 0 = grind (arith, nat_tests) in
    adds_end c.move_down.ensures none c.complete.ensures

pub returns-else-is_empty : goal.returns-else-is_empty
returns-else-is_empty c =
    let some : length c.args.chunk.now ≡ 0 → ⊥ = λ e. grind (arith, nat_tests) in
    adds_chunk c.move_down.ensures some c.keep.ensures
