use Rattle.std.proofs.Common.{◌-◌, drop, ap, ◌∙◌, arith}
use lib.Seq.{paste}
use Rattle.store.specs.Laws.Tails.{stack_of}
use Rattle.store.proofs.Stacks.{cut_is}
use Rattle.store.proofs.stack.Stack.cut.Goals as goal

pub returns-clause-left : goal.returns-clause-left
returns-clause-left c =
    let s = c.args.self.now in
    cut_is (stack_of c.args.self.now) c.requires
    (c.copy_within.ensures.after ∙ ap (paste s.bytes.now (s.top - c.args.n - c.args.k) (drop (s.top - c.args.n) s.bytes.now)) (omega arith))
