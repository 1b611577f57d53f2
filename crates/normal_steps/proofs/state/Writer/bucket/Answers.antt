use Rattle.std.proofs.Common.{ℕ, ◌+◌, ◌*◌, ◌%◌, sym, ap, ◌∙◌, arith}
use Rattle.grammar.specs.Laws.Places.{rest_some, rest_none}
use Rattle.normal_steps.specs.Parts.{part}
use Rattle.normal_steps.specs.Chains.{buckets, summed, bucket_of}
use Rattle.normal_steps.proofs.state.Writer.bucket.Goals as goal

pub loop-c-preserved : goal.loop-c-preserved
unfolding summed
loop-c-preserved c =
    let t = part c.args.self.now.s.now c.args.x.word.from c.args.x.word.to in
    rw c.from.ensures (omega arith, sym (ap (summed c.loop-c.sum) (rest_some t c.loop-c.c-index c.loop-c-test.true)) ∙ c.loop-c.invariant.1)

pub returns : goal.returns
unfolding summed bucket_of
returns c =
    let t = part c.args.self.now.s.now c.args.x.word.from c.args.x.word.to in
    ap (λ (k : ℕ). (8 * k + c.args.x.tag) % buckets)
    (sym (ap (summed c.loop-c.sum) (rest_none t c.loop-c.c-index c.loop-c-test.false)) ∙ c.loop-c.invariant.1)
