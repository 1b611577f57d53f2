use Rattle.std.proofs.Common.{refl, arith, length-set}
use Rattle.normal_steps.specs.Laws.Slices.{firsts_most}
use Rattle.normal_steps.specs.Laws.Memory.{push_known, push_new}
use Rattle.normal_steps.proofs.state.Writer.push.Goals as goal

pub overflow_add-self-then-kept-eq0 : goal.overflow_add-self-then-kept-eq0
overflow_add-self-then-kept-eq0 c =
    let h = c.requires.1.1.1 in
    omega (arith, firsts_most h, h.few_entries, h.place, h.source)

pub overflow_cast-self-then-kept-eq0 : goal.overflow_cast-self-then-kept-eq0
overflow_cast-self-then-kept-eq0 c =
    let h = c.requires.1.1.1 in
    omega (arith, firsts_most h, h.few_entries, h.place, h.source)

pub returns-then-kept-eq0 : goal.returns-then-kept-eq0
returns-then-kept-eq0 c =
    record { symbol = refl; same = simp length-set refl; stays = refl; is = λ σ h. push_new h c.args.d c.requires.0 c.requires.1.0 c.if-kept-eq0.true }

pub returns-else-kept-eq0 : goal.returns-else-kept-eq0
returns-else-kept-eq0 c =
    record { symbol = refl; same = simp length-set refl; stays = refl; is = λ σ h. push_known h c.args.d c.requires.0 c.requires.1.0 c.if-kept-eq0.false }
