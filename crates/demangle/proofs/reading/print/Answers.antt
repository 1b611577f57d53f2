use Rattle.std.proofs.Common.{◌++◌, length, drop, sym, ap, ◌∙◌, arith}
use Rattle.grammar.specs.Text.{Text}
use Rattle.grammar.specs.Grammar.{ended}
use Rattle.grammar.specs.Names.{without_slots}
use Rattle.answer.specs.Laws.Told.{tells_refusal, tells_name}
use Rattle.demangle.specs.Laws.Tells.{within_5, within_12, within_name, newest_length, printed_text, printed_length}
use Rattle.demangle.proofs.reading.print.Goals as goal

pub returns-then-not-ended_here : goal.returns-then-not-ended_here
returns-then-not-ended_here c t σ h =
    tells_refusal (within_5 _ t σ (ap ended h.rest ∙ sym c.ended_here.ensures ∙ c.if-not-ended_here.true))

pub returns-then-out-size : goal.returns-then-out-size
returns-then-out-size c t σ h =
    tells_refusal
    (within_12 _ t σ (ap ended h.rest ∙ sym c.ended_here.ensures ∙ c.if-not-ended_here.false)
    (omega (arith, c.if-out-size.true, printed_length c.args.d.now h c.slots-slots.ensures.0)))

pub write_counted-requires : goal.write_counted-requires
write_counted-requires c =
    let d = c.args.d.now in
    rw c.newest.ensures
    (c.slots-slots.ensures.0, omega (arith, c.if-out-size.false, newest_length d.stack.bytes.now d.stack.top c.args.n c.requires (omega (arith, d.stack.size, d.stack.most)) c.slots-slots.ensures.0))

pub returns : goal.returns
returns c t σ h =
    let e = printed_length c.args.d.now h c.slots-slots.ensures.0 in
    tells_name (within_name _ t σ (ap ended h.rest ∙ sym c.ended_here.ensures ∙ c.if-not-ended_here.false) (omega (arith, e, c.if-out-size.false))) e
    (c.write_counted.ensures
    ∙ ap (λ (z : Text). without_slots z ++ drop (length (without_slots z)) c.args.out.now) (c.newest.ensures ∙ printed_text c.args.d.now h))
