use Rattle.std.proofs.Common.{get_or, sym, ap, ◌∙◌, arith}
use Rattle.grammar.specs.Grammar.{skipped}
use Rattle.parser.specs.Leaves.{left_at}
use Rattle.parser.specs.Laws.Leaves.{skipped_all, skipped_none, skipped_more, open_most}
use Rattle.parser.proofs.leaf.expression.Goals as goal

pub returns-then-d-eq0 : goal.returns-then-d-eq0
unfolding left_at
returns-then-d-eq0 c =
    let e = skipped_more c.args.s.now c.loop-end.end c.loop-end.d (omega arith) (omega arith) in
    record { is = sym (c.loop-end.invariant.2 ∙ e ∙ ap (skipped _) (sym c.opened-d.ensures ∙ c.if-d-eq0.true) ∙ skipped_all _); inside = (omega arith, omega arith) }

pub loop-end-preserved : goal.loop-end-preserved
loop-end-preserved c =
    let e = skipped_more c.args.s.now c.loop-end.end c.loop-end.d (omega arith) (omega arith) in (
      omega arith,
      omega (arith, c.opened-d.ensures, open_most (get_or c.args.s.now c.loop-end.end 0) c.loop-end.d),
      c.loop-end.invariant.2 ∙ e ∙ ap (skipped _) (sym c.opened-d.ensures),
    )

pub returns : goal.returns
unfolding left_at
returns c =
    record { is = sym (c.loop-end.invariant.2 ∙ skipped_none c.args.s.now c.loop-end.end c.loop-end.d (omega arith) (omega arith)); inside = tt }
