use mathlib.Core.Path.{sym, ◌∙◌}
use native.Mathlib.Omega.{arith}
use Rattle.grammar.specs.Laws.Places.{starts_inside}
use Rattle.normal_writer.specs.Laws.Symbols.{function_plain, function_scoped, function_constant}
use Rattle.normal_writer.proofs.symbol.function.Goals as goal

pub returns-then-not-here : goal.returns-then-not-here
returns-then-not-here c =
    record {
      symbol = c.plain.ensures.symbol;
      same = c.plain.ensures.same;
      is = function_plain c.args.w.now.s.now c.plain.new.w (sym c.here.ensures ∙ c.if-not-here.true) c.plain.ensures.is;
    }

pub scoped-requires : goal.scoped-requires
scoped-requires c =
    let i = starts_inside c.args.w.now.s.now 3 75 (sym c.here-2.ensures ∙ c.if-here.true) in
    ((omega arith, (omega arith, omega arith)), c.requires)

pub returns-then-here : goal.returns-then-here
returns-then-here c =
    record {
      symbol = c.scoped.ensures.symbol;
      same = c.scoped.ensures.same;
      is = function_constant c.args.w.now.s.now c.scoped.new.w (sym c.here.ensures ∙ c.if-not-here.false)
          (sym c.here-2.ensures ∙ c.if-here.true) c.scoped.ensures.is;
    }

pub scoped-requires-2 : goal.scoped-requires-2
scoped-requires-2 c =
    let i = starts_inside c.args.w.now.s.now 2 78 (sym c.here.ensures ∙ c.if-not-here.false) in
    ((omega arith, (omega arith, omega arith)), c.requires)

pub returns : goal.returns
returns c =
    record {
      symbol = c.scoped-2.ensures.symbol;
      same = c.scoped-2.ensures.same;
      is = function_scoped c.args.w.now.s.now c.scoped-2.new.w (sym c.here.ensures ∙ c.if-not-here.false)
          (sym c.here-2.ensures ∙ c.if-here.false) c.scoped-2.ensures.is;
    }
