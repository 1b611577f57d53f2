use mathlib.Core.Path.{ap, ◌∙◌}
use native.Mathlib.Omega.{arith}
use Rattle.std.specs.Prelude.{length}
use Rattle.normal_writer.specs.Laws.Symbols.{turned_from, turn_none, turn_told, turn_lit, turn_more, goes_ended, ends_broken}
use Rattle.normal_writer.proofs.symbol.types.Goals as goal

pub ty-requires : goal.ty-requires
ty-requires c =
    let a = turned_from c.loop-w.invariant c.requires in (a.state, a.holds)

pub returns-in_err-t : goal.returns-in_err-t
returns-in_err-t c =
    rw c.from_residual.ensures (record {
      symbol = c.in_err-t.ensures.symbol ∙ c.loop-w.invariant.source;
      same = c.in_err-t.ensures.same ∙ c.loop-w.invariant.same;
      is = λ σ h m k. ends_broken c.ty.new.w (turn_none c.loop-w.w (c.loop-w.invariant.goes σ h m k) c.loop-w-test.true c.ty.new.w
          c.in_err-t.ensures.is);
    })

pub tag_of-requires : goal.tag_of-requires
tag_of-requires c =
    let a = turn_told c.loop-w.w (turned_from c.loop-w.invariant c.requires) c.loop-w-test.true c.ty.new.w c.in_ok-t.ensures.is in (a.state, a.holds)

pub returns-then-tag_of-from : goal.returns-then-tag_of-from
returns-then-tag_of-from c =
    record {
      symbol = c.in_ok-t.ensures.symbol ∙ c.loop-w.invariant.source;
      same = c.in_ok-t.ensures.same ∙ c.loop-w.invariant.same;
      is = λ σ h m k. ends_broken c.ty.new.w (turn_lit c.loop-w.w (c.loop-w.invariant.goes σ h m k) c.loop-w-test.true c.ty.new.w c.in_ok-t.ensures.is c.tag_of.ensures
          (c.if-tag_of-from.true ∙ c.from.ensures));
    }

pub loop-w-smaller : goal.loop-w-smaller
loop-w-smaller c =
    let a = turn_told c.loop-w.w (turned_from c.loop-w.invariant c.requires) c.loop-w-test.true c.ty.new.w c.in_ok-t.ensures.is in
    omega (arith, a.limits.at, c.loop-w-test.true, ap length c.in_ok-t.ensures.symbol)

pub loop-w-preserved : goal.loop-w-preserved
loop-w-preserved c =
    record {
      source = c.in_ok-t.ensures.symbol ∙ c.loop-w.invariant.source;
      same = c.in_ok-t.ensures.same ∙ c.loop-w.invariant.same;
      goes = λ σ h m k. turn_more c.loop-w.w (c.loop-w.invariant.goes σ h m k) c.loop-w-test.true c.ty.new.w c.in_ok-t.ensures.is c.tag_of.ensures
          c.in_ok-t.ensures.symbol (rw c.from.ensures at c.if-tag_of-from.false);
    }

pub returns : goal.returns
returns c =
    record { symbol = c.loop-w.invariant.source; same = c.loop-w.invariant.same; is = λ σ h m k. goes_ended (c.loop-w.invariant.goes σ h m k) c.loop-w-test.false }
