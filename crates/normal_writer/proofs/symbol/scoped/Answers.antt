use mathlib.Core.Path.{◌∙◌}
use Rattle.normal_writer.specs.Laws.Symbols.{scoped_holds, scoped_none, scoped_next, scoped_full, scoped_heads}
use Rattle.normal_writer.proofs.symbol.scoped.Goals as goal

pub parts-requires : goal.parts-requires
parts-requires c =
    scoped_holds c.args.w.now.s.now c.args.word.now c.begin.new.w c.begin.ensures.symbol c.begin.ensures.is c.requires.1.short c.requires.0.0 c.requires.0.1.1

pub returns-in_err-u : goal.returns-in_err-u
returns-in_err-u c =
    rw c.from_residual.ensures (record {
      symbol = c.in_err-u.ensures.symbol ∙ c.begin.ensures.symbol;
      same = c.in_err-u.ensures.same ∙ c.begin.ensures.same;
      is = scoped_none c.args.w.now.s.now c.args.word.now c.begin.new.w c.begin.ensures.symbol c.begin.ensures.is c.requires.1.short
          c.requires.0.0 c.requires.0.1.1 c.parts.new.w c.args.constant c.in_err-u.ensures.is;
    })

pub tag_of-requires : goal.tag_of-requires
tag_of-requires c =
    (scoped_next c.args.w.now.s.now c.args.word.now c.begin.new.w c.begin.ensures.symbol c.begin.ensures.is c.requires.1.short c.requires.0.0
    c.requires.0.1.1 c.parts.new.w c.in_ok-u.ensures.is).1

pub returns-then-not-bare : goal.returns-then-not-bare
returns-then-not-bare c =
    record {
      symbol = c.in_ok-u.ensures.symbol ∙ c.begin.ensures.symbol;
      same = c.in_ok-u.ensures.same ∙ c.begin.ensures.same;
      is = scoped_full c.args.w.now.s.now c.args.word.now c.begin.new.w c.begin.ensures.symbol c.begin.ensures.is c.requires.1.short c.requires.0.0
          c.requires.0.1.1 c.parts.new.w
          c.in_ok-u.ensures.is c.args.constant c.tag_of.ensures c.bare.ensures c.if-not-bare.true;
    }

pub close-requires : goal.close-requires
close-requires c =
    scoped_next c.args.w.now.s.now c.args.word.now c.begin.new.w c.begin.ensures.symbol c.begin.ensures.is c.requires.1.short c.requires.0.0
    c.requires.0.1.1 c.parts.new.w c.in_ok-u.ensures.is

pub returns : goal.returns
returns c =
    record {
      symbol = c.close.ensures.symbol ∙ c.in_ok-u.ensures.symbol ∙ c.begin.ensures.symbol;
      same = c.close.ensures.same ∙ c.in_ok-u.ensures.same ∙ c.begin.ensures.same;
      is = scoped_heads c.args.w.now.s.now c.args.word.now c.begin.new.w c.begin.ensures.symbol c.begin.ensures.is c.requires.1.short c.requires.0.0
          c.requires.0.1.1 c.parts.new.w
          c.in_ok-u.ensures.is c.args.constant c.tag_of.ensures c.bare.ensures c.close.new.self c.if-not-bare.false c.close.ensures.is;
    }
