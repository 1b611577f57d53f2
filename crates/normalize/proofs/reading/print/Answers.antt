use lib.ListN.{length, drop}
use mathlib.Core.List.{◌++◌}
use Rattle.grammar.specs.Text.{Text}
use Rattle.normalize.specs.Laws.Answers.{told_13, told_12, told_name}
use Rattle.std.proofs.Math.Path.{refl, ap}
use Rattle.normalize.proofs.reading.print.Goals as goal

pub returns-then-text-gt-SYMBOL : goal.returns-then-text-gt-SYMBOL
returns-then-text-gt-SYMBOL c =
    told_13 c.args.text.now c.args.out.now c.if-text-gt-SYMBOL.true

pub returns-then-out-text : goal.returns-then-out-text
returns-then-out-text c =
    told_12 c.args.text.now c.args.out.now c.if-text-gt-SYMBOL.false c.if-out-text.true

pub returns : goal.returns
returns c =
    told_name c.args.text.now c.args.out.now c.if-text-gt-SYMBOL.false c.if-out-text.false refl
    (ap (λ (x : Text). x ++ drop (length c.args.text.now) c.args.out.now) c.copy_from_slice.ensures.after)
