use mathlib.Core.Path.{sym, ◌∙◌}
use native.Mathlib.Omega.{arith}
use Rattle.demangle.specs.Laws.Slotless.{slotless_length, slotless_copied}
use Rattle.demangle.proofs.symbol.write_counted.Goals as goal

pub copy-requires : goal.copy-requires
copy-requires c =
    omega (arith, c.requires, c.if-slots-eq0.true, slotless_length c.args.text.now)

pub returns-then-slots-eq0 : goal.returns-then-slots-eq0
returns-then-slots-eq0 c =
    c.copy.ensures ∙ slotless_copied c.args.text.now c.args.out.now (sym c.requires.0 ∙ c.if-slots-eq0.true)
