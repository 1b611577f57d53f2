use mathlib.Core.Bool.{not}
use mathlib.Core.Path.{sym, ap, ◌∙◌}
use Rattle.grammar.specs.Text.{b}
use Rattle.grammar.proofs.Texts.{starts_first}
use Rattle.demangle.specs.Laws.Fronts.{ascii_high, front_1, front_2, front_z, front_zz, front_3}
use Rattle.demangle.proofs.symbol.behind_front.Goals as goal

pub returns-then-s-gt-SYMBOL : goal.returns-then-s-gt-SYMBOL
returns-then-s-gt-SYMBOL c =
    front_1 _ c.if-s-gt-SYMBOL.true

pub returns-then-not-is_ascii : goal.returns-then-not-is_ascii
returns-then-not-is_ascii c =
    front_2 _ c.if-s-gt-SYMBOL.false (ascii_high _ _ c.is_ascii.ensures.cases ∙ ap not c.if-not-is_ascii.true)

pub returns-then-starts_with : goal.returns-then-starts_with
unfolding b
returns-then-starts_with c =
    front_z _ c.if-s-gt-SYMBOL.false (ascii_high _ _ c.is_ascii.ensures.cases ∙ ap not c.if-not-is_ascii.false) (starts_first _ _ ∙ sym c.starts_with.ensures.value ∙ c.if-starts_with.true)

pub returns-then-starts_with-2 : goal.returns-then-starts_with-2
unfolding b
returns-then-starts_with-2 c =
    front_zz _ c.if-s-gt-SYMBOL.false
    (ascii_high _ _ c.is_ascii.ensures.cases ∙ ap not c.if-not-is_ascii.false)
    (starts_first _ _ ∙ sym c.starts_with.ensures.value ∙ c.if-starts_with.false) (starts_first _ _ ∙ sym c.starts_with-2.ensures.value ∙ c.if-starts_with-2.true)

pub returns : goal.returns
unfolding b
returns c =
    front_3 _ c.if-s-gt-SYMBOL.false
    (ascii_high _ _ c.is_ascii.ensures.cases ∙ ap not c.if-not-is_ascii.false)
    (starts_first _ _ ∙ sym c.starts_with.ensures.value ∙ c.if-starts_with.false) (starts_first _ _ ∙ sym c.starts_with-2.ensures.value ∙ c.if-starts_with-2.false)
