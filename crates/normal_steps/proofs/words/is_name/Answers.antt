use Rattle.std.proofs.Common.{◌≡◌, ◌<◌, ◌&&◌, false, not, length, get_or, refl, sym, ap, ◌∙◌, arith, rules}
use Rattle.std.proofs.lemmas.Iterator.{YieldsList-from_slice}
use Rattle.std.proofs.lemmas.Iterator.Search.{all_from_yields_List}
use Rattle.std.proofs.lemmas.Bool.Decides.{nat_tests}
use Rattle.grammar.specs.Text.{digit}
use Rattle.catalogue.specs.Class.{word_byte, reserved, listed, name_ok}
use Rattle.normal_steps.specs.Laws.Tests.{all_is, digit_is}
use Rattle.normal_steps.specs.Laws.Leaves.{name_rules, name_none}
use Rattle.normal_steps.proofs.words.is_name.Goals.{After-all}
use Rattle.normal_steps.proofs.words.is_name.Goals as goal

pub returns-in-empty : goal.returns-in-empty
returns-in-empty c = sym (name_none _ (omega arith))

pub returns-in-empty-2 : goal.returns-in-empty-2
returns-in-empty-2 c = rw (name_rules c.args.word.now (omega arith)) (grind (arith, nat_tests, digit_is))

-- the rules, where the first byte is no digit
tested : (c : After-all) → name_ok c.args.word.now ≡ (c.all.result && not (listed c.args.word.now reserved))
tested c =
    let w = c.args.word.now in
    let l : 0 < length w = grind arith in
    let d : digit 10 (get_or w 0 0) ≡ false = grind (arith, nat_tests, digit_is) in
    let a = all_from_yields_List word_byte _ _ c.all.result c.all.ensures.ran (YieldsList-from_slice w cc) (λ x b q k. search rules) ∙ all_is word_byte w in
    rw (name_rules w l, d, sym a) refl

pub returns-then-all : goal.returns-then-all
returns-then-all c = rw (tested (goal.at.returns-then-all c).After-all, c.if-all.true) (ap not c.is_reserved.ensures)

pub returns-else-all : goal.returns-else-all
returns-else-all c = rw (tested (goal.at.returns-else-all c).After-all, c.if-all.false) refl
