use Rattle.std.proofs.Common.{◌≡◌, not, sym, ap, ◌∙◌, rules}
use Rattle.std.proofs.lemmas.Iterator.{YieldsList-from_slice}
use Rattle.std.proofs.lemmas.Iterator.Search.{all_from_yields_List}
use Rattle.catalogue.specs.Bytes.{all}
use Rattle.normal_walk.specs.Walk.{capital}
use Rattle.normal_steps.specs.Laws.Tests.{all_is}
use Rattle.normal_steps.proofs.marks.canonical.Goals.{After-all}
use Rattle.normal_steps.proofs.marks.canonical.Goals as goal

-- whether they are digits and capitals
capitals : (c : After-all) → c.all.result ≡ all capital c.args.digits.now
capitals c =
    all_from_yields_List capital _ _ c.all.result c.all.ensures.ran (YieldsList-from_slice c.args.digits.now cc) (λ x b q k. search rules) ∙ all_is capital c.args.digits.now

pub returns-then-all : goal.returns-then-all
returns-then-all c =
    rw (sym (capitals (goal.at.returns-then-all c).After-all) ∙ c.if-all.true) (ap not c.leading_zero.ensures)

pub returns-else-all : goal.returns-else-all
returns-else-all c =
    rw (sym (capitals (goal.at.returns-else-all c).After-all) ∙ c.if-all.false) c.if-all.false
