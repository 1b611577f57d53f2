use Rattle.std.proofs.Common.{◌≡◌, true, false, refl, rules, tests}
use Rattle.std.proofs.lemmas.Iterator.{IsFirst-from_position, YieldsList-from_slice}
use Rattle.grammar.proofs.Texts.{next_place}
use Rattle.parser.specs.Leaves.{qualifies}
use Rattle.parser.proofs.leaf.qualifiers.Goals as goal

pub returns : goal.returns
returns c =
    next_place qualifies c.args.s.now c.args.at c.unwrap_or.result c.position.result _ c.requires refl
    (IsFirst-from_position _ _ _ (λ x. qualifies x ≡ false) (λ x. qualifies x ≡ true) c.position.ensures.ran (YieldsList-from_slice _ cc) (λ x q k. search (rules, tests)) (λ x q k. search (rules, tests)))
    c.unwrap_or.ensures
