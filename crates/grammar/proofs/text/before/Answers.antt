use Rattle.std.proofs.Common.{◌≡◌, true, false, not, ◌==◌, refl, rules, tests}
use Rattle.std.proofs.lemmas.Iterator.{IsFirst-from_position, YieldsList-from_slice}
use Rattle.grammar.proofs.Texts.{next_place}
use Rattle.grammar.proofs.text.before.Goals as goal

pub returns : goal.returns
returns c =
    next_place (λ x. not (x == c.args.c)) c.args.s.now c.args.at c.unwrap_or.result c.position.result _ c.requires refl
    (IsFirst-from_position _ _ _ (λ x. not (x == c.args.c) ≡ false) (λ x. not (x == c.args.c) ≡ true) c.position.ensures.ran (YieldsList-from_slice _ cc) (λ x q k. search (rules, tests)) (λ x q k. search (rules, tests)))
    c.unwrap_or.ensures
