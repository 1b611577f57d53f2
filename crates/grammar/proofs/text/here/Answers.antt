use Rattle.std.proofs.Common.{refl, ◌∙◌}
use Rattle.grammar.proofs.Texts.{byte_or_none}
use Rattle.grammar.proofs.text.here.Goals as goal

pub returns : goal.returns
returns c =
    c.eq.ensures ∙ byte_or_none c.args.s.now c.args.at c.args.c c.get.result _ c.get.ensures.lookup.3 refl
