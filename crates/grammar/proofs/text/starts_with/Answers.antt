use Rattle.std.proofs.Common.{◌≡◌, drop, refl, sym, ap, ◌∙◌}
use Rattle.grammar.specs.Text.{starts}
use Rattle.grammar.proofs.Texts.{rest_or_none, starts_first}
use Rattle.grammar.proofs.text.starts_with.Goals as goal

pub returns : goal.returns
returns c =
    let e : c.unwrap_or.result.now ≡ drop c.args.at c.args.s.now = ap (λ x. x.now) c.unwrap_or.ensures ∙ rest_or_none c.args.s.now c.args.at c.get.result _ c.get.ensures.lookup.0 refl in
    c.starts_with.ensures.value ∙ sym (starts_first c.unwrap_or.result.now c.args.word.now) ∙ ap (λ t. starts t c.args.word.now) e
