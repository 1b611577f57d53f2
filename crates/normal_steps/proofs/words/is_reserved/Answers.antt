use Rattle.std.proofs.Common.{refl, sym, length, rules, ℕ, eqb, List, Bor, map, ap, ◌∙◌}
use Rattle.std.proofs.lemmas.Bool.{lt-leb}
use Rattle.std.proofs.lemmas.Iterator.{YieldsList-from_slice}
use Rattle.std.proofs.lemmas.Iterator.Search.{any_from_yields_List}
use Rattle.std.specs.Cmp.Lexicographic.{pointwise}
use Rattle.grammar.specs.Text.{b}
use Rattle.catalogue.specs.Class.{reserved}
use Rattle.normal_steps.specs.Laws.Tests.{listed_any, long_free}
use Rattle.normal_steps.proofs.words.is_reserved.Goals as goal

pub returns-then-word-le-LONGEST : goal.returns-then-word-le-LONGEST
unfolding reserved b
returns-then-word-le-LONGEST c =
    let ws = c.iter.result.rest.now in
    any_from_yields_List (λ (w : Bor (List ℕ)). pointwise eqb c.args.word.now w.now) _ _ c.any.result c.any.ensures.ran (YieldsList-from_slice ws refl) (λ x q f k. search rules)
    ∙ listed_any c.args.word.now ws reserved (ap (map (λ (w : Bor (List ℕ)). w.now)) c.iter.ensures.rest)

pub returns-else-word-le-LONGEST : goal.returns-else-word-le-LONGEST
returns-else-word-le-LONGEST c =
    let l = c.if-word-le-LONGEST.false in
    lt-leb (length c.args.word.now) 10 l ∙ sym (long_free c.args.word.now l)
