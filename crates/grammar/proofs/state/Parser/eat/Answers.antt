use Rattle.std.proofs.Common.{[], ◌∷◌, sym, ap, ◌∙◌, ne_eqb, eq-eqb}
use Rattle.std.specs.Prelude.{Some}
use Rattle.grammar.specs.Text.{Text, if◌then◌otherwise◌, starts}
use Rattle.grammar.specs.Laws.Places.{starts_byte}
use Rattle.grammar.specs.Laws.Parsers.{took, took_none}
use Rattle.grammar.specs.declared.state.Parser.{Parser}
use Rattle.grammar.proofs.state.Parser.eat.Goals as goal

pub returns-in_default : goal.returns-in_default
unfolding if◌then◌otherwise◌ starts
returns-in_default c = rw (took_none c.args.s.now c.args.self (sym c.take.ensures ∙ c.in_default.is))

pub returns-then-d-c : goal.returns-then-d-c
unfolding if◌then◌otherwise◌
returns-then-d-c c =
    let (e, f) = took c.args.s.now c.args.self (sym c.take.ensures ∙ c.in-Some.is) in
    rw (ap (λ (t : Text). starts t (c.args.c ∷ [])) e ∙ starts_byte c.in-Some.d c.args.c _ ∙ eq-eqb c.in-Some.d c.args.c c.if-d-c.true) (ap (λ (p : Parser). Some p) f)

pub returns-else-d-c : goal.returns-else-d-c
unfolding if◌then◌otherwise◌
returns-else-d-c c =
    let (e, _) = took c.args.s.now c.args.self (sym c.take.ensures ∙ c.in-Some.is) in
    rw (ap (λ (t : Text). starts t (c.args.c ∷ [])) e ∙ starts_byte c.in-Some.d c.args.c _ ∙ ne_eqb c.in-Some.d c.args.c c.if-d-c.false)
