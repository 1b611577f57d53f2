use Rattle.std.proofs.Math.Path.{refl, sym}
use Rattle.std.proofs.Common.{drop, ap, ◌∙◌}
use Rattle.grammar.specs.declared.state.Parser.{Parser}
use Rattle.grammar.specs.Laws.Parsers as parsers
use Rattle.parser.specs.Demanglers.{eats, stays}
use Rattle.parser.proofs.demangler.Demangler.eat.Goals as goal

pub returns-in_default : goal.returns-in_default
returns-in_default c =
    let d = c.args.self.now in stays (parsers.ate_none d.state c.args.c (drop d.state.at d.s.now) (sym c.eat.ensures ∙ c.in_default.is)) refl

pub returns : goal.returns
returns c =
    let d = c.args.self.now in
    let (e, f) = parsers.ate d.state c.args.c (drop d.state.at d.s.now) (sym c.eat.ensures ∙ c.in-Some.is) in
    eats e (ap (λ (p : Parser). record d { state = p }) f)
