use Rattle.std.proofs.Math.Path.{refl, sym}
use Rattle.std.proofs.Common.{ap, ◌∙◌}
use Rattle.grammar.specs.declared.state.Parser.{Parser}
use Rattle.grammar.specs.Laws.Parsers as parsers
use Rattle.parser.specs.Demanglers.{takes, ends}
use Rattle.parser.proofs.demangler.Demangler.take.Goals as goal

pub returns-in_default : goal.returns-in_default
returns-in_default c = ends (parsers.took_none c.args.self.now.s.now c.args.self.now.state (sym c.take.ensures ∙ c.in_default.is)) refl

pub returns : goal.returns
returns c =
    let d = c.args.self.now in
    let (e, f) = parsers.took d.s.now d.state (sym c.take.ensures ∙ c.in-Some.is) in
    takes e (ap (λ (p : Parser). record d { state = p }) f)
