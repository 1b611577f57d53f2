use Rattle.std.proofs.Math.Path.{refl, sym}
use Rattle.std.proofs.Common.{ap}
use Rattle.std.proofs.lemmas.Result.{err_from_is_err_and}
use Rattle.grammar.specs.declared.state.Parser.{Parser}
use Rattle.grammar.specs.Laws.Parsers as parsers
use Rattle.parser.specs.Demanglers.{enters, deep}
use Rattle.parser.proofs.demangler.Demangler.enter.Goals as goal

pub returns-in_err-self : goal.returns-in_err-self
returns-in_err-self c =
    let p = err_from_is_err_and c.from_residual.result c.from_residual.ensures.1 in
    let (l, e) = parsers.stayed_out c.args.self.now.state (sym c.in_err-self.ensures) in
    rw (p.1, p.2, e) (deep l refl)

pub returns : goal.returns
returns c =
    let d = c.args.self.now in
    let (l, e) = parsers.went_in d.state (sym c.in_ok-self.ensures) in
    enters l (ap (λ (p : Parser). record d { state = p }) e)
