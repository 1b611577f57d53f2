use Rattle.std.proofs.Common.{length, refl, ap, ◌∙◌, arith}
use Rattle.std.proofs.lemmas.Result.{err_from_is_err_and}
use Rattle.parser.specs.declared.demangler.Demangler.{Demangler}
use Rattle.parser.specs.Laws.Demanglers.{turns_held, turns_stands}
use Rattle.reader.specs.Laws.Demanglers.{prepared_behind}
use Rattle.encoding.specs.Encodings.{with_parameters}
use Rattle.encoding.specs.Laws.Functions.{going_from, returned, returned_short, returned_room, type_refused, type_returned}
use Rattle.encoding.proofs.functions.template_function.Goals as goal

pub returns-in_err-r : goal.returns-in_err-r
returns-in_err-r c =
    let p = err_from_is_err_and c.from_residual.result c.from_residual.ensures.1 in
    let k = c.in_err-r.ensures in
    rw (p.1, p.2) (record { symbol = k.symbol; same = k.same; is = λ base at t σ h. type_refused k.reads c.args.cv.from c.args.cv.to h refl })

pub turned-requires : goal.turned-requires
turned-requires c =
    let k = c.in_ok-r.ensures in
    (c.requires.1.0, (returned_short k.reads c.requires.0.1 refl, returned_room k.reads c.requires.0.1 refl c.args.n c.requires.1.1.0 c.requires.1.0))

pub function-requires : goal.function-requires
function-requires c =
    let k = c.in_ok-r.ensures in
    let y = returned k.reads c.requires.0.1 refl in
    let e = ap (λ (x : Demangler). x.s.now) c.turned.ensures.others ∙ k.symbol in
    let h = turns_held c.turned.ensures (prepared_behind k c.requires.0).1 in
    ((_, h), (omega (arith, c.requires.1.0, returned_short k.reads c.requires.0.1 refl), (c.requires.1.1.1.0, omega (arith, c.requires.1.1.1.1, ap (λ (x : _). length x) e))))

pub returns : goal.returns
returns c =
    let k = c.in_ok-r.ensures in
    let e = ap (λ (x : Demangler). x.s.now) c.turned.ensures.others ∙ k.symbol in
    record {
      symbol = c.function.ensures.symbol ∙ e;
      same = c.function.ensures.same ∙ c.turned.ensures.same ∙ k.same;
      is = λ base at t σ h.
          type_returned k.reads c.args.cv.from c.args.cv.to h c.requires.1.0 refl (λ x y τ i j. turns_stands c.turned.ensures x y i j)
          (going_from c.turned.new.self e c.args.cv _ with_parameters c.function.ensures);
    }
