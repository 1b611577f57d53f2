use Rattle.std.proofs.Common.{length, drop, refl, ap, sym, ◌∙◌, arith}
use Rattle.std.proofs.lemmas.Result.{err_from_is_err_and}
use Rattle.grammar.specs.Text.{Text}
use Rattle.grammar.specs.Grammar.{ended}
use Rattle.reader.specs.Laws.Demanglers.{held_from}
use Rattle.encoding.specs.Encodings.{with_parameters, with_returned}
use Rattle.encoding.specs.Laws.Functions.{qualified_from, going_from}
use Rattle.encoding.specs.Laws.Named.{name_refused, name_got, name_holds, name_fits, name_over, name_templated, name_plain}
use Rattle.encoding.proofs.functions.function_or_data.Goals as goal

pub returns-in_err-n : goal.returns-in_err-n
returns-in_err-n c =
    let p = err_from_is_err_and c.from_residual.result c.from_residual.ensures.1 in
    let k = c.in_err-n.ensures in
    rw (p.1, p.2) (record { symbol = k.symbol; same = k.same; reads = λ σ h. name_refused k.reads h refl })

pub qualified-requires : goal.qualified-requires
qualified-requires c =
    let k = c.in_ok-n.ensures in
    let y = (name_got k.reads c.requires.1 refl).wrote.holds.cv_within in
    let f = name_fits k.reads c.requires.1 refl refl in
    (omega (arith, f.1), (y.0, omega (arith, y.1, ap (λ (x : Text). length x) k.symbol)))

pub returns-then-ended : goal.returns-then-ended
returns-then-ended c =
    let k = c.in_ok-n.ensures in
    record {
      symbol = c.qualified.ensures.symbol ∙ k.symbol;
      same = c.qualified.ensures.same ∙ k.same;
      reads = λ σ h. name_over k.reads h refl refl (ap (λ (x : Text). ended (drop c.name.new.d.state.at x)) (sym k.symbol) ∙ sym c.ended.ensures ∙ c.if-ended.true)
          (qualified_from (record c.name.new.d { state = record c.name.new.d.state { cv = record { from = 0; to = 0 } } }) k.symbol c.name.new.d.state.cv _ c.qualified.ensures);
    }

pub template_function-requires : goal.template_function-requires
template_function-requires c =
    let k = c.in_ok-n.ensures in
    let y = (name_got k.reads c.requires.1 refl).wrote.holds.cv_within in
    let f = name_fits k.reads c.requires.1 refl refl in
    let h = name_holds k.reads c.requires.1 refl refl in
    ((_, held_from (record c.name.new.d { state = record c.name.new.d.state { cv = record { from = 0; to = 0 } } }) k.symbol h), (f.1, (f.0, (y.0, omega (arith, y.1, ap (λ (x : Text). length x) k.symbol)))))

pub returns-then-d : goal.returns-then-d
returns-then-d c =
    let k = c.in_ok-n.ensures in
    record {
      symbol = c.template_function.ensures.symbol ∙ k.symbol;
      same = c.template_function.ensures.same ∙ k.same;
      reads = λ σ h. name_templated k.reads h refl refl (ap (λ (x : Text). ended (drop c.name.new.d.state.at x)) (sym k.symbol) ∙ sym c.ended.ensures ∙ c.if-ended.false) c.if-d.true
          (going_from (record c.name.new.d { state = record c.name.new.d.state { cv = record { from = 0; to = 0 } } }) k.symbol c.name.new.d.state.cv _ with_returned c.template_function.ensures);
    }

pub function-requires : goal.function-requires
function-requires c =
    let k = c.in_ok-n.ensures in
    let y = (name_got k.reads c.requires.1 refl).wrote.holds.cv_within in
    let f = name_fits k.reads c.requires.1 refl refl in
    let h = name_holds k.reads c.requires.1 refl refl in
    ((_, held_from (record c.name.new.d { state = record c.name.new.d.state { cv = record { from = 0; to = 0 } } }) k.symbol h), (omega (arith, f.1), (y.0, omega (arith, y.1, ap (λ (x : Text). length x) k.symbol))))

pub returns : goal.returns
returns c =
    let k = c.in_ok-n.ensures in
    record {
      symbol = c.function.ensures.symbol ∙ k.symbol;
      same = c.function.ensures.same ∙ k.same;
      reads = λ σ h. name_plain k.reads h refl refl (ap (λ (x : Text). ended (drop c.name.new.d.state.at x)) (sym k.symbol) ∙ sym c.ended.ensures ∙ c.if-ended.false) c.if-d.false
          (going_from (record c.name.new.d { state = record c.name.new.d.state { cv = record { from = 0; to = 0 } } }) k.symbol c.name.new.d.state.cv _ with_parameters c.function.ensures);
    }
