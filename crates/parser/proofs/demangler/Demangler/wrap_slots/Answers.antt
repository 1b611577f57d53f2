use Rattle.std.proofs.Math.Path.{refl}
use Rattle.std.proofs.Common.{◌≡◌, ◌+◌, [], sym, ap, ◌∙◌, arith, length}
use Rattle.grammar.specs.Text.{Text}
use Rattle.grammar.specs.Reader.{recorded}
use Rattle.grammar.specs.Grammar.{at_slots}
use Rattle.parser.specs.Laws.Holds.{by}
use Rattle.parser.specs.Laws.Wraps.{spelled_some, spelled_none, some_is, some_not}
use Rattle.parser.proofs.demangler.Demangler.wrap_slots.Goals as goal

pub returns-in_err-word : goal.returns-in_err-word
returns-in_err-word c = record {
  symbol = refl;
  others = refl;
  same = refl;
  is = λ k l s base from t σ w e h. absurd (some_not (sym e ∙ (spelled_none c.slot_wrapper.result c.in_err-word.ensures.value c.slot_wrapper.ensures).0));
}

pub returns : goal.returns
returns c = record {
  symbol = c.woven.ensures.symbol;
  others = c.woven.ensures.others;
  same = c.woven.ensures.same;
  is = λ k l s base from t σ w e h.
      let f = some_is (sym e ∙ (spelled_some c.slot_wrapper.result _ c.in_ok-word.ensures.value c.slot_wrapper.ensures).0) in
      let i : length t ≡ c.args.n = omega (arith, h.size, c.requires.1) in
      let z : 0 + c.args.n ≡ c.args.n = omega arith in
      by (ap (λ (y : Text). recorded (at_slots y t) σ) f) (c.woven.ensures.is k l s base from [] t σ refl i (rw z h));
}
