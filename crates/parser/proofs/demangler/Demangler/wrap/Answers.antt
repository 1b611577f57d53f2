use Rattle.std.proofs.Math.Path.{refl}
use Rattle.std.proofs.Math.Option.{Option, none, some}
use Rattle.std.proofs.Common.{◌≡◌, ℕ, [], ◌∷◌, ◌++◌, sym, ap, ◌∙◌, arith, length, length-append}
use Rattle.grammar.specs.Text.{Text, b, choose}
use Rattle.grammar.specs.Tables.{wrappers}
use Rattle.grammar.specs.Reader.{find, word_for, recorded}
use Rattle.grammar.specs.Grammar.{at_slots}
use Rattle.grammar.specs.Words.{behind_type, at_slot}
use Rattle.grammar.specs.Laws.Finds.{by_pair, all_of}
use Rattle.store.specs.Stack.{slots_in}
use Rattle.store.specs.Laws.Tails.{stack_of}
use Rattle.parser.specs.declared.demangler.Demangler.{Demangler}
use Rattle.parser.specs.Wraps.{Wrapper}
use Rattle.parser.specs.Laws.Holds.{by}
use Rattle.parser.specs.Laws.Wraps.{spelled_some, spelled_none, some_is, some_not, puts_top, stands_puts, newest_text, behind, inside}
use Rattle.parser.specs.Laws.Demanglers.{puts_of, lent_stack, texts_by}
use Rattle.parser.proofs.demangler.Demangler.wrap.Goals as goal

abbrev pair_of : Option Text → Option Text → Option (Text × Text)
pair_of o p = choose o (λ t. choose p (λ u. some (t, u)) none) none

two : (x y : Text) (o p : Option Text) → some (x, y) ≡ pair_of o p → (o ≡ some x) × (p ≡ some y)
unfolding choose
two x y (some t) (some u) e =
    (sym (ap (λ (q : Option (Text × Text)). choose q (λ z. some z.0) none) e), sym (ap (λ (q : Option (Text × Text)). choose q (λ z. some z.1) none) e))
two x y (some t) none e = absurd (some_not e)
two x y none p e = absurd (some_not e)

words_of : (x : ℕ) (u : Wrapper) → ((rest : Text) → find wrappers (x ∷ rest) ≡ some (u, rest))
    → (word_for behind_type (x ∷ []) ≡ some (b u.0)) × (word_for at_slot (x ∷ []) ≡ some (b u.1))
unfolding choose behind_type at_slot all_of wrappers b
words_of x u e =
    two (b u.0) (b u.1) _ _
    (sym (ap (λ (o : Option (Wrapper × Text)). choose o (λ r. some (b r.0.0, b r.0.1)) none) (e []))
    ∙ by_pair (x ∷ []) [] (λ t v w. some (t, v)) none wrappers tt)

pub returns-then-slots-ne0 : goal.returns-then-slots-ne0
returns-then-slots-ne0 c = record {
  symbol = c.wrap_slots.ensures.symbol;
  others = c.wrap_slots.ensures.others;
  same = c.wrap_slots.ensures.same;
  is = λ k l s base from t σ u e h.
      let i : length t ≡ c.args.n = omega (arith, h.size, c.requires.1) in
      by (ap (λ (y : Text). recorded y σ)
      (inside t (at_slots (b u.1) t) (t ++ b u.0) (λ j. c.if-slots-ne0.true (c.slots.ensures.0 ∙ ap slots_in (newest_text h (omega (arith, i, c.requires.1))) ∙ j))))
      (c.wrap_slots.ensures.is k l s base from t σ (b u.1) (words_of _ u e).1 h);
}

pub returns-in_err-word : goal.returns-in_err-word
returns-in_err-word c = record {
  symbol = refl;
  others = refl;
  same = refl;
  is = λ k l s base from t σ u e h. absurd (some_not (sym (words_of _ u e).0 ∙ (spelled_none c.wrapper.result c.in_err-word.ensures.value c.wrapper.ensures).0));
}

pub recorded-requires : goal.recorded-requires
recorded-requires c =
    omega (arith, puts_top c.args.n (stack_of c.args.self.now.stack) (puts_of c.args.self.now c.put.new.self c.put.ensures.left) c.requires.0 (omega (arith, c.requires.1)))

pub returns : goal.returns
returns c = record {
  symbol = ap (λ (x : Demangler). x.s.now) c.recorded.ensures.others;
  others = texts_by c.args.self.now c.recorded.ensures.others;
  same = c.recorded.ensures.same ∙ lent_stack c.args.self.now c.put.new.self c.put.ensures.same;
  is = λ k l s base from t σ u e h.
      let x = spelled_some c.wrapper.result _ c.in_ok-word.ensures.value c.wrapper.ensures in
      let f = some_is (sym (words_of _ u e).0 ∙ x.0) in
      let i : length t ≡ c.args.n = omega (arith, h.size, c.requires.1) in
      by (ap (λ (y : Text). recorded y σ)
      (behind t (at_slots (b u.1) t) (t ++ b u.0) (ap slots_in (sym (newest_text h (omega (arith, i, c.requires.1)))) ∙ sym c.slots.ensures.0 ∙ c.if-slots-ne0.false)
      ∙ ap (λ (y : Text). t ++ y) f))
      (c.recorded.ensures.is k l s base from _ σ
      (stands_puts h (puts_of c.args.self.now c.put.new.self c.put.ensures.left) (omega (arith, length-append t c.in_ok-word.word.now, i, x.1, c.requires.1))));
}
