use Rattle.std.proofs.Common.{◌≡◌, ℕ, ◌+◌, ◌≤◌, ◌++◌, min, sym, ap, ◌∙◌, arith, length, length-append}
use Rattle.grammar.specs.Text.{Text, b}
use Rattle.grammar.specs.Limits.{most_entry_bytes, most_length}
use Rattle.grammar.specs.Reader.{State, recorded}
use Rattle.grammar.specs.Grammar.{at_slots}
use Rattle.store.specs.Stack.{slots_in, newest}
use Rattle.store.specs.Laws.Tails.{stack_of}
use Rattle.parser.specs.Holds.{Memory, Stands}
use Rattle.grammar.specs.States.{Progress}
use Rattle.parser.specs.declared.demangler.Demangler.{Demangler}
use Rattle.parser.specs.Laws.Holds.{by}
use Rattle.parser.specs.Laws.Wraps.{puts_top, end_text, stands_puts, behind, inside}
use Rattle.parser.specs.Laws.Demanglers.{puts_of, lent_stack, texts_by, turns_stands}
use Rattle.parser.proofs.demangler.Demangler.wrap_member.Goals as goal

member :
    {k d : ℕ} {s base : Text} {from : ℕ} {m : Memory} {p : Progress} {n j : ℕ} (x y : Text) {σ : State} →
    Stands k d s base from m p n (x ++ y) σ → length (x ++ y) ≤ most_entry_bytes → length y ≡ j → newest m.text p.top j ≡ y
member {m = m} {p = p} x y h l f = ap (newest m.text p.top) (sym f) ∙ end_text x y h l

pub returns-then-slots-ne0 : goal.returns-then-slots-ne0
unfolding b
returns-then-slots-ne0 c = record {
  symbol = c.woven.ensures.symbol;
  others = c.woven.ensures.others;
  same = c.woven.ensures.same;
  is = λ k l s base from x y σ e f h.
      let i : length (x ++ y) ≤ most_entry_bytes = omega (arith, length-append x y, e, f, c.requires.0, c.requires.1.0) in
      by (ap (λ (t : Text). recorded t σ)
      (inside y (at_slots (x ++ b "::*") y) (y ++ b " " ++ x ++ b "::*") (λ j. c.if-slots-ne0.true (c.slots.ensures.0 ∙ ap slots_in (member x y h i f) ∙ j))))
      (c.woven.ensures.is k l s base from x y σ e f h);
}

pub recorded-requires : goal.recorded-requires
recorded-requires c =
    omega (
      arith,
      puts_top (c.args.m + 1 + c.args.c) (stack_of c.turned.new.self.stack) (puts_of c.turned.new.self c.put.new.self c.put.ensures.left)
          c.turned.ensures.turned.least (omega (arith, c.requires.0, c.requires.1.0)),
    )

pub returns : goal.returns
unfolding b
returns c = record {
  symbol = ap (λ (x : Demangler). x.s.now) c.recorded.ensures.others ∙ ap (λ (x : Demangler). x.s.now) c.turned.ensures.others;
  others = texts_by c.args.self.now
      (c.recorded.ensures.others ∙ ap (λ (x : Demangler). record x { stack = c.put.new.self; subs = c.recorded.new.self.subs }) c.turned.ensures.others);
  same = c.recorded.ensures.same ∙ lent_stack c.turned.new.self c.put.new.self c.put.ensures.same ∙ c.turned.ensures.same;
  is = λ k l s base from x y σ e f h.
      let i : length (x ++ y) ≤ most_entry_bytes = omega (arith, length-append x y, e, f, c.requires.0, c.requires.1.0) in
      let z : c.args.m + c.args.c + 4 ≡ min (length ((y ++ b " " ++ x) ++ b "::*")) most_length = simp length-append (omega (arith, e, f, c.requires.0, c.requires.1.0)) in
      by (ap (λ (t : Text). recorded t σ)
      (behind y (at_slots (x ++ b "::*") y) (y ++ b " " ++ x ++ b "::*") (ap slots_in (sym (member x y h i f)) ∙ sym c.slots.ensures.0 ∙ c.if-slots-ne0.false)))
      (c.recorded.ensures.is k l s base from _ σ
      (stands_puts (turns_stands c.turned.ensures x y e f h) (puts_of c.turned.new.self c.put.new.self c.put.ensures.left) z));
}
