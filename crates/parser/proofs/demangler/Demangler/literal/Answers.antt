use Rattle.std.proofs.Math.Path.{refl}
use Rattle.std.proofs.Common.{◌≡◌, Bool, nat_eq, [], ◌∷◌, ◌++◌, ◌≤◌, sym, ap, ◌∙◌, subst, arith, length, length-append}
use Rattle.std.specs.Borrow.{Bor}
use Rattle.std.specs.Cmp.Lexicographic.{pointwise}
use Rattle.grammar.specs.Text.{Text, b, if◌then◌otherwise◌, same}
use Rattle.store.specs.Laws.Lists.{same_texts}
use Rattle.grammar.specs.Reader.{give}
use Rattle.store.specs.Laws.Tails.{stack_of}
use Rattle.store.specs.declared.stack.Stack.{Stack}
use Rattle.parser.specs.declared.demangler.Demangler.{Demangler}
use Rattle.parser.specs.declared.literal.Kind.{Kind}
use Rattle.parser.specs.Adds.{Adds}
use Rattle.parser.specs.Demanglers.{state_of}
use Rattle.parser.specs.Literals.{KindOf, PutsValue, signed, truth_of}
use Rattle.parser.specs.Laws.Holds.{by, less, answers, given_refines, short_enough}
use Rattle.parser.specs.Laws.Halves.{give_short}
use Rattle.parser.specs.Laws.Adds.{stands_more}
use Rattle.parser.specs.Laws.Wraps.{stands_puts}
use Rattle.parser.specs.Laws.Demanglers.{puts_of, cuts_of, lent_stack, outcome_given}
use Rattle.parser.specs.Laws.Literals.{said, one_same, length_signed, stands_bare, stands_size, stands_newest}
use Rattle.parser.proofs.demangler.Demangler.literal.Goals as goal
use Rattle.parser.proofs.demangler.Demangler.literal.Goals.{then-eq, else-eq}

-- the kind by the text on the stack
kind_by : {t u w : Text} {k k' : Kind} → KindOf t k → t ≡ u → u ≡ w → k ≡ k' → KindOf w k'
kind_by {w = w} {k = k} h e f g = subst (λ (x : Kind). KindOf w x) g (subst (λ (x : Text). KindOf x k) (e ∙ f) h)

value_adds : {v : Text} (d : Demangler) (x : Stack) → PutsValue v d.stack x → Adds d.stack.bytes.now x.bytes.now (state_of d) (state_of (record d { stack = x })) (signed v)
value_adds d x h = record { same = refl; stack = stack_of x; tail = h.tail }

pub put-requires-in-Suffix : goal.put-requires-in-Suffix
put-requires-in-Suffix c = omega (arith, (said _ [] (kind_by c.of.ensures refl refl c.in-Suffix.is)).2)

-- true or false
spoken : (v : Text) {u : Text} {q : Bool} → q ≡ pointwise nat_eq v u → u ≡ 49 ∷ [] → same (signed v) (49 ∷ []) ≡ q
unfolding b
spoken v e f = one_same v ∙ sym (same_texts v (49 ∷ [])) ∙ ap (pointwise nat_eq v) (sym f) ∙ sym e

pub returns-after-eq : goal.returns-after-eq
unfolding truth_of if◌then◌otherwise◌ b
returns-after-eq c =
    let d = c.args.self.now in
    let v : Text = c.args.value.now in
    let one : same (signed v) (49 ∷ []) ≡ c.eq.result = spoken v c.eq.ensures c.as_slice.ensures in
    let told : (truth_of v ≡ c.if-eq.word.now) × (length c.if-eq.word.now ≤ 5) = elim c.if-eq.branch [
      | then-eq w ↦ (rw (one ∙ w.if-eq.true) (ap (λ (x : Bor Text). x.now) (sym w.word-is)), omega (arith, ap (λ (x : Bor Text). length x.now) w.word-is))
      | else-eq w ↦ (rw (one ∙ w.if-eq.false) (ap (λ (x : Bor Text). x.now) (sym w.word-is)), omega (arith, ap (λ (x : Bor Text). length x.now) w.word-is))
    ] in
    record {
      others = refl;
      same = lent_stack c.args.self.now c.put.new.self (c.put.ensures.same ∙ c.cut.ensures.same);
      is = λ k l s base from t σ h i j.
          let (e, f, o) = stands_newest h (omega arith) in
          let w = said t v (kind_by c.of.ensures c.newest.ensures o c.in-Truth.is) in
          let bare = stands_bare w.1 j h (cuts_of d c.cut.new.self c.cut.ensures.left) in
          let all = stands_puts bare (puts_of (record d { stack = c.cut.new.self }) c.put.new.self c.put.ensures.left) refl in
          answers (ap (λ (x : Text). give x σ) (w.0 ∙ told.0) ∙ give_short c.if-eq.word.now σ (omega (arith, told.1)))
          (short_enough (stands_size all (length c.if-eq.word.now) (omega (arith, told.1))) (omega (arith, told.1)));
    }

pub returns-in-Suffix : goal.returns-in-Suffix
returns-in-Suffix c =
    record {
      others = refl;
      same = lent_stack c.args.self.now c.put-in-Suffix.new.self (c.put-in-Suffix.ensures.same ∙ c.put_value.ensures.same ∙ c.cut-in-Suffix.ensures.same);
      is = λ k l s base from t σ h i j.
          let (e, f, o) = stands_newest h (omega arith) in
          let d = c.args.self.now in
          let v = c.args.value.now in
          let w = said t v (kind_by c.of.ensures c.newest.ensures o c.in-Suffix.is) in
          let bare = stands_bare w.1 j h (cuts_of d c.cut-in-Suffix.new.self c.cut-in-Suffix.ensures.left) in
          let valued = stands_more (value_adds (record d { stack = c.cut-in-Suffix.new.self }) c.put_value.new.stack c.put_value.ensures) bare in
          let all = stands_puts valued (puts_of (record d { stack = c.put_value.new.stack }) c.put-in-Suffix.new.self c.put-in-Suffix.ensures.left) refl in
          rw (c.given.ensures, outcome_given) (by (ap (λ (x : Text). give x σ) w.0)
          (given_refines (stands_size all _ (simp length-append (omega (arith, length_signed v, w.2))))));
    }

pub returns-in-Cast : goal.returns-in-Cast
returns-in-Cast c =
    record {
      others = refl;
      same = lent_stack c.args.self.now c.put_value-in-Cast.new.stack (c.put_value-in-Cast.ensures.same ∙ c.enclose.ensures.same);
      is = λ k l s base from t σ h i j.
          let (e, f, o) = stands_newest h (omega arith) in
          let d = c.args.self.now in
          let v = c.args.value.now in
          let w = said t v (kind_by c.of.ensures c.newest.ensures o c.in-Cast.is) in
          let closed = c.enclose.ensures.stands (state_of d) i h in
          let all = stands_more (value_adds (record d { stack = c.enclose.new.stack }) c.put_value-in-Cast.new.stack c.put_value-in-Cast.ensures) closed in
          let q = length-append (b "(" ++ t ++ b ")") (signed v) in
          rw (c.given-in-Cast.ensures, outcome_given) (by (ap (λ (x : Text). give x σ) w)
          (less (omega arith) (given_refines (stands_size all _ (omega (arith, q, length_signed v, closed.size))))));
    }
