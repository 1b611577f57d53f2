use Rattle.std.proofs.Common.{◌≡◌, ℕ, ◌+◌, min, Option, Some, None, Result, Ok, Err, subst, arith}
use Rattle.grammar.specs.Grammar.{index}
use Rattle.grammar.specs.Numbers.{most, Numbered}
use Rattle.grammar.specs.declared.numbers.Number.{Number}
use Rattle.grammar.specs.declared.refusal.Refusal.{Refusal}
use Rattle.parser.specs.declared.demangler.Demangler.{Demangler}
use Rattle.parser.specs.Demanglers.{at_place, Needs, lacks}
use Rattle.parser.specs.References.{digits_at, behind_digits, index_of, Indexes, indexes, unended}
use Rattle.parser.specs.Laws.References.{index_none, index_some}
use Rattle.parser.specs.Laws.Demanglers.{failed, needed}
use Rattle.parser.proofs.demangler.Demangler.index.Goals as goal

module _ {base : ℕ} {d d' : Demangler} {r : Number} (n : Numbered base d.s.now d.state.at r) where
  behind : {u : Result (Unit {0}) Refusal} → Needs 95 (at_place d r.next) d' u → Needs 95 (at_place d (behind_digits base d)) d' u
  behind {u} h = subst (λ (x : ℕ). Needs 95 (at_place d x) d' u) n.behind h

  passed : {o : Option ℕ} {u : Unit {0}} → index_of o ≡ min (index base (digits_at base d)) (most + 1) → Needs 95 (at_place d r.next) d' (Ok u) → Indexes base d d' (Ok o)
  passed i h = let p = needed (behind h) in indexes i p.past.ahead p.is

  first : {u : Unit {0}} → r.next ≡ d.state.at → Needs 95 (at_place d r.next) d' (Ok u) → Indexes base d d' (Ok None)
  first e h = passed (omega (arith, index_none base (digits_at base d) (omega (arith, n.behind, e)))) h

  later : {u : Unit {0}} → (r.next ≡ d.state.at → ⊥) → Needs 95 (at_place d r.next) d' (Ok u) → Indexes base d d' (Ok (Some r.value))
  later e h = passed (omega (arith, n.is, index_some base (digits_at base d) (λ z. e (omega (arith, n.behind, z))))) h

  lacking : {e : Refusal} → Needs 95 (at_place d (behind_digits base d)) d' (Err e) → Indexes base d d' (Err e)
  lacking (lacks s e) = unended s e

pub returns-in_err-need : goal.returns-in_err-need
returns-in_err-need g c =
    let d = c.digits-number.ensures in
    rw (failed c.from_residual.result c.from_residual.ensures.1) (lacking d (behind d c.in_err-need.ensures))

pub returns-then-number-at : goal.returns-then-number-at
returns-then-number-at g c = first c.digits-number.ensures c.if-number-at.true c.in_ok-need.ensures

pub returns : goal.returns
returns g c = later c.digits-number.ensures c.if-number-at.false c.in_ok-need.ensures
