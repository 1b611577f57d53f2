use Rattle.std.proofs.Math.Path.{refl}
use Rattle.std.proofs.Common.{◌≡◌, ℕ, ◌+◌, ◌-◌, ◌<◌, ◌≤◌, [], ◌∷◌, true, false, min, length, drop, sym, ap, ◌∙◌, subst, arith, Option, Some, Result, Ok}
use Rattle.std.specs.Prelude.{ok_or}
use Rattle.grammar.specs.Text.{Text, starts}
use Rattle.grammar.specs.Limits.{most_length, kept_bytes}
use Rattle.grammar.specs.Grammar.{⟨source-name⟩, reading}
use Rattle.grammar.specs.States.{moved_to}
use Rattle.grammar.specs.declared.part.Part.{Part}
use Rattle.grammar.specs.declared.refusal.Refusal.{Refusal}
use Rattle.grammar.specs.declared.refusal.Refusal.TheVariants.{NoRule}
use Rattle.store.specs.Stack.{Put}
use Rattle.store.specs.Laws.Tails.{stack_of}
use Rattle.store.specs.declared.stack.Stack.{Stack}
use Rattle.parser.specs.declared.demangler.Demangler.{Demangler}
use Rattle.parser.specs.Adds.{Adds}
use Rattle.parser.specs.Holds.{Memory, mem, part, Puts, Reads}
use Rattle.parser.specs.Demanglers.{state_of, memory_of, lent, outcome, given_length, OthersStay, Leaf}
use Rattle.parser.specs.Source.{identified, closers, Closes}
use Rattle.parser.specs.Laws.Source.{Located}
use Rattle.parser.specs.Laws.Tags.{Tagging, tagging_start, tagging_refuses, located, tagging_ends, tagging_more}
use Rattle.parser.specs.Laws.References.{given_some, given_none}
use Rattle.parser.specs.Laws.Demanglers.{Passed, failed, ate, ate_none, others_by, others_then, lent_stack, leaf_reads_lent, outcome_given}
use Rattle.parser.proofs.demangler.Demangler.source_name.Goals as goal

-- a turn of the loop: o is the demangler before it, d the one at the turn
module _ (o d : Demangler) {n tags : ℕ}
    (turn : (OthersStay o d × (lent d ≡ lent o)) × Tagging o.s.now o.stack.bytes.now d.stack.bytes.now (state_of o) (state_of d) n tags) where
  same : d.s.now ≡ o.s.now
  same = ap (λ (x : Demangler). x.s.now) turn.0.0

  module _ {r : Option Part} (i : r ≡ identified d.s.now d.state.at) where
    seen : r ≡ identified o.s.now d.state.at
    seen = i ∙ ap (λ (t : Text). identified t d.state.at) same

    module _ {q : Part} (f : Ok q ≡ ok_or r NoRule) where
      found : identified o.s.now d.state.at ≡ Some (record { from = q.from; to = q.to })
      found = sym seen ∙ given_some r NoRule f

      here : Located o.s.now d.state.at q.from q.to
      here = located turn.1 found

      inside : q.to ≤ length d.s.now
      inside = omega (arith, here.inside, ap length same)

      module _ (x : Stack) (u : (x.bytes.ghost_name ≡ d.stack.bytes.ghost_name) × Put d.stack.bytes.now x.bytes.now d.stack.top x.top (part d.s.now q.from q.to)) where
        abbrev next : Demangler
        next = record d { state = record d.state { at = q.to }; stack = x }

        puts : Puts d.stack.bytes.now x.bytes.now (moved_to (state_of d) q.to) (state_of next) (part o.s.now q.from q.to)
        puts = record { same = refl; put = subst (λ (t : Text). Put d.stack.bytes.now x.bytes.now d.stack.top x.top (part t q.from q.to)) same u.1 }

        lent_next : lent next ≡ lent o
        lent_next = lent_stack d x u.0 ∙ turn.0.1

        module _ {d' d'' : Demangler} (z : (starts (drop q.to d.s.now) (66 ∷ []) ≡ false) × (d' ≡ next)) (k : Closes tags d' d'') where
          stay : OthersStay o d''
          stay = others_then o turn.0.0 (others_then d (others_by d z.1) (others_by d' k.others))

          kept : memory_of d'' ≡ mem d''.stack.bytes.now (record { low = o.subs.bytes.now; high = o.args.bytes.now }) (record { low = o.subs.ends.now; high = o.args.ends.now })
          kept = ap memory_of stay

          closed : Adds x.bytes.now d''.stack.bytes.now (state_of next) (state_of d'') (closers tags)
          closed = subst (λ (y : Demangler). Adds y.stack.bytes.now d''.stack.bytes.now (state_of y) (state_of d'') (closers tags)) z.1 k.adds

          ending :
              {n' n'' : ℕ} {v : Result ℕ Refusal} → n' ≡ min (n + (q.to - q.from)) most_length → n'' ≡ min (n' + tags) most_length → v ≡ given_length n'' →
              Leaf (reading ⟨source-name⟩) kept_bytes (o.state.at + 1) o d'' v
          ending {v = v} a c w =
              leaf_reads_lent stay (k.same ∙ ap lent z.1 ∙ lent_next)
              (subst (λ (m : Memory). Reads (reading ⟨source-name⟩) kept_bytes (o.state.at + 1) o.s.now (memory_of o) m (state_of o) (outcome (state_of d'') v)) (sym kept)
              (tagging_ends turn.1 found (subst (λ (t : Text). starts (drop q.to t) (66 ∷ []) ≡ false) same z.0) refl puts a closed c (ap (outcome (state_of d'')) w ∙ outcome_given _ _)))

        module _ {d' : Demangler} (y : Stack) (z : Passed 66 next d') where
          place : (d'.state.at ≡ q.to + 1) × (d'.s.now ≡ d.s.now)
          place = (ap (λ (w : Demangler). w.state.at) z.is, ap (λ (w : Demangler). w.s.now) z.is)

          others : OthersStay o (record d' { stack = y })
          others = others_then o turn.0.0 (others_by d (ap (λ (w : Demangler). record w { stack = y }) z.is))

          lent_on : y.bytes.ghost_name ≡ d'.stack.bytes.ghost_name → lent (record d' { stack = y }) ≡ lent o
          lent_on e = lent_stack d' y e ∙ ap lent z.is ∙ lent_next

          more : {n' n'' : ℕ} → Put d'.stack.bytes.now y.bytes.now d'.stack.top y.top (91 ∷ 97 ∷ 98 ∷ 105 ∷ 58 ∷ []) → n' ≡ min (n + (q.to - q.from)) most_length → n'' ≡ min (n' + 5) most_length
              → Tagging o.s.now o.stack.bytes.now y.bytes.now (state_of o) (state_of (record d' { stack = y })) n'' (tags + 1)
          more {n'' = n''} v a c =
              subst
              (λ (w : Demangler). Put w.stack.bytes.now y.bytes.now w.stack.top y.top (91 ∷ 97 ∷ 98 ∷ 105 ∷ 58 ∷ [])
              → Tagging o.s.now o.stack.bytes.now y.bytes.now (state_of o) (state_of (record w { stack = y })) n'' (tags + 1))
              (sym z.is)
              (λ p. tagging_more turn.1 found (subst (λ (t : Text). starts (drop q.to t) (66 ∷ []) ≡ true) same z.past.ahead) (subst (λ (t : Text). q.to < length t) same z.past.inside)
              refl puts a refl (record { same = refl; put = p }) c)
              v

pub loop-part-init : goal.loop-part-init
loop-part-init c = ((refl, refl), tagging_start c.requires.0 (stack_of c.args.self.now.stack))

pub returns-in_err-part : goal.returns-in_err-part
returns-in_err-part c =
    let f = given_none c.identifier.result _ c.in_err-part.ensures.value in
    let i = c.loop-part.invariant in
    rw (failed c.from_residual.result c.from_residual.ensures.1, f.1)
    (leaf_reads_lent i.0.0 i.0.1 (tagging_refuses i.1 (sym (seen c.args.self.now c.loop-part.self i c.identifier.ensures) ∙ f.0)))

pub slice_bounds-put-count : goal.slice_bounds-put-count
slice_bounds-put-count c = omega (arith, (here c.args.self.now c.loop-part.self c.loop-part.invariant c.identifier.ensures c.in_ok-part.ensures.value).some)

pub slice_bounds-put-start : goal.slice_bounds-put-start
slice_bounds-put-start c = omega (arith, (here c.args.self.now c.loop-part.self c.loop-part.invariant c.identifier.ensures c.in_ok-part.ensures.value).some)

pub slice_bounds-put-end : goal.slice_bounds-put-end
slice_bounds-put-end c = inside c.args.self.now c.loop-part.self c.loop-part.invariant c.identifier.ensures c.in_ok-part.ensures.value

pub overflow_sub-part : goal.overflow_sub-part
overflow_sub-part c = omega (arith, (here c.args.self.now c.loop-part.self c.loop-part.invariant c.identifier.ensures c.in_ok-part.ensures.value).some)

pub returns-then-not-eat : goal.returns-then-not-eat
returns-then-not-eat c =
    ending c.args.self.now c.loop-part.self c.loop-part.invariant c.identifier.ensures c.in_ok-part.ensures.value c.put.new.self (c.put.ensures.same, c.put.ensures.left)
    (ate_none c.if-not-eat.true c.eat.ensures) c.close_tags.ensures c.sum-n.ensures c.sum.ensures c.given.ensures

pub loop-part-smaller : goal.loop-part-smaller
loop-part-smaller c =
    let i = c.loop-part.invariant in
    let o = c.args.self.now in
    let h = here o c.loop-part.self i c.identifier.ensures c.in_ok-part.ensures.value in
    let z = place o c.loop-part.self i c.identifier.ensures c.in_ok-part.ensures.value c.put.new.self (c.put.ensures.same, c.put.ensures.left)
    c.put-in-loop-part.new.self (ate c.if-not-eat.false c.eat.ensures) in
    omega (arith, h.behind, h.some, h.inside, z.0, ap length z.1, ap length (same o c.loop-part.self i))

pub loop-part-preserved : goal.loop-part-preserved
loop-part-preserved c =
    let i = c.loop-part.invariant in
    let o = c.args.self.now in
    let d = c.loop-part.self in
    let z = ate c.if-not-eat.false c.eat.ensures in (
      (
        others o d i c.identifier.ensures c.in_ok-part.ensures.value c.put.new.self (c.put.ensures.same, c.put.ensures.left) c.put-in-loop-part.new.self z,
        lent_on o d i c.identifier.ensures c.in_ok-part.ensures.value c.put.new.self (c.put.ensures.same, c.put.ensures.left) c.put-in-loop-part.new.self z c.put-in-loop-part.ensures.same,
      ),
      more o d i c.identifier.ensures c.in_ok-part.ensures.value c.put.new.self (c.put.ensures.same, c.put.ensures.left)
          c.put-in-loop-part.new.self z c.put-in-loop-part.ensures.left c.sum-n.ensures c.sum-n-in-loop-part.ensures,
    )
