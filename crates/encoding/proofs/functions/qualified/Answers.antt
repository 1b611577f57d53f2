use Rattle.std.proofs.Common.{refl, ap, subst, sym, arith, ◌∙◌}
use Rattle.parser.specs.declared.demangler.Demangler.{Demangler}
use Rattle.parser.specs.Demanglers.{state_of, memory_of, outcome}
use Rattle.store.specs.Laws.Tails.{stack_of}
use Rattle.parser.specs.Holds.{mem}
use Rattle.parser.specs.Laws.Demanglers.{puts_of, given_by, lent_stack}
use Rattle.encoding.specs.Encodings.{Qualifies}
use Rattle.encoding.specs.Laws.Ends.{qualifying_start, qualifying_word, qualifying_nothing, qualifying_done}
use Rattle.encoding.proofs.functions.qualified.Goals as goal
use Rattle.encoding.proofs.functions.qualified.Goals.{in-Some, in_default}

pub loop-c-init : goal.loop-c-init
loop-c-init c = ((refl, refl), qualifying_start _ (stack_of c.args.d.now.stack) c.requires.0)

pub loop-c-preserved : goal.loop-c-preserved
loop-c-preserved c =
    elim c.match-qualifier.branch [
      | in-Some w ↦ rw (w.d-is, w.size-is) (
        (ap (λ (x : Demangler). record x { stack = w.put.new.self }) c.loop-c.invariant.0.0, lent_stack c.loop-c.d w.put.new.self w.put.ensures.same ∙ c.loop-c.invariant.0.1),
        qualifying_word c.loop-c.invariant.1 (omega arith) w.in-Some.ensures.0 (puts_of c.loop-c.d w.put.new.self w.put.ensures.left) w.sum-size.ensures,
      )
      | in_default w ↦ rw (w.d-is, w.size-is) (c.loop-c.invariant.0, qualifying_nothing c.loop-c.invariant.1 (omega arith) w.in_default.ensures.0)
    ]

pub returns : goal.returns
returns c =
    let d = c.args.d.now in
    let v = c.loop-c.invariant in
    record {
      symbol = ap (λ (x : Demangler). x.s.now) v.0.0;
      same = v.0.1;
      is = subst
          (λ (x : Demangler). Qualifies d.s.now (memory_of d) (mem c.loop-c.d.stack.bytes.now (memory_of x).store (memory_of x).ends) (state_of d) c.args.n c.args.cv.from c.args.cv.to
          (outcome (state_of c.loop-c.d) c.given.result))
          (sym v.0.0)
          (qualifying_done d.s.now c.args.cv.from c.args.cv.to v.1 (omega arith) (given_by (state_of c.loop-c.d) c.loop-c.size c.given.ensures));
    }
