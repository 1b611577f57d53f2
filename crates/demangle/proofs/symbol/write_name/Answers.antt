use Rattle.std.proofs.Common.{◌≡◌, ◌<◌, length, get_or, rules, arith, length-set}
use Rattle.std.proofs.lemmas.List.{length_push}
use borrow.Author.Tests.{tests}
use Rattle.std.proofs.lemmas.Iterator.{YieldsList-from_slice}
use Rattle.std.proofs.lemmas.Iterator.Consumers.{YieldsList-at, YieldsList-from_filter, YieldsList-from_enumerate, YieldsList-turn, YieldsList-end}
use Rattle.grammar.specs.Names.{without_slots}
use Rattle.demangle.specs.Laws.Slotless.{no_slot, slotless_turn, slotless_step, slotless_end}
use Rattle.demangle.proofs.symbol.write_name.Goals.{In-Some}
use Rattle.demangle.proofs.symbol.write_name.Goals as goal

-- the byte of a turn, and its place
turn :
    (c : In-Some) → (length c.loop-at.yielded < length (without_slots c.args.text.now)) ×
    ((c.in-Some.at ≡ length c.loop-at.yielded) × (c.in-Some.c.now ≡ get_or (without_slots c.args.text.now) (length c.loop-at.yielded) 0))
turn c =
    let i = c.into_iter-at-iterator.ensures.into_iter_gives in
    let e = c.enumerate-at-items.ensures in
    let slice = YieldsList-at c.filter.ensures.source (YieldsList-from_slice c.args.text.now cc) in
    let t =
    YieldsList-turn
    (YieldsList-at i (YieldsList-from_enumerate (YieldsList-at e.source (YieldsList-from_filter _ no_slot slice c.filter.ensures.closure (λ x r q k. search (rules, tests)))) e.count))
    c.loop-at.yielded _ c.loop-at.yielded_by _ _ _ c.in-Some.is c.next.ensures.steps in
    slotless_turn c.args.text.now t.0 t.1

pub bounds-out-at : goal.bounds-out-at
bounds-out-at c =
    let b = turn (goal.at.bounds-out-at c).In-Some in
    omega arith

pub loop-at-preserved : goal.loop-at-preserved
loop-at-preserved c = record {
  can = search rules;
  finite = search rules;
  size = simp length-set c.loop-at.invariant.size;
  is =
      slotless_step c.args.text.now c.args.out.now c.loop-at.invariant.is c.requires (turn (goal.at.loop-at-preserved c).In-Some)
      (length_push c.loop-at.yielded (c.in-Some.at, c.in-Some.c));
}

pub returns : goal.returns
returns c =
    let i = c.into_iter-at-iterator.ensures.into_iter_gives in
    let e = c.enumerate-at-items.ensures in
    let slice = YieldsList-at c.filter.ensures.source (YieldsList-from_slice c.args.text.now cc) in
    let t =
    YieldsList-end
    (YieldsList-at i (YieldsList-from_enumerate (YieldsList-at e.source (YieldsList-from_filter _ no_slot slice c.filter.ensures.closure (λ x r q k. search (rules, tests)))) e.count))
    c.loop-at.yielded _ c.loop-at.yielded_by _ _ c.in-None.is c.next.ensures.steps in
    slotless_end c.args.text.now c.args.out.now c.loop-at.invariant.is t.1
