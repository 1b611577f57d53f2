use mathlib.Core.Path.{sym, ap, ◌∙◌, refl}
use native.Mathlib.Omega.{arith}
use Rattle.std.specs.Prelude.{ℕ, length}
use borrow.Author.Tests.{eq-eqb, ne_eqb}
use Rattle.grammar.specs.Laws.Places.{starts_inside}
use Rattle.catalogue.specs.Recogniser.{lead}
use Rattle.normal_nodes.specs.Laws.Nodes.{letter_below}
use Rattle.normal_steps.specs.Laws.Moves.{copied_ready}
use Rattle.normal_steps.specs.Laws.Leads.{lead_is}
use Rattle.normal_steps.specs.declared.lead.Lead.TheVariants.{Digit, S, Letter, Wrap, N, L, None}
use Rattle.normal_writer.specs.Laws.Loops.{moved}
use Rattle.normal_writer.specs.Laws.Types.{Counted, arg_refused, arg_next, counted_next, args_end, args_again_lent, args_next, args_closed, enter_next}
use Rattle.normal_writer.specs.Laws.Types.{by_name, first_named, first_next, class_refused, class_answer, by_reference, first_referred, here_inside, moved_ready, referred_ready}
use Rattle.normal_writer.specs.Laws.Types.{type_end, type_by, letter_answer, literal_answer, none_answer, without_args, args_barred, args_refused, args_answer, wrap_refused, wrap_next, wrap_answer}
use Rattle.normal_writer.specs.Laws.Parts.{Onward, onward_as, onward_in_any, part_refused, part_next_lent, angled_barred, angled_refused, angled_next_lent}
use Rattle.normal_writer.specs.Laws.Parts.{end_lone, end_answer, more_behind, more_again_lent}
use Rattle.normal_writer.specs.Laws.Parts.{nested_refused, nested_next, nested_closed, nested_answer}
use Rattle.normal_writer.specs.Laws.Parts.{parts_end, parts_by, parts_other, parts_unnamed, parts_named, parts_unreferred, parts_barred, parts_referred}
use Rattle.normal_writer.proofs.cycle.+types.Goals.{args-After-here, more-After-here-in-loop-w, more-then-here+else-not-bare+in_ok-of, more-else-here+in_ok-of-2}
use Rattle.normal_writer.proofs.cycle.+types.Goals as goal

-- ---------------------------------------------------------------- args

pub args-returns-in_err-x : goal.args-returns-in_err-x
args-returns-in_err-x t c =
    rw c.from_residual.ensures (record {
      symbol = c.in_err-x.ensures.symbol ∙ c.loop-x.invariant.source;
      same = c.in_err-x.ensures.same ∙ c.loop-x.invariant.same;
      is = c.loop-x.invariant.whole c.ty.new.w _ (arg_refused c.loop-x.w c.ty.new.w c.loop-x.of c.in_err-x.ensures.is);
    })

pub args-arg-of-requires : goal.args-arg-of-requires
args-arg-of-requires t c =
    arg_next c.loop-x.w c.ty.new.w c.loop-x.of c.in_ok-x.ensures.is c.loop-x.invariant.small c.loop-x.invariant.ready

-- an argument was read
counted : (t : ℕ) (c : args-After-here t) → Counted c.loop-x.w c.arg-of.new.self c.arg-of.result
counted t c =
    counted_next c.loop-x.w c.ty.new.w c.loop-x.of c.in_ok-x.ensures.is c.arg-of.new.self c.arg-of.ensures.is c.loop-x.invariant.ready

pub args-overflow_add-w : goal.args-overflow_add-w
args-overflow_add-w t c =
    let a = counted t (goal.at.args-overflow_add-w t c).After-here in
    record { fits = omega (arith, a.holds.place, a.holds.source) }

pub args-returns-then-here : goal.args-returns-then-here
args-returns-then-here t c =
    record {
      symbol = c.arg-of.ensures.symbol ∙ c.in_ok-x.ensures.symbol ∙ c.loop-x.invariant.source;
      same = c.arg-of.ensures.same ∙ c.in_ok-x.ensures.same ∙ c.loop-x.invariant.same;
      is = c.loop-x.invariant.whole (moved c.arg-of.new.self) _
          (args_end c.loop-x.w c.ty.new.w c.loop-x.of c.in_ok-x.ensures.is c.arg-of.new.self c.arg-of.ensures.is (sym c.here.ensures ∙ c.if-here.true));
    }

pub args-loop-x-smaller : goal.args-loop-x-smaller
args-loop-x-smaller t c =
    let a = counted t (goal.at.args-loop-x-smaller t c).After-here in
    omega (arith, a.at, a.holds.place, ap length (c.arg-of.ensures.symbol ∙ c.in_ok-x.ensures.symbol))

pub args-loop-x-preserved : goal.args-loop-x-preserved
args-loop-x-preserved t c =
    args_again_lent c.loop-x.w c.ty.new.w c.loop-x.of c.in_ok-x.ensures.is c.arg-of.new.self c.arg-of.ensures.is
    (c.arg-of.ensures.symbol ∙ c.in_ok-x.ensures.symbol)
    (sym c.here.ensures ∙ c.if-here.false) (c.arg-of.ensures.same ∙ c.in_ok-x.ensures.same) c.loop-x.invariant

-- ---------------------------------------------------------------- more

pub more-returns-then-not-bare : goal.more-returns-then-not-bare
more-returns-then-not-bare t c =
    record {
      symbol = c.loop-w.invariant.1.source;
      same = c.loop-w.invariant.1.same;
      is = c.loop-w.invariant.1.whole c.loop-w.w _ (angled_barred c.loop-w.w c.loop-w.of c.loop-w.alone c.args.from (sym c.here.ensures ∙ c.if-here.true) c.tag_of.ensures
          (sym c.bare.ensures ∙ c.if-not-bare.true));
    }

pub more-copy_byte-requires : goal.more-copy_byte-requires
more-copy_byte-requires t c =
    (starts_inside _ _ 73 (sym c.here.ensures ∙ c.if-here.true), c.loop-w.invariant.1.ready)

pub more-args-requires : goal.more-args-requires
more-args-requires t c =
    let b = c.loop-w.invariant.1 in
    let l = starts_inside c.loop-w.w.s.now c.loop-w.w.state.at 73 (sym c.here.ensures ∙ c.if-here.true) in (
      omega (arith, c.decreases, b.further, ap length b.source, l, c.copy_byte.ensures.is.0, ap length c.copy_byte.ensures.symbol),
      (b.small, copied_ready c.loop-w.w c.copy_byte.new.self c.copy_byte.ensures.is l b.ready),
    )

pub more-returns-in_err-of : goal.more-returns-in_err-of
more-returns-in_err-of t c =
    rw c.from_residual.ensures (record {
      symbol = c.in_err-of.ensures.symbol ∙ c.copy_byte.ensures.symbol ∙ c.loop-w.invariant.1.source;
      same = c.in_err-of.ensures.same ∙ c.copy_byte.ensures.same ∙ c.loop-w.invariant.1.same;
      is = c.loop-w.invariant.1.whole c.args-then-here.new.w _
          (angled_refused c.loop-w.w c.loop-w.of c.loop-w.alone c.args.from (sym c.here.ensures ∙ c.if-here.true) c.tag_of.ensures (sym c.bare.ensures ∙ c.if-not-bare.false)
          c.copy_byte.new.self c.args-then-here.new.w c.copy_byte.ensures.symbol c.copy_byte.ensures.is c.in_err-of.ensures.is);
    })

pub more-close-requires : goal.more-close-requires
more-close-requires t c =
    args_next c.loop-w.w c.copy_byte.new.self c.args-then-here.new.w c.loop-w.of (sym c.here.ensures ∙ c.if-here.true) c.copy_byte.ensures.symbol
    c.copy_byte.ensures.is c.in_ok-of.ensures.is c.loop-w.invariant.1.ready

pub more-returns-in_err-of-2 : goal.more-returns-in_err-of-2
more-returns-in_err-of-2 t c =
    rw c.from_residual-in_err-of-2.ensures (record {
      symbol = c.in_err-of-2.ensures.symbol ∙ c.loop-w.invariant.1.source;
      same = c.in_err-of-2.ensures.same ∙ c.loop-w.invariant.1.same;
      is = c.loop-w.invariant.1.whole c.part.new.self _
          (part_refused c.loop-w.w c.loop-w.of c.loop-w.alone c.args.from c.part.new.self (sym c.here.ensures ∙ c.if-here.false) c.in_err-of-2.ensures.is);
    })

-- what was read on either branch
onward : (t : ℕ) (c : more-After-here-in-loop-w t) → Onward c.args.from c.loop-w.of c.loop-w.alone c.loop-w.w c.if-here.w c.if-here.of c.if-here.alone
onward t c =
    elim c.if-here.branch [
      | more-then-here+else-not-bare+in_ok-of x ↦ onward_as (angled_next_lent c.loop-w.w c.loop-w.of c.loop-w.alone c.args.from (sym c.here.ensures ∙ x.if-here.true)
          x.tag_of.ensures (sym x.bare.ensures ∙ x.if-not-bare.false)
          x.copy_byte.new.self x.args-then-here.new.w x.copy_byte.ensures.symbol x.copy_byte.ensures.is x.in_ok-of.ensures.is x.close.new.self
          x.close.ensures.is
          (x.close.ensures.symbol ∙ x.in_ok-of.ensures.symbol ∙ x.copy_byte.ensures.symbol)
          (x.close.ensures.same ∙ x.in_ok-of.ensures.same ∙ x.copy_byte.ensures.same) c.loop-w.invariant.0 c.loop-w.invariant.1.ready) x.w-is
          x.of-is x.alone-is
      | more-else-here+in_ok-of-2 x ↦ onward_as (part_next_lent c.loop-w.w c.loop-w.of c.loop-w.alone c.args.from x.part.new.self (sym c.here.ensures ∙ x.if-here.false)
          x.in_ok-of-2.ensures.symbol x.in_ok-of-2.ensures.is x.in_ok-of-2.ensures.same c.loop-w.invariant.0 c.loop-w.invariant.1.ready) x.w-is x.of-is x.alone-is
    ]

pub more-returns-then-alone : goal.more-returns-then-alone
more-returns-then-alone t c =
    let a = onward t (goal.at.more-returns-then-alone t c).After-here-in-loop-w in
    record {
      symbol = a.source ∙ c.loop-w.invariant.1.source;
      same = a.same ∙ c.loop-w.invariant.1.same;
      is = c.loop-w.invariant.1.whole c.if-here.w _ (a.rest c.if-here.w _
          (end_lone c.if-here.w c.if-here.of c.if-here.alone c.args.from (sym c.here-in-loop-w.ensures ∙ c.if-here-2.true) c.if-alone.true));
    }

pub more-overflow_add-w : goal.more-overflow_add-w
more-overflow_add-w t c =
    let a = onward t (goal.at.more-overflow_add-w t c).After-here-in-loop-w in
    record { fits = omega (arith, a.enclosed.ready.1.place, a.enclosed.ready.1.source) }

pub more-returns-then-here-2 : goal.more-returns-then-here-2
more-returns-then-here-2 t c =
    let a = onward t (goal.at.more-returns-then-here-2 t c).After-here-in-loop-w in
    record {
      symbol = a.source ∙ c.loop-w.invariant.1.source;
      same = a.same ∙ c.loop-w.invariant.1.same;
      is = c.loop-w.invariant.1.whole (moved c.if-here.w) _ (a.rest (moved c.if-here.w) _
          (end_answer c.if-here.w c.if-here.of c.if-here.alone c.args.from (sym c.here-in-loop-w.ensures ∙ c.if-here-2.true) c.if-alone.false
          a.enclosed.small a.enclosed.stretch));
    }

pub more-enter-requires : goal.more-enter-requires
more-enter-requires t c =
    let a = onward t (goal.at.more-enter-requires t c).After-here-in-loop-w in
    enter_next a.enclosed

pub more-loop-w-smaller : goal.more-loop-w-smaller
more-loop-w-smaller t c =
    let a = onward t (goal.at.more-loop-w-smaller t c).After-here-in-loop-w in
    let b = more_behind (onward_in_any a) c.enter.new.self c.enter.ensures.is c.enter.ensures.symbol in
    omega (arith, b.0, b.1, ap length (c.enter.ensures.symbol ∙ a.source))

pub more-loop-w-preserved : goal.more-loop-w-preserved
more-loop-w-preserved t c =
    let a = onward t (goal.at.more-loop-w-preserved t c).After-here-in-loop-w in
    more_again_lent a c.enter.new.self c.enter.ensures.is c.enter.ensures.symbol c.enter.ensures.same (sym c.here-in-loop-w.ensures ∙ c.if-here-2.false) c.loop-w.invariant.1

-- ---------------------------------------------------------------- named

pub named-returns-in_err-t : goal.named-returns-in_err-t
named-returns-in_err-t t c =
    rw c.from_residual.ensures (record {
      symbol = c.in_err-t.ensures.symbol;
      same = c.in_err-t.ensures.same;
      is = class_refused c.args.w.now c.first_name.new.self by_name (first_named c.args.w.now c.first_name.new.self c.in_err-t.ensures.is);
    })

pub named-with_args-requires : goal.named-with_args-requires
named-with_args-requires t c =
    let a = first_next c.args.w.now c.first_name.new.self by_name (first_named c.args.w.now c.first_name.new.self c.in_ok-t.ensures.is) c.requires.0 c.requires.1 in
    (omega (arith, a.0.0, a.0.1, c.decreases, ap length c.in_ok-t.ensures.symbol), a.1)

pub named-returns : goal.named-returns
named-returns t c =
    record {
      symbol = c.with_args.ensures.symbol ∙ c.in_ok-t.ensures.symbol;
      same = c.with_args.ensures.same ∙ c.in_ok-t.ensures.same;
      is = class_answer c.args.w.now c.first_name.new.self by_name (first_named c.args.w.now c.first_name.new.self c.in_ok-t.ensures.is) c.with_args.new.w
          c.in_ok-t.ensures.symbol c.with_args.ensures.is;
    }

-- ---------------------------------------------------------------- nested

pub nested-parts-requires : goal.nested-parts-requires
nested-parts-requires t c = (
  omega (arith, c.decreases, c.requires.0, c.copy_byte.ensures.is.0, ap length c.copy_byte.ensures.symbol),
  copied_ready c.args.w.now c.copy_byte.new.self c.copy_byte.ensures.is c.requires.0 c.requires.1,
)

pub nested-returns-in_err-u : goal.nested-returns-in_err-u
nested-returns-in_err-u t c =
    rw c.from_residual.ensures (record {
      symbol = c.in_err-u.ensures.symbol ∙ c.copy_byte.ensures.symbol;
      same = c.in_err-u.ensures.same ∙ c.copy_byte.ensures.same;
      is = nested_refused c.args.w.now c.copy_byte.new.self c.parts.new.w c.copy_byte.ensures.symbol c.copy_byte.ensures.is
          c.in_err-u.ensures.is;
    })

pub nested-close-requires : goal.nested-close-requires
nested-close-requires t c =
    nested_next c.args.w.now c.copy_byte.new.self c.parts.new.w c.copy_byte.ensures.symbol c.copy_byte.ensures.is c.in_ok-u.ensures.is c.requires.0
    c.requires.1

pub nested-enter_nested-requires : goal.nested-enter_nested-requires
nested-enter_nested-requires t c =
    enter_next (nested_closed c.args.w.now c.copy_byte.new.self c.parts.new.w c.copy_byte.ensures.symbol c.copy_byte.ensures.is c.in_ok-u.ensures.is
    c.close.new.self c.requires.0 c.requires.1 c.close.ensures.is)

pub nested-returns : goal.nested-returns
nested-returns t c =
    record {
      symbol = c.enter_nested.ensures.symbol ∙ c.close.ensures.symbol ∙ c.in_ok-u.ensures.symbol ∙ c.copy_byte.ensures.symbol;
      same = c.enter_nested.ensures.same ∙ c.close.ensures.same ∙ c.in_ok-u.ensures.same ∙ c.copy_byte.ensures.same;
      is = nested_answer c.args.w.now c.copy_byte.new.self c.parts.new.w c.copy_byte.ensures.symbol c.copy_byte.ensures.is c.in_ok-u.ensures.is
          c.close.new.self c.enter_nested.new.self c.close.ensures.is c.enter_nested.ensures.is;
    }

-- ---------------------------------------------------------------- parts

pub parts-returns-in_err-peek : goal.parts-returns-in_err-peek
parts-returns-in_err-peek t c =
    rw c.from_residual.ensures (record { symbol = refl; same = refl; is = parts_end c.args.w.now c.in_err-peek.ensures })

pub parts-returns-in_err-t-in-Digit : goal.parts-returns-in_err-t-in-Digit
parts-returns-in_err-t-in-Digit t c =
    rw c.from_residual-in_err-t-in-Digit.ensures (record {
      symbol = c.in_err-t-in-Digit.ensures.symbol;
      same = c.in_err-t-in-Digit.ensures.same;
      is = parts_by c.args.w.now c.first_name.new.self c.in_ok-peek.ensures
          (lead_is _ Digit (sym c.in-Digit.is ∙ c.lead_of.ensures)) (parts_unnamed c.args.w.now c.first_name.new.self
          (first_named c.args.w.now c.first_name.new.self c.in_err-t-in-Digit.ensures.is));
    })

pub parts-more-requires : goal.parts-more-requires
parts-more-requires t c =
    let a = first_next c.args.w.now c.first_name.new.self by_name (first_named c.args.w.now c.first_name.new.self c.in_ok-t-in-Digit.ensures.is)
    (here_inside c.args.w.now c.in_ok-peek.ensures) c.requires in
    (omega (arith, a.0.0, a.0.1, c.decreases, ap length c.in_ok-t-in-Digit.ensures.symbol), a.1)

pub parts-first_reference-requires : goal.parts-first_reference-requires
parts-first_reference-requires t c =
    referred_ready c.args.w.now (here_inside c.args.w.now c.in_ok-peek.ensures) c.requires

pub parts-returns-in_err-t-in-S : goal.parts-returns-in_err-t-in-S
parts-returns-in_err-t-in-S t c =
    rw c.from_residual-in_err-t-in-S.ensures (record {
      symbol = c.in_err-t-in-S.ensures.kept.symbol;
      same = c.in_err-t-in-S.ensures.kept.same;
      is = parts_by c.args.w.now c.first_reference.new.self c.in_ok-peek.ensures
          (lead_is _ S (sym c.in-S.is ∙ c.lead_of.ensures)) (parts_unreferred c.args.w.now c.first_reference.new.self
          (first_referred c.args.w.now c.first_reference.new.self c.in_err-t-in-S.ensures.kept.is));
    })

pub parts-tag_of-tag-requires : goal.parts-tag_of-tag-requires
parts-tag_of-tag-requires t c =
    (first_next c.args.w.now c.first_reference.new.self by_reference (first_referred c.args.w.now c.first_reference.new.self c.in_ok-t-in-S.ensures.kept.is)
    (here_inside c.args.w.now c.in_ok-peek.ensures) c.requires).1.1

pub parts-returns-then-not-class : goal.parts-returns-then-not-class
parts-returns-then-not-class t c =
    record {
      symbol = c.in_ok-t-in-S.ensures.kept.symbol;
      same = c.in_ok-t-in-S.ensures.kept.same;
      is = parts_by c.args.w.now c.first_reference.new.self c.in_ok-peek.ensures (lead_is _ S (sym c.in-S.is ∙ c.lead_of.ensures))
          (parts_barred c.args.w.now c.first_reference.new.self (first_referred c.args.w.now c.first_reference.new.self c.in_ok-t-in-S.ensures.kept.is) c.tag_of-tag.ensures
          (sym c.class.ensures ∙ c.if-not-class.true));
    }

pub parts-more-requires-in-S : goal.parts-more-requires-in-S
parts-more-requires-in-S t c =
    let a = first_next c.args.w.now c.first_reference.new.self by_reference (first_referred c.args.w.now c.first_reference.new.self c.in_ok-t-in-S.ensures.kept.is)
    (here_inside c.args.w.now c.in_ok-peek.ensures) c.requires in
    (omega (arith, a.0.0, a.0.1, c.decreases, ap length c.in_ok-t-in-S.ensures.kept.symbol), a.1)

pub parts-returns-in_ok-t-in-Digit : goal.parts-returns-in_ok-t-in-Digit
parts-returns-in_ok-t-in-Digit t c =
    record {
      symbol = c.more.ensures.symbol ∙ c.in_ok-t-in-Digit.ensures.symbol;
      same = c.more.ensures.same ∙ c.in_ok-t-in-Digit.ensures.same;
      is = parts_by c.args.w.now c.more.new.w c.in_ok-peek.ensures (lead_is _ Digit (sym c.in-Digit.is ∙ c.lead_of.ensures))
          (parts_named c.args.w.now c.first_name.new.self c.more.new.w c.in_ok-t-in-Digit.ensures.symbol
          (first_named c.args.w.now c.first_name.new.self c.in_ok-t-in-Digit.ensures.is) c.more.ensures.is);
    }

pub parts-returns-else-not-class : goal.parts-returns-else-not-class
parts-returns-else-not-class t c =
    record {
      symbol = c.more-in-S.ensures.symbol ∙ c.in_ok-t-in-S.ensures.kept.symbol;
      same = c.more-in-S.ensures.same ∙ c.in_ok-t-in-S.ensures.kept.same;
      is = parts_by c.args.w.now c.more-in-S.new.w c.in_ok-peek.ensures (lead_is _ S (sym c.in-S.is ∙ c.lead_of.ensures))
          (parts_referred c.args.w.now c.first_reference.new.self (first_referred c.args.w.now c.first_reference.new.self c.in_ok-t-in-S.ensures.kept.is)
          c.tag_of-tag.ensures c.more-in-S.new.w c.in_ok-t-in-S.ensures.kept.symbol
          (sym c.class.ensures ∙ c.if-not-class.false) (rw c.from.ensures at c.more-in-S.ensures.is));
    }

pub parts-returns-in_default : goal.parts-returns-in_default
parts-returns-in_default t c =
    record {
      is = parts_by c.args.w.now c.args.w.now c.in_ok-peek.ensures refl
          (parts_other c.args.w.now (lead c.in_ok-peek.field-0) (λ e. c.in_default.not-Digit (c.lead_of.ensures ∙ e))
          (λ e. c.in_default.not-S (c.lead_of.ensures ∙ e)));
      symbol = refl;
      same = refl;
    }

-- ---------------------------------------------------------------- referred

pub referred-first_reference-requires : goal.referred-first_reference-requires
referred-first_reference-requires t c =
    referred_ready c.args.w.now c.requires.0 c.requires.1

pub referred-returns-in_err-t : goal.referred-returns-in_err-t
referred-returns-in_err-t t c =
    rw c.from_residual.ensures (record {
      symbol = c.in_err-t.ensures.kept.symbol;
      same = c.in_err-t.ensures.kept.same;
      is = class_refused c.args.w.now c.first_reference.new.self by_reference
          (first_referred c.args.w.now c.first_reference.new.self c.in_err-t.ensures.kept.is);
    })

pub referred-with_args-requires : goal.referred-with_args-requires
referred-with_args-requires t c =
    let a = first_next c.args.w.now c.first_reference.new.self by_reference (first_referred c.args.w.now c.first_reference.new.self c.in_ok-t.ensures.kept.is)
    c.requires.0 c.requires.1 in
    (omega (arith, a.0.0, a.0.1, c.decreases, ap length c.in_ok-t.ensures.kept.symbol), a.1)

pub referred-returns : goal.referred-returns
referred-returns t c =
    record {
      symbol = c.with_args.ensures.symbol ∙ c.in_ok-t.ensures.kept.symbol;
      same = c.with_args.ensures.same ∙ c.in_ok-t.ensures.kept.same;
      is = class_answer c.args.w.now c.first_reference.new.self by_reference (first_referred c.args.w.now c.first_reference.new.self c.in_ok-t.ensures.kept.is)
          c.with_args.new.w c.in_ok-t.ensures.kept.symbol c.with_args.ensures.is;
    }

-- ---------------------------------------------------------------- ty

pub ty-returns-in_err-c : goal.ty-returns-in_err-c
ty-returns-in_err-c t c =
    rw c.from_residual.ensures (record { symbol = refl; same = refl; is = type_end c.args.w.now c.in_err-c.ensures })

pub ty-literal-requires : goal.ty-literal-requires
ty-literal-requires t c =
    moved_ready c.args.w.now (here_inside c.args.w.now c.in_ok-c.ensures) c.requires

pub ty-returns-in-Letter : goal.ty-returns-in-Letter
ty-returns-in-Letter t c =
    record {
      symbol = c.copy_byte.ensures.symbol;
      same = c.copy_byte.ensures.same;
      is = let a = lead_is _ Letter (sym c.in-Letter.is ∙ c.lead_of.ensures) in
          rw c.from.ensures (type_by c.args.w.now c.copy_byte.new.self c.in_ok-c.ensures a.1.0 (letter_answer c.args.w.now c.copy_byte.new.self a.0 _
          (omega (arith, letter_below a.0, a.1.1)) c.copy_byte.ensures.is));
    }

pub ty-returns-in-Wrap : goal.ty-returns-in-Wrap
ty-returns-in-Wrap t c =
    record {
      symbol = c.wrap.ensures.symbol;
      same = c.wrap.ensures.same;
      is = let a = lead_is _ Wrap (sym c.in-Wrap.is ∙ c.lead_of.ensures) in
          type_by c.args.w.now c.wrap.new.w c.in_ok-c.ensures a.1.0 (c.wrap.ensures.is a.0);
    }

pub ty-returns-in-Digit : goal.ty-returns-in-Digit
ty-returns-in-Digit t c =
    record {
      symbol = c.named.ensures.symbol;
      same = c.named.ensures.same;
      is = type_by c.args.w.now c.named.new.w c.in_ok-c.ensures (lead_is _ Digit (sym c.in-Digit.is ∙ c.lead_of.ensures)) (c.named.ensures.is _);
    }

pub ty-returns-in-S : goal.ty-returns-in-S
ty-returns-in-S t c =
    record {
      symbol = c.referred.ensures.symbol;
      same = c.referred.ensures.same;
      is = type_by c.args.w.now c.referred.new.w c.in_ok-c.ensures (lead_is _ S (sym c.in-S.is ∙ c.lead_of.ensures)) (c.referred.ensures.is _);
    }

pub ty-returns-in-N : goal.ty-returns-in-N
ty-returns-in-N t c =
    record {
      symbol = c.nested.ensures.symbol;
      same = c.nested.ensures.same;
      is = type_by c.args.w.now c.nested.new.w c.in_ok-c.ensures (lead_is _ N (sym c.in-N.is ∙ c.lead_of.ensures)) (c.nested.ensures.is _);
    }

pub ty-returns-in-L : goal.ty-returns-in-L
ty-returns-in-L t c =
    record {
      symbol = c.literal.ensures.symbol;
      same = c.literal.ensures.same;
      is = type_by c.args.w.now c.literal.new.self c.in_ok-c.ensures (lead_is _ L (sym c.in-L.is ∙ c.lead_of.ensures))
          (literal_answer c.args.w.now c.literal.new.self _ c.literal.ensures.is);
    }

pub ty-returns-in-None : goal.ty-returns-in-None
ty-returns-in-None t c =
    record {
      symbol = refl;
      same = refl;
      is = type_by c.args.w.now c.args.w.now c.in_ok-c.ensures (lead_is _ None (sym c.in-None.is ∙ c.lead_of.ensures)) (none_answer c.args.w.now _);
    }

-- ---------------------------------------------------------------- with_args

pub with_args-returns-then-not-here : goal.with_args-returns-then-not-here
with_args-returns-then-not-here t c =
    record {
      symbol = refl;
      same = refl;
      is = without_args c.args.w.now c.args.t c.args.from (sym c.here.ensures ∙ c.if-not-here.true) c.requires.0.0 c.requires.0.1;
    }

pub with_args-returns-then-tag_of-from : goal.with_args-returns-then-tag_of-from
with_args-returns-then-tag_of-from t c =
    record {
      symbol = refl;
      same = refl;
      is = args_barred c.args.w.now c.args.t c.args.from (sym c.here.ensures ∙ c.if-not-here.false) c.tag_of.ensures (ne_eqb _ _ (rw c.from.ensures at c.if-tag_of-from.true));
    }

pub with_args-copy_byte-requires : goal.with_args-copy_byte-requires
with_args-copy_byte-requires t c =
    (starts_inside _ _ 73 (sym c.here.ensures ∙ c.if-not-here.false), c.requires.1)

pub with_args-args-requires : goal.with_args-args-requires
with_args-args-requires t c =
    let l = starts_inside c.args.w.now.s.now c.args.w.now.state.at 73 (sym c.here.ensures ∙ c.if-not-here.false) in (
      omega (arith, c.decreases, l, c.copy_byte.ensures.is.0, ap length c.copy_byte.ensures.symbol),
      (c.requires.0.0, copied_ready c.args.w.now c.copy_byte.new.self c.copy_byte.ensures.is l c.requires.1),
    )

pub with_args-returns-in_err-u : goal.with_args-returns-in_err-u
with_args-returns-in_err-u t c =
    rw c.from_residual.ensures (record {
      symbol = c.in_err-u.ensures.symbol ∙ c.copy_byte.ensures.symbol;
      same = c.in_err-u.ensures.same ∙ c.copy_byte.ensures.same;
      is = args_refused c.args.w.now c.args.t c.args.from (sym c.here.ensures ∙ c.if-not-here.false) c.tag_of.ensures
          (eq-eqb _ _ (c.if-tag_of-from.false ∙ c.from.ensures)) c.copy_byte.new.self c.args-2.new.w
          c.copy_byte.ensures.symbol c.copy_byte.ensures.is c.in_err-u.ensures.is;
    })

pub with_args-close-requires : goal.with_args-close-requires
with_args-close-requires t c =
    args_next c.args.w.now c.copy_byte.new.self c.args-2.new.w c.args.t (sym c.here.ensures ∙ c.if-not-here.false) c.copy_byte.ensures.symbol
    c.copy_byte.ensures.is c.in_ok-u.ensures.is c.requires.1

pub with_args-enter-requires : goal.with_args-enter-requires
with_args-enter-requires t c =
    enter_next (args_closed c.args.w.now c.copy_byte.new.self c.args-2.new.w c.args.t (sym c.here.ensures ∙ c.if-not-here.false) c.copy_byte.ensures.symbol
    c.copy_byte.ensures.is c.in_ok-u.ensures.is
    c.close.new.self c.requires.1 c.requires.0.1 c.close.ensures.is)

pub with_args-returns : goal.with_args-returns
with_args-returns t c =
    record {
      symbol = c.enter.ensures.symbol ∙ c.close.ensures.symbol ∙ c.in_ok-u.ensures.symbol ∙ c.copy_byte.ensures.symbol;
      same = c.enter.ensures.same ∙ c.close.ensures.same ∙ c.in_ok-u.ensures.same ∙ c.copy_byte.ensures.same;
      is = args_answer c.args.w.now c.args.t c.args.from (sym c.here.ensures ∙ c.if-not-here.false) c.tag_of.ensures
          (eq-eqb _ _ (c.if-tag_of-from.false ∙ c.from.ensures)) c.copy_byte.new.self c.args-2.new.w
          c.copy_byte.ensures.symbol c.copy_byte.ensures.is c.close.new.self c.enter.new.self c.requires.0.1 c.in_ok-u.ensures.is
          c.close.ensures.is c.enter.ensures.is;
    }

-- ---------------------------------------------------------------- wrap

pub wrap-ty-requires : goal.wrap-ty-requires
wrap-ty-requires t c = (
  omega (arith, c.decreases, c.requires.0, c.copy_byte.ensures.is.0, ap length c.copy_byte.ensures.symbol),
  copied_ready c.args.w.now c.copy_byte.new.self c.copy_byte.ensures.is c.requires.0 c.requires.1,
)

pub wrap-returns-in_err-t : goal.wrap-returns-in_err-t
wrap-returns-in_err-t t c =
    rw c.from_residual.ensures (record {
      symbol = c.in_err-t.ensures.symbol ∙ c.copy_byte.ensures.symbol;
      same = c.in_err-t.ensures.same ∙ c.copy_byte.ensures.same;
      is = λ q. wrap_refused c.args.w.now c.copy_byte.new.self c.ty.new.w c.copy_byte.ensures.symbol c.copy_byte.ensures.is
          c.in_err-t.ensures.is q _;
    })

pub wrap-wrap-requires : goal.wrap-wrap-requires
wrap-wrap-requires t c =
    wrap_next c.args.w.now c.copy_byte.new.self c.ty.new.w c.copy_byte.ensures.symbol c.copy_byte.ensures.is c.in_ok-t.ensures.is c.requires.0 c.requires.1

pub wrap-returns : goal.wrap-returns
wrap-returns t c =
    record {
      symbol = c.wrap.ensures.symbol ∙ c.in_ok-t.ensures.symbol ∙ c.copy_byte.ensures.symbol;
      same = c.wrap.ensures.same ∙ c.in_ok-t.ensures.same ∙ c.copy_byte.ensures.same;
      is = λ q. wrap_answer c.args.w.now c.copy_byte.new.self c.ty.new.w c.copy_byte.ensures.symbol c.copy_byte.ensures.is c.in_ok-t.ensures.is c.wrap.new.self
          q _ c.wrap.ensures.is;
    }
