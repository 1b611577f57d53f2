use Rattle.std.proofs.Common.{◌≡◌, ℕ, ◌+◌, ◌≤◌, true, false, [], ◌∷◌, ◌++◌, length, refl, sym, ap, ◌∙◌, subst, arith, length-append, drop, Ok, Err, length-drop, slice_index_or, ◌<◌}
use Rattle.std.proofs.Common.{Bor, ◌-◌, length-take-le}
use Rattle.std.proofs.lemmas.Result.{err_from_is_err_and}
use Rattle.grammar.specs.Text.{Text, b, same, starts, choose, if◌then◌otherwise◌, run}
use Rattle.grammar.specs.Tables.{◌⇒◌, letters, d_letters, operators}
use Rattle.grammar.specs.Reader.{State, ok, onto, push_sub, give, at_code, recorded, return, ◌>>◌, find, by_code, refused, word_for}
use Rattle.grammar.specs.Grammar.{reading, ⟨source-name⟩, ⟨nested-name⟩, ⟨unqualified-name⟩, ⟨type⟩, ⟨name⟩, class_type, type_instance, nested_type, name_instance, unscoped_name}
use Rattle.grammar.specs.Grammar.{type_inner, name_inner, last, Production, std_ahead, ⟨template-param⟩, s_type, s_name, local_name, local_encoding, structor_ahead}
use Rattle.grammar.specs.Laws.Steps.{at_code_yes, at_code_no, from_text, same_from, inner_end, inner_letter, inner_D, inner_N, inner_T, inner_S, inner_class, inner_A, inner_F, inner_M}
use Rattle.grammar.specs.Laws.Steps.{inner_u, inner_wrapper}
use Rattle.parser.specs.declared.demangler.Demangler.{Demangler}
use Rattle.parser.specs.Holds.{reads, refuses, keep, part, Puts, Refines, window}
use Rattle.parser.specs.Demanglers.{state_of, memory_of, Held, at_place, outcome, Prepared, given_length, Parses, Eats, at_depth, lent}
use Rattle.parser.specs.Laws.Demanglers.{Passed, puts_of, outcome_given, took, took_none, ate, ate_none, needed, lacked, lacked_parses, parses_as, parses_none, held_at, prepared_at, lent_stack}
use Rattle.parser.specs.Laws.Demanglers.{gives_word, done, given_by, given_ok, given_err, went_in}
use Rattle.parser.specs.Laws.Halves.{newest_part, give_short}
use Rattle.parser.specs.Laws.Holds.{by, sooner, less, holds_moved, got, refused_on, answers, short_enough, holds_puts}
use Rattle.reader.specs.Laws.Demanglers.{held_from, reads_from, instance_from, ahead_from, read_of, prepared_behind, deep_parses, prepared_in, refused_parses, read_parses}
use Rattle.reader.specs.Laws.Opens.{wrapped_is, member_is, on_got, wrote_fits, type_opens, name_opens, s_std, s_sub, s_sub_read}
use Rattle.reader.specs.Laws.Standing.{stands_at, stands_both, joined, wrote_least, given_as, word_holds, word_joined, stands_least, fewer}
use Rattle.reader.proofs.Entries.{narrow, parses_narrow, stood, stands_top, instance_at, kept_sub, push_refused, argument_kept}
use Rattle.reader.specs.Instances.{instance_of, at_S_of, bare, marked}
use Rattle.reader.specs.Laws.Instances.{Passes, at_S_is, instance_is, passed}
use Rattle.reader.specs.Laws.Joined.{part_T, part_other, part_digit, prefix_structor, prefix_S, prefix_I, prefix_new, old_is, new_is, two_bytes, parts_by, unread_on, unpushed_on, parted_as}
use Rattle.reader.specs.Laws.Joined.{parted_more, pushes_alike, Behind, behind_last, behind_more, more_top}
use Rattle.reader.specs.Laws.Items.{argument_refused, listing_start, listing_more, listed_ends, listed_refuses, at_end, at_byte}
use Rattle.parser.specs.Laws.References.{given_some, given_none}
use Rattle.reader.proofs.TypeHeads.{spelled_is, spelled_not, digit_head, left_over, no_D, no_N, no_T, no_S}
use Rattle.reader.proofs.Passing.{letter_read, letter_refused, byte_there, none_there, passed_stands, parses_from, passed_from, two_is, two_inside, two_second, none_left, put_at}
use Rattle.reader.proofs.Passing.{parses_put, parses_behind, read_stayed, given_behind}
use Rattle.reader.proofs.Spacings.{items_from, no_items_from, peeked_from, item_from}
use Rattle.reader.proofs.Names.{bared, bared_not, marked_too, marked_not, std-rest, std-inside, std-open, structor_symbol, structor_alone, structor_same}
use Rattle.reader.specs.Laws.Arrays.{byte_at, byte_is, byte_inside, no_byte, array_4, array_in, array_given, part_size, no_name_code}
use Rattle.reader.specs.Laws.Heads.{no_letter, Row_of, lettered_row, between_row, no_head, digit_in, digit_not}
use Rattle.reader.proofs.cycle.+readers.Goals.{type_inner-in_default-c-via-then-c-lt48, type_inner-in_default-c-via-else-c-lt48+else-c-lt58, behind_letter-in-67-1}
use Rattle.reader.proofs.cycle.+readers.Goals.{behind_letter-in_default+else-c-lt79+then-c-lt81, instance-then-named, instance-else-named, instance-then-named-2, instance-else-named-2}
use Rattle.reader.proofs.cycle.+readers.Goals.{unqualified_name-in_default-via-then-this-lt48, unqualified_name-in_default-via-else-this-lt48+else-this-lt58}
use Rattle.reader.proofs.cycle.+readers.Goals.{operator_name-then-a-ne99-via-then-a-ne99, operator_name-then-a-ne99-via-else-a-ne99+then-c-ne118, nested_name-then-parts}
use Rattle.reader.proofs.cycle.+readers.Goals.{nested_name-else-parts, template_args-then-eq, template_args-else-eq}
use Rattle.reader.specs.declared.lists.Kind.TheVariants.{Types}
use Rattle.reader.specs.Laws.Funcs.{function_open, function_of, func_stands, func_ended}
use Rattle.reader.specs.Laws.Closes.{got_list, list_refused, closed_no, closed_yes, then_refused, then_ok, behind_is, args_no, arg_literal, arg_skipped, arg_open, arg_pack, arg_other}
use Rattle.reader.specs.Laws.Closes.{skips_to, skips_none}
use Rattle.grammar.specs.Laws.NameSteps.{name_N, name_S, name_L, name_Z, name_other, name_end, unqualified_C, unqualified_D, unqualified_C_4, unqualified_D_4}
use Rattle.reader.specs.Laws.Lits.{local_none, local_refused, local_got, local_string, local_name_ready, local_name_refused, local_name_got, local_given, lit_none, lit_name_refused}
use Rattle.reader.specs.Laws.Lits.{lit_type_refused, lit_type_got, lit_open, lit_ready, lit_given}
use Rattle.reader.proofs.Parts.{structor_parts, parts_kept, args_kept, cleared_state, cleared_held, cleared_lent}
use Rattle.reader.proofs.Literals.{name_primary, printed_from}
use Rattle.grammar.specs.States.{read, peeked}
use Rattle.reader.specs.Laws.LocFns.{fn_refused, fn_bare, fn_items_ready, fn_items_refused, fn_long, fn_open, fn_given}
use Rattle.reader.specs.Laws.Opers.{unq_ready, unq_end, unq_U, unq_digit, unq_operator, operator_short, operator_word, operator_no_c, operator_no_v, oper_holds, oper_refused, oper_typed}
use Rattle.reader.specs.Laws.Nested.{nested_4, prefixing_start}
use Rattle.reader.proofs.Nested.{symbol_behind, nested_ends_lent, nested_ready, nested_closes_lent, nested_refuses_lent, nested_nearer, nested_more, nested_further, same_behind}
use Rattle.std.specs.Prelude.{Some, None, not, ◌==◌}
use Rattle.grammar.specs.Limits.{most_text_bytes}
use Rattle.parser.specs.Halves.{with_args}
use Rattle.reader.specs.Laws.Argued.{Ended, After, args_is as prefix_args_is, after_none, after_some, argued_parts}
use Rattle.reader.specs.Lists.{parted, unparted}
use Rattle.reader.specs.declared.lists.Parts.{Parts}
use Rattle.store.specs.Stack.{Put, Stack as Stacked}
use Rattle.store.specs.declared.stack.Stack.{Stack}
use Rattle.reader.specs.Laws.Brackets.{stands_some}
use Rattle.reader.proofs.Angles.{angles_in_any, opened, opened_lent, opened_held, args_too_deep, args_no_list_lent, args_unclosed_lent, list_is, bracketed, close_of, newest_byte, args_closed_lent}
use Rattle.grammar.specs.declared.refusal.Refusal.TheVariants.{NoRule}
use Rattle.parser.specs.Leaves.{Skips}
use Rattle.reader.specs.Laws.Packs.{packed_start, packed_4, packed_opens, packed_closes, packed_more, packed_refuses, packed_ends, packed_long, inside, outer_small, text_short, text_further}
use Rattle.reader.proofs.cycle.+readers.Goals as goal

-- ---------------------------------------------------------------- ty

pub ty-returns-in_err-enter : goal.ty-returns-in_err-enter
ty-returns-in_err-enter t c =
    let p = err_from_is_err_and c.from_residual.result c.from_residual.ensures.1 in
    rw (p.1, p.2) (deep_parses ⟨type⟩ (type_inner reading) type_opens c.args.d.now c.in_err-enter.ensures)

pub ty-type_inner-requires : goal.ty-type_inner-requires
ty-type_inner-requires t c =
    let e = (went_in c.in_ok-enter.ensures).1 in
    (omega (arith, c.decreases, ap (λ (x : Demangler). x.state.at) e, ap (λ (x : Demangler). length x.s.now) e), prepared_in ⟨type⟩ (type_inner reading) type_opens c.args.d.now c.in_ok-enter.ensures c.requires)

pub ty-returns-in_err-n : goal.ty-returns-in_err-n
ty-returns-in_err-n t c =
    let p = err_from_is_err_and c.from_residual-in_err-n.result c.from_residual-in_err-n.ensures.1 in
    rw (p.1, p.2) (refused_parses ⟨type⟩ (type_inner reading) type_opens c.args.d.now c.in_ok-enter.ensures c.in_err-n.ensures)

pub ty-returns : goal.ty-returns
ty-returns t c = read_parses ⟨type⟩ (type_inner reading) type_opens c.args.d.now c.in_ok-enter.ensures c.leave.ensures c.in_ok-n.ensures

-- ---------------------------------------------------------------- type_inner

pub type_inner-returns-in_err-c : goal.type_inner-returns-in_err-c
type_inner-returns-in_err-c t c =
    let p = err_from_is_err_and c.from_residual.result c.from_residual.ensures.1 in
    let f = given_none c.peek.result _ c.in_err-c.ensures.value in
    rw (p.1, p.2, f.1) (record { symbol = refl; same = refl; reads = λ σ h. by (from_text (type_inner reading) σ (no_byte h c.peek.ensures f.0) (inner_end [] σ)) refuses })

pub type_inner-returns-in-Some : goal.type_inner-returns-in-Some
type_inner-returns-in-Some t c =
    let f = given_some c.peek.result _ c.in_ok-c.ensures.value in
    let v = spelled_is letters (c.in_ok-c.c ∷ []) c.builtin.ensures c.in-Some.is in
    record {
      symbol = refl;
      same = lent_stack c.args.d.now c.put.new.self c.put.ensures.same;
      reads = λ σ h. let l = byte_inside h c.peek.ensures f in
          by (from_text (type_inner reading) σ (byte_at h c.peek.ensures f) (inner_letter _ _ σ _ (sym v.0)))
          (less (omega (arith, h.deep))
          (gives_word c.args.d.now {d₁ = at_place c.args.d.now (c.args.d.now.state.at + 1)} c.put.new.self refl h (omega (arith, l)) (omega arith) (omega (arith, v.1)) c.put.ensures.left));
    }

pub type_inner-returns-in-68 : goal.type_inner-returns-in-68
type_inner-returns-in-68 t c =
    let f = given_some c.peek.result _ c.in_ok-c.ensures.value in
    let k = c.builtin_d.ensures in
    record {
      symbol = k.symbol;
      same = k.same;
      reads = λ σ h. let e = byte_is h c.peek.ensures 68 f c.in-68.is in
          by (same_from (type_inner reading) (by_code d_letters (λ w. give (b w)) (λ _. refused 4)) σ e (inner_D _ σ))
          (less (omega (arith, h.deep)) (sooner (omega arith) (k.is _ σ e h)));
    }

pub type_inner-returns-in-78 : goal.type_inner-returns-in-78
type_inner-returns-in-78 t c =
    let f = given_some c.peek.result _ c.in_ok-c.ensures.value in
    parses_as (λ σ h. same_from (type_inner reading) (nested_type reading) σ (byte_is h c.peek.ensures 78 f c.in-78.is) (inner_N _ σ)) c.nested_type.ensures

pub type_inner-returns-in-84 : goal.type_inner-returns-in-84
type_inner-returns-in-84 t c =
    let f = given_some c.peek.result _ c.in_ok-c.ensures.value in
    parses_as (λ σ h. same_from (type_inner reading) (reading ⟨template-param⟩) σ (byte_is h c.peek.ensures 84 f c.in-84.is) (inner_T _ σ)) (parses_narrow c.template_param.ensures.parses)

pub type_inner-returns-in-83 : goal.type_inner-returns-in-83
type_inner-returns-in-83 t c =
    let f = given_some c.peek.result _ c.in_ok-c.ensures.value in
    parses_as (λ σ h. same_from (type_inner reading) (s_type reading) σ (byte_is h c.peek.ensures 83 f c.in-83.is) (inner_S _ σ)) c.at_s.ensures

pub type_inner-returns-in-48-to-57 : goal.type_inner-returns-in-48-to-57
type_inner-returns-in-48-to-57 t c =
    let f = given_some c.peek.result _ c.in_ok-c.ensures.value in
    parses_as
    (λ σ h. same_from (type_inner reading) (class_type reading) σ (byte_at h c.peek.ensures f)
    (inner_class _ _ σ (no_letter _ _ (spelled_not letters (c.in_ok-c.c ∷ []) c.builtin.ensures c.in_default.is)) (digit_head _ c.in-48-to-57.if-c-lt58-own.true)))
    c.class_type.ensures

pub type_inner-returns-in_default-c : goal.type_inner-returns-in_default-c
type_inner-returns-in_default-c t c =
    let f = given_some c.peek.result _ c.in_ok-c.ensures.value in
    let k = c.behind_letter.ensures in
    let i = c.in_default-1.rest in
    let n = left_over _ i.0.0.0.1 i.0.0.1 i.0.1 i.1
    (elim c.in_default-c.branch [ type_inner-in_default-c-via-then-c-lt48 w ↦ (λ j. omega arith) | type_inner-in_default-c-via-else-c-lt48+else-c-lt58 w ↦ (λ j. omega arith) ]) in
    record {
      symbol = k.symbol;
      same = k.same;
      reads = λ σ h. let e = byte_at h c.peek.ensures f in k.is σ h _ e (ap (find letters) e ∙ no_letter _ _ (spelled_not letters (c.in_ok-c.c ∷ []) c.builtin.ensures c.in_default.is)) n;
    }

-- ---------------------------------------------------------------- behind_letter

pub behind_letter-array_type-requires : goal.behind_letter-array_type-requires
behind_letter-array_type-requires t c =
    (omega (arith, c.decreases, c.requires.1), (_, holds_moved c.requires.0.1 (c.args.d.now.state.at + 1) (omega (arith, c.requires.1))))

pub behind_letter-function_type-requires : goal.behind_letter-function_type-requires
behind_letter-function_type-requires t c =
    (omega (arith, c.decreases, c.requires.1), (_, holds_moved c.requires.0.1 (c.args.d.now.state.at + 1) (omega (arith, c.requires.1))))

pub behind_letter-pointer_to_member_type-requires : goal.behind_letter-pointer_to_member_type-requires
behind_letter-pointer_to_member_type-requires t c =
    (omega (arith, c.decreases, c.requires.1), (_, holds_moved c.requires.0.1 (c.args.d.now.state.at + 1) (omega (arith, c.requires.1))))

pub behind_letter-wrapped-requires : goal.behind_letter-wrapped-requires
behind_letter-wrapped-requires t c =
    (omega (arith, c.decreases, c.requires.1), (_, holds_moved c.requires.0.1 (c.args.d.now.state.at + 1) (omega (arith, c.requires.1))))

pub behind_letter-returns-in-65 : goal.behind_letter-returns-in-65
behind_letter-returns-in-65 t c =
    letter_read c.args.d.now 65 c.in-65.is c.requires.1 (omega arith) (λ u. omega arith) (λ t σ. inner_A t σ) c.array_type.ensures

pub behind_letter-returns-in-70 : goal.behind_letter-returns-in-70
behind_letter-returns-in-70 t c =
    letter_read c.args.d.now 70 c.in-70.is c.requires.1 (omega arith) (λ u. omega arith) (λ t σ. inner_F t σ) c.function_type.ensures

pub behind_letter-returns-in-77 : goal.behind_letter-returns-in-77
behind_letter-returns-in-77 t c =
    letter_read c.args.d.now 77 c.in-77.is c.requires.1 (omega arith) (λ u. omega arith) (λ t σ. inner_M t σ) c.pointer_to_member_type.ensures

pub behind_letter-returns-in-117 : goal.behind_letter-returns-in-117
behind_letter-returns-in-117 t c =
    letter_read c.args.d.now 117 c.in-117.is c.requires.1 (omega arith) (λ u. omega (arith, u)) (λ t σ. inner_u t σ) c.source_name.ensures.parses

pub behind_letter-returns-in_default : goal.behind_letter-returns-in_default
behind_letter-returns-in_default t c =
    let i = c.in_default.in_default-own.rest in
    letter_refused c.args.d.now
    (λ g. no_head _ (((((((((tt, i.0.0.0.0.1), i.0.0.0.1), i.0.0.1), i.0.1), no_D _ g), i.1), no_N _ g), no_T _ g), no_S _ g)
    (λ j. omega (arith, j, c.in_default.if-c-lt79-own.true)) (λ j. omega (arith, j, c.in_default.if-c-lt79-own.true)))

pub behind_letter-returns-in_default-2 : goal.behind_letter-returns-in_default-2
behind_letter-returns-in_default-2 t c =
    let i = c.in_default.in_default-own.rest in
    letter_refused c.args.d.now
    (λ g. no_head _ (((((((((tt, i.0.0.0.0.1), i.0.0.0.1), i.0.0.1), i.0.1), no_D _ g), i.1), no_N _ g), no_T _ g), no_S _ g)
    (λ j. omega (arith, j, c.in_default.if-c-lt81-own.false)) (λ j. omega (arith, j, c.in_default.if-c-lt81-own.false)))

pub behind_letter-returns-in-80 : goal.behind_letter-returns-in-80
behind_letter-returns-in-80 t c =
    let k = c.wrapped.ensures in
    let v : Row_of c.args.c =
    elim c.in-80-1.branch [ behind_letter-in-67-1 x ↦ lettered_row _ x.in-67-1.keys1 | behind_letter-in_default+else-c-lt79+then-c-lt81 y ↦ between_row _ (λ j. omega (arith, j, y.if-c-lt79-1.false)) (λ j. omega (arith, j, y.if-c-lt79-1.false)) (omega (arith, y.if-c-lt79-1.false)) y.if-c-lt81-1.true ] in
    record {
      symbol = k.symbol;
      same = k.same;
      is = λ σ h t e f g.
          by (from_text (type_inner reading) σ (byte_there c.args.d.now h e) (inner_wrapper _ _ σ v.0 (none_there c.args.d.now h e f) v.1.1 (v.1.0 _)))
          (sooner (omega arith) (k.is v.0 v.1.0 _ (holds_moved h (c.args.d.now.state.at + 1) (omega (arith, c.requires.1)))));
    }

-- ---------------------------------------------------------------- wrapped

pub wrapped-returns-in_err-n : goal.wrapped-returns-in_err-n
wrapped-returns-in_err-n t c =
    let p = err_from_is_err_and c.from_residual.result c.from_residual.ensures.1 in
    let k = c.in_err-n.ensures in
    rw (p.1, p.2) (record { symbol = k.symbol; same = k.same; is = λ u w σ h. by (wrapped_is u σ) (refused_on _ refl (k.reads σ h)) })

pub wrapped-wrap-requires : goal.wrapped-wrap-requires
wrapped-wrap-requires t c =
    wrote_fits (read_of c.in_ok-n.ensures c.requires.1).wrote (omega arith)

pub wrapped-returns : goal.wrapped-returns
wrapped-returns t c =
    let k = c.in_ok-n.ensures in
    record {
      symbol = c.wrap.ensures.symbol ∙ k.symbol;
      same = c.wrap.ensures.same ∙ k.same;
      is = λ u w σ h.
          let v = read_of k h in
          by (wrapped_is u σ ∙ on_got _ v) (c.wrap.ensures.is _ _ _ _ _ _ _ u w (stands_at _ _ v.wrote (omega arith) (omega arith) (omega arith) (omega (arith, h.deep))));
    }

-- ---------------------------------------------------------------- function_type

pub function_type-returns-in_err-r : goal.function_type-returns-in_err-r
function_type-returns-in_err-r t c =
    let p = err_from_is_err_and c.from_residual.result c.from_residual.ensures.1 in
    rw (p.1, p.2) (parses_none _ (λ σ h. function_open σ) c.in_err-r.ensures)

pub function_type-returns-in_err-list : goal.function_type-returns-in_err-list
function_type-returns-in_err-list t c =
    let p = err_from_is_err_and c.from_residual-in_err-list.result c.from_residual-in_err-list.ensures.1 in
    let k = c.in_ok-r.ensures in
    let z = puts_of c.ty.new.d c.put.new.self c.put.ensures.left in
    let i = no_items_from Types (record c.ty.new.d { stack = c.put.new.self }) k.symbol _ c.in_err-list.ensures in
    rw (p.1, p.2) (record {
      symbol = c.in_err-list.ensures.symbol ∙ k.symbol;
      same = c.in_err-list.ensures.same ∙ lent_stack c.ty.new.d c.put.new.self c.put.ensures.same ∙ k.same;
      reads = λ σ h. let g = got refl (k.reads σ h) in
          by (function_of σ g.is ∙ then_refused _ (then_refused _ (list_refused refl (i _ (holds_puts z g.wrote.holds))))) refuses;
    })

pub function_type-returns-in_err-need : goal.function_type-returns-in_err-need
function_type-returns-in_err-need t c =
    let p = err_from_is_err_and c.from_residual-in_err-need.result c.from_residual-in_err-need.ensures.1 in
    let k = c.in_ok-r.ensures in
    let z = puts_of c.ty.new.d c.put.new.self c.put.ensures.left in
    let i = items_from Types (record c.ty.new.d { stack = c.put.new.self }) k.symbol c.in_ok-list.list c.in_ok-list.ensures in
    let e = c.in_ok-list.ensures.symbol ∙ k.symbol in
    let o = lacked c.in_err-need.ensures in
    rw (p.1, p.2, o.why_is) (record {
      symbol = ap (λ (x : Demangler). x.s.now) o.is ∙ e;
      same = ap lent o.is ∙ c.in_ok-list.ensures.same ∙ lent_stack c.ty.new.d c.put.new.self c.put.ensures.same ∙ k.same;
      reads = λ σ h. let g = got refl (k.reads σ h) in
          let w = got_list refl (i _ (holds_puts z g.wrote.holds)) in
          by (function_of σ g.is ∙ then_refused _ (closed_no w.is (ap (λ (t : Text). starts t (69 ∷ [])) (w.stands.holds.rest ∙ ap (drop c.items.new.d.state.at) (sym e)) ∙ o.so))) refuses;
    })

pub function_type-func_end-requires : goal.function_type-func_end-requires
function_type-func_end-requires t c =
    let k = c.in_ok-r.ensures in
    let z = puts_of c.ty.new.d c.put.new.self c.put.ensures.left in
    let i = items_from Types (record c.ty.new.d { stack = c.put.new.self }) k.symbol c.in_ok-list.list c.in_ok-list.ensures in
    let e = c.in_ok-list.ensures.symbol ∙ k.symbol in
    let v = needed c.in_ok-need.ensures in
    let g = got refl (k.reads _ c.requires.1) in
    let w = got_list refl (i _ (holds_puts z g.wrote.holds)) in
    let y = passed_stands v e (func_stands g.wrote z c.requires.1.deep w.stands) in
    ((_, held_from c.need.new.self (ap (λ (x : Demangler). x.s.now) v.is ∙ e) y.holds), (omega (arith, g.wrote.size, g.wrote.short), (omega (arith, w.stands.size), omega (arith, stands_least y))))

pub function_type-returns : goal.function_type-returns
function_type-returns t c =
    let k = c.in_ok-r.ensures in
    let z = puts_of c.ty.new.d c.put.new.self c.put.ensures.left in
    let i = items_from Types (record c.ty.new.d { stack = c.put.new.self }) k.symbol c.in_ok-list.list c.in_ok-list.ensures in
    let e = c.in_ok-list.ensures.symbol ∙ k.symbol in
    let v = needed c.in_ok-need.ensures in
    record {
      symbol = ap (λ (x : Demangler). x.s.now) c.func_end.ensures.others ∙ ap (λ (x : Demangler). x.s.now) v.is ∙ e;
      same = c.func_end.ensures.same ∙ ap lent v.is ∙ c.in_ok-list.ensures.same ∙ lent_stack c.ty.new.d c.put.new.self c.put.ensures.same ∙ k.same;
      reads = λ σ h.
          let g = got refl (k.reads σ h) in
          let w = got_list refl (i _ (holds_puts z g.wrote.holds)) in
          by (function_of σ g.is ∙ then_ok _ (closed_yes w.is (ap (λ (t : Text). starts t (69 ∷ [])) (w.stands.holds.rest ∙ ap (drop c.items.new.d.state.at) (sym e)) ∙ v.past.ahead))
          ∙ ap (recorded _) (behind_is c.args.d.now.s.now c.items.new.d.state.at w.state w.stands.holds.rest))
          (func_ended g.said w.texts c.func_end.ensures.is (passed_stands v e (func_stands g.wrote z h.deep w.stands)) g.wrote.size w.stands.size w.count_is);
    }

-- ---------------------------------------------------------------- array_type

pub array_type-returns-in_err-need : goal.array_type-returns-in_err-need
array_type-returns-in_err-need t c =
    let p = err_from_is_err_and c.from_residual.result c.from_residual.ensures.1 in
    let w = lacked c.in_err-need.ensures in
    rw (p.1, p.2, w.why_is) (record { symbol = ap (λ (x : Demangler). x.s.now) w.is; same = ap lent w.is; reads = λ σ h. by (array_4 _ _ σ h.rest c.before-to.ensures.0 w.so) refuses })

pub array_type-ty-requires : goal.array_type-ty-requires
array_type-ty-requires t c =
    let v = needed c.in_ok-need.ensures in
    (omega (arith, c.decreases, v.past.inside, c.before-to.ensures.0, ap (λ (x : Demangler). x.state.at) v.is, ap (λ (x : Demangler). length x.s.now) v.is), (_, held_at {d = c.args.d.now} {at = c.before-to.result + 1} v.is (omega (arith, v.past.inside)) c.requires.1))

pub array_type-returns-in_err-n : goal.array_type-returns-in_err-n
array_type-returns-in_err-n t c =
    let p = err_from_is_err_and c.from_residual-in_err-n.result c.from_residual-in_err-n.ensures.1 in
    let v = needed c.in_ok-need.ensures in
    let j = parses_from (λ n. keep (n + 1)) c.args.d.now (c.before-to.result + 1) v.is c.in_err-n.ensures in
    rw (p.1, p.2) (record {
      symbol = j.symbol;
      same = j.same;
      reads = λ σ h.
          by (array_in _ _ σ h.rest c.before-to.ensures.0 v.past.ahead) (refused_on _ refl (j.reads _ (holds_moved h (c.before-to.result + 1) (omega (arith, v.past.inside)))));
    })

pub array_type-overflow_add-n : goal.array_type-overflow_add-n
array_type-overflow_add-n t c =
    let v = needed c.in_ok-need.ensures in
    let j = parses_from (λ n. keep (n + 1)) c.args.d.now (c.before-to.result + 1) v.is c.in_ok-n.ensures in
    let w = got refl (j.reads _ (holds_moved c.requires.1 (c.before-to.result + 1) (omega (arith, v.past.inside)))) in
    omega (arith, w.wrote.size, w.wrote.short)

pub array_type-overflow_add-n-2 : goal.array_type-overflow_add-n-2
array_type-overflow_add-n-2 t c =
    let v = needed c.in_ok-need.ensures in
    let j = parses_from (λ n. keep (n + 1)) c.args.d.now (c.before-to.result + 1) v.is c.in_ok-n.ensures in
    let w = got refl (j.reads _ (holds_moved c.requires.1 (c.before-to.result + 1) (omega (arith, v.past.inside)))) in
    omega (arith, w.wrote.size, w.wrote.short, v.past.inside, c.requires.1.source)

pub array_type-returns : goal.array_type-returns
array_type-returns t c =
    let v = needed c.in_ok-need.ensures in
    let j = parses_from (λ n. keep (n + 1)) c.args.d.now (c.before-to.result + 1) v.is c.in_ok-n.ensures in
    let x = puts_of c.ty.new.d c.put.new.self c.put.ensures.left in
    let y = puts_of (record c.ty.new.d { stack = c.put.new.self }) c.put-2.new.self c.put-2.ensures.left in
    let y' = subst (λ (t : Text). Puts c.put.new.self.bytes.now c.put-2.new.self.bytes.now (state_of (record c.ty.new.d { stack = c.put.new.self })) (state_of (record c.ty.new.d { stack = c.put-2.new.self })) (part t c.args.d.now.state.at c.before-to.result)) j.symbol y in
    let z = puts_of (record c.ty.new.d { stack = c.put-2.new.self }) c.put-3.new.self c.put-3.ensures.left in
    record {
      symbol = j.symbol;
      same = lent_stack c.ty.new.d c.put-3.new.self (c.put-3.ensures.same ∙ c.put-2.ensures.same ∙ c.put.ensures.same) ∙ j.same;
      reads = λ σ h.
          let w = got refl (j.reads _ (holds_moved h (c.before-to.result + 1) (omega (arith, v.past.inside)))) in
          let l = part_size h _ c.before-to.ensures.1 in
          by (array_in _ _ σ h.rest c.before-to.ensures.0 v.past.ahead ∙ on_got _ w)
          (array_given _ (stands_at _ _ w.wrote (omega arith) (omega (arith, c.before-to.ensures.0)) (omega arith) (omega (arith, h.deep))) w.wrote.short
          (omega (arith, l, v.past.inside, h.source)) x y' z (omega (arith, l))
          (ap (outcome (state_of (record c.ty.new.d { stack = c.put-3.new.self }))) c.given.ensures ∙ outcome_given _ _));
    }

-- ---------------------------------------------------------------- pointer_to_member_type

pub pointer_to_member_type-returns-in_err-c : goal.pointer_to_member_type-returns-in_err-c
pointer_to_member_type-returns-in_err-c t c =
    let p = err_from_is_err_and c.from_residual.result c.from_residual.ensures.1 in
    rw (p.1, p.2) (parses_none _ (λ σ h. member_is σ) c.in_err-c.ensures)

pub pointer_to_member_type-returns-in_err-m : goal.pointer_to_member_type-returns-in_err-m
pointer_to_member_type-returns-in_err-m t c =
    let p = err_from_is_err_and c.from_residual-in_err-m.result c.from_residual-in_err-m.ensures.1 in
    let k = c.in_ok-c.ensures in
    let j = c.in_err-m.ensures in
    rw (p.1, p.2) (record {
      symbol = j.symbol ∙ k.symbol;
      same = j.same ∙ k.same;
      reads = λ σ h. let w = read_of k h in by (member_is σ ∙ on_got _ w) (refused_on _ refl (reads_from k.symbol j w.state w.wrote.holds));
    })

pub pointer_to_member_type-wrap_member-requires : goal.pointer_to_member_type-wrap_member-requires
pointer_to_member_type-wrap_member-requires t c =
    let k = c.in_ok-c.ensures in
    let j = c.in_ok-m.ensures in
    let w = read_of k c.requires.1 in
    let v = got refl (reads_from k.symbol j w.state w.wrote.holds) in
    let l = length-append w.said v.said in
    let z = stands_both (keep 0) 0 w.wrote v.wrote (omega arith) (omega arith) (omega arith) (omega arith) (omega arith) in
    let i = (newest_part z (omega (arith, w.wrote.short, v.wrote.short))).0 in
    (omega (arith, w.wrote.size, w.wrote.short), (omega (arith, v.wrote.size, v.wrote.short), i))

pub pointer_to_member_type-returns : goal.pointer_to_member_type-returns
pointer_to_member_type-returns t c =
    let k = c.in_ok-c.ensures in
    let j = c.in_ok-m.ensures in
    record {
      symbol = c.wrap_member.ensures.symbol ∙ j.symbol ∙ k.symbol;
      same = c.wrap_member.ensures.same ∙ j.same ∙ k.same;
      reads = λ σ h.
          let w = read_of k h in
          let v = got refl (reads_from k.symbol j w.state w.wrote.holds) in
          by (member_is σ ∙ on_got _ w ∙ on_got _ v)
          (c.wrap_member.ensures.is _ _ _ _ _ w.said v.said v.state (sym w.wrote.size) (sym v.wrote.size)
          (stands_both _ _ w.wrote v.wrote (omega arith) (omega (arith, w.wrote.level)) (omega (arith, w.wrote.more)) (omega arith) (omega (arith, h.deep))));
    }

-- ---------------------------------------------------------------- nested_type

nested_old : (σ : State) {x : Text} {σ₁ : State} → reading ⟨nested-name⟩ σ ≡ ok x σ₁ → choose (last σ₁.subs) (same x) false ≡ true → nested_type reading σ ≡ ok x σ₁
unfolding nested_type onto if◌then◌otherwise◌
nested_old σ e f = rw (e, f)

nested_new : (σ : State) {x : Text} {σ₁ : State} → reading ⟨nested-name⟩ σ ≡ ok x σ₁ → choose (last σ₁.subs) (same x) false ≡ false → nested_type reading σ ≡ recorded x σ₁
unfolding nested_type onto if◌then◌otherwise◌
nested_new σ e f = rw (e, f)

pub nested_type-returns-in_err-n : goal.nested_type-returns-in_err-n
unfolding nested_type
nested_type-returns-in_err-n t c =
    let p = err_from_is_err_and c.from_residual.result c.from_residual.ensures.1 in
    rw (p.1, p.2) (parses_none _ (λ σ h. refl) c.in_err-n.ensures)

pub nested_type-newest_entry-requires : goal.nested_type-newest_entry-requires
nested_type-newest_entry-requires t c =
    let k = c.in_ok-n.ensures in
    let w = (read_of k c.requires.1).wrote in
    (prepared_behind k c.requires, stands_top (stood w) (omega (arith, w.short)))

pub nested_type-returns-then-newest_entry : goal.nested_type-returns-then-newest_entry
nested_type-returns-then-newest_entry t c =
    let k = c.in_ok-n.ensures in
    record {
      symbol = k.symbol;
      same = k.same;
      reads = λ σ h. let g = read_of k h in
          by (nested_old σ g.is (sym (c.newest_entry.ensures _ _ _ _ _ _ _ (stood g.wrote) g.wrote.short) ∙ c.if-newest_entry.true)) (reads g.wrote);
    }

pub nested_type-recorded-requires : goal.nested_type-recorded-requires
nested_type-recorded-requires t c =
    let k = c.in_ok-n.ensures in
    let w = (read_of k c.requires.1).wrote in
    omega (arith, stands_top (stood w) (omega (arith, w.short)))

pub nested_type-returns : goal.nested_type-returns
nested_type-returns t c =
    let k = c.in_ok-n.ensures in
    record {
      symbol = ap (λ (x : Demangler). x.s.now) c.recorded.ensures.others ∙ k.symbol;
      same = c.recorded.ensures.same ∙ k.same;
      reads = λ σ h. let g = read_of k h in
          by (nested_new σ g.is (sym (c.newest_entry.ensures _ _ _ _ _ _ _ (stood g.wrote) g.wrote.short) ∙ c.if-newest_entry.false))
          (c.recorded.ensures.is _ _ _ _ _ _ _ (stood g.wrote));
    }

-- ---------------------------------------------------------------- class_type

class-step : {x : Text} (σ : State) {σ₁ σ₂ : State} → reading ⟨source-name⟩ σ ≡ ok x σ₁ → push_sub x σ₁ ≡ ok tt σ₂ → class_type reading σ ≡ at_code ("I" ⇒ type_instance reading x ∷ []) (give x) σ₂
unfolding class_type onto
class-step σ e f = rw (e, f)

pub class_type-returns-in_err-n : goal.class_type-returns-in_err-n
unfolding class_type
class_type-returns-in_err-n t c =
    let p = err_from_is_err_and c.from_residual.result c.from_residual.ensures.1 in
    rw (p.1, p.2) (parses_none _ (λ σ h. refl) c.in_err-n.ensures.parses)

pub class_type-push_sub-requires : goal.class_type-push_sub-requires
class_type-push_sub-requires t c =
    let k = c.in_ok-n.ensures.parses in
    let w = (got refl (narrow c.requires.1 (k.reads _ c.requires.1))).wrote in
    omega (arith, stands_top (stood w) (omega (arith, w.short)))

pub class_type-returns-in_err-push_sub : goal.class_type-returns-in_err-push_sub
unfolding class_type onto
class_type-returns-in_err-push_sub t c =
    let p = err_from_is_err_and c.from_residual-in_err-push_sub.result c.from_residual-in_err-push_sub.ensures.1 in
    let k = c.in_ok-n.ensures.parses in
    let u = c.in_err-push_sub.ensures in
    rw (p.1, p.2) (record {
      symbol = ap (λ (x : Demangler). x.s.now) u.others ∙ k.symbol;
      same = u.same ∙ k.same;
      reads = λ σ h. let g = got refl (narrow h (k.reads σ h)) in by (ap (onto _) g.is) (push_refused _ refl (u.is _ _ _ _ _ _ _ (stood g.wrote)));
    })

pub class_type-instance-requires : goal.class_type-instance-requires
class_type-instance-requires t c =
    let k = c.in_ok-n.ensures.parses in
    let u = c.in_ok-push_sub.ensures in
    let g = got refl (narrow c.requires.1 (k.reads _ c.requires.1)) in
    let v = kept_sub (stood g.wrote) u in
    (omega (arith, c.decreases, v.stands.more, ap length (ap (λ (x : Demangler). x.s.now) u.others ∙ k.symbol)), ((v.state, held_from c.push_sub.new.self (ap (λ (x : Demangler). x.s.now) u.others ∙ k.symbol) v.stands.holds), (omega (arith, g.wrote.size, g.wrote.short), stands_top v.stands (omega (arith, g.wrote.short)))))

pub class_type-returns-then-here : goal.class_type-returns-then-here
unfolding b
class_type-returns-then-here t c =
    let k = c.in_ok-n.ensures.parses in
    let u = c.in_ok-push_sub.ensures in
    let e = ap (λ (x : Demangler). x.s.now) u.others ∙ k.symbol in
    record {
      symbol = c.instance.ensures.symbol ∙ e;
      same = c.instance.ensures.same ∙ u.same ∙ k.same;
      reads = λ σ h. let g = got refl (narrow h (k.reads σ h)) in
          let v = kept_sub (stood g.wrote) u in
          by (class-step σ g.is v.is ∙ at_code_yes "I" _ _ _ (ahead_from c.push_sub.new.self 73 e v.stands.holds c.here.ensures c.if-here.true))
          (instance_at (instance_from c.instance.result e c.instance.ensures) v.stands (omega (arith, g.wrote.short)) (omega (arith, v.stands.more)));
    }

pub class_type-returns : goal.class_type-returns
unfolding b
class_type-returns t c =
    let k = c.in_ok-n.ensures.parses in
    let u = c.in_ok-push_sub.ensures in
    let e = ap (λ (x : Demangler). x.s.now) u.others ∙ k.symbol in
    record {
      symbol = e;
      same = u.same ∙ k.same;
      reads = λ σ h. let g = got refl (narrow h (k.reads σ h)) in
          let v = kept_sub (stood g.wrote) u in
          by (class-step σ g.is v.is ∙ at_code_no "I" _ _ _ (ahead_from c.push_sub.new.self 73 e v.stands.holds c.here.ensures c.if-here.false))
          (answers (give_short _ _ g.wrote.short) (short_enough v.stands g.wrote.short));
    }

-- ---------------------------------------------------------------- name

pub name-returns-in_err-enter : goal.name-returns-in_err-enter
name-returns-in_err-enter t c =
    let p = err_from_is_err_and c.from_residual.result c.from_residual.ensures.1 in
    rw (p.1, p.2) (deep_parses ⟨name⟩ (name_inner reading) name_opens c.args.d.now c.in_err-enter.ensures)

pub name-name_inner-requires : goal.name-name_inner-requires
name-name_inner-requires t c =
    let e = (went_in c.in_ok-enter.ensures).1 in
    (omega (arith, c.decreases, ap (λ (x : Demangler). x.state.at) e, ap (λ (x : Demangler). length x.s.now) e), prepared_in ⟨name⟩ (name_inner reading) name_opens c.args.d.now c.in_ok-enter.ensures c.requires)

pub name-returns-in_err-n : goal.name-returns-in_err-n
name-returns-in_err-n t c =
    let p = err_from_is_err_and c.from_residual-in_err-n.result c.from_residual-in_err-n.ensures.1 in
    rw (p.1, p.2) (refused_parses ⟨name⟩ (name_inner reading) name_opens c.args.d.now c.in_ok-enter.ensures c.in_err-n.ensures)

pub name-returns : goal.name-returns
name-returns t c = read_parses ⟨name⟩ (name_inner reading) name_opens c.args.d.now c.in_ok-enter.ensures c.leave.ensures c.in_ok-n.ensures

-- ---------------------------------------------------------------- name_inner

pub name_inner-returns-in_err-ok_or : goal.name_inner-returns-in_err-ok_or
name_inner-returns-in_err-ok_or t c =
    let p = err_from_is_err_and c.from_residual.result c.from_residual.ensures.1 in
    let f = given_none c.peek.result _ c.in_err-ok_or.ensures.value in
    rw (p.1, p.2, f.1) (record { symbol = refl; same = refl; reads = λ σ h. by (from_text (name_inner reading) σ (no_byte h c.peek.ensures f.0) (name_end [] σ)) refuses })

pub name_inner-name-requires : goal.name_inner-name-requires
name_inner-name-requires t c =
    let f = given_some c.peek.result _ c.in_ok-ok_or.ensures.value in
    (omega (arith, c.decreases, byte_inside c.requires.1 c.peek.ensures f), (_, holds_moved c.requires.1 (c.args.d.now.state.at + 1) (omega (arith, byte_inside c.requires.1 c.peek.ensures f))))

pub name_inner-returns-in-78 : goal.name_inner-returns-in-78
name_inner-returns-in-78 t c =
    let f = given_some c.peek.result _ c.in_ok-ok_or.ensures.value in
    parses_as (λ σ h. same_from (name_inner reading) (reading ⟨nested-name⟩) σ (byte_is h c.peek.ensures 78 f c.in-78.is) (name_N _ σ)) c.nested_name.ensures

pub name_inner-returns-in-83 : goal.name_inner-returns-in-83
name_inner-returns-in-83 t c =
    let f = given_some c.peek.result _ c.in_ok-ok_or.ensures.value in
    parses_as (λ σ h. same_from (name_inner reading) (s_name reading) σ (byte_is h c.peek.ensures 83 f c.in-83.is) (name_S _ σ)) c.at_s.ensures

pub name_inner-returns-in-76 : goal.name_inner-returns-in-76
name_inner-returns-in-76 t c =
    let f = given_some c.peek.result _ c.in_ok-ok_or.ensures.value in
    let k = c.name.ensures in
    record {
      symbol = k.symbol;
      same = k.same;
      reads = λ σ h. let l = byte_inside h c.peek.ensures f in
          by (from_text (name_inner reading) σ (byte_is h c.peek.ensures 76 f c.in-76.is) (name_L _ σ))
          (less (omega arith) (sooner (omega arith) (k.reads _ (holds_moved h (c.args.d.now.state.at + 1) (omega (arith, l))))));
    }

pub name_inner-returns-in-90 : goal.name_inner-returns-in-90
name_inner-returns-in-90 t c =
    let f = given_some c.peek.result _ c.in_ok-ok_or.ensures.value in
    parses_as (λ σ h. same_from (name_inner reading) (local_name reading) σ (byte_is h c.peek.ensures 90 f c.in-90.is) (name_Z _ σ)) c.local_name.ensures

pub name_inner-returns-in_default : goal.name_inner-returns-in_default
name_inner-returns-in_default t c =
    let f = given_some c.peek.result _ c.in_ok-ok_or.ensures.value in
    let i = c.in_default.in_default-own.rest in
    parses_as
    (λ σ h. same_from (name_inner reading) (unscoped_name reading) σ (byte_at h c.peek.ensures f) (name_other _ σ _ (no_name_code _ i.0.0.0.1 i.0.0.1 i.0.1 i.1)))
    c.plain.ensures

-- ---------------------------------------------------------------- at_s

pub at_s-returns-then-std_ahead : goal.at_s-returns-then-std_ahead
at_s-returns-then-std_ahead t c =
    parses_as
    (λ σ h. s_std (at_S_of c.args.named) (instance_of c.args.named) (at_S_is c.args.named) σ (ap std_ahead h.rest ∙ sym c.std_ahead.ensures ∙ c.if-std_ahead.true))
    c.std_prefixed.ensures

pub at_s-returns-in_err-n : goal.at_s-returns-in_err-n
at_s-returns-in_err-n t c =
    let p = err_from_is_err_and c.from_residual.result c.from_residual.ensures.1 in
    rw (p.1, p.2) (parses_none _
    (λ σ h. s_sub (at_S_of c.args.named) (instance_of c.args.named) (at_S_is c.args.named) σ (ap std_ahead h.rest ∙ sym c.std_ahead.ensures ∙ c.if-std_ahead.false))
    c.in_err-n.ensures.parses)

pub at_s-instance-requires : goal.at_s-instance-requires
at_s-instance-requires t c =
    let k = c.in_ok-n.ensures.parses in
    let w = (got refl (narrow c.requires.1 (k.reads _ c.requires.1))).wrote in
    (omega (arith, c.decreases, w.more, ap length k.symbol), (prepared_behind k c.requires, (omega (arith, w.size, w.short), stands_top (stood w) (omega (arith, w.short)))))

pub at_s-returns-then-here : goal.at_s-returns-then-here
unfolding b
at_s-returns-then-here t c =
    let k = c.in_ok-n.ensures.parses in
    record {
      symbol = c.instance.ensures.symbol ∙ k.symbol;
      same = c.instance.ensures.same ∙ k.same;
      reads = λ σ h. let g = got refl (narrow h (k.reads σ h)) in
          by (s_sub_read (at_S_of c.args.named) (instance_of c.args.named) (at_S_is c.args.named) σ (ap std_ahead h.rest ∙ sym c.std_ahead.ensures ∙ c.if-std_ahead.false) g.is
          ∙ at_code_yes "I" _ _ _ (ahead_from c.substitution.new.self 73 k.symbol g.wrote.holds c.here.ensures c.if-here.true))
          (instance_at (instance_from c.instance.result k.symbol c.instance.ensures) (stood g.wrote) (omega (arith, g.wrote.short)) (omega (arith, g.wrote.more)));
    }

pub at_s-returns : goal.at_s-returns
unfolding b
at_s-returns t c =
    let k = c.in_ok-n.ensures.parses in
    record {
      symbol = k.symbol;
      same = k.same;
      reads = λ σ h. let g = got refl (narrow h (k.reads σ h)) in
          by (s_sub_read (at_S_of c.args.named) (instance_of c.args.named) (at_S_is c.args.named) σ (ap std_ahead h.rest ∙ sym c.std_ahead.ensures ∙ c.if-std_ahead.false) g.is
          ∙ at_code_no "I" _ _ _ (ahead_from c.substitution.new.self 73 k.symbol g.wrote.holds c.here.ensures c.if-here.false))
          (reads g.wrote);
    }

-- ---------------------------------------------------------------- instance

pub instance-template_args-requires : goal.instance-template_args-requires
instance-template_args-requires t c =
    let v : Passes (bare c.args.named) c.args.d.now c.if-named.d =
    elim c.if-named.branch [ instance-then-named w ↦ bared _ _ _ w.clear.new.self w.if-named.true w.d-is w.clear.ensures.stays w.clear.ensures.none | instance-else-named w ↦ bared_not _ _ _ w.if-named.false w.d-is ] in
    let e = ap (λ (x : Demangler). x.s.now) v.others in
    (omega (arith, c.decreases, ap (λ (x : Demangler). x.state.at) v.others, ap length e), (_, held_from c.if-named.d e (v.holds _ c.requires.0.1)))

pub instance-returns-in_err-n : goal.instance-returns-in_err-n
instance-returns-in_err-n t c =
    let p = err_from_is_err_and c.from_residual.result c.from_residual.ensures.1 in
    let v : Passes (bare c.args.named) c.args.d.now c.if-named.d =
    elim c.if-named.branch [ instance-then-named w ↦ bared _ _ _ w.clear.new.self w.if-named.true w.d-is w.clear.ensures.stays w.clear.ensures.none | instance-else-named w ↦ bared_not _ _ _ w.if-named.false w.d-is ] in
    let e = ap (λ (x : Demangler). x.s.now) v.others in
    let k = c.in_err-n.ensures in
    rw (p.1, p.2) (record {
      symbol = k.symbol ∙ e;
      same = k.same ∙ v.same;
      is = λ base from x σ h l. by (instance_is c.args.named x σ) (refused_on _ refl (reads_from e k _ (v.holds σ h.holds)));
    })

pub instance-overflow_add-x : goal.instance-overflow_add-x
instance-overflow_add-x t c =
    let v : Passes (bare c.args.named) c.args.d.now c.if-named.d =
    elim c.if-named.branch [ instance-then-named w ↦ bared _ _ _ w.clear.new.self w.if-named.true w.d-is w.clear.ensures.stays w.clear.ensures.none | instance-else-named w ↦ bared_not _ _ _ w.if-named.false w.d-is ] in
    let e = ap (λ (x : Demangler). x.s.now) v.others in
    let g = got refl (reads_from e c.in_ok-n.ensures _ (v.holds _ c.requires.0.1)) in
    omega (arith, g.wrote.size, g.wrote.short, c.requires.1.0)

pub instance-recorded-requires : goal.instance-recorded-requires
instance-recorded-requires t c =
    let v : Passes (bare c.args.named) c.args.d.now c.if-named.d =
    elim c.if-named.branch [ instance-then-named w ↦ bared _ _ _ w.clear.new.self w.if-named.true w.d-is w.clear.ensures.stays w.clear.ensures.none | instance-else-named w ↦ bared_not _ _ _ w.if-named.false w.d-is ] in
    let z : Passes (marked c.args.named) c.template_args.new.d c.if-named-2.d =
    elim c.if-named-2.branch [ instance-then-named-2 w ↦ marked_too _ _ _ w.if-named-2.true w.d-is | instance-else-named-2 w ↦ marked_not _ _ _ w.if-named-2.false w.d-is ] in
    let e = ap (λ (x : Demangler). x.s.now) v.others in
    let k = c.in_ok-n.ensures in
    let h = v.holds _ c.requires.0.1 in
    let g = got refl (reads_from e k _ h) in
    let i = wrote_least h.text g.wrote (omega arith) c.args.x (omega (arith, c.requires.1.1, ap (λ (x : Demangler). x.stack.top) v.others)) in
    omega (arith, i, ap (λ (x : Demangler). x.stack.top) z.others)

pub instance-returns : goal.instance-returns
unfolding onto
instance-returns t c =
    let v : Passes (bare c.args.named) c.args.d.now c.if-named.d =
    elim c.if-named.branch [ instance-then-named w ↦ bared _ _ _ w.clear.new.self w.if-named.true w.d-is w.clear.ensures.stays w.clear.ensures.none | instance-else-named w ↦ bared_not _ _ _ w.if-named.false w.d-is ] in
    let z : Passes (marked c.args.named) c.template_args.new.d c.if-named-2.d =
    elim c.if-named-2.branch [ instance-then-named-2 w ↦ marked_too _ _ _ w.if-named-2.true w.d-is | instance-else-named-2 w ↦ marked_not _ _ _ w.if-named-2.false w.d-is ] in
    let e = ap (λ (x : Demangler). x.s.now) v.others in
    let k = c.in_ok-n.ensures in
    record {
      symbol = ap (λ (x : Demangler). x.s.now) c.recorded.ensures.others ∙ ap (λ (x : Demangler). x.s.now) z.others ∙ k.symbol ∙ e;
      same = c.recorded.ensures.same ∙ z.same ∙ k.same ∙ v.same;
      is = λ base from x σ h l.
          let u = passed v h in
          let g = got refl (reads_from e k _ u.holds) in
          let y = joined u g.wrote (omega (arith, ap (λ (x : Demangler). x.state.depth) v.others)) l in
          by (instance_is c.args.named x σ ∙ ap (onto (λ a v. recorded (x ++ a) (marked c.args.named v))) g.is)
          (sooner (omega (arith, ap (λ (x : Demangler). x.state.at) v.others))
          (c.recorded.ensures.is _ _ _ _ _ _ _ (passed_from (k.symbol ∙ e) z y)));
    }

-- ---------------------------------------------------------------- std_prefixed

pub std_prefixed-unqualified_name-requires : goal.std_prefixed-unqualified_name-requires
unfolding b
std_prefixed-unqualified_name-requires t c =
    let z = puts_of (at_place c.args.d.now (c.args.d.now.state.at + 2)) c.put.new.self c.put.ensures.left in
    (omega (arith, c.decreases, std-inside c.args.d.now.s.now c.args.d.now.state.at c.requires.1), (_, word_holds refl z c.requires.0.1 (std-inside _ _ c.requires.1)))

pub std_prefixed-returns-in_err-n : goal.std_prefixed-returns-in_err-n
unfolding b
std_prefixed-returns-in_err-n t c =
    let p = err_from_is_err_and c.from_residual.result c.from_residual.ensures.1 in
    let z = puts_of (at_place c.args.d.now (c.args.d.now.state.at + 2)) c.put.new.self c.put.ensures.left in
    let k = c.in_err-n.ensures in
    rw (p.1, p.2) (record {
      symbol = k.symbol;
      same = k.same ∙ lent_stack (at_place c.args.d.now (c.args.d.now.state.at + 2)) c.put.new.self c.put.ensures.same;
      reads = λ σ h.
          by (std-open c.args.d.now.s.now c.args.d.now.state.at σ h.rest c.requires.1) (refused_on _ refl (k.reads _ (word_holds refl z h (std-inside _ _ c.requires.1))));
    })

pub std_prefixed-overflow_add-n : goal.std_prefixed-overflow_add-n
unfolding b
std_prefixed-overflow_add-n t c =
    let z = puts_of (at_place c.args.d.now (c.args.d.now.state.at + 2)) c.put.new.self c.put.ensures.left in
    let w = (got refl (c.in_ok-n.ensures.reads _ (word_holds refl z c.requires.0.1 (std-inside _ _ c.requires.1)))).wrote in
    omega (arith, w.size, w.short)

pub std_prefixed-push_sub-requires : goal.std_prefixed-push_sub-requires
unfolding b
std_prefixed-push_sub-requires t c =
    let z = puts_of (at_place c.args.d.now (c.args.d.now.state.at + 2)) c.put.new.self c.put.ensures.left in
    let l = std-inside _ _ c.requires.1 in
    let k = c.in_ok-n.ensures in
    let w = (got refl (k.reads _ (word_holds refl z c.requires.0.1 l))).wrote in
    let y = word_joined refl z c.requires.0.1 l (omega arith) (omega arith) refl w in
    omega (arith, stands_top y (omega (arith, y.size, w.size, w.short)))

pub std_prefixed-returns-in_err-push_sub : goal.std_prefixed-returns-in_err-push_sub
unfolding b onto
std_prefixed-returns-in_err-push_sub t c =
    let p = err_from_is_err_and c.from_residual-in_err-push_sub.result c.from_residual-in_err-push_sub.ensures.1 in
    let z = puts_of (at_place c.args.d.now (c.args.d.now.state.at + 2)) c.put.new.self c.put.ensures.left in
    let l = std-inside _ _ c.requires.1 in
    let k = c.in_ok-n.ensures in
    let u = c.in_err-push_sub.ensures in
    rw (p.1, p.2) (record {
      symbol = ap (λ (x : Demangler). x.s.now) u.others ∙ k.symbol;
      same = u.same ∙ k.same ∙ lent_stack (at_place c.args.d.now (c.args.d.now.state.at + 2)) c.put.new.self c.put.ensures.same;
      reads = λ σ h. let g = got refl (k.reads _ (word_holds refl z h l)) in
          let y = word_joined refl z h l (omega arith) (omega arith) refl g.wrote in
          by (std-open c.args.d.now.s.now c.args.d.now.state.at σ h.rest c.requires.1 ∙ ap (onto std-rest) g.is) (push_refused _ refl (u.is _ _ _ _ _ _ _ y));
    })

pub std_prefixed-instance-requires : goal.std_prefixed-instance-requires
unfolding b
std_prefixed-instance-requires t c =
    let z = puts_of (at_place c.args.d.now (c.args.d.now.state.at + 2)) c.put.new.self c.put.ensures.left in
    let l = std-inside _ _ c.requires.1 in
    let k = c.in_ok-n.ensures in
    let u = c.in_ok-push_sub.ensures in
    let w = (got refl (k.reads _ (word_holds refl z c.requires.0.1 l))).wrote in
    let y = word_joined refl z c.requires.0.1 l (omega arith) (omega arith) refl w in
    let v = kept_sub y u in
    (omega (arith, c.decreases, v.stands.more, ap length (ap (λ (x : Demangler). x.s.now) u.others ∙ k.symbol)), ((v.state, held_from c.push_sub.new.self (ap (λ (x : Demangler). x.s.now) u.others ∙ k.symbol) v.stands.holds), (omega (arith, w.size, w.short), stands_top v.stands (omega (arith, y.size, w.size, w.short)))))

pub std_prefixed-returns-then-here : goal.std_prefixed-returns-then-here
unfolding b onto
std_prefixed-returns-then-here t c =
    let z = puts_of (at_place c.args.d.now (c.args.d.now.state.at + 2)) c.put.new.self c.put.ensures.left in
    let l = std-inside _ _ c.requires.1 in
    let k = c.in_ok-n.ensures in
    let u = c.in_ok-push_sub.ensures in
    let e = ap (λ (x : Demangler). x.s.now) u.others ∙ k.symbol in
    record {
      symbol = c.instance.ensures.symbol ∙ e;
      same = c.instance.ensures.same ∙ u.same ∙ k.same ∙ lent_stack (at_place c.args.d.now (c.args.d.now.state.at + 2)) c.put.new.self c.put.ensures.same;
      reads = λ σ h. let g = got refl (k.reads _ (word_holds refl z h l)) in
          let w = g.wrote in
          let y = word_joined refl z h l (omega arith) (omega arith) refl w in
          let v = kept_sub y u in
          by (std-open c.args.d.now.s.now c.args.d.now.state.at σ h.rest c.requires.1 ∙ ap (onto std-rest) g.is ∙ ap (onto _) v.is
          ∙ at_code_yes "I" _ _ _ (ahead_from c.push_sub.new.self 73 e v.stands.holds c.here.ensures c.if-here.true))
          (instance_at (instance_from c.instance.result e c.instance.ensures) v.stands (omega (arith, y.size, w.size, w.short)) (omega (arith, v.stands.more)));
    }

pub std_prefixed-returns : goal.std_prefixed-returns
unfolding b onto
std_prefixed-returns t c =
    let z = puts_of (at_place c.args.d.now (c.args.d.now.state.at + 2)) c.put.new.self c.put.ensures.left in
    let l = std-inside _ _ c.requires.1 in
    let k = c.in_ok-n.ensures in
    let u = c.in_ok-push_sub.ensures in
    let e = ap (λ (x : Demangler). x.s.now) u.others ∙ k.symbol in
    record {
      symbol = e;
      same = u.same ∙ k.same ∙ lent_stack (at_place c.args.d.now (c.args.d.now.state.at + 2)) c.put.new.self c.put.ensures.same;
      reads = λ σ h. let g = got refl (k.reads _ (word_holds refl z h l)) in
          let y = word_joined refl z h l (omega arith) (omega arith) refl g.wrote in
          let v = kept_sub y u in
          by (std-open c.args.d.now.s.now c.args.d.now.state.at σ h.rest c.requires.1 ∙ ap (onto std-rest) g.is ∙ ap (onto _) v.is
          ∙ at_code_no "I" _ _ _ (ahead_from c.push_sub.new.self 73 e v.stands.holds c.here.ensures c.if-here.false))
          (given_as (ap (outcome (state_of c.push_sub.new.self)) c.given.ensures ∙ outcome_given _ _) v.stands);
    }

-- ---------------------------------------------------------------- plain

unscoped-step : (σ : State) {x : Text} {σ₁ : State} → reading ⟨unqualified-name⟩ σ ≡ ok x σ₁ → unscoped_name reading σ ≡ at_code ("I" ⇒ ◌>>◌ (push_sub x) (name_instance reading x) ∷ []) (return x) σ₁
unfolding unscoped_name onto
unscoped-step σ e = rw e

pub plain-returns-in_err-n : goal.plain-returns-in_err-n
unfolding unscoped_name
plain-returns-in_err-n t c =
    let p = err_from_is_err_and c.from_residual.result c.from_residual.ensures.1 in
    rw (p.1, p.2) (parses_none _ (λ σ h. refl) c.in_err-n.ensures)

pub plain-returns-then-not-here : goal.plain-returns-then-not-here
unfolding b
plain-returns-then-not-here t c =
    let k = c.in_ok-n.ensures in
    record {
      symbol = k.symbol;
      same = k.same;
      reads = λ σ h. let g = read_of k h in
          by (unscoped-step σ g.is ∙ at_code_no "I" _ _ _ (ahead_from c.unqualified_name.new.d 73 k.symbol g.wrote.holds c.here.ensures c.if-not-here.true)) (reads g.wrote);
    }

pub plain-push_sub-requires : goal.plain-push_sub-requires
plain-push_sub-requires t c =
    let k = c.in_ok-n.ensures in
    let w = (read_of k c.requires.1).wrote in
    omega (arith, stands_top (stood w) (omega (arith, w.short)))

pub plain-returns-in_err-push_sub : goal.plain-returns-in_err-push_sub
unfolding b onto
plain-returns-in_err-push_sub t c =
    let p = err_from_is_err_and c.from_residual-in_err-push_sub.result c.from_residual-in_err-push_sub.ensures.1 in
    let k = c.in_ok-n.ensures in
    let u = c.in_err-push_sub.ensures in
    rw (p.1, p.2) (record {
      symbol = ap (λ (x : Demangler). x.s.now) u.others ∙ k.symbol;
      same = u.same ∙ k.same;
      reads = λ σ h. let g = read_of k h in
          by (unscoped-step σ g.is ∙ at_code_yes "I" _ _ _ (ahead_from c.unqualified_name.new.d 73 k.symbol g.wrote.holds c.here.ensures c.if-not-here.false))
          (push_refused _ refl (u.is _ _ _ _ _ _ _ (stood g.wrote)));
    })

pub plain-instance-requires : goal.plain-instance-requires
plain-instance-requires t c =
    let k = c.in_ok-n.ensures in
    let u = c.in_ok-push_sub.ensures in
    let g = read_of k c.requires.1 in
    let v = kept_sub (stood g.wrote) u in
    (omega (arith, c.decreases, v.stands.more, ap length (ap (λ (x : Demangler). x.s.now) u.others ∙ k.symbol)), ((v.state, held_from c.push_sub.new.self (ap (λ (x : Demangler). x.s.now) u.others ∙ k.symbol) v.stands.holds), (omega (arith, g.wrote.size, g.wrote.short), stands_top v.stands (omega (arith, g.wrote.short)))))

pub plain-returns : goal.plain-returns
unfolding b onto
plain-returns t c =
    let k = c.in_ok-n.ensures in
    let u = c.in_ok-push_sub.ensures in
    let e = ap (λ (x : Demangler). x.s.now) u.others ∙ k.symbol in
    record {
      symbol = c.instance.ensures.symbol ∙ e;
      same = c.instance.ensures.same ∙ u.same ∙ k.same;
      reads = λ σ h. let g = read_of k h in
          let v = kept_sub (stood g.wrote) u in
          by (unscoped-step σ g.is ∙ at_code_yes "I" _ _ _ (ahead_from c.unqualified_name.new.d 73 k.symbol g.wrote.holds c.here.ensures c.if-not-here.false) ∙ ap (onto _) v.is)
          (instance_at (instance_from c.instance.result e c.instance.ensures) v.stands (omega (arith, g.wrote.short)) (omega (arith, v.stands.more)));
    }

-- ---------------------------------------------------------------- local_name

pub local_name-returns-in_err-need : goal.local_name-returns-in_err-need
local_name-returns-in_err-need t c =
    let p = err_from_is_err_and c.from_residual.result c.from_residual.ensures.1 in
    rw (p.1, p.2) (lacked_parses (λ f σ h. local_none c.args.d.now.s.now c.args.d.now.state.at σ h.rest f) c.in_err-need.ensures)

pub local_name-local_function-requires : goal.local_name-local_function-requires
local_name-local_function-requires t c =
    let e = needed c.in_ok-need.ensures in
    (omega (arith, c.decreases, e.past.inside, ap (λ (x : Demangler). x.state.at) e.is, ap (λ (x : Demangler). length x.s.now) e.is), prepared_at e.is (omega (arith, e.past.inside)) c.requires)

pub local_name-returns-in_err-n : goal.local_name-returns-in_err-n
local_name-returns-in_err-n t c =
    let p = err_from_is_err_and c.from_residual-in_err-n.result c.from_residual-in_err-n.ensures.1 in
    let e = needed c.in_ok-need.ensures in
    let w = parses_from keep c.args.d.now (c.args.d.now.state.at + 1) e.is c.in_err-n.ensures in
    rw (p.1, p.2) (record { symbol = w.symbol; same = w.same; reads = λ σ h. local_refused h e.past.ahead refl w.reads refl })

pub local_name-overflow_add-n : goal.local_name-overflow_add-n
local_name-overflow_add-n t c =
    let e = needed c.in_ok-need.ensures in
    omega (arith, (done c.in_ok-n.ensures (prepared_at e.is (omega (arith, e.past.inside)) c.requires)).short)

pub local_name-returns-then-eat : goal.local_name-returns-then-eat
unfolding b
local_name-returns-then-eat t c =
    let d = c.args.d.now in
    let e = needed c.in_ok-need.ensures in
    let w = parses_from keep d (d.state.at + 1) e.is c.in_ok-n.ensures in
    let v = ate c.if-eat.true c.eat.ensures in
    record {
      symbol = ap (λ (x : Demangler). x.s.now) v.is ∙ w.symbol;
      same = lent_stack c.eat.new.self c.put.new.self c.put.ensures.same ∙ ap lent v.is ∙ w.same;
      reads = λ σ h.
          given_behind
          (λ m r. Refines (keep d.state.depth) d.state.depth d.s.now (window (memory_of d) (state_of d)) (d.state.at + 1) m r (local_name reading σ))
          c.local_function.new.d c.put.new.self (c.in_ok-n.n + 16) v.is c.put.ensures.left c.given.ensures
          (λ o u. local_string h e.past.ahead refl w.reads refl (ap (λ (t : Text). starts (drop c.local_function.new.d.state.at t) (115 ∷ [])) (sym w.symbol) ∙ v.past.ahead) refl u refl);
    }

pub local_name-name-requires : goal.local_name-name-requires
unfolding b
local_name-name-requires t c =
    let d = c.args.d.now in
    let e = needed c.in_ok-need.ensures in
    let (w, x) = read_stayed c.if-eat.false c.eat.ensures (parses_from keep d (d.state.at + 1) e.is c.in_ok-n.ensures) in
    let u = puts_of c.eat.new.self c.put-2.new.self c.put-2.ensures.left in
    let m = done w (prepared_at {d = d} refl (omega (arith, e.past.inside)) c.requires) in
    (omega (arith, c.decreases, m.more, ap length m.symbol), (_, held_from (record c.eat.new.self { stack = c.put-2.new.self }) w.symbol (local_name_ready c.requires.1 e.past.ahead refl w.reads refl x u)))

pub local_name-returns-in_err-m : goal.local_name-returns-in_err-m
unfolding b
local_name-returns-in_err-m t c =
    let d = c.args.d.now in
    let p = err_from_is_err_and c.from_residual-in_err-m.result c.from_residual-in_err-m.ensures.1 in
    let e = needed c.in_ok-need.ensures in
    let (w, x) = read_stayed c.if-eat.false c.eat.ensures (parses_from keep d (d.state.at + 1) e.is c.in_ok-n.ensures) in
    let u = puts_of c.eat.new.self c.put-2.new.self c.put-2.ensures.left in
    rw (p.1, p.2) (record {
      symbol = c.in_err-m.ensures.symbol ∙ w.symbol;
      same = c.in_err-m.ensures.same ∙ lent_stack c.eat.new.self c.put-2.new.self c.put-2.ensures.same ∙ w.same;
      reads = λ σ h. local_name_refused h e.past.ahead refl w.reads refl x u (reads_from w.symbol c.in_err-m.ensures) refl;
    })

-- neither text is too long
local_fits :
    {d d₁ d₂ d₃ : Demangler} (y : Stack) {n m : ℕ} {σ : State} → Held d σ → Passed 90 d d₁ →
    (Parses (local_encoding reading) (keep d.state.depth) (d.state.at + 1 + 1) (at_place d (d.state.at + 1)) d₂ (Ok n)) × (starts (drop d₂.state.at d.s.now) (115 ∷ []) ≡ false) →
    Put d₂.stack.bytes.now y.bytes.now d₂.stack.top y.top (58 ∷ 58 ∷ []) → Parses (reading ⟨name⟩) (keep (d₂.state.depth + 1)) (d₂.state.at + 1) (record d₂ { stack = y }) d₃ (Ok m) →
    (n ≤ most_text_bytes) × (m ≤ most_text_bytes)
unfolding b
local_fits {d₂ = d₂} y h e (w, x) u k =
    let i = (local_got h e.past.ahead refl w.reads refl).wrote in
    let j = (local_name_got h e.past.ahead refl w.reads refl x (puts_of d₂ y u) (reads_from w.symbol k) refl).wrote in
    (omega (arith, i.size, i.short), omega (arith, j.size, j.short))

pub local_name-overflow_add-n-2 : goal.local_name-overflow_add-n-2
unfolding b
local_name-overflow_add-n-2 t c =
    let d = c.args.d.now in
    let e = needed c.in_ok-need.ensures in
    let w = read_stayed c.if-eat.false c.eat.ensures (parses_from keep d (d.state.at + 1) e.is c.in_ok-n.ensures) in
    omega (arith, local_fits c.put-2.new.self c.requires.1 e w c.put-2.ensures.left c.in_ok-m.ensures)

pub local_name-overflow_add-n-3 : goal.local_name-overflow_add-n-3
unfolding b
local_name-overflow_add-n-3 t c =
    let d = c.args.d.now in
    let e = needed c.in_ok-need.ensures in
    let w = read_stayed c.if-eat.false c.eat.ensures (parses_from keep d (d.state.at + 1) e.is c.in_ok-n.ensures) in
    omega (arith, local_fits c.put-2.new.self c.requires.1 e w c.put-2.ensures.left c.in_ok-m.ensures)

pub local_name-returns : goal.local_name-returns
unfolding b
local_name-returns t c =
    let d = c.args.d.now in
    let e = needed c.in_ok-need.ensures in
    let (w, x) = read_stayed c.if-eat.false c.eat.ensures (parses_from keep d (d.state.at + 1) e.is c.in_ok-n.ensures) in
    let u = puts_of c.eat.new.self c.put-2.new.self c.put-2.ensures.left in
    record {
      symbol = c.in_ok-m.ensures.symbol ∙ w.symbol;
      same = c.in_ok-m.ensures.same ∙ lent_stack c.eat.new.self c.put-2.new.self c.put-2.ensures.same ∙ w.same;
      reads = λ σ h.
          local_given h e.past.ahead refl w.reads refl x u (reads_from w.symbol c.in_ok-m.ensures) refl (given_by (state_of c.name.new.d) (c.in_ok-n.n + c.in_ok-m.m + 2) c.given-2.ensures);
    }

-- ---------------------------------------------------------------- local_function

pub local_function-returns-in_err-n : goal.local_function-returns-in_err-n
local_function-returns-in_err-n t c =
    let p = err_from_is_err_and c.from_residual.result c.from_residual.ensures.1 in
    let k = c.in_err-n.ensures in
    rw (p.1, p.2) (record { symbol = k.symbol; same = k.same; reads = λ σ h. fn_refused h k.reads refl })

pub local_function-returns-then-eat : goal.local_function-returns-then-eat
local_function-returns-then-eat t c =
    let k = c.in_ok-n.ensures in
    let d = c.args.d.now in
    let v = ate c.if-eat.true c.eat.ensures in
    record {
      symbol = ap (λ (x : Demangler). x.s.now) v.is ∙ k.symbol;
      same = ap lent v.is ∙ k.same;
      reads = λ σ h.
          subst
          (λ (x : Demangler). Refines (keep d.state.depth) d.state.depth d.s.now (window (memory_of d) (state_of d)) (d.state.at + 1) (memory_of x) (read (state_of x) c.in_ok-n.n) (local_encoding reading σ))
          (sym v.is)
          (fn_bare h k.reads refl (subst (λ (t : Text). starts (drop c.name.new.d.state.at t) (69 ∷ []) ≡ true) k.symbol v.past.ahead) refl);
    }

pub local_function-items-requires : goal.local_function-items-requires
unfolding b
local_function-items-requires t c =
    let (k, x) = read_stayed c.if-eat.false c.eat.ensures c.in_ok-n.ensures in
    let u = puts_of c.eat.new.self c.put.new.self c.put.ensures.left in
    let m = done k c.requires in
    (omega (arith, c.decreases, m.more, ap length m.symbol), (_, held_from (record c.eat.new.self { stack = c.put.new.self }) k.symbol (fn_items_ready c.requires.1 k.reads refl x u)))

pub local_function-returns-in_err-list : goal.local_function-returns-in_err-list
unfolding b
local_function-returns-in_err-list t c =
    let p = err_from_is_err_and c.from_residual-in_err-list.result c.from_residual-in_err-list.ensures.1 in
    let (k, x) = read_stayed c.if-eat.false c.eat.ensures c.in_ok-n.ensures in
    let u = puts_of c.eat.new.self c.put.new.self c.put.ensures.left in
    let i = no_items_from Types (record c.eat.new.self { stack = c.put.new.self }) k.symbol _ c.in_err-list.ensures in
    rw (p.1, p.2) (record {
      symbol = c.in_err-list.ensures.symbol ∙ k.symbol;
      same = c.in_err-list.ensures.same ∙ lent_stack c.eat.new.self c.put.new.self c.put.ensures.same ∙ k.same;
      reads = λ σ h. fn_items_refused h k.reads refl x u i refl refl;
    })

pub local_function-returns-in_err-m : goal.local_function-returns-in_err-m
unfolding b
local_function-returns-in_err-m t c =
    let p = err_from_is_err_and c.from_residual-in_err-m.result c.from_residual-in_err-m.ensures.1 in
    let (k, x) = read_stayed c.if-eat.false c.eat.ensures c.in_ok-n.ensures in
    let u = puts_of c.eat.new.self c.put.new.self c.put.ensures.left in
    let i = items_from Types (record c.eat.new.self { stack = c.put.new.self }) k.symbol c.in_ok-list.list c.in_ok-list.ensures in
    let g = given_err c.in_ok-list.list.n c.in_err-m.ensures in
    rw (p.1, p.2, g.1) (record {
      symbol = c.in_ok-list.ensures.symbol ∙ k.symbol;
      same = c.in_ok-list.ensures.same ∙ lent_stack c.eat.new.self c.put.new.self c.put.ensures.same ∙ k.same;
      reads = λ σ h. fn_long h k.reads refl x u i refl g.0;
    })

pub local_function-returns-in_err-need : goal.local_function-returns-in_err-need
unfolding b
local_function-returns-in_err-need t c =
    let p = err_from_is_err_and c.from_residual-in_err-need.result c.from_residual-in_err-need.ensures.1 in
    let (k, x) = read_stayed c.if-eat.false c.eat.ensures c.in_ok-n.ensures in
    let u = puts_of c.eat.new.self c.put.new.self c.put.ensures.left in
    let i = items_from Types (record c.eat.new.self { stack = c.put.new.self }) k.symbol c.in_ok-list.list c.in_ok-list.ensures in
    let e = c.in_ok-list.ensures.symbol ∙ k.symbol in
    let g = given_ok c.in_ok-list.list.n c.in_ok-m.ensures in
    let o = lacked c.in_err-need.ensures in
    rw (p.1, p.2, o.why_is) (record {
      symbol = ap (λ (y : Demangler). y.s.now) o.is ∙ e;
      same = ap lent o.is ∙ c.in_ok-list.ensures.same ∙ lent_stack c.eat.new.self c.put.new.self c.put.ensures.same ∙ k.same;
      reads = λ σ h. fn_open h k.reads refl x u i refl g.0 (ap (λ (t : Text). starts (drop c.items.new.d.state.at t) (69 ∷ [])) (sym e) ∙ o.so);
    })

pub local_function-overflow_add-n : goal.local_function-overflow_add-n
local_function-overflow_add-n t c =
    let g = given_ok c.in_ok-list.list.n c.in_ok-m.ensures in
    omega (arith, (done c.in_ok-n.ensures c.requires).short, g.0, g.1)

pub local_function-overflow_add-n-2 : goal.local_function-overflow_add-n-2
local_function-overflow_add-n-2 t c =
    let g = given_ok c.in_ok-list.list.n c.in_ok-m.ensures in
    omega (arith, (done c.in_ok-n.ensures c.requires).short, g.0, g.1)

pub local_function-returns : goal.local_function-returns
unfolding b
local_function-returns t c =
    let d = c.args.d.now in
    let (k, x) = read_stayed c.if-eat.false c.eat.ensures c.in_ok-n.ensures in
    let u = puts_of c.eat.new.self c.put.new.self c.put.ensures.left in
    let i = items_from Types (record c.eat.new.self { stack = c.put.new.self }) k.symbol c.in_ok-list.list c.in_ok-list.ensures in
    let e = c.in_ok-list.ensures.symbol ∙ k.symbol in
    let g = given_ok c.in_ok-list.list.n c.in_ok-m.ensures in
    let v = needed c.in_ok-need.ensures in
    record {
      symbol = ap (λ (y : Demangler). y.s.now) v.is ∙ e;
      same = lent_stack c.need.new.self c.put-2.new.self c.put-2.ensures.same ∙ ap lent v.is ∙ c.in_ok-list.ensures.same ∙ lent_stack c.eat.new.self c.put.new.self c.put.ensures.same ∙ k.same;
      reads = λ σ h.
          given_behind
          (λ m r. Refines (keep d.state.depth) d.state.depth d.s.now (window (memory_of d) (state_of d)) (d.state.at + 1) m r (local_encoding reading σ))
          c.items.new.d c.put-2.new.self (c.in_ok-n.n + c.in_ok-list.list.n + 2) v.is c.put-2.ensures.left (c.given-2.ensures ∙ ap (λ (j : ℕ). given_length (c.in_ok-n.n + j + 2)) g.1)
          (λ o w. fn_given h k.reads refl x u i refl g.0 (ap (λ (t : Text). starts (drop c.items.new.d.state.at t) (69 ∷ [])) (sym e) ∙ v.past.ahead) refl w refl);
    }

-- ---------------------------------------------------------------- unqualified_name

pub unqualified_name-returns-in_err-ok_or : goal.unqualified_name-returns-in_err-ok_or
unqualified_name-returns-in_err-ok_or t c =
    let p = err_from_is_err_and c.from_residual.result c.from_residual.ensures.1 in
    let f = given_none c.peek.result _ c.in_err-ok_or.ensures.value in
    rw (p.1, p.2, f.1) (record { symbol = refl; same = refl; reads = λ σ h. unq_end h c.behind-d.ensures refl c.peek.ensures f.0 })

pub unqualified_name-operator_name-requires : goal.unqualified_name-operator_name-requires
unqualified_name-operator_name-requires t c =
    (omega (arith, c.decreases, c.behind-d.ensures.0), (_, unq_ready c.requires.1 c.behind-d.ensures refl))

pub unqualified_name-returns-in-67 : goal.unqualified_name-returns-in-67
unfolding b
unqualified_name-returns-in-67 t c =
    let f = given_some c.peek.result _ c.in_ok-ok_or.ensures.value in
    record {
      symbol = structor_symbol c.structor.ensures;
      same = structor_same c.structor.ensures;
      reads = λ σ h. structor_alone c.args.d.now h c.behind-d.ensures c.peek.ensures f 67 c.in-67.is refl (unqualified_C_4 σ) (λ u. unqualified_C u σ) c.structor.ensures;
    }

pub unqualified_name-returns-in-68 : goal.unqualified_name-returns-in-68
unfolding b
unqualified_name-returns-in-68 t c =
    let f = given_some c.peek.result _ c.in_ok-ok_or.ensures.value in
    record {
      symbol = structor_symbol c.structor-in-68.ensures;
      same = structor_same c.structor-in-68.ensures;
      reads = λ σ h. structor_alone c.args.d.now h c.behind-d.ensures c.peek.ensures f 68 c.in-68.is refl (unqualified_D_4 σ) (λ u. unqualified_D u σ) c.structor-in-68.ensures;
    }

pub unqualified_name-returns-in-85 : goal.unqualified_name-returns-in-85
unqualified_name-returns-in-85 t c =
    let f = given_some c.peek.result _ c.in_ok-ok_or.ensures.value in
    let k = c.unnamed_type_name.ensures.parses in
    record { symbol = k.symbol; same = k.same; reads = λ σ h. unq_U h c.behind-d.ensures refl c.peek.ensures f c.in-85.is refl k.reads }

pub unqualified_name-returns-in-48-to-57 : goal.unqualified_name-returns-in-48-to-57
unqualified_name-returns-in-48-to-57 t c =
    let f = given_some c.peek.result _ c.in_ok-ok_or.ensures.value in
    let k = c.source_name.ensures.parses in
    let l = c.in-48-to-57.if-this-lt58-own.true in
    record {
      symbol = k.symbol;
      same = k.same;
      reads = λ σ h. unq_digit h c.behind-d.ensures refl c.peek.ensures f (λ e. omega (arith, e, l)) (λ e. omega (arith, e, l)) (λ e. omega (arith, e, l)) (digit_in _ c.in-48-to-57.if-this-lt48-own.false l) k.reads;
    }

pub unqualified_name-returns-in_default : goal.unqualified_name-returns-in_default
unqualified_name-returns-in_default t c =
    let f = given_some c.peek.result _ c.in_ok-ok_or.ensures.value in
    let k = c.operator_name.ensures in
    let i = c.in_default-1.rest in
    record {
      symbol = k.symbol;
      same = k.same;
      reads = λ σ h. unq_operator h c.behind-d.ensures refl c.peek.ensures f i.0.0.1 i.0.1 i.1
          (elim c.in_default.branch [ unqualified_name-in_default-via-then-this-lt48 w ↦ digit_not _ (λ j. omega arith) | unqualified_name-in_default-via-else-this-lt48+else-this-lt58 w ↦ digit_not _ (λ j. omega arith) ]) k.reads;
    }

-- ---------------------------------------------------------------- operator_name

pub operator_name-returns-in_err-a : goal.operator_name-returns-in_err-a
operator_name-returns-in_err-a t c =
    let p = err_from_is_err_and c.from_residual.result c.from_residual.ensures.1 in
    let w = took_none c.in_err-a.ensures in
    rw (p.1, p.2, w.why_is) (record {
      symbol = ap (λ (x : Demangler). x.s.now) w.is;
      same = ap lent w.is;
      reads = λ σ h. by (operator_short c.args.d.now.s.now c.args.d.now.state.at σ h.rest (omega (arith, length-drop c.args.d.now.state.at c.args.d.now.s.now, ap length w.so))) refuses;
    })

pub operator_name-returns-in_err-c : goal.operator_name-returns-in_err-c
operator_name-returns-in_err-c t c =
    let p = err_from_is_err_and c.from_residual-in_err-c.result c.from_residual-in_err-c.ensures.1 in
    let v = took c.in_ok-a.ensures in
    let w = took_none c.in_err-c.ensures in
    rw (p.1, p.2, w.why_is) (record {
      symbol = ap (λ (x : Demangler). x.s.now) w.is ∙ ap (λ (x : Demangler). x.s.now) v.is;
      same = ap lent w.is ∙ ap lent v.is;
      reads = λ σ h. by (operator_short _ _ σ h.rest (none_left v w.so)) refuses;
    })

pub operator_name-returns-in-Some : goal.operator_name-returns-in-Some
operator_name-returns-in-Some t c =
    let v = took c.in_ok-a.ensures in
    let w = took c.in_ok-c.ensures in
    let s = c.args.d.now.s.now in
    let f = spelled_is operators (c.in_ok-a.a ∷ c.in_ok-c.c ∷ []) c.operator_name.ensures c.in-Some.is in
    let l = two_inside v w in
    record {
      symbol = ap (λ (x : Demangler). x.s.now) (two_is v w);
      same = lent_stack c.take-2.new.self c.put.new.self c.put.ensures.same ∙ ap lent (two_is v w);
      reads = λ σ h.
          by (operator_word s c.args.d.now.state.at σ h.rest l _
          (ap (λ (z : ℕ). word_for operators (z ∷ slice_index_or s (c.args.d.now.state.at + 1) 0 ∷ [])) v.past.byte ∙ ap (λ (z : ℕ). word_for operators (c.in_ok-a.a ∷ z ∷ [])) (two_second v w) ∙ sym f.0))
          (less (omega (arith, h.deep)) (gives_word c.args.d.now c.put.new.self (two_is v w) h (omega (arith, l)) (omega arith) (omega (arith, f.1)) c.put.ensures.left));
    }

pub operator_name-returns-then-a-ne99 : goal.operator_name-returns-then-a-ne99
operator_name-returns-then-a-ne99 t c =
    let v = took c.in_ok-a.ensures in
    let w = took c.in_ok-c.ensures in
    let s = c.args.d.now.s.now in
    let n = ap (λ (z : ℕ). word_for operators (z ∷ slice_index_or s (c.args.d.now.state.at + 1) 0 ∷ [])) v.past.byte ∙ ap (λ (z : ℕ). word_for operators (c.in_ok-a.a ∷ z ∷ [])) (two_second v w)
    ∙ sym (spelled_not operators (c.in_ok-a.a ∷ c.in_ok-c.c ∷ []) c.operator_name.ensures c.in_default.is) in
    record {
      symbol = ap (λ (x : Demangler). x.s.now) (two_is v w);
      same = ap lent (two_is v w);
      reads = λ σ h. elim c.then-a-ne99.branch [
        | operator_name-then-a-ne99-via-then-a-ne99 x ↦ by (operator_no_c s c.args.d.now.state.at σ h.rest (two_inside v w) n (λ e. x.if-a-ne99.true (sym v.past.byte ∙ e))) refuses
        | operator_name-then-a-ne99-via-else-a-ne99+then-c-ne118 x ↦ by (operator_no_v s c.args.d.now.state.at σ h.rest (two_inside v w) n (λ e. x.if-c-ne118.true (sym (two_second v w) ∙ e))) refuses
      ];
    }

pub operator_name-ty-requires : goal.operator_name-ty-requires
unfolding b
operator_name-ty-requires t c =
    let v = took c.in_ok-a.ensures in
    let w = took c.in_ok-c.ensures in
    let z = put_at c.args.d.now c.put-2.new.self (two_is v w) c.put-2.ensures.left in
    (omega (arith, c.decreases, two_inside v w, ap (λ (x : Demangler). x.state.at) (two_is v w), ap (λ (x : Demangler). length x.s.now) (two_is v w)), subst (λ (x : Demangler). Prepared (record x { stack = c.put-2.new.self })) (sym (two_is v w)) (_, oper_holds c.requires.1 (two_inside v w) refl z))

pub operator_name-returns-in_err-n : goal.operator_name-returns-in_err-n
unfolding b
operator_name-returns-in_err-n t c =
    let p = err_from_is_err_and c.from_residual-in_err-n.result c.from_residual-in_err-n.ensures.1 in
    let v = took c.in_ok-a.ensures in
    let w = took c.in_ok-c.ensures in
    let s = c.args.d.now.s.now in
    let n = ap (λ (z : ℕ). word_for operators (z ∷ slice_index_or s (c.args.d.now.state.at + 1) 0 ∷ [])) v.past.byte ∙ ap (λ (z : ℕ). word_for operators (c.in_ok-a.a ∷ z ∷ [])) (two_second v w)
    ∙ sym (spelled_not operators (c.in_ok-a.a ∷ c.in_ok-c.c ∷ []) c.operator_name.ensures c.in_default.is) in
    let z = put_at c.args.d.now c.put-2.new.self (two_is v w) c.put-2.ensures.left in
    let j = parses_put c.args.d.now c.put-2.new.self (two_is v w) (λ i. keep (i + 1)) c.in_err-n.ensures in
    rw (p.1, p.2) (record {
      symbol = j.symbol;
      same = c.in_err-n.ensures.same ∙ lent_stack c.take-2.new.self c.put-2.new.self c.put-2.ensures.same ∙ ap lent (two_is v w);
      reads = λ σ h. oper_refused h (two_inside v w) refl z (sym n) (v.past.byte ∙ c.if-a-ne99.false) (two_second v w ∙ c.if-c-ne118.false) j.reads refl;
    })

pub operator_name-overflow_add-n : goal.operator_name-overflow_add-n
unfolding b
operator_name-overflow_add-n t c =
    let v = took c.in_ok-a.ensures in
    let w = took c.in_ok-c.ensures in
    let z = put_at c.args.d.now c.put-2.new.self (two_is v w) c.put-2.ensures.left in
    let j = parses_put c.args.d.now c.put-2.new.self (two_is v w) (λ i. keep (i + 1)) c.in_ok-n.ensures in
    let g = got refl (j.reads _ (oper_holds c.requires.1 (two_inside v w) refl z)) in
    omega (arith, g.wrote.size, g.wrote.short)

pub operator_name-returns : goal.operator_name-returns
unfolding b
operator_name-returns t c =
    let v = took c.in_ok-a.ensures in
    let w = took c.in_ok-c.ensures in
    let s = c.args.d.now.s.now in
    let n = ap (λ (z : ℕ). word_for operators (z ∷ slice_index_or s (c.args.d.now.state.at + 1) 0 ∷ [])) v.past.byte ∙ ap (λ (z : ℕ). word_for operators (c.in_ok-a.a ∷ z ∷ [])) (two_second v w)
    ∙ sym (spelled_not operators (c.in_ok-a.a ∷ c.in_ok-c.c ∷ []) c.operator_name.ensures c.in_default.is) in
    let z = put_at c.args.d.now c.put-2.new.self (two_is v w) c.put-2.ensures.left in
    let j = parses_put c.args.d.now c.put-2.new.self (two_is v w) (λ i. keep (i + 1)) c.in_ok-n.ensures in
    record {
      symbol = j.symbol;
      same = c.in_ok-n.ensures.same ∙ lent_stack c.take-2.new.self c.put-2.new.self c.put-2.ensures.same ∙ ap lent (two_is v w);
      reads = λ σ h. oper_typed h (two_inside v w) refl z (sym n) (v.past.byte ∙ c.if-a-ne99.false) (two_second v w ∙ c.if-c-ne118.false) j.reads refl refl
          (ap (outcome (state_of (record c.ty.new.d { state = record c.ty.new.d.state { templated = false } }))) c.given.ensures ∙ outcome_given _ _);
    }

-- ---------------------------------------------------------------- nested_name

pub nested_name-returns-in_err-need : goal.nested_name-returns-in_err-need
nested_name-returns-in_err-need t c =
    let p = err_from_is_err_and c.from_residual.result c.from_residual.ensures.1 in
    rw (p.1, p.2) (lacked_parses (λ f σ h. nested_4 c.args.d.now.s.now c.args.d.now.state.at σ h.rest f) c.in_err-need.ensures)

pub nested_name-qualifiers-to-requires : goal.nested_name-qualifiers-to-requires
nested_name-qualifiers-to-requires t c =
    let v = needed c.in_ok-need.ensures in
    omega (arith, v.past.inside, ap (λ (x : Demangler). x.state.at) v.is, ap (λ (x : Demangler). length x.s.now) v.is)

pub nested_name-loop-c-init : goal.nested_name-loop-c-init
nested_name-loop-c-init t c = record { symbol = refl; same = refl; so_far = prefixing_start }

pub nested_name-returns-in_err-c : goal.nested_name-returns-in_err-c
nested_name-returns-in_err-c t c =
    let p = err_from_is_err_and c.from_residual-in_err-c.result c.from_residual-in_err-c.ensures.1 in
    let f = given_none c.peek.result _ c.in_err-c.ensures.value in
    let l = c.loop-c.invariant in
    rw (p.1, p.2, f.1) (nested_ends_lent (needed c.in_ok-need.ensures) c.qualifiers-to.ensures c.loop-c.d l.symbol l.same l.so_far (sym c.peek.ensures ∙ f.0))

pub nested_name-returns-then-c-eq69 : goal.nested_name-returns-then-c-eq69
nested_name-returns-then-c-eq69 t c =
    let f = given_some c.peek.result _ c.in_ok-c.ensures.value in
    let l = c.loop-c.invariant in
    let v = needed c.in_ok-need.ensures in
    elim c.if-parts.branch [
      | nested_name-then-parts w ↦
          nested_closes_lent v c.qualifiers-to.ensures c.loop-c.d l.symbol l.same l.so_far (sym c.peek.ensures ∙ f) true c.if-c-eq69.true w.if-parts.true c.given.ensures w.d-is
      | nested_name-else-parts w ↦
          nested_closes_lent v c.qualifiers-to.ensures c.loop-c.d l.symbol l.same l.so_far (sym c.peek.ensures ∙ f) false c.if-c-eq69.true w.if-parts.false c.given.ensures w.d-is
    ]

pub nested_name-prefix-requires : goal.nested_name-prefix-requires
nested_name-prefix-requires t c =
    let l = c.loop-c.invariant in
    let m = nested_further (needed c.in_ok-need.ensures) c.qualifiers-to.ensures c.loop-c.d l.symbol l.so_far c.requires in
    (omega (arith, c.decreases, m.0, ap length m.1), nested_ready (needed c.in_ok-need.ensures) c.qualifiers-to.ensures c.loop-c.d l.symbol l.so_far c.requires)

pub nested_name-returns-in_err-parts : goal.nested_name-returns-in_err-parts
nested_name-returns-in_err-parts t c =
    let p = err_from_is_err_and c.from_residual-in_err-parts.result c.from_residual-in_err-parts.ensures.1 in
    let f = given_some c.peek.result _ c.in_ok-c.ensures.value in
    let l = c.loop-c.invariant in
    rw (p.1, p.2) (nested_refuses_lent (needed c.in_ok-need.ensures) c.qualifiers-to.ensures c.loop-c.d l.symbol l.same l.so_far (sym c.peek.ensures ∙ f) c.if-c-eq69.false c.in_err-parts.ensures)

pub nested_name-loop-c-smaller : goal.nested_name-loop-c-smaller
nested_name-loop-c-smaller t c =
    let f = given_some c.peek.result _ c.in_ok-c.ensures.value in
    let l = c.loop-c.invariant in
    nested_nearer (needed c.in_ok-need.ensures) c.qualifiers-to.ensures c.loop-c.d l.symbol l.so_far (sym c.peek.ensures ∙ f) c.if-c-eq69.false c.in_ok-parts.ensures c.requires

pub nested_name-loop-c-preserved : goal.nested_name-loop-c-preserved
nested_name-loop-c-preserved t c =
    let f = given_some c.peek.result _ c.in_ok-c.ensures.value in
    let l = c.loop-c.invariant in
    record {
      symbol = symbol_behind c.loop-c.d (Ok c.in_ok-parts.parts) l.symbol c.in_ok-parts.ensures (sym c.peek.ensures ∙ f);
      same = same_behind c.loop-c.d (Ok c.in_ok-parts.parts) l.same c.in_ok-parts.ensures (sym c.peek.ensures ∙ f);
      so_far = nested_more (needed c.in_ok-need.ensures) c.qualifiers-to.ensures c.loop-c.d l.symbol l.so_far (sym c.peek.ensures ∙ f) c.if-c-eq69.false c.in_ok-parts.ensures;
    }

-- ---------------------------------------------------------------- prefix

pub prefix-returns-then-structor_ahead : goal.prefix-returns-then-structor_ahead
prefix-returns-then-structor_ahead _ c t e = record {
  symbol = ap (λ (x : Demangler). x.s.now) c.ctor_dtor.ensures.others;
  same = c.ctor_dtor.ensures.same;
  is = λ base from ps σ h.
      let s = ap structor_ahead h.stands.holds.rest ∙ sym c.structor_ahead.ensures ∙ c.if-structor_ahead.true in
      let r = h.stands.holds.rest ∙ e in
      let (x, (v, f)) = two_bytes c.args.c t (ap structor_ahead (sym r) ∙ s) in
      parts_by (prefix_structor ps σ s) (structor_parts c.ctor_dtor.ensures x v (r ∙ ap (λ (y : Text). c.args.c ∷ y) f) h);
}

pub prefix-returns-in_err-m-in-83 : goal.prefix-returns-in_err-m-in-83
prefix-returns-in_err-m-in-83 _ c t e =
    let p = err_from_is_err_and c.from_residual.result c.from_residual.ensures.1 in
    let k = c.in_err-m-in-83.ensures.parses in
    let u = puts_of c.args.d.now c.separate.new.stack c.separate.ensures.left in
    rw (p.1, p.2) (record {
      symbol = k.symbol;
      same = k.same ∙ lent_stack c.args.d.now c.separate.new.stack c.separate.ensures.same;
      is = λ base from ps σ h.
          parts_by (prefix_S ps σ (ap structor_ahead h.stands.holds.rest ∙ sym c.structor_ahead.ensures ∙ c.if-structor_ahead.false) (h.stands.holds.rest ∙ e) c.in-83.is ∙ old_is ps σ)
          (unread_on _ refl refl (k.reads σ (holds_puts u h.stands.holds)));
    })

pub prefix-returns-in-73 : goal.prefix-returns-in-73
prefix-returns-in-73 _ c t e = record {
  symbol = c.prefix_args.ensures.symbol;
  same = c.prefix_args.ensures.same;
  is = λ base from ps σ h.
      parts_by (prefix_I ps σ (ap structor_ahead h.stands.holds.rest ∙ sym c.structor_ahead.ensures ∙ c.if-structor_ahead.false) (h.stands.holds.rest ∙ e) c.in-73.is)
      (c.prefix_args.ensures.is base from ps σ h);
}

pub prefix-returns-in_ok-m-in-83 : goal.prefix-returns-in_ok-m-in-83
prefix-returns-in_ok-m-in-83 _ c t e =
    let k = c.in_ok-m-in-83.ensures.parses in
    let u = puts_of c.args.d.now c.separate.new.stack c.separate.ensures.left in
    record {
      symbol = k.symbol;
      same = k.same ∙ lent_stack c.args.d.now c.separate.new.stack c.separate.ensures.same;
      is = λ base from ps σ h.
          let a = got refl (k.reads σ (holds_puts u h.stands.holds)) in
          parts_by (prefix_S ps σ (ap structor_ahead h.stands.holds.rest ∙ sym c.structor_ahead.ensures ∙ c.if-structor_ahead.false) (h.stands.holds.rest ∙ e) c.in-83.is ∙ old_is ps σ ∙ then_ok _ a.is)
          (parted (parted_as c.longer.ensures (parted_more h u (fewer (omega (arith, h.stands.level, h.stands.holds.deep)) a.wrote))));
    }

pub prefix-returns-in_default : goal.prefix-returns-in_default
prefix-returns-in_default _ c t e = record {
  symbol = c.new_prefix.ensures.symbol;
  same = c.new_prefix.ensures.same;
  is = λ base from ps σ h.
      parts_by (prefix_new ps σ (ap structor_ahead h.stands.holds.rest ∙ sym c.structor_ahead.ensures ∙ c.if-structor_ahead.false) (h.stands.holds.rest ∙ e)
      c.in_default.in_default-own.rest.0.1
      c.in_default.in_default-own.rest.1)
      (c.new_prefix.ensures.is base from ps σ h);
}

-- ---------------------------------------------------------------- prefix_args

pub prefix_args-template_args-requires : goal.prefix_args-template_args-requires
prefix_args-template_args-requires t c =
    (omega (arith, c.decreases), (with_args [] c.requires.0.0, cleared_held c.args.d.now c.clear.new.self c.clear.ensures.stays c.clear.ensures.none c.requires.0.0 c.requires.0.1))

pub prefix_args-returns-in_err-m : goal.prefix_args-returns-in_err-m
prefix_args-returns-in_err-m t c =
    let p = err_from_is_err_and c.from_residual.result c.from_residual.ensures.1 in
    let k = c.in_err-m.ensures in
    let o = cleared_held c.args.d.now c.clear.new.self c.clear.ensures.stays c.clear.ensures.none in
    rw (p.1, p.2) (record {
      symbol = k.symbol;
      same = k.same ∙ cleared_lent c.args.d.now c.clear.new.self c.clear.ensures.stays c.clear.ensures.none;
      is = λ base from ps σ h. parts_by (prefix_args_is ps σ) (unread_on (After ps) refl refl (k.reads (with_args [] σ) (o σ h.stands.holds)));
    })

pub prefix_args-returns-then-parts-eq0 : goal.prefix_args-returns-then-parts-eq0
prefix_args-returns-then-parts-eq0 t c =
    let k = c.in_ok-m.ensures in
    let o = cleared_held c.args.d.now c.clear.new.self c.clear.ensures.stays c.clear.ensures.none in
    record {
      symbol = k.symbol;
      same = k.same ∙ cleared_lent c.args.d.now c.clear.new.self c.clear.ensures.stays c.clear.ensures.none;
      is = λ base from ps σ h.
          let a = got refl (k.reads (with_args [] σ) (o σ h.stands.holds)) in
          let z : length ps.texts ≡ 0 = omega (arith, h.count, c.if-parts-eq0.true) in
          parts_by (prefix_args_is ps σ ∙ then_ok (After ps) a.is ∙ after_none ps a.said a.state z) unparted;
    }

pub prefix_args-sum-n-requires : goal.prefix_args-sum-n-requires
prefix_args-sum-n-requires t c =
    let k = c.in_ok-m.ensures in
    let o = cleared_held c.args.d.now c.clear.new.self c.clear.ensures.stays c.clear.ensures.none in
    let a = got refl (k.reads (with_args [] c.requires.0.0) (o c.requires.0.0 c.requires.0.1)) in
    (c.requires.1.0, omega (arith, a.wrote.size, a.wrote.short))

pub prefix_args-push_sub-requires : goal.prefix_args-push_sub-requires
prefix_args-push_sub-requires t c =
    let k = c.in_ok-m.ensures in
    let o = cleared_held c.args.d.now c.clear.new.self c.clear.ensures.stays c.clear.ensures.none in
    let h = o c.requires.0.0 c.requires.0.1 in
    let a = got refl (k.reads (with_args [] c.requires.0.0) h) in
    omega (arith, c.sum-n.ensures, wrote_least h.text a.wrote (omega arith) c.args.parts.n (omega (arith, c.requires.1.1.1)))

pub prefix_args-returns-in_err-push_sub : goal.prefix_args-returns-in_err-push_sub
prefix_args-returns-in_err-push_sub t c =
    let p = err_from_is_err_and c.from_residual-in_err-push_sub.result c.from_residual-in_err-push_sub.ensures.1 in
    let w = c.in_err-push_sub.ensures in
    let k = c.in_ok-m.ensures in
    let o = cleared_held c.args.d.now c.clear.new.self c.clear.ensures.stays c.clear.ensures.none in
    rw (p.1, p.2) (record {
      symbol = ap (λ (x : Demangler). x.s.now) w.others ∙ k.symbol;
      same = w.same ∙ k.same ∙ cleared_lent c.args.d.now c.clear.new.self c.clear.ensures.stays c.clear.ensures.none;
      is = λ base from ps σ h.
          let a = got refl (k.reads (with_args [] σ) (o σ h.stands.holds)) in
          let z : 0 < length ps.texts = omega (arith, h.count, c.if-parts-eq0.false) in
          let v = argued_parts h (cleared_state c.args.d.now c.clear.new.self c.clear.ensures.stays c.clear.ensures.none) a.wrote z c.sum-n.result _ c.sum-n.ensures refl in
          parts_by (prefix_args_is ps σ ∙ then_ok (After ps) a.is ∙ after_some ps a.said a.state z)
          (unpushed_on (Ended ps a.said) refl refl (pushes_alike a.state v.alike (w.is _ _ _ _ _ _ _ v.stands)));
    })

pub prefix_args-sum-requires : goal.prefix_args-sum-requires
prefix_args-sum-requires t c =
    let k = c.in_ok-m.ensures in
    let o = cleared_held c.args.d.now c.clear.new.self c.clear.ensures.stays c.clear.ensures.none in
    let a = got refl (k.reads (with_args [] c.requires.0.0) (o c.requires.0.0 c.requires.0.1)) in
    (omega (arith, c.requires.1.0, c.requires.1.1.0), omega (arith, a.wrote.size, a.wrote.short))

pub prefix_args-returns : goal.prefix_args-returns
prefix_args-returns t c =
    let w = c.in_ok-push_sub.ensures in
    let k = c.in_ok-m.ensures in
    let o = cleared_held c.args.d.now c.clear.new.self c.clear.ensures.stays c.clear.ensures.none in
    let e = ap (λ (x : Demangler). x.s.now) w.others ∙ k.symbol in
    record {
      symbol = e;
      same = w.same ∙ k.same ∙ cleared_lent c.args.d.now c.clear.new.self c.clear.ensures.stays c.clear.ensures.none;
      is = λ base from ps σ h.
          let a = got refl (k.reads (with_args [] σ) (o σ h.stands.holds)) in
          let z : 0 < length ps.texts = omega (arith, h.count, c.if-parts-eq0.false) in
          let v = argued_parts h (cleared_state c.args.d.now c.clear.new.self c.clear.ensures.stays c.clear.ensures.none) a.wrote z c.sum-n.result c.sum.result c.sum-n.ensures c.sum.ensures in
          parts_by (prefix_args_is ps σ ∙ then_ok (After ps) a.is ∙ after_some ps a.said a.state z) (args_kept ps a.said e c.here-d.ensures v w);
    }

-- ---------------------------------------------------------------- new_prefix

pub new_prefix-returns-in_err-m : goal.new_prefix-returns-in_err-m
new_prefix-returns-in_err-m t c =
    let p = err_from_is_err_and c.from_residual.result c.from_residual.ensures.1 in
    let k = c.in_err-m.ensures in
    let u = puts_of c.args.d.now c.separate.new.stack c.separate.ensures.left in
    rw (p.1, p.2) (record {
      symbol = k.symbol;
      same = k.same ∙ lent_stack c.args.d.now c.separate.new.stack c.separate.ensures.same;
      is = λ base from ps σ h. parts_by (new_is _ ps σ) (unread_on (Behind ps) refl refl (k.is σ (holds_puts u h.stands.holds)));
    })

pub new_prefix-push_sub-requires : goal.new_prefix-push_sub-requires
new_prefix-push_sub-requires t c =
    let k = c.in_ok-m.ensures in
    let u = puts_of c.args.d.now c.separate.new.stack c.separate.ensures.left in
    let a = got refl (k.is c.requires.0.0 (holds_puts u c.requires.0.1)) in
    omega (arith, ap (λ (r : Parts). r.n) c.longer-more.ensures, more_top c.args.parts c.requires.0.1.text u a.wrote (omega arith) c.requires.1.1.1)

pub new_prefix-returns-in_err-push_sub : goal.new_prefix-returns-in_err-push_sub
unfolding b
new_prefix-returns-in_err-push_sub t c =
    let p = err_from_is_err_and c.from_residual-in_err-push_sub.result c.from_residual-in_err-push_sub.ensures.1 in
    let k = c.in_ok-m.ensures in
    let u = puts_of c.args.d.now c.separate.new.stack c.separate.ensures.left in
    let w = c.in_err-push_sub.ensures in
    rw (p.1, p.2) (record {
      symbol = ap (λ (x : Demangler). x.s.now) w.others ∙ k.symbol;
      same = w.same ∙ k.same ∙ lent_stack c.args.d.now c.separate.new.stack c.separate.ensures.same;
      is = λ base from ps σ h.
          let a = got refl (k.is σ (holds_puts u h.stands.holds)) in
          let v = parted_as c.longer-more.ensures (parted_more h u a.wrote) in
          parts_by (new_is _ ps σ ∙ then_ok (Behind ps) a.is ∙ behind_more ps a.said a.state (ahead_from c.part.new.d 69 k.symbol a.wrote.holds c.here.ensures c.if-not-here.true))
          (unpushed_on _ refl refl (pushes_alike a.state v.alike (w.is _ _ _ _ _ _ _ v.stands)));
    })

pub new_prefix-returns-in_ok-push_sub : goal.new_prefix-returns-in_ok-push_sub
unfolding b
new_prefix-returns-in_ok-push_sub t c =
    let k = c.in_ok-m.ensures in
    let u = puts_of c.args.d.now c.separate.new.stack c.separate.ensures.left in
    let w = c.in_ok-push_sub.ensures in
    record {
      symbol = ap (λ (x : Demangler). x.s.now) w.others ∙ k.symbol;
      same = w.same ∙ k.same ∙ lent_stack c.args.d.now c.separate.new.stack c.separate.ensures.same;
      is = λ base from ps σ h.
          let a = got refl (k.is σ (holds_puts u h.stands.holds)) in
          let v = parted_as c.longer-more.ensures (parted_more h u a.wrote) in
          parts_by (new_is _ ps σ ∙ then_ok (Behind ps) a.is ∙ behind_more ps a.said a.state (ahead_from c.part.new.d 69 k.symbol a.wrote.holds c.here.ensures c.if-not-here.true))
          (parts_kept v w);
    }

pub new_prefix-returns-else-not-here : goal.new_prefix-returns-else-not-here
unfolding b
new_prefix-returns-else-not-here t c =
    let k = c.in_ok-m.ensures in
    let u = puts_of c.args.d.now c.separate.new.stack c.separate.ensures.left in
    record {
      symbol = k.symbol;
      same = k.same ∙ lent_stack c.args.d.now c.separate.new.stack c.separate.ensures.same;
      is = λ base from ps σ h.
          let a = got refl (k.is σ (holds_puts u h.stands.holds)) in
          parts_by (new_is _ ps σ ∙ then_ok (Behind ps) a.is ∙ behind_last ps a.said a.state (ahead_from c.part.new.d 69 k.symbol a.wrote.holds c.here.ensures c.if-not-here.false))
          (parted (parted_as c.longer-more.ensures (parted_more h u a.wrote)));
    }

-- ---------------------------------------------------------------- part

pub part-returns-then-c-eq84 : goal.part-returns-then-c-eq84
part-returns-then-c-eq84 t c =
    let k = c.template_param.ensures.parses in
    record { symbol = k.symbol; same = k.same; is = λ σ h. by (ap (λ (x : Production). reading x σ) (part_T c.args.c c.if-c-eq84.true)) (narrow h (k.reads σ h)) }

pub part-returns-then-digit_ahead : goal.part-returns-then-digit_ahead
part-returns-then-digit_ahead t c =
    let k = c.source_name.ensures.parses in
    record {
      symbol = k.symbol;
      same = k.same;
      is = λ σ h.
          by (ap (λ (x : Production). reading x σ) (part_other c.args.c c.if-c-eq84.false) ∙ part_digit h (sym c.digit_ahead.ensures ∙ c.if-digit_ahead.true))
          (narrow h (k.reads σ h));
    }

pub part-returns : goal.part-returns
part-returns t c =
    let k = c.unqualified_name.ensures in
    record { symbol = k.symbol; same = k.same; is = λ σ h. by (ap (λ (x : Production). reading x σ) (part_other c.args.c c.if-c-eq84.false)) (k.reads σ h) }

-- ---------------------------------------------------------------- items

pub items-loop-c-init : goal.items-loop-c-init
items-loop-c-init t c = record { symbol = refl; same = refl; so_far = listing_start c.args.kind c.requires.1 }

pub items-returns-in_default : goal.items-returns-in_default
items-returns-in_default t c =
    let i = c.loop-c.invariant in
    record { symbol = i.symbol; same = i.same; is = λ σ h. let l = i.so_far.so_far σ h in listed_ends l (at_end l (peeked_from c.loop-c.d i.symbol c.peek.ensures c.in_default.is)) }

pub items-returns-then-stops : goal.items-returns-then-stops
items-returns-then-stops t c =
    let i = c.loop-c.invariant in
    record {
      symbol = i.symbol;
      same = i.same;
      is = λ σ h. let l = i.so_far.so_far σ h in listed_ends l (at_byte l (peeked_from c.loop-c.d i.symbol c.peek.ensures c.in-Some.is) (sym c.stops.ensures ∙ c.if-stops.true));
    }

pub items-returns-in_err-m : goal.items-returns-in_err-m
items-returns-in_err-m t c =
    let p = err_from_is_err_and c.from_residual.result c.from_residual.ensures.1 in
    let i = c.loop-c.invariant in
    let u = puts_of c.loop-c.d c.comma.new.stack c.comma.ensures.left in
    rw (p.1, p.2) (record {
      symbol = c.in_err-m.ensures.symbol ∙ i.symbol;
      same = c.in_err-m.ensures.same ∙ lent_stack c.loop-c.d c.comma.new.stack c.comma.ensures.same ∙ i.same;
      is = λ σ h. let l = i.so_far.so_far σ h in
          listed_refuses l (at_byte l (peeked_from c.loop-c.d i.symbol c.peek.ensures c.in-Some.is) (sym c.stops.ensures ∙ c.if-stops.false)) refl
          (item_from c.loop-c.d i.symbol c.comma.new.stack c.args.kind (Err c.in_err-m.field-0.0) c.in_err-m.ensures l.state (holds_puts u l.stands.holds)) refl;
    })

pub items-longer-list-requires : goal.items-longer-list-requires
items-longer-list-requires t c =
    let i = c.loop-c.invariant in
    let l = i.so_far.so_far _ c.requires.1 in
    let u = puts_of c.loop-c.d c.comma.new.stack c.comma.ensures.left in
    let g = got refl (item_from c.loop-c.d i.symbol c.comma.new.stack c.args.kind (Ok c.in_ok-m.m) c.in_ok-m.ensures l.state (holds_puts u l.stands.holds)) in
    (omega (arith, g.wrote.size, g.wrote.short), (i.so_far.small, omega (arith, i.so_far.far, i.so_far.inside, i.so_far.short)))

pub items-loop-c-smaller : goal.items-loop-c-smaller
items-loop-c-smaller t c =
    let i = c.loop-c.invariant in
    let l = i.so_far.so_far _ c.requires.1 in
    let u = puts_of c.loop-c.d c.comma.new.stack c.comma.ensures.left in
    let g = got refl (item_from c.loop-c.d i.symbol c.comma.new.stack c.args.kind (Ok c.in_ok-m.m) c.in_ok-m.ensures l.state (holds_puts u l.stands.holds)) in
    omega (arith, g.wrote.more, g.wrote.holds.place, ap length i.symbol, ap length c.in_ok-m.ensures.symbol)

pub items-loop-c-preserved : goal.items-loop-c-preserved
items-loop-c-preserved t c =
    let i = c.loop-c.invariant in
    let z = peeked_from c.loop-c.d i.symbol c.peek.ensures c.in-Some.is in
    let u = puts_of c.loop-c.d c.comma.new.stack c.comma.ensures.left in
    rw c.longer-list.ensures (record {
      symbol = c.in_ok-m.ensures.symbol ∙ i.symbol;
      same = c.in_ok-m.ensures.same ∙ lent_stack c.loop-c.d c.comma.new.stack c.comma.ensures.same ∙ i.same;
      so_far = listing_more i.so_far c.requires.1 u z (sym c.stops.ensures ∙ c.if-stops.false) refl
          (item_from c.loop-c.d i.symbol c.comma.new.stack c.args.kind (Ok c.in_ok-m.m) c.in_ok-m.ensures) refl;
    })

-- ---------------------------------------------------------------- item

pub item-returns-in_err-n-in-Arguments : goal.item-returns-in_err-n-in-Arguments
item-returns-in_err-n-in-Arguments t c =
    let p = err_from_is_err_and c.from_residual.result c.from_residual.ensures.1 in
    let k = c.in_err-n-in-Arguments.ensures in
    rw (p.1, p.2) (record { symbol = k.symbol; same = k.same; is = λ σ h. argument_refused σ c.in-Arguments.is refl (k.reads σ h) })

pub item-push_arg-requires : goal.item-push_arg-requires
item-push_arg-requires t c =
    let k = c.in_ok-n-in-Arguments.ensures in
    let w = (read_of k c.requires.1).wrote in
    omega (arith, stands_top (stood w) (omega (arith, w.short)))

pub item-returns-in_err-push_arg-in-Arguments : goal.item-returns-in_err-push_arg-in-Arguments
item-returns-in_err-push_arg-in-Arguments t c =
    let p = err_from_is_err_and c.from_residual-in_err-push_arg-in-Arguments.result c.from_residual-in_err-push_arg-in-Arguments.ensures.1 in
    let k = c.in_ok-n-in-Arguments.ensures in
    let u = c.in_err-push_arg-in-Arguments.ensures in
    rw (p.1, p.2) (record {
      symbol = ap (λ (x : Demangler). x.s.now) u.others ∙ k.symbol;
      same = u.same ∙ k.same;
      is = λ σ h. let g = read_of k h in argument_kept _ σ c.in-Arguments.is g.is g.wrote u (stood g.wrote);
    })

pub item-returns-in_ok-push_arg-in-Arguments : goal.item-returns-in_ok-push_arg-in-Arguments
item-returns-in_ok-push_arg-in-Arguments t c =
    let k = c.in_ok-n-in-Arguments.ensures in
    let u = c.in_ok-push_arg-in-Arguments.ensures in
    record {
      symbol = ap (λ (x : Demangler). x.s.now) u.others ∙ k.symbol;
      same = u.same ∙ k.same;
      is = λ σ h. let g = read_of k h in argument_kept _ σ c.in-Arguments.is g.is g.wrote u (stood g.wrote);
    }

-- ---------------------------------------------------------------- template_args

pub template_args-returns-in_err-need : goal.template_args-returns-in_err-need
template_args-returns-in_err-need t c =
    let p = err_from_is_err_and c.from_residual.result c.from_residual.ensures.1 in
    rw (p.1, p.2) (lacked_parses (λ f σ h. args_no c.args.d.now.s.now c.args.d.now.state.at σ h.rest (ap (λ (t : Text). starts t (73 ∷ [])) h.rest ∙ f)) c.in_err-need.ensures)

pub template_args-returns-in_err-enter : goal.template_args-returns-in_err-enter
template_args-returns-in_err-enter t c =
    let p = err_from_is_err_and c.from_residual-in_err-enter.result c.from_residual-in_err-enter.ensures.1 in
    rw (p.1, p.2) (args_too_deep (needed c.in_ok-need.ensures) c.in_err-enter.ensures)

pub template_args-items-requires : goal.template_args-items-requires
template_args-items-requires t c =
    let o = opened c.put.new.self (needed c.in_ok-need.ensures) c.in_ok-enter.ensures c.put.ensures.left in
    (omega (arith, c.decreases, o.inside, ap (λ (x : Demangler). x.state.at) o.is, ap (λ (x : Demangler). length x.s.now) o.is), (_, opened_held o c.requires.1))

pub template_args-returns-in_err-list : goal.template_args-returns-in_err-list
template_args-returns-in_err-list t c =
    let p = err_from_is_err_and c.from_residual-in_err-list.result c.from_residual-in_err-list.ensures.1 in
    let o = opened_lent c.put.new.self (needed c.in_ok-need.ensures) c.in_ok-enter.ensures c.put.ensures.left c.put.ensures.same in
    rw (p.1, p.2) (args_no_list_lent o c.in_err-list.ensures)

pub template_args-returns-in_err-need-2 : goal.template_args-returns-in_err-need-2
template_args-returns-in_err-need-2 t c =
    let p = err_from_is_err_and c.from_residual-in_err-need-2.result c.from_residual-in_err-need-2.ensures.1 in
    let o = opened_lent c.put.new.self (needed c.in_ok-need.ensures) c.in_ok-enter.ensures c.put.ensures.left c.put.ensures.same in
    rw (p.1, p.2) (args_unclosed_lent o c.in_ok-list.ensures (lacked c.in_err-need-2.ensures))

pub template_args-newest-requires : goal.template_args-newest-requires
template_args-newest-requires t c =
    let o = opened c.put.new.self (needed c.in_ok-need.ensures) c.in_ok-enter.ensures c.put.ensures.left in
    let q = needed c.in_ok-need-2.ensures in
    omega (arith, stands_some (bracketed o c.in_ok-list.ensures q c.requires.1) (omega arith), ap (λ (x : Demangler). x.stack.top) (c.leave.ensures ∙ ap (λ (x : Demangler). at_depth x c.need.new.self.state.depth) q.is))

pub template_args-sum-requires : goal.template_args-sum-requires
template_args-sum-requires t c =
    let o = opened c.put.new.self (needed c.in_ok-need.ensures) c.in_ok-enter.ensures c.put.ensures.left in
    let z : length c.if-eq.close.now ≤ 2 = elim c.if-eq.branch [
      | template_args-then-eq w ↦ omega (arith, ap (λ (x : Bor Text). length x.now) w.close-is)
      | template_args-else-eq w ↦ omega (arith, ap (λ (x : Bor Text). length x.now) w.close-is)
    ] in
    (omega (arith, (list_is o c.in_ok-list.ensures c.requires.1).stands.size), omega (arith, z))

pub template_args-returns : goal.template_args-returns
template_args-returns t c =
    let e = needed c.in_ok-need.ensures in
    let o = opened_lent c.put.new.self e c.in_ok-enter.ensures c.put.ensures.left c.put.ensures.same in
    let q = needed c.in_ok-need-2.ensures in
    let v = bracketed (angles_in_any o) c.in_ok-list.ensures q c.requires.1 in
    let i = c.leave.ensures ∙ ap (λ (x : Demangler). at_depth x c.need.new.self.state.depth) q.is in
    let top = ap (λ (x : Demangler). x.stack.top) i in
    let g : Stacked c.leave.new.self.stack.bytes.now c.leave.new.self.stack.top = subst (λ (x : Demangler). Stacked x.stack.bytes.now x.stack.top) (sym i) v.holds.text in
    let z : c.if-eq.close.now ≡ close_of c.eq.result = elim c.if-eq.branch [
      | template_args-then-eq w ↦ ap (λ (x : Bor Text). x.now) w.close-is ∙ ap close_of (sym w.if-eq.true)
      | template_args-else-eq w ↦ ap (λ (x : Bor Text). x.now) w.close-is ∙ ap close_of (sym w.if-eq.false)
    ] in
    args_closed_lent o c.in_ok-list.ensures q c.leave.ensures (ap (λ (x : Demangler). x.state.depth) e.is)
    (newest_byte _ _ 62 g (omega (arith, top, stands_some v (omega arith))) c.newest.ensures c.as_slice.ensures c.eq.ensures) z c.put-2.ensures.left c.put-2.ensures.same c.sum.ensures c.given.ensures

-- ---------------------------------------------------------------- template_arg

pub template_arg-returns-then-here : goal.template_arg-returns-then-here
template_arg-returns-then-here t c = record {
  symbol = c.expr_primary.ensures.symbol;
  same = c.expr_primary.ensures.same;
  reads = λ σ h. by (arg_literal c.args.d.now.s.now c.args.d.now.state.at σ h.rest (ahead_from c.args.d.now 76 refl h c.here.ensures c.if-here.true)) (c.expr_primary.ensures.reads σ h);
}

pub template_arg-expression-requires : goal.template_arg-expression-requires
template_arg-expression-requires t c =
    let e = ate c.if-eat.true c.eat.ensures in
    let h : Prepared c.eat.new.self = prepared_at e.is (omega (arith, e.past.inside)) c.requires in
    (h.1.place, h.1.source)

pub template_arg-returns-in_err-d : goal.template_arg-returns-in_err-d
template_arg-returns-in_err-d t c =
    let p = err_from_is_err_and c.from_residual.result c.from_residual.ensures.1 in
    let e = ate c.if-eat.true c.eat.ensures in
    let known : Skips c.args.d.now.s.now (c.args.d.now.state.at + 1) c.expression.result = subst (λ (x : Demangler). Skips x.s.now x.state.at c.expression.result) e.is c.expression.ensures in
    let a : c.expression.result ≡ None = grind (arith, c.in_err-d.ensures) in
    let o : c.in_err-d.field-0.0 ≡ NoRule = grind (arith, c.in_err-d.ensures) in
    rw (p.1, p.2, o) (record {
      symbol = ap (λ (x : Demangler). x.s.now) e.is;
      same = ap lent e.is;
      reads = λ σ h. by (arg_open c.args.d.now.s.now c.args.d.now.state.at σ h.rest (ap (λ (t : Text). starts t (88 ∷ [])) h.rest ∙ e.past.ahead) (skips_none known a)) refuses;
    })

pub template_arg-returns-then-eat : goal.template_arg-returns-then-eat
template_arg-returns-then-eat t c =
    let e = ate c.if-eat.true c.eat.ensures in
    let known : Skips c.args.d.now.s.now (c.args.d.now.state.at + 1) c.expression.result = subst (λ (x : Demangler). Skips x.s.now x.state.at c.expression.result) e.is c.expression.ensures in
    let a : c.expression.result ≡ Some c.in_ok-d.field-0 = grind (arith, c.in_ok-d.ensures) in
    let k = skips_to known a in
    record {
      symbol = ap (λ (x : Demangler). x.s.now) e.is;
      same = lent_stack c.eat.new.self c.put.new.self c.put.ensures.same ∙ ap lent e.is;
      reads = λ σ h. by (arg_skipped c.args.d.now.s.now c.args.d.now.state.at σ h.rest (ap (λ (t : Text). starts t (88 ∷ [])) h.rest ∙ e.past.ahead) k.0)
          (less (omega (arith, h.deep)) (gives_word c.args.d.now c.put.new.self (ap (λ (x : Demangler). at_place x c.in_ok-d.field-0) e.is) h k.1.1 k.1.0 (omega arith) c.put.ensures.left));
    }

pub template_arg-pack-requires : goal.template_arg-pack-requires
template_arg-pack-requires t c =
    let n = ate_none c.if-eat.false c.eat.ensures in
    let e = ate c.if-eat-2.true (subst (λ (x : Demangler). Eats 74 x c.eat-2.new.self c.eat-2.result) n.1 c.eat-2.ensures) in
    (omega (arith, c.decreases, e.past.inside, ap (λ (x : Demangler). x.state.at) e.is, ap (λ (x : Demangler). length x.s.now) e.is), prepared_at e.is (omega (arith, e.past.inside)) c.requires)

pub template_arg-returns-then-eat-2 : goal.template_arg-returns-then-eat-2
template_arg-returns-then-eat-2 t c =
    let n = ate_none c.if-eat.false c.eat.ensures in
    let e = ate c.if-eat-2.true (subst (λ (x : Demangler). Eats 74 x c.eat-2.new.self c.eat-2.result) n.1 c.eat-2.ensures) in
    let k = parses_behind keep e c.pack.ensures in
    record {
      symbol = k.symbol;
      same = k.same;
      reads = λ σ h. by (arg_pack c.args.d.now.s.now c.args.d.now.state.at σ h.rest (ap (λ (t : Text). starts t (74 ∷ [])) h.rest ∙ e.past.ahead)) (sooner (omega arith) (k.reads σ h));
    }

pub template_arg-returns : goal.template_arg-returns
template_arg-returns t c =
    let n = ate_none c.if-eat.false c.eat.ensures in
    let m = ate_none c.if-eat-2.false (subst (λ (x : Demangler). Eats 74 x c.eat-2.new.self c.eat-2.result) n.1 c.eat-2.ensures) in
    let k : Parses (reading ⟨type⟩) (keep (c.args.d.now.state.depth + 1)) (c.args.d.now.state.at + 1) c.args.d.now c.ty.new.d c.ty.result =
    subst (λ (x : Demangler). Parses (reading ⟨type⟩) (keep (x.state.depth + 1)) (x.state.at + 1) x c.ty.new.d c.ty.result) m.1 c.ty.ensures in
    record {
      symbol = k.symbol;
      same = k.same;
      reads = λ σ h. by (arg_other σ (ahead_from c.args.d.now 76 refl h c.here.ensures c.if-here.false)
          (ap (λ (t : Text). starts t (88 ∷ [])) h.rest ∙ n.0) (ap (λ (t : Text). starts t (74 ∷ [])) h.rest ∙ m.0)) (less (omega arith) (k.reads σ h));
    }

-- ---------------------------------------------------------------- pack

pub pack-loop-c-init : goal.pack-loop-c-init
pack-loop-c-init t c = record { symbol = refl; same = refl; so_far = λ σ h. packed_start h c.none-outer.ensures }

pub pack-returns-in_err-c : goal.pack-returns-in_err-c
pack-returns-in_err-c t c =
    let p = err_from_is_err_and c.from_residual.result c.from_residual.ensures.1 in
    let v = c.loop-c.invariant in
    let f = given_none c.peek.result _ c.in_err-c.ensures.value in
    let e = ap (λ (t : Text). peeked (drop c.loop-c.d.state.at t)) (sym v.symbol) ∙ sym c.peek.ensures ∙ f.0 in
    rw (p.1, p.2, f.1) (record { symbol = v.symbol; same = v.same; reads = λ σ h. by (packed_4 (v.so_far σ h) e) refuses })

pub pack-returns-in_err-m : goal.pack-returns-in_err-m
pack-returns-in_err-m t c =
    let p = err_from_is_err_and c.from_residual-in_err-m.result c.from_residual-in_err-m.ensures.1 in
    let v = c.loop-c.invariant in
    let e = ap (λ (t : Text). peeked (drop c.loop-c.d.state.at t)) (sym v.symbol) ∙ sym c.peek.ensures ∙ given_some c.peek.result _ c.in_ok-c.ensures.value in
    let g = given_err c.saturating_sub.result c.in_err-m.ensures in
    rw (p.1, p.2, g.1) (record { symbol = v.symbol; same = v.same; reads = λ σ h. packed_long (v.so_far σ h) e c.if-c-eq69.true c.saturating_sub.ensures g.0 })

pub pack-overflow_add-m : goal.pack-overflow_add-m
pack-overflow_add-m t c =
    let g = given_ok c.saturating_sub.result c.in_ok-m.ensures in
    omega (arith, g.0, g.1)

pub pack-sum-n-requires : goal.pack-sum-n-requires
pack-sum-n-requires t c =
    let v = c.loop-c.invariant in
    let e = ap (λ (t : Text). peeked (drop c.loop-c.d.state.at t)) (sym v.symbol) ∙ sym c.peek.ensures ∙ given_some c.peek.result _ c.in_ok-c.ensures.value in
    let g = given_ok c.saturating_sub.result c.in_ok-m.ensures in
    (outer_small (v.so_far _ c.requires.1) e c.if-c-eq69.true c.in-Some.ensures.1.1, omega (arith, g.0, g.1))

pub pack-returns-in-None : goal.pack-returns-in-None
pack-returns-in-None t c =
    let v = c.loop-c.invariant in
    let e = ap (λ (t : Text). peeked (drop c.loop-c.d.state.at t)) (sym v.symbol) ∙ sym c.peek.ensures ∙ given_some c.peek.result _ c.in_ok-c.ensures.value in
    let g = given_ok c.saturating_sub.result c.in_ok-m.ensures in
    record {
      symbol = v.symbol;
      same = v.same;
      reads = λ σ h. packed_ends (v.so_far σ h) e c.if-c-eq69.true (g.1 ∙ c.saturating_sub.ensures) (omega (arith, g.0, g.1)) c.in-None.ensures.1.1;
    }

pub pack-loop-c-preserved-then-c-eq69 : goal.pack-loop-c-preserved-then-c-eq69
pack-loop-c-preserved-then-c-eq69 t c =
    let v = c.loop-c.invariant in
    let e = ap (λ (t : Text). peeked (drop c.loop-c.d.state.at t)) (sym v.symbol) ∙ sym c.peek.ensures ∙ given_some c.peek.result _ c.in_ok-c.ensures.value in
    let g = given_ok c.saturating_sub.result c.in_ok-m.ensures in
    record {
      symbol = v.symbol;
      same = v.same;
      so_far = λ σ h. packed_closes (v.so_far σ h) e c.if-c-eq69.true (g.1 ∙ c.saturating_sub.ensures) (omega (arith, g.0, g.1)) c.in-Some.ensures c.sum-n.ensures;
    }

pub pack-loop-c-preserved-then-opens : goal.pack-loop-c-preserved-then-opens
pack-loop-c-preserved-then-opens t c =
    let v = c.loop-c.invariant in
    let e = ap (λ (t : Text). peeked (drop c.loop-c.d.state.at t)) (sym v.symbol) ∙ sym c.peek.ensures ∙ given_some c.peek.result _ c.in_ok-c.ensures.value in
    record {
      symbol = v.symbol;
      same = lent_stack c.loop-c.d c.comma.new.stack c.comma.ensures.same ∙ v.same;
      so_far = λ σ h. packed_opens (v.so_far σ h) e refl (puts_of (at_place c.loop-c.d (c.loop-c.d.state.at + 1)) c.comma.new.stack c.comma.ensures.left)
          (sym c.opens.ensures ∙ c.if-opens.true) c.loop-c.outer.room c.push.ensures;
    }

pub pack-returns-in_err-m-2 : goal.pack-returns-in_err-m-2
pack-returns-in_err-m-2 t c =
    let p = err_from_is_err_and c.from_residual-in_err-m-2.result c.from_residual-in_err-m-2.ensures.1 in
    let v = c.loop-c.invariant in
    let e = ap (λ (t : Text). peeked (drop c.loop-c.d.state.at t)) (sym v.symbol) ∙ sym c.peek.ensures ∙ given_some c.peek.result _ c.in_ok-c.ensures.value in
    let k = c.in_err-m-2.ensures in
    rw (p.1, p.2) (record {
      symbol = k.symbol ∙ v.symbol;
      same = k.same ∙ lent_stack c.loop-c.d c.comma.new.stack c.comma.ensures.same ∙ v.same;
      reads = λ σ h. packed_refuses (v.so_far σ h) e (λ z. omega (arith, z, c.if-c-eq69.false)) (puts_of c.loop-c.d c.comma.new.stack c.comma.ensures.left) (reads_from v.symbol k) refl;
    })

pub pack-overflow_add-m-in-loop-c : goal.pack-overflow_add-m-in-loop-c
pack-overflow_add-m-in-loop-c t c =
    let v = c.loop-c.invariant in
    let e = ap (λ (t : Text). peeked (drop c.loop-c.d.state.at t)) (sym v.symbol) ∙ sym c.peek.ensures ∙ given_some c.peek.result _ c.in_ok-c.ensures.value in
    let u = puts_of c.loop-c.d c.comma.new.stack c.comma.ensures.left in
    omega (arith, text_short (v.so_far _ c.requires.1) e (λ z. omega (arith, z, c.if-c-eq69.false)) u (reads_from v.symbol c.in_ok-m-2.ensures) refl)

pub pack-sum-n-requires-in-loop-c : goal.pack-sum-n-requires-in-loop-c
pack-sum-n-requires-in-loop-c t c =
    let v = c.loop-c.invariant in
    let l = v.so_far _ c.requires.1 in
    let e = ap (λ (t : Text). peeked (drop c.loop-c.d.state.at t)) (sym v.symbol) ∙ sym c.peek.ensures ∙ given_some c.peek.result _ c.in_ok-c.ensures.value in
    let u = puts_of c.loop-c.d c.comma.new.stack c.comma.ensures.left in
    (omega (arith, l.size), omega (arith, text_short l e (λ z. omega (arith, z, c.if-c-eq69.false)) u (reads_from v.symbol c.in_ok-m-2.ensures) refl))

pub pack-loop-c-smaller : goal.pack-loop-c-smaller
pack-loop-c-smaller t c =
    let v = c.loop-c.invariant in
    let l = v.so_far _ c.requires.1 in
    let e = ap (λ (t : Text). peeked (drop c.loop-c.d.state.at t)) (sym v.symbol) ∙ sym c.peek.ensures ∙ given_some c.peek.result _ c.in_ok-c.ensures.value in
    let k = c.in_ok-m-2.ensures in
    omega (
      arith,
      inside l e,
      text_further l e (λ z. omega (arith, z, c.if-c-eq69.false)) (puts_of c.loop-c.d c.comma.new.stack c.comma.ensures.left) (reads_from v.symbol k) refl,
      ap length v.symbol,
      ap length k.symbol,
    )

pub pack-loop-c-preserved : goal.pack-loop-c-preserved
pack-loop-c-preserved t c =
    let v = c.loop-c.invariant in
    let e = ap (λ (t : Text). peeked (drop c.loop-c.d.state.at t)) (sym v.symbol) ∙ sym c.peek.ensures ∙ given_some c.peek.result _ c.in_ok-c.ensures.value in
    let k = c.in_ok-m-2.ensures in
    record {
      symbol = k.symbol ∙ v.symbol;
      same = k.same ∙ lent_stack c.loop-c.d c.comma.new.stack c.comma.ensures.same ∙ v.same;
      so_far = λ σ h. packed_more (v.so_far σ h) e (λ z. omega (arith, z, c.if-c-eq69.false))
          (puts_of c.loop-c.d c.comma.new.stack c.comma.ensures.left) (reads_from v.symbol k) refl c.sum-n-in-loop-c.ensures;
    }

-- ---------------------------------------------------------------- expr_primary

pub expr_primary-returns-in_err-need : goal.expr_primary-returns-in_err-need
expr_primary-returns-in_err-need t c =
    let p = err_from_is_err_and c.from_residual.result c.from_residual.ensures.1 in
    rw (p.1, p.2) (lacked_parses (λ f σ h. lit_none c.args.d.now.s.now c.args.d.now.state.at σ h.rest f) c.in_err-need.ensures)

pub expr_primary-name-requires : goal.expr_primary-name-requires
expr_primary-name-requires t c =
    let e = needed c.in_ok-need.ensures in
    let e₂ = ate c.if-eat.true (subst (λ (x : Demangler). Eats 95 x c.eat.new.self c.eat.result) e.is c.eat.ensures) in
    (omega (arith, c.decreases, e₂.past.inside, ap (λ (x : Demangler). x.state.at) e₂.is, ap (λ (x : Demangler). length x.s.now) e₂.is), prepared_at e₂.is (omega (arith, e₂.past.inside)) c.requires)

pub expr_primary-returns-in_err-n : goal.expr_primary-returns-in_err-n
expr_primary-returns-in_err-n t c =
    let p = err_from_is_err_and c.from_residual-in_err-n.result c.from_residual-in_err-n.ensures.1 in
    let e = needed c.in_ok-need.ensures in
    let e₂ = ate c.if-eat.true (subst (λ (x : Demangler). Eats 95 x c.eat.new.self c.eat.result) e.is c.eat.ensures) in
    let w : Parses (reading ⟨name⟩) (keep (c.args.d.now.state.depth + 1)) (c.args.d.now.state.at + 1 + 1 + 1) (at_place c.args.d.now (c.args.d.now.state.at + 1 + 1)) c.name.new.d (Err c.in_err-n.field-0.0) =
    subst (λ (x : Demangler). Parses (reading ⟨name⟩) (keep (x.state.depth + 1)) (x.state.at + 1) x c.name.new.d (Err c.in_err-n.field-0.0)) e₂.is c.in_err-n.ensures in
    rw (p.1, p.2) (record { symbol = w.symbol; same = w.same; reads = λ σ h. lit_name_refused h e.past.ahead e₂.past.ahead refl w.reads refl })

pub expr_primary-returns-then-eat : goal.expr_primary-returns-then-eat
expr_primary-returns-then-eat t c =
    let e = needed c.in_ok-need.ensures in
    let e₂ = ate c.if-eat.true (subst (λ (x : Demangler). Eats 95 x c.eat.new.self c.eat.result) e.is c.eat.ensures) in
    let w : Parses (reading ⟨name⟩) (keep (c.args.d.now.state.depth + 1)) (c.args.d.now.state.at + 1 + 1 + 1) (at_place c.args.d.now (c.args.d.now.state.at + 1 + 1)) c.name.new.d (Ok c.in_ok-n.n) =
    subst (λ (x : Demangler). Parses (reading ⟨name⟩) (keep (x.state.depth + 1)) (x.state.at + 1) x c.name.new.d (Ok c.in_ok-n.n)) e₂.is c.in_ok-n.ensures in
    name_primary c.args.d.now e.past.ahead e₂.past.ahead w c.eat-then-eat.ensures

pub expr_primary-ty-requires : goal.expr_primary-ty-requires
expr_primary-ty-requires t c =
    let e = needed c.in_ok-need.ensures in
    let n = ate_none c.if-eat.false (subst (λ (x : Demangler). Eats 95 x c.eat.new.self c.eat.result) e.is c.eat.ensures) in
    (omega (arith, c.decreases, e.past.inside, ap (λ (x : Demangler). x.state.at) n.1, ap (λ (x : Demangler). length x.s.now) n.1), prepared_at n.1 (omega (arith, e.past.inside)) c.requires)

pub expr_primary-returns-in_err-n-2 : goal.expr_primary-returns-in_err-n-2
expr_primary-returns-in_err-n-2 t c =
    let p = err_from_is_err_and c.from_residual-in_err-n-2.result c.from_residual-in_err-n-2.ensures.1 in
    let e = needed c.in_ok-need.ensures in
    let n = ate_none c.if-eat.false (subst (λ (x : Demangler). Eats 95 x c.eat.new.self c.eat.result) e.is c.eat.ensures) in
    let w : Parses (reading ⟨type⟩) (keep (c.args.d.now.state.depth + 1)) (c.args.d.now.state.at + 1 + 1) (at_place c.args.d.now (c.args.d.now.state.at + 1)) c.ty.new.d (Err c.in_err-n-2.field-0.0) =
    subst (λ (x : Demangler). Parses (reading ⟨type⟩) (keep (x.state.depth + 1)) (x.state.at + 1) x c.ty.new.d (Err c.in_err-n-2.field-0.0)) n.1 c.in_err-n-2.ensures in
    rw (p.1, p.2) (record { symbol = w.symbol; same = w.same; reads = λ σ h. lit_type_refused h e.past.ahead n.0 refl w.reads refl })

pub expr_primary-before-to-requires : goal.expr_primary-before-to-requires
expr_primary-before-to-requires t c =
    let e = needed c.in_ok-need.ensures in
    let n = ate_none c.if-eat.false (subst (λ (x : Demangler). Eats 95 x c.eat.new.self c.eat.result) e.is c.eat.ensures) in
    let w : Parses (reading ⟨type⟩) (keep (c.args.d.now.state.depth + 1)) (c.args.d.now.state.at + 1 + 1) (at_place c.args.d.now (c.args.d.now.state.at + 1)) c.ty.new.d (Ok c.in_ok-n-2.n) =
    subst (λ (x : Demangler). Parses (reading ⟨type⟩) (keep (x.state.depth + 1)) (x.state.at + 1) x c.ty.new.d (Ok c.in_ok-n-2.n)) n.1 c.in_ok-n-2.ensures in
    omega (arith, (lit_type_got c.requires.1 e.past.ahead n.0 refl w.reads refl).wrote.holds.place, ap length w.symbol)

pub expr_primary-returns-in_err-need-2 : goal.expr_primary-returns-in_err-need-2
expr_primary-returns-in_err-need-2 t c =
    let p = err_from_is_err_and c.from_residual-in_err-need-2.result c.from_residual-in_err-need-2.ensures.1 in
    let e = needed c.in_ok-need.ensures in
    let n = ate_none c.if-eat.false (subst (λ (x : Demangler). Eats 95 x c.eat.new.self c.eat.result) e.is c.eat.ensures) in
    let w : Parses (reading ⟨type⟩) (keep (c.args.d.now.state.depth + 1)) (c.args.d.now.state.at + 1 + 1) (at_place c.args.d.now (c.args.d.now.state.at + 1)) c.ty.new.d (Ok c.in_ok-n-2.n) =
    subst (λ (x : Demangler). Parses (reading ⟨type⟩) (keep (x.state.depth + 1)) (x.state.at + 1) x c.ty.new.d (Ok c.in_ok-n-2.n)) n.1 c.in_ok-n-2.ensures in
    let o = subst (λ (t : Text). (c.before-to.result ≡ c.ty.new.d.state.at + length (run (λ x. not (x == 69)) (drop c.ty.new.d.state.at t))) × (c.before-to.result ≤ length t)) w.symbol c.before-to.ensures in
    let a = lacked c.in_err-need-2.ensures in
    rw (p.1, p.2, a.why_is) (record {
      symbol = ap (λ (x : Demangler). x.s.now) a.is ∙ w.symbol;
      same = ap lent a.is ∙ w.same;
      reads = λ σ h. lit_open h e.past.ahead n.0 refl w.reads refl o (ap (λ (t : Text). starts (drop c.before-to.result t) (69 ∷ [])) (sym w.symbol) ∙ a.so);
    })

pub expr_primary-literal-requires : goal.expr_primary-literal-requires
expr_primary-literal-requires t c =
    let e = needed c.in_ok-need.ensures in
    let n = ate_none c.if-eat.false (subst (λ (x : Demangler). Eats 95 x c.eat.new.self c.eat.result) e.is c.eat.ensures) in
    let w : Parses (reading ⟨type⟩) (keep (c.args.d.now.state.depth + 1)) (c.args.d.now.state.at + 1 + 1) (at_place c.args.d.now (c.args.d.now.state.at + 1)) c.ty.new.d (Ok c.in_ok-n-2.n) =
    subst (λ (x : Demangler). Parses (reading ⟨type⟩) (keep (x.state.depth + 1)) (x.state.at + 1) x c.ty.new.d (Ok c.in_ok-n-2.n)) n.1 c.in_ok-n-2.ensures in
    let o = subst (λ (t : Text). (c.before-to.result ≡ c.ty.new.d.state.at + length (run (λ x. not (x == 69)) (drop c.ty.new.d.state.at t))) × (c.before-to.result ≤ length t)) w.symbol c.before-to.ensures in
    let a = needed c.in_ok-need-2.ensures in
    let y = ap (λ (x : Demangler). x.s.now) a.is ∙ w.symbol in
    let v = lit_ready c.requires.1 e.past.ahead n.0 refl w.reads refl o (ap state_of a.is) in (
      v.1.0,
      (
        v.1.1.0,
        omega (
          arith,
          v.1.1.1,
          ap length y,
          length-drop c.ty.new.d.state.at c.need-2.new.self.s.now,
          length-take-le (c.before-to.result - c.ty.new.d.state.at) (drop c.ty.new.d.state.at c.need-2.new.self.s.now) (omega (arith, v.1.1.1, ap length y, length-drop c.ty.new.d.state.at c.need-2.new.self.s.now)),
        ),
      ),
    )

pub expr_primary-returns : goal.expr_primary-returns
expr_primary-returns t c =
    let e = needed c.in_ok-need.ensures in
    let n = ate_none c.if-eat.false (subst (λ (x : Demangler). Eats 95 x c.eat.new.self c.eat.result) e.is c.eat.ensures) in
    let w : Parses (reading ⟨type⟩) (keep (c.args.d.now.state.depth + 1)) (c.args.d.now.state.at + 1 + 1) (at_place c.args.d.now (c.args.d.now.state.at + 1)) c.ty.new.d (Ok c.in_ok-n-2.n) =
    subst (λ (x : Demangler). Parses (reading ⟨type⟩) (keep (x.state.depth + 1)) (x.state.at + 1) x c.ty.new.d (Ok c.in_ok-n-2.n)) n.1 c.in_ok-n-2.ensures in
    let o = subst (λ (t : Text). (c.before-to.result ≡ c.ty.new.d.state.at + length (run (λ x. not (x == 69)) (drop c.ty.new.d.state.at t))) × (c.before-to.result ≤ length t)) w.symbol c.before-to.ensures in
    let a = needed c.in_ok-need-2.ensures in
    let y = ap (λ (x : Demangler). x.s.now) a.is ∙ w.symbol in
    let q = c.literal.ensures in
    record {
      symbol = ap (λ (x : Demangler). x.s.now) q.others ∙ y;
      same = q.same ∙ ap lent a.is ∙ w.same;
      reads = λ σ h. lit_given h e.past.ahead n.0 refl w.reads refl o (ap (λ (t : Text). starts (drop c.before-to.result t) (69 ∷ [])) (sym w.symbol) ∙ a.past.ahead) (ap state_of a.is)
          (printed_from c.ty.new.d c.before-to.result w.symbol a.is y q);
    }
