use Rattle.std.proofs.Common.{◌+◌, [], ◌∷◌, length, refl, sym, ◌∙◌, arith}
use Rattle.std.proofs.lemmas.Result.{err_from_is_err_and}
use Rattle.grammar.specs.Text.{b}
use Rattle.parser.specs.Demanglers.{state_of}
use Rattle.parser.specs.Laws.Demanglers.{puts_of, given_by, lent_stack}
use Rattle.encoding.specs.Laws.Labels.{slice_starts}
use Rattle.encoding.specs.Laws.Specials.{label_holds, label_refused, label_got, label_given, other_read}
use Rattle.encoding.proofs.mangled.encoding.Goals as goal

pub guard_variable-requires : goal.guard_variable-requires
unfolding b
guard_variable-requires c =
    (c.requires.0, (sym (slice_starts c.args.d.now.s.now (71 ∷ 86 ∷ [])) ∙ sym c.starts_with.ensures.value ∙ c.if-starts_with.true, c.requires.1.1))

pub returns-in_default : goal.returns-in_default
unfolding b
returns-in_default c =
    let e = sym (slice_starts c.args.d.now.s.now (71 ∷ 86 ∷ [])) ∙ sym c.starts_with.ensures.value ∙ c.if-starts_with.false in
    record { symbol = c.thunk_or_function.ensures.symbol; same = c.thunk_or_function.ensures.same; is = other_read c.in_default.ensures c.requires.1.0 e c.thunk_or_function.ensures.is }

pub ty-requires : goal.ty-requires
ty-requires c =
    let u = puts_of (record c.args.d.now { state = record c.args.d.now.state { at = 2 } }) c.put.new.self c.put.ensures.left in
    (_, label_holds c.requires.0 c.requires.1.1 c.in-Some.ensures refl u)

pub returns-in_err-n : goal.returns-in_err-n
returns-in_err-n c =
    let p = err_from_is_err_and c.from_residual.result c.from_residual.ensures.1 in
    let u = puts_of (record c.args.d.now { state = record c.args.d.now.state { at = 2 } }) c.put.new.self c.put.ensures.left in
    rw (p.1, p.2) (record { symbol = c.in_err-n.ensures.symbol; same = c.in_err-n.ensures.same ∙ lent_stack c.args.d.now c.put.new.self c.put.ensures.same; is = label_refused c.requires.0 c.requires.1.1 c.in-Some.ensures refl u c.in_err-n.ensures.reads refl })

pub overflow_add-n : goal.overflow_add-n
overflow_add-n c =
    let u = puts_of (record c.args.d.now { state = record c.args.d.now.state { at = 2 } }) c.put.new.self c.put.ensures.left in
    let g = (label_got c.requires.0 c.requires.1.1 c.in-Some.ensures refl u c.in_ok-n.ensures.reads refl).wrote in
    omega (arith, g.size, g.short, c.in-Some.ensures.fits)

pub returns : goal.returns
returns c =
    let u = puts_of (record c.args.d.now { state = record c.args.d.now.state { at = 2 } }) c.put.new.self c.put.ensures.left in
    record {
      symbol = c.in_ok-n.ensures.symbol;
      same = c.in_ok-n.ensures.same ∙ lent_stack c.args.d.now c.put.new.self c.put.ensures.same;
      is = label_given c.requires.0 c.requires.1.1 c.in-Some.ensures refl u c.in_ok-n.ensures.reads refl
          (given_by (state_of c.ty.new.d) (c.in_ok-n.n + length c.in-Some.word.now) c.given.ensures);
    }
