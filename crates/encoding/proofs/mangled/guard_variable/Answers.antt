use Rattle.std.proofs.Common.{◌∙◌, ◌+◌, [], ◌∷◌, length, refl, ap, arith}
use Rattle.std.proofs.lemmas.Result.{err_from_is_err_and}
use Rattle.grammar.specs.Text.{b}
use Rattle.grammar.specs.Laws.Text.{starts_is}
use Rattle.store.specs.Laws.Lists.{second_lent}
use Rattle.parser.specs.Demanglers.{state_of}
use Rattle.parser.specs.Laws.Demanglers.{puts_of, given_by, lent_stack}
use Rattle.encoding.specs.Laws.Specials.{guard_holds, guard_refused, guard_got, guard_given}
use Rattle.encoding.proofs.mangled.guard_variable.Goals as goal

pub slice_bounds-d-count : goal.slice_bounds-d-count
unfolding b
slice_bounds-d-count c = omega (arith, ap length (starts_is c.args.d.now.s.now (71 ∷ 86 ∷ []) c.requires.1.0))

pub slice_bounds-d-start : goal.slice_bounds-d-start
unfolding b
slice_bounds-d-start c = omega (arith, ap length (starts_is c.args.d.now.s.now (71 ∷ 86 ∷ []) c.requires.1.0))

pub name-n-requires : goal.name-n-requires
unfolding b
name-n-requires c =
    let s = c.args.d.now.s.now in
    (_, guard_holds s c.requires.0 c.requires.1.0 (second_lent 2 s) c.requires.1.1 (puts_of c.args.d.now c.put.new.self c.put.ensures.left))

pub returns-in_err-n : goal.returns-in_err-n
unfolding b
returns-in_err-n c =
    let s = c.args.d.now.s.now in
    let p = err_from_is_err_and c.from_residual.result c.from_residual.ensures.1 in
    rw (p.1, p.2) (record {
      symbol = refl;
      same = c.in_err-n.ensures.same ∙ lent_stack c.args.d.now c.put.new.self c.put.ensures.same;
      is = guard_refused s c.requires.0 c.requires.1.0 (second_lent 2 s) c.requires.1.1 (puts_of c.args.d.now c.put.new.self c.put.ensures.left) c.in_err-n.ensures.reads refl;
    })

pub overflow_add-n : goal.overflow_add-n
unfolding b
overflow_add-n c =
    let s = c.args.d.now.s.now in
    let w = (guard_got s c.requires.0 c.requires.1.0 (second_lent 2 s) c.requires.1.1 (puts_of c.args.d.now c.put.new.self c.put.ensures.left) c.in_ok-n.ensures.reads refl).wrote in
    omega (arith, w.size, w.short)

pub returns : goal.returns
unfolding b
returns c =
    let s = c.args.d.now.s.now in
    record {
      symbol = refl;
      same = c.in_ok-n.ensures.same ∙ lent_stack c.args.d.now c.put.new.self c.put.ensures.same;
      is = guard_given s c.requires.0 c.requires.1.0 (second_lent 2 s) c.requires.1.1 (puts_of c.args.d.now c.put.new.self c.put.ensures.left) c.in_ok-n.ensures.reads refl refl
          (given_by (state_of (record c.name-n.new.d { s = c.args.d.now.s; state = record c.name-n.new.d.state { at = length s } })) (c.in_ok-n.n + 19) c.given.ensures);
    }
