use Rattle.std.proofs.Common.{◌≡◌, false, [], ◌∷◌, rules, tests, arith}
use Rattle.std.proofs.lemmas.Result.{err_from_is_err_and}
use Rattle.grammar.specs.Text.{b, starts}
use Rattle.encoding.specs.Laws.Specials.{fresh_holds}
use Rattle.parser.specs.Laws.Demanglers.{parses_in_any}
use Rattle.encoding.specs.Laws.Thunks.{Labelled, starts_both, starts_unlike, labelled_h, labelled_v, unlabelled_h}
use Rattle.encoding.specs.Laws.Thunks.{unlabelled_v, unlabelled_second, plain_encoded, put_prepared, labelled_refused_lent, labelled_short, labelled_given_lent}
use Rattle.encoding.proofs.thunks.thunk_or_function.Goals as goal
use Rattle.encoding.proofs.thunks.thunk_or_function.Goals.{in_default-via-then-d-lt2, in_default-via-else-d-lt2+in-84+in_default-1, in_default-via-else-d-lt2+in_default-1}
use Rattle.encoding.proofs.thunks.thunk_or_function.Goals.{After-put, in-84+in_ok-offset-in-84, in-84-2+in_ok-offset-in-84-2+in_ok-offset-in-84-2-2}

pub returns-in_err-offset-in-84 : goal.returns-in_err-offset-in-84
returns-in_err-offset-in-84 c =
    let p = err_from_is_err_and c.from_residual.result c.from_residual.ensures.1 in
    let e = starts_both c.args.d.now.s.now {x = 84} {y = 104} (search (rules, tests)) (search (rules, tests)) (search (rules, tests)) in
    rw (p.1, p.2) (unlabelled_h c.args.d.now e c.in_err-offset-in-84.ensures)

pub returns-in_err-offset-in-84-2 : goal.returns-in_err-offset-in-84-2
returns-in_err-offset-in-84-2 c =
    let p = err_from_is_err_and c.from_residual-in_err-offset-in-84-2.result c.from_residual-in_err-offset-in-84-2.ensures.1 in
    let e = starts_both c.args.d.now.s.now {x = 84} {y = 118} (search (rules, tests)) (search (rules, tests)) (search (rules, tests)) in
    rw (p.1, p.2) (unlabelled_v c.args.d.now e c.in_err-offset-in-84-2.ensures)

pub returns-in_err-offset-in-84-2-2 : goal.returns-in_err-offset-in-84-2-2
returns-in_err-offset-in-84-2-2 c =
    let p = err_from_is_err_and c.from_residual-in_err-offset-in-84-2-2.result c.from_residual-in_err-offset-in-84-2-2.ensures.1 in
    let e = starts_both c.args.d.now.s.now {x = 84} {y = 118} (search (rules, tests)) (search (rules, tests)) (search (rules, tests)) in
    rw (p.1, p.2) (unlabelled_second c.args.d.now e c.in_ok-offset-in-84-2.ensures c.in_err-offset-in-84-2-2.ensures)

pub function_or_data-requires : goal.function_or_data-requires
function_or_data-requires c = (_, fresh_holds c.requires.0 c.requires.1)

pub returns-in_default : goal.returns-in_default
returns-in_default c =
    let e : starts c.args.d.now.s.now (84 ∷ 104 ∷ []) ≡ false = elim c.in_default.branch [
      | in_default-via-then-d-lt2 w ↦ starts_unlike c.args.d.now.s.now (λ l i j. search (rules, tests))
      | in_default-via-else-d-lt2+in-84+in_default-1 w ↦ starts_unlike c.args.d.now.s.now (λ l i j. search (rules, tests))
      | in_default-via-else-d-lt2+in_default-1 w ↦ starts_unlike c.args.d.now.s.now (λ l i j. search (rules, tests))
    ] in
    let f : starts c.args.d.now.s.now (84 ∷ 118 ∷ []) ≡ false = elim c.in_default.branch [
      | in_default-via-then-d-lt2 w ↦ starts_unlike c.args.d.now.s.now (λ l i j. search (rules, tests))
      | in_default-via-else-d-lt2+in-84+in_default-1 w ↦ starts_unlike c.args.d.now.s.now (λ l i j. search (rules, tests))
      | in_default-via-else-d-lt2+in_default-1 w ↦ starts_unlike c.args.d.now.s.now (λ l i j. search (rules, tests))
    ] in
    plain_encoded c.requires.0 c.requires.1 e f c.function_or_data.ensures

-- behind the offsets of a row, whose label was put
labelled : (c : After-put) → Labelled c.args.d.now c.match-this-2.d c.match-this-2.label.now
unfolding b
labelled c =
    elim c.match-this-2.branch [
      | in-84+in_ok-offset-in-84 w ↦
          let e = starts_both c.args.d.now.s.now {x = 84} {y = 104} (search (rules, tests)) (search (rules, tests)) (search (rules, tests)) in
          rw (w.d-is, w.label-is) (labelled_h c.args.d.now e w.in_ok-offset-in-84.ensures)
      | in-84-2+in_ok-offset-in-84-2+in_ok-offset-in-84-2-2 w ↦
          let e = starts_both c.args.d.now.s.now {x = 84} {y = 118} (search (rules, tests)) (search (rules, tests)) (search (rules, tests)) in
          rw (w.d-is, w.label-is) (labelled_v c.args.d.now e w.in_ok-offset-in-84-2.ensures w.in_ok-offset-in-84-2-2.ensures)
    ]

pub function_or_data-requires-2 : goal.function_or_data-requires-2
unfolding b
function_or_data-requires-2 c =
    let l = labelled (goal.at.function_or_data-requires-2 c).After-put in
    put_prepared c.requires.0 c.requires.1 l c.put.new.self c.put.ensures.left

pub returns-in_err-n : goal.returns-in_err-n
unfolding b
returns-in_err-n c =
    let l = labelled (goal.at.returns-in_err-n c).After-put in
    let p = err_from_is_err_and c.from_residual-in_err-n.result c.from_residual-in_err-n.ensures.1 in
    rw (p.1, p.2) (labelled_refused_lent c.requires.0 c.requires.1 l c.put.new.self c.put.ensures.left c.put.ensures.same c.in_err-n.ensures)

pub overflow_add-n : goal.overflow_add-n
unfolding b
overflow_add-n c =
    let l = labelled (goal.at.overflow_add-n c).After-put in
    omega (arith, labelled_short c.requires.0 c.requires.1 l c.put.new.self c.put.ensures.left (parses_in_any c.in_ok-n.ensures), l.fits)

pub returns : goal.returns
unfolding b
returns c =
    let l = labelled (goal.at.returns c).After-put in
    labelled_given_lent c.requires.0 c.requires.1 l c.put.new.self c.put.ensures.left c.put.ensures.same c.in_ok-n.ensures c.given.ensures
