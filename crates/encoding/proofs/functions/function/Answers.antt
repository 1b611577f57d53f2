use Rattle.std.proofs.Common.{length, refl, ap, ◌∙◌, arith}
use Rattle.std.proofs.lemmas.Result.{err_from_is_err_and}
use Rattle.grammar.specs.Text.{b}
use Rattle.parser.specs.Laws.Demanglers.{puts_of, cuts_of, given_ok, given_err, lent_stack}
use Rattle.encoding.specs.Laws.Functions.{void_from, qualified_from, list, list_least, void_room, items_refused, void_given, list_long, list_given}
use Rattle.encoding.proofs.functions.function.Goals as goal

pub returns-in_err-list : goal.returns-in_err-list
unfolding b
returns-in_err-list c =
    let p = err_from_is_err_and c.from_residual.result c.from_residual.ensures.1 in
    let z = puts_of c.args.d.now c.put.new.self c.put.ensures.left in
    rw (p.1, p.2) (record {
      symbol = c.in_err-list.ensures.symbol;
      same = c.in_err-list.ensures.same ∙ lent_stack c.args.d.now c.put.new.self c.put.ensures.same;
      is = λ base at t σ h. items_refused z c.in_err-list.ensures.is c.args.cv.from c.args.cv.to h refl refl;
    })

pub lone_void-requires : goal.lone_void-requires
unfolding b
lone_void-requires c =
    let z = puts_of c.args.d.now c.put.new.self c.put.ensures.left in
    let h = (list z c.in_ok-list.ensures.is c.requires.0.1 refl).stands.holds in
    (omega (arith, h.place, ap (λ (x : _). length x) c.in_ok-list.ensures.symbol), list_least z c.in_ok-list.ensures.is c.requires.0.1 refl)

pub cut-requires : goal.cut-requires
unfolding b
cut-requires c =
    let z = puts_of c.args.d.now c.put.new.self c.put.ensures.left in
    let v = void_from c.items.new.d c.in_ok-list.ensures.symbol c.lone_void.ensures c.if-lone_void.true in
    omega (arith, void_room z c.in_ok-list.ensures.is c.requires.0.1 refl v)

pub returns-then-lone_void : goal.returns-then-lone_void
unfolding b
returns-then-lone_void c =
    let z = puts_of c.args.d.now c.put.new.self c.put.ensures.left in
    let e = c.in_ok-list.ensures.symbol in
    let v = void_from c.items.new.d e c.lone_void.ensures c.if-lone_void.true in
    let u = cuts_of c.items.new.d c.cut.new.self c.cut.ensures.left in
    let w = puts_of (record c.items.new.d { stack = c.cut.new.self }) c.put-then-lone_void.new.self c.put-then-lone_void.ensures.left in
    record {
      symbol = c.qualified.ensures.symbol ∙ e;
      same = c.qualified.ensures.same ∙ lent_stack c.items.new.d c.put-then-lone_void.new.self (c.put-then-lone_void.ensures.same ∙ c.cut.ensures.same) ∙ c.in_ok-list.ensures.same ∙ lent_stack c.args.d.now c.put.new.self c.put.ensures.same;
      is = λ base at t σ h.
          void_given z c.in_ok-list.ensures.is c.args.cv.from c.args.cv.to h c.requires.1.0 refl v u w
          (qualified_from (record c.items.new.d { stack = c.put-then-lone_void.new.self }) e c.args.cv _ c.qualified.ensures);
    }

pub returns-in_err-m : goal.returns-in_err-m
unfolding b
returns-in_err-m c =
    let p = err_from_is_err_and c.from_residual-in_err-m.result c.from_residual-in_err-m.ensures.1 in
    let z = puts_of c.args.d.now c.put.new.self c.put.ensures.left in
    let e = c.in_ok-list.ensures.symbol in
    let v = void_from c.items.new.d e c.lone_void.ensures c.if-lone_void.false in
    let g = given_err c.in_ok-list.list.n c.in_err-m.ensures in
    rw (p.1, p.2, g.1) (record {
      symbol = e;
      same = c.in_ok-list.ensures.same ∙ lent_stack c.args.d.now c.put.new.self c.put.ensures.same;
      is = λ base at t σ h. list_long z c.in_ok-list.ensures.is c.args.cv.from c.args.cv.to h c.requires.1.0 refl v g.0;
    })

pub overflow_add-n-2 : goal.overflow_add-n-2
overflow_add-n-2 c =
    let g = given_ok c.in_ok-list.list.n c.in_ok-m.ensures in
    omega (arith, c.requires.1.0, g.0, g.1)

pub overflow_add-n-3 : goal.overflow_add-n-3
overflow_add-n-3 c =
    let g = given_ok c.in_ok-list.list.n c.in_ok-m.ensures in
    omega (arith, c.requires.1.0, g.0, g.1)

pub qualified-requires-2 : goal.qualified-requires-2
qualified-requires-2 c =
    let g = given_ok c.in_ok-list.list.n c.in_ok-m.ensures in
    (omega (arith, c.requires.1.0, g.0, g.1), (c.requires.1.1.0, omega (arith, c.requires.1.1.1, ap (λ (x : _). length x) c.in_ok-list.ensures.symbol)))

pub returns : goal.returns
unfolding b
returns c =
    let z = puts_of c.args.d.now c.put.new.self c.put.ensures.left in
    let e = c.in_ok-list.ensures.symbol in
    let v = void_from c.items.new.d e c.lone_void.ensures c.if-lone_void.false in
    let g = given_ok c.in_ok-list.list.n c.in_ok-m.ensures in
    let w = puts_of c.items.new.d c.put-2.new.self c.put-2.ensures.left in
    record {
      symbol = c.qualified-2.ensures.symbol ∙ e;
      same = c.qualified-2.ensures.same ∙ lent_stack c.items.new.d c.put-2.new.self c.put-2.ensures.same ∙ c.in_ok-list.ensures.same ∙ lent_stack c.args.d.now c.put.new.self c.put.ensures.same;
      is = λ base at t σ h.
          list_given z c.in_ok-list.ensures.is c.args.cv.from c.args.cv.to h c.requires.1.0 refl v g.0 w
          (rw (← g.1) (qualified_from (record c.items.new.d { stack = c.put-2.new.self }) e c.args.cv _ c.qualified-2.ensures));
    }
