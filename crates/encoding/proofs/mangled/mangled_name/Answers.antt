use Rattle.std.proofs.Common.{[], ◌∷◌, length, refl, sym, ◌∙◌, arith}
use Rattle.std.proofs.lemmas.Result.{err_from_is_err_and}
use Rattle.grammar.specs.Text.{b}
use Rattle.parser.specs.Demanglers.{state_of}
use Rattle.parser.specs.Laws.Demanglers.{given_by}
use Rattle.parser.specs.Laws.Literals.{strip_starts}
use Rattle.encoding.specs.Laws.Clones.{cloned_start, cloned_in_any, cloned_more_lent, cloned_begun, clones_alone, clones_refused, clones_given}
use Rattle.encoding.proofs.mangled.mangled_name.Goals as goal

pub loop-rest-init : goal.loop-rest-init
loop-rest-init c = cloned_start c.args.d.now

pub loop-rest-preserved : goal.loop-rest-preserved
unfolding b
loop-rest-preserved c =
    cloned_more_lent c.args.d.now c.loop-rest.invariant c.in-Some.rest c.put.new.self c.in-Some.ensures.cases.0 c.in-Some.ensures.cases.1 c.put.ensures.left c.put.ensures.same c.sum-n.ensures

pub encoding-m-requires : goal.encoding-m-requires
unfolding b
encoding-m-requires c = (
  omega (arith, c.requires.0, c.loop-rest.invariant.clones.within),
  (sym (strip_starts c.loop-rest.d.s.now (71 ∷ 84 ∷ 116 ∷ [])) ∙ c.in_default.ensures.cases, cloned_begun c.args.d.now (cloned_in_any c.loop-rest.invariant) c.requires.1),
)

pub returns-in_err-m : goal.returns-in_err-m
returns-in_err-m c =
    let p = err_from_is_err_and c.from_residual.result c.from_residual.ensures.1 in
    rw (p.1, p.2) (record { symbol = refl; same = c.in_err-m.ensures.same ∙ c.loop-rest.invariant.same; is = clones_refused c.loop-rest.invariant.clones c.in_err-m.ensures.is })

pub returns-then-alone : goal.returns-then-alone
returns-then-alone c =
    let v = c.loop-rest.invariant.clones in
    record { symbol = refl; same = c.in_ok-m.ensures.same ∙ c.loop-rest.invariant.same; is = clones_alone v c.in_ok-m.ensures.is c.if-alone.true }

pub returns : goal.returns
returns c =
    let s = c.args.d.now.s.now in
    record {
      symbol = refl;
      same = c.in_ok-m.ensures.same ∙ c.loop-rest.invariant.same;
      is = clones_given c.loop-rest.invariant.clones c.in_ok-m.ensures.is c.if-alone.false refl refl c.sum.ensures
          (given_by (state_of (record c.encoding-m.new.d { s = c.args.d.now.s; state = record c.encoding-m.new.d.state { at = length s } })) c.sum.result c.given.ensures);
    }
