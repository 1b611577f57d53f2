use Rattle.std.proofs.Common.{◌≡◌, ℕ, ◌+◌, sym, ap, ◌∙◌, subst, arith, drop, length, length-drop, not, eqb}
use Rattle.std.proofs.lemmas.Result.{err_from_is_err_and}
use Rattle.grammar.specs.Text.{run}
use Rattle.grammar.specs.Reader.{give}
use Rattle.grammar.specs.Laws.Agree.{moved}
use Rattle.parser.specs.declared.demangler.Demangler.{Demangler}
use Rattle.parser.specs.Demanglers.{at_place, lent}
use Rattle.parser.specs.Holds.{refuses}
use Rattle.parser.specs.Source.{behind_number}
use Rattle.parser.specs.Laws.Holds.{by}
use Rattle.parser.specs.Laws.Source.{number_more}
use Rattle.parser.specs.Laws.Unnamed.{lambda, no_name, unnamed_end, unnamed_open, unnamed_lambda, unnamed_other}
use Rattle.parser.specs.Laws.Demanglers.{took, took_none, others_by, leaf_reads_lent, leaf_gives_lent}
use Rattle.parser.proofs.demangler.Demangler.unnamed_type_name.Goals as goal

-- the place of the next E
abbrev closing : Demangler → ℕ
closing d = d.state.at + length (run (λ x. not (eqb x 69)) (drop d.state.at d.s.now))

pub returns-in_err-kind : goal.returns-in_err-kind
returns-in_err-kind c =
    let p = err_from_is_err_and c.from_residual.result c.from_residual.ensures.1 in
    let n = took_none c.in_err-kind.ensures in
    rw (p.1, p.2, n.why_is)
    (leaf_reads_lent (others_by c.args.self.now n.is) (ap lent n.is)
    (λ σ h. by (unnamed_end c.args.self.now.s.now c.args.self.now.state.at σ h.rest (omega (arith, length-drop c.args.self.now.state.at c.args.self.now.s.now, ap length n.so))) refuses))

pub returns-then-self-end : goal.returns-then-self-end
returns-then-self-end c =
    let n = took c.in_ok-kind.ensures in
    let e : c.before-end.result ≡ closing (at_place c.args.self.now (c.args.self.now.state.at + 1)) = subst (λ (x : Demangler). c.before-end.result ≡ closing x) n.is c.before-end.ensures.0 in
    let l = ap (λ (x : Demangler). length x.s.now) n.is in
    leaf_reads_lent (others_by c.args.self.now n.is) (ap lent n.is)
    (λ σ h. by (unnamed_open c.args.self.now.s.now c.args.self.now.state.at σ h.rest n.past.inside (n.past.byte ∙ c.if-kind-eq108.true) (omega (arith, e, l, c.if-self-end.true))) refuses)

pub returns-then-kind-eq108 : goal.returns-then-kind-eq108
returns-then-kind-eq108 c =
    let n = took c.in_ok-kind.ensures in
    let d = c.args.self.now in
    let e : c.before-end.result ≡ closing (at_place d (d.state.at + 1)) = subst (λ (x : Demangler). c.before-end.result ≡ closing x) n.is c.before-end.ensures.0 in
    let l = ap (λ (x : Demangler). length x.s.now) n.is in
    let f : c.numbered-self.result ≡ behind_number d.s.now (closing (at_place d (d.state.at + 1)) + 1) =
    c.numbered-self.ensures.0 ∙ ap (λ (x : Demangler). behind_number x.s.now (c.before-end.result + 1)) n.is ∙ ap (λ (i : ℕ). behind_number d.s.now (i + 1)) e in
    leaf_gives_lent d c.put.new.self (ap (λ (x : Demangler). at_place x c.numbered-self.result) n.is) (omega (arith, l, c.numbered-self.ensures.1))
    (omega (arith, f, number_more d.s.now (closing (at_place d (d.state.at + 1)) + 1))) (omega arith) c.put.ensures.same c.put.ensures.left
    (λ σ h. unnamed_lambda d.s.now d.state.at σ h.rest n.past.inside (n.past.byte ∙ c.if-kind-eq108.true) (omega (arith, e, l, c.if-self-end.false))
    ∙ ap (λ (i : ℕ). give lambda (moved (drop i d.s.now) σ)) (sym f))

pub returns : goal.returns
returns c =
    let n = took c.in_ok-kind.ensures in
    let d = c.args.self.now in
    let l = ap (λ (x : Demangler). length x.s.now) n.is in
    let f : c.numbered-self-2.result ≡ behind_number d.s.now (d.state.at + 1) = c.numbered-self-2.ensures.0 ∙ ap (λ (x : Demangler). behind_number x.s.now x.state.at) n.is in
    leaf_gives_lent d c.put-2.new.self (ap (λ (x : Demangler). at_place x c.numbered-self-2.result) n.is) (omega (arith, l, c.numbered-self-2.ensures.1))
    (omega (arith, f, number_more d.s.now (d.state.at + 1))) (omega arith) c.put-2.ensures.same c.put-2.ensures.left
    (λ σ h. unnamed_other d.s.now d.state.at σ h.rest n.past.inside (λ z. c.if-kind-eq108.false (sym n.past.byte ∙ z)) ∙ ap (λ (i : ℕ). give no_name (moved (drop i d.s.now) σ)) (sym f))
