use Rattle.std.proofs.Math.Option.{Option, none, some}
use Rattle.std.proofs.Common.{◌≡◌, ℕ, ◌+◌, [], ◌∷◌, sym, ap, ◌∙◌, arith, drop, drop-drop}
use Rattle.grammar.specs.Text.{Text, b, if◌then◌otherwise◌, choose, starts}
use Rattle.grammar.specs.Tables.{d_letters}
use Rattle.grammar.specs.Reader.{State, Reader, refused, refuse, by_code, find, word_for, onto, go_to, give}
use Rattle.grammar.specs.Laws.Agree.{moved}
use Rattle.grammar.specs.Laws.Finds.{by_word, all_of}
use Rattle.parser.specs.declared.demangler.Demangler.{Demangler}
use Rattle.parser.specs.Demanglers.{lent}
use Rattle.parser.specs.Holds.{refuses}
use Rattle.parser.specs.Laws.Holds.{by}
use Rattle.parser.specs.Laws.Wraps.{spelled_some, spelled_none}
use Rattle.parser.specs.Laws.Demanglers.{failed, took, took_none, others_by, lent_moved, gives_word}
use Rattle.parser.proofs.demangler.Demangler.builtin_d.Goals as goal

behind-d : (s : Text) (at : ℕ) {x : ℕ} {rest : Text} → drop at s ≡ x ∷ rest → rest ≡ drop (at + 1) s
behind-d s at e = sym (ap (drop 1) e) ∙ drop-drop 1 at s

abbrev read-on : Text → Text → Reader Text
read-on t u v = onto (λ _. give t) (go_to u v)

abbrev the-reader : Reader Text
the-reader = by_code d_letters (λ w. give (b w)) (refuse 4)

ended : (σ : State) → σ.rest ≡ 68 ∷ [] → the-reader σ ≡ refused 4
unfolding by_code onto choose find d_letters b starts if◌then◌otherwise◌
ended σ e = ap (λ (z : Text). choose (find d_letters z) (λ r v. onto (λ _. give (b r.0)) (go_to r.1 v)) (refuse 4) σ) e

module _ (σ : State) {x : ℕ} {u : Text} (e : σ.rest ≡ 68 ∷ (x ∷ u)) where
  looked : the-reader σ ≡ choose (word_for d_letters (68 ∷ x ∷ [])) (λ t. read-on t u) (refuse 4) σ
  unfolding by_code onto all_of d_letters b
  looked =
      ap (λ (z : Text). choose (find d_letters z) (λ r v. onto (λ _. give (b r.0)) (go_to r.1 v)) (refuse 4) σ) e
      ∙ ap (λ (g : Reader Text). g σ) (by_word (68 ∷ x ∷ []) u read-on (refuse 4) d_letters tt)

  known : {t : Text} → word_for d_letters (68 ∷ x ∷ []) ≡ some t → the-reader σ ≡ give t (moved u σ)
  unfolding choose onto go_to
  known f = looked ∙ ap (λ (o : Option Text). choose o (λ t. read-on t u) (refuse 4) σ) f

  unknown : word_for d_letters (68 ∷ x ∷ []) ≡ none → the-reader σ ≡ refused 4
  unfolding choose
  unknown f = looked ∙ ap (λ (o : Option Text). choose o (λ t. read-on t u) (refuse 4) σ) f

pub overflow_add-self : goal.overflow_add-self
overflow_add-self c = omega (arith, c.requires.1.source, c.requires.1.place)

pub returns-in_err-c : goal.returns-in_err-c
returns-in_err-c c =
    let n = took_none c.in_err-c.ensures in
    rw (failed c.from_residual.result c.from_residual.ensures.1, n.why_is) (record {
      symbol = ap (λ (x : Demangler). x.s.now) n.is;
      others = others_by c.args.self.now n.is;
      same = ap lent n.is;
      is = λ rest σ e h. by (ended σ (e ∙ ap (λ (z : Text). 68 ∷ z) (behind-d c.args.self.now.s.now c.args.self.now.state.at (sym h.rest ∙ e) ∙ n.so))) refuses;
    })

pub returns-in_err-word : goal.returns-in_err-word
unfolding b
returns-in_err-word c =
    let n = took c.in_ok-c.ensures in
    let w = spelled_none c.builtin_d.result c.in_err-word.ensures.value c.builtin_d.ensures in
    rw (failed c.from_residual-in_err-word.result c.from_residual-in_err-word.ensures.1, w.1) (record {
      symbol = ap (λ (x : Demangler). x.s.now) n.is;
      others = others_by c.args.self.now n.is;
      same = ap lent n.is;
      is = λ rest σ e h. by (unknown σ (e ∙ ap (λ (z : Text). 68 ∷ z) (behind-d c.args.self.now.s.now c.args.self.now.state.at (sym h.rest ∙ e) ∙ n.past.there)) w.0) refuses;
    })

pub returns : goal.returns
unfolding b
returns c =
    let n = took c.in_ok-c.ensures in
    let w = spelled_some c.builtin_d.result _ c.in_ok-word.ensures.value c.builtin_d.ensures in
    record {
      symbol = ap (λ (x : Demangler). x.s.now) n.is;
      others = others_by c.args.self.now (ap (λ (x : Demangler). record x { stack = c.put.new.self }) n.is);
      same = lent_moved c.args.self.now c.put.new.self n.is c.put.ensures.same;
      is = λ rest σ e h.
          by (known σ (e ∙ ap (λ (z : Text). 68 ∷ z) (behind-d c.args.self.now.s.now c.args.self.now.state.at (sym h.rest ∙ e) ∙ n.past.there)) w.0)
          (gives_word c.args.self.now c.put.new.self n.is h (omega (arith, n.past.inside)) (omega arith) (omega (arith, w.1)) c.put.ensures.left);
    }
