use Rattle.grammar.specs.Laws.Places.{byte_there, peek_end}
use Rattle.std.proofs.Common.{◌≡◌, ℕ, ◌+◌, [], ◌∷◌, Option, Some, refl, sym, ap, ◌∙◌, arith, drop, length, length-drop}
use Rattle.grammar.specs.Tables.{abbreviations}
use Rattle.grammar.specs.Reader.{word_for}
use Rattle.grammar.specs.States.{peeked, moved_to}
use Rattle.grammar.specs.Laws.States.{Past, past_by}
use Rattle.parser.specs.declared.demangler.Demangler.{Demangler}
use Rattle.parser.specs.Demanglers.{at_place, state_of, lent}
use Rattle.parser.specs.Holds.{refuses}
use Rattle.parser.specs.Laws.Holds.{by}
use Rattle.parser.specs.Laws.References.{given_some, given_none, sub_none, sub_end, sub_word, sub_entry}
use Rattle.parser.specs.Laws.Demanglers.{Passed, failed, needed, lacked_leaf, prepared_at, others_by, leaf_reads_lent, leaf_moved, leaf_gives_lent}
use Rattle.parser.proofs.demangler.Demangler.substitution.Goals as goal

-- the byte behind the first
module _ {d d' : Demangler} {o : Option ℕ} (p : Passed 83 d d') (e : o ≡ peeked (drop d'.state.at d'.s.now)) where
  ahead : peeked (drop (d.state.at + 1) d.s.now) ≡ o
  ahead = sym (ap (λ (x : Demangler). peeked (drop x.state.at x.s.now)) p.is) ∙ sym e

  behind : {c : ℕ} → o ≡ Some c → Past d.s.now (moved_to (state_of d) (d.state.at + 1)) c (moved_to (state_of d) (d.state.at + 1 + 1))
  behind f = past_by _ (byte_there d.s.now (d.state.at + 1) (ahead ∙ f)) refl

pub returns-in_err-need : goal.returns-in_err-need
returns-in_err-need c =
    rw (failed c.from_residual.result c.from_residual.ensures.1) (lacked_leaf (λ f σ h. sub_none c.args.self.now.s.now c.args.self.now.state.at σ h.rest f) c.in_err-need.ensures)

pub returns-in_err-c : goal.returns-in_err-c
returns-in_err-c c =
    let d = c.args.self.now in
    let n = needed c.in_ok-need.ensures in
    let g = given_none c.peek.result _ c.in_err-c.ensures.value in
    let o : drop (d.state.at + 1) d.s.now ≡ [] = peek_end _ (ahead n c.peek.ensures ∙ g.0) in
    rw (failed c.from_residual-in_err-c.result c.from_residual-in_err-c.ensures.1, g.1)
    (leaf_reads_lent (others_by d n.is) (ap lent n.is) (λ σ h. by (sub_end d.s.now d.state.at σ h.rest n.past.ahead (omega (arith, length-drop (d.state.at + 1) d.s.now, ap length o))) refuses))

pub old_entry-requires : goal.old_entry-requires
old_entry-requires c =
    let n = needed c.in_ok-need.ensures in
    prepared_at n.is (omega (arith, n.past.inside)) c.requires

pub returns-in_default : goal.returns-in_default
returns-in_default c =
    let d = c.args.self.now in
    let n = needed c.in_ok-need.ensures in
    let e = behind n c.peek.ensures (given_some c.peek.result _ c.in_ok-c.ensures.value) in
    leaf_moved n.is (omega (arith, e.inside)) (omega arith)
    (λ σ h. sub_entry d.s.now d.state.at σ h.rest n.past.ahead e.inside (c.in_default.ensures.0 ∙ ap (λ (x : ℕ). word_for abbreviations (x ∷ [])) (sym e.byte)))
    c.old_entry.ensures

pub returns : goal.returns
returns c =
    let d = c.args.self.now in
    let n = needed c.in_ok-need.ensures in
    let e = behind n c.peek.ensures (given_some c.peek.result _ c.in_ok-c.ensures.value) in
    let f = c.in-Some.ensures.0 ∙ ap (λ (x : ℕ). word_for abbreviations (x ∷ [])) (sym e.byte) in
    leaf_gives_lent d c.put.new.self (ap (λ (x : Demangler). at_place x (x.state.at + 1)) n.is) (omega (arith, e.inside)) (omega arith) (omega (arith, c.in-Some.ensures.1))
    c.put.ensures.same c.put.ensures.left
    (λ σ h. sub_word d.s.now d.state.at σ h.rest n.past.ahead e.inside c.in-Some.word.now f)
