-- Laws of the answer for a text that was read. Assumes nothing.
use Rattle.std.specs.Prelude.{true, false, [], ◌≡◌, ℕ, ◌-◌, ◌≤◌, ◌<◌, length, take, drop, Ok, Err}
use Rattle.std.specs.Prelude as std
use Rattle.std.proofs.Common.{sym, ap, subst, ◌∙◌, arith, length-drop, length-take-le}
use borrow.Author.Tests.{le-leb, lt-leb}
use Rattle.grammar.specs.Text.{Text, if◌then◌otherwise◌}
use Rattle.grammar.specs.Reader.{State, Result, ok, start}
use Rattle.grammar.specs.Grammar.{reading, ended, ⟨encoding⟩}
use Rattle.grammar.specs.Names.{named, refusal, without_slots, finished, within, mangled_name}
use Rattle.grammar.specs.States.{fresh}
use Rattle.grammar.specs.declared.refusal.Refusal.{Refusal}
use Rattle.store.specs.Stack.{slots_in, newest}
use Rattle.store.specs.Laws.Tails.{newest_is, top_size}
use Rattle.parser.specs.declared.demangler.Demangler.{Demangler}
use Rattle.parser.specs.Holds.{keep, window}
use Rattle.parser.specs.Demanglers.{state_of, memory_of, outcome}
use Rattle.encoding.specs.Encodings.{Prints, Encodes, Encoded}
use Rattle.encoding.specs.Laws.Answers.{refusal as refusal_of, Answered, answered}
use Rattle.answer.specs.Told.{Tells}
use Rattle.answer.specs.Laws.Told.{tells_refusal, tells_as}
use Rattle.demangle.specs.Printed.{PrintsName}
use Rattle.demangle.specs.Laws.Slotless.{slotless_length}

-- ---- the definition's answer, by its tests

module _ (n : ℕ) (t : Text) (σ : State) where
  pub within_5 : ended σ.rest ≡ false → within n (finished (ok t σ)) ≡ refusal 5
  unfolding within finished if◌then◌otherwise◌
  within_5 h = rw h

  module _ (h : ended σ.rest ≡ true) where
    pub within_12 : n < length (without_slots t) → within n (finished (ok t σ)) ≡ refusal 12
    unfolding within finished if◌then◌otherwise◌
    within_12 l = rw (h, lt-leb (length (without_slots t)) n l)

    pub within_name : length (without_slots t) ≤ n → within n (finished (ok t σ)) ≡ named (without_slots t)
    unfolding within finished if◌then◌otherwise◌
    within_name l = rw (h, le-leb (length (without_slots t)) n l)

-- ---- the text on the stack

pub newest_length : (text : Text) (top n : ℕ) {k : ℕ} → n ≤ top → top ≤ length text → k ≡ slots_in (newest text top n) → n - k ≡ length (without_slots (newest text top n))
newest_length text top n a b e = omega (arith, e, slotless_length (newest text top n), length-drop (top - n) (take top text), length-take-le top text b)

module _ (d : Demangler) {s : Text} {n : ℕ} {t : Text} {σ : State} (h : Prints (keep 0) s [] (memory_of d) (state_of d) n t σ) where
  on_top : (n ≤ d.stack.top) × (newest d.stack.bytes.now d.stack.top n ≡ t)
  on_top =
      let w : Text = take d.stack.top d.stack.bytes.now in
      let e : length w ≡ d.stack.top = top_size h.text in
      let i = newest_is [] t h.tail (omega (arith, h.short)) in
      (omega (arith, h.size, i.0), ap (λ (j : ℕ). drop j w) {x = d.stack.top - n} {y = length w - length t} (omega (arith, h.size)) ∙ i.1)

  pub printed_fits : n ≤ d.stack.top
  printed_fits = on_top.0

  pub printed_text : newest d.stack.bytes.now d.stack.top n ≡ t
  printed_text = on_top.1

  pub printed_length : {k : ℕ} → k ≡ slots_in (newest d.stack.bytes.now d.stack.top n) → n - k ≡ length (without_slots t)
  printed_length e = newest_length d.stack.bytes.now d.stack.top n printed_fits (omega (arith, h.text.size, h.text.most)) e ∙ ap (λ (z : Text). length (without_slots z)) printed_text

-- ---- what the reading told

module _ (d : Demangler) (e : state_of d ≡ fresh) where
  module _ {d' : Demangler} {n : ℕ} (h : Encoded d d' (Ok n) (reading ⟨encoding⟩ (start d.s.now))) where
    said : Answered (keep 0) d.s.now [] (memory_of d') (state_of d') n (reading ⟨encoding⟩ (start d.s.now))
    said =
        answered
        (subst (λ (base : Text). Encodes (keep 0) d.s.now base (memory_of d') (outcome (state_of d') (Ok n)) (reading ⟨encoding⟩ (start d.s.now))) (ap (window (memory_of d)) e) h.is)

    pub read_fits : n ≤ d'.stack.top
    read_fits = printed_fits d' said.prints

    pub tells_read : {out out' : Text} {r : std.Result ℕ Refusal} → PrintsName d' n out out' r → Tells (within (length out) (mangled_name d.s.now)) out out' r
    unfolding mangled_name
    tells_read {out} p =
        let w = subst (λ (s : Text). Prints (keep 0) s [] (memory_of d') (state_of d') n said.said said.state) (sym h.symbol) said.prints in
        tells_as (ap (λ (x : Result Text). within (length out) (finished x)) (sym said.is)) (p said.said said.state w)

pub tells_unread : {d d' : Demangler} {e : Refusal} (out : Text) → Encoded d d' (Err e) (reading ⟨encoding⟩ (start d.s.now)) → Tells (within (length out) (mangled_name d.s.now)) out out (Err e)
unfolding mangled_name finished within
tells_unread out h = tells_refusal (ap (λ (x : Result Text). within (length out) (finished x)) (refusal_of h.is))
