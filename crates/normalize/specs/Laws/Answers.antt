-- Laws of the answer of the entry for normal symbols, by what is told on the way. Assumes nothing.
use Rattle.std.specs.Prelude.{true, false, [], ◌++◌, ◌≡◌, refl, ℕ, ◌≤◌, ◌<◌, Result, Ok, Err}
use Rattle.std.proofs.Math.Option.{Option, none, some}
use Rattle.std.proofs.Common.{sym, ◌∙◌}
use Rattle.std.proofs.Math.Path.{ap}
use native.Mathlib.Omega.{arith}
use borrow.Author.Tests.{le-leb, lt-leb}
use Rattle.std.proofs.Math.ListN.{length, drop}
use Rattle.grammar.specs.Text.{Text, if◌then◌otherwise◌}
use Rattle.grammar.specs.Limits.{most_symbol_bytes, most_text_bytes}
use Rattle.grammar.specs.Names.{refusal, named, demangle, mangled_name, answer, within, work_fits}
use Rattle.grammar.specs.Names as n
use Rattle.catalogue.specs.Recogniser.{classify}
use Rattle.catalogue.specs.Answer.{normal_in, normal_told, normal_after, normal_answer, normal_work_fits, least_numbers}
use Rattle.normal_walk.proofs.Laws.Equal.{walk_is}
use Rattle.normal_nodes.specs.Nodes.{note_symbol}
use Rattle.normal_nodes.proofs.Laws.Equal.{nodes_are_walk}
use Rattle.grammar.specs.Refusals.{refusal_number}
use Rattle.grammar.specs.declared.refusal.Refusal.{Refusal}
use Rattle.grammar.specs.declared.refusal.Refusal.TheVariants.{NotCatalogue, ShortOutput, LongNormalSymbol, ShortWork}
use Rattle.answer.specs.Told.{Slices, slices, lent, told, numbered, Tells, Long, fit, numbers_fit}
use Rattle.answer.specs.Laws.Told.{tells_refusal, tells_name, tells_as, long_fit}
use Rattle.demangle.specs.Symbols.{Fronts}
use Rattle.demangle.specs.Laws.Told.{front_tells}
use Rattle.demangle.specs.Laws.Lengths.{answer_is}
use Rattle.normalize.specs.Parts.{accepted_answer}

-- ---- a normal symbol, told

module _ (w out : Text) where
  pub told_13 : most_symbol_bytes < length w → Tells (within (length out) (normal_told most_symbol_bytes (some w))) out out (Err LongNormalSymbol)
  unfolding normal_told within if◌then◌otherwise◌
  told_13 h = tells_refusal (rw (lt-leb (length w) most_symbol_bytes h))

  pub told_12 : length w ≤ most_symbol_bytes → length out < length w → Tells (within (length out) (normal_told most_symbol_bytes (some w))) out out (Err ShortOutput)
  unfolding normal_told within if◌then◌otherwise◌
  told_12 h l = tells_refusal (rw (le-leb (length w) most_symbol_bytes h, lt-leb (length w) (length out) l))

  pub told_name : length w ≤ most_symbol_bytes → length w ≤ length out → {out' : Text} {n : ℕ} → n ≡ length w → out' ≡ w ++ drop (length w) out
      → Tells (within (length out) (normal_told most_symbol_bytes (some w))) out out' (Ok n)
  unfolding normal_told within if◌then◌otherwise◌
  told_name h l e f = tells_name {t = w} (rw (le-leb (length w) most_symbol_bytes h, le-leb (length w) (length out) l)) e f

-- the code's walk finds what the recogniser finds
pub note_is : (s : Text) → note_symbol s ≡ normal_in (classify s)
note_is s = nodes_are_walk s ∙ walk_is s

module _ (s out : Text) where
  pub told_6 : note_symbol s ≡ none → Tells (accepted_answer (length out) s) out out (Err NotCatalogue)
  unfolding normal_told within
  told_6 e = tells_refusal (ap (λ (x : Option Text). within (length out) (normal_told most_symbol_bytes x)) (sym (note_is s) ∙ e))

  pub told_normal : {v w out' : Text} {r : Result ℕ Refusal} → note_symbol s ≡ some v → w ≡ v → Tells (within (length out) (normal_told most_symbol_bytes (some w))) out out' r
      → Tells (accepted_answer (length out) s) out out' r
  told_normal e f h = tells_as (ap (λ (x : Option Text). within (length out) (normal_told most_symbol_bytes x)) (ap some f ∙ sym e ∙ note_is s)) h

-- ---- the reading for the name

-- a reading whose output slice is never too short tells what the definition gives
pub reading_is : (s out text store ends : Text) {out' : Text} (r : Result ℕ Refusal) → Tells (answer most_symbol_bytes (lent (slices out text store ends)) s) out out' r
    → most_text_bytes ≤ length out → Long least_numbers (slices [] text store ends) → numbered r ≡ told (demangle most_symbol_bytes s)
unfolding work_fits
reading_is s out text store ends r e h f =
    let l = slices out text store ends in
    e.answer ∙ ap told (answer_is l s h (long_fit {l = l} (record { text = f.text; store = f.store; ends = omega (arith, f.ends) })))

after_refused : (s : Text) (a : n.Answer) (e : Refusal) → numbered (Err e) ≡ told a → normal_after most_symbol_bytes s a ≡ refusal (refusal_number e)
unfolding told normal_after
after_refused s (named x) e h = cc
after_refused s (refusal r) e h = let z : refusal_number e ≡ r = cc in ap refusal (sym z)

after_accepted : (s : Text) (a : n.Answer) (k : ℕ) → numbered (Ok k) ≡ told a → normal_after most_symbol_bytes s a ≡ normal_told most_symbol_bytes (normal_in (classify s))
unfolding told normal_after
after_accepted s (named x) k h = refl
after_accepted s (refusal r) k h = cc

-- ---- by the front

module _ {s : Text} where
  pub front_refuses : {e : Refusal} → Fronts s (Err e) → (l : Slices) → Tells (normal_answer most_symbol_bytes (lent l) s) l.out l.out (Err e)
  unfolding normal_answer
  front_refuses h l = front_tells h _ l.out

  module _ {k : ℕ} (h : Fronts s (Ok k)) (l : Slices) where
    pub front_short : fit least_numbers l ≡ false → Tells (normal_answer most_symbol_bytes (lent l) s) l.out l.out (Err ShortWork)
    unfolding normal_answer normal_work_fits if◌then◌otherwise◌
    front_short g = tells_refusal (h.is _ ∙ rw g)

    pub numbers_short : fit least_numbers l ≡ true → numbers_fit least_numbers l ≡ false → Tells (normal_answer most_symbol_bytes (lent l) s) l.out l.out (Err ShortWork)
    unfolding normal_answer normal_work_fits if◌then◌otherwise◌
    numbers_short g d = tells_refusal (h.is _ ∙ rw (g, d))

    module _ (g : fit least_numbers l ≡ true) (d : numbers_fit least_numbers l ≡ true) where
      after_is : normal_answer most_symbol_bytes (lent l) s ≡ within (length l.out) (normal_after most_symbol_bytes s (demangle most_symbol_bytes s))
      unfolding normal_answer normal_work_fits if◌then◌otherwise◌ demangle
      after_is = h.is _ ∙ rw (g, d) (ap (λ (a : n.Answer). within (length l.out) (normal_after most_symbol_bytes s a)) (sym (h.is mangled_name)))

      pub reading_refuses : {e : Refusal} → numbered (Err e) ≡ told (demangle most_symbol_bytes s) → Tells (normal_answer most_symbol_bytes (lent l) s) l.out l.out (Err e)
      unfolding within
      reading_refuses a = tells_refusal (after_is ∙ ap (within (length l.out)) (after_refused s (demangle most_symbol_bytes s) _ a))

      pub reading_accepts : {j : ℕ} {out : Text} {r : Result ℕ Refusal} → numbered (Ok j) ≡ told (demangle most_symbol_bytes s)
          → Tells (accepted_answer (length l.out) s) l.out out r → Tells (normal_answer most_symbol_bytes (lent l) s) l.out out r
      reading_accepts a i = tells_as (sym (after_is ∙ ap (within (length l.out)) (after_accepted s (demangle most_symbol_bytes s) _ a))) i
