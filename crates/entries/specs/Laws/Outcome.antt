-- Laws of Outcome.antt: an answer that was told, and work slices that were cleared. Assumes nothing.
use Rattle.std.specs.Prelude.{[], ◌≡◌, refl, ℕ, length, Result}
use Rattle.std.proofs.Math.Path.{ap}
use Rattle.std.proofs.Common.{◌∙◌}
use Rattle.grammar.specs.Text.{Text}
use Rattle.grammar.specs.Limits.{most_symbol_bytes}
use Rattle.grammar.specs.Names.{answer}
use Rattle.grammar.specs.Names as n
use Rattle.store.specs.Stack.{zeros}
use Rattle.catalogue.specs.Answer.{normal_answer}
use Rattle.grammar.specs.declared.refusal.Refusal.{Refusal}
use Rattle.answer.specs.Told.{Slices, slices, normal_slices, lent, Tells, Cleared, NumbersCleared}
use Rattle.entries.specs.Outcome.{leaves, Leaves, demangled, Demangles, normalized, Normalizes}

-- a slice that is not lent stays so
pub no_zeros : [] ≡ zeros 0
unfolding zeros
no_zeros = refl

-- the work slices had their lengths when they were cleared
module _ (s : Text) (l : Slices) {u v text store ends text' store' ends' out : Text} {r : Result ℕ Refusal} (c : Cleared (slices u text store ends) (slices v text' store' ends'))
    (e : length text ≡ length l.text) (f : length store ≡ length l.store) (g : length ends ≡ length l.ends) where
  told_leaves : {words tables chains : Text} → words ≡ zeros (length l.words) → tables ≡ zeros (length l.tables) → chains ≡ zeros (length l.chains)
      → {a : n.Answer} → Tells a l.out out r → Leaves a l (normal_slices out text' store' ends' words tables chains) r
  unfolding leaves
  told_leaves w t d h = λ i. record {
    answer = h.answer i;
    slices = record {
      out = h.out i;
      text = (c.text ∙ ap zeros e) i;
      store = (c.store ∙ ap zeros f) i;
      ends = (c.ends ∙ ap zeros g) i;
      words = w i;
      tables = t i;
      chains = d i;
    };
  }

-- the entry for names lends no other slices
module _ (s o t k e : Text) {u v text store ends text' store' ends' out : Text} {r : Result ℕ Refusal} (c : Cleared (slices u text store ends) (slices v text' store' ends')) where
  pub told_demangles : length text ≡ length t → length store ≡ length k → length ends ≡ length e
      → Tells (answer most_symbol_bytes (lent (slices o t k e)) s) o out r → Demangles s (slices o t k e) (slices out text' store' ends') r
  unfolding demangled
  told_demangles i j m h = told_leaves s (slices o t k e) c i j m no_zeros no_zeros no_zeros h

module _ (s : Text) (l : Slices) {u v text store ends text' store' ends' out : Text} {r : Result ℕ Refusal} (c : Cleared (slices u text store ends) (slices v text' store' ends'))
    (e : length text ≡ length l.text) (f : length store ≡ length l.store) (g : length ends ≡ length l.ends) where
  pub told_normalizes : {before after : Slices} → NumbersCleared before after → length before.words ≡ length l.words
      → length before.tables ≡ length l.tables → length before.chains ≡ length l.chains → Tells (normal_answer most_symbol_bytes (lent l) s) l.out out r
      → Normalizes s l (normal_slices out text' store' ends' after.words after.tables after.chains) r
  unfolding normalized
  told_normalizes d i j k h = told_leaves s l c e f g (d.words ∙ ap zeros i) (d.tables ∙ ap zeros j) (d.chains ∙ ap zeros k) h

-- the slices behind the entry for normal symbols, each zero as long as it was lent
module _ (s : Text) (l : Slices) {out text store ends words tables chains : Text} {r : Result ℕ Refusal} where
  pub cleared_normalizes : text ≡ zeros (length l.text) → store ≡ zeros (length l.store) → ends ≡ zeros (length l.ends) → words ≡ zeros (length l.words)
      → tables ≡ zeros (length l.tables) → chains ≡ zeros (length l.chains) → Tells (normal_answer most_symbol_bytes (lent l) s) l.out out r
      → Normalizes s l (normal_slices out text store ends words tables chains) r
  unfolding normalized
  cleared_normalizes t k e w b d h =
      told_leaves s l {u = []} {v = []} (record { text = t; store = k; ends = e }) refl refl refl w b d h
