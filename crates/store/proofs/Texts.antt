-- What the library's methods tell of texts. Assumes nothing.
use Rattle.std.proofs.Common.{◌≡◌, ℕ, ◌+◌, Bool, true, false, cond, ◌==◌, length, refl, sym, ◌∙◌, arith}
use Rattle.memchr.specs.Find.{is_byte, places}
use Rattle.memchr.proofs.lemmas.CallerLemmas.{length-places}
use Rattle.std.specs.List.{count_by}
use Rattle.std.proofs.lemmas.List.Recursion.{is_count_by}
use Rattle.grammar.specs.Text.{Text, if◌then◌otherwise◌}
use Rattle.store.specs.Stack.{slots_in}

-- one more where the byte is 1
one_more : (q : Bool) (n : ℕ) → (if q then 1 otherwise 0) + n ≡ cond q (1 + n) n
unfolding if◌then◌otherwise◌
one_more true n = refl
one_more false n = omega arith

-- the bytes 1 are counted
pub slots_counted : (t : Text) → slots_in t ≡ count_by (λ x. x == 1) t
unfolding slots_in
slots_counted = is_count_by slots_in (λ x. x == 1) refl (λ x t. one_more (x == 1) (slots_in t))

-- their places are as many
pub places_counted : (t : Text) → length (places (is_byte 1) t) ≡ slots_in t
places_counted t = length-places (is_byte 1) t ∙ sym (slots_counted t)
