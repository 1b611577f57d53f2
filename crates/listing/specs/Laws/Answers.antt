-- The line that is printed of an answer that an entry told. Assumes nothing.
use Rattle.std.specs.Prelude.{◌≡◌, refl, ℕ, length, take, drop, Result}
use Rattle.std.proofs.Common.{ap, ap₂, ◌∙◌, take_at}
use Rattle.grammar.specs.Text.{Text}
use Rattle.grammar.specs.Names.{Answer, named, refusal, number_of, length_of, written}
use Rattle.grammar.specs.declared.refusal.Refusal.{Refusal}
use Rattle.answer.specs.Told.{numbered, number_in, bytes_in, Tells}
use Rattle.answer.specs.Laws.Told.{tells_number, tells_bytes}
use Rattle.listing.specs.Listing.{name_of, line, line_for}

pub name_length : (a : Answer) → length (name_of a) ≡ length_of a
unfolding name_of length_of
name_length (named t) = refl
name_length (refusal r) = refl

name_front : (a : Answer) (l : Text) → take (length_of a) (written a l) ≡ name_of a
unfolding name_of length_of written
name_front (named t) l = take_at t (drop (length t) l) (length t) refl
name_front (refusal r) l = refl

-- the line of what was told is the line of the answer
pub line_is : {a : Answer} {out out' : Text} {r : Result ℕ Refusal} (number bytes : ℕ) → Tells a out out' r → number ≡ number_in (numbered r) → bytes ≡ bytes_in (numbered r)
    → line number (length (take bytes out')) (take bytes out') ≡ line_for a
unfolding line_for
line_is {a} {out} {out'} number bytes h e f =
    let t : take bytes out' ≡ name_of a = ap₂ take (f ∙ tells_bytes h) h.out ∙ name_front a out in
    ap₂ (λ (n : ℕ) (u : Text). line n (length u) u) (e ∙ tells_number h) t ∙ ap (λ (j : ℕ). line (number_of a) j (name_of a)) (name_length a)
