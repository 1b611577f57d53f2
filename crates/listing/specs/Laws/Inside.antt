-- What a caller of the entry for listings may rely on: no more is taken than there is, and no more written than fits. Assumes nothing.
use Rattle.std.specs.Prelude.{Bool, ◌≡◌, ℕ, zero, suc, ◌+◌, ◌-◌, ◌/◌, ◌%◌, ◌≤◌, ◌<◌, eqb, leb, ltb, Result, Ok, Err, IsOk}
use Rattle.std.proofs.Math.Bool.{true, false}
use mathlib.Core.List.{List, [], ◌∷◌, ◌++◌}
use Rattle.std.proofs.Math.Path.{refl, ap, ap₂}
use Rattle.std.proofs.Common.{◌∙◌}
use native.Mathlib.Omega.{arith}
use borrow.Author.Tests.{leb-true, le-leb}
use Rattle.std.proofs.Math.ListN.{length, length-append}
use Rattle.grammar.specs.Text.{Text, if◌then◌otherwise◌, decimal}
use Rattle.grammar.specs.Limits.{most_text_bytes}
use Rattle.grammar.specs.declared.refusal.Refusal.{Refusal}
use Rattle.grammar.specs.declared.refusal.Refusal.TheVariants.{LongSymbol, HighByte, NoFront, NoRule, BytesLeft, NotCatalogue, PastTable, TooDeep}
use Rattle.grammar.specs.declared.refusal.Refusal.TheVariants.{TableFull, ArgumentsFull, LongText, ShortOutput, LongNormalSymbol, ShortWork}
use Rattle.grammar.specs.Names.{Answer, number_of, length_of}
use Rattle.answer.specs.Told.{Slices}
use Rattle.listing.specs.Listing.{Outcome, answer_of, line_for, listing_line, in_front, lines, bytes_taken, listing, fitting, none_fits, number_for, work_sized, lists, listed}
use Rattle.listing.specs.Listing.{Lists, number_told, taken_told, written_told, line_feed, head, line, name_of, most_line_bytes}
use Rattle.listing.specs.Laws.Kinds.{short_answer_of}
use Rattle.listing.specs.Laws.Answers.{name_length}
use Rattle.listing.specs.Laws.Lines.{fits_first, fits_none}
use Rattle.listing.specs.declared.listing.Kind.{Kind}
use Rattle.listing.specs.declared.listing.Listed.{Listed}

lines_inside : (t : Text) → bytes_taken (lines t) ≤ length t
unfolding lines in_front bytes_taken if◌then◌otherwise◌
lines_inside [] = omega arith
lines_inside (x ∷ t) = go (eqb x 10) (lines t) (lines_inside t) where
  front : (ss : List Text) → bytes_taken ss ≤ length t → bytes_taken (in_front x ss) ≤ suc (length t)
  front [] h = omega arith
  front (s ∷ ss) h = omega arith

  go : (q : Bool) (ss : List Text) → bytes_taken ss ≤ length t → bytes_taken (if q then [] ∷ ss otherwise in_front x ss) ≤ suc (length t)
  go true ss h = omega arith
  go false ss h = front ss h

module _ (kind : Kind) (s : Text) (ss ts : List Text) (room : ℕ) where
  more_inside : (q : Bool) → bytes_taken ts ≤ bytes_taken ss → bytes_taken (if q then s ∷ ts otherwise []) ≤ bytes_taken (s ∷ ss)
  unfolding bytes_taken if◌then◌otherwise◌
  more_inside true h = omega arith
  more_inside false h = omega arith

  more_room : (q : Bool) → leb (length (listing_line kind s)) room ≡ q → length (listing kind ts) ≤ room - length (listing_line kind s) → length (listing kind (if q then s ∷ ts otherwise [])) ≤ room
  unfolding listing if◌then◌otherwise◌
  more_room true e h = omega (arith, leb-true (length (listing_line kind s)) room e, length-append (listing_line kind s) (listing kind ts))
  more_room false e h = omega arith

fitting_inside : (kind : Kind) (room : ℕ) (ss : List Text) → bytes_taken (fitting kind room ss) ≤ bytes_taken ss
unfolding fitting
fitting_inside kind room [] = omega arith
fitting_inside kind room (s ∷ ss) =
    let n = length (listing_line kind s) in more_inside kind s ss (fitting kind (room - n) ss) room (leb n room) (fitting_inside kind (room - n) ss)

fitting_room : (kind : Kind) (room : ℕ) (ss : List Text) → length (listing kind (fitting kind room ss)) ≤ room
unfolding fitting listing
fitting_room kind room [] = omega arith
fitting_room kind room (s ∷ ss) =
    let n = length (listing_line kind s) in more_room kind s ss (fitting kind (room - n) ss) room (leb n room) refl (fitting_room kind (room - n) ss)

-- no more is taken than there is, and no more written than fits
pub lists_inside : (kind : Kind) (input out out' : Text) (work work' : Slices) (r : Result Listed Refusal) → Lists kind input out out' work work' r → (taken_told r ≤ length input) × (written_told r ≤ length out)
unfolding listed lists if◌then◌otherwise◌ bytes_taken listing
lists_inside kind input out out' work work' r e =
    let (a, c) = go (work_sized kind work) in
    (omega (arith, a, ap (λ (x : Outcome). x.taken) e), omega (arith, c, ap (λ (x : Outcome). x.written) e)) where
      go : (q : Bool) → (bytes_taken (if q then fitting kind (length out) (lines input) otherwise []) ≤ length input)
          × (length (listing kind (if q then fitting kind (length out) (lines input) otherwise [])) ≤ length out)
      go true = (omega (arith, fitting_inside kind (length out) (lines input), lines_inside input), fitting_room kind (length out) (lines input))
      go false = (omega arith, omega arith)

-- ---------------------------------------------------------------- a line fits

decimal_size : (k n : ℕ) → length (decimal k n) ≤ k
unfolding decimal if◌then◌otherwise◌
decimal_size zero n = omega arith
decimal_size (suc k) n = go (ltb n 10) (decimal_size k (n / 10)) where
  go : (q : Bool) → length (decimal k (n / 10)) ≤ k → length (if◌then◌otherwise◌ {A = Text} q ((48 + n) ∷ []) (decimal k (n / 10) ++ ((48 + n % 10) ∷ []))) ≤ suc k
  go true h = omega arith
  go false h = omega (arith, length-append (decimal k (n / 10)) ((48 + n % 10) ∷ []))

answer_fits : (a : Answer) → length_of a ≤ most_text_bytes → length (line_for a) ≤ most_line_bytes
unfolding line_for line head
answer_fits a h =
    let n = decimal 5 (number_of a) in
    let m = decimal 5 (length_of a) in
    let e = length-append n (44 ∷ (m ++ (44 ∷ []))) in
    let f = length-append m (44 ∷ []) in
    let g = length-append (name_of a) (line_feed ∷ []) in
    omega (arith, length-append (head (number_of a) (length_of a)) (name_of a ++ (line_feed ∷ [])), e, f, g, name_length a, decimal_size 5 (number_of a), decimal_size 5 (length_of a))

pub line_fits : (kind : Kind) (s : Text) → length (listing_line kind s) ≤ most_line_bytes
unfolding listing_line
line_fits kind s = answer_fits (answer_of kind s) (short_answer_of kind s)

some_taken : (kind : Kind) (room : ℕ) (s : Text) (ss : List Text) → length (listing_line kind s) ≤ room → 1 ≤ bytes_taken (fitting kind room (s ∷ ss))
unfolding fitting bytes_taken if◌then◌otherwise◌
some_taken kind room s ss h = rw (le-leb (length (listing_line kind s)) room h) (omega arith)

-- ---------------------------------------------------------------- the number

-- no error has the number 0
ok_at_0 : (r : Result Listed Refusal) → number_told r ≡ 0 → IsOk r
ok_at_0 (Ok l) e = refl
ok_at_0 (Err LongSymbol) e = absurd (omega arith)
ok_at_0 (Err HighByte) e = absurd (omega arith)
ok_at_0 (Err NoFront) e = absurd (omega arith)
ok_at_0 (Err NoRule) e = absurd (omega arith)
ok_at_0 (Err BytesLeft) e = absurd (omega arith)
ok_at_0 (Err NotCatalogue) e = absurd (omega arith)
ok_at_0 (Err PastTable) e = absurd (omega arith)
ok_at_0 (Err TooDeep) e = absurd (omega arith)
ok_at_0 (Err TableFull) e = absurd (omega arith)
ok_at_0 (Err ArgumentsFull) e = absurd (omega arith)
ok_at_0 (Err LongText) e = absurd (omega arith)
ok_at_0 (Err ShortOutput) e = absurd (omega arith)
ok_at_0 (Err LongNormalSymbol) e = absurd (omega arith)
ok_at_0 (Err ShortWork) e = absurd (omega arith)

module _ (kind : Kind) (input out out' : Text) (work work' : Slices) (r : Result Listed Refusal) (e : Lists kind input out out' work work' r) where
  abbrev fit : List Text
  fit = fitting kind (length out) (lines input)

  by_work : (q : Bool) → work_sized kind work ≡ q
      → (number_told r ≡ number_for q (lines input) fit) × ((taken_told r ≡ bytes_taken (if q then fit otherwise [])) × (written_told r ≡ length (listing kind (if q then fit otherwise []))))
  unfolding listed lists
  by_work q f = (
    ap (λ (x : Outcome). x.number) e ∙ ap (λ (p : Bool). number_for p (lines input) fit) f,
    (
      ap (λ (x : Outcome). x.taken) e ∙ ap (λ (p : Bool). bytes_taken (if p then fit otherwise [])) f,
      ap (λ (x : Outcome). x.written) e ∙ ap (λ (p : Bool). length (listing kind (if p then fit otherwise []))) f,
    ),
  )

  -- 14: a work slice is too short, and nothing is taken or written
  pub lists_14 : work_sized kind work ≡ false → (number_told r ≡ 14) × ((taken_told r ≡ 0) × (written_told r ≡ 0))
  unfolding number_for bytes_taken listing if◌then◌otherwise◌
  lists_14 f = by_work false f

  -- 12: there is a complete line, but the output is too short for the listing of the first; nothing is taken or written
  pub lists_12 : work_sized kind work ≡ true → {s : Text} {ss : List Text} → lines input ≡ s ∷ ss → length out < length (listing_line kind s)
      → (number_told r ≡ 12) × ((taken_told r ≡ 0) × (written_told r ≡ 0))
  unfolding number_for none_fits bytes_taken listing if◌then◌otherwise◌
  lists_12 f {s} {ss} g h =
      let k : fit ≡ [] = ap (fitting kind (length out)) g ∙ fits_none kind (length out) s ss h in
      let (a, (c, d)) = by_work true f in
      (a ∙ ap₂ (number_for true) g k, (c ∙ ap bytes_taken k, d ∙ ap (λ (ts : List Text). length (listing kind ts)) k))

  -- 0: there is no complete line, or the listing of the first fits
  pub lists_0 : work_sized kind work ≡ true → ((s : Text) (ss : List Text) → lines input ≡ s ∷ ss → length (listing_line kind s) ≤ length out) → number_told r ≡ 0
  unfolding number_for none_fits fitting
  lists_0 f h = (by_work true f).0 ∙ go (lines input) h where
    go : (ls : List Text) → ((s : Text) (ss : List Text) → ls ≡ s ∷ ss → length (listing_line kind s) ≤ length out) → number_for true ls (fitting kind (length out) ls) ≡ 0
    go [] h = refl
    go (s ∷ ss) h = ap (number_for true (s ∷ ss)) (fits_first kind (length out) s ss (h s ss refl))

  -- with an output of so many bytes the number is never 12, and a line that is complete is taken
  pub never_12 : most_line_bytes ≤ length out → number_told r ≡ 12 → ⊥
  never_12 h z = go (work_sized kind work) refl where
    go : (q : Bool) → work_sized kind work ≡ q → ⊥
    go true f = omega (arith, lists_0 f (λ s ss g. omega (arith, line_fits kind s)), z)
    go false f = omega (arith, (lists_14 f).0, z)

  pub lists_some_line : work_sized kind work ≡ true → most_line_bytes ≤ length out → (number_told r ≡ 0) × (1 ≤ length (lines input) → 1 ≤ taken_told r)
  unfolding if◌then◌otherwise◌
  lists_some_line f h = (lists_0 f (λ s ss g. omega (arith, line_fits kind s)), λ k. omega (arith, go (lines input) k, (by_work true f).1.0)) where
    go : (ss : List Text) → 1 ≤ length ss → 1 ≤ bytes_taken (fitting kind (length out) ss)
    go [] l = absurd (omega arith)
    go (s ∷ ss) l = some_taken kind (length out) s ss (omega (arith, line_fits kind s))

  pub lists_ok : work_sized kind work ≡ true → most_line_bytes ≤ length out → IsOk r
  lists_ok f h = ok_at_0 r (lists_some_line f h).0
