-- Laws of lines: those of a text in parts, those that are cut, and those of a whole input. Assumes nothing.
use Rattle.std.specs.Prelude.{Bool, true, false, not, ◌≡◌, refl, ℕ, zero, suc, ◌+◌, ◌-◌, ◌≤◌, eqb, leb, ltb, length, take}
use mathlib.Core.List.{List, [], ◌∷◌, ◌++◌, append_assoc, append-nil}
use Rattle.std.proofs.Common.{sym, ap, ◌∙◌, ltb-false, eqb-true}
use Rattle.std.proofs.Math.Path.{subst}
use native.Mathlib.Omega.{arith}
use Rattle.grammar.specs.Text.{Text, if◌then◌otherwise◌}
use Rattle.listing.specs.Listing.{line_feed, listing_line, in_front, lines, bytes_taken, listing, fitting}
use Rattle.listing.specs.Cut.{cut_lines, column, most_kept}
use Rattle.listing.specs.Laws.Cut.{cut_feed, cut_kept, cut_dropped}
use Rattle.listing.specs.declared.listing.Kind.{Kind}
use Rattle.console.specs.Output.{lines_on, all_lines}
use Rattle.console.specs.Buffer.{closing, completed}

-- ---------------------------------------------------------------- lists of lines in parts

pub taken_append : (ss ts : List Text) → bytes_taken (ss ++ ts) ≡ bytes_taken ss + bytes_taken ts
unfolding bytes_taken
taken_append [] ts = omega arith
taken_append (s ∷ ss) ts = omega (arith, taken_append ss ts)

pub listing_append : (kind : Kind) (ss ts : List Text) → listing kind (ss ++ ts) ≡ listing kind ss ++ listing kind ts
unfolding listing
listing_append kind [] ts = refl
listing_append kind (s ∷ ss) ts =
    ap (λ (t : Text). listing_line kind s ++ t) (listing_append kind ss ts) ∙ sym (append_assoc (listing_line kind s) (listing kind ss) (listing kind ts))

pub fitting_front : (kind : Kind) (room : ℕ) (ss : List Text) → take (length (fitting kind room ss)) ss ≡ fitting kind room ss
unfolding fitting if◌then◌otherwise◌
fitting_front kind room [] = refl
fitting_front kind room (s ∷ ss) = go (leb (length (listing_line kind s)) room) (fitting_front kind (room - length (listing_line kind s)) ss) where
  more : List Text
  more = fitting kind (room - length (listing_line kind s)) ss

  go : (q : Bool) → take (length more) ss ≡ more → take (length (if◌then◌otherwise◌ {A = List Text} q (s ∷ more) [])) (s ∷ ss) ≡ (if q then s ∷ more otherwise [])
  go true e = ap (λ (us : List Text). s ∷ us) e
  go false e = refl

-- ---------------------------------------------------------------- a text in parts

-- the text in front has no bytes behind its last line feed
pub lines_append : (s t : Text) → bytes_taken (lines s) ≡ length s → lines (s ++ t) ≡ lines s ++ lines t
unfolding lines in_front bytes_taken if◌then◌otherwise◌
lines_append [] t h = refl
lines_append (x ∷ s) t h = go (eqb x 10) (lines s) h (lines_append s t) where
  go : (q : Bool) (ss : List Text) → bytes_taken (if q then [] ∷ ss otherwise in_front x ss) ≡ suc (length s) → (bytes_taken ss ≡ length s → lines (s ++ t) ≡ ss ++ lines t)
      → (if q then [] ∷ lines (s ++ t) otherwise in_front x (lines (s ++ t))) ≡ (if q then [] ∷ ss otherwise in_front x ss) ++ lines t
  go true ss h f = ap (λ (us : List Text). [] ∷ us) (f (omega arith))
  go false [] h f = absurd (omega arith)
  go false (u ∷ ss) h f = ap (in_front x) (f (omega arith))

by_feed : Bool → ℕ → List Text → List Text
by_feed q x ss = if q then [] ∷ ss otherwise in_front x ss

-- the first lines stand in the bytes that they have
pub lines_take : (t : Text) (j : ℕ) → lines (take (bytes_taken (take j (lines t))) t) ≡ take j (lines t)
unfolding lines in_front bytes_taken if◌then◌otherwise◌ by_feed
lines_take t zero = refl
lines_take [] (suc j) = refl
lines_take (x ∷ t) (suc j) = go (eqb x 10) refl (lines t) (lines_take t j) (lines_take t (suc j)) where
  go : (q : Bool) → eqb x 10 ≡ q → (ss : List Text) → lines (take (bytes_taken (take j ss)) t) ≡ take j ss → lines (take (bytes_taken (take (suc j) ss)) t) ≡ take (suc j) ss
      → lines (take (bytes_taken (take (suc j) (by_feed q x ss))) (x ∷ t)) ≡ take (suc j) (by_feed q x ss)
  go true e ss f g =
      let k : ℕ = bytes_taken (take j ss) in
      ap (λ (i : ℕ). lines (take i (x ∷ t))) {x = 0 + 1 + k} {y = suc k} (omega arith)
      ∙ ap (λ (q : Bool). by_feed q x (lines (take k t))) e
      ∙ ap (λ (us : List Text). [] ∷ us) f
  go false e [] f g = refl
  go false e (u ∷ ss) f g =
      let k : ℕ = bytes_taken (u ∷ take j ss) in
      ap (λ (i : ℕ). lines (take i (x ∷ t))) {x = suc (length u) + 1 + bytes_taken (take j ss)} {y = suc k} (omega arith)
      ∙ ap (λ (q : Bool). by_feed q x (lines (take k t))) e
      ∙ ap (in_front x) g

-- ---------------------------------------------------------------- a text that is cut

pub column_append : (n : ℕ) (s t : Text) → column n (s ++ t) ≡ column (column n s) t
unfolding column if◌then◌otherwise◌
column_append n [] t = refl
column_append n (x ∷ s) t = go (eqb x 10) (ltb n most_kept) (column_append 0 s t) (column_append (n + 1) s t) (column_append n s t) where
  by : Bool → Bool → Text → ℕ
  by q r u = if q then column 0 u otherwise if r then column (n + 1) u otherwise column n u

  go : (q r : Bool) → column 0 (s ++ t) ≡ column (column 0 s) t → column (n + 1) (s ++ t) ≡ column (column (n + 1) s) t → column n (s ++ t) ≡ column (column n s) t
      → by q r (s ++ t) ≡ column (by q r s) t
  go true r a c d = a
  go false true a c d = c
  go false false a c d = d

-- n bytes in front of the first line, where there is none
unfoldable in_front_of : ℕ → List Text → ℕ
in_front_of n [] = n
in_front_of n (s ∷ ss) = 0

in_front_of_none : (ss : List Text) → in_front_of 0 ss ≡ 0
unfolding in_front_of
in_front_of_none [] = refl
in_front_of_none (s ∷ ss) = refl

-- of k bytes, and n in front of them, m stand behind the lines
Counted : ℕ → List Text → ℕ → ℕ → Type 0
Counted n ss k m = bytes_taken ss + m ≡ in_front_of n ss + k

module _ (n x : ℕ) (u : Text) (m : ℕ) where
  counted_feed : eqb x 10 ≡ true → Counted 0 (lines u) (length u) m → Counted n (lines (x ∷ u)) (length (x ∷ u)) m
  unfolding Counted lines in_front_of bytes_taken if◌then◌otherwise◌ by_feed
  counted_feed e h =
      subst (λ (ss : List Text). Counted n ss (suc (length u)) m) (ap (λ (q : Bool). by_feed q x (lines u)) (sym e)) (omega (arith, h, in_front_of_none (lines u)))

  counted_more : eqb x 10 ≡ false → Counted (n + 1) (lines u) (length u) m → Counted n (lines (x ∷ u)) (length (x ∷ u)) m
  unfolding Counted lines in_front in_front_of bytes_taken if◌then◌otherwise◌ by_feed
  counted_more e h = subst (λ (ss : List Text). Counted n ss (suc (length u)) m) (ap (λ (q : Bool). by_feed q x (lines u)) (sym e)) (go (lines u) h) where
    go : (ss : List Text) → Counted (n + 1) ss (length u) m → Counted n (in_front x ss) (suc (length u)) m
    go [] i = omega arith
    go (s ∷ ss) i = omega arith

counted_none : (n : ℕ) → Counted n (lines (cut_lines n [])) (length (cut_lines n [])) (column n [])
unfolding Counted lines cut_lines column in_front_of bytes_taken
counted_none n = omega arith

counted : (n : ℕ) (t : Text) → Counted n (lines (cut_lines n t)) (length (cut_lines n t)) (column n t)
counted n [] = counted_none n
counted n (x ∷ t) = go (eqb x 10) refl (ltb n most_kept) refl (counted 0 t) (counted (n + 1) t) (counted n t) where
  by : {u : Text} {m : ℕ} → (cut_lines n (x ∷ t) ≡ u) × (column n (x ∷ t) ≡ m) → Counted n (lines u) (length u) m
      → Counted n (lines (cut_lines n (x ∷ t))) (length (cut_lines n (x ∷ t))) (column n (x ∷ t))
  by {u} {m} (p, c) h =
      subst (λ (v : Text). Counted n (lines v) (length v) (column n (x ∷ t))) (sym p) (subst (λ (j : ℕ). Counted n (lines u) (length u) j) (sym c) h)

  after : ℕ → Type 0
  after m = Counted m (lines (cut_lines m t)) (length (cut_lines m t)) (column m t)

  go : (q : Bool) → eqb x 10 ≡ q → (r : Bool) → ltb n most_kept ≡ r → after 0 → after (n + 1) → after n
      → Counted n (lines (cut_lines n (x ∷ t))) (length (cut_lines n (x ∷ t))) (column n (x ∷ t))
  go true e r f a c d = by (cut_feed n x t e) (counted_feed n x (cut_lines 0 t) (column 0 t) e a)
  go false e true f a c d = by (cut_kept n x t e f) (counted_more n x (cut_lines (n + 1) t) (column (n + 1) t) e c)
  go false e false f a c d = by (cut_dropped n x t e f) d

-- all bytes that are kept are of the lines, but those behind the last line feed
pub cut_taken : (t : Text) → bytes_taken (lines (cut_lines 0 t)) + column 0 t ≡ length (cut_lines 0 t)
unfolding Counted
cut_taken t = omega (arith, counted 0 t, in_front_of_none (lines (cut_lines 0 t)))

-- ---------------------------------------------------------------- the end of an input

lines_closed : (n : ℕ) (t : Text) → lines (t ++ closing (column n t)) ≡ lines_on (not (eqb n 0)) t
unfolding lines lines_on column closing if◌then◌otherwise◌
lines_closed n [] = go (eqb n 0) where
  go : (q : Bool) → lines (if q then [] otherwise line_feed ∷ []) ≡ (if not q then [] ∷ [] otherwise [])
  go true = refl
  go false = refl
lines_closed n (x ∷ t) = go (eqb x 10) (ltb n most_kept) refl (lines_closed 0 t) (lines_closed (n + 1) t) (lines_closed n t) where
  by : Bool → Bool → ℕ
  by q r = if q then column 0 t otherwise if r then column (n + 1) t otherwise column n t

  some : (n : ℕ) → 1 ≤ n → not (eqb n 0) ≡ true
  some n h = go' (eqb n 0) refl where
    go' : (q : Bool) → eqb n 0 ≡ q → not q ≡ true
    go' true e = absurd (omega (arith, h, eqb-true n 0 e))
    go' false e = refl

  go : (q r : Bool) → ltb n most_kept ≡ r → lines (t ++ closing (column 0 t)) ≡ lines_on false t → lines (t ++ closing (column (n + 1) t)) ≡ lines_on (not (eqb (n + 1) 0)) t
      → lines (t ++ closing (column n t)) ≡ lines_on (not (eqb n 0)) t
      → (if q then [] ∷ lines (t ++ closing (by q r)) otherwise in_front x (lines (t ++ closing (by q r)))) ≡ (if q then [] ∷ lines_on false t otherwise in_front x (lines_on true t))
  go true r e a c d = ap (λ (us : List Text). [] ∷ us) a
  go false true e a c d = ap (in_front x) (c ∙ ap (λ (q : Bool). lines_on q t) (some (n + 1) (omega arith)))
  go false false e a c d = ap (in_front x) (d ∙ ap (λ (q : Bool). lines_on q t) (some n (omega (arith, ltb-false n most_kept e))))

pub cut_closing : (n : ℕ) → cut_lines n (closing n) ≡ closing n
unfolding cut_lines closing if◌then◌otherwise◌
cut_closing n = go (eqb n 0) where
  go : (q : Bool) → cut_lines n (if q then [] otherwise line_feed ∷ []) ≡ (if q then [] otherwise line_feed ∷ [])
  go true = refl
  go false = refl

pub lines_completed : (t : Text) → lines (completed true t) ≡ all_lines t
unfolding completed if◌then◌otherwise◌
lines_completed t = lines_closed 0 t

pub column_closing : (n : ℕ) → column n (closing n) ≡ 0
unfolding column closing if◌then◌otherwise◌
column_closing n = go (eqb n 0) refl where
  go : (q : Bool) → eqb n 0 ≡ q → column n (if q then [] otherwise line_feed ∷ []) ≡ 0
  go true e = eqb-true n 0 e
  go false e = refl

pub column_completed : (t : Text) → column 0 (completed true t) ≡ 0
unfolding completed if◌then◌otherwise◌
column_completed t = column_append 0 t (closing (column 0 t)) ∙ column_closing (column 0 t)

-- the lines that end are the first ones
lines_open : (some : Bool) (t : Text) → (ss : List Text) × (lines_on some t ≡ lines t ++ ss)
unfolding lines lines_on in_front if◌then◌otherwise◌
lines_open some [] = (lines_on some [], refl)
lines_open some (x ∷ t) = go (eqb x 10) (lines_open false t) (lines_open true t) where
  front : (us : List Text) → ((ss : List Text) × (lines_on true t ≡ us ++ ss)) → (ss : List Text) × (in_front x (lines_on true t) ≡ in_front x us ++ ss)
  front [] (ss, e) = (in_front x ss, ap (in_front x) e)
  front (u ∷ us) (ss, e) = (ss, ap (in_front x) e)

  go : (q : Bool) → ((ss : List Text) × (lines_on false t ≡ lines t ++ ss)) → ((ss : List Text) × (lines_on true t ≡ lines t ++ ss))
      → (ss : List Text) × ((if q then [] ∷ lines_on false t otherwise in_front x (lines_on true t)) ≡ (if q then [] ∷ lines t otherwise in_front x (lines t)) ++ ss)
  go true (ss, e) b = (ss, ap (λ (us : List Text). [] ∷ us) e)
  go false a b = front (lines t) b

-- what is read later adds lines behind
pub lines_more : (t : Text) (q : Bool) → (ss : List Text) × (all_lines t ≡ lines (completed q t) ++ ss)
unfolding completed if◌then◌otherwise◌
lines_more t true = ([], sym (append-nil (lines (completed true t)) ∙ lines_completed t))
lines_more t false = lines_open false t
