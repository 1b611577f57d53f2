-- Laws of Cut.antt. Assumes nothing.
use Rattle.std.specs.Prelude.{Bool, true, false, not, List, [], ◌∷◌, ◌++◌, ◌≡◌, refl, ℕ, suc, ◌+◌, ◌-◌, ◌≤◌, ◌<◌, eqb, leb, ltb, length, take, drop}
use Rattle.std.proofs.Common.{sym, ◌∙◌, arith, ltb-true, ltb-false, leb-true, leb-false, take_all, length-take-le}
use Rattle.std.proofs.Math.Path.{ap, ap₂}
use Rattle.std.proofs.Math.Seq.{take-nil}
use Rattle.grammar.specs.Text.{Text, if◌then◌otherwise◌, run}
use Rattle.listing.specs.Listing.{line_for, listing_line, in_front, lines, listing}
use Rattle.listing.specs.Laws.Kinds.{too_long}
use Rattle.listing.specs.Lines.{before_feed}
use Rattle.listing.specs.declared.listing.Kind.{Kind}
use Rattle.listing.specs.Cut.{most_kept, cut_lines, column}

-- ---------------------------------------------------------------- one byte more

module _ (n x : ℕ) (t : Text) where
  abbrev cut_by : Bool → Bool → Text
  cut_by q r = if q then x ∷ cut_lines 0 t otherwise if r then x ∷ cut_lines (n + 1) t otherwise cut_lines n t

  abbrev column_by : Bool → Bool → ℕ
  column_by q r = if q then column 0 t otherwise if r then column (n + 1) t otherwise column n t

  pub cut_feed : eqb x 10 ≡ true → (cut_lines n (x ∷ t) ≡ x ∷ cut_lines 0 t) × (column n (x ∷ t) ≡ column 0 t)
  unfolding cut_lines column if◌then◌otherwise◌
  cut_feed e = (ap (λ (q : Bool). cut_by q (ltb n most_kept)) e, ap (λ (q : Bool). column_by q (ltb n most_kept)) e)

  pub cut_kept : eqb x 10 ≡ false → ltb n most_kept ≡ true → (cut_lines n (x ∷ t) ≡ x ∷ cut_lines (n + 1) t) × (column n (x ∷ t) ≡ column (n + 1) t)
  unfolding cut_lines column if◌then◌otherwise◌
  cut_kept e f = (ap₂ cut_by e f, ap₂ column_by e f)

  pub cut_dropped : eqb x 10 ≡ false → ltb n most_kept ≡ false → (cut_lines n (x ∷ t) ≡ cut_lines n t) × (column n (x ∷ t) ≡ column n t)
  unfolding cut_lines column if◌then◌otherwise◌
  cut_dropped e f = (ap₂ cut_by e f, ap₂ column_by e f)

-- ---------------------------------------------------------------- a text in parts

pub cut_append : (n : ℕ) (s t : Text) → cut_lines n (s ++ t) ≡ cut_lines n s ++ cut_lines (column n s) t
unfolding cut_lines column if◌then◌otherwise◌
cut_append n [] t = refl
cut_append n (x ∷ s) t = go (eqb x 10) (ltb n most_kept) (cut_append 0 s t) (cut_append (n + 1) s t) (cut_append n s t) where
  go : (q r : Bool) → cut_lines 0 (s ++ t) ≡ cut_lines 0 s ++ cut_lines (column 0 s) t → cut_lines (n + 1) (s ++ t) ≡ cut_lines (n + 1) s ++ cut_lines (column (n + 1) s) t
      → cut_lines n (s ++ t) ≡ cut_lines n s ++ cut_lines (column n s) t
      → cut_by n x (s ++ t) q r ≡ cut_by n x s q r ++ cut_lines (column_by n x s q r) t
  go true r a c d = ap (λ (u : Text). x ∷ u) a
  go false true a c d = ap (λ (u : Text). x ∷ u) c
  go false false a c d = d

-- a text whose front is kept as far as there is room for it
module _ (n : ℕ) (t front : Text) where
  abbrev cut_from : ℕ → Text
  cut_from k = take k front ++ cut_lines (n + length (take k front)) (drop (length front) t)

  abbrev column_from : ℕ → ℕ
  column_from k = column (n + length (take k front)) (drop (length front) t)

  pub record Fronted : Type 0 where
    pub is : cut_lines n t ≡ take (most_kept - n) front ++ cut_lines (n + length (take (most_kept - n) front)) (drop (length front) t)
    pub last : column n t ≡ column (n + length (take (most_kept - n) front)) (drop (length front) t)

no_front : (n : ℕ) (t : Text) → Fronted n t []
no_front n t =
    let e : [] ≡ take (most_kept - n) [] = sym (take-nil (most_kept - n)) in
    record {
      is = ap (λ (j : ℕ). cut_lines j t) {x = n} {y = n + 0} (omega arith) ∙ ap (λ (u : Text). u ++ cut_lines (n + length u) t) e;
      last = ap (λ (j : ℕ). column j t) {x = n} {y = n + 0} (omega arith) ∙ ap (λ (u : Text). column (n + length u) t) e;
    }

-- the bytes up to a line feed are such a front: none of them ends the line
pub line_front : (n : ℕ) (t : Text) → Fronted n t (before_feed t)
unfolding run if◌then◌otherwise◌
line_front n [] = no_front n []
line_front n (x ∷ t) = go (before_feed t) (eqb x 10) refl (ltb n most_kept) refl (line_front (n + 1) t) (line_front n t) where
  go : (s : Text) (q : Bool) → eqb x 10 ≡ q → (r : Bool) → ltb n most_kept ≡ r → Fronted (n + 1) t s → Fronted n t s → Fronted n (x ∷ t) (if not q then x ∷ s otherwise [])
  go s true e r f a d = no_front n (x ∷ t)
  go s false e true f a d =
      let (p, q) = cut_kept n x t e f in
      let k : ℕ = most_kept - (n + 1) in
      let z : suc k ≡ most_kept - n = omega (arith, ltb-true n most_kept f) in
      let y : n + 1 + length (take k s) ≡ n + suc (length (take k s)) = omega arith in
      record {
        is =
            p
            ∙ ap (λ (u : Text). x ∷ u) a.is
            ∙ ap (λ (j : ℕ). x ∷ (take k s ++ cut_lines j (drop (length s) t))) y
            ∙ ap (cut_from n (x ∷ t) (x ∷ s)) z;
        last = q ∙ a.last ∙ ap (λ (j : ℕ). column j (drop (length s) t)) y ∙ ap (column_from n (x ∷ t) (x ∷ s)) z;
      }
  go s false e false f a d =
      let (p, q) = cut_dropped n x t e f in
      let z : most_kept - n ≡ 0 = omega (arith, ltb-false n most_kept f) in
      record {
        is = p ∙ d.is ∙ ap (cut_from n t s) z ∙ ap (cut_from n (x ∷ t) (x ∷ s)) (sym z);
        last = q ∙ d.last ∙ ap (column_from n t s) z ∙ ap (column_from n (x ∷ t) (x ∷ s)) (sym z);
      }

-- ---------------------------------------------------------------- the lines that are kept

unfoldable shortened : ℕ → List Text → List Text
shortened k [] = []
shortened k (s ∷ ss) = take k s ∷ shortened most_kept ss

short_more : (k x : ℕ) (ss : List Text) → in_front x (shortened k ss) ≡ shortened (suc k) (in_front x ss)
unfolding shortened in_front
short_more k x [] = refl
short_more k x (s ∷ ss) = refl

short_none : (x : ℕ) (ss : List Text) → shortened 0 ss ≡ shortened 0 (in_front x ss)
unfolding shortened in_front
short_none x [] = refl
short_none x (s ∷ ss) = refl

cut_shortened : (n : ℕ) (t : Text) → n ≤ most_kept → lines (cut_lines n t) ≡ shortened (most_kept - n) (lines t)
unfolding lines cut_lines shortened if◌then◌otherwise◌
cut_shortened n [] h = refl
cut_shortened n (x ∷ t) h =
    go (eqb x 10) refl (ltb n most_kept) refl (cut_shortened 0 t (omega arith)) (λ k. cut_shortened (n + 1) t k) (cut_shortened n t h) where
      by_feed : Bool → List Text → List Text
      by_feed q ss = if q then [] ∷ ss otherwise in_front x ss

      go : (q : Bool) → eqb x 10 ≡ q → (r : Bool) → ltb n most_kept ≡ r → lines (cut_lines 0 t) ≡ shortened (most_kept - 0) (lines t)
          → (n + 1 ≤ most_kept → lines (cut_lines (n + 1) t) ≡ shortened (most_kept - (n + 1)) (lines t)) → lines (cut_lines n t) ≡ shortened (most_kept - n) (lines t)
          → lines (cut_by n x t q r) ≡ shortened (most_kept - n) (by_feed q (lines t))
      go true e r f a c d =
          ap (λ (q : Bool). by_feed q (lines (cut_lines 0 t))) e
          ∙ ap₂ (λ (u : Text) (ss : List Text). u ∷ ss) (sym (take-nil (most_kept - n))) a
      go false e true f a c d =
          ap (λ (q : Bool). by_feed q (lines (cut_lines (n + 1) t))) e
          ∙ ap (in_front x) (c (omega (arith, ltb-true n most_kept f)))
          ∙ short_more (most_kept - (n + 1)) x (lines t)
          ∙ ap (λ (k : ℕ). shortened k (in_front x (lines t))) {x = suc (most_kept - (n + 1))} {y = most_kept - n} (omega (arith, ltb-true n most_kept f))
      go false e false f a c d =
          let z : most_kept - n ≡ 0 = omega (arith, ltb-false n most_kept f) in
          d ∙ ap (λ (k : ℕ). shortened k (lines t)) z ∙ short_none x (lines t) ∙ ap (λ (k : ℕ). shortened k (in_front x (lines t))) (sym z)

-- ---------------------------------------------------------------- their listing

same_line : (kind : Kind) (s : Text) → listing_line kind (take most_kept s) ≡ listing_line kind s
unfolding listing_line
same_line kind s = go (leb (length s) most_kept) refl where
  go : (q : Bool) → leb (length s) most_kept ≡ q → listing_line kind (take most_kept s) ≡ listing_line kind s
  go true e = ap (listing_line kind) (take_all most_kept s (leb-true (length s) most_kept e))
  go false e =
      let h : most_kept < length s = leb-false (length s) most_kept e in
      ap line_for (too_long kind (take most_kept s) (omega (arith, length-take-le most_kept s (omega arith))) ∙ sym (too_long kind s (omega arith)))

same_listing : (kind : Kind) (ss : List Text) → listing kind (shortened most_kept ss) ≡ listing kind ss
unfolding listing shortened
same_listing kind [] = refl
same_listing kind (s ∷ ss) = ap₂ (λ (u v : Text). u ++ v) (same_line kind s) (same_listing kind ss)

-- cutting the lines does not change the listing
pub cut_listing : (kind : Kind) (t : Text) → listing kind (lines (cut_lines 0 t)) ≡ listing kind (lines t)
cut_listing kind t = ap (listing kind) (cut_shortened 0 t (omega arith)) ∙ same_listing kind (lines t)
