-- A longer limit keeps every answer for a normal symbol that is neither 1 nor 13 (T-07). Assumes nothing.
use Rattle.std.specs.Prelude.{Bool, ◌&&◌, [], ◌∷◌, ◌≡◌, ℕ, ◌≤◌, ltb, length}
use Rattle.std.proofs.Math.Bool.{true, false}
use Rattle.std.proofs.Math.Option.{Option, none, some}
use Rattle.std.proofs.Math.Path.{refl, sym, ap}
use Rattle.std.proofs.Common.{◌∙◌, arith}
use borrow.Author.Tests.{le-leb, leb-true}
use Rattle.std.proofs.Math.Dec.{leb}
use Rattle.grammar.specs.Text.{Text, if◌then◌otherwise◌, choose}
use Rattle.grammar.specs.Limits.{most_symbol_bytes, least_text, least_store}
use Rattle.grammar.specs.Tables.{◌⇒◌}
use Rattle.grammar.specs.Reader.{find}
use Rattle.grammar.specs.Names.{Answer, named, refusal, Lent, high, front, mangled_name, demangle, within}
use Rattle.grammar.specs.Laws.Longer.{earlier_symbol_bytes, longer_front, longer_demangle}
use Rattle.catalogue.specs.Bytes.{and_left, and_right}
use Rattle.catalogue.specs.Recogniser.{classify}
use Rattle.catalogue.specs.Answer.{normal_in, normal_told, normal_after, normal_symbol, numbers_for, normal_work_fits, normal_answer}

-- ---- the lengths

module _ {m n : ℕ} (h : m ≤ n) where
  three_fit : (a c d : ℕ) → leb n a && leb n c && leb n d ≡ true → leb m a && leb m c && leb m d ≡ true
  three_fit a c d e =
      let x = and_left (leb n a && leb n c) (leb n d) e in
      rw (
        le-leb m a (omega (arith, leb-true n a (and_left (leb n a) (leb n c) x))),
        le-leb m c (omega (arith, leb-true n c (and_right (leb n a) (leb n c) x))),
        le-leb m d (omega (arith, leb-true n d (and_right (leb n a && leb n c) (leb n d) e))),
      )

-- ---- behind the front

-- two readings that differ only where one is refused with 13
behind_front : (limit : ℕ) (s : Text) (f g : Text → Answer) → ((u : Text) → (f u ≡ refusal 13 → ⊥) → g u ≡ f u)
    → (front limit s f ≡ refusal 13 → ⊥) → front limit s g ≡ front limit s f
unfolding front if◌then◌otherwise◌ choose
behind_front limit s f g e = go (ltb limit (length s)) (high s) (find ("_Z" ⇒ tt {0} ∷ "__Z" ⇒ tt {0} ∷ []) s)
  where
    told : Bool → Bool → Option (Unit {0} × Text) → (Text → Answer) → Answer
    told i j o f = if i then refusal 1 otherwise if j then refusal 2 otherwise choose o (λ r. f r.1) (refusal 3)

    go : (i j : Bool) (o : Option (Unit {0} × Text)) → (told i j o f ≡ refusal 13 → ⊥) → told i j o g ≡ told i j o f
    go true j o k = refl
    go false true o k = refl
    go false false none k = refl
    go false false (some r) k = e r.1 k

-- ---- of any two limits

module _ {m n : ℕ} (h : m ≤ n) where
  -- slices that are long enough for the longer limit are so for the shorter
  pub longer_fits : (l : Lent) → normal_work_fits n l ≡ true → normal_work_fits m l ≡ true
  unfolding normal_work_fits
  longer_fits l e =
      let reading = leb least_text l.text && leb least_store l.store in
      let numbers = leb (numbers_for n) l.words && leb (numbers_for n) l.tables && leb (numbers_for n) l.chains in
      let ends = leb (numbers_for n) l.ends in
      let x = and_left (reading && ends) numbers e in
      rw (
        and_left reading ends x,
        le-leb (numbers_for m) l.ends (omega (arith, leb-true (numbers_for n) l.ends (and_right reading ends x))),
        three_fit {m = numbers_for m} {n = numbers_for n} (omega arith) l.words l.tables l.chains (and_right (reading && ends) numbers e),
      )

  longer_told : (o : Option Text) → (normal_told m o ≡ refusal 13 → ⊥) → normal_told n o ≡ normal_told m o
  unfolding normal_told if◌then◌otherwise◌
  longer_told none k = refl
  longer_told (some w) k = go (leb (length w) m) refl
    where
      go : (q : Bool) → leb (length w) m ≡ q → normal_told n (some w) ≡ normal_told m (some w)
      go true e = rw (e, le-leb (length w) n (omega (arith, leb-true (length w) m e)))
      go false e = absurd (k (rw e))

  longer_after : (s : Text) (a : Answer) → (normal_after m s a ≡ refusal 13 → ⊥) → normal_after n s a ≡ normal_after m s a
  unfolding normal_after
  longer_after s (named x) k = longer_told (normal_in (classify s)) k
  longer_after s (refusal r) k = refl

  pub longer_normal : (s : Text) → (normal_symbol m s ≡ refusal 1 → ⊥) → (normal_symbol m s ≡ refusal 13 → ⊥) → normal_symbol n s ≡ normal_symbol m s
  unfolding normal_symbol normal_after
  longer_normal s i j =
      let e : demangle n s ≡ demangle m s = longer_demangle h s (λ z. i (ap (normal_after m s) z)) in
      ap (normal_after n s) e ∙ longer_after s (demangle m s) j

  -- with the slices of the entry
  module _ (l : Lent) (fits : normal_work_fits n l ≡ true) (s : Text) where
    abbrev behind : ℕ → Text → Answer
    behind limit u = if normal_work_fits limit l then within l.out (normal_after limit s (mangled_name u)) otherwise refusal 14

    longer_behind : (u : Text) → (behind m u ≡ refusal 13 → ⊥) → behind n u ≡ behind m u
    unfolding within if◌then◌otherwise◌
    longer_behind u k =
        let e : behind m u ≡ within l.out (normal_after m s (mangled_name u)) = rw (longer_fits l fits) in
        rw fits (ap (within l.out) (longer_after s (mangled_name u) (λ z. k (e ∙ ap (within l.out) z))) ∙ sym e)

    pub longer_normal_answer : (normal_answer m l s ≡ refusal 1 → ⊥) → (normal_answer m l s ≡ refusal 13 → ⊥) → normal_answer n l s ≡ normal_answer m l s
    unfolding normal_answer
    longer_normal_answer i j =
        let e : front n s (behind m) ≡ front m s (behind m) = longer_front h s (behind m) i in
        behind_front n s (behind m) (behind n) longer_behind (λ z. j (sym e ∙ z)) ∙ e

-- ---- the limit before T-07, and the limit

-- "With work slices long enough for both, an answer that was neither 1 nor 13 under the old limit is the same under the new." The entry asked for
-- 24,576 numbers in `ends` then and for no other slice of numbers; slices that are long enough now are long enough for that too.
module _ (s : Text) where
  pub earlier_normal : (normal_symbol earlier_symbol_bytes s ≡ refusal 1 → ⊥) → (normal_symbol earlier_symbol_bytes s ≡ refusal 13 → ⊥)
      → normal_symbol most_symbol_bytes s ≡ normal_symbol earlier_symbol_bytes s
  earlier_normal = longer_normal (omega arith) s

  pub earlier_normal_answer : (l : Lent) → normal_work_fits most_symbol_bytes l ≡ true
      → (normal_answer earlier_symbol_bytes l s ≡ refusal 1 → ⊥) → (normal_answer earlier_symbol_bytes l s ≡ refusal 13 → ⊥)
      → normal_answer most_symbol_bytes l s ≡ normal_answer earlier_symbol_bytes l s
  earlier_normal_answer l fits = longer_normal_answer (omega arith) l fits s
