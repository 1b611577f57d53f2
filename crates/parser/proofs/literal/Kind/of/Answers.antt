use Rattle.std.proofs.Common.{◌≡◌, ℕ, zero, suc, ◌<◌, Bool, true, false, List, [], ◌∷◌, Option as Returned, Some, None, nat_eq, length, refl, sym, ap, ◌∙◌, subst, arith, rules, tests}
use Rattle.std.specs.Prelude.{MatchOption}
use Rattle.std.specs.Borrow.{Bor}
use Rattle.std.specs.Cmp.Lexicographic.{pointwise}
use Rattle.std.specs.List.{AllWithin, HoldsAt}
use Rattle.std.proofs.lemmas.Iterator.{first_from_find, YieldsList-from_slice}
use Rattle.std.proofs.Math.Option.{Option, none, some}
use Rattle.grammar.specs.Text.{Text, b, if◌then◌otherwise◌, same}
use Rattle.grammar.specs.Tables.{suffixes}
use Rattle.grammar.specs.Reader.{word_for}
use Rattle.store.specs.Laws.Lists.{same_texts}
use Rattle.parser.specs.Literals.{truth, suffix, cast}
use Rattle.parser.proofs.literal.Kind.of.Goals as goal

-- what a test of two texts tells
told : {r q : Bool} (t : Text) {w u : Text} → r ≡ pointwise nat_eq t u → u ≡ w → r ≡ q → same t w ≡ q
told t {w} {u} e f g = sym (same_texts t w) ∙ ap (pointwise nat_eq t) (sym f) ∙ sym e ∙ g

pub returns-then-eq : goal.returns-then-eq
unfolding b
returns-then-eq c = truth (told c.args.text.now c.eq.ensures c.as_slice.ensures c.if-eq.true)

abbrev Entry : Type 0
Entry = Bor Text × Bor Text

-- the suffix of the first entry whose name is the text
worded : List Entry → Text → Option Text
worded [] t = none
worded (r ∷ rows) t = if same t r.0.now then some r.1.now otherwise worded rows t

module _ (t : Text) where
  abbrev Hit : Entry → Type 0
  Hit r = pointwise nat_eq t r.0.now ≡ true

  abbrev Miss : Entry → Type 0
  Miss r = pointwise nat_eq t r.0.now ≡ false

  hit : (r : Entry) (rows : List Entry) → Hit r → worded (r ∷ rows) t ≡ some r.1.now
  unfolding worded if◌then◌otherwise◌
  hit r rows h = rw (sym (same_texts t r.0.now) ∙ h) refl

  miss : (r : Entry) (rows : List Entry) → Miss r → worded (r ∷ rows) t ≡ worded rows t
  unfolding worded if◌then◌otherwise◌
  miss r rows h = rw (sym (same_texts t r.0.now) ∙ h) refl

  first : (rows : List Entry) (i : ℕ) (x : Entry) → i < length rows → HoldsAt (λ y. y ≡ x) rows i → AllWithin Miss rows 0 i → Hit x → worded rows t ≡ some x.1.now
  first [] i x l e n h = absurd (omega arith)
  first (r ∷ rows) zero x l e n h = hit r rows (subst Hit (sym (e r)) h) ∙ ap (λ (y : Entry). some y.1.now) (e r)
  first (r ∷ rows) (suc i) x l e n h = miss r rows (n 0 r (omega arith) (omega arith)) ∙ first rows i x (omega arith) e (λ k d o m. n (suc k) d (omega arith) (omega arith)) h

  nowhere : (rows : List Entry) → AllWithin Miss rows 0 (length rows) → worded rows t ≡ none
  unfolding worded
  nowhere [] n = refl
  nowhere (r ∷ rows) n = miss r rows (n 0 r (omega arith) (omega arith)) ∙ nowhere rows (λ k d o m. n (suc k) d (omega arith) (omega arith))

  found : (rows : List Entry) (o : Returned (Bor Entry)) {x : Bor Entry} → o ≡ Some x
      → MatchOption o (AllWithin Miss rows 0 (length rows)) (λ y. Hit y.now × (i : ℕ) × (i < length rows) × HoldsAt (λ z. z ≡ y.now) rows i × AllWithin Miss rows 0 i)
      → worded rows t ≡ some x.now.1.now
  found rows (Some y) {x} e (h, i, l, k, n) = let z : y ≡ x = cc in first rows i y.now l k n h ∙ ap (λ (w : Bor Entry). some w.now.1.now) z
  found rows None e m = let z : ◌≡◌ {A = ℕ} 0 1 = cc in absurd (omega arith)

  missing : (rows : List Entry) (o : Returned (Bor Entry)) → o ≡ None
      → MatchOption o (AllWithin Miss rows 0 (length rows)) (λ y. Hit y.now × (i : ℕ) × (i < length rows) × HoldsAt (λ z. z ≡ y.now) rows i × AllWithin Miss rows 0 i)
      → worded rows t ≡ none
  missing rows (Some y) e m = let z : ◌≡◌ {A = ℕ} 0 1 = cc in absurd (omega arith)
  missing rows None e m = nowhere rows m

pub returns-in-Some : goal.returns-in-Some
unfolding worded word_for suffixes b
returns-in-Some c =
    let t : Text = c.args.text.now in
    let rows : List Entry = c.iter.result.rest.now in
    let m = first_from_find {all = rows} _ _ c.find.result (Hit t) (Miss t) c.find.ensures.ran (YieldsList-from_slice _ refl) (λ x q k. search (rules, tests)) (λ x q k. search (rules, tests)) in
    suffix (told t c.eq.ensures c.as_slice.ensures c.if-eq.false) (sym (ap (λ (l : List Entry). worded l t) c.iter.ensures.rest) ∙ found t rows c.find.result c.in-Some.is m)

pub returns-in-None : goal.returns-in-None
unfolding worded word_for suffixes b
returns-in-None c =
    let t : Text = c.args.text.now in
    let rows : List Entry = c.iter.result.rest.now in
    let m = first_from_find {all = rows} _ _ c.find.result (Hit t) (Miss t) c.find.ensures.ran (YieldsList-from_slice _ refl) (λ x q k. search (rules, tests)) (λ x q k. search (rules, tests)) in
    cast (told t c.eq.ensures c.as_slice.ensures c.if-eq.false) (sym (ap (λ (l : List Entry). worded l t) c.iter.ensures.rest) ∙ missing t rows c.find.result c.in-None.is m)
