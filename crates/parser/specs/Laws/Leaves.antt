-- Laws of Leaves.antt. Assumes nothing.
use Rattle.std.specs.Prelude.{nat_eq, Bool, true, false, ◌&&◌, ◌||◌, not, ◌⊎◌, ◌≡◌, refl, length, Option as Returned, MatchOption}
use Rattle.std.proofs.Math.Bool.{and-false}
use Rattle.std.proofs.Common.{inl, inr, ◌∙◌, arith, length-take, le-ltb, lt-ltb, is_some, nat_lt, Some, None}
use Rattle.store.specs.Laws.Lists.{drop_take}
use mathlib.Core.List.{List, [], ◌∷◌}
use Rattle.std.proofs.Math.Option.{Option, none, some}
use Rattle.std.proofs.Math.Path.{sym, ap, subst}
use Prim.Native.Nat.{ℕ, zero, suc, ◌+◌, ◌-◌, ◌≤◌, ◌<◌}
use borrow.Author.Tests.{ne_eqb, eqb-true}
use Rattle.std.proofs.Math.Dec.{eqb}
use Rattle.std.proofs.Math.ListN.{take, drop, get_or}
use Rattle.grammar.specs.Text.{Text, b, if◌then◌otherwise◌, choose, same, starts, holds, run, after_last, between, digit_value, digit}
use Rattle.grammar.specs.Grammar.{last, class_of, skipped, open_after, digit_ahead, structor_ahead, std_ahead}
use Rattle.grammar.specs.Laws.Places.{rest_some, rest_none}
use Rattle.grammar.specs.Laws.Text.{starts_nothing}
use Rattle.grammar.specs.States.{peeked}
use Rattle.std.specs.Cmp.Lexicographic.{pointwise}
use Rattle.std.specs.Borrow.{Bor}
use Rattle.grammar.specs.Words.{word_of}
use Rattle.grammar.specs.Tables.{qualifiers}
use Rattle.grammar.specs.Reader.{word_for}
use Rattle.parser.specs.Leaves.{qualifies, unargued, class_in, Classed}

pub class_of_is : (ts : List Text) → class_of ts ≡ choose (last ts) class_in []
unfolding class_of class_in
class_of_is ts = refl

-- a byte has a word in the table of qualifiers where it is one
abbrev named : Option Text → Bool
named o = choose o (λ w. true) false

word_named : (c : ℕ) → named (word_for qualifiers (c ∷ [])) ≡ qualifies c
unfolding word_for qualifiers same b holds if◌then◌otherwise◌ choose
word_named c = go (eqb c 75) (eqb c 86) (eqb c 82) (eqb c 79) (eqb c 114)
  where
    go : (k v r o s : Bool) →
        named (if k && true then some (b " const") otherwise if v && true then some (b " volatile") otherwise if r && true then some (b " &") otherwise
        if o && true then some (b " &&") otherwise if s && true then some [] otherwise none)
        ≡ (k || (v || (s || (r || (o || false)))))
    go true v r o s = refl
    go false true r o s = refl
    go false false true o true = refl
    go false false true o false = refl
    go false false false true true = refl
    go false false false true false = refl
    go false false false false true = refl
    go false false false false false = refl

pub qualifies_is : (c : ℕ) (w : Returned (Bor Text)) → word_of w ≡ word_for qualifiers (c ∷ []) → is_some w ≡ qualifies c
unfolding choose
qualifies_is c (Some w) e = ap named e ∙ word_named c
qualifies_is c None e = ap named e ∙ word_named c

-- ---------------------------------------------------------------- digits

ten : (c : ℕ) → between 48 57 c ≡ true → c < 58
ten c e = grind arith

pub digit_is : (c : ℕ) → between 48 57 c ≡ digit 10 c
unfolding digit digit_value if◌then◌otherwise◌
digit_is c = sym (go (between 48 57 c) (between 65 90 c) (between 97 122 c) (ten c))
  where
    go : (p q r : Bool) → (p ≡ true → c < 58) → nat_lt (if p then c - 48 otherwise if q then c - 65 + 10 otherwise if r then c - 97 + 10 otherwise 36) 10 ≡ p
    go true q r h = let l = h refl in lt-ltb (c - 48) 10 (omega arith)
    go false true r h = le-ltb (c - 65 + 10) 10 (omega arith)
    go false false true h = le-ltb (c - 97 + 10) 10 (omega arith)
    go false false false h = refl

-- ---------------------------------------------------------------- skipped expressions

pub skipped_all : (t : Text) → skipped t 0 ≡ some t
unfolding skipped
skipped_all [] = refl
skipped_all (c ∷ t) = refl

module _ (s : Text) (i : ℕ) where
  pub skipped_none : (d : ℕ) → 0 < d → length s ≤ i → skipped (drop i s) d ≡ none
  unfolding skipped
  skipped_none zero h l = absurd (omega arith)
  skipped_none (suc d) h l = rw (rest_none s i l)

  pub skipped_more : (d : ℕ) → 0 < d → i < length s → skipped (drop i s) d ≡ skipped (drop (i + 1) s) (open_after (get_or s i 0) d)
  unfolding skipped
  skipped_more zero h l = absurd (omega arith)
  skipped_more (suc d) h l = rw (rest_some s i l)

pub open_most : (c d : ℕ) → open_after c d ≤ d + 1
unfolding open_after if◌then◌otherwise◌
open_most c d = go (eqb c 88) (eqb c 69)
  where
    go : (q r : Bool) → (if q then d + 1 otherwise if r then d - 1 otherwise d) ≤ d + 1
    go true r = omega arith
    go false true = omega arith
    go false false = omega arith

-- ---------------------------------------------------------------- what stands ahead

pub digit_peeked :
    (t : Text) (o : Returned ℕ) {r : Bool} (Q : ℕ → Type 0) → o ≡ peeked t → MatchOption o (r ≡ false) Q → ((c : ℕ) → Q c → r ≡ digit 10 c) → r ≡ digit_ahead t
unfolding digit_ahead
digit_peeked [] o {r} Q e h k = subst (λ (v : Returned ℕ). MatchOption v (r ≡ false) Q) e h
digit_peeked (x ∷ t) o {r} Q e h k = k x (subst (λ (v : Returned ℕ). MatchOption v (r ≡ false) Q) e h)

module _ (s : Text) (at : ℕ) where
  pub digit_at : at < length s → digit 10 (get_or s at 0) ≡ digit_ahead (drop at s)
  unfolding digit_ahead
  digit_at l = ap digit_ahead (sym (rest_some s at l))

  pub digit_past : length s ≤ at → false ≡ digit_ahead (drop at s)
  unfolding digit_ahead
  digit_past l = ap digit_ahead (sym (rest_none s at l))

-- u is the slice t, as it was passed over
module _ {t u : Text} (f : t ≡ u) where
  pub structor_short : length t < 2 → false ≡ structor_ahead u
  unfolding structor_ahead
  structor_short l = go t l ∙ ap structor_ahead f
    where
      go : (t : Text) → length t < 2 → false ≡ structor_ahead t
      go [] l = refl
      go (x ∷ []) l = refl
      go (x ∷ y ∷ t) l = absurd (omega arith)

  structor_is : 2 ≤ length t → structor_ahead u ≡ (holds (get_or t 0 0) (b "CD") && (digit 10 (get_or t 1 0) || eqb (get_or t 1 0) 67))
  unfolding structor_ahead
  structor_is l = sym (ap structor_ahead f) ∙ go t l
    where
      go : (t : Text) → 2 ≤ length t → structor_ahead t ≡ (holds (get_or t 0 0) (b "CD") && (digit 10 (get_or t 1 0) || eqb (get_or t 1 0) 67))
      go [] l = absurd (omega arith)
      go (x ∷ []) l = absurd (omega arith)
      go (x ∷ y ∷ t) l = refl

  pub structor_at : 2 ≤ length t → (get_or t 0 0 ≡ 67) ⊎ (get_or t 0 0 ≡ 68) → {q : Bool} → q ≡ digit 10 (get_or t 1 0) → structor_ahead u ≡ (q || eqb (get_or t 1 0) 67)
  unfolding holds b
  structor_at l (inl i) e = rw e (structor_is l ∙ rw i refl)
  structor_at l (inr i) e = rw e (structor_is l ∙ rw i refl)

  pub structor_unlike : 2 ≤ length t → (get_or t 0 0 ≡ 67 → ⊥) → (get_or t 0 0 ≡ 68 → ⊥) → false ≡ structor_ahead u
  unfolding holds b
  structor_unlike l n m = sym (structor_is l ∙ rw (ne_eqb (get_or t 0 0) 67 n, ne_eqb (get_or t 0 0) 68 m) refl)

  pub std_short : length t < 3 → false ≡ std_ahead u
  unfolding std_ahead
  std_short l = go t l ∙ ap std_ahead f
    where
      go : (t : Text) → length t < 3 → false ≡ std_ahead t
      go [] l = refl
      go (x ∷ []) l = refl
      go (x ∷ y ∷ []) l = refl
      go (x ∷ y ∷ z ∷ t) l = absurd (omega arith)

  std_is : 3 ≤ length t → std_ahead u ≡ ((eqb (get_or t 0 0) 83 && (eqb (get_or t 1 0) 116 && true)) && (digit 10 (get_or t 2 0) || holds (get_or t 2 0) (b "CD")))
  unfolding std_ahead starts b
  std_is l = sym (ap std_ahead f) ∙ go t l
    where
      go : (t : Text) → 3 ≤ length t → std_ahead t ≡ ((eqb (get_or t 0 0) 83 && (eqb (get_or t 1 0) 116 && true)) && (digit 10 (get_or t 2 0) || holds (get_or t 2 0) (b "CD")))
      go [] l = absurd (omega arith)
      go (x ∷ []) l = absurd (omega arith)
      go (x ∷ y ∷ []) l = absurd (omega arith)
      go (x ∷ y ∷ z ∷ t) l = refl

  pub std_at : 3 ≤ length t → get_or t 0 0 ≡ 83 → get_or t 1 0 ≡ 116 → {q : Bool} → q ≡ digit 10 (get_or t 2 0) → std_ahead u ≡ (q || holds (get_or t 2 0) (b "CD"))
  std_at l i j e = rw e (std_is l ∙ rw (i, j) refl)

  pub std_unlike : 3 ≤ length t → (get_or t 0 0 ≡ 83 → get_or t 1 0 ≡ 116 → ⊥) → false ≡ std_ahead u
  std_unlike l n = sym (std_is l ∙ go (eqb (get_or t 0 0) 83) (eqb (get_or t 1 0) 116) refl refl)
    where
      go : (p q : Bool) → eqb (get_or t 0 0) 83 ≡ p → eqb (get_or t 1 0) 116 ≡ q → ((p && (q && true)) && (digit 10 (get_or t 2 0) || holds (get_or t 2 0) (b "CD"))) ≡ false
      go false q i j = refl
      go true false i j = refl
      go true true i j = absurd (n (eqb-true (get_or t 0 0) 83 i) (eqb-true (get_or t 1 0) 116 j))

-- ---------------------------------------------------------------- the class of a constructor

abbrev pub colons : Text
colons = 58 ∷ 58 ∷ []

-- the last :: of a text, if there is one, by the two bytes at each place
abbrev pub Colons : Text → ℕ → Bool → Type 0
Colons t i q = pointwise nat_eq (take 2 (drop i t)) colons ≡ q

begins : (t : Text) {q : Bool} → Colons t 0 q → starts t colons ≡ q
unfolding starts
begins [] e = e
begins (x ∷ []) e = e
begins (x ∷ y ∷ t) e = ap (λ (q : Bool). eqb x 58 && (eqb y 58 && q)) (starts_nothing t) ∙ e

after_none : (found t : Text) → ((i : ℕ) → i + 2 ≤ length t → Colons t i false) → after_last colons found t ≡ found
unfolding after_last if◌then◌otherwise◌
after_none found [] n = refl
after_none found (x ∷ []) n = rw (begins (x ∷ []) (and-false (eqb x 58))) refl
after_none found (x ∷ y ∷ t) n = rw (begins (x ∷ y ∷ t) (n 0 (omega arith))) (after_none found (y ∷ t) (λ i l. n (suc i) (omega arith)))

after_one : (found t : Text) (i : ℕ) → i < length t → Colons t i true → ((j : ℕ) → i < j → j + 2 ≤ length t → Colons t j false) → after_last colons found t ≡ drop (i + 2) t
unfolding after_last if◌then◌otherwise◌
after_one found [] i l e n = absurd (omega arith)
after_one found (x ∷ t) zero l e n = rw (begins (x ∷ t) e) (after_none (drop 1 t) t (λ j m. n (suc j) (omega arith) (omega arith)))
after_one found (x ∷ t) (suc i) l e n =
    after_one (if starts (x ∷ t) colons then drop 1 t otherwise found) t i (omega arith) e (λ j m k. n (suc j) (omega arith) (omega arith))
    ∙ ap (λ (j : ℕ). drop j (x ∷ t)) {x = suc (i + 2)} {y = suc i + 2} (omega arith)

pub run_front : (p : ℕ → Bool) (t : Text) → take (length (run p t)) t ≡ run p t
unfolding run if◌then◌otherwise◌
run_front p [] = refl
run_front p (x ∷ t) = go (p x) (run_front p t)
  where
    go : (q : Bool) → take (length (run p t)) t ≡ run p t → take (length (if q then x ∷ run p t otherwise [])) (x ∷ t) ≡ (if q then x ∷ run p t otherwise [])
    go true e = ap (λ (u : Text). x ∷ u) e
    go false e = refl

module _ (t : Text) {to : ℕ} (e : to ≡ 0 + length (unargued t)) (l : to ≤ length t) where
  classed : {from : ℕ} → from ≤ to → after_last colons (take to t) (take to t) ≡ drop from (take to t) → Classed t (record { from = from; to = to })
  unfolding class_in b
  classed {from} i h =
      let f : take to t ≡ unargued t = ap (λ (n : ℕ). take n t) {x = to} {y = length (unargued t)} (omega arith) ∙ run_front (λ x. not (eqb x 60)) t in
      record { is = sym (drop_take from to t) ∙ sym h ∙ ap (λ (w : Text). after_last colons w w) f; inside = (i, l) }

  -- by the places that were passed over from the end, of those from i on
  at : (i : ℕ) → ((k : ℕ) → k + 2 + i ≤ length (take to t) → Colons (take to t) (length (take to t) - 2 - k) false) → (j : ℕ) → i ≤ j → j + 2 ≤ length (take to t) → Colons (take to t) j false
  at i n j m o =
      subst (λ (x : ℕ). Colons (take to t) x false) {x = length (take to t) - 2 - (length (take to t) - 2 - j)} {y = j} (omega arith) (n (length (take to t) - 2 - j) (omega arith))

  pub classed_whole : ((k : ℕ) → k + 2 + 0 ≤ length (take to t) → Colons (take to t) (length (take to t) - 2 - k) false) → Classed t (record { from = 0; to = to })
  classed_whole n = classed (omega arith) (after_none (take to t) (take to t) (λ j m. at 0 n j (omega arith) m))

  pub classed_behind :
      (i : ℕ) → i + 2 ≤ length (take to t) → Colons (take to t) i true → ((k : ℕ) → k + 2 + (i + 1) ≤ length (take to t) → Colons (take to t) (length (take to t) - 2 - k) false) →
      Classed t (record { from = i + 2; to = to })
  classed_behind i m c n = classed (omega (arith, length-take to t)) (after_one (take to t) (take to t) i (omega arith) c (λ j o p. at (i + 1) n j (omega arith) p))
