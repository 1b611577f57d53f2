-- What the productions of letters and digits read of a catalogue symbol: source names, references, and the bytes by which the others are picked.
use Rattle.std.specs.Prelude.{Bool, true, not, ◌&&◌, List, [], ◌∷◌, ◌++◌, ◌≡◌, ℕ, ◌≤◌, eqb, leb}
use Rattle.std.proofs.Math.Bool.{false}
use Rattle.std.proofs.lemmas.Bool.{false≢true}
use Rattle.std.proofs.Math.Option.{none}
use Rattle.std.proofs.Math.Path.{refl, ap}
use Rattle.std.proofs.Common.{sym, ◌∙◌, arith}
use Prim.Native.Char.{code}
use Rattle.std.proofs.Math.ListN.{length, get_elem?, length-append}
use Rattle.std.proofs.Math.Seq.{take-append_seam, drop-append_seam}
use borrow.Author.Tests.{le-leb}
use Rattle.grammar.specs.Text.{Text, b, if◌then◌otherwise◌, choose, starts, digit, digit_value, number}
use Rattle.grammar.specs.Tables.{Row, ◌⇒◌, abbreviations}
use Rattle.grammar.specs.Reader.{State, Reader, onto, refuse, give, go_to, find, by_code, need, eat, every}
use Rattle.grammar.specs.Grammar as g
use Rattle.grammar.specs.Grammar.{⟨unqualified-name⟩, ⟨source-name⟩, ⟨operator-name⟩, ⟨substitution⟩, production, reading, index}
use Rattle.grammar.specs.Laws.Fuel.{reading_is}
use Rattle.catalogue.specs.Bytes.{all, first, and_left, and_right, eqb_eq}
use Rattle.catalogue.specs.Laws.Bytes.{not-true, run_of, past_of}
use Rattle.agreement.specs.Laws.Verdict.{at}

-- ---------------------------------------------------------------- a byte that no code begins with

-- the codes of the rows begin with bytes that fail the test
unfoldable pub clear : {A : Type 0} → (ℕ → Bool) → List (Row A) → Bool
clear p [] = true
clear p ((w ⇒ x) ∷ rows) = first (λ y. not (p y)) (b w) && clear p rows

-- the first byte passes a test that the word's first byte fails
pub starts_miss : (p : ℕ → Bool) (t w : Text) → first p t ≡ true → first (λ y. not (p y)) w ≡ true → starts t w ≡ false
unfolding starts
starts_miss p t [] h k = absurd (false≢true k)
starts_miss p [] (y ∷ w) h k = refl
starts_miss p (x ∷ t) (y ∷ w) h k = go (eqb x y) refl
  where
    go : (c : Bool) → eqb x y ≡ c → c && starts t w ≡ false
    go false e = refl
    go true e = absurd (false≢true (sym (not-true (p y) k) ∙ (rw (eqb_eq x y e) at h)))

pub find_miss : {A : Type 0} (p : ℕ → Bool) (rows : List (Row A)) (t : Text) → first p t ≡ true → clear p rows ≡ true → find rows t ≡ none
unfolding find clear if◌then◌otherwise◌
find_miss p [] t h k = refl
find_miss p ((w ⇒ y) ∷ rows) t h k =
    rw (starts_miss p t (b w) h (and_left (first (λ y. not (p y)) (b w)) (clear p rows) k))
    (find_miss p rows t h (and_right (first (λ y. not (p y)) (b w)) (clear p rows) k))

-- ---------------------------------------------------------------- source names

-- digits that say how long the name is, and the name; no tag follows
pub record Named (ds n : Text) : Type 0 where
  pub digits : all (digit 10) ds ≡ true
  pub lead : first (digit 10) ds ≡ true
  pub says : number 10 0 ds ≡ length n
  pub long : 1 ≤ length n
  pub ends : first (digit 10) n ≡ false

first_append : (p : ℕ → Bool) (n r : Text) → 1 ≤ length n → first p (n ++ r) ≡ first p n
first_append p [] r h = absurd (omega arith)
first_append p (x ∷ n) r h = refl

pub first_of : (p : ℕ → Bool) (n r : Text) → first p n ≡ true → first p (n ++ r) ≡ true
first_of p [] r h = absurd (false≢true h)
first_of p (x ∷ n) r h = h

by_code_skip : {A B : Type 0} (rows : List (Row A)) (f : A → Reader B) (m : Reader B) (s : State) → find rows s.rest ≡ none
    → by_code rows f m s ≡ m s
unfolding by_code onto choose
by_code_skip rows f m s e = rw e

digit_ahead_is : (t : Text) → g.digit_ahead t ≡ first (digit 10) t
unfolding g.digit_ahead
digit_ahead_is [] = refl
digit_ahead_is (x ∷ t) = refl

clear_abbreviations : clear (λ x. leb x (code "_")) abbreviations ≡ true
unfolding clear abbreviations b
clear_abbreviations = refl

module _ (ds n r : Text) (l a : List Text) (d : ℕ) (c : Text) (q : Bool) (h : Named ds n) (tag : starts r (b "B") ≡ false) where
  pub source_name_is : reading ⟨source-name⟩ (at (ds ++ (n ++ r)) l a d c q) ≡ give n (at r l a d c q)
  unfolding production g.source_name every onto go_to by_code find choose if◌then◌otherwise◌
  source_name_is =
      let e : first (digit 10) (n ++ r) ≡ false = first_append (digit 10) n r h.long ∙ h.ends in
      let k : length n ≤ length (n ++ r) = simp length-append (omega arith) in
      rw (
        reading_is ⟨source-name⟩ (at (ds ++ (n ++ r)) l a d c q),
        run_of (digit 10) ds (n ++ r) h.digits e,
        past_of (digit 10) ds (n ++ r) h.digits e,
        h.says,
        le-leb 1 (length n) h.long,
        le-leb (length n) (length (n ++ r)) k,
        drop-append_seam n r,
        take-append_seam n r,
        tag,
      )

  pub unqualified_name_is : reading ⟨unqualified-name⟩ (at (ds ++ (n ++ r)) l a d c q) ≡ give n (at r l a d c q)
  unfolding production g.unqualified_name onto clear digit digit_value b if◌then◌otherwise◌
  unqualified_name_is =
      let e = first_of (digit 10) ds (n ++ r) h.lead in
      reading_is ⟨unqualified-name⟩ (at (ds ++ (n ++ r)) l a d c q)
      ∙ by_code_skip _ _ _ _ (find_miss (digit 10) _ (ds ++ (n ++ r)) e refl)
      ∙ ap (λ z. reading (if z then ⟨source-name⟩ otherwise ⟨operator-name⟩) (at (ds ++ (n ++ r)) l a d c q)) (digit_ahead_is (ds ++ (n ++ r)) ∙ e)
      ∙ source_name_is

-- ---------------------------------------------------------------- references

-- what stands in a reference: no byte of it is a small letter
abbrev pub low : ℕ → Bool
low x = leb x (code "_")

pub record Numbered (ds : Text) : Type 0 where
  pub digits : all (digit 36) ds ≡ true
  pub capitals : all low ds ≡ true

all_first : (p : ℕ → Bool) (ds r : Text) (x : ℕ) → all p ds ≡ true → p x ≡ true → first p (ds ++ (x ∷ r)) ≡ true
all_first p [] r x h k = k
all_first p (y ∷ ds) r x h k = and_left (p y) (all p ds) h

module _ (ds r : Text) (l a : List Text) (d : ℕ) (c : Text) (q : Bool) (h : Numbered ds) where
  pub substitution_is :
      reading ⟨substitution⟩ (at (code "S" ∷ (ds ++ (code "_" ∷ r))) l a d c q) ≡ choose (get_elem? l (index 36 ds)) give (refuse 7) (at r l a d c q)
  unfolding production g.substitution need eat every onto go_to starts b if◌then◌otherwise◌ by_code choose digit digit_value
  substitution_is =
      rw (
        reading_is ⟨substitution⟩ (at (code "S" ∷ (ds ++ (code "_" ∷ r))) l a d c q),
        find_miss low abbreviations (ds ++ (code "_" ∷ r)) (all_first low ds r (code "_") h.capitals refl) clear_abbreviations,
        run_of (digit 36) ds (code "_" ∷ r) h.digits refl,
        past_of (digit 36) ds (code "_" ∷ r) h.digits refl,
      )
