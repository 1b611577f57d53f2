-- The row whose code stands first in a text, by the word for the code: how the reading takes what a match on the code's bytes picks. Assumes nothing.
use Rattle.std.specs.Prelude.{◌≡◌, ℕ, Bool, true, false, ◌&&◌, T, List, [], ◌∷◌, ◌++◌, length, ◌==◌}
use Rattle.std.proofs.Math.Path.{refl, ap}
use Rattle.std.proofs.Common.{◌∙◌, arith, eqb→eq}
use Rattle.std.proofs.Math.Option.{Option, some}
use Prim.Native.String.{String}
use Rattle.std.proofs.Math.Nat.{suc_inj}
use Rattle.std.proofs.Math.Seq.{drop-append_seam}
use Rattle.grammar.specs.Text.{Text, b, if◌then◌otherwise◌, choose, same, starts}
use Rattle.grammar.specs.Tables.{Row, ◌⇒◌, Table}
use Rattle.grammar.specs.Reader.{find, word_for}
use Rattle.grammar.specs.Words.{halves}
use Rattle.grammar.specs.Laws.Text.{both, starts_nothing}

-- every code of the table has so many bytes
unfoldable pub all_of : {A : Type 0} → ℕ → List (Row A) → Bool
all_of n [] = true
all_of n ((k ⇒ x) ∷ rows) = length (b k) == n && all_of n rows

starts_code : (code rest k : Text) → length k ≡ length code → starts (code ++ rest) k ≡ same code k
unfolding starts same
starts_code [] rest [] e = starts_nothing rest
starts_code [] rest (y ∷ k) e = absurd (omega (arith, e))
starts_code (x ∷ code) rest [] e = absurd (omega (arith, e))
starts_code (x ∷ code) rest (y ∷ k) e = rw (starts_code code rest k (suc_inj e))

module _ (code rest : Text) where
  found_one : {A : Type 0} (k : String) (x : A) (rows : List (Row A)) → length (b k) ≡ length code
      → find ((k ⇒ x) ∷ rows) (code ++ rest) ≡ (if same code (b k) then some (x, rest) otherwise find rows (code ++ rest))
  unfolding find
  found_one k x rows e = rw (starts_code code rest (b k) e, e, drop-append_seam)

  module _ {B : Type 0} (f : Text → Text → B) (y : B) where
    one_word : (q : Bool) (w : String) (rows : Table)
        → choose (find rows (code ++ rest)) (λ r. f (b r.0) r.1) y ≡ choose (word_for rows code) (λ t. f t rest) y
        → choose (if q then some (w, rest) otherwise find rows (code ++ rest)) (λ r. f (b r.0) r.1) y
        ≡ choose (if q then some (b w) otherwise word_for rows code) (λ t. f t rest) y
    unfolding if◌then◌otherwise◌ choose
    one_word true w rows e = refl
    one_word false w rows e = e

    pub by_word : (rows : Table) → T (all_of (length code) rows)
        → choose (find rows (code ++ rest)) (λ r. f (b r.0) r.1) y ≡ choose (word_for rows code) (λ t. f t rest) y
    unfolding choose all_of find word_for
    by_word [] h = refl
    by_word ((k ⇒ w) ∷ rows) h =
        let (p, q) = both (length (b k) == length code) (all_of (length code) rows) h in
        ap (λ (o : Option (String × Text)). choose o (λ r. f (b r.0) r.1) y) (found_one k w rows (eqb→eq _ _ p))
        ∙ one_word (same code (b k)) w rows (by_word rows q)

  -- the same for the two words of a wrapper
  module _ {B : Type 0} (f : Text → Text → Text → B) (y : B) where
    abbrev from_row : Option ((String × String) × Text) → B
    from_row o = choose o (λ r. f (b r.0.0) (b r.0.1) r.1) y

    abbrev from_words : Option Text → Option Text → B
    from_words o p = choose o (λ t. choose p (λ u. f t u rest) y) y

    one_pair : (q : Bool) (w : String × String) (rows : List (Row (String × String)))
        → from_row (find rows (code ++ rest)) ≡ from_words (word_for (halves (λ v. v.0) rows) code) (word_for (halves (λ v. v.1) rows) code)
        → from_row (if q then some (w, rest) otherwise find rows (code ++ rest))
        ≡ from_words (if q then some (b w.0) otherwise word_for (halves (λ v. v.0) rows) code)
        (if q then some (b w.1) otherwise word_for (halves (λ v. v.1) rows) code)
    unfolding if◌then◌otherwise◌ choose
    one_pair true w rows e = refl
    one_pair false w rows e = e

    pub by_pair : (rows : List (Row (String × String))) → T (all_of (length code) rows)
        → choose (find rows (code ++ rest)) (λ r. f (b r.0.0) (b r.0.1) r.1) y
        ≡ choose (word_for (halves (λ v. v.0) rows) code) (λ t. choose (word_for (halves (λ v. v.1) rows) code) (λ u. f t u rest) y) y
    unfolding choose all_of find word_for halves
    by_pair [] h = refl
    by_pair ((k ⇒ w) ∷ rows) h =
        let (p, q) = both (length (b k) == length code) (all_of (length code) rows) h in
        ap from_row (found_one k w rows (eqb→eq _ _ p)) ∙ one_pair (same code (b k)) w rows (by_pair rows q)
