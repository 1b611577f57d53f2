-- The special names of the definition, each by the bytes that stand first, and the labels that the code picks. Assumes nothing.
use Rattle.std.specs.Prelude.{Bool, true, false, ◌&&◌, List, [], ◌∷◌, ◌++◌, ◌≡◌, refl, ℕ, ◌≤◌, ◌<◌, T, eqb, length, take, drop, get_or, nat_eq, Option as Returned, Some, None}
use Rattle.std.specs.Borrow.{Bor}
use Rattle.std.proofs.Math.Option.{Option, none, some}
use Rattle.std.proofs.Common.{sym, ap₂, ◌∙◌, arith, eq-eqb, ne_eqb, eqb-true, eqb→eq}
use Rattle.std.proofs.lemmas.Bool.{eqb-false}
use Rattle.std.specs.Cmp.Lexicographic.{pointwise}
use Rattle.std.proofs.Math.Path.{ap}
use Prim.Native.String.{String}
use Rattle.grammar.specs.Text.{Text, b, if◌then◌otherwise◌, choose, starts, holds}
use Rattle.grammar.specs.Tables.{Row, ◌⇒◌, Table, labels}
use Rattle.grammar.specs.Reader.{State, Result, ok, refused, Reader, onto, go_to, give, start, find, by_code, cases}
use Rattle.grammar.specs.Grammar.{reading, ⟨encoding⟩, ⟨name⟩, ⟨type⟩, encoding, encoding_with, labelled, thunks, anew, function_or_data, production}
use Rattle.grammar.specs.Laws.Agree.{moved, coded, all_coded}
use Rattle.grammar.specs.Laws.Text.{both, starts_is}
use Rattle.grammar.specs.Laws.Fuel.{reading_is}
use Rattle.grammar.specs.Laws.Finds.{all_of, by_word}
use Rattle.grammar.specs.Laws.Steps.{heads, within, no_row_of}
use Rattle.grammar.specs.Words.{word_of, Spells}
use Rattle.grammar.specs.Laws.Places.{rest_some}
use Rattle.encoding.specs.Encodings.{Labels}

-- ---------------------------------------------------------------- what a slice begins with

eqb_turned : (x y : ℕ) → eqb x y ≡ eqb y x
eqb_turned x y = go (eqb x y) refl
  where
    go : (q : Bool) → eqb x y ≡ q → q ≡ eqb y x
    go true e = sym (eq-eqb y x (sym (eqb-true x y e)))
    go false e = sym (ne_eqb y x (λ i. eqb-false x y e (sym i)))

pub slice_starts : (s w : Text) → pointwise nat_eq w (take (length w) s) ≡ starts s w
unfolding starts
slice_starts [] [] = refl
slice_starts (x ∷ s) [] = refl
slice_starts [] (y ∷ w) = refl
slice_starts (x ∷ s) (y ∷ w) = ap₂ (λ (p q : Bool). p && q) (eqb_turned y x) (slice_starts s w)

-- ---------------------------------------------------------------- the definition

-- a text read anew behind a special name's letters, and what is qualified-by before it
abbrev pub after : Text → Text → Reader Text
after w t σ = give (w ++ t) (start [])

onto_after : (w : Text) (x : Result Text) → onto (λ t. give (w ++ t)) (onto (λ t _. ok t (start [])) x) ≡ onto (after w) x
unfolding onto
onto_after w (ok t σ) = refl
onto_after w (refused r) = refl

abbrev pub clone : Text
clone = b "transaction clone for "

abbrev pub guard : Text
guard = b "guard variable for "

clone_is : (u : Text) → reading ⟨encoding⟩ (start (71 ∷ 84 ∷ 116 ∷ u)) ≡ onto (after clone) (reading ⟨encoding⟩ (start u))
unfolding production encoding encoding_with anew by_code find onto choose go_to labels starts b if◌then◌otherwise◌ start
clone_is u = reading_is ⟨encoding⟩ (start (71 ∷ 84 ∷ 116 ∷ u)) ∙ onto_after clone (reading ⟨encoding⟩ (start u))

guard_is : (u : Text) → reading ⟨encoding⟩ (start (71 ∷ 86 ∷ u)) ≡ onto (after guard) (reading ⟨name⟩ (start u))
unfolding production encoding encoding_with anew by_code find onto choose go_to labels starts b if◌then◌otherwise◌ start
guard_is u = reading_is ⟨encoding⟩ (start (71 ∷ 86 ∷ u)) ∙ onto_after guard (reading ⟨name⟩ (start u))

pub clone_read : (s : Text) → starts s (71 ∷ 84 ∷ 116 ∷ []) ≡ true → reading ⟨encoding⟩ (start s) ≡ onto (after clone) (reading ⟨encoding⟩ (start (drop 3 s)))
clone_read s e = ap (λ (t : Text). reading ⟨encoding⟩ (start t)) (starts_is s (71 ∷ 84 ∷ 116 ∷ []) e) ∙ clone_is (drop 3 s)

pub guard_read : (s : Text) → starts s (71 ∷ 86 ∷ []) ≡ true → reading ⟨encoding⟩ (start s) ≡ onto (after guard) (reading ⟨name⟩ (start (drop 2 s)))
guard_read s e = ap (λ (t : Text). reading ⟨encoding⟩ (start t)) (starts_is s (71 ∷ 86 ∷ []) e) ∙ guard_is (drop 2 s)

abbrev pub typed : Text → Reader Text
typed w = labelled w (reading ⟨type⟩)

abbrev special : List (Row (Reader Text))
special = "GTt" ⇒ labelled clone (anew reading ⟨encoding⟩) ∷ "GV" ⇒ labelled guard (anew reading ⟨name⟩) ∷ thunks reading

abbrev unlabelled : Reader Text
unlabelled = by_code special (λ r. r) (function_or_data reading)

encoding_is : (σ : State) → reading ⟨encoding⟩ σ ≡ by_code labels (λ w. typed (b w)) unlabelled σ
unfolding production encoding encoding_with
encoding_is σ = reading_is ⟨encoding⟩ σ

label_read : (σ : State) → by_code labels (λ w. typed (b w)) unlabelled σ ≡ choose (find labels σ.rest) (λ q. typed (b q.0) (moved q.1 σ)) (unlabelled σ)
unfolding by_code onto choose go_to
label_read σ = through (find labels σ.rest)
  where
    through : (o : Option (String × Text)) → choose o (λ q v. onto (λ _. typed (b q.0)) (go_to q.1 v)) unlabelled σ ≡ choose o (λ q. typed (b q.0) (moved q.1 σ)) (unlabelled σ)
    through none = refl
    through (some q) = refl

label_is : {s : Text} {r : Returned (Bor Text)} → Labels s r
    → reading ⟨encoding⟩ (start s) ≡ choose (word_of r) (λ w. typed w (moved (drop 2 s) (start s))) (unlabelled (start s))
unfolding start
label_is {s} l = encoding_is (start s) ∙ label_read (start s) ∙ l.is (λ w u. typed w (moved u (start s))) (unlabelled (start s))

pub labelled_is : {s : Text} {w : Bor Text} → Labels s (Some w) → reading ⟨encoding⟩ (start s) ≡ typed w.now (moved (drop 2 s) (start s))
unfolding choose
labelled_is l = label_is l

pub unlabelled_is : {s : Text} → Labels s None → starts s (71 ∷ 84 ∷ 116 ∷ []) ≡ false → starts s (71 ∷ 86 ∷ []) ≡ false
    → reading ⟨encoding⟩ (start s) ≡ cases (thunks reading) (function_or_data reading) (start s)
unfolding choose by_code onto find b start if◌then◌otherwise◌
unlabelled_is l f h = label_is l ∙ rw (f, h)

-- ---------------------------------------------------------------- labels

starts_short : (t w : Text) → length t < length w → starts t w ≡ false
unfolding starts
starts_short t [] h = absurd (omega arith)
starts_short [] (y ∷ w) h = refl
starts_short (x ∷ t) (y ∷ w) h = ap (λ (q : Bool). eqb x y && q) (starts_short t w (omega arith)) ∙ and-false (eqb x y)
  where
    and-false : (q : Bool) → q && false ≡ false
    and-false true = refl
    and-false false = refl

find_short : (s : Text) (rows : Table) → T (all_of 2 rows) → length s < 2 → find rows s ≡ none
unfolding find all_of if◌then◌otherwise◌
find_short s [] h l = refl
find_short s ((k ⇒ w) ∷ rows) h l =
    let (p, q) = both (eqb (length (b k)) 2) (all_of 2 rows) h in
    let e = eqb→eq (length (b k)) 2 p in
    rw (starts_short s (b k) (omega arith)) (find_short s rows q l)

none_labels : {s : Text} → find labels s ≡ none → Labels s None
unfolding choose
none_labels e = record { is = λ f x. ap (λ (o : Option (String × Text)). choose o (λ q. f (b q.0) q.1) x) e; fits = tt; long = λ h. cc }

pub labels_short : (s : Text) → length s < 2 → Labels s None
unfolding all_of labels b
labels_short s l = none_labels (find_short s labels tt l)

pub labels_other : (s : Text) → 0 < length s → (get_or s 0 0 ≡ 84 → ⊥) → Labels s None
unfolding all_coded coded heads within holds b labels
labels_other s l h =
    let e = no_row_of (get_or s 0 0) (drop 1 s) labels (b "T") tt tt (rw (ne_eqb (get_or s 0 0) 84 h)) in
    none_labels (ap (find labels) (rest_some s 0 l) ∙ e)

pub labels_told : (s : Text) {y : ℕ} {r : Returned (Bor Text)} → 2 ≤ length s → get_or s 0 0 ≡ 84 → get_or s 1 0 ≡ y → Spells labels (b "T" ++ (y ∷ [])) r → Labels s r
unfolding all_of labels b
labels_told s {y} l h k g =
    let e : s ≡ 84 ∷ y ∷ drop 2 s = rest_some s 0 (omega arith) ∙ ap₂ (λ (x : ℕ) (t : Text). x ∷ t) h (rest_some s 1 (omega arith) ∙ ap (λ (x : ℕ). x ∷ drop 2 s) k) in
    record {
      is = λ f x.
          ap (λ (t : Text). choose (find labels t) (λ q. f (b q.0) q.1) x) e
          ∙ by_word (84 ∷ y ∷ []) (drop 2 s) f x labels tt
          ∙ ap (λ (o : Option Text). choose o (λ t. f t (drop 2 s)) x) (sym g.0);
      fits = g.1;
      long = λ _. l;
    }
