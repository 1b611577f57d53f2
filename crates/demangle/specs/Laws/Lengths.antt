-- A name has at most 16,384 bytes. So with an output slice of that length the entry for names gives what the definition gives.
-- Assumes nothing.
use Rattle.std.specs.Prelude.{Bool, true, false, [], ◌∷◌, ◌++◌, ◌≡◌, refl, ℕ, suc, ◌≤◌, eqb, leb, length}
use Rattle.std.proofs.Math.Option.{Option, none, some}
use Rattle.std.proofs.Common.{sym, ap, ◌∙◌, subst, arith, le-leb, leb-true}
use Rattle.grammar.specs.Text.{Text, if◌then◌otherwise◌, choose, each}
use Rattle.grammar.specs.Limits.{most_symbol_bytes, most_text_bytes}
use Rattle.grammar.specs.Tables.{labels}
use Rattle.grammar.specs.Reader.{State, Result, ok, refused, Reader, onto, refuse, give, find, by_code, start}
use Rattle.grammar.specs.Grammar.{Production, ⟨encoding⟩, reading, encoding, encoding_with, thunks, function_or_data, production, ended, slot}
use Rattle.grammar.specs.Laws.Fuel.{reading_is}
use Rattle.grammar.specs.Names.{Answer, named, refusal, without_slots, finished, mangled_name, front, demangle, work_fits, within, answer, length_of}
use Rattle.answer.specs.Told.{Slices, lent}

-- ---------------------------------------------------------------- an encoding's text

data Short : Result Text → Type 0 where
  short : {t : Text} {s : State} → length t ≤ most_text_bytes → Short (ok t s)
  none_read : {r : ℕ} → Short (refused r)

give_short : (t : Text) (s : State) → Short (give t s)
unfolding give if◌then◌otherwise◌
give_short t s = go (leb (length t) most_text_bytes) refl where
  go : (q : Bool) → leb (length t) most_text_bytes ≡ q → Short (if◌then◌otherwise◌ {A = Reader Text} q (λ u. ok t u) (refuse 11) s)
  go true e = short (leb-true (length t) most_text_bytes e)
  go false e = none_read

onto_short : {A : Type 0} (q : Result A) (f : A → Reader Text) → ((x : A) (s : State) → Short (f x s)) → Short (onto f q)
unfolding onto
onto_short (ok x s) f h = h x s
onto_short (refused r) f h = none_read

if_short : (q : Bool) (f g : Reader Text) (s : State) → Short (f s) → Short (g s) → Short ((if q then f otherwise g) s)
unfolding if◌then◌otherwise◌
if_short true f g s h k = h
if_short false f g s h k = k

choose_short : {A : Type 0} (x : Option A) (f : A → Reader Text) (m : Reader Text) (s : State) → ((y : A) → Short (f y s)) → Short (m s) → Short (choose x f m s)
unfolding choose
choose_short (some y) f m s h k = h y
choose_short none f m s h k = k

-- the first row, or another
row_short : {A : Type 0} (q : Bool) (y : A) (x : Option A) (f : A → Reader Text) (m : Reader Text) (s : State)
    → Short (f y s) → Short (choose x f m s) → Short (choose (if q then some y otherwise x) f m s)
unfolding choose if◌then◌otherwise◌
row_short true y x f m s h k = h
row_short false y x f m s h k = k

module _ (read : Production → Reader Text) where
  function_short : (s : State) → Short (function_or_data read s)
  unfolding function_or_data
  function_short s =
      onto_short _ _ λ n u.
      onto_short _ _ λ q v.
      onto_short _ _ λ _ w.
      onto_short _ _ λ t x.
      if_short (ended t) _ _ x (give_short _ x)
      (onto_short _ _ λ templated y. onto_short _ _ λ r z. onto_short _ _ λ ps a. give_short _ a)

  encoding_short : (s : State) → Short (encoding read s)
  unfolding encoding encoding_with thunks by_code find choose
  encoding_short s =
      onto_short _ _ λ t u.
      choose_short (find labels t) _ _ u (λ r. onto_short _ _ λ _ v. onto_short _ _ λ x w. give_short _ w)
      (onto_short _ _ λ t v.
      row_short _ _ _ _ _ v (onto_short _ _ λ _ w. onto_short _ _ λ x y. give_short _ y)
      (row_short _ _ _ _ _ v (onto_short _ _ λ _ w. onto_short _ _ λ x y. give_short _ y)
      (row_short _ _ _ _ _ v (onto_short _ _ λ _ w. onto_short _ _ λ _ z. onto_short _ _ λ x y. give_short _ y)
      (row_short _ _ _ _ _ v (onto_short _ _ λ _ w. onto_short _ _ λ _ z. onto_short _ _ λ _ a. onto_short _ _ λ x y. give_short _ y) (function_short v)))))

reading_short : (s : State) → Short (reading ⟨encoding⟩ s)
unfolding production
reading_short s = subst Short (sym (reading_is ⟨encoding⟩ s)) (encoding_short reading s)

-- ---------------------------------------------------------------- a name

fewer : (t : Text) → length (without_slots t) ≤ length t
unfolding without_slots each if◌then◌otherwise◌
fewer [] = omega arith
fewer (x ∷ t) = go (eqb x slot) (fewer t) where
  go : (q : Bool) → length (without_slots t) ≤ length t → length (if◌then◌otherwise◌ {A = Text} q [] (x ∷ []) ++ without_slots t) ≤ suc (length t)
  go true h = omega arith
  go false h = omega arith

data Fits : Answer → Type 0 where
  fits : {t : Text} → length t ≤ most_text_bytes → Fits (named t)
  no_name : {r : ℕ} → Fits (refusal r)

finished_fits : (r : Result Text) → Short r → Fits (finished r)
unfolding finished if◌then◌otherwise◌
finished_fits (ok t s) (short h) = go (ended s.rest) where
  go : (q : Bool) → Fits (if q then named (without_slots t) otherwise refusal 5)
  go true = fits {t = without_slots t} (omega (arith, fewer t, h))
  go false = no_name
finished_fits (refused r) none_read = no_name

mangled_fits : (t : Text) → Fits (mangled_name t)
unfolding mangled_name
mangled_fits t = finished_fits (reading ⟨encoding⟩ (start t)) (reading_short (start t))

if_fits : (q : Bool) (x y : Answer) → Fits x → Fits y → Fits (if q then x otherwise y)
unfolding if◌then◌otherwise◌
if_fits true x y h k = h
if_fits false x y h k = k

choose_fits : {A : Type 0} (x : Option A) (f : A → Answer) (m : Answer) → ((y : A) → Fits (f y)) → Fits m → Fits (choose x f m)
unfolding choose
choose_fits (some y) f m h k = h y
choose_fits none f m h k = k

demangle_fits : (limit : ℕ) (t : Text) → Fits (demangle limit t)
unfolding demangle front
demangle_fits limit t = if_fits _ _ _ no_name (if_fits _ _ _ no_name (choose_fits _ _ _ (λ r. mangled_fits r.1) no_name))

short_length : (a : Answer) → Fits a → length_of a ≤ most_text_bytes
unfolding length_of
short_length (named t) (fits h) = h
short_length (refusal r) no_name = omega arith

pub short_answer : (s : Text) → length_of (demangle most_symbol_bytes s) ≤ most_text_bytes
short_answer s = short_length (demangle most_symbol_bytes s) (demangle_fits most_symbol_bytes s)

-- ---------------------------------------------------------------- the entry for names

pub within_is : (n : ℕ) (a : Answer) → length_of a ≤ n → within n a ≡ a
unfolding within length_of if◌then◌otherwise◌
within_is n (named t) h = rw (le-leb (length t) n h)
within_is n (refusal r) h = refl

pub answer_is : (l : Slices) (s : Text) → most_text_bytes ≤ length l.out → work_fits (lent l) ≡ true → answer most_symbol_bytes (lent l) s ≡ demangle most_symbol_bytes s
unfolding answer demangle if◌then◌otherwise◌
answer_is l s h k = ap (front most_symbol_bytes s) (λ i u. step u i) where
  step : (u : Text) → (if work_fits (lent l) then within (length l.out) (mangled_name u) otherwise refusal 14) ≡ mangled_name u
  step u =
      ap (λ (q : Bool). if q then within (length l.out) (mangled_name u) otherwise refusal 14) k
      ∙ within_is (length l.out) (mangled_name u) (omega (arith, short_length (mangled_name u) (mangled_fits u)))
