-- The reading one step at a time, each way by the test that leads there: what code that reads needs to know of the definition.
use Rattle.std.specs.Prelude.{◌≡◌, ℕ, ◌+◌, ◌<◌, ◌≤◌, Bool, true, false, ◌&&◌, ◌||◌, T, List, [], ◌∷◌, length, drop, ◌==◌, nat_eq, nat_lt, slice_index}
use Rattle.std.proofs.Common.{true≢false, ap, ◌∙◌, lt-ltb, le-ltb, eqb-true}
use Rattle.std.proofs.Math.Option.{Option, none, some}
use Rattle.std.proofs.Math.Path.{refl, subst⁻¹}
use Prim.Native.Char.{code}
use Prim.Native.String.{String}
use Rattle.grammar.specs.Text.{Text, b, if◌then◌otherwise◌, choose, starts, holds, run, past, between, digit, digit_value, number}
use Rattle.grammar.specs.Tables.{Row, ◌⇒◌, Table, letters, d_letters, wrappers}
use Rattle.grammar.specs.Reader.{State, Result, ok, refused, Reader, onto, go_to, set_depth, give, entered, find, word_for, by_code, at_code, eat, need, every}
use Rattle.grammar.specs.Grammar.{⟨source-name⟩, ⟨template-param⟩, reading}
use Rattle.grammar.specs.Grammar as g
use Rattle.grammar.specs.Laws.Agree.{moved, coded, all_coded}
use Rattle.grammar.specs.Laws.Text.{both, neither}
use Rattle.grammar.specs.Limits.{most_open}
use Rattle.grammar.specs.Laws.Fuel.{reading_is}
use Rattle.grammar.specs.Laws.Finds.{all_of, by_word}

-- the state with another depth
abbrev pub at_level : ℕ → State → State
at_level n σ = record { rest = σ.rest; subs = σ.subs; args = σ.args; depth = n; cv = σ.cv; templated = σ.templated }

-- ---------------------------------------------------------------- readings that are open

module _ (m : Reader Text) (σ : State) where
  pub entered_in : σ.depth < most_open → entered m σ ≡ onto (λ t u. ok t (at_level σ.depth u)) (m (at_level (σ.depth + 1) σ))
  unfolding entered onto set_depth if◌then◌otherwise◌
  entered_in h = rw (lt-ltb σ.depth most_open h)

  pub entered_8 : most_open ≤ σ.depth → entered m σ ≡ refused 8
  unfolding entered onto if◌then◌otherwise◌
  entered_8 h = rw (le-ltb σ.depth most_open h)

-- ---------------------------------------------------------------- words and codes

module _ {B : Type 0} (w : String) (m k : Reader B) (σ : State) where
  -- one code, which is left for its reader
  pub at_code_yes : starts σ.rest (b w) ≡ true → at_code (w ⇒ m ∷ []) k σ ≡ m σ
  unfolding at_code find onto choose if◌then◌otherwise◌
  at_code_yes h = rw h

  pub at_code_no : starts σ.rest (b w) ≡ false → at_code (w ⇒ m ∷ []) k σ ≡ k σ
  unfolding at_code find onto choose if◌then◌otherwise◌
  at_code_no h = rw h

module _ (w : String) (σ : State) where
  pub need_yes : starts σ.rest (b w) ≡ true → need w σ ≡ ok tt (moved (drop (length (b w)) σ.rest) σ)
  unfolding need eat onto go_to if◌then◌otherwise◌
  need_yes h = rw h

  pub need_no : starts σ.rest (b w) ≡ false → need w σ ≡ refused 4
  unfolding need eat onto if◌then◌otherwise◌
  need_no h = rw h

-- ---------------------------------------------------------------- by the bytes ahead

-- what holds before a text holds at the state that stands there
pub from_text : {A : Type 0} (f : Reader A) (σ : State) {t : Text} {x : Result A} → σ.rest ≡ t → f (moved t σ) ≡ x → f σ ≡ x
from_text f σ {t} {x} e h = subst⁻¹ (λ (u : Text). f (moved u σ) ≡ x) e h

pub same_from : {A : Type 0} (f k : Reader A) (σ : State) {t : Text} → σ.rest ≡ t → f (moved t σ) ≡ k (moved t σ) → f σ ≡ k σ
same_from f k σ {t} e h = subst⁻¹ (λ (u : Text). f (moved u σ) ≡ k (moved u σ)) e h

-- a word for a code of a table, and the text that it prints
module _ (rows : Table) (c : ℕ) (r : Text) (m : Reader Text) (σ : State) where
  pub by_one : T (all_of 1 rows) → by_code rows (λ w. give (b w)) m (moved (c ∷ r) σ) ≡ choose (word_for rows (c ∷ [])) (λ t. give t (moved r σ)) (m (moved (c ∷ r) σ))
  unfolding by_code onto choose go_to
  by_one h = through (find rows (c ∷ r)) ∙ by_word (c ∷ []) r (λ t u. give t (moved u σ)) (m (moved (c ∷ r) σ)) rows h
    where
      through : (o : Option (String × Text)) → choose o (λ q v. onto (λ _. give (b q.0)) (go_to q.1 v)) m (moved (c ∷ r) σ) ≡ choose o (λ q. give (b q.0) (moved q.1 σ)) (m (moved (c ∷ r) σ))
      through none = refl
      through (some q) = refl

-- ---------------------------------------------------------------- types

-- the first bytes of a table's codes
unfoldable pub heads : {A : Type 0} → List (Row A) → Text
heads [] = []
heads ((w ⇒ x) ∷ rows) = slice_index (b w) 0 ∷ heads rows

-- each byte of the first text is one of the second
unfoldable pub within : Text → Text → Bool
within [] l = true
within (y ∷ m) l = holds y l && within m l

module _ (c : ℕ) where
  other_of : (q : Bool) (y x : ℕ) (l : Text) → (y == x) ≡ q → T (q || holds y l) → (c == x) ≡ false → (T (holds y l) → (c == y) ≡ false) → (c == y) ≡ false
  other_of true y x l f h e k = ap (nat_eq c) (eqb-true y x f) ∙ e
  other_of false y x l f h e k = k h

  other : (y : ℕ) (l : Text) → T (holds y l) → holds c l ≡ false → (c == y) ≡ false
  unfolding holds
  other y [] h e = absurd h
  other y (x ∷ l) h e =
      let (i, j) = neither (c == x) (holds c l) e in
      other_of (y == x) y x l refl h i (λ k. other y l k j)

  pub none_within : (m l : Text) → T (within m l) → holds c l ≡ false → holds c m ≡ false
  unfolding within holds
  none_within [] l h e = refl
  none_within (y ∷ m) l h e =
      let (p, q) = both (holds y l) (within m l) h in
      rw (other y l p e) (none_within m l q e)

  no_code : (r w : Text) → T (nat_lt 0 (length w)) → (c == slice_index w 0) ≡ false → starts (c ∷ r) w ≡ false
  unfolding starts
  no_code r [] h e = absurd h
  no_code r (y ∷ w) h e = rw e

  -- a byte that begins no code
  pub no_row : {A : Type 0} (r : Text) (rows : List (Row A)) → T (all_coded rows) → holds c (heads rows) ≡ false → find rows (c ∷ r) ≡ none
  unfolding find all_coded coded heads holds if◌then◌otherwise◌
  no_row r [] h e = refl
  no_row r ((w ⇒ x) ∷ rows) h e =
      let (p, q) = both (coded w) (all_coded rows) h in
      let (i, j) = neither (c == slice_index (b w) 0) (holds c (heads rows)) e in
      rw (no_code r (b w) p i) (no_row r rows q j)

  pub no_row_of : {A : Type 0} (r : Text) (rows : List (Row A)) (l : Text) → T (all_coded rows) → T (within (heads rows) l) → holds c l ≡ false → find rows (c ∷ r) ≡ none
  no_row_of r rows l p q h = no_row r rows p (none_within (heads rows) l q h)

module _ {A B : Type 0} (rows : List (Row A)) (f : A → Reader B) (m : Reader B) (σ : State) where
  pub by_code_none : find rows σ.rest ≡ none → by_code rows f m σ ≡ m σ
  unfolding by_code onto choose
  by_code_none h = rw h

pub at_code_none : {B : Type 0} (rows : List (Row (Reader B))) (m : Reader B) (σ : State) → find rows σ.rest ≡ none → at_code rows m σ ≡ m σ
unfolding at_code onto choose
at_code_none rows m σ h = rw h

-- no digit stands ahead
pub no_name : (t : Text) (σ : State) → g.digit_ahead t ≡ false → reading ⟨source-name⟩ (moved t σ) ≡ refused 4
unfolding g.production g.source_name g.digit_ahead every onto go_to run past number if◌then◌otherwise◌
no_name [] σ h = reading_is ⟨source-name⟩ (moved [] σ)
no_name (c ∷ t) σ h = reading_is ⟨source-name⟩ (moved (c ∷ t) σ) ∙ rw h

-- the bytes that begin a type, but for letters and digits
abbrev pub type_heads : Text
type_heads = b "DPROKVCrFAMuNTS"

module _ (c : ℕ) (r : Text) (σ : State) where
  pub inner_class : find letters (c ∷ r) ≡ none → holds c type_heads ≡ false → g.type_inner reading (moved (c ∷ r) σ) ≡ g.class_type reading (moved (c ∷ r) σ)
  unfolding g.type_inner all_coded coded heads within holds b d_letters wrappers
  inner_class l h =
      by_code_none _ _ _ _ l
      ∙ by_code_none _ _ _ _ (no_row_of c r d_letters type_heads tt tt h)
      ∙ by_code_none _ _ _ _ (no_row_of c r wrappers type_heads tt tt h)
      ∙ by_code_none _ _ _ _ (no_row_of c r _ type_heads tt tt h)
      ∙ at_code_none _ _ _ (no_row_of c r _ type_heads tt tt h)

module _ {A B : Type 0} (rows : List (Row A)) (f : A → Reader B) (m : Reader B) (σ : State) where
  pub by_code_some : (x : A) (t : Text) → find rows σ.rest ≡ some (x, t) → by_code rows f m σ ≡ f x (moved t σ)
  unfolding by_code onto choose go_to
  by_code_some x t h = rw h

nothing_there : {A : Type 0} (o : Option A) → choose o (λ _. true) false ≡ false → o ≡ none
unfolding choose
nothing_there none h = refl
nothing_there (some x) h = absurd (true≢false h)

-- no row of a table has the byte for its code
pub no_word : (rows : Table) (c : ℕ) (r : Text) → T (all_of 1 rows) → word_for rows (c ∷ []) ≡ none → find rows (c ∷ r) ≡ none
unfolding choose
no_word rows c r h e =
    nothing_there (find rows (c ∷ r)) (by_word (c ∷ []) r (λ _ _. true) false rows h ∙ ap (λ (o : Option Text). choose o (λ _. true) false) e)

pub class_type_4 : (t : Text) (σ : State) → g.digit_ahead t ≡ false → g.class_type reading (moved t σ) ≡ refused 4
unfolding g.class_type onto
class_type_4 t σ h = rw (no_name t σ h)

module _ (c : ℕ) (r : Text) (σ : State) where
  pub inner_letter : (w : Text) → word_for letters (c ∷ []) ≡ some w → g.type_inner reading (moved (c ∷ r) σ) ≡ give w (moved r σ)
  unfolding g.type_inner choose all_of letters b
  inner_letter w h = by_one letters c r _ σ tt ∙ rw h

  pub inner_wrapper :
      (u : String × String) → find letters (c ∷ r) ≡ none → (c == 68) ≡ false → find wrappers (c ∷ r) ≡ some (u, r) →
      g.type_inner reading (moved (c ∷ r) σ) ≡ g.wrapped reading u (moved r σ)
  unfolding g.type_inner all_coded coded heads within holds b d_letters
  inner_wrapper u l e h =
      by_code_none _ _ _ _ l
      ∙ by_code_none _ _ _ _ (no_row_of c r d_letters (b "D") tt tt (rw e))
      ∙ by_code_some _ _ _ _ u r h

  pub inner_4 : find letters (c ∷ r) ≡ none → holds c type_heads ≡ false → digit 10 c ≡ false → g.type_inner reading (moved (c ∷ r) σ) ≡ refused 4
  unfolding g.digit_ahead
  inner_4 l h e = inner_class c r σ l h ∙ class_type_4 (c ∷ r) σ e

module _ (r : Text) (σ : State) where
  pub inner_end : g.type_inner reading (moved [] σ) ≡ refused 4
  unfolding g.type_inner by_code at_code find onto choose letters d_letters wrappers starts b if◌then◌otherwise◌ g.digit_ahead
  inner_end = class_type_4 [] σ refl

  pub inner_A : g.type_inner reading (moved (code "A" ∷ r) σ) ≡ g.array_type reading (moved r σ)
  unfolding g.type_inner by_code find onto choose go_to letters d_letters wrappers starts b if◌then◌otherwise◌
  inner_A = refl

  pub inner_F : g.type_inner reading (moved (code "F" ∷ r) σ) ≡ g.function_type reading (moved r σ)
  unfolding g.type_inner by_code find onto choose go_to letters d_letters wrappers starts b if◌then◌otherwise◌
  inner_F = refl

  pub inner_M : g.type_inner reading (moved (code "M" ∷ r) σ) ≡ g.pointer_to_member_type reading (moved r σ)
  unfolding g.type_inner by_code find onto choose go_to letters d_letters wrappers starts b if◌then◌otherwise◌
  inner_M = refl

  pub inner_u : g.type_inner reading (moved (code "u" ∷ r) σ) ≡ reading ⟨source-name⟩ (moved r σ)
  unfolding g.type_inner by_code find onto choose go_to letters d_letters wrappers starts b if◌then◌otherwise◌
  inner_u = refl

  pub inner_N : g.type_inner reading (moved (code "N" ∷ r) σ) ≡ g.nested_type reading (moved (code "N" ∷ r) σ)
  unfolding g.type_inner by_code at_code find onto choose go_to letters d_letters wrappers starts b if◌then◌otherwise◌
  inner_N = refl

  pub inner_T : g.type_inner reading (moved (code "T" ∷ r) σ) ≡ reading ⟨template-param⟩ (moved (code "T" ∷ r) σ)
  unfolding g.type_inner by_code at_code find onto choose go_to letters d_letters wrappers starts b if◌then◌otherwise◌
  inner_T = refl

  pub inner_S : g.type_inner reading (moved (code "S" ∷ r) σ) ≡ g.s_type reading (moved (code "S" ∷ r) σ)
  unfolding g.type_inner by_code at_code find onto choose go_to letters d_letters wrappers starts b if◌then◌otherwise◌
  inner_S = refl

  pub inner_D : g.type_inner reading (moved (code "D" ∷ r) σ) ≡ by_code d_letters (λ w. give (b w)) (λ _. refused 4) (moved (code "D" ∷ r) σ)
  unfolding g.type_inner by_code at_code find onto choose go_to letters wrappers starts b if◌then◌otherwise◌ g.digit_ahead digit digit_value between
  inner_D = through (find d_letters (code "D" ∷ r)) _ (class_type_4 (code "D" ∷ r) σ refl)
    where
      told : Option (String × Text) → Reader Text → Reader Text
      told o m = choose o (λ q v. onto (λ _. give (b q.0)) (go_to q.1 v)) m

      through :
          (o : Option (String × Text)) (m : Reader Text) →
          m (moved (code "D" ∷ r) σ) ≡ refused 4 →
          told o m (moved (code "D" ∷ r) σ) ≡ told o (λ _. refused 4) (moved (code "D" ∷ r) σ)
      through none m h = h
      through (some q) m h = refl
