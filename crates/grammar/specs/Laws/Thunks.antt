-- Document 02, T-01: "Every symbol accepted before keeps its answer." The definition without the rows of thunks stands beside the definition with
-- them: an answer is the same, or it was 4 and the symbol begins, behind its front and its GTt, with Th or Tv. Assumes nothing.
use Rattle.std.specs.Prelude.{◌≡◌, ℕ, zero, suc, ◌+◌, ◌*◌, ◌≤◌, Bool, true, false, ltb, ◌⊎◌, List, [], ◌∷◌, ◌++◌, length, drop, nat_lt}
use Rattle.std.proofs.Common.{inl, inr, sym, ap, ◌∙◌, arith}
use Rattle.std.proofs.Math.Option.{Option, none, some}
use Rattle.std.proofs.Math.Path.{refl, subst, fun_ext}
use Prim.Native.String.{String}
use Rattle.grammar.specs.Text.{Text, b, if◌then◌otherwise◌, choose, starts, holds, digit, digit_value}
use Rattle.grammar.specs.Limits.{most_open}
use Rattle.grammar.specs.Tables.{Row, ◌⇒◌, labels, operators}
use Rattle.grammar.specs.Reader.{State, Result, ok, refused, Reader, onto, ◌>>=◌, ◌>>◌, give, go_to, start, the, find, by_code, cases, any, entered, set_depth}
use Rattle.grammar.specs.Grammar.{Production, ⟨encoding⟩, ⟨name⟩, ⟨nested-name⟩, ⟨unqualified-name⟩, ⟨source-name⟩, ⟨operator-name⟩, ⟨type⟩}
use Rattle.grammar.specs.Grammar.{⟨template-param⟩, ⟨template-args⟩, ⟨template-arg⟩, ⟨expr-primary⟩, ⟨substitution⟩, parse, reading}
use Rattle.grammar.specs.Grammar as g
use Rattle.grammar.specs.Names.{Answer, named, refusal, Lent, finished, mangled_name, high, front, demangle, answer, work_fits, within}
use Rattle.grammar.specs.Laws.Productions.{productions}
use Rattle.grammar.specs.Laws.Text.{starts_is}
use Rattle.grammar.specs.Laws.Agree.{moved}
use Rattle.grammar.specs.Laws.Steps.{at_level}
use Rattle.grammar.specs.Laws.NameSteps.{name_other, unqualified_operator}
use Rattle.grammar.specs.Laws.Fuel.{reading_is, name_fuelled}

-- ---------------------------------------------------------------- the definition without thunks

-- a value of its own for encodings, and f's for the other productions
unfoldable pub instead : {A : Type 0} → A → (Production → A) → Production → A
instead x f ⟨encoding⟩ = x
instead x f ⟨name⟩ = f ⟨name⟩
instead x f ⟨nested-name⟩ = f ⟨nested-name⟩
instead x f ⟨unqualified-name⟩ = f ⟨unqualified-name⟩
instead x f ⟨source-name⟩ = f ⟨source-name⟩
instead x f ⟨operator-name⟩ = f ⟨operator-name⟩
instead x f ⟨type⟩ = f ⟨type⟩
instead x f ⟨template-param⟩ = f ⟨template-param⟩
instead x f ⟨template-args⟩ = f ⟨template-args⟩
instead x f ⟨template-arg⟩ = f ⟨template-arg⟩
instead x f ⟨expr-primary⟩ = f ⟨expr-primary⟩
instead x f ⟨substitution⟩ = f ⟨substitution⟩

-- the productions read with so much fuel, the encoding without the rows of thunks
unfoldable pub parse_without : ℕ → Production → Reader Text
parse_without zero k s = refused 0
parse_without (suc n) k s = instead (g.encoding_with (parse_without n) []) (g.production (parse_without n)) k s

unfoldable pub mangled_without : Text → Answer
mangled_without t = finished (parse_without (4 * suc (length t)) ⟨encoding⟩ (start t))

unfoldable pub demangle_without : ℕ → Text → Answer
demangle_without limit t = front limit t mangled_without

unfoldable pub answer_without : ℕ → Lent → Text → Answer
answer_without limit l t = front limit t λ u. if work_fits l then within l.out (mangled_without u) otherwise refusal 14

-- ---------------------------------------------------------------- what is promised

-- Th or Tv stands behind any number of GTt
pub data Thunk : Text → Type 0 where
  non_virtual : (t : Text) → Thunk (b "Th" ++ t)
  virtual : (t : Text) → Thunk (b "Tv" ++ t)
  clone : {t : Text} → Thunk t → Thunk (b "GTt" ++ t)

-- and the front of a symbol before it
pub data ThunkSymbol : Text → Type 0 where
  behind_Z : {t : Text} → Thunk t → ThunkSymbol (b "_Z" ++ t)
  behind-◌Z : {t : Text} → Thunk t → ThunkSymbol (b "__Z" ++ t)

-- an answer without thunks and one with them: they are the same, or P holds where there was a 4
pub data Kept {A : Type 0} (P : Type 0) (four : A) : A → A → Type 0 where
  same : {x : A} → Kept P four x x
  new : {x : A} → P → Kept P four four x

pub kept_by : {A B P Q : Type 0} {four x y : A} (f : A → B) → (P → Q) → Kept P four x y → Kept Q (f four) (f x) (f y)
kept_by f h same = same
kept_by f h (new p) = new (h p)

pub if_kept : {A P : Type 0} {four x y : A} (z : A) (q : Bool) → Kept P four x y → Kept P four (if q then x otherwise z) (if q then y otherwise z)
unfolding if◌then◌otherwise◌
if_kept z true h = h
if_kept z false h = same

-- ---------------------------------------------------------------- no other production reads an encoding

either : (x : Reader Text) (read : Production → Reader Text) (d : Bool) →
    instead x read (if d then ⟨source-name⟩ otherwise ⟨operator-name⟩) ≡ read (if d then ⟨source-name⟩ otherwise ⟨operator-name⟩)
unfolding instead if◌then◌otherwise◌
either x read true = refl
either x read false = refl

-- an unqualified name with another way to read a source name or an operator
unfoldable unqualified : Reader Text → (Bool → Reader Text) → Reader Text
unqualified r f = cases
    ("C" ⇒ (do any; give (b "{ctor}")) ∷ "D" ⇒ (do any; give (b "{dtor}")) ∷ "U" ⇒ g.unnamed_type_name ∷ "L" ⇒ r ∷ [])
    (do d ← the λ s. g.digit_ahead s.rest; f d)

others : (x y : Reader Text) (read : Production → Reader Text) (k : Production) → instead y (g.production (instead x read)) k ≡ instead y (g.production read) k
unfolding instead unqualified productions
others x y read ⟨encoding⟩ = refl
others x y read ⟨name⟩ = refl
others x y read ⟨nested-name⟩ = refl
others x y read ⟨unqualified-name⟩ = ap (unqualified (read ⟨unqualified-name⟩)) (fun_ext (either x read))
others x y read ⟨source-name⟩ = refl
others x y read ⟨operator-name⟩ = refl
others x y read ⟨type⟩ = refl
others x y read ⟨template-param⟩ = refl
others x y read ⟨template-args⟩ = refl
others x y read ⟨template-arg⟩ = refl
others x y read ⟨expr-primary⟩ = refl
others x y read ⟨substitution⟩ = refl

-- so without thunks they read as they do with them
own : {A : Type 0} (f : Production → A) (k : Production) → f k ≡ instead (f ⟨encoding⟩) f k
unfolding instead
own f ⟨encoding⟩ = refl
own f ⟨name⟩ = refl
own f ⟨nested-name⟩ = refl
own f ⟨unqualified-name⟩ = refl
own f ⟨source-name⟩ = refl
own f ⟨operator-name⟩ = refl
own f ⟨type⟩ = refl
own f ⟨template-param⟩ = refl
own f ⟨template-args⟩ = refl
own f ⟨template-arg⟩ = refl
own f ⟨expr-primary⟩ = refl
own f ⟨substitution⟩ = refl

without_is : (n : ℕ) → parse_without n ≡ instead (parse_without n ⟨encoding⟩) (parse n)
unfolding parse_without parse instead
without_is zero = fun_ext (own (parse zero))
without_is (suc n) = fun_ext λ k. ap (λ (read : Production → Reader Text). instead (parse_without (suc n) ⟨encoding⟩) (g.production read) k) (without_is n) ∙ others _ _ (parse n) k

-- ---------------------------------------------------------------- no name begins with Th or Tv

module _ (c : ℕ) (t : Text) (σ : State) (no_operator : (τ : State) → reading ⟨operator-name⟩ (moved (84 ∷ c ∷ t) τ) ≡ refused 4) where
  no_name_inner : (τ : State) → g.name_inner reading (moved (84 ∷ c ∷ t) τ) ≡ refused 4
  unfolding g.unscoped_name onto holds digit digit_value if◌then◌otherwise◌ b
  no_name_inner τ = name_other (c ∷ t) τ 84 refl ∙ rw (unqualified_operator 84 (c ∷ t) τ refl refl ∙ no_operator τ)

  no_name : ltb σ.depth most_open ≡ true → reading ⟨name⟩ (moved (84 ∷ c ∷ t) σ) ≡ refused 4
  unfolding g.production g.name entered onto set_depth if◌then◌otherwise◌
  no_name e = reading_is ⟨name⟩ (moved (84 ∷ c ∷ t) σ) ∙ rw (e, no_name_inner (at_level (σ.depth + 1) σ))

module _ (n : ℕ) (t : Text) where
  abbrev Refused : ℕ → Type 0
  Refused c = 4 * suc (length t + 2) ≤ suc n → g.function_or_data (parse n) (start (84 ∷ c ∷ t)) ≡ refused 4

  no_function : (c : ℕ) → ((τ : State) → reading ⟨operator-name⟩ (moved (84 ∷ c ∷ t) τ) ≡ refused 4) → Refused c
  unfolding g.function_or_data onto start
  no_function c h l = rw (name_fuelled n (start (84 ∷ c ∷ t)) (omega (arith, l)) ∙ no_name c t (start []) h refl)

  no_function_h : Refused 104
  unfolding g.production g.operator_name by_code find onto choose operators starts b if◌then◌otherwise◌
  no_function_h = no_function 104 λ τ. reading_is ⟨operator-name⟩ (moved (84 ∷ 104 ∷ t) τ)

  no_function_v : Refused 118
  unfolding g.production g.operator_name by_code find onto choose operators starts b if◌then◌otherwise◌
  no_function_v = no_function 118 λ τ. reading_is ⟨operator-name⟩ (moved (84 ∷ 118 ∷ t) τ)

-- ---------------------------------------------------------------- rows

abbrev Rows : Type 0
Rows = List (Row (Reader Text))

-- the rows without thunks and those with them, and the readers where no code stands
data Beside (P : Type 0) (four : Result Text) (s : State) (m m' : Reader Text) : Rows → Rows → Type 0 where
  end : Kept P four (m s) (m' s) → Beside P four s m m' [] []
  row : {w : String} {f f' : Reader Text} {l l' : Rows} →
      (starts s.rest (b w) ≡ true → Kept P four (f (moved (drop (length (b w)) s.rest) s)) (f' (moved (drop (length (b w)) s.rest) s))) →
      Beside P four s m m' l l' → Beside P four s m m' ((w ⇒ f) ∷ l) ((w ⇒ f') ∷ l')
  new_row : {w : String} {f : Reader Text} {l : Rows} →
      (starts s.rest (b w) ≡ true → Kept P four (m s) (f (moved (drop (length (b w)) s.rest) s))) →
      Beside P four s m m' [] l → Beside P four s m m' [] ((w ⇒ f) ∷ l)

-- the same table before both
table_kept : {A P : Type 0} {four : Result Text} (f : A → Reader Text) (o : Option (A × Text)) (m m' : Reader Text) (s : State) → Kept P four (m s) (m' s) →
    Kept P four (choose o (λ r. λ u. onto (λ _. f r.0) (go_to r.1 u)) m s) (choose o (λ r. λ u. onto (λ _. f r.0) (go_to r.1 u)) m' s)
unfolding choose
table_kept f none m m' s h = h
table_kept f (some r) m m' s h = same

module _ {P : Type 0} {four : Result Text} {s : State} {m m' : Reader Text} where
  rows_kept : {l l' : Rows} → Beside P four s m m' l l' → Kept P four (cases l m s) (cases l' m' s)
  unfolding by_code find onto choose go_to if◌then◌otherwise◌
  rows_kept (end h) = h
  rows_kept (row {w} {f} {f'} {l} {l'} h k) = go (starts s.rest (b w)) refl (rows_kept k)
    where
      read : Bool → Reader Text → Rows → Reader Text → Result Text
      read q f l m = choose (if q then some (f, drop (length (b w)) s.rest) otherwise find l s.rest) (λ r. λ u. onto (λ _. r.0) (go_to r.1 u)) m s

      go : (q : Bool) → starts s.rest (b w) ≡ q → Kept P four (cases l m s) (cases l' m' s) → Kept P four (read q f l m) (read q f' l' m')
      go true e i = h e
      go false e i = i
  rows_kept (new_row {w} {f} {l} h k) = go (starts s.rest (b w)) refl (rows_kept k)
    where
      read : Bool → Result Text
      read q = choose (if q then some (f, drop (length (b w)) s.rest) otherwise find l s.rest) (λ r. λ u. onto (λ _. r.0) (go_to r.1 u)) m' s

      go : (q : Bool) → starts s.rest (b w) ≡ q → Kept P four (m s) (cases l m' s) → Kept P four (m s) (read q)
      go true e i = h e
      go false e i = i

-- ---------------------------------------------------------------- encodings

module _ (n : ℕ) (x : Reader Text) (t : Text) where
  -- without thunks, behind a GTt in front
  abbrev clone_before : Reader Text
  clone_before = g.labelled (b "transaction clone for ") (g.anew (instead x (parse n)) ⟨encoding⟩)

  clone_kept : (u : Text) → t ≡ b "GTt" ++ u → Kept (Thunk u) (refused 4) (x (start u)) (parse n ⟨encoding⟩ (start u)) →
      Kept (Thunk t) (refused 4) (clone_before (moved u (start t))) (g.labelled (b "transaction clone for ") (g.anew (parse n) ⟨encoding⟩) (moved u (start t)))
  unfolding g.anew instead onto start
  clone_kept u e h =
      kept_by (λ (r : Result Text). onto (λ v. give (b "transaction clone for " ++ v)) (onto (λ v _. onto (λ _. λ z. ok v z) (go_to [] (moved u (start t)))) r))
      (λ p. subst Thunk (sym e) (clone p)) h

  -- what begins with T and h or v was no function and no data
  thunk_new : {r : Result Text} (c : ℕ) → 4 * suc (length t) ≤ suc n → Thunk (84 ∷ c ∷ drop 2 t) → Refused n (drop 2 t) c → starts t (84 ∷ c ∷ []) ≡ true →
      Kept (Thunk t) (refused 4) (g.function_or_data (parse n) (start t)) r
  thunk_new {r} c l p h e =
      let i = starts_is t (84 ∷ c ∷ []) e in
      let k = h (omega (arith, l, ap length i)) in
      subst (λ (u : Text). Kept (Thunk u) (refused 4) (g.function_or_data (parse n) (start u)) r) (sym i)
      (subst (λ (f : Result Text). Kept (Thunk (84 ∷ c ∷ drop 2 t)) (refused 4) f r) (sym k) (new p))

  encoding_kept : 4 * suc (length t) ≤ suc n → ((u : Text) → t ≡ b "GTt" ++ u → Kept (Thunk u) (refused 4) (x (start u)) (parse n ⟨encoding⟩ (start u))) →
      Kept (Thunk t) (refused 4) (g.encoding_with (instead x (parse n)) [] (start t)) (g.encoding (parse n) (start t))
  unfolding g.encoding g.encoding_with g.thunks g.function_or_data g.bare_function_type g.anew by_code onto instead start b
  encoding_kept l below = table_kept (λ w. g.labelled (b w) (parse n ⟨type⟩)) (find labels t) _ _ (start t) (rows_kept special)
    where
      special : Beside (Thunk t) (refused 4) (start t) (g.function_or_data (instead x (parse n))) (g.function_or_data (parse n))
          ("GTt" ⇒ clone_before ∷ "GV" ⇒ g.labelled (b "guard variable for ") (g.anew (instead x (parse n)) ⟨name⟩) ∷ [])
          ("GTt" ⇒ g.labelled (b "transaction clone for ") (g.anew (parse n) ⟨encoding⟩) ∷ "GV" ⇒ g.labelled (b "guard variable for ") (g.anew (parse n) ⟨name⟩) ∷ g.thunks (parse n))
      special =
          row (λ e. let i = starts_is t (b "GTt") e in clone_kept (drop 3 t) i (below (drop 3 t) i))
          (row (λ _. same)
          (new_row (thunk_new 104 l (non_virtual (drop 2 t)) (no_function_h n (drop 2 t)))
          (new_row (thunk_new 118 l (virtual (drop 2 t)) (no_function_v n (drop 2 t))) (end same))))

keeps : (n : ℕ) (t : Text) → 4 * suc (length t) ≤ n → Kept (Thunk t) (refused 4) (parse_without n ⟨encoding⟩ (start t)) (parse n ⟨encoding⟩ (start t))
unfolding parse_without parse g.production instead b
keeps zero t h = absurd (omega arith)
keeps (suc n) t h =
    subst (λ (read : Production → Reader Text). Kept (Thunk t) (refused 4) (g.encoding_with read [] (start t)) (g.encoding (parse n) (start t))) (sym (without_is n))
    (encoding_kept n (parse_without n ⟨encoding⟩) t h (λ u e. keeps n u (omega (arith, h, ap length e))))

-- ---------------------------------------------------------------- answers

pub mangled_kept : (t : Text) → Kept (Thunk t) (refusal 4) (mangled_without t) (mangled_name t)
unfolding mangled_without mangled_name reading finished start
mangled_kept t = kept_by finished (λ p. p) (keeps (4 * suc (length t)) t (omega arith))

pub front_kept : (limit : ℕ) (t : Text) (f f' : Text → Answer) → ((u : Text) → Kept (Thunk u) (refusal 4) (f u) (f' u)) → Kept (ThunkSymbol t) (refusal 4) (front limit t f) (front limit t f')
unfolding front find choose if◌then◌otherwise◌ b
front_kept limit t f f' h = long (nat_lt limit (length t)) (high t) (starts t (b "_Z")) refl (starts t (b "__Z")) refl
  where
    told : (Text → Answer) → Bool → Bool → Bool → Bool → Answer
    told f i j q r =
        if i then refusal 1 otherwise if j then refusal 2 otherwise
        choose {A = Unit {0} × Text} (if q then some (tt, drop 2 t) otherwise if r then some (tt, drop 3 t) otherwise none) (λ x. f x.1) (refusal 3)

    long : (i j q : Bool) → starts t (b "_Z") ≡ q → (r : Bool) → starts t (b "__Z") ≡ r → Kept (ThunkSymbol t) (refusal 4) (told f i j q r) (told f' i j q r)
    long true j q e r k = same
    long false true q e r k = same
    long false false true e r k = kept_by (λ a. a) (λ p. subst ThunkSymbol (sym (starts_is t (b "_Z") e)) (behind_Z p)) (h (drop 2 t))
    long false false false e true k = kept_by (λ a. a) (λ p. subst ThunkSymbol (sym (starts_is t (b "__Z") k)) (behind-◌Z p)) (h (drop 3 t))
    long false false false e false k = same

-- the answer for a symbol
pub demangle_kept : (limit : ℕ) (t : Text) → Kept (ThunkSymbol t) (refusal 4) (demangle_without limit t) (demangle limit t)
unfolding demangle_without demangle
demangle_kept limit t = front_kept limit t _ _ mangled_kept

-- and what the entry for names tells, whatever the slices
pub answer_kept : (limit : ℕ) (l : Lent) (t : Text) → Kept (ThunkSymbol t) (refusal 4) (answer_without limit l t) (answer limit l t)
unfolding answer_without answer within
answer_kept limit l t = front_kept limit t _ _ λ u. if_kept _ (work_fits l) (kept_by (within l.out) (λ p. p) (mangled_kept u))

-- "Every symbol accepted before keeps its answer."
pub accepted_keeps : (limit : ℕ) (t x : Text) → demangle_without limit t ≡ named x → demangle limit t ≡ named x
accepted_keeps limit t x = go (demangle_kept limit t)
  where
    go : {a a' : Answer} → Kept (ThunkSymbol t) (refusal 4) a a' → a ≡ named x → a' ≡ named x
    go same e = e
    go (new p) e = let z : ◌≡◌ {A = ℕ} 0 1 = cc in absurd (omega arith)

-- a symbol refused before has the same number, or begins, behind its front and its GTt, with Th or Tv, and was refused with 4
pub refused_keeps : (limit : ℕ) (t : Text) (r : ℕ) → demangle_without limit t ≡ refusal r → (demangle limit t ≡ refusal r) ⊎ ((r ≡ 4) × ThunkSymbol t)
refused_keeps limit t r = go (demangle_kept limit t)
  where
    go : {a a' : Answer} → Kept (ThunkSymbol t) (refusal 4) a a' → a ≡ refusal r → (a' ≡ refusal r) ⊎ ((r ≡ 4) × ThunkSymbol t)
    go same e = inl e
    go (new p) e = inr (cc, p)
