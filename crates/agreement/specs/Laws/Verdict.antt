-- What a reading comes to, told at once for both ways: where it is a text, what holds of it; where it is refused, what there was no room for.
-- One law for each way in which readers are joined, stated for a state whose fields are written out.
use Rattle.std.specs.Prelude.{Bool, not, List, [], ◌∷◌, ◌++◌, ◌≡◌, length, eqb, ltb}
use Rattle.std.proofs.Math.Bool.{true, false, false≢true}
use Rattle.std.proofs.Math.Option.{none, some}
use Rattle.std.proofs.Math.Path.{refl}
use Rattle.std.proofs.Common.{sym, ◌∙◌, arith}
use Prim.Native.Nat.{ℕ, zero, suc, ◌+◌, ◌<◌, ◌≤◌}
use Prim.Native.Char.{code}
use Prim.Native.String.{String}
use Rattle.std.proofs.Math.Dec.{leb}
use borrow.Author.Tests.{ltb-true, lt-ltb, le-leb, leb-true, eq-eqb}
use Rattle.grammar.specs.Text.{Text, b, if◌then◌otherwise◌, choose, starts, same}
use Rattle.grammar.specs.Limits.{most_open, most_text_bytes}
use Rattle.grammar.specs.Tables.{Row}
use Rattle.grammar.specs.Reader.{State, Result, ok, refused, Reader, onto, refuse, return, fits, push_sub, push_arg, give, recorded, entered, go_to, set_subs}
use Rattle.grammar.specs.Reader.{set_args, set_depth, find, by_code, at_code, eat, need, steps, while, up_to_E}
use Rattle.grammar.specs.Grammar.{Production, production, reading}
use Rattle.grammar.specs.Laws.Fuel.{reading_is}

abbrev pub at : Text → List Text → List Text → ℕ → Text → Bool → State
at r l a d c q = record { rest = r; subs = l; args = a; depth = d; cv = c; templated = q }

-- Q holds of what was read; a refusal comes only where there was no room
pub data Verdict {A : Type 0} (room : Type 0) (Q : A → State → Type 0) : Result A → Type 0 where
  reads : {x : A} {s : State} → Q x s → Verdict room Q (ok x s)
  stops : {n : ℕ} → (room → ⊥) → Verdict room Q (refused n)

-- y was read, up to r, and the table is l; of the arguments K holds
pub data Gives {A : Type 0} (y : A) (r : Text) (l : List Text) (d : ℕ) (K : List Text → Type 0) : A → State → Type 0 where
  gives : {a : List Text} {c : Text} {q : Bool} → K a → Gives y r l d K y (at r l a d c q)

eqb_self : (x : ℕ) → eqb x x ≡ true
eqb_self x = eq-eqb x x refl

pub byte_E : b "E" ≡ code "E" ∷ []
unfolding b
byte_E = refl

pub byte_I : b "I" ≡ code "I" ∷ []
unfolding b
byte_I = refl

pub byte_L : b "L" ≡ code "L" ∷ []
unfolding b
byte_L = refl

pub gives_as :
    {A : Type 0} (y y' : A) {r : Text} {l : List Text} {d : ℕ} {K K' : List Text → Type 0} → y ≡ y' → ((a : List Text) → K a → K' a)
    → (x : A) (s : State) →
    Gives y r l d K x s → Gives y' r l d K' x s
gives_as y y' e f x s (gives h) = rw (sym e) (gives (f _ h))

-- ---------------------------------------------------------------- one after the other

module _ {A B : Type 0} {room room' : Type 0} {y : A} {r : Text} {l : List Text} {d : ℕ} {K : List Text → Type 0} {Q : B → State → Type 0} where
  pub next :
      {o : Result A} (f : A → Reader B) → Verdict room (Gives y r l d K) o → (room' → room) →
      ((a : List Text) (c : Text) (q : Bool) → K a → Verdict room' Q (f y (at r l a d c q))) → Verdict room' Q (onto f o)
  unfolding onto
  next f (reads (gives h)) w k = k _ _ _ h
  next f (stops h) w k = stops (λ p. h (w p))

module _ {A B C : Type 0} {room : Type 0} {Q : C → State → Type 0} where
  -- brackets of what comes one after the other
  pub assoc : (f : A → Reader B) (k : B → Reader C) (o : Result A) → Verdict room Q (onto (λ x s. onto k (f x s)) o)
      → Verdict room Q (onto k (onto f o))
  unfolding onto
  assoc f k (ok x s) h = h
  assoc f k (refused n) h = h

module _ {A : Type 0} {room : Type 0} {Q : A → State → Type 0} where
  pub weaken : {room' : Type 0} {Q' : A → State → Type 0} {o : Result A} → Verdict room' Q' o → (room → room') → ((x : A) (s : State)
      → Q' x s → Q x s) → Verdict room Q o
  weaken (reads h) w k = reads (k _ _ h)
  weaken (stops h) w k = stops (λ p. h (w p))

  pub in_onto : (o : Result A) → Verdict room Q (onto (λ x u. ok x u) o) → Verdict room Q o
  unfolding onto
  in_onto (ok x s) h = h
  in_onto (refused n) h = h

  pub then_by : {B : Type 0} (k : B → Reader A) (x : B) (s : State) → Verdict room Q (k x s) → Verdict room Q (onto k (ok x s))
  unfolding onto
  then_by k x s h = h

  pub equal_by : (o o' : Result A) → o ≡ o' → Verdict room Q o' → Verdict room Q o
  equal_by o o' e h = rw e h

  pub by_equal : {B : Type 0} (k : B → Reader A) (o o' : Result B) → o ≡ o' → Verdict room Q (onto k o') → Verdict room Q (onto k o)
  by_equal k o o' e h = rw e h

  -- ---------------------------------------------------------------- limits

  pub give_by : (t : Text) (k : Text → Reader A) (s : State) → (room → length t ≤ most_text_bytes) → Verdict room Q (k t s)
      → Verdict room Q (onto k (give t s))
  unfolding give onto if◌then◌otherwise◌
  give_by t k s w h = go (leb (length t) most_text_bytes) refl
    where
      go : (c : Bool) → leb (length t) most_text_bytes ≡ c → Verdict room Q (onto k ((if c then return t otherwise refuse 11) s))
      go true e = h
      go false e = stops (λ p. false≢true (sym e ∙ le-leb (length t) most_text_bytes (w p)))

  pub push_sub_by :
      (t : Text) (k : Unit {0} → Reader A) (r : Text) (l a : List Text) (d : ℕ) (c : Text) (q : Bool) →
      (room → fits (l ++ (t ∷ [])) ≡ true) → (fits (l ++ (t ∷ [])) ≡ true → Verdict room Q (k tt (at r (l ++ (t ∷ [])) a d c q))) →
      Verdict room Q (onto k (push_sub t (at r l a d c q)))
  unfolding push_sub onto set_subs if◌then◌otherwise◌
  push_sub_by t k r l a d c q w h = go (fits (l ++ (t ∷ []))) refl
    where
      go : (z : Bool) → fits (l ++ (t ∷ [])) ≡ z → Verdict room Q (onto k ((if z then set_subs (l ++ (t ∷ [])) otherwise refuse 9) (at r l a d c q)))
      go true e = h e
      go false e = stops (λ p. false≢true (sym e ∙ w p))

  pub push_arg_by :
      (t : Text) (k : Unit {0} → Reader A) (r : Text) (l a : List Text) (d : ℕ) (c : Text) (q : Bool) →
      (room → fits (a ++ (t ∷ [])) ≡ true) → Verdict room Q (k tt (at r l (a ++ (t ∷ [])) d c q)) →
      Verdict room Q (onto k (push_arg t (at r l a d c q)))
  unfolding push_arg onto set_args if◌then◌otherwise◌
  push_arg_by t k r l a d c q w h = go (fits (a ++ (t ∷ []))) refl
    where
      go : (z : Bool) → fits (a ++ (t ∷ [])) ≡ z → Verdict room Q (onto k ((if z then set_args (a ++ (t ∷ [])) otherwise refuse 10) (at r l a d c q)))
      go true e = h
      go false e = stops (λ p. false≢true (sym e ∙ w p))

  -- ---------------------------------------------------------------- words and codes

  -- a word of one byte
  pub need_by :
      (w : String) (x : ℕ) (k : Unit {0} → Reader A) (t : Text) (l a : List Text) (d : ℕ) (c : Text) (q : Bool) →
      b w ≡ x ∷ [] → Verdict room Q (k tt (at t l a d c q)) → Verdict room Q (onto k (need w (at (x ∷ t) l a d c q)))
  unfolding need eat onto go_to if◌then◌otherwise◌ starts
  need_by w x k t l a d c q e h = rw (e, eqb_self x) h

  pub by_code_hit :
      {C : Type 0} (rows : List (Row C)) (f : C → Reader A) (m : Reader A) (x : C) (t u : Text) (l a : List Text) (d : ℕ) (c : Text) (q : Bool) →
      find rows t ≡ some (x, u) → Verdict room Q (f x (at u l a d c q)) → Verdict room Q (by_code rows f m (at t l a d c q))
  unfolding by_code onto choose go_to
  by_code_hit rows f m x t u l a d c q e h = rw e h

  pub by_code_miss :
      {C : Type 0} (rows : List (Row C)) (f : C → Reader A) (m : Reader A) (s : State) →
      find rows s.rest ≡ none → Verdict room Q (m s) → Verdict room Q (by_code rows f m s)
  unfolding by_code onto choose
  by_code_miss rows f m s e h = rw e h

  pub at_code_hit :
      (rows : List (Row (Reader A))) (m n : Reader A) (s : State) (u : Text) →
      find rows s.rest ≡ some (n, u) → Verdict room Q (n s) → Verdict room Q (at_code rows m s)
  unfolding at_code onto choose
  at_code_hit rows m n s u e h = rw e h

  pub at_code_miss :
      (rows : List (Row (Reader A))) (m : Reader A) (s : State) →
      find rows s.rest ≡ none → Verdict room Q (m s) → Verdict room Q (at_code rows m s)
  unfolding at_code onto choose
  at_code_miss rows m s e h = rw e h

-- ---------------------------------------------------------------- texts at the end of a reader

module _ {room : Type 0} {Q : Text → State → Type 0} where
  pub in_reading : (k : Production) (s : State) → Verdict room Q (production reading k s) → Verdict room Q (reading k s)
  in_reading k s h = rw (reading_is k s) h

  -- the text is within the limit where it was returned
  pub give_told : (t : Text) (s : State) → (room → length t ≤ most_text_bytes) → (length t ≤ most_text_bytes → Q t s) → Verdict room Q (give t s)
  unfolding give if◌then◌otherwise◌
  give_told t s w h = go (leb (length t) most_text_bytes) refl
    where
      go : (c : Bool) → leb (length t) most_text_bytes ≡ c → Verdict room Q ((if c then return t otherwise refuse 11) s)
      go true e = reads (h (leb-true (length t) most_text_bytes e))
      go false e = stops (λ p. false≢true (sym e ∙ le-leb (length t) most_text_bytes (w p)))

  pub give_end : (t : Text) (s : State) → (room → length t ≤ most_text_bytes) → Q t s → Verdict room Q (give t s)
  give_end t s w h = give_told t s w (λ _. h)

  pub recorded_end :
      (t r : Text) (l a : List Text) (d : ℕ) (c : Text) (q : Bool) → (room → fits (l ++ (t ∷ [])) ≡ true) → (room → length t ≤ most_text_bytes) →
      (fits (l ++ (t ∷ [])) ≡ true → Q t (at r (l ++ (t ∷ [])) a d c q)) → Verdict room Q (recorded t (at r l a d c q))
  unfolding recorded
  recorded_end t r l a d c q w v h = push_sub_by _ _ _ _ _ _ _ _ w (λ e. give_end _ _ v (h e))

module _ {room : Type 0} {y r : Text} {l : List Text} {d : ℕ} {K : List Text → Type 0} where
  pub entered_by :
      (m : Reader Text) (r' : Text) (l' a : List Text) (c : Text) (q : Bool) → (room → d < most_open) →
      (d < most_open → Verdict room (Gives y r l (d + 1) K) (m (at r' l' a (d + 1) c q)))
      → Verdict room (Gives y r l d K) (entered m (at r' l' a d c q))
  unfolding entered onto set_depth if◌then◌otherwise◌
  entered_by m r' l' a c q w h = go (ltb d most_open) refl
    where
      leave : Text → Reader Text
      leave t = λ s. onto (λ _ u. ok t u) (set_depth d s)

      out : {o : Result Text} → Verdict room (Gives y r l (d + 1) K) o → Verdict room (Gives y r l d K) (onto leave o)
      out (reads (gives k)) = reads (gives k)
      out (stops k) = stops k

      go : (z : Bool) → ltb d most_open ≡ z → Verdict room (Gives y r l d K) ((if z then (λ s. onto (λ _ u. onto leave (m u)) (set_depth
          (d + 1) s)) otherwise refuse 8) (at r' l' a d c q))
      go true e = out (h (ltb-true d most_open e))
      go false e = stops (λ p. false≢true (sym e ∙ lt-ltb d most_open (w p)))

-- ---------------------------------------------------------------- loops

-- the loop up to an E, and the E
abbrev pub before_E : Text → Bool
before_E t = not (starts t (b "E"))

abbrev pub guarded : {A : Type 0} → (A → Reader A) → A → Reader A
guarded step z = λ s. onto (λ t. if same t [] then refuse 4 otherwise step z) (ok s.rest s)

abbrev pub closed : {A : Type 0} → A → Reader A
closed y = λ u. onto (λ _ v. ok y v) (need "E" u)

pub guarded_is : {A : Type 0} (step : A → Reader A) (z : A) (s : State) → same s.rest [] ≡ false → guarded step z s ≡ step z s
unfolding onto if◌then◌otherwise◌
guarded_is step z s e = rw e

pub up_to_E_is : {A : Type 0} (step : A → Reader A) (z : A) (s : State)
    → up_to_E step z s ≡ onto closed (steps (suc (length s.rest)) before_E (guarded step) z s)
unfolding up_to_E while onto
up_to_E_is step z s = refl

module _ {A B : Type 0} {room : Type 0} {Q : B → State → Type 0} where
  pub closed_by : (K : A → Reader B) (y : A) (r : Text) (l a : List Text) (d : ℕ) (c : Text) (q : Bool) → Verdict room Q (K y (at r l a d c q))
      → Verdict room Q (onto K (closed y (at (code "E" ∷ r) l a d c q)))
  closed_by K y r l a d c q h = assoc (λ _ v. ok y v) K _ (need_by "E" _ _ _ _ _ _ _ _ byte_E (then_by _ _ _ h))

module _ {A : Type 0} {room : Type 0} {Q : A → State → Type 0} where
  pub step_on :
      (n : ℕ) (on : Text → Bool) (step : A → Reader A) (x : A) (s : State) → 0 < n → on s.rest ≡ true →
      ((m : ℕ) → n ≡ suc m → Verdict room Q (onto (steps m on step) (step x s))) → Verdict room Q (steps n on step x s)
  unfolding steps onto if◌then◌otherwise◌
  step_on zero on step x s l e h = absurd (omega arith)
  step_on (suc m) on step x s l e h = rw e (h m refl)

  pub step_off :
      (n : ℕ) (on : Text → Bool) (step : A → Reader A) (x : A) (s : State) → 0 < n → on s.rest ≡ false →
      Q x s → Verdict room Q (steps n on step x s)
  unfolding steps onto if◌then◌otherwise◌
  step_off zero on step x s l e h = absurd (omega arith)
  step_off (suc m) on step x s l e h = rw e (reads h)

module _ {A B : Type 0} {room : Type 0} {Q : B → State → Type 0} where
  pub loop_on :
      (n : ℕ) (on : Text → Bool) (step : A → Reader A) (x : A) (k : A → Reader B) (s : State) → 0 < n → on s.rest ≡ true →
      ((m : ℕ) → n ≡ suc m → Verdict room Q (onto (λ y u. onto k (steps m on step y u)) (step x s))) → Verdict room Q (onto k (steps n on step x s))
  unfolding steps onto if◌then◌otherwise◌
  loop_on zero on step x k s l e h = absurd (omega arith)
  loop_on (suc m) on step x k s l e h = rw e (assoc _ k (step x s) (h m refl))

  pub loop_off :
      (n : ℕ) (on : Text → Bool) (step : A → Reader A) (x : A) (k : A → Reader B) (s : State) → 0 < n → on s.rest ≡ false →
      Verdict room Q (k x s) → Verdict room Q (onto k (steps n on step x s))
  unfolding steps onto if◌then◌otherwise◌
  loop_off zero on step x k s l e h = absurd (omega arith)
  loop_off (suc m) on step x k s l e h = rw e h
