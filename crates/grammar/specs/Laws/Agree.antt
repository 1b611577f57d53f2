-- Two results agree: they are the same, no refusal 0, and fewer than n bytes are left unread where they are texts.
-- One law for each way in which readers are joined; two readers that differ in the productions they call agree by these.
use Rattle.std.specs.Prelude.{◌≡◌, ℕ, zero, suc, ◌<◌, ◌≤◌, Bool, true, false, ◌&&◌, T, List, [], ◌∷◌, length, drop, nat_lt, refl}
use Rattle.std.proofs.Math.Option.{Option, none, some}
use Prim.Native.String.{String}
use Rattle.std.proofs.Common.{arith}
use Rattle.std.proofs.Math.ListN.{length-drop}
use Rattle.grammar.specs.Text.{Text, b, if◌then◌otherwise◌, choose, starts, past}
use Rattle.grammar.specs.Laws.Text.{both}
use Rattle.grammar.specs.Tables.{Row, ◌⇒◌}
use Rattle.grammar.specs.Reader.{State, Result, ok, refused, Reader, onto, find, by_code, at_code, go_to, set_subs, set_args, set_depth, set_cv}
use Rattle.grammar.specs.Reader.{set_templated, push_sub, push_arg, give, recorded, entered, refuse, return, see, eat, need, first, any, every, steps, while, up_to_E}

abbrev pub unread : State → ℕ
unread s = length s.rest

pub data Agree {A : Type 0} (n : ℕ) : Result A → Result A → Type 0 where
  reads : {x : A} {u : State} → unread u < n → Agree n (ok x u) (ok x u)
  refuses : {r : ℕ} → Agree n (refused (suc r)) (refused (suc r))

pub agree_eq : {A : Type 0} {n : ℕ} {q r : Result A} → Agree n q r → q ≡ r
agree_eq (reads h) = refl
agree_eq refuses = refl

-- ---------------------------------------------------------------- one after the other

module _ {A B : Type 0} {n m : ℕ} where
  pub bind : {q r : Result A} {f g : A → Reader B} → Agree n q r → ((x : A) (u : State) → unread u < n → Agree m (f x u) (g x u)) → Agree m (onto f q) (onto g r)
  unfolding onto
  bind (reads h) k = k _ _ h
  bind refuses k = refuses

module _ {A : Type 0} {n : ℕ} where
  pub weaken : {m : ℕ} {q r : Result A} → n ≤ m → Agree n q r → Agree m q r
  weaken l (reads {u = u} h) = reads {u = u} (omega arith)
  weaken l refuses = refuses

  -- the test may be used where it held
  pub tested : (c : Bool) (p q p' q' : Reader A) (s : State) → (T c → Agree n (p s) (p' s)) → Agree n (q s) (q' s) → Agree n ((if c then p otherwise q) s) ((if c then p' otherwise q') s)
  unfolding if◌then◌otherwise◌
  tested true p q p' q' s h k = h tt
  tested false p q p' q' s h k = k

  pub branch : (c : Bool) (p q p' q' : Reader A) (s : State) → Agree n (p s) (p' s) → Agree n (q s) (q' s) → Agree n ((if c then p otherwise q) s) ((if c then p' otherwise q') s)
  branch c p q p' q' s h k = tested c p q p' q' s (λ _. h) k

pub chosen : {A B : Type 0} {n : ℕ} (o : Option A) (f g : A → Reader B) (m k : Reader B) (s : State) → ((x : A) → Agree n (f x s) (g x s)) → Agree n (m s) (k s) → Agree n (choose o f m s) (choose o g k s)
unfolding choose
chosen (some x) f g m k s h i = h x
chosen none f g m k s h i = i

-- ---------------------------------------------------------------- words and codes

-- the word has a byte
unfoldable pub coded : String → Bool
coded w = nat_lt 0 (length (b w))

starts_shorter : (t w : Text) → T (nat_lt 0 (length w)) → T (starts t w) → length (drop (length w) t) < length t
unfolding starts
starts_shorter t [] h k = absurd h
starts_shorter [] (y ∷ w) h k = absurd k
starts_shorter (x ∷ t) (y ∷ w) h k = simp length-drop (omega arith)

-- the rows have the same codes, each with a byte, and related values
pub data Rows {A : Type 0} (R : A → A → Type 0) : List (Row A) → List (Row A) → Type 0 where
  end : Rows R [] []
  row : {w : String} {x y : A} {rows rows' : List (Row A)} → T (coded w) → R x y → Rows R rows rows' → Rows R ((w ⇒ x) ∷ rows) ((w ⇒ y) ∷ rows')

-- both tables hit related rows, or none; the bytes behind the code are fewer
data Hit {A : Type 0} (R : A → A → Type 0) (t : Text) : Option (A × Text) → Option (A × Text) → Type 0 where
  miss : Hit R t none none
  hit : {x y : A} {u : Text} → R x y → length u < length t → Hit R t (some (x, u)) (some (y, u))

found : {A : Type 0} {R : A → A → Type 0} (c : Bool) (t u : Text) (x y : A) (o p : Option (A × Text)) → (T c → length u < length t) → R x y → Hit R t o p → Hit R t (if c then some (x, u) otherwise o) (if c then some (y, u) otherwise p)
unfolding if◌then◌otherwise◌
found true t u x y o p l r h = hit r (l tt)
found false t u x y o p l r h = h

find_hit : {A : Type 0} {R : A → A → Type 0} {rows rows' : List (Row A)} (t : Text) → Rows R rows rows' → Hit R t (find rows t) (find rows' t)
unfolding find coded
find_hit t end = miss
find_hit t (row {w = w} c r h) = found (starts t (b w)) t _ _ _ _ _ (starts_shorter t (b w) c) r (find_hit t h)

unfoldable pub all_coded : {A : Type 0} → List (Row A) → Bool
all_coded [] = true
all_coded ((w ⇒ x) ∷ rows) = coded w && all_coded rows

pub each_row : {A : Type 0} (R : A → A → Type 0) → ((x : A) → R x x) → (rows : List (Row A)) → T (all_coded rows) → Rows R rows rows
unfolding all_coded
each_row R f [] h = end
each_row R f ((w ⇒ x) ∷ rows) h = let (p, q) = both (coded w) (all_coded rows) h in row p (f x) (each_row R f rows q)

module _ {A B : Type 0} {n : ℕ} {s : State} where
  pub by_code_agree :
      (rows rows' : List (Row A)) (f g : A → Reader B) (m k : Reader B) →
      Rows (λ x y. (u : State) → unread u < unread s → Agree n (f x u) (g y u)) rows rows' →
      Agree n (m s) (k s) →
      Agree n (by_code rows f m s) (by_code rows' g k s)
  unfolding by_code onto go_to choose
  by_code_agree rows rows' f g m k h i = go (find rows s.rest) (find rows' s.rest) (find_hit s.rest h)
    where
      go :
          (o p : Option (A × Text)) →
          Hit (λ x y. (u : State) → unread u < unread s → Agree n (f x u) (g y u)) s.rest o p →
          Agree n (choose o (λ r v. onto (λ _. f r.0) (go_to r.1 v)) m s) (choose p (λ r v. onto (λ _. g r.0) (go_to r.1 v)) k s)
      go none none miss = i
      go (some r) (some q) (hit p l) = p _ l
      go (some r) none x3 = elim x3 [ ]
      go none (some q) x'' = elim x'' [ ]

  pub by_table_agree :
      (rows : List (Row A)) (f g : A → Reader B) (m k : Reader B) → T (all_coded rows) →
      ((x : A) (u : State) → unread u < unread s → Agree n (f x u) (g x u)) →
      Agree n (m s) (k s) →
      Agree n (by_code rows f m s) (by_code rows g k s)
  by_table_agree rows f g m k c h i = by_code_agree rows rows f g m k (each_row _ h rows c) i

module _ {B : Type 0} {n : ℕ} {s : State} where
  pub at_code_agree :
      (rows rows' : List (Row (Reader B))) (m k : Reader B) → Rows (λ p q. Agree n (p s) (q s)) rows rows' → Agree n (m s) (k s) →
      Agree n (at_code rows m s) (at_code rows' k s)
  unfolding at_code onto choose
  at_code_agree rows rows' m k h i = go (find rows s.rest) (find rows' s.rest) (find_hit s.rest h)
    where
      go : (o p : Option (Reader B × Text)) → Hit (λ p q. Agree n (p s) (q s)) s.rest o p → Agree n (choose o (λ r. r.0) m s) (choose p (λ r. r.0) k s)
      go none none miss = i
      go (some r) (some q) (hit p l) = p
      go (some r) none x3 = elim x3 [ ]
      go none (some q) x'' = elim x'' [ ]

-- ---------------------------------------------------------------- readers that may read nothing, and readers that read a byte

abbrev pub Keeps : {A : Type 0} → ℕ → Reader A → Reader A → Type 0
Keeps n p q = (s : State) → unread s < n → Agree n (p s) (q s)

abbrev pub Takes : {A : Type 0} → ℕ → Reader A → Reader A → Type 0
Takes n p q = (s : State) → unread s < suc n → Agree n (p s) (q s)

pass_shorter : (c : Bool) (p : ℕ → Bool) (x : ℕ) (t : Text) → length (past p t) ≤ length t → length (if c then past p t otherwise x ∷ t) ≤ suc (length t)
unfolding if◌then◌otherwise◌
pass_shorter true p x t l = omega arith
pass_shorter false p x t l = omega arith

pub past_shorter : (p : ℕ → Bool) (t : Text) → length (past p t) ≤ length t
unfolding past
past_shorter p [] = omega arith
past_shorter p (x ∷ t) = pass_shorter (p x) p x t (past_shorter p t)

-- the state before another text
abbrev pub moved : Text → State → State
moved t s = record { rest = t; subs = s.subs; args = s.args; depth = s.depth; cv = s.cv; templated = s.templated }

module _ {n : ℕ} where
  pub go_to_agree : (t : Text) (s : State) → length t < n → Agree n (go_to t s) (go_to t s)
  unfolding go_to
  go_to_agree t s h = reads {u = moved t s} h

  pub every_keeps : (p : ℕ → Bool) → Keeps n (every p) (every p)
  unfolding every onto go_to
  every_keeps p s h = let l = past_shorter p s.rest in reads {u = moved (past p s.rest) s} (omega arith)

  pub give_keeps : (t : Text) → Keeps n (give t) (give t)
  unfolding give
  give_keeps t s h = branch _ _ _ _ _ s (reads h) refuses

  pub set_cv_keeps : (t : Text) → Keeps n (set_cv t) (set_cv t)
  unfolding set_cv
  set_cv_keeps t s h = reads h

  pub set_templated_keeps : (q : Bool) → Keeps n (set_templated q) (set_templated q)
  unfolding set_templated
  set_templated_keeps q s h = reads h

  pub push_sub_keeps : (t : Text) → Keeps n (push_sub t) (push_sub t)
  unfolding push_sub onto set_subs
  push_sub_keeps t s h = branch _ _ _ _ _ s (reads h) refuses

  pub push_arg_keeps : (t : Text) → Keeps n (push_arg t) (push_arg t)
  unfolding push_arg onto set_args
  push_arg_keeps t s h = branch _ _ _ _ _ s (reads h) refuses

  pub recorded_keeps : (t : Text) → Keeps n (recorded t) (recorded t)
  unfolding recorded
  recorded_keeps t s h = bind (push_sub_keeps t s h) λ _. give_keeps t

  pub entered_agree : {k : ℕ} (p q : Reader Text) → ((u : State) → unread u < k → Agree n (p u) (q u)) → (s : State) → unread s < k → Agree n (entered p s) (entered q s)
  unfolding entered onto set_depth
  entered_agree p q f s h = branch _ _ _ _ _ s (bind (f _ h) λ _ u l. reads l) refuses

  pub eat_keeps : (w : String) → Keeps n (eat w) (eat w)
  unfolding eat onto go_to
  eat_keeps w s h = branch _ _ _ _ _ s (reads {u = moved (drop (length (b w)) s.rest) s} (simp length-drop (omega arith))) (reads h)

  pub see_keeps : (w : String) → Keeps n (see w) (see w)
  unfolding see
  see_keeps w s h = reads h

  pub need_takes : (w : String) → T (coded w) → Takes n (need w) (need w)
  unfolding need eat onto go_to coded if◌then◌otherwise◌
  need_takes w c s h = go (starts s.rest (b w)) (starts_shorter s.rest (b w) c)
    where
      here : Bool → Reader (Unit {0})
      here c = if c then return tt otherwise refuse 4

      eaten : Bool → Result (Unit {0})
      eaten c = onto here ((if c then (λ v. onto (λ _ v. ok true v) (go_to (drop (length (b w)) s.rest) v)) otherwise return false) s)

      go : (c : Bool) → (T c → length (drop (length (b w)) s.rest) < unread s) → Agree n (eaten c) (eaten c)
      go true l = let k = l tt in reads {u = moved (drop (length (b w)) s.rest) s} (omega arith)
      go false l = refuses

  pub any_takes : Takes n any any
  unfolding any first onto go_to
  any_takes s h = go s.rest h
    where
      go : (t : Text) → length t < suc n → Agree n (first t s) (first t s)
      go [] l = refuses
      go (x ∷ t) l = reads {u = moved t s} (omega arith)

  pub need_keeps : (w : String) → T (coded w) → Keeps n (need w) (need w)
  need_keeps w c s h = need_takes w c s (omega arith)

  pub any_keeps : Keeps n any any
  any_keeps s h = any_takes s (omega arith)

-- ---------------------------------------------------------------- loops

-- each step reads a byte
abbrev pub Shrinks : {A : Type 0} → ℕ → (A → Reader A) → (A → Reader A) → Type 0
Shrinks {A} n p q = (x : A) (s : State) → unread s < n → Agree (unread s) (p x s) (q x s)

module _ {A : Type 0} {n : ℕ} (p q : A → Reader A) (shrinks : Shrinks n p q) where
  steps_agree :
      (on : Text → Bool) (j k : ℕ) (x : A) (s : State) →
      unread s < j →
      unread s < k →
      unread s < n →
      Agree n (steps j on p x s) (steps k on q x s)
  unfolding steps onto
  steps_agree on zero k x s i l h = absurd (omega arith)
  steps_agree on (suc j) zero x s i l h = absurd (omega arith)
  steps_agree on (suc j) (suc k) x s i l h =
      branch _ _ _ _ _ s
      (bind (shrinks x s h) λ y u m. steps_agree on j k y u (omega arith) (omega arith) (omega arith))
      (reads h)

  pub while_keeps : (on : Text → Bool) (x : A) → Keeps n (while on p x) (while on q x)
  unfolding while onto
  while_keeps on x s h = steps_agree on (suc (unread s)) (suc (unread s)) x s (omega arith) (omega arith) h

-- a loop is its first step and the loop from there
module _ {A : Type 0} (p : A → Reader A) (shrinks : (x : A) (s : State) → Agree (unread s) (p x s) (p x s)) where
  pub while_is :
      (on : Text → Bool) (x : A) (s : State) →
      while on p x s ≡ (if on s.rest then (λ u. onto (λ y. while on p y) (p x u)) otherwise return x) s
  unfolding while steps onto
  while_is on x s =
      agree_eq (branch {n = suc (unread s)} _ _ _ _ _ s
      (bind (shrinks x s) λ y u m. steps_agree p p (λ z v l. shrinks z v) on (unread s) (suc (unread u)) y u m (omega arith) (omega arith))
      (reads (omega arith)))

pub up_to_E_keeps : {A : Type 0} {n : ℕ} (p q : A → Reader A) → Shrinks n p q → (x : A) → Keeps n (up_to_E p x) (up_to_E q x)
unfolding up_to_E onto coded b
up_to_E_keeps p q f x s h =
    bind (while_keeps _ _ (λ y u l. branch _ _ _ _ _ u refuses (f y u l)) _ x s h) λ y u l.
    bind (need_keeps "E" tt u l) λ _ v m. reads m
