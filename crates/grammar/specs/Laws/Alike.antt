-- Two symbols alike up to a dot, read side by side: as long as the dot is not read, the readings are in the same state but for the bytes
-- behind it. One law for each way in which readers are joined, as in Agree.antt. Assumes nothing.
use Rattle.std.specs.Prelude.{◌≡◌, ℕ, zero, suc, ◌≤◌, Bool, true, false, not, ◌&&◌, ◌||◌, T, List, [], ◌∷◌, ◌++◌, length, drop, ◌==◌}
use Rattle.std.proofs.Common.{true≢false, sym, ◌∙◌, arith, length-drop}
use Rattle.std.proofs.Math.Bool.{and-false}
use Rattle.std.proofs.Math.Option.{Option, none, some}
use Rattle.std.proofs.Math.Path.{refl, ap}
use Prim.Native.String.{String}
use Rattle.grammar.specs.Text.{Text, b, if◌then◌otherwise◌, choose, same, starts, holds, run, past}
use Rattle.grammar.specs.Tables.{Row, ◌⇒◌}
use Rattle.grammar.specs.Reader.{State, Result, ok, refused, Reader, onto, refuse, return, the, find, by_code, at_code, go_to, set_subs, set_args, set_depth, set_cv}
use Rattle.grammar.specs.Reader.{set_templated, push_sub, push_arg, give, recorded, entered, see, eat, need, first, any, every, steps, while, up_to_E}
use Rattle.grammar.specs.Grammar.{ended, digit_ahead, std_ahead, structor_ahead}
use Rattle.grammar.specs.Laws.Text.{both, starts_nothing}
use Rattle.grammar.specs.Laws.Agree.{unread, moved, Agree, refuses as ends, branch as agree_branch, Rows, end, row, all_coded, each_row, past_shorter, while_is}

-- the byte of b "."
abbrev pub dot : ℕ
dot = 46

-- the bytes left of a symbol that ends with a dot and u: the dot is among them, behind w, or it has been read
pub data Place (u : Text) : Text → Type 0 where
  before : (w : Text) → Place u (w ++ (dot ∷ u))
  behind : {t : Text} → length t ≤ length u → Place u t

-- the dot is still ahead
abbrev pub ahead_of : {u t : Text} → Place u t → Bool
ahead_of (before w) = true
ahead_of (behind h) = false

-- the bytes left of the symbol that has v for u
abbrev pub other : {u t : Text} → Text → Place u t → Text
other v (before w) = w ++ (dot ∷ v)
other v (behind {t = t} h) = t

-- Where the first reading has not passed the dot, the second has the same value and state, with v for u. Where it has, or was refused,
-- nothing is said of the second; that a dot that was read stays read is what the Bool is for.
pub data Same {A : Type 0} (u v : Text) : Bool → Result A → Result A → Type 0 where
  reads : {x : A} {s : State} (p : Place u s.rest) → Same u v (ahead_of p) (ok x s) (ok x (moved (other v p) s))
  passes : {m : Bool} {x : A} {s : State} {r : Result A} → unread s ≤ length u → Same u v m (ok x s) r
  refuses : {m : Bool} {k : ℕ} {r : Result A} → Same u v m (refused k) r

-- the first reader before u, the second before v, from the same place
pub data Alike {A : Type 0} (u v : Text) (f g : Reader A) : Type 0 where
  alike : ((s : State) (p : Place u s.rest) → Same u v (ahead_of p) (f s) (g (moved (other v p) s))) → Alike u v f g

pub at : {A : Type 0} {u v : Text} {f g : Reader A} → Alike u v f g → (s : State) (p : Place u s.rest) → Same u v (ahead_of p) (f s) (g (moved (other v p) s))
at (alike h) = h

-- ---------------------------------------------------------------- one after the other

module _ {u : Text} where
  read_past : {t : Text} (p : Place u t) → ahead_of p ≡ false → length t ≤ length u
  read_past (before w) e = absurd (true≢false e)
  read_past (behind h) e = h

  -- a dot that was read stays read, whatever the second reader makes of it
  pub stays_past : {A : Type 0} {v : Text} {m : Bool} {q r : Result A} (k : Bool) (r' : Result A) → Same u v m q r → m ≡ false → Same u v k q r'
  stays_past k r' (reads p) e = passes (read_past p e)
  stays_past k r' (passes h) e = passes h
  stays_past k r' refuses e = refuses

module _ {A B : Type 0} {u v : Text} where
  pub goes_on : {m : Bool} {q r : Result A} {f g : A → Reader B} → Same u v m q r → ((x : A) → Alike u v (f x) (g x)) → Same u v m (onto f q) (onto g r)
  unfolding onto
  goes_on (reads {x = x} {s = s} p) k = at (k x) s p
  goes_on (passes {x = x} {s = s} h) k = stays_past _ _ (at (k x) s (behind h)) refl
  goes_on refuses k = refuses

  pub bind : {p q : Reader A} {f g : A → Reader B} → Alike u v p q → ((x : A) → Alike u v (f x) (g x)) → Alike u v (λ s. onto f (p s)) (λ s. onto g (q s))
  bind h k = alike λ s p. goes_on (at h s p) k

  pub chosen : (o : Option A) {f g : A → Reader B} {p q : Reader B} → ((x : A) → Alike u v (f x) (g x)) → Alike u v p q → Alike u v (choose o f p) (choose o g q)
  unfolding choose
  chosen (some x) h k = h x
  chosen none h k = k

module _ {A : Type 0} {u v : Text} where
  pub branch : (c : Bool) {p q p' q' : Reader A} → Alike u v p p' → Alike u v q q' → Alike u v (if c then p otherwise q) (if c then p' otherwise q')
  unfolding if◌then◌otherwise◌
  branch true h k = h
  branch false h k = k

  pub returns : (x : A) → Alike u v (return x) (return x)
  returns x = alike λ s p. reads p

  pub refuses_alike : {g : Reader A} (k : ℕ) → Alike u v (refuse k) g
  refuses_alike k = alike λ s p. refuses

  -- a field of the state that isn't the bytes left
  pub field : (f : State → A) → ((s : State) (t : Text) → f s ≡ f (moved t s)) → Alike u v (the f) (the f)
  field f h = alike λ s p. rw (← h s (other v p)) (reads p)

-- ---------------------------------------------------------------- the bytes ahead

-- bytes behind the dot have no influence on what is asked of a text
abbrev pub Blind : {A : Type 0} → (Text → A) → Type 0
Blind f = (w u v : Text) → f (w ++ (dot ∷ u)) ≡ f (w ++ (dot ∷ v))

pub unseen : {A : Type 0} {u t : Text} (f : Text → A) (v : Text) → Blind f → (p : Place u t) → f t ≡ f (other v p)
unseen {u} f v h (before w) = h w u v
unseen f v h (behind l) = refl

pub asked : {A : Type 0} {u v : Text} (f : Text → A) → Blind f → Alike u v (λ s. ok (f s.rest) s) (λ s. ok (f s.rest) s)
asked {v} f e = alike λ s p. rw (← unseen f v e p) (reads p)

pub told : {A B : Type 0} {u v : Text} (f : Text → A) {g g' : A → Reader B} → Blind f → ((x : A) → Alike u v (g x) (g' x)) →
    Alike u v (λ s. onto (λ t. g (f t)) (ok s.rest s)) (λ s. onto (λ t. g' (f t)) (ok s.rest s))
unfolding onto
told {v} f e h = alike λ s p. rw (← unseen f v e p) (at (h (f s.rest)) s p)

pub ask : {A : Type 0} {u v : Text} (on : Text → Bool) {p q p' q' : Reader A} → Blind on → Alike u v p p' → Alike u v q q' →
    Alike u v (λ s. onto (λ t. if on t then p otherwise q) (ok s.rest s)) (λ s. onto (λ t. if on t then p' otherwise q') (ok s.rest s))
ask on e h k = told on e λ c. branch c h k

-- no byte of the word is a dot
unfoldable pub undotted : Text → Bool
undotted k = not (holds dot k)

one_undotted : (c d : Bool) → T (not (c || d)) → (c ≡ false) × T (not d)
one_undotted true d h = absurd h
one_undotted false d h = (refl, h)

pub starts_blind : (k : Text) → T (undotted k) → Blind (λ t. starts t k)
unfolding starts undotted holds
starts_blind [] h w u v = starts_nothing (w ++ (dot ∷ u)) ∙ sym (starts_nothing (w ++ (dot ∷ v)))
starts_blind (y ∷ k) h [] u v = rw (one_undotted (dot == y) (holds dot k) h).0
starts_blind (y ∷ k) h (x ∷ w) u v = ap (λ (c : Bool). (x == y) && c) (starts_blind k (one_undotted (dot == y) (holds dot k) h).1 w u v)

pub empty_blind : Blind (λ t. same t [])
unfolding same
empty_blind [] u v = refl
empty_blind (x ∷ w) u v = refl

pub ended_blind : Blind ended
unfolding ended same starts b
ended_blind [] u v = starts_nothing u ∙ sym (starts_nothing v)
ended_blind (x ∷ []) u v = refl
ended_blind (x ∷ y ∷ w) u v = refl

-- not at an E, nor at the end
pub list_blind : Blind (λ t. same t [] || starts t (b "E"))
unfolding undotted holds b
list_blind w u v = rw (empty_blind w u v, starts_blind (b "E") tt w u v)

pub digit_blind : Blind digit_ahead
unfolding digit_ahead
digit_blind [] u v = refl
digit_blind (x ∷ w) u v = refl

std_dot : (u : Text) → std_ahead (dot ∷ u) ≡ false
unfolding std_ahead starts b
std_dot [] = refl
std_dot (x ∷ []) = refl
std_dot (x ∷ y ∷ u) = refl

std_byte_dot : (x : ℕ) (u : Text) → std_ahead (x ∷ dot ∷ u) ≡ false
unfolding std_ahead starts b
std_byte_dot x [] = refl
std_byte_dot x (y ∷ u) = rw (and-false (x == 83))

pub std_blind : Blind std_ahead
unfolding std_ahead
std_blind [] u v = std_dot u ∙ sym (std_dot v)
std_blind (x ∷ []) u v = std_byte_dot x u ∙ sym (std_byte_dot x v)
std_blind (x ∷ y ∷ []) u v = refl
std_blind (x ∷ y ∷ z ∷ w) u v = refl

pub structor_dot : (u : Text) → structor_ahead (dot ∷ u) ≡ false
unfolding structor_ahead holds b
structor_dot [] = refl
structor_dot (x ∷ u) = refl

pub structor_blind : Blind structor_ahead
unfolding structor_ahead
structor_blind [] u v = structor_dot u ∙ sym (structor_dot v)
structor_blind (x ∷ []) u v = refl
structor_blind (x ∷ y ∷ w) u v = refl

-- two texts that stand at one place
data Cut (u v : Text) : Bool → Text → Text → Type 0 where
  cut : {t : Text} (p : Place u t) → Cut u v (ahead_of p) t (other v p)

cut_word : {u t : Text} (v k : Text) → T (undotted k) → (p : Place u t) → T (starts t k) → Cut u v (ahead_of p) (drop (length k) t) (drop (length k) (other v p))
unfolding starts undotted holds
cut_word v k h (behind {t = t} l) c = cut (behind {t = drop (length k) t} (simp length-drop (omega arith)))
cut_word {u} v k h (before w) c = go k w h c
  where
    go : (k w : Text) → T (undotted k) → T (starts (w ++ (dot ∷ u)) k) → Cut u v true (drop (length k) (w ++ (dot ∷ u))) (drop (length k) (w ++ (dot ∷ v)))
    go [] w h c = cut (before w)
    go (y ∷ k) [] h c = absurd (rw (one_undotted (dot == y) (holds dot k) h).0 at c)
    go (y ∷ k) (x ∷ w) h c = go k w (one_undotted (dot == y) (holds dot k) h).1 (both (x == y) _ c).1

-- ---------------------------------------------------------------- words and codes

unfoldable pub all_undotted : {A : Type 0} → List (Row A) → Bool
all_undotted [] = true
all_undotted ((w ⇒ x) ∷ rows) = undotted (b w) && all_undotted rows

-- both tables hit related rows at one place, or none
pub data Hit {A : Type 0} (u v : Text) (R : A → A → Type 0) : Bool → Option (A × Text) → Option (A × Text) → Type 0 where
  miss : {m : Bool} → Hit u v R m none none
  hit : {x y : A} {t : Text} → R x y → (p : Place u t) → Hit u v R (ahead_of p) (some (x, t)) (some (y, other v p))

module _ {u v : Text} {A : Type 0} {R : A → A → Type 0} where
  cut_hit : {m : Bool} {x y : A} {t t' : Text} → R x y → Cut u v m t t' → Hit u v R m (some (x, t)) (some (y, t'))
  cut_hit r (cut p) = hit r p

  found :
      {m : Bool} (x y : A) {t t' : Text} (c : Bool) (o o' : Option (A × Text)) → (T c → Cut u v m t t') → R x y → Hit u v R m o o' →
      Hit u v R m (if c then some (x, t) otherwise o) (if c then some (y, t') otherwise o')
  unfolding if◌then◌otherwise◌
  found x y true o o' l r h = cut_hit r (l tt)
  found x y false o o' l r h = h

  pub find_hit : {rows rows' : List (Row A)} {t : Text} → Rows R rows rows' → T (all_undotted rows) → (p : Place u t) → Hit u v R (ahead_of p) (find rows t) (find rows' (other v p))
  unfolding find all_undotted
  find_hit end h p = miss
  find_hit {t = t} (row {w = w} {x = x} {y = y} {rows = rows} {rows' = rows'} c r k) h p =
      let (d, e) = both (undotted (b w)) (all_undotted rows) h in
      rw (← unseen (λ t. starts t (b w)) v (starts_blind (b w) d) p)
      (found x y (starts t (b w)) (find rows t) (find rows' (other v p)) (cut_word v (b w) d p) r (find_hit k e p))

module _ {A B : Type 0} {u v : Text} where
  code_read :
      {c : Bool} {o o' : Option (A × Text)} (f g : A → Reader B) (m k : Reader B) (s : State) (t : Text) → Hit u v (λ x y. Alike u v (f x) (g y)) c o o' →
      Same u v c (m s) (k (moved t s)) →
      Same u v c (choose o (λ r z. onto (λ _. f r.0) (go_to r.1 z)) m s) (choose o' (λ r z. onto (λ _. g r.0) (go_to r.1 z)) k (moved t s))
  unfolding choose onto go_to
  code_read f g m k s t miss i = i
  code_read f g m k s t (hit {t = z} r p) i = at r (moved z s) p

  pub by_code_alike :
      {rows rows' : List (Row A)} {f g : A → Reader B} {m k : Reader B} → T (all_undotted rows) → Rows (λ x y. Alike u v (f x) (g y)) rows rows' →
      Alike u v m k → Alike u v (by_code rows f m) (by_code rows' g k)
  unfolding by_code onto
  by_code_alike d h i = alike λ s p. code_read _ _ _ _ s (other v p) (find_hit h d p) (at i s p)

  pub by_table_alike :
      (rows : List (Row A)) {f g : A → Reader B} {m k : Reader B} → T (all_coded rows) → T (all_undotted rows) → ((x : A) → Alike u v (f x) (g x)) →
      Alike u v m k → Alike u v (by_code rows f m) (by_code rows g k)
  by_table_alike rows c d h i = by_code_alike d (each_row _ h rows c) i

module _ {B : Type 0} {u v : Text} where
  code_left :
      {c : Bool} {o o' : Option (Reader B × Text)} (m k : Reader B) (s s' : State) → ((f g : Reader B) → Alike u v f g → Same u v c (f s) (g s')) →
      Hit u v (Alike u v) c o o' → Same u v c (m s) (k s') → Same u v c (choose o (λ r. r.0) m s) (choose o' (λ r. r.0) k s')
  unfolding choose
  code_left m k s s' l miss i = i
  code_left m k s s' l (hit r p) i = l _ _ r

  pub at_code_alike :
      {rows rows' : List (Row (Reader B))} {m k : Reader B} → T (all_undotted rows) → Rows (Alike u v) rows rows' →
      Alike u v m k → Alike u v (at_code rows m) (at_code rows' k)
  unfolding at_code onto
  at_code_alike d h i = alike λ s p. code_left _ _ s _ (λ f g r. at r s p) (find_hit h d p) (at i s p)

-- ---------------------------------------------------------------- readers

-- a run of bytes stops at one place, or the first goes by the dot
data Ran (u v : Text) : Bool → Text → Text → Text → Text → Type 0 where
  stops : {r t : Text} (p : Place u t) → Ran u v (ahead_of p) r t r (other v p)
  goes_by : {m : Bool} {r t r' t' : Text} → length t ≤ length u → Ran u v m r t r' t'

module _ {u v : Text} (q : ℕ → Bool) where
  ran_more : {m : Bool} {r t r' t' : Text} (x : ℕ) → Ran u v m r t r' t' → Ran u v m (x ∷ r) t (x ∷ r') t'
  ran_more x (stops p) = stops p
  ran_more x (goes_by l) = goes_by l

  ran_dot : (c : Bool) → Ran u v true (if c then dot ∷ run q u otherwise []) (if c then past q u otherwise dot ∷ u) (if c then dot ∷ run q v otherwise []) (if c then past q v otherwise dot ∷ v)
  unfolding if◌then◌otherwise◌
  ran_dot true = goes_by (past_shorter q u)
  ran_dot false = stops (before [])

  ran_byte :
      {r t r' t' : Text} (c : Bool) (x : ℕ) (w : Text) → Ran u v true r t r' t' →
      Ran u v true (if c then x ∷ r otherwise []) (if c then t otherwise x ∷ (w ++ (dot ∷ u))) (if c then x ∷ r' otherwise []) (if c then t' otherwise x ∷ (w ++ (dot ∷ v)))
  unfolding if◌then◌otherwise◌
  ran_byte true x w h = ran_more x h
  ran_byte false x w h = stops (before (x ∷ w))

  ran_text : (w : Text) → Ran u v true (run q (w ++ (dot ∷ u))) (past q (w ++ (dot ∷ u))) (run q (w ++ (dot ∷ v))) (past q (w ++ (dot ∷ v)))
  unfolding run past
  ran_text [] = ran_dot (q dot)
  ran_text (x ∷ w) = ran_byte (q x) x w (ran_text w)

  ran : {t : Text} (p : Place u t) → Ran u v (ahead_of p) (run q t) (past q t) (run q (other v p)) (past q (other v p))
  ran (before w) = ran_text w
  ran (behind {t = t} l) = let k = past_shorter q t in goes_by {t = past q t} (omega arith)

  ran_read : {m : Bool} {r t r' t' : Text} (z : Text) (s : State) → Ran u v m r t r' t' → Same u v m (ok r (moved t s)) (ok r' (moved t' (moved z s)))
  ran_read z s (stops {t = t} p) = reads {s = moved t s} p
  ran_read z s (goes_by {t = t} l) = passes {s = moved t s} l

  pub every_alike : Alike u v (every q) (every q)
  unfolding every onto go_to
  every_alike = alike λ s p. ran_read (other v p) s (ran p)

module _ {u v : Text} where
  pub set_subs_alike : (l : List Text) → Alike u v (set_subs l) (set_subs l)
  unfolding set_subs
  set_subs_alike l = alike λ s p. reads p

  pub set_args_alike : (l : List Text) → Alike u v (set_args l) (set_args l)
  unfolding set_args
  set_args_alike l = alike λ s p. reads p

  pub set_depth_alike : (n : ℕ) → Alike u v (set_depth n) (set_depth n)
  unfolding set_depth
  set_depth_alike n = alike λ s p. reads p

  pub set_cv_alike : (t : Text) → Alike u v (set_cv t) (set_cv t)
  unfolding set_cv
  set_cv_alike t = alike λ s p. reads p

  pub set_templated_alike : (q : Bool) → Alike u v (set_templated q) (set_templated q)
  unfolding set_templated
  set_templated_alike q = alike λ s p. reads p

  pub give_alike : (t : Text) → Alike u v (give t) (give t)
  unfolding give
  give_alike t = branch _ (returns t) (refuses_alike 11)

  pub push_sub_alike : (t : Text) → Alike u v (push_sub t) (push_sub t)
  unfolding push_sub
  push_sub_alike t = bind (field (λ s. s.subs) λ s t. refl) λ l. branch _ (set_subs_alike _) (refuses_alike 9)

  pub push_arg_alike : (t : Text) → Alike u v (push_arg t) (push_arg t)
  unfolding push_arg
  push_arg_alike t = bind (field (λ s. s.args) λ s t. refl) λ l. branch _ (set_args_alike _) (refuses_alike 10)

  pub recorded_alike : (t : Text) → Alike u v (recorded t) (recorded t)
  unfolding recorded
  recorded_alike t = bind (push_sub_alike t) λ _. give_alike t

  pub entered_alike : {p q : Reader Text} → Alike u v p q → Alike u v (entered p) (entered q)
  unfolding entered
  entered_alike h =
      bind (field (λ s. s.depth) λ s t. refl) λ d.
      branch _ (bind (set_depth_alike _) λ _. bind h λ t. bind (set_depth_alike d) λ _. returns t) (refuses_alike 8)

  pub see_alike : (w : String) → T (undotted (b w)) → Alike u v (see w) (see w)
  unfolding see
  see_alike w d = asked (λ t. starts t (b w)) (starts_blind (b w) d)

  word_read :
      {m : Bool} {t t' : Text} (c : Bool) (z : Text) (s : State) → (T c → Cut u v m t t') → Same u v m (ok false s) (ok false (moved z s)) →
      Same u v m ((if c then (λ y. onto (λ _. return true) (go_to t y)) otherwise return false) s) ((if c then (λ y. onto (λ _. return true) (go_to t' y)) otherwise return false) (moved z s))
  unfolding if◌then◌otherwise◌ onto go_to
  word_read true z s l h = of (l tt)
    where
      of : {m : Bool} {t t' : Text} → Cut u v m t t' → Same u v m (ok true (moved t s)) (ok true (moved t' s))
      of (cut {t = t} p) = reads {s = moved t s} p
  word_read false z s l h = h

  pub eat_alike : (w : String) → T (undotted (b w)) → Alike u v (eat w) (eat w)
  unfolding eat onto
  eat_alike w d = alike λ s p. rw (← unseen (λ t. starts t (b w)) v (starts_blind (b w) d) p) (word_read (starts s.rest (b w)) (other v p) s (cut_word v (b w) d p) (reads p))

  pub need_alike : (w : String) → T (undotted (b w)) → Alike u v (need w) (need w)
  unfolding need
  need_alike w d = bind (eat_alike w d) λ here. branch here (returns tt) (refuses_alike 4)

  byte_read : {t : Text} (s : State) (p : Place u t) → Same u v (ahead_of p) (first t s) (first (other v p) (moved (other v p) s))
  unfolding first onto go_to
  byte_read s (before []) = passes {s = moved u s} (omega arith)
  byte_read s (before (x ∷ w)) = reads {s = moved (w ++ (dot ∷ u)) s} (before w)
  byte_read s (behind {t = []} l) = refuses
  byte_read s (behind {t = x ∷ t} l) = reads {s = moved t s} (behind {t = t} (omega (arith, l)))

  pub any_alike : Alike u v any any
  unfolding any onto
  any_alike = alike λ s p. byte_read s p

-- ---------------------------------------------------------------- loops

module _ {A : Type 0} {u v : Text} (p q : A → Reader A) (h : (x : A) → Alike u v (p x) (q x)) (shrinks : (x : A) (s : State) → Agree (unread s) (q x s) (q x s)) where
  steps_alike : (on : Text → Bool) → Blind on → (j : ℕ) (x : A) → Alike u v (steps j on p x) (while on q x)
  unfolding steps onto
  steps_alike on e zero x = refuses_alike 0
  steps_alike on e (suc j) x =
      alike λ s l. rw (while_is q shrinks on x (moved (other v l) s))
      (at (ask on e (bind (h x) λ y. steps_alike on e j y) (returns x)) s l)

  while_steps : (on : Text → Bool) (x : A) (s : State) → while on p x s ≡ steps (suc (unread s)) on p x s
  unfolding while onto
  while_steps on x s = refl

  pub while_alike : (on : Text → Bool) → Blind on → (x : A) → Alike u v (while on p x) (while on q x)
  while_alike on e x = alike λ s l. rw (while_steps on x s) (at (steps_alike on e (suc (unread s)) x) s l)

module _ {A : Type 0} {u v : Text} (p q : A → Reader A) (h : (x : A) → Alike u v (p x) (q x)) (shrinks : (x : A) (s : State) → Agree (unread s) (q x s) (q x s)) where
  pub up_to_E_alike : (x : A) → Alike u v (up_to_E p x) (up_to_E q x)
  unfolding up_to_E onto undotted holds b
  up_to_E_alike x =
      bind
      (while_alike _ _ (λ z. ask (λ t. same t []) empty_blind (refuses_alike 4) (h z)) (λ z s. agree_branch _ _ _ _ _ s ends (shrinks z s))
      (λ t. not (starts t (b "E"))) (λ w u v. ap not (starts_blind (b "E") tt w u v)) x) λ y.
      bind (need_alike "E" tt) λ _. returns y
