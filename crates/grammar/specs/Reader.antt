-- A reader takes a state to a result: a value and the next state, or the number of a refusal.
-- Readers are joined by three functions alone: `onto` (the `do` blocks), `if◌then◌otherwise◌` and `choose`.
use Rattle.std.specs.Prelude.{ℕ, zero, suc, ◌+◌, Bool, true, false, not, ◌&&◌, List, [], ◌∷◌, ◌++◌, length, drop, nat_le, nat_lt}
use Rattle.std.proofs.Math.Option.{Option, none, some}
use Prim.Native.String.{String}
use Rattle.grammar.specs.Text.{Text, b, if◌then◌otherwise◌, choose, same, starts, run, past}
use Rattle.grammar.specs.Limits.{most_open, most_entries, most_text_bytes, most_entry_bytes}
use Rattle.grammar.specs.Tables.{Row, ◌⇒◌, Table}

-- the Rust's `Parser`, its place given by the bytes that are left
pub record State : Type 0 where
  pub rest : Text  -- the bytes not yet read
  pub subs : List Text  -- the substitution table, oldest entry first
  pub args : List Text  -- the template arguments that T_ refers to
  pub depth : ℕ  -- how many names, types and lists of template arguments are open
  pub cv : Text  -- what the qualifiers of the last nested name print
  pub templated : Bool  -- the last name ended in template arguments, so that a return type follows

pub data Result (A : Type 0) : Type 0 where
  ok : A → State → Result A
  refused : ℕ → Result A

abbrev pub Reader : Type 0 → Type 0
Reader A = State → Result A

-- ---------------------------------------------------------------- one after the other

unfoldable pub onto : {A B : Type 0} → (A → Reader B) → Result A → Result B
onto f (ok x s) = f x s
onto f (refused r) = refused r

abbrev pub ◌>>=◌ : {A B : Type 0} → Reader A → (A → Reader B) → Reader B
◌>>=◌ m f = λ s. onto f (m s)

abbrev pub ◌>>◌ : {A B : Type 0} → Reader A → Reader B → Reader B
◌>>◌ m n = λ s. onto (λ _. n) (m s)

abbrev pub return : {A : Type 0} → A → Reader A
return x = λ s. ok x s

abbrev pub refuse : {A : Type 0} → ℕ → Reader A
refuse r = λ _. refused r

-- 4: no rule of the reading fits
abbrev pub unfit : {A : Type 0} → Reader A
unfit = refuse 4

-- ---------------------------------------------------------------- the state's fields

-- the empty state before a text
unfoldable pub start : Text → State
start t = record { rest = t; subs = []; args = []; depth = 0; cv = []; templated = false }

-- what is there now
abbrev pub the : {A : Type 0} → (State → A) → Reader A
the f = λ s. ok (f s) s

abbrev pub ahead : Reader Text
ahead = the λ s. s.rest

unfoldable pub go_to : Text → Reader (Unit {0})
go_to t s = ok tt (record { rest = t; subs = s.subs; args = s.args; depth = s.depth; cv = s.cv; templated = s.templated })

unfoldable pub set_subs : List Text → Reader (Unit {0})
set_subs l s = ok tt (record { rest = s.rest; subs = l; args = s.args; depth = s.depth; cv = s.cv; templated = s.templated })

unfoldable pub set_args : List Text → Reader (Unit {0})
set_args l s = ok tt (record { rest = s.rest; subs = s.subs; args = l; depth = s.depth; cv = s.cv; templated = s.templated })

unfoldable pub set_depth : ℕ → Reader (Unit {0})
set_depth n s = ok tt (record { rest = s.rest; subs = s.subs; args = s.args; depth = n; cv = s.cv; templated = s.templated })

unfoldable pub set_cv : Text → Reader (Unit {0})
set_cv t s = ok tt (record { rest = s.rest; subs = s.subs; args = s.args; depth = s.depth; cv = t; templated = s.templated })

unfoldable pub set_templated : Bool → Reader (Unit {0})
set_templated q s = ok tt (record { rest = s.rest; subs = s.subs; args = s.args; depth = s.depth; cv = s.cv; templated = q })

-- ---------------------------------------------------------------- limits

unfoldable pub bytes_of : List Text → ℕ
bytes_of [] = 0
bytes_of (t ∷ ts) = length t + bytes_of ts

-- a list of texts is within the limits
unfoldable pub fits : List Text → Bool
fits ts = nat_le (length ts) most_entries && nat_le (bytes_of ts) most_entry_bytes

-- a new entry of the table; 9: it does not fit
unfoldable pub push_sub : Text → Reader (Unit {0})
push_sub t = do
  l ← the λ s. s.subs
  if fits (l ++ (t ∷ [])) then set_subs (l ++ (t ∷ [])) otherwise refuse 9

-- a new template argument; 10: it does not fit
unfoldable pub push_arg : Text → Reader (Unit {0})
push_arg t = do
  l ← the λ s. s.args
  if fits (l ++ (t ∷ [])) then set_args (l ++ (t ∷ [])) otherwise refuse 10

-- a text returned by a function of the Rust; 11: it is too long
unfoldable pub give : Text → Reader Text
give t = if nat_le (length t) most_text_bytes then return t otherwise refuse 11

-- a text that becomes an entry and is then returned
unfoldable pub recorded : Text → Reader Text
recorded t = do
  push_sub t
  give t

-- a reading that is open while it lasts; 8: too many are open
unfoldable pub entered : Reader Text → Reader Text
entered m = do
  d ← the λ s. s.depth
  if nat_lt d most_open then (do
    set_depth (d + 1)
    t ← m
    set_depth d
    return t) otherwise refuse 8

-- ---------------------------------------------------------------- words and codes

-- the row whose code stands first in the text, and what comes after the code
unfoldable pub find : {A : Type 0} → List (Row A) → Text → Option (A × Text)
find [] t = none
find ((w ⇒ x) ∷ rows) t = if starts t (b w) then some (x, drop (length (b w)) t) otherwise find rows t

-- the word of the row whose code is the text
unfoldable pub word_for : Table → Text → Option Text
word_for [] t = none
word_for ((k ⇒ w) ∷ rows) t = if same t (b k) then some (b w) otherwise word_for rows t

-- if a row's code stands here, it is read past and the reading goes on with what the row has; otherwise with the other reader
unfoldable pub by_code : {A B : Type 0} → List (Row A) → (A → Reader B) → Reader B → Reader B
by_code rows f m = do
  t ← ahead
  choose (find rows t) (λ r. do go_to r.1; f r.0) m

abbrev pub cases : {B : Type 0} → List (Row (Reader B)) → Reader B → Reader B
cases rows m = by_code rows (λ r. r) m

-- the same, but the code is left for the row's reader to read
unfoldable pub at_code : {B : Type 0} → List (Row (Reader B)) → Reader B → Reader B
at_code rows m = do
  t ← ahead
  choose (find rows t) (λ r. r.0) m

-- the next bytes are the word
unfoldable pub see : String → Reader Bool
see w = the λ s. starts s.rest (b w)

-- if the word stands here, it is read past
unfoldable pub eat : String → Reader Bool
eat w = do
  t ← ahead
  if starts t (b w) then (do go_to (drop (length (b w)) t); return true) otherwise return false

unfoldable pub need : String → Reader (Unit {0})
need w = do
  here ← eat w
  if here then return tt otherwise unfit

-- one byte, whatever it is
unfoldable pub first : Text → Reader ℕ
first [] = unfit
first (x ∷ t) = do
  go_to t
  return x

unfoldable pub any : Reader ℕ
any = do
  t ← ahead
  first t

-- the longest run of bytes that pass the test
unfoldable pub every : (ℕ → Bool) → Reader Text
every p = do
  t ← ahead
  go_to (past p t)
  return (run p t)

-- ---------------------------------------------------------------- loops

-- at most so many steps, less one, as long as the bytes ahead pass the test
unfoldable pub steps : {A : Type 0} → ℕ → (Text → Bool) → (A → Reader A) → A → Reader A
steps zero on step x = refuse 0
steps (suc n) on step x = do
  t ← ahead
  if on t then (do y ← step x; steps n on step y) otherwise return x

-- step after step, as long as the bytes ahead pass the test; each step reads at least one byte, so these are enough
unfoldable pub while : {A : Type 0} → (Text → Bool) → (A → Reader A) → A → Reader A
while on step x = do
  t ← ahead
  steps (suc (length t)) on step x

-- step after step, up to an E, which is read past
unfoldable pub up_to_E : {A : Type 0} → (A → Reader A) → A → Reader A
up_to_E step x = do
  y ← while (λ t. not (starts t (b "E"))) (λ z. do t ← ahead; if same t [] then unfit otherwise step z) x
  need "E"
  return y

-- a reader that puts what it reads behind a list
abbrev pub one_more : Reader Text → List Text → Reader (List Text)
one_more m l = do
  t ← m
  return (l ++ (t ∷ []))
