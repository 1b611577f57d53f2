-- The code's answer and the definition's, and the slices that a caller lends.
use Rattle.std.specs.Prelude.{Bool, ◌&&◌, [], ◌≡◌, ℕ, ◌≤◌, leb, length, Result, Ok, Err}
use Rattle.grammar.specs.Text.{Text}
use Rattle.grammar.specs.Limits.{least_text, least_store}
use Rattle.grammar.specs.Names.{written}
use Rattle.grammar.specs.Names as n
use Rattle.store.specs.Stack.{zeros}
use Rattle.grammar.specs.Refusals.{refusal_number}
use Rattle.grammar.specs.declared.refusal.Refusal.{Refusal}

-- ---------------------------------------------------------------- the answer

-- the definition's answer: the length of its name, or the number of its refusal
unfoldable pub told : n.Answer → Result ℕ ℕ
told (n.named t) = Ok (length t)
told (n.refusal r) = Err r

-- the code's answer, with document 01's number for its refusal
abbrev pub numbered : Result ℕ Refusal → Result ℕ ℕ
numbered (Ok n) = Ok n
numbered (Err e) = Err (refusal_number e)

-- document 01's number and value of an answer
abbrev pub number_in : Result ℕ ℕ → ℕ
number_in (Ok n) = 0
number_in (Err k) = k

abbrev pub bytes_in : Result ℕ ℕ → ℕ
bytes_in (Ok n) = n
bytes_in (Err k) = 0

-- the code's answer and the output are the definition's
pub record Tells (a : n.Answer) (before after : Text) (r : Result ℕ Refusal) : Type 0 where
  pub answer : numbered r ≡ told a
  pub out : after ≡ written a before

-- ---------------------------------------------------------------- the slices

-- the slices that a caller lends
pub record Slices : Type 0 where
  pub out : Text
  pub text : Text
  pub store : Text
  pub ends : Text
  pub words : Text
  pub tables : Text
  pub chains : Text

-- those of the entry for normal symbols
abbrev pub normal_slices : Text → Text → Text → Text → Text → Text → Text → Slices
normal_slices out text store ends words tables chains =
    record { out = out; text = text; store = store; ends = ends; words = words; tables = tables; chains = chains }

-- those of the entry for names
abbrev pub slices : Text → Text → Text → Text → Slices
slices out text store ends = normal_slices out text store ends [] [] []

abbrev pub lent : Slices → n.Lent
lent l = record {
  out = length l.out;
  text = length l.text;
  store = length l.store;
  ends = length l.ends;
  words = length l.words;
  tables = length l.tables;
  chains = length l.chains;
}

-- the work slices of both entries have their least lengths, or more; that of `ends` is not the same for both
pub record Long (least : ℕ) (l : Slices) : Type 0 where
  pub text : least_text ≤ length l.text
  pub store : least_store ≤ length l.store
  pub ends : least ≤ length l.ends

abbrev pub fit : ℕ → Slices → Bool
fit least l = leb least_text (length l.text) && leb least_store (length l.store) && leb least (length l.ends)

-- the same of those that only the entry for normal symbols has
pub record LongNumbers (least : ℕ) (l : Slices) : Type 0 where
  pub words : least ≤ length l.words
  pub tables : least ≤ length l.tables
  pub chains : least ≤ length l.chains

abbrev pub numbers_fit : ℕ → Slices → Bool
numbers_fit least l = leb least (length l.words) && leb least (length l.tables) && leb least (length l.chains)

-- all of the work slices of both entries became zero
pub record Cleared (l l' : Slices) : Type 0 where
  pub text : l'.text ≡ zeros (length l.text)
  pub store : l'.store ≡ zeros (length l.store)
  pub ends : l'.ends ≡ zeros (length l.ends)

-- and so did all of the others
pub record NumbersCleared (l l' : Slices) : Type 0 where
  pub words : l'.words ≡ zeros (length l.words)
  pub tables : l'.tables ≡ zeros (length l.tables)
  pub chains : l'.chains ≡ zeros (length l.chains)
