-- A table of texts in two slices: `store` of 32,768 bytes has the texts one after another, `ends` of 1,024 numbers where each ends; the rest
-- may be anything.
use Rattle.std.specs.Prelude.{◌≡◌, Bool, true, false, ◌<◌, List, [], ◌∷◌, ◌++◌, ℕ, ◌+◌, ◌-◌, ◌≤◌, length, take, drop, get_or}
use Rattle.grammar.specs.Text.{Text}
use Rattle.grammar.specs.Limits.{most_entries, most_entry_bytes}
use Rattle.grammar.specs.Reader.{bytes_of}

-- of the n numbers of a slice, w stands in front; what is behind it may be anything
pub record Front (n : ℕ) (w slice : List ℕ) : Type 0 where
  pub rest : List ℕ
  pub is : slice ≡ w ++ rest
  pub size : length slice ≡ n

unfoldable pub concat : List Text → Text
concat [] = []
concat (t ∷ ts) = t ++ concat ts

-- where each text ends, the first one starting at n
unfoldable pub ends_from : ℕ → List Text → List ℕ
ends_from n [] = []
ends_from n (t ∷ ts) = (n + length t) ∷ ends_from (n + length t) ts

pub record Entries (l : List Text) (store ends : List ℕ) (count bytes : ℕ) : Type 0 where
  pub store_is : Front most_entry_bytes (concat l) store
  pub ends_is : Front most_entries (ends_from 0 l) ends
  pub count_is : count ≡ length l
  pub bytes_is : bytes ≡ bytes_of l
  pub most : count ≤ most_entries
  pub room : bytes ≤ most_entry_bytes

-- the two slices are as long as a table's
pub record Sized (store ends : List ℕ) : Type 0 where
  pub store_size : length store ≡ most_entry_bytes
  pub ends_size : length ends ≡ most_entries

-- text k stands from `from` to `to`
pub record Placed (l : List Text) (store : List ℕ) (k from to : ℕ) : Type 0 where
  pub size : to ≡ from + length (get_or l k [])
  pub within : to ≤ most_entry_bytes
  pub is : take (to - from) (drop from store) ≡ get_or l k []

-- whether a table of c texts, of b bytes, has room for one of n bytes more
pub record Room (c b n : ℕ) (q : Bool) : Type 0 where
  pub yes : q ≡ true → (c < most_entries) × (b + n ≤ most_entry_bytes)
  pub no : q ≡ false → c < most_entries → b + n ≤ most_entry_bytes → ⊥
