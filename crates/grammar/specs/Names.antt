-- The answer for a symbol: the name printed for it, or the number of the first refusal.
use Rattle.std.specs.Prelude.{ℕ, Bool, false, ◌&&◌, ◌||◌, [], ◌∷◌, ◌++◌, length, drop, ◌==◌, nat_le, nat_lt}
use Rattle.grammar.specs.Text.{Text, if◌then◌otherwise◌, choose, each}
use Rattle.grammar.specs.Limits.{least_text, least_store, least_ends}
use Rattle.grammar.specs.Tables.{◌⇒◌}
use Rattle.grammar.specs.Reader.{Result, ok, refused, start, find}
use Rattle.grammar.specs.Grammar.{⟨encoding⟩, reading, ended, slot}

pub data Answer : Type 0 where
  named : Text → Answer
  refusal : ℕ → Answer

unfoldable pub without_slots : Text → Text
without_slots t = each (λ x. if x == slot then [] otherwise x ∷ []) t

-- 5: bytes are left that don't begin with a dot
unfoldable pub finished : Result Text → Answer
finished (ok t s) = if ended s.rest then named (without_slots t) otherwise refusal 5
finished (refused r) = refusal r

-- a byte of 128 or more
unfoldable pub high : Text → Bool
high [] = false
high (x ∷ t) = nat_le 128 x || high t

-- <mangled-name> ::= _Z <encoding>, behind _Z
unfoldable pub mangled_name : Text → Answer
mangled_name t = finished (reading ⟨encoding⟩ (start t))

-- 1: longer than the limit; 2: a byte of 128 or more; 3: neither _Z nor __Z (D-36) in front
unfoldable pub front : ℕ → Text → (Text → Answer) → Answer
front limit t answer =
    if nat_lt limit (length t) then refusal 1 otherwise
    if high t then refusal 2 otherwise choose (find ("_Z" ⇒ tt {0} ∷ "__Z" ⇒ tt {0} ∷ []) t) (λ r. answer r.1) (refusal 3)

-- the answer for a symbol of at most so many bytes
unfoldable pub demangle : ℕ → Text → Answer
demangle limit t = front limit t mangled_name

-- ---------------------------------------------------------------- the entry for names, with its slices

-- the lengths of the slices that a caller lends: the output and the work slices. The entry for names has no use for the last three
pub record Lent : Type 0 where
  pub out : ℕ
  pub text : ℕ
  pub store : ℕ
  pub ends : ℕ
  pub words : ℕ
  pub tables : ℕ
  pub chains : ℕ

unfoldable pub work_fits : Lent → Bool
work_fits l = nat_le least_text l.text && nat_le least_store l.store && nat_le least_ends l.ends

-- 12: the output slice is shorter than the name
unfoldable pub within : ℕ → Answer → Answer
within n (named t) = if nat_le (length t) n then named t otherwise refusal 12
within n (refusal r) = refusal r

-- 14: a work slice is below its constant, told after 1 to 3 and before the reading
unfoldable pub answer : ℕ → Lent → Text → Answer
answer limit l t = front limit t λ u. if work_fits l then within l.out (mangled_name u) otherwise refusal 14

-- the number, the length and the output slice that an answer leaves
unfoldable pub number_of : Answer → ℕ
number_of (named t) = 0
number_of (refusal r) = r

unfoldable pub length_of : Answer → ℕ
length_of (named t) = length t
length_of (refusal r) = 0

unfoldable pub written : Answer → Text → Text
written (named t) out = t ++ drop (length t) out
written (refusal r) out = out
