-- The answer of the entry for normal symbols: the normal symbol of an accepted catalogue symbol, or the number of the first refusal.
use Rattle.std.specs.Prelude.{Bool, ◌&&◌, ℕ, ◌*◌, leb, length}
use Rattle.std.proofs.Math.Option.{Option, none, some}
use Rattle.grammar.specs.Text.{Text, if◌then◌otherwise◌}
use Rattle.grammar.specs.Limits.{most_symbol_bytes, least_text, least_store}
use Rattle.grammar.specs.Names.{Answer, named, refusal, Lent, front, mangled_name, demangle, within}
use Rattle.catalogue.specs.Tree.{Enc}
use Rattle.catalogue.specs.Class.{Res, ok, wrong}
use Rattle.catalogue.specs.Normal.{write}
use Rattle.catalogue.specs.Recogniser.{classify}

-- the normal symbol, if there is a tree
abbrev pub normal_in : Res Enc → Option Text
normal_in (ok e us) = some (write e)
normal_in wrong = none

-- 6: read, but no catalogue symbol; 13: the normal symbol is longer than the limit
unfoldable pub normal_told : ℕ → Option Text → Answer
normal_told limit none = refusal 6
normal_told limit (some w) = if leb (length w) limit then named w otherwise refusal 13

-- by what the reading for the name comes to: "Accepted is a symbol whose reading for its name meets none of 1 to 5 and 7 to 11"
unfoldable pub normal_after : ℕ → Text → Answer → Answer
normal_after limit s (named x) = normal_told limit (normal_in (classify s))
normal_after limit s (refusal r) = refusal r

-- the answer for a symbol, where it and its normal symbol have at most so many bytes
unfoldable pub normal_symbol : ℕ → Text → Answer
normal_symbol limit s = normal_after limit s (demangle limit s)

-- ---------------------------------------------------------------- the entry for normal symbols, with its slices

-- the numbers that it needs in each of `ends`, `words`, `tables` and `chains`: two for each byte of a symbol
abbrev pub numbers_for : ℕ → ℕ
numbers_for limit = 2 * limit

abbrev pub least_numbers : ℕ
least_numbers = numbers_for most_symbol_bytes

unfoldable pub normal_work_fits : ℕ → Lent → Bool
normal_work_fits limit l =
    (leb least_text l.text && leb least_store l.store && leb (numbers_for limit) l.ends)
    && (leb (numbers_for limit) l.words && leb (numbers_for limit) l.tables && leb (numbers_for limit) l.chains)

-- 14 is told after 1 to 3 and before the reading, 12 at the end
unfoldable pub normal_answer : ℕ → Lent → Text → Answer
normal_answer limit l s =
    front limit s λ u. if normal_work_fits limit l then within l.out (normal_after limit s (mangled_name u)) otherwise refusal 14
