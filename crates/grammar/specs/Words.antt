-- The words of the tables, as code returns them.
use Rattle.std.specs.Prelude.{◌≡◌, ℕ, ◌≤◌, List, [], ◌∷◌, length, Option as Returned, Some, None, IfSome}
use Rattle.std.specs.Borrow.{Bor}
use Rattle.std.proofs.Math.Option.{Option, none, some}
use Prim.Native.String.{String}
use Rattle.grammar.specs.Text.{Text}
use Rattle.grammar.specs.Tables.{Row, ◌⇒◌, Table, wrappers}
use Rattle.grammar.specs.Reader.{word_for}

-- what the wrappers put behind a type, and what at a slot
unfoldable pub halves : (String × String → String) → List (Row (String × String)) → Table
halves f [] = []
halves f ((k ⇒ w) ∷ rows) = k ⇒ f w ∷ halves f rows

unfoldable pub behind_type : Table
behind_type = halves (λ w. w.0) wrappers

unfoldable pub at_slot : Table
at_slot = halves (λ w. w.1) wrappers

-- the length of the longest word
abbrev pub longest_word : ℕ
longest_word = 70

-- the word that was returned, if one was
abbrev pub word_of : Returned (Bor Text) → Option Text
word_of (Some w) = some w.now
word_of None = none

-- the word for a code of a table was returned, or none if there is none
abbrev pub Spells : Table → Text → Returned (Bor Text) → Type 0
Spells rows code r = (word_of r ≡ word_for rows code) × IfSome r (λ w. length w.now ≤ longest_word)
