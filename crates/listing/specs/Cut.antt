-- Lines cut to one byte more than a symbol has: their listing is the same. Assumes nothing.
use Rattle.std.specs.Prelude.{[], ◌∷◌, ℕ, ◌+◌, eqb, ltb}
use Rattle.grammar.specs.Text.{Text, if◌then◌otherwise◌}
use Rattle.grammar.specs.Limits.{most_symbol_bytes}
use Rattle.listing.specs.Listing.{line_feed}

abbrev pub most_kept : ℕ
most_kept = most_symbol_bytes + 1

-- what is kept of a text, where n bytes are kept of the line that it goes on with
unfoldable pub cut_lines : ℕ → Text → Text
cut_lines n [] = []
cut_lines n (x ∷ t) =
    if eqb x line_feed then x ∷ cut_lines 0 t otherwise if ltb n most_kept then x ∷ cut_lines (n + 1) t otherwise cut_lines n t

-- how many bytes are then kept of the line that it ends with
unfoldable pub column : ℕ → Text → ℕ
column n [] = n
column n (x ∷ t) = if eqb x line_feed then column 0 t otherwise if ltb n most_kept then column (n + 1) t otherwise column n t
