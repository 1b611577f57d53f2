-- The lengths of what is kept while a normal symbol is written. A symbol has at most as many nodes and entries as bytes.
use Rattle.std.specs.Prelude.{ℕ, ◌*◌}
use Rattle.grammar.specs.Limits.{most_symbol_bytes}

-- where the second half of a slice of numbers begins
abbrev pub middle : ℕ
middle = most_symbol_bytes

-- the length of `out`: at most four bytes are written for each byte that is read
abbrev pub out_length : ℕ
out_length = 4 * most_symbol_bytes

-- a number of a slice has 16 bits
abbrev pub most_note : ℕ
most_note = 65536
