-- The limits of document 01, that on symbols as document 02 has it (T-07), and what follows from them for the memory of the reading.
use Rattle.std.specs.Prelude.{ℕ, ◌+◌, ◌*◌}

-- names, types and lists of template arguments that are open at once
abbrev pub most_open : ℕ
most_open = 96

-- entries of a table: substitutions, or template arguments
abbrev pub most_entries : ℕ
most_entries = 1024

-- bytes of a symbol, and of a normal symbol: "The limit on a symbol and on a normal symbol becomes 16,384"
abbrev pub most_symbol_bytes : ℕ
most_symbol_bytes = 16384

-- bytes of a text that is returned
abbrev pub most_text_bytes : ℕ
most_text_bytes = 16384

-- bytes of all entries of a table together
abbrev pub most_entry_bytes : ℕ
most_entry_bytes = 32768

-- ---------------------------------------------------------------- what follows from them

-- the length of a text is counted up to this: far enough above all limits that a text too long to be an entry stays so where some bytes leave
abbrev pub most_length : ℕ
most_length = 2 * most_entry_bytes

-- bytes that a reading may drop from the stack while a text below has to stay whole: 18 at each of 97 depths (`keep` of crate `parser`), 1,746,
-- and some more
abbrev pub most_dropped : ℕ
most_dropped = 2048

-- a full stack keeps so many of its newest bytes: a text that may become an entry is then whole
abbrev pub kept_bytes : ℕ
kept_bytes = most_entry_bytes + most_dropped

-- the stack's length: a text can be put on what is kept
abbrev pub stack_bytes : ℕ
stack_bytes = kept_bytes + most_text_bytes

-- the least lengths of the work slices, in their elements: `text` has the stack, `store` and `ends` have both tables
abbrev pub least_text : ℕ
least_text = stack_bytes

abbrev pub least_store : ℕ
least_store = 2 * most_entry_bytes

abbrev pub least_ends : ℕ
least_ends = 2 * most_entries
