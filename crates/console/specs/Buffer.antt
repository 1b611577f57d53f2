-- The input in chunks: what the buffer holds of it, and what was handed over. Assumes nothing.
use Rattle.std.specs.Prelude.{Bool, [], ◌∷◌, ◌++◌, ◌≡◌, ℕ, ◌+◌, ◌-◌, ◌≤◌, eqb, length, take, drop}
use Rattle.grammar.specs.Text.{Text, if◌then◌otherwise◌}
use Rattle.listing.specs.Listing.{line_feed, lines, bytes_taken, listing}
use Rattle.listing.specs.Cut.{cut_lines, column, most_kept}
use Rattle.listing.specs.declared.listing.Kind.{Kind}
use Rattle.console.specs.Output.{header}
use Rattle.console.specs.declared.buffer.Buffer.{Buffer}

abbrev pub part : Text → ℕ → ℕ → Text
part t from to = take (to - from) (drop from t)

-- the bytes that are used
abbrev pub used : Buffer → Text
used b = take b.end b.lines.now

-- the complete lines
abbrev pub waiting : Buffer → Text
waiting b = part b.lines.now b.from b.start

-- how many bytes the line without line feed has
abbrev pub kept : Buffer → ℕ
kept b = b.end - b.start

pub record Nothing (l : Text) (r : Buffer) : Type 0 where
  pub lines : r.lines.now ≡ l
  pub from : r.from ≡ 0
  pub start : r.start ≡ 0
  pub end : r.end ≡ 0

pub record Skips (n : ℕ) (b r : Buffer) : Type 0 where
  pub lent : r.lines.ghost_name ≡ b.lines.ghost_name
  pub lines : r.lines.now ≡ b.lines.now
  pub from : r.from ≡ b.from + n
  pub start : r.start ≡ b.start
  pub end : r.end ≡ b.end

-- ---------------------------------------------------------------- one chunk more

-- the line without line feed is in front
pub record Moves (b r : Buffer) : Type 0 where
  pub is : r.lines.now ≡ part b.lines.now b.start b.end ++ drop (kept b) b.lines.now
  pub from : r.from ≡ 0
  pub start : r.start ≡ 0
  pub end : r.end ≡ kept b
  pub lent : r.lines.ghost_name ≡ b.lines.ghost_name

-- what completes a line that has n bytes
unfoldable pub closing : ℕ → Text
closing n = if eqb n 0 then [] otherwise line_feed ∷ []

pub record EndsLine (b r : Buffer) : Type 0 where
  pub is : used r ≡ used b ++ (line_feed ∷ [])
  pub ends : r.end ≡ b.end + 1
  pub from : r.from ≡ b.from
  pub start : r.start ≡ r.end
  pub lent : r.lines.ghost_name ≡ b.lines.ghost_name
  pub size : length r.lines.now ≡ length b.lines.now

pub record Completes (b r : Buffer) : Type 0 where
  pub is : used r ≡ used b ++ closing (kept b)
  pub ends : r.end ≡ b.end + length (closing (kept b))
  pub from : r.from ≡ b.from
  pub start : r.start ≡ r.end
  pub lent : r.lines.ghost_name ≡ b.lines.ghost_name
  pub size : length r.lines.now ≡ length b.lines.now

-- the first bytes of a part were put behind the others, or all where the line has room for them
pub record Puts (part : Text) (b r : Buffer) : Type 0 where
  pub is : used r ≡ used b ++ take (most_kept - kept b) part
  pub ends : r.end ≡ b.end + length (take (most_kept - kept b) part)
  pub within : r.end ≤ b.end + length part
  pub from : r.from ≡ b.from
  pub start : r.start ≡ b.start
  pub lent : r.lines.ghost_name ≡ b.lines.ghost_name
  pub size : length r.lines.now ≡ length b.lines.now

-- behind the others stand the bytes that are kept of the chunk
pub record Keeps (chunk : Text) (b r : Buffer) : Type 0 where
  pub is : used r ≡ used b ++ cut_lines (kept b) chunk
  pub last : r.end ≡ r.start + column (kept b) chunk
  pub from : r.from ≡ b.from
  pub lent : r.lines.ghost_name ≡ b.lines.ghost_name
  pub size : length r.lines.now ≡ length b.lines.now

-- what `Keeps` says, as far as `rest` is left of the chunk
pub record Begun (chunk rest : Text) (b r : Buffer) : Type 0 where
  pub room : r.end + length rest ≤ length b.lines.now
  pub is : used b ++ cut_lines (kept b) chunk ≡ used r ++ cut_lines (kept r) rest
  pub last : column (kept b) chunk ≡ column (kept r) rest
  pub from : r.from ≡ b.from
  pub lent : r.lines.ghost_name ≡ b.lines.ghost_name
  pub size : length r.lines.now ≡ length b.lines.now

-- what a chunk adds to a line that has n bytes: an empty one is the end of the input, and completes it
unfoldable pub added : ℕ → Text → Text
added n [] = closing n
added n (x ∷ t) = x ∷ t

-- behind the line without line feed, which is now in front, stands what is kept of the chunk
pub record Adds (chunk : Text) (b r : Buffer) : Type 0 where
  pub is : used r ≡ part b.lines.now b.start b.end ++ cut_lines (kept b) (added (kept b) chunk)
  pub last : r.end ≡ r.start + column (kept b) (added (kept b) chunk)
  pub from : r.from ≡ 0
  pub lent : r.lines.ghost_name ≡ b.lines.ghost_name
  pub size : length r.lines.now ≡ length b.lines.now

-- ---------------------------------------------------------------- all chunks so far

-- the input as far as it was read; where it has ended, its last line is completed
unfoldable pub completed : Bool → Text → Text
completed ended all = if ended then all ++ closing (column 0 all) otherwise all

-- with `all` the input as far as it was read, and `handed` what was handed over: the header and the listing of the lines `done`, each cut to the bytes
-- that are kept. The buffer has the others, and the line without line feed
pub record Fed (kind : Kind) (ended : Bool) (all handed : Text) (b : Buffer) : Type 0 where
  pub done : Text
  pub whole : bytes_taken (lines done) ≡ length done
  pub lists : handed ≡ header ++ listing kind (lines done)
  pub is : cut_lines 0 (completed ended all) ≡ done ++ part b.lines.now b.from b.end
  pub last : column 0 (completed ended all) ≡ kept b
