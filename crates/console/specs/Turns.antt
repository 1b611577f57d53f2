-- What the turns of reading and writing leave, whatever was read and handed over before them. Assumes nothing.
use Rattle.std.specs.Prelude.{Bool, false, ◌++◌, ◌≡◌, ℕ, ◌<◌, ◌≤◌, List, eqb, length, take, Option, Result, MatchResult, ◌⊎◌}
use Rattle.std.specs.Io.KnownBytes.{Appends, Consumes, IsAtEnd, Keeps}
use Rattle.grammar.specs.Text.{Text}
use Rattle.listing.specs.declared.listing.Kind.{Kind}
use Rattle.console.specs.Output.{output}
use Rattle.console.specs.Buffer.{Fed}
use Rattle.console.specs.declared.buffer.Buffer.{Buffer}
use Rattle.console.specs.declared.failed.Failed.{Failed}
use Rattle.console.specs.declared.failed.Failed.TheVariants.{Input, Output}

-- the bytes that a stream is known to have, if they are known
abbrev pub Known : Type 0
Known = Option (List ℕ)

-- n bytes were read, the first ones of the chunk: none at the end of the input
pub record Reads (chunk : Text) (left left' : Known) (b b' : Buffer) (n : ℕ) : Type 0 where
  pub fed : (kind : Kind) (all handed : Text) → Fed kind false all handed b → Fed kind (eqb n 0) (all ++ take n chunk) handed b'
  pub inside : n ≤ length chunk
  pub read : Consumes left left' (take n chunk)
  pub ended : n ≡ 0 → 0 < length chunk → IsAtEnd left'
  pub lent : b'.lines.ghost_name ≡ b.lines.ghost_name
  pub size : length b'.lines.now ≡ length b.lines.now

-- after a read that failed all is as it was
abbrev pub ReadsOn : Text → Known → Known → Buffer → Buffer → Result ℕ Failed → Type 0
ReadsOn chunk left left' b b' r = MatchResult r (λ n. Reads chunk left left' b b' n) (λ e. (e ≡ Input) × ((b' ≡ b) × Keeps left left'))

-- the bytes were written, or the first of them
abbrev pub Writes : {A : Type 0} → Known → Known → Text → Result A Failed → Type 0
Writes has has' bytes r = MatchResult r (λ _. Appends has has' bytes) (λ e. (e ≡ Output) × ((n : ℕ) × Appends has has' (take n bytes)))

-- what is handed over, the first bytes of the output, is the listing of one line at least; of the buffer only `from` changes
pub record WritesOn {A : Type 0} (kind : Kind) (out : Text) (has has' : Known) (b b' : Buffer) (r : Result A Failed) : Type 0 where
  pub put : ℕ
  pub fed : (ended : Bool) (all handed : Text) → Fed kind ended all handed b → Fed kind ended all (handed ++ take put out) b'
  pub inside : put ≤ length out
  pub more : (ended : Bool) (all handed : Text) → Fed kind ended all handed b → b.from < b'.from
  pub start : b'.start ≡ b.start
  pub end : b'.end ≡ b.end
  pub lines : b'.lines.now ≡ b.lines.now
  pub lent : b'.lines.ghost_name ≡ b.lines.ghost_name
  pub written : Writes has has' (take put out) r
  pub size : length b'.lines.now ≡ length b.lines.now

-- so far some input was read, and its listing written as far as the buffer tells
pub record Goes (kind : Kind) (ended : Bool) (left left' has has' : Known) (b : Buffer) : Type 0 where
  pub all : Text
  pub handed : Text
  pub fed : Fed kind ended all handed b
  pub read : Consumes left left' all
  pub written : Appends has has' handed

-- all of the input was read, up to its end, and the output for it written
pub record Ends (kind : Kind) (left left' has has' : Known) : Type 0 where
  pub all : Text
  pub read : Consumes left left' all
  pub ended : IsAtEnd left'
  pub written : Appends has has' (output kind all)

-- some input was read, and some of the output for it written
pub record Stops (kind : Kind) (left left' has has' : Known) : Type 0 where
  pub all : Text
  pub n : ℕ
  pub read : Consumes left left' all
  pub written : Appends has has' (take n (output kind all))

-- where the run ends, standard error is told nothing
abbrev pub Runs : Kind → Known → Known → Known → Known → Known → Known → Type 0
Runs kind left left' has has' told told' = (Ends kind left left' has has' × Keeps told told') ⊎ Stops kind left left' has has'
