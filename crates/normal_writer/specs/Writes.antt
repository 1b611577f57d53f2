-- What the writing of a normal symbol promises.
use Rattle.std.specs.Prelude.{Bool, false, [], ◌≡◌, ℕ, ◌+◌, ◌≤◌, length, drop, Option, Some, None}
use Rattle.std.proofs.Math.Option.{Option as Normal, none, some}
use Rattle.grammar.specs.Text.{Text}
use Rattle.grammar.specs.Limits.{most_symbol_bytes}
use Rattle.store.specs.Table.{Front}
use Rattle.catalogue.specs.Spelling.{name_bytes}
use Rattle.normal_walk.specs.Walk.{name}
use Rattle.normal_nodes.specs.Nodes.{Notes, notes, Got, got, bad, with, begun, note_at_scoped, at_function, note_at_end, note_parts, note_types}
use Rattle.normal_steps.specs.Limits.{out_length}
use Rattle.normal_steps.specs.States.{begun_at}
use Rattle.normal_steps.specs.Carries.{Sized, Held}
use Rattle.normal_steps.specs.declared.state.Writer.{Writer}

-- the symbol is short, and the slices have their lengths; what they and the state have may be anything
pub record Lent (w : Writer) : Type 0 where
  pub short : length w.s.now ≤ most_symbol_bytes
  pub out : length w.out.now ≡ out_length
  pub numbers : Sized w.ends.now w.words.now w.tables.now w.chains.now

-- the normal symbol stands in `out`, and the state says what is used of the slices
pub data Writes (w : Writer) : Option (Unit {0}) → Normal Text → Type 0 where
  writes : {σ : Notes} → Held w σ → Writes w (Some tt) (some σ.out)
  outside : Writes w None none

-- ---------------------------------------------------------------- names

-- the word t is written and taken, and nothing is noted
pub record Begins (t : Text) (w : Writer) : Type 0 where
  pub is : w.state ≡ begun_at (length t) (length t)
  pub out : Front out_length t w.out.now
  pub numbers : Sized w.ends.now w.words.now w.tables.now w.chains.now

-- a function's name was written, and whether it has a K
pub data Heads (w : Writer) : Option Bool → Got Bool → Type 0 where
  heads : {k : Bool} {σ : Notes} → Held w σ → 2 ≤ w.state.at → Heads w (Some k) (got k σ)
  nameless : Heads w None bad

-- a source name behind _Z
abbrev pub at_plain : Text → Got Bool
at_plain t = with (name t) (λ n r. got false (begun (name_bytes n) r))

abbrev pub Plain : Text → Writer → Option Bool → Type 0
Plain s w r = Heads w r (at_plain (drop 2 s))

-- a nested name, behind the word t
abbrev pub Scoped : Text → Bool → Text → Writer → Option Bool → Type 0
Scoped t k s w r = (m : ℕ) → length s ≤ m + length t → Heads w r (note_at_scoped k (note_parts m (length t) (notes t [] [] 0 (drop (length t) s))))

abbrev pub Functions : Text → Writer → Option Bool → Type 0
Functions s w r = (m : ℕ) → length s ≤ m + 3 → Heads w r (at_function (drop 2 s) (λ from σ. note_parts m from σ))

-- ---------------------------------------------------------------- types

-- the types to the end were written
pub data Ended (w : Writer) : Option (Unit {0}) → Got (Unit {0}) → Type 0 where
  ended : {σ : Notes} → Held w σ → Ended w (Some tt) (got tt σ)
  broken : Ended w None bad

-- none, where nothing is left
abbrev pub Types : Writer → Writer → Option (Unit {0}) → Type 0
Types w w' r = (σ : Notes) → Held w σ → (m : ℕ) → length w.s.now + 1 ≤ m + w.state.at → Ended w' r (note_at_end σ σ.rest (λ ρ. note_types m ρ))
