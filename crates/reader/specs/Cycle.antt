-- What the members of the cycle promise.
use Rattle.std.specs.Prelude.{◌≡◌, ℕ, ◌+◌, ◌≤◌, ◌∷◌, length, false, Result, Ok, Err}
use Rattle.std.proofs.Math.Option.{some, none}
use Prim.Native.String.{String}
use Rattle.grammar.specs.Text.{Text, b, holds}
use Rattle.grammar.specs.Limits.{most_entry_bytes}
use Rattle.grammar.specs.Tables.{wrappers, letters}
use Rattle.grammar.specs.Reader.{State, Reader, find}
use Rattle.grammar.specs.Grammar.{reading, wrapped, type_inner}
use Rattle.parser.specs.Holds.{Memory, Stands, Refines, Reads, keep, window}
use Rattle.grammar.specs.States.{Progress, Read}
use Rattle.grammar.specs.Grammar as g
use Rattle.grammar.specs.declared.refusal.Refusal.{Refusal}
use Rattle.grammar.specs.declared.refusal.Refusal.TheVariants.{NoRule}
use Rattle.store.specs.Stack.{Put}
use Rattle.parser.specs.declared.demangler.Demangler.{Demangler}
use Rattle.parser.specs.Demanglers.{state_of, memory_of, Held, outcome, lent}
use Rattle.reader.specs.declared.lists.Kind.{Kind}
use Rattle.reader.specs.declared.lists.Joined.{Joined}
use Rattle.reader.specs.declared.lists.Parts.{Parts}
use Rattle.reader.specs.Lists.{texts_as, prefix_as, ReadsItems, ReadsItem, ReadsPart, ReadsNewPart, ReadsPartText}

-- the row of `wrappers` that the byte c is the code of
abbrev pub Wraps : ℕ → String × String → Type 0
Wraps c u = (t : Text) → find wrappers (c ∷ t) ≡ some (u, t)

abbrev pub ReadsWrapped : ℕ → Text → Memory → Memory → Progress → Read → Type 0
ReadsWrapped c s m m' p r = (u : String × String) → Wraps c u → Reads (wrapped reading u) (keep p.depth) (p.at + 1) s m m' p r

-- a name, or a type, of x bytes with its arguments
abbrev pub Instance : (Text → Reader Text) → ℕ → Text → Memory → Memory → Progress → Read → Type 0
Instance f x s m m' p r =
    (base : Text) (from : ℕ) (t : Text) (σ : State) → Stands (keep p.depth) p.depth s base from m p x t σ → length t ≤ most_entry_bytes →
    Refines (keep p.depth) p.depth s base (p.at + 1) m' r (f t σ)

-- ---------------------------------------------------------------- the same of a demangler

-- the symbol and the slices that were lent stay, and A holds
pub record Kept (d d' : Demangler) (A : Type 0) : Type 0 where
  pub symbol : d'.s.now ≡ d.s.now
  pub same : lent d' ≡ lent d
  pub is : A

abbrev pub Wrapped : ℕ → Demangler → Demangler → Result ℕ Refusal → Type 0
Wrapped c d d' r = Kept d d' (ReadsWrapped c d.s.now (memory_of d) (memory_of d') (state_of d) (outcome (state_of d') r))

abbrev pub Instanced : (Text → Reader Text) → ℕ → Demangler → Demangler → Result ℕ Refusal → Type 0
Instanced f x d d' r = Kept d d' (Instance f x d.s.now (memory_of d) (memory_of d') (state_of d) (outcome (state_of d') r))

abbrev pub Itemized : Kind → Demangler → Demangler → Result Joined Refusal → Type 0
Itemized kind d d' r = Kept d d' (ReadsItems kind d.s.now (memory_of d) (memory_of d') (state_of d) (texts_as (state_of d') r))

abbrev pub Item : Kind → Demangler → Demangler → Result ℕ Refusal → Type 0
Item kind d d' r = Kept d d' (ReadsItem kind d.s.now (memory_of d) (memory_of d') (state_of d) (outcome (state_of d') r))

abbrev pub Prefixed : (g.Parts → Reader g.Parts) → Demangler → Demangler → Parts → Result Parts Refusal → Type 0
Prefixed f d d' q r = Kept d d' (ReadsPart f d.s.now (memory_of d) (memory_of d') (state_of d) q (prefix_as (state_of d') r))

abbrev pub PrefixedNew : ℕ → Demangler → Demangler → Parts → Result Parts Refusal → Type 0
PrefixedNew c d d' q r = Kept d d' (ReadsNewPart c d.s.now (memory_of d) (memory_of d') (state_of d) q (prefix_as (state_of d') r))

abbrev pub PartText : ℕ → Demangler → Demangler → Result ℕ Refusal → Type 0
PartText c d d' r = Kept d d' (ReadsPartText c d.s.now (memory_of d) (memory_of d') (state_of d) (outcome (state_of d') r))

-- a type whose first byte is c, which no builtin type has
abbrev pub BehindLetter : ℕ → Demangler → Demangler → Result ℕ Refusal → Type 0
BehindLetter c d d' r =
    Kept d d' ((σ : State) → Held d σ → (t : Text) → σ.rest ≡ c ∷ t →
    find letters σ.rest ≡ none → holds c (b "DNTS0123456789") ≡ false →
    Refines (keep d.state.depth) d.state.depth d.s.now (window (memory_of d) (state_of d)) (d.state.at + 1) (memory_of d') (outcome (state_of d') r) (type_inner reading σ))

-- a constructor or destructor that stands alone was passed over, at its first byte, and the word was put; or there is no second byte
pub data Structor (w : Text) (d d' : Demangler) : Result ℕ Refusal → Type 0 where
  structor : d.state.at + 2 ≤ length d.s.now → d' ≡ record d { state = record d.state { at = d.state.at + 2 }; stack = d'.stack } → lent d' ≡ lent d → Put d.stack.bytes.now d'.stack.bytes.now d.stack.top d'.stack.top w →
      Structor w d d' (Ok (length w))
  short : length d.s.now ≤ d.state.at + 1 → d'.s.now ≡ d.s.now → lent d' ≡ lent d → Structor w d d' (Err NoRule)
