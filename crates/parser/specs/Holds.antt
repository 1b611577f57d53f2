-- What the reader's state and the work slices mean in the grammar.
use Rattle.std.specs.Prelude.{List, ◌++◌, ◌≡◌, ℕ, ◌+◌, ◌*◌, ◌-◌, ◌≤◌, min, leb, length, take, drop}
use Rattle.grammar.specs.Text.{Text, if◌then◌otherwise◌, each}
use Rattle.grammar.specs.Limits.{most_open, most_text_bytes, most_entry_bytes, most_length, kept_bytes}
use Rattle.grammar.specs.Reader.{State, Result, ok, refused, Reader}
use Rattle.grammar.specs.Grammar.{qualifier}
use Rattle.store.specs.Stack.{Stack, Tail, Put, Cut}
use Rattle.store.specs.Table.{Entries}
use Rattle.grammar.specs.States.{Progress, Read, read, Refused, Within, raised_to}
use Rattle.grammar.specs.Refusals.{refusal_number}
use Rattle.grammar.specs.declared.refusal.Refusal.{Refusal}
use Rattle.grammar.specs.declared.refusal.Refusal.TheVariants.{LongText}

-- the substitutions' and the template arguments' half
pub record Halves : Type 0 where
  pub low : List ℕ
  pub high : List ℕ

-- what the work slices hold
pub record Memory : Type 0 where
  pub text : List ℕ
  pub store : Halves
  pub ends : Halves

abbrev pub mem : List ℕ → Halves → Halves → Memory
mem text store ends = record { text = text; store = store; ends = ends }

abbrev pub window : Memory → Progress → Text
window m p = take p.top m.text

-- the symbol's bytes from one place to another
abbrev pub part : Text → ℕ → ℕ → Text
part s from to = take (to - from) (drop from s)

-- the state and the slices hold the grammar's state
pub record Holds (s : Text) (m : Memory) (p : Progress) (σ : State) : Type 0 where
  pub source : length s ≤ most_text_bytes
  pub place : p.at ≤ length s
  pub rest : σ.rest ≡ drop p.at s
  pub depth : σ.depth ≡ p.depth
  pub deep : p.depth ≤ most_open
  pub text : Stack m.text p.top
  pub subs : Entries σ.subs m.store.low m.ends.low p.subs.count p.subs.bytes
  pub args : Entries σ.args m.store.high m.ends.high p.args.count p.args.bytes
  pub cv : σ.cv ≡ each qualifier (part s p.cv.from p.cv.to)
  pub cv_within : Within s p.cv
  pub templated : σ.templated ≡ p.templated

-- the state and the slices hold some state of the grammar
abbrev pub Ready : Text → Memory → Progress → Type 0
Ready s m p = (σ : State) × Holds s m p σ

-- how many of the newest bytes a reading at a depth leaves at least. A literal drops its type, of at most 18 bytes, and a type opens a depth: the
-- deepest reading, one below the last that can be entered, leaves all that a full stack keeps, and each above it 18 bytes less
abbrev pub keep : ℕ → ℕ
keep d = kept_bytes - 18 * (most_open + 1) + 18 * d

-- the text t, of n bytes, was read at depth d and is the newest on the stack, above the base; the place is now at least `from`
pub record Wrote (k d : ℕ) (s base : Text) (from : ℕ) (m : Memory) (p : Progress) (n : ℕ) (t : Text) (σ : State) : Type 0 where
  pub holds : Holds s m p σ
  pub tail : Tail k (window m p) (base ++ t)
  pub size : n ≡ length t
  pub short : length t ≤ most_text_bytes
  pub level : p.depth ≡ d
  pub more : from ≤ p.at

-- the text t stands on the stack above the base; n is its length as far as it matters, and k bytes at least are there
pub record Stands (k d : ℕ) (s base : Text) (from : ℕ) (m : Memory) (p : Progress) (n : ℕ) (t : Text) (σ : State) : Type 0 where
  pub holds : Holds s m p σ
  pub tail : Tail k (window m p) (base ++ t)
  pub size : n ≡ min (length t) most_length
  pub level : p.depth ≡ d
  pub more : from ≤ p.at
  pub least : most_entry_bytes ≤ k
  pub most : k ≤ kept_bytes

-- the code's answer is the grammar's
pub data Refines (k d : ℕ) (s base : Text) (from : ℕ) (m : Memory) : Read → Result Text → Type 0 where
  reads : {p : Progress} {n : ℕ} {t : Text} {σ : State} → Wrote k d s base from m p n t σ → Refines k d s base from m (read p n) (ok t σ)
  refuses : {r : Refusal} → Refines k d s base from m (Refused r) (refused (refusal_number r))

-- a reading of the code is a reader of the grammar, from every state that it holds
abbrev pub Reads : Reader Text → ℕ → ℕ → Text → Memory → Memory → Progress → Read → Type 0
Reads f k from s m m' p r = (σ : State) → Holds s m p σ → Refines k p.depth s (window m p) from m' r (f σ)

-- a text was put on the stack, and the state has the new top
pub record Puts (text text' : Text) (p p' : Progress) (t : Text) : Type 0 where
  pub same : p' ≡ raised_to p p'.top
  pub put : Put text text' p.top p'.top t

-- bytes were removed from the stack, and the state has the new top
pub record Cuts (text text' : Text) (p p' : Progress) (k n : ℕ) : Type 0 where
  pub same : p' ≡ raised_to p p'.top
  pub cut : Cut text text' p.top p'.top k n

-- a text of n bytes returned
unfoldable pub given_of : Progress → ℕ → Read
given_of p n = if leb n most_text_bytes then read p n otherwise Refused LongText

-- a push of the code is one of the grammar, and leaves the stack and the place
pub data Pushes (s : Text) (m : Memory) (n : ℕ) (p : Progress) : Read → Result (Unit {0}) → Type 0 where
  pushed : {σ : State} → Holds s m p σ → Pushes s m n p (read p n) (ok tt σ)
  full : {r : Refusal} → Pushes s m n p (Refused r) (refused (refusal_number r))
