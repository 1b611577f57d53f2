-- A demangler as the laws see it: the symbol, the texts of the work slices and the state; and what its methods promise.
use Rattle.std.specs.Prelude.{◌≡◌, ℕ, ◌+◌, Bool, true, false, List, [], ◌∷◌, ◌++◌, ◌<◌, ◌≤◌, min, leb, length, take, drop, Result, Ok, Err}
use Rattle.std.proofs.Math.Option.{some}
use Rattle.grammar.specs.Text.{Text, b, if◌then◌otherwise◌, choose, holds, same, starts}
use Rattle.grammar.specs.Limits.{most_open, most_text_bytes, most_entries, most_entry_bytes, least_text, least_store, least_ends, most_length, kept_bytes}
use Rattle.grammar.specs.Tables.{d_letters, wrappers}
use Rattle.grammar.specs.Reader.{State, Reader, push_sub, push_arg, recorded, give, refuse, by_code, find, word_for}
use Rattle.grammar.specs.Grammar.{last, slot, at_slots, literal}
use Rattle.grammar.specs.Words.{at_slot}
use Rattle.grammar.specs.States.{Progress, Read, read, Refused, fresh}
use Rattle.grammar.specs.declared.refusal.Refusal.{Refusal}
use Rattle.grammar.specs.declared.refusal.Refusal.TheVariants.{NoRule, TooDeep, LongText}
use Rattle.parser.specs.declared.demangler.Demangler.{Demangler}
use Rattle.parser.specs.Holds.{Memory, Halves, mem, window, Holds, Ready, Stands, Refines, Reads, Pushes}
use Rattle.parser.specs.Wraps.{Wrapper}

-- ---------------------------------------------------------------- a demangler taken apart

abbrev pub state_of : Demangler → Progress
state_of d = record {
  at = d.state.at;
  depth = d.state.depth;
  top = d.stack.top;
  subs = record { count = d.subs.count; bytes = d.subs.used };
  args = record { count = d.args.count; bytes = d.args.used };
  cv = d.state.cv;
  templated = d.state.templated;
}

abbrev pub memory_of : Demangler → Memory
memory_of d = mem d.stack.bytes.now (record { low = d.subs.bytes.now; high = d.args.bytes.now }) (record { low = d.subs.ends.now; high = d.args.ends.now })

-- the slices that it was lent, each by its ghost name
abbrev pub lent : Demangler → List ℕ
lent d = d.stack.bytes.ghost_name ∷ d.subs.bytes.ghost_name ∷ d.subs.ends.ghost_name ∷ d.args.bytes.ghost_name ∷ d.args.ends.ghost_name ∷ []

abbrev pub Held : Demangler → State → Type 0
Held d σ = Holds d.s.now (memory_of d) (state_of d) σ

-- it holds some state of the grammar
abbrev pub Prepared : Demangler → Type 0
Prepared d = Ready d.s.now (memory_of d) (state_of d)

-- ---------------------------------------------------------------- where a reading begins

-- the work slices have their least lengths
pub record Least (text store ends : Text) : Type 0 where
  pub text_size : length text ≡ least_text
  pub store_size : length store ≡ least_store
  pub ends_size : length ends ≡ least_ends

abbrev pub halved : ℕ → List ℕ → Halves
halved n l = record { low = take n l; high = drop n l }

-- nothing is read yet, and the tables have their halves of the slices
pub record Begins (s text store ends : Text) (d : Demangler) : Type 0 where
  pub symbol : d.s.now ≡ s
  pub state : state_of d ≡ fresh
  pub memory : memory_of d ≡ mem text (halved most_entry_bytes store) (halved most_entries ends)

-- ---------------------------------------------------------------- bytes

abbrev pub at_place : Demangler → ℕ → Demangler
at_place d at = record d { state = record d.state { at = at } }

abbrev pub at_depth : Demangler → ℕ → Demangler
at_depth d depth = record d { state = record d.state { depth = depth } }

-- the next byte was passed over
pub data Takes (d d' : Demangler) : Result ℕ Refusal → Type 0 where
  takes : {c : ℕ} → drop d.state.at d.s.now ≡ c ∷ drop (d.state.at + 1) d.s.now → d' ≡ at_place d (d.state.at + 1) → Takes d d' (Ok c)
  ends : drop d.state.at d.s.now ≡ [] → d' ≡ d → Takes d d' (Err NoRule)

-- the byte c was passed over, if it was the next one
pub data Eats (c : ℕ) (d d' : Demangler) : Bool → Type 0 where
  eats : starts (drop d.state.at d.s.now) (c ∷ []) ≡ true → d' ≡ at_place d (d.state.at + 1) → Eats c d d' true
  stays : starts (drop d.state.at d.s.now) (c ∷ []) ≡ false → d' ≡ d → Eats c d d' false

pub data Needs (c : ℕ) (d d' : Demangler) : Result (Unit {0}) Refusal → Type 0 where
  needs : starts (drop d.state.at d.s.now) (c ∷ []) ≡ true → d' ≡ at_place d (d.state.at + 1) → Needs c d d' (Ok tt)
  lacks : starts (drop d.state.at d.s.now) (c ∷ []) ≡ false → d' ≡ d → Needs c d d' (Err NoRule)

-- a reading more is open, or too many were
pub data Enters (d d' : Demangler) : Result (Unit {0}) Refusal → Type 0 where
  enters : d.state.depth < most_open → d' ≡ at_depth d (d.state.depth + 1) → Enters d d' (Ok tt)
  deep : most_open ≤ d.state.depth → d' ≡ d → Enters d d' (Err TooDeep)

-- ---------------------------------------------------------------- readings

abbrev pub outcome : Progress → Result ℕ Refusal → Read
outcome p (Ok n) = read p n
outcome p (Err e) = Refused e

-- the method is a reader of the grammar, from every state that the demangler holds
pub record Parses (f : Reader Text) (k from : ℕ) (d d' : Demangler) (r : Result ℕ Refusal) : Type 0 where
  pub symbol : d'.s.now ≡ d.s.now
  pub same : lent d' ≡ lent d
  pub reads : Reads f k from d.s.now (memory_of d) (memory_of d') (state_of d) (outcome (state_of d') r)

-- all is as it was, but for the place and the texts on the stack
abbrev pub OthersStay : Demangler → Demangler → Type 0
OthersStay d d' = d' ≡ record d { state = record d.state { at = d'.state.at }; stack = d'.stack }

-- all is as it was, but for the texts on the stack
abbrev pub StackAlone : Demangler → Demangler → Type 0
StackAlone d d' = d' ≡ record d { stack = d'.stack }

-- and for the substitutions
abbrev pub StackAndSubs : Demangler → Demangler → Type 0
StackAndSubs d d' = d' ≡ record d { stack = d'.stack; subs = d'.subs }

-- a reading that calls no other back: whatever it answers, it moves in the symbol and puts texts on the stack, and leaves all else
pub record Leaf (f : Reader Text) (k from : ℕ) (d d' : Demangler) (r : Result ℕ Refusal) : Type 0 where
  pub parses : Parses f k from d d' r
  pub others : OthersStay d d'

-- ---------------------------------------------------------------- texts on the stack

-- the length of a text that is returned
unfoldable pub given_length : ℕ → Result ℕ Refusal
given_length n = if leb n most_text_bytes then Ok n otherwise Err LongText

-- the c bytes below the newest m went behind them, with a space between
pub record Turned (c m : ℕ) (text text' : List ℕ) (p p' : Progress) : Type 0 where
  pub holds : (s : Text) (store ends : Halves) (σ : State) → Holds s (mem text store ends) p σ → Holds s (mem text' store ends) p' σ
  pub stands :
      (k d : ℕ) (s base : Text) (from : ℕ) (store ends : Halves) (x y : Text) (σ : State) → length x ≡ c → length y ≡ m →
      Stands k d s base from (mem text store ends) p (c + m) (x ++ y) σ → Stands k d s base from (mem text' store ends) p' (m + 1 + c) (y ++ b " " ++ x) σ
  pub least : m + 1 + c ≤ p'.top

pub record Turns (c m : ℕ) (d d' : Demangler) : Type 0 where
  pub others : StackAlone d d'
  pub same : lent d' ≡ lent d
  pub turned : Turned c m d.stack.bytes.now d'.stack.bytes.now (state_of d) (state_of d')

-- ---------------------------------------------------------------- entries

abbrev pub pushed_as : Progress → ℕ → Result (Unit {0}) Refusal → Read
pushed_as p n (Ok u) = read p n
pushed_as p n (Err e) = Refused e

-- the newest n bytes were pushed onto a table, as the grammar's push does, or there was no room; all else is as in o
pub record PushesOnto (push : Text → Reader (Unit {0})) (n : ℕ) (d o d' : Demangler) (r : Result (Unit {0}) Refusal) : Type 0 where
  pub others : d' ≡ o
  pub same : lent d' ≡ lent d
  pub prepared : Prepared d → Prepared d'
  pub is :
      (k l : ℕ) (s base : Text) (from : ℕ) (t : Text) (σ : State) → Stands k l s base from (memory_of d) (state_of d) n t σ →
      Pushes s (memory_of d') n (state_of d') (pushed_as (state_of d') n r) (push t σ)

-- they became an entry, or a template argument
abbrev pub PushesSub : ℕ → Demangler → Demangler → Result (Unit {0}) Refusal → Type 0
PushesSub n d d' r = PushesOnto push_sub n d (record d { subs = d'.subs }) d' r

abbrev pub PushesArg : ℕ → Demangler → Demangler → Result (Unit {0}) Refusal → Type 0
PushesArg n d d' r = PushesOnto push_arg n d (record d { args = d'.args }) d' r

-- the newest n bytes became an entry and were returned
pub record Records (n : ℕ) (d d' : Demangler) (r : Result ℕ Refusal) : Type 0 where
  pub others : d' ≡ record d { subs = d'.subs }
  pub same : lent d' ≡ lent d
  pub is :
      (k l : ℕ) (s base : Text) (from : ℕ) (t : Text) (σ : State) → Stands k l s base from (memory_of d) (state_of d) n t σ →
      Refines k l s base from (memory_of d') (outcome (state_of d') r) (recorded t σ)

-- why a text that is too long to be returned is refused
abbrev pub TooLong : ℕ → Demangler → Refusal → Type 0
TooLong n d e =
    (k l : ℕ) (s base : Text) (from : ℕ) (m m' : Memory) (t : Text) (σ : State) → Holds s m (state_of d) σ → n ≡ min (length t) most_length →
    most_text_bytes < n → Refines k l s base from m' (Refused e) (recorded t σ)

-- whether the newest n bytes are the newest entry
abbrev pub Newest : ℕ → Demangler → Bool → Type 0
Newest n d q =
    (k l : ℕ) (s base : Text) (from : ℕ) (t : Text) (σ : State) → Stands k l s base from (memory_of d) (state_of d) n t σ → length t ≤ most_text_bytes →
    q ≡ choose (last σ.subs) (same t) false

-- ---------------------------------------------------------------- types and literals

-- a builtin type of two letters, at D
pub record BuiltinD (d d' : Demangler) (r : Result ℕ Refusal) : Type 0 where
  pub symbol : d'.s.now ≡ d.s.now
  pub others : OthersStay d d'
  pub same : lent d' ≡ lent d
  pub is :
      (rest : Text) (σ : State) → σ.rest ≡ 68 ∷ rest → Held d σ →
      Refines kept_bytes d.state.depth d.s.now (window (memory_of d) (state_of d)) (d.state.at + 2) (memory_of d') (outcome (state_of d') r)
      (by_code d_letters (λ w. give (b w)) (refuse 4) σ)

-- a wrapper, whose byte is c, was put at each slot of the newest n bytes, or behind them
pub record Wraps (c n : ℕ) (d d' : Demangler) (r : Result ℕ Refusal) : Type 0 where
  pub symbol : d'.s.now ≡ d.s.now
  pub others : StackAndSubs d d'
  pub same : lent d' ≡ lent d
  pub is :
      (k l : ℕ) (s base : Text) (from : ℕ) (t : Text) (σ : State) (u : Wrapper) → ((rest : Text) → find wrappers (c ∷ rest) ≡ some (u, rest)) →
      Stands k l s base from (memory_of d) (state_of d) n t σ →
      Refines k l s base from (memory_of d') (outcome (state_of d') r)
      (recorded (if holds slot t then at_slots (b u.1) t otherwise t ++ b u.0) σ)

-- it was put at each slot of them
pub record WrapsSlots (c n : ℕ) (d d' : Demangler) (r : Result ℕ Refusal) : Type 0 where
  pub symbol : d'.s.now ≡ d.s.now
  pub others : StackAndSubs d d'
  pub same : lent d' ≡ lent d
  pub is :
      (k l : ℕ) (s base : Text) (from : ℕ) (t : Text) (σ : State) (w : Text) → word_for at_slot (c ∷ []) ≡ some w →
      Stands k l s base from (memory_of d) (state_of d) n t σ →
      Refines k l s base from (memory_of d') (outcome (state_of d') r) (recorded (at_slots w t) σ)

-- the newest n bytes, with the c below them and the word at each slot, came in the place of all of them: an entry
pub record Weaves (n c : ℕ) (word : Text) (d d' : Demangler) (r : Result ℕ Refusal) : Type 0 where
  pub symbol : d'.s.now ≡ d.s.now
  pub others : StackAndSubs d d'
  pub same : lent d' ≡ lent d
  pub is :
      (k l : ℕ) (s base : Text) (from : ℕ) (x y : Text) (σ : State) → length x ≡ c → length y ≡ n →
      Stands k l s base from (memory_of d) (state_of d) (c + n) (x ++ y) σ →
      Refines k l s base from (memory_of d') (outcome (state_of d') r) (recorded (at_slots (x ++ word) y) σ)

-- the newest m bytes are a member, the c below them its class
pub record WrapsMember (c m : ℕ) (d d' : Demangler) (r : Result ℕ Refusal) : Type 0 where
  pub symbol : d'.s.now ≡ d.s.now
  pub others : StackAndSubs d d'
  pub same : lent d' ≡ lent d
  pub is :
      (k l : ℕ) (s base : Text) (from : ℕ) (x y : Text) (σ : State) → length x ≡ c → length y ≡ m →
      Stands k l s base from (memory_of d) (state_of d) (c + m) (x ++ y) σ →
      Refines k l s base from (memory_of d') (outcome (state_of d') r)
      (recorded (if holds slot y then at_slots (x ++ b "::*") y otherwise y ++ b " " ++ x ++ b "::*") σ)

-- the newest n bytes, a type's text, were replaced by the literal of that type
pub record Prints (value : Text) (n : ℕ) (d d' : Demangler) (r : Result ℕ Refusal) : Type 0 where
  pub others : StackAlone d d'
  pub same : lent d' ≡ lent d
  pub is :
      (k l : ℕ) (s base : Text) (from : ℕ) (t : Text) (σ : State) →
      Stands (k + 18) l s base from (memory_of d) (state_of d) n t σ → length t ≤ most_text_bytes → most_entry_bytes ≤ k →
      Refines k l s base from (memory_of d') (outcome (state_of d') r) (give (literal t value) σ)
