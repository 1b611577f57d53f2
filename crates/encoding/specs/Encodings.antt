-- What the readings of an encoding promise.
use Rattle.std.specs.Prelude.{Bool, ◌&&◌, List, [], ◌++◌, ◌≡◌, ℕ, ◌+◌, ◌≤◌, length, drop, Option as Returned, IfSome, IsSome, Result as Result', Ok, Err}
use Rattle.std.specs.Borrow.{Bor}
use Rattle.grammar.specs.Text.{Text, b, choose, same, each, join}
use Rattle.grammar.specs.Limits.{most_text_bytes}
use Rattle.grammar.specs.Tables.{labels}
use Rattle.grammar.specs.Reader.{State, Result, ok, refused, Reader, onto, go_to, give, find}
use Rattle.grammar.specs.Words.{longest_word, word_of}
use Rattle.grammar.specs.Grammar.{reading, ⟨type⟩, offset, qualifier, only_void, bare_function_type}
use Rattle.store.specs.Stack.{Stack, Tail}
use Rattle.store.specs.Table.{Entries}
use Rattle.grammar.specs.declared.part.Part.{Part}
use Rattle.grammar.specs.States.{Progress, Read, read, Refused, fresh, raised_to}
use Rattle.parser.specs.Holds.{Memory, window, part, Stands, Refines, keep}
use Rattle.parser.specs.declared.demangler.Demangler.{Demangler}
use Rattle.parser.specs.Demanglers.{state_of, memory_of, at_place, outcome, lent}
use Rattle.reader.specs.declared.lists.Joined.{Joined}
use Rattle.reader.specs.Cycle.{Kept}
use Rattle.grammar.specs.Refusals.{refusal_number}
use Rattle.grammar.specs.declared.refusal.Refusal.{Refusal}
use Rattle.grammar.specs.declared.refusal.Refusal.TheVariants.{NoRule}

-- ---------------------------------------------------------------- functions

-- what the qualifiers in a part of the symbol print
abbrev pub qualified_by : Text → ℕ → ℕ → Text
qualified_by s from to = each qualifier (part s from to)

-- a text of n bytes is returned with what the qualifiers print
abbrev pub Qualifies : Text → Memory → Memory → Progress → ℕ → ℕ → ℕ → Read → Type 0
Qualifies s m m' p n from to r =
    (k d : ℕ) (base : Text) (at : ℕ) (t : Text) (σ : State) → Stands k d s base at m p n t σ → Refines k d s base at m' r (give (t ++ qualified_by s from to) σ)

abbrev pub Qualified : Demangler → Demangler → ℕ → Part → Result' ℕ Refusal → Type 0
Qualified d d' n cv r = Kept d d' (Qualifies d.s.now (memory_of d) (memory_of d') (state_of d) n cv.from cv.to (outcome (state_of d') r))

-- whether the parameters, of n bytes, are a void alone at the end of the symbol
abbrev pub OnlyVoid : Text → Memory → Progress → ℕ → ℕ → Bool → Type 0
OnlyVoid s m p n count r =
    (k d : ℕ) (base : Text) (at : ℕ) (ts : List Text) (σ : State) →
    Stands k d s base at m p n (join (b ", ") ts) σ → count ≡ length ts → r ≡ (only_void ts && same σ.rest [])

abbrev pub LoneVoid : Demangler → Joined → Bool → Type 0
LoneVoid d list r = OnlyVoid d.s.now (memory_of d) (state_of d) list.n list.count r

-- parameters behind a text, and qualifiers
abbrev pub with_parameters : Text → Text → Reader Text
with_parameters t q σ = onto (λ ps. give (t ++ b "(" ++ ps ++ b ")" ++ q)) (bare_function_type reading σ)

-- the type returned before a text, and the same
abbrev pub with_returned : Text → Text → Reader Text
with_returned t q σ = onto (λ r. with_parameters (r ++ b " " ++ t) q) (reading ⟨type⟩ σ)

-- a reading goes on from a text of n bytes
abbrev pub GoesOn : (Text → Text → Reader Text) → Text → Memory → Memory → Progress → ℕ → ℕ → ℕ → Read → Type 0
GoesOn f s m m' p n from to r =
    (base : Text) (at : ℕ) (t : Text) (σ : State) → Stands (keep (p.depth + 1)) p.depth s base at m p n t σ →
    Refines (keep p.depth) p.depth s base at m' r (f t (qualified_by s from to) σ)

abbrev pub Going : (Text → Text → Reader Text) → Demangler → Demangler → ℕ → Part → Result' ℕ Refusal → Type 0
Going f d d' n cv r = Kept d d' (GoesOn f d.s.now (memory_of d) (memory_of d') (state_of d) n cv.from cv.to (outcome (state_of d') r))

-- ---------------------------------------------------------------- encodings

-- the label that stands first in the symbol is the word that the code returns
pub record Labels (s : Text) (r : Returned (Bor Text)) : Type 0 where
  pub is : (f : Text → Text → Result Text) (x : Result Text) → choose (find labels s) (λ q. f (b q.0) q.1) x ≡ choose (word_of r) (λ t. f t (drop 2 s)) x
  pub fits : IfSome r (λ w. length w.now ≤ longest_word)
  pub long : IsSome r → 2 ≤ length s

-- the state is empty but for the stack of texts
pub record Fresh (m : Memory) (p : Progress) : Type 0 where
  pub same : p ≡ raised_to fresh p.top
  pub text : Stack m.text p.top
  pub subs : Entries [] m.store.low m.ends.low 0 0
  pub args : Entries [] m.store.high m.ends.high 0 0

abbrev pub Begun : Demangler → Type 0
Begun d = Fresh (memory_of d) (state_of d)

-- the text t, of n bytes, is the newest on the stack, above the base, and so many bytes are left unread as the grammar leaves
pub record Prints (k : ℕ) (s base : Text) (m : Memory) (p : Progress) (n : ℕ) (t : Text) (σ : State) : Type 0 where
  pub place : p.at ≤ length s
  pub rest : σ.rest ≡ drop p.at s
  pub text : Stack m.text p.top
  pub tail : Tail k (window m p) (base ++ t)
  pub size : n ≡ length t
  pub short : length t ≤ most_text_bytes

-- the code's answer is the grammar's
pub data Encodes (k : ℕ) (s base : Text) (m : Memory) : Read → Result Text → Type 0 where
  encodes : {p : Progress} {n : ℕ} {t : Text} {σ : State} → Prints k s base m p n t σ → Encodes k s base m (read p n) (ok t σ)
  refuses : {r : Refusal} → Encodes k s base m (Refused r) (refused (refusal_number r))

-- the same of a demangler, whose symbol and lent slices stay
pub record Encoded (d d' : Demangler) (r : Result' ℕ Refusal) (f : Result Text) : Type 0 where
  pub symbol : d'.s.now ≡ d.s.now
  pub same : lent d' ≡ lent d
  pub is : Encodes (keep 0) d.s.now (window (memory_of d) (state_of d)) (memory_of d') (outcome (state_of d') r) f

-- ---------------------------------------------------------------- thunks

abbrev pub two_offsets : Reader (Unit {0})
two_offsets σ = onto (λ _. offset) (offset σ)

-- the place is behind what the grammar steps over, or nothing of the kind stands there; all but the place stays
pub data Stepped (d d' : Demangler) (σ : State) (x : Result (Unit {0})) : Result' (Unit {0}) Refusal → Type 0 where
  past : {at : ℕ} → at ≤ length d.s.now → d' ≡ at_place d at → x ≡ go_to (drop at d.s.now) σ → Stepped d d' σ x (Ok tt)
  stopped : {at : ℕ} → d' ≡ at_place d at → x ≡ refused 4 → Stepped d d' σ x (Err NoRule)

abbrev pub StepsOver : Reader (Unit {0}) → Demangler → Demangler → Result' (Unit {0}) Refusal → Type 0
StepsOver f d d' r = (σ : State) → σ.rest ≡ drop d.state.at d.s.now → Stepped d d' σ (f σ) r
