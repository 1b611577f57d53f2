-- Lists of texts, and the parts of a nested name, as the cycle keeps them.
use Rattle.std.specs.Prelude.{true, ◌≡◌, ℕ, zero, suc, ◌+◌, ◌*◌, ◌<◌, ◌≤◌, min, Bool, false, not, ◌&&◌, List, [], ◌∷◌, length, ◌==◌, nat_lt, Result as Result', Ok, Err, Option, Some, None, slice_index}
use Prim.Native.Char.{code}
use Rattle.grammar.specs.Text.{Text, b, choose, join, if◌then◌otherwise◌}
use Rattle.grammar.specs.Limits.{most_entry_bytes, most_length}
use Rattle.grammar.specs.Reader.{State, Result, ok, refused, Reader, while, one_more}
use Rattle.grammar.specs.Grammar.{reading, Production, ⟨type⟩, ⟨template-param⟩, ⟨unqualified-name⟩, ended, last, only_void}
use Rattle.grammar.specs.Grammar as g
use Rattle.grammar.specs.Loops.{argument, before_E}
use Rattle.parser.specs.Holds.{Halves, Memory, mem, Holds, Stands, Reads, window, keep}
use Rattle.grammar.specs.States.{Progress, Read, read, Refused}
use Rattle.reader.specs.declared.lists.Kind.{Kind}
use Rattle.reader.specs.declared.lists.Kind.TheVariants.{Parameters, Types, Arguments}
use Rattle.reader.specs.declared.lists.Parts.{Parts}
use Rattle.reader.specs.declared.lists.Joined.{Joined}
use Rattle.grammar.specs.declared.refusal.Refusal.{Refusal}
use Rattle.reader.specs.Separators.{before}
use Rattle.grammar.specs.Refusals.{refusal_number}
use Rattle.store.specs.Stack.{Put, newest}
use Rattle.store.specs.declared.stack.Stack.{Stack}
use Rattle.parser.specs.declared.demangler.Demangler.{Demangler}
use Rattle.parser.specs.Demanglers.{state_of, Prepared, OthersStay, lent}

-- where a list of a kind goes on, what one of its texts is, and how many bytes below it are kept
abbrev pub goes_on : Kind → Text → Bool
goes_on Parameters t = not (ended t)
goes_on Types t = before_E t
goes_on Arguments t = before_E t

abbrev pub item_of : Kind → Reader Text
item_of Parameters = reading ⟨type⟩
item_of Types = reading ⟨type⟩
item_of Arguments = argument

abbrev pub kept_by : Kind → ℕ → ℕ
kept_by Parameters d = keep (d + 1)
kept_by Types d = keep (d + 1)
kept_by Arguments d = keep d

-- what a list came to: the state, and the bytes and the number of its texts; or why there is none
pub data Texts : Type 0 where
  Listed : Progress → ℕ → ℕ → Texts
  Unlisted : Refusal → Texts

abbrev pub texts_as : Progress → Result' Joined Refusal → Texts
texts_as p (Ok l) = Listed p l.n l.count
texts_as p (Err e) = Unlisted e

-- what the parts of a nested name came to
pub data Prefix : Type 0 where
  Reached : Progress → Parts → Prefix
  Unreached : Refusal → Prefix

abbrev pub prefix_as : Progress → Result' Parts Refusal → Prefix
prefix_as p (Ok q) = Reached p q
prefix_as p (Err e) = Unreached e

-- the code's list is the grammar's: its texts stand on the stack with ", " between them
pub data Lists (k d : ℕ) (s base : Text) (from : ℕ) (m : Memory) : Texts → Result (List Text) → Type 0 where
  listed : {p : Progress} {n count : ℕ} {ts : List Text} {σ : State} → Stands k d s base from m p n (join (b ", ") ts) σ → count ≡ length ts →
      Lists k d s base from m (Listed p n count) (ok ts σ)
  unlisted : {r : Refusal} → Lists k d s base from m (Unlisted r) (refused (refusal_number r))

abbrev pub ReadsItems : Kind → Text → Memory → Memory → Progress → Texts → Type 0
ReadsItems kind s m m' p r =
    (σ : State) → Holds s m p σ → Lists (kept_by kind p.depth) p.depth s (window m p) p.at m' r (while (goes_on kind) (one_more (item_of kind)) [] σ)

-- a list that is no list is its refusal
abbrev pub refused_of : Texts → Read
refused_of (Unlisted r) = Refused r
refused_of (Listed p n count) = read p n

abbrev pub unlisted_of : Read → Texts
unlisted_of (Refused r) = Unlisted r
unlisted_of (read p n) = Listed p n 0

-- two texts that no entry tells apart: they are the same, or both are too long to be one
pub data Alike (u t : Text) : Type 0 where
  same_text : u ≡ t → Alike u t
  both_long : most_entry_bytes < length u → most_entry_bytes < length t → Alike u t

-- the parts of a nested name stand on the stack with :: between them, or, where they are too long to be an entry, a text
-- that is too long as well
pub record Parted (k d : ℕ) (s base : Text) (from : ℕ) (m : Memory) (p : Progress) (q : Parts) (ps : g.Parts) (σ : State) : Type 0 where
  pub shown : Text
  pub stands : Stands k d s base from m p q.n shown σ
  pub alike : Alike shown (join (b "::") ps.texts)
  pub final : length (join (b "::") ps.texts) ≤ most_entry_bytes → q.last ≡ length (choose (last ps.texts) (λ x. x) [])
  pub within : q.last ≤ q.n
  pub count : q.count ≡ min (length ps.texts) 1
  pub structor : q.structor ≡ ps.structor

pub data Parting (k d : ℕ) (s base : Text) (from : ℕ) (m : Memory) : Prefix → Result g.Parts → Type 0 where
  parted : {p : Progress} {q : Parts} {ps : g.Parts} {σ : State} → Parted k d s base from m p q ps σ → Parting k d s base from m (Reached p q) (ok ps σ)
  unparted : {r : Refusal} → Parting k d s base from m (Unreached r) (refused (refusal_number r))

abbrev pub ReadsPart : (g.Parts → Reader g.Parts) → Text → Memory → Memory → Progress → Parts → Prefix → Type 0
ReadsPart f s m m' p q r =
    (base : Text) (from : ℕ) (ps : g.Parts) (σ : State) → Parted (keep p.depth) p.depth s base from m p q ps σ →
    Parting (keep p.depth) p.depth s base (p.at + 1) m' r (f ps σ)

abbrev pub unprefixed_of : Prefix → Read
unprefixed_of (Unreached r) = Refused r
unprefixed_of (Reached p q) = read p 0

abbrev pub unread_of : Read → Prefix
unread_of (Refused r) = Unreached r
unread_of (read p n) = Reached p (record { n = n; last = 0; count = 0; structor = false })

abbrev pub stops_at : Kind → ℕ → Bool
stops_at Parameters c = c == 46
stops_at Types c = c == 69
stops_at Arguments c = c == 69

abbrev pub ReadsItem : Kind → Text → Memory → Memory → Progress → Read → Type 0
ReadsItem kind s m m' p r = Reads (item_of kind) (kept_by kind p.depth) (p.at + 1) s m m' p r

-- what stands before another text, where those so far have so many bytes with two more for each
abbrev pub before_text : ℕ → Text
before_text n = before (b ", ") n

-- one of the packs that are read in one loop opens
abbrev pub opens_pack : ℕ → ℕ → Bool
opens_pack level c = c == 74 && nat_lt level 64

-- what the innermost of so many packs has
abbrev pub last_size : List ℕ → ℕ → Option ℕ
last_size sizes zero = None
last_size sizes (suc level) = Some (slice_index sizes level)

-- what stands before another part
abbrev pub before_part : ℕ → Text
before_part n = before (b "::") n

-- the list with a text of so many bytes more
abbrev pub listed_by : Joined → ℕ → Joined
listed_by l m = record { n = min (l.n + (2 * min l.count 1 + m)) most_length; count = l.count + 1 }

-- whether a list's texts, the newest on the stack, are a void alone
pub record VoidAlone (l : Joined) (k : Stack) (r : Bool) : Type 0 where
  pub is : (ts : List Text) → l.count ≡ length ts → l.n ≡ min (length (join (b ", ") ts)) most_length → (l.n ≡ 4 → newest k.bytes.now k.top 4 ≡ join (b ", ") ts) → r ≡ only_void ts
  pub four : r ≡ true → l.n ≡ 4

-- the parts with one of so many bytes more
abbrev pub longer_of : Parts → ℕ → Parts
longer_of q m = record { n = min (q.n + (2 * min q.count 1 + m)) most_length; last = m; count = 1; structor = q.structor }

-- the production that a part beginning with c is
unfoldable pub part_of : ℕ → Production
part_of c = if c == (code "T") then ⟨template-param⟩ otherwise ⟨unqualified-name⟩

abbrev pub ReadsNewPart : ℕ → Text → Memory → Memory → Progress → Parts → Prefix → Type 0
ReadsNewPart c s m m' p q r = ReadsPart (g.new_prefix reading (part_of c)) s m m' p q r

abbrev pub ReadsPartText : ℕ → Text → Memory → Memory → Progress → Read → Type 0
ReadsPartText c s m m' p r = Reads (reading (part_of c)) (keep p.depth) (p.at + 1) s m m' p r

-- a constructor or destructor, at C or D
abbrev pub CtorDtor : ℕ → Text → Text → Progress → Parts → Prefix → Type 0
CtorDtor c text text' p q r =
    (s : Text) (store ends : Halves) (base : Text) (from : ℕ) (ps : g.Parts) (σ : State) (x : ℕ) (t : Text) → σ.rest ≡ c ∷ x ∷ t →
    Parted (keep p.depth) p.depth s base from (mem text store ends) p q ps σ →
    Parting (keep p.depth) p.depth s base (p.at + 1) (mem text' store ends) r (g.ctor_dtor_name reading ps σ)

-- ---------------------------------------------------------------- what the functions of lists promise

abbrev pub PutsBefore : ℕ → Stack → Stack → Type 0
PutsBefore n k k' = Put k.bytes.now k'.bytes.now k.top k'.top (before_text n)

abbrev pub Separates : Parts → Stack → Stack → Type 0
Separates q k k' = Put k.bytes.now k'.bytes.now k.top k'.top (before_part q.count)

-- what one part more asks for: parts that are counted as far as it matters, and whose text may become an entry
abbrev pub PreparedFor : Parts → Demangler → Type 0
PreparedFor q d = Prepared d × ((q.n ≤ most_length) × ((q.last ≤ q.n) × (min q.n most_entry_bytes ≤ d.stack.top)))

pub record Structors (c : ℕ) (d d' : Demangler) (q r : Parts) : Type 0 where
  pub others : OthersStay d d'
  pub same : lent d' ≡ lent d
  pub is : CtorDtor c d.stack.bytes.now d'.stack.bytes.now (state_of d) q (Reached (state_of d') r)
