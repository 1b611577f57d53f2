-- The listing: for each line of the input a line with the number, the length and the name or the normal symbol that the symbol gets.
use Rattle.std.specs.Prelude.{Bool, true, false, ◌&&◌, List, [], ◌∷◌, ◌++◌, ◌≡◌, ℕ, ◌+◌, ◌-◌, length, drop, eqb, leb, Result, Ok, Err}
use Prim.Native.Char.{code}
use Rattle.grammar.specs.Text.{Text, if◌then◌otherwise◌, decimal}
use Rattle.grammar.specs.Limits.{most_symbol_bytes, most_text_bytes, least_text, least_store, least_ends}
use Rattle.grammar.specs.Refusals.{refusal_number}
use Rattle.grammar.specs.declared.refusal.Refusal.{Refusal}
use Rattle.grammar.specs.Names.{Answer, named, refusal, Lent, demangle, number_of, length_of}
use Rattle.catalogue.specs.Answer.{normal_symbol, least_numbers}
use Rattle.store.specs.Stack.{zeros}
use Rattle.answer.specs.Told.{Slices, lent}
use Rattle.listing.specs.declared.listing.Kind.{Kind}
use Rattle.listing.specs.declared.listing.Kind.TheVariants.{Names, Symbols}
use Rattle.listing.specs.declared.listing.Listed.{Listed}

abbrev pub line_feed : ℕ
line_feed = 10

-- five digits are enough: the entry tells the number in a byte, and no answer has more than 16,384 bytes (Kinds)
unfoldable pub head : ℕ → ℕ → Text
head number bytes = decimal 5 number ++ (code "," ∷ (decimal 5 bytes ++ (code "," ∷ [])))

unfoldable pub line : ℕ → ℕ → Text → Text
line number bytes name = head number bytes ++ (name ++ (line_feed ∷ []))

unfoldable pub name_of : Answer → Text
name_of (named t) = t
name_of (refusal r) = []

-- the line for an answer
unfoldable pub line_for : Answer → Text
line_for a = line (number_of a) (length_of a) (name_of a)

-- what is listed of a symbol: its name, or its normal symbol
unfoldable pub answer_of : Kind → Text → Answer
answer_of Names s = demangle most_symbol_bytes s
answer_of Symbols s = normal_symbol most_symbol_bytes s

-- the line for a symbol
unfoldable pub listing_line : Kind → Text → Text
listing_line kind s = line_for (answer_of kind s)

-- ---------------------------------------------------------------- lines

-- a byte in front of the first line; where there is none, the line has no line feed and is left out
unfoldable pub in_front : ℕ → List Text → List Text
in_front x [] = []
in_front x (s ∷ ss) = (x ∷ s) ∷ ss

-- the lines that end with a line feed, without it
unfoldable pub lines : Text → List Text
lines [] = []
lines (x ∷ t) = if eqb x line_feed then [] ∷ lines t otherwise in_front x (lines t)

-- the bytes of the lines, with their line feeds
unfoldable pub bytes_taken : List Text → ℕ
bytes_taken [] = 0
bytes_taken (s ∷ ss) = length s + 1 + bytes_taken ss

unfoldable pub listing : Kind → List Text → Text
listing kind [] = []
listing kind (s ∷ ss) = listing_line kind s ++ listing kind ss

-- the first lines, as long as their listing has no more than so many bytes
unfoldable pub fitting : Kind → ℕ → List Text → List Text
fitting kind room [] = []
fitting kind room (s ∷ ss) =
    if leb (length (listing_line kind s)) room then s ∷ fitting kind (room - length (listing_line kind s)) ss otherwise []

-- ---------------------------------------------------------------- the entry for listings, with its slices

abbrev pub least_name : ℕ
least_name = most_text_bytes

-- a listing line has at most so many bytes: two numbers of five digits with their commas, a name, and the line feed
abbrev pub most_line_bytes : ℕ
most_line_bytes = most_text_bytes + 13

-- the entry for normal symbols needs more of `ends`
abbrev pub least_ends_of : Kind → ℕ
least_ends_of Names = least_ends
least_ends_of Symbols = least_numbers

-- and three slices that the entry for names has not
abbrev pub least_numbers_of : Kind → ℕ
least_numbers_of Names = 0
least_numbers_of Symbols = least_numbers

-- the work slices have their least lengths; `out` is the one for a name or a normal symbol
unfoldable pub sized : Kind → Lent → Bool
sized kind l =
    leb least_name l.out && (
    (leb least_text l.text && leb least_store l.store && leb (least_ends_of kind) l.ends)
    && (leb (least_numbers_of kind) l.words && leb (least_numbers_of kind) l.tables && leb (least_numbers_of kind) l.chains)
    )

unfoldable pub work_sized : Kind → Slices → Bool
work_sized kind l = sized kind (lent l)

-- where none of the lines fits
unfoldable pub none_fits : List Text → ℕ
none_fits [] = 0
none_fits (s ∷ ss) = 12

-- by the work slices, the lines, and those of them that fit. 14: a work slice is below its least length; 12: the output is shorter than what
-- is written of the first line; 0 otherwise, where there is no line too
unfoldable pub number_for : Bool → List Text → List Text → ℕ
number_for false ss ts = 14
number_for true ss [] = none_fits ss
number_for true ss (t ∷ ts) = 0

pub record Outcome : Type 0 where
  pub number : ℕ
  pub taken : ℕ
  pub written : ℕ
  pub out : Text
  pub work : Slices

unfoldable pub lists : Kind → ℕ → List Text → Text → Slices → Outcome
lists kind number ss out work = record {
  number = number;
  taken = bytes_taken ss;
  written = length (listing kind ss);
  out = listing kind ss ++ drop (length (listing kind ss)) out;
  work = record {
    out = zeros (length work.out);
    text = zeros (length work.text);
    store = zeros (length work.store);
    ends = zeros (length work.ends);
    words = zeros (length work.words);
    tables = zeros (length work.tables);
    chains = zeros (length work.chains);
  };
}

-- the definition of the entry: with work slices that are too short no line is taken
unfoldable pub listed : Kind → Text → Text → Slices → Outcome
listed kind input out work =
    lists kind (number_for (work_sized kind work) (lines input) (fitting kind (length out) (lines input)))
    (if work_sized kind work then fitting kind (length out) (lines input) otherwise []) out work

-- the number that C is told of the code's result, and how many bytes were taken and written: none where it is an error
abbrev pub number_told : Result Listed Refusal → ℕ
number_told (Ok l) = 0
number_told (Err e) = refusal_number e

abbrev pub taken_told : Result Listed Refusal → ℕ
taken_told (Ok l) = l.taken
taken_told (Err e) = 0

abbrev pub written_told : Result Listed Refusal → ℕ
written_told (Ok l) = l.written
written_told (Err e) = 0

abbrev pub Lists : Kind → Text → Text → Text → Slices → Slices → Result Listed Refusal → Type 0
Lists kind input out out' work work' r =
    ◌≡◌ {A = Outcome} (record { number = number_told r; taken = taken_told r; written = written_told r; out = out'; work = work' }) (listed kind input out work)
