-- What an answer of the code says was read, by the definitions of the walk.
use Rattle.std.specs.Prelude.{Bool, false, ◌≡◌, ℕ, ◌-◌, ◌≤◌, ◌<◌, min, length, drop, Option, Some, None}
use Rattle.grammar.specs.Text.{Text, choose}
use Rattle.grammar.specs.declared.part.Part.{Part}
use Rattle.catalogue.specs.Tree.{Kind, Ty, lit, kind_code}
use Rattle.catalogue.specs.Class.{lit_ok}
use Rattle.catalogue.specs.Recogniser.{Rd, rd, stop, with_code, all_kinds}
use Rattle.normal_walk.specs.Walk.{name, reference, value as value_at, literal as literal_at}
use Rattle.normal_steps.specs.Limits.{most_note}
use Rattle.normal_steps.specs.Parts.{part}
use Rattle.normal_steps.specs.declared.marks.Referred.{Referred}
use Rattle.normal_steps.specs.declared.marks.Valued.{Valued}

-- ---------------------------------------------------------------- source names

-- an identifier from `from` to `to`
pub record NameAt (s : Text) (at from to : ℕ) : Type 0 where
  pub is : name (drop at s) ≡ rd (part s from to) (drop to s)
  pub behind : at ≤ from
  pub some : from < to
  pub inside : to ≤ length s

abbrev pub NameIs : Text → ℕ → Option Part → Type 0
NameIs s at (Some p) = NameAt s at p.from p.to
NameIs s at None = name (drop at s) ≡ stop

-- ---------------------------------------------------------------- references

-- all indexes that are larger answer with this one, which no table reaches
abbrev pub most_index : ℕ
most_index = most_note

pub record RefAt (s : Text) (at i end : ℕ) : Type 0 where
  pub index : ℕ
  pub is : reference (drop at s) ≡ rd index (drop end s)
  pub told : i ≡ min index most_index
  pub behind : at < end
  pub inside : end ≤ length s

abbrev pub RefIs : Text → ℕ → Option Referred → Type 0
RefIs s at (Some r) = RefAt s at r.index r.end
RefIs s at None = reference (drop at s) ≡ stop

-- ---------------------------------------------------------------- literals

-- the digits v are a value of the kind that has the byte
unfoldable pub valid_by : ℕ → Bool → Text → Bool
valid_by c g v = choose (with_code kind_code c all_kinds) (λ k. lit_ok k g v) false

-- what was read is the value of a kind and its digits; `to` is the place behind E
pub record Value (o : Rd Ty) (s : Text) (to kind : ℕ) (minus : Bool) (from : ℕ) : Type 0 where
  pub of : Kind
  pub byte : kind_code of ≡ kind
  pub is : o ≡ rd (lit of minus (part s from (to - 1))) (drop to s)
  pub some : from < to
  pub inside : to ≤ length s

abbrev pub ValueIs : Text → ℕ → Bool → ℕ → Option Valued → Type 0
ValueIs s c g at (Some l) = Value (value_at (with_code kind_code c all_kinds) g (drop at s)) s l.end l.kind l.minus l.from × (at ≤ l.from)
ValueIs s c g at None = value_at (with_code kind_code c all_kinds) g (drop at s) ≡ stop

abbrev pub LitIs : Text → ℕ → Option Valued → Type 0
LitIs s at (Some l) = Value (literal_at (drop at s)) s l.end l.kind l.minus l.from × (at < l.from)
LitIs s at None = literal_at (drop at s) ≡ stop
