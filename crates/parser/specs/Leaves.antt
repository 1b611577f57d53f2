-- What the leaves that pass over bytes answer: qualifiers, skipped expressions, and the class that a constructor is named after.
use Rattle.std.specs.Prelude.{Bool, not, ◌≡◌, ℕ, ◌≤◌, eqb, length, drop, Option as Returned, Some, None}
use Rattle.std.proofs.Math.Option.{Option, none, some}
use Rattle.grammar.specs.Text.{Text, b, holds, run, after_last}
use Rattle.grammar.specs.Grammar.{skipped}
use Rattle.grammar.specs.declared.part.Part.{Part}
use Rattle.parser.specs.Holds.{part}

-- the byte is a qualifier of a nested name
abbrev pub qualifies : ℕ → Bool
qualifies c = holds c (b "KVrRO")

-- what is left behind a skipped expression
unfoldable pub left_at : Text → Returned ℕ → Option Text
left_at s (Some e) = some (drop e s)
left_at s None = none

abbrev pub Skipped_inside : Text → ℕ → Returned ℕ → Type 0
Skipped_inside s at (Some e) = (at ≤ e) × (e ≤ length s)
Skipped_inside s at None = Unit {0}

pub record Skips (s : Text) (at : ℕ) (r : Returned ℕ) : Type 0 where
  pub is : left_at s r ≡ skipped (drop at s) 1
  pub inside : Skipped_inside s at r

-- a text up to its first <
abbrev pub unargued : Text → Text
unargued t = run (λ x. not (eqb x 60)) t

-- the class of a constructor, by the text of the part before it
unfoldable pub class_in : Text → Text
class_in t = after_last (b "::") (unargued t) (unargued t)

-- r is a part of the text t: the class in it
pub record Classed (t : Text) (r : Part) : Type 0 where
  pub is : part t r.from r.to ≡ class_in t
  pub inside : (r.from ≤ r.to) × (r.to ≤ length t)
