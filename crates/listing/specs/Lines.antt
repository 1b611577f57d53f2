-- The lines that are taken, one after another. Assumes nothing.
use Rattle.std.specs.Prelude.{true, not, List, ◌++◌, ◌≡◌, ℕ, ◌+◌, ◌-◌, ◌≤◌, eqb, length, drop, Result, Ok, Err}
use Rattle.grammar.specs.Text.{Text, if◌then◌otherwise◌, run}
use Rattle.grammar.specs.declared.refusal.Refusal.{Refusal}
use Rattle.grammar.specs.declared.refusal.Refusal.TheVariants.{ShortOutput}
use Rattle.listing.specs.Listing.{lines, bytes_taken, listing, fitting, number_for, number_told, taken_told, written_told}
use Rattle.listing.specs.declared.listing.Kind.{Kind}
use Rattle.listing.specs.declared.listing.Listed.{Listed}

-- the lines ss were taken and listed, and the number is told
pub record Goes (kind : Kind) (number : ℕ) (out out' : Text) (ss : List Text) (r : Result Listed Refusal) : Type 0 where
  pub told : number_told r ≡ number
  pub taken : taken_told r ≡ bytes_taken ss
  pub written : written_told r ≡ length (listing kind ss)
  pub is : out' ≡ listing kind ss ++ drop (length (listing kind ss)) out

-- the same of the lines that fit, with work slices that are long enough
abbrev pub GoesOn : Kind → Text → Text → Text → Result Listed Refusal → Type 0
GoesOn kind input out out' r =
    let ss : List Text = fitting kind (length out) (lines input) in Goes kind (number_for true (lines input) ss) out out' ss r

-- what is told where the next line does not fit
abbrev pub full_at : ℕ → ℕ → Result Listed Refusal
full_at taken written = if eqb taken 0 then Err ShortOutput otherwise Ok (record { taken = taken; written = written })

-- ---------------------------------------------------------------- the first line

-- the bytes up to a line feed
abbrev pub before_feed : Text → Text
before_feed t = run (λ x. not (eqb x 10)) t

-- the place of the next line feed from a place on, or the end
abbrev pub feed_from : Text → ℕ → ℕ
feed_from s at = at + length (before_feed (drop at s))

-- ---------------------------------------------------------------- the loop

-- so many bytes of the input are taken, and so many of the output written
pub record Gone (kind : Kind) (input out out' : Text) (at end : ℕ) : Type 0 where
  pub done : List Text
  pub taken : at ≡ bytes_taken done
  pub written : end ≡ length (listing kind done)
  pub inside : at ≤ length input
  pub room : end ≤ length out
  pub size : length out' ≡ length out
  pub is : out' ≡ listing kind done ++ drop end out
  pub from : fitting kind (length out) (lines input) ≡ done ++ fitting kind (length out - end) (lines (drop at input))
