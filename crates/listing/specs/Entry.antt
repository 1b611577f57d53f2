-- What the entry for listings leaves before its work slices are cleared. Assumes nothing.
use Rattle.std.specs.Prelude.{List, [], length, Result}
use Rattle.grammar.specs.Text.{Text, if◌then◌otherwise◌}
use Rattle.grammar.specs.declared.refusal.Refusal.{Refusal}
use Rattle.answer.specs.Told.{Slices}
use Rattle.listing.specs.Listing.{lines, fitting, number_for, work_sized}
use Rattle.listing.specs.Lines.{Goes}
use Rattle.listing.specs.declared.listing.Kind.{Kind}
use Rattle.listing.specs.declared.listing.Listed.{Listed}

-- the number is told, and the lines that fit are taken, or none
abbrev pub Tried : Kind → Text → Text → Text → Slices → Result Listed Refusal → Type 0
Tried kind input out out' work r =
    let ss : List Text = fitting kind (length out) (lines input) in
    Goes kind (number_for (work_sized kind work) (lines input) ss) out out' (if work_sized kind work then ss otherwise []) r
