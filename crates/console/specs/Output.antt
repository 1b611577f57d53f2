-- What the programs write for an input: the header, and a line for each line of it. Assumes nothing.
use Rattle.std.specs.Prelude.{Bool, true, false, List, [], ◌∷◌, ◌++◌, eqb}
use Rattle.grammar.specs.Text.{Text, if◌then◌otherwise◌, b}
use Rattle.listing.specs.Listing.{line_feed, in_front, listing}
use Rattle.listing.specs.declared.listing.Kind.{Kind}

unfoldable pub header : Text
header = b "code,bytes,name" ++ (line_feed ∷ [])

-- the lines from a place on, where the line that goes on there has bytes already or has none; at the end it is a line if it has
unfoldable pub lines_on : Bool → Text → List Text
lines_on some [] = if some then [] ∷ [] otherwise []
lines_on some (x ∷ t) = if eqb x line_feed then [] ∷ lines_on false t otherwise in_front x (lines_on true t)

-- all lines of an input: the last one may have no line feed
abbrev pub all_lines : Text → List Text
all_lines t = lines_on false t

unfoldable pub output : Kind → Text → Text
output kind input = header ++ listing kind (all_lines input)
