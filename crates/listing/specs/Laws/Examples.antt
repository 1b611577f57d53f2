-- The listings of document 01, two lines of input, without the header. Assumes nothing.
use Rattle.std.specs.Prelude.{[], ◌∷◌, ◌++◌, ◌≡◌}
use Rattle.std.proofs.Common.{ap, ap₂}
use Rattle.grammar.specs.Text.{Text, b, if◌then◌otherwise◌, decimal}
use Rattle.grammar.specs.Names.{number_of, length_of}
use Rattle.catalogue.proofs.Laws.Starred.{listed_answered}
use Rattle.listing.specs.Listing.{line_feed, head, line, name_of, line_for, answer_of, listing_line, in_front, lines, listing}
use Rattle.listing.specs.declared.listing.Kind.TheVariants.{Names, Symbols}

-- the two symbols, a line each
abbrev input : Text
input = b "_Z1fv" ++ (line_feed ∷ (b "_Z0v" ++ (line_feed ∷ [])))

pub two_lines : listing Names (lines input) ≡ b "0,3,f()" ++ (line_feed ∷ (b "4,0," ++ (line_feed ∷ [])))
unfolding listing lines in_front listing_line answer_of line_for line head decimal name_of number_of length_of if◌then◌otherwise◌ b
two_lines = ap₂ (λ (s t : Text). s ++ (t ++ [])) (ap line_for listed_answered.0) (ap line_for listed_answered.1.0)

pub two_normals : listing Symbols (lines input) ≡ b "0,5,_Z1fv" ++ (line_feed ∷ (b "4,0," ++ (line_feed ∷ [])))
unfolding listing lines in_front listing_line answer_of line_for line head decimal name_of number_of length_of if◌then◌otherwise◌ b
two_normals = ap₂ (λ (s t : Text). s ++ (t ++ [])) (ap line_for listed_answered.1.1.0) (ap line_for listed_answered.1.1.1.0)
