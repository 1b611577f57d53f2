-- What the program for names writes for document 01's two lines of input, with the last line feed and without it. Assumes nothing.
use Rattle.std.specs.Prelude.{[], ◌∷◌, ◌++◌, ◌≡◌}
use Rattle.std.proofs.Common.{ap}
use Rattle.grammar.specs.Text.{Text, b, if◌then◌otherwise◌}
use Rattle.listing.specs.Listing.{line_feed, in_front, lines}
use Rattle.listing.specs.Laws.Examples.{two_lines}
use Rattle.listing.specs.declared.listing.Kind.TheVariants.{Names}
use Rattle.console.specs.Output.{header, lines_on, output}

abbrev written : Text
written = b "code,bytes,name" ++ (line_feed ∷ (b "0,3,f()" ++ (line_feed ∷ (b "4,0," ++ (line_feed ∷ [])))))

pub both_ended : output Names (b "_Z1fv" ++ (line_feed ∷ (b "_Z0v" ++ (line_feed ∷ [])))) ≡ written
unfolding output header lines_on lines in_front b if◌then◌otherwise◌
both_ended = ap (λ (t : Text). header ++ t) two_lines

pub last_unended : output Names (b "_Z1fv" ++ (line_feed ∷ b "_Z0v")) ≡ written
unfolding output header lines_on lines in_front b if◌then◌otherwise◌
last_unended = ap (λ (t : Text). header ++ t) two_lines
