-- Symbols and what the walk writes for them, and symbols that it refuses, by computation: the catalogue's tables (document 01's cases).
use Rattle.std.specs.Prelude.{Bool, true, false, ◌&&◌, List, [], ◌∷◌, ◌≡◌, refl}
use Rattle.std.proofs.Math.Option.{Option, none, some}
use Prim.Native.String.{String}
use Rattle.grammar.specs.Text.{Text, b, if◌then◌otherwise◌, choose, same, run, past, digit, digit_value, number, decimal}
use Rattle.grammar.specs.Tables.{◌⇒◌}
use Rattle.grammar.specs.Grammar.{index}
use Rattle.catalogue.specs.Bytes.{text_discrete}
use Rattle.catalogue.specs.Tree.{ty_discrete, same_ty}
use Rattle.catalogue.specs.Spelling.{digit_of, base36, ref_digits}
use Rattle.catalogue.specs.Class.{word_byte, reserved, listed, name_ok, numeral, lit_ok, stands, last_is, push_new}
use Rattle.catalogue.specs.Normal.{seek}
use Rattle.catalogue.specs.Recogniser.{cut, read_name, with_code, lead}
use Rattle.catalogue.proofs.Laws.Examples.{Rows, normals, inside, outside}
use Rattle.normal_walk.specs.Walk.{name, reference, literal, add, add_all, wrote, walk_type, walk_types, walk_enc, walk_sym}

-- the walk writes the row's normal symbol
abbrev is : Option Text → Text → Bool
is none n = false
is (some w) n = same w n

abbrev refused : Option Text → Bool
refused none = true
refused (some w) = false

unfoldable pub writes : Rows → Bool
writes [] = true
writes ((w ⇒ (n, p)) ∷ rows) = is (walk_sym (b w)) (b n) && writes rows

unfoldable pub refuses : List String → Bool
refuses [] = true
refuses (w ∷ ws) = refused (walk_sym (b w)) && refuses ws

pub normals_written : writes normals ≡ true
unfolding
    writes normals b if◌then◌otherwise◌ choose same run past digit digit_value number decimal index text_discrete ty_discrete same_ty digit_of base36 ref_digits
    word_byte reserved listed name_ok numeral lit_ok stands last_is push_new seek cut read_name with_code lead
    name reference literal add add_all wrote walk_type walk_types walk_enc walk_sym
normals_written = refl

pub inside_written : writes inside ≡ true
unfolding
    writes inside b if◌then◌otherwise◌ choose same run past digit digit_value number decimal index text_discrete ty_discrete same_ty digit_of base36 ref_digits
    word_byte reserved listed name_ok numeral lit_ok stands last_is push_new seek cut read_name with_code lead
    name reference literal add add_all wrote walk_type walk_types walk_enc walk_sym
inside_written = refl

pub outside_refused : refuses outside ≡ true
unfolding
    refuses outside b if◌then◌otherwise◌ choose same run past digit digit_value number decimal index text_discrete ty_discrete same_ty digit_of base36 ref_digits
    word_byte reserved listed name_ok numeral lit_ok stands last_is push_new seek cut read_name with_code lead
    name reference literal add add_all wrote walk_type walk_types walk_enc walk_sym
outside_refused = refl
