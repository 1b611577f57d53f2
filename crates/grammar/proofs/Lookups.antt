-- What a word's look-up in a table computes with. Assumes nothing.
use Rattle.grammar.specs.Text.{b, if◌then◌otherwise◌, same}
use Rattle.grammar.specs.Tables.{letters, d_letters, operators, labels, abbreviations, qualifiers, wrappers}
use Rattle.grammar.specs.Reader.{word_for}
use Rattle.grammar.specs.Words.{halves, behind_type, at_slot}

-- says nothing: where it is opened, all that it names is, and an attribute cannot name if◌then◌otherwise◌
unfoldable pub looked_up : Type 0
unfolding if◌then◌otherwise◌ b same word_for letters d_letters operators labels abbreviations qualifiers wrappers halves behind_type at_slot
looked_up = Unit {0}
