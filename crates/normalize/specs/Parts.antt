-- What the parts of the entry promise.
use Rattle.std.specs.Prelude.{ℕ}
use Rattle.grammar.specs.Text.{Text}
use Rattle.grammar.specs.Limits.{most_symbol_bytes}
use Rattle.grammar.specs.Names.{Answer, within}
use Rattle.catalogue.specs.Recogniser.{classify}
use Rattle.catalogue.specs.Answer.{normal_in, normal_told}

-- the answer for an accepted symbol, where the output slice has n bytes
abbrev pub accepted_answer : ℕ → Text → Answer
accepted_answer n s = within n (normal_told most_symbol_bytes (normal_in (classify s)))
