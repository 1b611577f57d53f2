-- The numbers of the refusals.
use Rattle.std.specs.Prelude.{ℕ}
use Rattle.grammar.specs.declared.refusal.Refusal.{Refusal}
use Rattle.grammar.specs.declared.refusal.Refusal.TheVariants.{LongSymbol, HighByte, NoFront, NoRule, BytesLeft, NotCatalogue, PastTable, TooDeep}
use Rattle.grammar.specs.declared.refusal.Refusal.TheVariants.{TableFull, ArgumentsFull, LongText, ShortOutput, LongNormalSymbol, ShortWork}

abbrev pub refusal_number : Refusal → ℕ
refusal_number LongSymbol = 1
refusal_number HighByte = 2
refusal_number NoFront = 3
refusal_number NoRule = 4
refusal_number BytesLeft = 5
refusal_number NotCatalogue = 6
refusal_number PastTable = 7
refusal_number TooDeep = 8
refusal_number TableFull = 9
refusal_number ArgumentsFull = 10
refusal_number LongText = 11
refusal_number ShortOutput = 12
refusal_number LongNormalSymbol = 13
refusal_number ShortWork = 14
