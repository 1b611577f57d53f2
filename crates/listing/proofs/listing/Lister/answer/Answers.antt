use Rattle.listing.specs.Laws.Kinds.{name_told, symbol_told}
use Rattle.listing.proofs.listing.Lister.answer.Goals as goal

pub returns-in-Names-clause-told : goal.returns-in-Names-clause-told
returns-in-Names-clause-told c =
    name_told c.args.s.now c.args.self.now.long c.in-Names.is c.demangle_uncleared.ensures.told

pub returns-in-Symbols-clause-told : goal.returns-in-Symbols-clause-told
returns-in-Symbols-clause-told c =
    symbol_told c.args.s.now c.args.self.now.long c.in-Symbols.is c.normalize_uncleared.ensures.told
