use Rattle.parser.specs.Demanglers.{needs, lacks}
use Rattle.parser.specs.Laws.Demanglers.{ate, ate_none}
use Rattle.parser.proofs.demangler.Demangler.need.Goals as goal

pub returns-then-eat : goal.returns-then-eat
returns-then-eat c =
    let p = ate c.if-eat.true c.eat.ensures in needs p.past.ahead p.is

pub returns-else-eat : goal.returns-else-eat
returns-else-eat c =
    let (e, f) = ate_none c.if-eat.false c.eat.ensures in lacks e f
