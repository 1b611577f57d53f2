use native.Mathlib.Omega.{arith}
use Rattle.normalize.specs.Laws.Answers.{reading_is}
use Rattle.normalize.proofs.reading.accepted.Goals as goal

pub returns-clause-told : goal.returns-clause-told
returns-clause-told c =
    let w = c.args.work.now in
    reading_is c.args.s.now _ w.text.now w.store.now w.ends.now c.demangle_uncleared.result c.demangle_uncleared.ensures.told (omega arith) c.requires
