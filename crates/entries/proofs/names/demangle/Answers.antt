use Rattle.entries.specs.Laws.Outcome.{told_demangles}
use Rattle.entries.proofs.names.demangle.Goals as goal

pub returns-clause-left : goal.returns-clause-left
returns-clause-left c =
    let w = c.args.work.now in
    let s = c.demangle_uncleared-answer.ensures.same in
    told_demangles c.args.s.now c.args.out.now w.text.now w.store.now w.ends.now c.clear.ensures.cleared s.text_length s.store_length s.ends_length c.demangle_uncleared-answer.ensures.told
