use Rattle.std.proofs.Common.{rules}
use Rattle.store.proofs.Texts.{places_counted}
use Rattle.store.proofs.stack.slots.Goals as goal

pub loop-init : goal.loop-init
loop-init c = search (rules, c.memchr_iter-items.ensures.value, c.memchr_iter-items.ensures.len, places_counted c.args.text.now)
