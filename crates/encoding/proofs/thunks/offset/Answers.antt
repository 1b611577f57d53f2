use Rattle.encoding.specs.Laws.Thunks.{offset_none, offset_ate}
use Rattle.encoding.proofs.thunks.offset.Goals as goal

pub returns-then-digits-d : goal.returns-then-digits-d
returns-then-digits-d c = offset_none c.eat.ensures c.digits-digits.ensures.behind c.if-digits-d.true

pub returns : goal.returns
returns c = offset_ate c.eat.ensures c.digits-digits.ensures.behind c.if-digits-d.false c.need.ensures
