use Rattle.std.proofs.Common.{arith}
use Rattle.parser.specs.Holds.{refuses}
use Rattle.parser.specs.Laws.Holds.{by}
use Rattle.parser.specs.Laws.Halves.{fits_more, fits_not, recorded_no, recorded_long}
use Rattle.parser.proofs.demangler.Demangler.too_long.Goals as goal

pub returns-then-has_room : goal.returns-then-has_room
returns-then-has_room c k d s base from m m' t σ h e l =
    let (i, j) = c.has_room.ensures.yes c.if-has_room.true in
    by (recorded_long t σ (fits_more h.subs t i (omega arith)) (omega arith)) refuses

pub returns-else-has_room : goal.returns-else-has_room
returns-else-has_room c k d s base from m m' t σ h e l =
    by (recorded_no t σ (fits_not h.subs t (λ i j. c.has_room.ensures.no c.if-has_room.false i (omega arith)))) refuses
