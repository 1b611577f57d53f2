use Rattle.std.proofs.Common.{refl, rules, tests, arith}
use Rattle.encoding.specs.Laws.Labels.{labels_short, labels_other, labels_told}
use Rattle.encoding.proofs.mangled.label.Goals as goal
use Rattle.encoding.proofs.mangled.label.Goals.{in_default-via-then-s-lt2, in_default-via-else-s-lt2+in_default-1}

pub returns-in-84 : goal.returns-in-84
returns-in-84 c = labels_told c.args.s.now (search (rules, tests)) (search (rules, tests)) refl c.label.ensures

pub returns-in_default : goal.returns-in_default
returns-in_default c = elim c.in_default.branch [
  | in_default-via-then-s-lt2 w ↦ labels_short c.args.s.now (search (rules, tests))
  | in_default-via-else-s-lt2+in_default-1 w ↦ labels_other c.args.s.now (search (rules, tests, arith)) (λ e. search (rules, tests))
]
