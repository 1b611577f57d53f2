use Rattle.std.proofs.Common.{sym, ◌∙◌, rules, tests}
use Rattle.std.proofs.lemmas.List.{take_rest}
use Rattle.parser.specs.Laws.Leaves.{std_short, std_at, std_unlike}
use Rattle.parser.proofs.leaf.std_ahead.Goals as goal

pub returns-then-digit : goal.returns-then-digit
returns-then-digit c =
    c.if-digit.true ∙ sym (std_at (take_rest c.args.s.now c.args.at) c.in-83.len_at_least (search (rules, tests)) (search (rules, tests)) (sym c.if-digit.true ∙ c.digit.ensures))

pub returns-else-digit : goal.returns-else-digit
returns-else-digit c =
    c.c_or_d.ensures ∙ sym (std_at (take_rest c.args.s.now c.args.at) c.in-83.len_at_least (search (rules, tests)) (search (rules, tests)) (sym c.if-digit.false ∙ c.digit.ensures))

pub returns-in_default : goal.returns-in_default
returns-in_default c = std_short (take_rest c.args.s.now c.args.at) c.in_default.len_below

pub returns-in_default-2 : goal.returns-in_default-2
returns-in_default-2 c = std_unlike (take_rest c.args.s.now c.args.at) c.in_default.len_at_least (λ i j. search (rules, tests))

pub returns-in_default-3 : goal.returns-in_default-3
returns-in_default-3 c = std_unlike (take_rest c.args.s.now c.args.at) c.in_default.len_at_least (λ i j. search (rules, tests))
