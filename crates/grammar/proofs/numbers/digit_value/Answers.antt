use Rattle.std.proofs.Common.{arith}
use Rattle.grammar.proofs.Digits.{in_range, under, over}
use Rattle.grammar.specs.Text.{if◌then◌otherwise◌, digit_value}
use Rattle.grammar.proofs.numbers.digit_value.Goals as goal

pub returns-in-48-to-57 : goal.returns-in-48-to-57
unfolding if◌then◌otherwise◌ digit_value
returns-in-48-to-57 c =
    rw (in_range 48 57 c.args.c (omega arith) (omega arith)) c.from.ensures

pub returns-in-65-to-90 : goal.returns-in-65-to-90
unfolding if◌then◌otherwise◌ digit_value
returns-in-65-to-90 c =
    rw (over 48 57 c.args.c (omega arith) (omega arith), in_range 65 90 c.args.c (omega arith) (omega arith)) c.from-in-65-to-90.ensures

pub returns-in-97-to-122 : goal.returns-in-97-to-122
unfolding if◌then◌otherwise◌ digit_value
returns-in-97-to-122 c =
    rw (over 48 57 c.args.c (omega arith) (omega arith), over 65 90 c.args.c (omega arith) (omega arith), in_range 97 122 c.args.c (omega arith) (omega arith)) c.from-in-97-to-122.ensures

pub returns-in_default : goal.returns-in_default
unfolding if◌then◌otherwise◌ digit_value
returns-in_default c =
    rw (under 48 57 c.args.c (omega arith), under 65 90 c.args.c (omega arith), under 97 122 c.args.c (omega arith))

pub returns-in_default-2 : goal.returns-in_default-2
unfolding if◌then◌otherwise◌ digit_value
returns-in_default-2 c =
    rw (over 48 57 c.args.c (omega arith) (omega arith), under 65 90 c.args.c (omega arith), under 97 122 c.args.c (omega arith))

pub returns-in_default-3 : goal.returns-in_default-3
unfolding if◌then◌otherwise◌ digit_value
returns-in_default-3 c =
    rw (over 48 57 c.args.c (omega arith) (omega arith), over 65 90 c.args.c (omega arith) (omega arith), under 97 122 c.args.c (omega arith))

pub returns-in_default-4 : goal.returns-in_default-4
unfolding if◌then◌otherwise◌ digit_value
returns-in_default-4 c =
    rw (over 48 57 c.args.c (omega arith) (omega arith), over 65 90 c.args.c (omega arith) (omega arith), over 97 122 c.args.c (omega arith) (omega arith))
