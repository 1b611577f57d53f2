use Rattle.std.proofs.Common.{rules, arith}
use Rattle.grammar.specs.Text.{b, holds}
use Rattle.parser.proofs.leaf.c_or_d.Goals as goal

pub returns-in-67 : goal.returns-in-67
unfolding holds b
returns-in-67 c = search rules

pub returns-in_default : goal.returns-in_default
unfolding holds b
returns-in_default c = grind arith

pub returns-in_default-2 : goal.returns-in_default-2
unfolding holds b
returns-in_default-2 c = grind arith
