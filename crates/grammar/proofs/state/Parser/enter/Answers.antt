use Rattle.std.proofs.Common.{arith, le-ltb, lt-ltb}
use Rattle.grammar.specs.Limits.{most_open}
use Rattle.grammar.specs.Text.{if◌then◌otherwise◌}
use Rattle.grammar.proofs.state.Parser.enter.Goals as goal

pub returns-then-self-ge-DEPTH : goal.returns-then-self-ge-DEPTH
unfolding if◌then◌otherwise◌
returns-then-self-ge-DEPTH c = rw (le-ltb _ most_open c.if-self-ge-DEPTH.true)

pub returns : goal.returns
unfolding if◌then◌otherwise◌
returns c = rw (lt-ltb c.args.self.depth most_open (omega arith))
