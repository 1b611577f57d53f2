use Rattle.grammar.specs.Text.{b}
use Rattle.console.specs.Output.{header}
use Rattle.console.proofs.output.write_header.Goals as goal

pub returns : goal.returns
unfolding header b
returns g c = c.write.ensures
