-- What standard error is told. Assumes nothing.
use Rattle.std.specs.Prelude.{codes}
use Rattle.grammar.specs.Text.{Text}
use Rattle.console.specs.declared.failed.Failed.{Failed}
use Rattle.console.specs.declared.failed.Failed.TheVariants.{Input, Output}

abbrev pub told : Failed → Text
told Input = codes "patch names: standard input can't be read"
told Output = codes "patch names: standard output can't be written"
