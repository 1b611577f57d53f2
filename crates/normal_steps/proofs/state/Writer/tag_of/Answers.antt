use Rattle.std.proofs.Common.{arith}
use Rattle.normal_steps.specs.Laws.Slices.{tag_low, tag_none, tag_here}
use Rattle.normal_steps.proofs.state.Writer.tag_of.Goals as goal

pub returns-in-Some : goal.returns-in-Some
returns-in-Some c σ h =
    let (l, e) = c.in-Some.ensures in
    rw (c.from.ensures, e) (tag_here h c.args.d l (omega arith))

pub returns-in_default : goal.returns-in_default
returns-in_default c σ h =
    let (l, e) = c.in-Some.ensures in
    tag_none h c.args.d l (omega arith)

pub returns-in_default-2 : goal.returns-in_default-2
returns-in_default-2 c σ h = tag_low h c.args.d (omega (arith, c.in_default.ensures))
