use Rattle.std.proofs.Common.{◌≤◌}
use Rattle.normal_steps.specs.Rows.{node_at, node_of}
use Rattle.normal_steps.specs.Laws.Chains.{Left}
use Rattle.normal_steps.proofs.state.Writer.node_place.Given as goal

abbrev pub invariant-loop-i : goal.invariant-loop-i
invariant-loop-i l =
    let w = l.self in
    (l.bound ≤ w.state.nodes) × Left (node_at w.s.now w.ends.now w.words.now) w.state.nodes (node_of w.s.now l.x) l.bound l.i

abbrev pub decreases-loop-i : goal.decreases-loop-i
decreases-loop-i l = l.bound
