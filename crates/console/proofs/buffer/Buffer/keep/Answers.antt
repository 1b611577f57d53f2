use Rattle.std.proofs.Common.{◌<◌, ◌≤◌, ◌-◌, length, take, drop, ap, ◌∙◌, arith}
use Rattle.std.proofs.lemmas.Bool.Decides.{nat_tests}
use Rattle.std.proofs.lemmas.List.{take_rest}
use Rattle.console.specs.Laws.Kept.{begun_part, begun_line, all_kept}
use Rattle.console.proofs.buffer.Buffer.keep.Goals as goal

pub loop-rest-preserved-then-not-is_empty : goal.loop-rest-preserved-then-not-is_empty
loop-rest-preserved-then-not-is_empty c =
    let (e, l) = c.line_end-feed.ensures in
    let rest = c.loop-rest.rest.now in
    let feed = c.line_end-feed.result in
    let t = take_rest rest feed in
    let some : 0 < length (take (length rest - feed) (drop feed rest)) = grind (arith, nat_tests) in
    begun_line c.loop-rest.invariant e l c.keep_part.ensures (omega arith) c.end_line.ensures (take_rest (take (length rest - feed) (drop feed rest)) 1 ∙ ap (drop 1) t)

pub loop-rest-preserved : goal.loop-rest-preserved
loop-rest-preserved c =
    let (e, l) = c.line_end-feed.ensures in
    begun_part c.loop-rest.invariant e l c.keep_part.ensures (take_rest c.loop-rest.rest.now c.line_end-feed.result)

pub returns : goal.returns
returns c =
    let none : length c.loop-rest.rest.now ≤ 0 = grind (arith, nat_tests) in
    all_kept c.loop-rest.invariant none
