use Rattle.std.proofs.Common.{length, ap, arith}
use Rattle.listing.specs.Laws.Inside.{lists_ok}
use Rattle.console.specs.Laws.Buffer.{listed_inside, long_sized, fed_listed, listed_more}
use Rattle.console.proofs.output.Lister.write_some.Goals as goal

pub unwrap-listed-requires : goal.unwrap-listed-requires
unwrap-listed-requires g c =
    let s = c.args.self.now in
    lists_ok _ _ _ _ _ _ _ c.list_lines.ensures.left (long_sized s.long_for) s.room

pub skip-requires : goal.skip-requires
skip-requires g c =
    (listed_inside _ c.args.buffer.now _ _ _ (rw (c.waiting.ensures, c.unwrap-listed.ensures) at c.list_lines.ensures.left)).0

pub write_front-requires : goal.write_front-requires
write_front-requires g c =
    let inside = listed_inside _ c.args.buffer.now _ _ _ (rw (c.waiting.ensures, c.unwrap-listed.ensures) at c.list_lines.ensures.left) in
    omega (arith, inside.1, c.list_lines.auto.out)

pub returns-clause-writes : goal.returns-clause-writes
returns-clause-writes g c =
    let s = c.args.self.now in
    let listed = rw (c.waiting.ensures, c.unwrap-listed.ensures) at c.list_lines.ensures.left in
    let sized = long_sized s.long_for in
    record {
      put = c.unwrap-listed.result.written;
      fed = λ ended all handed f. fed_listed f _ _ listed sized c.skip.ensures;
      inside = omega (arith, (listed_inside _ c.args.buffer.now _ _ _ listed).1, c.list_lines.auto.out);
      more = λ ended all handed f. omega (arith, listed_more f _ _ listed sized s.room c.requires, c.skip.ensures.from);
      start = c.skip.ensures.start;
      end = c.skip.ensures.end;
      lines = c.skip.ensures.lines;
      lent = c.skip.ensures.lent;
      written = c.write_front.ensures;
      size = ap length c.skip.ensures.lines;
    }
