use Rattle.std.proofs.Common.{Ok, Err, ◌≡◌, length, ap, refl, eq-eqb, arith, rules}
use Rattle.std.proofs.lemmas.Result.{MatchResult-from_err}
use Rattle.std.proofs.KnownBytes.{Keeps-refl}
use Rattle.console.specs.Laws.Turns.{goes_none, stops_none, goes_read, goes_written, ends, stops, stops_written}
use Rattle.console.proofs.turns.list_input.Goals as goal

pub returns-in_err-write_header-clause-turns : goal.returns-in_err-write_header-clause-turns
returns-in_err-write_header-clause-turns g c =
    MatchResult-from_err _ _ _ c.from_residual.ensures.0 (λ _. stops_none _ _ _ _ c.new-buffer.ensures.nothing c.in_err-write_header.ensures.1)

pub loop-init : goal.loop-init
loop-init g c = record {
  goes = goes_none _ _ _ _ c.new-buffer.ensures.nothing c.in_ok-write_header.ensures;
  none = omega (arith, c.new-buffer.ensures.nothing.from, c.new-buffer.ensures.nothing.start);
  room = omega (arith, ap length c.new-buffer.ensures.nothing.lines, c.requires);
  same = search rules;
}

pub returns-in_err-n-clause-turns : goal.returns-in_err-n-clause-turns
returns-in_err-n-clause-turns g c =
    MatchResult-from_err _ _ _ c.from_residual-in_err-n.ensures.0 (λ _. stops c.loop.invariant.goes c.in_err-n.ensures.1.1)

pub loop-buffer-init : goal.loop-buffer-init
loop-buffer-init g c = record {
  goes = goes_read c.loop.invariant.goes refl c.in_ok-n.ensures;
  room = omega (arith, c.in_ok-n.ensures.size, c.read_some.auto.chunk, c.loop.invariant.room);
  same = search rules;
}

pub loop-buffer-smaller : goal.loop-buffer-smaller
loop-buffer-smaller g c =
    let w = rw c.loop-buffer.invariant.same.kind at c.in_ok-write_some.ensures.writes in
    let f = c.loop-buffer.invariant.goes in
    omega (arith, w.more _ f.all f.handed f.fed, w.start)

pub loop-buffer-preserved : goal.loop-buffer-preserved
loop-buffer-preserved g c =
    let w = rw c.loop-buffer.invariant.same.kind at c.in_ok-write_some.ensures.writes in
    record {
      goes = goes_written c.loop-buffer.invariant.goes {r = Ok tt} w w.written;
      room = omega (arith, w.size, c.loop-buffer.invariant.room);
      same = search rules;
    }

pub returns-in_err-write_some-clause-turns : goal.returns-in_err-write_some-clause-turns
returns-in_err-write_some-clause-turns g c =
    let w = rw c.loop-buffer.invariant.same.kind at c.in_err-write_some.ensures.writes in
    MatchResult-from_err _ _ _ c.from_residual-in_err-write_some.ensures.0 (λ _. stops_written c.loop-buffer.invariant.goes {r = Err c.in_err-write_some.field-0.0} w w.written.1)

pub returns-then-n-eq0-clause-turns : goal.returns-then-n-eq0-clause-turns
returns-then-n-eq0-clause-turns g c =
    let none : c.loop-buffer.buffer.from ≡ c.loop-buffer.buffer.start = omega arith in
    let last : c.in_ok-n.n ≡ 0 = omega (arith, c.if-n-eq0.true) in
    λ h. ends c.loop-buffer.invariant.goes (eq-eqb c.in_ok-n.n 0 last) none
    (c.in_ok-n.ensures.ended last (omega (arith, h, c.read_some.auto.chunk, c.loop.auto.chunk)))

pub returns-clause-turns : goal.returns-clause-turns
returns-clause-turns g c = stops c.loop.invariant.goes (Keeps-refl _)
