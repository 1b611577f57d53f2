use Rattle.std.proofs.Common.{◌≡◌, ap₂, ℕ, ◌+◌, ◌≤◌, ◌<◌, arith, length, drop, length-drop, Some}
use borrow.Author.Tests.{le-leb, lt-leb}
use Rattle.grammar.specs.Text.{Text, if◌then◌otherwise◌, run, digit, number}
use Rattle.grammar.specs.declared.part.Part.{Part}
use Rattle.parser.specs.Source.{identified}
use Rattle.parser.proofs.names.identifier.Goals as goal

abbrev part : ℕ → ℕ → Part
part i j = record { from = i; to = j }

abbrev digits : Text → ℕ → ℕ
digits s at = number 10 0 (run (digit 10) (drop at s))

abbrev at-digits : Text → ℕ → ℕ
at-digits s at = at + length (run (digit 10) (drop at s))

pub returns-then-length-eq0 : goal.returns-then-length-eq0
unfolding identified if◌then◌otherwise◌
returns-then-length-eq0 c =
    let n : digits c.args.s.now c.args.at < 1 = omega (arith, c.digits-length.ensures.is, c.if-length-eq0.true) in
    rw (lt-leb 1 (digits c.args.s.now c.args.at) n)

pub returns-then-left-length : goal.returns-then-left-length
unfolding identified if◌then◌otherwise◌
returns-then-left-length c =
    let n = digits c.args.s.now c.args.at in
    let from = at-digits c.args.s.now c.args.at in
    let m : 1 ≤ n = omega (arith, c.digits-length.ensures.is, c.if-length-eq0.false) in
    let l : length (drop from c.args.s.now) < n = omega (arith, length-drop from c.args.s.now, c.digits-length.ensures.is, c.digits-length.ensures.behind, c.if-left-length.true) in
    rw (le-leb 1 n m, lt-leb n (length (drop from c.args.s.now)) l)

pub returns : goal.returns
unfolding identified if◌then◌otherwise◌
returns c =
    let n = digits c.args.s.now c.args.at in
    let from = at-digits c.args.s.now c.args.at in
    let v : c.digits-length.result.value ≡ n = omega (arith, c.digits-length.ensures.is, c.if-left-length.false, c.requires) in
    let m : 1 ≤ n = omega (arith, c.if-length-eq0.false) in
    let l : n ≤ length (drop from c.args.s.now) = omega (arith, length-drop from c.args.s.now, c.digits-length.ensures.behind, c.if-left-length.false) in
    rw (le-leb 1 n m, le-leb n (length (drop from c.args.s.now)) l)
    (ap₂ (λ (i j : ℕ). Some (part i j)) c.digits-length.ensures.behind (omega (arith, c.digits-length.ensures.behind)))
