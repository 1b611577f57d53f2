use Rattle.std.proofs.Common.{◌≡◌, ℕ, ◌+◌, ◌-◌, ◌<◌, ◌≤◌, not, true, eqb, length, get_or, take, drop, sym, ap, ◌∙◌, arith, eq-eqb, length-drop, length-take-le, get_or-take, get_or-drop}
use Rattle.std.specs.Prelude.{Option, Some, None, unwrap_or}
use Rattle.memchr.specs.Find.{IsFirstByte, is_byte}
use Rattle.grammar.specs.Text.{Text}
use Rattle.grammar.specs.Laws.Runs.{run_stop, run_end}
use Rattle.listing.specs.Lines.{feed_from}
use Rattle.listing.specs.Laws.Lines.{feed_behind}
use Rattle.listing.proofs.feeds.line_end.Goals as goal

module _ (s : Text) (at : ℕ) (l : at ≤ length s) where
  abbrev rest : Text
  rest = take (length s - at) (drop at s)

  size : length rest ≡ length s - at
  size = length-take-le (length s - at) (drop at s) (simp length-drop (omega arith))

  byte : (i : ℕ) → i < length s - at → get_or rest i 0 ≡ get_or s (at + i) 0
  byte i h = get_or-take (length s - at) (drop at s) i 0 h ∙ get_or-drop at s i 0

  behind : (n : ℕ) → at + n ≤ length s → ((i : ℕ) → i < n → eqb (get_or rest i 0) 10 ≡ true → ⊥) → feed_from s at ≡ feed_from s (at + n)
  behind n h e = feed_behind s at n h (λ i u f. e i u (eq-eqb (get_or rest i 0) 10 (byte i (omega arith) ∙ f)))

  end_is : (r : Option ℕ) → IsFirstByte (is_byte 10) rest r → (at + unwrap_or r (length rest) ≡ feed_from s at) × (at + unwrap_or r (length rest) ≤ length s)
  end_is None h =
      let e = behind (length s - at) (omega arith) (λ i u. h i (omega arith) (omega (arith, size))) in
      let f = run_end (λ x. not (eqb x 10)) s (at + (length s - at)) (omega arith) in
      (omega (arith, e, ap length f, size), omega (arith, size))
  end_is (Some k) h =
      let e = behind k (omega (arith, size, h.0.high)) (λ i u. h.0.before i (omega arith) u) in
      let f = run_stop (λ x. not (eqb x 10)) s (at + k) (omega (arith, size, h.0.high)) (ap not (ap (λ x. eqb x 10) (sym (byte k (omega (arith, size, h.0.high)))) ∙ h.1)) in
      (omega (arith, e, ap length f), omega (arith, size, h.0.high))

pub returns : goal.returns
returns c =
    rw c.unwrap_or.ensures (end_is c.args.s.now c.args.at c.requires c.memchr.result c.memchr.ensures)
