use Rattle.std.proofs.Common.{sym, take, drop, length-drop, ◌≡◌, ◌+◌, ◌≤◌, [], ◌∷◌, ◌++◌, length, ap, ◌∙◌, arith, length-append}
use Rattle.grammar.specs.Text.{Text, b, join}
use Rattle.grammar.specs.Limits.{most_text_bytes}
use Rattle.grammar.specs.Reader.{recorded}
use Rattle.parser.specs.Holds.{keep}
use Rattle.parser.specs.Laws.Holds.{by, less}
use Rattle.parser.specs.Laws.Wraps.{stands_puts}
use Rattle.parser.specs.Laws.Demanglers.{puts_of, cuts_of, lent_stack}
use Rattle.reader.specs.Funcs.{opening}
use Rattle.reader.specs.Laws.Funcs.{function_listed, function_bare, void_text, newest_four, stands_without, recorded_behind}
use Rattle.store.specs.Laws.Tails.{top_size}
use Rattle.reader.proofs.lists.func_end.Goals as goal

pub recorded-requires : goal.recorded-requires
unfolding b
recorded-requires c =
    let w = take c.cut.new.self.top c.cut.new.self.bytes.now in
    omega (
      arith,
      c.requires.1.1.1,
      c.lone_void.ensures.four c.if-lone_void.true,
      c.cut.ensures.left.top_is,
      top_size c.cut.ensures.left.stack,
      top_size c.put.ensures.left.stack,
      c.put.ensures.left.most,
      ap length c.put.ensures.left.is,
      length-append (drop c.put.ensures.left.lost w) (41 ∷ []),
      length-drop c.put.ensures.left.lost w,
    )

pub returns-then-lone_void : goal.returns-then-lone_void
unfolding b
returns-then-lone_void c = record {
  others = recorded_behind c.args.d.now c.recorded.new.self c.put.new.self c.recorded.ensures.others;
  same = c.recorded.ensures.same ∙ lent_stack c.args.d.now c.put.new.self (c.put.ensures.same ∙ c.cut.ensures.same);
  is = λ s base from t ts σ h e f g.
      let d = c.args.d.now in
      let q = sym (c.lone_void.ensures.is ts g f (λ i. newest_four t (join (b ", ") ts) h (omega (arith, e, c.requires.1.0)) (omega (arith, f, i)))) ∙ c.if-lone_void.true in
      let j : length (join (b ", ") ts) ≡ 4 = ap length (void_text ts q) in
      let l : length t ≤ most_text_bytes = omega (arith, e, c.requires.1.0) in
      let w = stands_without t (join (b ", ") ts) h l j (keep d.state.depth) (omega arith) (omega arith) (cuts_of d c.cut.new.self c.cut.ensures.left) in
      let d₁ = record d { stack = c.cut.new.self } in
      by (ap (λ (x : Text). recorded x σ) (function_bare t ts q))
      (c.recorded.ensures.is (keep d.state.depth) d.state.depth s base from _ σ
      (stands_puts w (puts_of d₁ c.put.new.self c.put.ensures.left) (omega (arith, e, l, length-append (t ++ opening) (41 ∷ []), length-append t opening))));
}

pub returns : goal.returns
unfolding b
returns c = record {
  others = recorded_behind c.args.d.now c.recorded-2.new.self c.put-2.new.self c.recorded-2.ensures.others;
  same = c.recorded-2.ensures.same ∙ lent_stack c.args.d.now c.put-2.new.self c.put-2.ensures.same;
  is = λ s base from t ts σ h e f g.
      let d = c.args.d.now in
      let z = length-append (t ++ (opening ++ join (b ", ") ts)) (41 ∷ []) in
      let no = sym (c.lone_void.ensures.is ts g f (λ i. newest_four t (join (b ", ") ts) h (omega (arith, e, c.requires.1.0)) (omega (arith, f, i)))) ∙ c.if-lone_void.false in
      by (ap (λ (x : Text). recorded x σ) (function_listed t ts no))
      (less (omega arith)
      (c.recorded-2.ensures.is (keep (d.state.depth + 1)) d.state.depth s base from _ σ
      (stands_puts h (puts_of d c.put-2.new.self c.put-2.ensures.left) (omega (arith, z, h.size, c.sum.ensures)))));
}
