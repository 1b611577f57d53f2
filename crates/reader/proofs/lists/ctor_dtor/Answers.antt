use Rattle.std.proofs.Common.{◌≡◌, ℕ, ◌+◌, ◌-◌, ◌≤◌, length, ap, ◌∙◌, subst, arith, refl}
use Rattle.grammar.specs.Limits.{most_text_bytes}
use Rattle.grammar.specs.Text.{Text}
use Rattle.store.specs.Stack.{newest, Put}
use Rattle.store.specs.Laws.Tails.{stack_of}
use Rattle.parser.specs.Leaves.{Classed}
use Rattle.parser.specs.Laws.Demanglers.{puts_of, lent_stack}
use Rattle.parser.specs.Laws.Wraps.{puts_top, newest_size}
use Rattle.reader.specs.declared.lists.Parts.{Parts}
use Rattle.reader.specs.Lists.{before_part}
use Rattle.reader.specs.Structors.{tilde_of}
use Rattle.reader.specs.Laws.Joined.{colons_size}
use Rattle.reader.specs.Laws.Structors.{tilde_size, tilde_at, tilde_none, structor_long, structor_named, exact, between, again_room}
use Rattle.reader.proofs.lists.ctor_dtor.Goals as goal
use Rattle.reader.proofs.lists.ctor_dtor.Goals.{then-c-eq68, else-c-eq68}

pub returns-then-n-gt-BYTES : goal.returns-then-n-gt-BYTES
returns-then-n-gt-BYTES c = record { others = refl; same = refl; is = λ s store ends base from ps σ x t e h. structor_long h e refl (omega arith) }

pub again-requires : goal.again-requires
again-requires c =
    let d = c.args.d.now in
    let q = c.args.parts in
    let r = c.class_of-class.result in
    let tilde : c.if-c-eq68.tilde.now ≡ tilde_of c.args.c = elim c.if-c-eq68.branch [
      | then-c-eq68 w ↦ cc (tilde_at c.args.c w.if-c-eq68.true)
      | else-c-eq68 w ↦ cc (tilde_none c.args.c w.if-c-eq68.false)
    ] in
    let y : length c.if-c-eq68.tilde.now ≤ 1 = omega (arith, ap length tilde, tilde_size c.args.c) in
    let last : length c.newest.result.now ≡ q.last = ap length c.newest.ensures ∙ newest_size q.last (stack_of d.stack) (omega (arith, c.requires.1, c.if-n-gt-BYTES.false)) in
    let o = between q.count (ap (λ (z : Parts). z.n) c.longer-more.ensures) c.if-n-gt-BYTES.false (omega (arith, c.min-m.ensures)) y in
    let back : ℕ = q.last - r.from in
    let u = puts_of d c.separate.new.stack c.separate.ensures.left in
    let v = puts_of (record d { stack = c.separate.new.stack }) c.put.new.self c.put.ensures.left in
    let size = colons_size q.count in
    let a = puts_top back (stack_of d.stack) u (omega (arith, c.requires.1, c.if-n-gt-BYTES.false)) (omega (arith, c.requires.1, c.if-n-gt-BYTES.false)) in
    let e = puts_top (back + length (before_part q.count)) (stack_of c.separate.new.stack) v a (omega (arith, size, c.requires.1, c.if-n-gt-BYTES.false)) in
    again_room o (omega (arith, c.class_of-class.ensures.inside, c.min-m.ensures, last)) (omega (arith, e, size)) (omega (arith, y))
    (omega (arith, c.requires.1, c.if-n-gt-BYTES.false)) (omega (arith, c.min-m.ensures))

pub returns : goal.returns
returns c =
    let d = c.args.d.now in
    let q = c.args.parts in
    let tilde : c.if-c-eq68.tilde.now ≡ tilde_of c.args.c = elim c.if-c-eq68.branch [
      | then-c-eq68 w ↦ cc (tilde_at c.args.c w.if-c-eq68.true)
      | else-c-eq68 w ↦ cc (tilde_none c.args.c w.if-c-eq68.false)
    ] in
    let y : length c.if-c-eq68.tilde.now ≤ 1 = omega (arith, ap length tilde, tilde_size c.args.c) in
    let m : c.min-m.result ≤ most_text_bytes = omega (arith, c.min-m.ensures) in
    let o = between q.count (ap (λ (z : Parts). z.n) c.longer-more.ensures) c.if-n-gt-BYTES.false m y in
    let n = exact q.count (ap (λ (z : Parts). z.n) c.longer-more.ensures) c.if-n-gt-BYTES.false m y in
    let r : Classed (newest d.stack.bytes.now d.stack.top q.last) c.class_of-class.result = subst (λ (z : Text). Classed z c.class_of-class.result) c.newest.ensures c.class_of-class.ensures in
    let put : Put c.separate.new.stack.bytes.now c.put.new.self.bytes.now c.separate.new.stack.top c.put.new.self.top (tilde_of c.args.c) =
    subst (λ (z : Text). Put c.separate.new.stack.bytes.now c.put.new.self.bytes.now c.separate.new.stack.top c.put.new.self.top z) tilde c.put.ensures.left in
    let u = puts_of d c.separate.new.stack c.separate.ensures.left in
    let v = puts_of (record d { stack = c.separate.new.stack }) c.put.new.self put in
    let w = puts_of (record d { stack = c.put.new.self }) c.again.new.self c.again.ensures.left in
    let size = ap length tilde in
    let last = ap (λ (z : Parts). z.last) c.longer-more.ensures in
    rw (ap (λ (z : Parts). z.count) c.longer-more.ensures) (record {
      others = refl;
      same = lent_stack d c.again.new.self (c.again.ensures.same ∙ c.put.ensures.same ∙ c.separate.ensures.same);
      is = λ s store ends base from ps σ x t e h.
          structor_named h c.if-n-gt-BYTES.false x t e r u v (omega (arith, c.min-m.ensures)) (omega (arith, o, size)) w refl (omega (arith, n, size)) (omega (arith, last, size));
    })
