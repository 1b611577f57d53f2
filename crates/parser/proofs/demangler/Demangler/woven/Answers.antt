use Rattle.std.proofs.Math.Path.{refl}
use Rattle.std.proofs.Math.Nat.{mul-le-mul_right}
use Rattle.std.proofs.Common.{◌≡◌, ℕ, zero, suc, ◌+◌, ◌-◌, ◌*◌, ◌≤◌, ◌++◌, sym, ap, ap₂, ◌∙◌, arith, length, drop, length-append, length-drop, length-take-le, subst}
use Rattle.grammar.specs.Text.{Text}
use Rattle.grammar.specs.Limits.{most_entry_bytes, most_text_bytes}
use Rattle.grammar.specs.Grammar.{at_slots}
use Rattle.store.specs.Stack.{Stack, Put, slots_in, newest, below_newest}
use Rattle.store.specs.Laws.Tails.{stack_of}
use Rattle.store.specs.declared.stack.Stack.{Stack as Stacked}
use Rattle.parser.specs.declared.demangler.Demangler.{Demangler}
use Rattle.parser.specs.Demanglers.{memory_of}
use Rattle.parser.specs.Holds.{Puts}
use Rattle.parser.specs.Laws.Wraps.{puts_top, newest_size, below_text, end_text, woven_size, stands_replaced}
use Rattle.parser.specs.Laws.Demanglers.{puts_of, cuts_of, lent_stack, texts_by}
use Rattle.parser.proofs.demangler.Demangler.woven.Goals as goal

woven : {text : Text} {top slots : ℕ} (d n : ℕ) (word : Text) → Stack text top → d + n ≤ top → slots ≡ slots_in (newest text top n)
    → length (at_slots (below_newest text top n d ++ word) (newest text top n)) ≡ n + slots * (d + length word)
woven {text} {top} d n word h l e =
    woven_size (below_newest text top n d ++ word) (newest text top n) (newest_size n h (omega arith)) (sym e)
    (length-append (below_newest text top n d) word ∙ ap (λ (j : ℕ). j + length word) (length-take-le d (drop (top - (d + n)) text) (simp length-drop (omega (arith, h.size, h.most)))))

-- how much is there once they were put again
room : (d : Demangler) (x : Stacked) {c n slots : ℕ} (word : Text) → c + n ≤ d.stack.top → c ≤ most_text_bytes → n ≤ most_text_bytes →
    slots ≡ slots_in (newest d.stack.bytes.now d.stack.top n) →
    Put d.stack.bytes.now x.bytes.now d.stack.top x.top (at_slots (below_newest d.stack.bytes.now d.stack.top n c ++ word) (newest d.stack.bytes.now d.stack.top n)) →
    c + n + (n + slots * (c + length word)) ≤ x.top
room d x {c} {n} word l i j e p =
    omega (arith, woven c n word (stack_of d.stack) l e, puts_top (c + n) (stack_of d.stack) (puts_of d x p) l (omega arith))

-- the text that comes is no shorter than what it stands for
longer : (slots d w : ℕ) → (slots ≡ 0 → d ≡ 0) → d ≤ slots * (d + w)
longer zero d w h = omega (arith, h refl)
longer (suc m) d w h = omega (arith, mul-le-mul_right {m = 1} {n = suc m} (d + w) (omega arith))

pub returns-then-size-gt-TEXT : goal.returns-then-size-gt-TEXT
returns-then-size-gt-TEXT c = record {
  symbol = refl;
  others = refl;
  same = refl;
  is = λ k l s base from x y σ e f h.
      let i : length (x ++ y) ≤ most_entry_bytes = omega (arith, length-append x y, e, f, c.requires.0, c.requires.1.0) in
      let g = ap slots_in (sym (ap (newest c.args.self.now.stack.bytes.now c.args.self.now.stack.top) (sym f) ∙ end_text x y h i)) ∙ sym c.slots.ensures.0 in
      let z = woven_size (x ++ c.args.word.now) y f g (length-append x c.args.word.now ∙ ap (λ (j : ℕ). j + length c.args.word.now) e) in
      c.too_long.ensures k l s base from (memory_of c.args.self.now) _ (at_slots (x ++ c.args.word.now) y) σ h.holds (omega (arith, z, c.woven-size.ensures)) c.if-size-gt-TEXT.true;
}

pub cut-requires : goal.cut-requires
cut-requires c =
    omega (
      arith,
      room c.args.self.now c.weave.new.self c.args.word.now c.requires.1.1.1.0 c.requires.1.0 c.requires.0 c.slots.ensures.0 c.weave.ensures.left,
      c.woven-size.ensures,
      c.if-size-gt-TEXT.false,
    )

pub recorded-requires : goal.recorded-requires
recorded-requires c =
    omega (
      arith,
      room c.args.self.now c.weave.new.self c.args.word.now c.requires.1.1.1.0 c.requires.1.0 c.requires.0 c.slots.ensures.0 c.weave.ensures.left,
      c.woven-size.ensures,
      c.if-size-gt-TEXT.false,
      c.cut.ensures.left.top_is,
    )

pub returns : goal.returns
returns c = record {
  symbol = ap (λ (x : Demangler). x.s.now) c.recorded.ensures.others;
  others = texts_by c.args.self.now c.recorded.ensures.others;
  same = c.recorded.ensures.same ∙ lent_stack c.args.self.now c.cut.new.self (c.cut.ensures.same ∙ c.weave.ensures.same);
  is = λ k l s base from x y σ e f h.
      let i : length (x ++ y) ≤ most_entry_bytes = omega (arith, length-append x y, e, f, c.requires.0, c.requires.1.0) in
      let q : newest c.args.self.now.stack.bytes.now c.args.self.now.stack.top c.args.n ≡ y = ap (newest c.args.self.now.stack.bytes.now c.args.self.now.stack.top) (sym f) ∙ end_text x y h i in
      let g = ap slots_in (sym q) ∙ sym c.slots.ensures.0 in
      let z = woven_size (x ++ c.args.word.now) y f g (length-append x c.args.word.now ∙ ap (λ (j : ℕ). j + length c.args.word.now) e) in
      let u = subst (Puts c.args.self.now.stack.bytes.now c.weave.new.self.bytes.now _ _)
      (ap₂ (λ (v t : Text). at_slots (v ++ c.args.word.now) t)
      (ap₂ (λ (v j : ℕ). below_newest c.args.self.now.stack.bytes.now c.args.self.now.stack.top v j) (sym f) (sym e) ∙ below_text x y h i) q)
      (puts_of c.args.self.now c.weave.new.self c.weave.ensures.left) in
      let r = longer c.slots.result c.args.d (length c.args.word.now) (λ v. c.requires.1.1.1.1 (sym c.slots.ensures.0 ∙ v)) in
      c.recorded.ensures.is k l s base from _ σ
      (stands_replaced h u (cuts_of (record c.args.self.now { stack = c.weave.new.self }) c.cut.new.self c.cut.ensures.left)
      (length-append x y ∙ ap₂ (λ (v j : ℕ). v + j) e f) (omega (arith, z, c.woven-size.ensures, c.if-size-gt-TEXT.false))
      (omega (arith, r, c.woven-size.ensures, c.if-size-gt-TEXT.false)) (omega (arith, c.requires.0, c.requires.1.0)) (omega (arith, c.if-size-gt-TEXT.false)));
}
