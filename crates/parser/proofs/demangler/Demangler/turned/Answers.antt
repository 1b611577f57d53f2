use Rattle.std.proofs.Math.Path.{refl}
use Rattle.std.proofs.Common.{ℕ, [], ◌∷◌, ◌+◌, ◌-◌, ◌≤◌, ◌∙◌, arith, take, drop, length-drop, length-take-le}
use Rattle.grammar.specs.Text.{Text, b}
use Rattle.grammar.specs.Limits.{most_text_bytes}
use Rattle.grammar.specs.States.{Progress, raised_to}
use Rattle.store.specs.Stack.{Stack, Put, Cut}
use Rattle.store.specs.Laws.Tails.{stack_of}
use Rattle.parser.specs.Demanglers.{Turned, state_of}
use Rattle.parser.specs.Holds.{Puts, Cuts}
use Rattle.parser.specs.Laws.Holds.{holds_puts}
use Rattle.parser.specs.Laws.Demanglers.{lent_stack}
use Rattle.parser.specs.Laws.Wraps.{holds_cuts, puts_top, stands_turned}
use Rattle.parser.proofs.demangler.Demangler.turned.Goals as goal

-- a space put on the stack, and the c bytes below the newest m once more
module _ (p : Progress) {text text₁ text₂ : Text} {i j c m : ℕ} (h : Stack text p.top) (short : (c ≤ most_text_bytes) × ((m ≤ most_text_bytes) × (c + m ≤ p.top)))
    (u : Put text text₁ p.top i (32 ∷ [])) (v : Put text₁ text₂ i j (take c (drop (i - (c + m + 1)) text₁))) where
  spaced : Puts text text₁ p (raised_to p i) (32 ∷ [])
  spaced = record { same = refl; put = u }

  again : Puts text₁ text₂ (raised_to p i) (raised_to p j) (take c (drop (i - (c + m + 1)) text₁))
  again = record { same = refl; put = v }

  room : c + m + 1 + c ≤ j
  room =
      let e = puts_top (c + m) h spaced short.1.1 (omega (arith, short.0, short.1.0)) in
      let z = length-take-le c (drop (i - (c + m + 1)) text₁) (simp length-drop (omega (arith, u.stack.size, u.stack.most))) in
      omega (arith, puts_top (c + m + 1) u.stack again (omega (arith, e)) (omega (arith, short.0, short.1.0)), z)

  turned : {text₃ : Text} {n : ℕ} → Cut text₂ text₃ j n c (m + 1 + c) → Turned c m text text₃ p (raised_to p n)
  unfolding b
  turned {text₃} {n} w =
      let o : Cuts text₂ text₃ (raised_to p j) (raised_to p n) c (m + 1 + c) = record { same = refl; cut = w } in
      record {
        holds = λ s store ends σ g. holds_cuts o (holds_puts again (holds_puts spaced g));
        stands = λ k d s base from store ends x y σ e f g. stands_turned x y (32 ∷ []) g e f refl (omega (arith, short.0, short.1.0)) spaced again o;
        least = omega (arith, room, w.top_is);
      }

pub cut-requires : goal.cut-requires
cut-requires c = omega (arith, room (state_of c.args.self.now) (stack_of c.args.self.now.stack) c.requires c.put.ensures.left c.again.ensures.left)

pub returns : goal.returns
returns c = record {
  others = refl;
  same = lent_stack c.args.self.now c.cut.new.self (c.cut.ensures.same ∙ c.again.ensures.same ∙ c.put.ensures.same);
  turned = turned (state_of c.args.self.now) (stack_of c.args.self.now.stack) c.requires c.put.ensures.left c.again.ensures.left c.cut.ensures.left;
}
