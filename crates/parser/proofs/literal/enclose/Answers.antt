use Rattle.std.proofs.Math.Path.{refl}
use Rattle.std.proofs.Common.{ℕ, ◌+◌, ◌∙◌, arith, length-append, length-take, length-drop}
use Rattle.grammar.specs.Text.{Text, b}
use Rattle.grammar.specs.States.{Progress, fresh, raised_to}
use Rattle.store.specs.Stack.{Put, Cut}
use Rattle.store.specs.Laws.Tails.{stack_of}
use Rattle.parser.specs.Holds.{Puts, Cuts}
use Rattle.parser.specs.Laws.Wraps.{stands_puts, puts_least}
use Rattle.parser.specs.Laws.Literals.{stands_size, stands_turned}
use Rattle.parser.proofs.literal.enclose.Goals as goal

-- what `put` and `again` say, from a state with the stack's top
puts_by : (p : Progress) {text text' t : Text} {top top' : ℕ} → Put text text' top top' t → Puts text text' (raised_to p top) (raised_to p top') t
puts_by p u = record { same = refl; put = u }

cuts_by : (p : Progress) {text text' : Text} {top top' k n : ℕ} → Cut text text' top top' k n → Cuts text text' (raised_to p top) (raised_to p top') k n
cuts_by p u = record { same = refl; cut = u }

pub cut-requires : goal.cut-requires
cut-requires c =
    let x = puts_least (stack_of c.args.stack.now) (puts_by fresh c.put.ensures.left) in
    let y = puts_least c.put.ensures.left.stack (puts_by fresh c.again.ensures.left) in
    omega (arith, x, simp (length-take, length-drop) at y, c.put.ensures.left.stack.size, c.put.ensures.left.stack.most, c.requires)

pub returns : goal.returns
unfolding b
returns c =
    record {
      same = c.put-2.ensures.same ∙ c.cut.ensures.same ∙ c.again.ensures.same ∙ c.put.ensures.same;
      stands = λ p {t = t} l h.
          let w = stands_turned l (omega arith) h (puts_by p c.put.ensures.left) (puts_by p c.again.ensures.left) (cuts_by p c.cut.ensures.left) in
          stands_size (stands_puts w (puts_by p c.put-2.ensures.left) refl) (c.args.n + 2) (simp length-append (omega (arith, h.size)));
    }
