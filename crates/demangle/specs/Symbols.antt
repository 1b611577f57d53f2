-- What is told of a symbol before it is read, and of its name after.
use Rattle.std.specs.Prelude.{◌≡◌, ◌≤◌, ℕ, length, drop, Result, Ok, Err, IfOk}
use Rattle.grammar.specs.Text.{Text}
use Rattle.grammar.specs.Limits.{most_symbol_bytes}
use Rattle.grammar.specs.Names.{front}
use Rattle.grammar.specs.Names as n
use Rattle.grammar.specs.Refusals.{refusal_number}
use Rattle.grammar.specs.declared.refusal.Refusal.{Refusal}

-- the answer for a symbol, if f is the answer for what stands behind its front
abbrev pub fronted : Text → Result ℕ Refusal → (Text → n.Answer) → n.Answer
fronted s (Ok k) f = f (drop k s)
fronted s (Err e) f = n.refusal (refusal_number e)

pub record Fronts (s : Text) (r : Result ℕ Refusal) : Type 0 where
  pub is : (f : Text → n.Answer) → front most_symbol_bytes s f ≡ fronted s r f
  pub inside : IfOk r (λ k. (k ≤ length s) × (length s ≤ most_symbol_bytes))
