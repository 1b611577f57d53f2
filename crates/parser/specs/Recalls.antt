-- An entry of a table put on the stack again. Assumes nothing.
use Rattle.std.specs.Prelude.{ℕ, ◌≤◌, ◌<◌, length, Result, Ok, Err}
use Rattle.grammar.specs.Text.{Text}
use Rattle.grammar.specs.Limits.{most_text_bytes}
use Rattle.grammar.specs.declared.refusal.Refusal.{Refusal}
use Rattle.grammar.specs.declared.refusal.Refusal.TheVariants.{LongText}
use Rattle.store.specs.Stack.{Put}
use Rattle.store.specs.declared.stack.Stack.{Stack}

-- the text t was put on the stack, or it is too long to be returned
pub data Recalls (t : Text) (k k' : Stack) : Result ℕ Refusal → Type 0 where
  recalls : length t ≤ most_text_bytes → Put k.bytes.now k'.bytes.now k.top k'.top t → Recalls t k k' (Ok (length t))
  long : most_text_bytes < length t → Recalls t k k' (Err LongText)
