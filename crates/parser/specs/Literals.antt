-- How a literal is printed: by the text of its type, and what is put on the stack for its value.
use Rattle.std.specs.Prelude.{◌++◌, ◌≡◌, ℕ, ◌+◌, ◌≤◌, true, false, length, take, drop}
use Rattle.std.specs.Borrow.{Bor}
use Rattle.std.proofs.Math.Option.{none, some}
use Rattle.grammar.specs.Text.{Text, b, if◌then◌otherwise◌, same, starts}
use Rattle.grammar.specs.Limits.{most_text_bytes, kept_bytes}
use Rattle.grammar.specs.Tables.{suffixes}
use Rattle.grammar.specs.Reader.{State, word_for}
use Rattle.store.specs.Stack.{Tail}
use Rattle.store.specs.declared.stack.Stack.{Stack}
use Rattle.grammar.specs.States.{Progress, raised_to}
use Rattle.parser.specs.declared.literal.Kind.{Kind}
use Rattle.parser.specs.declared.literal.Kind.TheVariants.{Truth, Suffix, Cast}
use Rattle.parser.specs.Holds.{Halves, mem, Stands}

-- how a literal is printed whose type's text is t: by its row of the table of suffixes, if there is one
pub data KindOf (t : Text) : Kind → Type 0 where
  truth : same t (b "bool") ≡ true → KindOf t Truth
  suffix : {w : Bor Text} → same t (b "bool") ≡ false → word_for suffixes t ≡ some w.now → KindOf t (Suffix w)
  cast : same t (b "bool") ≡ false → word_for suffixes t ≡ none → KindOf t Cast

-- a value with - for n in front
unfoldable pub signed : Text → Text
signed v = if starts v (b "n") then b "-" ++ drop 1 v otherwise v

-- a value of the type bool
unfoldable pub truth_of : Text → Text
truth_of v = if same (signed v) (b "1") then b "true" otherwise b "false"

-- the value was put on the stack, perhaps in two parts; the newest 34,816 bytes, at least, are there
pub record PutsValue (v : Text) (k k' : Stack) : Type 0 where
  pub same : k'.bytes.ghost_name ≡ k.bytes.ghost_name
  pub tail : Tail kept_bytes (take k'.top k'.bytes.now) (take k.top k.bytes.now ++ signed v)

-- the newest n bytes were put in parentheses
pub record Encloses (n : ℕ) (k k' : Stack) : Type 0 where
  pub same : k'.bytes.ghost_name ≡ k.bytes.ghost_name
  pub stands :
      (p : Progress) {l d : ℕ} {s base : Text} {from : ℕ} {store ends : Halves} {t : Text} {σ : State} →
      length t ≤ most_text_bytes → Stands l d s base from (mem k.bytes.now store ends) (raised_to p k.top) n t σ →
      Stands l d s base from (mem k'.bytes.now store ends) (raised_to p k'.top) (n + 2) (b "(" ++ t ++ b ")") σ
