-- Texts put on the stack one after the other: what they come to. Assumes nothing.
use Rattle.std.specs.Prelude.{◌++◌, ◌≡◌, take}
use Rattle.grammar.specs.Text.{Text}
use Rattle.grammar.specs.Limits.{kept_bytes}
use Rattle.store.specs.Stack.{Stack, Tail}
use Rattle.grammar.specs.States.{Progress, raised_to}

-- the text t was put on the stack in parts, and the state has the new top; the newest 34,816 bytes, at least, are there
pub record Adds (text text' : Text) (p p' : Progress) (t : Text) : Type 0 where
  pub same : p' ≡ raised_to p p'.top
  pub stack : Stack text' p'.top
  pub tail : Tail kept_bytes (take p'.top text') (take p.top text ++ t)
