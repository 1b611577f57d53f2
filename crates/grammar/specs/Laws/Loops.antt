-- Laws of Loops.antt. Assumes nothing.
use Rattle.std.specs.Prelude.{◌≡◌, ℕ, zero, suc, ◌<◌, Bool, true, false, not, List, [], ◌∷◌, length, ◌==◌}
use Rattle.std.proofs.Math.Path.{refl}
use Rattle.std.proofs.Common.{arith}
use Rattle.grammar.specs.Text.{Text, b, if◌then◌otherwise◌, same, starts}
use Rattle.grammar.specs.Reader.{State, Result, Reader, onto, ◌>>=◌, ◌>>◌, return, unfit, ahead, need, eat, steps, while, up_to_E, one_more}
use Rattle.grammar.specs.Grammar.{Production, ⟨template-arg⟩, Parts, prefix, reading}
use Rattle.grammar.specs.Laws.Agree.{unread, moved, Agree, reads, refuses, bind, push_arg_keeps, while_is}
use Rattle.grammar.specs.Laws.Fuel.{reading_ends, prefix_shrinks}
use Rattle.grammar.specs.Loops.{argument, before_E}

-- a step of a loop, and the loop from there
abbrev pub Stepped : {A : Type 0} → (Text → Bool) → (A → Reader A) → A → State → Result A
Stepped on step x s = (if on s.rest then (λ u. onto (λ y. while on step y) (step x u)) otherwise return x) s

-- each step reads a byte
pub items_shrink : (k : Production) (l : List Text) (s : State) → Agree (unread s) (one_more (reading k) l s) (one_more (reading k) l s)
items_shrink k l s = bind (reading_ends k s) λ t v h. reads h

pub args_shrink : (l : List Text) (s : State) → Agree (unread s) (one_more argument l s) (one_more argument l s)
args_shrink l s = bind (bind (reading_ends ⟨template-arg⟩ s) λ t v h. bind (push_arg_keeps t v h) λ _ w k. reads k) λ t v h. reads h

pub parts_shrink : (p : Parts) (s : State) → Agree (unread s) (prefix reading p s) (prefix reading p s)
parts_shrink p s = prefix_shrinks reading reading (suc (unread s)) (λ k v h. reading_ends k v) p s (omega arith)

pub items_loop : (k : Production) (on : Text → Bool) (l : List Text) (s : State) → while on (one_more (reading k)) l s ≡ Stepped on (one_more (reading k)) l s
items_loop k on l s = while_is (one_more (reading k)) (items_shrink k) on l s

pub args_loop : (on : Text → Bool) (l : List Text) (s : State) → while on (one_more argument) l s ≡ Stepped on (one_more argument) l s
args_loop on l s = while_is (one_more argument) args_shrink on l s

pub parts_loop : (on : Text → Bool) (p : Parts) (s : State) → while on (prefix reading) p s ≡ Stepped on (prefix reading) p s
parts_loop on p s = while_is (prefix reading) parts_shrink on p s

through :
    {A B : Type 0} {n : ℕ} {q r : Result A} (f g : A → Reader A) (h : A → Reader B) →
    Agree n q r →
    ((y : A) (u : State) → unread u < n → onto h (f y u) ≡ onto h (g y u)) →
    onto h (onto f q) ≡ onto h (onto g r)
unfolding onto
through f g h (reads l) k = k _ _ l
through f g h refuses k = refl

-- an E is read past, and the value stays
abbrev pub closed : {A : Type 0} → A → Reader A
closed y = do
  need "E"
  return y

-- a list up to an E stops before the E or the end, and then wants the E
module _ {A : Type 0} (step : A → Reader A) (shrinks : (x : A) (s : State) → Agree (unread s) (step x s) (step x s)) where
  unfoldable guarded : A → Reader A
  guarded z = do
    t ← ahead
    if same t [] then unfit otherwise step z

  abbrev Closes : ℕ → A → State → Type 0
  Closes k x s = onto closed (steps k (λ t. not (starts t (b "E"))) guarded x s) ≡ onto closed (steps k before_E step x s)

  at_byte :
      (q : Bool) (c : ℕ) (r : Text) (k : ℕ) (x : A) (s : State) →
      (c == 69) ≡ q →
      ((y : A) (u : State) → unread u < suc (length r) → Closes k y u) →
      Closes (suc k) x (moved (c ∷ r) s)
  unfolding steps onto guarded before_E if◌then◌otherwise◌ same starts b need eat
  at_byte true c r k x s f h = rw f
  at_byte false c r k x s f h = rw f (through _ _ _ (shrinks x (moved (c ∷ r) s)) h)

  at_text :
      (t : Text) (k : ℕ) (x : A) (s : State) →
      ((y : A) (u : State) → unread u < length t → Closes k y u) →
      Closes (suc k) x (moved t s)
  unfolding steps onto guarded before_E if◌then◌otherwise◌ same starts b need eat
  at_text [] k x s h = refl
  at_text (c ∷ r) k x s h = at_byte (c == 69) c r k x s refl h

  closes : (k : ℕ) (x : A) (s : State) → unread s < k → Closes k x s
  closes zero x s h = absurd (omega arith)
  closes (suc k) x s h = at_text s.rest k x s (λ y u l. closes k y u (omega arith))

  pub up_to_E_is : (x : A) (s : State) → up_to_E step x s ≡ onto closed (while before_E step x s)
  unfolding up_to_E while onto guarded
  up_to_E_is x s = closes (suc (unread s)) x s (omega arith)
