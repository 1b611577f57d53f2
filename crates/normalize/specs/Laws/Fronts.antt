-- The front of a symbol refuses it, or hands on what stands behind it; so the answer for a normal symbol is that of the reading for the name,
-- gone on with. Assumes nothing.
use Rattle.std.specs.Prelude.{Bool, true, false, ◌≡◌, refl, ℕ, suc, ltb, length}
use Rattle.std.proofs.Math.Option.{Option, none, some}
use Rattle.std.proofs.Common.{sym, ap, ◌∙◌}
use Rattle.grammar.specs.Text.{Text, if◌then◌otherwise◌, choose}
use Rattle.grammar.specs.Limits.{most_symbol_bytes}
use Rattle.grammar.specs.Names.{Answer, refusal, high, front, mangled_name, demangle}
use Rattle.catalogue.specs.Answer.{normal_after, normal_symbol}

-- the front refuses with a number, or hands on what stands behind it
pub data Alike (F : (Text → Answer) → Answer) : Type 0 where
  refuses : (r : ℕ) → ((f : Text → Answer) → F f ≡ refusal (suc r)) → Alike F
  behind : (u : Text) → ((f : Text → Answer) → F f ≡ f u) → Alike F

by_tests : (q p : Bool) (o : Option (Unit {0} × Text))
    → Alike (λ f. if q then refusal 1 otherwise if p then refusal 2 otherwise choose o (λ r. f r.1) (refusal 3))
unfolding if◌then◌otherwise◌ choose
by_tests true p o = refuses 0 (λ f. refl)
by_tests false true o = refuses 1 (λ f. refl)
by_tests false false none = refuses 2 (λ f. refl)
by_tests false false (some r) = behind r.1 (λ f. refl)

pub fronted : (s : Text) → Alike (front most_symbol_bytes s)
unfolding front
fronted s = by_tests (ltb most_symbol_bytes (length s)) (high s) _

after_front : (s : Text) (F : (Text → Answer) → Answer) → Alike F → F (λ u. normal_after most_symbol_bytes s (mangled_name u)) ≡ normal_after most_symbol_bytes s (F mangled_name)
unfolding normal_after
after_front s F (refuses r h) = h _ ∙ ap (normal_after most_symbol_bytes s) (sym (h mangled_name))
after_front s F (behind u h) = h _ ∙ ap (normal_after most_symbol_bytes s) (sym (h mangled_name))

pub normal_behind : (s : Text) → front most_symbol_bytes s (λ u. normal_after most_symbol_bytes s (mangled_name u)) ≡ normal_symbol most_symbol_bytes s
unfolding normal_symbol demangle
normal_behind s = after_front s (front most_symbol_bytes s) (fronted s)
