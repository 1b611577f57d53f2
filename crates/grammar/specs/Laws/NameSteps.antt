-- Names, template arguments and literals one step at a time, each way by the test that leads there.
use Rattle.std.specs.Prelude.{◌≡◌, ℕ, Bool, true, false, ◌&&◌, [], ◌∷◌, drop, ◌==◌}
use Rattle.std.proofs.lemmas.Bool.{false≢true}
use Rattle.std.proofs.Math.Path.{refl, ap}
use Rattle.std.proofs.Common.{◌∙◌, eqb-true}
use Prim.Native.Char.{code}
use Rattle.grammar.specs.Text.{Text, b, if◌then◌otherwise◌, choose, starts, holds, digit}
use Rattle.grammar.specs.Tables.{operators}
use Rattle.grammar.specs.Reader.{State, refused, onto, go_to, give, find, by_code, at_code, eat, need, first, any}
use Rattle.grammar.specs.Grammar.{⟨name⟩, ⟨nested-name⟩, ⟨unqualified-name⟩, ⟨source-name⟩, ⟨operator-name⟩, ⟨type⟩, ⟨template-arg⟩, ⟨expr-primary⟩, reading}
use Rattle.grammar.specs.Grammar as g
use Rattle.grammar.specs.Laws.Agree.{moved, coded, all_coded}
use Rattle.grammar.specs.Laws.Fuel.{reading_is}
use Rattle.grammar.specs.Laws.Steps.{heads, within, no_row_of, by_code_none, at_code_none}

-- ---------------------------------------------------------------- unqualified names

module _ (r : Text) (σ : State) where
  pub unqualified_L : reading ⟨unqualified-name⟩ (moved (code "L" ∷ r) σ) ≡ reading ⟨unqualified-name⟩ (moved r σ)
  unfolding g.production g.unqualified_name by_code find onto choose go_to starts b if◌then◌otherwise◌
  unqualified_L = reading_is ⟨unqualified-name⟩ (moved (code "L" ∷ r) σ)

  pub unqualified_C : (x : ℕ) → reading ⟨unqualified-name⟩ (moved (code "C" ∷ x ∷ r) σ) ≡ give (b "{ctor}") (moved r σ)
  unfolding g.production g.unqualified_name by_code find onto choose go_to starts b if◌then◌otherwise◌ any first
  unqualified_C x = reading_is ⟨unqualified-name⟩ (moved (code "C" ∷ x ∷ r) σ)

  pub unqualified_D : (x : ℕ) → reading ⟨unqualified-name⟩ (moved (code "D" ∷ x ∷ r) σ) ≡ give (b "{dtor}") (moved r σ)
  unfolding g.production g.unqualified_name by_code find onto choose go_to starts b if◌then◌otherwise◌ any first
  unqualified_D x = reading_is ⟨unqualified-name⟩ (moved (code "D" ∷ x ∷ r) σ)

  pub unqualified_U : reading ⟨unqualified-name⟩ (moved (code "U" ∷ r) σ) ≡ g.unnamed_type_name (moved r σ)
  unfolding g.production g.unqualified_name by_code find onto choose go_to starts b if◌then◌otherwise◌
  unqualified_U = reading_is ⟨unqualified-name⟩ (moved (code "U" ∷ r) σ)

module _ (σ : State) where
  pub unqualified_C_4 : reading ⟨unqualified-name⟩ (moved (code "C" ∷ []) σ) ≡ refused 4
  unfolding g.production g.unqualified_name by_code find onto choose go_to starts b if◌then◌otherwise◌ any first
  unqualified_C_4 = reading_is ⟨unqualified-name⟩ (moved (code "C" ∷ []) σ)

  pub unqualified_D_4 : reading ⟨unqualified-name⟩ (moved (code "D" ∷ []) σ) ≡ refused 4
  unfolding g.production g.unqualified_name by_code find onto choose go_to starts b if◌then◌otherwise◌ any first
  unqualified_D_4 = reading_is ⟨unqualified-name⟩ (moved (code "D" ∷ []) σ)

  operator_end : reading ⟨operator-name⟩ (moved [] σ) ≡ refused 4
  unfolding g.production g.operator_name by_code find onto choose operators starts b if◌then◌otherwise◌
  operator_end = reading_is ⟨operator-name⟩ (moved [] σ)

  pub unqualified_end : reading ⟨unqualified-name⟩ (moved [] σ) ≡ refused 4
  unfolding g.production g.unqualified_name by_code find onto choose starts b if◌then◌otherwise◌ g.digit_ahead
  unqualified_end = reading_is ⟨unqualified-name⟩ (moved [] σ) ∙ operator_end

module _ (c : ℕ) (r : Text) (σ : State) (h : holds c (b "CDUL") ≡ false) where
  unqualified_other : (q : Bool) → digit 10 c ≡ q → reading ⟨unqualified-name⟩ (moved (c ∷ r) σ) ≡ reading (if q then ⟨source-name⟩ otherwise ⟨operator-name⟩) (moved (c ∷ r) σ)
  unfolding g.production g.unqualified_name onto all_coded coded heads within holds b g.digit_ahead
  unqualified_other q e =
      reading_is ⟨unqualified-name⟩ (moved (c ∷ r) σ)
      ∙ by_code_none _ _ _ _ (no_row_of c r _ (b "CDUL") tt tt h)
      ∙ ap (λ (p : Bool). reading (if p then ⟨source-name⟩ otherwise ⟨operator-name⟩) (moved (c ∷ r) σ)) e

  pub unqualified_digit : digit 10 c ≡ true → reading ⟨unqualified-name⟩ (moved (c ∷ r) σ) ≡ reading ⟨source-name⟩ (moved (c ∷ r) σ)
  unfolding if◌then◌otherwise◌
  unqualified_digit e = unqualified_other true e

  pub unqualified_operator : digit 10 c ≡ false → reading ⟨unqualified-name⟩ (moved (c ∷ r) σ) ≡ reading ⟨operator-name⟩ (moved (c ∷ r) σ)
  unfolding if◌then◌otherwise◌
  unqualified_operator e = unqualified_other false e

-- ---------------------------------------------------------------- names

module _ (r : Text) (σ : State) where
  pub name_N : g.name_inner reading (moved (code "N" ∷ r) σ) ≡ reading ⟨nested-name⟩ (moved (code "N" ∷ r) σ)
  unfolding g.name_inner at_code find onto choose starts b if◌then◌otherwise◌
  name_N = refl

  pub name_S : g.name_inner reading (moved (code "S" ∷ r) σ) ≡ g.s_name reading (moved (code "S" ∷ r) σ)
  unfolding g.name_inner at_code find onto choose starts b if◌then◌otherwise◌
  name_S = refl

  pub name_L : g.name_inner reading (moved (code "L" ∷ r) σ) ≡ reading ⟨name⟩ (moved r σ)
  unfolding g.name_inner at_code find onto choose starts b if◌then◌otherwise◌ need eat go_to
  name_L = refl

  pub name_Z : g.name_inner reading (moved (code "Z" ∷ r) σ) ≡ g.local_name reading (moved (code "Z" ∷ r) σ)
  unfolding g.name_inner at_code find onto choose starts b if◌then◌otherwise◌
  name_Z = refl

  pub name_other : (c : ℕ) → holds c (b "NSLZ") ≡ false → g.name_inner reading (moved (c ∷ r) σ) ≡ g.unscoped_name reading (moved (c ∷ r) σ)
  unfolding g.name_inner all_coded coded heads within holds b
  name_other c h = at_code_none _ _ _ (no_row_of c r _ (b "NSLZ") tt tt h)

  pub name_end : g.name_inner reading (moved [] σ) ≡ refused 4
  unfolding g.name_inner g.unscoped_name at_code find onto choose starts b if◌then◌otherwise◌
  name_end = rw (unqualified_end σ)

-- ---------------------------------------------------------------- template arguments

-- a byte that stands ahead
pub starts_one : (t : Text) (c : ℕ) → starts t (c ∷ []) ≡ true → t ≡ c ∷ drop 1 t
unfolding starts
starts_one [] c h = absurd (false≢true h)
starts_one (x ∷ t) c h = ap (λ (y : ℕ). y ∷ t) (eqb-true x c (and-true (x == c) (starts t []) h))
  where
    and-true : (p q : Bool) → p && q ≡ true → p ≡ true
    and-true true q k = refl
    and-true false q k = k

module _ (r : Text) (σ : State) where
  pub arg_L : reading ⟨template-arg⟩ (moved (code "L" ∷ r) σ) ≡ reading ⟨expr-primary⟩ (moved (code "L" ∷ r) σ)
  unfolding g.production g.template_arg by_code at_code find onto choose starts b if◌then◌otherwise◌
  arg_L = reading_is ⟨template-arg⟩ (moved (code "L" ∷ r) σ)

  pub arg_X : reading ⟨template-arg⟩ (moved (code "X" ∷ r) σ) ≡ g.expression reading (moved r σ)
  unfolding g.production g.template_arg by_code find onto choose go_to starts b if◌then◌otherwise◌
  arg_X = reading_is ⟨template-arg⟩ (moved (code "X" ∷ r) σ)

  pub arg_J : reading ⟨template-arg⟩ (moved (code "J" ∷ r) σ) ≡ g.pack reading (moved r σ)
  unfolding g.production g.template_arg by_code find onto choose go_to starts b if◌then◌otherwise◌
  arg_J = reading_is ⟨template-arg⟩ (moved (code "J" ∷ r) σ)

pub arg_type :
    (σ : State) → starts σ.rest (b "L") ≡ false → starts σ.rest (b "X") ≡ false → starts σ.rest (b "J") ≡ false →
    reading ⟨template-arg⟩ σ ≡ reading ⟨type⟩ σ
unfolding g.production g.template_arg by_code at_code find onto choose if◌then◌otherwise◌
arg_type σ l x j = reading_is ⟨template-arg⟩ σ ∙ rw (x, j, l)
