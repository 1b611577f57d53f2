-- Laws of Leads.antt. Assumes nothing.
use Rattle.std.specs.Prelude.{Bool, ◌||◌, ◌≡◌, ℕ, map}
use Rattle.std.proofs.Math.Bool.{true, false}
use Rattle.std.proofs.lemmas.Bool.{false≢true}
use Rattle.std.proofs.lemmas.Bool.Decides.{nat_tests}
use Rattle.std.specs.List.{list_any}
use mathlib.Core.List.{List, [], ◌∷◌}
use Rattle.std.proofs.Math.Option.{Option, none, some}
use Rattle.std.proofs.Math.Path.{refl, ap}
use Rattle.std.proofs.Common.{sym, subst, eqb-true}
use Rattle.std.proofs.Math.Dec.{eqb}
use Rattle.grammar.specs.Text.{if◌then◌otherwise◌, choose, digit, digit_value}
use Rattle.catalogue.specs.Tree.{Letter as Letters, Wrap as Wraps, letter_code, wrap_code}
use Rattle.catalogue.specs.Recogniser.{with_code, all_letters, all_wraps, Lead as First, lead_letter, lead_wrap, lead_digit, lead_S, lead_N, lead_L, lead_none, lead}
use Rattle.normal_steps.specs.declared.lead.Lead.{Lead}
use Rattle.normal_steps.specs.declared.lead.Lead.TheVariants.{Letter, Wrap, Digit, S, N, L, None}
use Rattle.normal_steps.specs.Leads.{class, there}

-- ---------------------------------------------------------------- the one that has a byte

module _ {A : Type 0} (f : A → ℕ) (c : ℕ) where
  pub there_any : (xs : List A) → there (with_code f c xs) ≡ list_any (eqb c) (map f xs)
  unfolding with_code if◌then◌otherwise◌
  there_any [] = refl
  there_any (x ∷ xs) = go (eqb c (f x)) (there_any xs)
    where
      go : (q : Bool) → there (with_code f c xs) ≡ list_any (eqb c) (map f xs) → there (if q then some x otherwise with_code f c xs) ≡ (q || list_any (eqb c) (map f xs))
      go true e = refl
      go false e = e

  pub coded : (xs : List A) (y : A) → with_code f c xs ≡ some y → f y ≡ c
  unfolding with_code if◌then◌otherwise◌
  coded [] y e = let z : true ≡ false = ap there (sym e) in absurd (false≢true (sym z))
  coded (x ∷ xs) y e = go (eqb c (f x)) refl (coded xs y) e
    where
      go : (q : Bool) → eqb c (f x) ≡ q → (with_code f c xs ≡ some y → f y ≡ c) → (if q then some x otherwise with_code f c xs) ≡ some y → f y ≡ c
      go true g h e' = let z : x ≡ y = cc in rw (← z) (sym (eqb-true c (f x) g))
      go false g h e' = h e'

-- for a test of the bytes
pub ruleset bytes = (there_any, nat_tests)

-- says nothing: where it is opened, all that it names is, and an attribute cannot name if◌then◌otherwise◌
unfoldable pub classes : Type 0
unfolding lead with_code if◌then◌otherwise◌ digit digit_value choose
classes = Unit {0}

-- ---------------------------------------------------------------- what a class says of the byte

-- the byte of a letter or a wrapper
abbrev HasByte : ℕ → First → Type 0
HasByte c (lead_letter l) = letter_code l ≡ c
HasByte c (lead_wrap w) = wrap_code w ≡ c
HasByte c lead_digit = Unit {0}
HasByte c lead_S = Unit {0}
HasByte c lead_N = Unit {0}
HasByte c lead_L = Unit {0}
HasByte c lead_none = Unit {0}

has_byte : (c : ℕ) → HasByte c (lead c)
unfolding lead if◌then◌otherwise◌ choose
has_byte c = go (digit 10 c) (eqb c 83) (eqb c 78) (eqb c 76) (with_code wrap_code c all_wraps) (with_code letter_code c all_letters) refl refl
  where
    go : (p q r t : Bool) (v : Option Wraps) (o : Option Letters) → with_code wrap_code c all_wraps ≡ v → with_code letter_code c all_letters ≡ o
        → HasByte c
        (if p then lead_digit otherwise
        if q then lead_S otherwise
        if r then lead_N otherwise
        if t then lead_L otherwise choose v lead_wrap (choose o lead_letter lead_none))
    go true q r t v o e f = tt
    go false true r t v o e f = tt
    go false false true t v o e f = tt
    go false false false true v o e f = tt
    go false false false false (some w) o e f = coded wrap_code c all_wraps w e
    go false false false false none (some l) e f = coded letter_code c all_letters l f
    go false false false false none none e f = tt

abbrev pub LeadIs : ℕ → Lead → Type 0
LeadIs c Letter = (l : Letters) × ((lead c ≡ lead_letter l) × (letter_code l ≡ c))
LeadIs c Wrap = (w : Wraps) × ((lead c ≡ lead_wrap w) × (wrap_code w ≡ c))
LeadIs c Digit = lead c ≡ lead_digit
LeadIs c S = lead c ≡ lead_S
LeadIs c N = lead c ≡ lead_N
LeadIs c L = lead c ≡ lead_L
LeadIs c None = lead c ≡ lead_none

classed : (c : ℕ) (x : First) → lead c ≡ x → LeadIs c (class x)
classed c (lead_letter l) e = (l, (e, subst (HasByte c) e (has_byte c)))
classed c (lead_wrap w) e = (w, (e, subst (HasByte c) e (has_byte c)))
classed c lead_digit e = e
classed c lead_S e = e
classed c lead_N e = e
classed c lead_L e = e
classed c lead_none e = e

-- for an arm of a match on the code's answer
pub lead_is : (c : ℕ) (r : Lead) → r ≡ class (lead c) → LeadIs c r
lead_is c r e = subst (LeadIs c) (sym e) (classed c (lead c) refl)
