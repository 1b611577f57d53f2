-- What holds of a result of `resolve`, where there is one; at any level, since some of it speaks of all readers that come next.
use Rattle.std.specs.Prelude.{Bool, true, false, List, ◌≡◌, refl}
use Rattle.std.proofs.Math.Option.{Option, none, some}
use Rattle.catalogue.specs.Tree.{Ty}
use Rattle.catalogue.specs.Class.{Res, ok, wrong, and_then, provided, entry}
use Rattle.catalogue.specs.Laws.WellFormed.{Post}

unfoldable pub After {ℓ} : {A : Type 0} → Res A → (A → List Ty → Type ℓ) → Type ℓ
After (ok x us) P = P x us
After wrong P = Unit

pub after_ok {ℓ} : {A : Type 0} (x : A) (us : List Ty) (P : A → List Ty → Type ℓ) → P x us → After (ok x us) P
unfolding After
after_ok x us P h = h

pub after_then {ℓ κ} : {A B : Type 0} (P : A → List Ty → Type ℓ) (Q : B → List Ty → Type κ) (r : Res A) (f : A → List Ty → Res B) → After r P
    → ((x : A) (us : List Ty) → P x us → After (f x us) Q) → After (and_then r f) Q
unfolding After
after_then P Q (ok x us) f h k = k x us h
after_then P Q wrong f h k = tt

pub after_if {ℓ} : {A : Type 0} (P : A → List Ty → Type ℓ) (p : Bool) (r : Res A) → (p ≡ true → After r P) → After (provided p r) P
unfolding After
after_if P true r h = h refl
after_if P false r h = tt

pub after_entry {ℓ} : (P : Ty → List Ty → Type ℓ) (o : Option Ty) (us : List Ty) → ((t : Ty) → o ≡ some t → P t us) → After (entry o us) P
unfolding After
after_entry P none us h = tt
after_entry P (some t) us h = h t refl

pub after_is {ℓ} : {A : Type 0} (P : A → List Ty → Type ℓ) (r : Res A) (x : A) (us : List Ty) → r ≡ ok x us → After r P → P x us
unfolding After
after_is P r x us e h = rw e at h

-- also what the catalogue says of it
pub after_also {ℓ} : {A : Type 0} (P : A → List Ty → Type 0) (Q : A → List Ty → Type ℓ) (r : Res A) → Post r P → After r Q
    → After r (λ x us. P x us × Q x us)
unfolding After Post
after_also P Q (ok x us) h k = (h, k)
after_also P Q wrong h k = tt

-- a statement one universe up
pub record Up (A : Type 0) : Type 1 where
  pub down : A

abbrev pub up : {A : Type 0} → A → Up A
up h = record { down = h }
