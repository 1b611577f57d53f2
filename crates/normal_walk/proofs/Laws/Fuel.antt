-- Fuel can be forgotten: with enough of it every walk is the same, and is its first step and the walks from there.
use Rattle.std.specs.Prelude.{Bool, true, false, not, ◌&&◌, List, [], ◌∷◌, ◌++◌, ◌≡◌, ℕ, zero, suc, ◌+◌, ◌≤◌, ◌<◌, eqb, length}
use Rattle.std.proofs.Math.Option.{Option, none, some}
use Rattle.std.proofs.Math.Path.{refl, ap}
use Rattle.std.proofs.Common.{◌∙◌, arith}
use Prim.Native.Char.{code}
use Rattle.std.proofs.Math.ListN.{get_elem?}
use Rattle.grammar.specs.Text.{Text, if◌then◌otherwise◌, choose}
use Rattle.catalogue.specs.Bytes.{eqb_eq}
use Rattle.catalogue.specs.Tree.{Ty, Args, root, sub, app, also, is_lit, is_class, is_bare, single}
use Rattle.catalogue.specs.Spelling.{name_bytes}
use Rattle.catalogue.specs.Class.{push}
use Rattle.catalogue.specs.Recogniser.{Rd, rd, stop, if_next, Lead, lead_letter, lead_wrap, lead_digit, lead_S, lead_N, lead_L, lead_none, lead}
use Rattle.normal_walk.specs.Walk.{Walk, got, bad, Walker, next, when, with, name, reference, wrote, in_brackets, with_args, enter, end_or, at_lead}
use Rattle.normal_walk.specs.Walk.{at_parts, at_more, at_arg, at_end, walk_type, walk_parts, walk_more, walk_args, walk_types}
use Rattle.normal_walk.specs.Laws.Joins.{OfRd, Claim, Of}
use Rattle.normal_walk.proofs.Laws.Fewer.{Fewer, name_fewer, ref_fewer, type_fewer, args_fewer}

-- ---------------------------------------------------------------- joined readings that agree

pub next_agree : {A B : Type 0} (Q : Claim A) (o : Walk A) (f g : A → Text → Walker B) → Of o Q
    → ((x : A) (w : Text) (vs : List Ty) (k : ℕ) (r : Text) → Q x w vs k r → f x w vs k r ≡ g x w vs k r) → next o f ≡ next o g
unfolding Of
next_agree Q (got x w vs k r) f g h e = e x w vs k r h
next_agree Q bad f g h e = refl

with_agree : {A B : Type 0} (Q : A → Text → Type 0) (o : Rd A) (f g : A → Text → Walk B) → OfRd o Q
    → ((x : A) (r : Text) → Q x r → f x r ≡ g x r) → with o f ≡ with o g
unfolding OfRd
with_agree Q (rd x r) f g h e = e x r h
with_agree Q stop f g h e = refl

pub if_agree : {A : Type 0} (c : ℕ) (s : Text) (f g : Text → A) (x y : A) → ((r : Text) → s ≡ c ∷ r → f r ≡ g r) → x ≡ y
    → if_next c s f x ≡ if_next c s g y
unfolding if◌then◌otherwise◌
if_agree c [] f g x y h e = e
if_agree c (d ∷ s) f g x y h e = go (eqb d c) refl
  where
    go : (p : Bool) → eqb d c ≡ p → (if p then f s otherwise x) ≡ (if p then g s otherwise y)
    go true i = h s (ap (λ z. z ∷ s) (eqb_eq d c i))
    go false i = e

choose_agree : {A B : Type 0} (o : Option A) (f g : A → Walk B) → ((x : A) → f x ≡ g x) → choose o f bad ≡ choose o g bad
unfolding choose
choose_agree (some x) f g h = h x
choose_agree none f g h = refl

-- ---------------------------------------------------------------- productions over walks that agree before fewer than n bytes

abbrev pub Agree : {A : Type 0} → ℕ → Walker A → Walker A → Type 0
Agree n f g = (vs : List Ty) (k : ℕ) (s : Text) → length s < n → f vs k s ≡ g vs k s

abbrev pub AgreeMore : ℕ → (Ty → Text → Walker Ty) → (Ty → Text → Walker Ty) → Type 0
AgreeMore n f g = (t : Ty) (w : Text) → Agree n (f t w) (g t w)

args_enter : (t : Ty) (w : Text) (o o' : Walk Args) → o ≡ o' → with_args t w o enter ≡ with_args t w o' enter
args_enter t w o o' e = ap (λ o. with_args t w o enter) e

lead_agree : (l : Lead) (c : ℕ) (vs : List Ty) (k : ℕ) (s : Text) (type type' : Walker Ty) (args args' : Walker Args) (parts parts' : Walker Ty)
    → Agree (suc (length s)) type type' → Agree (length s) args args' → Agree (suc (length s)) parts parts'
    → at_lead l c vs k s type args parts ≡ at_lead l c vs k s type' args' parts'
lead_agree (lead_letter l) c vs k s type type' args args' parts parts' p q m = refl
lead_agree (lead_wrap d) c vs k s type type' args args' parts parts' p q m = rw (p vs k s (omega arith)) refl
lead_agree lead_digit c vs k s type type' args args' parts parts' p q m =
    with_agree (λ n r. length r + 2 ≤ suc (length s)) (name (c ∷ s)) _ _ (name_fewer (c ∷ s))
    (λ n r h. if_agree (code "I") r _ _ _ _
    (λ r' e. let e' = ap length e in
    args_enter (root n) (wrote (root n) vs (name_bytes n)) _ _ (q (push (root n) vs) k r' (omega arith))) refl)
lead_agree lead_S c vs k s type type' args args' parts parts' p q m =
    with_agree (λ i r. length r < length s) (reference s) _ _ (ref_fewer s)
    (λ i r h. choose_agree (get_elem? vs i) _ _ (λ t. if_agree (code "I") r _ _ _ _
    (λ r' e. let e' = ap length e in
    ap (when (single t && is_bare t)) (args_enter t (wrote t vs []) _ _ (q vs k r' (omega arith)))) refl))
lead_agree lead_N c vs k s type type' args args' parts parts' p q m = rw (m vs k s (omega arith)) refl
lead_agree lead_L c vs k s type type' args args' parts parts' p q m = refl
lead_agree lead_none c vs k s type type' args args' parts parts' p q m = refl

parts_agree : (l : Lead) (c : ℕ) (vs : List Ty) (k : ℕ) (s : Text) (more more' : Ty → Text → Walker Ty) → AgreeMore (length s) more more'
    → at_parts l c vs k s more ≡ at_parts l c vs k s more'
parts_agree (lead_letter l) c vs k s more more' p = refl
parts_agree (lead_wrap d) c vs k s more more' p = refl
parts_agree lead_digit c vs k s more more' p =
    with_agree (λ n r. length r + 2 ≤ suc (length s)) (name (c ∷ s)) _ _ (name_fewer (c ∷ s))
    (λ n r h. p (root n) (wrote (root n) vs (name_bytes n)) (push (root n) vs) k r (omega arith))
parts_agree lead_S c vs k s more more' p =
    with_agree (λ i r. length r < length s) (reference s) _ _ (ref_fewer s)
    (λ i r h. choose_agree (get_elem? vs i) _ _ (λ t. ap (when (is_class t)) (p t (wrote t vs []) vs k r h)))
parts_agree lead_N c vs k s more more' p = refl
parts_agree lead_L c vs k s more more' p = refl
parts_agree lead_none c vs k s more more' p = refl

end_agree : (n : ℕ) (more more' : Ty → Text → Walker Ty) → AgreeMore n more more' → (u : Ty) (w : Text) (vs : List Ty) (k : ℕ) (r : Text)
    → length r < n → end_or more u w vs k r ≡ end_or more' u w vs k r
end_agree n more more' p u w vs k r h = if_agree (code "E") r _ _ _ _ (λ r' e. refl) (p u (wrote u vs w) (push u vs) k r h)

more_agree : (i : Bool) (c : ℕ) (t : Ty) (w : Text) (vs : List Ty) (k : ℕ) (s : Text) (args args' : Walker Args) (more more' : Ty → Text → Walker Ty)
    → Of (args vs k s) (Fewer (length s)) → args vs k s ≡ args' vs k s → AgreeMore (length s) more more'
    → at_more i c t w vs k s args more ≡ at_more i c t w vs k s args' more'
more_agree true c t w vs k s args args' more more' o q p =
    ap (when (is_bare t))
    (next_agree (Fewer (length s)) (args vs k s) _ _ o
    (λ xs v ws k' r l. end_agree (length s) more more' p (app t xs) (w ++ in_brackets (code "I") v) ws k' r l)
    ∙ ap (λ a. with_args t w a (end_or more')) q)
more_agree false c t w vs k s args args' more more' o q p =
    with_agree (λ n r. length r + 2 ≤ suc (length s)) (name (c ∷ s)) _ _ (name_fewer (c ∷ s))
    (λ n r h. end_agree (length s) more more' p (sub t n) (w ++ name_bytes n) vs k r (omega arith))

arg_agree : (n : ℕ) (t : Ty) (w : Text) (vs : List Ty) (k : ℕ) (r : Text) (args args' : Walker Args) → Agree n args args' → length r < n
    → at_arg t w vs k r args ≡ at_arg t w vs k r args'
arg_agree n t w vs k r args args' p h =
    if_agree (code "E") r _ _ _ _ (λ r' e. refl)
    (ap (λ a. next a (λ xs v vs' k' r'. got (also t xs) (w ++ v) vs' k' r')) (p vs (suc k) r h))

end_types : (n : ℕ) (t : Ty) (w : Text) (vs : List Ty) (k : ℕ) (r : Text) (types types' : Walker Args) → Agree n types types' → length r < n
    → at_end t w vs k r types ≡ at_end t w vs k r types'
end_types n t w vs k [] types types' p h = refl
end_types n t w vs k (c ∷ r) types types' p h = rw (p vs k (c ∷ r) h) refl

-- ---------------------------------------------------------------- enough fuel

mutual
  unfolding walk_type

  pub type_fuel : (f g : ℕ) (vs : List Ty) (k : ℕ) (s : Text) → length s ≤ f → length s ≤ g → walk_type f vs k s ≡ walk_type g vs k s
  type_fuel zero zero vs k s h l = refl
  type_fuel zero (suc g) vs k [] h l = refl
  type_fuel zero (suc g) vs k (c ∷ s) h l = absurd (omega arith)
  type_fuel (suc f) zero vs k [] h l = refl
  type_fuel (suc f) zero vs k (c ∷ s) h l = absurd (omega arith)
  type_fuel (suc f) (suc g) vs k [] h l = refl
  type_fuel (suc f) (suc g) vs k (c ∷ s) h l =
      lead_agree (lead c) c vs k s _ _ _ _ _ _ (λ ws j r m. type_fuel f g ws j r (omega arith) (omega arith))
      (λ ws j r m. args_fuel f g ws j r (omega arith) (omega arith)) (λ ws j r m. parts_fuel f g ws j r (omega arith) (omega arith))

  pub parts_fuel : (f g : ℕ) (vs : List Ty) (k : ℕ) (s : Text) → length s ≤ f → length s ≤ g → walk_parts f vs k s ≡ walk_parts g vs k s
  parts_fuel zero zero vs k s h l = refl
  parts_fuel zero (suc g) vs k [] h l = refl
  parts_fuel zero (suc g) vs k (c ∷ s) h l = absurd (omega arith)
  parts_fuel (suc f) zero vs k [] h l = refl
  parts_fuel (suc f) zero vs k (c ∷ s) h l = absurd (omega arith)
  parts_fuel (suc f) (suc g) vs k [] h l = refl
  parts_fuel (suc f) (suc g) vs k (c ∷ s) h l =
      parts_agree (lead c) c vs k s _ _ (λ t w ws j r m. more_fuel f g t w ws j r (omega arith) (omega arith))

  pub more_fuel : (f g : ℕ) (t : Ty) (w : Text) (vs : List Ty) (k : ℕ) (s : Text) → length s < f → length s < g
      → walk_more f t w vs k s ≡ walk_more g t w vs k s
  more_fuel zero g t w vs k s h l = absurd (omega arith)
  more_fuel (suc f) zero t w vs k s h l = absurd (omega arith)
  more_fuel (suc f) (suc g) t w vs k [] h l = refl
  more_fuel (suc f) (suc g) t w vs k (c ∷ s) h l =
      more_agree (eqb c (code "I")) c t w vs k s _ _ _ _ (args_fewer f vs k s) (args_fuel f g vs k s (omega arith) (omega arith))
      (λ u v ws j r m. more_fuel f g u v ws j r (omega arith) (omega arith))

  pub args_fuel : (f g : ℕ) (vs : List Ty) (k : ℕ) (s : Text) → length s < f → length s < g → walk_args f vs k s ≡ walk_args g vs k s
  args_fuel zero g vs k s h l = absurd (omega arith)
  args_fuel (suc f) zero vs k s h l = absurd (omega arith)
  args_fuel (suc f) (suc g) vs k s h l =
      next_agree (Fewer (length s)) (walk_type f vs k s) _ _ (type_fewer f vs k s)
      (λ t w ws j r m. arg_agree (length s) t w ws j r _ _ (λ xs i r' n. args_fuel f g xs i r' (omega arith) (omega arith)) m)
      ∙ rw (type_fuel f g vs k s (omega arith) (omega arith)) refl

pub types_fuel : (f g : ℕ) (vs : List Ty) (k : ℕ) (s : Text) → length s < f → length s < g → walk_types f vs k s ≡ walk_types g vs k s
unfolding walk_types
types_fuel zero g vs k s h l = absurd (omega arith)
types_fuel (suc f) zero vs k s h l = absurd (omega arith)
types_fuel (suc f) (suc g) vs k s h l =
    next_agree (Fewer (length s)) (walk_type f vs k s) _ _ (type_fewer f vs k s)
    (λ t w ws j r m. ap (when (not (is_lit t)))
    (end_types (length s) t w ws j r _ _ (λ xs i r' n. types_fuel f g xs i r' (omega arith) (omega arith)) m))
    ∙ rw (type_fuel f g vs k s (omega arith) (omega arith)) refl

-- ---------------------------------------------------------------- walks without fuel

unfoldable pub walked : Walker Ty
walked vs k s = walk_type (length s) vs k s

unfoldable pub walked_parts : Walker Ty
walked_parts vs k s = walk_parts (length s) vs k s

unfoldable pub walked_more : Ty → Text → Walker Ty
walked_more t w vs k s = walk_more (suc (length s)) t w vs k s

unfoldable pub walked_args : Walker Args
walked_args vs k s = walk_args (suc (length s)) vs k s

unfoldable pub walked_types : Walker Args
walked_types vs k s = walk_types (suc (length s)) vs k s

module _ (vs : List Ty) (k : ℕ) where
  pub walked_is : (c : ℕ) (s : Text) → walked vs k (c ∷ s) ≡ at_lead (lead c) c vs k s walked walked_args walked_parts
  unfolding walked walked_args walked_parts walk_type
  walked_is c s =
      lead_agree (lead c) c vs k s _ _ _ _ _ _ (λ ws j r m. type_fuel (length s) (length r) ws j r (omega arith) (omega arith))
      (λ ws j r m. args_fuel (length s) (suc (length r)) ws j r (omega arith) (omega arith))
      (λ ws j r m. parts_fuel (length s) (length r) ws j r (omega arith) (omega arith))

  pub parts_is : (c : ℕ) (s : Text) → walked_parts vs k (c ∷ s) ≡ at_parts (lead c) c vs k s walked_more
  unfolding walked_parts walked_more walk_type
  parts_is c s =
      parts_agree (lead c) c vs k s _ _ (λ t w ws j r m. more_fuel (length s) (suc (length r)) t w ws j r (omega arith) (omega arith))

  pub more_is : (t : Ty) (w : Text) (c : ℕ) (s : Text)
      → walked_more t w vs k (c ∷ s) ≡ at_more (eqb c (code "I")) c t w vs k s walked_args walked_more
  unfolding walked_more walked_args walk_type
  more_is t w c s =
      more_agree (eqb c (code "I")) c t w vs k s _ _ _ _ (args_fewer (suc (length s)) vs k s) refl
      (λ u v ws j r m. more_fuel (suc (length s)) (suc (length r)) u v ws j r (omega arith) (omega arith))

  pub args_is : (s : Text) → walked_args vs k s ≡ next (walked vs k s) (λ t w ws j r. at_arg t w ws j r walked_args)
  unfolding walked walked_args walk_type
  args_is s =
      next_agree (Fewer (length s)) (walk_type (length s) vs k s) _ _ (type_fewer (length s) vs k s)
      (λ t w ws j r m. arg_agree (length s) t w ws j r _ _ (λ xs i r' n. args_fuel (length s) (suc (length r')) xs i r' (omega arith) (omega arith)) m)

  pub types_is : (s : Text)
      → walked_types vs k s ≡ next (walked vs k s) (λ t w ws j r. when (not (is_lit t)) (at_end t w ws j r walked_types))
  unfolding walked walked_types walk_types
  types_is s =
      next_agree (Fewer (length s)) (walk_type (length s) vs k s) _ _ (type_fewer (length s) vs k s)
      (λ t w ws j r m. ap (when (not (is_lit t)))
      (end_types (length s) t w ws j r _ _ (λ xs i r' n. types_fuel (length s) (suc (length r')) xs i r' (omega arith) (omega arith)) m))
