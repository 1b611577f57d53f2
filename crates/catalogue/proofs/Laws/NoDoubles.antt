-- The table of the normal writing has no entry twice, so sums over it are no larger than over any table with the same entries.
use Rattle.std.specs.Prelude.{Bool, true, false, ◌||◌, List, [], ◌∷◌, ◌⊎◌, ◌≡◌, refl, ℕ, suc, ◌+◌, ◌≤◌, ◌<◌}
use Rattle.std.proofs.lemmas.Bool.{false≢true}
use Rattle.std.proofs.Common.{inl, inr, sym, ◌∙◌, arith}
use Rattle.std.proofs.Math.Option.{Option, none, some}
use Rattle.grammar.specs.Text.{if◌then◌otherwise◌}
use Rattle.catalogue.specs.Laws.Bytes.{or_left, or_right, or_true, or_cases, or_no}
use Rattle.catalogue.specs.Tree.{Ty, Args, letter, wrap, root, sub, app, lit, one, also, same_ty, same_ty_eq, same_ty_yes}
use Rattle.catalogue.specs.Class.{push, last_is, push_new}
use Rattle.catalogue.specs.Normal.{seek, known, after, after_pre, after_args}
use Rattle.catalogue.proofs.Laws.Entries.{has, has_push, has_push_new, seek_none, Within}

-- ---------------------------------------------------------------- no entry twice
unfoldable pub NoDup : List Ty → Type 0
NoDup [] = Unit {0}
NoDup (u ∷ us) = (has u us ≡ false) × NoDup us

unfoldable mutual
  pub size : Ty → ℕ
  size (letter l) = 1
  size (wrap c t) = suc (size t)
  size (root n) = 1
  size (sub t n) = suc (size t)
  size (app t xs) = suc (size t + size_args xs)
  size (lit k g v) = 1

  pub size_args : Args → ℕ
  size_args (one t) = size t
  size_args (also t xs) = size t + size_args xs

-- what is new in a table is no larger than a number
abbrev pub NewUpTo : List Ty → List Ty → ℕ → Type 0
NewUpTo us ws n = (x : Ty) → has x ws ≡ true → (has x us ≡ true) ⊎ (size x ≤ n)

new_refl : (us : List Ty) (n : ℕ) → NewUpTo us us n
new_refl us n x h = inl h

pub new_trans : (us vs ws : List Ty) (m n : ℕ) → NewUpTo us vs m → NewUpTo vs ws n → NewUpTo us ws (m + n)
new_trans us vs ws m n a b x h = go (b x h)
  where
    left : (has x us ≡ true) ⊎ (size x ≤ m) → (has x us ≡ true) ⊎ (size x ≤ m + n)
    left (inl k) = inl k
    left (inr k) = inr (omega arith)

    go : (has x vs ≡ true) ⊎ (size x ≤ n) → (has x us ≡ true) ⊎ (size x ≤ m + n)
    go (inl k) = left (a x k)
    go (inr k) = inr (omega arith)

-- one entry more, of a size that the bound allows
new_one : (o : Option ℕ) (t : Ty) (us ws vs : List Ty) (n m : ℕ) → NewUpTo us ws n → ((x : Ty) → has x vs ≡ has x ws || same_ty x t) → n ≤ m → size t ≤ m
    → NewUpTo us (known o us vs) m
new_one (some i) t us ws vs n m a e p q x h = inl h
new_one none t us ws vs n m a e p q x h = go (or_cases (has x ws) (same_ty x t) (sym (e x) ∙ h))
  where
    old : (has x us ≡ true) ⊎ (size x ≤ n) → (has x us ≡ true) ⊎ (size x ≤ m)
    old (inl k) = inl k
    old (inr k) = inr (omega arith)

    go : (has x ws ≡ true) ⊎ (same_ty x t ≡ true) → (has x us ≡ true) ⊎ (size x ≤ m)
    go (inl k) = old (a x k)
    go (inr k) = inr (rw (same_ty_eq x t k) q)

mutual
  unfolding after size

  pub after_new : (t : Ty) (us : List Ty) → NewUpTo us (after t us) (size t)
  after_new (letter l) us = new_refl us 1
  after_new (wrap c t) us =
      new_one (seek (wrap c t) us) (wrap c t) us (after t us) (push (wrap c t) (after t us)) (size t) (suc (size t)) (after_new t us)
      (λ x. has_push x (wrap c t) (after t us)) (omega arith) (omega arith)
  after_new (root n) us =
      new_one (seek (root n) us) (root n) us us (push (root n) us) 1 1 (new_refl us 1) (λ x. has_push x (root n) us) (omega arith) (omega arith)
  after_new (sub t n) us =
      new_one (seek (sub t n) us) (sub t n) us (after_pre t us) (push_new (sub t n) (after_pre t us)) (size t) (suc (size t)) (after_pre_new t us)
      (λ x. has_push_new x (sub t n) (after_pre t us)) (omega arith) (omega arith)
  after_new (app t xs) us =
      new_one (seek (app t xs) us) (app t xs) us (after_args xs (after_pre t us)) (push (app t xs) (after_args xs (after_pre t us)))
      (size t + size_args xs) (suc (size t + size_args xs))
      (new_trans us (after_pre t us) (after_args xs (after_pre t us)) (size t) (size_args xs) (after_pre_new t us) (after_args_new xs (after_pre t us)))
      (λ x. has_push x (app t xs) (after_args xs (after_pre t us))) (omega arith) (omega arith)
  after_new (lit k g v) us = new_refl us 1

  pub after_pre_new : (t : Ty) (us : List Ty) → NewUpTo us (after_pre t us) (size t)
  after_pre_new (letter l) us = new_refl us 1
  after_pre_new (wrap c t) us = new_refl us (suc (size t))
  after_pre_new (root n) us =
      new_one (seek (root n) us) (root n) us us (push (root n) us) 1 1 (new_refl us 1) (λ x. has_push x (root n) us) (omega arith) (omega arith)
  after_pre_new (sub t n) us =
      new_one (seek (sub t n) us) (sub t n) us (after_pre t us) (push (sub t n) (after_pre t us)) (size t) (suc (size t)) (after_pre_new t us)
      (λ x. has_push x (sub t n) (after_pre t us)) (omega arith) (omega arith)
  after_pre_new (app t xs) us =
      new_one (seek (app t xs) us) (app t xs) us (after_args xs (after_pre t us)) (push (app t xs) (after_args xs (after_pre t us)))
      (size t + size_args xs) (suc (size t + size_args xs))
      (new_trans us (after_pre t us) (after_args xs (after_pre t us)) (size t) (size_args xs) (after_pre_new t us) (after_args_new xs (after_pre t us)))
      (λ x. has_push x (app t xs) (after_args xs (after_pre t us))) (omega arith) (omega arith)
  after_pre_new (lit k g v) us = new_refl us 1

  pub after_args_new : (xs : Args) (us : List Ty) → NewUpTo us (after_args xs us) (size_args xs)
  after_args_new (one t) us = after_new t us
  after_args_new (also t xs) us = new_trans us (after t us) (after_args xs (after t us)) (size t) (size_args xs) (after_new t us) (after_args_new xs (after t us))

same_flip : (x t : Ty) → same_ty x t ≡ false → same_ty t x ≡ false
same_flip x t h = go (same_ty t x) refl
  where
    go : (b : Bool) → same_ty t x ≡ b → b ≡ false
    go false e = refl
    go true e = let z : same_ty x t ≡ true = rw (same_ty_eq t x e) (same_ty_yes x) in sym z ∙ h

nodup_push : (t : Ty) (us : List Ty) → has t us ≡ false → NoDup us → NoDup (push t us)
unfolding NoDup has
nodup_push t [] h d = (refl, tt)
nodup_push t (u ∷ us) h d = (
  has_push u t us ∙ or_no (has u us) (same_ty u t) d.0 (same_flip t u (or_left (same_ty t u) (has t us) h)),
  nodup_push t us (or_right (same_ty t u) (has t us) h) d.1,
)

nodup_push_new : (t : Ty) (us : List Ty) → has t us ≡ false → NoDup us → NoDup (push_new t us)
unfolding push_new if◌then◌otherwise◌
nodup_push_new t us h d = go (last_is t us)
  where
    go : (b : Bool) → NoDup (if b then us otherwise push t us)
    go true = d
    go false = nodup_push t us h d

pub fresh : (t : Ty) (us ws : List Ty) (n : ℕ) → NewUpTo us ws n → n < size t → has t us ≡ false → has t ws ≡ false
fresh t us ws n a p h = go (has t ws) refl
  where
    bad : (has t us ≡ true) ⊎ (size t ≤ n) → ⊥
    bad (inl k) = false≢true (sym h ∙ k)
    bad (inr k) = omega arith

    go : (b : Bool) → has t ws ≡ b → has t ws ≡ false
    go false e = e
    go true e = absurd (bad (a t e))

nodup_known : (o : Option ℕ) (t : Ty) (us vs : List Ty) → seek t us ≡ o → NoDup us → (has t us ≡ false → NoDup vs) → NoDup (known o us vs)
nodup_known none t us vs e d h = h (seek_none t us e)
nodup_known (some i) t us vs e d h = d

mutual
  unfolding after size

  pub after_nodup : (t : Ty) (us : List Ty) → NoDup us → NoDup (after t us)
  after_nodup (letter l) us d = d
  after_nodup (wrap c t) us d =
      nodup_known (seek (wrap c t) us) (wrap c t) us (push (wrap c t) (after t us)) refl d
      (λ h. nodup_push (wrap c t) (after t us) (fresh (wrap c t) us (after t us) (size t) (after_new t us) (omega arith) h) (after_nodup t us d))
  after_nodup (root n) us d = nodup_known (seek (root n) us) (root n) us (push (root n) us) refl d (λ h. nodup_push (root n) us h d)
  after_nodup (sub t n) us d =
      nodup_known (seek (sub t n) us) (sub t n) us (push_new (sub t n) (after_pre t us)) refl d
      (λ h. nodup_push_new (sub t n) (after_pre t us) (fresh (sub t n) us (after_pre t us) (size t) (after_pre_new t us) (omega arith) h) (after_pre_nodup t us d))
  after_nodup (app t xs) us d =
      nodup_known (seek (app t xs) us) (app t xs) us (push (app t xs) (after_args xs (after_pre t us))) refl d
      (λ h. nodup_push (app t xs) (after_args xs (after_pre t us))
      (fresh (app t xs) us (after_args xs (after_pre t us)) (size t + size_args xs)
      (new_trans us (after_pre t us) (after_args xs (after_pre t us)) (size t) (size_args xs) (after_pre_new t us) (after_args_new xs (after_pre t us)))
      (omega arith) h)
      (after_args_nodup xs (after_pre t us) (after_pre_nodup t us d)))
  after_nodup (lit k g v) us d = d

  pub after_pre_nodup : (t : Ty) (us : List Ty) → NoDup us → NoDup (after_pre t us)
  after_pre_nodup (letter l) us d = d
  after_pre_nodup (wrap c t) us d = d
  after_pre_nodup (root n) us d = nodup_known (seek (root n) us) (root n) us (push (root n) us) refl d (λ h. nodup_push (root n) us h d)
  after_pre_nodup (sub t n) us d =
      nodup_known (seek (sub t n) us) (sub t n) us (push (sub t n) (after_pre t us)) refl d
      (λ h. nodup_push (sub t n) (after_pre t us) (fresh (sub t n) us (after_pre t us) (size t) (after_pre_new t us) (omega arith) h) (after_pre_nodup t us d))
  after_pre_nodup (app t xs) us d =
      nodup_known (seek (app t xs) us) (app t xs) us (push (app t xs) (after_args xs (after_pre t us))) refl d
      (λ h. nodup_push (app t xs) (after_args xs (after_pre t us))
      (fresh (app t xs) us (after_args xs (after_pre t us)) (size t + size_args xs)
      (new_trans us (after_pre t us) (after_args xs (after_pre t us)) (size t) (size_args xs) (after_pre_new t us) (after_args_new xs (after_pre t us)))
      (omega arith) h)
      (after_args_nodup xs (after_pre t us) (after_pre_nodup t us d)))
  after_pre_nodup (lit k g v) us d = d

  pub after_args_nodup : (xs : Args) (us : List Ty) → NoDup us → NoDup (after_args xs us)
  after_args_nodup (one t) us d = after_nodup t us d
  after_args_nodup (also t xs) us d = after_args_nodup xs (after t us) (after_nodup t us d)

-- ---------------------------------------------------------------- sums over a table
unfoldable pub sum : (Ty → ℕ) → List Ty → ℕ
sum f [] = 0
sum f (u ∷ us) = f u + sum f us

remove : Ty → List Ty → List Ty
remove t [] = []
remove t (u ∷ us) = if same_ty t u then us otherwise u ∷ remove t us

sum_remove : (f : Ty → ℕ) (t : Ty) (us : List Ty) → has t us ≡ true → sum f us ≡ f t + sum f (remove t us)
unfolding sum remove has if◌then◌otherwise◌
sum_remove f t [] h = absurd (false≢true h)
sum_remove f t (u ∷ us) h = go (same_ty t u) refl h (λ k. sum_remove f t us k)
  where
    go : (b : Bool) → same_ty t u ≡ b → b || has t us ≡ true → (has t us ≡ true → sum f us ≡ f t + sum f (remove t us))
        → f u + sum f us ≡ f t + sum f (if b then us otherwise u ∷ remove t us)
    go true e k ih = rw (same_ty_eq t u e) refl
    go false e k ih = let z = ih k in omega arith

has_remove : (x t : Ty) (us : List Ty) → same_ty x t ≡ false → has x (remove t us) ≡ has x us
unfolding remove has if◌then◌otherwise◌
has_remove x t [] h = refl
has_remove x t (u ∷ us) h = go (same_ty t u) refl (has_remove x t us h)
  where
    go : (b : Bool) → same_ty t u ≡ b → has x (remove t us) ≡ has x us → has x (if b then us otherwise u ∷ remove t us) ≡ same_ty x u || has x us
    go true e ih = let z : same_ty x u ≡ false = rw (same_ty_eq t u e) at h in rw z refl
    go false e ih = rw ih refl

-- a table without doubles, all of which another has, sums to no more
pub sum_within : (f : Ty → ℕ) (vs us : List Ty) → NoDup vs → Within vs us → sum f vs ≤ sum f us
unfolding sum NoDup has
sum_within f [] us d w = omega arith
sum_within f (v ∷ vs) us d w =
    let h : has v us ≡ true = w v (rw (same_ty_yes v) refl) in
    let k = sum_remove f v us h in
    let r = sum_within f vs (remove v us) d.1 (λ x g. has_remove x v us (apart x g) ∙ w x (rw g (or_true (same_ty x v)))) in
    omega arith
  where
    apart : (x : Ty) → has x vs ≡ true → same_ty x v ≡ false
    apart x g = go (same_ty x v) refl
      where
        go : (b : Bool) → same_ty x v ≡ b → b ≡ false
        go false e = refl
        go true e = sym (rw (same_ty_eq x v e) at g) ∙ d.0
