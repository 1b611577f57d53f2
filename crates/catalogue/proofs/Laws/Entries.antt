-- The table as a set of trees: what it has after a spelling and after the normal writing; closed tables.
use Rattle.std.specs.Prelude.{Bool, true, false, ◌||◌, List, [], ◌∷◌, ◌++◌, ◌⊎◌, ◌≡◌, refl, ℕ, suc, zero}
use Rattle.std.proofs.lemmas.Bool.{false≢true}
use Rattle.std.proofs.Common.{inl, inr, sym, ◌∙◌, ap}
use Rattle.std.proofs.Math.Option.{Option, none, some}
use Rattle.std.proofs.Math.ListN.{get_elem?}
use Rattle.grammar.specs.Text.{if◌then◌otherwise◌}
use Rattle.catalogue.specs.Laws.Bytes.{or-false, or_true, or_cases}
use Rattle.catalogue.specs.Tree.{Ty, Args, letter, wrap, root, sub, app, lit, one, also, same_ty, same_ty_eq, same_ty_yes, is_class}
use Rattle.catalogue.specs.Class.{push, last_is, push_new}
use Rattle.catalogue.specs.Normal.{later, seek, known, after, after_pre, after_args}
use Rattle.catalogue.specs.Laws.WellFormed.{Wf, WfArgs, bare_class}
use Rattle.catalogue.proofs.Laws.NormalTree.{seek_at}

-- the table has the tree
unfoldable pub has : Ty → List Ty → Bool
has x [] = false
has x (u ∷ us) = same_ty x u || has x us

pub has_append : (x : Ty) (us vs : List Ty) → has x (us ++ vs) ≡ has x us || has x vs
unfolding has
has_append x [] vs = refl
has_append x (u ∷ us) vs = go (has_append x us vs) (same_ty x u)
  where
    go : has x (us ++ vs) ≡ has x us || has x vs → (b : Bool) → b || has x (us ++ vs) ≡ (b || has x us) || has x vs
    go ih true = refl
    go ih false = ih

pub has_push : (x t : Ty) (us : List Ty) → has x (push t us) ≡ has x us || same_ty x t
unfolding has
has_push x t us = has_append x us (t ∷ []) ∙ ap (λ b. has x us || b) (or-false (same_ty x t))

-- an entry that is there changes nothing
pub absorb : (x t : Ty) (us : List Ty) → has t us ≡ true → has x us || same_ty x t ≡ has x us
absorb x t us h = go (same_ty x t) refl
  where
    go : (b : Bool) → same_ty x t ≡ b → has x us || b ≡ has x us
    go false e = or-false (has x us)
    go true e = let z : has x us ≡ true = rw (same_ty_eq x t e) h in rw z refl

later_none : (o : Option ℕ) → later o ≡ none → o ≡ none
later_none none h = refl
later_none (some i) h = cc

pub seek_none : (t : Ty) (us : List Ty) → seek t us ≡ none → has t us ≡ false
unfolding seek has if◌then◌otherwise◌
seek_none t [] h = refl
seek_none t (u ∷ us) h = go (λ k. seek_none t us k) (same_ty t u) refl h
  where
    go : (seek t us ≡ none → has t us ≡ false) → (b : Bool) → same_ty t u ≡ b → (if b then some 0 otherwise later (seek t us)) ≡ none → b || has t us ≡ false
    go ih true e q = cc
    go ih false e q = ih (later_none (seek t us) q)

pub has_seek : (t : Ty) (us : List Ty) → has t us ≡ true → (i : ℕ) × (seek t us ≡ some i)
unfolding seek has if◌then◌otherwise◌
has_seek t [] h = absurd (false≢true h)
has_seek t (u ∷ us) h = go (λ k. has_seek t us k) (same_ty t u) refl h
  where
    go : (has t us ≡ true → (i : ℕ) × (seek t us ≡ some i)) → (b : Bool) → same_ty t u ≡ b → b || has t us ≡ true
        → (i : ℕ) × ((if b then some 0 otherwise later (seek t us)) ≡ some i)
    go ih true e q = (0, refl)
    go ih false e q = let r = ih q in (suc r.0, rw r.1 refl)

pub at_has : (i : ℕ) (us : List Ty) (t : Ty) → get_elem? us i ≡ some t → has t us ≡ true
unfolding has
at_has i [] t h = cc
at_has zero (u ∷ us) t h = let z : u ≡ t = cc in rw (z, same_ty_yes t) refl
at_has (suc i) (u ∷ us) t h = rw (at_has i us t h) (or_true (same_ty t u))

pub seek_has : (t : Ty) (us : List Ty) (i : ℕ) → seek t us ≡ some i → has t us ≡ true
seek_has t us i h = at_has i us t (seek_at t us i h)

pub last_has : (t : Ty) (us : List Ty) → last_is t us ≡ true → has t us ≡ true
unfolding last_is has
last_has t [] h = h
last_has t (u ∷ []) h = rw h refl
last_has t (u ∷ v ∷ us) h = rw (last_has t (v ∷ us) h) (or_true (same_ty t u))

pub has_push_new : (x t : Ty) (us : List Ty) → has x (push_new t us) ≡ has x us || same_ty x t
unfolding push_new if◌then◌otherwise◌
has_push_new x t us = go (last_is t us) refl
  where
    go : (b : Bool) → last_is t us ≡ b → has x (if b then us otherwise push t us) ≡ has x us || same_ty x t
    go true e = sym (absorb x t us (last_has t us e))
    go false e = has_push x t us

-- ---------------------------------------------------------------- closed tables: what an entry is made of is there too
abbrev pub Known : Ty → List Ty → Type 0
Known (letter l) vs = Unit {0}
Known (wrap c t) vs = has (wrap c t) vs ≡ true
Known (root n) vs = has (root n) vs ≡ true
Known (sub t n) vs = has (sub t n) vs ≡ true
Known (app t xs) vs = has (app t xs) vs ≡ true
Known (lit k g v) vs = Unit {0}

abbrev pub KnownArgs : Args → List Ty → Type 0
KnownArgs (one t) vs = Known t vs
KnownArgs (also t xs) vs = Known t vs × KnownArgs xs vs

-- letters and literals are no entries
abbrev pub Children : Ty → List Ty → Type 0
Children (letter l) vs = ⊥
Children (wrap c t) vs = Known t vs
Children (root n) vs = Unit {0}
Children (sub t n) vs = Known t vs
Children (app t xs) vs = Known t vs × KnownArgs xs vs
Children (lit k g v) vs = ⊥

abbrev pub Closed : List Ty → Type 0
Closed vs = (x : Ty) → has x vs ≡ true → Children x vs

-- what is known stays known in a table that has more
abbrev pub Within : List Ty → List Ty → Type 0
Within us vs = (x : Ty) → has x us ≡ true → has x vs ≡ true

known_in : (us vs : List Ty) → Within us vs → (t : Ty) → Known t us → Known t vs
known_in us vs w (letter l) k = tt
known_in us vs w (wrap c t) k = w (wrap c t) k
known_in us vs w (root n) k = w (root n) k
known_in us vs w (sub t n) k = w (sub t n) k
known_in us vs w (app t xs) k = w (app t xs) k
known_in us vs w (lit l g v) k = tt

known_args_in : (us vs : List Ty) → Within us vs → (xs : Args) → KnownArgs xs us → KnownArgs xs vs
known_args_in us vs w (one t) k = known_in us vs w t k
known_args_in us vs w (also t xs) k = (known_in us vs w t k.0, known_args_in us vs w xs k.1)

children_in : (us vs : List Ty) → Within us vs → (t : Ty) → Children t us → Children t vs
children_in us vs w (letter l) k = k
children_in us vs w (wrap c t) k = known_in us vs w t k
children_in us vs w (root n) k = tt
children_in us vs w (sub t n) k = known_in us vs w t k
children_in us vs w (app t xs) k = (known_in us vs w t k.0, known_args_in us vs w xs k.1)
children_in us vs w (lit l g v) k = k

within_push : (t : Ty) (us : List Ty) → Within us (push t us)
within_push t us x h = has_push x t us ∙ rw h refl

within_push_new : (t : Ty) (us : List Ty) → Within us (push_new t us)
within_push_new t us x h = has_push_new x t us ∙ rw h refl

-- a table that has one entry more, whose parts are known, is closed
one_more : (us vs : List Ty) (t : Ty) → ((x : Ty) → has x vs ≡ has x us || same_ty x t) → Closed us → Children t us → Closed vs
one_more us vs t e c k x h = go (or_cases (has x us) (same_ty x t) (sym (e x) ∙ h))
  where
    w : Within us vs
    w y g = e y ∙ rw g refl

    go : (has x us ≡ true) ⊎ (same_ty x t ≡ true) → Children x vs
    go (inl g) = children_in us vs w x (c x g)
    go (inr g) = rw (same_ty_eq x t g) (children_in us vs w t k)

-- ---------------------------------------------------------------- the normal writing: an entry that is there leaves the table as it is
known_same : (t : Ty) (us vs : List Ty) → has t us ≡ true → known (seek t us) us vs ≡ us
known_same t us vs h = let r = has_seek t us h in rw r.1 refl

pub after_same : (t : Ty) (us : List Ty) → Known t us → after t us ≡ us
unfolding after
after_same (letter l) us k = refl
after_same (wrap c t) us k = known_same (wrap c t) us (push (wrap c t) (after t us)) k
after_same (root n) us k = known_same (root n) us (push (root n) us) k
after_same (sub t n) us k = known_same (sub t n) us (push_new (sub t n) (after_pre t us)) k
after_same (app t xs) us k = known_same (app t xs) us (push (app t xs) (after_args xs (after_pre t us))) k
after_same (lit l g v) us k = refl

pub after_pre_same : (t : Ty) (us : List Ty) → Known t us → after_pre t us ≡ us
unfolding after
after_pre_same (letter l) us k = refl
after_pre_same (wrap c t) us k = refl
after_pre_same (root n) us k = known_same (root n) us (push (root n) us) k
after_pre_same (sub t n) us k = known_same (sub t n) us (push (sub t n) (after_pre t us)) k
after_pre_same (app t xs) us k = known_same (app t xs) us (push (app t xs) (after_args xs (after_pre t us))) k
after_pre_same (lit l g v) us k = refl

pub after_args_same : (xs : Args) (us : List Ty) → KnownArgs xs us → after_args xs us ≡ us
unfolding after
after_args_same (one t) us k = after_same t us k
after_args_same (also t xs) us k = rw (after_same t us k.0) (after_args_same xs us k.1)

-- a table after writing t: the one before with the entries of its parts, and t
-- `ws` is the table after the parts, `vs` that table with t
pub grown_has : (o : Option ℕ) (t x : Ty) (us ws vs : List Ty) → seek t us ≡ o → ((y : Ty) → has y vs ≡ has y ws || same_ty y t)
    → (has t us ≡ true → ws ≡ us) → has x (known o us vs) ≡ has x ws || same_ty x t
grown_has none t x us ws vs e h s = h x
grown_has (some i) t x us ws vs e h s = let k = seek_has t us i e in rw (s k) (sym (absorb x t us k))

-- ---------------------------------------------------------------- tables only grow
within_refl : (us : List Ty) → Within us us
within_refl us x h = h

within_known : (o : Option ℕ) (us vs : List Ty) → Within us vs → Within us (known o us vs)
within_known none us vs w x h = w x h
within_known (some i) us vs w x h = h

mutual
  unfolding after

  pub after_within : (t : Ty) (us : List Ty) → Within us (after t us)
  after_within (letter l) us = within_refl us
  after_within (wrap c t) us =
      within_known (seek (wrap c t) us) us (push (wrap c t) (after t us)) (λ x h. within_push (wrap c t) (after t us) x (after_within t us x h))
  after_within (root n) us = within_known (seek (root n) us) us (push (root n) us) (within_push (root n) us)
  after_within (sub t n) us =
      within_known (seek (sub t n) us) us (push_new (sub t n) (after_pre t us)) (λ x h. within_push_new (sub t n) (after_pre t us) x (after_pre_within t us x h))
  after_within (app t xs) us =
      within_known (seek (app t xs) us) us (push (app t xs) (after_args xs (after_pre t us)))
      (λ x h. within_push (app t xs) (after_args xs (after_pre t us)) x (after_args_within xs (after_pre t us) x (after_pre_within t us x h)))
  after_within (lit k g v) us = within_refl us

  pub after_pre_within : (t : Ty) (us : List Ty) → Within us (after_pre t us)
  after_pre_within (letter l) us = within_refl us
  after_pre_within (wrap c t) us = within_refl us
  after_pre_within (root n) us = within_known (seek (root n) us) us (push (root n) us) (within_push (root n) us)
  after_pre_within (sub t n) us =
      within_known (seek (sub t n) us) us (push (sub t n) (after_pre t us)) (λ x h. within_push (sub t n) (after_pre t us) x (after_pre_within t us x h))
  after_pre_within (app t xs) us =
      within_known (seek (app t xs) us) us (push (app t xs) (after_args xs (after_pre t us)))
      (λ x h. within_push (app t xs) (after_args xs (after_pre t us)) x (after_args_within xs (after_pre t us) x (after_pre_within t us x h)))
  after_pre_within (lit k g v) us = within_refl us

  pub after_args_within : (xs : Args) (us : List Ty) → Within us (after_args xs us)
  after_args_within (one t) us = after_within t us
  after_args_within (also t xs) us = λ x h. after_args_within xs (after t us) x (after_within t us x h)

-- ---------------------------------------------------------------- what was written is known
pushed : (t : Ty) (us : List Ty) → has t (push t us) ≡ true
pushed t us = has_push t t us ∙ rw (same_ty_yes t) (or_true (has t us))

pushed_new : (t : Ty) (us : List Ty) → has t (push_new t us) ≡ true
pushed_new t us = has_push_new t t us ∙ rw (same_ty_yes t) (or_true (has t us))

known_has : (o : Option ℕ) (t : Ty) (us vs : List Ty) → seek t us ≡ o → has t vs ≡ true → has t (known o us vs) ≡ true
known_has none t us vs e h = h
known_has (some i) t us vs e h = seek_has t us i e

pub after_known : (t : Ty) (us : List Ty) → Known t (after t us)
unfolding after
after_known (letter l) us = tt
after_known (wrap c t) us = known_has (seek (wrap c t) us) (wrap c t) us (push (wrap c t) (after t us)) refl (pushed (wrap c t) (after t us))
after_known (root n) us = known_has (seek (root n) us) (root n) us (push (root n) us) refl (pushed (root n) us)
after_known (sub t n) us = known_has (seek (sub t n) us) (sub t n) us (push_new (sub t n) (after_pre t us)) refl (pushed_new (sub t n) (after_pre t us))
after_known (app t xs) us =
    known_has (seek (app t xs) us) (app t xs) us (push (app t xs) (after_args xs (after_pre t us))) refl (pushed (app t xs) (after_args xs (after_pre t us)))
after_known (lit k g v) us = tt

pub after_pre_known : (t : Ty) → is_class t ≡ true → (us : List Ty) → Known t (after_pre t us)
unfolding after
after_pre_known (letter l) c us = tt
after_pre_known (wrap d t) c us = absurd (false≢true c)
after_pre_known (root n) c us = known_has (seek (root n) us) (root n) us (push (root n) us) refl (pushed (root n) us)
after_pre_known (sub t n) c us = known_has (seek (sub t n) us) (sub t n) us (push (sub t n) (after_pre t us)) refl (pushed (sub t n) (after_pre t us))
after_pre_known (app t xs) c us =
    known_has (seek (app t xs) us) (app t xs) us (push (app t xs) (after_args xs (after_pre t us))) refl (pushed (app t xs) (after_args xs (after_pre t us)))
after_pre_known (lit k g v) c us = tt

pub after_args_known : (xs : Args) (us : List Ty) → KnownArgs xs (after_args xs us)
unfolding after
after_args_known (one t) us = after_known t us
after_args_known (also t xs) us =
    (known_in (after t us) (after_args xs (after t us)) (after_args_within xs (after t us)) t (after_known t us), after_args_known xs (after t us))

-- ---------------------------------------------------------------- the tables of the normal writing are closed
known_closed : (o : Option ℕ) (us vs : List Ty) → Closed us → Closed vs → Closed (known o us vs)
known_closed none us vs c d = d
known_closed (some i) us vs c d = c

app_children : (t : Ty) (xs : Args) → is_class t ≡ true → (us : List Ty) → Children (app t xs) (after_args xs (after_pre t us))
app_children t xs c us =
    (known_in (after_pre t us) (after_args xs (after_pre t us)) (after_args_within xs (after_pre t us)) t (after_pre_known t c us), after_args_known xs (after_pre t us))

mutual
  unfolding after

  pub after_closed : (t : Ty) → Wf t → (us : List Ty) → Closed us → Closed (after t us)
  after_closed (letter l) f us c = c
  after_closed (wrap d t) f us c =
      known_closed (seek (wrap d t) us) us (push (wrap d t) (after t us)) c
      (one_more (after t us) (push (wrap d t) (after t us)) (wrap d t) (λ x. has_push x (wrap d t) (after t us)) (after_closed t f.0 us c) (after_known t us))
  after_closed (root n) f us c =
      known_closed (seek (root n) us) us (push (root n) us) c (one_more us (push (root n) us) (root n) (λ x. has_push x (root n) us) c tt)
  after_closed (sub t n) f us c =
      known_closed (seek (sub t n) us) us (push_new (sub t n) (after_pre t us)) c
      (one_more (after_pre t us) (push_new (sub t n) (after_pre t us)) (sub t n) (λ x. has_push_new x (sub t n) (after_pre t us))
      (after_pre_closed t f.0 us c) (after_pre_known t f.1 us))
  after_closed (app t xs) f us c =
      known_closed (seek (app t xs) us) us (push (app t xs) (after_args xs (after_pre t us))) c
      (one_more (after_args xs (after_pre t us)) (push (app t xs) (after_args xs (after_pre t us))) (app t xs)
      (λ x. has_push x (app t xs) (after_args xs (after_pre t us)))
      (after_args_closed xs f.2 (after_pre t us) (after_pre_closed t f.0 us c)) (app_children t xs (bare_class t f.1) us))
  after_closed (lit k g v) f us c = c

  pub after_pre_closed : (t : Ty) → Wf t → (us : List Ty) → Closed us → Closed (after_pre t us)
  after_pre_closed (letter l) f us c = c
  after_pre_closed (wrap d t) f us c = c
  after_pre_closed (root n) f us c =
      known_closed (seek (root n) us) us (push (root n) us) c (one_more us (push (root n) us) (root n) (λ x. has_push x (root n) us) c tt)
  after_pre_closed (sub t n) f us c =
      known_closed (seek (sub t n) us) us (push (sub t n) (after_pre t us)) c
      (one_more (after_pre t us) (push (sub t n) (after_pre t us)) (sub t n) (λ x. has_push x (sub t n) (after_pre t us))
      (after_pre_closed t f.0 us c) (after_pre_known t f.1 us))
  after_pre_closed (app t xs) f us c =
      known_closed (seek (app t xs) us) us (push (app t xs) (after_args xs (after_pre t us))) c
      (one_more (after_args xs (after_pre t us)) (push (app t xs) (after_args xs (after_pre t us))) (app t xs)
      (λ x. has_push x (app t xs) (after_args xs (after_pre t us)))
      (after_args_closed xs f.2 (after_pre t us) (after_pre_closed t f.0 us c)) (app_children t xs (bare_class t f.1) us))
  after_pre_closed (lit k g v) f us c = c

  pub after_args_closed : (xs : Args) → WfArgs xs → (us : List Ty) → Closed us → Closed (after_args xs us)
  after_args_closed (one t) f us c = after_closed t f us c
  after_args_closed (also t xs) f us c = after_args_closed xs f.1 (after t us) (after_closed t f.0 us c)
