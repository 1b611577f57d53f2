-- The normal spelling of a well-formed tree resolves to that tree, from any table.
use Rattle.std.specs.Prelude.{Bool, true, false, List, [], ◌∷◌, ◌≡◌, refl, ℕ, suc}
use Rattle.std.proofs.Math.Option.{Option, none, some, none-ne-some}
use Rattle.std.proofs.Common.{sym, ap}
use Rattle.std.proofs.Math.ListN.{get_elem?}
use Rattle.grammar.specs.Text.{Text, if◌then◌otherwise◌}
use Rattle.catalogue.specs.Tree.{Ty, Args, Enc, letter, wrap, root, sub, app, lit, one, also, enc, same_ty, same_ty_eq, is_class, is_bare, single}
use Rattle.catalogue.specs.Spelling.{Sp, Pre, SpArgs, s_wrap, plain, nest_sub, p_root, p_sub, p_app}
use Rattle.catalogue.specs.Class.{name_ok, push, push_new, ok, resolve, resolve_pre, resolve_args, resolve_name, resolve_params, resolve_sym, is_const, has_params}
use Rattle.catalogue.specs.Normal.{later, seek, known, after, after_pre, after_args, ref_or, pre_or, templ_of, normal, normal_pre, normal_args}
use Rattle.catalogue.specs.Normal.{normal_params, after_params, normal_name, after_name, normal_sym, after_sym}
use Rattle.catalogue.specs.Laws.WellFormed.{Wf, WfArgs, WfParams, WfName, WfEnc, bare_class}

pub later_some : (o : Option ℕ) (i : ℕ) → later o ≡ some i → (j : ℕ) × (i ≡ suc j) × (o ≡ some j)
later_some none i h = absurd (none-ne-some i h)
later_some (some j) i h = (j, (cc), refl)

-- what is found stands there
pub seek_at : (t : Ty) (us : List Ty) (i : ℕ) → seek t us ≡ some i → get_elem? us i ≡ some t
unfolding seek if◌then◌otherwise◌
seek_at t [] i h = cc
seek_at t (u ∷ us) i h = go (λ j. seek_at t us j) (same_ty t u) refl h
  where
    go : ((j : ℕ) → seek t us ≡ some j → get_elem? us j ≡ some t) → (p : Bool) → same_ty t u ≡ p
        → (if p then some 0 otherwise later (seek t us)) ≡ some i → get_elem? (u ∷ us) i ≡ some t
    go ih true e q = let z : i ≡ 0 = cc in rw z (ap some (sym (same_ty_eq t u e)))
    go ih false e q = let r = later_some (seek t us) i q in rw r.1 (ih r.0 r.2)

ref_resolves : (o : Option ℕ) (t : Ty) (us vs : List Ty) (s : Sp) → seek t us ≡ o → resolve s us ≡ ok t vs
    → resolve (ref_or o s) us ≡ ok t (known o us vs)
unfolding resolve
ref_resolves none t us vs s e h = h
ref_resolves (some i) t us vs s e h = rw (seek_at t us i e) refl

pre_resolves : (o : Option ℕ) (t : Ty) (us vs : List Ty) (q : Pre) → seek t us ≡ o → is_class t ≡ true → resolve_pre q us ≡ ok t vs
    → resolve_pre (pre_or o q) us ≡ ok t (known o us vs)
unfolding resolve
pre_resolves none t us vs q e c h = h
pre_resolves (some i) t us vs q e c h = rw (seek_at t us i e) (rw c refl)

root_templ : (n : Text) (us vs : List Ty) (ss : SpArgs) (xs : Args) (o : Option ℕ) → name_ok n ≡ true → seek (root n) us ≡ o
    → resolve_args ss (known o us (push (root n) us)) ≡ ok xs vs
    → resolve (templ_of true (pre_or o (p_root n)) ss) us ≡ ok (app (root n) xs) (push (app (root n) xs) vs)
unfolding resolve
root_templ n us vs ss xs none f e h = rw (f, h) refl
root_templ n us vs ss xs (some i) f e h = rw (seek_at (root n) us i e) (rw h refl)

templ_resolves : (t : Ty) (us vs : List Ty) (ss : SpArgs) (xs : Args) → Wf t → is_bare t ≡ true
    → resolve_pre (normal_pre t us) us ≡ ok t (after_pre t us) → resolve_args ss (after_pre t us) ≡ ok xs vs
    → resolve (templ_of (single t) (normal_pre t us) ss) us ≡ ok (app t xs) (push (app t xs) vs)
unfolding resolve normal after
templ_resolves (letter l) us vs ss xs f p h g = cc
templ_resolves (wrap c t) us vs ss xs f p h g = cc
templ_resolves (root n) us vs ss xs f p h g = root_templ n us vs ss xs (seek (root n) us) f refl g
templ_resolves (sub t n) us vs ss xs f p h g = rw h (rw g refl)
templ_resolves (app t ys) us vs ss xs f p h g = cc
templ_resolves (lit k m v) us vs ss xs f p h g = cc

mutual
  unfolding resolve normal after

  pub resolve_normal : (t : Ty) → Wf t → (us : List Ty) → resolve (normal t us) us ≡ ok t (after t us)
  resolve_normal (letter l) f us = refl
  resolve_normal (wrap c t) f us =
      ref_resolves (seek (wrap c t) us) (wrap c t) us (push (wrap c t) (after t us)) (s_wrap c (normal t us)) refl
      (rw (resolve_normal t f.0 us) (rw f.1 refl))
  resolve_normal (root n) f us = ref_resolves (seek (root n) us) (root n) us (push (root n) us) (plain n) refl (rw f refl)
  resolve_normal (sub t n) f us =
      ref_resolves (seek (sub t n) us) (sub t n) us (push_new (sub t n) (after_pre t us)) (nest_sub (normal_pre t us) n) refl
      (rw (resolve_normal_pre t f.0 f.1 us) (rw f.2 refl))
  resolve_normal (app t xs) f us =
      ref_resolves (seek (app t xs) us) (app t xs) us (push (app t xs) (after_args xs (after_pre t us)))
      (templ_of (single t) (normal_pre t us) (normal_args xs (after_pre t us))) refl
      (templ_resolves t us (after_args xs (after_pre t us)) (normal_args xs (after_pre t us)) xs f.0 f.1
      (resolve_normal_pre t f.0 (bare_class t f.1) us) (resolve_normal_args xs f.2 (after_pre t us)))
  resolve_normal (lit k g v) f us = rw f refl

  pub resolve_normal_pre : (t : Ty) → Wf t → is_class t ≡ true → (us : List Ty) → resolve_pre (normal_pre t us) us ≡ ok t (after_pre t us)
  resolve_normal_pre (letter l) f h us = cc
  resolve_normal_pre (wrap c t) f h us = cc
  resolve_normal_pre (root n) f h us = pre_resolves (seek (root n) us) (root n) us (push (root n) us) (p_root n) refl refl (rw f refl)
  resolve_normal_pre (sub t n) f h us =
      pre_resolves (seek (sub t n) us) (sub t n) us (push (sub t n) (after_pre t us)) (p_sub (normal_pre t us) n) refl refl
      (rw (resolve_normal_pre t f.0 f.1 us) (rw f.2 refl))
  resolve_normal_pre (app t xs) f h us =
      pre_resolves (seek (app t xs) us) (app t xs) us (push (app t xs) (after_args xs (after_pre t us)))
      (p_app (normal_pre t us) (normal_args xs (after_pre t us))) refl refl
      (rw (resolve_normal_pre t f.0 (bare_class t f.1) us) (rw (f.1, resolve_normal_args xs f.2 (after_pre t us)) refl))
  resolve_normal_pre (lit k g v) f h us = cc

  pub resolve_normal_args : (xs : Args) → WfArgs xs → (us : List Ty) → resolve_args (normal_args xs us) us ≡ ok xs (after_args xs us)
  resolve_normal_args (one t) f us = rw (resolve_normal t f us) refl
  resolve_normal_args (also t xs) f us = rw (resolve_normal t f.0 us) (rw (resolve_normal_args xs f.1 (after t us)) refl)

-- ---------------------------------------------------------------- whole symbols

pub params_normal : (ps : Option Args) → WfParams ps → (us : List Ty) → resolve_params (normal_params ps us) us ≡ ok ps (after_params ps us)
unfolding resolve_params
params_normal none f us = refl
params_normal (some xs) f us = rw (resolve_normal_args xs f.0 us) (rw f.1 refl)

pub name_normal : (c : Bool) (t : Ty) → WfName c t → resolve_name (normal_name c t) ≡ ok t (after_name t)
unfolding resolve_name
name_normal c (letter l) f = absurd f
name_normal c (wrap d t) f = absurd f
name_normal c (root n) f = rw f.0 refl
name_normal c (sub t n) f = rw (resolve_normal_pre t f.0 f.1 []) (rw f.2 refl)
name_normal c (app t xs) f = absurd f
name_normal c (lit k g v) f = absurd f

const_normal : (c : Bool) (t : Ty) → WfName c t → is_const (normal_name c t) ≡ c
const_normal c (letter l) f = absurd f
const_normal c (wrap d t) f = absurd f
const_normal c (root n) f = sym f.1
const_normal c (sub t n) f = refl
const_normal c (app t xs) f = absurd f
const_normal c (lit k g v) f = absurd f

has_normal : (ps : Option Args) (us : List Ty) → has_params (normal_params ps us) ≡ has_params ps
has_normal none us = refl
has_normal (some xs) us = refl

pub resolve_sym_normal : (e : Enc) → WfEnc e → resolve_sym (normal_sym e) ≡ ok e (after_sym e)
unfolding resolve_sym normal_sym after_sym
resolve_sym_normal (enc c t ps) f =
    rw (const_normal c t f.0, has_normal ps (after_name t))
    (rw f.2 (rw (name_normal c t f.0) (rw (params_normal ps f.1 (after_name t)) refl)))
