-- Any spelling beside the normal one of its tree, by induction on the spelling; whole symbols too.
use Rattle.std.proofs.lemmas.Bool.{false≢true}
use Rattle.std.specs.Prelude.{not, ◌&&◌, ◌||◌, List, [], ◌≡◌, refl, ◌≤◌}
use Rattle.std.proofs.Math.Option.{Option, none, some}
use Rattle.std.proofs.Common.{arith}
use Rattle.std.proofs.Math.ListN.{get_elem?}
use Rattle.catalogue.specs.Bytes.{and_left, and_right}
use Rattle.catalogue.specs.Laws.Bytes.{not-true}
use Rattle.catalogue.specs.Tree.{Ty, Args, Enc, root, is_class, is_bare, single}
use Rattle.catalogue.specs.Spelling.{Sp, Pre, SpArgs, SpName, Sym, s_letter, s_wrap, s_ref, plain, templ, retempl, nest_sub, nest_app, s_lit, p_ref}
use Rattle.catalogue.specs.Spelling.{p_root, p_sub, p_app, s_one, s_also, flat, scoped, symbol}
use Rattle.catalogue.specs.Class.{name_ok, lit_ok, stands, all_types, push, entry, resolve, resolve_pre, resolve_args, resolve_name, resolve_params}
use Rattle.catalogue.specs.Class.{resolve_sym, is_const, has_params}
use Rattle.catalogue.specs.Normal.{after, after_pre, normal, normal_params, after_params, normal_name, after_name, normal_sym, after_sym}
use Rattle.catalogue.specs.Laws.WellFormed.{AllWf, Good, GoodPre, Post, post_ok, post_then, post_if, post_both, post_map, wf_push, entry_wf, resolve_wf, resolve_pre_wf}
use Rattle.catalogue.proofs.Laws.Entries.{has, Closed, after_closed, after_pre_closed}
use Rattle.catalogue.proofs.Laws.Limits.{depth, depth_pre, depth_args, short, short_pre, short_args, Same, Beside, BesidePre, BesideArgs, brackets}
use Rattle.catalogue.proofs.Laws.Limits.{short_some, ref_beside, wrap_beside, root_beside, root_beside_pre, sub_beside, sub_beside_pre, app_beside}
use Rattle.catalogue.proofs.Laws.Limits.{app_beside_pre, depth_name, depth_params, depth_sym, short_name, short_params, short_sym}

-- what a spelling gives beside what the normal one gives from the table vs, by the spelling's own measures
abbrev pub NoWorse : List Ty → Sp → Ty → List Ty → Type 0
NoWorse vs s = Beside vs (depth s) (short s)

abbrev pub NoWorsePre : List Ty → Pre → Ty → List Ty → Type 0
NoWorsePre vs q = BesidePre vs (depth_pre q) (short_pre q)

abbrev pub NoWorseArgs : List Ty → SpArgs → Args → List Ty → Type 0
NoWorseArgs vs ss = BesideArgs vs (depth_args ss) (short_args ss)

mutual
  unfolding resolve normal after depth short

  pub agree : (s : Sp) (us vs : List Ty) → AllWf us → Same us vs → Closed vs → Post (resolve s us) (NoWorse vs s)
  agree (s_letter l) us vs a e k = post_ok _ _ (NoWorse vs (s_letter l)) (e, omega arith, omega arith)
  agree (s_wrap c s) us vs a e k =
      post_then (NoWorse vs s) (NoWorse vs (s_wrap c s)) (resolve s us) _ (agree s us vs a e k)
      (λ t ws h. post_if _ (stands c t) _ (λ p. post_ok _ _ (NoWorse vs (s_wrap c s))
      (wrap_beside c t ws vs (depth s) (short s) k (short_some s) h)))
  agree (s_ref i) us vs a e k = post_map _ (NoWorse vs (s_ref i)) (entry (get_elem? us i) us) (λ t ws h. h.0) (ref_beside us vs i e k)
  agree (plain n) us vs a e k =
      post_if _ (name_ok n) _ (λ p. post_ok _ _ (NoWorse vs (plain n)) (root_beside n us vs p e))
  agree (templ n ss) us vs a e k =
      post_if _ (name_ok n) _
      (λ p. let r = root_beside_pre n us vs p e in
      post_then (NoWorseArgs (after_pre (root n) vs) ss) (NoWorse vs (templ n ss))
      (resolve_args ss (push (root n) us)) _
      (agree_args ss (push (root n) us) (after_pre (root n) vs) (wf_push (root n) us p a) r.0 (after_pre_closed (root n) p vs k))
      (λ xs ws h. post_ok _ _ (NoWorse vs (templ n ss))
      (app_beside (root n) xs ws vs (depth_args ss) (short_args ss) (depth (templ n ss)) (short (templ n ss)) k refl (omega arith) (omega arith) h)))
  agree (retempl i ss) us vs a e k =
      post_then _ (NoWorse vs (retempl i ss)) (entry (get_elem? us i) us) _
      (post_both Good _ (entry (get_elem? us i) us) (entry_wf us us i a a) (ref_beside us vs i e k))
      (λ t us' r. post_if _ (single t && is_bare t) _
      (λ p. let one = and_left (single t) (is_bare t) p in
      let two : brackets (single t) ≡ 2 = rw one refl in
      let r1 = r.1.1.1 in
      let r2 = r.1.1.2 in
      post_then (NoWorseArgs (after_pre t vs) ss) (NoWorse vs (retempl i ss)) (resolve_args ss us') _
      (agree_args ss us' (after_pre t vs) r.0.1 r.1.1.0 (after_pre_closed t r.0.0 vs k))
      (λ xs ws h. post_ok _ _ (NoWorse vs (retempl i ss))
      (app_beside t xs ws vs (depth_args ss) (short_args ss) (depth (retempl i ss)) (short (retempl i ss)) k (and_right (single t) (is_bare t) p)
      (omega arith) (omega arith) h))))
  agree (nest_sub q n) us vs a e k =
      post_then (NoWorsePre vs q) (NoWorse vs (nest_sub q n)) (resolve_pre q us) _ (agree_pre q us vs a e k)
      (λ t ws h. post_if _ (name_ok n) _ (λ p. post_ok _ _ (NoWorse vs (nest_sub q n))
      (sub_beside n t ws vs (depth_pre q) (short_pre q) k h)))
  agree (nest_app q ss) us vs a e k =
      post_then _ (NoWorse vs (nest_app q ss)) (resolve_pre q us) _
      (post_both GoodPre (NoWorsePre vs q) (resolve_pre q us) (resolve_pre_wf q us a) (agree_pre q us vs a e k))
      (λ t us' r. post_if _ (not (single t) && is_bare t) _
      (λ p. let more = not-true (single t) (and_left (not (single t)) (is_bare t) p) in
      let four : brackets (single t) ≡ 4 = rw more refl in
      let r1 = r.1.1 in
      let r2 = r.1.2 in
      post_then (NoWorseArgs (after_pre t vs) ss) (NoWorse vs (nest_app q ss)) (resolve_args ss us') _
      (agree_args ss us' (after_pre t vs) r.0.2 r.1.0 (after_pre_closed t r.0.0 vs k))
      (λ xs ws h. post_ok _ _ (NoWorse vs (nest_app q ss))
      (app_beside t xs ws vs (depth_args ss) (short_args ss) (depth (nest_app q ss)) (short (nest_app q ss)) k (and_right (not (single t)) (is_bare t) p)
      (omega arith) (omega arith) h))))
  agree (s_lit l g v) us vs a e k = post_if _ (lit_ok l g v) _ (λ p. post_ok _ _ (NoWorse vs (s_lit l g v)) (e, omega arith, omega arith))

  pub agree_pre : (q : Pre) (us vs : List Ty) → AllWf us → Same us vs → Closed vs → Post (resolve_pre q us) (NoWorsePre vs q)
  agree_pre (p_ref i) us vs a e k =
      post_then _ (NoWorsePre vs (p_ref i)) (entry (get_elem? us i) us) _ (ref_beside us vs i e k)
      (λ t ws h. post_if _ (is_class t) _ (λ p. post_ok _ _ (NoWorsePre vs (p_ref i)) h.1))
  agree_pre (p_root n) us vs a e k =
      post_if _ (name_ok n) _ (λ p. post_ok _ _ (NoWorsePre vs (p_root n)) (root_beside_pre n us vs p e))
  agree_pre (p_sub q n) us vs a e k =
      post_then (NoWorsePre vs q) (NoWorsePre vs (p_sub q n)) (resolve_pre q us) _ (agree_pre q us vs a e k)
      (λ t ws h. post_if _ (name_ok n) _ (λ p. post_ok _ _ (NoWorsePre vs (p_sub q n))
      (sub_beside_pre n t ws vs (depth_pre q) (short_pre q) k p h)))
  agree_pre (p_app q ss) us vs a e k =
      post_then _ (NoWorsePre vs (p_app q ss)) (resolve_pre q us) _
      (post_both GoodPre (NoWorsePre vs q) (resolve_pre q us) (resolve_pre_wf q us a) (agree_pre q us vs a e k))
      (λ t us' r. post_if _ (is_bare t) _
      (λ p. post_then (NoWorseArgs (after_pre t vs) ss) (NoWorsePre vs (p_app q ss)) (resolve_args ss us') _
      (agree_args ss us' (after_pre t vs) r.0.2 r.1.0 (after_pre_closed t r.0.0 vs k))
      (λ xs ws h. post_ok _ _ (NoWorsePre vs (p_app q ss))
      (app_beside_pre t xs ws vs (depth_pre q) (depth_args ss) (short_pre q) (short_args ss) k r.1.1 r.1.2 h))))

  pub agree_args : (ss : SpArgs) (us vs : List Ty) → AllWf us → Same us vs → Closed vs → Post (resolve_args ss us) (NoWorseArgs vs ss)
  agree_args (s_one s) us vs a e k =
      post_then (NoWorse vs s) (NoWorseArgs vs (s_one s)) (resolve s us) _ (agree s us vs a e k)
      (λ t ws h. post_ok _ _ (NoWorseArgs vs (s_one s)) h)
  agree_args (s_also s ss) us vs a e k =
      post_then _ (NoWorseArgs vs (s_also s ss)) (resolve s us) _
      (post_both Good (NoWorse vs s) (resolve s us) (resolve_wf s us a) (agree s us vs a e k))
      (λ t us' r.
      let r1 = r.1.1 in
      let r2 = r.1.2 in
      post_then (NoWorseArgs (after t vs) ss) (NoWorseArgs vs (s_also s ss)) (resolve_args ss us') _
      (agree_args ss us' (after t vs) r.0.1 r.1.0 (after_closed t r.0.0 vs k))
      (λ xs ws h. post_ok _ _ (NoWorseArgs vs (s_also s ss)) (h.0, omega arith, omega arith)))

-- ---------------------------------------------------------------- whole symbols

pub closed_empty : Closed []
unfolding has
closed_empty x h = absurd (false≢true h)

abbrev pub BesideName : SpName → Ty → List Ty → Type 0
BesideName m t us =
    AllWf us × Closed (after_name t) × Same us (after_name t) × (depth_name (normal_name (is_const m) t) ≤ depth_name m)
    × (short_name (normal_name (is_const m) t) ≤ short_name m)

name_agree : (m : SpName) → Post (resolve_name m) (BesideName m)
unfolding resolve_name
name_agree (flat n) = post_if _ (name_ok n) _ (λ p. post_ok _ _ (BesideName (flat n)) (tt, closed_empty, (λ x. refl), omega arith, omega arith))
name_agree (scoped c q n) =
    post_then _ (BesideName (scoped c q n)) (resolve_pre q []) _
    (post_both GoodPre (NoWorsePre [] q) (resolve_pre q []) (resolve_pre_wf q [] tt) (agree_pre q [] [] tt (λ x. refl) closed_empty))
    (λ t us r. post_if _ (name_ok n) _ (λ p.
    let r1 = r.1.1 in
    let r2 = r.1.2 in
    post_ok _ _ (BesideName (scoped c q n))
    (r.0.2, after_pre_closed t r.0.0 [] closed_empty, r.1.0, omega arith, omega arith)))

abbrev pub BesideParams : List Ty → Option SpArgs → Option Args → List Ty → Type 0
BesideParams vs ps xs us =
    Same us (after_params xs vs) × (depth_params (normal_params xs vs) ≤ depth_params ps) × (short_params (normal_params xs vs) ≤ short_params ps)

params_agree : (ps : Option SpArgs) (us vs : List Ty) → AllWf us → Same us vs → Closed vs → Post (resolve_params ps us) (BesideParams vs ps)
unfolding resolve_params
params_agree none us vs a e k = post_ok _ _ (BesideParams vs none) (e, omega arith, omega arith)
params_agree (some ss) us vs a e k =
    post_then (NoWorseArgs vs ss) (BesideParams vs (some ss)) (resolve_args ss us) _ (agree_args ss us vs a e k)
    (λ xs ws h. post_if _ (all_types xs) _ (λ p. post_ok _ _ (BesideParams vs (some ss)) h))

-- a written symbol beside the normal one of its tree
abbrev pub BesideSym : Sym → Enc → List Ty → Type 0
BesideSym σ e us = Same us (after_sym e) × (depth_sym (normal_sym e) ≤ depth_sym σ) × (short_sym (normal_sym e) ≤ short_sym σ)

pub agree_sym : (σ : Sym) → Post (resolve_sym σ) (BesideSym σ)
unfolding resolve_sym normal_sym after_sym depth_sym short_sym
agree_sym (symbol m ps) =
    post_if _ (not (is_const m) || has_params ps) _
    (λ p. post_then (BesideName m) (BesideSym (symbol m ps)) (resolve_name m) _ (name_agree m)
    (λ t us r. post_then (BesideParams (after_name t) ps) (BesideSym (symbol m ps)) (resolve_params ps us) _
    (params_agree ps us (after_name t) r.0 r.2 r.1)
    (λ xs vs h.
    let r1 = r.3 in
    let r2 = r.4 in
    let h1 = h.1 in
    let h2 = h.2 in
    post_ok _ _ (BesideSym (symbol m ps)) (h.0, omega arith, omega arith))))
