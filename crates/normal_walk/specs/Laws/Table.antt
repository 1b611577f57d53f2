-- The table of the normal symbol is at every moment that of the reading without later doubles.
use Rattle.std.specs.Prelude.{Bool, true, false, not, ◌&&◌, ◌||◌, List, [], ◌∷◌, ◌≡◌, ℕ, ◌+◌}
use Rattle.std.proofs.lemmas.Bool.{false≢true}
use Rattle.std.proofs.Math.Option.{Option, none, some}
use Rattle.std.proofs.Math.Path.{refl, sym}
use Rattle.std.proofs.Common.{◌∙◌, ap, arith}
use Rattle.std.proofs.Math.ListN.{get_elem?}
use Rattle.grammar.specs.Text.{Text, if◌then◌otherwise◌}
use Rattle.catalogue.specs.Bytes.{and_right}
use Rattle.catalogue.specs.Laws.Bytes.{or-false}
use Rattle.catalogue.specs.Tree.{Letter, Wrap, Kind, Ty, Args, letter, wrap, root, sub, app, lit, same_ty, is_class, is_bare, single, one, also}
use Rattle.catalogue.specs.Spelling.{Sp, Pre, SpArgs, s_letter, s_wrap, s_ref, plain, templ, retempl, nest_sub, nest_app, s_lit, p_ref, p_root, p_sub, p_app, s_one, s_also}
use Rattle.catalogue.specs.Class.{name_ok, lit_ok, stands, push, last_is, push_new, entry, resolve, resolve_pre, resolve_args}
use Rattle.catalogue.specs.Normal.{seek, known, after, after_pre, after_args}
use Rattle.catalogue.specs.Laws.WellFormed.{Wf, WfArgs, AllWf, Good, GoodPre, Post, post_ok, post_then, post_if, post_entry, post_both, post_map, wf_push}
use Rattle.catalogue.specs.Laws.WellFormed.{wf_push_new, bare_class, entry_wf}
use Rattle.catalogue.proofs.Laws.Entries.{has, has_push, has_seek, at_has, seek_has, last_has, Known, Closed, after_same, after_pre_same, after_args_same}
use Rattle.catalogue.proofs.Laws.Entries.{grown_has, after_closed, after_pre_closed}
use Rattle.catalogue.proofs.Laws.NoDoubles.{size, size_args, new_trans, after_new, after_pre_new, after_args_new, fresh}
use Rattle.normal_walk.specs.Walk.{add, add_all, distinct}

-- ---------------------------------------------------------------- the table without later doubles

pub distinct_push : (u : Ty) (vs : List Ty) → distinct (push u vs) ≡ add u (distinct vs)
unfolding add_all
distinct_push u vs = go [] vs
  where
    go : (us vs : List Ty) → add_all us (push u vs) ≡ add u (add_all us vs)
    go us [] = refl
    go us (v ∷ vs) = go (add v us) vs

has_add : (x u : Ty) (us : List Ty) → has x (add u us) ≡ has x us || same_ty x u
unfolding add
has_add x u us = grown_has (seek u us) u x us us (push u us) refl (λ y. has_push y u us) (λ h. refl)

or_assoc : (p q r : Bool) → (p || q) || r ≡ p || (q || r)
or_assoc true q r = refl
or_assoc false q r = refl

pub distinct_has : (x : Ty) (vs : List Ty) → has x (distinct vs) ≡ has x vs
unfolding add_all has
distinct_has x vs = go [] vs
  where
    go : (us vs : List Ty) → has x (add_all us vs) ≡ has x us || has x vs
    go us [] = sym (or-false (has x us))
    go us (v ∷ vs) = go (add v us) vs ∙ rw (has_add x v us) (or_assoc (has x us) (same_ty x v) (has x vs))

-- an entry that is there changes nothing
pub add_same : (u : Ty) (us : List Ty) → has u us ≡ true → add u us ≡ us
unfolding add
add_same u us h = let r = has_seek u us h in rw r.1 refl

pub seek_fresh : (u : Ty) (us : List Ty) → has u us ≡ false → seek u us ≡ none
seek_fresh u us h = go (seek u us) refl
  where
    go : (o : Option ℕ) → seek u us ≡ o → o ≡ none
    go none e = refl
    go (some i) e = absurd (false≢true (sym h ∙ seek_has u us i e))

pub distinct_push_new : (u : Ty) (vs : List Ty) → distinct (push_new u vs) ≡ add u (distinct vs)
unfolding push_new if◌then◌otherwise◌
distinct_push_new u vs = go (last_is u vs) refl
  where
    go : (p : Bool) → last_is u vs ≡ p → distinct (if p then vs otherwise push u vs) ≡ add u (distinct vs)
    go true e = sym (add_same u (distinct vs) (distinct_has u vs ∙ last_has u vs e))
    go false e = distinct_push u vs

pub known_of : (t : Ty) (us : List Ty) → has t us ≡ true → Known t us
known_of (letter l) us h = tt
known_of (wrap c t) us h = h
known_of (root n) us h = h
known_of (sub t n) us h = h
known_of (app t xs) us h = h
known_of (lit k g v) us h = tt

-- ---------------------------------------------------------------- by the parts of u alone, it doesn't become known

pub record Grows (u : Ty) (us ws : List Ty) : Type 0 where
  pub if_known : has u us ≡ true → ws ≡ us
  pub if_new : has u us ≡ false → has u ws ≡ false

by_known : {P : Type 0} (u : Ty) (us : List Ty) → (has u us ≡ true → P) → (has u us ≡ false → P) → P
by_known {P} u us f g = go (has u us) refl
  where
    go : (p : Bool) → has u us ≡ p → P
    go true e = f e
    go false e = g e

pub seek_grown : {u : Ty} {us ws : List Ty} → Grows u us ws → seek u ws ≡ seek u us
seek_grown {u} {us} {ws} g =
    by_known u us (λ h. ap (seek u) (g.if_known h)) (λ h. seek_fresh u ws (g.if_new h) ∙ sym (seek_fresh u us h))

pub push_grown : {u : Ty} {us ws : List Ty} → Grows u us ws → known (seek u us) us (push u ws) ≡ add u ws
unfolding add
push_grown {u} {us} {ws} g =
    by_known u us (λ h. rw (g.if_known h) refl) (λ h. rw (seek_fresh u us h, seek_fresh u ws (g.if_new h)) refl)

not_last : (u : Ty) (us : List Ty) → has u us ≡ false → last_is u us ≡ false
not_last u us h = go (last_is u us) refl
  where
    go : (p : Bool) → last_is u us ≡ p → p ≡ false
    go false e = refl
    go true e = sym (last_has u us e) ∙ h

pub push_new_grown : {u : Ty} {us ws : List Ty} → Grows u us ws → known (seek u us) us (push_new u ws) ≡ add u ws
unfolding add push_new if◌then◌otherwise◌
push_new_grown {u} {us} {ws} g =
    by_known u us (λ h. let r = has_seek u us h in rw (g.if_known h) (rw r.1 refl))
    (λ h. rw (seek_fresh u us h, seek_fresh u ws (g.if_new h), not_last u ws (g.if_new h)) refl)

pub self_grows : (u : Ty) (us : List Ty) → Grows u us us
self_grows u us = record { if_known = λ h. refl; if_new = λ h. h }

pub wrap_grows : (c : Wrap) (t : Ty) (us : List Ty) → Closed us → Grows (wrap c t) us (after t us)
unfolding size
wrap_grows c t us k = record {
  if_known = λ h. after_same t us (k (wrap c t) h);
  if_new = λ h. fresh (wrap c t) us (after t us) (size t) (after_new t us) (omega arith) h;
}

pub sub_grows : (t : Ty) (n : Text) (us : List Ty) → Closed us → Grows (sub t n) us (after_pre t us)
unfolding size
sub_grows t n us k = record {
  if_known = λ h. after_pre_same t us (k (sub t n) h);
  if_new = λ h. fresh (sub t n) us (after_pre t us) (size t) (after_pre_new t us) (omega arith) h;
}

pub app_grows : (t : Ty) (xs : Args) (us : List Ty) → Closed us → Grows (app t xs) us (after_args xs (after_pre t us))
unfolding size
app_grows t xs us k = record {
  if_known = λ h. let c = k (app t xs) h in rw (after_pre_same t us c.0) (after_args_same xs us c.1);
  if_new = λ h. fresh (app t xs) us (after_args xs (after_pre t us)) (size t + size_args xs)
      (new_trans us (after_pre t us) (after_args xs (after_pre t us)) (size t) (size_args xs) (after_pre_new t us) (after_args_new xs (after_pre t us)))
      (omega arith) h;
}

-- ---------------------------------------------------------------- the tables of a reading

-- what holds of every table of the reading
pub record Kept (vs : List Ty) : Type 0 where
  pub wf : AllWf vs
  pub closed : Closed (distinct vs)

pub record Table (vs : List Ty) (t : Ty) (ws : List Ty) : Type 0 where
  pub wf : Wf t
  pub kept : Kept ws
  pub is : after t (distinct vs) ≡ distinct ws

pub record TablePre (vs : List Ty) (t : Ty) (ws : List Ty) : Type 0 where
  pub wf : Wf t
  pub class : is_class t ≡ true
  pub kept : Kept ws
  pub is : after_pre t (distinct vs) ≡ distinct ws

pub record TableArgs (vs : List Ty) (xs : Args) (ws : List Ty) : Type 0 where
  pub wf : WfArgs xs
  pub kept : Kept ws
  pub is : after_args xs (distinct vs) ≡ distinct ws

module _ {vs : List Ty} (a : Kept vs) where
  pub table_of : (t : Ty) (ws : List Ty) → Good t ws → after t (distinct vs) ≡ distinct ws → Table vs t ws
  table_of t ws g e = record {
    wf = g.0;
    kept = record { wf = g.1; closed = rw e at (after_closed t g.0 (distinct vs) a.closed) };
    is = e;
  }

  pub table_pre_of : (t : Ty) (ws : List Ty) → GoodPre t ws → after_pre t (distinct vs) ≡ distinct ws → TablePre vs t ws
  table_pre_of t ws g e = record {
    wf = g.0;
    class = g.1;
    kept = record { wf = g.2; closed = rw e at (after_pre_closed t g.0 (distinct vs) a.closed) };
    is = e;
  }

  pub table_entry : (t : Ty) (i : ℕ) → get_elem? vs i ≡ some t → Good t vs → Table vs t vs
  table_entry t i e g =
      table_of t vs g (after_same t (distinct vs) (known_of t (distinct vs) (distinct_has t vs ∙ at_has i vs t e)))

  pub table_pre_entry : (t : Ty) (i : ℕ) → get_elem? vs i ≡ some t → is_class t ≡ true → Good t vs → TablePre vs t vs
  table_pre_entry t i e c g =
      table_pre_of t vs (g.0, c, g.1) (after_pre_same t (distinct vs) (known_of t (distinct vs) (distinct_has t vs ∙ at_has i vs t e)))

  pub table_wrap : (c : Wrap) (t : Ty) (ws : List Ty) → Table vs t ws → stands c t ≡ true → Table vs (wrap c t) (push (wrap c t) ws)
  unfolding after
  table_wrap c t ws h p =
      table_of (wrap c t) (push (wrap c t) ws) ((h.wf, p), wf_push (wrap c t) ws (h.wf, p) h.kept.wf)
      (push_grown (wrap_grows c t (distinct vs) a.closed) ∙ rw h.is (sym (distinct_push (wrap c t) ws)))

  pub table_root : (n : Text) → name_ok n ≡ true → Table vs (root n) (push (root n) vs)
  unfolding after
  table_root n p =
      table_of (root n) (push (root n) vs) (p, wf_push (root n) vs p a.wf)
      (push_grown (self_grows (root n) (distinct vs)) ∙ sym (distinct_push (root n) vs))

  pub table_pre_root : (n : Text) → name_ok n ≡ true → TablePre vs (root n) (push (root n) vs)
  unfolding after
  table_pre_root n p =
      table_pre_of (root n) (push (root n) vs) (p, refl, wf_push (root n) vs p a.wf)
      (push_grown (self_grows (root n) (distinct vs)) ∙ sym (distinct_push (root n) vs))

  pub table_sub : (t : Ty) (n : Text) (ws : List Ty) → TablePre vs t ws → name_ok n ≡ true → Table vs (sub t n) (push_new (sub t n) ws)
  unfolding after
  table_sub t n ws h p =
      table_of (sub t n) (push_new (sub t n) ws) ((h.wf, h.class, p), wf_push_new (sub t n) ws (h.wf, h.class, p) h.kept.wf)
      (push_new_grown (sub_grows t n (distinct vs) a.closed) ∙ rw h.is (sym (distinct_push_new (sub t n) ws)))

  pub table_pre_sub : (t : Ty) (n : Text) (ws : List Ty) → TablePre vs t ws → name_ok n ≡ true → TablePre vs (sub t n) (push (sub t n) ws)
  unfolding after
  table_pre_sub t n ws h p =
      table_pre_of (sub t n) (push (sub t n) ws) ((h.wf, h.class, p), refl, wf_push (sub t n) ws (h.wf, h.class, p) h.kept.wf)
      (push_grown (sub_grows t n (distinct vs) a.closed) ∙ rw h.is (sym (distinct_push (sub t n) ws)))

  module _ (t : Ty) (xs : Args) (us ws : List Ty) (h : TablePre vs t us) (g : TableArgs us xs ws) (p : is_bare t ≡ true) where
    pub table_app : Table vs (app t xs) (push (app t xs) ws)
    unfolding after
    table_app =
        table_of (app t xs) (push (app t xs) ws)
        ((h.wf, p, g.wf), wf_push (app t xs) ws (h.wf, p, g.wf) g.kept.wf)
        (push_grown (app_grows t xs (distinct vs) a.closed) ∙ rw (h.is, g.is) (sym (distinct_push (app t xs) ws)))

    pub table_pre_app : TablePre vs (app t xs) (push (app t xs) ws)
    unfolding after
    table_pre_app =
        table_pre_of (app t xs) (push (app t xs) ws)
        ((h.wf, p, g.wf), refl, wf_push (app t xs) ws (h.wf, p, g.wf) g.kept.wf)
        (push_grown (app_grows t xs (distinct vs) a.closed) ∙ rw (h.is, g.is) (sym (distinct_push (app t xs) ws)))

-- letters and literals make no entry
after_letter : (l : Letter) (us : List Ty) → after (letter l) us ≡ us
unfolding after
after_letter l us = refl

after_lit : (k : Kind) (g : Bool) (v : Text) (us : List Ty) → after (lit k g v) us ≡ us
unfolding after
after_lit k g v us = refl

args_one : {vs : List Ty} (t : Ty) (ws : List Ty) → Table vs t ws → TableArgs vs (one t) ws
unfolding after
args_one t ws h = record { wf = h.wf; kept = h.kept; is = h.is }

args_also : {vs : List Ty} (t : Ty) (xs : Args) (us ws : List Ty) → Table vs t us → TableArgs us xs ws → TableArgs vs (also t xs) ws
unfolding after
args_also t xs us ws h g = record { wf = (h.wf, g.wf); kept = g.kept; is = rw h.is g.is }

-- an entry, where it is there
pub entry_at : (vs : List Ty) (i : ℕ) → AllWf vs → Post (entry (get_elem? vs i) vs) (λ t ws. Good t ws × (get_elem? vs i ≡ some t) × (ws ≡ vs))
entry_at vs i a =
    post_map _ _ (entry (get_elem? vs i) vs) (λ t ws h. (h.0, h.1.0, h.1.1))
    (post_both Good (λ t ws. (get_elem? vs i ≡ some t) × (ws ≡ vs)) (entry (get_elem? vs i) vs) (entry_wf vs vs i a a)
    (post_entry _ (get_elem? vs i) vs (λ t e. (e, refl))))

mutual
  unfolding resolve

  pub table : (s : Sp) (vs : List Ty) → Kept vs → Post (resolve s vs) (Table vs)
  table (s_letter l) vs a = post_ok _ _ (Table vs) (record { wf = tt; kept = a; is = after_letter l (distinct vs) })
  table (s_wrap c s) vs a =
      post_then (Table vs) (Table vs) (resolve s vs) _ (table s vs a)
      (λ t ws h. post_if _ (stands c t) _ (λ p. post_ok _ _ (Table vs) (table_wrap a c t ws h p)))
  table (s_ref i) vs a =
      post_map _ (Table vs) (entry (get_elem? vs i) vs) (λ t ws h. rw h.2 (table_entry a t i h.1 (rw h.2 at h.0))) (entry_at vs i a.wf)
  table (plain n) vs a = post_if _ (name_ok n) _ (λ p. post_ok _ _ (Table vs) (table_root a n p))
  table (templ n ss) vs a =
      post_if _ (name_ok n) _
      (λ p. let q = table_pre_root a n p in
      post_then (TableArgs (push (root n) vs)) (Table vs) (resolve_args ss (push (root n) vs)) _ (table_args ss (push (root n) vs) q.kept)
      (λ xs ws h. post_ok _ _ (Table vs) (table_app a (root n) xs (push (root n) vs) ws q h refl)))
  table (retempl i ss) vs a =
      post_then _ (Table vs) (entry (get_elem? vs i) vs) _ (entry_at vs i a.wf)
      (λ t us r. post_if _ (single t && is_bare t) _
      (λ p. let bare = and_right (single t) (is_bare t) p in
      let q : TablePre vs t us = rw r.2 (table_pre_entry a t i r.1 (bare_class t bare) (rw r.2 at r.0)) in
      post_then (TableArgs us) (Table vs) (resolve_args ss us) _ (table_args ss us q.kept)
      (λ xs ws h. post_ok _ _ (Table vs) (table_app a t xs us ws q h bare))))
  table (nest_sub q n) vs a =
      post_then (TablePre vs) (Table vs) (resolve_pre q vs) _ (table_pre q vs a)
      (λ t ws h. post_if _ (name_ok n) _ (λ p. post_ok _ _ (Table vs) (table_sub a t n ws h p)))
  table (nest_app q ss) vs a =
      post_then (TablePre vs) (Table vs) (resolve_pre q vs) _ (table_pre q vs a)
      (λ t us r. post_if _ (not (single t) && is_bare t) _
      (λ p. post_then (TableArgs us) (Table vs) (resolve_args ss us) _ (table_args ss us r.kept)
      (λ xs ws h. post_ok _ _ (Table vs) (table_app a t xs us ws r h (and_right (not (single t)) (is_bare t) p)))))
  table (s_lit k g v) vs a = post_if _ (lit_ok k g v) _ (λ p. post_ok _ _ (Table vs) (record { wf = p; kept = a; is = after_lit k g v (distinct vs) }))

  pub table_pre : (q : Pre) (vs : List Ty) → Kept vs → Post (resolve_pre q vs) (TablePre vs)
  table_pre (p_ref i) vs a =
      post_then _ (TablePre vs) (entry (get_elem? vs i) vs) _ (entry_at vs i a.wf)
      (λ t ws h. post_if _ (is_class t) _
      (λ p. post_ok _ _ (TablePre vs) (rw h.2 (table_pre_entry a t i h.1 p (rw h.2 at h.0)))))
  table_pre (p_root n) vs a = post_if _ (name_ok n) _ (λ p. post_ok _ _ (TablePre vs) (table_pre_root a n p))
  table_pre (p_sub q n) vs a =
      post_then (TablePre vs) (TablePre vs) (resolve_pre q vs) _ (table_pre q vs a)
      (λ t ws h. post_if _ (name_ok n) _ (λ p. post_ok _ _ (TablePre vs) (table_pre_sub a t n ws h p)))
  table_pre (p_app q ss) vs a =
      post_then (TablePre vs) (TablePre vs) (resolve_pre q vs) _ (table_pre q vs a)
      (λ t us r. post_if _ (is_bare t) _
      (λ p. post_then (TableArgs us) (TablePre vs) (resolve_args ss us) _ (table_args ss us r.kept)
      (λ xs ws h. post_ok _ _ (TablePre vs) (table_pre_app a t xs us ws r h p))))

  pub table_args : (ss : SpArgs) (vs : List Ty) → Kept vs → Post (resolve_args ss vs) (TableArgs vs)
  table_args (s_one s) vs a =
      post_then (Table vs) (TableArgs vs) (resolve s vs) _ (table s vs a) (λ t ws h. post_ok _ _ (TableArgs vs) (args_one t ws h))
  table_args (s_also s ss) vs a =
      post_then (Table vs) (TableArgs vs) (resolve s vs) _ (table s vs a)
      (λ t us h. post_then (TableArgs us) (TableArgs vs) (resolve_args ss us) _ (table_args ss us h.kept)
      (λ xs ws g. post_ok _ _ (TableArgs vs) (args_also t xs us ws h g)))
