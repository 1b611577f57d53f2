-- What resolves is well formed: the rules that `resolve` tests on its way, as a property of the tree alone.
use Rattle.std.specs.Prelude.{Bool, true, false, not, ◌&&◌, ◌||◌, List, [], ◌∷◌, ◌≡◌, refl, ℕ, zero, suc}
use Rattle.std.proofs.Math.Option.{Option, none, some}
use Rattle.std.proofs.Math.ListN.{get_elem?}
use Rattle.grammar.specs.Text.{if◌then◌otherwise◌}
use Rattle.catalogue.specs.Bytes.{and_right}
use Rattle.catalogue.specs.Tree.{Ty, Args, Enc, letter, wrap, root, sub, app, lit, one, also, enc, is_class, is_bare, single}
use Rattle.catalogue.specs.Spelling.{Sp, Pre, SpArgs, SpName, Sym, s_letter, s_wrap, s_ref, plain, templ, retempl, nest_sub, nest_app, s_lit, p_ref}
use Rattle.catalogue.specs.Spelling.{p_root, p_sub, p_app, s_one, s_also, flat, scoped, symbol}
use Rattle.catalogue.specs.Class.{name_ok, lit_ok, stands, all_types, push, last_is, push_new, Res, ok, wrong, and_then, provided, entry, resolve}
use Rattle.catalogue.specs.Class.{resolve_pre, resolve_args, resolve_name, resolve_params, resolve_sym, is_const, has_params}

-- ---------------------------------------------------------------- what holds of a result

-- a property of the value and the table, where there is a result
unfoldable pub Post {ℓ} : {A : Type 0} → Res A → (A → List Ty → Type ℓ) → Type ℓ
Post (ok x us) P = P x us
Post wrong P = Unit

pub post_ok {ℓ} : {A : Type 0} (x : A) (us : List Ty) (P : A → List Ty → Type ℓ) → P x us → Post (ok x us) P
unfolding Post
post_ok x us P h = h

pub post_wrong {ℓ} : {A : Type 0} (P : A → List Ty → Type ℓ) → Post wrong P
unfolding Post
post_wrong P = tt

pub post_then {ℓ κ} : {A B : Type 0} (P : A → List Ty → Type ℓ) (Q : B → List Ty → Type κ) (r : Res A) (f : A → List Ty → Res B) → Post r P
    → ((x : A) (us : List Ty) → P x us → Post (f x us) Q) → Post (and_then r f) Q
unfolding Post
post_then P Q (ok x us) f h k = k x us h
post_then P Q wrong f h k = tt

pub post_if {ℓ} : {A : Type 0} (P : A → List Ty → Type ℓ) (p : Bool) (r : Res A) → (p ≡ true → Post r P) → Post (provided p r) P
unfolding Post
post_if P true r h = h refl
post_if P false r h = tt

pub post_entry {ℓ} : (P : Ty → List Ty → Type ℓ) (o : Option Ty) (us : List Ty) → ((t : Ty) → o ≡ some t → P t us) → Post (entry o us) P
unfolding Post
post_entry P none us h = tt
post_entry P (some t) us h = h t refl

pub post_is {ℓ} : {A : Type 0} (P : A → List Ty → Type ℓ) (r : Res A) (x : A) (us : List Ty) → r ≡ ok x us → Post r P → P x us
unfolding Post
post_is P r x us e h = rw e at h

pub post_self : {A : Type 0} (r : Res A) → Post r (λ x us. r ≡ ok x us)
unfolding Post
post_self (ok x us) = refl
post_self wrong = tt

pub post_map {ℓ κ} : {A : Type 0} (P : A → List Ty → Type ℓ) (Q : A → List Ty → Type κ) (r : Res A) → ((x : A) (us : List Ty) → P x us → Q x us)
    → Post r P → Post r Q
unfolding Post
post_map P Q (ok x us) f h = f x us h
post_map P Q wrong f h = tt

pub post_both {ℓ} : {A : Type 0} (P : A → List Ty → Type 0) (Q : A → List Ty → Type ℓ) (r : Res A) → Post r P → Post r Q
    → Post r (λ x us. P x us × Q x us)
unfolding Post
post_both P Q (ok x us) h k = (h, k)
post_both P Q wrong h k = tt

-- ---------------------------------------------------------------- well-formed trees

abbrev mutual
  pub Wf : Ty → Type 0
  Wf (letter l) = Unit {0}
  Wf (wrap c t) = Wf t × (stands c t ≡ true)
  Wf (root n) = name_ok n ≡ true
  Wf (sub t n) = Wf t × (is_class t ≡ true) × (name_ok n ≡ true)
  Wf (app t xs) = Wf t × (is_bare t ≡ true) × WfArgs xs
  Wf (lit k g v) = lit_ok k g v ≡ true

  pub WfArgs : Args → Type 0
  WfArgs (one t) = Wf t
  WfArgs (also t xs) = Wf t × WfArgs xs

abbrev pub WfParams : Option Args → Type 0
WfParams none = Unit {0}
WfParams (some xs) = WfArgs xs × (all_types xs ≡ true)

-- a function's name is a source name, without K, or a class whose last part has no arguments
abbrev pub WfName : Bool → Ty → Type 0
WfName c (letter l) = ⊥
WfName c (wrap d t) = ⊥
WfName c (root n) = (name_ok n ≡ true) × (c ≡ false)
WfName c (sub t n) = Wf (sub t n)
WfName c (app t xs) = ⊥
WfName c (lit k g v) = ⊥

-- the tree of a catalogue symbol
abbrev pub WfEnc : Enc → Type 0
WfEnc (enc c t ps) = WfName c t × WfParams ps × (not c || has_params ps ≡ true)

pub wf_name : (c : Bool) (t : Ty) → WfName c t → Wf t
wf_name c (letter l) f = absurd f
wf_name c (wrap d t) f = absurd f
wf_name c (root n) f = f.0
wf_name c (sub t n) f = f
wf_name c (app t xs) f = absurd f
wf_name c (lit k g v) f = absurd f

abbrev pub AllWf : List Ty → Type 0
AllWf [] = Unit {0}
AllWf (u ∷ us) = Wf u × AllWf us

pub wf_push : (t : Ty) (us : List Ty) → Wf t → AllWf us → AllWf (push t us)
wf_push t [] f a = (f, tt)
wf_push t (u ∷ us) f a = (a.0, wf_push t us f a.1)

pub wf_push_new : (t : Ty) (us : List Ty) → Wf t → AllWf us → AllWf (push_new t us)
unfolding push_new if◌then◌otherwise◌
wf_push_new t us f a = go (last_is t us)
  where
    go : (p : Bool) → AllWf (if p then us otherwise push t us)
    go true = a
    go false = wf_push t us f a

pub bare_class : (t : Ty) → is_bare t ≡ true → is_class t ≡ true
bare_class (letter l) h = h
bare_class (wrap c t) h = h
bare_class (root n) h = h
bare_class (sub t n) h = h
bare_class (app t xs) h = cc
bare_class (lit k g v) h = h

-- ---------------------------------------------------------------- resolved trees

abbrev pub Good : Ty → List Ty → Type 0
Good t us = Wf t × AllWf us

abbrev pub GoodPre : Ty → List Ty → Type 0
GoodPre t us = Wf t × (is_class t ≡ true) × AllWf us

abbrev pub GoodArgs : Args → List Ty → Type 0
GoodArgs xs us = WfArgs xs × AllWf us

pub entry_wf : (us vs : List Ty) (i : ℕ) → AllWf us → AllWf vs → Post (entry (get_elem? vs i) us) Good
unfolding Post
entry_wf us [] i a c = tt
entry_wf us (v ∷ vs) zero a c = (c.0, a)
entry_wf us (v ∷ vs) (suc i) a c = entry_wf us vs i a c.1

app_wf : (t : Ty) (r : Res Args) → Wf t → is_bare t ≡ true → Post r GoodArgs → Post (and_then r (λ xs vs. ok (app t xs) (push (app t xs) vs))) Good
app_wf t r f p h =
    post_then GoodArgs Good r _ h (λ xs vs k. post_ok _ _ Good ((f, p, k.0), wf_push (app t xs) vs (f, p, k.0) k.1))

app_wf_pre : (t : Ty) (r : Res Args) → Wf t → is_bare t ≡ true → Post r GoodArgs → Post (and_then r (λ xs vs. ok (app t xs) (push (app t xs) vs))) GoodPre
app_wf_pre t r f p h =
    post_then GoodArgs GoodPre r _ h (λ xs vs k. post_ok _ _ GoodPre ((f, p, k.0), refl, wf_push (app t xs) vs (f, p, k.0) k.1))

mutual
  unfolding resolve

  pub resolve_wf : (s : Sp) (us : List Ty) → AllWf us → Post (resolve s us) Good
  resolve_wf (s_letter l) us a = post_ok _ _ Good (tt, a)
  resolve_wf (s_wrap c s) us a =
      post_then Good Good (resolve s us) _ (resolve_wf s us a)
      (λ t vs h. post_if Good (stands c t) _ (λ e. post_ok _ _ Good ((h.0, e), wf_push (wrap c t) vs (h.0, e) h.1)))
  resolve_wf (s_ref i) us a = entry_wf us us i a a
  resolve_wf (plain n) us a = post_if Good (name_ok n) _ (λ e. post_ok _ _ Good (e, wf_push (root n) us e a))
  resolve_wf (templ n ss) us a =
      post_if Good (name_ok n) _ (λ e. app_wf (root n) _ e refl (resolve_args_wf ss (push (root n) us) (wf_push (root n) us e a)))
  resolve_wf (retempl i ss) us a =
      post_then Good Good (entry (get_elem? us i) us) _ (entry_wf us us i a a)
      (λ t vs h. post_if Good (single t && is_bare t) _ (λ e. app_wf t _ h.0 (and_right (single t) (is_bare t) e) (resolve_args_wf ss vs h.1)))
  resolve_wf (nest_sub q n) us a =
      post_then GoodPre Good (resolve_pre q us) _ (resolve_pre_wf q us a)
      (λ t vs h. post_if Good (name_ok n) _ (λ e. post_ok _ _ Good ((h.0, h.1, e), wf_push_new (sub t n) vs (h.0, h.1, e) h.2)))
  resolve_wf (nest_app q ss) us a =
      post_then GoodPre Good (resolve_pre q us) _ (resolve_pre_wf q us a)
      (λ t vs h. post_if Good (not (single t) && is_bare t) _
      (λ e. app_wf t _ h.0 (and_right (not (single t)) (is_bare t) e) (resolve_args_wf ss vs h.2)))
  resolve_wf (s_lit k g v) us a = post_if Good (lit_ok k g v) _ (λ e. post_ok _ _ Good (e, a))

  pub resolve_pre_wf : (q : Pre) (us : List Ty) → AllWf us → Post (resolve_pre q us) GoodPre
  resolve_pre_wf (p_ref i) us a =
      post_then Good GoodPre (entry (get_elem? us i) us) _ (entry_wf us us i a a)
      (λ t vs h. post_if GoodPre (is_class t) _ (λ e. post_ok _ _ GoodPre (h.0, e, h.1)))
  resolve_pre_wf (p_root n) us a = post_if GoodPre (name_ok n) _ (λ e. post_ok _ _ GoodPre (e, refl, wf_push (root n) us e a))
  resolve_pre_wf (p_sub q n) us a =
      post_then GoodPre GoodPre (resolve_pre q us) _ (resolve_pre_wf q us a)
      (λ t vs h. post_if GoodPre (name_ok n) _ (λ e. post_ok _ _ GoodPre ((h.0, h.1, e), refl, wf_push (sub t n) vs (h.0, h.1, e) h.2)))
  resolve_pre_wf (p_app q ss) us a =
      post_then GoodPre GoodPre (resolve_pre q us) _ (resolve_pre_wf q us a)
      (λ t vs h. post_if GoodPre (is_bare t) _ (λ e. app_wf_pre t _ h.0 e (resolve_args_wf ss vs h.2)))

  pub resolve_args_wf : (ss : SpArgs) (us : List Ty) → AllWf us → Post (resolve_args ss us) GoodArgs
  resolve_args_wf (s_one s) us a = post_then Good GoodArgs (resolve s us) _ (resolve_wf s us a) (λ t vs h. post_ok _ _ GoodArgs h)
  resolve_args_wf (s_also s ss) us a =
      post_then Good GoodArgs (resolve s us) _ (resolve_wf s us a)
      (λ t vs h. post_then GoodArgs GoodArgs (resolve_args ss vs) _ (resolve_args_wf ss vs h.1)
      (λ xs ws k. post_ok _ _ GoodArgs ((h.0, k.0), k.1)))

abbrev pub GoodSym : Enc → List Ty → Type 0
GoodSym e us = WfEnc e × AllWf us

params_wf : (ps : Option SpArgs) (us : List Ty) → AllWf us
    → Post (resolve_params ps us) (λ xs vs. WfParams xs × (has_params xs ≡ has_params ps) × AllWf vs)
unfolding resolve_params
params_wf none us a = post_ok _ _ _ (tt, refl, a)
params_wf (some ss) us a =
    post_then GoodArgs _ (resolve_args ss us) _ (resolve_args_wf ss us a)
    (λ xs vs h. post_if _ (all_types xs) _ (λ e. post_ok _ _ _ ((h.0, e), refl, h.1)))

name_wf : (m : SpName) → Post (resolve_name m) (λ t us. WfName (is_const m) t × AllWf us)
unfolding resolve_name
name_wf (flat n) = post_if _ (name_ok n) _ (λ e. post_ok _ _ _ ((e, refl), tt))
name_wf (scoped c q n) =
    post_then GoodPre _ (resolve_pre q []) _ (resolve_pre_wf q [] tt)
    (λ t us h. post_if _ (name_ok n) _ (λ e. post_ok _ _ _ ((h.0, h.1, e), h.2)))

pub resolve_sym_wf : (σ : Sym) → Post (resolve_sym σ) GoodSym
unfolding resolve_sym
resolve_sym_wf (symbol m ps) =
    post_if GoodSym (not (is_const m) || has_params ps) _
    (λ e. post_then _ GoodSym (resolve_name m) _ (name_wf m)
    (λ t us h. post_then _ GoodSym (resolve_params ps us) _ (params_wf ps us h.1)
    (λ xs vs k. post_ok _ _ GoodSym ((h.0, k.0, rw k.1 e), k.2))))

-- a written symbol that resolves has a well-formed tree
pub sym_wf : (σ : Sym) (e : Enc) (us : List Ty) → resolve_sym σ ≡ ok e us → WfEnc e
sym_wf σ e us h = (post_is GoodSym (resolve_sym σ) e us h (resolve_sym_wf σ)).0
