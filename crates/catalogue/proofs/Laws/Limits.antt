-- A spelling beside the normal one of the same tree: their tables have the same entries, the normal one nests no deeper, and it
-- is no longer where every reference counts as two bytes.
use Rattle.std.specs.Prelude.{Bool, true, false, ◌||◌, List, [], ◌∷◌, ◌++◌, ◌≡◌, refl, ℕ, suc, ◌+◌, ◌≤◌, max, length}
use Rattle.std.proofs.lemmas.Bool.{false≢true}
use Rattle.std.proofs.Math.Option.{Option, none, some}
use Rattle.std.proofs.Common.{sym, ◌∙◌, ap, arith, length-append}
use Rattle.std.proofs.Math.ListN.{get_elem?}
use Rattle.grammar.specs.Text.{Text}
use Rattle.catalogue.specs.Tree.{Wrap, Ty, Args, letter, wrap, root, sub, app, lit, same_ty, is_bare, single}
use Rattle.catalogue.specs.Spelling.{Sp, Pre, SpArgs, SpName, Sym, s_letter, s_wrap, s_ref, plain, templ, retempl, nest_sub, nest_app, s_lit, p_ref}
use Rattle.catalogue.specs.Spelling.{p_root, p_sub, p_app, s_one, s_also, flat, scoped, symbol, name_bytes, const_byte, spell, spell_pre, spell_args}
use Rattle.catalogue.specs.Spelling.{spell_name, spell_params, spell_sym}
use Rattle.catalogue.specs.Class.{name_ok, push, push_new, entry}
use Rattle.catalogue.specs.Normal.{seek, after, after_pre, after_args, ref_or, pre_or, templ_of, normal, normal_pre, normal_args}
use Rattle.catalogue.specs.Laws.WellFormed.{Post, post_entry}
use Rattle.catalogue.proofs.Laws.ReadsBack.{name_one, name_two}
use Rattle.catalogue.proofs.Laws.Entries.{has, has_push, has_push_new, has_seek, at_has, Known, Closed, grown_has, after_same, after_pre_same, after_args_same}

-- ---------------------------------------------------------------- measures of a spelling

-- how many readings are open at most, by the grammar's `entered`
unfoldable mutual
  pub depth : Sp → ℕ
  depth (s_letter l) = 1
  depth (s_wrap c s) = suc (depth s)
  depth (s_ref i) = 1
  depth (plain n) = 1
  depth (templ n ss) = suc (suc (depth_args ss))
  depth (retempl i ss) = suc (suc (depth_args ss))
  depth (nest_sub q n) = suc (depth_pre q)
  depth (nest_app q ss) = suc (max (depth_pre q) (suc (depth_args ss)))
  depth (s_lit k g v) = 1

  pub depth_pre : Pre → ℕ
  depth_pre (p_ref i) = 0
  depth_pre (p_root n) = 0
  depth_pre (p_sub q n) = depth_pre q
  depth_pre (p_app q ss) = max (depth_pre q) (suc (depth_args ss))

  pub depth_args : SpArgs → ℕ
  depth_args (s_one s) = depth s
  depth_args (s_also s ss) = max (depth s) (depth_args ss)

-- its length with each reference counted as two bytes
unfoldable mutual
  pub short : Sp → ℕ
  short (s_letter l) = 1
  short (s_wrap c s) = suc (short s)
  short (s_ref i) = 2
  short (plain n) = length (name_bytes n)
  short (templ n ss) = length (name_bytes n) + (short_args ss + 2)
  short (retempl i ss) = 2 + (short_args ss + 2)
  short (nest_sub q n) = short_pre q + (length (name_bytes n) + 2)
  short (nest_app q ss) = short_pre q + (short_args ss + 4)
  short (s_lit k g v) = length (spell (s_lit k g v))

  pub short_pre : Pre → ℕ
  short_pre (p_ref i) = 2
  short_pre (p_root n) = length (name_bytes n)
  short_pre (p_sub q n) = short_pre q + length (name_bytes n)
  short_pre (p_app q ss) = short_pre q + (short_args ss + 2)

  pub short_args : SpArgs → ℕ
  short_args (s_one s) = short s
  short_args (s_also s ss) = short s + short_args ss

-- the tables have the same entries
abbrev pub Same : List Ty → List Ty → Type 0
Same us vs = (x : Ty) → has x us ≡ has x vs

-- the tree and table of a spelling beside those of the normal one from the table vs, and the measures d and m of the spelling
abbrev pub Beside : List Ty → ℕ → ℕ → Ty → List Ty → Type 0
Beside vs d m t us = Same us (after t vs) × (depth (normal t vs) ≤ d) × (short (normal t vs) ≤ m)

abbrev pub BesidePre : List Ty → ℕ → ℕ → Ty → List Ty → Type 0
BesidePre vs d m t us = Same us (after_pre t vs) × (depth_pre (normal_pre t vs) ≤ d) × (short_pre (normal_pre t vs) ≤ m)

abbrev pub BesideArgs : List Ty → ℕ → ℕ → Args → List Ty → Type 0
BesideArgs vs d m xs us = Same us (after_args xs vs) × (depth_args (normal_args xs vs) ≤ d) × (short_args (normal_args xs vs) ≤ m)

-- ---------------------------------------------------------------- what the table after t has
after_has_wrap : (c : Wrap) (t x : Ty) (vs : List Ty) → Closed vs → has x (after (wrap c t) vs) ≡ has x (after t vs) || same_ty x (wrap c t)
unfolding after
after_has_wrap c t x vs k =
    grown_has (seek (wrap c t) vs) (wrap c t) x vs (after t vs) (push (wrap c t) (after t vs)) refl (λ y. has_push y (wrap c t) (after t vs))
    (λ h. after_same t vs (k (wrap c t) h))

after_has_root : (n : Text) (x : Ty) (vs : List Ty) → has x (after (root n) vs) ≡ has x vs || same_ty x (root n)
unfolding after
after_has_root n x vs = grown_has (seek (root n) vs) (root n) x vs vs (push (root n) vs) refl (λ y. has_push y (root n) vs) (λ h. refl)

pre_has_root : (n : Text) (x : Ty) (vs : List Ty) → has x (after_pre (root n) vs) ≡ has x vs || same_ty x (root n)
unfolding after
pre_has_root n x vs = grown_has (seek (root n) vs) (root n) x vs vs (push (root n) vs) refl (λ y. has_push y (root n) vs) (λ h. refl)

after_has_sub : (t : Ty) (n : Text) (x : Ty) (vs : List Ty) → Closed vs → has x (after (sub t n) vs) ≡ has x (after_pre t vs) || same_ty x (sub t n)
unfolding after
after_has_sub t n x vs k =
    grown_has (seek (sub t n) vs) (sub t n) x vs (after_pre t vs) (push_new (sub t n) (after_pre t vs)) refl (λ y. has_push_new y (sub t n) (after_pre t vs))
    (λ h. after_pre_same t vs (k (sub t n) h))

pre_has_sub : (t : Ty) (n : Text) (x : Ty) (vs : List Ty) → Closed vs → has x (after_pre (sub t n) vs) ≡ has x (after_pre t vs) || same_ty x (sub t n)
unfolding after
pre_has_sub t n x vs k =
    grown_has (seek (sub t n) vs) (sub t n) x vs (after_pre t vs) (push (sub t n) (after_pre t vs)) refl (λ y. has_push y (sub t n) (after_pre t vs))
    (λ h. after_pre_same t vs (k (sub t n) h))

app_same : (t : Ty) (xs : Args) (vs : List Ty) → Closed vs → has (app t xs) vs ≡ true → after_args xs (after_pre t vs) ≡ vs
app_same t xs vs k h = let c = k (app t xs) h in rw (after_pre_same t vs c.0) (after_args_same xs vs c.1)

after_has_app : (t : Ty) (xs : Args) (x : Ty) (vs : List Ty) → Closed vs
    → has x (after (app t xs) vs) ≡ has x (after_args xs (after_pre t vs)) || same_ty x (app t xs)
unfolding after
after_has_app t xs x vs k =
    grown_has (seek (app t xs) vs) (app t xs) x vs (after_args xs (after_pre t vs)) (push (app t xs) (after_args xs (after_pre t vs))) refl
    (λ y. has_push y (app t xs) (after_args xs (after_pre t vs))) (λ h. app_same t xs vs k h)

pre_has_app : (t : Ty) (xs : Args) (x : Ty) (vs : List Ty) → Closed vs
    → has x (after_pre (app t xs) vs) ≡ has x (after_args xs (after_pre t vs)) || same_ty x (app t xs)
unfolding after
pre_has_app t xs x vs k =
    grown_has (seek (app t xs) vs) (app t xs) x vs (after_args xs (after_pre t vs)) (push (app t xs) (after_args xs (after_pre t vs))) refl
    (λ y. has_push y (app t xs) (after_args xs (after_pre t vs))) (λ h. app_same t xs vs k h)

-- ---------------------------------------------------------------- how deep the normal spelling goes
ref_depth : (o : Option ℕ) (s : Sp) (d : ℕ) → 1 ≤ d → depth s ≤ d → depth (ref_or o s) ≤ d
unfolding depth
ref_depth none s d h k = k
ref_depth (some i) s d h k = h

pre_depth : (o : Option ℕ) (q : Pre) (d : ℕ) → depth_pre q ≤ d → depth_pre (pre_or o q) ≤ d
unfolding depth
pre_depth none q d k = k
pre_depth (some i) q d k = omega arith

templ_depth : (b : Bool) (q : Pre) (ss : SpArgs) → depth (templ_of b q ss) ≤ suc (max (depth_pre q) (suc (depth_args ss)))
unfolding depth
templ_depth true (p_ref i) ss = omega arith
templ_depth true (p_root n) ss = omega arith
templ_depth true (p_sub q n) ss = omega arith
templ_depth true (p_app q xs) ss = omega arith
templ_depth false q ss = omega arith

known_of : (t : Ty) (vs : List Ty) → has t vs ≡ true → Known t vs
known_of (letter l) vs h = tt
known_of (wrap c t) vs h = h
known_of (root n) vs h = h
known_of (sub t n) vs h = h
known_of (app t xs) vs h = h
known_of (lit k g v) vs h = tt

known_depth : (t : Ty) (vs : List Ty) → has t vs ≡ true → depth (normal t vs) ≤ 1
unfolding depth normal
known_depth (letter l) vs h = omega arith
known_depth (wrap c t) vs h = rw (has_seek (wrap c t) vs h).1 (omega arith)
known_depth (root n) vs h = rw (has_seek (root n) vs h).1 (omega arith)
known_depth (sub t n) vs h = rw (has_seek (sub t n) vs h).1 (omega arith)
known_depth (app t xs) vs h = rw (has_seek (app t xs) vs h).1 (omega arith)
known_depth (lit k g v) vs h = omega arith

known_depth_pre : (t : Ty) (vs : List Ty) → has t vs ≡ true → depth_pre (normal_pre t vs) ≤ 0
unfolding depth normal
known_depth_pre (letter l) vs h = omega arith
known_depth_pre (wrap c t) vs h = omega arith
known_depth_pre (root n) vs h = rw (has_seek (root n) vs h).1 (omega arith)
known_depth_pre (sub t n) vs h = rw (has_seek (sub t n) vs h).1 (omega arith)
known_depth_pre (app t xs) vs h = rw (has_seek (app t xs) vs h).1 (omega arith)
known_depth_pre (lit k g v) vs h = omega arith

-- ---------------------------------------------------------------- how long the normal spelling is

ref_short : (o : Option ℕ) (s : Sp) (m : ℕ) → 2 ≤ m → short s ≤ m → short (ref_or o s) ≤ m
unfolding short
ref_short none s m h k = k
ref_short (some i) s m h k = h

pre_short : (o : Option ℕ) (q : Pre) (m : ℕ) → 2 ≤ m → short_pre q ≤ m → short_pre (pre_or o q) ≤ m
unfolding short
pre_short none q m h k = k
pre_short (some i) q m h k = h

-- I and E, and N and E where there are more parts than one
abbrev pub brackets : Bool → ℕ
brackets true = 2
brackets false = 4

brackets_two : (p : Bool) → 2 ≤ brackets p
brackets_two true = omega arith
brackets_two false = omega arith

root_short : (o : Option ℕ) (n : Text) (ss : SpArgs) → short (templ_of true (pre_or o (p_root n)) ss) ≤ short_pre (pre_or o (p_root n)) + (short_args ss + 2)
unfolding short
root_short none n ss = omega arith
root_short (some i) n ss = omega arith

templ_short : (t : Ty) → is_bare t ≡ true → (vs : List Ty) (ss : SpArgs)
    → short (templ_of (single t) (normal_pre t vs) ss) ≤ short_pre (normal_pre t vs) + (short_args ss + brackets (single t))
unfolding short normal
templ_short (letter l) h vs ss = absurd (false≢true h)
templ_short (wrap c t) h vs ss = absurd (false≢true h)
templ_short (root n) h vs ss = root_short (seek (root n) vs) n ss
templ_short (sub t n) h vs ss = omega arith
templ_short (app t xs) h vs ss = absurd (false≢true h)
templ_short (lit k g v) h vs ss = absurd (false≢true h)

pub short_some : (s : Sp) → 1 ≤ short s
unfolding short spell
short_some (s_letter l) = omega arith
short_some (s_wrap c s) = omega arith
short_some (s_ref i) = omega arith
short_some (plain n) = name_one n
short_some (templ n ss) = omega arith
short_some (retempl i ss) = omega arith
short_some (nest_sub q n) = omega arith
short_some (nest_app q ss) = omega arith
short_some (s_lit k g v) = omega arith

known_short : (t : Ty) (vs : List Ty) → Closed vs → has t vs ≡ true → short (normal t vs) ≤ 2
unfolding short normal
known_short (letter l) vs k h = omega arith
known_short (wrap c t) vs k h = rw (has_seek (wrap c t) vs h).1 (omega arith)
known_short (root n) vs k h = rw (has_seek (root n) vs h).1 (omega arith)
known_short (sub t n) vs k h = rw (has_seek (sub t n) vs h).1 (omega arith)
known_short (app t xs) vs k h = rw (has_seek (app t xs) vs h).1 (omega arith)
known_short (lit l g v) vs k h = absurd (k (lit l g v) h)

known_short_pre : (t : Ty) (vs : List Ty) → has t vs ≡ true → short_pre (normal_pre t vs) ≤ 2
unfolding short normal
known_short_pre (letter l) vs h = omega arith
known_short_pre (wrap c t) vs h = omega arith
known_short_pre (root n) vs h = rw (has_seek (root n) vs h).1 (omega arith)
known_short_pre (sub t n) vs h = rw (has_seek (sub t n) vs h).1 (omega arith)
known_short_pre (app t xs) vs h = rw (has_seek (app t xs) vs h).1 (omega arith)
known_short_pre (lit k g v) vs h = omega arith

-- ---------------------------------------------------------------- one node

-- what a table with one entry more has
grown : (t : Ty) (us ws vs' us' : List Ty) → ((x : Ty) → has x us' ≡ has x us || same_ty x t) → Same us ws
    → ((x : Ty) → has x vs' ≡ has x ws || same_ty x t) → Same us' vs'
grown t us ws vs' us' p e q x = p x ∙ ap (λ r. r || same_ty x t) (e x) ∙ sym (q x)

abbrev pub BesideRef : List Ty → Ty → List Ty → Type 0
BesideRef vs t us = Beside vs 1 2 t us × BesidePre vs 0 2 t us

pub ref_beside : (us vs : List Ty) (i : ℕ) → Same us vs → Closed vs → Post (entry (get_elem? us i) us) (BesideRef vs)
ref_beside us vs i s k =
    post_entry (BesideRef vs) (get_elem? us i) us
    (λ t e. let h : has t vs ≡ true = sym (s t) ∙ at_has i us t e in (
      ((λ x. s x ∙ rw (after_same t vs (known_of t vs h)) refl), known_depth t vs h, known_short t vs k h),
      ((λ x. s x ∙ rw (after_pre_same t vs (known_of t vs h)) refl), known_depth_pre t vs h, known_short_pre t vs h),
    ))

pub wrap_beside : (c : Wrap) (t : Ty) (us vs : List Ty) (d m : ℕ) → Closed vs → 1 ≤ m → Beside vs d m t us
    → Beside vs (suc d) (suc m) (wrap c t) (push (wrap c t) us)
unfolding normal depth short
wrap_beside c t us vs d m k p h = (
  grown (wrap c t) us (after t vs) _ _ (λ x. has_push x (wrap c t) us) h.0 (λ x. after_has_wrap c t x vs k),
  ref_depth (seek (wrap c t) vs) (s_wrap c (normal t vs)) (suc d) (omega arith) (omega arith),
  ref_short (seek (wrap c t) vs) (s_wrap c (normal t vs)) (suc m) (omega arith) (omega arith),
)

pub root_beside : (n : Text) (us vs : List Ty) → name_ok n ≡ true → Same us vs → Beside vs 1 (length (name_bytes n)) (root n) (push (root n) us)
unfolding normal depth short
root_beside n us vs f s = (
  grown (root n) us vs _ _ (λ x. has_push x (root n) us) s (λ x. after_has_root n x vs),
  ref_depth (seek (root n) vs) (plain n) 1 (omega arith) (omega arith),
  ref_short (seek (root n) vs) (plain n) (length (name_bytes n)) (name_two n f) (omega arith),
)

pub root_beside_pre : (n : Text) (us vs : List Ty) → name_ok n ≡ true → Same us vs → BesidePre vs 0 (length (name_bytes n)) (root n) (push (root n) us)
unfolding normal depth short
root_beside_pre n us vs f s = (
  grown (root n) us vs _ _ (λ x. has_push x (root n) us) s (λ x. pre_has_root n x vs),
  pre_depth (seek (root n) vs) (p_root n) 0 (omega arith),
  pre_short (seek (root n) vs) (p_root n) (length (name_bytes n)) (name_two n f) (omega arith),
)

pub sub_beside : (n : Text) (t : Ty) (us vs : List Ty) (d m : ℕ) → Closed vs → BesidePre vs d m t us
    → Beside vs (suc d) (m + (length (name_bytes n) + 2)) (sub t n) (push_new (sub t n) us)
unfolding normal depth short
sub_beside n t us vs d m k h = (
  grown (sub t n) us (after_pre t vs) _ _ (λ x. has_push_new x (sub t n) us) h.0 (λ x. after_has_sub t n x vs k),
  ref_depth (seek (sub t n) vs) (nest_sub (normal_pre t vs) n) (suc d) (omega arith) (omega arith),
  ref_short (seek (sub t n) vs) (nest_sub (normal_pre t vs) n) (m + (length (name_bytes n) + 2)) (omega arith) (omega arith),
)

pub sub_beside_pre : (n : Text) (t : Ty) (us vs : List Ty) (d m : ℕ) → Closed vs → name_ok n ≡ true → BesidePre vs d m t us
    → BesidePre vs d (m + length (name_bytes n)) (sub t n) (push (sub t n) us)
unfolding normal depth short
sub_beside_pre n t us vs d m k f h = let z = name_two n f in (
  grown (sub t n) us (after_pre t vs) _ _ (λ x. has_push x (sub t n) us) h.0 (λ x. pre_has_sub t n x vs k),
  pre_depth (seek (sub t n) vs) (p_sub (normal_pre t vs) n) d h.1,
  pre_short (seek (sub t n) vs) (p_sub (normal_pre t vs) n) (m + length (name_bytes n)) (omega arith) (omega arith),
)

-- arguments on a class that is read already
pub app_beside : (t : Ty) (xs : Args) (us vs : List Ty) (d m e n : ℕ) → Closed vs → is_bare t ≡ true
    → suc (max (depth_pre (normal_pre t vs)) (suc d)) ≤ e → short_pre (normal_pre t vs) + (m + brackets (single t)) ≤ n
    → BesideArgs (after_pre t vs) d m xs us → Beside vs e n (app t xs) (push (app t xs) us)
unfolding normal depth short
app_beside t xs us vs d m e n k b g h i =
    let y = templ_depth (single t) (normal_pre t vs) (normal_args xs (after_pre t vs)) in
    let z = templ_short t b vs (normal_args xs (after_pre t vs)) in
    let w = brackets_two (single t) in (
      grown (app t xs) us (after_args xs (after_pre t vs)) _ _ (λ x. has_push x (app t xs) us) i.0 (λ x. after_has_app t xs x vs k),
      ref_depth (seek (app t xs) vs) (templ_of (single t) (normal_pre t vs) (normal_args xs (after_pre t vs))) e (omega arith) (omega arith),
      ref_short (seek (app t xs) vs) (templ_of (single t) (normal_pre t vs) (normal_args xs (after_pre t vs))) n (omega arith) (omega arith),
    )

pub app_beside_pre : (t : Ty) (xs : Args) (us vs : List Ty) (p d q m : ℕ) → Closed vs
    → depth_pre (normal_pre t vs) ≤ p → short_pre (normal_pre t vs) ≤ q → BesideArgs (after_pre t vs) d m xs us
    → BesidePre vs (max p (suc d)) (q + (m + 2)) (app t xs) (push (app t xs) us)
unfolding normal depth short
app_beside_pre t xs us vs p d q m k g h i = (
  grown (app t xs) us (after_args xs (after_pre t vs)) _ _ (λ x. has_push x (app t xs) us) i.0 (λ x. pre_has_app t xs x vs k),
  pre_depth (seek (app t xs) vs) (p_app (normal_pre t vs) (normal_args xs (after_pre t vs))) (max p (suc d)) (omega arith),
  pre_short (seek (app t xs) vs) (p_app (normal_pre t vs) (normal_args xs (after_pre t vs))) (q + (m + 2)) (omega arith) (omega arith),
)

-- ---------------------------------------------------------------- whole symbols

abbrev pub depth_name : SpName → ℕ
depth_name (flat n) = 1
depth_name (scoped c q n) = suc (depth_pre q)

abbrev pub depth_params : Option SpArgs → ℕ
depth_params none = 0
depth_params (some ss) = depth_args ss

unfoldable pub depth_sym : Sym → ℕ
depth_sym (symbol m ps) = max (depth_name m) (depth_params ps)

abbrev pub short_name : SpName → ℕ
short_name (flat n) = length (name_bytes n)
short_name (scoped c q n) = length (const_byte c) + (short_pre q + (length (name_bytes n) + 2))

abbrev pub short_params : Option SpArgs → ℕ
short_params none = 0
short_params (some ss) = short_args ss

unfoldable pub short_sym : Sym → ℕ
short_sym (symbol m ps) = 2 + (short_name m + short_params ps)

-- ---------------------------------------------------------------- a reference has at least two bytes

mutual
  unfolding short spell

  pub short_length : (s : Sp) → short s ≤ length (spell s)
  short_length (s_letter l) = omega arith
  short_length (s_wrap c s) = let k = short_length s in omega arith
  short_length (s_ref i) = simp length-append (omega arith)
  short_length (plain n) = omega arith
  short_length (templ n ss) =
      let k = short_args_length ss in
      let z = length-append (name_bytes n) (73 ∷ (spell_args ss ++ (69 ∷ []))) in
      let y = length-append (spell_args ss) (69 ∷ []) in
      omega arith
  short_length (retempl i ss) = let k = short_args_length ss in simp length-append (omega arith)
  short_length (nest_sub q n) =
      let k = short_pre_length q in
      let z = length-append (spell_pre q) (name_bytes n ++ (69 ∷ [])) in
      let y = length-append (name_bytes n) (69 ∷ []) in
      omega arith
  short_length (nest_app q ss) =
      let k = short_pre_length q in
      let l = short_args_length ss in
      simp length-append (omega arith)
  short_length (s_lit k g v) = omega arith

  pub short_pre_length : (q : Pre) → short_pre q ≤ length (spell_pre q)
  short_pre_length (p_ref i) = simp length-append (omega arith)
  short_pre_length (p_root n) = omega arith
  short_pre_length (p_sub q n) =
      let k = short_pre_length q in
      let z = length-append (spell_pre q) (name_bytes n) in
      omega arith
  short_pre_length (p_app q ss) =
      let k = short_pre_length q in
      let l = short_args_length ss in
      simp length-append (omega arith)

  pub short_args_length : (ss : SpArgs) → short_args ss ≤ length (spell_args ss)
  short_args_length (s_one s) = short_length s
  short_args_length (s_also s ss) =
      let k = short_length s in
      let l = short_args_length ss in
      simp length-append (omega arith)

name_length : (m : SpName) → short_name m ≤ length (spell_name m)
name_length (flat n) = omega arith
name_length (scoped c q n) =
    let k = short_pre_length q in
    let x = length-append (const_byte c) (spell_pre q ++ (name_bytes n ++ (69 ∷ []))) in
    let z = length-append (spell_pre q) (name_bytes n ++ (69 ∷ [])) in
    let y = length-append (name_bytes n) (69 ∷ []) in
    omega arith

params_length : (ps : Option SpArgs) → short_params ps ≤ length (spell_params ps)
params_length none = omega arith
params_length (some ss) = short_args_length ss

pub short_sym_length : (σ : Sym) → short_sym σ ≤ length (spell_sym σ)
unfolding short_sym spell_sym
short_sym_length (symbol m ps) =
    let k = name_length m in
    let l = params_length ps in
    let z = length-append (spell_name m) (spell_params ps) in
    omega arith
