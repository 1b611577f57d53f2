-- The room that a reading needs, by sums over the tables before and after it, and what an accepted reading keeps of it.
use Rattle.std.specs.Prelude.{Bool, true, false, not, ◌&&◌, List, [], ◌∷◌, ◌++◌, ◌≡◌, refl, ℕ, zero, suc, ◌+◌, ◌≤◌, length, leb}
use Rattle.std.proofs.Common.{append_assoc, append-nil, sym, ◌∙◌, ap, arith, le-leb, leb-true}
use Rattle.std.proofs.Math.Option.{Option, none, some}
use Rattle.std.proofs.Math.ListN.{get_elem?}
use Rattle.grammar.specs.Text.{Text, if◌then◌otherwise◌}
use Rattle.grammar.specs.Limits.{most_open, most_entries, most_text_bytes, most_entry_bytes}
use Rattle.grammar.specs.Reader.{fits, bytes_of}
use Rattle.catalogue.specs.Bytes.{and_left, and_right, and_both}
use Rattle.catalogue.specs.Tree.{Ty, Args, wrap, root, sub, app, print, is_bare, is_class, single}
use Rattle.catalogue.specs.Spelling.{Sp, Pre, SpArgs, s_letter, s_wrap, s_ref, plain, templ, retempl, nest_sub, nest_app, s_lit, p_ref, p_root, p_sub, p_app, s_one, s_also}
use Rattle.catalogue.specs.Class.{name_ok, lit_ok, stands, push, last_is, push_new, Res, ok, and_then, entry, resolve, resolve_pre, resolve_args}
use Rattle.catalogue.specs.Laws.WellFormed.{Post, post_ok, post_then, post_if}
use Rattle.catalogue.proofs.Laws.Count.{nargs}
use Rattle.catalogue.proofs.Laws.NoDoubles.{sum}
use Rattle.catalogue.proofs.Laws.NormalForm.{nbytes}

-- ---------------------------------------------------------------- the texts of a table

unfoldable pub texts : List Ty → List Text
texts [] = []
texts (u ∷ us) = print u ∷ texts us

pub texts_push : (us : List Ty) (t : Ty) → texts us ++ (print t ∷ []) ≡ texts (push t us)
unfolding texts
texts_push [] t = refl
texts_push (u ∷ us) t = ap (◌∷◌ (print u)) (texts_push us t)

abbrev pub printed : Option Ty → Option Text
printed none = none
printed (some t) = some (print t)

pub texts_at : (us : List Ty) (i : ℕ) → get_elem? (texts us) i ≡ printed (get_elem? us i)
unfolding texts
texts_at [] i = refl
texts_at (u ∷ us) zero = refl
texts_at (u ∷ us) (suc i) = texts_at us i

-- ---------------------------------------------------------------- tables that fit

abbrev pub bytes : Ty → ℕ
bytes t = length (print t)

pub record Fits (us : List Ty) : Type 0 where
  pub entries : sum (λ t. 1) us ≤ most_entries
  pub size : sum bytes us ≤ most_entry_bytes

texts_count : (us : List Ty) → length (texts us) ≡ sum (λ t. 1) us
unfolding texts sum
texts_count [] = refl
texts_count (u ∷ us) = let k = texts_count us in omega arith

texts_bytes : (us : List Ty) → bytes_of (texts us) ≡ sum bytes us
unfolding bytes_of texts sum
texts_bytes [] = refl
texts_bytes (u ∷ us) = let k = texts_bytes us in omega arith

pub fits_list : (l : List Text) → length l ≤ most_entries → bytes_of l ≤ most_entry_bytes → fits l ≡ true
unfolding fits
fits_list l h k =
    and_both (leb (length l) most_entries) (leb (bytes_of l) most_entry_bytes) (le-leb (length l) most_entries h) (le-leb
    (bytes_of l) most_entry_bytes k)

pub fits_texts : (us : List Ty) → Fits us → fits (texts us) ≡ true
fits_texts us h = let p = texts_count us in let q = texts_bytes us in fits_list (texts us) (omega arith) (omega arith)

pub texts_fit : (us : List Ty) → fits (texts us) ≡ true → Fits us
unfolding fits
texts_fit us h =
    let p = texts_count us in
    let q = texts_bytes us in
    let x = leb-true (length (texts us)) most_entries (and_left (leb (length (texts us)) most_entries) (leb (bytes_of
    (texts us)) most_entry_bytes) h) in
    let y = leb-true (bytes_of (texts us)) most_entry_bytes (and_right (leb (length (texts us)) most_entries) (leb (bytes_of
    (texts us)) most_entry_bytes) h) in
    record { entries = omega arith; size = omega arith }

pub fits_push : (t : Ty) (us : List Ty) → Fits (push t us) → fits (texts us ++ (print t ∷ [])) ≡ true
fits_push t us h = rw (texts_push us t) (fits_texts (push t us) h)

pub push_fits : (t : Ty) (us : List Ty) → fits (texts us ++ (print t ∷ [])) ≡ true → Fits (push t us)
push_fits t us h = texts_fit (push t us) (rw (texts_push us t) at h)

pub bytes_snoc : (l : List Text) (t : Text) → bytes_of (l ++ (t ∷ [])) ≡ bytes_of l + length t
unfolding bytes_of
bytes_snoc [] t = omega arith
bytes_snoc (u ∷ l) t = let k = bytes_snoc l t in omega arith

-- ---------------------------------------------------------------- tables only grow

abbrev pub Grown : List Ty → List Ty → Type 0
Grown us vs = (ws : List Ty) × (vs ≡ us ++ ws)

pub grown_refl : (us : List Ty) → Grown us us
grown_refl us = ([], sym (append-nil us))

pub grown_push : (t : Ty) (us : List Ty) → Grown us (push t us)
grown_push t us = (t ∷ [], refl)

pub grown_push_new : (t : Ty) (us : List Ty) → Grown us (push_new t us)
unfolding push_new if◌then◌otherwise◌
grown_push_new t us = go (last_is t us)
  where
    go : (p : Bool) → Grown us (if p then us otherwise push t us)
    go true = grown_refl us
    go false = grown_push t us

pub grown_trans : (us vs ws : List Ty) → Grown us vs → Grown vs ws → Grown us ws
grown_trans us vs ws h k = (h.0 ++ k.0, k.1 ∙ ap (λ z. z ++ k.0) h.1 ∙ append_assoc us h.0 k.0)

sum_append : (f : Ty → ℕ) (us vs : List Ty) → sum f (us ++ vs) ≡ sum f us + sum f vs
unfolding sum
sum_append f [] vs = omega arith
sum_append f (u ∷ us) vs = let k = sum_append f us vs in omega arith

pub sum_grown : (f : Ty → ℕ) (us vs : List Ty) → Grown us vs → sum f us ≤ sum f vs
sum_grown f us vs h = let k = sum_append f us h.0 in rw h.1 (omega arith)

pub fits_grown : (us vs : List Ty) → Grown us vs → Fits vs → Fits us
fits_grown us vs h k =
    let p = sum_grown (λ t. 1) us vs h in
    let q = sum_grown bytes us vs h in
    record { entries = omega arith; size = omega arith }

abbrev Grows : {A : Type 0} → List Ty → A → List Ty → Type 0
Grows us x vs = Grown us vs

entry_grows : (o : Option Ty) (us : List Ty) → Post (entry o us) (Grows us)
unfolding Post
entry_grows none us = tt
entry_grows (some t) us = grown_refl us

app_grows : (t : Ty) (us vs : List Ty) (r : Res Args) → Grown us vs → Post r (Grows vs)
    → Post (and_then r (λ xs ws. ok (app t xs) (push (app t xs) ws))) (Grows us)
app_grows t us vs r h k =
    post_then (Grows vs) (Grows us) r _ k
    (λ xs ws g. post_ok _ _ (Grows us) (grown_trans us ws _ (grown_trans us vs ws h g) (grown_push (app t xs) ws)))

mutual
  unfolding resolve

  pub grows : (s : Sp) (us : List Ty) → Post (resolve s us) (Grows us)
  grows (s_letter l) us = post_ok _ _ (Grows us) (grown_refl us)
  grows (s_wrap c s) us =
      post_then (Grows us) (Grows us) (resolve s us) _ (grows s us)
      (λ t vs h. post_if (Grows us) (stands c t) _ (λ e. post_ok _ _ (Grows us) (grown_trans us vs _ h (grown_push (wrap c t) vs))))
  grows (s_ref i) us = entry_grows (get_elem? us i) us
  grows (plain n) us = post_if (Grows us) (name_ok n) _ (λ e. post_ok _ _ (Grows us) (grown_push (root n) us))
  grows (templ n ss) us =
      post_if (Grows us) (name_ok n) _ (λ e. app_grows (root n) us (push (root n) us) _ (grown_push (root n) us) (grows_args ss (push (root n) us)))
  grows (retempl i ss) us =
      post_then (Grows us) (Grows us) (entry (get_elem? us i) us) _ (entry_grows (get_elem? us i) us)
      (λ t vs h. post_if (Grows us) (single t && is_bare t) _ (λ e. app_grows t us vs _ h (grows_args ss vs)))
  grows (nest_sub q n) us =
      post_then (Grows us) (Grows us) (resolve_pre q us) _ (grows_pre q us)
      (λ t vs h. post_if (Grows us) (name_ok n) _ (λ e. post_ok _ _ (Grows us) (grown_trans us vs _ h (grown_push_new (sub t n) vs))))
  grows (nest_app q ss) us =
      post_then (Grows us) (Grows us) (resolve_pre q us) _ (grows_pre q us)
      (λ t vs h. post_if (Grows us) (not (single t) && is_bare t) _ (λ e. app_grows t us vs _ h (grows_args ss vs)))
  grows (s_lit k g v) us = post_if (Grows us) (lit_ok k g v) _ (λ e. post_ok _ _ (Grows us) (grown_refl us))

  pub grows_pre : (q : Pre) (us : List Ty) → Post (resolve_pre q us) (Grows us)
  grows_pre (p_ref i) us =
      post_then (Grows us) (Grows us) (entry (get_elem? us i) us) _ (entry_grows (get_elem? us i) us)
      (λ t vs h. post_if (Grows us) (is_class t) _ (λ e. post_ok _ _ (Grows us) h))
  grows_pre (p_root n) us = post_if (Grows us) (name_ok n) _ (λ e. post_ok _ _ (Grows us) (grown_push (root n) us))
  grows_pre (p_sub q n) us =
      post_then (Grows us) (Grows us) (resolve_pre q us) _ (grows_pre q us)
      (λ t vs h. post_if (Grows us) (name_ok n) _ (λ e. post_ok _ _ (Grows us) (grown_trans us vs _ h (grown_push (sub t n) vs))))
  grows_pre (p_app q ss) us =
      post_then (Grows us) (Grows us) (resolve_pre q us) _ (grows_pre q us)
      (λ t vs h. post_if (Grows us) (is_bare t) _ (λ e. app_grows t us vs _ h (grows_args ss vs)))

  pub grows_args : (ss : SpArgs) (us : List Ty) → Post (resolve_args ss us) (Grows us)
  grows_args (s_one s) us = post_then (Grows us) (Grows us) (resolve s us) _ (grows s us) (λ t vs h. post_ok _ _ (Grows us) h)
  grows_args (s_also s ss) us =
      post_then (Grows us) (Grows us) (resolve s us) _ (grows s us)
      (λ t vs h. post_then (Grows vs) (Grows us) (resolve_args ss vs) _ (grows_args ss vs)
      (λ xs ws k. post_ok _ _ (Grows us) (grown_trans us vs ws h k)))

-- ---------------------------------------------------------------- room, and what is kept of it

-- Room for a reading: the tables before and after it are us and vs, the arguments before it a, d levels are open and m more will be,
-- the longest text has len bytes; n arguments of k bytes are pushed whose list is not in the table yet.
pub record Room (us vs : List Ty) (a : List Text) (d m len n k : ℕ) : Type 0 where
  pub table : Fits vs
  pub deep : d + m ≤ most_open
  pub text : len ≤ most_text_bytes
  pub few : length a + sum nargs vs + n ≤ most_entries + sum nargs us
  pub small : bytes_of a + sum nbytes vs + k ≤ most_entry_bytes + sum nbytes us

-- what holds where it went through, with the arguments e after it
pub record Kept (us vs : List Ty) (a : List Text) (d m n k : ℕ) (e : List Text) : Type 0 where
  pub deep : d + m ≤ most_open
  pub table : Fits us → Fits vs
  pub few : length e + sum nargs us ≤ length a + sum nargs vs + n
  pub small : bytes_of e + sum nbytes us ≤ bytes_of a + sum nbytes vs + k
