-- The arguments as written are counted by the table: each list that is written ends in an entry with as many arguments.
use Rattle.std.specs.Prelude.{Bool, true, false, not, ◌&&◌, ◌||◌, List, [], ◌∷◌, ◌≡◌, refl, ℕ, suc, ◌+◌}
use Rattle.std.proofs.Math.Option.{Option, none, some}
use Rattle.std.proofs.Common.{arith}
use Rattle.std.proofs.Math.ListN.{get_elem?}
use Rattle.grammar.specs.Text.{Text, if◌then◌otherwise◌}
use Rattle.catalogue.specs.Tree.{Ty, Args, letter, wrap, root, sub, app, lit, one, also, is_class, is_bare, single}
use Rattle.catalogue.specs.Spelling.{Sp, Pre, SpArgs, SpName, Sym, s_letter, s_wrap, s_ref, plain, templ, retempl, nest_sub, nest_app, s_lit, p_ref}
use Rattle.catalogue.specs.Spelling.{p_root, p_sub, p_app, s_one, s_also, flat, scoped, symbol}
use Rattle.catalogue.specs.Class.{name_ok, lit_ok, stands, all_types, push, last_is, push_new, Res, ok, and_then, entry, resolve, resolve_pre}
use Rattle.catalogue.specs.Class.{resolve_args, resolve_name, resolve_params, resolve_sym, is_const, has_params, number, count, count_pre, count_args}
use Rattle.catalogue.specs.Class.{count_name, count_params, count_sym}
use Rattle.catalogue.specs.Laws.WellFormed.{Post, post_ok, post_then, post_if, post_entry}
use Rattle.catalogue.proofs.Laws.NoDoubles.{sum}

abbrev pub number_of : Args → ℕ
number_of (one t) = 1
number_of (also t xs) = suc (number_of xs)

-- the arguments of an entry's last list
abbrev pub nargs : Ty → ℕ
nargs (letter l) = 0
nargs (wrap c t) = 0
nargs (root n) = 0
nargs (sub t n) = 0
nargs (app t xs) = number_of xs
nargs (lit k g v) = 0

pub sum_push : (f : Ty → ℕ) (t : Ty) (us : List Ty) → sum f (push t us) ≡ sum f us + f t
unfolding sum
sum_push f t [] = omega arith
sum_push f t (u ∷ us) = let k = sum_push f t us in omega arith

sum_push_new : (t : Ty) (n : Text) (us : List Ty) → sum nargs (push_new (sub t n) us) ≡ sum nargs us
unfolding push_new if◌then◌otherwise◌
sum_push_new t n us = go (last_is (sub t n) us)
  where
    go : (p : Bool) → sum nargs (if p then us otherwise push (sub t n) us) ≡ sum nargs us
    go true = refl
    go false = let k = sum_push nargs (sub t n) us in omega arith

-- so many arguments more are in the table than before
abbrev pub Counted : {A : Type 0} → List Ty → ℕ → A → List Ty → Type 0
Counted us m x vs = sum nargs vs ≡ sum nargs us + m

abbrev pub CountedArgs : List Ty → ℕ → ℕ → Args → List Ty → Type 0
CountedArgs us m n xs vs = (sum nargs vs ≡ sum nargs us + m) × (number_of xs ≡ n)

entry_counted : (o : Option Ty) (us : List Ty) → Post (entry o us) (Counted us 0)
entry_counted o us = post_entry (Counted us 0) o us (λ t e. omega arith)

app_counted : (t : Ty) (r : Res Args) (us vs : List Ty) (l m n : ℕ) → sum nargs vs ≡ sum nargs us + l → Post r (CountedArgs vs m n)
    → Post (and_then r (λ xs ws. ok (app t xs) (push (app t xs) ws))) (Counted us (l + (m + n)))
app_counted t r us vs l m n e h =
    post_then (CountedArgs vs m n) (Counted us (l + (m + n))) r _ h
    (λ xs ws k. let z = sum_push nargs (app t xs) ws in let k0 = k.0 in let k1 = k.1 in post_ok _ _ (Counted us (l + (m + n))) (omega arith))

mutual
  unfolding resolve count

  pub counted : (s : Sp) (us : List Ty) → Post (resolve s us) (Counted us (count s))
  counted (s_letter l) us = post_ok _ _ (Counted us 0) (omega arith)
  counted (s_wrap c s) us =
      post_then (Counted us (count s)) (Counted us (count s)) (resolve s us) _ (counted s us)
      (λ t vs h. post_if _ (stands c t) _ (λ p. let z = sum_push nargs (wrap c t) vs in post_ok _ _ (Counted us (count s)) (omega arith)))
  counted (s_ref i) us = entry_counted (get_elem? us i) us
  counted (plain n) us = post_if _ (name_ok n) _ (λ p. let z = sum_push nargs (root n) us in post_ok _ _ (Counted us 0) (omega arith))
  counted (templ n ss) us =
      post_if (Counted us (count (templ n ss))) (name_ok n) _
      (λ p. let z = sum_push nargs (root n) us in
      let y : 0 + (count_args ss + number ss) ≡ count (templ n ss) = omega arith in
      rw y at (app_counted (root n) (resolve_args ss (push (root n) us)) us (push (root n) us) 0 (count_args ss) (number ss) (omega arith)
      (counted_args ss (push (root n) us))))
  counted (retempl i ss) us =
      post_then (Counted us 0) (Counted us (count (retempl i ss))) (entry (get_elem? us i) us) _ (entry_counted (get_elem? us i) us)
      (λ t vs h. post_if (Counted us (count (retempl i ss))) (single t && is_bare t) _
      (λ p. let y : 0 + (count_args ss + number ss) ≡ count (retempl i ss) = omega arith in
      rw y at (app_counted t (resolve_args ss vs) us vs 0 (count_args ss) (number ss) h (counted_args ss vs))))
  counted (nest_sub q n) us =
      post_then (Counted us (count_pre q)) (Counted us (count_pre q)) (resolve_pre q us) _ (counted_pre q us)
      (λ t vs h. post_if _ (name_ok n) _ (λ p. let z = sum_push_new t n vs in post_ok _ _ (Counted us (count_pre q)) (omega arith)))
  counted (nest_app q ss) us =
      post_then (Counted us (count_pre q)) (Counted us (count (nest_app q ss))) (resolve_pre q us) _ (counted_pre q us)
      (λ t vs h. post_if _ (not (single t) && is_bare t) _
      (λ p. app_counted t (resolve_args ss vs) us vs (count_pre q) (count_args ss) (number ss) h (counted_args ss vs)))
  counted (s_lit k g v) us = post_if _ (lit_ok k g v) _ (λ p. post_ok _ _ (Counted us 0) (omega arith))

  pub counted_pre : (q : Pre) (us : List Ty) → Post (resolve_pre q us) (Counted us (count_pre q))
  counted_pre (p_ref i) us =
      post_then (Counted us 0) (Counted us 0) (entry (get_elem? us i) us) _ (entry_counted (get_elem? us i) us)
      (λ t vs h. post_if _ (is_class t) _ (λ p. post_ok _ _ (Counted us 0) h))
  counted_pre (p_root n) us = post_if _ (name_ok n) _ (λ p. let z = sum_push nargs (root n) us in post_ok _ _ (Counted us 0) (omega arith))
  counted_pre (p_sub q n) us =
      post_then (Counted us (count_pre q)) (Counted us (count_pre q)) (resolve_pre q us) _ (counted_pre q us)
      (λ t vs h. post_if _ (name_ok n) _ (λ p. let z = sum_push nargs (sub t n) vs in post_ok _ _ (Counted us (count_pre q)) (omega arith)))
  counted_pre (p_app q ss) us =
      post_then (Counted us (count_pre q)) (Counted us (count_pre (p_app q ss))) (resolve_pre q us) _ (counted_pre q us)
      (λ t vs h. post_if _ (is_bare t) _
      (λ p. app_counted t (resolve_args ss vs) us vs (count_pre q) (count_args ss) (number ss) h (counted_args ss vs)))

  pub counted_args : (ss : SpArgs) (us : List Ty) → Post (resolve_args ss us) (CountedArgs us (count_args ss) (number ss))
  counted_args (s_one s) us =
      post_then (Counted us (count s)) (CountedArgs us (count s) 1) (resolve s us) _ (counted s us)
      (λ t vs h. post_ok _ _ (CountedArgs us (count s) 1) (h, refl))
  counted_args (s_also s ss) us =
      post_then (Counted us (count s)) (CountedArgs us (count_args (s_also s ss)) (number (s_also s ss))) (resolve s us) _ (counted s us)
      (λ t vs h. post_then (CountedArgs vs (count_args ss) (number ss)) (CountedArgs us (count_args (s_also s ss)) (number (s_also s ss)))
      (resolve_args ss vs) _ (counted_args ss vs)
      (λ xs ws k. let k0 = k.0 in let k1 = k.1 in post_ok _ _ (CountedArgs us (count_args (s_also s ss)) (number (s_also s ss))) (omega arith, omega arith)))

-- ---------------------------------------------------------------- whole symbols

counted_name : (m : SpName) → Post (resolve_name m) (Counted [] (count_name m))
unfolding resolve_name
counted_name (flat n) = post_if _ (name_ok n) _ (λ p. post_ok _ _ (Counted [] 0) (omega arith))
counted_name (scoped c q n) =
    post_then (Counted [] (count_pre q)) (Counted [] (count_pre q)) (resolve_pre q []) _ (counted_pre q [])
    (λ t us h. post_if _ (name_ok n) _ (λ p. post_ok _ _ (Counted [] (count_pre q)) h))

counted_params : (ps : Option SpArgs) (us : List Ty) → Post (resolve_params ps us) (Counted us (count_params ps))
unfolding resolve_params
counted_params none us = post_ok _ _ (Counted us 0) (omega arith)
counted_params (some ss) us =
    post_then (CountedArgs us (count_args ss) (number ss)) (Counted us (count_args ss)) (resolve_args ss us) _ (counted_args ss us)
    (λ xs vs h. post_if _ (all_types xs) _ (λ p. post_ok _ _ (Counted us (count_args ss)) h.0))

pub counted_sym : (σ : Sym) → Post (resolve_sym σ) (Counted [] (count_sym σ))
unfolding resolve_sym count_sym
counted_sym (symbol m ps) =
    post_if _ (not (is_const m) || has_params ps) _
    (λ p. post_then (Counted [] (count_name m)) (Counted [] (count_name m + count_params ps)) (resolve_name m) _ (counted_name m)
    (λ t us h. post_then (Counted us (count_params ps)) (Counted [] (count_name m + count_params ps)) (resolve_params ps us) _ (counted_params ps us)
    (λ xs vs k. post_ok _ _ (Counted [] (count_name m + count_params ps)) (omega arith))))
