-- The recogniser reads every whole symbol back whose written tree resolves.
use Rattle.std.specs.Prelude.{Bool, true, false, not, ◌&&◌, ◌||◌, List, [], ◌∷◌, ◌++◌, ◌≡◌, refl, ℕ, suc, ◌-◌, ◌≤◌, ◌<◌, eqb, length}
use Rattle.std.proofs.Common.{append_assoc, append-nil, ◌∙◌, ap, arith, length-append, ne_eqb}
use Rattle.std.proofs.Math.Option.{Option, none, some}
use Prim.Native.Char.{code}
use Rattle.std.proofs.Math.ListN.{get_elem?}
use Rattle.grammar.specs.Text.{Text, b, if◌then◌otherwise◌, same, digit, digit_value}
use Rattle.catalogue.specs.Bytes.{all, first, and_left, and_right, same_eq}
use Rattle.catalogue.specs.Tree.{Kind, Ty, Args, Enc, kb, ki, kj, kl, km, app, is_class, is_bare, single}
use Rattle.catalogue.specs.Spelling.{Sp, Pre, SpArgs, SpName, Sym, s_letter, s_wrap, s_ref, plain, templ, retempl, nest_sub, nest_app, s_lit, p_ref}
use Rattle.catalogue.specs.Spelling.{p_root, p_sub, p_app, s_one, s_also, flat, scoped, symbol, name_bytes, spell, spell_pre, spell_args, spell_name}
use Rattle.catalogue.specs.Spelling.{spell_params, spell_sym}
use Rattle.catalogue.specs.Class.{name_ok, lit_ok, numeral, stands, all_types, push, Res, ok, and_then, entry, resolve, resolve_pre, resolve_args}
use Rattle.catalogue.specs.Class.{resolve_name, resolve_params, resolve_sym, is_const, has_params}
use Rattle.catalogue.specs.Laws.WellFormed.{Post, post_ok, post_then, post_if, post_entry, post_is}
use Rattle.catalogue.specs.Laws.Numbers.{digit_low}
use Rattle.catalogue.proofs.Laws.Back.{numeral_all}
use Rattle.catalogue.specs.Recogniser.{Rd, rd, bind, parse, to_name, name_at, last_or, parse_types, params_at, parse_sym}
use Rattle.catalogue.proofs.Laws.ReadsBack.{OkSp, OkPre, OkArgs, is_ie, no_I, args_IE, name_first, name_long, spell_long, parse_spell}

-- ---------------------------------------------------------------- what resolves has permitted names and values

pub lit_digits : (k : Kind) (g : Bool) (v : Text) → lit_ok k g v ≡ true → all (digit 10) v ≡ true
unfolding lit_ok digit digit_value if◌then◌otherwise◌ b
lit_digits kb g v h = truth (same v (b "0")) refl (and_right (not g) (same v (b "0") || same v (b "1")) h)
  where
    truth : (p : Bool) → same v (b "0") ≡ p → p || same v (b "1") ≡ true → all (digit 10) v ≡ true
    truth true e k = rw (same_eq v (b "0") e) refl
    truth false e k = rw (same_eq v (b "1") k) refl
lit_digits ki g v h = numeral_all v (and_left (numeral v) (not (g && same v (b "0"))) h)
lit_digits kj g v h = numeral_all v (and_right (not g) (numeral v) h)
lit_digits kl g v h = numeral_all v (and_left (numeral v) (not (g && same v (b "0"))) h)
lit_digits km g v h = numeral_all v (and_right (not g) (numeral v) h)

-- a property that does not depend on the result
abbrev Fixed : {A : Type 0} → Type 0 → A → List Ty → Type 0
Fixed P x us = P

any_entry : (o : Option Ty) (us : List Ty) → Post (entry o us) (Fixed (Unit {0}))
any_entry o us = post_entry (Fixed (Unit {0})) o us (λ t e. tt)

args_ok : (P Q : Type 0) (t : Ty) (r : Res Args) → Post r (Fixed P) → (P → Q) → Post (and_then r (λ xs vs. ok (app t xs) (push (app t xs) vs))) (Fixed Q)
args_ok P Q t r h f = post_then (Fixed P) (Fixed Q) r _ h (λ xs vs k. post_ok _ _ (Fixed Q) (f k))

mutual
  unfolding resolve

  resolve_ok : (s : Sp) (us : List Ty) → Post (resolve s us) (Fixed (OkSp s))
  resolve_ok (s_letter l) us = post_ok _ _ (Fixed (Unit {0})) tt
  resolve_ok (s_wrap c s) us =
      post_then (Fixed (OkSp s)) (Fixed (OkSp s)) (resolve s us) _ (resolve_ok s us)
      (λ t vs h. post_if (Fixed (OkSp s)) (stands c t) _ (λ e. post_ok _ _ (Fixed (OkSp s)) h))
  resolve_ok (s_ref i) us = any_entry (get_elem? us i) us
  resolve_ok (plain n) us = post_if (Fixed (name_ok n ≡ true)) (name_ok n) _ (λ e. post_ok _ _ (Fixed (name_ok n ≡ true)) e)
  resolve_ok (templ n ss) us =
      post_if (Fixed (OkSp (templ n ss))) (name_ok n) _
      (λ e. args_ok (OkArgs ss) (OkSp (templ n ss)) _ (resolve_args ss _) (resolve_args_ok ss _) (λ k. (e, k)))
  resolve_ok (retempl i ss) us =
      post_then (Fixed (Unit {0})) (Fixed (OkArgs ss)) (entry (get_elem? us i) us) _ (any_entry (get_elem? us i) us)
      (λ t vs h. post_if (Fixed (OkArgs ss)) (single t && is_bare t) _
      (λ e. args_ok (OkArgs ss) (OkArgs ss) t (resolve_args ss vs) (resolve_args_ok ss vs) (λ k. k)))
  resolve_ok (nest_sub q n) us =
      post_then (Fixed (OkPre q)) (Fixed (OkSp (nest_sub q n))) (resolve_pre q us) _ (resolve_pre_ok q us)
      (λ t vs h. post_if (Fixed (OkSp (nest_sub q n))) (name_ok n) _ (λ e. post_ok _ _ (Fixed (OkSp (nest_sub q n))) (h, e)))
  resolve_ok (nest_app q ss) us =
      post_then (Fixed (OkPre q)) (Fixed (OkSp (nest_app q ss))) (resolve_pre q us) _ (resolve_pre_ok q us)
      (λ t vs h. post_if (Fixed (OkSp (nest_app q ss))) (not (single t) && is_bare t) _
      (λ e. args_ok (OkArgs ss) (OkSp (nest_app q ss)) t (resolve_args ss vs) (resolve_args_ok ss vs) (λ k. (h, k))))
  resolve_ok (s_lit k g v) us =
      post_if (Fixed (all (digit 10) v ≡ true)) (lit_ok k g v) _ (λ e. post_ok _ _ (Fixed (all (digit 10) v ≡ true)) (lit_digits k g v e))

  resolve_pre_ok : (q : Pre) (us : List Ty) → Post (resolve_pre q us) (Fixed (OkPre q))
  resolve_pre_ok (p_ref i) us =
      post_then (Fixed (Unit {0})) (Fixed (Unit {0})) (entry (get_elem? us i) us) _ (any_entry (get_elem? us i) us)
      (λ t vs h. post_if (Fixed (Unit {0})) (is_class t) _ (λ e. post_ok _ _ (Fixed (Unit {0})) tt))
  resolve_pre_ok (p_root n) us = post_if (Fixed (name_ok n ≡ true)) (name_ok n) _ (λ e. post_ok _ _ (Fixed (name_ok n ≡ true)) e)
  resolve_pre_ok (p_sub q n) us =
      post_then (Fixed (OkPre q)) (Fixed (OkPre (p_sub q n))) (resolve_pre q us) _ (resolve_pre_ok q us)
      (λ t vs h. post_if (Fixed (OkPre (p_sub q n))) (name_ok n) _ (λ e. post_ok _ _ (Fixed (OkPre (p_sub q n))) (h, e)))
  resolve_pre_ok (p_app q ss) us =
      post_then (Fixed (OkPre q)) (Fixed (OkPre (p_app q ss))) (resolve_pre q us) _ (resolve_pre_ok q us)
      (λ t vs h. post_if (Fixed (OkPre (p_app q ss))) (is_bare t) _
      (λ e. args_ok (OkArgs ss) (OkPre (p_app q ss)) t (resolve_args ss vs) (resolve_args_ok ss vs) (λ k. (h, k))))

  resolve_args_ok : (ss : SpArgs) (us : List Ty) → Post (resolve_args ss us) (Fixed (OkArgs ss))
  resolve_args_ok (s_one s) us =
      post_then (Fixed (OkSp s)) (Fixed (OkSp s)) (resolve s us) _ (resolve_ok s us) (λ t vs h. post_ok _ _ (Fixed (OkSp s)) h)
  resolve_args_ok (s_also s ss) us =
      post_then (Fixed (OkSp s)) (Fixed (OkArgs (s_also s ss))) (resolve s us) _ (resolve_ok s us)
      (λ t vs h. post_then (Fixed (OkArgs ss)) (Fixed (OkArgs (s_also s ss))) (resolve_args ss vs) _ (resolve_args_ok ss vs)
      (λ xs ws k. post_ok _ _ (Fixed (OkArgs (s_also s ss))) (h, k)))

abbrev pub OkName : SpName → Type 0
OkName (flat n) = name_ok n ≡ true
OkName (scoped c q n) = OkPre q × (name_ok n ≡ true)

abbrev pub OkParams : Option SpArgs → Type 0
OkParams none = Unit {0}
OkParams (some ss) = OkArgs ss

abbrev pub OkSym : Sym → Type 0
OkSym (symbol m ps) = OkName m × OkParams ps

name_ok_fixed : (m : SpName) → Post (resolve_name m) (Fixed (OkName m))
unfolding resolve_name
name_ok_fixed (flat n) = post_if (Fixed (name_ok n ≡ true)) (name_ok n) _ (λ e. post_ok _ _ (Fixed (name_ok n ≡ true)) e)
name_ok_fixed (scoped c q n) =
    post_then (Fixed (OkPre q)) (Fixed (OkName (scoped c q n))) (resolve_pre q []) _ (resolve_pre_ok q [])
    (λ t us h. post_if (Fixed (OkName (scoped c q n))) (name_ok n) _ (λ e. post_ok _ _ (Fixed (OkName (scoped c q n))) (h, e)))

params_ok : (ps : Option SpArgs) (us : List Ty) → Post (resolve_params ps us) (Fixed (OkParams ps))
unfolding resolve_params
params_ok none us = post_ok _ _ (Fixed (Unit {0})) tt
params_ok (some ss) us =
    post_then (Fixed (OkArgs ss)) (Fixed (OkArgs ss)) (resolve_args ss us) _ (resolve_args_ok ss us)
    (λ xs vs h. post_if (Fixed (OkArgs ss)) (all_types xs) _ (λ e. post_ok _ _ (Fixed (OkArgs ss)) h))

resolve_sym_ok : (σ : Sym) → Post (resolve_sym σ) (Fixed (OkSym σ))
unfolding resolve_sym
resolve_sym_ok (symbol m ps) =
    post_if (Fixed (OkSym (symbol m ps))) (not (is_const m) || has_params ps) _
    (λ e. post_then (Fixed (OkName m)) (Fixed (OkSym (symbol m ps))) (resolve_name m) _ (name_ok_fixed m)
    (λ t us h. post_then (Fixed (OkParams ps)) (Fixed (OkSym (symbol m ps))) (resolve_params ps us) _ (params_ok ps us)
    (λ xs vs k. post_ok _ _ (Fixed (OkSym (symbol m ps))) (h, k))))

pub sym_ok : (σ : Sym) (e : Enc) (us : List Ty) → resolve_sym σ ≡ ok e us → OkSym σ
sym_ok σ e us h = post_is (Fixed (OkSym σ)) (resolve_sym σ) e us h (resolve_sym_ok σ)

-- ---------------------------------------------------------------- parameters

last_more : (x : Sp) (r : Text) (types : Text → Rd SpArgs) → 1 ≤ length r → last_or x r types ≡ bind (types r) (λ ss r'. rd (s_also x ss) r')
last_more x [] types h = absurd (omega arith)
last_more x (c ∷ r) types h = refl

args_long : (ss : SpArgs) → OkArgs ss → 1 ≤ length (spell_args ss)
unfolding spell
args_long (s_one s) o = rw (append-nil (spell s)) at (spell_long s o [])
args_long (s_also s ss) o = let k = spell_long s o.0 (spell_args ss) in omega arith

types_spell : (ss : SpArgs) → OkArgs ss → (f : ℕ) → length (spell_args ss) < f → parse_types f (spell_args ss) ≡ rd ss []
unfolding parse_types spell
types_spell (s_one s) o f h =
    let e : f ≡ suc (f - 1) = omega arith in
    let g : length (spell s ++ []) ≤ f - 1 = rw (append-nil (spell s)) (omega arith) in
    let k : parse (f - 1) (spell s) ≡ rd s [] = rw (append-nil (spell s)) at (parse_spell s o [] refl (f - 1) g) in
    rw e (rw k refl)
types_spell (s_also s ss) o f h =
    let e : f ≡ suc (f - 1) = omega arith in
    let i : first (λ c. eqb c 73) (spell_args ss) ≡ false = no_I (spell_args ss) (rw (append-nil (spell_args ss)) at (args_IE ss [])) in
    let k = parse_spell s o.0 (spell_args ss) i (f - 1) (omega arith) in
    let l = spell_long s o.0 (spell_args ss) in
    rw e (rw k (last_more s (spell_args ss) (λ r'. parse_types (f - 1) r') (args_long ss o.1) ∙ rw (types_spell ss o.1 (f - 1) (omega arith)) refl))

params_IE : (ps : Option SpArgs) → first is_ie (spell_params ps) ≡ false
params_IE none = refl
params_IE (some ss) = rw (append-nil (spell_args ss)) at (args_IE ss [])

params_spell : (m : SpName) (ps : Option SpArgs) → OkParams ps → (f : ℕ) → length (spell_params ps) < f → params_at f m (spell_params ps) ≡ some (symbol m ps)
params_spell m none o f h = refl
params_spell m (some ss) o f h = go (spell_args ss) (args_long ss o) (types_spell ss o f h)
  where
    go : (r : Text) → 1 ≤ length r → parse_types f r ≡ rd ss [] → params_at f m r ≡ some (symbol m (some ss))
    go [] k e = absurd (omega arith)
    go (c ∷ r) k e = rw e refl

-- ---------------------------------------------------------------- the function's name

not_K : (c : ℕ) → digit 10 c ≡ true → eqb c (code "K") ≡ false
not_K c h = let k = digit_low c h in ne_eqb c 75 (λ e. (omega arith))

pub not_N : (c : ℕ) → digit 10 c ≡ true → eqb c (code "N") ≡ false
not_N c h = let k = digit_low c h in ne_eqb c 78 (λ e. (omega arith))

pub pre_K : (q : Pre) (r : Text) → first (λ c. eqb c (code "K")) (spell_pre q ++ r) ≡ false
unfolding spell
pre_K (p_ref i) r = refl
pre_K (p_root n) r = name_first (λ c. eqb c 75) not_K n r
pre_K (p_sub q n) r = rw (append_assoc (spell_pre q) (name_bytes n) r) (pre_K q (name_bytes n ++ r))
pre_K (p_app q ss) r =
    rw (append_assoc (spell_pre q) (73 ∷ (spell_args ss ++ (69 ∷ []))) r) (pre_K q ((73 ∷ (spell_args ss ++ (69 ∷ []))) ++ r))

abbrev has_nk : Text → Bool
has_nk [] = false
has_nk (c ∷ s) = eqb c 78 && first (λ d. eqb d 75) s

name_at_is : (f : ℕ) (s : Text) → 2 ≤ length s → has_nk s ≡ false → name_at f s ≡ to_name false (parse f s)
name_at_is f [] h e = absurd (omega arith)
name_at_is f (c ∷ []) h e = absurd (omega arith)
name_at_is f (c ∷ d ∷ r) h e = rw e refl

no_NK : (s : Text) → first (λ c. eqb c (code "N")) s ≡ false → has_nk s ≡ false
no_NK [] h = refl
no_NK (c ∷ s) h = rw h refl

name_spell : (m : SpName) → OkName m → (r : Text) → first (λ c. eqb c (code "I")) r ≡ false → (f : ℕ) → length (spell_name m ++ r) ≤ f
    → name_at f (spell_name m ++ r) ≡ rd m r
unfolding spell
name_spell (flat n) o r q f h =
    let k = name_long n r o in
    name_at_is f (name_bytes n ++ r) (omega arith) (no_NK (name_bytes n ++ r) (name_first (λ c. eqb c 78) not_N n r))
    ∙ ap (to_name false) (parse_spell (plain n) o r q f h)
name_spell (scoped true p n) o r q f h = ap (to_name true) (parse_spell (nest_sub p n) o r q f (omega arith))
name_spell (scoped false p n) o r q f h =
    name_at_is f (78 ∷ ((spell_pre p ++ (name_bytes n ++ (69 ∷ []))) ++ r)) (simp length-append (omega arith))
    (rw (append_assoc (spell_pre p) (name_bytes n ++ (69 ∷ [])) r) (pre_K p ((name_bytes n ++ (69 ∷ [])) ++ r)))
    ∙ ap (to_name false) (parse_spell (nest_sub p n) o r q f h)

-- ---------------------------------------------------------------- whole symbols

parse_ok : (σ : Sym) → OkSym σ → parse_sym (spell_sym σ) ≡ some σ
unfolding parse_sym spell_sym
parse_ok (symbol m ps) o =
    let k : length (spell_params ps) ≤ length (spell_name m ++ spell_params ps) = simp length-append (omega arith) in
    rw (name_spell m o.0 (spell_params ps) (no_I (spell_params ps) (params_IE ps)) (suc (length (spell_name m ++ spell_params ps))) (omega arith))
    (params_spell m ps o.1 (suc (length (spell_name m ++ spell_params ps))) (omega arith))

pub parse_sym_spell : (σ : Sym) (e : Enc) (us : List Ty) → resolve_sym σ ≡ ok e us → parse_sym (spell_sym σ) ≡ some σ
parse_sym_spell σ e us h = parse_ok σ (sym_ok σ e us h)
