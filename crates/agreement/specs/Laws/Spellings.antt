-- The true reading of a written type is told by its tree: its text is the tree's, its table the texts of the resolved table, and it is
-- refused only where there is no room. For every spelling, references included, by induction on it.
use Rattle.std.specs.Prelude.{Bool, true, false, not, ◌&&◌, ◌||◌, ◌≡◌, refl, ℕ, suc, ◌+◌, ◌≤◌, ◌<◌, max, length}
use Rattle.std.proofs.lemmas.Bool.{false≢true}
use mathlib.Core.List.{List, [], ◌∷◌, ◌++◌, append_assoc, append-nil}
use Rattle.std.proofs.Math.Option.{some}
use Rattle.std.proofs.Common.{sym, arith, length-append, ne_eqb}
use Prim.Native.Char.{code}
use Rattle.std.proofs.Math.ListN.{get_elem?}
use Rattle.grammar.specs.Text.{Text, b, if◌then◌otherwise◌, starts, holds, digit, digit_value}
use Rattle.grammar.specs.Grammar.{⟨type⟩, ⟨template-args⟩, ⟨template-arg⟩, reading}
use Rattle.catalogue.specs.Bytes.{first, and_right}
use Rattle.catalogue.specs.Laws.Bytes.{not-true, or_left}
use Rattle.catalogue.specs.Laws.Numbers.{digit_low}
use Rattle.catalogue.specs.Tree.{Letter, Wrap, Kind, Ty, Args, letter, wrap, root, sub, app, lit, one, also, letter_code, wrap_code, kind_code, print, is_lit}
use Rattle.catalogue.specs.Tree.{is_ref, is_qual, is_class, is_bare, single, wP, wR, wO, wK, wV}
use Rattle.catalogue.specs.Spelling.{Sp, Pre, SpArgs, s_letter, s_wrap, s_ref, plain, templ, retempl, nest_sub, nest_app, s_lit, p_ref, p_root, p_sub, p_app}
use Rattle.catalogue.specs.Spelling.{s_one, s_also, spell, spell_pre, spell_args, ref_digits, name_bytes, minus}
use Rattle.catalogue.specs.Class.{name_ok, lit_ok, stands, push, push_new, Res, wrong, entry, resolve, resolve_pre, resolve_args}
use Rattle.catalogue.specs.Class as class
use Rattle.catalogue.proofs.Laws.Limits.{depth, depth_pre, depth_args}
use Rattle.catalogue.specs.Laws.WellFormed.{Wf, WfArgs, AllWf, Good, GoodPre, GoodArgs, Post, post_ok, post_if, wf_push, resolve_wf, resolve_pre_wf, resolve_args_wf}
use Rattle.agreement.specs.Laws.Letters.{every_letter}
use Rattle.agreement.specs.Laws.Verdict.{at}
use Rattle.agreement.specs.Laws.After.{After, after_ok, after_then, after_if, after_entry, after_also, Up, up}
use Rattle.agreement.specs.Laws.Heads.{opens, first_map, Follow, follow_E, follow_opens, spell_opens, args_opens, pre_heads, name_first, name_opens}
use Rattle.agreement.specs.Laws.Leaves.{starts_miss}
use Rattle.agreement.specs.Laws.Steps.{type_arg_by, not_L}
use Rattle.agreement.specs.Laws.Printed.{first_long}
use Rattle.agreement.specs.Laws.Rooms.{texts, Grown, grows_args}
use Rattle.agreement.specs.Laws.TypeNodes.{Says, SaysList, SaysItems, letter_says, wrap_says, ref_says, plain_says, templ_says, retempl_says}
use Rattle.agreement.specs.Laws.Lists.{literal_says, args_loop, one_says, also_says, list_says}
use Rattle.agreement.specs.Laws.NestedTypes.{nest_sub_says, nest_app_says}
use Rattle.agreement.specs.Laws.Nested.{SaysPre, pre_ref_says, pre_root_says, pre_sub_says, pre_app_says}

-- ---------------------------------------------------------------- a type, and the same as an argument

abbrev pub literal_sp : Sp → Bool
literal_sp (s_letter l) = false
literal_sp (s_wrap c s) = false
literal_sp (s_ref i) = false
literal_sp (plain n) = false
literal_sp (templ n ss) = false
literal_sp (retempl i ss) = false
literal_sp (nest_sub q n) = false
literal_sp (nest_app q ss) = false
literal_sp (s_lit k g v) = true

-- what is spelled x is read so where a type is asked for, unless it is a literal, and where an argument is
abbrev pub SpSays : Bool → Text → ℕ → List Ty → Text → ℕ → Ty → List Ty → Type 0
SpSays p x m us r d t vs =
    (a : List Text) (c : Text) (q : Bool)
    → (p ≡ false → Says us vs t r a d m (reading ⟨type⟩ (at x (texts us) a d c q))) × Says us vs t r a d m (reading ⟨template-arg⟩ (at x
    (texts us) a d c q))

respell : (p : Bool) (x y : Text) (m : ℕ) (us : List Ty) (r : Text) (d : ℕ) (t : Ty) (vs : List Ty) → x ≡ y → SpSays p y m us r d t vs
    → SpSays p x m us r d t vs
respell p x y m us r d t vs e h = rw e h

both : (x : Text) (m : ℕ) (us : List Ty) (r : Text) (d : ℕ) (t : Ty) (vs : List Ty) → first opens x ≡ true → first not_L x ≡ true
    → ((a : List Text) (c : Text) (q : Bool) → Says us vs t r a d m (reading ⟨type⟩ (at x (texts us) a d c q))) → SpSays false x m us r d t vs
both x m us r d t vs o l h a c q = ((λ _. h a c q), type_arg_by _ o l (h a c q))

abbrev pub SpRead : Sp → List Ty → Text → ℕ → Ty → List Ty → Type 0
SpRead s us r d t vs = SpSays (literal_sp s) (spell s ++ r) (depth s) us r d t vs

abbrev pub ItemsRead : SpArgs → List Ty → Text → ℕ → Args → List Ty → Type 0
ItemsRead ss us r d xs ws =
    (n : ℕ) (l a : List Text) (c : Text) (q : Bool) → length (spell_args ss ++ (code "E" ∷ r)) < n
    → SaysItems us ws xs l r a d (depth_args ss) (args_loop n l (at (spell_args ss ++ (code "E" ∷ r)) (texts us) a d c q))

abbrev pub PreRead : Pre → List Ty → Text → ℕ → Ty → List Ty → Type 1
PreRead p us r d t vs = (a : List Text) (c : Text) (q : Bool) → SaysPre us vs t (spell_pre p ++ r) r a d (depth_pre p) c q

repre : (us vs : List Ty) (t : Ty) (x y r : Text) (a : List Text) (d m : ℕ) (c : Text) (q : Bool) → x ≡ y → SaysPre us vs t y r a d m c q
    → SaysPre us vs t x r a d m c q
repre us vs t x y r a d m c q e h = rw e h

reitems : (us ws : List Ty) (xs : Args) (n : ℕ) (l : List Text) (x y r : Text) (a : List Text) (d m : ℕ) (c : Text) (q : Bool) → x ≡ y
    → SaysItems us ws xs l r a d m (args_loop n l (at y (texts us) a d c q)) → SaysItems us ws xs l r a d m (args_loop n l (at x (texts us) a d c q))
reitems us ws xs n l x y r a d m c q e h = rw e h

-- ---------------------------------------------------------------- the bytes with what follows them

module _ (r : Text) where
  ref_bytes_are : (i : ℕ) → spell (s_ref i) ++ r ≡ code "S" ∷ (ref_digits i ++ (code "_" ∷ r))
  unfolding spell
  ref_bytes_are i = simp append_assoc

  templ_bytes : (n : Text) (ss : SpArgs) → spell (templ n ss) ++ r ≡ name_bytes n ++ (code "I" ∷ (spell_args ss ++ (code "E" ∷ r)))
  unfolding spell
  templ_bytes n ss = simp append_assoc

  retempl_bytes : (i : ℕ) (ss : SpArgs) → spell (retempl i ss) ++ r ≡ code "S" ∷ (ref_digits i ++ (code "_" ∷ code "I" ∷ (spell_args ss ++
      (code "E" ∷ r))))
  unfolding spell
  retempl_bytes i ss = simp append_assoc

  sub_bytes : (p : Pre) (n : Text) → spell (nest_sub p n) ++ r ≡ code "N" ∷ (spell_pre p ++ (name_bytes n ++ (code "E" ∷ r)))
  unfolding spell
  sub_bytes p n = simp append_assoc

  app_bytes : (p : Pre) (ss : SpArgs) → spell (nest_app p ss) ++ r ≡ code "N" ∷ (spell_pre p ++ (code "I" ∷ (spell_args ss ++
      (code "E" ∷ code "E" ∷ r))))
  unfolding spell
  app_bytes p ss = simp append_assoc

  lit_bytes_are : (k : Kind) (s : Bool) (v : Text) → spell (s_lit k s v) ++ r ≡ code "L" ∷ kind_code k ∷ (minus s ++ (v ++ (code "E" ∷ r)))
  unfolding spell
  lit_bytes_are k s v = simp append_assoc

  pre_ref_bytes : (i : ℕ) → spell_pre (p_ref i) ++ r ≡ code "S" ∷ (ref_digits i ++ (code "_" ∷ r))
  unfolding spell
  pre_ref_bytes i = simp append_assoc

  pre_sub_bytes : (p : Pre) (n : Text) → spell_pre (p_sub p n) ++ r ≡ spell_pre p ++ (name_bytes n ++ r)
  unfolding spell
  pre_sub_bytes p n = simp append_assoc

  pre_app_bytes : (p : Pre) (ss : SpArgs) → spell_pre (p_app p ss) ++ r ≡ spell_pre p ++ (code "I" ∷ (spell_args ss ++ (code "E" ∷ r)))
  unfolding spell
  pre_app_bytes p ss = simp append_assoc

-- ---------------------------------------------------------------- what a spelling tells of its tree

-- only a literal resolves to one, of what stands where a type may
stands_type : (w : Wrap) (t : Ty) → stands w t ≡ true → is_lit t ≡ false
unfolding stands
stands_type wP t h = not-true (is_lit t) h
stands_type wR t h = or_left (is_lit t) (is_ref t) (not-true (is_lit t || is_ref t) h)
stands_type wO t h = or_left (is_lit t) (is_ref t) (not-true (is_lit t || is_ref t) h)
stands_type wK t h = or_left (is_lit t) (is_qual t) (not-true (is_lit t || is_qual t) h)
stands_type wV t h = or_left (is_lit t) (is_qual t) (not-true (is_lit t || is_qual t) h)

post_any : {A : Type 0} (P : A → List Ty → Type 0) (r : Res A) → ((x : A) (us : List Ty) → P x us) → Post r P
unfolding Post
post_any P (class.ok x us) h = h x us
post_any P wrong h = tt

abbrev pub TypeIsNoLiteral : Sp → Ty → List Ty → Type 0
TypeIsNoLiteral s t vs = is_lit t ≡ false → literal_sp s ≡ false

pub no_literal : (s : Sp) (us : List Ty) → Post (resolve s us) (TypeIsNoLiteral s)
unfolding resolve
no_literal (s_letter l) us = post_any _ _ (λ t vs e. refl)
no_literal (s_wrap w s) us = post_any _ _ (λ t vs e. refl)
no_literal (s_ref i) us = post_any _ _ (λ t vs e. refl)
no_literal (plain n) us = post_any _ _ (λ t vs e. refl)
no_literal (templ n ss) us = post_any _ _ (λ t vs e. refl)
no_literal (retempl i ss) us = post_any _ _ (λ t vs e. refl)
no_literal (nest_sub p n) us = post_any _ _ (λ t vs e. refl)
no_literal (nest_app p ss) us = post_any _ _ (λ t vs e. refl)
no_literal (s_lit k g v) us = post_if (TypeIsNoLiteral (s_lit k g v)) (lit_ok k g v) _ (λ o. post_ok _ _ (TypeIsNoLiteral (s_lit k g v)) (λ e. e))

-- ---------------------------------------------------------------- the productions

name_not_L : (n r : Text) → first not_L (name_bytes n ++ r) ≡ true
name_not_L n r = first_map (digit 10) not_L digit_not_L (name_bytes n ++ r) (name_first n r)
  where
    digit_not_L : (x : ℕ) → digit 10 x ≡ true → not_L x ≡ true
    digit_not_L x h = let k = digit_low x h in let k1 = k.1 in rw (ne_eqb x 76 (λ e. omega arith))

letter_not_L : (l : Letter) (r : Text) → first not_L (letter_code l ∷ r) ≡ true
letter_not_L l r = every_letter (λ x. first not_L
    (letter_code x ∷ r) ≡ true) refl refl refl refl refl refl refl refl refl refl refl refl refl refl refl refl refl refl refl refl refl l

wrap_not_L : (w : Wrap) (r : Text) → first not_L (wrap_code w ∷ r) ≡ true
wrap_not_L wP r = refl
wrap_not_L wR r = refl
wrap_not_L wO r = refl
wrap_not_L wK r = refl
wrap_not_L wV r = refl

letter_read : (l : Letter) (us : List Ty) (r : Text) (d : ℕ) → SpRead (s_letter l) us r d (letter l) us
unfolding spell depth
letter_read l us r d = both (letter_code l ∷ r) 1 us r d (letter l) us (spell_opens (s_letter l) r) (letter_not_L l r)
    (λ a c q. letter_says l us r a d c q)

wrap_read : (w : Wrap) (s : Sp) (us : List Ty) (r : Text) (d : ℕ) (t : Ty) (vs : List Ty) → Wf t → literal_sp s ≡ false → SpRead s us r (d + 1) t vs
    → SpRead (s_wrap w s) us r d (wrap w t) (push (wrap w t) vs)
unfolding spell depth
wrap_read w s us r d t vs f e h =
    both (wrap_code w ∷ (spell s ++ r)) (suc (depth s)) us r d (wrap w t) _ (spell_opens (s_wrap w s) r) (wrap_not_L w (spell s ++ r))
    (λ a c q. wrap_says w t us vs (spell s ++ r) r a d (depth s) c q f ((h a c q).0 e))

ref_read : (i : ℕ) (us : List Ty) (r : Text) (d : ℕ) (t : Ty) → Follow r → get_elem? us i ≡ some t → SpRead (s_ref i) us r d t us
unfolding depth opens holds b
ref_read i us r d t f e =
    respell false _ _ 1 us r d t us (ref_bytes_are r i)
    (both (code "S" ∷ (ref_digits i ++ (code "_" ∷ r))) 1 us r d t us refl refl (λ a c q. ref_says i t us r a d c q e f))

plain_read : (n : Text) (us : List Ty) (r : Text) (d : ℕ) → Follow r → name_ok n ≡ true → SpRead (plain n) us r d (root n) (push (root n) us)
unfolding spell depth
plain_read n us r d f e =
    both (name_bytes n ++ r) 1 us r d (root n) _ (spell_opens (plain n) r) (name_not_L n r) (λ a c q. plain_says n us r a d c q e f)

-- a list of arguments, from its items
list_read : (ss : SpArgs) (us : List Ty) (r : Text) (d : ℕ) (xs : Args) (ws : List Ty) → WfArgs xs → ItemsRead ss us r (d + 1) xs ws
    → (a : List Text) (c : Text) (q : Bool)
    → SaysList us ws xs r a d (depth_args ss) (reading ⟨template-args⟩ (at (code "I" ∷ (spell_args ss ++ (code "E" ∷ r))) (texts us) a d c q))
list_read ss us r d xs ws f h a c q = list_says xs us ws _ r a d (depth_args ss) c q f (h _ [] a c q (omega arith))

templ_read : (n : Text) (ss : SpArgs) (us : List Ty) (r : Text) (d : ℕ) (xs : Args) (ws : List Ty) → name_ok n ≡ true → WfArgs xs
    → Grown (push (root n) us) ws
    → ItemsRead ss (push (root n) us) r (d + 1 + 1) xs ws → SpRead (templ n ss) us r d (app (root n) xs) (push (app (root n) xs) ws)
unfolding depth
templ_read n ss us r d xs ws e f gr h =
    respell false _ _ (suc (suc (depth_args ss))) us r d (app (root n) xs) _ (templ_bytes r n ss)
    (both (name_bytes n ++ (code "I" ∷ (spell_args ss ++ (code "E" ∷ r)))) (suc (suc (depth_args ss))) us r d (app (root n) xs) _
    (name_opens n (code "I" ∷ (spell_args ss ++ (code "E" ∷ r)))) (name_not_L n (code "I" ∷ (spell_args ss ++ (code "E" ∷ r))))
    (λ a c q. templ_says n xs us ws _ r a d (depth_args ss) c q e gr (list_read ss (push (root n) us) r (d + 1) xs ws f h a c q)))

retempl_read : (i : ℕ) (ss : SpArgs) (us : List Ty) (r : Text) (d : ℕ) (t : Ty) (xs : Args) (ws : List Ty) → get_elem? us i ≡ some t
    → WfArgs xs → Grown us ws
    → ItemsRead ss us r (d + 1 + 1) xs ws → SpRead (retempl i ss) us r d (app t xs) (push (app t xs) ws)
unfolding depth opens holds b
retempl_read i ss us r d t xs ws e f gr h =
    respell false _ _ (suc (suc (depth_args ss))) us r d (app t xs) _ (retempl_bytes r i ss)
    (both (code "S" ∷ (ref_digits i ++ (code "_" ∷ code "I" ∷ (spell_args ss ++ (code "E" ∷ r))))) (suc (suc (depth_args ss))) us r d
    (app t xs) _ refl refl
    (λ a c q. retempl_says i t xs us ws _ r a d (depth_args ss) c q e gr (list_read ss us r (d + 1) xs ws f h a c q)))

sub_read : (p : Pre) (n : Text) (us : List Ty) (r : Text) (d : ℕ) (t : Ty) (vs : List Ty) → Wf (sub t n) → AllWf vs
    → PreRead p us (name_bytes n ++ (code "E" ∷ r)) (d + 1) t vs → SpRead (nest_sub p n) us r d (sub t n) (push_new (sub t n) vs)
unfolding depth opens holds b
sub_read p n us r d t vs f g h =
    respell false _ _ (suc (depth_pre p)) us r d (sub t n) _ (sub_bytes r p n)
    (both (code "N" ∷ (spell_pre p ++ (name_bytes n ++ (code "E" ∷ r)))) (suc (depth_pre p)) us r d (sub t n) _ refl refl
    (λ a c q. nest_sub_says n t us vs _ r a d (depth_pre p) c q f g (pre_heads p _) (h a c q)))

app_read : (p : Pre) (ss : SpArgs) (us : List Ty) (r : Text) (d : ℕ) (t : Ty) (vs : List Ty) (xs : Args) (ws : List Ty) → Wf (app t xs)
    → AllWf ws → Grown vs ws
    → PreRead p us (code "I" ∷ (spell_args ss ++ (code "E" ∷ code "E" ∷ r))) (d + 1) t vs → ItemsRead ss vs (code "E" ∷ r) (d + 1 + 1) xs ws
    → SpRead (nest_app p ss) us r d (app t xs) (push (app t xs) ws)
unfolding depth opens holds b
app_read p ss us r d t vs xs ws f g gr h i =
    let len : 0 < length (spell_args ss ++ (code "E" ∷ code "E" ∷ r)) = rw (length-append (spell_args ss) (code "E" ∷ code "E" ∷ r)) (omega arith) in
    respell false _ _ (suc (max (depth_pre p) (suc (depth_args ss)))) us r d (app t xs) _ (app_bytes r p ss)
    (both (code "N" ∷ (spell_pre p ++ (code "I" ∷ (spell_args ss ++ (code "E" ∷ code "E" ∷ r))))) (suc (max (depth_pre p) (suc
    (depth_args ss)))) us r d (app t xs) _ refl refl
    (λ a c q. nest_app_says t xs us vs ws _ _ r a d (depth_pre p) (depth_args ss) c q f (wf_push (app t xs) ws f g) (pre_heads p _) len gr (h a c q)
    (λ c' z. list_read ss vs (code "E" ∷ r) (d + 1) xs ws f.2 i [] c' z)))

lit_read : (k : Kind) (s : Bool) (v : Text) (us : List Ty) (r : Text) (d : ℕ) → lit_ok k s v ≡ true → SpRead (s_lit k s v) us r d (lit k s v) us
unfolding depth
lit_read k s v us r d h =
    respell true _ _ 1 us r d (lit k s v) us (lit_bytes_are r k s v)
    (λ a c q. ((λ e. absurd (false≢true (sym e))), literal_says k s v us r a d c q h))

-- ---------------------------------------------------------------- the induction

pub name_tag : (n r : Text) → starts (name_bytes n ++ r) (b "B") ≡ false
unfolding digit digit_value if◌then◌otherwise◌ b
name_tag n r = starts_miss (digit 10) (name_bytes n ++ r) (b "B") (name_first n r) refl

pub name_more : (n r : Text) → starts (name_bytes n ++ r) (b "E") ≡ false
unfolding digit digit_value if◌then◌otherwise◌ b
name_more n r = starts_miss (digit 10) (name_bytes n ++ r) (b "E") (name_first n r) refl

I_tag : (t : Text) → starts (code "I" ∷ t) (b "B") ≡ false
unfolding starts b
I_tag t = refl

I_more : (t : Text) → starts (code "I" ∷ t) (b "E") ≡ false
unfolding starts b
I_more t = refl

pub args_bytes : (s : Sp) (ss : SpArgs) (r : Text) → spell_args (s_also s ss) ++ r ≡ spell s ++ (spell_args ss ++ r)
unfolding spell
args_bytes s ss r = append_assoc (spell s) (spell_args ss) r

pub spell_some : (s : Sp) → 1 ≤ length (spell s)
spell_some s = first_long opens (spell s) (rw (append-nil (spell s)) at (spell_opens s []))

ref_pre : (i : ℕ) (us : List Ty) (r : Text) (d : ℕ) (t : Ty) → get_elem? us i ≡ some t → PreRead (p_ref i) us r d t us
unfolding depth
ref_pre i us r d t e a c q = repre us us t _ _ r a d 0 c q (pre_ref_bytes r i) (pre_ref_says i t us r a d c q e)

root_pre : (n : Text) (us : List Ty) (r : Text) (d : ℕ) → name_ok n ≡ true → starts r (b "B") ≡ false → starts r (b "E") ≡ false
    → PreRead (p_root n) us r d (root n) (push (root n) us)
unfolding depth spell
root_pre n us r d e tag more a c q = pre_root_says n us r a d c q e tag more

sub_pre : (p : Pre) (n : Text) (us : List Ty) (r : Text) (d : ℕ) (t : Ty) (vs : List Ty) → name_ok n ≡ true → starts r (b "B") ≡ false
    → starts r (b "E") ≡ false
    → PreRead p us (name_bytes n ++ r) d t vs → PreRead (p_sub p n) us r d (sub t n) (push (sub t n) vs)
unfolding depth
sub_pre p n us r d t vs e tag more h a c q =
    repre us _ (sub t n) _ _ r a d (depth_pre p) c q (pre_sub_bytes r p n) (pre_sub_says n t us vs _ r a d (depth_pre p) c q e tag more (h a c q))

app_pre : (p : Pre) (ss : SpArgs) (us : List Ty) (r : Text) (d : ℕ) (t : Ty) (vs : List Ty) (xs : Args) (ws : List Ty) → starts r (b "E") ≡ false
    → WfArgs xs → Grown vs ws → PreRead p us (code "I" ∷ (spell_args ss ++ (code "E" ∷ r))) d t vs → ItemsRead ss vs r (d + 1) xs ws
    → PreRead (p_app p ss) us r d (app t xs) (push (app t xs) ws)
unfolding depth
app_pre p ss us r d t vs xs ws more f gr h i a c q =
    let len : length r < length (spell_args ss ++ (code "E" ∷ r)) = rw (length-append (spell_args ss) (code "E" ∷ r)) (omega arith) in
    repre us _ (app t xs) _ _ r a d (max (depth_pre p) (suc (depth_args ss))) c q (pre_app_bytes r p ss)
    (pre_app_says t xs us vs ws _ _ r a d (depth_pre p) (depth_args ss) c q more len gr (h a c q) (λ c' z. list_read ss vs r d xs ws f i [] c' z))

one_items : (s : Sp) (us : List Ty) (r : Text) (d : ℕ) (t : Ty) (vs : List Ty) → SpRead s us (code "E" ∷ r) d t vs
    → ItemsRead (s_one s) us r d (one t) vs
unfolding depth spell
one_items s us r d t vs h n l a c q len =
    let k : 1 ≤ length (spell s ++ (code "E" ∷ r)) = rw (length-append (spell s) (code "E" ∷ r)) (omega arith) in
    one_says t us vs l _ r n a d (depth s) c q (spell_opens s (code "E" ∷ r)) (omega arith) (h a c q).1

also_items : (s : Sp) (ss : SpArgs) (us : List Ty) (r : Text) (d : ℕ) (t : Ty) (vs : List Ty) (xs : Args) (ws : List Ty) → Grown vs ws
    → SpRead s us (spell_args ss ++ (code "E" ∷ r)) d t vs → ItemsRead ss vs r d xs ws → ItemsRead (s_also s ss) us r d (also t xs) ws
unfolding depth
also_items s ss us r d t vs xs ws gr h i n l a c q len =
    let e = args_bytes s ss (code "E" ∷ r) in
    let len' : length (spell s ++ (spell_args ss ++ (code "E" ∷ r))) < n = rw e at len in
    let k = spell_some s in
    let j = length-append (spell s) (spell_args ss ++ (code "E" ∷ r)) in
    reitems us ws (also t xs) n l _ _ r a d (max (depth s) (depth_args ss)) c q e
    (also_says t xs us vs ws l _ _ r n a d (depth s) (depth_args ss) c q (spell_opens s (spell_args ss ++ (code "E" ∷ r))) (omega arith) gr (h a c q).1
    (λ n' u c' q' z. i n' (l ++ (print t ∷ [])) u c' q' z))

-- one universe for all three, since the leading parts speak of every loop that goes on from them
abbrev pub SpUp : Sp → List Ty → Text → ℕ → Ty → List Ty → Type 1
SpUp s us r d t vs = Up (SpRead s us r d t vs)

abbrev pub ItemsUp : SpArgs → List Ty → Text → ℕ → Args → List Ty → Type 1
ItemsUp ss us r d xs ws = Up (ItemsRead ss us r d xs ws)

mutual
  unfolding resolve

  pub reads_sp : (s : Sp) (us : List Ty) → AllWf us → (r : Text) → Follow r → (d : ℕ) → After (resolve s us) (SpUp s us r d)
  reads_sp (s_letter l) us w r f d = after_ok _ _ (SpUp (s_letter l) us r d) (up (letter_read l us r d))
  reads_sp (s_wrap v s) us w r f d =
      after_then _ (SpUp (s_wrap v s) us r d) (resolve s us) _
      (after_also Good _ (resolve s us) (resolve_wf s us w) (after_also (TypeIsNoLiteral s) _ (resolve s us) (no_literal s us)
      (reads_sp s us w r f (d + 1))))
      (λ t vs k. after_if _ (stands v t) _ (λ e.
      after_ok _ _ (SpUp (s_wrap v s) us r d) (up (wrap_read v s us r d t vs k.0.0 (k.1.0 (stands_type v t e)) k.1.1.down))))
  reads_sp (s_ref i) us w r f d = after_entry _ (get_elem? us i) us (λ t e. up (ref_read i us r d t f e))
  reads_sp (plain n) us w r f d = after_if _ (name_ok n) _ (λ e. after_ok _ _ (SpUp (plain n) us r d) (up (plain_read n us r d f e)))
  reads_sp (templ n ss) us w r f d =
      after_if _ (name_ok n) _ (λ e.
      after_then _ (SpUp (templ n ss) us r d) (resolve_args ss (push (root n) us)) _
      (after_also GoodArgs _ _ (resolve_args_wf ss (push (root n) us) (wf_push (root n) us e w))
      (after_also _ _ _ (grows_args ss (push (root n) us)) (reads_items ss (push (root n) us) (wf_push (root n) us e w) r (d + 1 + 1))))
      (λ xs ws k. after_ok _ _ (SpUp (templ n ss) us r d) (up (templ_read n ss us r d xs ws e k.0.0 k.1.0 k.1.1.down))))
  reads_sp (retempl i ss) us w r f d =
      after_then (λ t vs. (get_elem? us i ≡ some t) × (vs ≡ us)) (SpUp (retempl i ss) us r d) (entry (get_elem? us i) us) _
      (after_entry _ (get_elem? us i) us (λ t e. (e, refl)))
      (λ t vs k. after_if _ (single t && is_bare t) _ (λ e. rw k.1
      (after_then _ (SpUp (retempl i ss) us r d) (resolve_args ss us) _
      (after_also GoodArgs _ _ (resolve_args_wf ss us w) (after_also _ _ _ (grows_args ss us) (reads_items ss us w r (d + 1 + 1))))
      (λ xs ws j. after_ok _ _ (SpUp (retempl i ss) us r d) (up (retempl_read i ss us r d t xs ws k.0 j.0.0 j.1.0 j.1.1.down))))))
  reads_sp (nest_sub p n) us w r f d =
      after_then _ (SpUp (nest_sub p n) us r d) (resolve_pre p us) _
      (after_also GoodPre _ (resolve_pre p us) (resolve_pre_wf p us w)
      (reads_pre p us w (name_bytes n ++ (code "E" ∷ r)) (name_tag n (code "E" ∷ r)) (name_more n (code "E" ∷ r)) (d + 1)))
      (λ t vs k. after_if _ (name_ok n) _ (λ e.
      after_ok _ _ (SpUp (nest_sub p n) us r d) (up (sub_read p n us r d t vs (k.0.0, k.0.1, e) k.0.2 k.1))))
  reads_sp (nest_app p ss) us w r f d =
      after_then _ (SpUp (nest_app p ss) us r d) (resolve_pre p us) _
      (after_also GoodPre _ (resolve_pre p us) (resolve_pre_wf p us w)
      (reads_pre p us w (code "I" ∷ (spell_args ss ++ (code "E" ∷ code "E" ∷ r))) (I_tag _) (I_more _) (d + 1)))
      (λ t vs k. after_if _ (not (single t) && is_bare t) _ (λ e.
      after_then _ (SpUp (nest_app p ss) us r d) (resolve_args ss vs) _
      (after_also GoodArgs _ _ (resolve_args_wf ss vs k.0.2) (after_also _ _ _ (grows_args ss vs) (reads_items ss vs k.0.2
      (code "E" ∷ r) (d + 1 + 1))))
      (λ xs ws j. after_ok _ _ (SpUp (nest_app p ss) us r d)
      (up (app_read p ss us r d t vs xs ws (k.0.0, and_right (not (single t)) (is_bare t) e, j.0.0) j.0.1 j.1.0 k.1 j.1.1.down)))))
  reads_sp (s_lit k s v) us w r f d = after_if _ (lit_ok k s v) _ (λ e. after_ok _ _ (SpUp (s_lit k s v) us r d) (up (lit_read k s v us r d e)))

  pub reads_pre : (p : Pre) (us : List Ty) → AllWf us → (r : Text) → starts r (b "B") ≡ false → starts r (b "E") ≡ false → (d : ℕ)
      → After (resolve_pre p us) (PreRead p us r d)
  reads_pre (p_ref i) us w r tag more d =
      after_then (PreRead (p_ref i) us r d) (PreRead (p_ref i) us r d) (entry (get_elem? us i) us) _
      (after_entry _ (get_elem? us i) us (λ t e. ref_pre i us r d t e))
      (λ t vs k. after_if _ (is_class t) _ (λ e. after_ok _ _ (PreRead (p_ref i) us r d) k))
  reads_pre (p_root n) us w r tag more d = after_if _ (name_ok n) _ (λ e. after_ok _ _ (PreRead (p_root n) us r d) (root_pre n us r d e tag more))
  reads_pre (p_sub p n) us w r tag more d =
      after_then _ (PreRead (p_sub p n) us r d) (resolve_pre p us) _ (reads_pre p us w (name_bytes n ++ r) (name_tag n r) (name_more n r) d)
      (λ t vs k. after_if _ (name_ok n) _ (λ e. after_ok _ _ (PreRead (p_sub p n) us r d) (sub_pre p n us r d t vs e tag more k)))
  reads_pre (p_app p ss) us w r tag more d =
      after_then _ (PreRead (p_app p ss) us r d) (resolve_pre p us) _
      (after_also GoodPre _ (resolve_pre p us) (resolve_pre_wf p us w) (reads_pre p us w (code "I" ∷ (spell_args ss ++ (code "E" ∷ r)))
      (I_tag _) (I_more _) d))
      (λ t vs k. after_if _ (is_bare t) _ (λ e.
      after_then _ (PreRead (p_app p ss) us r d) (resolve_args ss vs) _
      (after_also GoodArgs _ _ (resolve_args_wf ss vs k.0.2) (after_also _ _ _ (grows_args ss vs) (reads_items ss vs k.0.2 r (d + 1))))
      (λ xs ws j. after_ok _ _ (PreRead (p_app p ss) us r d) (app_pre p ss us r d t vs xs ws more j.0.0 j.1.0 k.1 j.1.1.down))))

  pub reads_items : (ss : SpArgs) (us : List Ty) → AllWf us → (r : Text) (d : ℕ) → After (resolve_args ss us) (ItemsUp ss us r d)
  reads_items (s_one s) us w r d =
      after_then _ (ItemsUp (s_one s) us r d) (resolve s us) _ (reads_sp s us w (code "E" ∷ r) (follow_E r) d)
      (λ t vs k. after_ok _ _ (ItemsUp (s_one s) us r d) (up (one_items s us r d t vs k.down)))
  reads_items (s_also s ss) us w r d =
      after_then _ (ItemsUp (s_also s ss) us r d) (resolve s us) _
      (after_also Good _ (resolve s us) (resolve_wf s us w)
      (reads_sp s us w (spell_args ss ++ (code "E" ∷ r)) (follow_opens (spell_args ss ++ (code "E" ∷ r)) (args_opens ss (code "E" ∷ r))) d))
      (λ t vs k. after_then _ (ItemsUp (s_also s ss) us r d) (resolve_args ss vs) _
      (after_also _ _ _ (grows_args ss vs) (reads_items ss vs k.0.1 r d))
      (λ xs ws j. after_ok _ _ (ItemsUp (s_also s ss) us r d) (up (also_items s ss us r d t vs xs ws j.0 k.1.down j.1.down))))
