-- The normal symbol of document 01: "write the reading from left to right, references resolved, keeping the Rust's table of what
-- is written so far". What is written and the table after it are two functions.
use Rattle.std.specs.Prelude.{Bool, true, false, List, [], ◌∷◌, ℕ, suc}
use Rattle.std.proofs.Math.Option.{Option, none, some}
use Rattle.grammar.specs.Text.{Text, if◌then◌otherwise◌}
use Rattle.catalogue.specs.Tree.{Ty, Args, Enc, letter, wrap, root, sub, app, lit, one, also, enc, same_ty, single}
use Rattle.catalogue.specs.Spelling.{Sp, Pre, SpArgs, SpName, Sym, s_letter, s_wrap, s_ref, plain, templ, retempl, nest_sub, nest_app, s_lit, p_ref}
use Rattle.catalogue.specs.Spelling.{p_root, p_sub, p_app, s_one, s_also, flat, scoped, symbol, spell_sym}
use Rattle.catalogue.specs.Class.{push, push_new, Catalogue}

-- ---------------------------------------------------------------- the place of an entry

abbrev pub later : Option ℕ → Option ℕ
later none = none
later (some i) = some (suc i)

-- the number of the first entry that is the tree
unfoldable pub seek : Ty → List Ty → Option ℕ
seek t [] = none
seek t (u ∷ us) = if same_ty t u then some 0 otherwise later (seek t us)

-- ---------------------------------------------------------------- the table after a tree is written

abbrev pub known : Option ℕ → List Ty → List Ty → List Ty
known none us vs = vs
known (some i) us vs = us

unfoldable mutual
  unfolding known

  pub after : Ty → List Ty → List Ty
  after (letter l) us = us
  after (wrap c t) us = known (seek (wrap c t) us) us (push (wrap c t) (after t us))
  after (root n) us = known (seek (root n) us) us (push (root n) us)
  after (sub t n) us = known (seek (sub t n) us) us (push_new (sub t n) (after_pre t us))
  after (app t xs) us = known (seek (app t xs) us) us (push (app t xs) (after_args xs (after_pre t us)))
  after (lit k g v) us = us

  -- as leading parts
  pub after_pre : Ty → List Ty → List Ty
  after_pre (letter l) us = us
  after_pre (wrap c t) us = us
  after_pre (root n) us = known (seek (root n) us) us (push (root n) us)
  after_pre (sub t n) us = known (seek (sub t n) us) us (push (sub t n) (after_pre t us))
  after_pre (app t xs) us = known (seek (app t xs) us) us (push (app t xs) (after_args xs (after_pre t us)))
  after_pre (lit k g v) us = us

  pub after_args : Args → List Ty → List Ty
  after_args (one t) us = after t us
  after_args (also t xs) us = after_args xs (after t us)

-- ---------------------------------------------------------------- the normal spelling

-- "A type already in the table is written as its reference."
abbrev pub ref_or : Option ℕ → Sp → Sp
ref_or none s = s
ref_or (some i) s = s_ref i

abbrev pub pre_or : Option ℕ → Pre → Pre
pre_or none q = q
pre_or (some i) q = p_ref i

-- "One part stands without `N`, two or more with it."
abbrev pub templ_of : Bool → Pre → SpArgs → Sp
templ_of true (p_ref i) ss = retempl i ss
templ_of true (p_root n) ss = templ n ss
templ_of true (p_sub q n) ss = nest_app (p_sub q n) ss
templ_of true (p_app q xs) ss = nest_app (p_app q xs) ss
templ_of false q ss = nest_app q ss

unfoldable mutual
  pub normal : Ty → List Ty → Sp
  normal (letter l) us = s_letter l
  normal (wrap c t) us = ref_or (seek (wrap c t) us) (s_wrap c (normal t us))
  normal (root n) us = ref_or (seek (root n) us) (plain n)
  normal (sub t n) us = ref_or (seek (sub t n) us) (nest_sub (normal_pre t us) n)
  normal (app t xs) us = ref_or (seek (app t xs) us) (templ_of (single t) (normal_pre t us) (normal_args xs (after_pre t us)))
  normal (lit k g v) us = s_lit k g v

  -- "Of a class, the longest leading stretch already in the table is written as a reference, a part without its arguments
  -- counting as a stretch." A letter, a wrapped type or a literal never stands here.
  pub normal_pre : Ty → List Ty → Pre
  normal_pre (letter l) us = p_ref 0
  normal_pre (wrap c t) us = p_ref 0
  normal_pre (root n) us = pre_or (seek (root n) us) (p_root n)
  normal_pre (sub t n) us = pre_or (seek (sub t n) us) (p_sub (normal_pre t us) n)
  normal_pre (app t xs) us = pre_or (seek (app t xs) us) (p_app (normal_pre t us) (normal_args xs (after_pre t us)))
  normal_pre (lit k g v) us = p_ref 0

  pub normal_args : Args → List Ty → SpArgs
  normal_args (one t) us = s_one (normal t us)
  normal_args (also t xs) us = s_also (normal t us) (normal_args xs (after t us))

-- ---------------------------------------------------------------- whole symbols

abbrev pub normal_params : Option Args → List Ty → Option SpArgs
normal_params none us = none
normal_params (some xs) us = some (normal_args xs us)

abbrev pub after_params : Option Args → List Ty → List Ty
after_params none us = us
after_params (some xs) us = after_args xs us

-- a function's name is `root` or `sub`; its last part makes no entry
abbrev pub normal_name : Bool → Ty → SpName
normal_name c (letter l) = flat []
normal_name c (wrap d t) = flat []
normal_name c (root n) = flat n
normal_name c (sub t n) = scoped c (normal_pre t []) n
normal_name c (app t xs) = flat []
normal_name c (lit k g v) = flat []

abbrev pub after_name : Ty → List Ty
after_name (letter l) = []
after_name (wrap d t) = []
after_name (root n) = []
after_name (sub t n) = after_pre t []
after_name (app t xs) = []
after_name (lit k g v) = []

unfoldable pub normal_sym : Enc → Sym
normal_sym (enc c t ps) = symbol (normal_name c t) (normal_params ps (after_name t))

unfoldable pub after_sym : Enc → List Ty
after_sym (enc c t ps) = after_params ps (after_name t)

-- the normal symbol of a tree (document 01), however long
unfoldable pub write : Enc → Text
write e = spell_sym (normal_sym e)

-- the normal symbol of a catalogue symbol
abbrev pub normal_of : {s : Text} → Catalogue s → Text
normal_of c = write c.tree
