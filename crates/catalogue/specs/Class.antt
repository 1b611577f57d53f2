-- The class of document 01, "Added: catalogue symbols", whose rules are quoted where they are tested. A written symbol is resolved
-- from left to right, with the table kept as the Rust keeps it; a text is a catalogue symbol if a written symbol that keeps all
-- the rules spells it. That parts, arguments and types stand where they may is the shape of Spelling.antt; that lengths and
-- references have no leading zeros is how that writes them.
use Rattle.std.specs.Prelude.{Bool, true, false, not, ◌&&◌, ◌||◌, List, [], ◌∷◌, ◌++◌, ◌≡◌, ℕ, suc, ◌+◌, eqb, leb}
use Rattle.std.proofs.Math.Option.{Option, none, some}
use Prim.Native.Char.{code}
use Prim.Native.String.{String}
use Rattle.std.proofs.Math.ListN.{get_elem?}
use Rattle.grammar.specs.Text.{Text, b, if◌then◌otherwise◌, same, digit}
use Rattle.catalogue.specs.Bytes.{all, first}
use Rattle.catalogue.specs.Tree.{Wrap, Kind, Ty, Args, Enc, wP, wR, wO, wK, wV, kb, ki, kj, kl, km, letter, wrap, root, sub, app, lit, one, also, enc}
use Rattle.catalogue.specs.Tree.{same_ty, is_lit, is_class, is_bare, single, is_ref, is_qual}
use Rattle.catalogue.specs.Spelling.{Sp, Pre, SpArgs, SpName, Sym, s_letter, s_wrap, s_ref, plain, templ, retempl, nest_sub, nest_app, s_lit, p_ref}
use Rattle.catalogue.specs.Spelling.{p_root, p_sub, p_app, s_one, s_also, flat, scoped, symbol, spell_sym}

-- ---------------------------------------------------------------- source names and values

-- "bytes are letters, digits, `_`"
unfoldable pub word_byte : ℕ → Bool
word_byte c = digit 36 c || eqb c (code "_")

-- "No source name is void, wchar_t, .., true or false."
unfoldable pub reserved : List String
reserved =
    "void"
    ∷ "wchar_t"
    ∷ "bool"
    ∷ "char"
    ∷ "short"
    ∷ "int"
    ∷ "long"
    ∷ "__int128"
    ∷ "float"
    ∷ "double"
    ∷ "__float128"
    ∷ "true"
    ∷ "false"
    ∷ []

unfoldable pub listed : Text → List String → Bool
listed n [] = false
listed n (w ∷ ws) = same n (b w) || listed n ws

-- "In every source name, a lone function name too, bytes are letters, digits, `_`; the first is no digit"
unfoldable pub name_ok : Text → Bool
name_ok [] = false
name_ok (c ∷ n) = not (digit 10 c) && (all word_byte (c ∷ n) && not (listed (c ∷ n) reserved))

abbrev pub leading_zero : Text → Bool
leading_zero [] = false
leading_zero (c ∷ []) = false
leading_zero (c ∷ d ∷ v) = eqb c (code "0")

-- "decimal without leading zeros"
unfoldable pub numeral : Text → Bool
numeral v = first (digit 10) v && (all (digit 10) v && not (leading_zero v))

-- "Values of b are 0 and 1. The others are decimal without leading zeros, `n` for minus, never n0; j and m have no minus."
unfoldable pub lit_ok : Kind → Bool → Text → Bool
lit_ok kb g v = not g && (same v (b "0") || same v (b "1"))
lit_ok ki g v = numeral v && not (g && same v (b "0"))
lit_ok kj g v = not g && numeral v
lit_ok kl g v = numeral v && not (g && same v (b "0"))
lit_ok km g v = not g && numeral v

-- ---------------------------------------------------------------- types

-- "P, R, O, K or V before a type": no literal. "R and O never stand directly on R or O, nor K and V on K or V"
unfoldable pub stands : Wrap → Ty → Bool
stands wP t = not (is_lit t)
stands wR t = not (is_lit t || is_ref t)
stands wO t = not (is_lit t || is_ref t)
stands wK t = not (is_lit t || is_qual t)
stands wV t = not (is_lit t || is_qual t)

-- "one or more types": no literals
abbrev pub all_types : Args → Bool
all_types (one t) = not (is_lit t)
all_types (also t xs) = not (is_lit t) && all_types xs

-- ---------------------------------------------------------------- the table

abbrev pub push : Ty → List Ty → List Ty
push t us = us ++ (t ∷ [])

unfoldable pub last_is : Ty → List Ty → Bool
last_is t [] = false
last_is t (u ∷ []) = same_ty t u
last_is t (u ∷ v ∷ us) = last_is t (v ∷ us)

-- a nested type is entered only where the newest entry is another (the grammar's `nested_type`)
unfoldable pub push_new : Ty → List Ty → List Ty
push_new t us = if last_is t us then us otherwise push t us

-- ---------------------------------------------------------------- what a spelling resolves to

-- a value and the table after it; or a rule is broken
pub data Res (A : Type 0) : Type 0 where
  ok : A → List Ty → Res A
  wrong : Res A

abbrev pub and_then : {A B : Type 0} → Res A → (A → List Ty → Res B) → Res B
and_then (ok x us) f = f x us
and_then wrong f = wrong

abbrev pub provided : {A : Type 0} → Bool → Res A → Res A
provided true r = r
provided false r = wrong

abbrev pub entry : Option Ty → List Ty → Res Ty
entry none us = wrong
entry (some t) us = ok t us

unfoldable mutual
  pub resolve : Sp → List Ty → Res Ty
  resolve (s_letter l) us = ok (letter l) us
  resolve (s_wrap c s) us = and_then (resolve s us) (λ t vs. provided (stands c t) (ok (wrap c t) (push (wrap c t) vs)))
  resolve (s_ref i) us = entry (get_elem? us i) us
  resolve (plain n) us = provided (name_ok n) (ok (root n) (push (root n) us))
  resolve (templ n ss) us =
      provided (name_ok n)
      (and_then (resolve_args ss (push (root n) us)) (λ xs vs. ok (app (root n) xs) (push (app (root n) xs) vs)))
  -- "Arguments attach only to a part without them. Outside `N`, arguments after a reference need an entry of one part."
  resolve (retempl i ss) us =
      and_then (entry (get_elem? us i) us)
      (λ t us'. provided (single t && is_bare t) (and_then (resolve_args ss us') (λ xs vs. ok (app t xs) (push (app t xs) vs))))
  resolve (nest_sub q n) us = and_then (resolve_pre q us) (λ t vs. provided (name_ok n) (ok (sub t n) (push_new (sub t n) vs)))
  -- "the whole has two or more parts"
  resolve (nest_app q ss) us =
      and_then (resolve_pre q us)
      (λ t us'. provided (not (single t) && is_bare t) (and_then (resolve_args ss us') (λ xs vs. ok (app t xs) (push (app t xs) vs))))
  resolve (s_lit k g v) us = provided (lit_ok k g v) (ok (lit k g v) us)

  -- "A reference to a class may stand for leading parts"
  pub resolve_pre : Pre → List Ty → Res Ty
  resolve_pre (p_ref i) us = and_then (entry (get_elem? us i) us) (λ t vs. provided (is_class t) (ok t vs))
  resolve_pre (p_root n) us = provided (name_ok n) (ok (root n) (push (root n) us))
  resolve_pre (p_sub q n) us = and_then (resolve_pre q us) (λ t vs. provided (name_ok n) (ok (sub t n) (push (sub t n) vs)))
  resolve_pre (p_app q ss) us =
      and_then (resolve_pre q us)
      (λ t us'. provided (is_bare t) (and_then (resolve_args ss us') (λ xs vs. ok (app t xs) (push (app t xs) vs))))

  pub resolve_args : SpArgs → List Ty → Res Args
  resolve_args (s_one s) us = and_then (resolve s us) (λ t vs. ok (one t) vs)
  resolve_args (s_also s ss) us = and_then (resolve s us) (λ t us'. and_then (resolve_args ss us') (λ xs vs. ok (also t xs) vs))

-- ---------------------------------------------------------------- whole symbols

-- the last part of a function's name makes no entry (the grammar's `new_prefix`)
unfoldable pub resolve_name : SpName → Res Ty
resolve_name (flat n) = provided (name_ok n) (ok (root n) [])
resolve_name (scoped c q n) = and_then (resolve_pre q []) (λ t us. provided (name_ok n) (ok (sub t n) us))

unfoldable pub resolve_params : Option SpArgs → List Ty → Res (Option Args)
resolve_params none us = ok none us
resolve_params (some ss) us = and_then (resolve_args ss us) (λ xs vs. provided (all_types xs) (ok (some xs) vs))

abbrev pub is_const : SpName → Bool
is_const (flat n) = false
is_const (scoped c q n) = c

abbrev pub has_params : {A : Type 0} → Option A → Bool
has_params none = false
has_params (some x) = true

-- "after a name with `K` always one or more types"
unfoldable pub resolve_sym : Sym → Res Enc
resolve_sym (symbol m ps) =
    provided (not (is_const m) || has_params ps)
    (and_then (resolve_name m) (λ t us. and_then (resolve_params ps us) (λ xs vs. ok (enc (is_const m) t xs) vs)))

-- ---------------------------------------------------------------- arguments as written

abbrev pub number : SpArgs → ℕ
number (s_one s) = 1
number (s_also s ss) = suc (number ss)

unfoldable mutual
  pub count : Sp → ℕ
  count (s_letter l) = 0
  count (s_wrap c s) = count s
  count (s_ref i) = 0
  count (plain n) = 0
  count (templ n ss) = count_args ss + number ss
  count (retempl i ss) = count_args ss + number ss
  count (nest_sub q n) = count_pre q
  count (nest_app q ss) = count_pre q + (count_args ss + number ss)
  count (s_lit k g v) = 0

  pub count_pre : Pre → ℕ
  count_pre (p_ref i) = 0
  count_pre (p_root n) = 0
  count_pre (p_sub q n) = count_pre q
  count_pre (p_app q ss) = count_pre q + (count_args ss + number ss)

  pub count_args : SpArgs → ℕ
  count_args (s_one s) = count s
  count_args (s_also s ss) = count s + count_args ss

abbrev pub count_name : SpName → ℕ
count_name (flat n) = 0
count_name (scoped c q n) = count_pre q

abbrev pub count_params : Option SpArgs → ℕ
count_params none = 0
count_params (some ss) = count_args ss

unfoldable pub count_sym : Sym → ℕ
count_sym (symbol m ps) = count_name m + count_params ps

abbrev pub most_arguments : ℕ
most_arguments = 1024

-- "All lists of arguments as written have together at most 1,024 arguments."
unfoldable pub count_ok : Sym → Bool
count_ok σ = leb (count_sym σ) most_arguments

-- ---------------------------------------------------------------- the class

-- the tree of a written symbol that keeps all the rules, its references resolved, and the table after it
unfoldable pub valid : Sym → Res Enc
valid σ = provided (count_ok σ) (resolve_sym σ)

-- the text is a catalogue symbol (document 01), of any length: a written symbol that keeps the rules spells it
pub record Catalogue (s : Text) : Type 0 where
  pub written : Sym
  pub tree : Enc
  pub table : List Ty
  pub spells : spell_sym written ≡ s
  pub holds : valid written ≡ ok tree table
