-- A catalogue symbol is read once, from left to right, and its normal symbol is written on the way. Kept are the bytes left, the
-- table of what is read (as `resolve` keeps it), and the number of arguments so far. The rules of the class are tested where they
-- stand. walk-is (Equal.antt): this is the normal symbol of what `classify` finds.
use Rattle.std.specs.Prelude.{Bool, true, false, not, ◌&&◌, ◌||◌, List, [], ◌∷◌, ◌++◌, ℕ, zero, suc, eqb, leb, length}
use Rattle.std.proofs.Math.Option.{Option, none, some}
use Prim.Native.Char.{code}
use Rattle.std.proofs.Math.ListN.{get_elem?}
use Rattle.grammar.specs.Text.{Text, if◌then◌otherwise◌, choose, run, past, between, digit}
use Rattle.grammar.specs.Grammar.{index}
use Rattle.catalogue.specs.Bytes.{all, first}
use Rattle.catalogue.specs.Tree.{Kind, Ty, Args, letter, wrap, root, sub, app, lit, one, also, is_lit, is_class, is_bare, single, kind_code}
use Rattle.catalogue.specs.Spelling.{ref_bytes, name_bytes, minus, const_byte}
use Rattle.catalogue.specs.Class.{name_ok, leading_zero, lit_ok, stands, push, push_new, most_arguments}
use Rattle.catalogue.specs.Normal.{seek, known}
use Rattle.catalogue.specs.Recogniser.{Rd, rd, stop, bind, if_next, read_name, with_code, all_kinds, Lead, lead_letter, lead_wrap, lead_digit, lead_S, lead_N}
use Rattle.catalogue.specs.Recogniser.{lead_L, lead_none, lead}

-- what is read, the bytes written for it, the table, the arguments so far, the bytes left; or the symbol is outside the class
pub data Walk (A : Type 0) : Type 0 where
  got : A → Text → List Ty → ℕ → Text → Walk A
  bad : Walk A

abbrev pub Walker : Type 0 → Type 0
Walker A = List Ty → ℕ → Text → Walk A

abbrev pub next : {A B : Type 0} → Walk A → (A → Text → Walker B) → Walk B
next (got x w vs k r) f = f x w vs k r
next bad f = bad

abbrev pub when : {A : Type 0} → Bool → Walk A → Walk A
when true o = o
when false o = bad

-- ---------------------------------------------------------------- leaves

abbrev pub keep : {A : Type 0} → Bool → Rd A → Rd A
keep true o = o
keep false o = stop

abbrev pub with : {A B : Type 0} → Rd A → (A → Text → Walk B) → Walk B
with (rd x r) f = f x r
with stop f = bad

-- <source-name> ::= <number> <identifier>, the number without leading zero
unfoldable pub name : Text → Rd Text
name s = keep (not (first (λ c. eqb c (code "0")) s)) (bind (read_name s) (λ n r. keep (name_ok n) (rd n r)))

-- "digits and capitals"
abbrev pub capital : ℕ → Bool
capital c = between (code "0") (code "9") c || between (code "A") (code "Z") c

-- "without leading zeros (`S0_` is allowed)"
abbrev pub canonical : Text → Bool
canonical d = all capital d && not (leading_zero d)

-- behind S: [<seq-id>] _
unfoldable pub reference : Text → Rd ℕ
reference s =
    if_next (code "_") (past (digit 36) s) (λ r. keep (canonical (run (digit 36) s)) (rd (index 36 (run (digit 36) s)) r)) stop

abbrev pub value : Option Kind → Bool → Text → Rd Ty
value none g s = stop
value (some k) g s =
    if_next (code "E") (past (digit 10) s) (λ r. keep (lit_ok k g (run (digit 10) s)) (rd (lit k g (run (digit 10) s)) r)) stop

-- behind L: one of b i j l m, [n] digits E
unfoldable pub literal : Text → Rd Ty
literal [] = stop
literal (c ∷ s) = if_next (code "n") s (λ r. value (with_code kind_code c all_kinds) true r) (value (with_code kind_code c all_kinds) false s)

-- ---------------------------------------------------------------- what is written

-- the table without later doubles: that of the normal symbol
unfoldable pub add : Ty → List Ty → List Ty
add u us = known (seek u us) us (push u us)

unfoldable pub add_all : List Ty → List Ty → List Ty
add_all us [] = us
add_all us (v ∷ vs) = add_all (add v us) vs

abbrev pub distinct : List Ty → List Ty
distinct vs = add_all [] vs

-- the reference of an entry, or the bytes for what is none
unfoldable pub wrote : Ty → List Ty → Text → Text
wrote u vs w = choose (seek u (distinct vs)) ref_bytes w

abbrev pub in_brackets : ℕ → Text → Text
in_brackets c w = c ∷ (w ++ (code "E" ∷ []))

abbrev pub lit_bytes : Ty → Text
lit_bytes (letter l) = []
lit_bytes (wrap c t) = []
lit_bytes (root n) = []
lit_bytes (sub t n) = []
lit_bytes (app t xs) = []
lit_bytes (lit k g v) = in_brackets (code "L") (kind_code k ∷ (minus g ++ v))

-- ---------------------------------------------------------------- productions made of others

-- arguments behind the class t, for which w is written: the two in full
abbrev pub with_args : Ty → Text → Walk Args → (Ty → Text → Walker Ty) → Walk Ty
with_args t w o f = next o (λ xs v vs k r. f (app t xs) (w ++ in_brackets (code "I") v) vs k r)

-- a type u, for which w is written in full, enters the table
abbrev pub enter : Ty → Text → Walker Ty
enter u w vs k r = got u (wrote u vs w) (push u vs) k r

-- the newest entry isn't entered again behind N
abbrev pub enter_nested : Ty → List Ty → List Ty
enter_nested (letter l) vs = vs
enter_nested (wrap c t) vs = vs
enter_nested (root n) vs = vs
enter_nested (sub t n) vs = push_new (sub t n) vs
enter_nested (app t xs) vs = push (app t xs) vs
enter_nested (lit k g v) vs = vs

-- <type>, <template-arg>, by the first byte c
abbrev pub at_lead : Lead → ℕ → List Ty → ℕ → Text → Walker Ty → Walker Args → Walker Ty → Walk Ty
-- <builtin-type>
at_lead (lead_letter l) c vs k s type args parts = got (letter l) (c ∷ []) vs k s
-- P R O K V <type>
at_lead (lead_wrap q) c vs k s type args parts =
    next (type vs k s) (λ t w vs' k' r. when (stands q t) (enter (wrap q t) (c ∷ w) vs' k' r))
-- <source-name> [I <template-args> E]
at_lead lead_digit c vs k s type args parts =
    with (name (c ∷ s)) (λ n r.
    if_next (code "I") r (λ r'. with_args (root n) (wrote (root n) vs (name_bytes n)) (args (push (root n) vs) k r') enter)
    (enter (root n) (name_bytes n) vs k r))
-- S [<seq-id>] _ [I <template-args> E]
at_lead lead_S c vs k s type args parts =
    with (reference s) (λ i r. choose (get_elem? vs i) (λ t.
    if_next (code "I") r (λ r'. when (single t && is_bare t) (with_args t (wrote t vs []) (args vs k r') enter))
    (got t (wrote t vs []) vs k r)) bad)
-- N <parts> E, two or more
at_lead lead_N c vs k s type args parts =
    next (parts vs k s) (λ u w vs' k' r. when (not (single u)) (got u (wrote u vs' (in_brackets c w)) (enter_nested u vs') k' r))
-- L <literal> E
at_lead lead_L c vs k s type args parts = with (literal s) (λ t r. got t (lit_bytes t) vs k r)
at_lead lead_none c vs k s type args parts = bad

-- <parts> ::= <source-name> <more> | S [<seq-id>] _ <more>
abbrev pub at_parts : Lead → ℕ → List Ty → ℕ → Text → (Ty → Text → Walker Ty) → Walk Ty
at_parts (lead_letter l) c vs k s more = bad
at_parts (lead_wrap q) c vs k s more = bad
at_parts lead_digit c vs k s more = with (name (c ∷ s)) (λ n r. more (root n) (wrote (root n) vs (name_bytes n)) (push (root n) vs) k r)
at_parts lead_S c vs k s more =
    with (reference s) (λ i r. choose (get_elem? vs i) (λ t. when (is_class t) (more t (wrote t vs []) vs k r)) bad)
at_parts lead_N c vs k s more = bad
at_parts lead_L c vs k s more = bad
at_parts lead_none c vs k s more = bad

-- behind one more part or its arguments: E, and u is the class; or u is leading parts and enters the table
abbrev pub end_or : (Ty → Text → Walker Ty) → Ty → Text → Walker Ty
end_or more u w vs k r = if_next (code "E") r (λ r'. got u w vs k r') (more u (wrote u vs w) (push u vs) k r)

-- <more> ::= (I <template-args> E | <source-name>) (E | <more>)
abbrev pub at_more : Bool → ℕ → Ty → Text → List Ty → ℕ → Text → Walker Args → (Ty → Text → Walker Ty) → Walk Ty
at_more true c t w vs k s args more = when (is_bare t) (with_args t w (args vs k s) (end_or more))
at_more false c t w vs k s args more = with (name (c ∷ s)) (λ n r. end_or more (sub t n) (w ++ name_bytes n) vs k r)

-- <template-args> ::= <template-arg> (E | <template-args>); each argument counts
abbrev pub at_arg : Ty → Text → List Ty → ℕ → Text → Walker Args → Walk Args
at_arg t w vs k r args =
    if_next (code "E") r (λ r'. got (one t) w vs (suc k) r')
    (next (args vs (suc k) r) (λ xs v vs' k' r'. got (also t xs) (w ++ v) vs' k' r'))

-- the number counts down; it is never below the number of bytes left
unfoldable mutual
  pub walk_type : ℕ → Walker Ty
  walk_type zero vs k s = bad
  walk_type (suc f) vs k [] = bad
  walk_type (suc f) vs k (c ∷ s) =
      at_lead (lead c) c vs k s (λ vs' k' r. walk_type f vs' k' r) (λ vs' k' r. walk_args f vs' k' r) (λ vs' k' r. walk_parts f vs' k' r)

  -- behind N: the class in full and the table without its own entry
  pub walk_parts : ℕ → Walker Ty
  walk_parts zero vs k s = bad
  walk_parts (suc f) vs k [] = bad
  walk_parts (suc f) vs k (c ∷ s) = at_parts (lead c) c vs k s (λ t w vs' k' r. walk_more f t w vs' k' r)

  pub walk_more : ℕ → Ty → Text → Walker Ty
  walk_more zero t w vs k s = bad
  walk_more (suc f) t w vs k [] = bad
  walk_more (suc f) t w vs k (c ∷ s) =
      at_more (eqb c (code "I")) c t w vs k s (λ vs' k' r. walk_args f vs' k' r) (λ u v vs' k' r. walk_more f u v vs' k' r)

  -- behind I
  pub walk_args : ℕ → Walker Args
  walk_args zero vs k s = bad
  walk_args (suc f) vs k s =
      next (walk_type f vs k s) (λ t w vs' k' r. at_arg t w vs' k' r (λ vs'' k'' r'. walk_args f vs'' k'' r'))

-- ---------------------------------------------------------------- whole symbols

-- behind a type: the end, or more types
abbrev pub at_end : Ty → Text → List Ty → ℕ → Text → Walker Args → Walk Args
at_end t w vs k [] types = got (one t) w vs k []
at_end t w vs k (c ∷ r) types = next (types vs k (c ∷ r)) (λ xs v vs' k' r'. got (also t xs) (w ++ v) vs' k' r')

-- <type>+ to the end
unfoldable pub walk_types : ℕ → Walker Args
walk_types zero vs k s = bad
walk_types (suc f) vs k s =
    next (walk_type f vs k s) (λ t w vs' k' r. when (not (is_lit t)) (at_end t w vs' k' r (λ vs'' k'' r'. walk_types f vs'' k'' r')))

-- behind N or NK: <parts> E, without arguments at the end; it makes no entry
abbrev pub at_scoped : Bool → Walk Ty → Walk Bool
at_scoped c o = next o (λ u w vs k r. when (is_bare u) (got c (code "N" ∷ (const_byte c ++ (w ++ (code "E" ∷ [])))) vs k r))

-- <name> ::= <source-name> | N [K] <parts> E; whether there is a K
abbrev pub at_name : Text → Walker Ty → Walk Bool
at_name s parts =
    if_next (code "N") s (λ r. if_next (code "K") r (λ r'. at_scoped true (parts [] 0 r')) (at_scoped false (parts [] 0 r)))
    (with (name s) (λ n r. got false (name_bytes n) [] 0 r))

-- the types, if there are any; "after a name with `K` always one or more types"
abbrev pub at_params : Bool → Text → List Ty → ℕ → Text → Walker Args → Walk Bool
at_params c w vs k [] types = when (not c) (got c w vs k [])
at_params c w vs k (d ∷ s) types = next (types vs k (d ∷ s)) (λ xs v vs' k' r. got c (w ++ v) vs' k' r)

-- <encoding> ::= <name> [<type>+], behind _Z
abbrev pub at_enc : Text → Walker Ty → Walker Args → Walk Bool
at_enc s parts types = next (at_name s parts) (λ c w vs k r. at_params c w vs k r types)

-- "at most 1,024 arguments"
abbrev pub result : Walk Bool → Option Text
result (got c w vs k r) = if leb k most_arguments then some (code "_" ∷ code "Z" ∷ w) otherwise none
result bad = none

unfoldable pub walk_enc : ℕ → Text → Walk Bool
walk_enc f s = at_enc s (λ vs k r. walk_parts f vs k r) (λ vs k r. walk_types f vs k r)

-- the normal symbol of a catalogue symbol
unfoldable pub walk_sym : Text → Option Text
walk_sym s = if_next (code "_") s (λ r. if_next (code "Z") r (λ r'. result (walk_enc (suc (length r')) r')) none) none
