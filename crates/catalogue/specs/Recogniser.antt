-- The recogniser of catalogue symbols: from bytes to the written symbol. It is lax about digits, names and values; a symbol is in
-- the class if what is found is valid and spells the symbol again.
use Rattle.std.specs.Prelude.{Bool, true, false, ◌&&◌, List, [], ◌∷◌, ℕ, zero, suc, eqb, leb, length, take, drop}
use Rattle.std.proofs.Math.Option.{Option, none, some}
use Prim.Native.Char.{code}
use Rattle.grammar.specs.Text.{Text, if◌then◌otherwise◌, choose, same, run, past, digit, number}
use Rattle.grammar.specs.Grammar.{index}
use Rattle.catalogue.specs.Tree.{Letter, Wrap, Kind, Enc, letter_code, wrap_code, kind_code, lv, lw, lb, lc, la, lh, ls, lt, li, lj, ll, lm, lx, ly, ln}
use Rattle.catalogue.specs.Tree.{lo, lf, ld, le, lg, lz, wP, wR, wO, wK, wV, kb, ki, kj, kl, km}
use Rattle.catalogue.specs.Spelling.{Sp, Pre, SpArgs, SpName, Sym, s_letter, s_wrap, s_ref, plain, templ, retempl, nest_sub, nest_app, s_lit, p_ref}
use Rattle.catalogue.specs.Spelling.{p_root, p_sub, p_app, s_one, s_also, flat, scoped, symbol, spell_sym}
use Rattle.catalogue.specs.Class.{Res, wrong, provided, valid}

-- something read, and the bytes left; or no reading
pub data Rd (A : Type 0) : Type 0 where
  rd : A → Text → Rd A
  stop : Rd A

abbrev pub bind : {A B : Type 0} → Rd A → (A → Text → Rd B) → Rd B
bind (rd x r) f = f x r
bind stop f = stop

-- where the byte comes next, what stands after it
abbrev pub if_next : {A : Type 0} → ℕ → Text → (Text → A) → A → A
if_next c [] f x = x
if_next c (d ∷ r) f x = if eqb d c then f r otherwise x

-- ---------------------------------------------------------------- leaves

unfoldable pub cut : ℕ → Text → Rd Text
cut n r = if leb n (length r) then rd (take n r) (drop n r) otherwise stop

unfoldable pub read_name : Text → Rd Text
read_name s = cut (number 10 0 (run (digit 10) s)) (past (digit 10) s)

-- behind S
unfoldable pub read_ref : Text → Rd ℕ
read_ref s = if_next (code "_") (past (digit 36) s) (λ r. rd (index 36 (run (digit 36) s)) r) stop

-- the one that has the byte
unfoldable pub with_code : {A : Type 0} → (A → ℕ) → ℕ → List A → Option A
with_code f c [] = none
with_code f c (x ∷ xs) = if eqb c (f x) then some x otherwise with_code f c xs

abbrev pub all_letters : List Letter
all_letters =
    lv ∷ lw ∷ lb ∷ lc ∷ la ∷ lh ∷ ls ∷ lt ∷ li ∷ lj ∷ ll ∷ lm ∷ lx ∷ ly ∷ ln ∷ lo ∷ lf ∷ ld ∷ le ∷ lg ∷ lz ∷ []

abbrev pub all_wraps : List Wrap
all_wraps = wP ∷ wR ∷ wO ∷ wK ∷ wV ∷ []

abbrev pub all_kinds : List Kind
all_kinds = kb ∷ ki ∷ kj ∷ kl ∷ km ∷ []

abbrev pub with_kind : Option Kind → Bool → Text → Rd Sp
with_kind none g s = stop
with_kind (some k) g s = if_next (code "E") (past (digit 10) s) (λ r. rd (s_lit k g (run (digit 10) s)) r) stop

abbrev pub signed : Option Kind → Text → Rd Sp
signed k s = if_next (code "n") s (λ r. with_kind k true r) (with_kind k false s)

-- behind L
unfoldable pub read_lit : Text → Rd Sp
read_lit [] = stop
read_lit (c ∷ s) = signed (with_code kind_code c all_kinds) s

-- ---------------------------------------------------------------- the first byte

pub data Lead : Type 0 where
  lead_letter : Letter → Lead
  lead_wrap : Wrap → Lead
  lead_digit lead_S lead_N lead_L lead_none : Lead

unfoldable pub lead : ℕ → Lead
lead c =
    if digit 10 c then lead_digit otherwise
    if eqb c (code "S") then lead_S otherwise
    if eqb c (code "N") then lead_N otherwise
    if eqb c (code "L") then lead_L otherwise
    choose (with_code wrap_code c all_wraps) lead_wrap (choose (with_code letter_code c all_letters) lead_letter lead_none)

-- at E: N with one part is no class
abbrev pub finish : Pre → Text → Rd Sp
finish (p_ref i) r = stop
finish (p_root n) r = stop
finish (p_sub q n) r = rd (nest_sub q n) r
finish (p_app q ss) r = rd (nest_app q ss) r

abbrev pub at_lead : Lead → ℕ → Text → (Text → Rd Sp) → (Text → Rd SpArgs) → (Text → Rd Sp) → Rd Sp
at_lead (lead_letter l) c s type args nest = rd (s_letter l) s
at_lead (lead_wrap w) c s type args nest = bind (type s) (λ x r. rd (s_wrap w x) r)
at_lead lead_digit c s type args nest =
    bind (read_name (c ∷ s)) (λ n r. if_next (code "I") r (λ r'. bind (args r') (λ ss r''. rd (templ n ss) r'')) (rd (plain n) r))
at_lead lead_S c s type args nest =
    bind (read_ref s) (λ i r. if_next (code "I") r (λ r'. bind (args r') (λ ss r''. rd (retempl i ss) r'')) (rd (s_ref i) r))
at_lead lead_N c s type args nest = nest s
at_lead lead_L c s type args nest = read_lit s
at_lead lead_none c s type args nest = stop

abbrev pub at_nest : Lead → ℕ → Text → (Pre → Text → Rd Sp) → Rd Sp
at_nest (lead_letter l) c s more = stop
at_nest (lead_wrap w) c s more = stop
at_nest lead_digit c s more = bind (read_name (c ∷ s)) (λ n r. more (p_root n) r)
at_nest lead_S c s more = bind (read_ref s) (λ i r. more (p_ref i) r)
at_nest lead_N c s more = stop
at_nest lead_L c s more = stop
at_nest lead_none c s more = stop

abbrev pub at_more : Bool → Bool → Pre → ℕ → Text → (Text → Rd SpArgs) → (Pre → Text → Rd Sp) → Rd Sp
at_more true i q c s args more = finish q s
at_more false true q c s args more = bind (args s) (λ ss r. more (p_app q ss) r)
at_more false false q c s args more = bind (read_name (c ∷ s)) (λ n r. more (p_sub q n) r)

abbrev pub at_arg : Sp → Text → (Text → Rd SpArgs) → Rd SpArgs
at_arg x r args = if_next (code "E") r (λ r'. rd (s_one x) r') (bind (args r) (λ ss r'. rd (s_also x ss) r'))

-- ---------------------------------------------------------------- the productions

-- the number counts down; it is never below the number of bytes left
unfoldable mutual
  unfolding at_lead at_nest at_more at_arg

  pub parse : ℕ → Text → Rd Sp
  parse zero s = stop
  parse (suc f) [] = stop
  parse (suc f) (c ∷ s) = at_lead (lead c) c s (λ r. parse f r) (λ r. parse_args f r) (λ r. parse_nest f r)

  -- behind N
  pub parse_nest : ℕ → Text → Rd Sp
  parse_nest zero s = stop
  parse_nest (suc f) [] = stop
  parse_nest (suc f) (c ∷ s) = at_nest (lead c) c s (λ q r. parse_more f q r)

  pub parse_more : ℕ → Pre → Text → Rd Sp
  parse_more zero q s = stop
  parse_more (suc f) q [] = stop
  parse_more (suc f) q (c ∷ s) = at_more (eqb c (code "E")) (eqb c (code "I")) q c s (λ r. parse_args f r) (λ t r. parse_more f t r)

  -- behind I
  pub parse_args : ℕ → Text → Rd SpArgs
  parse_args zero s = stop
  parse_args (suc f) s = bind (parse f s) (λ x r. at_arg x r (λ r'. parse_args f r'))

-- ---------------------------------------------------------------- whole symbols

-- a function's name is a class without arguments at its end, read as a type
abbrev pub to_name : Bool → Rd Sp → Rd SpName
to_name c stop = stop
to_name c (rd (s_letter l) r) = stop
to_name c (rd (s_wrap d s) r) = stop
to_name c (rd (s_ref i) r) = stop
to_name c (rd (plain n) r) = rd (flat n) r
to_name c (rd (templ n ss) r) = stop
to_name c (rd (retempl i ss) r) = stop
to_name c (rd (nest_sub q n) r) = rd (scoped c q n) r
to_name c (rd (nest_app q ss) r) = stop
to_name c (rd (s_lit k g v) r) = stop

abbrev pub name_from : Bool → ℕ → ℕ → ℕ → Text → Rd SpName
name_from true f c d r = to_name true (parse f (code "N" ∷ r))
name_from false f c d r = to_name false (parse f (c ∷ d ∷ r))

-- K is taken out from behind N
abbrev pub name_at : ℕ → Text → Rd SpName
name_at f [] = stop
name_at f (c ∷ []) = stop
name_at f (c ∷ d ∷ r) = name_from (eqb c (code "N") && eqb d (code "K")) f c d r

abbrev pub last_or : Sp → Text → (Text → Rd SpArgs) → Rd SpArgs
last_or x [] types = rd (s_one x) []
last_or x (c ∷ r) types = bind (types (c ∷ r)) (λ ss r'. rd (s_also x ss) r')

-- types up to the end
unfoldable pub parse_types : ℕ → Text → Rd SpArgs
parse_types zero s = stop
parse_types (suc f) s = bind (parse f s) (λ x r. last_or x r (λ r'. parse_types f r'))

abbrev pub with_types : SpName → Rd SpArgs → Option Sym
with_types m (rd ss r) = some (symbol m (some ss))
with_types m stop = none

abbrev pub params_at : ℕ → SpName → Text → Option Sym
params_at f m [] = some (symbol m none)
params_at f m (c ∷ r) = with_types m (parse_types f (c ∷ r))

abbrev pub sym_from : ℕ → Rd SpName → Option Sym
sym_from f (rd m r) = params_at f m r
sym_from f stop = none

unfoldable pub parse_sym : Text → Option Sym
unfolding sym_from
parse_sym [] = none
parse_sym (c ∷ []) = none
parse_sym (c ∷ d ∷ s) = sym_from (suc (length s)) (name_at (suc (length s)) s)

-- the tree of a catalogue symbol and its table
unfoldable pub classify : Text → Res Enc
classify s = choose (parse_sym s) (λ σ. provided (same (spell_sym σ) s) (valid σ)) wrong
