-- A symbol that resolves has no byte of 128 or more, so that 2 is never its refusal.
use Rattle.std.specs.Prelude.{Bool, true, false, not, ◌&&◌, ◌||◌, [], ◌∷◌, ◌++◌, List, ◌≡◌, refl, ℕ, suc, ◌+◌, ◌-◌, ◌<◌, eqb, leb, ltb, length}
use Rattle.std.proofs.lemmas.Bool.{false≢true, lt-leb}
use Rattle.std.proofs.Math.Option.{Option, none, some}
use Rattle.std.proofs.Common.{arith, leb-true}
use Rattle.grammar.specs.Text.{Text, if◌then◌otherwise◌, between, digit_value, digit}
use Rattle.grammar.specs.Names.{high}
use Rattle.catalogue.specs.Bytes.{all, and_left, and_right, eqb_eq}
use Rattle.catalogue.specs.Laws.Bytes.{or_left, or_right, or_no}
use Rattle.catalogue.specs.Tree.{Ty, Enc, Letter, Wrap, Kind, letter_code, wrap_code, kind_code, lv, lw, lb, lc, la, lh, ls, lt, li, lj, ll, lm, lx, ly}
use Rattle.catalogue.specs.Tree.{ln, lo, lf, ld, le, lg, lz, wP, wR, wO, wK, wV, kb, ki, kj, kl, km}
use Rattle.catalogue.specs.Spelling.{Sp, Pre, SpArgs, SpName, Sym, s_letter, s_wrap, s_ref, plain, templ, retempl, nest_sub, nest_app, s_lit, p_ref}
use Rattle.catalogue.specs.Spelling.{p_root, p_sub, p_app, s_one, s_also, flat, scoped, symbol, ref_digits, ref_bytes, length_digits, name_bytes, minus}
use Rattle.catalogue.specs.Spelling.{spell, spell_pre, spell_args, const_byte, spell_name, spell_params, spell_sym}
use Rattle.catalogue.specs.Class.{word_byte, listed, reserved, name_ok, ok, resolve_sym, Catalogue}
use Rattle.catalogue.specs.Laws.Numbers.{digit_36, decimal_all, ref_all}
use Rattle.catalogue.proofs.Laws.ReadsBack.{OkSp, OkPre, OkArgs}
use Rattle.catalogue.proofs.Laws.SymbolReadsBack.{OkName, OkParams, OkSym, sym_ok}
use Rattle.catalogue.proofs.Laws.Decision.{resolves}

-- ---------------------------------------------------------------- bytes that pass a test

digit_small : (c : ℕ) → digit 36 c ≡ true → c < 128
unfolding digit digit_value if◌then◌otherwise◌
digit_small c h = go (between 48 57 c) refl (between 65 90 c) refl (between 97 122 c) refl h
  where
    go : (p : Bool) → between 48 57 c ≡ p → (q : Bool) → between 65 90 c ≡ q → (r : Bool) → between 97 122 c ≡ r
        → ltb (if p then c - 48 otherwise if q then c - 65 + 10 otherwise if r then c - 97 + 10 otherwise 36) 36 ≡ true → c < 128
    go true e q f r g k = let z = leb-true c 57 (and_right (leb 48 c) (leb c 57) e) in omega arith
    go false e true f r g k = let z = leb-true c 90 (and_right (leb 65 c) (leb c 90) f) in omega arith
    go false e false f true g k = let z = leb-true c 122 (and_right (leb 97 c) (leb c 122) g) in omega arith
    go false e false f false g k = absurd (false≢true k)

word_small : (c : ℕ) → word_byte c ≡ true → c < 128
unfolding word_byte
word_small c h = go (digit 36 c) refl h
  where
    go : (p : Bool) → digit 36 c ≡ p → p || eqb c 95 ≡ true → c < 128
    go true e k = digit_small c e
    go false e k = let z = eqb_eq c 95 k in omega arith

low_all : (p : ℕ → Bool) → ((c : ℕ) → p c ≡ true → c < 128) → (t : Text) → all p t ≡ true → high t ≡ false
unfolding high
low_all p s [] h = refl
low_all p s (c ∷ t) h =
    or_no (leb 128 c) (high t) (lt-leb 128 c (s c (and_left (p c) (all p t) h))) (low_all p s t (and_right (p c) (all p t) h))

low_append : (x y : Text) → high x ≡ false → high y ≡ false → high (x ++ y) ≡ false
unfolding high
low_append [] y h k = k
low_append (c ∷ x) y h k = or_no (leb 128 c) (high (x ++ y)) (or_left (leb 128 c) (high x) h) (low_append x y (or_right (leb 128 c) (high x) h) k)

name_all : (n : Text) → name_ok n ≡ true → all word_byte n ≡ true
unfolding name_ok
name_all [] h = refl
name_all (c ∷ n) h =
    and_left (all word_byte (c ∷ n)) (not (listed (c ∷ n) reserved))
    (and_right (not (digit 10 c)) (all word_byte (c ∷ n) && not (listed (c ∷ n) reserved)) h)

digits_low : (v : Text) → all (digit 10) v ≡ true → high v ≡ false
digits_low v h = low_all (digit 10) (λ c k. digit_small c (digit_36 c k)) v h

name_low : (n : Text) → name_ok n ≡ true → high (name_bytes n) ≡ false
name_low n h =
    low_append (length_digits n) n (digits_low (length_digits n) (decimal_all (suc (length n)) (length n)))
    (low_all word_byte word_small n (name_all n h))

ref_low : (i : ℕ) → high (ref_bytes i) ≡ false
unfolding high
ref_low i = low_append (ref_digits i) (95 ∷ []) (low_all (digit 36) digit_small (ref_digits i) (ref_all i)) refl

-- ---------------------------------------------------------------- spellings

pub letter_low : (l : Letter) → leb 128 (letter_code l) ≡ false
letter_low lv = refl
letter_low lw = refl
letter_low lb = refl
letter_low lc = refl
letter_low la = refl
letter_low lh = refl
letter_low ls = refl
letter_low lt = refl
letter_low li = refl
letter_low lj = refl
letter_low ll = refl
letter_low lm = refl
letter_low lx = refl
letter_low ly = refl
letter_low ln = refl
letter_low lo = refl
letter_low lf = refl
letter_low ld = refl
letter_low le = refl
letter_low lg = refl
letter_low lz = refl

pub wrap_low : (c : Wrap) → leb 128 (wrap_code c) ≡ false
wrap_low wP = refl
wrap_low wR = refl
wrap_low wO = refl
wrap_low wK = refl
wrap_low wV = refl

pub kind_low : (k : Kind) → leb 128 (kind_code k) ≡ false
kind_low kb = refl
kind_low ki = refl
kind_low kj = refl
kind_low kl = refl
kind_low km = refl

minus_low : (g : Bool) → high (minus g) ≡ false
unfolding high
minus_low true = refl
minus_low false = refl

mutual
  unfolding spell high

  spell_low : (s : Sp) → OkSp s → high (spell s) ≡ false
  spell_low (s_letter l) o = or_no (leb 128 (letter_code l)) false (letter_low l) refl
  spell_low (s_wrap c s) o = or_no (leb 128 (wrap_code c)) (high (spell s)) (wrap_low c) (spell_low s o)
  spell_low (s_ref i) o = ref_low i
  spell_low (plain n) o = name_low n o
  spell_low (templ n ss) o =
      low_append (name_bytes n) (73 ∷ (spell_args ss ++ (69 ∷ []))) (name_low n o.0) (low_append (spell_args ss) (69 ∷ []) (args_low ss o.1) refl)
  spell_low (retempl i ss) o =
      low_append (ref_bytes i) (73 ∷ (spell_args ss ++ (69 ∷ []))) (ref_low i) (low_append (spell_args ss) (69 ∷ []) (args_low ss o) refl)
  spell_low (nest_sub q n) o =
      low_append (spell_pre q) (name_bytes n ++ (69 ∷ [])) (pre_low q o.0) (low_append (name_bytes n) (69 ∷ []) (name_low n o.1) refl)
  spell_low (nest_app q ss) o =
      low_append (spell_pre q) (73 ∷ (spell_args ss ++ (69 ∷ 69 ∷ []))) (pre_low q o.0) (low_append (spell_args ss) (69 ∷ 69 ∷ []) (args_low ss o.1) refl)
  spell_low (s_lit k g v) o =
      or_no (leb 128 (kind_code k)) (high (minus g ++ (v ++ (69 ∷ [])))) (kind_low k)
      (low_append (minus g) (v ++ (69 ∷ [])) (minus_low g) (low_append v (69 ∷ []) (digits_low v o) refl))

  pre_low : (q : Pre) → OkPre q → high (spell_pre q) ≡ false
  pre_low (p_ref i) o = ref_low i
  pre_low (p_root n) o = name_low n o
  pre_low (p_sub q n) o = low_append (spell_pre q) (name_bytes n) (pre_low q o.0) (name_low n o.1)
  pre_low (p_app q ss) o =
      low_append (spell_pre q) (73 ∷ (spell_args ss ++ (69 ∷ []))) (pre_low q o.0) (low_append (spell_args ss) (69 ∷ []) (args_low ss o.1) refl)

  args_low : (ss : SpArgs) → OkArgs ss → high (spell_args ss) ≡ false
  args_low (s_one s) o = spell_low s o
  args_low (s_also s ss) o = low_append (spell s) (spell_args ss) (spell_low s o.0) (args_low ss o.1)

const_low : (c : Bool) → high (const_byte c) ≡ false
unfolding high
const_low true = refl
const_low false = refl

function_low : (m : SpName) → OkName m → high (spell_name m) ≡ false
unfolding high
function_low (flat n) o = name_low n o
function_low (scoped c q n) o =
    low_append (const_byte c) (spell_pre q ++ (name_bytes n ++ (69 ∷ []))) (const_low c)
    (low_append (spell_pre q) (name_bytes n ++ (69 ∷ [])) (pre_low q o.0) (low_append (name_bytes n) (69 ∷ []) (name_low n o.1) refl))

params_low : (ps : Option SpArgs) → OkParams ps → high (spell_params ps) ≡ false
unfolding high
params_low none o = refl
params_low (some ss) o = args_low ss o

sym_low : (σ : Sym) → OkSym σ → high (spell_sym σ) ≡ false
unfolding spell_sym high
sym_low (symbol m ps) o = low_append (spell_name m) (spell_params ps) (function_low m o.0) (params_low ps o.1)

pub resolved_low : (σ : Sym) (e : Enc) (us : List Ty) → resolve_sym σ ≡ ok e us → high (spell_sym σ) ≡ false
resolved_low σ e us h = sym_low σ (sym_ok σ e us h)

pub catalogue_low : {s : Text} → Catalogue s → high s ≡ false
catalogue_low c = rw c.spells at (resolved_low c.written c.tree c.table (resolves c))
