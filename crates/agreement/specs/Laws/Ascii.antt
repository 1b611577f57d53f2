-- A written symbol has no byte of 128 or more.
use Rattle.std.specs.Prelude.{Bool, true, false, ◌||◌, [], ◌∷◌, ◌++◌, ◌≡◌, refl, ℕ, suc, ◌+◌, ◌-◌, ◌≤◌, length, eqb, leb, ltb}
use Rattle.std.proofs.lemmas.Bool.{false≢true, lt-leb}
use Rattle.std.proofs.Math.Option.{Option, none, some}
use Prim.Native.Char.{code}
use Rattle.std.proofs.Common.{arith, leb-true, le-leb}
use Rattle.grammar.specs.Text.{Text, if◌then◌otherwise◌, between, digit, digit_value}
use Rattle.grammar.specs.Names.{high}
use Rattle.catalogue.specs.Bytes.{all, and_left, and_right, eqb_eq}
use Rattle.catalogue.specs.Laws.Bytes.{all_append}
use Rattle.catalogue.specs.Tree.{Letter, Wrap, Kind, wP, wR, wO, wK, wV, kb, ki, kj, kl, km, letter_code, wrap_code, kind_code}
use Rattle.catalogue.specs.Spelling.{Sp, Pre, SpArgs, SpName, Sym, s_letter, s_wrap, s_ref, plain, templ, retempl, nest_sub, nest_app, s_lit, p_ref, p_root}
use Rattle.catalogue.specs.Spelling.{p_sub, p_app, s_one, s_also, flat, scoped, symbol, spell, spell_pre, spell_args, spell_name, spell_params, spell_sym}
use Rattle.catalogue.specs.Spelling.{ref_digits, length_digits, name_bytes, minus, const_byte}
use Rattle.catalogue.specs.Class.{name_ok, word_byte}
use Rattle.catalogue.specs.Laws.Numbers.{digit_low, decimal_all}
use Rattle.catalogue.proofs.Laws.ReadsBack.{OkSp, OkPre, OkArgs}
use Rattle.catalogue.proofs.Laws.SymbolReadsBack.{OkName, OkParams, OkSym}
use Rattle.agreement.specs.Laws.Letters.{every_letter}
use Rattle.agreement.specs.Laws.Leaves.{low}
use Rattle.agreement.specs.Laws.Heads.{ref_low}
use Rattle.agreement.specs.Laws.Printed.{name_words, all_map}

abbrev ascii : ℕ → Bool
ascii x = leb x 127

digit_ascii : (x : ℕ) → digit 10 x ≡ true → ascii x ≡ true
digit_ascii x h = let k = digit_low x h in let k1 = k.1 in le-leb x 127 (omega arith)

low_ascii : (x : ℕ) → low x ≡ true → ascii x ≡ true
low_ascii x h = let k = leb-true x 95 h in le-leb x 127 (omega arith)

digit36_ascii : (x : ℕ) → digit 36 x ≡ true → ascii x ≡ true
unfolding digit digit_value if◌then◌otherwise◌
digit36_ascii x h = go (between 48 57 x) refl (between 65 90 x) refl (between 97 122 x) refl h
  where
    top : (from to : ℕ) → to ≤ 127 → between from to x ≡ true → ascii x ≡ true
    top from to l e = let k = leb-true x to (and_right (leb from x) (leb x to) e) in le-leb x 127 (omega arith)

    go : (p : Bool) → between 48 57 x ≡ p → (q : Bool) → between 65 90 x ≡ q → (r : Bool) → between 97 122 x ≡ r
        → ltb (if p then x - 48 otherwise if q then x - 65 + 10 otherwise if r then x - 97 + 10 otherwise 36) 36 ≡ true → ascii x ≡ true
    go true e q i r j k = top 48 57 (omega arith) e
    go false e true i r j k = top 65 90 (omega arith) i
    go false e false i true j k = top 97 122 (omega arith) j
    go false e false i false j k = absurd (false≢true k)

word_ascii : (x : ℕ) → word_byte x ≡ true → ascii x ≡ true
unfolding word_byte
word_ascii x h = go (digit 36 x) refl h
  where
    go : (p : Bool) → digit 36 x ≡ p → p || eqb x (code "_") ≡ true → ascii x ≡ true
    go true e k = digit36_ascii x e
    go false e k = rw (eqb_eq x (code "_") k) refl

letter_ascii : (l : Letter) → ascii (letter_code l) ≡ true
letter_ascii l = every_letter (λ x. ascii
    (letter_code x) ≡ true) refl refl refl refl refl refl refl refl refl refl refl refl refl refl refl refl refl refl refl refl refl l

wrap_ascii : (c : Wrap) → ascii (wrap_code c) ≡ true
wrap_ascii wP = refl
wrap_ascii wR = refl
wrap_ascii wO = refl
wrap_ascii wK = refl
wrap_ascii wV = refl

kind_ascii : (k : Kind) → ascii (kind_code k) ≡ true
kind_ascii kb = refl
kind_ascii ki = refl
kind_ascii kj = refl
kind_ascii kl = refl
kind_ascii km = refl

name_ascii : (n : Text) → name_ok n ≡ true → all ascii (name_bytes n) ≡ true
name_ascii n h =
    all_append ascii (length_digits n) n (all_map (digit 10) ascii digit_ascii (length_digits n) (decimal_all (suc (length n)) (length n)))
    (all_map word_byte ascii word_ascii n (name_words n h))

ref_ascii : (i : ℕ) → all ascii (ref_digits i ++ (code "_" ∷ [])) ≡ true
ref_ascii i = all_append ascii (ref_digits i) (code "_" ∷ []) (all_map low ascii low_ascii (ref_digits i) (ref_low i)) refl

value_ascii : (s : Bool) (v : Text) → all (digit 10) v ≡ true → all ascii (minus s ++ (v ++ (code "E" ∷ []))) ≡ true
value_ascii true v h = all_append ascii v (code "E" ∷ []) (all_map (digit 10) ascii digit_ascii v h) refl
value_ascii false v h = all_append ascii v (code "E" ∷ []) (all_map (digit 10) ascii digit_ascii v h) refl

mutual
  unfolding spell

  sp_ascii : (s : Sp) → OkSp s → all ascii (spell s) ≡ true
  sp_ascii (s_letter l) o = rw (letter_ascii l)
  sp_ascii (s_wrap c s) o = rw (wrap_ascii c) (sp_ascii s o)
  sp_ascii (s_ref i) o = ref_ascii i
  sp_ascii (plain n) o = name_ascii n o
  sp_ascii (templ n ss) o = all_append ascii (name_bytes n) _ (name_ascii n o.0) (all_append ascii (spell_args ss) (code "E" ∷ [])
      (args_ascii ss o.1) refl)
  sp_ascii (retempl i ss) o = all_append ascii (ref_digits i ++ (code "_" ∷ [])) _ (ref_ascii i) (all_append ascii (spell_args ss)
      (code "E" ∷ []) (args_ascii ss o) refl)
  sp_ascii (nest_sub p n) o = all_append ascii (spell_pre p) _ (pre_ascii p o.0) (all_append ascii (name_bytes n) (code "E" ∷ [])
      (name_ascii n o.1) refl)
  sp_ascii (nest_app p ss) o = all_append ascii (spell_pre p) _ (pre_ascii p o.0) (all_append ascii (spell_args ss)
      (code "E" ∷ code "E" ∷ []) (args_ascii ss o.1) refl)
  sp_ascii (s_lit k s v) o = rw (kind_ascii k) (value_ascii s v o)

  pre_ascii : (p : Pre) → OkPre p → all ascii (spell_pre p) ≡ true
  pre_ascii (p_ref i) o = ref_ascii i
  pre_ascii (p_root n) o = name_ascii n o
  pre_ascii (p_sub p n) o = all_append ascii (spell_pre p) (name_bytes n) (pre_ascii p o.0) (name_ascii n o.1)
  pre_ascii (p_app p ss) o = all_append ascii (spell_pre p) _ (pre_ascii p o.0) (all_append ascii (spell_args ss) (code "E" ∷ [])
      (args_ascii ss o.1) refl)

  args_ascii : (ss : SpArgs) → OkArgs ss → all ascii (spell_args ss) ≡ true
  args_ascii (s_one s) o = sp_ascii s o
  args_ascii (s_also s ss) o = all_append ascii (spell s) (spell_args ss) (sp_ascii s o.0) (args_ascii ss o.1)

const_ascii : (k : Bool) → all ascii (const_byte k) ≡ true
const_ascii true = refl
const_ascii false = refl

fname_ascii : (m : SpName) → OkName m → all ascii (spell_name m) ≡ true
fname_ascii (flat n) o = name_ascii n o
fname_ascii (scoped k p n) o =
    all_append ascii (const_byte k) _ (const_ascii k) (all_append ascii (spell_pre p) _ (pre_ascii p o.0) (all_append ascii (name_bytes n)
    (code "E" ∷ []) (name_ascii n o.1) refl))

params_ascii : (ps : Option SpArgs) → OkParams ps → all ascii (spell_params ps) ≡ true
params_ascii none o = refl
params_ascii (some ss) o = args_ascii ss o

none_high : (t : Text) → all ascii t ≡ true → high t ≡ false
unfolding high
none_high [] h = refl
none_high (x ∷ t) h =
    let k = leb-true x 127 (and_left (ascii x) (all ascii t) h) in
    rw (lt-leb 128 x (omega arith)) (none_high t (and_right (ascii x) (all ascii t) h))

pub symbol_ascii : (σ : Sym) → OkSym σ → high (spell_sym σ) ≡ false
unfolding spell_sym
symbol_ascii (symbol m ps) o =
    none_high (spell_sym (symbol m ps)) (all_append ascii (spell_name m) (spell_params ps) (fname_ascii m o.0) (params_ascii ps o.1))
