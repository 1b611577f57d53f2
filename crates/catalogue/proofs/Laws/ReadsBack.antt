-- The recogniser reads every spelling back, not only normal ones, where source names and values are permitted.
use Rattle.std.specs.Prelude.{Bool, true, false, ◌||◌, [], ◌∷◌, ◌++◌, ◌≡◌, refl, ℕ, suc, ◌+◌, ◌-◌, ◌≤◌, ◌<◌, eqb, length}
use Rattle.std.proofs.Common.{append_assoc, ◌∙◌, ap, arith, length-append, le-leb, ne_eqb}
use Rattle.std.proofs.Math.Option.{some}
use Prim.Native.Char.{code}
use Rattle.std.proofs.Math.Seq.{take-append_seam, drop-append_seam}
use Rattle.grammar.specs.Text.{Text, if◌then◌otherwise◌, choose, digit, digit_value}
use Rattle.catalogue.specs.Bytes.{all, first, and_left}
use Rattle.catalogue.specs.Laws.Bytes.{or_left, or_right, run_of, past_of}
use Rattle.catalogue.specs.Tree.{Letter, Wrap, Kind, letter_code, wrap_code, kind_code, lv, lw, lb, lc, la, lh, ls, lt, li, lj, ll, lm, lx, ly, ln, lo}
use Rattle.catalogue.specs.Tree.{lf, ld, le, lg, lz, wP, wR, wO, wK, wV, kb, ki, kj, kl, km}
use Rattle.catalogue.specs.Spelling.{Sp, Pre, SpArgs, s_letter, s_wrap, s_ref, plain, templ, retempl, nest_sub, nest_app, s_lit, p_ref, p_root, p_sub}
use Rattle.catalogue.specs.Spelling.{p_app, s_one, s_also, ref_digits, ref_bytes, length_digits, name_bytes, minus, spell, spell_pre, spell_args}
use Rattle.catalogue.specs.Class.{name_ok}
use Rattle.catalogue.specs.Laws.Numbers.{digit_low, Some, decimal_value, decimal_all, decimal_some, ref_all, ref_index}
use Rattle.catalogue.proofs.Laws.Back.{name_start}
use Rattle.catalogue.specs.Recogniser.{Rd, rd, bind, if_next, cut, read_name, read_ref, with_code, all_kinds, with_kind, read_lit, lead_letter}
use Rattle.catalogue.specs.Recogniser.{lead_wrap, lead_digit, lead, finish, parse, parse_nest, parse_more, parse_args}

-- ---------------------------------------------------------------- leaves

cut_at : (n r : Text) → cut (length n) (n ++ r) ≡ rd n r
unfolding cut if◌then◌otherwise◌
cut_at n r =
    rw (le-leb (length n) (length (n ++ r)) (rw (length-append n r) (omega arith)))
    (rw (take-append_seam n r, drop-append_seam n r) refl)

pub digits_all : (n : Text) → all (digit 10) (length_digits n) ≡ true
digits_all n = decimal_all (suc (length n)) (length n)

pub digits_some : (n : Text) → Some (length_digits n)
digits_some n = decimal_some (length n) (length n)

pub name_read : (n r : Text) → name_ok n ≡ true → read_name (length_digits n ++ (n ++ r)) ≡ rd n r
unfolding read_name
name_read n r h =
    rw (
      run_of (digit 10) (length_digits n) (n ++ r) (digits_all n) (name_start n r h),
      past_of (digit 10) (length_digits n) (n ++ r) (digits_all n) (name_start n r h),
      decimal_value (suc (length n)) (length n) (omega arith),
    ) (cut_at n r)

pub ref_read : (i : ℕ) (r : Text) → read_ref (ref_digits i ++ (code "_" ∷ r)) ≡ rd i r
unfolding read_ref digit digit_value if◌then◌otherwise◌
ref_read i r =
    rw (past_of (digit 36) (ref_digits i) (code "_" ∷ r) (ref_all i) refl, run_of (digit 36) (ref_digits i) (code "_" ∷ r) (ref_all i) refl, ref_index i) refl

pub lead_digit_is : (c : ℕ) → digit 10 c ≡ true → lead c ≡ lead_digit
unfolding lead if◌then◌otherwise◌
lead_digit_is c h = rw h refl

pub lead_letter_is : (l : Letter) → lead (letter_code l) ≡ lead_letter l
unfolding lead digit digit_value if◌then◌otherwise◌ choose with_code
lead_letter_is lv = refl
lead_letter_is lw = refl
lead_letter_is lb = refl
lead_letter_is lc = refl
lead_letter_is la = refl
lead_letter_is lh = refl
lead_letter_is ls = refl
lead_letter_is lt = refl
lead_letter_is li = refl
lead_letter_is lj = refl
lead_letter_is ll = refl
lead_letter_is lm = refl
lead_letter_is lx = refl
lead_letter_is ly = refl
lead_letter_is ln = refl
lead_letter_is lo = refl
lead_letter_is lf = refl
lead_letter_is ld = refl
lead_letter_is le = refl
lead_letter_is lg = refl
lead_letter_is lz = refl

pub lead_wrap_is : (w : Wrap) → lead (wrap_code w) ≡ lead_wrap w
unfolding lead digit digit_value if◌then◌otherwise◌ choose with_code
lead_wrap_is wP = refl
lead_wrap_is wR = refl
lead_wrap_is wO = refl
lead_wrap_is wK = refl
lead_wrap_is wV = refl

-- ---------------------------------------------------------------- neither I nor E comes next

abbrev pub is_ie : ℕ → Bool
is_ie c = eqb c (code "I") || eqb c (code "E")

pub digit_IE : (c : ℕ) → digit 10 c ≡ true → is_ie c ≡ false
digit_IE c h =
    let k = digit_low c h in
    let z : eqb c 73 ≡ false = ne_eqb c 73 (λ e. (omega arith)) in
    let y : eqb c 69 ≡ false = ne_eqb c 69 (λ e. (omega arith)) in
    rw (z, y) refl

-- what the first digit of a source name is not
pub digits_first : (p : ℕ → Bool) → ((c : ℕ) → digit 10 c ≡ true → p c ≡ false) → (d s : Text) → Some d → all (digit 10) d ≡ true
    → first p (d ++ s) ≡ false
digits_first p t [] s h e = absurd h
digits_first p t (c ∷ d) s h e = t c (and_left (digit 10 c) (all (digit 10) d) e)

pub name_first : (p : ℕ → Bool) → ((c : ℕ) → digit 10 c ≡ true → p c ≡ false) → (n r : Text) → first p (name_bytes n ++ r) ≡ false
name_first p t n r = rw (append_assoc (length_digits n) n r) (digits_first p t (length_digits n) (n ++ r) (digits_some n) (digits_all n))

letter_IE : (l : Letter) → is_ie (letter_code l) ≡ false
letter_IE lv = refl
letter_IE lw = refl
letter_IE lb = refl
letter_IE lc = refl
letter_IE la = refl
letter_IE lh = refl
letter_IE ls = refl
letter_IE lt = refl
letter_IE li = refl
letter_IE lj = refl
letter_IE ll = refl
letter_IE lm = refl
letter_IE lx = refl
letter_IE ly = refl
letter_IE ln = refl
letter_IE lo = refl
letter_IE lf = refl
letter_IE ld = refl
letter_IE le = refl
letter_IE lg = refl
letter_IE lz = refl

wrap_IE : (w : Wrap) → is_ie (wrap_code w) ≡ false
wrap_IE wP = refl
wrap_IE wR = refl
wrap_IE wO = refl
wrap_IE wK = refl
wrap_IE wV = refl

first_IE : (s : Sp) (r : Text) → first is_ie (spell s ++ r) ≡ false
unfolding spell
first_IE (s_letter l) r = letter_IE l
first_IE (s_wrap c s) r = wrap_IE c
first_IE (s_ref i) r = refl
first_IE (plain n) r = name_first is_ie digit_IE n r
first_IE (templ n ss) r = rw (append_assoc (name_bytes n) (73 ∷ (spell_args ss ++ (69 ∷ []))) r) (name_first is_ie digit_IE n (73 ∷ (spell_args ss ++ (69 ∷ [])) ++ r))
first_IE (retempl i ss) r = refl
first_IE (nest_sub q n) r = refl
first_IE (nest_app q ss) r = refl
first_IE (s_lit k g v) r = refl

pub args_IE : (ss : SpArgs) (r : Text) → first is_ie (spell_args ss ++ r) ≡ false
unfolding spell
args_IE (s_one s) r = first_IE s r
args_IE (s_also s ss) r = rw (append_assoc (spell s) (spell_args ss) r) (first_IE s (spell_args ss ++ r))

pub no_I : (r : Text) → first is_ie r ≡ false → first (λ c. eqb c (code "I")) r ≡ false
no_I [] h = refl
no_I (c ∷ r) h = or_left (eqb c 73) (eqb c 69) h

pub no_E : (r : Text) → first is_ie r ≡ false → first (λ c. eqb c (code "E")) r ≡ false
no_E [] h = refl
no_E (c ∷ r) h = or_right (eqb c 73) (eqb c 69) h

pub next_no : {A : Type 0} (c : ℕ) (r : Text) (g : Text → A) (x : A) → first (λ d. eqb d c) r ≡ false → if_next c r g x ≡ x
unfolding if◌then◌otherwise◌
next_no c [] g x h = refl
next_no c (d ∷ r) g x h = rw h refl

-- ---------------------------------------------------------------- one step

abbrev plain_or : Text → Text → (Text → Rd SpArgs) → Rd Sp
plain_or n r args = if_next (code "I") r (λ r'. bind (args r') (λ ss r''. rd (templ n ss) r'')) (rd (plain n) r)

abbrev refs_or : ℕ → Text → (Text → Rd SpArgs) → Rd Sp
refs_or i r args = if_next (code "I") r (λ r'. bind (args r') (λ ss r''. rd (retempl i ss) r'')) (rd (s_ref i) r)

parse_digits : (d t : Text) (f : ℕ) → Some d → all (digit 10) d ≡ true → (n r : Text) → read_name (d ++ t) ≡ rd n r
    → parse (suc f) (d ++ t) ≡ plain_or n r (λ r'. parse_args f r')
unfolding parse
parse_digits [] t f h e n r k = absurd h
parse_digits (c ∷ d) t f h e n r k = rw (lead_digit_is c (and_left (digit 10 c) (all (digit 10) d) e)) (rw k refl)

nest_digits : (d t : Text) (f : ℕ) → Some d → all (digit 10) d ≡ true → (n r : Text) → read_name (d ++ t) ≡ rd n r
    → parse_nest (suc f) (d ++ t) ≡ parse_more f (p_root n) r
unfolding parse
nest_digits [] t f h e n r k = absurd h
nest_digits (c ∷ d) t f h e n r k = rw (lead_digit_is c (and_left (digit 10 c) (all (digit 10) d) e)) (rw k refl)

more_digits : (d t : Text) (f : ℕ) (q : Pre) → Some d → all (digit 10) d ≡ true → (n r : Text) → read_name (d ++ t) ≡ rd n r
    → parse_more (suc f) q (d ++ t) ≡ parse_more f (p_sub q n) r
unfolding parse
more_digits [] t f q h e n r k = absurd h
more_digits (c ∷ d) t f q h e n r k =
    let z = digit_IE c (and_left (digit 10 c) (all (digit 10) d) e) in
    rw (or_left (eqb c 73) (eqb c 69) z, or_right (eqb c 73) (eqb c 69) z) (rw k refl)

parse_name : (n r : Text) (f : ℕ) → name_ok n ≡ true → parse (suc f) (name_bytes n ++ r) ≡ plain_or n r (λ r'. parse_args f r')
parse_name n r f h =
    rw (append_assoc (length_digits n) n r) (parse_digits (length_digits n) (n ++ r) f (digits_some n) (digits_all n) n r (name_read n r h))

nest_name : (n r : Text) (f : ℕ) → name_ok n ≡ true → parse_nest (suc f) (name_bytes n ++ r) ≡ parse_more f (p_root n) r
nest_name n r f h =
    rw (append_assoc (length_digits n) n r) (nest_digits (length_digits n) (n ++ r) f (digits_some n) (digits_all n) n r (name_read n r h))

more_name : (n r : Text) (f : ℕ) (q : Pre) → name_ok n ≡ true → parse_more (suc f) q (name_bytes n ++ r) ≡ parse_more f (p_sub q n) r
more_name n r f q h =
    rw (append_assoc (length_digits n) n r) (more_digits (length_digits n) (n ++ r) f q (digits_some n) (digits_all n) n r (name_read n r h))

parse_ref : (i : ℕ) (r : Text) (f : ℕ) → parse (suc f) (ref_bytes i ++ r) ≡ refs_or i r (λ r'. parse_args f r')
unfolding parse lead digit digit_value if◌then◌otherwise◌
parse_ref i r f = rw (append_assoc (ref_digits i) (95 ∷ []) r, ref_read i r) refl

nest_ref : (i : ℕ) (r : Text) (f : ℕ) → parse_nest (suc f) (ref_bytes i ++ r) ≡ parse_more f (p_ref i) r
unfolding parse lead digit digit_value if◌then◌otherwise◌
nest_ref i r f = rw (append_assoc (ref_digits i) (95 ∷ []) r, ref_read i r) refl

-- ---------------------------------------------------------------- lengths

some_long : (d : Text) → Some d → 1 ≤ length d
some_long [] h = absurd h
some_long (c ∷ d) h = omega arith

pub name_some : (n : Text) → name_ok n ≡ true → 1 ≤ length n
unfolding name_ok
name_some [] h = let z : ◌≡◌ {A = ℕ} 0 1 = cc in omega arith
name_some (c ∷ n) h = omega arith

pub name_long : (n r : Text) → name_ok n ≡ true → length r + 2 ≤ length (name_bytes n ++ r)
name_long n r h =
    let k = some_long (length_digits n) (digits_some n) in
    let k' = name_some n h in
    simp length-append (omega arith)

pub name_one : (n : Text) → 1 ≤ length (name_bytes n)
name_one n = let k = some_long (length_digits n) (digits_some n) in simp length-append (omega arith)

pub name_two : (n : Text) → name_ok n ≡ true → 2 ≤ length (name_bytes n)
name_two n h =
    let k = some_long (length_digits n) (digits_some n) in
    let k' = name_some n h in
    simp length-append (omega arith)

ref_long : (i : ℕ) (r : Text) → length r + 2 ≤ length (ref_bytes i ++ r)
ref_long i r = simp length-append (omega arith)

-- ---------------------------------------------------------------- literals

pub kind_at : (k : Kind) → with_code kind_code (kind_code k) all_kinds ≡ some k
unfolding with_code if◌then◌otherwise◌
kind_at kb = refl
kind_at ki = refl
kind_at kj = refl
kind_at kl = refl
kind_at km = refl

pub no_n : (v r : Text) → all (digit 10) v ≡ true → first (λ c. eqb c (code "n")) (v ++ (69 ∷ r)) ≡ false
no_n [] r h = refl
no_n (c ∷ v) r h = let k = digit_low c (and_left (digit 10 c) (all (digit 10) v) h) in ne_eqb c 110 (λ e. (omega arith))

with_kind_is : (k : Kind) (g : Bool) (v r : Text) → all (digit 10) v ≡ true → with_kind (some k) g (v ++ (69 ∷ r)) ≡ rd (s_lit k g v) r
unfolding digit digit_value if◌then◌otherwise◌
with_kind_is k g v r h = rw (past_of (digit 10) v (69 ∷ r) h refl, run_of (digit 10) v (69 ∷ r) h refl) refl

lit_read : (k : Kind) (g : Bool) (v r : Text) → all (digit 10) v ≡ true → read_lit (kind_code k ∷ (minus g ++ (v ++ (69 ∷ r)))) ≡ rd (s_lit k g v) r
unfolding read_lit if◌then◌otherwise◌
lit_read k true v r h = rw (kind_at k) (with_kind_is k true v r h)
lit_read k false v r h =
    rw (kind_at k)
    (next_no 110 (v ++ (69 ∷ r)) (λ r'. with_kind (some k) true r') (with_kind (some k) false (v ++ (69 ∷ r))) (no_n v r h) ∙ with_kind_is k false v r h)

-- ---------------------------------------------------------------- every spelling with permitted names and values

abbrev mutual
  pub OkSp : Sp → Type 0
  OkSp (s_letter l) = Unit {0}
  OkSp (s_wrap c s) = OkSp s
  OkSp (s_ref i) = Unit {0}
  OkSp (plain n) = name_ok n ≡ true
  OkSp (templ n ss) = (name_ok n ≡ true) × OkArgs ss
  OkSp (retempl i ss) = OkArgs ss
  OkSp (nest_sub q n) = OkPre q × (name_ok n ≡ true)
  OkSp (nest_app q ss) = OkPre q × OkArgs ss
  OkSp (s_lit k g v) = all (digit 10) v ≡ true

  pub OkPre : Pre → Type 0
  OkPre (p_ref i) = Unit {0}
  OkPre (p_root n) = name_ok n ≡ true
  OkPre (p_sub q n) = OkPre q × (name_ok n ≡ true)
  OkPre (p_app q ss) = OkPre q × OkArgs ss

  pub OkArgs : SpArgs → Type 0
  OkArgs (s_one s) = OkSp s
  OkArgs (s_also s ss) = OkSp s × OkArgs ss

pre_step : (f : ℕ) → 0 < f → f ≡ suc (f - 1)
pre_step f h = omega arith

more_end : (f : ℕ) (q : Pre) (r : Text) → 0 < f → parse_more f q (69 ∷ r) ≡ finish q r
unfolding parse
more_end f q r h = rw (pre_step f h) refl

more_name' : (f : ℕ) (q : Pre) (n r : Text) → 0 < f → name_ok n ≡ true → parse_more f q (name_bytes n ++ r) ≡ parse_more (f - 1) (p_sub q n) r
more_name' f q n r h o = ap (λ k. parse_more k q (name_bytes n ++ r)) (pre_step f h) ∙ more_name n r (f - 1) q o

more_args : (f : ℕ) (q : Pre) (ss : SpArgs) (r : Text) → 0 < f → parse_args (f - 1) (spell_args ss ++ (69 ∷ r)) ≡ rd ss r
    → parse_more f q (73 ∷ (spell_args ss ++ (69 ∷ r))) ≡ parse_more (f - 1) (p_app q ss) r
unfolding parse
more_args f q ss r h e = ap (λ k. parse_more k q (73 ∷ (spell_args ss ++ (69 ∷ r)))) (pre_step f h) ∙ rw e refl

-- the brackets of ++ moved to the right
pub front : (x y r : Text) → (x ++ (73 ∷ (y ++ (69 ∷ [])))) ++ r ≡ x ++ (73 ∷ (y ++ (69 ∷ r)))
front x y r = simp append_assoc

pub inner : (x y r : Text) → (x ++ (y ++ (69 ∷ []))) ++ r ≡ x ++ (y ++ (69 ∷ r))
inner x y r = simp append_assoc

pub inner' : (x y r : Text) → (x ++ (73 ∷ (y ++ (69 ∷ 69 ∷ [])))) ++ r ≡ x ++ (73 ∷ (y ++ (69 ∷ 69 ∷ r)))
inner' x y r = simp append_assoc

pub spell_long : (s : Sp) → OkSp s → (r : Text) → length r + 1 ≤ length (spell s ++ r)
unfolding spell
spell_long (s_letter l) o r = omega arith
spell_long (s_wrap c s) o r = simp length-append (omega arith)
spell_long (s_ref i) o r = simp length-append (omega arith)
spell_long (plain n) o r = let k = name_long n r o in omega arith
spell_long (templ n ss) o r = let k = name_some n o.0 in simp length-append (omega arith)
spell_long (retempl i ss) o r = simp length-append (omega arith)
spell_long (nest_sub p n) o r = simp length-append (omega arith)
spell_long (nest_app p ss) o r = simp length-append (omega arith)
spell_long (s_lit k g v) o r = simp length-append (omega arith)

mutual
  unfolding parse spell lead digit digit_value if◌then◌otherwise◌ choose with_code

  pub parse_spell : (s : Sp) → OkSp s → (r : Text) → first (λ c. eqb c (code "I")) r ≡ false → (f : ℕ) → length (spell s ++ r) ≤ f
      → parse f (spell s ++ r) ≡ rd s r
  parse_spell (s_letter l) o r q f h =
      let e : f ≡ suc (f - 1) = omega arith in
      rw e (rw (lead_letter_is l) refl)
  parse_spell (s_wrap c s) o r q f h =
      let e : f ≡ suc (f - 1) = omega arith in
      rw e (rw (lead_wrap_is c) (rw (parse_spell s o r q (f - 1) (omega arith)) refl))
  parse_spell (s_ref i) o r q f h =
      let e : f ≡ suc (f - 1) = omega arith in
      rw e (parse_ref i r (f - 1) ∙ next_no 73 r (λ r'. bind (parse_args (f - 1) r') (λ ss r''. rd (retempl i ss) r'')) (rd (s_ref i) r) q)
  parse_spell (plain n) o r q f h =
      let k = name_long n r o in
      let e : f ≡ suc (f - 1) = omega arith in
      rw e (parse_name n r (f - 1) o ∙ next_no 73 r (λ r'. bind (parse_args (f - 1) r') (λ ss r''. rd (templ n ss) r'')) (rd (plain n) r) q)
  parse_spell (templ n ss) o r q f h =
      let h' : length (name_bytes n ++ (73 ∷ (spell_args ss ++ (69 ∷ r)))) ≤ f = rw (front (name_bytes n) (spell_args ss) r) at h in
      let k = name_long n (73 ∷ (spell_args ss ++ (69 ∷ r))) o.0 in
      let e : f ≡ suc (f - 1) = omega arith in
      rw (front (name_bytes n) (spell_args ss) r, e)
      (parse_name n (73 ∷ (spell_args ss ++ (69 ∷ r))) (f - 1) o.0 ∙ rw (args_spell ss o.1 r (f - 1) (omega arith)) refl)
  parse_spell (retempl i ss) o r q f h =
      let h' : length (ref_bytes i ++ (73 ∷ (spell_args ss ++ (69 ∷ r)))) ≤ f = rw (front (ref_digits i ++ (95 ∷ [])) (spell_args ss) r) at h in
      let k = ref_long i (73 ∷ (spell_args ss ++ (69 ∷ r))) in
      let e : f ≡ suc (f - 1) = omega arith in
      rw (front (ref_digits i ++ (95 ∷ [])) (spell_args ss) r, e)
      (parse_ref i (73 ∷ (spell_args ss ++ (69 ∷ r))) (f - 1) ∙ rw (args_spell ss o r (f - 1) (omega arith)) refl)
  parse_spell (nest_sub p n) o r q f h =
      let h' : length (spell_pre p ++ (name_bytes n ++ (69 ∷ r))) < f = rw (inner (spell_pre p) (name_bytes n) r) at h in
      let e : f ≡ suc (f - 1) = omega arith in
      let t = nest_spell p o.0 (name_bytes n ++ (69 ∷ r)) (f - 1) (omega arith) in
      let k = name_long n (69 ∷ r) o.1 in
      rw (inner (spell_pre p) (name_bytes n) r, e)
      (t.2 ∙ more_name' t.0 p n (69 ∷ r) (omega arith) o.1 ∙ more_end (t.0 - 1) (p_sub p n) r (omega arith))
  parse_spell (nest_app p ss) o r q f h =
      let h' : length (spell_pre p ++ (73 ∷ (spell_args ss ++ (69 ∷ 69 ∷ r)))) < f = rw (inner' (spell_pre p) (spell_args ss) r) at h in
      let e : f ≡ suc (f - 1) = omega arith in
      let t = nest_spell p o.0 (73 ∷ (spell_args ss ++ (69 ∷ 69 ∷ r))) (f - 1) (omega arith) in
      rw (inner' (spell_pre p) (spell_args ss) r, e)
      (t.2 ∙ more_args t.0 p ss (69 ∷ r) (omega arith) (args_spell ss o.1 (69 ∷ r) (t.0 - 1) (omega arith))
      ∙ more_end (t.0 - 1) (p_app p ss) r (omega arith))
  parse_spell (s_lit k g v) o r q f h =
      let e : f ≡ suc (f - 1) = omega arith in
      rw (inner (minus g) v r, e) (lit_read k g v r o)

  -- leading parts: the loop goes on with fuel that is enough
  nest_spell : (p : Pre) → OkPre p → (r : Text) (f : ℕ) → length (spell_pre p ++ r) ≤ f
      → (g : ℕ) × (length r < g) × (parse_nest f (spell_pre p ++ r) ≡ parse_more g p r)
  nest_spell (p_ref i) o r f h =
      let k = ref_long i r in
      let e : f ≡ suc (f - 1) = omega arith in
      (f - 1, omega arith, ap (λ k'. parse_nest k' (ref_bytes i ++ r)) e ∙ nest_ref i r (f - 1))
  nest_spell (p_root n) o r f h =
      let k = name_long n r o in
      let e : f ≡ suc (f - 1) = omega arith in
      (f - 1, omega arith, ap (λ k'. parse_nest k' (name_bytes n ++ r)) e ∙ nest_name n r (f - 1) o)
  nest_spell (p_sub p n) o r f h =
      let h' : length (spell_pre p ++ (name_bytes n ++ r)) ≤ f = rw (append_assoc (spell_pre p) (name_bytes n) r) at h in
      let t = nest_spell p o.0 (name_bytes n ++ r) f h' in
      let k = name_long n r o.1 in
      (t.0 - 1, omega arith, rw (append_assoc (spell_pre p) (name_bytes n) r) (t.2 ∙ more_name' t.0 p n r (omega arith) o.1))
  nest_spell (p_app p ss) o r f h =
      let h' : length (spell_pre p ++ (73 ∷ (spell_args ss ++ (69 ∷ r)))) ≤ f = rw (front (spell_pre p) (spell_args ss) r) at h in
      let t = nest_spell p o.0 (73 ∷ (spell_args ss ++ (69 ∷ r))) f h' in
      let k : length r + 1 ≤ length (spell_args ss ++ (69 ∷ r)) = simp length-append (omega arith) in (
        t.0 - 1,
        omega arith,
        rw (front (spell_pre p) (spell_args ss) r)
            (t.2 ∙ more_args t.0 p ss r (omega arith) (args_spell ss o.1 r (t.0 - 1) (omega arith))),
      )

  args_spell : (ss : SpArgs) → OkArgs ss → (r : Text) (f : ℕ) → length (spell_args ss ++ (69 ∷ r)) < f
      → parse_args f (spell_args ss ++ (69 ∷ r)) ≡ rd ss r
  args_spell (s_one s) o r f h =
      let e : f ≡ suc (f - 1) = omega arith in
      rw e (rw (parse_spell s o (69 ∷ r) refl (f - 1) (omega arith)) refl)
  args_spell (s_also s ss) o r f h =
      let h' : length (spell s ++ (spell_args ss ++ (69 ∷ r))) < f = rw (append_assoc (spell s) (spell_args ss) (69 ∷ r)) at h in
      let k = spell_long s o.0 (spell_args ss ++ (69 ∷ r)) in
      let e : f ≡ suc (f - 1) = omega arith in
      let ie = args_IE ss (69 ∷ r) in
      rw (append_assoc (spell s) (spell_args ss) (69 ∷ r), e)
      (rw (parse_spell s o.0 (spell_args ss ++ (69 ∷ r)) (no_I (spell_args ss ++ (69 ∷ r)) ie) (f - 1) (omega arith))
      (next_no 69 (spell_args ss ++ (69 ∷ r)) (λ r'. rd (s_one s) r')
      (bind (parse_args (f - 1) (spell_args ss ++ (69 ∷ r))) (λ ss' r'. rd (s_also s ss') r')) (no_E (spell_args ss ++ (69 ∷ r)) ie)
      ∙ rw (args_spell ss o.1 r (f - 1) (omega arith)) refl))
