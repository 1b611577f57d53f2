-- The first bytes of what a written symbol is made of, and which ways of the reading they leave open.
use Rattle.std.specs.Prelude.{Bool, true, false, not, ◌&&◌, ◌||◌, [], ◌∷◌, ◌++◌, ◌≡◌, refl, ℕ, zero, suc, ◌+◌, ◌-◌, ◌/◌, ◌%◌, ◌<◌, ◌≤◌, length, eqb, ltb}
use Rattle.std.proofs.lemmas.Bool.{false≢true}
use Rattle.std.proofs.Common.{append_assoc, arith, le-leb, ne_eqb, leb-true, ltb-true, ltb-false}
use Prim.Native.Char.{code}
use Rattle.grammar.specs.Text.{Text, b, if◌then◌otherwise◌, same, starts, holds, digit, digit_value}
use Rattle.grammar.specs.Grammar as g
use Rattle.catalogue.specs.Bytes.{all, first, and_left}
use Rattle.catalogue.specs.Laws.Bytes.{not-true, all_append}
use Rattle.catalogue.specs.Tree.{Letter, Wrap, wP, wR, wO, wK, wV, letter_code, wrap_code}
use Rattle.catalogue.specs.Spelling.{Sp, Pre, SpArgs, s_letter, s_wrap, s_ref, plain, templ, retempl, nest_sub, nest_app, s_lit, p_ref, p_root, p_sub, p_app}
use Rattle.catalogue.specs.Spelling.{s_one, s_also, spell, spell_pre, spell_args, name_bytes, length_digits, ref_digits, base36, digit_of}
use Rattle.catalogue.specs.Class.{name_ok, word_byte, listed, reserved}
use Rattle.catalogue.specs.Laws.Numbers.{Some, digit_low, decimal_value, decimal_all, decimal_some, ref_all}
use Rattle.agreement.specs.Laws.Letters.{every_letter}
use Rattle.agreement.specs.Laws.Leaves.{starts_miss, first_of, Named, Numbered, low}

-- ---------------------------------------------------------------- source names

some_first : (p : ℕ → Bool) (t : Text) → Some t → all p t ≡ true → first p t ≡ true
some_first p [] h e = absurd h
some_first p (x ∷ t) h e = and_left (p x) (all p t) e

pub length_digit : (n : Text) → first (digit 10) (length_digits n) ≡ true
length_digit n = some_first (digit 10) (length_digits n) (decimal_some (length n) (length n)) (decimal_all (suc (length n)) (length n))

pub name_long : (n : Text) → name_ok n ≡ true → 1 ≤ length n
unfolding name_ok
name_long [] h = absurd (false≢true h)
name_long (x ∷ n) h = omega arith

name_lead : (n : Text) → name_ok n ≡ true → first (digit 10) n ≡ false
unfolding name_ok
name_lead [] h = refl
name_lead (x ∷ n) h = not-true (digit 10 x) (and_left (not (digit 10 x)) (all word_byte (x ∷ n) && not (listed (x ∷ n) reserved)) h)

pub named : (n : Text) → name_ok n ≡ true → Named (length_digits n) n
named n h =
    record {
      digits = decimal_all (suc (length n)) (length n);
      lead = length_digit n;
      says = decimal_value (suc (length n)) (length n) (omega arith);
      long = name_long n h;
      ends = name_lead n h;
    }

-- ---------------------------------------------------------------- references

digit_of_low : (d : ℕ) → d < 36 → low (digit_of d) ≡ true
unfolding digit_of if◌then◌otherwise◌
digit_of_low d h = go (ltb d 10) refl
  where
    go : (p : Bool) → ltb d 10 ≡ p → low (if p then 48 + d otherwise 65 + (d - 10)) ≡ true
    go true e = let k = ltb-true d 10 e in le-leb (48 + d) 95 (omega arith)
    go false e = let k = ltb-false d 10 e in le-leb (65 + (d - 10)) 95 (omega arith)

base36_low : (k n : ℕ) → n ≤ k → all low (base36 k n) ≡ true
unfolding base36 if◌then◌otherwise◌
base36_low zero n h = rw (digit_of_low n (omega arith)) refl
base36_low (suc k) n h = go (ltb n 36) refl (λ l. base36_low k (n / 36) l)
  where
    go : (p : Bool) → ltb n 36 ≡ p → (n / 36 ≤ k → all low (base36 k (n / 36)) ≡ true)
        → all low (if p then digit_of n ∷ [] otherwise base36 k (n / 36) ++ (digit_of (n % 36) ∷ [])) ≡ true
    go true e ih = rw (digit_of_low n (ltb-true n 36 e)) refl
    go false e ih =
        let l = ltb-false n 36 e in
        all_append low (base36 k (n / 36)) (digit_of (n % 36) ∷ []) (ih (omega arith)) (rw (digit_of_low (n % 36) (omega arith)) refl)

pub ref_low : (i : ℕ) → all low (ref_digits i) ≡ true
unfolding ref_digits
ref_low zero = refl
ref_low (suc i) = base36_low i i (omega arith)

pub numbered : (i : ℕ) → Numbered (ref_digits i)
numbered i = record { digits = ref_all i; capitals = ref_low i }

std_miss : (y : ℕ) (t : Text) → eqb y (code "t") ≡ false → g.std_ahead (code "S" ∷ y ∷ t) ≡ false
unfolding g.std_ahead starts b
std_miss y [] h = refl
std_miss y (z ∷ t) h = rw h refl

low_not_t : (y : ℕ) → low y ≡ true → eqb y (code "t") ≡ false
low_not_t y h = let k = leb-true y 95 h in ne_eqb y 116 (λ e. omega arith)

std_low : (ds r : Text) → all low ds ≡ true → g.std_ahead (code "S" ∷ (ds ++ (code "_" ∷ r))) ≡ false
std_low [] r h = std_miss (code "_") r refl
std_low (y ∷ ds) r h = std_miss y (ds ++ (code "_" ∷ r)) (low_not_t y (and_left (low y) (all low ds) h))

pub no_std : (i : ℕ) (r : Text) → g.std_ahead (code "S" ∷ (ref_digits i ++ (code "_" ∷ r))) ≡ false
no_std i r = std_low (ref_digits i) r (ref_low i)

-- ---------------------------------------------------------------- first bytes

-- a type or an argument begins with none of these
unfoldable pub opens : ℕ → Bool
opens x = not (holds x (b "IBEXJ."))

-- a part of a nested name begins with a digit, a reference with S
unfoldable pub heads : ℕ → Bool
heads x = digit 10 x || eqb x (code "S")

digit_opens : (x : ℕ) → digit 10 x ≡ true → opens x ≡ true
unfolding opens holds b
digit_opens x h =
    let k = digit_low x h in
    let k0 = k.0 in
    let k1 = k.1 in
    rw (
      ne_eqb x 73 (λ e. omega arith),
      ne_eqb x 66 (λ e. omega arith),
      ne_eqb x 69 (λ e. omega arith),
      ne_eqb x 88 (λ e. omega arith),
      ne_eqb x 74 (λ e. omega arith),
      ne_eqb x 46 (λ e. omega arith),
    )

pub first_map : (p q : ℕ → Bool) → ((x : ℕ) → p x ≡ true → q x ≡ true) → (t : Text) → first p t ≡ true → first q t ≡ true
first_map p q f [] h = absurd (false≢true h)
first_map p q f (x ∷ t) h = f x h

pub name_first : (n r : Text) → first (digit 10) (name_bytes n ++ r) ≡ true
name_first n r = rw (append_assoc (length_digits n) n r) (first_of (digit 10) (length_digits n) (n ++ r) (length_digit n))

pub name_opens : (n r : Text) → first opens (name_bytes n ++ r) ≡ true
name_opens n r = first_map (digit 10) opens digit_opens (name_bytes n ++ r) (name_first n r)

letter_opens : (l : Letter) → opens (letter_code l) ≡ true
unfolding opens holds b
letter_opens l = every_letter (λ x. opens
    (letter_code x) ≡ true) refl refl refl refl refl refl refl refl refl refl refl refl refl refl refl refl refl refl refl refl refl l

wrap_opens : (c : Wrap) → opens (wrap_code c) ≡ true
unfolding opens holds b
wrap_opens wP = refl
wrap_opens wR = refl
wrap_opens wO = refl
wrap_opens wK = refl
wrap_opens wV = refl

pub spell_opens : (s : Sp) (r : Text) → first opens (spell s ++ r) ≡ true
unfolding spell opens holds b
spell_opens (s_letter l) r = letter_opens l
spell_opens (s_wrap c s) r = wrap_opens c
spell_opens (s_ref i) r = refl
spell_opens (plain n) r = name_opens n r
spell_opens (templ n ss) r = rw (append_assoc (name_bytes n) (73 ∷ (spell_args ss ++ (69 ∷ []))) r) (name_opens n ((73 ∷ (spell_args ss ++
    (69 ∷ []))) ++ r))
spell_opens (retempl i ss) r = refl
spell_opens (nest_sub q n) r = refl
spell_opens (nest_app q ss) r = refl
spell_opens (s_lit k g v) r = refl

pub args_opens : (ss : SpArgs) (r : Text) → first opens (spell_args ss ++ r) ≡ true
unfolding spell
args_opens (s_one s) r = spell_opens s r
args_opens (s_also s ss) r = rw (append_assoc (spell s) (spell_args ss) r) (spell_opens s (spell_args ss ++ r))

digit_heads : (x : ℕ) → digit 10 x ≡ true → heads x ≡ true
unfolding heads
digit_heads x h = rw h refl

pub pre_heads : (q : Pre) (r : Text) → first heads (spell_pre q ++ r) ≡ true
unfolding spell heads digit digit_value if◌then◌otherwise◌
pre_heads (p_ref i) r = refl
pre_heads (p_root n) r = first_map (digit 10) heads digit_heads (name_bytes n ++ r) (name_first n r)
pre_heads (p_sub q n) r = rw (append_assoc (spell_pre q) (name_bytes n) r) (pre_heads q (name_bytes n ++ r))
pre_heads (p_app q ss) r =
    rw (append_assoc (spell_pre q) (73 ∷ (spell_args ss ++ (69 ∷ []))) r) (pre_heads q ((73 ∷ (spell_args ss ++ (69 ∷ []))) ++ r))

-- ---------------------------------------------------------------- what they rule out

pub some_bytes : (p : ℕ → Bool) (t : Text) → first p t ≡ true → same t [] ≡ false
unfolding same
some_bytes p [] h = absurd (false≢true h)
some_bytes p (x ∷ t) h = refl

-- no arguments and no tag follow
pub record Follow (r : Text) : Type 0 where
  pub no_args : starts r (b "I") ≡ false
  pub no_tag : starts r (b "B") ≡ false

pub follow_end : Follow []
unfolding starts b
follow_end = record { no_args = refl; no_tag = refl }

pub follow_E : (r : Text) → Follow (code "E" ∷ r)
unfolding starts b
follow_E r = record { no_args = refl; no_tag = refl }

pub follow_opens : (r : Text) → first opens r ≡ true → Follow r
unfolding opens holds b
follow_opens r h = record { no_args = starts_miss opens r (b "I") h refl; no_tag = starts_miss opens r (b "B") h refl }

pub no_structor : (t : Text) → first (λ x. not (holds x (b "CD"))) t ≡ true → g.structor_ahead t ≡ false
unfolding g.structor_ahead
no_structor [] h = refl
no_structor (x ∷ []) h = refl
no_structor (x ∷ y ∷ t) h = rw (not-true (holds x (b "CD")) h) refl
