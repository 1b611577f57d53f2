-- Numbers as they are written and read: a length in decimal, the number of a reference in base 36.
use Rattle.std.specs.Prelude.{Bool, true, false, [], ◌∷◌, ◌++◌, ◌≡◌, refl, ℕ, zero, suc, ◌+◌, ◌-◌, ◌*◌, ◌/◌, ◌%◌, ◌≤◌, ◌<◌, leb, ltb}
use Rattle.std.proofs.lemmas.Bool.{false≢true, lt-leb}
use Rattle.std.proofs.Common.{sym, ◌∙◌, ap, arith, ltb-true, ltb-false, leb-true, le-leb, lt-ltb, le-ltb}
use Rattle.grammar.specs.Text.{Text, if◌then◌otherwise◌, between, digit_value, digit, number, decimal}
use Rattle.grammar.specs.Grammar.{index}
use Rattle.catalogue.specs.Bytes.{all, and_left, and_right}
use Rattle.catalogue.specs.Laws.Bytes.{all_append}
use Rattle.catalogue.specs.Spelling.{digit_of, base36, ref_digits}

-- ---------------------------------------------------------------- one digit

pub value_digit : (d : ℕ) → d < 36 → digit_value (digit_of d) ≡ d
unfolding digit_value digit_of if◌then◌otherwise◌
value_digit d h = go (ltb d 10) refl
  where
    go : (p : Bool) → ltb d 10 ≡ p → digit_value (if p then 48 + d otherwise 65 + (d - 10)) ≡ d
    go true e =
        let k = ltb-true d 10 e in
        rw (le-leb 48 (48 + d) (omega arith), le-leb (48 + d) 57 (omega arith)) (omega arith)
    go false e =
        let k = ltb-false d 10 e in
        rw (
          le-leb 48 (65 + (d - 10)) (omega arith),
          lt-leb (65 + (d - 10)) 57 (omega arith),
          le-leb 65 (65 + (d - 10)) (omega arith),
          le-leb (65 + (d - 10)) 90 (omega arith),
        ) (omega arith)

-- a decimal digit is a byte from 48 to 57
pub digit_low : (c : ℕ) → digit 10 c ≡ true → (48 ≤ c) × (c ≤ 57)
unfolding digit digit_value if◌then◌otherwise◌
digit_low c h = go (between 48 57 c) refl (between 65 90 c) (between 97 122 c) h
  where
    go : (p : Bool) → between 48 57 c ≡ p → (q r : Bool)
        → ltb (if p then c - 48 otherwise if q then c - 65 + 10 otherwise if r then c - 97 + 10 otherwise 36) 10 ≡ true → (48 ≤ c) × (c ≤ 57)
    go true e q r k = (leb-true 48 c (and_left (leb 48 c) (leb c 57) e), leb-true c 57 (and_right (leb 48 c) (leb c 57) e))
    go false e true r k = absurd (false≢true (sym (le-ltb (c - 65 + 10) 10 (omega arith)) ∙ k))
    go false e false true k = absurd (false≢true (sym (le-ltb (c - 97 + 10) 10 (omega arith)) ∙ k))
    go false e false false k = absurd (false≢true k)

pub digit_36 : (c : ℕ) → digit 10 c ≡ true → digit 36 c ≡ true
unfolding digit
digit_36 c h = let k = ltb-true (digit_value c) 10 h in lt-ltb (digit_value c) 36 (omega arith)

digit_of_10 : (d : ℕ) → d < 10 → digit_of d ≡ 48 + d
unfolding digit_of if◌then◌otherwise◌
digit_of_10 d h = rw (lt-ltb d 10 h) refl

pub decimal_value_digit : (d : ℕ) → d < 10 → digit_value (48 + d) ≡ d
decimal_value_digit d h = let k : d < 36 = omega arith in rw (digit_of_10 d h) at (value_digit d k)

decimal_digit : (d : ℕ) → d < 10 → digit 10 (48 + d) ≡ true
unfolding digit
decimal_digit d h = rw (decimal_value_digit d h) (lt-ltb d 10 h)

base36_digit : (d : ℕ) → d < 36 → digit 36 (digit_of d) ≡ true
unfolding digit
base36_digit d h = rw (value_digit d h) (lt-ltb d 36 h)

number_snoc : (base n c : ℕ) (t : Text) → number base n (t ++ (c ∷ [])) ≡ number base n t * base + digit_value c
unfolding number
number_snoc base n c [] = refl
number_snoc base n c (d ∷ t) = number_snoc base (n * base + digit_value d) c t

-- something is written
abbrev pub Some : Text → Type 0
Some [] = ⊥
Some (c ∷ t) = Unit {0}

some_snoc : (t : Text) (c : ℕ) → Some (t ++ (c ∷ []))
some_snoc [] c = tt
some_snoc (d ∷ t) c = tt

-- ---------------------------------------------------------------- decimal

pub decimal_value : (k n : ℕ) → n < k → number 10 0 (decimal k n) ≡ n
unfolding decimal number if◌then◌otherwise◌
decimal_value zero n h = absurd (omega arith)
decimal_value (suc k) n h = go (ltb n 10) refl (λ l. decimal_value k (n / 10) l)
  where
    go : (p : Bool) → ltb n 10 ≡ p → (n / 10 < k → number 10 0 (decimal k (n / 10)) ≡ n / 10)
        → number 10 0 (if p then (48 + n) ∷ [] otherwise decimal k (n / 10) ++ ((48 + n % 10) ∷ [])) ≡ n
    go true e ih = rw (decimal_value_digit n (ltb-true n 10 e)) (omega arith)
    go false e ih =
        let l = ltb-false n 10 e in
        rw (number_snoc 10 0 (48 + n % 10) (decimal k (n / 10)), ih (omega arith), decimal_value_digit (n % 10) (omega arith)) (omega arith)

pub decimal_all : (k n : ℕ) → all (digit 10) (decimal k n) ≡ true
unfolding decimal if◌then◌otherwise◌
decimal_all zero n = refl
decimal_all (suc k) n = go (ltb n 10) refl (decimal_all k (n / 10))
  where
    go : (p : Bool) → ltb n 10 ≡ p → all (digit 10) (decimal k (n / 10)) ≡ true
        → all (digit 10) (if p then (48 + n) ∷ [] otherwise decimal k (n / 10) ++ ((48 + n % 10) ∷ [])) ≡ true
    go true e ih = rw (decimal_digit n (ltb-true n 10 e)) refl
    go false e ih = all_append (digit 10) (decimal k (n / 10)) ((48 + n % 10) ∷ []) ih (rw (decimal_digit (n % 10) (omega arith)) refl)

pub decimal_some : (k n : ℕ) → Some (decimal (suc k) n)
unfolding decimal if◌then◌otherwise◌
decimal_some k n = go (ltb n 10)
  where
    go : (p : Bool) → Some (if p then (48 + n) ∷ [] otherwise decimal k (n / 10) ++ ((48 + n % 10) ∷ []))
    go true = tt
    go false = some_snoc (decimal k (n / 10)) (48 + n % 10)

-- ---------------------------------------------------------------- base 36

base36_value : (k n : ℕ) → n ≤ k → number 36 0 (base36 k n) ≡ n
unfolding base36 number if◌then◌otherwise◌
base36_value zero n h = rw (value_digit n (omega arith)) (omega arith)
base36_value (suc k) n h = go (ltb n 36) refl (λ l. base36_value k (n / 36) l)
  where
    go : (p : Bool) → ltb n 36 ≡ p → (n / 36 ≤ k → number 36 0 (base36 k (n / 36)) ≡ n / 36)
        → number 36 0 (if p then digit_of n ∷ [] otherwise base36 k (n / 36) ++ (digit_of (n % 36) ∷ [])) ≡ n
    go true e ih = rw (value_digit n (ltb-true n 36 e)) (omega arith)
    go false e ih =
        let l = ltb-false n 36 e in
        rw (number_snoc 36 0 (digit_of (n % 36)) (base36 k (n / 36)), ih (omega arith), value_digit (n % 36) (omega arith)) (omega arith)

base36_all : (k n : ℕ) → n ≤ k → all (digit 36) (base36 k n) ≡ true
unfolding base36 if◌then◌otherwise◌
base36_all zero n h = rw (base36_digit n (omega arith)) refl
base36_all (suc k) n h = go (ltb n 36) refl (λ l. base36_all k (n / 36) l)
  where
    go : (p : Bool) → ltb n 36 ≡ p → (n / 36 ≤ k → all (digit 36) (base36 k (n / 36)) ≡ true)
        → all (digit 36) (if p then digit_of n ∷ [] otherwise base36 k (n / 36) ++ (digit_of (n % 36) ∷ [])) ≡ true
    go true e ih = rw (base36_digit n (ltb-true n 36 e)) refl
    go false e ih =
        let l = ltb-false n 36 e in
        all_append (digit 36) (base36 k (n / 36)) (digit_of (n % 36) ∷ []) (ih (omega arith)) (rw (base36_digit (n % 36) (omega arith)) refl)

base36_some : (k n : ℕ) → Some (base36 k n)
unfolding base36 if◌then◌otherwise◌
base36_some zero n = tt
base36_some (suc k) n = go (ltb n 36)
  where
    go : (p : Bool) → Some (if p then digit_of n ∷ [] otherwise base36 k (n / 36) ++ (digit_of (n % 36) ∷ []))
    go true = tt
    go false = some_snoc (base36 k (n / 36)) (digit_of (n % 36))

index_some : (t : Text) → Some t → index 36 t ≡ suc (number 36 0 t)
unfolding index
index_some [] h = absurd h
index_some (c ∷ t) h = omega arith

pub ref_all : (i : ℕ) → all (digit 36) (ref_digits i) ≡ true
unfolding ref_digits
ref_all zero = refl
ref_all (suc i) = base36_all i i (omega arith)

-- the grammar reads the digits of a reference as its number
pub ref_index : (i : ℕ) → index 36 (ref_digits i) ≡ i
unfolding ref_digits index
ref_index zero = refl
ref_index (suc i) = index_some (base36 i i) (base36_some i i) ∙ ap suc (base36_value i i (omega arith))
