-- Numbers without leading zeros: a number is written in one way, and what is read so is that way.
use Rattle.std.specs.Prelude.{Bool, true, false, not, ◌&&◌, [], ◌∷◌, ◌++◌, ◌⊎◌, ◌≡◌, refl, ℕ, zero, suc, ◌+◌, ◌-◌, ◌*◌, ◌/◌, ◌%◌, ◌≤◌, ◌<◌, eqb, leb, ltb}
use Rattle.std.proofs.lemmas.Bool.{false≢true, lt-leb}
use Rattle.std.proofs.Common.{append_assoc, append-nil, inl, inr, sym, ◌∙◌, ap, arith, ltb-true, ltb-false, leb-true, le-leb, lt-ltb, le-ltb, ne_eqb}
use Prim.Native.Char.{code}
use Rattle.grammar.specs.Text.{Text, if◌then◌otherwise◌, between, run, past, digit_value, digit, number, decimal}
use Rattle.grammar.specs.Laws.Text.{decimal_last}
use Rattle.grammar.specs.Grammar.{index}
use Rattle.catalogue.specs.Bytes.{all, first, and_left, and_right}
use Rattle.catalogue.specs.Laws.Bytes.{or_cases, or_true, not-true, all_append}
use Rattle.catalogue.specs.Laws.Numbers.{digit_low}
use Rattle.catalogue.specs.Spelling.{digit_of, base36, ref_digits}
use Rattle.catalogue.specs.Class.{leading_zero}
use Rattle.normal_walk.specs.Walk.{capital, canonical}

abbrev pub is_zero : ℕ → Bool
is_zero c = eqb c (code "0")

-- ---------------------------------------------------------------- runs

pub run_past : (p : ℕ → Bool) (s : Text) → run p s ++ past p s ≡ s
unfolding run past if◌then◌otherwise◌
run_past p [] = refl
run_past p (x ∷ s) = go (run_past p s) (p x)
  where
    go : run p s ++ past p s ≡ s → (q : Bool) → (if q then x ∷ run p s otherwise []) ++ (if q then past p s otherwise x ∷ s) ≡ x ∷ s
    go ih true = ap (◌∷◌ x) ih
    go ih false = refl

pub run_all : (p : ℕ → Bool) (s : Text) → all p (run p s) ≡ true
unfolding run if◌then◌otherwise◌
run_all p [] = refl
run_all p (x ∷ s) = go (run_all p s) (p x) refl
  where
    go : all p (run p s) ≡ true → (q : Bool) → p x ≡ q → all p (if q then x ∷ run p s otherwise []) ≡ true
    go ih true e = rw e ih
    go ih false e = refl

-- ---------------------------------------------------------------- one digit

value_low : (c : ℕ) → 48 ≤ c → c ≤ 57 → digit_value c ≡ c - 48
unfolding digit_value if◌then◌otherwise◌
value_low c h k = rw (le-leb 48 c h, le-leb c 57 k) refl

value_high : (c : ℕ) → 65 ≤ c → c ≤ 90 → digit_value c ≡ c - 65 + 10
unfolding digit_value if◌then◌otherwise◌
value_high c h k = rw (le-leb 48 c (omega arith), lt-leb c 57 (omega arith), le-leb 65 c h, le-leb c 90 k) refl

digit_value_10 : (c : ℕ) → digit 10 c ≡ true → (c ≡ 48 + digit_value c) × (digit_value c < 10)
digit_value_10 c h =
    let k = digit_low c h in
    let e = value_low c k.0 k.1 in
    (omega arith, omega arith)

capital_range : (c : ℕ) → capital c ≡ true → ((48 ≤ c) × (c ≤ 57)) ⊎ ((65 ≤ c) × (c ≤ 90))
capital_range c h = go (or_cases (between 48 57 c) (between 65 90 c) h)
  where
    go : (between 48 57 c ≡ true) ⊎ (between 65 90 c ≡ true) → ((48 ≤ c) × (c ≤ 57)) ⊎ ((65 ≤ c) × (c ≤ 90))
    go (inl e) = inl (leb-true 48 c (and_left (leb 48 c) (leb c 57) e), leb-true c 57 (and_right (leb 48 c) (leb c 57) e))
    go (inr e) = inr (leb-true 65 c (and_left (leb 65 c) (leb c 90) e), leb-true c 90 (and_right (leb 65 c) (leb c 90) e))

capital_digit : (c : ℕ) → capital c ≡ true → (digit_of (digit_value c) ≡ c) × (digit_value c < 36)
unfolding digit_of if◌then◌otherwise◌
capital_digit c h = go (capital_range c h)
  where
    go : ((48 ≤ c) × (c ≤ 57)) ⊎ ((65 ≤ c) × (c ≤ 90)) → (digit_of (digit_value c) ≡ c) × (digit_value c < 36)
    go (inl r) = let e = value_low c r.0 r.1 in rw e (rw (lt-ltb (c - 48) 10 (omega arith)) (omega arith), omega arith)
    go (inr r) =
        let e = value_high c r.0 r.1 in
        rw e (rw (le-ltb (c - 65 + 10) 10 (omega arith)) (omega arith), omega arith)

digit_capital : (d : ℕ) → d < 36 → capital (digit_of d) ≡ true
unfolding digit_of if◌then◌otherwise◌
digit_capital d h = go (ltb d 10) refl
  where
    go : (p : Bool) → ltb d 10 ≡ p → capital (if p then 48 + d otherwise 65 + (d - 10)) ≡ true
    go true e = let k = ltb-true d 10 e in rw (le-leb 48 (48 + d) (omega arith), le-leb (48 + d) 57 (omega arith)) refl
    go false e =
        let k = ltb-false d 10 e in
        rw (le-leb 65 (65 + (d - 10)) (omega arith), le-leb (65 + (d - 10)) 90 (omega arith)) (or_true (between 48 57 (65 + (d - 10))))

digit_of_some : (d : ℕ) → 1 ≤ d → is_zero (digit_of d) ≡ false
unfolding digit_of if◌then◌otherwise◌
digit_of_some d h = go (ltb d 10)
  where
    go : (p : Bool) → is_zero (if p then 48 + d otherwise 65 + (d - 10)) ≡ false
    go true = ne_eqb (48 + d) 48 (λ e. (omega arith))
    go false = ne_eqb (65 + (d - 10)) 48 (λ e. (omega arith))

number_first : (base c : ℕ) (d : Text) → number base 0 (c ∷ d) ≡ number base (digit_value c) d
unfolding number
number_first base c d = let z : 0 * base + digit_value c ≡ digit_value c = omega arith in ap (λ a. number base a d) z

-- a number never gets smaller by more digits
number_grows : (base a : ℕ) (d : Text) → 1 ≤ base → a ≤ number base a d
unfolding number
number_grows base a [] h = omega arith
number_grows base a (c ∷ d) h =
    let k = number_grows base (a * base + digit_value c) d h in
    let l : a ≤ a * base = grow a base h in
    omega arith
  where
    grow : (a b : ℕ) → 1 ≤ b → a ≤ a * b
    grow a zero l = absurd (omega arith)
    grow a (suc b) l = omega arith

-- ---------------------------------------------------------------- decimal

decimal_fuel : (k m a : ℕ) → a < k → a < m → decimal k a ≡ decimal m a
unfolding decimal if◌then◌otherwise◌
decimal_fuel zero m a h l = absurd (omega arith)
decimal_fuel (suc k) zero a h l = absurd (omega arith)
decimal_fuel (suc k) (suc m) a h l = go (λ g g'. decimal_fuel k m (a / 10) g g') (ltb a 10) refl
  where
    go : (a / 10 < k → a / 10 < m → decimal k (a / 10) ≡ decimal m (a / 10)) → (p : Bool) → ltb a 10 ≡ p
        → (if p then (48 + a) ∷ [] otherwise decimal k (a / 10) ++ ((48 + a % 10) ∷ [])) ≡ (if p then (48 + a) ∷ [] otherwise decimal m (a / 10) ++ ((48 + a % 10) ∷ []))
    go ih true e = refl
    go ih false e = let z = ltb-false a 10 e in rw (ih (omega arith) (omega arith)) refl

-- the last digit apart
decimal_snoc : (k a v : ℕ) → 1 ≤ a → v < 10 → a * 10 + v < k → decimal k (a * 10 + v) ≡ decimal k a ++ ((48 + v) ∷ [])
unfolding decimal if◌then◌otherwise◌
decimal_snoc zero a v h l g = absurd (omega arith)
decimal_snoc (suc k) a v h l g =
    let q : (a * 10 + v) / 10 ≡ a = omega arith in
    let m : (a * 10 + v) % 10 ≡ v = omega arith in
    rw (le-ltb (a * 10 + v) 10 (omega arith)) (rw (q, m, decimal_fuel k (suc k) a (omega arith) (omega arith)) refl)

decimal_more : (k a : ℕ) (d : Text) → 1 ≤ a → all (digit 10) d ≡ true → number 10 a d < k → decimal k (number 10 a d) ≡ decimal k a ++ d
unfolding number
decimal_more k a [] h e g = sym (append-nil (decimal k a))
decimal_more k a (c ∷ d) h e g =
    let v = digit_value_10 c (and_left (digit 10 c) (all (digit 10) d) e) in
    let v0 = v.0 in
    let v1 = v.1 in
    let l = number_grows 10 (a * 10 + digit_value c) d (omega arith) in
    decimal_more k (a * 10 + digit_value c) d (omega arith) (and_right (digit 10 c) (all (digit 10) d) e) g
    ∙ rw (decimal_snoc k a (digit_value c) h v1 (omega arith), append_assoc (decimal k a) ((48 + digit_value c) ∷ []) d, ← v0) refl

-- decimal digits without a leading zero are the number's
pub decimal_of : (k : ℕ) (d : Text) → first is_zero d ≡ false → all (digit 10) d ≡ true → 1 ≤ number 10 0 d → number 10 0 d < k
    → decimal k (number 10 0 d) ≡ d
unfolding number
decimal_of k [] z e h g = absurd (omega arith)
decimal_of k (c ∷ d) z e h g =
    let v = digit_value_10 c (and_left (digit 10 c) (all (digit 10) d) e) in
    let v0 = v.0 in
    let v1 = v.1 in
    let n = number_first 10 c d in
    let l = number_grows 10 (digit_value c) d (omega arith) in
    ap (decimal k) n
    ∙ decimal_more k (digit_value c) d (some (digit_value c) v0) (and_right (digit 10 c) (all (digit 10) d) e) (omega arith)
    ∙ rw (decimal_last k (digit_value c) v1 (omega arith), ← v0) refl
  where
    some : (v : ℕ) → c ≡ 48 + v → 1 ≤ v
    some zero p = absurd (false≢true (sym z ∙ rw p refl))
    some (suc v) p = omega arith

-- no leading zero is written
pub decimal_first : (k n : ℕ) (s : Text) → 1 ≤ n → n < k → first is_zero (decimal k n ++ s) ≡ false
unfolding decimal if◌then◌otherwise◌
decimal_first zero n s h l = absurd (omega arith)
decimal_first (suc k) n s h l = go (λ t g g'. decimal_first k (n / 10) t g g') (ltb n 10) refl
  where
    go : ((t : Text) → 1 ≤ n / 10 → n / 10 < k → first is_zero (decimal k (n / 10) ++ t) ≡ false) → (p : Bool) → ltb n 10 ≡ p → first is_zero ((if p then (48 + n) ∷ [] otherwise decimal k (n / 10) ++ ((48 + n % 10) ∷ [])) ++ s) ≡ false
    go ih true e = ne_eqb (48 + n) 48 (λ q. (omega arith))
    go ih false e =
        let z = ltb-false n 10 e in
        rw (append_assoc (decimal k (n / 10)) ((48 + n % 10) ∷ []) s)
        (ih (((48 + n % 10) ∷ []) ++ s) (omega arith) (omega arith))

-- ---------------------------------------------------------------- base 36

pub base36_one : (k a : ℕ) → a < 36 → base36 k a ≡ digit_of a ∷ []
unfolding base36 if◌then◌otherwise◌
base36_one zero a h = refl
base36_one (suc k) a h = rw (lt-ltb a 36 h) refl

pub base36_fuel : (k m a : ℕ) → a ≤ k → a ≤ m → base36 k a ≡ base36 m a
unfolding base36 if◌then◌otherwise◌
base36_fuel zero m a h l = sym (base36_one m a (omega arith))
base36_fuel (suc k) zero a h l = base36_one (suc k) a (omega arith)
base36_fuel (suc k) (suc m) a h l = go (λ g g'. base36_fuel k m (a / 36) g g') (ltb a 36) refl
  where
    go : (a / 36 ≤ k → a / 36 ≤ m → base36 k (a / 36) ≡ base36 m (a / 36)) → (p : Bool) → ltb a 36 ≡ p
        → (if p then digit_of a ∷ [] otherwise base36 k (a / 36) ++ (digit_of (a % 36) ∷ [])) ≡ (if p then digit_of a ∷ [] otherwise base36 m (a / 36) ++ (digit_of (a % 36) ∷ []))
    go ih true e = refl
    go ih false e = let z = ltb-false a 36 e in rw (ih (omega arith) (omega arith)) refl

pub base36_snoc : (k a v : ℕ) → 1 ≤ a → v < 36 → a * 36 + v ≤ k → base36 k (a * 36 + v) ≡ base36 k a ++ (digit_of v ∷ [])
unfolding base36 if◌then◌otherwise◌
base36_snoc zero a v h l g = absurd (omega arith)
base36_snoc (suc k) a v h l g =
    let q : (a * 36 + v) / 36 ≡ a = omega arith in
    let m : (a * 36 + v) % 36 ≡ v = omega arith in
    rw (le-ltb (a * 36 + v) 36 (omega arith)) (rw (q, m, base36_fuel k (suc k) a (omega arith) (omega arith)) refl)

base36_more : (k a : ℕ) (d : Text) → 1 ≤ a → all capital d ≡ true → number 36 a d ≤ k → base36 k (number 36 a d) ≡ base36 k a ++ d
unfolding number
base36_more k a [] h e g = sym (append-nil (base36 k a))
base36_more k a (c ∷ d) h e g =
    let v = capital_digit c (and_left (capital c) (all capital d) e) in
    let l = number_grows 36 (a * 36 + digit_value c) d (omega arith) in
    base36_more k (a * 36 + digit_value c) d (omega arith) (and_right (capital c) (all capital d) e) g
    ∙ rw (base36_snoc k a (digit_value c) h v.1 (omega arith), append_assoc (base36 k a) (digit_of (digit_value c) ∷ []) d, v.0) refl

not_zero : (v c : ℕ) → digit_of v ≡ c → is_zero c ≡ false → 1 ≤ v
unfolding digit_of if◌then◌otherwise◌
not_zero zero c p q = absurd (false≢true (sym q ∙ rw (sym p) refl))
not_zero (suc v) c p q = omega arith

-- the digits of a reference, read, are its number's
pub ref_of : (d : Text) → canonical d ≡ true → ref_digits (index 36 d) ≡ d
unfolding index ref_digits number
ref_of [] h = refl
ref_of (c ∷ []) h =
    let v = capital_digit c (and_left (capital c) true (and_left (capital c && true) true h)) in
    let i : index 36 (c ∷ []) ≡ suc (digit_value c) = omega arith in
    ap ref_digits i ∙ (base36_one (digit_value c) (digit_value c) v.1 ∙ ap (λ x. x ∷ []) v.0)
ref_of (c ∷ e ∷ d) h =
    let caps = and_left (all capital (c ∷ e ∷ d)) (not (is_zero c)) h in
    let v = capital_digit c (and_left (capital c) (all capital (e ∷ d)) caps) in
    let z = not-true (is_zero c) (and_right (all capital (c ∷ e ∷ d)) (not (is_zero c)) h) in
    let n = number_first 36 c (e ∷ d) in
    let i : index 36 (c ∷ e ∷ d) ≡ suc (number 36 (digit_value c) (e ∷ d)) = omega arith in
    ap ref_digits i
    ∙ (base36_more (number 36 (digit_value c) (e ∷ d)) (digit_value c) (e ∷ d) (not_zero (digit_value c) c v.0 z) (and_right (capital c) (all capital (e ∷ d)) caps)
    (omega arith)
    ∙ rw (base36_one (number 36 (digit_value c) (e ∷ d)) (digit_value c) v.1, v.0) refl)

base36_capital : (k n : ℕ) → n ≤ k → all capital (base36 k n) ≡ true
unfolding base36 if◌then◌otherwise◌
base36_capital zero n h = rw (digit_capital n (omega arith)) refl
base36_capital (suc k) n h = go (λ g. base36_capital k (n / 36) g) (ltb n 36) refl
  where
    go : (n / 36 ≤ k → all capital (base36 k (n / 36)) ≡ true) → (p : Bool) → ltb n 36 ≡ p → all capital (if p then digit_of n ∷ [] otherwise base36 k (n / 36) ++ (digit_of (n % 36) ∷ [])) ≡ true
    go ih true e = rw (digit_capital n (ltb-true n 36 e)) refl
    go ih false e =
        let z = ltb-false n 36 e in
        all_append capital (base36 k (n / 36)) (digit_of (n % 36) ∷ []) (ih (omega arith))
        (rw (digit_capital (n % 36) (omega arith)) refl)

base36_first : (k n : ℕ) (s : Text) → 1 ≤ n → n ≤ k → first is_zero (base36 k n ++ s) ≡ false
unfolding base36 if◌then◌otherwise◌
base36_first zero n s h l = absurd (omega arith)
base36_first (suc k) n s h l = go (λ t g g'. base36_first k (n / 36) t g g') (ltb n 36) refl
  where
    go : ((t : Text) → 1 ≤ n / 36 → n / 36 ≤ k → first is_zero (base36 k (n / 36) ++ t) ≡ false) → (p : Bool) → ltb n 36 ≡ p → first is_zero ((if p then digit_of n ∷ [] otherwise base36 k (n / 36) ++ (digit_of (n % 36) ∷ [])) ++ s) ≡ false
    go ih true e = digit_of_some n h
    go ih false e =
        let z = ltb-false n 36 e in
        rw (append_assoc (base36 k (n / 36)) (digit_of (n % 36) ∷ []) s)
        (ih ((digit_of (n % 36) ∷ []) ++ s) (omega arith) (omega arith))

zero_lead : (d : Text) → first is_zero d ≡ false → leading_zero d ≡ false
zero_lead [] h = refl
zero_lead (c ∷ []) h = refl
zero_lead (c ∷ e ∷ d) h = h

base36_lead : (k n : ℕ) → n ≤ k → leading_zero (base36 k n) ≡ false
base36_lead k n h = go (ltb n 36) refl
  where
    go : (p : Bool) → ltb n 36 ≡ p → leading_zero (base36 k n) ≡ false
    go true e = rw (base36_one k n (ltb-true n 36 e)) refl
    go false e =
        let z = ltb-false n 36 e in
        zero_lead (base36 k n) (rw (append-nil (base36 k n)) at (base36_first k n [] (omega arith) h))

-- the digits of a reference are canonical
pub ref_canonical : (i : ℕ) → canonical (ref_digits i) ≡ true
unfolding ref_digits
ref_canonical zero = refl
ref_canonical (suc i) = rw (base36_capital i i (omega arith), base36_lead i i (omega arith)) refl
