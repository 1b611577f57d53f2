-- A number in base 36, its last digit apart; the reference that has it; how many subtractions that takes. Assumes nothing.
use Rattle.std.specs.Prelude.{[], ◌∷◌, ◌++◌, ◌≡◌, refl, ℕ, zero, suc, ◌+◌, ◌-◌, ◌*◌, ◌/◌, ◌%◌, ◌≤◌, ◌<◌, length}
use Rattle.std.proofs.Common.{ap, ◌∙◌, arith, length-append}
use Rattle.grammar.specs.Text.{Text}
use Rattle.catalogue.specs.Spelling.{digit_of, base36, ref_digits, ref_bytes}
use Rattle.normal_walk.proofs.Laws.Digits.{base36_one, base36_fuel, base36_snoc}

-- ---------------------------------------------------------------- digits

module _ (n : ℕ) {high low : ℕ} (split : (high ≡ n / 36) × (low ≡ n % 36)) where
  pub one_digit : high ≡ 0 → base36 n n ≡ digit_of low ∷ []
  one_digit h = base36_one n n (omega (arith, split)) ∙ ap (λ (d : ℕ). digit_of d ∷ []) {x = n} {y = low} (omega (arith, split))

  pub more_digits : (high ≡ 0 → ⊥) → base36 n n ≡ base36 high high ++ (digit_of low ∷ [])
  more_digits h =
      ap (base36 n) {x = n} {y = high * 36 + low} (omega (arith, split))
      ∙ base36_snoc n high low (omega (arith, h)) (omega (arith, split)) (omega (arith, split))
      ∙ ap (λ (d : Text). d ++ (digit_of low ∷ [])) (base36_fuel n high high (omega (arith, split)) (omega arith))

  pub more_digits_length : (high ≡ 0 → ⊥) → length (base36 n n) ≡ length (base36 high high) + 1
  more_digits_length h = ap length (more_digits h) ∙ length-append (base36 high high) (digit_of low ∷ [])

-- ---------------------------------------------------------------- references

pub ref_none : (i : ℕ) → i ≡ 0 → ref_bytes i ≡ 83 ∷ 95 ∷ []
unfolding ref_digits
ref_none zero e = refl
ref_none (suc i) e = absurd (omega arith)

pub ref_some : (i : ℕ) → (i ≡ 0 → ⊥) → ref_bytes i ≡ 83 ∷ (base36 (i - 1) (i - 1) ++ (95 ∷ []))
unfolding ref_digits
ref_some zero h = absurd (h refl)
ref_some (suc i) h = ap (λ (j : ℕ). 83 ∷ (base36 j j ++ (95 ∷ []))) {x = i} {y = suc i - 1} (omega arith)

pub ref_some_length : (i : ℕ) → (i ≡ 0 → ⊥) → length (ref_bytes i) ≡ length (base36 (i - 1) (i - 1)) + 2
ref_some_length i h = let d = base36 (i - 1) (i - 1) in omega (arith, ap length (ref_some i h), length-append d (95 ∷ []))

-- ---------------------------------------------------------------- subtractions

-- how many binary digits a number has, and the first number at most
bits_of : ℕ → ℕ → ℕ
bits_of zero n = 0
bits_of (suc k) zero = 0
bits_of (suc k) (suc n) = suc (bits_of k (suc n / 2))

pub bits : ℕ → ℕ
bits n = bits_of n n

bits_most : (j k m n : ℕ) → m ≤ n → n ≤ k → bits_of j m ≤ bits_of k n
unfolding bits_of
bits_most zero k m n h l = let z : 0 ≤ bits_of k n = omega arith in z
bits_most (suc j) k zero n h l = let z : 0 ≤ bits_of k n = omega arith in z
bits_most (suc j) k (suc m) zero h l = absurd (omega arith)
bits_most (suc j) zero (suc m) (suc n) h l = absurd (omega arith)
bits_most (suc j) (suc k) (suc m) (suc n) h l =
    let z : suc (bits_of j (suc m / 2)) ≤ suc (bits_of k (suc n / 2)) = omega (arith, bits_most j k (suc m / 2) (suc n / 2) (omega arith) (omega arith)) in
    z

-- half the number has a digit less
pub bits_less : (m n : ℕ) → m + m ≤ n → 0 < n → bits m < bits n
unfolding bits bits_of
bits_less m zero h l = absurd (omega arith)
bits_less m (suc n) h l =
    let z : bits_of m m < suc (bits_of n (suc n / 2)) = omega (arith, bits_most m n m (suc n / 2) (omega arith) (omega arith)) in
    z

-- "comparisons and subtraction do". The measure of by_36 is the bits of how often 36 still goes, and each subtraction lowers it. So there are no more of them
-- than this for the number before an entry up to 16,384 (T-07); the third digit from the end is below 36, and nothing is taken off.
pub few_subtractions : (n : ℕ) → n < 16384 → bits (n / 36) + bits (n / 36 / 36) ≤ 13
unfolding bits bits_of
few_subtractions n h =
    let a : bits (n / 36) ≤ 9 = bits_most (n / 36) 455 (n / 36) 455 (omega arith) (omega arith) in
    let b : bits (n / 36 / 36) ≤ 4 = bits_most (n / 36 / 36) 12 (n / 36 / 36) 12 (omega arith) (omega arith) in
    omega arith
