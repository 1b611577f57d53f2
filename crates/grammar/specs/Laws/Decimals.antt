-- A number in decimal: how many digits it has, and its digits written from the last. Assumes nothing.
use Rattle.std.specs.Prelude.{◌≡◌, ℕ, zero, suc, ◌+◌, ◌-◌, ◌/◌, ◌%◌, ◌^◌, ◌<◌, ◌≤◌, Bool, true, false, [], ◌∷◌, ◌++◌, length, take, drop, nat_lt, slice_set, refl}
use Rattle.std.proofs.Common.{append_assoc, sym, ap, ap₂, ◌∙◌, div-lt_iff_lt-mul, arith, ltb-true, ltb-false, length-set, length-append, length-drop, take-append-drop, drop_at, length-take-le}
use Rattle.std.proofs.lemmas.List.{take-set-le}
use Rattle.grammar.specs.Text.{Text, if◌then◌otherwise◌, decimal}
use Rattle.grammar.specs.Numbers.{decimal_size, Decimal}
use Rattle.grammar.specs.Laws.Text.{decimal_last, decimal_more}
use Rattle.grammar.specs.Laws.Places.{set_front}

-- ---------------------------------------------------------------- how many digits

pub decimal_some : (k n : ℕ) → 1 ≤ k → 1 ≤ length (decimal k n)
unfolding decimal if◌then◌otherwise◌
decimal_some zero n h = absurd (omega arith)
decimal_some (suc k) n h = go (nat_lt n 10)
  where
    go : (q : Bool) → 1 ≤ length (if q then (48 + n) ∷ [] otherwise decimal k (n / 10) ++ ((48 + n % 10) ∷ []))
    go true = omega arith
    go false = omega (arith, length-append (decimal k (n / 10)) ((48 + n % 10) ∷ []))

pub decimal_most : (k n : ℕ) → length (decimal k n) ≤ k
unfolding decimal if◌then◌otherwise◌
decimal_most zero n = omega arith
decimal_most (suc k) n = go (decimal_most k (n / 10)) (nat_lt n 10)
  where
    go : length (decimal k (n / 10)) ≤ k → (q : Bool) → length (if q then (48 + n) ∷ [] otherwise decimal k (n / 10) ++ ((48 + n % 10) ∷ [])) ≤ suc k
    go l true = omega arith
    go l false = omega (arith, length-append (decimal k (n / 10)) ((48 + n % 10) ∷ []))

two_left : (j n : ℕ) → 10 ≤ n → n < 10 ^ j → 2 ≤ j
two_left zero n h l = absurd (omega arith)
two_left (suc zero) n h l = absurd (omega arith)
two_left (suc (suc j)) n h l = omega arith

tenth : (j n : ℕ) → n < 10 ^ suc j → n / 10 < 10 ^ j
tenth j n l = (div-lt_iff_lt-mul {k = 10} {x = n} {y = 10 ^ j} (omega arith)).1 (omega arith)

one_less : (j n : ℕ) → 1 ≤ j → n < 10 ^ j → n / 10 < 10 ^ (j - 1)
one_less j n h l =
    let e : 10 ^ j ≡ 10 ^ suc (j - 1) = ap (λ (i : ℕ). 10 ^ i) {x = j} {y = suc (j - 1)} (omega arith) in
    tenth (j - 1) n (omega arith)

-- any number of digits that is enough gives the same ones
pub decimal_enough : (j k n : ℕ) → 1 ≤ j → 1 ≤ k → n < 10 ^ j → n < 10 ^ k → decimal j n ≡ decimal k n
decimal_enough zero k n i h a b = absurd (omega arith)
decimal_enough (suc j) k n i h a b = go (λ c d e f. decimal_enough j (k - 1) (n / 10) c d e f) (nat_lt n 10) refl
  where
    go : (1 ≤ j → 1 ≤ k - 1 → n / 10 < 10 ^ j → n / 10 < 10 ^ (k - 1) → decimal j (n / 10) ≡ decimal (k - 1) (n / 10))
        → (q : Bool) → nat_lt n 10 ≡ q → decimal (suc j) n ≡ decimal k n
    go r true e = let m = ltb-true n 10 e in decimal_last (suc j) n m i ∙ sym (decimal_last k n m h)
    go r false e =
        let m : 10 ≤ n = ltb-false n 10 e in
        let x = two_left (suc j) n m a in
        let y = two_left k n m b in
        decimal_more (suc j) n m i
        ∙ ap (λ (g : ℕ). decimal g (n / 10) ++ ((48 + n % 10) ∷ [])) {x = suc j - 1} {y = j} (omega arith)
        ∙ ap (λ (t : Text). t ++ ((48 + n % 10) ∷ [])) (r (omega arith) (omega arith) (tenth j n a) (one_less k n h b))
        ∙ sym (decimal_more k n m h)

-- ---------------------------------------------------------------- digits from the last

-- the last digits of n stand in l' from `from` up to `end`; those of `rest`, of which there are no more than `left`, go before them
pub record Writing (n end : ℕ) (l l' : Text) (from rest : ℕ) : Type 0 where
  pub left : ℕ
  pub some : 1 ≤ left
  pub low : rest < 10 ^ left
  pub inside : from ≤ end
  pub size : length l' ≡ length l
  pub front : (i : ℕ) → i ≤ from → take i l' ≡ take i l
  pub is : decimal 20 n ++ drop end l ≡ decimal left rest ++ drop from l'

pub writing_none : (n end : ℕ) (l : Text) → n < 100000000000000000000 → Writing n end l l end n
writing_none n end l h =
    record { left = 20; some = omega arith; low = h; inside = omega arith; size = refl; front = λ i k. refl; is = refl }

module _ {n end : ℕ} {l l' : Text} {from rest : ℕ} (w : Writing n end l l' from rest) (lo : decimal_size n ≤ end) (hi : end ≤ length l) where
  digits_left : length (decimal w.left rest) + end ≡ decimal_size n + from
  digits_left =
      omega (
        arith,
        w.inside,
        w.size,
        ap length w.is,
        length-append (decimal 20 n) (drop end l),
        length-append (decimal w.left rest) (drop from l'),
        length-drop end l,
        length-drop from l',
      )

  pub from_some : 1 ≤ from
  from_some = omega (arith, digits_left, decimal_some w.left rest w.some)

  behind : (x : ℕ) → drop (from - 1) (slice_set l' (from - 1) x) ≡ x ∷ drop from l'
  behind x =
      let a = from_some in
      set_front l' (from - 1) x (omega (arith, w.inside, w.size)) ∙ ap (λ (j : ℕ). x ∷ drop j l') {x = from - 1 + 1} {y = from} (omega arith)

  before : (x i : ℕ) → i ≤ from - 1 → take i (slice_set l' (from - 1) x) ≡ take i l
  before x i h = take-set-le i l' (from - 1) x h ∙ w.front i (omega arith)

  pub writing_more : 10 ≤ rest → Writing n end l (slice_set l' (from - 1) (48 + rest % 10)) (from - 1) (rest / 10)
  writing_more h =
      let a = two_left w.left rest h w.low in
      let x : ℕ = 48 + rest % 10 in
      record {
        left = w.left - 1;
        some = omega arith;
        low = one_less w.left rest w.some w.low;
        inside = omega (arith, w.inside);
        size = simp length-set w.size;
        front = before x;
        is =
            w.is
            ∙ ap (λ (t : Text). t ++ drop from l') (decimal_more w.left rest h w.some)
            ∙ append_assoc (decimal (w.left - 1) (rest / 10)) (x ∷ []) (drop from l')
            ∙ ap (λ (t : Text). decimal (w.left - 1) (rest / 10) ++ t) (sym (behind x));
      }

  pub writing_done : rest < 10 → Decimal n end l (slice_set l' (from - 1) (48 + rest)) (from - 1)
  writing_done h =
      let e = decimal_last w.left rest h w.some in
      let a = from_some in
      record {
        place = omega (arith, digits_left, ap length e);
        is =
            sym (take-append-drop (from - 1) (slice_set l' (from - 1) (48 + rest)))
            ∙ ap₂ (λ (s t : Text). s ++ t) (before (48 + rest) (from - 1) (omega arith))
            (behind (48 + rest) ∙ sym (w.is ∙ ap (λ (t : Text). t ++ drop from l') e));
      }

-- ---------------------------------------------------------------- where they stand

-- the bytes from the first digit on
pub decimal_from : {n end : ℕ} {l l' : Text} {r : ℕ} → Decimal n end l l' r → end ≤ length l → drop r l' ≡ decimal 20 n ++ drop end l
decimal_from {n} {end} {l} {l'} {r} w h =
    ap (drop r) w.is ∙ drop_at (take r l) (decimal 20 n ++ drop end l) r (length-take-le r l (omega (arith, w.place)))
