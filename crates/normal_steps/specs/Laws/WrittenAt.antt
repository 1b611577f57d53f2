-- Laws of WrittenAt.antt. Assumes nothing.
use Rattle.std.specs.Prelude.{◌≡◌, refl, List, [], ◌∷◌, ◌++◌, ℕ, zero, suc, ◌+◌, ◌-◌, ◌*◌, ◌/◌, ◌%◌, ◌^◌, ◌≤◌, ◌<◌, length, take, drop, set, Option, Some, None, IfSome, IfNone, unwrap_or}
use Rattle.std.proofs.Common.{sym, ap, ap₂, subst, ◌∙◌, append_assoc, arith, length-append, take_at, drop_at, drop-drop, length-take-le}
use Rattle.std.proofs.lemmas.List.Edits.{sets-eq}
use Rattle.std.proofs.Math.Seq.{take-length}
use Rattle.grammar.specs.Text.{Text, decimal}
use Rattle.grammar.specs.Laws.Text.{decimal_last, decimal_more}
use Rattle.grammar.specs.Numbers.{Decimal}
use Rattle.grammar.specs.Laws.Decimals.{decimal_enough}
use Rattle.store.specs.Table.{Front}
use Rattle.store.specs.Laws.Fronts.{front_paste}
use Rattle.normal_steps.specs.WrittenAt.{WrittenAt}

pub wrote_as : {out out' v w : Text} {at r : ℕ} → v ≡ w → WrittenAt out out' at r v → WrittenAt out out' at r w
wrote_as {out} {out'} {v} {w} {at} {r} e h = subst (λ (t : Text). WrittenAt out out' at r t) e h

-- ---------------------------------------------------------------- byte by byte

module _ (out : Text) (at a : ℕ) where
  pub wrote_one : at + 1 ≤ length out → WrittenAt out (set out at a) at (at + 1) (a ∷ [])
  wrote_one h = record { is = sets-eq (a ∷ []) out at h; end = refl }

  module _ (b : ℕ) where
    pub wrote_two : at + 2 ≤ length out → WrittenAt out (set (set out at a) (at + 1) b) at (at + 2) (a ∷ b ∷ [])
    wrote_two h =
        let e : at + 1 ≡ suc at = omega arith in
        record { is = ap (λ (j : ℕ). set (set out at a) j b) e ∙ sets-eq (a ∷ b ∷ []) out at h; end = refl }

-- one text behind another
pub wrote_both : {o o' o'' v w : Text} {at m r : ℕ} → at + length v ≤ length o → WrittenAt o o' at m v → WrittenAt o' o'' m r w → WrittenAt o o'' at r (v ++ w)
wrote_both {o} {o'} {o''} {v} {w} {at} {m} {r} h p q =
    let l : length (take at o) ≡ at = length-take-le at o (omega arith) in
    let f : length (take at o ++ v) ≡ m = length-append (take at o) v ∙ omega (arith, p.end) in
    let t : take m o' ≡ take at o ++ v = ap (take m) p.is ∙ take_at (take at o ++ v) (drop (at + length v) o) m f in
    let d : drop m o' ≡ drop (at + length v) o = ap (drop m) p.is ∙ drop_at (take at o ++ v) (drop (at + length v) o) m f in
    let n : length (v ++ w) ≡ length v + length w = length-append v w in
    let k : drop (m + length w) o' ≡ drop (at + length (v ++ w)) o =
    sym (drop-drop (length w) m o')
    ∙ ap (drop (length w)) d
    ∙ drop-drop (length w) (at + length v) o
    ∙ ap (λ (j : ℕ). drop j o) {x = at + length v + length w} {y = at + length (v ++ w)} (omega arith) in
    record {
      is =
          q.is
          ∙ ap (λ (x : Text). x ++ w ++ drop (m + length w) o') t
          ∙ ap (λ (x : Text). take at o ++ v ++ w ++ x) k
          ∙ ap (λ (x : Text). x ++ drop (at + length (v ++ w)) o) (append_assoc (take at o) v w);
      end = omega (arith, p.end, q.end);
    }

-- one byte behind a text
pub wrote_behind : {o o' v : Text} {at m : ℕ} (x : ℕ) → length o' ≡ length o → m < length o' → WrittenAt o o' at m v → WrittenAt o (set o' m x) at (m + 1) (v ++ (x ∷ []))
wrote_behind {o} {o'} {v} {at} {m} x e h w = wrote_both (omega (arith, e, w.end)) w (wrote_one o' m x (omega arith))

-- a text is written behind what is used
pub front_wrote : {n : ℕ} {w t o o' : List ℕ} {at r : ℕ} → Front n w o → at ≡ length w → length w + length t ≤ n → WrittenAt o o' at r t → Front n (w ++ t) o'
front_wrote {t = t} {o = o} h f l q =
    front_paste h t l (q.is ∙ ap₂ (λ (k : ℕ) (u : List ℕ). take k o ++ u ++ drop (k + length t) o) f (sym (take-length t)))

-- ---------------------------------------------------------------- decimal

-- k is the logarithm
decimal_digits : (k m n : ℕ) → n < m → 10 ^ k ≤ n → n < 10 * 10 ^ k → length (decimal m n) ≡ k + 1
decimal_digits zero m n l a h = ap length (decimal_last m n (omega arith) (omega arith))
decimal_digits (suc k) m n l a h =
    let more = ap length (decimal_more m n (omega arith) (omega arith)) ∙ length-append (decimal (m - 1) (n / 10)) ((48 + n % 10) ∷ []) in
    let less = decimal_digits k (m - 1) (n / 10) (omega arith) (omega arith) (omega arith) in
    omega (arith, more, less)

pub decimal_length : (n : ℕ) (o : Option ℕ) → IfNone o (n ≡ 0) → IfSome o (λ k. 10 ^ k ≤ n) → IfSome o (λ k. n < 10 * 10 ^ k) → unwrap_or o 0 + 1 ≡ length (decimal (suc n) n)
decimal_length n None z a h = sym (ap length (decimal_last (suc n) n (omega arith) (omega arith)))
decimal_length n (Some k) z a h = sym (decimal_digits k (suc n) n (omega arith) a h)

below_power : (n : ℕ) → n < 10 ^ suc n
below_power zero = omega arith
below_power (suc n) = let h = below_power n in omega arith

pub decimal_as : (n : ℕ) → n < 100000000000000000000 → decimal 20 n ≡ decimal (suc n) n
decimal_as n h = decimal_enough 20 (suc n) n (omega arith) (omega arith) h (below_power n)

pub wrote_decimal : {out out' : Text} {at n end r : ℕ} → n < 100000000000000000000 → end ≡ at + length (decimal (suc n) n) → Decimal n end out out' r
    → WrittenAt out out' at end (decimal (suc n) n)
wrote_decimal {out} {out'} {at} {n} {end} {r} h f w =
    let e = decimal_as n h in
    let g : r ≡ at = omega (arith, w.place, ap length e) in
    record {
      is =
          w.is
          ∙ ap₂ (λ (j : ℕ) (t : Text). take j out ++ (t ++ drop end out)) g e
          ∙ sym (append_assoc (take at out) (decimal (suc n) n) (drop end out))
          ∙ ap (λ (j : ℕ). take at out ++ decimal (suc n) n ++ drop j out) f;
      end = f;
    }
