-- Laws of the byte that a type begins with, and of words that a table has. Assumes nothing.
use Rattle.std.proofs.Common.{◌≡◌, ℕ, ◌+◌, ◌≤◌, false, length, subst, arith, ne_eqb, Bor}
use Rattle.std.proofs.lemmas.Bool.{eqb-false}
use Rattle.std.specs.Prelude.{◌<◌, ◌≢◌, ◌==◌, Option, Some, None}
use Rattle.std.proofs.Math.Option.{some, none}
use Rattle.grammar.specs.Words.{Spells, longest_word}
use Rattle.grammar.specs.Tables.{Table as Rows}
use Rattle.grammar.specs.Reader.{word_for}
use Rattle.grammar.specs.Laws.Steps.{type_heads}
use Rattle.reader.specs.Laws.Heads.{no_head, either, digit_not}
use Rattle.grammar.specs.Text.{Text, b, holds, digit}
use Rattle.grammar.specs.Laws.Text.{neither}

module _ (rows : Rows) (code : Text) {o : Option (Bor Text)} (h : Spells rows code o) where
  pub spelled_is : {w : Bor Text} → o ≡ Some w → (some w.now ≡ word_for rows code) × (length w.now ≤ longest_word)
  spelled_is {w} e = subst (λ (y : Option (Bor Text)). Spells rows code y) e h

  pub spelled_not : o ≡ None → none ≡ word_for rows code
  spelled_not e = let y : Spells rows code None = subst (λ (y : Option (Bor Text)). Spells rows code y) e h in y.0

pub digit_head : (c : ℕ) → c < 58 → holds c type_heads ≡ false
digit_head c l =
    no_head c (
      (
        (
          (
            (
              (
                (
                  (
                    (tt, λ k. either k (λ e. omega (arith, e, l)) (λ k. either k (λ e. omega (arith, e, l)) (λ k. either k (λ e. omega (arith, e, l)) (λ k. either k (λ e. omega (arith, e, l)) (λ e. omega (arith, e, l)))))),
                    λ e. omega (arith, e, l),
                  ),
                  λ e. omega (arith, e, l),
                ),
                λ e. omega (arith, e, l),
              ),
              λ e. omega (arith, e, l),
            ),
            λ e. omega (arith, e, l),
          ),
          λ e. omega (arith, e, l),
        ),
        λ e. omega (arith, e, l),
      ),
      λ e. omega (arith, e, l),
    )
    (λ e. omega (arith, e, l))
    (λ e. omega (arith, e, l))

module _ (c : ℕ) (h : holds c (b "DNTS0123456789") ≡ false) where
  next_one : (k : ℕ) → ((c == k) ≡ false) → k ≤ c → k + 1 ≤ c
  next_one k e l = let f : c ≡ k → ⊥ = eqb-false c k e in omega (arith, f)

  -- a byte of none of these is no digit
  pub no_digit : digit 10 c ≡ false
  unfolding holds b
  no_digit =
      let (d, h₁) = neither (c == 68) _ h in
      let (n, h₂) = neither (c == 78) _ h₁ in
      let (t, h₃) = neither (c == 84) _ h₂ in
      let (s, h₄) = neither (c == 83) _ h₃ in
      let (e₀, i₀) = neither (c == 48) _ h₄ in
      let (e₁, i₁) = neither (c == 49) _ i₀ in
      let (e₂, i₂) = neither (c == 50) _ i₁ in
      let (e₃, i₃) = neither (c == 51) _ i₂ in
      let (e₄, i₄) = neither (c == 52) _ i₃ in
      let (e₅, i₅) = neither (c == 53) _ i₄ in
      let (e₆, i₆) = neither (c == 54) _ i₅ in
      let (e₇, i₇) = neither (c == 55) _ i₆ in
      let (e₈, i₈) = neither (c == 56) _ i₇ in
      let (e₉, i₉) = neither (c == 57) _ i₈ in
      digit_not c (λ l. next_one 57 e₉ (next_one 56 e₈ (next_one 55 e₇ (next_one 54 e₆ (next_one 53 e₅ (next_one 52 e₄ (next_one 51 e₃ (next_one 50 e₂ (next_one 49 e₁ (next_one 48 e₀ l))))))))))

  -- nor one of the letters
  pub no_D : c ≢ 68
  unfolding holds b
  no_D = let (d, i) = neither (c == 68) _ h in eqb-false c 68 d

  pub no_N : c ≢ 78
  unfolding holds b
  no_N = let (d, i) = neither (c == 68) _ h in let (n, j) = neither (c == 78) _ i in eqb-false c 78 n

  pub no_T : c ≢ 84
  unfolding holds b
  no_T = let (d, i) = neither (c == 68) _ h in let (n, j) = neither (c == 78) _ i in let (t, k) = neither (c == 84) _ j in eqb-false c 84 t

  pub no_S : c ≢ 83
  unfolding holds b
  no_S = let (d, i) = neither (c == 68) _ h in let (n, j) = neither (c == 78) _ i in let (t, k) = neither (c == 84) _ j in let (s, l) = neither (c == 83) _ k in eqb-false c 83 s

-- a byte that `type_inner` leaves to `behind_letter`
pub left_over : (c : ℕ) → (c ≢ 68) → (c ≢ 78) → (c ≢ 84) → (c ≢ 83) → (48 ≤ c → 58 ≤ c) → holds c (b "DNTS0123456789") ≡ false
unfolding holds b
left_over c d n t s l =
    let no : (k : ℕ) → 48 ≤ k → k < 58 → c ≢ k = λ k i j e. omega (arith, e, i, j, l (omega (arith, e, i))) in
    simp (
      ne_eqb c 68 d,
      ne_eqb c 78 n,
      ne_eqb c 84 t,
      ne_eqb c 83 s,
      ne_eqb c 48 (no 48 (omega arith) (omega arith)),
      ne_eqb c 49 (no 49 (omega arith) (omega arith)),
      ne_eqb c 50 (no 50 (omega arith) (omega arith)),
      ne_eqb c 51 (no 51 (omega arith) (omega arith)),
      ne_eqb c 52 (no 52 (omega arith) (omega arith)),
      ne_eqb c 53 (no 53 (omega arith) (omega arith)),
      ne_eqb c 54 (no 54 (omega arith) (omega arith)),
      ne_eqb c 55 (no 55 (omega arith) (omega arith)),
      ne_eqb c 56 (no 56 (omega arith) (omega arith)),
      ne_eqb c 57 (no 57 (omega arith) (omega arith)),
    )
