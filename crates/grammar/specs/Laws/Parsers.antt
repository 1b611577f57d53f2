-- Laws of what the methods of the reader's state answer. Assumes nothing.
use Rattle.std.specs.Prelude.{◌≡◌, ℕ, ◌+◌, ◌<◌, ◌≤◌, nat_lt, Bool, true, false, [], ◌∷◌, length, drop, Option, Some, None, Result, Ok, Err}
use Rattle.std.proofs.Math.Path.{refl}
use Rattle.std.proofs.Common.{sym, ap, ◌∙◌, subst, length-drop, drop-drop, arith, ltb-true, ltb-false}
use Rattle.grammar.specs.Limits.{most_open}
use Rattle.grammar.specs.Text.{Text, if◌then◌otherwise◌, starts}
use Rattle.grammar.specs.Laws.NameSteps.{starts_one}
use Rattle.grammar.specs.Laws.Places.{Stands, stands_by}
use Rattle.grammar.specs.declared.refusal.Refusal.{Refusal}
use Rattle.grammar.specs.declared.refusal.Refusal.TheVariants.{TooDeep}
use Rattle.grammar.specs.declared.state.Parser.{Parser}
use Rattle.grammar.specs.Parsers.{behind, taken, eaten, deeper, back_at}

module _ (s : Text) (p : Parser) where
  -- a byte was there, and the state is behind it
  pub took : {c : ℕ} {q : Parser} → taken p (drop p.at s) ≡ Some (c, q) → (drop p.at s ≡ c ∷ drop (p.at + 1) s) × (q ≡ behind p)
  took {c} {q} e = go (drop p.at s) refl e
    where
      go : (u : Text) → drop p.at s ≡ u → taken p u ≡ Some (c, q) → (drop p.at s ≡ c ∷ drop (p.at + 1) s) × (q ≡ behind p)
      go [] f g = let z : ◌≡◌ {A = ℕ} 0 1 = cc in absurd (omega arith)
      go (x ∷ u) f g =
          let h : ◌≡◌ {A = ℕ × Parser} (x, behind p) (c, q) = cc in
          let i : u ≡ drop (p.at + 1) s = ap (drop 1) (sym f) ∙ drop-drop 1 p.at s in
          (f ∙ ap (λ (y : ℕ). y ∷ u) (ap (λ (z : ℕ × Parser). z.0) h) ∙ ap (λ (v : Text). c ∷ v) i, sym (ap (λ (z : ℕ × Parser). z.1) h))

  pub took_none : taken p (drop p.at s) ≡ None → drop p.at s ≡ []
  took_none e = go (drop p.at s) e
    where
      go : (u : Text) → taken p u ≡ None → u ≡ []
      go [] g = refl
      go (x ∷ u) g = let z : ◌≡◌ {A = ℕ} 0 1 = cc in absurd (omega arith)

module _ (p : Parser) where
  pub ate : (c : ℕ) (t : Text) {q : Parser} → eaten p c t ≡ Some q → (starts t (c ∷ []) ≡ true) × (q ≡ behind p)
  unfolding if◌then◌otherwise◌
  ate c t {q} e = go (starts t (c ∷ [])) e
    where
      go : (b : Bool) → (if b then Some (behind p) otherwise None) ≡ Some q → (b ≡ true) × (q ≡ behind p)
      go true f = (refl, cc)
      go false f = let z : ◌≡◌ {A = ℕ} 0 1 = cc in absurd (omega arith)

  pub ate_none : (c : ℕ) (t : Text) → eaten p c t ≡ None → starts t (c ∷ []) ≡ false
  unfolding if◌then◌otherwise◌
  ate_none c t e = go (starts t (c ∷ [])) e
    where
      go : (b : Bool) → ◌≡◌ {A = Option Parser} (if b then Some (behind p) otherwise None) None → b ≡ false
      go true f = let z : ◌≡◌ {A = ℕ} 0 1 = cc in absurd (omega arith)
      go false f = refl

  pub went_in : {q : Parser} → deeper p ≡ Ok q → (p.depth < most_open) × (q ≡ back_at p (p.depth + 1))
  unfolding if◌then◌otherwise◌
  went_in {q} e = go (nat_lt p.depth most_open) refl e
    where
      go : (b : Bool) → nat_lt p.depth most_open ≡ b → (if b then Ok (back_at p (p.depth + 1)) otherwise Err TooDeep) ≡ Ok q → (p.depth < most_open) × (q ≡ back_at p (p.depth + 1))
      go true g f = (ltb-true p.depth most_open g, cc)
      go false g f = let z : ◌≡◌ {A = ℕ} 0 1 = cc in absurd (omega arith)

  pub stayed_out : {k : Refusal} → deeper p ≡ Err k → (most_open ≤ p.depth) × (k ≡ TooDeep)
  unfolding if◌then◌otherwise◌
  stayed_out {k} e = go (nat_lt p.depth most_open) refl e
    where
      go : (b : Bool) → nat_lt p.depth most_open ≡ b → ◌≡◌ {A = Result Parser Refusal} (if b then Ok (back_at p (p.depth + 1)) otherwise Err TooDeep) (Err k) → (most_open ≤ p.depth) × (k ≡ TooDeep)
      go true g f = let z : ◌≡◌ {A = ℕ} 0 1 = cc in absurd (omega arith)
      go false g f = (ltb-false p.depth most_open g, cc)

-- ---------------------------------------------------------------- a byte read past

-- the byte c stands at p's place, and q is behind it
pub record Past (s : Text) (p : Parser) (c : ℕ) (q : Parser) : Type 0 where
  pub stands : Stands s p.at c
  pub next : q ≡ behind p

module _ (s : Text) (p : Parser) {c : ℕ} {q : Parser} where
  pub took_past : taken p (drop p.at s) ≡ Some (c, q) → Past s p c q
  took_past e = let (f, g) = took s p e in record { stands = stands_by _ f; next = g }

  pub ate_past : eaten p c (drop p.at s) ≡ Some q → Past s p c q
  ate_past e = let (f, g) = ate p c (drop p.at s) e in record { stands = stands_by _ (starts_one (drop p.at s) c f); next = g }

-- the same from a state that is equal
pub past_from : {s : Text} {p q n : Parser} {c : ℕ} → q ≡ p → Past s q c n → Past s p c n
past_from {s} {n = n} {c = c} e h = subst (λ (x : Parser). Past s x c n) e h

pub none_from : (s : Text) (c : ℕ) {p q : Parser} → q ≡ p → starts (drop q.at s) (c ∷ []) ≡ false → starts (drop p.at s) (c ∷ []) ≡ false
none_from s c e h = subst (λ (x : Parser). starts (drop x.at s) (c ∷ []) ≡ false) e h

-- nothing stands there
pub end_from : (s : Text) {p q : Parser} → q ≡ p → drop q.at s ≡ [] → length s ≤ p.at
end_from s {p} {q} e h = omega (arith, length-drop q.at s, ap length h, ap (λ (x : Parser). x.at) e)
