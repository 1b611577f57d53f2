-- What an answer of the state's methods tells, once it is taken apart. Assumes nothing.
use Rattle.std.specs.Prelude.{◌≡◌, ℕ, ◌+◌, ◌<◌, ◌≤◌, Bool, true, false, [], ◌∷◌, length, drop, nat_lt, slice_index_or}
use Rattle.std.proofs.Math.Path.{refl, sym}
use Rattle.std.proofs.Common.{◌∙◌, arith, ltb-false}
use Rattle.grammar.specs.Limits.{most_open}
use Rattle.grammar.specs.Text.{Text, if◌then◌otherwise◌, starts}
use Rattle.grammar.specs.Laws.Places.{Stands, stands_by}
use Rattle.grammar.specs.States.{Progress, Read, moved_to, deeper, entered}
use Rattle.grammar.specs.States as states
use Rattle.grammar.specs.declared.refusal.Refusal.{Refusal}
use Rattle.grammar.specs.declared.refusal.Refusal.TheVariants.{TooDeep}

-- ---------------------------------------------------------------- one level down

module _ (p : Progress) {r : Read} (e : r ≡ entered p) where
  pub stayed_out : {k : Refusal} → r ≡ states.Refused k → (most_open ≤ p.depth) × (r ≡ states.Refused TooDeep)
  unfolding if◌then◌otherwise◌
  stayed_out {k} f = go (nat_lt p.depth most_open) refl
    where
      go : (b : Bool) → nat_lt p.depth most_open ≡ b → (most_open ≤ p.depth) × (r ≡ states.Refused TooDeep)
      go true g = let h : states.Refused k ≡ states.read (deeper p) 0 = sym f ∙ e ∙ rw g refl in let z : ◌≡◌ {A = ℕ} 0 1 = cc in absurd (omega arith)
      go false g = (ltb-false p.depth most_open g, e ∙ rw g refl)

-- ---------------------------------------------------------------- a byte read past

-- the byte c stands at p's place, and q is behind it
pub record Past (s : Text) (p : Progress) (c : ℕ) (q : Progress) : Type 0 where
  pub there : drop p.at s ≡ c ∷ drop (p.at + 1) s
  pub ahead : starts (drop p.at s) (c ∷ []) ≡ true
  pub inside : p.at < length s
  pub byte : slice_index_or s p.at 0 ≡ c
  pub next : q ≡ moved_to p (p.at + 1)

module _ {s : Text} {p : Progress} {c : ℕ} {q : Progress} where
  pub past_by : (u : Text) → drop p.at s ≡ c ∷ u → q ≡ moved_to p (p.at + 1) → Past s p c q
  past_by u e f =
      let h : Stands s p.at c = stands_by u e in
      record { there = h.there; ahead = h.ahead; inside = h.inside; byte = h.byte; next = f }
