-- Laws of array types, and of the byte ahead. Assumes nothing.
use Rattle.std.specs.Prelude.{◌≡◌, ℕ, ◌+◌, ◌-◌, ◌<◌, ◌≤◌, Bool, true, false, not, [], ◌∷◌, ◌++◌, length, take, drop, ◌==◌, ◌≢◌}
use Rattle.std.proofs.Math.Path.{refl, ap}
use Rattle.std.proofs.Common.{sym, ◌∙◌, subst, arith, ne_eqb, length-append, length-take-le, length-drop}
use Rattle.grammar.specs.Text.{Text, b, holds, starts, run, if◌then◌otherwise◌}
use Rattle.grammar.specs.Limits.{most_text_bytes}
use Rattle.grammar.specs.Reader.{State, refused, Reader, onto, every, need, give}
use Rattle.grammar.specs.Grammar.{reading, ⟨type⟩}
use Rattle.grammar.specs.Grammar as g
use Rattle.grammar.specs.Laws.Agree.{moved}
use Rattle.grammar.specs.States.{Progress, Read, peeked}
use Rattle.std.specs.Prelude as peeked_as
use Rattle.parser.specs.Holds.{Halves, Memory, mem, part, Holds, Stands, Refines, Puts, given_of}
use Rattle.parser.specs.Laws.Holds.{given_refines}
use Rattle.parser.specs.Laws.Literals.{stands_size}
use Rattle.parser.specs.Laws.Wraps.{stands_puts}
use Rattle.grammar.specs.Laws.Runs.{every_at, need_here, need_not}
use Rattle.grammar.specs.Laws.Places.{peek_end, byte_there, byte_within}

-- ---------------------------------------------------------------- array types

front_if : (q : Bool) (x : ℕ) (t u : Text) → take (length u) t ≡ u → take (length (if q then x ∷ u otherwise [])) (x ∷ t) ≡ (if q then x ∷ u otherwise [])
unfolding if◌then◌otherwise◌
front_if true x t u h = ap (λ (v : Text). x ∷ v) h
front_if false x t u h = refl

-- a run is the front of the text
pub run_front : (p : ℕ → Bool) (t : Text) → take (length (run p t)) t ≡ run p t
unfolding run
run_front p [] = refl
run_front p (x ∷ t) = front_if (p x) x t (run p t) (run_front p t)

abbrev pub bound : ℕ → Bool
bound c = not (c == 95)

abbrev pub sized : Text → Text → Reader Text
sized n t = give (t ++ b " [" ++ n ++ b "]")

abbrev typed : Text → Unit {0} → Reader Text
typed n _ υ = onto (sized n) (reading ⟨type⟩ υ)

abbrev bounded : Text → Reader Text
bounded n τ = onto (typed n) (need "_" τ)

array_is : (σ : State) → g.array_type reading σ ≡ onto bounded (every bound σ)
unfolding g.array_type
array_is σ = refl

module _ (s : Text) (at : ℕ) (σ : State) (e : σ.rest ≡ drop at s) {to : ℕ} (r : to ≡ at + length (run bound (drop at s))) where
  ran : g.array_type reading σ ≡ bounded (run bound (drop at s)) (moved (drop to s) σ)
  unfolding onto
  ran =
      array_is σ
      ∙ ap (onto bounded) (every_at bound s at σ e)
      ∙ ap (λ (j : ℕ). bounded (run bound (drop at s)) (moved (drop j s) σ)) (sym r)

  pub array_4 : starts (drop to s) (95 ∷ []) ≡ false → g.array_type reading σ ≡ refused 4
  unfolding onto b
  array_4 l = ran ∙ ap (onto (typed (run bound (drop at s)))) (need_not "_" s to (moved (drop to s) σ) refl l)

  is_part : run bound (drop at s) ≡ part s at to
  is_part = sym (run_front bound (drop at s)) ∙ ap (λ (j : ℕ). take j (drop at s)) {x = length (run bound (drop at s))} {y = to - at} (omega arith)

  pub array_in : starts (drop to s) (95 ∷ []) ≡ true → g.array_type reading σ ≡ onto (sized (part s at to)) (reading ⟨type⟩ (moved (drop (to + 1) s) σ))
  unfolding onto b
  array_in l =
      ran
      ∙ ap (onto (typed (run bound (drop at s)))) (need_here "_" s to (moved (drop to s) σ) refl l)
      ∙ ap (λ (n : Text). onto (sized n) (reading ⟨type⟩ (moved (drop (to + 1) s) σ))) is_part

pub part_size : {s : Text} {m : Memory} {p : Progress} {σ : State} → Holds s m p σ → (to : ℕ) → to ≤ length s → length (part s p.at to) ≡ to - p.at
part_size {s} {p = p} h to l = length-take-le (to - p.at) (drop p.at s) (omega (arith, length-drop p.at s))

pub array_given :
    {k d : ℕ} {s base : Text} {from : ℕ} {text text₁ text₂ text₃ : Text} {store ends : Halves} {p p₁ p₂ p₃ : Progress} {n : ℕ} {t : Text} {σ : State} {j : ℕ} {r : Read} (v : Text) →
    Stands k d s base from (mem text store ends) p n t σ → length t ≤ most_text_bytes → length v ≤ most_text_bytes →
    Puts text text₁ p p₁ (32 ∷ 91 ∷ []) → Puts text₁ text₂ p₁ p₂ v → Puts text₂ text₃ p₂ p₃ (93 ∷ []) →
    j ≡ n + 3 + length v → r ≡ given_of p₃ j →
    Refines k d s base from (mem text₃ store ends) r (sized v t σ)
unfolding b
array_given {k} {d} {s} {base} {from} {text} {text₁} {text₂} {text₃} {store} {ends} {p} {p₁} {p₂} {p₃} {n} {t} {σ} {j} {r} v h l i x y w z o =
    subst (λ (q : Read). Refines k d s base from (mem text₃ store ends) q (sized v t σ)) (sym o)
    (given_refines (stands_size (stands_puts (stands_puts (stands_puts h x refl) y refl) w refl) j
    (omega (arith, z, h.size, length-append ((t ++ (32 ∷ 91 ∷ [])) ++ v) (93 ∷ []), length-append (t ++ (32 ∷ 91 ∷ [])) v, length-append t (32 ∷ 91 ∷ [])))))

-- ---------------------------------------------------------------- the byte ahead

module _ {s : Text} {m : Memory} {p : Progress} {σ : State} (h : Holds s m p σ) {r : peeked_as.Option ℕ} (e : r ≡ peeked (drop p.at s)) where
  pub byte_at : {c : ℕ} → r ≡ peeked_as.Some c → σ.rest ≡ c ∷ drop (p.at + 1) s
  byte_at f = h.rest ∙ byte_there s p.at (sym e ∙ f)

  pub byte_inside : {c : ℕ} → r ≡ peeked_as.Some c → p.at < length s
  byte_inside f = byte_within s p.at (sym e ∙ f)

  pub no_byte : r ≡ peeked_as.None → σ.rest ≡ []
  no_byte f = h.rest ∙ peek_end (drop p.at s) (sym e ∙ f)

  -- a byte that is known
  pub byte_is : {c : ℕ} (k : ℕ) → r ≡ peeked_as.Some c → c ≡ k → σ.rest ≡ k ∷ drop (p.at + 1) s
  byte_is k f g = byte_at f ∙ ap (λ (x : ℕ). x ∷ drop (p.at + 1) s) g

pub no_name_code : (c : ℕ) → (c ≢ 78) → (c ≢ 83) → (c ≢ 76) → (c ≢ 90) → holds c (b "NSLZ") ≡ false
unfolding holds b
no_name_code c i j k l = simp (ne_eqb c 78 i, ne_eqb c 83 j, ne_eqb c 76 k, ne_eqb c 90 l)
