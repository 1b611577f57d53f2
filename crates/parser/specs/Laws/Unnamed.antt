-- Unnamed types as the code finds their parts. Assumes nothing.
use Rattle.std.specs.Prelude.{Bool, true, false, not, [], ◌∷◌, ◌≡◌, ℕ, ◌+◌, ◌≤◌, ◌<◌, eqb, length, drop, get_or}
use Rattle.std.proofs.Math.Path.{refl, ap}
use Rattle.std.proofs.Common.{◌∙◌}
use borrow.Author.Tests.{eq-eqb, ne_eqb, not-false}
use Rattle.grammar.specs.Text.{Text, b, if◌then◌otherwise◌, starts, run, digit}
use Rattle.grammar.specs.Reader.{State, Result, refused, Reader, onto, return, give, every, eat, need}
use Rattle.grammar.specs.Grammar.{unnamed_type_name}
use Rattle.grammar.specs.Laws.Agree.{moved}
use Rattle.grammar.specs.Laws.Runs.{run_stops, starts_one, starts_none, any_at, any_end, every_at, eat_here, eat_not, need_here, need_not}
use Rattle.parser.specs.Source.{behind_number}

-- "{lambda}" and "{unnamed}"
abbrev pub lambda : Text
lambda = 123 ∷ 108 ∷ 97 ∷ 109 ∷ 98 ∷ 100 ∷ 97 ∷ 125 ∷ []

abbrev pub no_name : Text
no_name = 123 ∷ 117 ∷ 110 ∷ 110 ∷ 97 ∷ 109 ∷ 101 ∷ 100 ∷ 125 ∷ []

-- digits and an underscore, if there are any
abbrev numbered : Reader Text → Reader Text
numbered m σ = onto (λ _. λ u. onto (λ _. m) (eat "_" u)) (every (digit 10) σ)

numbered_is : (m : Reader Text) (s : Text) (at : ℕ) (σ : State) → σ.rest ≡ drop at s → numbered m σ ≡ m (moved (drop (behind_number s at) s) σ)
unfolding behind_number onto if◌then◌otherwise◌ b
numbered_is m s at σ e = ap (onto (λ _. λ u. onto (λ _. m) (eat "_" u))) (every_at (digit 10) s at σ e) ∙ go (starts (drop end s) (95 ∷ [])) refl
  where
    end : ℕ
    end = at + length (run (digit 10) (drop at s))

    go : (q : Bool) → starts (drop end s) (95 ∷ []) ≡ q → onto (λ _. m) (eat "_" (moved (drop end s) σ)) ≡ m (moved (drop (if q then end + 1 otherwise end) s) σ)
    go true f = ap (onto (λ _. m)) (eat_here "_" s end (moved (drop end s) σ) refl f)
    go false f = ap (onto (λ _. m)) (eat_not "_" s end (moved (drop end s) σ) refl f)

abbrev other : ℕ → Bool
other x = not (eqb x 69)

abbrev body : Bool → Reader (Unit {0})
body q = if q then (λ σ. onto (λ _. need "E") (every other σ)) otherwise return tt

abbrev told : Bool → Reader Text
told q = numbered (give (if q then b "{lambda}" otherwise b "{unnamed}"))

abbrev kinded : ℕ → Reader Text
kinded x σ = onto (λ _. told (eqb x 108)) (body (eqb x 108) σ)

module _ (s : Text) (at : ℕ) (σ : State) (e : σ.rest ≡ drop at s) where
  pub unnamed_end : length s ≤ at → unnamed_type_name σ ≡ refused 4
  unfolding unnamed_type_name onto
  unnamed_end h = ap (onto kinded) (any_end s at σ e h)

  module _ (h : at < length s) where
    by_kind : unnamed_type_name σ ≡ kinded (get_or s at 0) (moved (drop (at + 1) s) σ)
    unfolding unnamed_type_name onto
    by_kind = ap (onto kinded) (any_at s at σ e h)

    pub unnamed_other : (get_or s at 0 ≡ 108 → ⊥)
        → unnamed_type_name σ ≡ give no_name (moved (drop (behind_number s (at + 1)) s) σ)
    unfolding onto if◌then◌otherwise◌ b
    unnamed_other d =
        by_kind
        ∙ ap (λ (q : Bool). onto (λ _. told q) (body q (moved (drop (at + 1) s) σ))) (ne_eqb (get_or s at 0) 108 d)
        ∙ numbered_is (give (b "{unnamed}")) s (at + 1) (moved (drop (at + 1) s) σ) refl

    module _ (f : get_or s at 0 ≡ 108) where
      abbrev end : ℕ
      end = at + 1 + length (run other (drop (at + 1) s))

      by_end : unnamed_type_name σ ≡ onto (λ _. told true) (need "E" (moved (drop end s) σ))
      unfolding onto if◌then◌otherwise◌
      by_end =
          by_kind
          ∙ ap (λ (q : Bool). onto (λ _. told q) (body q (moved (drop (at + 1) s) σ))) (eq-eqb (get_or s at 0) 108 f)
          ∙ ap (λ (r : Result Text). onto (λ _. told true) (onto (λ _. need "E") r)) (every_at other s (at + 1) (moved (drop (at + 1) s) σ) refl)

      pub unnamed_open : length s ≤ end → unnamed_type_name σ ≡ refused 4
      unfolding onto b
      unnamed_open l = by_end ∙ ap (onto (λ _. told true)) (need_not "E" s end (moved (drop end s) σ) refl (starts_none s end 69 l))

      pub unnamed_lambda : end < length s
          → unnamed_type_name σ ≡ give lambda (moved (drop (behind_number s (end + 1)) s) σ)
      unfolding onto if◌then◌otherwise◌ b
      unnamed_lambda l =
          by_end
          ∙ ap (onto (λ _. told true)) (need_here "E" s end (moved (drop end s) σ) refl (starts_one s end 69 l ∙ not-false _ (run_stops other s (at + 1) l)))
          ∙ numbered_is (give (b "{lambda}")) s (end + 1) (moved (drop (end + 1) s) σ) refl
