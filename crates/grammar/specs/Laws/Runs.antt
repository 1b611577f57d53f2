-- The longest run of bytes at a place, what stands behind it, and the readers that go by it or by a word. Assumes nothing.
use Rattle.std.specs.Prelude.{◌≡◌, ℕ, suc, ◌+◌, ◌<◌, ◌≤◌, Bool, true, false, [], ◌∷◌, length, drop, ◌==◌, slice_index}
use Rattle.std.proofs.Math.Option.{none, some}
use Rattle.std.proofs.Math.Path.{refl, ap}
use Rattle.std.proofs.Common.{◌∙◌, length-drop, drop-drop}
use Prim.Native.String.{String}
use native.Mathlib.Omega.{arith}
use Rattle.grammar.specs.Text.{Text, b, if◌then◌otherwise◌, choose, starts, run, past}
use Rattle.grammar.specs.Tables.{◌⇒◌}
use Rattle.grammar.specs.Reader.{State, Result, ok, refused, Reader, onto, go_to, eat, need, first, any, every, find, by_code, cases}
use Rattle.grammar.specs.Laws.Agree.{moved}
use Rattle.grammar.specs.Laws.Places.{rest_some, rest_none, starts_byte, past_run}

module _ (p : ℕ → Bool) where
  shorter_if : (q : Bool) (x : ℕ) (t : Text) → length (run p t) ≤ length t → length (if q then x ∷ run p t otherwise []) ≤ suc (length t)
  unfolding if◌then◌otherwise◌
  shorter_if true x t h = omega arith
  shorter_if false x t h = omega arith

  pub run_shorter : (t : Text) → length (run p t) ≤ length t
  unfolding run
  run_shorter [] = omega arith
  run_shorter (x ∷ t) = shorter_if (p x) x t (run_shorter t)

  stops_if : (q : Bool) (x y : ℕ) (t u : Text) → p x ≡ q → (past p t ≡ y ∷ u → p y ≡ false) → (if q then past p t otherwise x ∷ t) ≡ y ∷ u → p y ≡ false
  unfolding if◌then◌otherwise◌
  stops_if true x y t u e f g = f g
  stops_if false x y t u e f g = let h : x ≡ y = cc in rw (← h) e

  -- what stands behind a run is not of it
  pub past_stops : (y : ℕ) (t u : Text) → past p t ≡ y ∷ u → p y ≡ false
  unfolding past
  past_stops y [] u e = let z : ◌≡◌ {A = ℕ} 0 1 = cc in absurd (omega arith)
  past_stops y (x ∷ t) u e = stops_if (p x) x y t u refl (past_stops y t u) e

  module _ (s : Text) (at : ℕ) where
    -- what stands behind a run at a place
    pub past_is : past p (drop at s) ≡ drop (at + length (run p (drop at s))) s
    past_is = past_run p (drop at s) ∙ drop-drop (length (run p (drop at s))) at s

    pub run_within : at ≤ length s → at + length (run p (drop at s)) ≤ length s
    run_within h = omega (arith, run_shorter (drop at s), length-drop at s)

    pub run_stops : at + length (run p (drop at s)) < length s → p (slice_index s (at + length (run p (drop at s)))) ≡ false
    run_stops h = past_stops _ (drop at s) _ (past_is ∙ rest_some s _ h)

    -- a run, one byte at a time
    pub run_more : at < length s → p (slice_index s at) ≡ true → run p (drop at s) ≡ slice_index s at ∷ run p (drop (at + 1) s)
    unfolding if◌then◌otherwise◌ run
    run_more h e = rw (rest_some s at h, e)

    pub run_stop : at < length s → p (slice_index s at) ≡ false → run p (drop at s) ≡ []
    unfolding if◌then◌otherwise◌ run
    run_stop h e = rw (rest_some s at h, e)

    pub run_end : length s ≤ at → run p (drop at s) ≡ []
    unfolding run
    run_end h = rw (rest_none s at h)

    pub every_at : (σ : State) → σ.rest ≡ drop at s → every p σ ≡ ok (run p (drop at s)) (moved (drop (at + length (run p (drop at s))) s) σ)
    unfolding every onto go_to
    every_at σ e = ap (λ (t : Text). ok (run p t) (moved (past p t) σ)) e ∙ ap (λ (t : Text). ok (run p (drop at s)) (moved t σ)) past_is

-- a byte at a place
module _ (s : Text) (at c : ℕ) where
  pub starts_one : at < length s → starts (drop at s) (c ∷ []) ≡ (slice_index s at == c)
  starts_one h = ap (λ (t : Text). starts t (c ∷ [])) (rest_some s at h) ∙ starts_byte (slice_index s at) c (drop (at + 1) s)

  pub starts_none : length s ≤ at → starts (drop at s) (c ∷ []) ≡ false
  unfolding starts
  starts_none h = rw (rest_none s at h)

module _ (s : Text) (at : ℕ) (σ : State) (e : σ.rest ≡ drop at s) where
  pub any_at : at < length s → any σ ≡ ok (slice_index s at) (moved (drop (at + 1) s) σ)
  unfolding any first onto go_to
  any_at h = ap (λ (t : Text). first t σ) (e ∙ rest_some s at h)

  pub any_end : length s ≤ at → any σ ≡ refused 4
  unfolding any first onto
  any_end h = ap (λ (t : Text). first t σ) (e ∙ rest_none s at h)

-- a word at a place
module _ (w : String) (s : Text) (at : ℕ) (σ : State) (e : σ.rest ≡ drop at s) where
  abbrev eaten : Bool → Text → Result Bool
  eaten q t = if◌then◌otherwise◌ {A = Reader Bool} q (λ u. onto (λ _. λ v. ok true v) (go_to (drop (length (b w)) t) u)) (λ u. ok false u) σ

  eat_is : eat w σ ≡ eaten (starts (drop at s) (b w)) (drop at s)
  unfolding eat onto
  eat_is = ap (λ (t : Text). eaten (starts t (b w)) t) e

  pub eat_here : starts (drop at s) (b w) ≡ true → eat w σ ≡ ok true (moved (drop (at + length (b w)) s) σ)
  unfolding if◌then◌otherwise◌ onto go_to
  eat_here h = eat_is ∙ ap (λ (q : Bool). eaten q (drop at s)) h ∙ ap (λ (t : Text). ok true (moved t σ)) (drop-drop (length (b w)) at s)

  pub eat_not : starts (drop at s) (b w) ≡ false → eat w σ ≡ ok false σ
  unfolding if◌then◌otherwise◌ onto go_to
  eat_not h = eat_is ∙ ap (λ (q : Bool). eaten q (drop at s)) h

  abbrev needed : Bool → State → Result (Unit {0})
  needed q = if q then (λ u. ok tt u) otherwise (λ _. refused 4)

  pub need_here : starts (drop at s) (b w) ≡ true → need w σ ≡ ok tt (moved (drop (at + length (b w)) s) σ)
  unfolding if◌then◌otherwise◌ onto need
  need_here h = ap (onto needed) (eat_here h)

  pub need_not : starts (drop at s) (b w) ≡ false → need w σ ≡ refused 4
  unfolding if◌then◌otherwise◌ onto need
  need_not h = ap (onto needed) (eat_not h)

  -- a reading that goes by one word
  module _ {A : Type 0} (m f : Reader A) where
    abbrev found : Bool → Text → Result A
    found q t = choose {A = Reader A × Text} (if q then some (m, drop (length (b w)) t) otherwise none) (λ r. λ (u : State). onto (λ _. r.0) (go_to r.1 u)) f σ

    case_is : cases ((w ⇒ m) ∷ []) f σ ≡ found (starts (drop at s) (b w)) (drop at s)
    unfolding by_code onto find
    case_is = ap (λ (t : Text). found (starts t (b w)) t) e

    pub case_here : starts (drop at s) (b w) ≡ true → cases ((w ⇒ m) ∷ []) f σ ≡ m (moved (drop (at + length (b w)) s) σ)
    unfolding if◌then◌otherwise◌ choose onto go_to
    case_here h = case_is ∙ ap (λ (q : Bool). found q (drop at s)) h ∙ ap (λ (t : Text). m (moved t σ)) (drop-drop (length (b w)) at s)

    pub case_not : starts (drop at s) (b w) ≡ false → cases ((w ⇒ m) ∷ []) f σ ≡ f σ
    unfolding if◌then◌otherwise◌ choose
    case_not h = case_is ∙ ap (λ (q : Bool). found q (drop at s)) h
