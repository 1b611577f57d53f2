-- Laws of Source.antt. Assumes nothing.
use Rattle.std.specs.Prelude.{Bool, true, false, ◌&&◌, [], ◌∷◌, ◌++◌, ◌≡◌, ℕ, zero, suc, ◌+◌, ◌-◌, ◌≤◌, ◌<◌, length, take, drop, Option, Some, None}
use Rattle.std.proofs.Common.{append_assoc, append-nil, sym, ap₂, ◌∙◌, add-one, arith, leb-true, leb-false, length-append, length-drop, drop-drop}
use Rattle.std.proofs.Math.Path.{refl, ap}
use Rattle.std.proofs.lemmas.Bool.{lt-leb}
use Rattle.std.proofs.Math.Dec.{leb}
use Rattle.grammar.specs.Text.{Text, b, if◌then◌otherwise◌, starts, run, digit, number}
use Rattle.grammar.specs.Limits.{most_text_bytes}
use Rattle.grammar.specs.Tables.{◌⇒◌}
use Rattle.grammar.specs.Reader.{State, Result, ok, refused, Reader, onto, unfit, go_to, give, cases}
use Rattle.grammar.specs.Grammar.{⟨source-name⟩, source_name, production, reading}
use Rattle.grammar.specs.Laws.Agree.{moved}
use Rattle.grammar.specs.Laws.Fuel.{reading_is}
use Rattle.grammar.specs.declared.part.Part.{Part}
use Rattle.parser.specs.Holds.{part}
use Rattle.grammar.specs.Laws.Runs.{every_at, case_here, case_not, run_within}
use Rattle.parser.specs.Source.{behind_number, identified, closers}

pub number_more : (s : Text) (at : ℕ) → at ≤ behind_number s at
unfolding behind_number if◌then◌otherwise◌
number_more s at = go (starts (drop end s) (95 ∷ []))
  where
    end : ℕ
    end = at + length (run (digit 10) (drop at s))

    go : (q : Bool) → at ≤ (if q then end + 1 otherwise end)
    go true = omega arith
    go false = omega arith

-- what is printed where the innermost source name w is read
unfoldable pub tagged : Text → ℕ → Text → Reader Text
tagged pre k w = give (pre ++ (w ++ closers k))

-- a text that is given as a part of a text that is given
give_give : (pre y : Text) (k : ℕ) (σ : State) → onto (tagged pre k) (give y σ) ≡ give (pre ++ (y ++ closers k)) σ
unfolding onto give tagged if◌then◌otherwise◌
give_give pre y k σ = go (leb (length y) most_text_bytes) refl
  where
    told : Bool → Text → State → Result Text
    told q t = if q then (λ u. ok t u) otherwise (λ _. refused 11)

    go : (q : Bool) → leb (length y) most_text_bytes ≡ q → onto (tagged pre k) (told q y σ) ≡ told (leb (length (pre ++ (y ++ closers k))) most_text_bytes) (pre ++ (y ++ closers k)) σ
    go true e = refl
    go false e = ap (λ (q : Bool). told q (pre ++ (y ++ closers k)) σ)
        (sym (lt-leb (length (pre ++ (y ++ closers k))) most_text_bytes (omega (arith, leb-false (length y) most_text_bytes e, length-append pre (y ++ closers k), length-append y (closers k)))))

-- an identifier with a tag behind it
abbrev with_tag : Text → Text → Reader Text
with_tag x w = give (((x ++ b "[abi:") ++ w) ++ b "]")

-- one tag more is open
tag_opens : (pre x : Text) (k : ℕ) (r : Result Text) → onto (tagged pre k) (onto (with_tag x) r) ≡ onto (tagged ((pre ++ x) ++ b "[abi:") (suc k)) r
unfolding onto tagged closers b
tag_opens pre x k (ok w u) =
    give_give pre (((x ++ b "[abi:") ++ w) ++ b "]") k u ∙ ap (λ (t : Text). give t u) (simp append_assoc)
tag_opens pre x k (refused r) = refl

unwrapped : (x : Text) (σ : State) → onto (tagged [] 0) (give x σ) ≡ give x σ
unfolding closers
unwrapped x σ = give_give [] x 0 σ ∙ ap (λ (t : Text). give t σ) (append-nil x)

unwrapped_tag : (x : Text) (r : Result Text) → onto (tagged [] 0) (onto (with_tag x) r) ≡ onto (with_tag x) r
unfolding onto
unwrapped_tag x (ok w u) = unwrapped (((x ++ b "[abi:") ++ w) ++ b "]") u
unwrapped_tag x (refused r) = refl

-- what is read behind an identifier
abbrev tag : Text → Reader Text
tag x σ = onto (with_tag x) (reading ⟨source-name⟩ σ)

abbrev behind_name : Text → Reader Text
behind_name x = cases (("B" ⇒ tag x) ∷ []) (give x)

unfoldable named_by : Text → State → Option Part → Result Text
named_by s σ (Some q) = behind_name (part s q.from q.to) (moved (drop q.to s) σ)
named_by s σ None = refused 4

module _ (s : Text) (at : ℕ) (σ : State) (e : σ.rest ≡ drop at s) where
  abbrev sized : Text → Text → Reader Text
  sized d t = if leb 1 (number 10 0 d) && leb (number 10 0 d) (length t) then (λ u. onto (λ _. behind_name (take (number 10 0 d) t)) (go_to (drop (number 10 0 d) t) u)) otherwise unfit

  by_sizes : reading ⟨source-name⟩ σ ≡ sized (run (digit 10) (drop at s)) (drop (at + length (run (digit 10) (drop at s))) s) (moved (drop (at + length (run (digit 10) (drop at s))) s) σ)
  unfolding production source_name onto
  by_sizes = reading_is ⟨source-name⟩ σ ∙ ap (onto (λ (d : Text) (u : State). sized d u.rest u)) (every_at (digit 10) s at σ e)

  source_is : reading ⟨source-name⟩ σ ≡ named_by s σ (identified s at)
  unfolding identified named_by if◌then◌otherwise◌ onto go_to
  source_is = by_sizes ∙ go (leb 1 n && leb n (length (drop from s)))
    where
      d : Text
      d = run (digit 10) (drop at s)

      from : ℕ
      from = at + length d

      n : ℕ
      n = number 10 0 d

      go : (q : Bool) → (if q then (λ (u : State). onto (λ _. behind_name (take n (drop from s))) (go_to (drop n (drop from s)) u)) otherwise unfit) (moved (drop from s) σ) ≡ named_by s σ (if q then Some (record { from = from; to = from + n }) otherwise None)
      go true = ap₂ (λ (x t : Text). behind_name x (moved t σ)) (ap (λ (k : ℕ). take k (drop from s)) {x = n} {y = from + n - from} (omega arith)) (drop-drop n from s)
      go false = refl

-- where the identifier lies
pub record Located (s : Text) (at from to : ℕ) : Type 0 where
  pub behind : at ≤ from
  pub some : from < to
  pub inside : to ≤ length s

pub identified_in : (s : Text) (at : ℕ) (part : Part) → at ≤ length s → identified s at ≡ Some part → Located s at part.from part.to
unfolding identified if◌then◌otherwise◌
identified_in s at part l = go (leb 1 n) (leb n (length (drop start s))) refl refl
  where
    start : ℕ
    start = at + length (run (digit 10) (drop at s))

    n : ℕ
    n = number 10 0 (run (digit 10) (drop at s))

    go : (q r : Bool) → leb 1 n ≡ q → leb n (length (drop start s)) ≡ r → (if q && r then Some (record { from = start; to = start + n }) otherwise None) ≡ Some part → Located s at part.from part.to
    go true true e f h =
        let m : ◌≡◌ {A = Part} (record { from = start; to = start + n }) part = cc in
        let i : start ≡ part.from = ap (λ (x : Part). x.from) m in
        let j : start + n ≡ part.to = ap (λ (x : Part). x.to) m in
        let x = leb-true 1 n e in
        let y = leb-true n (length (drop start s)) f in
        let z : start ≤ length s = run_within (digit 10) s at l in
        record { behind = omega arith; some = omega arith; inside = omega (arith, length-drop start s) }
    go true false e f h = let z : ◌≡◌ {A = ℕ} 0 1 = cc in absurd (omega arith)
    go false r e f h = let z : ◌≡◌ {A = ℕ} 0 1 = cc in absurd (omega arith)

-- the reading of a source name, with the text so far and the tags that are open
settled : (s : Text) (σ : State) (f : Option Part) → onto (tagged [] 0) (named_by s σ f) ≡ named_by s σ f
unfolding named_by onto b
settled s σ (Some q) = go (starts (drop to s) (b "B")) refl
  where
    from : ℕ
    from = q.from

    to : ℕ
    to = q.to

    x : Text
    x = part s from to

    go : (q : Bool) → starts (drop to s) (b "B") ≡ q → onto (tagged [] 0) (behind_name x (moved (drop to s) σ)) ≡ behind_name x (moved (drop to s) σ)
    go true e = let c = case_here "B" s to (moved (drop to s) σ) refl (tag x) (give x) e in ap (onto (tagged [] 0)) c ∙ unwrapped_tag x (reading ⟨source-name⟩ (moved (drop (to + 1) s) σ)) ∙ sym c
    go false e = let c = case_not "B" s to (moved (drop to s) σ) refl (tag x) (give x) e in ap (onto (tagged [] 0)) c ∙ unwrapped x (moved (drop to s) σ) ∙ sym c
settled s σ None = refl

pub tags_start : (σ : State) → reading ⟨source-name⟩ σ ≡ onto (tagged [] 0) (reading ⟨source-name⟩ σ)
tags_start σ =
    let e = source_is σ.rest 0 σ refl in
    e ∙ sym (ap (onto (tagged [] 0)) e ∙ settled σ.rest σ (identified σ.rest 0))

module _ (pre : Text) (k : ℕ) (s : Text) (at : ℕ) (σ : State) (e : σ.rest ≡ drop at s) where
  pub tags_refused : identified s at ≡ None → onto (tagged pre k) (reading ⟨source-name⟩ σ) ≡ refused 4
  unfolding named_by onto
  tags_refused h = ap (onto (tagged pre k)) (source_is s at σ e ∙ ap (named_by s σ) h)

  module _ {from to : ℕ} (h : identified s at ≡ Some (record { from = from; to = to })) where
    pub tags_end : starts (drop to s) (66 ∷ []) ≡ false
        → onto (tagged pre k) (reading ⟨source-name⟩ σ) ≡ give ((pre ++ part s from to) ++ closers k) (moved (drop to s) σ)
    unfolding named_by b
    tags_end q =
        ap (onto (tagged pre k)) (source_is s at σ e ∙ ap (named_by s σ) h ∙ case_not "B" s to (moved (drop to s) σ) refl (tag (part s from to)) (give (part s from to)) q)
        ∙ give_give pre (part s from to) k (moved (drop to s) σ)
        ∙ ap (λ (t : Text). give t (moved (drop to s) σ)) (sym (append_assoc pre (part s from to) (closers k)))

    pub tags_more : starts (drop to s) (66 ∷ []) ≡ true
        → onto (tagged pre k) (reading ⟨source-name⟩ σ)
        ≡ onto (tagged ((pre ++ part s from to) ++ (91 ∷ 97 ∷ 98 ∷ 105 ∷ 58 ∷ [])) (k + 1)) (reading ⟨source-name⟩ (moved (drop (to + 1) s) σ))
    unfolding named_by b
    tags_more q =
        ap (onto (tagged pre k)) (source_is s at σ e ∙ ap (named_by s σ) h ∙ case_here "B" s to (moved (drop to s) σ) refl (tag (part s from to)) (give (part s from to)) q)
        ∙ tag_opens pre (part s from to) k (reading ⟨source-name⟩ (moved (drop (to + 1) s) σ))
        ∙ ap (λ (j : ℕ). onto (tagged ((pre ++ part s from to) ++ (91 ∷ 97 ∷ 98 ∷ 105 ∷ 58 ∷ [])) j) (reading ⟨source-name⟩ (moved (drop (to + 1) s) σ))) (sym (add-one k))

pub length_closers : (k : ℕ) → length (closers k) ≡ k
unfolding closers
length_closers zero = refl
length_closers (suc k) = ap suc (length_closers k)

-- one more of them
pub closers_more : (k : ℕ) → closers k ++ (93 ∷ []) ≡ closers (k + 1)
unfolding closers
closers_more k = again k ∙ ap closers (sym (add-one k))
  where
    again : (j : ℕ) → closers j ++ (93 ∷ []) ≡ closers (suc j)
    again zero = refl
    again (suc j) = ap (λ (t : Text). 93 ∷ t) (again j)
