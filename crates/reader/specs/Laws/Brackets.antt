-- A list of template arguments on the stack, behind its <. Assumes nothing.
use Rattle.std.specs.Prelude.{◌≡◌, ℕ, ◌+◌, ◌-◌, ◌<◌, ◌≤◌, min, Bool, true, false, List, [], ◌∷◌, ◌++◌, length, take, drop, ◌==◌, ◌≢◌, nat_le, slice_index, slice_index_or, refl}
use Rattle.std.proofs.Common.{sym, ◌∙◌, subst, arith, length-append, get_or-take, get_or-drop, get_or-append-add}
use Rattle.std.proofs.Math.Path.{ap}
use borrow.Author.Tests.{eq-eqb, ne_eqb}
use Rattle.grammar.specs.Text.{Text, b, if◌then◌otherwise◌, starts, ends, join}
use Rattle.grammar.specs.Limits.{most_open, most_text_bytes, most_length, kept_bytes}
use Rattle.grammar.specs.Reader.{State, Result, ok, Reader, onto, return, refuse, give}
use Rattle.grammar.specs.Grammar as g
use Rattle.grammar.specs.Laws.Loops.{closed}
use Rattle.grammar.specs.Laws.Agree.{moved}
use Rattle.grammar.specs.Laws.Steps.{at_level}
use Rattle.store.specs.Stack.{Tail}
use Rattle.store.specs.Laws.Tails.{whole, both, weaken, put_tail, size, top_size}
use Rattle.parser.specs.Holds.{Halves, Memory, mem, Holds, Stands, Puts, keep}
use Rattle.parser.specs.Laws.Holds.{holds_depth, holds_moved}
use Rattle.grammar.specs.States.{moved_to, deeper, at_depth, Progress}
use Rattle.reader.specs.Laws.Standing.{stands_least}
use Rattle.reader.specs.Laws.Closes.{closed_yes, behind_is, then_ok}

pub bracket_stands :
    {s text text' : List ℕ} {store ends : Halves} {m'' : Memory} (p : Progress) {q r o last mv next : Progress} {at end n : ℕ} {t : Text} {ρ τ : State} →
    r ≡ deeper q → q ≡ moved_to p at → p.depth < most_open → Holds s (mem text store ends) r ρ → Puts text text' r o (60 ∷ []) →
    Stands (keep o.depth) o.depth s (take o.top text') o.at m'' last n t τ →
    mv ≡ moved_to last end → next ≡ at_depth mv p.depth → last.at ≤ end → end ≤ length s →
    Stands (keep (p.depth + 1)) p.depth s (take p.top text) at m'' next (min (length (60 ∷ t)) most_length) (60 ∷ t) (at_level p.depth (moved (drop end s) τ))
bracket_stands {s} {text} {text'} {store} {ends} {m''} p {q} {r} {o} {last} {mv} {next} {at} {end} {n} {t} {ρ} {τ} e f d h u w g i l k =
    let x : r ≡ deeper (moved_to p at) = e ∙ ap deeper f in
    let y : o.depth ≡ p.depth + 1 = ap (λ (z : Progress). z.depth) u.same ∙ ap (λ (z : Progress). z.depth) x in
    let a : Tail (keep o.depth) (take o.top text') (take r.top text ++ (60 ∷ [])) =
    weaken (omega (arith, y)) (put_tail (60 ∷ []) h.text (omega arith) u.put (whole kept_bytes (take r.top text))) in
    let v : Tail (keep o.depth) (take last.top m''.text) (take r.top text ++ (60 ∷ t)) = both (take r.top text) (60 ∷ []) t a w.tail in
    let v' : Tail (keep (p.depth + 1)) (take last.top m''.text) (take r.top text ++ (60 ∷ t)) =
    subst (λ (z : ℕ). Tail (keep z) (take last.top m''.text) (take r.top text ++ (60 ∷ t))) y v in
    let v'' : Tail (keep (p.depth + 1)) (take last.top m''.text) (take p.top text ++ (60 ∷ t)) =
    subst (λ (z : ℕ). Tail (keep (p.depth + 1)) (take last.top m''.text) (take z text ++ (60 ∷ t))) (ap (λ (z : Progress). z.top) x) v' in
    let j : next ≡ at_depth (moved_to last end) p.depth = i ∙ ap (λ (z : Progress). at_depth z p.depth) g in
    subst (λ (z : Progress). Stands (keep (p.depth + 1)) p.depth s (take p.top text) at m'' z (min (length (60 ∷ t)) most_length) (60 ∷ t) (at_level p.depth (moved (drop end s) τ))) (sym j) (record {
      holds = holds_depth (holds_moved w.holds end k) p.depth (omega arith);
      tail = v'';
      size = refl;
      level = refl;
      more = omega (arith, w.more, ap (λ (z : Progress). z.at) u.same, ap (λ (z : Progress). z.at) x);
      least = omega arith;
      most = omega arith;
    })

pub stands_some : {k d : ℕ} {s base : Text} {from : ℕ} {m : Memory} {p : Progress} {n : ℕ} {t : Text} {σ : State} → Stands k d s base from m p n t σ → 1 ≤ length t → 1 ≤ p.top
stands_some h l = omega (arith, stands_least h, h.size, l)

-- ---------------------------------------------------------------- the closing >

ends_last : (c x : ℕ) (t : Text) → ends c (x ∷ t) ≡ (slice_index (x ∷ t) (length t) == c)
unfolding ends
ends_last c x [] = refl
ends_last c x (y ∷ t) = ends_last c y t

pub stands_last :
    {k d : ℕ} {s base : Text} {from : ℕ} {m : Memory} {p : Progress} {n x : ℕ} {t : Text} {σ : State} →
    Stands k d s base from m p n (x ∷ t) σ → slice_index m.text (p.top - 1) ≡ slice_index (x ∷ t) (length t)
stands_last {base = base} {m = m} {p = p} {x = x} {t = t} h =
    let l : 1 ≤ p.top = stands_some h (omega arith) in
    sym (get_or-take p.top m.text (p.top - 1) 0 (omega arith))
    ∙ ap (λ (w : Text). slice_index w (p.top - 1)) h.tail.is
    ∙ get_or-drop h.tail.lost (base ++ (x ∷ t)) (p.top - 1) 0
    ∙ ap (λ (i : ℕ). slice_index (base ++ (x ∷ t)) i) {x = h.tail.lost + (p.top - 1)} {y = length base + length t} (omega (arith, h.least, h.tail.most, size h.tail, top_size h.holds.text, length-append base (x ∷ t)))
    ∙ get_or-append-add base (x ∷ t) (length t) 0

abbrev closing : Text → Bool → Text
closing t q = t ++ (if q then b " >" otherwise b ">")

module _ (ts : List Text) where
  pub angled_more : slice_index_or (60 ∷ join (b ", ") ts) (length (join (b ", ") ts)) 0 ≡ 62 → g.angled ts ≡ (60 ∷ join (b ", ") ts) ++ (32 ∷ 62 ∷ [])
  unfolding g.angled b if◌then◌otherwise◌
  angled_more e = ap (closing (60 ∷ join (b ", ") ts)) (ends_last 62 60 (join (b ", ") ts) ∙ eq-eqb _ 62 e)

  pub angled_plain : (slice_index (60 ∷ join (b ", ") ts) (length (join (b ", ") ts)) ≢ 62) → g.angled ts ≡ (60 ∷ join (b ", ") ts) ++ (62 ∷ [])
  unfolding g.angled b if◌then◌otherwise◌
  angled_plain e = ap (closing (60 ∷ join (b ", ") ts)) (ends_last 62 60 (join (b ", ") ts) ∙ ne_eqb _ 62 e)

give_level : (t : Text) (d : ℕ) (σ : State) → onto (λ t u. ok t (at_level d u)) (give t σ) ≡ give t (at_level d σ)
unfolding give onto if◌then◌otherwise◌
give_level t d σ = go (nat_le (length t) most_text_bytes)
  where
    go : (q : Bool) → onto (λ t u. ok t (at_level d u)) (if◌then◌otherwise◌ {A = Reader Text} q (return t) (refuse 11) σ) ≡ if◌then◌otherwise◌ {A = Reader Text} q (return t) (refuse 11) (at_level d σ)
    go true = refl
    go false = refl

pub args_given :
    (s : Text) (end : ℕ) {f : Result (List Text)} {ts : List Text} {τ : State} {d d' : ℕ} {t : Text} →
    f ≡ ok ts τ → τ.rest ≡ drop end s → starts τ.rest (69 ∷ []) ≡ true → d ≡ d' → g.angled ts ≡ t →
    onto (λ t u. ok t (at_level d u)) (onto (λ ts. give (g.angled ts)) (onto closed f)) ≡ give t (at_level d' (moved (drop (end + 1) s) τ))
args_given s end {f} {ts} {τ} {d} {d'} {t} e r h k a =
    ap (onto (λ t u. ok t (at_level d u))) (then_ok (λ ts. give (g.angled ts)) (closed_yes e h))
    ∙ give_level (g.angled ts) d (moved (drop 1 τ.rest) τ)
    ∙ ap (λ (x : State). give (g.angled ts) (at_level d x)) (behind_is s end τ r)
    ∙ ap (λ (x : ℕ). give (g.angled ts) (at_level x (moved (drop (end + 1) s) τ))) k
    ∙ ap (λ (x : Text). give x (at_level d' (moved (drop (end + 1) s) τ))) a
