-- Laws of template arguments behind the last part of a nested name. Assumes nothing.
use Rattle.std.specs.Prelude.{◌≡◌, ℕ, ◌+◌, ◌<◌, ◌≤◌, min, Bool, List, [], ◌∷◌, ◌++◌, length, take, drop, refl}
use Rattle.std.proofs.Common.{append_assoc, sym, ap, ◌∙◌, subst, arith, length-append}
use Rattle.std.proofs.Math.Option.{none}
use Rattle.grammar.specs.Text.{Text, b, choose, join, starts}
use Rattle.grammar.specs.Limits.{most_entry_bytes, most_length}
use Rattle.grammar.specs.Reader.{State, Result, ok, refused, Reader, onto, unfit, see, set_args, set_templated, push_sub}
use Rattle.grammar.specs.Grammar.{reading, ⟨template-args⟩, last, onto_last}
use Rattle.grammar.specs.Grammar as g
use Rattle.parser.specs.Holds.{Halves, Memory, mem, Wrote, Pushes, pushed, keep}
use Rattle.parser.specs.Laws.Holds.{with_templated, holds_templated}
use Rattle.parser.specs.Halves.{with_args}
use Rattle.grammar.specs.States.{subs_to, args_to, templated_to, Progress, Read, read}
use Rattle.reader.specs.declared.lists.Parts.{Parts}
use Rattle.reader.specs.Lists.{Reached, Parted, Parting, parted}
use Rattle.reader.specs.Laws.Standing.{parted_kept, stands_sized, stands_at, stands_joined}
use Rattle.reader.specs.Laws.Joined.{parts_by, answer_by, alike_append, shown_is}

abbrev pub argued : g.Parts → Text → g.Parts
argued ps a = record { texts = onto_last a ps.texts; structor = ps.structor }

-- ---------------------------------------------------------------- the definition, one step at a time

abbrev pub Ended : g.Parts → Text → Unit {0} → Reader g.Parts
Ended ps a = λ _. λ u. onto (λ (final : Bool). λ (v : State). onto (λ _. λ (w : State). ok (argued ps a) w) (set_templated final v)) (see "E" u)

abbrev pub After : g.Parts → Text → Reader g.Parts
After ps a = λ τ. onto (Ended ps a) (choose {A = Text} {B = Reader (Unit {0})} (last ps.texts) (λ _. push_sub (join (b "::") (onto_last a ps.texts))) unfit τ)

pub args_is : (ps : g.Parts) (σ : State) → g.prefix_args reading ps σ ≡ onto (After ps) (reading ⟨template-args⟩ (with_args [] σ))
unfolding g.prefix_args g.name_args set_args onto
args_is ps σ = refl

pub ended_is : (ps : g.Parts) (a : Text) (u : State) → Ended ps a tt u ≡ ok (argued ps a) (with_templated (starts u.rest (b "E")) u)
unfolding see onto set_templated
ended_is ps a u = refl

last_none : (ts : List Text) → length ts ≡ 0 → last ts ≡ none
unfolding last
last_none [] e = refl
last_none (t ∷ ts) e = absurd (omega arith)

chosen : (m n : Reader (Unit {0})) (ts : List Text) → 0 < length ts → choose {A = Text} {B = Reader (Unit {0})} (last ts) (λ _. m) n ≡ m
unfolding last choose
chosen m n [] l = absurd (omega arith)
chosen m n (t ∷ []) l = refl
chosen m n (t ∷ u ∷ ts) l = chosen m n (u ∷ ts) (omega arith)

module _ (ps : g.Parts) (a : Text) (τ : State) where
  pub after_none : length ps.texts ≡ 0 → After ps a τ ≡ refused 4
  unfolding onto choose
  after_none e = rw (last_none ps.texts e)

  pub after_some : 0 < length ps.texts → After ps a τ ≡ onto (Ended ps a) (push_sub (join (b "::") (onto_last a ps.texts)) τ)
  after_some l = ap (λ (m : Reader (Unit {0})). onto (Ended ps a) (m τ)) (chosen (push_sub (join (b "::") (onto_last a ps.texts))) unfit ps.texts l)

-- ---------------------------------------------------------------- the texts

joined_args : (a : Text) (ts : List Text) → 0 < length ts → join (b "::") (onto_last a ts) ≡ join (b "::") ts ++ a
unfolding join onto_last
joined_args a [] l = absurd (omega arith)
joined_args a (t ∷ []) l = refl
joined_args a (t ∷ u ∷ []) l = simp append_assoc refl
joined_args a (t ∷ u ∷ v ∷ ts) l = ap (λ (y : Text). t ++ (b "::" ++ y)) (joined_args a (u ∷ v ∷ ts) (omega arith)) ∙ simp append_assoc refl

last_args : (a : Text) (ts : List Text) → 0 < length ts → choose (last (onto_last a ts)) (λ x. x) [] ≡ choose (last ts) (λ x. x) [] ++ a
unfolding last onto_last choose
last_args a [] l = absurd (omega arith)
last_args a (t ∷ []) l = refl
last_args a (t ∷ u ∷ []) l = refl
last_args a (t ∷ u ∷ v ∷ ts) l = last_args a (u ∷ v ∷ ts) (omega arith)

count_args : (a : Text) (ts : List Text) → length (onto_last a ts) ≡ length ts
unfolding onto_last
count_args a [] = refl
count_args a (t ∷ []) = refl
count_args a (t ∷ u ∷ ts) = omega (arith, count_args a (u ∷ ts))

pub argued_parts :
    {s base text : Text} {store ends : Halves} {from : ℕ} {m' : Memory} {p r p' : Progress} {q : Parts} {m : ℕ} {ps : g.Parts} {a : Text} {σ τ : State} →
    Parted (keep p.depth) p.depth s base from (mem text store ends) p q ps σ → r ≡ args_to p 0 0 →
    Wrote (keep (r.depth + 1)) r.depth s (take r.top text) (r.at + 1) m' p' m a τ → 0 < length ps.texts →
    (n l : ℕ) → n ≡ min (q.n + m) most_length → l ≡ min (q.last + m) most_length →
    Parted (keep p.depth) p.depth s base (p.at + 1) m' p' (record { n = n; last = l; count = 1; structor = q.structor }) (argued ps a) τ
argued_parts {s} {base} {text} {store} {ends} {from} {m'} {p} {r} {p'} {q} {m} {ps} {a} {σ} {τ} h e w z n l f g =
    let c = h.stands in
    let v : Wrote (keep (p.depth + 1)) p.depth s (take p.top text) (p.at + 1) m' p' m a τ =
    subst (λ (x : Progress). Wrote (keep (x.depth + 1)) x.depth s (take x.top text) (x.at + 1) m' p' m a τ) e w in
    let y = stands_joined {to = p.at + 1} c (stands_at (keep p.depth) (p.at + 1) v (omega arith) (omega arith) c.least c.most) (omega arith) (omega arith) in
    record {
      shown = h.shown ++ a;
      stands = stands_sized n y refl (omega (arith, f, y.size));
      alike = rw (joined_args a ps.texts z) (alike_append a h.alike);
      final = λ i.
          let j : length (join (b "::") ps.texts) + length a ≤ most_entry_bytes = omega (arith, ap length (joined_args a ps.texts z), length-append (join (b "::") ps.texts) a) in
          let o : length h.shown ≡ length (join (b "::") ps.texts) = ap length (shown_is (λ _ x. omega (arith, x, j)) h.alike) in
          rw (last_args a ps.texts z) (simp length-append (omega (arith, g, h.final (omega arith), h.within, c.size, w.size)));
      within = omega (arith, f, g, h.within);
      count = omega (arith, count_args a ps.texts);
      structor = h.structor;
    }

pub args_pushed :
    {k d n i : ℕ} {s base : Text} {from : ℕ} {m m' : Memory} {p next v : Progress} {q : Parts} (ps : g.Parts) (a : Text) {τ : State} {r : Read} {f : Result (Unit {0})} {c e : ℕ} {z : Bool} →
    r ≡ read next i → m'.text ≡ m.text → v ≡ templated_to next z → z ≡ starts (drop next.at s) (69 ∷ []) → Parted k d s base from m p q (argued ps a) τ → Pushes s m' n (subs_to p c e) r f →
    Parting k d s base from m' (Reached v q) (onto (Ended ps a) f)
unfolding onto b
args_pushed {k} {d} {n} {i} {s} {base} {from} {m} {m'} {p} {next} {v} {q} ps a {τ} {r} {f} {c} {e} {z} x t y j h u =
    told (subst (λ (o : Read). Pushes s m' n (subs_to p c e) o f) x u) y j
  where
    told : {next : Progress} {i : ℕ} {f : Result (Unit {0})} → Pushes s m' n (subs_to p c e) (read next i) f → v ≡ templated_to next z → z ≡ starts (drop next.at s) (69 ∷ []) → Parting k d s base from m' (Reached v q) (onto (Ended ps a) f)
    told (pushed {σ = o} w) y j =
        let l : starts o.rest (69 ∷ []) ≡ z = ap (λ (r : Text). starts r (69 ∷ [])) w.rest ∙ sym j in
        parts_by (ended_is ps a o ∙ ap (λ (x : Bool). ok (argued ps a) (with_templated x o)) l)
        (answer_by (ap (λ (x : Progress). Reached x q) y) (parted {ps = argued ps a} (parted_kept h (holds_templated w z) (ap (take p.top) t) refl h.stands.more)))
