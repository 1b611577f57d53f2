-- The empty state, and the special names GV, TV, TT, TI and TS. Assumes nothing.
use Rattle.std.specs.Prelude.{true, false, Some, None, [], ◌∷◌, ◌++◌, ◌≡◌, refl, ℕ, ◌+◌, ◌≤◌, min, length, take, drop}
use Rattle.std.proofs.Common.{sym, ◌∙◌, arith, length-drop}
use Rattle.std.specs.Borrow.{Bor}
use Rattle.std.proofs.Math.Path.{ap}
use Rattle.std.proofs.Math.ListN.{length-append}
use Rattle.grammar.specs.Text.{Text, b, starts, each}
use Rattle.grammar.specs.Limits.{most_text_bytes, most_length, kept_bytes}
use Rattle.grammar.specs.Reader.{Reader, State, onto, give, start, cases}
use Rattle.grammar.specs.Grammar.{reading, ⟨encoding⟩, ⟨name⟩, ⟨type⟩, labelled, thunks, function_or_data}
use Rattle.grammar.specs.Laws.Agree.{moved}
use Rattle.grammar.specs.Words.{longest_word}
use Rattle.store.specs.Stack.{Stack, Tail}
use Rattle.store.specs.Laws.Entries.{no_entries, sized_of}
use Rattle.parser.specs.declared.demangler.Demangler.{Demangler}
use Rattle.parser.specs.Demanglers.{state_of}
use Rattle.store.specs.Laws.Tails.{stack_of, whole, weaken, both, put_tail}
use Rattle.grammar.specs.States.{Progress, Read, read, Refused, raised_to, moved_to, fresh}
use Rattle.grammar.specs.Laws.Places.{rest_none}
use Rattle.parser.specs.Holds.{Halves, Memory, mem, window, Holds, Reads, Puts, keep, given_of}
use Rattle.parser.specs.Laws.Holds.{by_state, holds_moved, holds_puts, Got, got}
use Rattle.parser.specs.Laws.Adds.{puts_from}
use Rattle.encoding.specs.Encodings.{Labels, Fresh, Begun, Encodes}
use Rattle.encoding.specs.Laws.Answers.{encodes_by, encodes_refused, encodes_given}
use Rattle.encoding.specs.Laws.Labels.{after, guard, guard_read, labelled_is, unlabelled_is}
use Rattle.grammar.specs.declared.refusal.Refusal.{Refusal}

-- ---------------------------------------------------------------- the empty state

-- a demangler with nothing in it
pub begun_by : (d : Demangler) → state_of d ≡ fresh → Begun d
begun_by d e = record {
  same = e ∙ sym (ap (λ (p : Progress). raised_to fresh p.top) e);
  text = stack_of d.stack;
  subs = no_entries (sized_of d.subs);
  args = no_entries (sized_of d.args);
}

pub fresh_holds : {s : Text} {m : Memory} {p : Progress} → length s ≤ most_text_bytes → Fresh m p → Holds s m p (start s)
unfolding start each
fresh_holds l h = by_state h.same (record {
  source = l;
  place = omega arith;
  rest = refl;
  depth = refl;
  deep = omega arith;
  text = h.text;
  subs = h.subs;
  args = h.args;
  cv = refl;
  cv_within = (omega arith, omega arith);
  templated = refl;
})

pub fresh_puts : {text text' : Text} {store ends : Halves} {p p' : Progress} {t : Text} → Puts text text' p p' t → Fresh (mem text store ends) p → Fresh (mem text' store ends) p'
fresh_puts {p' = p'} u h = record { same = u.same ∙ ap (λ (q : Progress). raised_to q p'.top) h.same; text = u.put.stack; subs = h.subs; args = h.args }

-- ---------------------------------------------------------------- texts read anew

-- a text that was read anew behind w, at the end of the symbol
pub prefixed :
    {k : ℕ} {s base base' : Text} (w t : Text) {m : Memory} (next : Progress) {end : Progress} {n : ℕ} {v : Read} →
    k ≤ kept_bytes → Stack m.text next.top → Tail kept_bytes base' (base ++ w) → Tail k (window m next) (base' ++ t) →
    end ≡ moved_to next (length s) → n ≡ min (length (w ++ t)) most_length → v ≡ given_of end n → Encodes k s base m v (give (w ++ t) (start []))
unfolding start
prefixed {k} {s} {base} {base'} w t {m} next {end} {n} {v} l c h g z e f =
    encodes_given (f ∙ ap (λ (q : Progress). given_of q n) z) e (λ i. record {
      place = omega arith;
      rest = sym (rest_none s (length s) (omega arith));
      text = c;
      tail = both base w t (weaken l h) g;
      size = omega arith;
      short = i;
    })

-- ---------------------------------------------------------------- GV

module _ (s : Text) {part text text₁ : Text} {store ends : Halves} {p o : Progress} (l : length s ≤ most_text_bytes) (e : starts s (71 ∷ 86 ∷ []) ≡ true)
    (i : part ≡ drop 2 s) (h : Fresh (mem text store ends) p)
    (u : Puts text text₁ p o guard) where
  pub guard_holds : Holds part (mem text₁ store ends) o (start part)
  guard_holds = fresh_holds (omega (arith, ap length i, length-drop 2 s)) (fresh_puts u h)

  module _ {m₂ : Memory} {r : Read} (f : Reads (reading ⟨name⟩) (keep (o.depth + 1)) (o.at + 1) part (mem text₁ store ends) m₂ o r) where
    guard_is : reading ⟨encoding⟩ (start s) ≡ onto (after guard) (reading ⟨name⟩ (start part))
    guard_is = guard_read s e ∙ ap (λ (t : Text). onto (after guard) (reading ⟨name⟩ (start t))) (sym i)

    pub guard_refused : {k : ℕ} {base : Text} {m' : Memory} {j : Refusal} → r ≡ Refused j → Encodes k s base m' r (reading ⟨encoding⟩ (start s))
    guard_refused x = encodes_by guard_is (encodes_refused (after guard) x (f (start part) guard_holds))

    pub guard_got : {next : Progress} {n : ℕ} → r ≡ read next n → Got (keep (o.depth + 1)) o.depth part (window (mem text₁ store ends) o) (o.at + 1) m₂ next n (reading ⟨name⟩ (start part))
    guard_got x = got x (f (start part) guard_holds)

    pub guard_given : {next end : Progress} {n : ℕ} {v : Read} → r ≡ read next n → end ≡ moved_to next (length s) → v ≡ given_of end (n + 19) →
        Encodes (keep 0) s (window (mem text store ends) p) m₂ v (reading ⟨encoding⟩ (start s))
    unfolding onto b
    guard_given {next} {end} {n} {v} x z y =
        let g = guard_got x in
        let w = g.wrote in
        encodes_by (guard_is ∙ ap (onto (after guard)) g.is)
        (prefixed guard g.said next (omega arith) w.holds.text (put_tail guard h.text (omega arith) u.put (whole kept_bytes (take p.top text)))
        (weaken (omega arith) w.tail) z (omega (arith, w.size, w.short, length-append guard g.said)) y)

-- ---------------------------------------------------------------- a text behind a label

module _ {s text text₁ : Text} {store ends : Halves} {p o : Progress} {w : Text} {σ : State} (h : Holds s (mem text store ends) p σ) (u : Puts text text₁ p o w)
    {m₂ : Memory} {r : Read} {f : Reader Text}
    {k from : ℕ} (g : Reads f k from s (mem text₁ store ends) m₂ o r) where
  pub behind_refused : {j : ℕ} {base : Text} {m' : Memory} {i : Refusal} → r ≡ Refused i → Encodes j s base m' r (labelled w f σ)
  behind_refused y = encodes_refused (λ t. give (w ++ t)) y (g σ (holds_puts u h))

  pub behind_got : {next : Progress} {n : ℕ} → r ≡ read next n → Got k o.depth s (window (mem text₁ store ends) o) from m₂ next n (f σ)
  behind_got y = got y (g σ (holds_puts u h))

  pub behind_given :
      {next : Progress} {n : ℕ} {v : Read} → keep 0 ≤ k → length w ≤ longest_word → r ≡ read next n → v ≡ given_of next (n + length w) →
      Encodes (keep 0) s (window (mem text store ends) p) m₂ v (labelled w f σ)
  unfolding onto
  behind_given {next} {n} {v} i j y c =
      let z = behind_got y in
      let a = z.wrote in
      encodes_by (ap (onto (λ t. give (w ++ t))) z.is)
      (encodes_given c (omega (arith, a.size, a.short, length-append w z.said, j)) (λ d. record {
        place = a.holds.place;
        rest = a.holds.rest;
        text = a.holds.text;
        tail = both (take p.top text) w z.said (weaken (omega arith) (put_tail w h.text (omega arith) u.put (whole kept_bytes (take p.top text)))) (weaken i a.tail);
        size = omega (arith, a.size, length-append w z.said);
        short = d;
      }))

-- ---------------------------------------------------------------- labels

module _ {s text text₁ : Text} {store ends : Halves} {p q o : Progress} {w : Bor Text} (l : length s ≤ most_text_bytes) (h : Fresh (mem text store ends) p)
    (k : Labels s (Some w)) (z : q ≡ moved_to p 2)
    (u : Puts text text₁ q o w.now) where
  label_moved : Holds s (mem text store ends) (moved_to p 2) (moved (drop 2 s) (start s))
  label_moved = holds_moved (fresh_holds l h) 2 (k.long refl)

  pub label_holds : Holds s (mem text₁ store ends) o (moved (drop 2 s) (start s))
  label_holds = holds_puts (puts_from z u) label_moved

  module _ {m₂ : Memory} {r : Read} (f : Reads (reading ⟨type⟩) (keep (o.depth + 1)) (o.at + 1) s (mem text₁ store ends) m₂ o r) where
    pub label_refused : {j : ℕ} {base : Text} {m' : Memory} {i : Refusal} → r ≡ Refused i → Encodes j s base m' r (reading ⟨encoding⟩ (start s))
    label_refused y = encodes_by (labelled_is k) (behind_refused label_moved (puts_from z u) f y)

    pub label_got : {next : Progress} {n : ℕ} → r ≡ read next n →
        Got (keep (o.depth + 1)) o.depth s (window (mem text₁ store ends) o) (o.at + 1) m₂ next n (reading ⟨type⟩ (moved (drop 2 s) (start s)))
    label_got y = behind_got label_moved (puts_from z u) f y

    pub label_given : {next : Progress} {n : ℕ} {v : Read} → r ≡ read next n → v ≡ given_of next (n + length w.now) →
        Encodes (keep 0) s (window (mem text store ends) p) m₂ v (reading ⟨encoding⟩ (start s))
    label_given y c = encodes_by (labelled_is k) (behind_given label_moved (puts_from z u) f (omega arith) k.fits y c)

-- ---------------------------------------------------------------- other names

pub other_read :
    {s base : Text} {m' : Memory} {r : Read} → Labels s None → starts s (71 ∷ 84 ∷ 116 ∷ []) ≡ false → starts s (71 ∷ 86 ∷ []) ≡ false →
    Encodes (keep 0) s base m' r (cases (thunks reading) (function_or_data reading) (start s)) → Encodes (keep 0) s base m' r (reading ⟨encoding⟩ (start s))
other_read k g v f = encodes_by (unlabelled_is k g v) f
