-- GTt, as often as it stands first: each prints the same words before what is read anew. Assumes nothing.
use Rattle.std.specs.Prelude.{Bool, ◌≡◌, ℕ, ◌+◌, ◌≤◌, ◌<◌, min, leb, length, take, drop, nat_eq}
use Rattle.std.specs.Borrow.{Bor}
use Rattle.std.specs.Cmp.Lexicographic.{pointwise}
use Rattle.std.proofs.Math.Bool.{true, false}
use mathlib.Core.List.{[], ◌∷◌, ◌++◌, append_assoc}
use Rattle.std.proofs.Math.Path.{refl, ap}
use Rattle.std.proofs.Common.{sym, ◌∙◌, subst, arith, eqb-true, leb-true, leb-false}
use Rattle.std.proofs.lemmas.Bool.{eqb-false}
use Rattle.std.proofs.Math.Dec.{eqb}
use Rattle.std.proofs.Math.ListN.{length-append, length-drop}
use Rattle.grammar.specs.Text.{Text, b, starts}
use Rattle.grammar.specs.Limits.{most_text_bytes, most_length}
use Rattle.grammar.specs.Reader.{Result, ok, refused, onto, give, start}
use Rattle.grammar.specs.Grammar.{reading, ⟨encoding⟩}
use Rattle.store.specs.Stack.{Stack, Put}
use Rattle.store.specs.declared.stack.Stack.{Stack as Stacked}
use Rattle.store.specs.Laws.Tails.{stack_of}
use Rattle.grammar.specs.States.{Progress, Read, read, Refused, raised_to, moved_to}
use Rattle.grammar.specs.Laws.Text.{starts_is}
use Rattle.parser.specs.Holds.{Halves, Memory, mem, Puts, keep, given_of}
use Rattle.parser.specs.Laws.Halves.{give_short, give_long}
use Rattle.parser.specs.declared.demangler.Demangler.{Demangler}
use Rattle.parser.specs.Demanglers.{state_of, lent}
use Rattle.parser.specs.Laws.Demanglers.{puts_of, lent_stack}
use Rattle.parser.specs.Adds.{Adds}
use Rattle.parser.specs.Laws.Adds.{adds_none, adds_more}
use Rattle.encoding.specs.Encodings.{Fresh, Begun, Encodes, refuses}
use Rattle.encoding.specs.Laws.Answers.{encodes_by, refusal, Answered, answered}
use Rattle.parser.specs.Laws.Literals.{strip_starts}
use Rattle.encoding.specs.Laws.Labels.{after, clone, clone_read}
use Rattle.encoding.specs.Laws.Specials.{prefixed}
use Rattle.grammar.specs.declared.refusal.Refusal.{Refusal}

-- ---------------------------------------------------------------- one text before another

-- a text that is too long is so with more before it
after_both : (w x : Text) (r : Result Text) → onto (after w) (onto (after x) r) ≡ onto (after (w ++ x)) r
unfolding onto
after_both w x (refused r) = refl
after_both w x (ok t σ) = go (leb (length (x ++ t)) most_text_bytes) refl
  where
    go : (q : Bool) → leb (length (x ++ t)) most_text_bytes ≡ q → onto (after w) (give (x ++ t) (start [])) ≡ give ((w ++ x) ++ t) (start [])
    go true e =
        ap (onto (after w)) (give_short (x ++ t) (start []) (leb-true (length (x ++ t)) most_text_bytes e))
        ∙ ap (λ (u : Text). give u (start [])) (sym (append_assoc w x t))
    go false e =
        let l : most_text_bytes < length (x ++ t) = leb-false (length (x ++ t)) most_text_bytes e in
        ap (onto (after w)) (give_long (x ++ t) (start []) l)
        ∙ sym (give_long ((w ++ x) ++ t) (start []) (omega (arith, ap length (append_assoc w x t), length-append w (x ++ t))))

-- ---------------------------------------------------------------- the loop

-- what was put for each GTt so far is on the stack, and the reading is one of the bytes that are left, from an empty state, with that before it
pub record Clones (s part text₀ text : Text) (p₀ p : Progress) (n : ℕ) : Type 0 where
  pub words : Text
  pub within : length part ≤ length s
  pub size_is : n ≡ min (length words) most_length
  pub adds : Adds text₀ text p₀ p words
  pub none : length part ≡ length s → (words ≡ []) × ((part ≡ s) × (take p.top text ≡ take p₀.top text₀))
  pub is : (length part ≡ length s → ⊥) → reading ⟨encoding⟩ (start s) ≡ onto (after words) (reading ⟨encoding⟩ (start part))

pub clones_start : (s : Text) {text : Text} {p : Progress} → Stack text p.top → Clones s s text text p p 0
clones_start s c = record { words = []; within = omega arith; size_is = refl; adds = adds_none c; none = λ _. (refl, (refl, refl)); is = λ h. absurd (h refl) }

clone_size : length clone ≡ 22
unfolding b
clone_size = refl

module _ {s part text₀ text : Text} {p₀ p : Progress} {n : ℕ} (c : Clones s part text₀ text p₀ p n) where
  module _ {rest : Text} (e : starts part (71 ∷ 84 ∷ 116 ∷ []) ≡ true) (i : rest ≡ drop 3 part) where
    next_is : reading ⟨encoding⟩ (start part) ≡ onto (after clone) (reading ⟨encoding⟩ (start rest))
    next_is = clone_read part e ∙ ap (λ (t : Text). onto (after clone) (reading ⟨encoding⟩ (start t))) (sym i)

    more_is : reading ⟨encoding⟩ (start s) ≡ onto (after (c.words ++ clone)) (reading ⟨encoding⟩ (start rest))
    more_is = go (eqb (length part) (length s)) refl
      where
        go : (q : Bool) → eqb (length part) (length s) ≡ q → reading ⟨encoding⟩ (start s) ≡ onto (after (c.words ++ clone)) (reading ⟨encoding⟩ (start rest))
        go true f =
            let z = c.none (eqb-true (length part) (length s) f) in
            ap (λ (t : Text). reading ⟨encoding⟩ (start t)) (sym z.1.0)
            ∙ next_is
            ∙ ap (λ (w : Text). onto (after (w ++ clone)) (reading ⟨encoding⟩ (start rest))) (sym z.0)
        go false f = c.is (eqb-false (length part) (length s) f) ∙ ap (onto (after c.words)) next_is ∙ after_both c.words clone (reading ⟨encoding⟩ (start rest))

    pub clones_more : {text' : Text} {p' : Progress} {n' : ℕ} → Puts text text' p p' clone → n' ≡ min (n + 22) most_length → Clones s rest text₀ text' p₀ p' n'
    clones_more u z =
        let l : length rest < length s = omega (arith, c.within, ap length i, length-drop 3 part, ap length (starts_is part (71 ∷ 84 ∷ 116 ∷ []) e)) in
        record {
          words = c.words ++ clone;
          within = omega arith;
          size_is = omega (arith, c.size_is, length-append c.words clone, clone_size);
          adds = adds_more c.adds u;
          none = λ i. absurd (omega arith);
          is = λ _. more_is;
        }

  pub clones_fresh : {store ends : Halves} → Fresh (mem text₀ store ends) p₀ → Fresh (mem text store ends) p
  clones_fresh h = record {
    same = c.adds.same ∙ ap (λ (q : Progress). raised_to q p.top) h.same;
    text = c.adds.stack;
    subs = h.subs;
    args = h.args;
  }

  module _ {m : Memory} {r : Read} (f : Encodes (keep 0) part (take p.top text) m r (reading ⟨encoding⟩ (start part))) where
    -- where no GTt stands
    pub clones_alone : length part ≡ length s → Encodes (keep 0) s (take p₀.top text₀) m r (reading ⟨encoding⟩ (start s))
    clones_alone e =
        let z = c.none e in
        subst (λ (t : Text). Encodes (keep 0) s t m r (reading ⟨encoding⟩ (start s))) z.1.1 (subst (λ (t : Text). Encodes (keep 0) t (take p.top text) m r (reading ⟨encoding⟩ (start t))) z.1.0 f)

    pub clones_got : {next : Progress} {j : ℕ} → r ≡ read next j → Answered (keep 0) part (take p.top text) m next j (reading ⟨encoding⟩ (start part))
    clones_got e = answered (subst (λ (v : Read). Encodes (keep 0) part (take p.top text) m v (reading ⟨encoding⟩ (start part))) e f)

    pub clones_given :
        {next end : Progress} {j k : ℕ} {v : Read} → (length part ≡ length s → ⊥) → r ≡ read next j → end ≡ moved_to next (length s) → k ≡ min (n + j) most_length → v ≡ given_of end k →
        Encodes (keep 0) s (take p₀.top text₀) m v (reading ⟨encoding⟩ (start s))
    unfolding onto
    clones_given {next} {end} {j} {k} {v} h e y x g =
        let a = clones_got e in
        let w = a.prints in
        encodes_by (c.is h ∙ ap (onto (after c.words)) a.is)
        (prefixed c.words a.said next (omega arith) w.text c.adds.tail w.tail y (omega (arith, c.size_is, w.size, length-append c.words a.said)) g)

  pub clones_refused : {base : Text} {m m' : Memory} {j : Refusal} → Encodes (keep 0) part base m (Refused j) (reading ⟨encoding⟩ (start part)) →
      Encodes (keep 0) s (take p₀.top text₀) m' (Refused j) (reading ⟨encoding⟩ (start s))
  unfolding onto
  clones_refused {m' = m'} {j} f = go (eqb (length part) (length s)) refl
    where
      go : (q : Bool) → eqb (length part) (length s) ≡ q → Encodes (keep 0) s (take p₀.top text₀) m' (Refused j) (reading ⟨encoding⟩ (start s))
      go true x = encodes_by (ap (λ (t : Text). reading ⟨encoding⟩ (start t)) (sym (c.none (eqb-true (length part) (length s) x)).1.0) ∙ refusal f) refuses
      go false x = encodes_by (c.is (eqb-false (length part) (length s) x) ∙ ap (onto (after c.words)) (refusal f)) refuses

-- ---------------------------------------------------------------- the loop, of a demangler

-- the demangler d behind each GTt of the symbol of d₀
pub record Cloned (d₀ d : Demangler) (n : ℕ) : Type 0 where
  pub others : d ≡ record d₀ { s = d.s; stack = d.stack }
  pub same : lent d ≡ lent d₀
  pub clones : Clones d₀.s.now d.s.now d₀.stack.bytes.now d.stack.bytes.now (state_of d₀) (state_of d) n

-- as `Cloned`, in any slices
pub record ClonedInAny (d₀ d : Demangler) (n : ℕ) : Type 0 where
  pub others : d ≡ record d₀ { s = d.s; stack = d.stack }
  pub clones : Clones d₀.s.now d.s.now d₀.stack.bytes.now d.stack.bytes.now (state_of d₀) (state_of d) n

module _ {d₀ d : Demangler} {n : ℕ} where
  pub cloned_in_any : Cloned d₀ d n → ClonedInAny d₀ d n
  cloned_in_any c = record { others = c.others; clones = c.clones }

  cloned_lent : ClonedInAny d₀ d n → lent d ≡ lent d₀ → Cloned d₀ d n
  cloned_lent c s = record { others = c.others; same = s; clones = c.clones }

module _ (d₀ : Demangler) where
  pub cloned_start : Cloned d₀ d₀ 0
  cloned_start = record { others = refl; same = refl; clones = clones_start d₀.s.now (stack_of d₀.stack) }

  module _ {d : Demangler} {n : ℕ} (c : ClonedInAny d₀ d n) where
    pub cloned_more :
        (rest : Bor Text) (x : Stacked) {n' : ℕ} → pointwise nat_eq (take 3 d.s.now) (71 ∷ 84 ∷ 116 ∷ []) ≡ true → rest.now ≡ drop 3 d.s.now →
        Put d.stack.bytes.now x.bytes.now d.stack.top x.top clone → n' ≡ min (n + 22) most_length → ClonedInAny d₀ (record d { s = rest; stack = x }) n'
    cloned_more rest x e i u z = record {
      others = ap (λ (y : Demangler). record y { s = rest; stack = x }) c.others;
      clones = clones_more c.clones (sym (strip_starts d.s.now (71 ∷ 84 ∷ 116 ∷ [])) ∙ e) i (puts_of d x u) z;
    }

    pub cloned_begun : Begun d₀ → Begun d
    cloned_begun h =
        let k = subst (λ (y : Demangler). Clones d₀.s.now d.s.now d₀.stack.bytes.now d.stack.bytes.now (state_of d₀) (state_of y) n) c.others c.clones in
        subst (λ (y : Demangler). Begun y) (sym c.others) (clones_fresh k h)

  module _ {d : Demangler} {n : ℕ} (c : Cloned d₀ d n) where
    pub cloned_more_lent :
        (rest : Bor Text) (x : Stacked) {n' : ℕ} → pointwise nat_eq (take 3 d.s.now) (71 ∷ 84 ∷ 116 ∷ []) ≡ true → rest.now ≡ drop 3 d.s.now →
        Put d.stack.bytes.now x.bytes.now d.stack.top x.top clone → x.bytes.ghost_name ≡ d.stack.bytes.ghost_name → n' ≡ min (n + 22) most_length → Cloned d₀ (record d { s = rest; stack = x }) n'
    cloned_more_lent rest x e i u v z = cloned_lent (cloned_more (cloned_in_any c) rest x e i u z) (lent_stack d x v ∙ c.same)
