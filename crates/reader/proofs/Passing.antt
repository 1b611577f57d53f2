-- Laws of bytes passed over and of words put behind them, and of the readings that follow. Assumes nothing.
use Rattle.std.proofs.Common.{◌≡◌, ℕ, ◌+◌, ◌≤◌, Bool, false, [], ◌∷◌, length, drop, length-drop, refl, sym, ap, ◌∙◌, subst, arith, drop-drop}
use Rattle.std.specs.Prelude.{◌<◌, Err, Result, slice_index_or}
use Rattle.std.proofs.Math.Option.{none}
use Rattle.grammar.specs.declared.refusal.Refusal.{Refusal}
use Rattle.grammar.specs.Tables.{letters}
use Rattle.grammar.specs.Limits.{most_open}
use Rattle.grammar.specs.Grammar.{reading, type_inner}
use Rattle.grammar.specs.Laws.Steps.{from_text, inner_4, type_heads}
use Rattle.grammar.specs.declared.refusal.Refusal.TheVariants.{NoRule}
use Rattle.reader.specs.Cycle.{BehindLetter}
use Rattle.reader.proofs.TypeHeads.{no_digit}
use Rattle.grammar.specs.Reader.{find, State, Reader}
use Rattle.grammar.specs.Text.{Text, b, holds, starts}
use Rattle.grammar.specs.Laws.Agree.{moved}
use Rattle.parser.specs.declared.demangler.Demangler.{Demangler}
use Rattle.parser.specs.Demanglers.{state_of, memory_of, Held, at_place, Parses, outcome, Eats, given_length}
use Rattle.grammar.specs.States.{moved_to, Progress, Read}
use Rattle.parser.specs.Laws.Demanglers.{puts_of, Passed, ate_none, given_by}
use Rattle.store.specs.Stack.{Put}
use Rattle.store.specs.declared.stack.Stack.{Stack}
use Rattle.parser.specs.Holds.{Puts, Stands, Memory, mem, refuses, given_of, keep}
use Rattle.reader.specs.Laws.Standing.{stands_moved}
use Rattle.reader.specs.Laws.Instances.{Passes, passed}
use Rattle.parser.specs.Laws.Holds.{by, sooner, less, holds_moved}

-- a text that stands goes on standing; the symbol is the first one's
pub passed_from :
    {k l : ℕ} {s base : Text} {from n : ℕ} {d d' : Demangler} {t : Text} {σ : State} {f : State → State} → d.s.now ≡ s →
    Passes f d d' → Stands k l s base from (memory_of d) (state_of d) n t σ → Stands k l s base from (memory_of d') (state_of d') n t (f σ)
passed_from {k} {l} {s} {base} {from} {n} {d} {d'} {t} {σ} {f} e c =
    subst (λ (x : Text). Stands k l x base from (memory_of d) (state_of d) n t σ → Stands k l x base from (memory_of d') (state_of d') n t (f σ)) e (passed c)

module _ (d : Demangler) {σ : State} (h : Held d σ) {c : ℕ} where
  -- the byte that stands at the place, and what is behind it
  pub byte_there : {t : Text} → σ.rest ≡ c ∷ t → σ.rest ≡ c ∷ drop (d.state.at + 1) d.s.now
  byte_there e = e ∙ ap (λ (x : Text). c ∷ x) (ap (drop 1) (sym e ∙ h.rest) ∙ drop-drop 1 d.state.at d.s.now)

  pub letter_there : {t : Text} (k : ℕ) → σ.rest ≡ c ∷ t → c ≡ k → σ.rest ≡ k ∷ drop (d.state.at + 1) d.s.now
  letter_there k e f = byte_there e ∙ ap (λ (x : ℕ). x ∷ drop (d.state.at + 1) d.s.now) f

  -- no letter of a builtin type
  pub none_there : {t : Text} → σ.rest ≡ c ∷ t → find letters σ.rest ≡ none → find letters (c ∷ drop (d.state.at + 1) d.s.now) ≡ none
  none_there e f = ap (find letters) (sym (byte_there e)) ∙ f

-- a reading behind the letter that a type begins with
pub letter_read :
    (d : Demangler) (k : ℕ) {c l from : ℕ} {f : Reader Text} {d' : Demangler} {r : Result ℕ Refusal} → c ≡ k → d.state.at < length d.s.now → d.state.at + 1 ≤ from →
    (d.state.depth ≤ most_open → keep d.state.depth ≤ l) → ((t : Text) (σ : State) → type_inner reading (moved (k ∷ t) σ) ≡ f (moved t σ)) →
    Parses f l from (at_place d (d.state.at + 1)) d' r → BehindLetter c d d' r
letter_read d k e i j m o h =
    record {
      symbol = h.symbol;
      same = h.same;
      is = λ σ u t v _ _.
          by (from_text (type_inner reading) σ (letter_there d u k v e) (o (drop (d.state.at + 1) d.s.now) σ))
          (less (m u.deep) (sooner j (h.reads _ (holds_moved u (d.state.at + 1) (omega arith)))));
    }

-- no letter that a type begins with
pub letter_refused : (d : Demangler) {c : ℕ} → (holds c (b "DNTS0123456789") ≡ false → holds c type_heads ≡ false) → BehindLetter c d (at_place d (d.state.at + 1)) (Err NoRule)
letter_refused d o =
    record {
      symbol = refl;
      same = refl;
      is = λ σ u t e f g. by (from_text (type_inner reading) σ (byte_there d u e) (inner_4 _ _ σ (none_there d u e f) (o g) (no_digit _ g))) refuses;
    }

-- a reading from another place of the symbol
pub parses_from :
    {f : Reader Text} (k : ℕ → ℕ) (d : Demangler) {d' d'' : Demangler} (at : ℕ) {r : Result ℕ Refusal} →
    d' ≡ at_place d at → Parses f (k d'.state.depth) (d'.state.at + 1) d' d'' r → Parses f (k d.state.depth) (at + 1) (at_place d at) d'' r
parses_from {f} k d {d'} {d''} at {r} e h = subst (λ (x : Demangler). Parses f (k x.state.depth) (x.state.at + 1) x d'' r) e h

module _ {x y : ℕ} {d d₁ d₂ : Demangler} (v : Passed x d d₁) (w : Passed y d₁ d₂) where
  pub two_is : d₂ ≡ at_place d (d.state.at + 2)
  two_is = w.is ∙ ap (λ (z : Demangler). at_place z (z.state.at + 1)) v.is ∙ ap (λ (i : ℕ). at_place d i) {x = d.state.at + 1 + 1} {y = d.state.at + 2} (omega arith)

  pub two_inside : d.state.at + 1 < length d.s.now
  two_inside = omega (arith, w.past.inside, ap (λ (z : Demangler). z.state.at) v.is, ap (λ (z : Demangler). length z.s.now) v.is)

  pub two_second : slice_index_or d.s.now (d.state.at + 1) 0 ≡ y
  two_second = subst (λ (z : Demangler). slice_index_or z.s.now z.state.at 0 ≡ y) v.is w.past.byte

pub none_left : {x : ℕ} {d d₁ : Demangler} → Passed x d d₁ → drop d₁.state.at d₁.s.now ≡ [] → length d.s.now ≤ d.state.at + 1
none_left {d = d} v e =
    let f : drop (d.state.at + 1) d.s.now ≡ [] = subst (λ (z : Demangler). drop z.state.at z.s.now ≡ []) v.is e in
    omega (arith, length-drop (d.state.at + 1) d.s.now, ap length f)

-- a word put at another place, and a reading behind it
module _ (d : Demangler) {d₁ : Demangler} (x : Stack) {i : ℕ} (e : d₁ ≡ at_place d i) where
  pub put_at : {w : Text} → Put d₁.stack.bytes.now x.bytes.now d₁.stack.top x.top w → Puts d.stack.bytes.now x.bytes.now (moved_to (state_of d) i) (state_of (record d { state = record d.state { at = i }; stack = x })) w
  put_at {w} u = record { same = refl; put = subst (λ (z : Demangler). Put z.stack.bytes.now x.bytes.now z.stack.top x.top w) e u }

  pub parses_put :
      {f : Reader Text} (k : ℕ → ℕ) {d' : Demangler} {r : Result ℕ Refusal} →
      Parses f (k d₁.state.depth) (d₁.state.at + 1) (record d₁ { stack = x }) d' r → Parses f (k d.state.depth) (i + 1) (record d { state = record d.state { at = i }; stack = x }) d' r
  parses_put {f} k {d'} {r} h = subst (λ (z : Demangler). Parses f (k z.state.depth) (z.state.at + 1) (record z { stack = x }) d' r) e h

-- a text that stands goes on standing where a byte was passed over
pub passed_stands :
    {c k l : ℕ} {s base : Text} {from n : ℕ} {d d' : Demangler} {t : Text} {σ : State} → Passed c d d' → d.s.now ≡ s →
    Stands k l s base from (memory_of d) (state_of d) n t σ → Stands k l s base from (memory_of d') (state_of d') n t (moved (drop (d.state.at + 1) s) σ)
passed_stands {c} {k} {l} {s} {base} {from} {n} {d} {d'} {t} {σ} v e h =
    subst (λ (x : Demangler). Stands k l s base from (memory_of x) (state_of x) n t (moved (drop (d.state.at + 1) s) σ)) (sym v.is)
    (stands_moved (d.state.at + 1) refl h (omega arith) (omega (arith, v.past.inside, ap length e)))

-- a reading behind a byte that was passed over, seen from in front of it
pub parses_behind :
    {f : Reader Text} (k : ℕ → ℕ) {c : ℕ} {d d₁ d₂ : Demangler} {r : Result ℕ Refusal} → Passed c d d₁ → Parses f (k d₁.state.depth) (d₁.state.at + 1) d₁ d₂ r →
    Parses (λ σ. f (moved (drop (d.state.at + 1) d.s.now) σ)) (k d.state.depth) (d.state.at + 1 + 1) d d₂ r
parses_behind {f} k {c} {d} {d₁} {d₂} {r} p h =
    let w : Parses f (k d.state.depth) (d.state.at + 1 + 1) (record d { state = record d.state { at = d.state.at + 1 } }) d₂ r = subst (λ (x : Demangler). Parses f (k x.state.depth) (x.state.at + 1) x d₂ r) p.is h in
    record { symbol = w.symbol; same = w.same; reads = λ σ g. w.reads (moved (drop (d.state.at + 1) d.s.now) σ) (holds_moved g (d.state.at + 1) (omega (arith, p.past.inside))) }

-- a reading, and a byte that was not ahead behind it
pub read_stayed :
    {f : Reader Text} {k from c : ℕ} {d d₁ d₂ : Demangler} {r : Result ℕ Refusal} {q : Bool} → q ≡ false → Eats c d₁ d₂ q → Parses f k from d d₁ r →
    (Parses f k from d d₂ r) × (starts (drop d₂.state.at d.s.now) (c ∷ []) ≡ false)
read_stayed {f} {k} {from} {c} {d} {d₁} {d₂} {r} e u h =
    let v = ate_none e u in
    subst (λ (x : Demangler). (Parses f k from d x r) × (starts (drop x.state.at d.s.now) (c ∷ []) ≡ false)) (sym v.1)
    (h, ap (λ (t : Text). starts (drop d₁.state.at t) (c ∷ [])) (sym h.symbol) ∙ v.0)

-- a word put behind a byte that was passed over, and a length that is returned
pub given_behind :
    (F : Memory → Read → Type 0) (d : Demangler) {d₁ : Demangler} (x : Stack) (n : ℕ) {at : ℕ} {w : Text} {r : Result ℕ Refusal} →
    d₁ ≡ at_place d at → Put d₁.stack.bytes.now x.bytes.now d₁.stack.top x.top w → r ≡ given_length n →
    ((o : Progress) → Puts d.stack.bytes.now x.bytes.now (moved_to (state_of d) at) o w → F (mem x.bytes.now (memory_of d).store (memory_of d).ends) (given_of o n)) →
    F (memory_of (record d₁ { stack = x })) (outcome (state_of (record d₁ { stack = x })) r)
given_behind F d {d₁} x n {at} {w} {r} e u g h =
    subst
    (λ (y : Demangler). Put y.stack.bytes.now x.bytes.now y.stack.top x.top w → F (memory_of (record y { stack = x })) (outcome (state_of (record y { stack = x })) r))
    (sym e)
    (λ v.
    let o = state_of (record (at_place d at) { stack = x }) in
    subst (λ (z : Read). F (memory_of (record (at_place d at) { stack = x })) z) (sym (given_by o n g)) (h o (puts_of (at_place d at) x v)))
    u
