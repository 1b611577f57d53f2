-- Where a name ends, a void alone, and what qualifiers print. Assumes nothing.
use Rattle.std.specs.Prelude.{Bool, false, ◌&&◌, ◌≡◌, refl, ℕ, ◌+◌, ◌-◌, ◌≤◌, ◌<◌, min, eqb, drop, get_or}
use Rattle.std.proofs.Math.Bool.{true, and-true}
use mathlib.Core.List.{[], ◌∷◌, ◌++◌, append_assoc, append-nil}
use Rattle.std.proofs.Math.Option.{Option, none, some}
use Rattle.std.proofs.Math.Path.{sym, ap}
use Rattle.std.proofs.Common.{◌∙◌, subst, arith, length-drop, length-take}
use Rattle.std.proofs.lemmas.List.{take_all, take_more}
use Rattle.std.proofs.Math.ListN.{length, take, length-append}
use Rattle.grammar.specs.Text.{Text, b, choose, same, starts, each}
use Rattle.grammar.specs.Tables.{qualifiers}
use Rattle.grammar.specs.Reader.{give, word_for}
use Rattle.grammar.specs.Grammar.{ended, only_void, qualifier}
use Rattle.grammar.specs.Laws.Text.{starts_nothing}
use Rattle.store.specs.Stack.{Stack, newest}
use Rattle.grammar.specs.States.{Progress, Read, peeked}
use Rattle.std.specs.Prelude as peeked_as
use Rattle.grammar.specs.Laws.Places.{rest_none}
use Rattle.parser.specs.Holds.{Halves, mem, part, Refines, Puts, given_of}
use Rattle.parser.specs.Laws.Holds.{given_refines}
use Rattle.grammar.specs.Laws.Text.{same_not}
use Rattle.grammar.specs.Limits.{most_length}
use Rattle.parser.specs.Adds.{Adds}
use Rattle.parser.specs.declared.demangler.Demangler.{Demangler}
use Rattle.reader.specs.declared.lists.Joined.{Joined}
use Rattle.reader.specs.Lists.{VoidAlone}
use Rattle.parser.specs.Laws.Adds.{adds_none, adds_more, stands_more}
use Rattle.parser.specs.Laws.Wraps.{newest_text}
use Rattle.encoding.specs.Encodings.{qualified_by, Qualifies, LoneVoid}

-- ---------------------------------------------------------------- where a name ends

pub ended_end : (t : Text) → peeked t ≡ peeked_as.None → ended t ≡ true
unfolding ended same
ended_end [] e = refl
ended_end (x ∷ t) e = let z : ◌≡◌ {A = ℕ} 0 1 = cc in absurd (omega arith)

pub ended_byte : (t : Text) {c : ℕ} → peeked t ≡ peeked_as.Some c → ended t ≡ eqb c 46
unfolding ended same starts b
ended_byte [] e = let z : ◌≡◌ {A = ℕ} 0 1 = cc in absurd (omega arith)
ended_byte (x ∷ t) {c} e =
    let f : x ≡ c = cc in
    ap (λ (q : Bool). eqb x 46 && q) (starts_nothing t) ∙ and-true (eqb x 46) ∙ ap (λ (y : ℕ). eqb y 46) f

pub ended_by : (t : Text) (o : peeked_as.Option ℕ) {r : Bool} (Q : ℕ → Type 0) → o ≡ peeked t → peeked_as.MatchOption o (r ≡ true) Q → ((c : ℕ) → Q c → r ≡ eqb c 46) → r ≡ ended t
ended_by t peeked_as.None Q e h k = h ∙ sym (ended_end t (sym e))
ended_by t (peeked_as.Some c) Q e h k = k c h ∙ sym (ended_byte t (sym e))

-- ---------------------------------------------------------------- a void alone

and-false : (q : Bool) → q && false ≡ false
and-false true = refl
and-false false = refl

module _ (d : Demangler) (l : Joined) where
  pub void_before : {r : Bool} → r ≡ false → d.state.at < length d.s.now → LoneVoid d l r
  void_before i o k e base at ts σ z n =
      let f : same σ.rest [] ≡ false = ap (λ (t : Text). same t []) z.holds.rest ∙ same_not (drop d.state.at d.s.now) [] (λ g. omega (arith, g, length-drop d.state.at d.s.now)) in
      i ∙ sym (ap (λ (q : Bool). only_void ts && q) f ∙ and-false (only_void ts))

  pub void_alone : {r : Bool} → length d.s.now ≤ d.state.at → VoidAlone l d.stack r → LoneVoid d l r
  unfolding same
  void_alone o h k e base at ts σ z n =
      let f : same σ.rest [] ≡ true = ap (λ (t : Text). same t []) (z.holds.rest ∙ rest_none d.s.now d.state.at o) in
      h.is ts n z.size (λ j. ap (newest d.stack.bytes.now d.stack.top) (sym j) ∙ newest_text z (omega (arith, j, z.size)))
      ∙ sym (ap (λ (q : Bool). only_void ts && q) f ∙ and-true (only_void ts))

-- ---------------------------------------------------------------- qualifiers

each_append : (f : ℕ → Text) (s t : Text) → each f (s ++ t) ≡ each f s ++ each f t
unfolding each
each_append f [] t = refl
each_append f (x ∷ s) t = ap (λ (u : Text). f x ++ u) (each_append f s t) ∙ sym (append_assoc (f x) (each f s) (each f t))

each_one : (f : ℕ → Text) (x : ℕ) → each f (x ∷ []) ≡ f x
unfolding each
each_one f x = append-nil (f x)

qualified_more : (cs : Text) (i : ℕ) → i < length cs → each qualifier (take (i + 1) cs) ≡ each qualifier (take i cs) ++ qualifier (get_or cs i 0)
qualified_more cs i l =
    ap (each qualifier) (take_more cs i 0 l)
    ∙ each_append qualifier (take i cs) (get_or cs i 0 ∷ [])
    ∙ ap (λ (t : Text). each qualifier (take i cs) ++ t) (each_one qualifier (get_or cs i 0))

-- what the first i of the qualifiers print was put behind a text of n bytes
pub record Qualifying (cs text₀ text : Text) (p next : Progress) (n size i : ℕ) : Type 0 where
  pub size_is : size ≡ min (n + length (each qualifier (take i cs))) most_length
  pub adds : Adds text₀ text p next (each qualifier (take i cs))

pub qualifying_start : {text : Text} {p : Progress} (cs : Text) {n : ℕ} → Stack text p.top → n ≤ most_length → Qualifying cs text text p p n n 0
unfolding each
qualifying_start cs c l = record { size_is = omega arith; adds = adds_none c }

module _ {cs text₀ text : Text} {p next : Progress} {n size i : ℕ} (q : Qualifying cs text₀ text p next n size i) where
  module _ (l : i < length cs) where
    pub qualifying_word : {w text' : Text} {next' : Progress} {size' : ℕ} → some w ≡ word_for qualifiers (get_or cs i 0 ∷ [])
        → Puts text text' next next' w → size' ≡ min (size + length w) most_length → Qualifying cs text₀ text' p next' n size' (i + 1)
    unfolding qualifier choose
    qualifying_word {w} e u j =
        let f : qualifier (get_or cs i 0) ≡ w = ap (λ (o : Option Text). choose o (λ x. x) []) (sym e) in
        let x = qualified_more cs i l ∙ ap (λ (t : Text). each qualifier (take i cs) ++ t) f in
        record { size_is = omega (arith, q.size_is, j, ap length x, length-append (each qualifier (take i cs)) w); adds = rw x (adds_more q.adds u) }

    pub qualifying_nothing : none ≡ word_for qualifiers (get_or cs i 0 ∷ []) → Qualifying cs text₀ text p next n size (i + 1)
    unfolding qualifier choose
    qualifying_nothing e =
        let f : qualifier (get_or cs i 0) ≡ [] = ap (λ (o : Option Text). choose o (λ x. x) []) (sym e) in
        let x = qualified_more cs i l ∙ ap (λ (t : Text). each qualifier (take i cs) ++ t) f ∙ append-nil (each qualifier (take i cs)) in
        record { size_is = omega (arith, q.size_is, ap length x); adds = rw x q.adds }

module _ (s : Text) (from to : ℕ) {text₀ text : Text} {store ends : Halves} {p next : Progress} {n size i : ℕ} (q : Qualifying (part s from to) text₀ text p next n size i) where
  pub qualifying_done : {r : Read} → to - from ≤ i → r ≡ given_of next size → Qualifies s (mem text₀ store ends) (mem text store ends) p n from to r
  qualifying_done {r} l e k d base fr t σ h =
      let x : take i (part s from to) ≡ part s from to = take_all i (part s from to) (omega (arith, length-take (to - from) (drop from s))) in
      let a : Adds text₀ text p next (qualified_by s from to) = rw x at q.adds in
      let z : min (length (t ++ qualified_by s from to)) most_length ≡ size =
      omega (arith, q.size_is, h.size, length-append t (qualified_by s from to), ap (λ (u : Text). length (each qualifier u)) x) in
      subst (λ (v : Read). Refines k d s base fr (mem text store ends) v (give (t ++ qualified_by s from to) σ)) (ap (given_of next) z ∙ sym e) (given_refines (stands_more a h))
