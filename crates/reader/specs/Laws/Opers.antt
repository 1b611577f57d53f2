-- Operator names and unqualified names as the code reads them. Assumes nothing.
use Rattle.std.specs.Prelude.{◌≡◌, ℕ, ◌+◌, ◌<◌, ◌≤◌, Bool, true, false, ◌&&◌, T, List, [], ◌∷◌, ◌++◌, length, drop, ◌==◌, ◌≢◌, nat_eq, slice_index, slice_index_or}
use Rattle.std.proofs.Math.Bool.{and-false}
use Rattle.std.proofs.Math.Option.{Option, none, some}
use Rattle.std.proofs.Math.Path.{refl, ap}
use Rattle.std.proofs.Common.{sym, ◌∙◌, arith, eqb→eq, length-drop}
use borrow.Author.Tests.{ne_eqb, eqb-true}
use Rattle.grammar.specs.Text.{Text, b, if◌then◌otherwise◌, choose, starts, holds, run, past, digit}
use Rattle.grammar.specs.Tables.{Row, ◌⇒◌, operators}
use Rattle.grammar.specs.Reader.{State, refused, Reader, onto, give, unfit, go_to, set_templated, find, word_for, by_code}
use Rattle.grammar.specs.Grammar.{reading, production, operator_name, unnamed_type_name, ⟨operator-name⟩, ⟨type⟩, ⟨unqualified-name⟩, ⟨source-name⟩}
use Rattle.grammar.specs.Laws.Agree.{moved}
use Rattle.grammar.specs.Laws.Text.{both, starts_nothing}
use Rattle.grammar.specs.Limits.{kept_bytes}
use Rattle.grammar.specs.Laws.Fuel.{reading_is}
use Rattle.grammar.specs.Laws.Finds.{all_of, by_word}
use Rattle.grammar.specs.Laws.Steps.{by_code_none}
use Rattle.grammar.specs.Laws.NameSteps.{unqualified_L, unqualified_U, unqualified_end, unqualified_digit, unqualified_operator}
use Rattle.grammar.specs.States.{Progress, Read, read, Refused, moved_to, templated_to, peeked}
use Rattle.std.specs.Prelude as peeked_as
use Rattle.parser.specs.Holds.{Halves, Memory, mem, window, Holds, Refines, refuses, Reads, Puts, keep, given_of}
use Rattle.parser.specs.Laws.Holds.{by, by_state, got, refused_on, less, sooner, holds_moved}
use Rattle.parser.specs.Laws.Adds.{puts_from, reads_moved}
use Rattle.grammar.specs.Laws.Runs.{case_here, case_not, past_is, past_stops}
use Rattle.grammar.specs.Laws.Places.{rest_some, rest_none, peek_end, byte_there, byte_within}
use Rattle.parser.specs.Laws.Halves.{wrote_one}
use Rattle.reader.specs.Laws.Opens.{call_moved}
use Rattle.reader.specs.Laws.Standing.{stands_templated, given_as, fewer, word_holds, word_joined}
use Rattle.grammar.specs.declared.refusal.Refusal.{Refusal}
use Rattle.grammar.specs.declared.refusal.Refusal.TheVariants.{NoRule}

-- ---------------------------------------------------------------- the definition

no_start : (t w : Text) → length t < length w → starts t w ≡ false
unfolding starts
no_start t [] h = absurd (omega arith)
no_start [] (y ∷ w) h = refl
no_start (x ∷ t) (y ∷ w) h = ap (λ (q : Bool). (x == y) && q) (no_start t w (omega arith)) ∙ and-false (x == y)

-- a text that is shorter than the codes
no_short : {A : Type 0} (n : ℕ) (t : Text) (rows : List (Row A)) → length t < n → T (all_of n rows) → find rows t ≡ none
unfolding find all_of if◌then◌otherwise◌
no_short n t [] l h = refl
no_short n t ((k ⇒ x) ∷ rows) l h =
    let (p, q) = both (length (b k) == n) (all_of n rows) h in
    let e : length (b k) ≡ n = eqb→eq (length (b k)) n p in
    rw (no_start t (b k) (omega arith)) (no_short n t rows l q)

operators_two : T (all_of 2 operators)
unfolding all_of operators b
operators_two = tt

-- what is done with the type behind cv
abbrev typed_on : Text → Reader Text
typed_on t u = onto (λ _. give (b "operator " ++ t)) (set_templated false u)

abbrev typed : Reader Text
typed u = onto typed_on (reading ⟨type⟩ u)

abbrev others : Reader Text
others = by_code ("cv" ⇒ typed ∷ []) (λ r. r) unfit

abbrev worded : Text → Text → Reader Text
worded t u σ = onto (λ _. give t) (go_to u σ)

others_two : T (all_of 2 ("cv" ⇒ typed ∷ []))
unfolding all_of b
others_two = tt

operator_is : (σ : State) → reading ⟨operator-name⟩ σ ≡ by_code operators (λ w. give (b w)) others σ
unfolding production operator_name
operator_is σ = reading_is ⟨operator-name⟩ σ

two_bytes : (s : Text) (i : ℕ) → i + 1 < length s → drop i s ≡ slice_index s i ∷ slice_index s (i + 1) ∷ drop (i + 2) s
two_bytes s i h = rest_some s i (omega arith) ∙ ap (λ (t : Text). slice_index s i ∷ t) (rest_some s (i + 1) h) ∙ ap (λ (n : ℕ). slice_index s i ∷ slice_index s (i + 1) ∷ drop n s) {x = i + 1 + 1} {y = i + 2} (omega arith)

module _ (s : Text) (at : ℕ) (σ : State) (e : σ.rest ≡ drop at s) where
  pub operator_short : length s ≤ at + 1 → reading ⟨operator-name⟩ σ ≡ refused 4
  operator_short l =
      let z : length σ.rest < 2 = omega (arith, ap length e, length-drop at s) in
      operator_is σ ∙ by_code_none _ _ _ _ (no_short 2 σ.rest operators z operators_two) ∙ by_code_none _ _ _ _ (no_short 2 σ.rest _ z others_two)

  module _ (l : at + 1 < length s) where
    by_letters : reading ⟨operator-name⟩ σ ≡ choose (word_for operators (slice_index s at ∷ slice_index s (at + 1) ∷ [])) (λ t. worded t (drop (at + 2) s)) others σ
    unfolding by_code onto
    by_letters =
        operator_is σ
        ∙ ap (λ (t : Text). choose (find operators t) (λ r. worded (b r.0) r.1) others σ) (e ∙ two_bytes s at l)
        ∙ ap (λ (m : Reader Text). m σ) (by_word (slice_index s at ∷ slice_index s (at + 1) ∷ []) (drop (at + 2) s) worded others operators operators_two)

    pub operator_word : (t : Text) → word_for operators (slice_index s at ∷ slice_index s (at + 1) ∷ []) ≡ some t → reading ⟨operator-name⟩ σ ≡ give t (moved (drop (at + 2) s) σ)
    unfolding choose onto go_to
    operator_word t w = by_letters ∙ ap (λ (o : Option Text). choose o (λ t. worded t (drop (at + 2) s)) others σ) w

    module _ (w : word_for operators (slice_index s at ∷ slice_index s (at + 1) ∷ []) ≡ none) where
      operator_other : reading ⟨operator-name⟩ σ ≡ others σ
      unfolding choose
      operator_other = by_letters ∙ ap (λ (o : Option Text). choose o (λ t. worded t (drop (at + 2) s)) others σ) w

      not_c : (slice_index s at ≢ 99) → starts (drop at s) (b "cv") ≡ false
      unfolding starts b
      not_c d = rw (two_bytes s at l, ne_eqb (slice_index s at) 99 d)

      not_v : (slice_index s (at + 1) ≢ 118) → starts (drop at s) (b "cv") ≡ false
      unfolding starts b
      not_v d = rw (two_bytes s at l, ne_eqb (slice_index s (at + 1)) 118 d) (and-false (slice_index s at == 99))

      is_cv : slice_index_or s at 0 ≡ 99 → slice_index s (at + 1) ≡ 118 → starts (drop at s) (b "cv") ≡ true
      unfolding starts b
      is_cv x y = rw (two_bytes s at l, x, y) (starts_nothing (drop (at + 2) s))

      pub operator_no_c : (slice_index s at ≢ 99) → reading ⟨operator-name⟩ σ ≡ refused 4
      operator_no_c d = operator_other ∙ case_not "cv" s at σ e typed unfit (not_c d)

      pub operator_no_v : (slice_index s (at + 1) ≢ 118) → reading ⟨operator-name⟩ σ ≡ refused 4
      operator_no_v d = operator_other ∙ case_not "cv" s at σ e typed unfit (not_v d)

      pub operator_cv : slice_index_or s at 0 ≡ 99 → slice_index s (at + 1) ≡ 118 → reading ⟨operator-name⟩ σ ≡ typed (moved (drop (at + 2) s) σ)
      unfolding b
      operator_cv x y = operator_other ∙ case_here "cv" s at σ e typed unfit (is_cv x y)

-- ---------------------------------------------------------------- answers

module _ {s text : Text} {store ends : Halves} {p q : Progress} {σ : State} (h : Holds s (mem text store ends) p σ) (l : p.at + 1 < length s) (m : q ≡ moved_to p (p.at + 2)) where
  module _ {text₁ : Text} {q₁ : Progress} (u : Puts text text₁ q q₁ (b "operator ")) where
    pub oper_holds : Holds s (mem text₁ store ends) q₁ (moved (drop (p.at + 2) s) σ)
    oper_holds = word_holds m u h (omega arith)

    module _ (e : none ≡ word_for operators (slice_index s p.at ∷ slice_index s (p.at + 1) ∷ [])) (a : slice_index_or s p.at 0 ≡ 99) (c : slice_index_or s (p.at + 1) 0 ≡ 118) {m' : Memory} {r : Read}
        (f : Reads (reading ⟨type⟩) (keep (q₁.depth + 1)) (q₁.at + 1) s (mem text₁ store ends) m' q₁ r) where
      pub oper_refused : {j : Refusal} → r ≡ Refused j → Refines (keep p.depth) p.depth s (window (mem text store ends) p) (p.at + 1) m' r (reading ⟨operator-name⟩ σ)
      oper_refused g = by (operator_cv s p.at σ h.rest l (sym e) a c) (refused_on typed_on g (f _ oper_holds))

      pub oper_typed : {next q₂ : Progress} {n : ℕ} {v : Read} → r ≡ read next n → q₂ ≡ templated_to next false → v ≡ given_of q₂ (n + 9)
          → Refines (keep p.depth) p.depth s (window (mem text store ends) p) (p.at + 1) m' v (reading ⟨operator-name⟩ σ)
      unfolding onto set_templated b
      oper_typed g i j =
          let y = got g (f _ oper_holds) in
          by (operator_cv s p.at σ h.rest l (sym e) a c ∙ ap (onto typed_on) y.is)
          (given_as j (stands_templated false (word_joined m u h (omega arith) (omega arith) (omega arith) refl (fewer (omega arith) y.wrote)) i))

-- ---------------------------------------------------------------- bytes that were peeked at

module _ (s : Text) (p : Progress) {q : Progress} {to : ℕ} {r : peeked_as.Option ℕ} (m : q ≡ moved_to p to) (k : r ≡ peeked (drop q.at s)) where
  peeked_at : r ≡ peeked (drop to s)
  peeked_at = k ∙ ap (λ (x : Progress). peeked (drop x.at s)) m

  pub byte_at : {c : ℕ} → r ≡ peeked_as.Some c → drop to s ≡ c ∷ drop (to + 1) s
  byte_at e = byte_there s to (sym peeked_at ∙ e)

  pub end_at : r ≡ peeked_as.None → drop to s ≡ []
  end_at e = peek_end (drop to s) (sym peeked_at ∙ e)

-- ---------------------------------------------------------------- unqualified names

skip_one : (q : Bool) (x : ℕ) (t : Text) (σ : State) → (x == 76) ≡ q → reading ⟨unqualified-name⟩ (moved t σ) ≡ reading ⟨unqualified-name⟩ (moved (past (λ x. nat_eq x 76) t) σ)
    → reading ⟨unqualified-name⟩ (moved (x ∷ t) σ) ≡ reading ⟨unqualified-name⟩ (moved (if q then past (λ x. nat_eq x 76) t otherwise x ∷ t) σ)
unfolding if◌then◌otherwise◌
skip_one true x t σ e h = ap (λ (y : ℕ). reading ⟨unqualified-name⟩ (moved (y ∷ t) σ)) (eqb-true x 76 e) ∙ unqualified_L t σ ∙ h
skip_one false x t σ e h = refl

skip_L : (t : Text) (σ : State) → reading ⟨unqualified-name⟩ (moved t σ) ≡ reading ⟨unqualified-name⟩ (moved (past (λ x. nat_eq x 76) t) σ)
unfolding past
skip_L [] σ = refl
skip_L (x ∷ t) σ = skip_one (x == 76) x t σ refl (skip_L t σ)

-- any letters L in front are passed over
pub unqualified_past : (σ : State) → reading ⟨unqualified-name⟩ σ ≡ reading ⟨unqualified-name⟩ (moved (past (λ x. nat_eq x 76) σ.rest) σ)
unqualified_past σ = skip_L σ.rest σ

abbrev Unqualified : Text → Memory → Memory → Progress → Read → State → Type 0
Unqualified s m m' p r σ = Refines (keep p.depth) p.depth s (window m p) (p.at + 1) m' r (reading ⟨unqualified-name⟩ σ)

module _ {s text : Text} {store ends : Halves} {p q : Progress} {σ : State} {to : ℕ} (h : Holds s (mem text store ends) p σ)
    (n : (to ≡ p.at + length (run (λ x. nat_eq x 76) (drop p.at s))) × (to ≤ length s)) (m : q ≡ moved_to p to) where
  past_to : past (λ x. nat_eq x 76) (drop p.at s) ≡ drop to s
  past_to = past_is (λ x. nat_eq x 76) s p.at ∙ ap (λ (i : ℕ). drop i s) (sym n.0)

  unq_is : {t : Text} → drop to s ≡ t → reading ⟨unqualified-name⟩ σ ≡ reading ⟨unqualified-name⟩ (moved t σ)
  unq_is e = unqualified_past σ ∙ ap (λ (t : Text). reading ⟨unqualified-name⟩ (moved (past (λ x. nat_eq x 76) t) σ)) h.rest ∙ ap (λ (t : Text). reading ⟨unqualified-name⟩ (moved t σ)) (past_to ∙ e)

  pub unq_ready : Holds s (mem text store ends) q (moved (drop to s) σ)
  unq_ready = by_state m (holds_moved h to n.1)

  module _ {r : peeked_as.Option ℕ} (k : r ≡ peeked (drop q.at s)) where
    pub unq_end : {m' : Memory} → r ≡ peeked_as.None → Unqualified s (mem text store ends) m' p (Refused NoRule) σ
    unq_end e = by (unq_is (end_at s p m k e) ∙ unqualified_end σ) refuses

    module _ {c : ℕ} (e : r ≡ peeked_as.Some c) where
      here : drop to s ≡ c ∷ drop (to + 1) s
      here = byte_at s p m k e

      pub unq_inside : to < length s
      unq_inside = byte_within s to (sym (peeked_at s p m k) ∙ e)

      not_L : nat_eq c 76 ≡ false
      not_L = past_stops (λ x. nat_eq x 76) c (drop p.at s) (drop (to + 1) s) (past_to ∙ here)

      as_byte : (y : ℕ) → c ≡ y → reading ⟨unqualified-name⟩ σ ≡ reading ⟨unqualified-name⟩ (moved (y ∷ drop (to + 1) s) σ)
      as_byte y f = unq_is (here ∙ ap (λ (z : ℕ). z ∷ drop (to + 1) s) f)

      -- a byte that begins a code of two, and no more
      pub unq_short : (y : ℕ) → reading ⟨unqualified-name⟩ (moved (y ∷ []) σ) ≡ refused 4 → {m' : Memory} → c ≡ y → length s ≤ to + 1 → Unqualified s (mem text store ends) m' p (Refused NoRule) σ
      unq_short y g f l = by (as_byte y f ∙ ap (λ (t : Text). reading ⟨unqualified-name⟩ (moved (y ∷ t) σ)) (rest_none s (to + 1) l) ∙ g) refuses

      behind_two : to + 1 < length s → drop (to + 1) s ≡ slice_index s (to + 1) ∷ drop (to + 2) s
      behind_two l = rest_some s (to + 1) l ∙ ap (λ (i : ℕ). slice_index s (to + 1) ∷ drop i s) {x = to + 1 + 1} {y = to + 2} (omega arith)

      module _ {q₁ : Progress} (l : to + 1 < length s) (i : q₁ ≡ moved_to q (to + 2)) where
        from_two : q₁ ≡ moved_to p (to + 2)
        from_two = i ∙ ap (λ (z : Progress). moved_to z (to + 2)) m

        pub unq_structor :
            {text' : Text} {q₂ : Progress} {t : Text} (y : ℕ) → length t ≡ 6 → ((u : Text) (x : ℕ) → reading ⟨unqualified-name⟩ (moved (y ∷ x ∷ u) σ) ≡ give t (moved u σ)) →
            c ≡ y → Puts text text' q₁ q₂ t → Unqualified s (mem text store ends) (mem text' store ends) p (read q₂ 6) σ
        unq_structor y z g f u =
            less (omega (arith, h.deep))
            (by (as_byte y f ∙ ap (λ (t : Text). reading ⟨unqualified-name⟩ (moved (y ∷ t) σ)) (behind_two l) ∙ g (drop (to + 2) s) (slice_index s (to + 1)))
            (wrote_one (holds_moved h (to + 2) (omega arith)) (puts_from from_two u) z (omega arith) (omega (arith, n.0))))

      pub unq_U : {m' : Memory} {q₁ : Progress} {v : Read} → c ≡ 85 → q₁ ≡ moved_to q (to + 1) → Reads unnamed_type_name kept_bytes q₁.at s (mem text store ends) m' q₁ v
          → Unqualified s (mem text store ends) m' p v σ
      unq_U f i g =
          less (omega (arith, h.deep))
          (by (as_byte 85 f ∙ unqualified_U (drop (to + 1) s) σ) (reads_moved (i ∙ ap (λ (z : Progress). moved_to z (to + 1)) m) g h (omega (arith, unq_inside)) (omega (arith, n.0))))

      none_of : (c ≢ 67) → (c ≢ 68) → (c ≢ 85) → holds c (b "CDUL") ≡ false
      unfolding holds b
      none_of x y z = rw (ne_eqb c 67 x, ne_eqb c 68 y, ne_eqb c 85 z, not_L)

      module _ (x : c ≡ 67 → ⊥) (y : c ≡ 68 → ⊥) (z : c ≡ 85 → ⊥) where
        pub unq_digit : {m' : Memory} {v : Read} → digit 10 c ≡ true → Reads (reading ⟨source-name⟩) kept_bytes (q.at + 1) s (mem text store ends) m' q v
            → Unqualified s (mem text store ends) m' p v σ
        unq_digit d g =
            less (omega (arith, h.deep)) (sooner (omega (arith, n.0))
            (by (unq_is here ∙ unqualified_digit c (drop (to + 1) s) σ (none_of x y z) d ∙ ap (λ (t : Text). reading ⟨source-name⟩ (moved t σ)) (sym here))
            (call_moved (λ _. kept_bytes) m g h n.1)))

        pub unq_operator : {m' : Memory} {v : Read} → digit 10 c ≡ false → Reads (reading ⟨operator-name⟩) (keep q.depth) (q.at + 1) s (mem text store ends) m' q v
            → Unqualified s (mem text store ends) m' p v σ
        unq_operator d g =
            sooner (omega (arith, n.0))
            (by (unq_is here ∙ unqualified_operator c (drop (to + 1) s) σ (none_of x y z) d ∙ ap (λ (t : Text). reading ⟨operator-name⟩ (moved t σ)) (sym here)) (call_moved keep m g h n.1))
