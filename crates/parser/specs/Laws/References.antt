-- Laws of References.antt. Assumes nothing.
use Rattle.std.specs.Prelude.{Bool, true, false, List, [], ◌∷◌, ◌++◌, ◌≡◌, ℕ, ◌+◌, ◌^◌, ◌≤◌, ◌<◌, min, ltb, length, drop, get_or, Option as Returned, Some, None, Result as Answer, Ok, Err, ok_or}
use Rattle.std.proofs.Math.Option.{Option, none, some}
use Rattle.std.proofs.Math.Path.{refl, ap}
use Rattle.std.proofs.Common.{sym, ap₂, ◌∙◌, arith, lt-ltb, le-ltb, ⊎_elim, eq-or-lt_of_le}
use native.Mathlib.Nat.{min-le_left}
use Rattle.std.proofs.Math.ListN.{get_elem?}
use Rattle.grammar.specs.Text.{Text, b, if◌then◌otherwise◌, choose, starts, run, past, digit, number, decimal}
use Rattle.grammar.specs.Tables.{abbreviations}
use Rattle.grammar.specs.Limits.{kept_bytes}
use Rattle.grammar.specs.Numbers.{most}
use Rattle.grammar.specs.Reader.{State, ok, refused, Reader, onto, refuse, unfit, give, go_to, find, word_for, by_code, every, need, eat}
use Rattle.grammar.specs.Grammar.{⟨template-param⟩, ⟨substitution⟩, index, template_param, substitution, production, reading}
use Rattle.grammar.specs.Laws.Agree.{moved}
use Rattle.grammar.specs.Laws.Fuel.{reading_is}
use Rattle.grammar.specs.Laws.Finds.{all_of, by_word}
use Rattle.grammar.specs.Laws.Places.{rest_some, rest_none, starts_inside}
use Rattle.grammar.specs.Laws.Runs.{every_at, need_here, need_not}
use Rattle.grammar.specs.declared.refusal.Refusal.{Refusal}
use Rattle.grammar.specs.declared.refusal.Refusal.TheVariants.{NoRule}
use Rattle.parser.specs.declared.demangler.Demangler.{Demangler}
use Rattle.parser.specs.Demanglers.{lent, Held, Prepared, Leaf}
use Rattle.parser.specs.Holds.{refuses}
use Rattle.parser.specs.References.{referred, entry_of, entry_at, digits_at, behind_digits, index_of, Indexes, indexes, unended}
use Rattle.parser.specs.Laws.Holds.{by}
use Rattle.parser.specs.Laws.Halves.{none_given}
use Rattle.parser.specs.Laws.Demanglers.{Passed, held_at, prepared_at, others_by, leaf_reads_lent, leaf_moved}

-- what a value, or the lack of one, is returned for
module _ {A : Type 0} where
  pub given_some : {x : A} (o : Returned A) (e : Refusal) → Ok x ≡ ok_or o e → o ≡ Some x
  given_some (Some y) e h = cc
  given_some None e h = let z : ◌≡◌ {A = ℕ} 0 1 = cc in absurd (omega arith)

  pub given_none : {r : Refusal} (o : Returned A) (e : Refusal) → Err r ≡ ok_or o e → (o ≡ None) × (r ≡ e)
  given_none (Some y) e h = let z : ◌≡◌ {A = ℕ} 0 1 = cc in absurd (omega arith)
  given_none None e h = (refl, cc)

pub index_none : (base : ℕ) (t : Text) → length t ≡ 0 → index base t ≡ 0
unfolding index
index_none base [] e = refl
index_none base (x ∷ t) e = absurd (omega arith)

pub index_some : (base : ℕ) (t : Text) → (length t ≡ 0 → ⊥) → index base t ≡ number base 0 t + 1
unfolding index
index_some base [] e = absurd (e refl)
index_some base (x ∷ t) e = refl

-- whether an underscore stands at a place
ends_as : (s : Text) {x y : ℕ} → x ≡ y → starts (drop x s) (95 ∷ []) ≡ starts (drop y s) (95 ∷ [])
ends_as s e = ap (λ (x : ℕ). starts (drop x s) (95 ∷ [])) e

module _ (base : ℕ) (f : Text → Reader Text) (s : Text) (at : ℕ) (σ : State) (e : σ.rest ≡ drop at s) where
  abbrev digits : Text
  digits = run (digit base) (drop at s)

  by_digits : referred base f σ ≡ onto (λ _. f digits) (need "_" (moved (drop (at + length digits) s) σ))
  unfolding onto
  by_digits = ap (onto (λ d. λ (u : State). onto (λ _. f d) (need "_" u))) (every_at (digit base) s at σ e)

  referred_open : starts (drop (at + length digits) s) (95 ∷ []) ≡ false → referred base f σ ≡ refused 4
  unfolding onto b
  referred_open h = by_digits ∙ ap (onto (λ _. f digits)) (need_not "_" s (at + length digits) (moved (drop (at + length digits) s) σ) refl h)

  referred_is : starts (drop (at + length digits) s) (95 ∷ []) ≡ true → referred base f σ ≡ f digits (moved (drop (at + length digits + 1) s) σ)
  unfolding onto b
  referred_is h = by_digits ∙ ap (onto (λ _. f digits)) (need_here "_" s (at + length digits) (moved (drop (at + length digits) s) σ) refl h)

-- `next` is the place behind the digits
module _ (s : Text) (at : ℕ) (σ : State) (e : σ.rest ≡ drop at s) {next : ℕ} (n : next ≡ at + length (run (digit 36) (drop at s))) where
  pub entry_open : starts (drop next s) (95 ∷ []) ≡ false → entry_at σ ≡ refused 4
  unfolding entry_at
  entry_open h = referred_open 36 entry_of s at σ e (sym (ends_as s n) ∙ h)

  pub entry_is : (k : ℕ) → index 36 (run (digit 36) (drop at s)) ≡ k → starts (drop next s) (95 ∷ []) ≡ true
      → entry_at σ ≡ choose (get_elem? σ.subs k) give (refuse 7) (moved (drop (next + 1) s) σ)
  unfolding entry_at onto
  entry_is k i h =
      referred_is 36 entry_of s at σ e (sym (ends_as s n) ∙ h)
      ∙ ap₂ (λ (j x : ℕ). choose (get_elem? σ.subs j) give (refuse 7) (moved (drop (x + 1) s) σ)) i (sym n)

-- ---------------------------------------------------------------- an index passed over

module _ {base : ℕ} {d d' : Demangler} where
  pub index_prepared : {o : Returned ℕ} → Indexes base d d' (Ok o) → Prepared d → Prepared d'
  index_prepared (indexes i n e) = prepared_at e (omega (arith, starts_inside d.s.now (behind_digits base d) 95 n))

  module _ (f : Text → Reader Text) {k : ℕ} where
    -- no underscore
    pub index_refused : {e : Refusal} → Indexes base d d' (Err e) → Leaf (referred base f) k d.state.at d d' (Err e)
    index_refused (unended n e) = leaf_reads_lent (others_by d e) (ap lent e) (λ σ h. by (referred_open base f d.s.now d.state.at σ h.rest n) refuses)

    -- what is read by an index, and behind it
    pub index_read :
        {o : Returned ℕ} {g : Reader Text} {d'' : Demangler} {r : Answer ℕ Refusal} → Indexes base d d' (Ok o) →
        ((t : Text) → index_of o ≡ min (index base t) (most + 1) → (σ : State) → Held d' σ → f t σ ≡ g σ) →
        Leaf g k d'.state.at d' d'' r → Leaf (referred base f) k d.state.at d d'' r
    index_read (indexes i n e) u p =
        let l : behind_digits base d + 1 ≤ length d.s.now = omega (arith, starts_inside d.s.now (behind_digits base d) 95 n) in
        leaf_moved e l (omega arith)
        (λ σ h. referred_is base f d.s.now d.state.at σ h.rest n ∙ u (digits_at base d) i (moved (drop (behind_digits base d + 1) d.s.now) σ) (held_at e l h))
        p

-- an index that is told up to a number that no table reaches
entry_same : (l : List Text) (i k : ℕ) (σ : State) → length l ≤ most → k ≡ min i most → choose (get_elem? l i) give (refuse 7) σ ≡ choose (get_elem? l k) give (refuse 7) σ
entry_same l i k σ h e =
    ⊎_elim
    (λ (j : min i most ≡ i). ap (λ (x : ℕ). choose (get_elem? l x) give (refuse 7) σ) {x = i} {y = k} (omega (arith, e, j)))
    (λ (j : min i most < i). none_given l i (refuse 7) σ (omega (arith, j)) ∙ sym (none_given l k (refuse 7) σ (omega (arith, e, j))))
    (eq-or-lt_of_le (min-le_left i most))

module _ {d d' : Demangler} where
  pub entry_refused : {e : Refusal} → Indexes 36 d d' (Err e) → Leaf entry_at kept_bytes d.state.at d d' (Err e)
  unfolding entry_at
  entry_refused i = index_refused _ i

  pub entry_read :
      {o : Returned ℕ} {k : ℕ} {d'' : Demangler} {r : Answer ℕ Refusal} → Indexes 36 d d' (Ok o) → k ≡ min (index_of o) most →
      Leaf (λ σ. choose (get_elem? σ.subs k) give (refuse 7) σ) kept_bytes d'.state.at d' d'' r → Leaf entry_at kept_bytes d.state.at d d'' r
  unfolding entry_at onto
  entry_read {k = k} i e p =
      index_read _ i (λ t j σ h. entry_same σ.subs (index 36 t) k σ (omega (arith, h.subs.count_is, h.subs.most)) (omega (arith, e, j))) p

-- a word's text given behind it
abbrev worded : Text → Text → Reader Text
worded t u σ = onto (λ _. give t) (go_to u σ)

abbrev abbreviated : Reader Text
abbreviated = by_code abbreviations (λ w. give (b w)) entry_at

module _ (s : Text) (at : ℕ) (σ : State) (e : σ.rest ≡ drop at s) where
  pub sub_none : starts (drop at s) (83 ∷ []) ≡ false → reading ⟨substitution⟩ σ ≡ refused 4
  unfolding production substitution onto entry_at b
  sub_none h = reading_is ⟨substitution⟩ σ ∙ ap (onto (λ _. abbreviated)) (need_not "S" s at σ e h)

  module _ (h : starts (drop at s) (83 ∷ []) ≡ true) where
    behind_S : reading ⟨substitution⟩ σ ≡ abbreviated (moved (drop (at + 1) s) σ)
    unfolding production substitution onto entry_at b
    behind_S = reading_is ⟨substitution⟩ σ ∙ ap (onto (λ _. abbreviated)) (need_here "S" s at σ e h)

    pub sub_end : length s ≤ at + 1 → reading ⟨substitution⟩ σ ≡ refused 4
    unfolding by_code onto find abbreviations choose if◌then◌otherwise◌ starts b entry_at every need eat run past go_to
    sub_end l = behind_S ∙ ap (λ (t : Text). abbreviated (moved t σ)) (rest_none s (at + 1) l)

    by_letter : at + 1 < length s
        → reading ⟨substitution⟩ σ
        ≡ choose (word_for abbreviations (get_or s (at + 1) 0 ∷ [])) (λ t. worded t (drop (at + 1 + 1) s)) entry_at (moved (drop (at + 1) s) σ)
    unfolding by_code onto all_of abbreviations b
    by_letter l =
        behind_S
        ∙ ap (λ (t : Text). choose (find abbreviations t) (λ r. worded (b r.0) r.1) entry_at (moved (drop (at + 1) s) σ)) (rest_some s (at + 1) l)
        ∙ ap (λ (m : Reader Text). m (moved (drop (at + 1) s) σ)) (by_word (get_or s (at + 1) 0 ∷ []) (drop (at + 1 + 1) s) worded entry_at abbreviations tt)

    pub sub_word : at + 1 < length s → (t : Text) → some t ≡ word_for abbreviations (get_or s (at + 1) 0 ∷ [])
        → reading ⟨substitution⟩ σ ≡ give t (moved (drop (at + 1 + 1) s) σ)
    unfolding choose onto go_to
    sub_word l t w = by_letter l ∙ ap (λ (o : Option Text). choose o (λ t. worded t (drop (at + 1 + 1) s)) entry_at (moved (drop (at + 1) s) σ)) (sym w)

    pub sub_entry : at + 1 < length s → none ≡ word_for abbreviations (get_or s (at + 1) 0 ∷ []) → reading ⟨substitution⟩ σ ≡ entry_at (moved (drop (at + 1) s) σ)
    unfolding choose
    sub_entry l w = by_letter l ∙ ap (λ (o : Option Text). choose o (λ t. worded t (drop (at + 1 + 1) s)) entry_at (moved (drop (at + 1) s) σ)) (sym w)

-- ---------------------------------------------------------------- template arguments

abbrev argument_of : Text → Reader Text
argument_of d σ = onto (λ l. if ltb (index 10 d) (2 ^ 64) then choose (get_elem? l (index 10 d)) give (give (b "T" ++ decimal 20 (index 10 d))) otherwise unfit) (ok σ.args σ)

abbrev param_of : Bool → ℕ → Reader Text
param_of q i σ = if◌then◌otherwise◌ {A = Reader Text} q (choose (get_elem? σ.args i) give (give (84 ∷ decimal 20 i))) unfit σ

module _ (t : Text) (σ : State) {i : ℕ} (e : i ≡ min (index 10 t) (most + 1)) where
  argument_is : i ≤ most → argument_of t σ ≡ choose (get_elem? σ.args i) give (give (84 ∷ decimal 20 i)) σ
  unfolding onto b if◌then◌otherwise◌
  argument_is l =
      let j : index 10 t ≡ i = omega (arith, e) in
      ap (λ (x : ℕ). param_of (ltb x (2 ^ 64)) x σ) j ∙ ap (λ (q : Bool). param_of q i σ) (lt-ltb i (2 ^ 64) (omega arith))

  argument_past : most < i → argument_of t σ ≡ refused 4
  unfolding onto b if◌then◌otherwise◌
  argument_past l = ap (λ (q : Bool). param_of q (index 10 t) σ) (le-ltb (index 10 t) (2 ^ 64) (omega (arith, e)))

pub param_none : (s : Text) (at : ℕ) (σ : State) → σ.rest ≡ drop at s → starts (drop at s) (84 ∷ []) ≡ false → reading ⟨template-param⟩ σ ≡ refused 4
unfolding production template_param onto b
param_none s at σ e h = reading_is ⟨template-param⟩ σ ∙ ap (onto (λ _. referred 10 argument_of)) (need_not "T" s at σ e h)

param_T : (s : Text) (at : ℕ) (σ : State) → σ.rest ≡ drop at s → starts (drop at s) (84 ∷ []) ≡ true → reading ⟨template-param⟩ σ ≡ referred 10 argument_of (moved (drop (at + 1) s) σ)
unfolding production template_param onto b
param_T s at σ e h = reading_is ⟨template-param⟩ σ ∙ ap (onto (λ _. referred 10 argument_of)) (need_here "T" s at σ e h)

module _ (s : Text) (at : ℕ) (σ : State) (e : σ.rest ≡ drop at s) (h : starts (drop at s) (84 ∷ []) ≡ true) {next : ℕ} (n : next ≡ at + 1 + length (run (digit 10) (drop (at + 1) s))) where
  pub param_open : starts (drop next s) (95 ∷ []) ≡ false → reading ⟨template-param⟩ σ ≡ refused 4
  param_open g = param_T s at σ e h ∙ referred_open 10 argument_of s (at + 1) (moved (drop (at + 1) s) σ) refl (sym (ends_as s n) ∙ g)

  module _ (g : starts (drop next s) (95 ∷ []) ≡ true) (i : ℕ) (f : index 10 (run (digit 10) (drop (at + 1) s)) ≡ i) where
    by_index : reading ⟨template-param⟩ σ ≡ argument_of (run (digit 10) (drop (at + 1) s)) (moved (drop (next + 1) s) σ)
    by_index =
        param_T s at σ e h
        ∙ referred_is 10 argument_of s (at + 1) (moved (drop (at + 1) s) σ) refl (sym (ends_as s n) ∙ g)
        ∙ ap (λ (x : ℕ). argument_of (run (digit 10) (drop (at + 1) s)) (moved (drop (x + 1) s) σ)) (sym n)

    pub param_past : 18446744073709551616 ≤ i → reading ⟨template-param⟩ σ ≡ refused 4
    param_past l = by_index ∙ argument_past (run (digit 10) (drop (at + 1) s)) (moved (drop (next + 1) s) σ) {i = most + 1} (omega (arith, f, l)) (omega arith)

    pub param_given : i < 18446744073709551616 → reading ⟨template-param⟩ σ ≡ choose (get_elem? σ.args i) give (give (84 ∷ decimal 20 i)) (moved (drop (next + 1) s) σ)
    param_given l = by_index ∙ argument_is (run (digit 10) (drop (at + 1) s)) (moved (drop (next + 1) s) σ) (omega (arith, f, l)) (omega (arith, l))

-- behind T
module _ {d d₁ : Demangler} (p : Passed 84 d d₁) where
  param_behind : {d'' : Demangler} {r : Answer ℕ Refusal} → Leaf (referred 10 argument_of) kept_bytes d₁.state.at d₁ d'' r → Leaf (reading ⟨template-param⟩) kept_bytes (d.state.at + 1) d d'' r
  param_behind h = leaf_moved p.is (omega (arith, p.past.inside)) (omega arith) (λ σ g. param_T d.s.now d.state.at σ g.rest p.past.ahead) h

  pub param_unended : {d' : Demangler} {e : Refusal} → Indexes 10 d₁ d' (Err e) → Leaf (reading ⟨template-param⟩) kept_bytes (d.state.at + 1) d d' (Err e)
  param_unended i = param_behind (index_refused _ i)

  module _ {d' : Demangler} {o : Returned ℕ} (i : Indexes 10 d₁ d' (Ok o)) where
    pub param_unfit : most < index_of o → Leaf (reading ⟨template-param⟩) kept_bytes (d.state.at + 1) d d' (Err NoRule)
    param_unfit l = param_behind (index_read _ i (λ t e σ h. argument_past t σ e l) (leaf_reads_lent refl refl (λ σ h. refuses)))

    pub param_read :
        {n : ℕ} {d'' : Demangler} {r : Answer ℕ Refusal} → index_of o ≡ n → (n ≡ most + 1 → ⊥) →
        Leaf (λ σ. choose (get_elem? σ.args n) give (give (84 ∷ decimal 20 n)) σ) kept_bytes d'.state.at d' d'' r → Leaf (reading ⟨template-param⟩) kept_bytes (d.state.at + 1) d d'' r
    param_read {n} e l h = param_behind (index_read _ i (λ t j σ g. argument_is t σ {i = n} (sym e ∙ j) (omega (arith, e, j, l))) h)
