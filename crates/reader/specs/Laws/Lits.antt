-- Literals and local names as the code reads them. Assumes nothing.
use Rattle.std.specs.Prelude.{◌≡◌, ℕ, ◌+◌, ◌-◌, ◌≤◌, Bool, true, false, not, [], ◌∷◌, ◌++◌, length, take, drop, ◌==◌}
use mathlib.Core.List.{append_assoc}
use Rattle.std.proofs.Math.Path.{refl, ap, subst}
use Rattle.std.proofs.Common.{sym, ◌∙◌, arith}
use Rattle.std.proofs.Math.ListN.{length-append}
use Rattle.grammar.specs.Text.{Text, b, starts, run}
use Rattle.grammar.specs.Limits.{most_text_bytes, most_entry_bytes}
use Rattle.grammar.specs.Tables.{◌⇒◌}
use Rattle.grammar.specs.Reader.{State, ok, refused, Reader, onto, give, by_code, eat, need, every}
use Rattle.grammar.specs.Grammar.{reading, production, expr_primary, literal, local_name, local_encoding, ⟨expr-primary⟩, ⟨name⟩, ⟨type⟩}
use Rattle.grammar.specs.Laws.Agree.{moved}
use Rattle.grammar.specs.Laws.Fuel.{reading_is}
use Rattle.store.specs.Stack.{Stack}
use Rattle.grammar.specs.States.{Progress, Read, read, Refused, moved_to}
use Rattle.parser.specs.Holds.{Halves, Memory, mem, window, part, Holds, Stands, Refines, refuses, Reads, Puts, keep, given_of}
use Rattle.parser.specs.Laws.Holds.{by, answers, Got, got, refused_on, less, sooner, given_refines, holds_puts, stands}
use Rattle.parser.specs.Laws.Adds.{puts_from}
use Rattle.parser.specs.Laws.Wraps.{stands_puts}
use Rattle.parser.specs.Laws.Halves.{newest_part}
use Rattle.grammar.specs.Laws.Places.{starts_inside}
use Rattle.grammar.specs.Laws.Runs.{case_here, case_not, need_here, need_not, eat_here, eat_not, every_at}
use Rattle.reader.specs.Laws.Opens.{call_moved}
use Rattle.reader.specs.Laws.Arrays.{run_front}
use Rattle.reader.specs.Laws.Standing.{wrote_moved, given_as, stands_sized, wrote_behind}
use Rattle.grammar.specs.declared.refusal.Refusal.{Refusal}
use Rattle.grammar.specs.declared.refusal.Refusal.TheVariants.{NoRule}

-- ---------------------------------------------------------------- the definition

abbrev not_E : ℕ → Bool
not_E c = not (c == 69)

abbrev named_on : Text → Reader Text
named_on n v = onto (λ _ w. ok n w) (eat "E" v)

abbrev named : Reader Text
named u = onto named_on (reading ⟨name⟩ u)

abbrev valued_on : Text → Reader Text
valued_on t v = onto (λ x w. onto (λ _. give (literal t x)) (need "E" w)) (every not_E v)

abbrev valued : Reader Text
valued u = onto valued_on (reading ⟨type⟩ u)

abbrev primary : Reader Text
primary = by_code ("_" ⇒ named ∷ []) (λ r. r) valued

module _ (s : Text) (at : ℕ) (σ : State) (e : σ.rest ≡ drop at s) where
  pub lit_none : starts (drop at s) (76 ∷ []) ≡ false → reading ⟨expr-primary⟩ σ ≡ refused 4
  unfolding production expr_primary onto b
  lit_none h = reading_is ⟨expr-primary⟩ σ ∙ ap (onto (λ _. primary)) (need_not "L" s at σ e h)

  module _ (h : starts (drop at s) (76 ∷ []) ≡ true) where
    behind_L : reading ⟨expr-primary⟩ σ ≡ primary (moved (drop (at + 1) s) σ)
    unfolding production expr_primary onto b
    behind_L = reading_is ⟨expr-primary⟩ σ ∙ ap (onto (λ _. primary)) (need_here "L" s at σ e h)

    lit_named : starts (drop (at + 1) s) (95 ∷ []) ≡ true → reading ⟨expr-primary⟩ σ ≡ named (moved (drop (at + 1 + 1) s) σ)
    unfolding b
    lit_named g = behind_L ∙ case_here "_" s (at + 1) (moved (drop (at + 1) s) σ) refl named valued g

    lit_valued : starts (drop (at + 1) s) (95 ∷ []) ≡ false → reading ⟨expr-primary⟩ σ ≡ valued (moved (drop (at + 1) s) σ)
    unfolding b
    lit_valued g = behind_L ∙ case_not "_" s (at + 1) (moved (drop (at + 1) s) σ) refl named valued g

-- ---------------------------------------------------------------- answers

abbrev Primary : Text → Memory → Memory → Progress → Read → State → Type 0
Primary s m m' p r σ = Refines (keep p.depth) p.depth s (window m p) (p.at + 1) m' r (reading ⟨expr-primary⟩ σ)

module _ {s : Text} {m : Memory} {p q : Progress} {σ : State} (h : Holds s m p σ) (l : starts (drop p.at s) (76 ∷ []) ≡ true) where
  -- L _ <name> E
  module _ (g : starts (drop (p.at + 1) s) (95 ∷ []) ≡ true) (i : q ≡ moved_to p (p.at + 1 + 1)) where
    inside_name : p.at + 1 + 1 ≤ length s
    inside_name = omega (arith, starts_inside s (p.at + 1) 95 g)

    module _ {m' : Memory} {r : Read} (f : Reads (reading ⟨name⟩) (keep (q.depth + 1)) (q.at + 1) s m m' q r) where
      name_read : Refines (keep (p.depth + 1)) p.depth s (window m p) (p.at + 1 + 1 + 1) m' r (reading ⟨name⟩ (moved (drop (p.at + 1 + 1) s) σ))
      name_read = call_moved (λ d. keep (d + 1)) i f h inside_name

      pub lit_name_refused : {j : Refusal} → r ≡ Refused j → Primary s m m' p r σ
      lit_name_refused e = by (lit_named s p.at σ h.rest l g) (refused_on named_on e name_read)

      module _ {next : Progress} {n : ℕ} (e : r ≡ read next n) where
        pub lit_name_got : Got (keep (p.depth + 1)) p.depth s (window m p) (p.at + 1 + 1 + 1) m' next n (reading ⟨name⟩ (moved (drop (p.at + 1 + 1) s) σ))
        lit_name_got = got e name_read

        pub lit_name_E : {next' : Progress} → starts (drop next.at s) (69 ∷ []) ≡ true → next' ≡ moved_to next (next.at + 1) → Primary s m m' p (read next' n) σ
        unfolding onto b
        lit_name_E {next'} x z =
            let y = lit_name_got in
            subst (λ (v : Progress). Primary s m m' p (read v n) σ) (sym z)
            (answers
            (lit_named s p.at σ h.rest l g ∙ ap (onto named_on) y.is ∙ ap (onto (λ _ w. ok y.said w)) (eat_here "E" s next.at y.state y.wrote.holds.rest x))
            (wrote_moved (next.at + 1) y.wrote (omega arith) (omega (arith, y.wrote.more)) (omega (arith, starts_inside s next.at 69 x))))

        pub lit_name_open : starts (drop next.at s) (69 ∷ []) ≡ false → Primary s m m' p (read next n) σ
        unfolding onto b
        lit_name_open x =
            let y = lit_name_got in
            less (omega arith) (sooner (omega arith) (answers
            (lit_named s p.at σ h.rest l g ∙ ap (onto named_on) y.is ∙ ap (onto (λ _ w. ok y.said w)) (eat_not "E" s next.at y.state y.wrote.holds.rest x))
            y.wrote))

  -- L <type> <value> E
  module _ (g : starts (drop (p.at + 1) s) (95 ∷ []) ≡ false) (i : q ≡ moved_to p (p.at + 1)) where
    inside_type : p.at + 1 ≤ length s
    inside_type = omega (arith, starts_inside s p.at 76 l)

    module _ {m' : Memory} {r : Read} (f : Reads (reading ⟨type⟩) (keep (q.depth + 1)) (q.at + 1) s m m' q r) where
      type_read : Refines (keep (p.depth + 1)) p.depth s (window m p) (p.at + 1 + 1) m' r (reading ⟨type⟩ (moved (drop (p.at + 1) s) σ))
      type_read = call_moved (λ d. keep (d + 1)) i f h inside_type

      pub lit_type_refused : {j : Refusal} → r ≡ Refused j → Primary s m m' p r σ
      lit_type_refused e = by (lit_valued s p.at σ h.rest l g) (refused_on valued_on e type_read)

      module _ {next : Progress} {n : ℕ} (e : r ≡ read next n) where
        pub lit_type_got : Got (keep (p.depth + 1)) p.depth s (window m p) (p.at + 1 + 1) m' next n (reading ⟨type⟩ (moved (drop (p.at + 1) s) σ))
        lit_type_got = got e type_read

        module _ {to : ℕ} (o : (to ≡ next.at + length (run (λ x. not (x == 69)) (drop next.at s))) × (to ≤ length s)) where
          value_is : every not_E lit_type_got.state ≡ ok (run not_E (drop next.at s)) (moved (drop to s) lit_type_got.state)
          value_is =
              every_at not_E s next.at lit_type_got.state lit_type_got.wrote.holds.rest
              ∙ ap (λ (j : ℕ). ok (run not_E (drop next.at s)) (moved (drop j s) lit_type_got.state)) (sym o.0)

          valued_is : reading ⟨expr-primary⟩ σ ≡ onto (λ _. give (literal lit_type_got.said (run not_E (drop next.at s)))) (need "E" (moved (drop to s) lit_type_got.state))
          unfolding onto
          valued_is =
              lit_valued s p.at σ h.rest l g
              ∙ ap (onto valued_on) lit_type_got.is
              ∙ ap (onto (λ x w. onto (λ _. give (literal lit_type_got.said x)) (need "E" w))) value_is

          pub lit_open : {m'' : Memory} → starts (drop to s) (69 ∷ []) ≡ false → Primary s m m'' p (Refused NoRule) σ
          unfolding onto b
          lit_open x =
              by (valued_is ∙ ap (onto (λ _. give (literal lit_type_got.said (run not_E (drop next.at s))))) (need_not "E" s to (moved (drop to s) lit_type_got.state) refl x))
              refuses

          value_part : run not_E (drop next.at s) ≡ part s next.at to
          value_part =
              sym (run_front not_E (drop next.at s))
              ∙ ap (λ (j : ℕ). take j (drop next.at s)) {x = length (run not_E (drop next.at s))} {y = to - next.at} (omega (arith, o.0))

          pub lit_ready : {next' : Progress} → next' ≡ moved_to next (to + 1)
              → (Stack m'.text next'.top) × ((n ≤ next'.top) × ((n ≤ most_text_bytes) × ((next.at ≤ to) × ((to ≤ length s) × (length s ≤ most_text_bytes)))))
          lit_ready {next'} z =
              let w = lit_type_got.wrote in
              let a = (newest_part (stands w (omega arith) (omega (arith, h.deep))) (omega (arith, w.short))).0 in
              subst (λ (v : Progress). (Stack m'.text v.top) × ((n ≤ v.top) × ((n ≤ most_text_bytes) × ((next.at ≤ to) × ((to ≤ length s) × (length s ≤ most_text_bytes)))))) (sym z)
              (w.holds.text, (a, (omega (arith, w.size, w.short), (omega (arith, o.0), (o.1, h.source)))))

-- the newest n bytes, a type's text, were replaced by the literal of that type
abbrev pub Printed : Text → Memory → Memory → Progress → ℕ → Text → Read → Type 0
Printed s m m' p n value r =
    (k d : ℕ) (base : Text) (from : ℕ) (t : Text) (σ : State) → Stands (k + 18) d s base from m p n t σ →
    length t ≤ most_text_bytes → most_entry_bytes ≤ k → Refines k d s base from m' r (give (literal t value) σ)

pub lit_given :
    {s : Text} {m : Memory} {p q : Progress} {σ : State} (h : Holds s m p σ) (l : starts (drop p.at s) (76 ∷ []) ≡ true)
    (g : starts (drop (p.at + 1) s) (95 ∷ []) ≡ false) (i : q ≡ moved_to p (p.at + 1)) {m' m'' : Memory} {r : Read}
    (f : Reads (reading ⟨type⟩) (keep (q.depth + 1)) (q.at + 1) s m m' q r) {next : Progress} {n : ℕ} (e : r ≡ read next n)
    {to : ℕ} (o : (to ≡ next.at + length (run (λ x. not (x == 69)) (drop next.at s))) × (to ≤ length s)) → starts (drop to s) (69 ∷ []) ≡ true →
    {next' : Progress} → next' ≡ moved_to next (to + 1) →
    {v : Read} → Printed s m' m'' next' n (part s next.at to) v → Primary s m m'' p v σ
unfolding onto b
lit_given {s} {m} {p} {q} {σ} h l g i {m'} {m''} {r} f {next} {n} e {to} o x {next'} z {v} k =
    let y = lit_type_got h l g i f e in
    let st : Stands (keep p.depth + 18) p.depth s (window m p) (p.at + 1) m' (moved_to next (to + 1)) n y.said (moved (drop (to + 1) s) y.state) =
    stands (wrote_moved (to + 1) y.wrote (omega arith) (omega (arith, y.wrote.more, o.0)) (omega (arith, starts_inside s to 69 x))) (omega arith) (omega (arith, h.deep)) in
    by
    (valued_is h l g i f e o
    ∙ ap (onto (λ _. give (literal y.said (run not_E (drop next.at s))))) (need_here "E" s to (moved (drop to s) y.state) refl x)
    ∙ ap (λ (u : Text). give (literal y.said u) (moved (drop (to + 1) s) y.state)) (value_part h l g i f e o))
    (subst (λ (w : Progress). Printed s m' m'' w n (part s next.at to) v) z k (keep p.depth) p.depth (window m p) (p.at + 1) y.said _ st y.wrote.short (omega arith))

-- ---------------------------------------------------------------- local names

abbrev entity_on : Text → Text → Reader Text
entity_on t n = give ((t ++ b "::") ++ n)

abbrev entity : Text → Reader Text
entity t u = onto (entity_on t) (reading ⟨name⟩ u)

abbrev outer_on : Text → Reader Text
outer_on t = by_code ("s" ⇒ give (t ++ b "::string literal") ∷ []) (λ r. r) (entity t)

abbrev localized : Reader Text
localized u = onto outer_on (local_encoding reading u)

module _ (s : Text) (at : ℕ) (σ : State) (e : σ.rest ≡ drop at s) where
  pub local_none : starts (drop at s) (90 ∷ []) ≡ false → local_name reading σ ≡ refused 4
  unfolding local_name onto b
  local_none h = ap (onto (λ _. localized)) (need_not "Z" s at σ e h)

  behind_Z : starts (drop at s) (90 ∷ []) ≡ true → local_name reading σ ≡ localized (moved (drop (at + 1) s) σ)
  unfolding local_name onto b
  behind_Z h = ap (onto (λ _. localized)) (need_here "Z" s at σ e h)

abbrev Localized : Text → Memory → Memory → Progress → Read → State → Type 0
Localized s m m' p r σ = Refines (keep p.depth) p.depth s (window m p) (p.at + 1) m' r (local_name reading σ)

module _ {s : Text} {m : Memory} {p q : Progress} {σ : State} (h : Holds s m p σ) (l : starts (drop p.at s) (90 ∷ []) ≡ true) (i : q ≡ moved_to p (p.at + 1)) where
  inside_local : p.at + 1 ≤ length s
  inside_local = omega (arith, starts_inside s p.at 90 l)

  module _ {text₁ : Text} {store₁ ends₁ : Halves} {r : Read} (f : Reads (local_encoding reading) (keep q.depth) (q.at + 1) s m (mem text₁ store₁ ends₁) q r) where
    outer_read : Refines (keep p.depth) p.depth s (window m p) (p.at + 1 + 1) (mem text₁ store₁ ends₁) r (local_encoding reading (moved (drop (p.at + 1) s) σ))
    outer_read = call_moved keep i f h inside_local

    pub local_refused : {j : Refusal} → r ≡ Refused j → Localized s m (mem text₁ store₁ ends₁) p r σ
    local_refused e = by (behind_Z s p.at σ h.rest l) (refused_on outer_on e outer_read)

    module _ {outer : Progress} {n : ℕ} (e : r ≡ read outer n) where
      pub local_got : Got (keep p.depth) p.depth s (window m p) (p.at + 1 + 1) (mem text₁ store₁ ends₁) outer n (local_encoding reading (moved (drop (p.at + 1) s) σ))
      local_got = got e outer_read

      outer_is : local_name reading σ ≡ outer_on local_got.said local_got.state
      unfolding onto
      outer_is = behind_Z s p.at σ h.rest l ∙ ap (onto outer_on) local_got.is

      pub local_string : {text₂ : Text} {o₁ o₂ : Progress} {v : Read} → starts (drop outer.at s) (115 ∷ []) ≡ true → o₁ ≡ moved_to outer (outer.at + 1)
          → Puts text₁ text₂ o₁ o₂ (b "::string literal") → v ≡ given_of o₂ (n + 16) → Localized s m (mem text₂ store₁ ends₁) p v σ
      unfolding b
      local_string {text₂} {o₁} {o₂} {v} x j u g =
          let w = local_got.wrote in
          let t : Text = local_got.said in
          let a = starts_inside s outer.at 115 x in
          let st = stands (wrote_moved {j = keep p.depth} {from = p.at + 1} (outer.at + 1) w (omega arith) (omega (arith, w.more)) (omega arith)) (omega arith) (omega (arith, h.deep)) in
          subst (λ (z : Read). Localized s m (mem text₂ store₁ ends₁) p z σ) (sym g)
          (by
          (outer_is ∙ case_here "s" s outer.at local_got.state w.holds.rest (give (t ++ b "::string literal")) (entity t) x)
          (given_refines (stands_puts st (puts_from j u) (omega (arith, length-append t (b "::string literal"), w.size, w.short)))))

      module _ (x : starts (drop outer.at s) (115 ∷ []) ≡ false) {text₂ : Text} {o₁ : Progress} (u : Puts text₁ text₂ outer o₁ (b "::")) where
        pub local_name_ready : Holds s (mem text₂ store₁ ends₁) o₁ local_got.state
        local_name_ready = holds_puts u local_got.wrote.holds

        entity_is : local_name reading σ ≡ entity local_got.said local_got.state
        unfolding b
        entity_is = outer_is ∙ case_not "s" s outer.at local_got.state local_got.wrote.holds.rest (give (local_got.said ++ b "::string literal")) (entity local_got.said) x

        module _ {m₃ : Memory} {r₂ : Read} (f₂ : Reads (reading ⟨name⟩) (keep (o₁.depth + 1)) (o₁.at + 1) s (mem text₂ store₁ ends₁) m₃ o₁ r₂) where
          pub local_name_refused : {j : Refusal} → r₂ ≡ Refused j → Localized s m m₃ p r₂ σ
          local_name_refused j = by entity_is (refused_on (entity_on local_got.said) j (f₂ _ local_name_ready))

          pub local_name_got : {next : Progress} {k : ℕ} → r₂ ≡ read next k → Got (keep (o₁.depth + 1)) o₁.depth s (window (mem text₂ store₁ ends₁) o₁) (o₁.at + 1) m₃ next k (reading ⟨name⟩ local_got.state)
          local_name_got j = got j (f₂ _ local_name_ready)

          pub local_given : {next : Progress} {k : ℕ} {v : Read} → r₂ ≡ read next k → v ≡ given_of next (n + k + 2) → Localized s m m₃ p v σ
          unfolding onto b
          local_given {next} {k} {v} j g =
              let w = local_got.wrote in
              let t : Text = local_got.said in
              let y = local_name_got j in
              let d : o₁.depth ≡ outer.depth = ap (λ (z : Progress). z.depth) u.same in
              let o : o₁.at ≡ outer.at = ap (λ (z : Progress). z.at) u.same in
              let x = wrote_behind {to = p.at + 1} (stands w (omega arith) (omega (arith, h.deep))) u y.wrote (omega (arith, w.level)) (omega (arith, w.more)) in
              let l : (t ++ b "::") ++ y.said ≡ t ++ (b "::" ++ y.said) = append_assoc t (b "::") y.said in
              by (entity_is ∙ ap (onto (entity_on t)) y.is) (given_as g (stands_sized (n + k + 2) x l (omega (arith, ap length l, x.size, w.size, w.short, y.wrote.size, y.wrote.short))))
