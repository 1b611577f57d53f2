-- The table in its slice, and what is kept with each node: what is read there, an entry more, a node more. Assumes nothing.
use Rattle.std.specs.Prelude.{Bool, true, false, ◌≡◌, refl, ℕ, suc, ◌+◌, ◌-◌, ◌≤◌, ◌<◌, eqb, ltb, length, get_or, set}
use mathlib.Core.List.{List, [], ◌∷◌, ◌++◌}
use Rattle.std.proofs.Math.Option.{Option, none, some}
use Rattle.std.proofs.Common.{sym, ap, ◌∙◌, arith, eq-eqb, ne_eqb, eqb-true, ltb-true, ltb-false, length-append, length-set, get_or-set_same, get_or-set_other}
use Rattle.std.proofs.lemmas.Bool.{eqb-false}
use Rattle.std.proofs.Math.ListN.{get_or-append}
use Rattle.std.proofs.lemmas.List.{get_or_at}
use Rattle.grammar.specs.Text.{Text}
use Rattle.catalogue.specs.Answer.{least_numbers}
use Rattle.normal_nodes.specs.Nodes.{least_number, table_place, firsts}
use Rattle.normal_steps.specs.Limits.{middle}
use Rattle.normal_steps.specs.Carries.{place_kept, AllNumbered, Tabled}
use Rattle.normal_steps.specs.Laws.Seeks.{seek_here, seek_skip}
use Rattle.normal_steps.specs.Laws.Entries.{firsts_known, firsts_new, numbered_more, numbered_up, new_absent}

module _ {n : ℕ} {ds : List ℕ} {t : Text} (h : Tabled n ds t) where
  -- ---------------------------------------------------------------- what is kept

  module _ {d : ℕ} (b : (least_number ≤ d) × (d < least_number + n)) where
    pub kept_here : get_or t (middle + (d - least_number)) 0 ≡ place_kept (table_place d (firsts ds))
    kept_here =
        h.kept (d - least_number) (omega (arith, b))
        ∙ ap (λ (k : ℕ). place_kept (table_place k (firsts ds))) {x = least_number + (d - least_number)} {y = d} (omega (arith, b))

    by_kept : (o : Option ℕ) → table_place d (firsts ds) ≡ o → get_or t (middle + (d - least_number)) 0 ≡ place_kept o
    by_kept o e = kept_here ∙ ap place_kept e

    pub kept_none : get_or t (middle + (d - least_number)) 0 ≡ 0 → table_place d (firsts ds) ≡ none
    kept_none z = go (table_place d (firsts ds)) refl
      where
        go : (o : Option ℕ) → table_place d (firsts ds) ≡ o → o ≡ none
        go none e = refl
        go (some i) e = absurd (omega (arith, sym z ∙ by_kept (some i) e))

    pub kept_some : (get_or t (middle + (d - least_number)) 0 ≡ 0 → ⊥) → table_place d (firsts ds) ≡ some (get_or t (middle + (d - least_number)) 0 - 1)
    kept_some z = go (table_place d (firsts ds)) refl
      where
        go : (o : Option ℕ) → table_place d (firsts ds) ≡ o → o ≡ some (get_or t (middle + (d - least_number)) 0 - 1)
        go none e = absurd (z (by_kept none e))
        go (some i) e = ap some (omega (arith, by_kept (some i) e))

  -- ---------------------------------------------------------------- an entry more

  module _ {d : ℕ} (b : (least_number ≤ d) × (d < least_number + n)) (m : length ds < middle) (l : n ≤ middle) where
    abbrev entered_at : Text
    entered_at = set t (length ds) d

    is_more : (t' : Text) → ((i : ℕ) → i < middle → get_or t' i 0 ≡ get_or entered_at i 0) → (i : ℕ) → i < length (ds ++ (d ∷ [])) → get_or t' i 0 ≡ get_or (ds ++ (d ∷ [])) i 0
    is_more t' f i k = go (ltb i (length ds)) refl
      where
        g : length (ds ++ (d ∷ [])) ≡ length ds + 1
        g = length-append ds (d ∷ [])

        go : (q : Bool) → ltb i (length ds) ≡ q → get_or t' i 0 ≡ get_or (ds ++ (d ∷ [])) i 0
        go true q =
            let j = ltb-true i (length ds) q in
            f i (omega arith)
            ∙ get_or-set_other t (length ds) i d 0 (λ e. omega arith)
            ∙ h.is i j
            ∙ sym (get_or-append ds (d ∷ []) 0 i j)
        go false q =
            let e : i ≡ length ds = omega (arith, ltb-false i (length ds) q, g) in
            f i (omega arith)
            ∙ ap (λ (k : ℕ). get_or entered_at k 0) e
            ∙ get_or-set_same t (length ds) d 0 (omega (arith, h.size))
            ∙ sym (get_or_at ds d [] 0 i (sym e))

    pub tabled_known : (i : ℕ) → table_place d (firsts ds) ≡ some i → Tabled n (ds ++ (d ∷ [])) entered_at
    tabled_known i e = record {
      size = length-set t (length ds) d ∙ h.size;
      is = is_more entered_at (λ i l. refl);
      kept = λ j k. get_or-set_other t (length ds) (middle + j) d 0 (λ q. omega arith)
          ∙ h.kept j k
          ∙ ap (λ (es : List ℕ). place_kept (table_place (least_number + j) es)) (sym (firsts_known ds d i e));
      numbers = numbered_more n ds d h.numbers b;
    }

    abbrev placed_at : Text
    placed_at = set entered_at (middle + (d - least_number)) (length (firsts ds) + 1)

    module _ (e : table_place d (firsts ds) ≡ none) where
      place_new : table_place d (firsts ds ++ (d ∷ [])) ≡ some (length (firsts ds))
      unfolding table_place
      place_new = seek_here (eqb d) (firsts ds) d [] e (eq-eqb d d refl)

      place_other : (j : ℕ) → (j ≡ d → ⊥) → table_place j (firsts ds ++ (d ∷ [])) ≡ table_place j (firsts ds)
      unfolding table_place
      place_other j f = seek_skip (eqb j) (firsts ds) d (ne_eqb j d f)

      kept_new : (j : ℕ) → j < n → get_or placed_at (middle + j) 0 ≡ place_kept (table_place (least_number + j) (firsts ds ++ (d ∷ [])))
      kept_new j k = go (eqb (least_number + j) d) refl
        where
          go : (q : Bool) → eqb (least_number + j) d ≡ q → get_or placed_at (middle + j) 0 ≡ place_kept (table_place (least_number + j) (firsts ds ++ (d ∷ [])))
          go true q =
              let f = eqb-true (least_number + j) d q in
              ap (λ (i : ℕ). get_or placed_at (middle + i) 0) {x = j} {y = d - least_number} (omega arith)
              ∙ get_or-set_same entered_at (middle + (d - least_number)) (length (firsts ds) + 1) 0 (omega (arith, h.size, length-set t (length ds) d))
              ∙ omega arith
              ∙ sym (ap place_kept (ap (λ (i : ℕ). table_place i (firsts ds ++ (d ∷ []))) f ∙ place_new))
          go false q =
              let f = eqb-false (least_number + j) d q in
              get_or-set_other entered_at (middle + (d - least_number)) (middle + j) (length (firsts ds) + 1) 0 (λ g. f (omega (arith, b)))
              ∙ get_or-set_other t (length ds) (middle + j) d 0 (λ q. omega arith)
              ∙ h.kept j k
              ∙ ap place_kept (sym (place_other (least_number + j) f))

      pub tabled_new : Tabled n (ds ++ (d ∷ [])) placed_at
      tabled_new = record {
        size = length-set entered_at (middle + (d - least_number)) (length (firsts ds) + 1) ∙ length-set t (length ds) d ∙ h.size;
        is = is_more placed_at
            (λ i l. get_or-set_other entered_at (middle + (d - least_number)) i (length (firsts ds) + 1) 0 (λ q. omega arith));
        kept = λ j k. kept_new j k ∙ ap (λ (es : List ℕ). place_kept (table_place (least_number + j) es)) (sym (firsts_new ds d e));
        numbers = numbered_more n ds d h.numbers b;
      }

  -- ---------------------------------------------------------------- a node more

  pub tabled_node : n < middle → length ds ≤ middle → Tabled (suc n) ds (set t (middle + n) 0)
  tabled_node l m = record {
    size = length-set t (middle + n) 0 ∙ h.size;
    is = λ i k. get_or-set_other t (middle + n) i 0 0 (λ q. omega arith) ∙ h.is i k;
    kept = λ j k. go j k (ltb j n) refl;
    numbers = numbered_up n ds h.numbers;
  }
    where
      go : (j : ℕ) → j < suc n → (q : Bool) → ltb j n ≡ q → get_or (set t (middle + n) 0) (middle + j) 0 ≡ place_kept (table_place (least_number + j) (firsts ds))
      go j k true q =
          let i = ltb-true j n q in
          get_or-set_other t (middle + n) (middle + j) 0 0 (λ e. omega arith) ∙ h.kept j i
      go j k false q =
          let e : j ≡ n = omega (arith, ltb-false j n q) in
          ap (λ (i : ℕ). get_or (set t (middle + n) 0) (middle + i) 0) e
          ∙ get_or-set_same t (middle + n) 0 0 (omega (arith, h.size))
          ∙ sym (ap place_kept (ap (λ (i : ℕ). table_place (least_number + i) (firsts ds)) e ∙ new_absent n ds h.numbers))

-- no entry is there
pub tabled_nothing : {t : Text} → length t ≡ least_numbers → Tabled 0 [] t
unfolding AllNumbered
tabled_nothing z = record { size = z; is = λ i l. absurd (omega arith); kept = λ i l. absurd (omega arith); numbers = tt }
