-- Laws of the table, and of the table without later doubles. Assumes nothing.
use Rattle.std.specs.Prelude.{false, ◌≡◌, eqb, length, get_or}
use mathlib.Core.List.{List, [], ◌∷◌, ◌++◌}
use Rattle.std.proofs.Math.Option.{Option, none, some}
use Rattle.std.proofs.Math.Path.{refl, ap}
use Rattle.std.proofs.Common.{◌∙◌, arith, ne_eqb, length-append}
use Prim.Native.Nat.{ℕ, zero, suc, ◌+◌, ◌-◌, ◌≤◌, ◌<◌}
use Rattle.std.proofs.Math.ListN.{get_elem?}
use Rattle.grammar.specs.Text.{if◌then◌otherwise◌}
use Rattle.normal_nodes.specs.Nodes.{least_number, later, seek_by, with_new, table_place, add, note_add_all, firsts, note_last_is}
use Rattle.normal_steps.specs.Carries.{AllNumbered}

-- ---------------------------------------------------------------- one entry more

add_all_more : (ds es : List ℕ) (d : ℕ) → note_add_all ds (es ++ (d ∷ [])) ≡ add d (note_add_all ds es)
unfolding note_add_all
add_all_more ds [] d = refl
add_all_more ds (e ∷ es) d = add_all_more (add e ds) es d

module _ (ds : List ℕ) (d : ℕ) where
  by_place : (o : Option ℕ) → table_place d (firsts ds) ≡ o → firsts (ds ++ (d ∷ [])) ≡ with_new o d (firsts ds)
  unfolding add
  by_place o e = add_all_more [] ds d ∙ ap (λ (q : Option ℕ). with_new q d (firsts ds)) e

  pub firsts_known : (i : ℕ) → table_place d (firsts ds) ≡ some i → firsts (ds ++ (d ∷ [])) ≡ firsts ds
  firsts_known i e = by_place (some i) e

  pub firsts_new : table_place d (firsts ds) ≡ none → firsts (ds ++ (d ∷ [])) ≡ firsts ds ++ (d ∷ [])
  firsts_new e = by_place none e

add_length : (d : ℕ) (ds : List ℕ) → length (add d ds) ≤ suc (length ds)
unfolding add
add_length d ds = go (table_place d ds)
  where
    go : (o : Option ℕ) → length (with_new o d ds) ≤ suc (length ds)
    go none = omega (arith, length-append ds (d ∷ []))
    go (some i) = omega arith

all_length : (ds es : List ℕ) → length (note_add_all ds es) ≤ length ds + length es
unfolding note_add_all
all_length ds [] = omega arith
all_length ds (e ∷ es) = omega (arith, all_length (add e ds) es, add_length e ds)

pub firsts_length : (ds : List ℕ) → length (firsts ds) ≤ length ds
firsts_length ds = omega (arith, all_length [] ds)

-- ---------------------------------------------------------------- entry i

pub some_at : (ds : List ℕ) (i : ℕ) → i < length ds → get_elem? ds i ≡ some (get_or ds i 0)
some_at [] i h = absurd (omega arith)
some_at (d ∷ ds) zero h = refl
some_at (d ∷ ds) (suc i) h = some_at ds i (omega arith)

-- ---------------------------------------------------------------- numbers of nodes

module _ (n : ℕ) where
  pub numbered_more : (ds : List ℕ) (d : ℕ) → AllNumbered n ds → (least_number ≤ d) × (d < least_number + n) → AllNumbered n (ds ++ (d ∷ []))
  unfolding AllNumbered
  numbered_more [] d h b = (b, tt)
  numbered_more (e ∷ ds) d h b = (h.0, numbered_more ds d h.1 b)

  pub numbered_up : (ds : List ℕ) → AllNumbered n ds → AllNumbered (suc n) ds
  unfolding AllNumbered
  numbered_up [] h = tt
  numbered_up (e ∷ ds) h = ((h.0.0, omega (arith, h.0.1)), numbered_up ds h.1)

  pub numbered_at : (ds : List ℕ) (i : ℕ) → AllNumbered n ds → i < length ds → (least_number ≤ get_or ds i 0) × (get_or ds i 0 < least_number + n)
  unfolding AllNumbered
  numbered_at [] i h l = absurd (omega arith)
  numbered_at (d ∷ ds) zero h l = h.0
  numbered_at (d ∷ ds) (suc i) h l = numbered_at ds i h.1 (omega arith)

  numbered_all : (ds es : List ℕ) → AllNumbered n ds → AllNumbered n es → AllNumbered n (note_add_all ds es)
  unfolding note_add_all add AllNumbered
  numbered_all ds [] h k = h
  numbered_all ds (e ∷ es) h k = numbered_all (add e ds) es (one (table_place e ds)) k.1
    where
      one : (o : Option ℕ) → AllNumbered n (with_new o e ds)
      one none = numbered_more ds e h k.0
      one (some i) = h

  -- the next node's number is none of them
  absent : (ds : List ℕ) → AllNumbered n ds → seek_by (eqb (least_number + n)) ds ≡ none
  unfolding AllNumbered seek_by if◌then◌otherwise◌
  absent [] h = refl
  absent (d ∷ ds) h = rw (ne_eqb (least_number + n) d (λ q. omega (arith, h.0.1))) (ap later (absent ds h.1))

  pub new_absent : (ds : List ℕ) → AllNumbered n ds → table_place (least_number + n) (firsts ds) ≡ none
  unfolding table_place AllNumbered
  new_absent ds h = absent (firsts ds) (numbered_all [] ds tt h)

-- ---------------------------------------------------------------- the newest

pub last_none : (d : ℕ) (ds : List ℕ) → length ds ≡ 0 → false ≡ note_last_is d ds
unfolding note_last_is
last_none d [] h = refl
last_none d (e ∷ ds) h = absurd (omega arith)

pub last_at : (d : ℕ) (ds : List ℕ) → 0 < length ds → eqb d (get_or ds (length ds - 1) 0) ≡ note_last_is d ds
unfolding note_last_is
last_at d [] h = absurd (omega arith)
last_at d (e ∷ []) h = ap (λ (k : ℕ). eqb d (get_or (e ∷ []) k 0)) {x = 1 - 1} {y = 0} (omega arith)
last_at d (e ∷ f ∷ ds) h =
    ap (λ (k : ℕ). eqb d (get_or (e ∷ f ∷ ds) k 0)) {x = length (e ∷ f ∷ ds) - 1} {y = suc (length (f ∷ ds) - 1)} (omega arith) ∙ last_at d (f ∷ ds) (omega arith)
