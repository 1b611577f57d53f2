-- Source names, references and literals of the walk, as the code finds their parts. Assumes nothing.
use Rattle.std.specs.Prelude.{Bool, true, false, not, ◌&&◌, ◌||◌, List, [], ◌∷◌, ◌≡◌, ℕ, zero, suc, ◌+◌, ◌-◌, ◌≤◌, ◌<◌, eqb, min, length, take, drop, get_or, Option as Maybe, Some, None}
use Rattle.std.proofs.lemmas.Bool.{false≢true, lt-leb}
use Rattle.std.proofs.Common.{⊎_elim, sym, ◌∙◌, le-leb}
use Rattle.std.proofs.Math.Option.{Option, none, some}
use Rattle.std.proofs.Math.Path.{refl, ap}
use native.Mathlib.Omega.{arith}
use Rattle.std.proofs.Math.ListN.{get_elem?, length-drop}
use Rattle.std.proofs.Math.Seq.{drop-drop}
use Rattle.std.proofs.lemmas.Bool.Decides.{nat_tests}
use Rattle.grammar.specs.Text.{Text, if◌then◌otherwise◌, b, choose, same, starts, run, digit, number}
use Rattle.grammar.specs.Grammar.{index}
use Rattle.catalogue.specs.Bytes.{all}
use Rattle.catalogue.specs.Tree.{Kind, Ty, lit, kind_code}
use Rattle.catalogue.specs.Class.{word_byte, reserved, listed, name_ok, lit_ok, numeral}
use Rattle.catalogue.specs.Recogniser.{Rd, rd, stop, if_next, cut, read_name, with_code, all_kinds}
use Rattle.normal_walk.specs.Walk.{keep, name, canonical, reference, value as value_at, literal as literal_at}
use Rattle.normal_steps.specs.Parts.{part}
use Rattle.normal_steps.specs.Laws.Parts.{run_is, past_is}
use Rattle.grammar.specs.Laws.Places.{rest_some, rest_none, starts_inside}
use Rattle.normal_steps.specs.Laws.Tests.{next_here, next_not, first_zero, lt_or_le, same_byte}
use Rattle.normal_steps.specs.Answers.{RefAt, most_index, Value, ValueIs, LitIs, valid_by}
use Rattle.normal_steps.specs.Laws.Leads.{coded}
use Rattle.normal_steps.specs.declared.marks.Valued.{Valued}

-- ---------------------------------------------------------------- source names

-- the rules of an identifier, tested from the first byte on
pub name_rules : (n : Text) → 0 < length n → name_ok n ≡ (not (digit 10 (get_or n 0 0)) && (all word_byte n && not (listed n reserved)))
unfolding name_ok
name_rules [] h = absurd (omega arith)
name_rules (c ∷ n) h = refl

pub name_none : (n : Text) → length n ≡ 0 → name_ok n ≡ false
unfolding name_ok
name_none [] h = refl
name_none (c ∷ n) h = absurd (omega arith)

pub name_some : (n : Text) → name_ok n ≡ true → 0 < length n
unfolding name_ok
name_some [] h = absurd (false≢true h)
name_some (c ∷ n) h = omega arith

abbrev named : Rd Text → Rd Text
named (rd n r) = keep (name_ok n) (rd n r)
named stop = stop

named_none : (n : ℕ) → named (cut n []) ≡ stop
unfolding cut if◌then◌otherwise◌ name_ok
named_none zero = refl
named_none (suc n) = rw (lt-leb (suc n) 0 (omega arith)) refl

-- `from` is the place behind the digits
module _ (s : Text) (at from : ℕ) (e : from ≡ at + length (run (digit 10) (drop at s))) where
  abbrev size : ℕ
  size = number 10 0 (run (digit 10) (drop at s))

  cut_is : read_name (drop at s) ≡ cut size (drop from s)
  unfolding read_name
  cut_is = ap (cut size) (past_is (digit 10) s at from e)

  pub name_zero : starts (drop at s) (48 ∷ []) ≡ true → name (drop at s) ≡ stop
  unfolding name
  name_zero z = rw (first_zero 48 (drop at s), z) refl

  module _ (z : starts (drop at s) (48 ∷ []) ≡ false) where
    by_read : (o : Rd Text) → read_name (drop at s) ≡ o → name (drop at s) ≡ named o
    unfolding name
    by_read (rd n r) f = rw (first_zero 48 (drop at s), z, f) refl
    by_read stop f = rw (first_zero 48 (drop at s), z, f) refl

    name_is : name (drop at s) ≡ named (cut size (drop from s))
    name_is = by_read (cut size (drop from s)) cut_is

    -- the bytes end before the name does
    pub name_long : length s < from + size → name (drop at s) ≡ stop
    unfolding cut if◌then◌otherwise◌
    name_long l = ⊎_elim
        (λ (k : size < 1). name_is ∙ ap (λ (t : Text). named (cut size t)) (rest_none s from (omega arith)) ∙ named_none size)
        (λ (k : 1 ≤ size). name_is ∙ rw (lt-leb size (length (drop from s)) (omega (arith, length-drop from s))) refl)
        (lt_or_le size 1)

    pub name_by : (to : ℕ) → to ≡ from + size → to ≤ length s → name (drop at s) ≡ keep (name_ok (part s from to)) (rd (part s from to) (drop to s))
    unfolding cut if◌then◌otherwise◌
    name_by to t l =
        let n : size ≡ to - from = omega arith in
        let f : ℕ → Rd Text = λ k. keep (name_ok (take k (drop from s))) (rd (take k (drop from s)) (drop to s)) in
        name_is ∙ rw (le-leb size (length (drop from s)) (omega (arith, length-drop from s)), drop-drop size from s, ← t) (ap f n)

-- ---------------------------------------------------------------- references

pub no_entry : {A : Type 0} (vs : List A) (j : ℕ) → length vs ≤ j → get_elem? vs j ≡ none
no_entry [] zero h = refl
no_entry [] (suc j) h = refl
no_entry (x ∷ vs) zero h = absurd (omega arith)
no_entry (x ∷ vs) (suc j) h = no_entry vs j (omega arith)

pub index_none : (t : Text) → length t ≡ 0 → index 36 t ≡ 0
unfolding index
index_none [] e = refl
index_none (x ∷ t) e = absurd (omega arith)

pub index_some : (t : Text) → 0 < length t → index 36 t ≡ number 36 0 t + 1
unfolding index
index_some [] e = absurd (omega arith)
index_some (x ∷ t) e = refl

module _ (s : Text) (at end : ℕ) (e : end ≡ at + length (run (digit 36) (drop at s))) where
  abbrev told : Text → Rd ℕ
  told r = keep (canonical (part s at end)) (rd (index 36 (run (digit 36) (drop at s))) r)

  by_end : reference (drop at s) ≡ if_next 95 (drop end s) told stop
  unfolding reference
  by_end =
      ap (λ (t : Text). if_next 95 t (λ r. keep (canonical (run (digit 36) (drop at s))) (rd (index 36 (run (digit 36) (drop at s))) r)) stop) (past_is (digit 36) s at end e)
      ∙ ap (λ (d : Text). if_next 95 (drop end s) (λ r. keep (canonical d) (rd (index 36 (run (digit 36) (drop at s))) r)) stop) (run_is (digit 36) s at end e)

  pub ref_open : starts (drop end s) (95 ∷ []) ≡ false → reference (drop at s) ≡ stop
  ref_open h = by_end ∙ next_not 95 told stop (drop end s) h

  ref_by : starts (drop end s) (95 ∷ []) ≡ true → reference (drop at s) ≡ told (drop (end + 1) s)
  ref_by h = by_end ∙ next_here 95 told stop s end h

  module _ (h : starts (drop end s) (95 ∷ []) ≡ true) where
    pub ref_wrong : canonical (part s at end) ≡ false → reference (drop at s) ≡ stop
    ref_wrong p = ref_by h ∙ rw p refl

    pub ref_right : canonical (part s at end) ≡ true → (i : ℕ) → i ≡ min (index 36 (run (digit 36) (drop at s))) most_index → RefAt s at i (end + 1)
    ref_right p i m = record {
      index = index 36 (run (digit 36) (drop at s));
      is = ref_by h ∙ rw p refl;
      told = m;
      behind = omega arith;
      inside = omega (arith, starts_inside s end 95 h);
    }

-- the index that is told finds what the index finds
pub entry_told : {A : Type 0} (vs : List A) (j : ℕ) {n : ℕ} → length vs ≤ n → get_elem? vs (min j n) ≡ get_elem? vs j
entry_told vs j {n} h = ⊎_elim
    (λ (l : j < n). ap (get_elem? vs) {x = min j n} {y = j} (omega arith))
    (λ (l : n ≤ j). no_entry vs (min j n) (omega arith) ∙ sym (no_entry vs j (omega arith)))
    (lt_or_le j n)

-- ---------------------------------------------------------------- literals

module _ (s : Text) (kind : ℕ) (g : Bool) (from to : ℕ) (e : to ≡ from + length (run (digit 10) (drop from s))) where
  abbrev kept : Kind → Text → Rd Ty
  kept k r = keep (lit_ok k g (part s from to)) (rd (lit k g (part s from to)) r)

  by_kind : (k : Kind) → value_at (some k) g (drop from s) ≡ if_next 69 (drop to s) (kept k) stop
  by_kind k =
      ap (λ (t : Text). if_next 69 t (λ r. keep (lit_ok k g (run (digit 10) (drop from s))) (rd (lit k g (run (digit 10) (drop from s))) r)) stop) (past_is (digit 10) s from to e)
      ∙ ap (λ (d : Text). if_next 69 (drop to s) (λ r. keep (lit_ok k g d) (rd (lit k g d) r)) stop) (run_is (digit 10) s from to e)

  open_by : (o : Option Kind) → starts (drop to s) (69 ∷ []) ≡ false → value_at o g (drop from s) ≡ stop
  open_by none h = refl
  open_by (some k) h = by_kind k ∙ next_not 69 (kept k) stop (drop to s) h

  pub value_open : starts (drop to s) (69 ∷ []) ≡ false → value_at (with_code kind_code kind all_kinds) g (drop from s) ≡ stop
  value_open = open_by (with_code kind_code kind all_kinds)

  module _ (h : starts (drop to s) (69 ∷ []) ≡ true) where
    wrong_by : (o : Option Kind) → choose o (λ k. lit_ok k g (part s from to)) false ≡ false → value_at o g (drop from s) ≡ stop
    unfolding choose
    wrong_by none f = refl
    wrong_by (some k) f = by_kind k ∙ next_here 69 (kept k) stop s to h ∙ rw f refl

    pub value_wrong : valid_by kind g (part s from to) ≡ false → value_at (with_code kind_code kind all_kinds) g (drop from s) ≡ stop
    unfolding valid_by
    value_wrong = wrong_by (with_code kind_code kind all_kinds)

    right_by : (o : Option Kind) → with_code kind_code kind all_kinds ≡ o → choose o (λ k. lit_ok k g (part s from to)) false ≡ true
        → Value (value_at o g (drop from s)) s (to + 1) kind g from
    unfolding choose
    right_by none c f = absurd (false≢true f)
    right_by (some k) c f = record {
      of = k;
      byte = coded kind_code kind all_kinds k c;
      is = by_kind k ∙ next_here 69 (kept k) stop s to h ∙ rw f (ap (λ (j : ℕ). rd (lit k g (part s from j)) (drop (to + 1) s)) {x = to} {y = to + 1 - 1} (omega arith));
      some = omega arith;
      inside = omega (arith, starts_inside s to 69 h);
    }

    pub value_right : valid_by kind g (part s from to) ≡ true → Value (value_at (with_code kind_code kind all_kinds) g (drop from s)) s (to + 1) kind g from
    unfolding valid_by
    value_right = right_by (with_code kind_code kind all_kinds) refl

-- the values of the kinds, tested by the byte of the kind
pub valid_is : (c : ℕ) (g : Bool) (v : Text) → valid_by c g v
    ≡ ((eqb c 98 && (not g && (same v (48 ∷ []) || same v (49 ∷ []))))
    || (((eqb c 105 || eqb c 108) && (numeral v && not (g && same v (48 ∷ [])))) || ((eqb c 106 || eqb c 109) && (not g && numeral v))))
unfolding valid_by with_code choose if◌then◌otherwise◌ lit_ok b
valid_is c g v = grind (arith, nat_tests)

-- for a test of a value
pub ruleset values = (valid_is, same_byte, nat_tests)

-- behind the byte of the kind
module _ (s : Text) (at : ℕ) where
  pub literal_end : length s ≤ at → literal_at (drop at s) ≡ stop
  unfolding literal_at
  literal_end l = rw (rest_none s at l) refl

  module _ (l : at < length s) where
    abbrev of_kind : Bool → Text → Rd Ty
    of_kind g t = value_at (with_code kind_code (get_or s at 0) all_kinds) g t

    by_sign : literal_at (drop at s) ≡ if_next 110 (drop (at + 1) s) (of_kind true) (of_kind false (drop (at + 1) s))
    unfolding literal_at
    by_sign = rw (rest_some s at l) refl

    pub literal_minus : starts (drop (at + 1) s) (110 ∷ []) ≡ true → literal_at (drop at s) ≡ of_kind true (drop (at + 2) s)
    literal_minus h =
        by_sign
        ∙ next_here 110 (of_kind true) (of_kind false (drop (at + 1) s)) s (at + 1) h
        ∙ ap (λ (j : ℕ). of_kind true (drop j s)) {x = at + 1 + 1} {y = at + 2} (omega arith)

    pub literal_plain : starts (drop (at + 1) s) (110 ∷ []) ≡ false → literal_at (drop at s) ≡ of_kind false (drop (at + 1) s)
    literal_plain h = by_sign ∙ next_not 110 (of_kind true) (of_kind false (drop (at + 1) s)) (drop (at + 1) s) h

-- a value's answer is the literal's
pub from_value : (s : Text) (at kind : ℕ) (g : Bool) (from : ℕ) (r : Maybe Valued) → at < from
    → literal_at (drop at s) ≡ value_at (with_code kind_code kind all_kinds) g (drop from s) → ValueIs s kind g from r → LitIs s at r
from_value s at kind g from (Some x) l e v = (record { of = v.0.of; byte = v.0.byte; is = e ∙ v.0.is; some = v.0.some; inside = v.0.inside }, omega arith)
from_value s at kind g from None l e v = e ∙ v
