-- Demand 3 of what the two entries write. A run is given by the entry's contract alone, with slices of any lengths and contents.
-- Assumes nothing.
use Rattle.std.specs.Prelude.{◌↔◌, true, ◌≡◌, ℕ, ◌≤◌, length, take, Result}
use Rattle.std.proofs.Math.Option.{some}
use Rattle.std.proofs.Common.{sym, ap, subst, ◌∙◌}
use Rattle.grammar.specs.Text.{Text}
use Rattle.grammar.specs.Limits.{most_symbol_bytes}
use Rattle.grammar.specs.Names.{named, demangle, work_fits}
use Rattle.catalogue.specs.Class.{Catalogue}
use Rattle.catalogue.specs.Normal.{normal_of}
use Rattle.catalogue.specs.Answer.{normal_work_fits}
use Rattle.normal_walk.proofs.Laws.SymbolComplete.{walk_complete}
use Rattle.normal_walk.proofs.Laws.Equal.{walk_is, walk_normal}
use Rattle.agreement.specs.Laws.NormalNames.{demand_3_first, demand_3_second}
use Rattle.grammar.specs.declared.refusal.Refusal.{Refusal}
use Rattle.answer.specs.Told.{Slices, lent, numbered, number_in, bytes_in}
use Rattle.entries.specs.Outcome.{Demangles, Normalizes}
use Rattle.entries.specs.Laws.Runs.{Has_normal, name_written, writes_name, normal_written, writes_normal}

-- ---- runs

-- a run answered 0, and the text stands in front of its output slice
pub record Wrote (x : Text) (after : Slices) (r : Result ℕ Refusal) : Type 0 where
  pub number : number_in (numbered r) ≡ 0
  pub text : take (bytes_in (numbered r)) after.out ≡ x

-- a run of the entry for names answered 0 for the symbol s, and wrote x
pub record Named (s x : Text) : Type 0 where
  pub before : Slices
  pub after : Slices
  pub answer : Result ℕ Refusal
  pub runs : Demangles s before after answer
  pub wrote : Wrote x after answer

-- a run of the entry for normal symbols answered 0 for the symbol s, and wrote x
pub record Normalized (s x : Text) : Type 0 where
  pub before : Slices
  pub after : Slices
  pub answer : Result ℕ Refusal
  pub runs : Normalizes s before after answer
  pub wrote : Wrote x after answer

-- every run of the entry for names with slices that are long enough answers 0 for the symbol s, and writes x
abbrev pub Always_named : Text → Text → Type 0
Always_named s x = (before after : Slices) (r : Result ℕ Refusal) → work_fits (lent before) ≡ true → length x ≤ length before.out → Demangles s before after r → Wrote x after r

-- the same of the entry for normal symbols
abbrev pub Always_normalized : Text → Text → Type 0
Always_normalized s x =
    (before after : Slices) (r : Result ℕ Refusal) → normal_work_fits most_symbol_bytes (lent before) ≡ true → length x ≤ length before.out → Normalizes s before after r → Wrote x after r

-- ---- what they tell of the definitions

name_of : {s x : Text} → Named s x → demangle most_symbol_bytes s ≡ named x
name_of {s} h = name_written s h.before h.after h.answer h.runs h.wrote.number ∙ ap named h.wrote.text

normal_of_is : {s v : Text} → Normalized s v → Has_normal s v
normal_of_is {s} h = rw h.wrote.text at (normal_written s h.before h.after h.answer h.runs h.wrote.number)

class_of : {s v : Text} → Has_normal s v → (c : Catalogue s) × (normal_of c ≡ v)
class_of {s} {v} h = walk_normal s v (walk_is s ∙ h.is)

-- ---- demand 3

-- "Over the "catalogue" class, normal symbols are equal exactly when printed names are, and a normal symbol is accepted, prints the same
-- name and is its own normal symbol. Proved of the definitions and of what the entries write."

-- v is an accepted catalogue symbol of the name x and its own normal symbol, by the definitions and in every run of the entries
pub record Normal_named (v x : Text) : Type 0 where
  pub is : Catalogue v
  pub accepted : demangle most_symbol_bytes v ≡ named x
  pub own : (c : Catalogue v) → normal_of c ≡ v
  pub names : Always_named v x
  pub normals : Always_normalized v v

-- The first half, of any two symbols for which both entries answered 0.
pub equal_normals_equal_names : {s t x y v w : Text} → Named s x → Named t y → Normalized s v → Normalized t w → (v ≡ w) ↔ (x ≡ y)
equal_normals_equal_names {x = x} {y = y} h k i j =
    let (c, e) = class_of (normal_of_is i) in
    let (d, f) = class_of (normal_of_is j) in
    let n = demand_3_first c d x y (name_of h) (name_of k) in
    ((λ z. n.0 (e ∙ z ∙ sym f)), (λ z. sym e ∙ n.1 z ∙ f))

module _ {s x v : Text} (h : Named s x) (k : Normalized s v) where
  normal_name : demangle most_symbol_bytes v ≡ named x
  normal_name =
      let (c, e) = class_of (normal_of_is k) in
      rw e at (demand_3_second c x (name_of h) (rw e (normal_of_is k).short)).1

  normal_normal : Has_normal v v
  normal_normal =
      let (c, e) = class_of (normal_of_is k) in
      let (d, i, f) = demand_3_second c x (name_of h) (rw e (normal_of_is k).short) in
      record {
        name = x;
        accepted = normal_name;
        is = rw e at (sym (walk_is (normal_of c)) ∙ walk_complete d ∙ ap some (f d));
        short = (normal_of_is k).short;
      }

  -- The second half, of what was written for a symbol for which both entries answered 0: "a normal symbol is accepted, prints the same
  -- name and is its own normal symbol".
  pub normal_is_normal : Normal_named v x
  normal_is_normal =
      let (c, e) = class_of (normal_of_is k) in
      let (d, i, f) = demand_3_second c x (name_of h) (rw e (normal_of_is k).short) in
      record {
        is = rw e at d;
        accepted = normal_name;
        own = subst (λ (w : Text). (a : Catalogue w) → normal_of a ≡ w) e f;
        names = λ l l' r f g i. let (a, b) = writes_name v l l' r i x normal_name f g in record { number = a; text = b };
        normals = λ l l' r f g i. let (a, b) = writes_normal v l l' r i v normal_normal f g in record { number = a; text = b };
      }
