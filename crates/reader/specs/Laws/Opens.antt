-- Laws of readings that go one level down, and of answers that go on with another text. Assumes nothing.
use Rattle.std.specs.Prelude.{◌≡◌, ℕ, ◌+◌, ◌<◌, ◌≤◌, Bool, true, false, [], ◌∷◌, ◌++◌, length, take, drop}
use Rattle.std.proofs.Math.Path.{refl, ap, subst}
use Rattle.std.proofs.Common.{sym, ◌∙◌, arith}
use Prim.Native.String.{String}
use Rattle.grammar.specs.Text.{Text, b, holds, if◌then◌otherwise◌}
use Rattle.grammar.specs.Limits.{most_open, most_text_bytes}
use Rattle.grammar.specs.Tables.{◌⇒◌}
use Rattle.grammar.specs.Reader.{State, Result, ok, Reader, onto, return, at_code, entered, recorded}
use Rattle.grammar.specs.Grammar.{Production, reading, ⟨type⟩, ⟨name⟩, ⟨substitution⟩, std_ahead, slot, at_slots}
use Rattle.grammar.specs.Grammar as g
use Rattle.grammar.specs.Laws.Fuel.{reading_is}
use Rattle.grammar.specs.Laws.Steps.{entered_in, entered_8}
use Rattle.grammar.specs.Laws.Agree.{moved}
use Rattle.store.specs.Laws.Tails.{newest_is, top_size}
use Rattle.grammar.specs.States.{Progress, Read, read, Refused, moved_to, deeper, at_depth, entered as entered_from}
use Rattle.grammar.specs.Laws.States.{stayed_out}
use Rattle.parser.specs.Holds.{Memory, window, Holds, Wrote, Refines, refuses, Reads, keep}
use Rattle.reader.specs.Laws.Standing.{wrote_kept}
use Rattle.parser.specs.Laws.Holds.{at_level, holds_moved, holds_entered, holds_depth, by, answers, Got, got, refused_on}
use Rattle.grammar.specs.declared.refusal.Refusal.{Refusal}

-- ---------------------------------------------------------------- one level down

abbrev leaving : ℕ → Text → Reader Text
leaving d t u = ok t (at_level d u)

module _ (k : Production) (f : Reader Text) (opens : (σ : State) → g.production reading k σ ≡ entered f σ) {s : Text} {m : Memory} {p : Progress} where
  is_in : {σ : State} → Holds s m p σ → p.depth < most_open → reading k σ ≡ onto (leaving p.depth) (f (at_level (σ.depth + 1) σ))
  is_in {σ} h l =
      reading_is k σ
      ∙ opens σ
      ∙ entered_in f σ (omega (arith, h.depth))
      ∙ ap (λ (d : ℕ). onto (leaving d) (f (at_level (σ.depth + 1) σ))) h.depth

  pub too_deep : {m' : Memory} {r : Read} {j : Refusal} → r ≡ entered_from p → r ≡ Refused j → Reads (reading k) (keep (p.depth + 1)) (p.at + 1) s m m' p r
  too_deep {m'} {r} e i =
      let o = stayed_out p e i in
      subst (λ (x : Read). Reads (reading k) (keep (p.depth + 1)) (p.at + 1) s m m' p x) (sym o.1)
      (λ σ h. by (reading_is k σ ∙ opens σ ∙ entered_8 f σ (omega (arith, h.depth, o.0))) refuses)

  module _ {m' : Memory} {q : Progress} {r : Read} (l : p.depth < most_open) (e : q ≡ deeper p) (h : Reads f (keep q.depth) (q.at + 1) s m m' q r) where
    inner : Reads f (keep (p.depth + 1)) (p.at + 1) s m m' (deeper p) r
    inner = subst (λ (x : Progress). Reads f (keep x.depth) (x.at + 1) s m m' x r) e h

    pub still_refused : {j : Refusal} → r ≡ Refused j → Reads (reading k) (keep (p.depth + 1)) (p.at + 1) s m m' p r
    still_refused i σ v = by (is_in v l) (refused_on (leaving p.depth) i (inner _ (holds_entered v l)))

    pub left_again : {x y : Progress} {n : ℕ} → r ≡ read x n → y ≡ at_depth x p.depth → Reads (reading k) (keep (p.depth + 1)) (p.at + 1) s m m' p (read y n)
    unfolding onto
    left_again {x} {y} {n} i z σ v =
        let w = got i (inner _ (holds_entered v l)) in
        let u = w.wrote in
        subst (λ (o : Progress). Refines (keep (p.depth + 1)) p.depth s (window m p) (p.at + 1) m' (read o n) (reading k σ)) (sym z)
        (answers (is_in v l ∙ ap (onto (leaving p.depth)) w.is) (wrote_kept u (omega arith) (holds_depth u.holds p.depth v.deep) refl refl u.more))

pub type_opens : (σ : State) → g.production reading ⟨type⟩ σ ≡ entered (g.type_inner reading) σ
unfolding g.production g.type
type_opens σ = refl

pub name_opens : (σ : State) → g.production reading ⟨name⟩ σ ≡ entered (g.name_inner reading) σ
unfolding g.production g.name
name_opens σ = refl

-- ---------------------------------------------------------------- a text, and what goes on with it

module _ {k d : ℕ} {s base : Text} {from : ℕ} {m : Memory} {p : Progress} {n : ℕ} where
  pub on_got : {f : Result Text} (c : Text → Reader Text) (w : Got k d s base from m p n f) → onto c f ≡ c w.said w.state
  unfolding onto
  on_got c w = ap (onto c) w.is

  pub wrote_fits : {t : Text} {σ : State} → Wrote k d s base from m p n t σ → most_text_bytes ≤ k → (n ≤ p.top) × (n ≤ most_text_bytes)
  wrote_fits {t} w l =
      let z : length (take p.top m.text) ≡ p.top = top_size w.holds.text in
      let i = newest_is base t w.tail (omega (arith, w.short)) in
      (omega (arith, i.0, w.size), omega (arith, w.size, w.short))

-- ---------------------------------------------------------------- types

pub wrapped_is : (u : String × String) (σ : State) → g.wrapped reading u σ ≡ onto (λ t. recorded (if holds slot t then at_slots (b u.1) t otherwise t ++ b u.0)) (reading ⟨type⟩ σ)
unfolding g.wrapped
wrapped_is u σ = refl

-- the text of a member type, and its class's
abbrev pub pointed : Text → Text → Text
pointed c m = if holds slot m then at_slots (c ++ b "::*") m otherwise m ++ b " " ++ c ++ b "::*"

pub member_is : (σ : State) → g.pointer_to_member_type reading σ ≡ onto (λ c τ. onto (λ m. recorded (pointed c m)) (reading ⟨type⟩ τ)) (reading ⟨type⟩ σ)
unfolding g.pointer_to_member_type
member_is σ = refl

-- ---------------------------------------------------------------- names and types at S

-- what an entry goes on with: its arguments, by f
abbrev referred : (Text → Reader Text) → Text → Reader Text
referred f x = at_code ("I" ⇒ f x ∷ []) (return x)

abbrev pub at_S : (Text → Reader Text) → Bool → Reader Text
at_S f q = if q then g.std_name reading otherwise (λ u. onto (referred f) (reading ⟨substitution⟩ u))

pub s_name_is : (σ : State) → g.s_name reading σ ≡ at_S (g.name_instance reading) (std_ahead σ.rest) σ
unfolding g.s_name onto
s_name_is σ = refl

pub s_type_is : (σ : State) → g.s_type reading σ ≡ at_S (g.type_instance reading) (std_ahead σ.rest) σ
unfolding g.s_type onto
s_type_is σ = refl

module _ (r : Reader Text) (f : Text → Reader Text) (is : (σ : State) → r σ ≡ at_S f (std_ahead σ.rest) σ) (σ : State) where
  pub s_std : std_ahead σ.rest ≡ true → r σ ≡ g.std_name reading σ
  unfolding if◌then◌otherwise◌
  s_std e = is σ ∙ ap (λ (q : Bool). at_S f q σ) e

  pub s_sub : std_ahead σ.rest ≡ false → r σ ≡ onto (referred f) (reading ⟨substitution⟩ σ)
  unfolding if◌then◌otherwise◌
  s_sub e = is σ ∙ ap (λ (q : Bool). at_S f q σ) e

  pub s_sub_read : {x : Text} {τ : State} → std_ahead σ.rest ≡ false → reading ⟨substitution⟩ σ ≡ ok x τ → r σ ≡ referred f x τ
  unfolding onto
  s_sub_read e h = s_sub e ∙ ap (onto (referred f)) h

-- ---------------------------------------------------------------- calls from a state that was moved

pub call_moved :
    {f : Reader Text} (k : ℕ → ℕ) {at : ℕ} {s : Text} {m m' : Memory} {p q : Progress} {r : Read} {σ : State} →
    q ≡ moved_to p at → Reads f (k q.depth) (q.at + 1) s m m' q r → Holds s m p σ → at ≤ length s →
    Refines (k p.depth) p.depth s (window m p) (at + 1) m' r (f (moved (drop at s) σ))
call_moved {f} k {at} {s} {m} {m'} {p} {q} {r} {σ} e h g l =
    subst (λ (x : Progress). Reads f (k x.depth) (x.at + 1) s m m' x r) e h (moved (drop at s) σ) (holds_moved g at l)
