-- Laws of the answers of an encoding. Assumes nothing.
use Rattle.std.proofs.Math.Bool.{Bool}
use Rattle.std.specs.Prelude.{true, false, ◌≡◌, refl, ℕ, ◌≤◌, ◌<◌, min, leb, length}
use Rattle.std.proofs.Common.{sym, ap, arith, le-leb, leb-true, leb-false}
use Rattle.std.proofs.Math.Path.{subst}
use Rattle.std.proofs.lemmas.Bool.{lt-leb}
use Rattle.grammar.specs.Text.{Text, if◌then◌otherwise◌}
use Rattle.grammar.specs.Limits.{most_text_bytes, most_length}
use Rattle.grammar.specs.Reader.{State, Result, ok, refused, Reader, onto, give}
use Rattle.store.specs.Laws.Tails.{weaken}
use Rattle.grammar.specs.States.{Progress, Read, read, Refused}
use Rattle.parser.specs.Holds.{Memory, Refines, reads, given_of}
use Rattle.parser.specs.Holds as holds
use Rattle.encoding.specs.Encodings.{Prints, Encodes, encodes, refuses}
use Rattle.grammar.specs.Refusals.{refusal_number}
use Rattle.grammar.specs.declared.refusal.Refusal.{Refusal}
use Rattle.grammar.specs.declared.refusal.Refusal.TheVariants.{LongText}

module _ {k : ℕ} {s base : Text} {m : Memory} where
  pub encodes_by : {r : Read} {f g : Result Text} → f ≡ g → Encodes k s base m r g → Encodes k s base m r f
  encodes_by {r} e h = subst (λ (x : Result Text). Encodes k s base m r x) (sym e) h

  pub encodes_refines : {j d from : ℕ} {r : Read} {f : Result Text} → k ≤ j → Refines j d s base from m r f → Encodes k s base m r f
  encodes_refines l (reads w) = encodes (record {
    place = w.holds.place;
    rest = w.holds.rest;
    text = w.holds.text;
    tail = weaken l w.tail;
    size = w.size;
    short = w.short;
  })
  encodes_refines l holds.refuses = refuses

  -- an answer without a text is the whole answer
  pub encodes_refused : {j d : ℕ} {s' base' : Text} {from : ℕ} {m' : Memory} {r : Read} {f : Result Text} {i : Refusal} (g : Text → Reader Text) → r ≡ Refused i →
      Refines j d s' base' from m' r f → Encodes k s base m r (onto g f)
  unfolding onto
  encodes_refused {j} {d} {s'} {base'} {from} {m'} {r} {f} {i} g e h =
      subst (λ (x : Read). Encodes k s base m x (onto g f)) (sym e) (told (subst (λ (x : Read). Refines j d s' base' from m' x f) e h))
    where
      told : {f : Result Text} → Refines j d s' base' from m' (Refused i) f → Encodes k s base m (Refused i) (onto g f)
      told holds.refuses = refuses

  pub encodes_given : {p : Progress} {n : ℕ} {t : Text} {σ : State} {v : Read} → v ≡ given_of p n → n ≡ min (length t) most_length →
      (length t ≤ most_text_bytes → Prints k s base m p n t σ) → Encodes k s base m v (give t σ)
  unfolding given_of give if◌then◌otherwise◌
  encodes_given {p} {n} {t} {σ} {v} e z h = subst (λ (x : Read). Encodes k s base m x (give t σ)) (sym e) (go (leb n most_text_bytes) refl)
    where
      given : Bool → Read
      given q = if q then read p n otherwise Refused LongText

      told : Bool → State → Result Text
      told q = if q then (λ u. ok t u) otherwise (λ u. refused 11)

      go : (q : Bool) → leb n most_text_bytes ≡ q → Encodes k s base m (given q) (told (leb (length t) most_text_bytes) σ)
      go true f =
          let l : length t ≤ most_text_bytes = omega (arith, leb-true n most_text_bytes f) in
          encodes_by (ap (λ (q : Bool). told q σ) (le-leb (length t) most_text_bytes l)) (encodes (h l))
      go false f =
          let l : most_text_bytes < length t = omega (arith, leb-false n most_text_bytes f) in
          encodes_by (ap (λ (q : Bool). told q σ) (lt-leb (length t) most_text_bytes l)) refuses

module _ {k : ℕ} {s base : Text} {m : Memory} where
  pub refusal : {j : Refusal} {f : Result Text} → Encodes k s base m (Refused j) f → f ≡ refused (refusal_number j)
  refusal refuses = refl

-- what an answer with a text says
pub record Answered (k : ℕ) (s base : Text) (m : Memory) (p : Progress) (n : ℕ) (f : Result Text) : Type 0 where
  pub said : Text
  pub state : State
  pub prints : Prints k s base m p n said state
  pub is : f ≡ ok said state

pub answered : {k : ℕ} {s base : Text} {m : Memory} {p : Progress} {n : ℕ} {f : Result Text} → Encodes k s base m (read p n) f → Answered k s base m p n f
answered (encodes {t = t} {σ = σ} w) = record { said = t; state = σ; prints = w; is = refl }
