-- What the C functions promise: the same equations as the entries and the listing.
use Rattle.std.specs.Prelude.{◌≡◌, ℕ, Result}
use Rattle.std.proofs.Common.{sym, ap, ◌∙◌}
use Rattle.grammar.specs.Text.{Text}
use Rattle.grammar.specs.declared.refusal.Refusal.{Refusal}
use Rattle.answer.specs.Told.{Slices, slices, normal_slices, numbered, number_in, bytes_in}
use Rattle.entries.specs.Outcome.{Outcome}
use Rattle.entries.specs.Laws.Outcome.{no_zeros}
use Rattle.listing.specs.Listing.{Outcome as Listing, lists, listed, number_told, taken_told, written_told}
use Rattle.listing.specs.declared.listing.Kind.{Kind}
use Rattle.listing.specs.declared.listing.Listed.{Listed}

-- an outcome, its answer as document 01's number and value
pub record Returned : Type 0 where
  pub number : ℕ
  pub bytes : ℕ
  pub slices : Slices

abbrev pub in_numbers : Outcome → Returned
in_numbers o = record { number = number_in o.answer; bytes = bytes_in o.answer; slices = o.slices }

abbrev pub Returns : Outcome → Slices → ℕ → ℕ → Type 0
Returns o l' number bytes = ◌≡◌ {A = Returned} (record { number = number; bytes = bytes; slices = l' }) (in_numbers o)

-- the entry's answer, taken apart
pub told : {o : Outcome} {l l' : Slices} {number bytes : ℕ} (r : Result ℕ Refusal) → (number ≡ number_in (numbered r)) × (bytes ≡ bytes_in (numbered r)) → l' ≡ l
    → ◌≡◌ {A = Outcome} (record { answer = numbered r; slices = l }) o → Returns o l' number bytes
told r (e, f) g h = (λ i. record { number = e i; bytes = f i; slices = g i }) ∙ ap in_numbers h

abbrev pub Returns_listing : Listing → Text → Slices → ℕ → ℕ → ℕ → Type 0
Returns_listing o out work number taken written = ◌≡◌ {A = Listing} (record { number = number; taken = taken; written = written; out = out; work = work }) o

-- what was listed, taken apart
pub told_listing : {o : Listing} {out : Text} {l l' : Slices} {number taken written : ℕ} (r : Result Listed Refusal)
    → (number ≡ number_told r) × ((taken ≡ taken_told r) × (written ≡ written_told r)) → l' ≡ l → Returns_listing o out l (number_told r) (taken_told r) (written_told r)
    → Returns_listing o out l' number taken written
told_listing {out = out} r (e, (f, g)) k h = (λ i. record { number = e i; taken = f i; written = g i; out = out; work = k i }) ∙ h

-- the slices that are not lent for names have no numbers afterwards either
pub no_numbers : (kind : Kind) (input out name text store ends : Text) {out' name' text' store' ends' words tables chains : Text} {number taken written : ℕ}
    → Returns_listing (listed kind input out (slices name text store ends)) out' (normal_slices name' text' store' ends' words tables chains) number taken written
    → Returns_listing (listed kind input out (slices name text store ends)) out' (slices name' text' store' ends') number taken written
unfolding listed lists
no_numbers kind input out name text store ends {out' = out'} {name' = name'} {text' = text'} {store' = store'} {ends' = ends'} {number = number} {taken = taken} {written = written} h =
    let w = no_zeros ∙ sym (ap (λ (o : Listing). o.work.words) h) in
    let t = no_zeros ∙ sym (ap (λ (o : Listing). o.work.tables) h) in
    let c = no_zeros ∙ sym (ap (λ (o : Listing). o.work.chains) h) in
    (λ i. record { number = number; taken = taken; written = written; out = out'; work = normal_slices name' text' store' ends' (w i) (t i) (c i) }) ∙ h
