-- Laws of Entry.antt. Assumes nothing.
use Rattle.std.specs.Prelude.{Bool, true, false, ◌&&◌, ◌≡◌, ◌≤◌, ◌<◌, leb, length, Result, Err}
use Rattle.std.proofs.Math.Path.{refl, sym}
use Rattle.std.proofs.Common.{◌∙◌, le-leb, leb-true}
use borrow.Author.Tests.{lt-leb}
use Rattle.grammar.specs.Text.{Text, if◌then◌otherwise◌}
use Rattle.grammar.specs.declared.refusal.Refusal.{Refusal}
use Rattle.grammar.specs.declared.refusal.Refusal.TheVariants.{ShortWork}
use Rattle.store.specs.Stack.{zeros}
use Rattle.answer.specs.Told.{Slices, fit, numbers_fit, Cleared, NumbersCleared}
use Rattle.answer.specs.Laws.Told.{both_true, fit_long, fit_long_numbers}
use Rattle.listing.specs.Listing.{least_name, bytes_taken, listing, number_for, least_ends_of, least_numbers_of, sized, work_sized, lists, listed, Lists}
use Rattle.listing.specs.Kinds.{LongFor}
use Rattle.listing.specs.Lines.{GoesOn}
use Rattle.listing.specs.declared.listing.Kind.{Kind}
use Rattle.listing.specs.declared.listing.Listed.{Listed}
use Rattle.listing.specs.Entry.{Tried}

-- ---------------------------------------------------------------- the lengths

-- by a test of each
module _ (kind : Kind) (l : Slices) where
  pub short_name : length l.out < least_name → false ≡ work_sized kind l
  unfolding work_sized sized
  short_name h = rw (lt-leb least_name (length l.out) h)

  module _ (h : least_name ≤ length l.out) where
    pub short_work : fit (least_ends_of kind) l ≡ false → false ≡ work_sized kind l
    unfolding work_sized sized
    short_work e = rw (le-leb least_name (length l.out) h, e)

    pub long_work : fit (least_ends_of kind) l ≡ true → {q : Bool} → q ≡ numbers_fit (least_numbers_of kind) l → q ≡ work_sized kind l
    unfolding work_sized sized
    long_work e f = rw (le-leb least_name (length l.out) h, e) f

-- by the test of all
module _ (kind : Kind) (work : Slices) {q : Bool} (e : q ≡ work_sized kind work) where
  pub least_lengths : q ≡ true → LongFor kind work
  unfolding work_sized sized
  least_lengths f =
      let reading = fit (least_ends_of kind) work in
      let numbers = numbers_fit (least_numbers_of kind) work in
      let (x, i) = both_true (leb least_name (length work.out)) (reading && numbers) (sym e ∙ f) in
      let (y, z) = both_true reading numbers i in
      record {
        name = leb-true least_name (length work.out) x;
        work = fit_long (least_ends_of kind) work y;
        numbers = fit_long_numbers (least_numbers_of kind) work z;
      }

  pub goes_none : (input out : Text) → q ≡ false → Tried kind input out out work (Err ShortWork)
  unfolding number_for bytes_taken listing if◌then◌otherwise◌
  goes_none input out f = rw (sym e ∙ f) (record { told = refl; taken = refl; written = refl; is = refl })

  pub goes_some : (input : Text) {out out' : Text} {r : Result Listed Refusal} → q ≡ true → GoesOn kind input out out' r
      → Tried kind input out out' work r
  unfolding if◌then◌otherwise◌
  goes_some input f g = rw (sym e ∙ f) g

-- ---------------------------------------------------------------- the outcome

-- the lines were taken, and the work slices cleared
pub goes_lists : (kind : Kind) (input : Text) {out out' : Text} (work work' : Slices) {r : Result Listed Refusal} → Tried kind input out out' work r
    → work'.out ≡ zeros (length work.out) → Cleared work work' → NumbersCleared work work' → Lists kind input out out' work work' r
unfolding listed lists
goes_lists kind input work work' g e c d = λ i. record {
  number = g.told i;
  taken = g.taken i;
  written = g.written i;
  out = g.is i;
  work = record {
    out = e i;
    text = c.text i;
    store = c.store i;
    ends = c.ends i;
    words = d.words i;
    tables = d.tables i;
    chains = d.chains i;
  };
}
