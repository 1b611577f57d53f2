-- Laws of Kinds.antt. Assumes nothing.
use Rattle.std.specs.Prelude.{Bool, true, false, ◌≡◌, refl, ◌≤◌, ◌<◌, leb, length, ℕ, Result}
use Rattle.std.proofs.Math.Option.{Option, none, some}
use Rattle.std.proofs.Common.{sym, ◌∙◌, arith, lt-ltb, leb-true}
use Rattle.std.proofs.Math.Path.{ap, subst}
use Rattle.grammar.specs.Text.{Text, if◌then◌otherwise◌}
use Rattle.grammar.specs.Limits.{most_symbol_bytes, most_text_bytes}
use Rattle.grammar.specs.Names.{Answer, named, refusal, mangled_name, front, demangle, work_fits, within, answer, length_of}
use Rattle.catalogue.specs.Recogniser.{classify}
use Rattle.catalogue.specs.Answer.{normal_in, normal_told, normal_after, normal_symbol, normal_work_fits, normal_answer}
use Rattle.demangle.specs.Laws.Lengths.{short_answer, within_is, answer_is}
use Rattle.grammar.specs.declared.refusal.Refusal.{Refusal}
use Rattle.answer.specs.Told.{Slices, slices, lent, numbered, bytes_in, Tells}
use Rattle.answer.specs.Laws.Told.{tells_bytes, tells_as, long_fit, long_numbers_fit}
use Rattle.normalize.specs.Laws.Fronts.{normal_behind}
use Rattle.listing.specs.Listing.{answer_of}
use Rattle.listing.specs.declared.listing.Kind.{Kind}
use Rattle.listing.specs.declared.listing.Kind.TheVariants.{Names, Symbols}
use Rattle.listing.specs.Kinds.{LongFor}

-- ---------------------------------------------------------------- a normal symbol

told_short : (w : Option Text) → length_of (normal_told most_symbol_bytes w) ≤ most_symbol_bytes
unfolding normal_told length_of if◌then◌otherwise◌
told_short none = omega arith
told_short (some t) = go (leb (length t) most_symbol_bytes) refl where
  go : (q : Bool) → leb (length t) most_symbol_bytes ≡ q → length_of (if q then named t otherwise refusal 13) ≤ most_symbol_bytes
  go true e = leb-true (length t) most_symbol_bytes e
  go false e = omega arith

after_short : (s : Text) (a : Answer) → length_of (normal_after most_symbol_bytes s a) ≤ most_symbol_bytes
unfolding normal_after length_of
after_short s (named x) = told_short (normal_in (classify s))
after_short s (refusal r) = omega arith

normal_is : (l : Slices) (s : Text) → most_text_bytes ≤ length l.out → normal_work_fits most_symbol_bytes (lent l) ≡ true
    → normal_answer most_symbol_bytes (lent l) s ≡ normal_symbol most_symbol_bytes s
unfolding normal_answer normal_symbol demangle if◌then◌otherwise◌
normal_is l s h k = ap (front most_symbol_bytes s) (λ i u. step u i) ∙ normal_behind s where
  step : (u : Text) → (if normal_work_fits most_symbol_bytes (lent l) then within (length l.out) (normal_after most_symbol_bytes s (mangled_name u)) otherwise refusal 14)
      ≡ normal_after most_symbol_bytes s (mangled_name u)
  step u =
      let a = normal_after most_symbol_bytes s (mangled_name u) in
      ap (λ (q : Bool). if q then within (length l.out) a otherwise refusal 14) k
      ∙ within_is (length l.out) a (omega (arith, after_short s (mangled_name u)))

-- ---------------------------------------------------------------- by what is listed

pub short_answer_of : (kind : Kind) (s : Text) → length_of (answer_of kind s) ≤ most_text_bytes
unfolding answer_of normal_symbol
short_answer_of Names s = short_answer s
short_answer_of Symbols s = omega (arith, after_short s (demangle most_symbol_bytes s))

pub short_told : (kind : Kind) (s : Text) {out out' : Text} {r : Result ℕ Refusal} → Tells (answer_of kind s) out out' r → bytes_in (numbered r) ≤ most_text_bytes
short_told kind s h = omega (arith, tells_bytes h, short_answer_of kind s)

too_long_for_name : (s : Text) → most_symbol_bytes < length s → demangle most_symbol_bytes s ≡ refusal 1
unfolding demangle front if◌then◌otherwise◌
too_long_for_name s h = rw (lt-ltb most_symbol_bytes (length s) h)

pub too_long : (kind : Kind) (s : Text) → most_symbol_bytes < length s → answer_of kind s ≡ refusal 1
unfolding answer_of normal_symbol normal_after
too_long Names s h = too_long_for_name s h
too_long Symbols s h = ap (normal_after most_symbol_bytes s) (too_long_for_name s h)

-- either entry tells the answer
module _ {kind : Kind} {l : Slices} {out : Text} {r : Result ℕ Refusal} (s : Text) (h : LongFor kind l) where
  -- the entry for names is lent no more than these
  pub name_told : kind ≡ Names → Tells (answer most_symbol_bytes (lent (slices l.out l.text l.store l.ends)) s) l.out out r → Tells (answer_of kind s) l.out out r
  unfolding answer_of work_fits
  name_told e d =
      let i : LongFor Names l = subst (λ (k : Kind). LongFor k l) e h in
      let w : Slices = slices l.out l.text l.store l.ends in
      let f = long_fit {l = w} (record { text = i.work.text; store = i.work.store; ends = i.work.ends }) in
      tells_as (answer_is w s i.name f ∙ ap (λ (k : Kind). answer_of k s) (sym e)) d

  pub symbol_told : kind ≡ Symbols → Tells (normal_answer most_symbol_bytes (lent l) s) l.out out r → Tells (answer_of kind s) l.out out r
  unfolding answer_of normal_work_fits
  symbol_told e d =
      let i : LongFor Symbols l = subst (λ (k : Kind). LongFor k l) e h in
      tells_as (normal_is l s i.name (rw (long_fit i.work, long_numbers_fit i.numbers)) ∙ ap (λ (k : Kind). answer_of k s) (sym e)) d
