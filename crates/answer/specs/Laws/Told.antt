-- Laws of Told.antt. Assumes nothing.
use Rattle.std.specs.Prelude.{Bool, true, false, ◌&&◌, ◌++◌, ◌≡◌, refl, ℕ, leb, length, drop, Result, Ok, Err}
use Rattle.std.proofs.Common.{true≢false, ◌∙◌, subst, le-leb, leb-true}
use Rattle.std.proofs.Math.Path.{sym, ap}
use Rattle.grammar.specs.Text.{Text}
use Rattle.grammar.specs.Limits.{least_text, least_store}
use Rattle.grammar.specs.Names.{Answer, named, refusal, number_of, length_of, written}
use Rattle.grammar.specs.Refusals.{refusal_number}
use Rattle.grammar.specs.declared.refusal.Refusal.{Refusal}
use Rattle.answer.specs.Told.{Slices, told, numbered, number_in, bytes_in, Tells, Long, fit, LongNumbers, numbers_fit}

-- the number and the length of what is told
pub number_told : (a : Answer) → number_in (told a) ≡ number_of a
unfolding told number_of
number_told (named t) = refl
number_told (refusal r) = refl

pub bytes_told : (a : Answer) → bytes_in (told a) ≡ length_of a
unfolding told length_of
bytes_told (named t) = refl
bytes_told (refusal r) = refl

module _ {a : Answer} {out : Text} where
  pub tells_refusal : {r : Refusal} → a ≡ refusal (refusal_number r) → Tells a out out (Err r)
  unfolding told written
  tells_refusal e = record { answer = sym (ap told e); out = sym (ap (λ (x : Answer). written x out) e) }

  pub tells_name : {t out' : Text} {n : ℕ} → a ≡ named t → n ≡ length t → out' ≡ t ++ drop (length t) out → Tells a out out' (Ok n)
  unfolding told written
  tells_name e f g = record { answer = ap Ok f ∙ sym (ap told e); out = g ∙ sym (ap (λ (x : Answer). written x out) e) }

module _ {a : Answer} {before after : Text} {r : Result ℕ Refusal} (h : Tells a before after r) where
  pub tells_number : number_in (numbered r) ≡ number_of a
  tells_number = ap number_in h.answer ∙ number_told a

  pub tells_bytes : bytes_in (numbered r) ≡ length_of a
  tells_bytes = ap bytes_in h.answer ∙ bytes_told a

pub tells_as : {a c : Answer} {before after : Text} {r : Result ℕ Refusal} → a ≡ c → Tells a before after r → Tells c before after r
tells_as {before = before} {after = after} {r = r} e h = subst (λ (x : Answer). Tells x before after r) e h

pub both_true : (p q : Bool) → p && q ≡ true → (p ≡ true) × (q ≡ true)
both_true true q e = (refl, e)
both_true false q e = absurd (true≢false (sym e))

-- ---- the lengths of the work slices

pub fit_long : (least : ℕ) (l : Slices) → fit least l ≡ true → Long least l
fit_long least l h =
    let text = leb least_text (length l.text) in
    let store = leb least_store (length l.store) in
    let (i, k) = both_true (text && store) (leb least (length l.ends)) h in
    let (x, y) = both_true text store i in
    record { text = leb-true least_text (length l.text) x; store = leb-true least_store (length l.store) y; ends = leb-true least (length l.ends) k }

pub long_fit : {least : ℕ} {l : Slices} → Long least l → fit least l ≡ true
long_fit {least} {l} h =
    rw (le-leb least_text (length l.text) h.text, le-leb least_store (length l.store) h.store, le-leb least (length l.ends) h.ends)

pub fit_long_numbers : (least : ℕ) (l : Slices) → numbers_fit least l ≡ true → LongNumbers least l
fit_long_numbers least l h =
    let words = leb least (length l.words) in
    let tables = leb least (length l.tables) in
    let (i, k) = both_true (words && tables) (leb least (length l.chains)) h in
    let (x, y) = both_true words tables i in
    record { words = leb-true least (length l.words) x; tables = leb-true least (length l.tables) y; chains = leb-true least (length l.chains) k }

pub long_numbers_fit : {least : ℕ} {l : Slices} → LongNumbers least l → numbers_fit least l ≡ true
long_numbers_fit {least} {l} h =
    rw (le-leb least (length l.words) h.words, le-leb least (length l.tables) h.tables, le-leb least (length l.chains) h.chains)
