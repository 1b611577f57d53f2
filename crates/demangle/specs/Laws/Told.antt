-- Laws of the answer by what is told before the reading. Assumes nothing.
use Rattle.std.specs.Prelude.{true, false, ◌≡◌, ℕ, length, drop, Result, Ok, Err}
use Rattle.std.proofs.Common.{sym, ◌∙◌}
use Rattle.grammar.specs.Text.{Text, if◌then◌otherwise◌}
use Rattle.grammar.specs.Limits.{most_symbol_bytes, least_ends}
use Rattle.grammar.specs.Names.{front, answer, work_fits, within, mangled_name}
use Rattle.grammar.specs.Names as n
use Rattle.grammar.specs.declared.refusal.Refusal.{Refusal}
use Rattle.grammar.specs.declared.refusal.Refusal.TheVariants.{ShortWork}
use Rattle.answer.specs.Told.{Slices, lent, fit, Tells}
use Rattle.answer.specs.Laws.Told.{tells_refusal, tells_as}
use Rattle.demangle.specs.Symbols.{Fronts}

-- ---- by the front

module _ {s : Text} where
  -- whatever is read behind the front
  pub front_tells : {e : Refusal} (h : Fronts s (Err e)) (g : Text → n.Answer) (out : Text) → Tells (front most_symbol_bytes s g) out out (Err e)
  front_tells h g out = tells_refusal (h.is g)

  pub front_refuses : {e : Refusal} (h : Fronts s (Err e)) (l : Slices) → Tells (answer most_symbol_bytes (lent l) s) l.out l.out (Err e)
  unfolding answer
  front_refuses h l = front_tells h _ l.out

  module _ {k : ℕ} (h : Fronts s (Ok k)) (l : Slices) where
    pub front_short : fit least_ends l ≡ false → Tells (answer most_symbol_bytes (lent l) s) l.out l.out (Err ShortWork)
    unfolding answer work_fits if◌then◌otherwise◌
    front_short g = tells_refusal (h.is _ ∙ rw g)

    pub front_reads : {out : Text} {r : Result ℕ Refusal} → fit least_ends l ≡ true → Tells (within (length l.out) (mangled_name (drop k s))) l.out out r
        → Tells (answer most_symbol_bytes (lent l) s) l.out out r
    unfolding answer work_fits if◌then◌otherwise◌
    front_reads g z = tells_as (sym (h.is _ ∙ rw g)) z
