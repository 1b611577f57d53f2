-- Laws of Parts.antt. Assumes nothing.
use Rattle.std.specs.Prelude.{Bool, ◌≡◌, ℕ, ◌+◌, ◌-◌, ◌≤◌, length, take, drop}
use Rattle.std.proofs.Common.{sym, ap, ◌∙◌, arith, length-take, length-drop, drop-drop, take_at}
use Rattle.grammar.specs.Text.{Text, run, past}
use Rattle.grammar.specs.Laws.Places.{past_run}
use Rattle.normal_walk.proofs.Laws.Digits.{run_past}
use Rattle.normal_steps.specs.Parts.{part}

pub part_length : (s : Text) (i to : ℕ) → to ≤ length s → length (part s i to) ≡ to - i
part_length s i to l = simp (length-take, length-drop) (omega arith)

module _ (p : ℕ → Bool) where
  -- the run at a place, by the place behind it
  module _ (s : Text) (at end : ℕ) (e : end ≡ at + length (run p (drop at s))) where
    pub run_is : run p (drop at s) ≡ part s at end
    run_is =
        let n : length (run p (drop at s)) ≡ end - at = omega arith in
        sym (take_at (run p (drop at s)) (past p (drop at s)) (end - at) n) ∙ ap (take (end - at)) (run_past p (drop at s))

    pub past_is : past p (drop at s) ≡ drop end s
    past_is = past_run p (drop at s) ∙ drop-drop (length (run p (drop at s))) at s ∙ ap (λ (k : ℕ). drop k s) (sym e)
