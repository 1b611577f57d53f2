-- What one write took leaves `rest`, and was appended; what was appended before a write that failed is a front of the bytes.
use Rattle.std.proofs.Common.{◌≡◌, ℕ, Option, subst, ◌-◌, List, ◌++◌, length, take, drop, sym, ap, ◌∙◌, append_assoc, take-append-drop}
use Rattle.std.proofs.lemmas.List.{take_rest}
use Rattle.std.proofs.lemmas.Result.{MatchResult-from_err}
use Rattle.std.proofs.Math.Seq.{take-append_seam}
use Rattle.std.specs.Io.KnownBytes.{Appends}
use Rattle.std.proofs.KnownBytes.{Appends-trans, Appends-kept}
use Rattle.console.proofs.stream.write_whole.Goals as goal

moves_front : (all done rest : List ℕ) (n : ℕ) → all ≡ done ++ rest → all ≡ (done ++ take n rest) ++ take (length rest - n) (drop n rest)
moves_front all done rest n e =
    e ∙ ap (λ l. done ++ l) (sym (take-append-drop n rest)) ∙ sym (append_assoc done (take n rest) (drop n rest)) ∙ ap (λ l. (done ++ take n rest) ++ l) (sym (take_rest rest n))

-- what was appended is a front
as_front : (a b : Option (List ℕ)) (all done rest : List ℕ) → all ≡ done ++ rest → Appends a b done → (n : ℕ) × Appends a b (take n all)
as_front a b all done rest e h = (length done, subst (Appends a b) (sym (ap (take (length done)) e ∙ take-append_seam done rest)) h)

pub loop-rest-preserved : goal.loop-rest-preserved
loop-rest-preserved g c =
    let (done, split, appended) = c.loop-rest.invariant in
    let rest = c.loop-rest.rest.now in
    (done ++ take c.in_ok-n.n rest, moves_front _ done rest c.in_ok-n.n split, Appends-trans _ _ _ _ _ appended c.in_ok-n.ensures.bytes)

pub returns-in_err-n : goal.returns-in_err-n
returns-in_err-n g c =
    let (done, split, appended) = c.loop-rest.invariant in
    MatchResult-from_err _ _ _ c.from_residual.ensures.0 (λ _. as_front _ _ _ done _ split (Appends-kept _ _ _ _ appended c.in_err-n.ensures.bytes))

pub returns-then-n-eq0 : goal.returns-then-n-eq0
returns-then-n-eq0 g c =
    let (done, split, appended) = c.loop-rest.invariant in
    let rest = c.loop-rest.rest.now in
    as_front _ _ _ (done ++ take c.in_ok-n.n rest) _ (moves_front _ done rest c.in_ok-n.n split) (Appends-trans _ _ _ _ _ appended c.in_ok-n.ensures.bytes)
