use Rattle.std.proofs.Common.{[], ◌∷◌, sym, ◌∙◌, append_assoc, arith}
use Rattle.grammar.specs.Limits.{kept_bytes}
use Rattle.parser.specs.Laws.Literals.{strip_starts, signed_minus, signed_plain}
use Rattle.store.specs.Laws.Tails.{put_tail, whole, stack_of}
use Rattle.parser.proofs.literal.put_value.Goals as goal

pub returns-in-Some : goal.returns-in-Some
returns-in-Some c =
    let (e, f, _) = c.in-Some.ensures.cases in
    let a = put_tail _ (stack_of c.args.stack.now) (omega arith) c.put.ensures.left (whole kept_bytes _) in
    let g = put_tail _ c.put.ensures.left.stack (omega arith) c.put-in-Some.ensures.left a in
    record { same = c.put-in-Some.ensures.same ∙ c.put.ensures.same; tail = rw (signed_minus c.args.value.now (sym (strip_starts c.args.value.now (110 ∷ [])) ∙ e), ← f) (rw append_assoc at g) }

pub returns-in-None : goal.returns-in-None
returns-in-None c =
    let e = sym (strip_starts c.args.value.now (110 ∷ [])) ∙ c.in-None.ensures.cases in
    record { same = c.put-in-None.ensures.same; tail = rw (signed_plain c.args.value.now e) (put_tail _ (stack_of c.args.stack.now) (omega arith) c.put-in-None.ensures.left (whole kept_bytes _)) }
