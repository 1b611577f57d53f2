use Rattle.std.proofs.Math.Path.{refl}
use Rattle.std.proofs.Common.{◌≡◌, sym, ap, ◌∙◌, arith, length}
use Rattle.grammar.specs.Text.{Text}
use Rattle.grammar.specs.Reader.{give}
use Rattle.grammar.specs.Laws.Decimals.{decimal_most}
use Rattle.parser.specs.Laws.Holds.{by}
use Rattle.parser.specs.Laws.Halves.{wrote_one}
use Rattle.parser.specs.Laws.Decimals.{marked_text, marked_size}
use Rattle.parser.specs.Laws.Demanglers.{puts_of, lent_stack, leaf_reads_lent}
use Rattle.parser.proofs.demangler.Demangler.number.Goals as goal

pub write_decimal-start-requires : goal.write_decimal-start-requires
write_decimal-start-requires c = (omega (arith, decimal_most 20 c.args.i), omega arith)

pub overflow_sub-start : goal.overflow_sub-start
overflow_sub-start c = omega (arith, c.write_decimal-start.ensures.place, decimal_most 20 c.args.i)

pub returns : goal.returns
returns c =
    let z : length c.write_decimal-start.new.out ≡ 21 = omega (arith, c.write_decimal-start.auto.out) in
    let e = marked_text c.write_decimal-start.ensures refl z 84 in
    let n = marked_size c.write_decimal-start.ensures refl z 84 in
    leaf_reads_lent refl (lent_stack c.args.self.now c.put.new.self c.put.ensures.same)
    (λ σ h. by (ap (λ (t : Text). give t σ) (sym e)) (wrote_one h (puts_of c.args.self.now c.put.new.self c.put.ensures.left) (ap length e ∙ n) (omega (arith, ap length e, n)) (omega arith)))
