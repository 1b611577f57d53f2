use mathlib.Core.Path.{ap, ◌∙◌}
use native.Mathlib.Omega.{arith}
use lib.ListN.{length, length-drop}
use lib.Seq.{length-take-le}
use Rattle.grammar.specs.Text.{Text}
use Rattle.grammar.specs.Limits.{least_text, least_store, least_ends}
use Rattle.grammar.specs.Names.{within, mangled_name}
use Rattle.store.specs.Laws.Lists.{second_lent}
use Rattle.answer.specs.Laws.Told.{tells_as}
use Rattle.demangle.proofs.reading.read_behind.Goals as goal

pub read-requires : goal.read-requires
read-requires c =
    let w = c.args.work.now in (
      omega (arith, ap length (second_lent c.args.at c.args.s.now) ∙ length-drop c.args.at c.args.s.now, c.requires.0),
      record {
        text_size = length-take-le least_text w.text.now c.requires.1.text;
        store_size = length-take-le least_store w.store.now c.requires.1.store;
        ends_size = length-take-le least_ends w.ends.now c.requires.1.ends;
      },
    )

pub returns-clause-told : goal.returns-clause-told
returns-clause-told c =
    tells_as (ap (λ (x : Text). within (length c.args.out.now) (mangled_name x)) (second_lent c.args.at c.args.s.now)) c.read.ensures
