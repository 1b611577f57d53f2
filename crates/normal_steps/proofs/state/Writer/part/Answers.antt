use Rattle.std.proofs.Common.{refl, ap, ◌∙◌, arith}
use Rattle.normal_walk.specs.Walk.{name}
use Rattle.normal_nodes.specs.Nodes.{sub_node}
use Rattle.normal_steps.specs.Carries.{refuses, notes_node}
use Rattle.normal_steps.specs.Laws.Limits.{spent}
use Rattle.normal_steps.specs.Laws.Told.{by, within}
use Rattle.normal_steps.specs.Laws.Steps.{with_none}
use Rattle.normal_steps.specs.Laws.LeafSteps.{name_size, name_fits, name_wrote, name_held, name_reads, name_noted}
use Rattle.normal_steps.proofs.state.Writer.part.Goals as goal

pub returns-in_err-word : goal.returns-in_err-word
returns-in_err-word c =
    rw c.from_residual.ensures (record { symbol = refl; same = refl; is = λ σ h. by (with_none _ (ap name h.rest ∙ c.in_err-word.ensures)) refuses })

pub put_name-requires-clause-room : goal.put_name-requires-clause-room
put_name-requires-clause-room c = name_fits c.in_ok-word.ensures c.requires.1.1 refl

pub note-u-requires : goal.note-u-requires
note-u-requires c =
    let y = c.put_name.ensures in
    ((omega arith, omega arith), name_noted c.in_ok-word.ensures c.requires.1.1 refl y.is.0 y.symbol y.is.1)

pub returns : goal.returns
returns c =
    record {
      symbol = c.note-u.ensures.symbol ∙ c.put_name.ensures.symbol;
      same = c.note-u.ensures.same ∙ c.put_name.ensures.same;
      is = λ σ h.
          let x = c.in_ok-word.ensures in
          let y = c.put_name.ensures.is in
          let z = name_size x in
          let w = name_wrote x h refl y.0 in
          by (name_reads x h refl (λ n. notes_node (sub_node c.args.t n)) c.put_name.ensures.symbol)
          (within (λ q l. let g = l.at in (omega arith, spent w l (omega arith) (omega arith) (omega arith) (omega (arith, h.short, w.out))))
          (rw c.from.ensures at (c.note-u.ensures.is _ (name_held x h refl y.1))));
    }
