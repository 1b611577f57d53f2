use Rattle.std.proofs.Common.{refl, ap, ◌∙◌, arith}
use Rattle.normal_walk.specs.Walk.{name}
use Rattle.normal_nodes.specs.Nodes.{root_node, enter}
use Rattle.normal_steps.specs.Carries.{tells, refuses}
use Rattle.normal_steps.specs.Laws.Limits.{room_after, stretch_same, took_more, spent}
use Rattle.normal_steps.specs.Laws.Told.{told, by}
use Rattle.normal_steps.specs.Laws.Steps.{entered_is, with_none}
use Rattle.normal_steps.specs.Laws.LeafSteps.{name_size, name_fits, name_wrote, name_held, name_reads, name_noted, name_room, name_stretch}
use Rattle.normal_steps.specs.Laws.Slices.{numbered_note}
use Rattle.normal_steps.proofs.state.Writer.first_name.Goals as goal

pub returns-in_err-word : goal.returns-in_err-word
returns-in_err-word c =
    rw c.from_residual.ensures (record { symbol = refl; same = refl; is = λ σ h. by (with_none _ (ap name h.rest ∙ c.in_err-word.ensures)) refuses })

pub put_name-requires-clause-room : goal.put_name-requires-clause-room
put_name-requires-clause-room c = name_fits c.in_ok-word.ensures c.requires.1 refl

pub note-u-requires : goal.note-u-requires
note-u-requires c =
    let y = c.put_name.ensures in
    ((omega arith, omega arith), name_noted c.in_ok-word.ensures c.requires.1 refl y.is.0 y.symbol y.is.1)

pub enter-requires : goal.enter-requires
enter-requires c =
    let x = c.in_ok-word.ensures in
    let h = c.requires.1 in
    let y = c.put_name.ensures.is in
    let t = told (rw c.from.ensures at (c.note-u.ensures.is _ (name_held x h refl y.1))) in
    let l = t.1.0 in
    (numbered_note _ _ t.0 t.1.1.0, (stretch_same (name_stretch x h refl y.0) l, (room_after (name_room x h refl y.0) l, (_, t.0))))

pub returns : goal.returns
returns c =
    record {
      symbol = c.enter.ensures.symbol ∙ c.note-u.ensures.symbol ∙ c.put_name.ensures.symbol;
      same = c.enter.ensures.same ∙ c.note-u.ensures.same ∙ c.put_name.ensures.same;
      is = λ σ h.
          let x = c.in_ok-word.ensures in
          let y = c.put_name.ensures.is in
          let z = name_size x in
          let w = name_wrote x h refl y.0 in
          let t = told (rw c.from.ensures at (c.note-u.ensures.is _ (name_held x h refl y.1))) in
          let v = c.enter.ensures.is _ t.0 in
          let l = took_more c.args.self.now.state.out t.1.0 v.limits (omega arith) (omega (arith, t.1.0.out)) in
          by (name_reads x h refl (λ n. enter (root_node n) c.args.self.now.state.out) c.put_name.ensures.symbol ∙ entered_is _ _ _ t.1.1.0)
          (tells v.holds (omega arith, spent w l (omega arith) (omega arith) (omega arith) (omega (arith, h.short, w.out))) t.1.1.1);
    }
