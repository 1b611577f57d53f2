use Rattle.std.proofs.Common.{ap, ◌∙◌, refl, arith, length-set}
use Rattle.normal_steps.specs.Rows.{node_of}
use Rattle.normal_steps.specs.Laws.Chains.{bucket_below, linked_at}
use Rattle.normal_steps.specs.Laws.Memory.{note_known, note_written, node_room}
use Rattle.normal_steps.proofs.state.Writer.note.Goals as goal

pub returns-in-Some : goal.returns-in-Some
returns-in-Some c =
    record {
      symbol = refl;
      same = refl;
      stays = refl;
      is = λ σ h.
          let e = c.in-Some.ensures in
          note_known h (node_of c.args.self.now.s.now c.args.x) c.in-Some.i e.0 e.1;
    }

pub link-requires : goal.link-requires
link-requires c =
    let h = c.requires.1.1.1.1 in
    let n = node_room h c.requires.1.1.0 in
    (omega (arith, c.bucket-head.ensures, bucket_below (node_of c.args.self.now.s.now c.args.x)), (n, h.found.linked.size))

pub returns : goal.returns
returns c =
    record {
      symbol = refl;
      same = rw (c.put_two.auto.numbers, c.put_two-2.auto.numbers, c.link.auto.chains) (simp length-set refl);
      stays = refl;
      is = λ σ h.
          let x = c.args.x in
          note_written h c.requires.1.1.0 x.tag x.of x.word.from x.word.to c.requires.1.0 c.put_two.ensures c.put_two-2.ensures
          (c.link.ensures ∙ ap (linked_at c.args.self.now.chains.now c.args.self.now.state.nodes) c.bucket-head.ensures) c.in_default.ensures;
    }
