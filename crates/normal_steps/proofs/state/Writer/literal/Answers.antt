use Rattle.std.proofs.Common.{ap, ◌∙◌, length, refl, arith}
use Rattle.normal_walk.specs.Walk.{literal}
use Rattle.normal_steps.specs.Carries.{refuses}
use Rattle.normal_steps.specs.Laws.Slices.{out_size}
use Rattle.normal_steps.specs.Laws.Limits.{room_less, spent}
use Rattle.normal_steps.specs.Laws.Told.{by, within}
use Rattle.normal_steps.specs.Laws.Steps.{with_none}
use Rattle.normal_steps.specs.Laws.LeafSteps.{same_part, literal_is, literal_kind, literal_marked, literal_fits, literal_spare, literal_wrote, literal_room, signed_below}
use Rattle.normal_steps.proofs.state.Writer.literal.Goals as goal

pub returns-in_err-literal : goal.returns-in_err-literal
returns-in_err-literal c =
    rw c.from_residual.ensures (record { symbol = refl; same = refl; is = λ σ h. by (with_none _ (ap literal h.rest ∙ c.in_err-literal.ensures)) refuses })

pub put_part-requires-clause-room : goal.put_part-requires-clause-room
put_part-requires-clause-room c =
    let x = c.in_ok-literal.ensures in
    let h = c.requires.1 in
    let b = c.put_byte.ensures in
    let k = literal_marked h x.0 x.1 b.is.1 in
    omega (arith, out_size k, literal_fits h x.0 x.1 (same_part _ _ b.symbol) b.is.0)

pub note-u-requires : goal.note-u-requires
note-u-requires c =
    let x = c.in_ok-literal.ensures in
    let v = x.0 in
    let h = c.requires.1 in
    let b = c.put_byte.ensures in
    let d = c.put_part.ensures in
    let a = same_part _ _ b.symbol in
    let k = signed_below _ c.in_ok-literal.literal.minus (literal_kind h v x.1) in
    let m = d.is.1 _ (literal_marked h v x.1 b.is.1) (literal_spare h v x.1 a b.is.0) in (
      (omega arith, omega (arith, c.signed.ensures)),
      (
        (omega (arith, v.some), omega (arith, v.inside, ap length b.symbol, ap length d.symbol)),
        (room_less (literal_room h v x.1 a b.is.0 d.is.0), (_, m)),
      ),
    )

pub returns : goal.returns
returns c =
    record {
      symbol = c.note-u.ensures.symbol ∙ c.put_part.ensures.symbol ∙ c.put_byte.ensures.symbol;
      same = c.note-u.ensures.same ∙ c.put_part.ensures.same ∙ c.put_byte.ensures.same;
      is = λ σ h.
          let x = c.in_ok-literal.ensures in
          let v = x.0 in
          let b = c.put_byte.ensures in
          let d = c.put_part.ensures in
          let a = same_part _ _ b.symbol in
          let m = d.is.1 _ (literal_marked h v x.1 b.is.1) (literal_spare h v x.1 a b.is.0) in
          let w = literal_wrote h v x.1 a b.is.0 d.is.0 in
          let k = v.some in
          let j = x.1 in
          by (literal_is h v x.1 c.signed.ensures (same_part _ _ (d.symbol ∙ b.symbol)) a)
          (within (λ q l. let g = l.at in (omega arith, spent w l (omega arith) (omega arith) (omega arith) (omega (arith, h.short, w.out))))
          (rw c.from.ensures at (c.note-u.ensures.is _ m)));
    }
