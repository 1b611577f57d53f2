use mathlib.Core.Path.{◌∙◌, refl}
use Rattle.normal_writer.specs.Laws.Symbols.{plain_none, plain_room, plain_heads}
use Rattle.normal_writer.proofs.symbol.plain.Goals as goal

pub returns-in_err-word : goal.returns-in_err-word
returns-in_err-word c =
    rw c.from_residual.ensures (record { symbol = refl; stays = refl; same = refl; is = plain_none c.args.w.now.s.now c.args.w.now c.in_err-word.ensures })

pub put_name-requires-clause-room : goal.put_name-requires-clause-room
put_name-requires-clause-room c =
    plain_room c.args.w.now.s.now c.begin.new.w c.begin.ensures.symbol c.begin.ensures.is c.requires.short c.in_ok-word.ensures

pub returns : goal.returns
returns c =
    record {
      symbol = c.put_name.ensures.symbol ∙ c.begin.ensures.symbol;
      stays = c.put_name.ensures.stays ∙ c.begin.ensures.stays;
      same = c.put_name.ensures.same ∙ c.begin.ensures.same;
      is = plain_heads c.args.w.now.s.now c.begin.new.w c.begin.ensures.symbol c.begin.ensures.is c.requires.short c.in_ok-word.ensures
          c.put_name.new.self c.put_name.ensures.is;
    }
