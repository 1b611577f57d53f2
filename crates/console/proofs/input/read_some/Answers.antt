use Rattle.std.proofs.Common.{◌≤◌, ℕ, length, sym, ap, refl, eqb, rules}
use Rattle.std.proofs.lemmas.List.{length-take-le}
use Rattle.console.specs.Laws.Buffer.{fed_chunk}
use Rattle.console.proofs.input.read_some.Goals as goal

pub returns : goal.returns
returns g c =
    let inside : c.in_ok-n.n ≤ length c.read.new.buf = search rules in
    record {
      fed = λ kind all handed f. fed_chunk f refl c.requires.all_listed c.add_chunk.ensures (ap (λ (j : ℕ). eqb j 0) (sym (length-take-le c.in_ok-n.n c.read.new.buf inside)));
      inside = inside;
      read = search rules;
      ended = search rules;
      lent = c.add_chunk.ensures.lent;
      size = c.add_chunk.ensures.size;
    }
