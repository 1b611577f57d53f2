use native.Mathlib.Omega.{arith}
use lib.Seq.{length-take-le}
use Rattle.catalogue.specs.Answer.{least_numbers}
use Rattle.normal_steps.specs.Limits.{out_length}
use Rattle.normalize.proofs.reading.write_within.Goals as goal

pub write-requires : goal.write-requires
write-requires c =
    let w = c.args.work.now in
    let n = c.args.numbers.now in
    let long = c.requires.long.1 in
    let numbers = c.requires.long_numbers in (
      c.requires.long.0,
      (
        length-take-le out_length w.store.now (omega (arith, long.store)),
        record {
          ends = length-take-le least_numbers w.ends.now long.ends;
          words = length-take-le least_numbers n.words.now numbers.words;
          tables = length-take-le least_numbers n.tables.now numbers.tables;
          chains = length-take-le least_numbers n.chains.now numbers.chains;
        },
      ),
    )
