use Rattle.catalogue.specs.Spelling.{base36}
use lib.ListN.{length}
use Rattle.normal_steps.proofs.write.+write_seq_id.Given as goal

-- how many digits there are
abbrev pub decreases-write_seq_id : goal.decreases-write_seq_id
decreases-write_seq_id a = length (base36 a.n a.n)
