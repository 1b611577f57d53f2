use Rattle.normal_walk.proofs.Laws.Sizes.{ref_length}
use Rattle.normal_walk.proofs.most_reference.Goals as goal

pub returns : goal.returns
returns c =
    ref_length
