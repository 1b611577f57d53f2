-- What a lister's functions leave of it. Assumes nothing.
use Rattle.std.specs.Prelude.{◌≡◌, length}
use Rattle.answer.specs.Lent.{SameWork, SameNumbers}
use Rattle.console.specs.declared.output.Lister.{Lister}

-- it lists the same with the same slices, which are as long as they were
pub record SameLister (l l' : Lister) : Type 0 where
  pub kind : l'.kind ≡ l.kind
  pub out : l'.out.ghost_name ≡ l.out.ghost_name
  pub out_length : length l'.out.now ≡ length l.out.now
  pub name : l'.name.ghost_name ≡ l.name.ghost_name
  pub name_length : length l'.name.now ≡ length l.name.now
  pub work : SameWork l.work l'.work
  pub numbers : SameNumbers l.numbers l'.numbers
