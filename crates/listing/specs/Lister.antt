-- What a lister's functions leave of it. Assumes nothing.
use Rattle.std.specs.Prelude.{◌≡◌, length}
use Rattle.answer.specs.Lent.{SameWork, SameNumbers}
use Rattle.listing.specs.declared.listing.Lister.{Lister}

-- it lists the same with the same slices, which are as long as they were
pub record SameLister (l l' : Lister) : Type 0 where
  pub kind : l'.kind ≡ l.kind
  pub name : l'.name.ghost_name ≡ l.name.ghost_name
  pub name_length : length l'.name.now ≡ length l.name.now
  pub work : l'.work.ghost_name ≡ l.work.ghost_name
  pub numbers : l'.numbers.ghost_name ≡ l.numbers.ghost_name
  pub same_work : SameWork l.work.now l'.work.now
  pub same_numbers : SameNumbers l.numbers.now l'.numbers.now
