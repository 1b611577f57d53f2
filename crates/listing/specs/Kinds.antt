-- What holds of an answer whatever is listed: its length, a symbol that is too long, and that an entry with work slices of its least lengths
-- tells it. Assumes nothing.
use Rattle.std.specs.Prelude.{◌≤◌, length}
use Rattle.answer.specs.Told.{Slices, Long, LongNumbers}
use Rattle.listing.specs.Listing.{least_name, least_ends_of, least_numbers_of}
use Rattle.listing.specs.declared.listing.Kind.{Kind}

-- the work slices have their least lengths, or more
pub record LongFor (kind : Kind) (l : Slices) : Type 0 where
  pub name : least_name ≤ length l.out
  pub work : Long (least_ends_of kind) l
  pub numbers : LongNumbers (least_numbers_of kind) l
