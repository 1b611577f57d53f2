-- The slices that the code is lent, as its structs hold them.
use Rattle.std.specs.Prelude.{[], ◌≡◌, length}
use Rattle.grammar.specs.Text.{Text}
use Rattle.answer.specs.declared.work.Work.{Work}
use Rattle.answer.specs.declared.work.Numbers.{Numbers}
use Rattle.answer.specs.Told.{Slices, slices, normal_slices}

-- the output slice and the work slices of the entry for names
abbrev pub slices_of : Text → Work → Slices
slices_of out w = slices out w.text.now w.store.now w.ends.now

-- and of the entry for normal symbols
abbrev pub all_slices_of : Text → Work → Numbers → Slices
all_slices_of out w n = normal_slices out w.text.now w.store.now w.ends.now n.words.now n.tables.now n.chains.now

abbrev pub numbers_of : Numbers → Slices
numbers_of n = normal_slices [] [] [] [] n.words.now n.tables.now n.chains.now

-- they are still the slices that the caller lent, and as long as they were
pub record SameWork (w w' : Work) : Type 0 where
  pub text : w'.text.ghost_name ≡ w.text.ghost_name
  pub store : w'.store.ghost_name ≡ w.store.ghost_name
  pub ends : w'.ends.ghost_name ≡ w.ends.ghost_name
  pub text_length : length w'.text.now ≡ length w.text.now
  pub store_length : length w'.store.now ≡ length w.store.now
  pub ends_length : length w'.ends.now ≡ length w.ends.now

pub record SameNumbers (n n' : Numbers) : Type 0 where
  pub words : n'.words.ghost_name ≡ n.words.ghost_name
  pub tables : n'.tables.ghost_name ≡ n.tables.ghost_name
  pub chains : n'.chains.ghost_name ≡ n.chains.ghost_name
  pub words_length : length n'.words.now ≡ length n.words.now
  pub tables_length : length n'.tables.now ≡ length n.tables.now
  pub chains_length : length n'.chains.now ≡ length n.chains.now
