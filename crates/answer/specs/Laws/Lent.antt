-- Laws of Lent.antt: a caller's own slices hold afterwards what the structs that they were lent in hold. Assumes nothing.
use Rattle.std.specs.Prelude.{◌≡◌}
use Rattle.grammar.specs.Text.{Text}
use Rattle.answer.specs.declared.work.Work.{Work}
use Rattle.answer.specs.declared.work.Numbers.{Numbers}
use Rattle.answer.specs.Told.{slices, normal_slices}
use Rattle.answer.specs.Lent.{slices_of, all_slices_of}

module _ (w : Work) {out text store ends : Text} (t : text ≡ w.text.now) (s : store ≡ w.store.now) (e : ends ≡ w.ends.now) where
  pub slices_back : slices out text store ends ≡ slices_of out w
  slices_back = rw (t, s, e)

  pub all_slices_back : (n : Numbers) {words tables chains : Text} → words ≡ n.words.now → tables ≡ n.tables.now → chains ≡ n.chains.now
      → normal_slices out text store ends words tables chains ≡ all_slices_of out w n
  all_slices_back n a b c = rw (t, s, e, a, b, c)
