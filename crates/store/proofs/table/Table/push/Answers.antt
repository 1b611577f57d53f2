use Rattle.std.proofs.Common.{◌+◌, ◌++◌, ◌≤◌, ◌≡◌, take, length, refl, List, ℕ, arith}
use lib.Seq.{paste, take-paste, take-length}
use Rattle.store.specs.Laws.Entries.{pushed}
use Rattle.store.proofs.table.Table.push.Goals as goal

-- a text is copied to `at`: it stands behind what is in front of it
copied : (out p : List ℕ) {y : List ℕ} (at : ℕ) → at + length p ≤ length out → y ≡ paste out at p (length p) → take (at + length p) y ≡ take at out ++ p
copied out p at l e = rw (e, take-paste out at p (length p) (omega arith) (omega arith), take-length)

pub returns-clause-entries : goal.returns-clause-entries
returns-clause-entries c l h =
    let s = c.args.self.now in
    let w = c.args.word.now in
    pushed h w (length w) c.copy.new.out _ refl c.requires.0 c.requires.1 c.copy.auto.out
    (copied s.bytes.now w s.used (omega (arith, s.bytes_size, c.requires.1)) c.copy.ensures) refl
