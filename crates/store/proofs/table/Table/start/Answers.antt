use Rattle.std.proofs.Common.{ℕ, take, ap, ◌∙◌, arith}
use Rattle.grammar.specs.Reader.{bytes_of}
use Rattle.store.specs.Laws.Entries.{start_at}
use Rattle.store.proofs.table.Table.start.Goals as goal

pub returns-then-k-eq0 : goal.returns-then-k-eq0
unfolding bytes_of
returns-then-k-eq0 c l n e h =
    ap (λ (k : ℕ). bytes_of (take k l)) {x = 0} {y = c.args.k} (omega arith)

pub returns-else-k-eq0 : goal.returns-else-k-eq0
returns-else-k-eq0 c l n e h =
    c.from.ensures ∙ start_at n c.args.k c.args.self.now.ends.now l e c.if-k-eq0.false h
