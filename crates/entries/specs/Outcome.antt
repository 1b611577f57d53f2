-- What an entry leaves: its answer, and every byte of the slices that it was lent.
use Rattle.std.specs.Prelude.{◌≡◌, ℕ, length, Result}
use Rattle.grammar.specs.Text.{Text}
use Rattle.grammar.specs.Limits.{most_symbol_bytes}
use Rattle.grammar.specs.Names.{answer, written}
use Rattle.grammar.specs.Names as n
use Rattle.store.specs.Stack.{zeros}
use Rattle.catalogue.specs.Answer.{normal_answer}
use Rattle.grammar.specs.declared.refusal.Refusal.{Refusal}
use Rattle.answer.specs.Told.{Slices, lent, told, numbered}

pub record Outcome : Type 0 where
  pub answer : Result ℕ ℕ
  pub slices : Slices

unfoldable pub leaves : n.Answer → Slices → Outcome
leaves a l = record {
  answer = told a;
  slices = record {
    out = written a l.out;
    text = zeros (length l.text);
    store = zeros (length l.store);
    ends = zeros (length l.ends);
    words = zeros (length l.words);
    tables = zeros (length l.tables);
    chains = zeros (length l.chains);
  };
}

abbrev pub Leaves : n.Answer → Slices → Slices → Result ℕ Refusal → Type 0
Leaves a l l' r = ◌≡◌ {A = Outcome} (record { answer = numbered r; slices = l' }) (leaves a l)

-- the definition of the entry for names
unfoldable pub demangled : Text → Slices → Outcome
demangled s l = leaves (answer most_symbol_bytes (lent l) s) l

abbrev pub Demangles : Text → Slices → Slices → Result ℕ Refusal → Type 0
Demangles s l l' r = ◌≡◌ {A = Outcome} (record { answer = numbered r; slices = l' }) (demangled s l)

-- the definition of the entry for normal symbols
unfoldable pub normalized : Text → Slices → Outcome
normalized s l = leaves (normal_answer most_symbol_bytes (lent l) s) l

abbrev pub Normalizes : Text → Slices → Slices → Result ℕ Refusal → Type 0
Normalizes s l l' r = ◌≡◌ {A = Outcome} (record { answer = numbered r; slices = l' }) (normalized s l)
