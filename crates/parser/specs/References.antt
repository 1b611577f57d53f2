-- References, to entries and to template arguments, as the code finds their parts. Assumes nothing.
use Rattle.std.specs.Prelude.{◌≡◌, true, false, [], ◌∷◌, ℕ, ◌+◌, min, length, drop, Option, Some, None, Result, Ok, Err}
use Rattle.std.proofs.Math.ListN.{get_elem?}
use Rattle.grammar.specs.Text.{Text, choose, starts, run, digit}
use Rattle.grammar.specs.Numbers.{most}
use Rattle.grammar.specs.Reader.{ok, Reader, onto, refuse, give, every, need}
use Rattle.grammar.specs.Grammar.{index}
use Rattle.grammar.specs.declared.refusal.Refusal.{Refusal}
use Rattle.grammar.specs.declared.refusal.Refusal.TheVariants.{NoRule}
use Rattle.parser.specs.declared.demangler.Demangler.{Demangler}
use Rattle.parser.specs.Demanglers.{at_place}

-- digits of a base, an underscore, and what is read by the digits
abbrev pub referred : ℕ → (Text → Reader Text) → Reader Text
referred base f σ = onto (λ d. λ u. onto (λ _. f d) (need "_" u)) (every (digit base) σ)

-- ---------------------------------------------------------------- entries

abbrev pub entry_of : Text → Reader Text
entry_of d σ = onto (λ l. choose (get_elem? l (index 36 d)) give (refuse 7)) (ok σ.subs σ)

-- S_ | S <seq-id> _, behind S
unfoldable pub entry_at : Reader Text
entry_at = referred 36 entry_of

-- ---------------------------------------------------------------- an index passed over

-- the digits of a base that stand at the place, and the place behind them
abbrev pub digits_at : ℕ → Demangler → Text
digits_at base d = run (digit base) (drop d.state.at d.s.now)

abbrev pub behind_digits : ℕ → Demangler → ℕ
behind_digits base d = d.state.at + length (digits_at base d)

-- the index that a number, or none, stands for
abbrev pub index_of : Option ℕ → ℕ
index_of None = 0
index_of (Some n) = n + 1

-- digits of the base, or none, and an underscore were passed over, and their index is told up to 2^64; or the digits alone, with no underscore behind them
pub data Indexes (base : ℕ) (d d' : Demangler) : Result (Option ℕ) Refusal → Type 0 where
  indexes : {o : Option ℕ} → index_of o ≡ min (index base (digits_at base d)) (most + 1) → starts (drop (behind_digits base d) d.s.now) (95 ∷ []) ≡ true →
      d' ≡ at_place d (behind_digits base d + 1) → Indexes base d d' (Ok o)
  unended : starts (drop (behind_digits base d) d.s.now) (95 ∷ []) ≡ false → d' ≡ at_place d (behind_digits base d) → Indexes base d d' (Err NoRule)
