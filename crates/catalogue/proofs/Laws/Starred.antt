-- Document 01: "The starred cases form a small table, and a shared proposition about it is proved from the definitions." Names and normal
-- symbols alike, of the answers of the two entries; proved by computation.
use Rattle.std.specs.Prelude.{List, [], ◌∷◌, ℕ}
use Prim.Native.String.{String}
use Rattle.grammar.specs.Text.{b}
use Rattle.grammar.specs.Limits.{most_symbol_bytes}
use Rattle.grammar.specs.Tables.{Row, ◌⇒◌}
use Rattle.grammar.specs.Names.{named, refusal}
use Rattle.grammar.proofs.Laws.Examples.{Case, prints, refuses, Answered, answered, by_test}
use Rattle.catalogue.specs.Answer.{normal_told, normal_after, normal_symbol}
use Rattle.catalogue.proofs.Laws.Examples.{agreeing}

-- the normal symbol, or why there is none
abbrev pub normal : String → Case
normal t = (normal_symbol most_symbol_bytes, named (b t))

abbrev pub no_normal : ℕ → Case
no_normal k = (normal_symbol most_symbol_bytes, refusal k)

unfoldable pub starred : List (Row Case)
starred =
    "_Z1fv" ⇒ prints "f()"
    ∷ "_Z1fv.isra.0" ⇒ prints "f(void)"
    ∷ "_ZNK1a1bEi" ⇒ prints "a::b(int) const"
    ∷ "_ZplRK1aS1_" ⇒ prints "operator+(a const&, a const&)"
    ∷ "_Z1fI1aIiEEvT_" ⇒ prints "void f<a<int> >(int)"
    ∷ "_Z1aB1bB1cv" ⇒ prints "a[abi:b[abi:c]]()"
    ∷ "_Z1fPFvPFicEE" ⇒ prints "f(void (*)(int (**)(char)))"
    ∷ "_Z1fS_" ⇒ refuses 7
    ∷ "_Z0v" ⇒ refuses 4
    ∷ "_Z1fP1aPS_" ⇒ normal "_Z1fP1aS0_"
    ∷ "_Z1fP1aP1a" ⇒ normal "_Z1fP1aS0_"
    ∷ "_ZN1n1fEN1n1aE" ⇒ normal "_ZN1n1fENS_1aE"
    -- "_Z1fRRi as a normal symbol 6: it prints f(int&&), as _Z1fOi does"
    ∷ "_Z1fRRi" ⇒ no_normal 6
    ∷ "_Z1fRRi" ⇒ prints "f(int&&)"
    ∷ "_Z1fOi" ⇒ prints "f(int&&)"
    ∷ []

-- the two symbols of document 01's listing
abbrev pub listed : List (Row Case)
listed =
    "_Z1fv" ⇒ prints "f()"
    ∷ "_Z0v" ⇒ refuses 4
    ∷ "_Z1fv" ⇒ normal "_Z1fv"
    ∷ "_Z0v" ⇒ no_normal 4
    ∷ []

pub starred_answered : Answered starred
unfolding answered agreeing normal_told normal_after normal_symbol starred
starred_answered = by_test starred tt

pub listed_answered : Answered listed
unfolding answered agreeing normal_told normal_after normal_symbol
listed_answered = by_test listed tt
