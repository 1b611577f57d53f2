-- Document 01's normal cases by the true reading: a symbol and its normal symbol are accepted with one name, and both halves apply to them.
use Rattle.std.specs.Prelude.{List, [], ◌∷◌, ◌≡◌, refl}
use Rattle.grammar.specs.Text.{b}
use Rattle.grammar.specs.Tables.{Row, ◌⇒◌}
use Rattle.grammar.proofs.Laws.Examples.{Case, prints, Answered, answered, by_test}
use Rattle.catalogue.specs.Normal.{normal_of}
use Rattle.catalogue.proofs.Laws.Examples.{Written, normals, normals_hold}
use Rattle.agreement.specs.Laws.NormalNames.{demand_3_first}

unfoldable pub normal_cases : List (Row Case)
normal_cases =
    "_Z1fP1aPS_" ⇒ prints "f(a*, a*)"
    ∷ "_Z1fP1aP1a" ⇒ prints "f(a*, a*)"
    ∷ "_Z1fP1aS0_" ⇒ prints "f(a*, a*)"
    ∷ "_ZN1n1fEN1n1aE" ⇒ prints "n::f(n::a)"
    ∷ "_ZN1n1fENS_1aE" ⇒ prints "n::f(n::a)"
    ∷ "_Z1f1a1b1b" ⇒ prints "f(a, b, b)"
    ∷ "_Z1f1a1bS0_" ⇒ prints "f(a, b, b)"
    ∷ []

pub normal_cases_answered : Answered normal_cases
unfolding answered normal_cases
normal_cases_answered = by_test normal_cases tt

-- two spellings of f(a*, a*)
by_reference : Written (b "_Z1fP1aPS_") (b "_Z1fP1aS0_") (b "f(a*, a*)")
unfolding normals
by_reference = normals_hold.0

in_full : Written (b "_Z1fP1aP1a") (b "_Z1fP1aS0_") (b "f(a*, a*)")
unfolding normals
in_full = normals_hold.1.0

-- one name, so one normal symbol
one_normal : normal_of by_reference.is ≡ normal_of in_full.is
unfolding normal_cases
one_normal =
    (demand_3_first by_reference.is in_full.is (b "f(a*, a*)") (b "f(a*, a*)") normal_cases_answered.0 normal_cases_answered.1.0).1 refl
