-- Symbols and their answers, proved from the definition by computation.
use Rattle.std.specs.Prelude.{◌≡◌, ℕ, Bool, true, false, ◌&&◌, T, List, [], ◌∷◌, ◌++◌, ◌==◌, refl}
use Rattle.std.proofs.Common.{ap, sym, ◌∙◌, eqb→eq, leb→le}
use Prim.Native.String.{String}
use Rattle.grammar.specs.Text as t
use Rattle.grammar.specs.Tables as w
use Rattle.grammar.specs.Reader as r
use Rattle.grammar.specs.Grammar as g
use Rattle.grammar.specs.Names as n
use Rattle.grammar.specs.Laws.Productions.{productions}
use Rattle.grammar.specs.Laws.Text.{both, same→eq}
use Rattle.grammar.proofs.Laws.Dots.{left_in, left_of, Plain, behind_dot}
use Rattle.grammar.specs.Text.{Text, b, same}
use Rattle.grammar.specs.Limits.{most_symbol_bytes}
use Rattle.grammar.specs.Tables.{Row, ◌⇒◌}
use Rattle.grammar.specs.Names.{Answer, named, refusal, demangle}

-- what is asked of a symbol, and the answer
abbrev pub Case : Type 0
Case = (Text → Answer) × Answer

abbrev pub prints : String → Case
prints t = (demangle most_symbol_bytes, named (b t))

abbrev pub refuses : ℕ → Case
refuses k = (demangle most_symbol_bytes, refusal k)

-- the proposition: each symbol of a table has the answer that stands beside it
abbrev pub Answered : List (Row Case) → Type 0
Answered [] = Unit {0}
Answered ((w ⇒ c) ∷ rows) = (c.0 (b w) ≡ c.1) × Answered rows

-- ---------------------------------------------------------------- the table

-- the departures that document 01 lists, by their numbers, and both sides of 96 open readings
unfoldable pub departures : List (Row Case)
departures =
    -- D-1
    "_Z1fI1aIiEEvT0_" ⇒ prints "void f<a<int> >(a<int>)"
    -- D-2
    ∷ "_Z1fIcN1aIiE1bEdEvT_T0_T1_" ⇒ prints "void f<char, a<int>::b, double>(int, a<int>::b, double)"
    ∷ "_Z1fIcSt1aIiEEvT_T0_" ⇒ prints "void f<char, std::a<int> >(int, std::a<int>)"
    -- D-3
    ∷ "_Z1fINK1a1bEEvv" ⇒ prints "void f<a::b>() const"
    -- D-4
    ∷ "_Z1fIXX!E!EEvv" ⇒ prints "void f<...>()"
    -- D-5
    ∷ "_ZNUl!!E_clEv" ⇒ prints "{lambda}::operator()()"
    -- D-6
    ∷ "_Z1fIL_1giEvv" ⇒ prints "void f<g, int>()"
    -- D-7
    ∷ "_Z1fIiEvS0_" ⇒ prints "void f<int>(f<int>)"
    -- D-8
    ∷ "_ZN1aIiE1bET_S1_" ⇒ refuses 7
    -- D-9
    ∷ "_Z1fA3_iS_" ⇒ refuses 7
    -- D-10
    ∷ "_Z1fVKiS_S0_" ⇒ prints "f(int const volatile, int const, int const volatile)"
    -- D-11
    ∷ "_Z1fB1aB1bv" ⇒ prints "f[abi:a[abi:b]]()"
    -- D-12
    ∷ "_Z1fPFPFvvEPFiiEE" ⇒ prints "f(void (**)() (*)(int (**)(int)))"
    -- D-13
    ∷ "_ZGTtTV1a!!" ⇒ prints "transaction clone for vtable for a"
    ∷ "_ZGV1f!!" ⇒ prints "guard variable for f"
    -- D-14
    ∷ "_Z1fDfDd" ⇒ prints "f(_Float32, _Float64)"
    -- 95 and 96 times P
    ∷ "_Z1fPPPPPPPPPPPPPPPPPPPPPPPPPPPPPPPPPPPPPPPPPPPPPPPPPPPPPPPPPPPPPPPPPPPPPPPPPPPPPPPPPPPPPPPPPPPPPPPi" ⇒ prints "f(int***********************************************************************************************)"
    ∷ "_Z1fPPPPPPPPPPPPPPPPPPPPPPPPPPPPPPPPPPPPPPPPPPPPPPPPPPPPPPPPPPPPPPPPPPPPPPPPPPPPPPPPPPPPPPPPPPPPPPPPi" ⇒ refuses 8
    ∷ []

-- thunks (document 02, T-01): where they stand, their offsets, and what stands behind them
unfoldable pub thunks : List (Row Case)
thunks =
    "_ZThn16_N1a1fEv" ⇒ prints "non-virtual thunk to a::f()"
    ∷ "__ZTh007_1f" ⇒ prints "non-virtual thunk to f"
    ∷ "_ZTv0_n24_NK1a1fIiEEvT_" ⇒ prints "virtual thunk to void a::f<int>(int) const"
    ∷ "_ZGTtGTtTh0_1f" ⇒ prints "transaction clone for transaction clone for non-virtual thunk to f"
    ∷ "_ZTh0_1fv.cold" ⇒ prints "non-virtual thunk to f(void)"
    ∷ "_ZTh_1fv" ⇒ refuses 4
    ∷ "_ZThn_1fv" ⇒ refuses 4
    ∷ "_ZThnn0_1fv" ⇒ refuses 4
    ∷ "_ZTh01fv" ⇒ refuses 4
    ∷ "_ZTv0_1fv" ⇒ refuses 4
    ∷ "_ZTh0_0_1fv" ⇒ refuses 4
    ∷ "_ZTh0_TV1a" ⇒ refuses 4
    ∷ "_ZTh0_GV1f" ⇒ refuses 4
    ∷ "_ZTh0_GTt1f" ⇒ refuses 4
    ∷ "_ZTh0_Th0_1f" ⇒ refuses 4
    ∷ "_ZGVTh0_1f" ⇒ refuses 4
    ∷ "_ZZTh0_1fvE1g" ⇒ refuses 4
    ∷ "_ZTh0_1fv!" ⇒ refuses 4
    ∷ "_ZTh0_1fS_" ⇒ refuses 7
    ∷ []

-- ---------------------------------------------------------------- tables computed

unfoldable pub same_answer : Answer → Answer → Bool
same_answer (named s) (named t) = same s t
same_answer (named s) (refusal k) = false
same_answer (refusal k) (named t) = false
same_answer (refusal j) (refusal k) = j == k

-- the proposition as a test; whoever unfolds it can compute `demangle`
unfoldable pub answered : List (Row Case) → Bool
unfolding
    same_answer
    t.b
    t.if◌then◌otherwise◌
    t.choose
    t.same
    t.starts
    t.holds
    t.ends
    t.run
    t.past
    t.join
    t.each
    t.after_last
    t.digit_value
    t.digit
    t.number
    t.decimal
    w.letters
    w.d_letters
    w.operators
    w.labels
    w.abbreviations
    w.qualifiers
    w.wrappers
    w.suffixes
    r.onto
    r.start
    r.go_to
    r.set_subs
    r.set_args
    r.set_depth
    r.set_cv
    r.set_templated
    r.bytes_of
    r.fits
    r.push_sub
    r.push_arg
    r.give
    r.recorded
    r.entered
    r.find
    r.word_for
    r.by_code
    r.at_code
    r.see
    r.eat
    r.need
    r.first
    r.any
    r.every
    r.steps
    r.while
    r.up_to_E
    g.at_slots
    g.only_void
    g.angled
    g.last
    g.onto_last
    g.qualifier
    g.class_of
    g.literal
    g.ended
    g.digit_ahead
    g.std_ahead
    g.structor_ahead
    g.open_after
    g.skipped
    g.index
    g.unnamed_type_name
    g.template_param
    g.substitution
    g.unsigned
    g.offset
    productions
    g.parse
    g.reading
    n.without_slots
    n.finished
    n.high
    n.mangled_name
    n.front
    n.demangle
answered [] = true
answered ((w ⇒ c) ∷ rows) = same_answer (c.0 (b w)) c.1 && answered rows

same_answer→eq : (a c : Answer) → T (same_answer a c) → a ≡ c
unfolding same_answer
same_answer→eq (named s) (named t) h = ap named (same→eq s t h)
same_answer→eq (named s) (refusal k) h = absurd h
same_answer→eq (refusal j) (named t) h = absurd h
same_answer→eq (refusal j) (refusal k) h = ap refusal (eqb→eq j k h)

pub by_test : (rows : List (Row Case)) → T (answered rows) → Answered rows
unfolding answered
by_test [] h = tt
by_test ((w ⇒ c) ∷ rows) h =
    let (p, q) = both (same_answer (c.0 (b w)) c.1) (answered rows) h in
    (same_answer→eq (c.0 (b w)) c.1 p, by_test rows q)

pub departures_answered : Answered departures
unfolding answered departures
departures_answered = by_test departures tt

pub thunks_answered : Answered thunks
unfolding answered thunks
thunks_answered = by_test thunks tt

-- `_Z1fv.isra.0`, `_Z1fv.cold` and any other bytes behind that dot
pub behind_v : (u : Text) → Plain most_symbol_bytes (b "_Z1fv" ++ (b "." ++ u)) → demangle most_symbol_bytes (b "_Z1fv" ++ (b "." ++ u)) ≡ named (b "f(void)")
unfolding answered left_of left_in
behind_v u p =
    sym (behind_dot most_symbol_bytes (b "_Z1fv") [] u refl (record { short = leb→le 6 most_symbol_bytes tt; low = refl }) p)
    ∙ same_answer→eq _ _ tt
