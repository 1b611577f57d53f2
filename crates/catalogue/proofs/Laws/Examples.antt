-- Symbols, their normal symbols and their names, proved from the definitions by computation; symbols outside the class.
use Rattle.std.specs.Prelude.{Bool, true, false, not, ◌&&◌, List, [], ◌∷◌, ◌≡◌, refl}
use Rattle.std.proofs.lemmas.Bool.{false≢true}
use Rattle.std.proofs.Common.{sym, ◌∙◌, ap}
use Prim.Native.String.{String}
use Rattle.grammar.specs.Text.{Text, b, if◌then◌otherwise◌, choose, same, run, past, digit, digit_value, number, decimal}
use Rattle.grammar.specs.Tables.{Row, ◌⇒◌, letters}
use Rattle.grammar.specs.Reader.{word_for}
use Rattle.grammar.specs.Grammar.{index}
use Rattle.catalogue.specs.Bytes.{text_discrete, and_left, and_right, same_eq}
use Rattle.catalogue.specs.Laws.Bytes.{not-true}
use Rattle.catalogue.specs.Tree.{ty_discrete, same_ty, word, print, Enc, print_enc}
use Rattle.catalogue.specs.Spelling.{digit_of, base36, ref_digits, spell, spell_sym}
use Rattle.catalogue.specs.Class.{word_byte, reserved, listed, name_ok, numeral, lit_ok, stands, last_is, push_new, Res, ok, wrong, resolve}
use Rattle.catalogue.specs.Class.{resolve_name, resolve_params, resolve_sym, count, count_sym, count_ok, valid, Catalogue}
use Rattle.catalogue.specs.Normal.{seek, after, normal, normal_sym, write, normal_of}
use Rattle.catalogue.specs.Recogniser.{cut, read_name, read_ref, with_code, read_lit, lead, parse, parse_types, parse_sym, classify}
use Rattle.catalogue.proofs.Laws.Decision.{is_catalogue, classify_sound, decides}

-- ---------------------------------------------------------------- the tables

-- a symbol, and beside it its normal symbol and its name
abbrev pub Rows : Type 0
Rows = List (Row (String × String))

-- document 01's normal cases
unfoldable pub normals : Rows
normals =
    "_Z1fP1aPS_" ⇒ ("_Z1fP1aS0_", "f(a*, a*)")
    ∷ "_Z1fP1aP1a" ⇒ ("_Z1fP1aS0_", "f(a*, a*)")
    ∷ "_ZN1n1fEN1n1aE" ⇒ ("_ZN1n1fENS_1aE", "n::f(n::a)")
    ∷ "_Z1f1a1b1b" ⇒ ("_Z1f1a1bS0_", "f(a, b, b)")
    ∷ []

-- each rule of the class, kept
unfoldable pub inside : Rows
inside =
    "_Z1f" ⇒ ("_Z1f", "f")
    ∷ "_Z1fv" ⇒ ("_Z1fv", "f()")
    ∷ "_Z1fvi" ⇒ ("_Z1fvi", "f(void, int)")
    ∷ "_Z1fz" ⇒ ("_Z1fz", "f(...)")
    ∷ "_ZNK1a1bEi" ⇒ ("_ZNK1a1bEi", "a::b(int) const")
    ∷ "_ZNK1aIiE1bEv" ⇒ ("_ZNK1aIiE1bEv", "a<int>::b() const")
    ∷ "_Z1fOiRi" ⇒ ("_Z1fOiRi", "f(int&&, int&)")
    ∷ "_Z1fPKPKcS1_" ⇒ ("_Z1fPKPKcS1_", "f(char const* const*, char const* const)")
    ∷ "_Z1f8unsignedh" ⇒ ("_Z1f8unsignedh", "f(unsigned, unsigned char)")
    -- arguments after a reference to one part
    ∷ "_Z1f1aS_IiE" ⇒ ("_Z1f1aS_IiE", "f(a, a<int>)")
    ∷ "_Z1f1a1aIiE" ⇒ ("_Z1f1aS_IiE", "f(a, a<int>)")
    -- and inside N to more parts
    ∷ "_Z1fN1a1bENS0_IiEE" ⇒ ("_Z1fN1a1bENS0_IiEE", "f(a::b, a::b<int>)")
    ∷ "_Z1fN1aIiE1bEN1aIiE1cE" ⇒ ("_Z1fN1aIiE1bENS0_1cE", "f(a<int>::b, a<int>::c)")
    -- literals
    ∷ "_Z1f1aILin5ELb1ELj0ELl7ELm10EE" ⇒ ("_Z1f1aILin5ELb1ELj0ELl7ELm10EE", "f(a<-5, true, 0u, 7l, 10ul>)")
    -- the last part of a function's nested name makes no entry: entry 1 is a
    ∷ "_ZN1n1fE1aS0_" ⇒ ("_ZN1n1fE1aS0_", "n::f(a, a)")
    ∷ "_ZN1n1fENS_1fES0_" ⇒ ("_ZN1n1fENS_1fES0_", "n::f(n::f, n::f)")
    ∷ []

-- each rule broken
unfoldable pub outside : List String
outside =
    -- R or O on R or O, K or V on K or V, references resolved
    "_Z1fRRi"
    ∷ "_Z1fORi"
    ∷ "_Z1fRiRS_"
    ∷ "_Z1fKVi"
    ∷ "_Z1fKiVS_"
    -- no function types
    ∷ "_Z1fP1aIFviEE"
    ∷ "_Z1f1aIPFviEE"
    -- _Z in front, and nothing after the end
    ∷ "__Z1fi"
    ∷ "_Z1fi.isra.0"
    -- names
    ∷ "_ZN1fEv"
    ∷ "_ZN1a1fIiEEv"
    ∷ "_Z1fIiEvi"
    ∷ "_ZNK1a1bE"
    ∷ "_ZNV1a1bEi"
    -- source names
    ∷ "_Z01fi"
    ∷ "_Z1f01a"
    ∷ "_Z3inti"
    ∷ "_Z1f4true"
    ∷ "_Z1f2a."
    -- classes
    ∷ "_Z1fN1aE"
    ∷ "_Z1f1aNS_E"
    ∷ "_Z1f1aNS_IiEE"
    ∷ "_Z1fN1aIiEE"
    ∷ "_Z1fN1a1bES0_IiE"
    ∷ "_Z1f1aIiES0_IiE"
    ∷ "_Z1fN1aIiEIiE1bE"
    ∷ "_Z1fP1aNS0_1bE"
    ∷ "_Z1f1aIE"
    -- references
    ∷ "_Z1fiS_"
    ∷ "_Z1f1aS0_"
    ∷ "_Z1f1a1bS00_"
    ∷ "_ZN1n1fES0_"
    -- literals
    ∷ "_Z1f1aILi05EE"
    ∷ "_Z1f1aILin0EE"
    ∷ "_Z1f1aILb2EE"
    ∷ "_Z1f1aILjn1EE"
    ∷ "_Z1f1aILiEE"
    ∷ "_Z1f1aILc5EE"
    ∷ "_Z1fLi5E"
    ∷ "_Z1f1aIPLi5EE"
    ∷ []

-- ---------------------------------------------------------------- proved by computation

-- the symbol is in the class, and has this normal symbol and this name
pub record Written (s n p : Text) : Type 0 where
  pub is : Catalogue s
  pub normal_symbol : normal_of is ≡ n
  pub name : print_enc is.tree ≡ p

abbrev pub Normals : Rows → Type 0
Normals [] = Unit {0}
Normals ((w ⇒ (n, p)) ∷ rows) = Written (b w) (b n) (b p) × Normals rows

abbrev pub Outside : List String → Type 0
Outside [] = Unit {0}
Outside (w ∷ ws) = (Catalogue (b w) → ⊥) × Outside ws

abbrev agrees : Res Enc → Text → Text → Bool
agrees (ok e us) n p = same (write e) n && same (print_enc e) p
agrees wrong n p = false

unfoldable pub agreeing : Rows → Bool
unfolding
    b if◌then◌otherwise◌ choose same run past digit digit_value number decimal letters word_for index
    text_discrete ty_discrete same_ty word print print_enc digit_of base36 ref_digits spell spell_sym
    word_byte reserved listed name_ok numeral lit_ok stands last_is push_new resolve resolve_name resolve_params resolve_sym count count_sym count_ok valid
    seek after normal normal_sym write cut read_name read_ref with_code read_lit lead parse parse_types parse_sym classify
agreeing [] = true
agreeing ((w ⇒ (n, p)) ∷ rows) = agrees (classify (b w)) (b n) (b p) && agreeing rows

unfoldable failing : List String → Bool
unfolding
    b if◌then◌otherwise◌ choose same run past digit digit_value number decimal letters word_for index
    text_discrete ty_discrete same_ty word print print_enc digit_of base36 ref_digits spell spell_sym
    word_byte reserved listed name_ok numeral lit_ok stands last_is push_new resolve resolve_name resolve_params resolve_sym count count_sym count_ok valid
    cut read_name read_ref with_code read_lit lead parse parse_types parse_sym classify is_catalogue
failing [] = true
failing (w ∷ ws) = not (is_catalogue (b w)) && failing ws

agrees_written : (s : Text) (r : Res Enc) (n p : Text) → classify s ≡ r → agrees r n p ≡ true → Written s n p
agrees_written s (ok e us) n p h k =
    let (c, t, u) = classify_sound s e us h in
    record {
      is = c;
      normal_symbol = ap write t ∙ same_eq (write e) n (and_left (same (write e) n) (same (print_enc e) p) k);
      name = ap print_enc t ∙ same_eq (print_enc e) p (and_right (same (write e) n) (same (print_enc e) p) k);
    }
agrees_written s wrong n p h k = absurd (false≢true k)

by_test : (rows : Rows) → agreeing rows ≡ true → Normals rows
unfolding agreeing
by_test [] h = tt
by_test ((w ⇒ (n, p)) ∷ rows) h = (
  agrees_written (b w) (classify (b w)) (b n) (b p) refl (and_left (agrees (classify (b w)) (b n) (b p)) (agreeing rows) h),
  by_test rows (and_right (agrees (classify (b w)) (b n) (b p)) (agreeing rows) h),
)

by_failing : (ws : List String) → failing ws ≡ true → Outside ws
unfolding failing
by_failing [] h = tt
by_failing (w ∷ ws) h = (
  (λ d. false≢true (sym (not-true (is_catalogue (b w)) (and_left (not (is_catalogue (b w))) (failing ws) h)) ∙ (decides (b w)).1 d)),
  by_failing ws (and_right (not (is_catalogue (b w))) (failing ws) h),
)

pub normals_hold : Normals normals
unfolding agreeing normals
normals_hold = by_test normals refl

pub inside_hold : Normals inside
unfolding agreeing inside
inside_hold = by_test inside refl

pub outside_hold : Outside outside
unfolding failing outside
outside_hold = by_failing outside refl
