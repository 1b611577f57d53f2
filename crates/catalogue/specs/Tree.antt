-- The tree of a catalogue symbol, its references resolved, and the name that it prints.
use Rattle.std.specs.Prelude.{Bool, true, false, [], ◌∷◌, ◌++◌, ◌≡◌, refl, ℕ}
use Rattle.std.proofs.Math.Bool.{Bool-discrete}
use Rattle.std.proofs.Math.Option.{Option, none, some}
use Prim.Native.Char.{code}
use Rattle.grammar.specs.Text.{Text, b, if◌then◌otherwise◌, choose, same}
use Rattle.grammar.specs.Tables.{letters}
use Rattle.grammar.specs.Reader.{word_for}
use Rattle.catalogue.specs.Bytes.{text_discrete}

-- the 21 letters of document 01, each named by its byte
pub data Letter : Type 0 where
  lv lw lb lc la lh ls lt li lj ll lm lx ly ln lo lf ld le lg lz : Letter
  deriving Discrete as Letter_discrete

-- P, R, O, K and V before a type
pub data Wrap : Type 0 where
  wP wR wO wK wV : Wrap
  deriving Discrete as Wrap_discrete

-- b, i, j, l and m of a literal
pub data Kind : Type 0 where
  kb ki kj kl km : Kind
  deriving Discrete as Kind_discrete

-- A class is built from the left: `root n` is its first part, `sub t n` has one part more, `app t xs` has arguments on its last part.
-- So a class and each of its leading stretches is a `Ty`, and an entry of the table is a subtree.
-- `lit k minus digits` is a literal; it stands only as an argument.
mutual
  pub data Ty : Type 0 where
    letter : Letter → Ty
    wrap : Wrap → Ty → Ty
    root : Text → Ty
    sub : Ty → Text → Ty
    app : Ty → Args → Ty
    lit : Kind → Bool → Text → Ty
    deriving Discrete as Ty_discrete

  -- arguments, or the types of a function's parameters
  pub data Args : Type 0 where
    one : Ty → Args
    also : Ty → Args → Args
    deriving Discrete as Args_discrete

-- a function: whether it has K, its name, and its parameters if there are any
pub data Enc : Type 0 where
  enc : Bool → Ty → Option Args → Enc

unfoldable pub ty_discrete : (t u : Ty) → Dec (t ≡ u)
unfolding text_discrete
ty_discrete = Ty_discrete Letter_discrete Wrap_discrete text_discrete Kind_discrete Bool-discrete

abbrev pub yes_no : {A : Type 0} → Dec A → Bool
yes_no (yes a) = true
yes_no (no f) = false

-- the two trees are equal
unfoldable pub same_ty : Ty → Ty → Bool
same_ty t u = yes_no (ty_discrete t u)

yes_true : (t u : Ty) (d : Dec (t ≡ u)) → yes_no d ≡ true → t ≡ u
yes_true t u (yes a) h = a
yes_true t u (no f) h = cc

pub same_ty_eq : (t u : Ty) → same_ty t u ≡ true → t ≡ u
unfolding same_ty
same_ty_eq t u h = yes_true t u (ty_discrete t u) h

true_yes : (t : Ty) (d : Dec (t ≡ t)) → yes_no d ≡ true
true_yes t (yes a) = refl
true_yes t (no f) = absurd (f refl)

pub same_ty_yes : (t : Ty) → same_ty t t ≡ true
unfolding same_ty
same_ty_yes t = true_yes t (ty_discrete t t)

-- ---------------------------------------------------------------- kinds of trees

abbrev pub is_lit : Ty → Bool
is_lit (letter l) = false
is_lit (wrap c t) = false
is_lit (root n) = false
is_lit (sub t n) = false
is_lit (app t xs) = false
is_lit (lit k g v) = true

abbrev pub is_class : Ty → Bool
is_class (letter l) = false
is_class (wrap c t) = false
is_class (root n) = true
is_class (sub t n) = true
is_class (app t xs) = true
is_class (lit k g v) = false

-- a class whose last part has no arguments
abbrev pub is_bare : Ty → Bool
is_bare (letter l) = false
is_bare (wrap c t) = false
is_bare (root n) = true
is_bare (sub t n) = true
is_bare (app t xs) = false
is_bare (lit k g v) = false

-- a class of one part
abbrev pub single : Ty → Bool
single (letter l) = false
single (wrap c t) = false
single (root n) = true
single (sub t n) = false
single (app t xs) = single t
single (lit k g v) = false

-- R or O stands on top
abbrev pub is_ref : Ty → Bool
is_ref (letter l) = false
is_ref (wrap wP t) = false
is_ref (wrap wR t) = true
is_ref (wrap wO t) = true
is_ref (wrap wK t) = false
is_ref (wrap wV t) = false
is_ref (root n) = false
is_ref (sub t n) = false
is_ref (app t xs) = false
is_ref (lit k g v) = false

-- K or V stands on top
abbrev pub is_qual : Ty → Bool
is_qual (letter l) = false
is_qual (wrap wP t) = false
is_qual (wrap wR t) = false
is_qual (wrap wO t) = false
is_qual (wrap wK t) = true
is_qual (wrap wV t) = true
is_qual (root n) = false
is_qual (sub t n) = false
is_qual (app t xs) = false
is_qual (lit k g v) = false

-- ---------------------------------------------------------------- bytes of the letters

abbrev pub letter_code : Letter → ℕ
letter_code lv = code "v"
letter_code lw = code "w"
letter_code lb = code "b"
letter_code lc = code "c"
letter_code la = code "a"
letter_code lh = code "h"
letter_code ls = code "s"
letter_code lt = code "t"
letter_code li = code "i"
letter_code lj = code "j"
letter_code ll = code "l"
letter_code lm = code "m"
letter_code lx = code "x"
letter_code ly = code "y"
letter_code ln = code "n"
letter_code lo = code "o"
letter_code lf = code "f"
letter_code ld = code "d"
letter_code le = code "e"
letter_code lg = code "g"
letter_code lz = code "z"

abbrev pub wrap_code : Wrap → ℕ
wrap_code wP = code "P"
wrap_code wR = code "R"
wrap_code wO = code "O"
wrap_code wK = code "K"
wrap_code wV = code "V"

abbrev pub kind_code : Kind → ℕ
kind_code kb = code "b"
kind_code ki = code "i"
kind_code kj = code "j"
kind_code kl = code "l"
kind_code km = code "m"

-- ---------------------------------------------------------------- the printed name

-- the word of the grammar's table
unfoldable pub word : Letter → Text
word l = choose (word_for letters (letter_code l ∷ [])) (λ w. w) []

abbrev pub suffix : Wrap → Text
suffix wP = b "*"
suffix wR = b "&"
suffix wO = b "&&"
suffix wK = b " const"
suffix wV = b " volatile"

-- what follows a literal's digits
abbrev pub mark : Kind → Text
mark kb = []
mark ki = []
mark kj = b "u"
mark kl = b "l"
mark km = b "ul"

abbrev pub sign : Bool → Text
sign true = b "-"
sign false = []

abbrev pub literal : Kind → Bool → Text → Text
literal kb g v = if same v (b "1") then b "true" otherwise b "false"
literal ki g v = sign g ++ (v ++ mark ki)
literal kj g v = sign g ++ (v ++ mark kj)
literal kl g v = sign g ++ (v ++ mark kl)
literal km g v = sign g ++ (v ++ mark km)

-- the text ends in >
abbrev pub closes : Ty → Bool
closes (letter l) = false
closes (wrap c t) = false
closes (root n) = false
closes (sub t n) = false
closes (app t xs) = true
closes (lit k g v) = false

abbrev pub last_closes : Args → Bool
last_closes (one t) = closes t
last_closes (also t xs) = last_closes xs

-- no >> comes about
abbrev pub shut : Bool → Text
shut true = b " >"
shut false = b ">"

unfoldable mutual
  pub print : Ty → Text
  print (letter l) = word l
  print (wrap c t) = print t ++ suffix c
  print (root n) = n
  print (sub t n) = print t ++ (b "::" ++ n)
  print (app t xs) = print t ++ (b "<" ++ (print_args xs ++ shut (last_closes xs)))
  print (lit k g v) = literal k g v

  pub print_args : Args → Text
  print_args (one t) = print t
  print_args (also t xs) = print t ++ (b ", " ++ print_args xs)

-- the only parameter is v, which prints nothing
abbrev pub is_void : Args → Bool
is_void (one t) = same_ty t (letter lv)
is_void (also t xs) = false

abbrev pub inside : Bool → Args → Text
inside true xs = []
inside false xs = print_args xs

abbrev pub tail : Bool → Text
tail true = b " const"
tail false = []

unfoldable pub print_enc : Enc → Text
print_enc (enc c t none) = print t ++ tail c
print_enc (enc c t (some xs)) = print t ++ (b "(" ++ (inside (is_void xs) xs ++ (b ")" ++ tail c)))
