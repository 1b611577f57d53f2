-- From a printed name back to its tree: an automaton over words and marks, with the open lists on a stack. It is lax: what it
-- gives is the tree of the name if that tree prints the name.
use Rattle.std.specs.Prelude.{Bool, true, false, List, [], ◌∷◌, ◌++◌, ℕ, eqb}
use Rattle.std.proofs.Math.Option.{Option, none, some}
use Prim.Native.Char.{code}
use Rattle.grammar.specs.Text.{Text, b, if◌then◌otherwise◌, same, run, past, digit}
use Rattle.grammar.specs.Tables.{Row, ◌⇒◌}
use Rattle.catalogue.specs.Bytes.{first}
use Rattle.catalogue.specs.Tree.{Ty, Args, Enc, Kind, letter, wrap, root, sub, app, lit, one, also, enc, print, lv, lw, lb, lc, la, lh, ls, lt, li, lj}
use Rattle.catalogue.specs.Tree.{ll, lm, lx, ly, ln, lo, lf, ld, le, lg, lz, wP, wR, wO, wK, wV, kb, ki, kj, kl, km}
use Rattle.catalogue.specs.Laws.Words.{Token, a_word, a_mark, lex}

-- ---------------------------------------------------------------- words with a meaning

unfoldable pub find : Text → List (Row Ty) → Ty → Ty
find x [] d = d
find x ((w ⇒ t) ∷ rows) d = if same x (b w) then t otherwise find x rows d

-- the words that no source name is, in document 01's order
unfoldable pub words : List (Row Ty)
words =
    "void" ⇒ letter lv
    ∷ "wchar_t" ⇒ letter lw
    ∷ "bool" ⇒ letter lb
    ∷ "char" ⇒ letter lc
    ∷ "short" ⇒ letter ls
    ∷ "int" ⇒ letter li
    ∷ "long" ⇒ letter ll
    ∷ "__int128" ⇒ letter ln
    ∷ "float" ⇒ letter lf
    ∷ "double" ⇒ letter ld
    ∷ "__float128" ⇒ letter lg
    ∷ "true" ⇒ lit kb false (b "1")
    ∷ "false" ⇒ lit kb false (b "0")
    ∷ []

-- two words or three
unfoldable pub phrases : List (Row Ty)
phrases =
    "signed char" ⇒ letter la
    ∷ "unsigned char" ⇒ letter lh
    ∷ "unsigned short" ⇒ letter lt
    ∷ "unsigned int" ⇒ letter lj
    ∷ "unsigned long" ⇒ letter lm
    ∷ "long long" ⇒ letter lx
    ∷ "unsigned long long" ⇒ letter ly
    ∷ "unsigned __int128" ⇒ letter lo
    ∷ "long double" ⇒ letter le
    ∷ []

unfoldable pub kind_of : Text → Kind
kind_of m = if same m (b "u") then kj otherwise if same m (b "l") then kl otherwise if same m (b "ul") then km otherwise ki

unfoldable pub number_of : Bool → Text → Ty
number_of g x = lit (kind_of (past (digit 10) x)) g (run (digit 10) x)

unfoldable pub from_word : Text → Ty
from_word x = if first (digit 10) x then number_of false x otherwise find x words (root x)

-- ---------------------------------------------------------------- the automaton

-- what is open: the function's name; or a list, of arguments or of parameters, with what it belongs to and its items, last first
pub data Bracket : Type 0 where
  angle paren : Bracket

pub data Frame : Type 0 where
  at_name : Frame
  items : Bracket → Ty → List Ty → Frame

pub data State : Type 0 where
  want : List Frame → State
  have : Ty → List Frame → State
  gap : Ty → List Frame → State
  colon : Ty → List Frame → State
  scope : Ty → List Frame → State
  comma : List Frame → State
  minus : List Frame → State
  dot : List Frame → State
  dots : List Frame → State
  closed : Ty → Args → State
  closed_gap : Ty → Args → State
  closed_const : Ty → Args → State
  bad : State

-- items, last first, put in order before those that follow
unfoldable pub gather : List Ty → Args → Args
gather [] xs = xs
gather (t ∷ ts) xs = gather ts (also t xs)

-- & is R, and a second & makes it O: R never stands on R
abbrev pub ampersand : Ty → Ty
ampersand (letter l) = wrap wR (letter l)
ampersand (wrap wP t) = wrap wR (wrap wP t)
ampersand (wrap wR t) = wrap wO t
ampersand (wrap wO t) = wrap wR (wrap wO t)
ampersand (wrap wK t) = wrap wR (wrap wK t)
ampersand (wrap wV t) = wrap wR (wrap wV t)
ampersand (root n) = wrap wR (root n)
ampersand (sub t n) = wrap wR (sub t n)
ampersand (app t xs) = wrap wR (app t xs)
ampersand (lit k g v) = wrap wR (lit k g v)

abbrev close_angle : Ty → List Frame → State
close_angle t [] = bad
close_angle t (at_name ∷ k) = bad
close_angle t (items angle c ts ∷ k) = have (app c (gather ts (one t))) k
close_angle t (items paren c ts ∷ k) = bad

abbrev next_item : Ty → List Frame → State
next_item t [] = bad
next_item t (at_name ∷ k) = bad
next_item t (items m c ts ∷ k) = comma (items m c (t ∷ ts) ∷ k)

abbrev open_paren : Ty → List Frame → State
open_paren t [] = bad
open_paren t (at_name ∷ k) = want (items paren t [] ∷ [])
open_paren t (items m c ts ∷ k) = bad

abbrev close_paren : Ty → List Frame → State
close_paren t [] = bad
close_paren t (at_name ∷ k) = bad
close_paren t (items angle c ts ∷ k) = bad
close_paren t (items paren c ts ∷ k) = closed c (gather ts (one t))

-- () is a lone void
abbrev no_item : List Frame → State
no_item [] = bad
no_item (at_name ∷ k) = bad
no_item (items angle c ts ∷ k) = bad
no_item (items paren c ts ∷ k) = closed c (one (letter lv))

abbrev at_want : List Frame → ℕ → State
at_want k c =
    if eqb c (code "-") then minus k otherwise
    if eqb c (code ".") then dot k otherwise
    if eqb c (code ")") then no_item k otherwise bad

abbrev at_have : Ty → List Frame → ℕ → State
at_have t k c =
    if eqb c (code "*") then have (wrap wP t) k otherwise
    if eqb c (code "&") then have (ampersand t) k otherwise
    if eqb c (code " ") then gap t k otherwise
    if eqb c (code ":") then colon t k otherwise
    if eqb c (code "<") then want (items angle t [] ∷ k) otherwise
    if eqb c (code ">") then close_angle t k otherwise
    if eqb c (code ",") then next_item t k otherwise
    if eqb c (code "(") then open_paren t k otherwise
    if eqb c (code ")") then close_paren t k otherwise bad

-- a word after a space: const or volatile, or the next word of a phrase
abbrev joined : Ty → Text → Ty
joined t x =
    if same x (b "const") then wrap wK t otherwise
    if same x (b "volatile") then wrap wV t otherwise find (print t ++ (code " " ∷ x)) phrases t

unfoldable pub step : State → Token → State
step (want k) (a_word x) = have (from_word x) k
step (want k) (a_mark c) = at_want k c
step (have t k) (a_word x) = bad
step (have t k) (a_mark c) = at_have t k c
step (gap t k) (a_word x) = have (joined t x) k
step (gap t k) (a_mark c) = if eqb c (code ">") then close_angle t k otherwise bad
step (colon t k) (a_word x) = bad
step (colon t k) (a_mark c) = if eqb c (code ":") then scope t k otherwise bad
step (scope t k) (a_word x) = have (sub t x) k
step (scope t k) (a_mark c) = bad
step (comma k) (a_word x) = bad
step (comma k) (a_mark c) = if eqb c (code " ") then want k otherwise bad
step (minus k) (a_word x) = have (number_of true x) k
step (minus k) (a_mark c) = bad
step (dot k) (a_word x) = bad
step (dot k) (a_mark c) = if eqb c (code ".") then dots k otherwise bad
step (dots k) (a_word x) = bad
step (dots k) (a_mark c) = if eqb c (code ".") then have (letter lz) k otherwise bad
step (closed t xs) (a_word x) = bad
step (closed t xs) (a_mark c) = if eqb c (code " ") then closed_gap t xs otherwise bad
step (closed_gap t xs) (a_word x) = if same x (b "const") then closed_const t xs otherwise bad
step (closed_gap t xs) (a_mark c) = bad
step (closed_const t xs) (a_word x) = bad
step (closed_const t xs) (a_mark c) = bad
step bad (a_word x) = bad
step bad (a_mark c) = bad

unfoldable pub walk : List Token → State → State
walk [] q = q
walk (t ∷ ts) q = walk ts (step q t)

unfoldable pub result : State → Option Enc
result (want k) = none
result (have t []) = none
result (have t (at_name ∷ [])) = some (enc false t none)
result (have t (at_name ∷ f ∷ k)) = none
result (have t (items m c ts ∷ k)) = none
result (gap t k) = none
result (colon t k) = none
result (scope t k) = none
result (comma k) = none
result (minus k) = none
result (dot k) = none
result (dots k) = none
result (closed t xs) = some (enc false t (some xs))
result (closed_gap t xs) = none
result (closed_const t xs) = some (enc true t (some xs))
result bad = none

-- the tree of a printed name
unfoldable pub parse_name : Text → Option Enc
parse_name s = result (walk (lex s) (want (at_name ∷ [])))
