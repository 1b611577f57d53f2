-- The productions of the ABI's chapter 5.1 as the Rust reads them, and thunks, which the Rust refuses, by document 02 (T-01). Each
-- reader stands below its production: those of letters and digits alone first, then the others in the ABI's order. A reader starts
-- at its production's first byte, or behind the letter that its comment names, and returns the text that is printed. The twelve
-- productions of the type `Production` are read by `read`; a part that only one of them has stands above it. D-1, D-2, .. are the
-- Rust's departures from the ABI, by their numbers in docs/DIFFERENCES.md.
use Rattle.std.specs.Prelude.{ℕ, zero, suc, ◌+◌, ◌-◌, ◌*◌, ◌^◌, Bool, true, false, not, ◌&&◌, ◌||◌, List, [], ◌∷◌, ◌++◌, length, take, drop, ◌==◌, nat_le, nat_lt}
use Rattle.std.proofs.Math.Option.{Option, none, some}
use Prim.Native.Char.{code}
use Prim.Native.String.{String}
use Rattle.std.proofs.Math.ListN.{get_elem?}
use Rattle.grammar.specs.Text.{Text, b, if◌then◌otherwise◌, choose, same, starts, holds, ends, run, join, each, after_last, digit, number, decimal}
use Rattle.grammar.specs.Tables.{Row, ◌⇒◌, letters, d_letters, operators, labels, abbreviations, qualifiers, wrappers, suffixes}
use Rattle.grammar.specs.Reader.{refused, Reader, onto, ◌>>=◌, ◌>>◌, return, refuse, unfit, start, the, ahead, go_to, set_args, set_cv, set_templated}
use Rattle.grammar.specs.Reader.{push_sub, push_arg, give, recorded, entered, word_for, by_code, cases, at_code, eat, need, see, any, every, while, up_to_E, one_more}

pub data Production : Type 0 where
  ⟨encoding⟩ ⟨name⟩ ⟨nested-name⟩ ⟨unqualified-name⟩ ⟨source-name⟩ ⟨operator-name⟩ : Production
  ⟨type⟩ ⟨template-param⟩ ⟨template-args⟩ ⟨template-arg⟩ ⟨expr-primary⟩ ⟨substitution⟩ : Production

-- ---------------------------------------------------------------- what is printed

-- byte 1, the Rust's SLOT, marks where the declarator of a function type goes; one in the symbol counts too (D-41)
abbrev pub slot : ℕ
slot = 1

-- a text put in front of each slot
unfoldable pub at_slots : Text → Text → Text
at_slots w t = each (λ x. if x == slot then w ++ (x ∷ []) otherwise x ∷ []) t

-- the types are one, whose text is void, be it written v or not (D-18)
unfoldable pub only_void : List Text → Bool
only_void [] = false
only_void (t ∷ []) = same t (b "void")
only_void (t ∷ u ∷ ts) = false

-- template arguments between < and >, so that no >> comes about
unfoldable pub angled : List Text → Text
angled ts = let t = b "<" ++ join (b ", ") ts in t ++ (if ends (code ">") t then b " >" otherwise b ">")

unfoldable pub last : List Text → Option Text
last [] = none
last (t ∷ []) = some t
last (t ∷ u ∷ ts) = last (u ∷ ts)

unfoldable pub onto_last : Text → List Text → List Text
onto_last w [] = []
onto_last w (t ∷ []) = (t ++ w) ∷ []
onto_last w (t ∷ u ∷ ts) = t ∷ onto_last w (u ∷ ts)

unfoldable pub qualifier : ℕ → Text
qualifier c = choose (word_for qualifiers (c ∷ [])) (λ x. x) []

-- the class that a constructor or destructor is named after: the last part up to <, of that what follows the last ::
unfoldable pub class_of : List Text → Text
class_of ts = choose (last ts) (λ t. let c = run (λ x. not (x == (code "<"))) t in after_last (b "::") c c) []

-- a literal's value by its type's text (D-29)
unfoldable pub literal : Text → Text → Text
literal t v =
    let w = (if starts v (b "n") then b "-" ++ drop 1 v otherwise v) in
    if same t (b "bool") then (if same w (b "1") then b "true" otherwise b "false") otherwise
    choose (word_for suffixes t) (λ x. w ++ x) (b "(" ++ t ++ b ")" ++ w)

-- ---------------------------------------------------------------- what stands ahead

-- the symbol's name and its parameters end at the end or at a dot
unfoldable pub ended : Text → Bool
ended t = same t [] || starts t (b ".")

-- a digit stands first
unfoldable pub digit_ahead : Text → Bool
digit_ahead [] = false
digit_ahead (x ∷ t) = digit 10 x

-- St, and a digit, C or D: where not, St stands for the namespace alone (D-33)
unfoldable pub std_ahead : Text → Bool
std_ahead [] = false
std_ahead (x ∷ []) = false
std_ahead (x ∷ y ∷ []) = false
std_ahead (x ∷ y ∷ z ∷ t) = starts (x ∷ y ∷ []) (b "St") && (digit 10 z || holds z (b "CD"))

-- C or D, and a digit or C (D-24)
unfoldable pub structor_ahead : Text → Bool
structor_ahead [] = false
structor_ahead (x ∷ []) = false
structor_ahead (x ∷ y ∷ t) = holds x (b "CD") && (digit 10 y || y == (code "C"))

-- what is left where all open expressions are closed: X opens one, E closes one
unfoldable pub open_after : ℕ → ℕ → ℕ
open_after c d = if c == (code "X") then d + 1 otherwise if c == (code "E") then d - 1 otherwise d

unfoldable pub skipped : Text → ℕ → Option Text
skipped [] zero = some []
skipped [] (suc d) = none
skipped (c ∷ t) zero = some (c ∷ t)
skipped (c ∷ t) (suc d) = skipped t (open_after c (suc d))

-- <seq-id> _ and <number> _: nothing is 0, and a number one more than itself
unfoldable pub index : ℕ → Text → ℕ
index base [] = 0
index base (c ∷ t) = number base 0 (c ∷ t) + 1

-- the parts of a nested name so far, and whether a constructor or destructor was among them
pub record Parts : Type 0 where
  pub texts : List Text
  pub structor : Bool

-- ---------------------------------------------------------------- productions of letters and digits alone

-- <unnamed-type-name> ::= Ut [<number>] _, behind U, or U and any other byte (D-25)
-- <closure-type-name> ::= Ul <lambda-sig> E [<number>] _: what stands before the E is not read (D-5)
unfoldable pub unnamed_type_name : Reader Text
unnamed_type_name = do
  kind ← any
  let lambda = kind == (code "l")
  if lambda then (do every (λ c. not (c == (code "E"))); need "E") otherwise return tt
  every (digit 10)
  eat "_"
  give (if lambda then b "{lambda}" otherwise b "{unnamed}")

-- <template-param> ::= T_ | T <number> _: no entry (D-8); an absent argument prints its number (D-34)
unfoldable pub template_param : Reader Text
template_param = do
  need "T"
  d ← every (digit 10)
  need "_"
  let i = index 10 d
  l ← the λ s. s.args
  if nat_lt i (2 ^ 64) then choose (get_elem? l i) give (give (b "T" ++ decimal 20 i)) otherwise unfit

-- <substitution> ::= St | Sa | .. | S_ | S <seq-id> _, with small letters too (D-31); 7: an entry past the table
unfoldable pub substitution : Reader Text
substitution = do
  need "S"
  by_code abbreviations (λ w. give (b w)) do
    d ← every (digit 36)
    need "_"
    l ← the λ s. s.subs
    choose (get_elem? l (index 36 d)) give (refuse 7)

-- <number> _, of a thunk's offset: "an offset being one or more decimal digits with `n` in front for minus"
unfoldable pub unsigned : Reader (Unit {0})
unsigned = do
  d ← every (digit 10)
  if same d [] then unfit otherwise need "_"

unfoldable pub offset : Reader (Unit {0})
offset = do
  eat "n"
  unsigned

-- the text of a reader, with a label before it
abbrev pub labelled : Text → Reader Text → Reader Text
labelled w m = do
  t ← m
  give (w ++ t)

-- ---------------------------------------------------------------- the productions made of others

module _ (read : Production → Reader Text) where
  -- ---------------------------------------------------------------- encodings

  -- <bare-function-type> ::= <type>+
  -- A lone void prints nothing at the end of the symbol, but prints before a dot (D-19). Types may be missing (D-56).
  unfoldable pub bare_function_type : Reader Text
  bare_function_type = do
    ts ← while (λ t. not (ended t)) (one_more (read ⟨type⟩)) []
    t ← ahead
    give (if only_void ts && same t [] then [] otherwise join (b ", ") ts)

  -- <encoding> ::= <function name> <bare-function-type> | <data name>
  -- The qualifiers are those of the nested name read last, be it a part of the name (D-3) or the function of a local
  -- name (D-22). Whether a return type stands before the parameters is settled by the list read last (D-21).
  unfoldable pub function_or_data : Reader Text
  function_or_data = do
    n ← read ⟨name⟩
    q ← the λ s. s.cv
    set_cv []
    t ← ahead
    if ended t then give (n ++ q) otherwise do
      templated ← the λ s. s.templated
      r ← (if templated then (do r ← read ⟨type⟩; return (r ++ b " ")) otherwise return [])
      ps ← bare_function_type
      give (r ++ n ++ b "(" ++ ps ++ b ")" ++ q)

  -- the rest of the symbol read from an empty state; what that leaves unread is dropped (D-13)
  unfoldable pub anew : Production → Reader Text
  anew k s = onto (λ t _. (do go_to []; return t) s) (read k (start s.rest))

  -- <special-name> ::= T <call-offset> <base encoding>
  -- <call-offset> ::= h <offset number> _ | v <offset number> _ <virtual offset number> _
  -- "Th carries an offset and `_`, Tv two offsets each with `_` .. then a name follows with its parameters, if any, as document 01 reads
  -- them without a label. Print "non-virtual thunk to " or "virtual thunk to " and the encoding's name."
  unfoldable pub thunks : List (Row (Reader Text))
  thunks =
      "Th" ⇒ (do offset; labelled (b "non-virtual thunk to ") function_or_data)
      ∷ "Tv" ⇒ (do offset; offset; labelled (b "virtual thunk to ") function_or_data)
      ∷ []

  -- <special-name> ::= TV <type> | TT <type> | TI <type> | TS <type> | GV <object name> | GTt <encoding>
  -- <encoding> ::= <special-name> | <function name> <bare-function-type> | <data name>, with rows for other special names
  unfoldable pub encoding_with : List (Row (Reader Text)) → Reader Text
  encoding_with rows = by_code labels (λ w. labelled (b w) (read ⟨type⟩)) (cases
      ("GTt" ⇒ labelled (b "transaction clone for ") (anew ⟨encoding⟩)
      ∷ "GV" ⇒ labelled (b "guard variable for ") (anew ⟨name⟩)
      ∷ rows)
      function_or_data)

  -- Thunks "stand directly after the `_Z` or `__Z` in front, or after `GTt`". Other special names are 4 (D-39).
  unfoldable pub encoding : Reader Text
  encoding = encoding_with thunks

  -- ---------------------------------------------------------------- names

  -- template arguments behind a name: they replace those so far, also inside another list (D-2)
  unfoldable pub name_args : Reader Text
  name_args = do
    set_args []
    read ⟨template-args⟩

  -- a name with its arguments: an entry, a function's name too (D-7)
  unfoldable pub name_instance : Text → Reader Text
  name_instance x = do
    a ← name_args
    set_templated true
    recorded (x ++ a)

  -- <unscoped-name> ::= St <unqualified-name>, with its arguments if there are any: an entry, a function's name too (D-15)
  unfoldable pub std_name : Reader Text
  std_name = do
    need "St"
    x ← read ⟨unqualified-name⟩
    let n = b "std::" ++ x
    push_sub n
    at_code ("I" ⇒ name_instance n ∷ []) (give n)

  -- <name> ::= <unscoped-name> | <substitution> <template-args>, or the reference alone (D-55), at S
  unfoldable pub s_name : Reader Text
  s_name = do
    t ← ahead
    if std_ahead t then std_name otherwise do
      x ← read ⟨substitution⟩
      at_code ("I" ⇒ name_instance x ∷ []) (return x)

  -- <name> ::= <unscoped-name> | <unscoped-template-name> <template-args>, elsewhere
  unfoldable pub unscoped_name : Reader Text
  unscoped_name = do
    x ← read ⟨unqualified-name⟩
    at_code ("I" ⇒ (do push_sub x; name_instance x) ∷ []) (return x)

  -- <encoding> of a local name, with its E: all types behind the name are parameters (D-20)
  unfoldable pub local_encoding : Reader Text
  local_encoding = do
    n ← read ⟨name⟩
    bare ← see "E"
    ps ← (if bare then return [] otherwise do
      ts ← while (λ t. not (same t [] || starts t (b "E"))) (one_more (read ⟨type⟩)) []
      w ← give (join (b ", ") ts)
      return (b "(" ++ w ++ b ")"))
    need "E"
    give (n ++ ps)

  -- <local-name> ::= Z <function encoding> E <entity name> | Z <function encoding> E s, without a discriminator (D-17)
  -- or a default argument's number (D-54)
  unfoldable pub local_name : Reader Text
  local_name = do
    need "Z"
    outer ← local_encoding
    cases ("s" ⇒ give (outer ++ b "::string literal") ∷ []) (do n ← read ⟨name⟩; give (outer ++ b "::" ++ n))

  -- <name> ::= <nested-name> | <local-name> | L <name> | the above (D-37)
  unfoldable pub name_inner : Reader Text
  name_inner = at_code
      ("N" ⇒ read ⟨nested-name⟩ ∷ "S" ⇒ s_name ∷ "L" ⇒ (do need "L"; read ⟨name⟩) ∷ "Z" ⇒ local_name ∷ [])
      unscoped_name

  unfoldable pub name : Reader Text
  name = entered name_inner

  -- ---------------------------------------------------------------- nested names

  -- <ctor-dtor-name> ::= C1 | C2 | C3 | D0 | D1 | D2: the class again, and no entry (D-24)
  unfoldable pub ctor_dtor_name : Parts → Reader Parts
  ctor_dtor_name p = do
    t ← ahead
    go_to (drop 2 t)
    let x = (if starts t (b "D") then b "~" otherwise []) ++ class_of p.texts
    return (record { texts = p.texts ++ (x ∷ []); structor = true })

  -- <prefix> ::= <substitution>: no new entry
  unfoldable pub old_prefix : Parts → Reader Parts
  old_prefix p = do
    x ← read ⟨substitution⟩
    return (record { texts = p.texts ++ (x ∷ []); structor = p.structor })

  -- <prefix> ::= <template-prefix> <template-args>: an entry, at the end of a function's name too (D-7)
  unfoldable pub prefix_args : Parts → Reader Parts
  prefix_args p = do
    a ← name_args
    choose (last p.texts) (λ _. push_sub (join (b "::") (onto_last a p.texts))) unfit
    final ← see "E"
    set_templated final
    return (record { texts = onto_last a p.texts; structor = p.structor })

  -- <prefix> ::= <prefix> <unqualified-name> | <prefix> <template-param>: an entry, unless it is the last part
  unfoldable pub new_prefix : Production → Parts → Reader Parts
  new_prefix k p = do
    x ← read k
    let l = p.texts ++ (x ∷ [])
    final ← see "E"
    if final then return tt otherwise push_sub (join (b "::") l)
    return (record { texts = l; structor = p.structor })

  -- one part more; references and template parameters may stand anywhere among the parts (D-27), other prefixes are 4 (D-52)
  unfoldable pub prefix : Parts → Reader Parts
  prefix p = do
    t ← ahead
    if structor_ahead t then ctor_dtor_name p otherwise at_code
        ("S" ⇒ old_prefix p ∷ "I" ⇒ prefix_args p ∷ "T" ⇒ new_prefix ⟨template-param⟩ p ∷ [])
        (new_prefix ⟨unqualified-name⟩ p)

  -- <nested-name> ::= N [<CV-qualifiers>] [<ref-qualifier>] <prefix> <unqualified-name> E
  -- Qualifiers may stand in any order (D-26), and parts may be missing (D-27). What the qualifiers print is kept for
  -- the encoding (D-3).
  unfoldable pub nested_name : Reader Text
  nested_name = do
    need "N"
    q ← every (λ c. holds c (b "KVrRO"))
    p ← up_to_E prefix (record { texts = []; structor = false })
    set_cv (each qualifier q)
    if p.structor then set_templated false otherwise return tt
    give (join (b "::") p.texts)

  -- ---------------------------------------------------------------- unqualified names

  -- <unqualified-name> ::= <operator-name> | <ctor-dtor-name> | <source-name> | <unnamed-type-name>
  -- A constructor or destructor without its class is C or D and any byte (D-23); L may stand in front (D-37).
  unfoldable pub unqualified_name : Reader Text
  unqualified_name = cases
      ("C" ⇒ (do any; give (b "{ctor}"))
      ∷ "D" ⇒ (do any; give (b "{dtor}"))
      ∷ "U" ⇒ unnamed_type_name
      ∷ "L" ⇒ read ⟨unqualified-name⟩
      ∷ [])
      (do
        d ← the λ s. digit_ahead s.rest
        read (if d then ⟨source-name⟩ otherwise ⟨operator-name⟩))

  -- <source-name> ::= <positive length number> <identifier>, with leading zeros (D-31)
  -- <abi-tags> ::= B <source-name>: a tag takes those behind it into itself (D-11)
  unfoldable pub source_name : Reader Text
  source_name = do
    d ← every (digit 10)
    t ← ahead
    let n = number 10 0 d
    if nat_le 1 n && nat_le n (length t) then (do
      go_to (drop n t)
      cases ("B" ⇒ (do w ← read ⟨source-name⟩; give (take n t ++ b "[abi:" ++ w ++ b "]")) ∷ []) (give (take n t))) otherwise unfit

  -- <operator-name> ::= nw | .. | cv <type>, without tags (D-42); ABI operators outside the table are 4 (D-39)
  -- The type of cv takes T_ from the arguments so far (D-44); arguments behind it make it a template again (D-43).
  unfoldable pub operator_name : Reader Text
  operator_name = by_code operators (λ w. give (b w)) (cases
      ("cv" ⇒ (do
        t ← read ⟨type⟩
        set_templated false
        give (b "operator " ++ t))
      ∷ [])
      unfit)

  -- ---------------------------------------------------------------- types

  -- <qualified-type> ::= <CV-qualifiers> <type>: each of r, V and K is an entry (D-10)
  -- <type> ::= P <type> | R <type> | O <type> | C <type>, behind the letter: put at each slot of the text below (D-12), before F too (D-48),
  -- or behind it, an array too (D-47); references aren't collapsed (D-50)
  unfoldable pub wrapped : String × String → Reader Text
  wrapped w = do
    t ← read ⟨type⟩
    recorded (if holds slot t then at_slots (b w.1) t otherwise t ++ b w.0)

  -- <function-type> ::= F <bare-function-type> E, behind F, without Y or a <ref-qualifier> (D-40); a slot in parentheses (D-49)
  unfoldable pub function_type : Reader Text
  function_type = do
    r ← read ⟨type⟩
    ts ← up_to_E (one_more (read ⟨type⟩)) []
    recorded (r ++ b " (" ++ (slot ∷ []) ++ b ")(" ++ (if only_void ts then [] otherwise join (b ", ") ts) ++ b ")")

  -- <array-type> ::= A [<dimension>] _ <type>, behind A: the dimension is not read (D-32), and the type is no entry (D-9)
  unfoldable pub array_type : Reader Text
  array_type = do
    n ← every (λ c. not (c == (code "_")))
    need "_"
    t ← read ⟨type⟩
    give (t ++ b " [" ++ n ++ b "]")

  -- <pointer-to-member-type> ::= M <class type> <member type>, behind M: put at each slot of the member (D-12)
  unfoldable pub pointer_to_member_type : Reader Text
  pointer_to_member_type = do
    c ← read ⟨type⟩
    m ← read ⟨type⟩
    recorded (if holds slot m then at_slots (c ++ b "::*") m otherwise m ++ b " " ++ c ++ b "::*")

  -- a type with its arguments: an entry
  unfoldable pub type_instance : Text → Reader Text
  type_instance x = do
    a ← read ⟨template-args⟩
    recorded (x ++ a)

  -- <class-enum-type> ::= <nested-name>: an entry, unless the newest entry has the same text (D-28)
  unfoldable pub nested_type : Reader Text
  nested_type = do
    t ← read ⟨nested-name⟩
    l ← the λ s. s.subs
    if choose (last l) (same t) false then return t otherwise recorded t

  -- <class-enum-type> ::= <source-name> [<template-args>]
  unfoldable pub class_type : Reader Text
  class_type = do
    x ← read ⟨source-name⟩
    push_sub x
    at_code ("I" ⇒ type_instance x ∷ []) (give x)

  -- <class-enum-type> ::= <unscoped-name>; <type> ::= <substitution> [<template-args>], at S
  unfoldable pub s_type : Reader Text
  s_type = do
    t ← ahead
    if std_ahead t then std_name otherwise do
      x ← read ⟨substitution⟩
      at_code ("I" ⇒ type_instance x ∷ []) (return x)

  -- <type> ::= <builtin-type> | <qualified-type> | P <type> | .. | the above, and u <source-name>, which is no entry (D-16)
  -- Other types are 4 (D-35), arguments behind a template parameter too (D-51).
  unfoldable pub type_inner : Reader Text
  type_inner =
      by_code letters (λ w. give (b w))
      (by_code d_letters (λ w. give (b w))
      (by_code wrappers wrapped
      (cases
      ("F" ⇒ function_type
      ∷ "A" ⇒ array_type
      ∷ "M" ⇒ pointer_to_member_type
      ∷ "u" ⇒ read ⟨source-name⟩
      ∷ [])
      (at_code
      ("N" ⇒ nested_type
      ∷ "T" ⇒ read ⟨template-param⟩
      ∷ "S" ⇒ s_type
      ∷ [])
      class_type))))

  unfoldable pub type : Reader Text
  type = entered type_inner

  -- ---------------------------------------------------------------- template arguments

  -- <template-args> ::= I <template-arg>+ E, or none (D-30). The arguments of a list inside are pushed before the
  -- argument that it is part of (D-1). Declarations of parameters and constraints are 4 (D-53).
  unfoldable pub template_args : Reader Text
  template_args = do
    need "I"
    entered do
      ts ← up_to_E (one_more (do t ← read ⟨template-arg⟩; push_arg t; return t)) []
      give (angled ts)

  -- X <expression> E, behind X: not read (D-4)
  unfoldable pub expression : Reader Text
  expression = do
    t ← ahead
    choose (skipped t 1) (λ u. do go_to u; give (b "...")) unfit

  -- J <template-arg>* E, behind J: an argument pack, one argument though it be empty (D-46)
  unfoldable pub pack : Reader Text
  pack = do
    ts ← up_to_E (one_more (read ⟨template-arg⟩)) []
    give (join (b ", ") ts)

  -- <template-arg> ::= <type> | X <expression> E | <expr-primary> | J <template-arg>* E
  unfoldable pub template_arg : Reader Text
  template_arg = cases ("X" ⇒ expression ∷ "J" ⇒ pack ∷ [])
      (at_code ("L" ⇒ read ⟨expr-primary⟩ ∷ []) (read ⟨type⟩))

  -- <expr-primary> ::= L <type> <value number> E | L _ <name> E: for the ABI's L _Z <encoding> E (D-45), and the second E
  -- may be missing (D-6)
  unfoldable pub expr_primary : Reader Text
  expr_primary = do
    need "L"
    cases
        ("_" ⇒ (do n ← read ⟨name⟩; eat "E"; return n) ∷ [])
        (do
          t ← read ⟨type⟩
          v ← every (λ c. not (c == (code "E")))
          need "E"
          give (literal t v))

  unfoldable pub production : Production → Reader Text
  production ⟨encoding⟩ = encoding
  production ⟨name⟩ = name
  production ⟨nested-name⟩ = nested_name
  production ⟨unqualified-name⟩ = unqualified_name
  production ⟨source-name⟩ = source_name
  production ⟨operator-name⟩ = operator_name
  production ⟨type⟩ = type
  production ⟨template-param⟩ = template_param
  production ⟨template-args⟩ = template_args
  production ⟨template-arg⟩ = template_arg
  production ⟨expr-primary⟩ = expr_primary
  production ⟨substitution⟩ = substitution

-- a production read with so much fuel
unfoldable pub parse : ℕ → Production → Reader Text
parse zero k s = refused 0
parse (suc n) k s = production (parse n) k s

-- a production read with fuel that is enough: `reading_is` in Fuel.antt
unfoldable pub reading : Production → Reader Text
reading k s = parse (4 * suc (length s.rest)) k s
