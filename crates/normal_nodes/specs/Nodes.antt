-- The walk with a number for each tree, as the code does it. A letter's number is its byte; every other tree is a node, and its number is
-- its place among the nodes and 256. Equal trees have equal numbers. nodes-are-walk (Equal.antt): the same symbol is written.
use Rattle.std.specs.Prelude.{Bool, true, false, not, ◌&&◌, ◌||◌, List, [], ◌∷◌, ◌++◌, ℕ, zero, suc, ◌+◌, ◌-◌, eqb, leb, ltb, length, take}
use Rattle.std.proofs.Math.Option.{Option, none, some}
use Prim.Native.Char.{code}
use Rattle.std.proofs.Math.ListN.{get_elem?}
use Rattle.grammar.specs.Text.{Text, if◌then◌otherwise◌, choose, same}
use Rattle.catalogue.specs.Tree.{Ty, letter, wrap, root, sub, app, lit, kind_code}
use Rattle.catalogue.specs.Spelling.{ref_bytes, name_bytes}
use Rattle.catalogue.specs.Class.{most_arguments}
use Rattle.catalogue.specs.Recogniser.{Rd, rd, stop, if_next, Lead, lead_letter, lead_wrap, lead_digit, lead_S, lead_N, lead_L, lead_none, lead}
use Rattle.normal_walk.specs.Walk.{name, reference, literal, lit_bytes}

-- ---------------------------------------------------------------- nodes

-- by the tag: a wrapper's byte, and the number of the type below; `0`, and a first part; `N`, the number of the leading parts, and one part
-- more; `L`, the kind and 256 where there is a minus, and digits; 256 and the number of an argument, and the number of what it is put behind
pub record Node : Type 0 where
  pub tag : ℕ
  pub of : ℕ
  pub word : Text

abbrev pub node : ℕ → ℕ → Text → Node
node c n w = record { tag = c; of = n; word = w }

abbrev pub least_number : ℕ
least_number = 256

abbrev pub root_node : Text → Node
root_node n = node (code "0") 0 n

abbrev pub sub_node : ℕ → Text → Node
sub_node t n = node (code "N") t n

abbrev pub arg_node : ℕ → ℕ → Node
arg_node t x = node (least_number + x) t []

abbrev pub wrap_node : ℕ → ℕ → Node
wrap_node c t = node c t []

abbrev pub signed_kind : ℕ → Bool → ℕ
signed_kind k true = k + least_number
signed_kind k false = k

-- of a literal
abbrev pub lit_node : Ty → Node
lit_node (letter l) = node 0 0 []
lit_node (wrap c t) = node 0 0 []
lit_node (root n) = node 0 0 []
lit_node (sub t n) = node 0 0 []
lit_node (app t xs) = node 0 0 []
lit_node (lit k g v) = node (code "L") (signed_kind (kind_code k) g) v

unfoldable pub same_node : Node → Node → Bool
same_node x y = eqb x.tag y.tag && (eqb x.of y.of && same x.word y.word)

abbrev pub later : Option ℕ → Option ℕ
later none = none
later (some i) = some (suc i)

-- the place of the first that passes the test
unfoldable pub seek_by : {A : Type 0} → (A → Bool) → List A → Option ℕ
seek_by p [] = none
seek_by p (x ∷ xs) = if p x then some 0 otherwise later (seek_by p xs)

unfoldable pub node_place : Node → List Node → Option ℕ
node_place x ns = seek_by (same_node x) ns

abbrev pub number_at : Option ℕ → ℕ → ℕ
number_at none n = least_number + n
number_at (some i) n = least_number + i

-- the number of a node, which may be new
unfoldable pub number_of : Node → List Node → ℕ
number_of x ns = number_at (node_place x ns) (length ns)

abbrev pub with_new : {A : Type 0} → Option ℕ → A → List A → List A
with_new none x xs = xs ++ (x ∷ [])
with_new (some i) x xs = xs

unfoldable pub with_node : Node → List Node → List Node
with_node x ns = with_new (node_place x ns) x ns

-- the tag of a tree; a letter has none
unfoldable pub tag_of : List Node → ℕ → ℕ
tag_of ns d = if ltb d least_number then 0 otherwise choose (get_elem? ns (d - least_number)) (λ x. x.tag) 0

-- ---------------------------------------------------------------- tests by the tag

abbrev pub a_lit : ℕ → Bool
a_lit c = eqb c (code "L")

abbrev pub a_bare : ℕ → Bool
a_bare c = eqb c (code "0") || eqb c (code "N")

abbrev pub a_class : ℕ → Bool
a_class c = a_bare c || leb least_number c

abbrev pub a_ref : ℕ → Bool
a_ref c = eqb c (code "R") || eqb c (code "O")

abbrev pub a_qual : ℕ → Bool
a_qual c = eqb c (code "K") || eqb c (code "V")

-- a wrapper may stand on what has the tag
unfoldable pub may_stand : ℕ → ℕ → Bool
may_stand q c = not (a_lit c || (a_ref q && a_ref c || a_qual q && a_qual c))

-- ---------------------------------------------------------------- the table

-- the numbers without later doubles: the table of the normal symbol
unfoldable pub table_place : ℕ → List ℕ → Option ℕ
table_place d ds = seek_by (eqb d) ds

unfoldable pub add : ℕ → List ℕ → List ℕ
add d ds = with_new (table_place d ds) d ds

unfoldable pub note_add_all : List ℕ → List ℕ → List ℕ
note_add_all ds [] = ds
note_add_all ds (e ∷ es) = note_add_all (add e ds) es

abbrev pub firsts : List ℕ → List ℕ
firsts ds = note_add_all [] ds

unfoldable pub note_last_is : ℕ → List ℕ → Bool
note_last_is d [] = false
note_last_is d (e ∷ []) = eqb d e
note_last_is d (e ∷ f ∷ es) = note_last_is d (f ∷ es)

-- ---------------------------------------------------------------- what is kept

-- what is written, the nodes, the numbers of the table's entries, the arguments so far, the bytes left
pub record Notes : Type 0 where
  pub out : Text
  pub nodes : List Node
  pub table : List ℕ
  pub args : ℕ
  pub rest : Text

abbrev pub notes : Text → List Node → List ℕ → ℕ → Text → Notes
notes o ns ds k r = record { out = o; nodes = ns; table = ds; args = k; rest = r }

abbrev pub go_to : Text → Notes → Notes
go_to r σ = notes σ.out σ.nodes σ.table σ.args r

abbrev pub put : Text → Notes → Notes
put w σ = notes (σ.out ++ w) σ.nodes σ.table σ.args σ.rest

abbrev pub noted : Node → Notes → Notes
noted x σ = notes σ.out (with_node x σ.nodes) σ.table σ.args σ.rest

abbrev pub pushed : ℕ → Notes → Notes
pushed d σ = notes σ.out σ.nodes (σ.table ++ (d ∷ [])) σ.args σ.rest

abbrev pub counted : Notes → Notes
counted σ = notes σ.out σ.nodes σ.table (suc σ.args) σ.rest

-- what was written from a place on gives way to the reference of an entry
abbrev pub replaced : ℕ → Text → Option ℕ → Text
replaced from o none = o
replaced from o (some i) = take from o ++ ref_bytes i

unfoldable pub settled : ℕ → ℕ → Notes → Notes
settled d from σ = notes (replaced from σ.out (table_place d (firsts σ.table))) σ.nodes σ.table σ.args σ.rest

abbrev pub entered : ℕ → ℕ → Notes → Notes
entered d from σ = pushed d (settled d from σ)

-- the newest entry isn't entered again behind N
unfoldable pub entered_nested : ℕ → ℕ → Notes → Notes
entered_nested d from σ =
    if eqb (tag_of σ.nodes d) (code "N") && note_last_is d σ.table then settled d from σ otherwise entered d from σ

-- ---------------------------------------------------------------- readings

pub data Got (A : Type 0) : Type 0 where
  got : A → Notes → Got A
  bad : Got A

abbrev pub Noter : Type 0 → Type 0
Noter A = Notes → Got A

abbrev pub next : {A B : Type 0} → Got A → (A → Noter B) → Got B
next (got x σ) f = f x σ
next bad f = bad

abbrev pub when : {A : Type 0} → Bool → Got A → Got A
when true o = o
when false o = bad

abbrev pub with : {A B : Type 0} → Rd A → (A → Text → Got B) → Got B
with (rd x r) f = f x r
with stop f = bad

-- a node that enters the table
abbrev pub enter : Node → ℕ → Noter ℕ
enter x from σ = got (number_of x σ.nodes) (entered (number_of x σ.nodes) from (noted x σ))

-- [I <template-args> E], behind a class of one part
abbrev pub note_with_args : ℕ → ℕ → (ℕ → Noter ℕ) → Noter ℕ
note_with_args t from args σ =
    if_next (code "I") σ.rest (λ r. when (eqb (tag_of σ.nodes t) (code "0"))
    (next (args t (put (code "I" ∷ []) (go_to r σ))) (λ u τ. got u (entered u from (put (code "E" ∷ []) τ)))))
    (got t σ)

-- an entry of the table, behind S
abbrev pub at_reference : ℕ → Noter ℕ
at_reference from σ = with (reference σ.rest) (λ i r. choose (get_elem? σ.table i) (λ t. got t (settled t from (go_to r σ))) bad)

-- <source-name>, a first part
abbrev pub note_at_name : ℕ → Noter ℕ
note_at_name from σ = with (name σ.rest) (λ n r. enter (root_node n) from (put (name_bytes n) (go_to r σ)))

-- <type>, <template-arg>, by the first byte c
abbrev pub note_at_lead : Lead → ℕ → ℕ → Text → Notes → Noter ℕ → (ℕ → Noter ℕ) → (ℕ → Noter ℕ) → Got ℕ
-- <builtin-type>
note_at_lead (lead_letter l) c from s σ type args parts = got c (put (c ∷ []) (go_to s σ))
-- P R O K V <type>
note_at_lead (lead_wrap q) c from s σ type args parts =
    next (type (put (c ∷ []) (go_to s σ))) (λ t τ. when (may_stand c (tag_of τ.nodes t)) (enter (wrap_node c t) from τ))
-- <source-name> [I <template-args> E]
note_at_lead lead_digit c from s σ type args parts = next (note_at_name from σ) (λ t τ. note_with_args t from args τ)
-- S [<seq-id>] _ [I <template-args> E]
note_at_lead lead_S c from s σ type args parts = next (at_reference from (go_to s σ)) (λ t τ. note_with_args t from args τ)
-- N <parts> E, two or more
note_at_lead lead_N c from s σ type args parts =
    next (parts (suc from) (put (c ∷ []) (go_to s σ))) (λ u τ. got u (entered_nested u from (put (code "E" ∷ []) τ)))
-- L <literal> E
note_at_lead lead_L c from s σ type args parts =
    with (literal s) (λ t r. got (number_of (lit_node t) σ.nodes) (put (lit_bytes t) (noted (lit_node t) (go_to r σ))))
note_at_lead lead_none c from s σ type args parts = bad

-- <parts> ::= <source-name> <more> | S [<seq-id>] _ <more>
abbrev pub note_at_parts : Lead → ℕ → Text → Notes → (ℕ → Bool → Noter ℕ) → Got ℕ
note_at_parts (lead_letter l) from s σ more = bad
note_at_parts (lead_wrap q) from s σ more = bad
note_at_parts lead_digit from s σ more = next (note_at_name from σ) (λ t τ. more t true τ)
note_at_parts lead_S from s σ more =
    next (at_reference from (go_to s σ)) (λ t τ. when (a_class (tag_of τ.nodes t)) (more t (eqb (tag_of τ.nodes t) (code "0")) τ))
note_at_parts lead_N from s σ more = bad
note_at_parts lead_L from s σ more = bad
note_at_parts lead_none from s σ more = bad

-- behind one more part or its arguments: E, where there is not one part alone; or u is leading parts and enters the table
abbrev pub note_end_or : ℕ → (ℕ → Bool → Noter ℕ) → ℕ → Bool → Noter ℕ
note_end_or from more u lone σ =
    if_next (code "E") σ.rest (λ r. when (not lone) (got u (go_to r σ))) (more u lone (entered u from σ))

-- <more> ::= (I <template-args> E | <source-name>) (E | <more>)
abbrev pub note_at_more : Bool → ℕ → Bool → ℕ → Text → Notes → (ℕ → Noter ℕ) → (ℕ → Bool → Noter ℕ) → Got ℕ
note_at_more true t lone from s σ args more =
    when (a_bare (tag_of σ.nodes t))
    (next (args t (put (code "I" ∷ []) (go_to s σ))) (λ u τ. note_end_or from more u lone (put (code "E" ∷ []) τ)))
note_at_more false t lone from s σ args more =
    with (name σ.rest) (λ n r. note_end_or from more (number_of (sub_node t n) σ.nodes) false (put (name_bytes n) (noted (sub_node t n) (go_to r σ))))

-- <template-args> ::= <template-arg> (E | <template-args>), behind what has the number t
abbrev pub note_at_arg : ℕ → ℕ → Notes → (ℕ → Noter ℕ) → Got ℕ
note_at_arg t x σ args =
    if_next (code "E") σ.rest (λ r. got (number_of (arg_node t x) σ.nodes) (counted (noted (arg_node t x) (go_to r σ))))
    (args (number_of (arg_node t x) σ.nodes) (counted (noted (arg_node t x) σ)))

-- by the first byte
abbrev pub at_first : {A : Type 0} → Text → (ℕ → Text → Got A) → Got A
at_first [] f = bad
at_first (c ∷ s) f = f c s

-- the number counts down; it is never below the number of bytes left
unfoldable mutual
  pub note_type : ℕ → Noter ℕ
  note_type zero σ = bad
  note_type (suc f) σ =
      at_first σ.rest (λ c s.
      note_at_lead (lead c) c (length σ.out) s σ (λ τ. note_type f τ) (λ t τ. note_args f t τ) (λ from τ. note_parts f from τ))

  -- behind N, from the place where the parts are written
  pub note_parts : ℕ → ℕ → Noter ℕ
  note_parts zero from σ = bad
  note_parts (suc f) from σ = at_first σ.rest (λ c s. note_at_parts (lead c) from s σ (λ t lone τ. note_more f t lone from τ))

  pub note_more : ℕ → ℕ → Bool → ℕ → Noter ℕ
  note_more zero t lone from σ = bad
  note_more (suc f) t lone from σ =
      at_first σ.rest (λ c s.
      note_at_more (eqb c (code "I")) t lone from s σ (λ u τ. note_args f u τ) (λ u l τ. note_more f u l from τ))

  -- behind I
  pub note_args : ℕ → ℕ → Noter ℕ
  note_args zero t σ = bad
  note_args (suc f) t σ = next (note_type f σ) (λ x τ. note_at_arg t x τ (λ u ρ. note_args f u ρ))

-- ---------------------------------------------------------------- whole symbols

-- behind a type: the end, or more types
abbrev pub note_at_end : Notes → Text → Noter (Unit {0}) → Got (Unit {0})
note_at_end σ [] types = got tt σ
note_at_end σ (c ∷ r) types = types σ

-- <type>+ to the end
unfoldable pub note_types : ℕ → Noter (Unit {0})
note_types zero σ = bad
note_types (suc f) σ =
    next (note_type f σ) (λ t τ. when (not (a_lit (tag_of τ.nodes t))) (note_at_end τ τ.rest (λ ρ. note_types f ρ)))

-- behind N or NK: <parts> E, without arguments at the end; it makes no entry
abbrev pub note_at_scoped : Bool → Got ℕ → Got Bool
note_at_scoped c o = next o (λ u τ. when (a_bare (tag_of τ.nodes u)) (got c (put (code "E" ∷ []) τ)))

-- behind _Z, with what is written there
abbrev pub begun : Text → Text → Notes
begun w r = notes (code "_" ∷ code "Z" ∷ w) [] [] 0 r

-- <name> ::= <source-name> | N [K] <parts> E; whether there is a K
abbrev pub at_function : Text → (ℕ → Noter ℕ) → Got Bool
at_function s parts =
    if_next (code "N") s (λ r.
    if_next (code "K") r (λ r'. note_at_scoped true (parts 4 (begun (code "N" ∷ code "K" ∷ []) r'))) (note_at_scoped false (parts 3 (begun (code "N" ∷ []) r))))
    (with (name s) (λ n r. got false (begun (name_bytes n) r)))

-- the types, if there are any; "after a name with `K` always one or more types"
abbrev pub note_at_params : Bool → Notes → Text → Noter (Unit {0}) → Got (Unit {0})
note_at_params c σ [] types = when (not c) (got tt σ)
note_at_params c σ (d ∷ s) types = types σ

-- "at most 1,024 arguments"
abbrev pub symbol_of : Got (Unit {0}) → Option Text
symbol_of (got u σ) = if leb σ.args most_arguments then some σ.out otherwise none
symbol_of bad = none

-- <encoding> ::= <name> [<type>+], behind _Z
unfoldable pub note_encoding : ℕ → Text → Got (Unit {0})
note_encoding f s = next (at_function s (λ from σ. note_parts f from σ)) (λ c σ. note_at_params c σ σ.rest (λ τ. note_types f τ))

-- the normal symbol of a catalogue symbol
unfoldable pub note_symbol : Text → Option Text
note_symbol s = if_next (code "_") s (λ r. if_next (code "Z") r (λ r'. symbol_of (note_encoding (suc (length r')) r')) none) none
