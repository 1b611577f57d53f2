-- What the state and the work slices of the writing mean in the walk with numbers. `out` has what is written. Four slices of numbers have the
-- rest: `ends` and `words` the nodes, two numbers each; `tables` the table, and from the middle on what is kept with each node; `chains` the
-- buckets, and from the middle on the chains. What is behind them may be anything.
use Rattle.std.specs.Prelude.{List, [], ◌∷◌, ◌≡◌, ℕ, suc, ◌+◌, ◌*◌, ◌≤◌, ◌<◌, max, length, drop, get_or, Option, Some, None}
use Rattle.std.proofs.Math.Option.{Option as Place, none, some}
use Prim.Native.Char.{code}
use Rattle.grammar.specs.Text.{Text}
use Rattle.grammar.specs.Limits.{most_symbol_bytes}
use Rattle.store.specs.Table.{Front}
use Rattle.catalogue.specs.Spelling.{name_bytes}
use Rattle.catalogue.specs.Answer.{least_numbers}
use Rattle.normal_walk.specs.Walk.{name, literal, lit_bytes}
use Rattle.normal_nodes.specs.Nodes.{Node, Notes, Noter, Got, got, bad, firsts, table_place, least_number, with, when, put, go_to, noted, counted, number_of}
use Rattle.normal_nodes.specs.Nodes.{tag_of, may_stand, lit_node, sub_node, arg_node, wrap_node, enter}
use Rattle.normal_steps.specs.Limits.{middle, out_length}
use Rattle.normal_steps.specs.Rows.{nodes_of}
use Rattle.normal_steps.specs.Chains.{Findable}
use Rattle.normal_steps.specs.States.{written_to}
use Rattle.normal_steps.specs.declared.state.State.{State}
use Rattle.normal_steps.specs.declared.state.Writer.{Writer}

-- ---------------------------------------------------------------- the work slices

pub record Work : Type 0 where
  pub out : Text
  pub ends : Text
  pub words : Text
  pub tables : Text
  pub chains : Text

abbrev pub work : Text → Text → Text → Text → Text → Work
work out ends words tables chains = record { out = out; ends = ends; words = words; tables = tables; chains = chains }

-- those of a writer
abbrev pub slices_of : Writer → Work
slices_of w = work w.out.now w.ends.now w.words.now w.tables.now w.chains.now

-- which slices a writer was lent, by their ghost names, and how long they are
abbrev pub lent : Writer → List ℕ
lent w =
    w.out.ghost_name ∷ w.ends.ghost_name ∷ w.words.ghost_name ∷ w.tables.ghost_name ∷ w.chains.ghost_name
    ∷ length w.out.now ∷ length w.ends.now ∷ length w.words.now ∷ length w.tables.now ∷ length w.chains.now ∷ []

-- the slices but for those that a step may write: `out`, `tables`, both, or what is noted of a node
abbrev pub but_out : Work → Work
but_out ws = record ws { out = [] }

abbrev pub but_tables : Work → Work
but_tables ws = record ws { tables = [] }

abbrev pub but_entry : Work → Work
but_entry ws = but_tables (but_out ws)

abbrev pub but_notes : Work → Work
but_notes ws = record ws { ends = []; words = []; tables = []; chains = [] }

-- the slices of numbers have their lengths
pub record Sized (e w t c : Text) : Type 0 where
  pub ends : length e ≡ least_numbers
  pub words : length w ≡ least_numbers
  pub tables : length t ≡ least_numbers
  pub chains : length c ≡ least_numbers

-- ---------------------------------------------------------------- the table

-- what is kept with a node: 0, or its place in the table without later doubles and 1
abbrev pub place_kept : Place ℕ → ℕ
place_kept none = 0
place_kept (some i) = suc i

-- the numbers are those of the first n nodes
unfoldable pub AllNumbered : ℕ → List ℕ → Type 0
AllNumbered n [] = Unit {0}
AllNumbered n (d ∷ ds) = ((least_number ≤ d) × (d < least_number + n)) × AllNumbered n ds

-- the entries ds, and the place of each of the first n nodes among them
pub record Tabled (n : ℕ) (ds : List ℕ) (t : Text) : Type 0 where
  pub size : length t ≡ least_numbers
  pub is : (i : ℕ) → i < length ds → get_or t i 0 ≡ get_or ds i 0
  pub kept : (i : ℕ) → i < n → get_or t (middle + i) 0 ≡ place_kept (table_place (least_number + i) (firsts ds))
  pub numbers : AllNumbered n ds

-- ---------------------------------------------------------------- the state

-- so large is no number of a tree: they begin at 256, and there are no more of them than bytes of the symbol
abbrev pub most_number : ℕ
most_number = 2 * most_symbol_bytes

-- the state and the slices hold what is kept
pub record Carries (s : Text) (ws : Work) (p : State) (σ : Notes) : Type 0 where
  pub source : length s ≤ most_symbol_bytes
  pub place : p.at ≤ length s
  pub rest : σ.rest ≡ drop p.at s
  pub nodes_are : σ.nodes ≡ nodes_of s ws.ends ws.words p.nodes
  pub found : Findable s ws.ends ws.words ws.chains p.nodes
  pub tabled : Tabled p.nodes σ.table ws.tables
  pub table_count : p.table ≡ length σ.table
  pub firsts_count : p.firsts ≡ length (firsts σ.table)
  pub out_is : Front out_length σ.out ws.out
  pub out_count : p.out ≡ length σ.out
  pub args_count : p.args ≡ σ.args
  pub few_nodes : p.nodes ≤ p.at
  pub few_entries : p.table ≤ p.at
  pub few_args : p.args ≤ p.at
  pub short : p.out + 1 ≤ 4 * p.at

-- the writing holds what is kept
abbrev pub Held : Writer → Notes → Type 0
Held w σ = Carries w.s.now (slices_of w) w.state σ

abbrev pub Ready : Writer → Type 0
Ready w = (σ : Notes) × Held w σ

-- the number d has the tag c
abbrev pub Tag : Writer → ℕ → ℕ → Type 0
Tag w d c = (σ : Notes) → Held w σ → c ≡ tag_of σ.nodes d

-- d is the number of a node
abbrev pub Numbered : State → ℕ → Type 0
Numbered p d = (least_number ≤ d) × (d < least_number + p.nodes)

-- there is room for so many nodes and entries more
pub record Room (n t : ℕ) (p : State) : Type 0 where
  pub nodes : p.nodes + n ≤ p.at
  pub table : p.table + t ≤ p.at
  pub args : p.args + n ≤ p.at

-- there is room for so many bytes more
abbrev pub Spare : ℕ → State → Type 0
Spare o p = p.out + o + 1 ≤ 4 * p.at

-- a tree is written from the place b on, and a reference, of five bytes at most, fits in its stead
pub record Stretch (b : ℕ) (p : State) : Type 0 where
  pub stands : b ≤ p.out
  pub fits : b + 9 ≤ 4 * p.at
  pub spare : p.out + 4 ≤ 4 * p.at

-- no more than that was taken, nothing was read, and what was written before the place b stands
pub record Took (n t o b : ℕ) (p p' : State) : Type 0 where
  pub at : p'.at ≡ p.at
  pub nodes : p'.nodes ≤ p.nodes + n
  pub more : p.nodes ≤ p'.nodes
  pub table : p'.table ≤ p.table + t
  pub out : p'.out ≤ max p.out (b + o)
  pub args : p'.args ≤ p.args + n
  pub stands : b ≤ p'.out

-- bytes were read, and what was taken is within them; k is 1 where one byte made no node and no entry, and c bytes are to spare
pub record Spent (k c b : ℕ) (p p' : State) : Type 0 where
  pub at : p.at + k ≤ p'.at
  pub nodes : p'.nodes + p.at + k ≤ p.nodes + p'.at
  pub table : p'.table + p.at + k ≤ p.table + p'.at
  pub args : p'.args + p.at + k ≤ p.args + p'.at
  pub out : p'.out + c ≤ 4 * p'.at
  pub stands : b ≤ p'.out

-- ---------------------------------------------------------------- what a step promises

-- the symbol stays, the slices are still those that were lent and as long as they were, and A holds
pub record Kept (w w' : Writer) (A : Type 0) : Type 0 where
  pub symbol : w'.s.now ≡ w.s.now
  pub same : lent w' ≡ lent w
  pub is : A

-- the same of a step that writes in some of the slices alone: f of them stays as it was
pub record KeptBut (f : Work → Work) (w w' : Writer) (A : Type 0) : Type 0 where
  pub symbol : w'.s.now ≡ w.s.now
  pub stays : f (slices_of w') ≡ f (slices_of w)
  pub same : lent w' ≡ lent w
  pub is : A

-- the answer is that of the walk with numbers, and L holds of the next state
pub data Refines (s : Text) (L : State → Type 0) (ws : Work) (p : State) : Option ℕ → Got ℕ → Type 0 where
  tells : {d : ℕ} {σ : Notes} → Carries s ws p σ → L p → d < most_number → Refines s L ws p (Some d) (got d σ)
  refuses : Refines s L ws p None bad

-- the answer r of a call that left the writer as w'
abbrev pub Answers : (State → Type 0) → Writer → Option ℕ → Got ℕ → Type 0
Answers L w' r g = Refines w'.s.now L (slices_of w') w'.state r g

-- a reading of j bytes at least
abbrev pub Reads : ℕ → ℕ → Noter ℕ → Writer → Writer → Option ℕ → Type 0
Reads j b f w w' r = (σ : Notes) → Held w σ → Answers (λ p'. (w.state.at + j ≤ p'.at) × Spent 1 4 b w.state p') w' r (f σ)

-- a reading with fuel, which is never below the number of bytes left and e
abbrev pub Fueled : ℕ → ℕ → ℕ → ℕ → (ℕ → Noter ℕ) → Writer → Writer → Option ℕ → Type 0
Fueled k c b e f w w' r =
    (σ : Notes) → Held w σ → (m : ℕ) → length w.s.now + e ≤ m + w.state.at → Answers (Spent k c b w.state) w' r (f m σ)

-- a step that reads nothing; one that is never refused has the answer `Some`
abbrev pub Steps : ℕ → ℕ → ℕ → ℕ → Noter ℕ → Writer → Writer → Option ℕ → Type 0
Steps x y z b f w w' r = (σ : Notes) → Held w σ → Answers (Took x y z b w.state) w' r (f σ)

-- a step without an answer
pub record Went (s : Text) (ws : Work) (L : State → Type 0) (p : State) (σ : Notes) : Type 0 where
  pub holds : Carries s ws p σ
  pub limits : L p

abbrev pub Does : ℕ → ℕ → ℕ → ℕ → (Notes → Notes) → Writer → Writer → Type 0
Does x y z b f w w' = (σ : Notes) → Held w σ → Went w'.s.now (slices_of w') (Took x y z b w.state) w'.state (f σ)

-- what is before the place `to` was read, k bytes were written, and nothing was noted
pub record Passed (to k : ℕ) (p p' : State) : Type 0 where
  pub at : p'.at ≡ to
  pub out : p'.out ≡ p.out + k
  pub nodes : p'.nodes ≡ p.nodes
  pub table : p'.table ≡ p.table
  pub args : p'.args ≡ p.args

-- the next byte was written, and taken
abbrev pub Copies : Writer → Writer → Type 0
Copies w w' =
    Passed (w.state.at + 1) 1 w.state w'.state
    × ((σ : Notes) → Held w σ → (c : ℕ) (t : Text) → σ.rest ≡ c ∷ t → Held w' (put (c ∷ []) (go_to t σ)))

-- a text was written
abbrev pub Puts : Text → Writer → Writer → Type 0
Puts t w w' =
    (w'.state ≡ written_to w.state (w.state.out + length t))
    × ((σ : Notes) → Held w σ → w.state.out + length t + 1 ≤ 4 * w.state.at → Held w' (put t σ))

-- ---------------------------------------------------------------- readings and steps

-- a node, which may be new
abbrev pub notes_node : Node → Noter ℕ
notes_node x σ = got (number_of x σ.nodes) (noted x σ)

-- behind L
abbrev pub at_literal : Noter ℕ
at_literal σ = with (literal σ.rest) (λ t r. got (number_of (lit_node t) σ.nodes) (put (lit_bytes t) (noted (lit_node t) (go_to r σ))))

-- one more part behind what has the number t
abbrev pub at_part : ℕ → Noter ℕ
at_part t σ = with (name σ.rest) (λ n r. got (number_of (sub_node t n) σ.nodes) (put (name_bytes n) (noted (sub_node t n) (go_to r σ))))

abbrev pub counts_arg : ℕ → ℕ → Noter ℕ
counts_arg t x σ = got (number_of (arg_node t x) σ.nodes) (counted (noted (arg_node t x) σ))

abbrev pub wraps : ℕ → ℕ → ℕ → Noter ℕ
wraps c t from σ = when (may_stand c (tag_of σ.nodes t)) (enter (wrap_node c t) from σ)

abbrev pub closed : Notes → Notes
closed σ = put (code "E" ∷ []) σ

abbrev pub Closes : Writer → Writer → Type 0
Closes w w' = Does 0 0 1 w.state.out closed w w'
