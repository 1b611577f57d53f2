-- What follows where the state and the slices hold what is kept, and how it is kept when more is written, noted and entered. Assumes nothing.
use Rattle.std.specs.Prelude.{false, ◌≡◌, ℕ, suc, ◌+◌, ◌-◌, ◌*◌, ◌≤◌, ◌<◌, eqb, length, take, drop, get_or}
use mathlib.Core.List.{List, [], ◌∷◌, ◌++◌}
use Rattle.std.proofs.Math.Option.{some}
use Rattle.std.proofs.Math.Path.{refl, sym}
use Rattle.std.proofs.Common.{ap, subst, ◌∙◌, arith, lt-ltb, le-ltb, length-append}
use Rattle.std.proofs.Math.ListN.{get_elem?}
use Rattle.std.proofs.Math.Seq.{paste, take-length}
use Rattle.grammar.specs.Text.{Text, if◌then◌otherwise◌, choose}
use Rattle.store.specs.Table.{Front}
use Rattle.normal_nodes.specs.Nodes.{Node, Notes, notes, put, noted, pushed, firsts, number_of, tag_of, note_last_is}
use Rattle.normal_nodes.specs.Laws.Numbered.{NumberIn, number_in}
use Rattle.normal_steps.specs.Limits.{out_length}
use Rattle.normal_steps.specs.declared.state.State.{State}
use Rattle.normal_steps.specs.States.{written_to, noted_to, entered_to}
use Rattle.normal_steps.specs.WrittenAt.{WrittenAt}
use Rattle.normal_steps.specs.Rows.{nodes_of}
use Rattle.normal_steps.specs.Chains.{Findable}
use Rattle.normal_steps.specs.Carries.{Work, Tabled, Numbered, Carries}
use Rattle.normal_steps.specs.Laws.WrittenAt.{front_wrote}
use Rattle.normal_steps.specs.Laws.Rows.{length_nodes, nodes_at}
use Rattle.normal_steps.specs.Laws.Leaves.{no_entry}
use Rattle.normal_steps.specs.Laws.Entries.{some_at, numbered_at, firsts_length, last_none, last_at}

module _ {s : Text} {ws : Work} {p : State} {σ : Notes} (h : Carries s ws p σ) where
  -- ---------------------------------------------------------------- sizes

  pub out_size : length ws.out ≡ out_length
  out_size = h.out_is.size

  pub firsts_most : p.firsts ≤ p.table
  firsts_most = omega (arith, h.firsts_count, h.table_count, firsts_length σ.table)

  pub count_nodes : length σ.nodes ≡ p.nodes
  count_nodes = ap length h.nodes_are ∙ length_nodes s ws.ends ws.words p.nodes

  -- the number of one of the nodes, by the state
  pub numbered : {d : ℕ} → NumberIn d σ.nodes → Numbered p d
  numbered b = (b.0, omega (arith, b.1, count_nodes))

  -- ---------------------------------------------------------------- what is read

  pub tag_low : (d : ℕ) → d < 256 → 0 ≡ tag_of σ.nodes d
  unfolding tag_of if◌then◌otherwise◌
  tag_low d l = rw (lt-ltb d 256 l) refl

  tag_by : (d : ℕ) → 256 ≤ d → tag_of σ.nodes d ≡ choose (get_elem? (nodes_of s ws.ends ws.words p.nodes) (d - 256)) (λ x. x.tag) 0
  unfolding tag_of if◌then◌otherwise◌
  tag_by d l = rw (le-ltb d 256 l) (ap (λ (ns : List Node). choose (get_elem? ns (d - 256)) (λ x. x.tag) 0) h.nodes_are)

  pub tag_none : (d : ℕ) → 256 ≤ d → p.nodes ≤ d - 256 → 0 ≡ tag_of σ.nodes d
  unfolding choose
  tag_none d l m =
      sym (tag_by d l ∙ rw (no_entry (nodes_of s ws.ends ws.words p.nodes) (d - 256) (omega (arith, length_nodes s ws.ends ws.words p.nodes))) refl)

  pub tag_here : (d : ℕ) → 256 ≤ d → d - 256 < p.nodes → get_or ws.ends (2 * (d - 256)) 0 ≡ tag_of σ.nodes d
  unfolding choose
  tag_here d l m = sym (tag_by d l ∙ rw (nodes_at s ws.ends ws.words p.nodes (d - 256) m) refl)

  pub entry_is : (i : ℕ) → i < p.table → (get_elem? σ.table i ≡ some (get_or ws.tables i 0)) × Numbered p (get_or ws.tables i 0)
  entry_is i l =
      let b : i < length σ.table = omega (arith, h.table_count) in
      let e = h.tabled.is i b in
      let k = numbered_at p.nodes σ.table i h.tabled.numbers b in
      (some_at σ.table i b ∙ ap some (sym e), (omega (arith, e, k.0), omega (arith, e, k.1)))

  pub newest_none : (d : ℕ) → p.table ≡ 0 → false ≡ note_last_is d σ.table
  newest_none d e = last_none d σ.table (omega (arith, h.table_count))

  pub newest_is : (d : ℕ) → 0 < p.table → eqb d (get_or ws.tables (p.table - 1) 0) ≡ note_last_is d σ.table
  newest_is d l =
      ap (eqb d) (h.tabled.is (p.table - 1) (omega (arith, h.table_count)) ∙ ap (λ (k : ℕ). get_or σ.table (k - 1) 0) h.table_count)
      ∙ last_at d σ.table (omega (arith, h.table_count))

  -- ---------------------------------------------------------------- what is kept when something changes

  pub with_out : (w o' : Text) (k : ℕ) → Front out_length w o' → k ≡ length w → k + 1 ≤ 4 * p.at
      → Carries s (record ws { out = o' }) (written_to p k) (notes w σ.nodes σ.table σ.args σ.rest)
  with_out w o' k e f l = record {
    source = h.source;
    place = h.place;
    rest = h.rest;
    nodes_are = h.nodes_are;
    found = h.found;
    tabled = h.tabled;
    table_count = h.table_count;
    firsts_count = h.firsts_count;
    out_is = e;
    out_count = f;
    args_count = h.args_count;
    few_nodes = h.few_nodes;
    few_entries = h.few_entries;
    few_args = h.few_args;
    short = l;
  }

  pub with_entry : (d k m : ℕ) (t' : Text) → k ≡ p.table + 1 → k ≤ p.at → m ≡ length (firsts (σ.table ++ (d ∷ [])))
      → Tabled p.nodes (σ.table ++ (d ∷ [])) t' → Carries s (record ws { tables = t' }) (entered_to p k m) (pushed d σ)
  with_entry d k m t' c l f e = record {
    source = h.source;
    place = h.place;
    rest = h.rest;
    nodes_are = h.nodes_are;
    found = h.found;
    tabled = e;
    table_count = omega (arith, h.table_count, length-append σ.table (d ∷ []));
    firsts_count = f;
    out_is = h.out_is;
    out_count = h.out_count;
    args_count = h.args_count;
    few_nodes = h.few_nodes;
    few_entries = l;
    few_args = h.few_args;
    short = h.short;
  }

  pub with_node : (ns : List Node) (e' w' t' c' : Text) → ns ≡ nodes_of s e' w' (suc p.nodes) → Findable s e' w' c' (suc p.nodes) → Tabled (suc p.nodes) σ.table t'
      → suc p.nodes ≤ p.at → Carries s (record ws { ends = e'; words = w'; tables = t'; chains = c' }) (noted_to p (suc p.nodes)) (notes σ.out ns σ.table σ.args σ.rest)
  with_node ns e' w' t' c' n f t l = record {
    source = h.source;
    place = h.place;
    rest = h.rest;
    nodes_are = n;
    found = f;
    tabled = t;
    table_count = h.table_count;
    firsts_count = h.firsts_count;
    out_is = h.out_is;
    out_count = h.out_count;
    args_count = h.args_count;
    few_nodes = l;
    few_entries = h.few_entries;
    few_args = h.few_args;
    short = h.short;
  }

-- ---------------------------------------------------------------- what is written

pub wrote_paste : (o w : Text) (at : ℕ) → WrittenAt o (paste o at w (length w)) at (at + length w) w
wrote_paste o w at = record { is = ap (λ (t : Text). take at o ++ t ++ drop (at + length w) o) (take-length w); end = refl }

pub puts_by : {w : Text} {s o' : Text} {ws : Work} {p r : State} {k : ℕ} → r ≡ written_to p k → WrittenAt ws.out o' p.out k w
    → (r ≡ written_to p (p.out + length w)) × ((σ : Notes) → Carries s ws p σ → p.out + length w + 1 ≤ 4 * p.at → Carries s (record ws { out = o' }) r (put w σ))
puts_by {w} {s} {o'} {ws} {p} {r} {k} e q = (
  e ∙ ap (written_to p) q.end,
  λ σ h l. subst (λ (x : State). Carries s (record ws { out = o' }) x (put w σ)) (sym e)
      (with_out h (σ.out ++ w) o' k (front_wrote h.out_is h.out_count (omega (arith, h.out_count, h.place, h.source)) q)
      (omega (arith, q.end, h.out_count, length-append σ.out w)) (omega (arith, q.end))),
)

-- a node that was noted has its number
pub numbered_note : {s : Text} {ws : Work} {p : State} (x : Node) (σ : Notes) {d : ℕ} → Carries s ws p (noted x σ) → d ≡ number_of x σ.nodes → Numbered p d
numbered_note x σ h e = numbered h (subst (λ (k : ℕ). NumberIn k (noted x σ).nodes) (sym e) (number_in x σ.nodes))
