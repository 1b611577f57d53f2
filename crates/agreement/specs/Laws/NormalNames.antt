-- Demand 3 on the definitions. For every two accepted catalogue symbols, however long their normal symbols: the normal symbols are
-- equal exactly when the printed names are. And the normal symbol of an accepted catalogue symbol, where it is no longer than the
-- limit, is itself an accepted catalogue symbol, prints the same name and is its own normal symbol. Assumes nothing.
use Rattle.std.specs.Prelude.{[], ◌↔◌, ◌≡◌, ℕ, ◌+◌, ◌≤◌, length}
use Rattle.std.proofs.Common.{sym, ◌∙◌, ap, arith}
use Rattle.grammar.specs.Text.{Text}
use Rattle.grammar.specs.Limits.{most_symbol_bytes}
use Rattle.grammar.specs.Names.{named, demangle}
use Rattle.catalogue.specs.Tree.{print_enc}
use Rattle.catalogue.specs.Class.{resolve_sym, count_sym, Catalogue}
use Rattle.catalogue.specs.Normal.{normal_sym, after_sym, write, normal_of}
use Rattle.catalogue.specs.Laws.WellFormed.{post_is}
use Rattle.catalogue.proofs.Laws.NormalTree.{resolve_sym_normal}
use Rattle.catalogue.proofs.Laws.NoDoubles.{sum}
use Rattle.catalogue.proofs.Laws.Count.{nargs, Counted, counted_sym}
use Rattle.catalogue.proofs.Laws.Decision.{resolves, few, tree_wf}
use Rattle.catalogue.proofs.Laws.NormalForm.{nbytes, nbytes_printed, sum_le, weight_one, printed, no_larger, sum_no_larger, normal_catalogue, normal_normal, names_normals_of}
use Rattle.agreement.specs.Laws.Symbols.{RoomSym}
use Rattle.agreement.specs.Laws.Accepted.{Accepted, accepted, accepts}

-- what an accepted catalogue symbol tells
told : {s : Text} (c : Catalogue s) (limit : ℕ) (x : Text) → demangle limit s ≡ named x → Accepted c.written c.tree c.table x
told c limit x h = accepted c.written c.tree c.table (resolves c) limit x (rw c.spells h)

-- the room that its normal symbol needs
normal_room : {s : Text} (c : Catalogue s) (x : Text) → Accepted c.written c.tree c.table x
    → RoomSym (normal_sym c.tree) c.tree (after_sym c.tree)
unfolding sum
normal_room c x a =
    let σ = c.written in
    let e = c.tree in
    let us = c.table in
    let r = resolves c in
    let smaller = no_larger σ e us r in
    let entries = sum_no_larger σ e us r weight_one in
    let size = sum_no_larger σ e us r printed in
    let args = sum_no_larger σ e us r nargs in
    let arg_bytes = sum_le nbytes printed nbytes_printed (after_sym e) in
    let counted : sum nargs us ≡ sum nargs [] + count_sym σ = post_is (Counted [] (count_sym σ)) (resolve_sym σ) e us r (counted_sym σ) in
    let few_args = few c in
    let fit = a.table in
    let f0 = fit.entries in
    let f1 = fit.size in
    let deep = a.deep in
    let deeper = smaller.open_readings in
    record {
      table = record { entries = omega arith; size = omega arith };
      deep = omega arith;
      text = a.short;
      few = omega arith;
      small = omega arith;
    }

-- the printed name is the tree's
pub name_of : {s : Text} (c : Catalogue s) (limit : ℕ) (x : Text) → demangle limit s ≡ named x → x ≡ print_enc c.tree
name_of c limit x h = (told c limit x h).name

-- the normal symbol of an accepted symbol is accepted within any limit that it keeps, with the same name
pub normal_accepted :
    {s : Text} (c : Catalogue s) (limit limit' : ℕ) (x : Text) → demangle limit s ≡ named x → length (normal_of c) ≤ limit' →
    demangle limit' (normal_of c) ≡ named x
unfolding write
normal_accepted c limit limit' x h l =
    let a = told c limit x h in
    accepts (normal_sym c.tree) c.tree (after_sym c.tree) (resolve_sym_normal c.tree (tree_wf c)) limit' l (normal_room c x a)
    ∙ ap named (sym a.name)

-- ---------------------------------------------------------------- the two halves, for a symbol of at most so many bytes

module _ (limit : ℕ) where
  pub same_normal_same_name :
      {s t : Text} (c : Catalogue s) (d : Catalogue t) (x y : Text) → demangle limit s ≡ named x → demangle limit t ≡ named y →
      (normal_of c ≡ normal_of d) ↔ (x ≡ y)
  same_normal_same_name c d x y h k =
      let i = name_of c limit x h in
      let j = name_of d limit y k in
      let n = names_normals_of c d in
      ((λ e. i ∙ n.0 e ∙ sym j), (λ e. n.1 (sym i ∙ e ∙ j)))

  pub normal_of_accepted :
      {s : Text} (c : Catalogue s) (x : Text) → demangle limit s ≡ named x → length (normal_of c) ≤ limit →
      Catalogue (normal_of c) × (demangle limit (normal_of c) ≡ named x) × ((d : Catalogue (normal_of c)) → normal_of d ≡ normal_of c)
  normal_of_accepted c x h l = (normal_catalogue c, normal_accepted c limit limit x h l, normal_normal c)

-- ---------------------------------------------------------------- the limit of document 01

pub demand_3_first :
    {s t : Text} (c : Catalogue s) (d : Catalogue t) (x y : Text) → demangle most_symbol_bytes s ≡ named x → demangle most_symbol_bytes t ≡ named y →
    (normal_of c ≡ normal_of d) ↔ (x ≡ y)
demand_3_first = same_normal_same_name most_symbol_bytes

pub demand_3_second :
    {s : Text} (c : Catalogue s) (x : Text) → demangle most_symbol_bytes s ≡ named x → length (normal_of c) ≤ most_symbol_bytes →
    Catalogue (normal_of c) × (demangle most_symbol_bytes (normal_of c) ≡ named x) × ((d : Catalogue (normal_of c)) → normal_of d ≡ normal_of c)
demand_3_second = normal_of_accepted most_symbol_bytes
