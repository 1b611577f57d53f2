-- What is kept where a tree gives way to a reference, and where an entry and a node are new. Assumes nothing.
use mathlib.Core.List.{List, [], ◌∷◌, ◌++◌}
use Rattle.std.proofs.Math.Option.{Option, none, some}
use Rattle.std.specs.Prelude.{◌≡◌, refl, ℕ, suc, ◌+◌, ◌-◌, ◌≤◌, ◌<◌, length, take, get_or, set, Some}
use Rattle.std.proofs.Math.Path.{sym, ap}
use Rattle.std.proofs.Common.{subst, ◌∙◌, arith, add-one, length-append, length-take-le}
use Rattle.grammar.specs.Text.{Text}
use Rattle.grammar.specs.Limits.{most_symbol_bytes}
use Rattle.store.specs.Laws.Fronts.{front_less}
use Rattle.catalogue.specs.Spelling.{ref_bytes}
use Rattle.normal_walk.proofs.Laws.Sizes.{ref_length}
use Rattle.normal_nodes.specs.Nodes.{Node, node, Notes, Got, notes, got, least_number, same_node, seek_by, node_place, number_at, number_of, with_new}
use Rattle.normal_nodes.specs.Nodes.{with_node as noted_nodes, table_place, firsts, pushed, replaced, settled}
use Rattle.normal_nodes.specs.Laws.Numbered.{seek_below}
use Rattle.normal_steps.specs.Limits.{middle, out_length}
use Rattle.normal_steps.specs.Parts.{part}
use Rattle.normal_steps.specs.declared.state.State.{State}
use Rattle.normal_steps.specs.States.{written_to, noted_to, entered_to}
use Rattle.normal_steps.specs.WrittenAt.{WrittenAt}
use Rattle.normal_steps.specs.Rows.{node_at, nodes_of}
use Rattle.normal_steps.specs.Chains.{bucket_of}
use Rattle.normal_steps.specs.Carries.{Work, Tabled, Carries, Numbered, Stretch, Room, Took, Went, Refines, tells, notes_node}
use Rattle.normal_steps.specs.Laws.WrittenAt.{front_wrote}
use Rattle.normal_steps.specs.Laws.Entries.{firsts_known, firsts_new}
use Rattle.normal_steps.specs.Laws.Rows.{two_at, nodes_same, node_old, node_new}
use Rattle.normal_steps.specs.Laws.Chains.{linked_at}
use Rattle.normal_steps.specs.Laws.Tabled.{kept_none, kept_some, tabled_known, tabled_new, tabled_node}
use Rattle.normal_steps.specs.Laws.Found.{found_more}
use Rattle.normal_steps.specs.Laws.Slices.{firsts_most, count_nodes, with_out, with_entry, with_node}

module _ {s : Text} {ws : Work} {p : State} {σ : Notes} (h : Carries s ws p σ) where
  -- ---------------------------------------------------------------- a reference in place of what was written

  settled_by : (d from : ℕ) (q : Option ℕ) → table_place d (firsts σ.table) ≡ q
      → settled d from σ ≡ notes (replaced from σ.out q) σ.nodes σ.table σ.args σ.rest
  unfolding settled
  settled_by d from q e = ap (λ (x : Option ℕ). notes (replaced from σ.out x) σ.nodes σ.table σ.args σ.rest) e

  module _ (d from : ℕ) (b : Numbered p d) (l : Stretch from p) where
    abbrev kept : ℕ
    kept = get_or ws.tables (middle + (d - least_number)) 0

    pub settle_not : kept ≡ 0 → Went s ws (Took 0 0 5 from p) p (settled d from σ)
    settle_not e = subst (λ (τ : Notes). Went s ws (Took 0 0 5 from p) p τ) (sym (settled_by d from none (kept_none h.tabled b e)))
        (record {
          holds = h;
          limits = record { at = refl; nodes = omega arith; more = omega arith; table = omega arith; out = omega arith; args = omega arith; stands = l.stands };
        })

    module _ {i : ℕ} (e : (1 ≤ kept) × (i ≡ kept - 1)) where
      place : table_place d (firsts σ.table) ≡ some i
      place = kept_some h.tabled b (λ z. omega (arith, e.0)) ∙ ap some (sym e.1)

      pub index_most : i ≤ most_symbol_bytes
      unfolding table_place
      index_most = omega (arith, seek_below _ (firsts σ.table) i place, h.firsts_count, firsts_most h, h.few_entries, h.place, h.source)

      pub reference_room : from + length (ref_bytes i) ≤ out_length
      reference_room = omega (arith, ref_length i index_most, l.fits, h.place, h.source)

      pub settle_here : {k : ℕ} {o' : Text} → WrittenAt ws.out o' from k (ref_bytes i)
          → Went s (record ws { out = o' }) (Took 0 0 5 from p) (written_to p k) (settled d from σ)
      settle_here {k} {o'} w =
          let f : length (take from σ.out) ≡ from = length-take-le from σ.out (omega (arith, h.out_count, l.stands)) in
          let n = ref_length i index_most in
          subst (λ (τ : Notes). Went s (record ws { out = o' }) (Took 0 0 5 from p) (written_to p k) τ) (sym (settled_by d from (some i) place))
          (record {
            holds = with_out h (take from σ.out ++ ref_bytes i) o' k
                (front_wrote (front_less h.out_is from) (sym f) (omega (arith, f, reference_room)) w)
                (omega (arith, f, w.end, length-append (take from σ.out) (ref_bytes i)))
                (omega (arith, w.end, n, l.fits));
            limits = record {
              at = refl;
              nodes = omega arith;
              more = omega arith;
              table = omega arith;
              out = omega (arith, w.end, n);
              args = omega arith;
              stands = omega (arith, w.end);
            };
          })

  -- ---------------------------------------------------------------- an entry

  module _ (d : ℕ) (b : Numbered p d) (r : Room 0 1 p) where
    table_room : length σ.table < middle
    table_room = omega (arith, r.table, h.table_count, h.place, h.source)

    nodes_room : p.nodes ≤ middle
    nodes_room = h.found.few

    went : (m : ℕ) (t' : Text) → m ≡ length (firsts (σ.table ++ (d ∷ []))) → Tabled p.nodes (σ.table ++ (d ∷ [])) t'
        → Went s (record ws { tables = t' }) (Took 0 1 0 p.out p) (entered_to p (p.table + 1) m) (pushed d σ)
    went m t' f e = record {
      holds = with_entry h d (p.table + 1) m t' refl r.table f e;
      limits = record { at = refl; nodes = omega arith; more = omega arith; table = omega arith; out = omega arith; args = omega arith; stands = omega arith };
    }

    abbrev place_of : ℕ
    place_of = middle + (d - least_number)

    pub push_known : (get_or ws.tables place_of 0 ≡ 0 → ⊥)
        → Went s (record ws { tables = set ws.tables p.table d }) (Took 0 1 0 p.out p) (entered_to p (p.table + 1) p.firsts) (pushed d σ)
    push_known f =
        let i = kept_some h.tabled b f in
        went p.firsts (set ws.tables p.table d) (h.firsts_count ∙ ap length (sym (firsts_known σ.table d _ i)))
        (subst (λ (k : ℕ). Tabled p.nodes (σ.table ++ (d ∷ [])) (set ws.tables k d)) (sym h.table_count)
        (tabled_known h.tabled b table_room nodes_room _ i))

    pub push_new : get_or ws.tables place_of 0 ≡ 0
        → Went s (record ws { tables = set (set ws.tables p.table d) place_of (p.firsts + 1) }) (Took 0 1 0 p.out p) (entered_to p (p.table + 1) (p.firsts + 1)) (pushed d σ)
    push_new f =
        let i = kept_none h.tabled b f in
        let e : firsts (σ.table ++ (d ∷ [])) ≡ firsts σ.table ++ (d ∷ []) = firsts_new σ.table d i in
        went (p.firsts + 1) (set (set ws.tables p.table d) place_of (p.firsts + 1))
        (omega (arith, h.firsts_count, ap length e, length-append (firsts σ.table) (d ∷ [])))
        (subst (λ (k : ℕ). Tabled p.nodes (σ.table ++ (d ∷ [])) (set (set ws.tables k d) place_of (p.firsts + 1))) (sym h.table_count)
        (subst (λ (k : ℕ). Tabled p.nodes (σ.table ++ (d ∷ [])) (set (set ws.tables (length σ.table) d) place_of (k + 1))) (sym h.firsts_count)
        (tabled_new h.tabled b table_room nodes_room i)))

  -- ---------------------------------------------------------------- a node

  noted_by : (x : Node) (q : Option ℕ) → seek_by (same_node x) σ.nodes ≡ q
      → notes_node x σ ≡ got (number_at q (length σ.nodes)) (notes σ.out (with_new q x σ.nodes) σ.table σ.args σ.rest)
  unfolding number_of noted_nodes node_place
  noted_by x q e = ap {B = Got ℕ} (λ (k : Option ℕ). got (number_at k (length σ.nodes)) (notes σ.out (with_new k x σ.nodes) σ.table σ.args σ.rest)) e

  -- by the nodes in the slices
  by_slices : (x : Node) {q : Option ℕ} → seek_by (same_node x) (nodes_of s ws.ends ws.words p.nodes) ≡ q → seek_by (same_node x) σ.nodes ≡ q
  by_slices x e = ap (seek_by (same_node x)) h.nodes_are ∙ e

  pub note_known : (x : Node) (i : ℕ) → i < p.nodes → seek_by (same_node x) (nodes_of s ws.ends ws.words p.nodes) ≡ some i
      → Refines s (Took 1 0 0 p.out p) ws p (Some (256 + i)) (notes_node x σ)
  note_known x i l e = subst (Refines s (Took 1 0 0 p.out p) ws p (Some (256 + i))) (sym (noted_by x (some i) (by_slices x e)))
      (tells h (record { at = refl; nodes = omega arith; more = omega arith; table = omega arith; out = omega arith; args = omega arith; stands = omega arith })
      (omega (arith, h.few_nodes, h.place, h.source)))

  module _ (r : Room 1 0 p) where
    pub node_room : p.nodes < most_symbol_bytes
    node_room = omega (arith, r.nodes, h.place, h.source)

    module _ (tag of from to : ℕ) (b : (from ≤ to) × (to ≤ length s)) where
      abbrev x : Node
      x = node tag of (part s from to)

      abbrev e' : Text
      e' = two_at ws.ends p.nodes tag of

      abbrev w' : Text
      w' = two_at ws.words p.nodes from to

      abbrev written : Text → Text → Text → Work
      written e w c = record ws { ends = e; words = w; tables = set ws.tables (middle + p.nodes) 0; chains = c }

      abbrev ws' : Work
      ws' = written e' w' (linked_at ws.chains p.nodes (bucket_of x))

      nodes_more : σ.nodes ++ (x ∷ []) ≡ nodes_of s e' w' (suc p.nodes)
      unfolding nodes_of
      nodes_more =
          let f = h.found in
          sym
          (ap (λ (ns : List Node). ns ++ (node_at s e' w' p.nodes ∷ []))
          (nodes_same s ws.ends ws.words e' w' p.nodes (node_old s ws.ends ws.words p.nodes tag of from to) ∙ sym h.nodes_are)
          ∙ ap (λ (y : Node). σ.nodes ++ (y ∷ []))
          (node_new s ws.ends ws.words p.nodes tag of from to (omega (arith, node_room, f.ends_size)) (omega (arith, node_room, f.words_size))))

      pub note_new : seek_by (same_node x) (nodes_of s ws.ends ws.words p.nodes) ≡ none
          → Refines s (Took 1 0 0 p.out p) ws' (noted_to p (p.nodes + 1)) (Some (256 + p.nodes)) (notes_node x σ)
      note_new e =
          let v : Notes = notes σ.out (σ.nodes ++ (x ∷ [])) σ.table σ.args σ.rest in
          subst (Refines s (Took 1 0 0 p.out p) ws' (noted_to p (p.nodes + 1)) (Some (256 + p.nodes)))
          (sym (noted_by x none (by_slices x e) ∙ ap (λ (k : ℕ). got (256 + k) v) (count_nodes h)))
          (subst (λ (n : ℕ). Refines s (Took 1 0 0 p.out p) ws' (noted_to p n) (Some (256 + p.nodes)) (got (256 + p.nodes) v)) (sym (add-one p.nodes))
          (tells
          (with_node h (σ.nodes ++ (x ∷ [])) e' w' (set ws.tables (middle + p.nodes) 0) (linked_at ws.chains p.nodes (bucket_of x)) nodes_more
          (found_more h.found node_room tag of from to b e)
          (tabled_node h.tabled node_room (omega (arith, h.table_count, h.few_entries, h.place, h.source))) (omega (arith, r.nodes)))
          (record { at = refl; nodes = omega arith; more = omega arith; table = omega arith; out = omega arith; args = omega arith; stands = omega arith })
          (omega (arith, node_room))))

      -- as the slices were written
      pub note_written : {e₁ w₁ c₁ : Text} → e₁ ≡ e' → w₁ ≡ w' → c₁ ≡ linked_at ws.chains p.nodes (bucket_of x)
          → seek_by (same_node x) (nodes_of s ws.ends ws.words p.nodes) ≡ none
          → Refines s (Took 1 0 0 p.out p) (written e₁ w₁ c₁) (noted_to p (p.nodes + 1)) (Some (256 + p.nodes)) (notes_node x σ)
      note_written {e₁} {w₁} {c₁} i j k e =
          let R : Text → Text → Text → Type 0 = λ a b d.
          Refines s (Took 1 0 0 p.out p) (written a b d) (noted_to p (p.nodes + 1)) (Some (256 + p.nodes)) (notes_node x σ) in
          subst (λ (a : Text). R a w₁ c₁) (sym i) (subst (λ (b : Text). R e' b c₁) (sym j) (subst (λ (d : Text). R e' w' d) (sym k) (note_new e)))
