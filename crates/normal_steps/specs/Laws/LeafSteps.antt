-- What the writing holds after a source name, a reference or a literal was read. Assumes nothing.
use Rattle.std.specs.Prelude.{Bool, true, false, [], ◌∷◌, ◌++◌, ◌≡◌, ℕ, suc, ◌+◌, ◌-◌, ◌*◌, ◌≤◌, ◌<◌, take, drop}
use Rattle.std.proofs.Common.{append_assoc, sym, ap, ◌∙◌, length-append, take_at}
use Rattle.std.proofs.Math.Option.{some}
use Rattle.std.proofs.Math.Path.{refl, subst}
use Prim.Native.Char.{code}
use native.Mathlib.Omega.{arith}
use Rattle.std.proofs.Math.ListN.{length, get_elem?, length-drop}
use Rattle.grammar.specs.Text.{Text, choose}
use Rattle.catalogue.specs.Tree.{Ty, lit, kind_code}
use Rattle.catalogue.specs.Spelling.{name_bytes}
use Rattle.catalogue.specs.Recogniser.{Rd, rd}
use Rattle.normal_walk.specs.Walk.{name, reference, literal, lit_bytes}
use Rattle.normal_walk.specs.Laws.Joins.{OfRd}
use Rattle.normal_walk.proofs.Laws.Leaves.{Literal, lit_sound}
use Rattle.normal_walk.proofs.Laws.Sizes.{name_length}
use Rattle.normal_nodes.specs.Nodes.{node, Notes, Noter, Got, got, bad, notes, put, go_to, settled, signed_kind, with, with_node, number_of, at_reference}
use Rattle.normal_nodes.specs.Laws.Nodes.{kind_below}
use Rattle.normal_steps.specs.Limits.{most_note, out_length}
use Rattle.normal_steps.specs.Parts.{part}
use Rattle.normal_steps.specs.Laws.Parts.{part_length}
use Rattle.normal_steps.specs.Answers.{NameAt, RefAt, Value, most_index}
use Rattle.normal_steps.specs.Laws.Leaves.{no_entry, entry_told}
use Rattle.normal_steps.specs.States.{moved_to, written_to}
use Rattle.normal_steps.specs.Carries.{Work, Carries, Room, Stretch, notes_node, at_literal, Passed}
use Rattle.normal_steps.specs.Laws.Slices.{out_size}
use Rattle.normal_steps.specs.Laws.Moves.{holds_moved}
use Rattle.normal_steps.specs.Laws.Limits.{passed_none, passed_more, room_for, room_less, stretch_for}
use Rattle.normal_steps.specs.Laws.Steps.{with_some}
use Rattle.normal_steps.specs.declared.state.State.{State}

-- a part of the symbol as another name of it has it
pub same_part : {s s' : Text} (from to : ℕ) → s' ≡ s → part s' from to ≡ part s from to
same_part from to e = ap (λ (t : Text). part t from to) e

-- ---------------------------------------------------------------- source names

abbrev name_of : Text → ℕ → ℕ → Text
name_of s from to = name_bytes (part s from to)

module _ {s : Text} {at from to : ℕ} (x : NameAt s at from to) where
  pub name_size : (length (name_of s from to) ≡ to - at) × (at + 2 ≤ to)
  unfolding OfRd
  name_size =
      let l = subst (λ (o : Rd Text). OfRd o (λ n r. (length (name_bytes n) + length r ≡ length (drop at s)) × (2 ≤ length (name_bytes n)))) x.is (name_length (drop at s)) in
      let a = length-drop at s in
      let b = length-drop to s in
      let m = x.inside in
      (omega arith, omega arith)

  module _ {ws : Work} {p : State} {σ : Notes} (h : Carries s ws p σ) (b : at ≡ p.at) where
    pub name_fits : p.out + length (name_of s from to) ≤ length ws.out
    name_fits = let z = name_size in let i = x.inside in omega (arith, out_size h)

    -- as the writing tells it
    pub name_held : {s' : Text} {ws' : Work} {r : State}
        → ((τ : Notes) → Carries s ws (moved_to p to) τ → p.out + length (name_of s from to) + 1 ≤ 4 * to → Carries s' ws' r (put (name_of s from to) τ))
        → Carries s' ws' r (put (name_of s from to) (go_to (drop to s) σ))
    name_held f = let z = name_size in f _ (holds_moved h to (omega arith) x.inside) (omega (arith, h.short))

    -- what follows the name
    pub name_reads : {s' : Text} (f : Text → Noter ℕ) → s' ≡ s
        → with (name σ.rest) (λ n r. f n (put (name_bytes n) (go_to r σ))) ≡ f (part s' from to) (put (name_of s from to) (go_to (drop to s) σ))
    name_reads f e =
        with_some _ (ap name (h.rest ∙ ap (λ (k : ℕ). drop k s) (sym b)) ∙ x.is)
        ∙ ap (λ (n : Text). f n (put (name_of s from to) (go_to (drop to s) σ))) (sym (same_part from to e))

    module _ {r : State} (y : r ≡ written_to (moved_to p to) (p.out + length (name_of s from to))) where
      pub name_wrote : Passed to (to - at) p r
      name_wrote =
          let z = name_size in
          let l : 0 + length (name_of s from to) ≡ to - at = omega arith in
          subst (λ (k : ℕ). Passed to k p r) l (passed_more (length (name_of s from to)) (passed_none p refl) y)

      pub name_room : Room 1 1 r
      name_room = let z = name_size in room_for h name_wrote (omega arith)

      pub name_stretch : Stretch p.out r
      name_stretch = let z = name_size in stretch_for h name_wrote (omega arith) (omega arith)

      -- a node may be noted with its word
      pub name_noted : {s' : Text} {ws' : Work} → s' ≡ s
          → ((τ : Notes) → Carries s ws (moved_to p to) τ → p.out + length (name_of s from to) + 1 ≤ 4 * to → Carries s' ws' r (put (name_of s from to) τ))
          → ((from ≤ to) × (to ≤ length s')) × (Room 1 0 r × ((τ : Notes) × Carries s' ws' r τ))
      name_noted e f = ((omega (arith, x.some), omega (arith, x.inside, ap length e)), (room_less name_room, (_, name_held f)))

-- ---------------------------------------------------------------- references

module _ {s : Text} {ws : Work} {p : State} {σ : Notes} (h : Carries s ws p σ) {i end : ℕ} (x : RefAt s p.at i end) where
  same_entry : get_elem? σ.table x.index ≡ get_elem? σ.table i
  same_entry = sym (entry_told σ.table x.index {n = most_index} (omega arith)) ∙ ap (get_elem? σ.table) (sym x.told)

  abbrev found : ℕ → ℕ → Text → Got ℕ
  found from j r = choose (get_elem? σ.table j) (λ t. got t (settled t from (go_to r σ))) bad

  reference_by : (from : ℕ) → at_reference from σ ≡ found from x.index (drop end s)
  reference_by from = with_some (found from) (ap reference h.rest ∙ x.is)

  -- behind the table
  pub reference_none : (from : ℕ) → p.table ≤ i → at_reference from σ ≡ bad
  unfolding choose
  reference_none from l = reference_by from ∙ rw (same_entry ∙ no_entry σ.table i (omega arith)) refl

  pub reference_is : (from : ℕ) {t : ℕ} → get_elem? σ.table i ≡ some t → at_reference from σ ≡ got t (settled t from (go_to (drop end s) σ))
  unfolding choose
  reference_is from e = reference_by from ∙ rw (same_entry ∙ e) refl

-- ---------------------------------------------------------------- literals

pub signed_below : (k : ℕ) (g : Bool) → k < 256 → signed_kind k g < most_note
signed_below k true l = omega arith
signed_below k false l = omega arith

lit_bytes_are : (s : Text) (t : Ty) (r : Text) → Literal s t r → lit_bytes t ++ r ≡ code "L" ∷ s
lit_bytes_are s t r x = rw x.is (simp append_assoc (ap (λ (y : Text). code "L" ∷ y) x.spells))

-- the bytes of a literal are those that were read behind L
lit_part : (s : Text) (at to : ℕ) (t : Ty) → literal (drop at s) ≡ rd t (drop to s) → at ≤ to → to ≤ length s → lit_bytes t ≡ code "L" ∷ part s at to
unfolding OfRd
lit_part s at to t e l m =
    let x = subst (λ (o : Rd Ty). OfRd o (Literal (drop at s))) e (lit_sound (drop at s)) in
    let y = lit_bytes_are (drop at s) t (drop to s) x in
    let z : length (lit_bytes t) ≡ suc (to - at) =
    omega (arith, ap length y, length-append (lit_bytes t) (drop to s), length-drop at s, length-drop to s) in
    sym (take_at (lit_bytes t) (drop to s) (suc (to - at)) z) ∙ ap (take (suc (to - at))) y

module _ {s : Text} {ws : Work} {p : State} {σ : Notes} (h : Carries s ws p σ) {to kind : ℕ} {g : Bool} {from : ℕ}
    (x : Value (literal (drop p.at s)) s to kind g from) (b : p.at < from) where
  abbrev marked : Notes
  marked = put (code "L" ∷ []) (go_to (drop to s) σ)

  -- where the parts are known by other names
  pub literal_is : {m : ℕ} {n u : Text} → m ≡ signed_kind kind g → n ≡ part s from (to - 1) → u ≡ part s p.at to
      → at_literal σ ≡ notes_node (node (code "L") m n) (put u marked)
  literal_is {m} {n} {u} e a d =
      let f : signed_kind (kind_code x.of) g ≡ m = ap (λ (k : ℕ). signed_kind k g) x.byte ∙ sym e in
      let z : σ.out ++ lit_bytes (lit x.of g (part s from (to - 1))) ≡ (σ.out ++ (code "L" ∷ [])) ++ u =
      ap (λ (w : Text). σ.out ++ w) (lit_part s p.at to (lit x.of g (part s from (to - 1))) x.is (omega arith) x.inside)
      ∙ sym (append_assoc σ.out (code "L" ∷ []) (part s p.at to))
      ∙ ap (λ (w : Text). (σ.out ++ (code "L" ∷ [])) ++ w) (sym d) in
      with_some _ (ap literal h.rest ∙ x.is)
      ∙ ap (λ (j : ℕ). by j (part s from (to - 1)) (σ.out ++ lit_bytes (lit x.of g (part s from (to - 1))))) f
      ∙ ap (by m (part s from (to - 1))) z
      ∙ ap (λ (w : Text). by m w ((σ.out ++ (code "L" ∷ [])) ++ u)) (sym a)
    where
      by : ℕ → Text → Text → Got ℕ
      by j n w =
          got (number_of (node (code "L") j n) σ.nodes)
          (notes w (with_node (node (code "L") j n) σ.nodes) σ.table σ.args (drop to s))

  pub literal_kind : kind < 256
  literal_kind = omega (arith, kind_below x.of, x.byte)

  -- as the writing tells it
  pub literal_marked : {s' : Text} {ws' : Work} {q : State}
      → ((τ : Notes) → Carries s ws (moved_to p to) τ → p.out + 1 + 1 ≤ 4 * to → Carries s' ws' q (put (code "L" ∷ []) τ))
      → Carries s' ws' q marked
  literal_marked f = f _ (holds_moved h to (omega (arith, x.some)) x.inside) (omega (arith, h.short, x.some))

  module _ {u : Text} (a : u ≡ part s p.at to) where
    literal_length : length u ≡ to - p.at
    literal_length = ap length a ∙ part_length s p.at to x.inside

    module _ {q : State} (y : q ≡ written_to (moved_to p to) (p.out + 1)) where
      pub literal_spare : q.out + length u + 1 ≤ 4 * q.at
      literal_spare =
          omega (arith, literal_length, h.short, x.some, ap (λ (z : State). z.out) y, ap (λ (z : State). z.at) y)

      pub literal_fits : q.out + (to - p.at) ≤ out_length
      literal_fits = omega (arith, literal_length, literal_spare, h.source, x.inside, ap (λ (z : State). z.at) y)

      module _ {r : State} (z : r ≡ written_to q (q.out + length u)) where
        pub literal_wrote : Passed to (to - p.at + 1) p r
        literal_wrote =
            let l : 0 + 1 + length u ≡ to - p.at + 1 = omega (arith, literal_length) in
            subst (λ (k : ℕ). Passed to k p r) l (passed_more (length u) (passed_more 1 (passed_none p refl) y) z)

        pub literal_room : Room 1 1 r
        literal_room = room_for h literal_wrote (omega (arith, x.some))
