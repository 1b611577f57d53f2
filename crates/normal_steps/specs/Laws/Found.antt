-- The nodes that can be found: what a search finds, and a node more. Assumes nothing.
use Rattle.std.specs.Prelude.{Bool, true, false, ◌≡◌, refl, ℕ, suc, ◌+◌, ◌*◌, ◌≤◌, ◌<◌, ltb, length, get_or, Some, None}
use Rattle.std.proofs.Math.Option.{none}
use Rattle.std.proofs.Common.{sym, ap, subst, ◌∙◌, arith, ltb-true, ltb-false}
use Rattle.grammar.specs.Text.{Text}
use Rattle.grammar.specs.Limits.{most_symbol_bytes}
use Rattle.normal_nodes.specs.Nodes.{Node, node, same_node, seek_by}
use Rattle.normal_nodes.specs.Laws.Nodes.{same_node_yes, same_node_eq}
use Rattle.normal_steps.specs.Parts.{part}
use Rattle.normal_steps.specs.Rows.{node_at, nodes_of}
use Rattle.normal_steps.specs.Chains.{bucket_of, Linked, Findable}
use Rattle.normal_steps.specs.Carries.{Sized}
use Rattle.normal_steps.specs.Seeks.{Sought}
use Rattle.normal_steps.specs.Laws.Seeks.{none_passes}
use Rattle.normal_steps.specs.Laws.Rows.{nodes_at, seek_none, seek_some, two_at, two_size, two_first, two_second, two_old, node_old, node_new}
use Rattle.normal_steps.specs.Laws.Chains.{Left, left_none, linked_at, linked_more}

module _ {s e w c : Text} {n : ℕ} (h : Findable s e w c n) where
  -- ---------------------------------------------------------------- the search

  module _ (x : Node) where
    pub found_at : (i : ℕ) → i < n → same_node x (node_at s e w i) ≡ true → Sought (same_node x) (nodes_of s e w n) n (Some i)
    found_at i l t = (
      l,
      seek_some s e w (same_node x) n i l t λ k m u.
          h.distinct k i m l
          (ap (λ (y : Node). same_node y (node_at s e w i)) (sym (same_node_eq x (node_at s e w k) u)) ∙ t),
    )

    pub found_none : {bound i : ℕ} → Left (node_at s e w) n x bound i → bound ≤ i → Sought (same_node x) (nodes_of s e w n) n None
    found_none f m = seek_none s e w (same_node x) n (left_none h.linked x f m)

  -- ---------------------------------------------------------------- a node more

  module _ (m : n < most_symbol_bytes) (tag of from to : ℕ) (b : (from ≤ to) × (to ≤ length s)) where
    abbrev x : Node
    x = node tag of (part s from to)

    abbrev e' : Text
    e' = two_at e n tag of

    abbrev w' : Text
    w' = two_at w n from to

    ends_room : 2 * n + 2 ≤ length e
    ends_room = omega (arith, h.ends_size)

    words_room : 2 * n + 2 ≤ length w
    words_room = omega (arith, h.words_size)

    is_new : node_at s e' w' n ≡ x
    is_new = node_new s e w n tag of from to ends_room words_room

    old : (i : ℕ) → i < n → node_at s e' w' i ≡ node_at s e w i
    old = node_old s e w n tag of from to

    inside_more : (i : ℕ) → i < suc n → (get_or w' (2 * i) 0 ≤ get_or w' (2 * i + 1) 0) × (get_or w' (2 * i + 1) 0 ≤ length s)
    inside_more i l = go (ltb i n) refl
      where
        go : (q : Bool) → ltb i n ≡ q → (get_or w' (2 * i) 0 ≤ get_or w' (2 * i + 1) 0) × (get_or w' (2 * i + 1) 0 ≤ length s)
        go true q =
            let k = ltb-true i n q in
            let f = two_old w n from to (2 * i) (omega arith) in
            let g = two_old w n from to (2 * i + 1) (omega arith) in
            let r = h.inside i k in
            (omega arith, omega arith)
        go false q =
            let k : n ≡ i = omega (arith, ltb-false i n q) in
            subst (λ (j : ℕ). (get_or w' (2 * j) 0 ≤ get_or w' (2 * j + 1) 0) × (get_or w' (2 * j + 1) 0 ≤ length s)) k
            (let f = two_first w n from to words_room in let g = two_second w n from to words_room in (omega (arith, b), omega (arith, b)))

    module _ (f : seek_by (same_node x) (nodes_of s e w n) ≡ none) where
      missing : (i : ℕ) → i < n → same_node x (node_at s e w i) ≡ true → ⊥
      missing i l t = none_passes (same_node x) (nodes_of s e w n) i (node_at s e w i) f (nodes_at s e w n i l) t

      -- the new node is none of the others
      never : (i j : ℕ) → i < n → j ≡ n → (node_at s e' w' i ≡ node_at s e' w' j) → ⊥
      never i j l k q =
          missing i l
          (ap (same_node x) (sym (old i l) ∙ q ∙ ap (λ (a : ℕ). node_at s e' w' a) k ∙ is_new) ∙ same_node_yes x)

      distinct_more : (i j : ℕ) → i < suc n → j < suc n → same_node (node_at s e' w' i) (node_at s e' w' j) ≡ true → i ≡ j
      distinct_more i j l k t = go (ltb i n) (ltb j n) refl refl
        where
          same : node_at s e' w' i ≡ node_at s e' w' j
          same = same_node_eq (node_at s e' w' i) (node_at s e' w' j) t

          go : (p q : Bool) → ltb i n ≡ p → ltb j n ≡ q → i ≡ j
          go true true p q =
              let a = ltb-true i n p in
              let d = ltb-true j n q in
              h.distinct i j a d
              (ap (same_node (node_at s e w i)) (sym (sym (old i a) ∙ same ∙ old j d)) ∙ same_node_yes (node_at s e w i))
          go true false p q = absurd (never i j (ltb-true i n p) (omega (arith, ltb-false j n q)) same)
          go false true p q = absurd (never j i (ltb-true j n q) (omega (arith, ltb-false i n p)) (sym same))
          go false false p q = omega (arith, ltb-false i n p, ltb-false j n q)

      pub found_more : Findable s e' w' (linked_at c n (bucket_of x)) (suc n)
      found_more = record {
        few = omega arith;
        ends_size = two_size e n tag of ∙ h.ends_size;
        words_size = two_size w n from to ∙ h.words_size;
        inside = inside_more;
        distinct = distinct_more;
        linked = subst (λ (y : Node). Linked (suc n) (node_at s e' w') (linked_at c n (bucket_of y))) is_new (linked_more h.linked (node_at s e' w') old m);
      }

-- no node is there
pub found_nothing : {s e w t c : Text} → Sized e w t c → Findable s e w c 0
found_nothing z = record {
  few = omega arith;
  ends_size = z.ends;
  words_size = z.words;
  inside = λ i l. absurd (omega arith);
  distinct = λ i j l. absurd (omega arith);
  linked = record { size = z.chains; head = λ k l. absurd (omega arith); next = λ j k m l. absurd (omega arith) };
}
