-- Laws of Rows.antt. Assumes nothing.
use Rattle.std.specs.Prelude.{Bool, ◌≡◌, length, get_or, set}
use Rattle.std.proofs.Math.Bool.{true, false}
use mathlib.Core.List.{List, [], ◌∷◌, ◌++◌}
use Rattle.std.proofs.Math.Option.{none, some}
use Rattle.std.proofs.Math.Path.{refl, sym, ap}
use Rattle.std.proofs.Common.{ap₂, ◌∙◌, arith, length-set, get_or-set_same, get_or-set_other}
use Prim.Native.Nat.{ℕ, zero, suc, ◌+◌, ◌*◌, ◌≤◌, ◌<◌}
use borrow.Author.Tests.{ltb-true, ltb-false}
use Rattle.std.proofs.Math.Dec.{ltb}
use Rattle.std.proofs.Math.ListN.{get_elem?, length-append}
use Rattle.grammar.specs.Text.{Text}
use Rattle.normal_nodes.specs.Nodes.{Node, node, seek_by}
use Rattle.normal_nodes.specs.Laws.Nodes.{at_left, at_end}
use Rattle.normal_steps.specs.Parts.{part}
use Rattle.normal_steps.specs.Rows.{node_at, nodes_of}
use Rattle.normal_steps.specs.Laws.Seeks.{seek_empty, seek_past, seek_here, seek_longer}

-- a test that can't be true
pub not_passed : (q : Bool) → (q ≡ true → ⊥) → q ≡ false
not_passed true f = absurd (f refl)
not_passed false f = refl

module _ (s e w : Text) where
  pub length_nodes : (n : ℕ) → length (nodes_of s e w n) ≡ n
  unfolding nodes_of
  length_nodes zero = refl
  length_nodes (suc n) = omega (arith, length-append (nodes_of s e w n) (node_at s e w n ∷ []), length_nodes n)

  pub nodes_at : (n i : ℕ) → i < n → get_elem? (nodes_of s e w n) i ≡ some (node_at s e w i)
  unfolding nodes_of
  nodes_at zero i l = absurd (omega arith)
  nodes_at (suc n) i l = go (ltb i n) refl (λ m. nodes_at n i m)
    where
      go : (q : Bool) → ltb i n ≡ q → (i < n → get_elem? (nodes_of s e w n) i ≡ some (node_at s e w i))
          → get_elem? (nodes_of s e w n ++ (node_at s e w n ∷ [])) i ≡ some (node_at s e w i)
      go true q f = at_left (nodes_of s e w n) (node_at s e w n ∷ []) i (node_at s e w i) (f (ltb-true i n q))
      go false q f =
          let k : i ≡ n = omega (arith, ltb-false i n q) in
          ap (get_elem? (nodes_of s e w n ++ (node_at s e w n ∷ []))) (k ∙ sym (length_nodes n))
          ∙ at_end (nodes_of s e w n) (node_at s e w n)
          ∙ ap (λ (j : ℕ). some (node_at s e w j)) (sym k)

  -- the place of the one node that passes a test
  module _ (p : Node → Bool) where
    pub seek_none : (n : ℕ) → ((k : ℕ) → k < n → p (node_at s e w k) ≡ true → ⊥) → seek_by p (nodes_of s e w n) ≡ none
    unfolding nodes_of
    seek_none zero f = seek_empty p
    seek_none (suc n) f =
        seek_past p (nodes_of s e w n) (node_at s e w n) (seek_none n (λ k l. f k (omega arith)))
        (not_passed (p (node_at s e w n)) (f n (omega arith)))

    pub seek_some : (n i : ℕ) → i < n → p (node_at s e w i) ≡ true → ((k : ℕ) → k < n → p (node_at s e w k) ≡ true → k ≡ i)
        → seek_by p (nodes_of s e w n) ≡ some i
    unfolding nodes_of
    seek_some zero i l t f = absurd (omega arith)
    seek_some (suc n) i l t f = go (ltb i n) refl (λ m. seek_some n i m t (λ k b. f k (omega arith)))
      where
        go : (q : Bool) → ltb i n ≡ q → (i < n → seek_by p (nodes_of s e w n) ≡ some i) → seek_by p (nodes_of s e w n ++ (node_at s e w n ∷ [])) ≡ some i
        go true q g = seek_longer p (nodes_of s e w n) (node_at s e w n) i (g (ltb-true i n q))
        go false q g =
            let k : i ≡ n = omega (arith, ltb-false i n q) in
            seek_here p (nodes_of s e w n) (node_at s e w n) [] (seek_none n (λ j b u. omega (arith, f j (omega arith) u)))
            (ap (λ (j : ℕ). p (node_at s e w j)) (sym k) ∙ t)
            ∙ ap some (length_nodes n ∙ sym k)

-- two lists of nodes that have the same nodes
pub nodes_same : (s e w e' w' : Text) (n : ℕ) → ((i : ℕ) → i < n → node_at s e' w' i ≡ node_at s e w i) → nodes_of s e' w' n ≡ nodes_of s e w n
unfolding nodes_of
nodes_same s e w e' w' zero f = refl
nodes_same s e w e' w' (suc n) f =
    ap₂ (λ (ns : List Node) (x : Node). ns ++ (x ∷ [])) (nodes_same s e w e' w' n (λ i l. f i (omega arith))) (f n (omega arith))

-- ---------------------------------------------------------------- two numbers more

abbrev pub two_at : Text → ℕ → ℕ → ℕ → Text
two_at l n a b = set (set l (2 * n) a) (2 * n + 1) b

module _ (l : Text) (n a b : ℕ) where
  pub two_size : length (two_at l n a b) ≡ length l
  two_size = length-set (set l (2 * n) a) (2 * n + 1) b ∙ length-set l (2 * n) a

  pub two_first : 2 * n + 2 ≤ length l → get_or (two_at l n a b) (2 * n) 0 ≡ a
  two_first m =
      get_or-set_other (set l (2 * n) a) (2 * n + 1) (2 * n) b 0 (λ q. omega arith) ∙ get_or-set_same l (2 * n) a 0 (omega arith)

  pub two_second : 2 * n + 2 ≤ length l → get_or (two_at l n a b) (2 * n + 1) 0 ≡ b
  two_second m = get_or-set_same (set l (2 * n) a) (2 * n + 1) b 0 (omega (arith, length-set l (2 * n) a))

  pub two_old : (j : ℕ) → j < 2 * n → get_or (two_at l n a b) j 0 ≡ get_or l j 0
  two_old j m =
      get_or-set_other (set l (2 * n) a) (2 * n + 1) j b 0 (λ q. omega arith) ∙ get_or-set_other l (2 * n) j a 0 (λ q. omega arith)

module _ (s e w : Text) (n tag of from to : ℕ) where
  pub node_old : (i : ℕ) → i < n → node_at s (two_at e n tag of) (two_at w n from to) i ≡ node_at s e w i
  node_old i l =
      let a = two_old e n tag of (2 * i) (omega arith) in
      let b = two_old e n tag of (2 * i + 1) (omega arith) in
      let c = two_old w n from to (2 * i) (omega arith) in
      let d = two_old w n from to (2 * i + 1) (omega arith) in
      λ k. node (a k) (b k) (part s (c k) (d k))

  pub node_new : 2 * n + 2 ≤ length e → 2 * n + 2 ≤ length w → node_at s (two_at e n tag of) (two_at w n from to) n ≡ node tag of (part s from to)
  node_new l m =
      let a = two_first e n tag of l in
      let b = two_second e n tag of l in
      let c = two_first w n from to m in
      let d = two_second w n from to m in
      λ k. node (a k) (b k) (part s (c k) (d k))
