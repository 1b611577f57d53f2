-- Laws of Chains.antt: the search along a chain, and a node more. Assumes nothing.
use Rattle.std.specs.Prelude.{Bool, true, false, List, ◌≡◌, refl, ℕ, suc, ◌+◌, ◌≤◌, ◌<◌, eqb, ltb, length, get_or, set}
use Rattle.std.proofs.Common.{true≢false, sym, ap, subst, ◌∙◌, arith, eqb-true, ltb-true, ltb-false, length-set, get_or-set_same, get_or-set_other}
use Rattle.std.proofs.lemmas.Bool.{eqb-false}
use Rattle.catalogue.specs.Answer.{least_numbers}
use Rattle.normal_nodes.specs.Nodes.{Node, same_node}
use Rattle.normal_nodes.specs.Laws.Nodes.{same_node_eq}
use Rattle.normal_steps.specs.Limits.{middle}
use Rattle.normal_steps.specs.Chains.{buckets, bucket_of, Reaches, Linked}

pub bucket_below : (x : Node) → bucket_of x < buckets
unfolding bucket_of
bucket_below x = omega arith

-- ---------------------------------------------------------------- the search

-- where a node is x, the chain from i on reaches it, below the bound
abbrev pub Left : (ℕ → Node) → ℕ → Node → ℕ → ℕ → Type 0
Left at n x bound i = (k : ℕ) → k < n → same_node x (at k) ≡ true → Reaches at (bucket_of x) bound k i

module _ {n : ℕ} {at : ℕ → Node} {c : List ℕ} (h : Linked n at c) (x : Node) where
  same_bucket : (k : ℕ) → same_node x (at k) ≡ true → bucket_of (at k) ≡ bucket_of x
  same_bucket k t = sym (ap bucket_of (same_node_eq x (at k) t))

  pub left_first : Left at n x n (get_or c (bucket_of x) 0)
  left_first k l t = subst (λ (b : ℕ). Reaches at b n k (get_or c b 0)) (same_bucket k t) (h.head k l)

  pub left_next : {bound i : ℕ} → bound ≤ n → Left at n x bound i → i < bound → same_node x (at i) ≡ false → Left at n x i (get_or c (middle + i) 0)
  left_next {bound} {i} m f b e k l t =
      let g = f k l t in
      let q : k < i = earlier k (ne k t) g.0 in
      subst (λ (j : ℕ). Reaches at j i k (get_or c (middle + i) 0)) g.1.1 (h.next i k q (omega arith) (same_bucket k t ∙ sym g.1.1))
    where
      ne : (k : ℕ) → same_node x (at k) ≡ true → k ≡ i → ⊥
      ne k t q = true≢false (sym t ∙ ap (λ (j : ℕ). same_node x (at j)) q ∙ e)

      earlier : (k : ℕ) → (k ≡ i → ⊥) → k ≤ i → k < i
      earlier k f l = go (ltb k i) refl
        where
          go : (q : Bool) → ltb k i ≡ q → k < i
          go true q = ltb-true k i q
          go false q = absurd (f (omega (arith, ltb-false k i q)))

  pub left_none : {bound i : ℕ} → Left at n x bound i → bound ≤ i → (k : ℕ) → k < n → same_node x (at k) ≡ true → ⊥
  left_none f m k l t = let g = (f k l t).1.0 in omega arith

-- ---------------------------------------------------------------- a node more

abbrev pub linked_at : List ℕ → ℕ → ℕ → List ℕ
linked_at c n b = set (set c (middle + n) (get_or c b 0)) b n

module _ {n : ℕ} {at : ℕ → Node} {c : List ℕ} (h : Linked n at c) (at' : ℕ → Node) (old : (i : ℕ) → i < n → at' i ≡ at i) (m : n < middle) where
  abbrev b : ℕ
  b = bucket_of (at' n)

  abbrev v : ℕ
  v = get_or c b 0

  size : length (set c (middle + n) v) ≡ least_numbers
  size = length-set c (middle + n) v ∙ h.size

  -- what the chain had for an earlier node
  kept : (j bound k i : ℕ) → bound ≤ n → Reaches at j bound k i → Reaches at' j bound k i
  kept j bound k i l (x, (y, z)) = (x, (y, ap bucket_of (old i (omega arith)) ∙ z))

  in_head : (j : ℕ) → j < middle → (j ≡ b → ⊥) → get_or (linked_at c n b) j 0 ≡ get_or c j 0
  in_head j l f = get_or-set_other (set c (middle + n) v) b j n 0 f ∙ get_or-set_other c (middle + n) j v 0 (λ q. omega arith)

  at_head : get_or (linked_at c n b) b 0 ≡ n
  at_head = get_or-set_same (set c (middle + n) v) b n 0 (omega (arith, size, bucket_below (at' n)))

  in_chain : (j : ℕ) → get_or (linked_at c n b) (middle + j) 0 ≡ get_or (set c (middle + n) v) (middle + j) 0
  in_chain j = get_or-set_other (set c (middle + n) v) b (middle + j) n 0 (λ q. omega (arith, bucket_below (at' n)))

  new_head : (k : ℕ) → k < suc n → Reaches at' (bucket_of (at' k)) (suc n) k (get_or (linked_at c n b) (bucket_of (at' k)) 0)
  new_head k l = go (eqb (bucket_of (at' k)) b) refl
    where
      go : (q : Bool) → eqb (bucket_of (at' k)) b ≡ q → Reaches at' (bucket_of (at' k)) (suc n) k (get_or (linked_at c n b) (bucket_of (at' k)) 0)
      go true q =
          let e = eqb-true (bucket_of (at' k)) b q in
          let g : get_or (linked_at c n b) (bucket_of (at' k)) 0 ≡ n = ap (λ (j : ℕ). get_or (linked_at c n b) j 0) e ∙ at_head in
          subst (Reaches at' (bucket_of (at' k)) (suc n) k) (sym g) (omega arith, (omega arith, sym e))
      go false q =
          let f = eqb-false (bucket_of (at' k)) b q in
          let l' : k < n = less (λ e. f (ap (λ (j : ℕ). bucket_of (at' j)) e)) in
          let e = ap bucket_of (old k l') in
          let (x, (y, z)) = kept (bucket_of (at k)) n k (get_or c (bucket_of (at k)) 0) (omega arith) (h.head k l') in
          subst (Reaches at' (bucket_of (at' k)) (suc n) k) (sym (in_head (bucket_of (at' k)) (bucket_below (at' k)) f))
          (subst (λ (j : ℕ). Reaches at' j (suc n) k (get_or c j 0)) (sym e) (x, (omega arith, z)))
        where
          less : (k ≡ n → ⊥) → k < n
          less f = by (ltb k n) refl
            where
              by : (q : Bool) → ltb k n ≡ q → k < n
              by true q = ltb-true k n q
              by false q = absurd (f (omega (arith, ltb-false k n q)))

  new_next : (j k : ℕ) → k < j → j < suc n → bucket_of (at' k) ≡ bucket_of (at' j) → Reaches at' (bucket_of (at' j)) j k (get_or (linked_at c n b) (middle + j) 0)
  new_next j k l i e = go (ltb j n) refl
    where
      go : (q : Bool) → ltb j n ≡ q → Reaches at' (bucket_of (at' j)) j k (get_or (linked_at c n b) (middle + j) 0)
      go true q =
          let y = ltb-true j n q in
          let a = ap bucket_of (old j y) in
          let g = in_chain j ∙ get_or-set_other c (middle + n) (middle + j) v 0 (λ z. omega arith) in
          subst (Reaches at' (bucket_of (at' j)) j k) (sym g)
          (subst (λ (z : ℕ). Reaches at' z j k (get_or c (middle + j) 0)) (sym a)
          (kept (bucket_of (at j)) j k (get_or c (middle + j) 0) (omega arith) (h.next j k l y (sym (ap bucket_of (old k (omega arith))) ∙ e ∙ a))))
      go false q =
          let y : j ≡ n = omega (arith, ltb-false j n q) in
          let a : bucket_of (at k) ≡ b = sym (ap bucket_of (old k (omega arith))) ∙ e ∙ ap (λ (z : ℕ). bucket_of (at' z)) y in
          let g : get_or (linked_at c n b) (middle + j) 0 ≡ v =
          in_chain j ∙ ap (λ (z : ℕ). get_or (set c (middle + n) v) (middle + z) 0) y ∙ get_or-set_same c (middle + n) v 0 (omega (arith, h.size)) in
          subst (Reaches at' (bucket_of (at' j)) j k) (sym g)
          (subst (λ (z : ℕ). Reaches at' z j k v) (sym (ap (λ (z : ℕ). bucket_of (at' z)) y))
          (subst (λ (z : ℕ). Reaches at' b z k v) (sym y)
          (kept b n k v (omega arith) (subst (λ (z : ℕ). Reaches at z n k (get_or c z 0)) a (h.head k (omega arith))))))

  pub linked_more : Linked (suc n) at' (linked_at c n b)
  linked_more = record { size = length-set (set c (middle + n) v) b n ∙ size; head = new_head; next = new_next }
