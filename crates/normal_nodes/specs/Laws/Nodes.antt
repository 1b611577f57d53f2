-- Laws of lists, nodes and tags that the numbers of trees rest on.
use Rattle.std.specs.Prelude.{Bool, true, false, not, ◌&&◌, ◌||◌, List, [], ◌∷◌, ◌++◌, ◌⊎◌, ◌≡◌, refl, ℕ, zero, suc, ◌+◌, ◌<◌, eqb, length}
use Rattle.std.proofs.Common.{inl, inr, sym, ap, arith, ne_eqb, leb-false}
use Rattle.std.proofs.Math.Option.{Option, none, some, none-ne-some}
use Rattle.std.proofs.Math.ListN.{get_elem?}
use Rattle.grammar.specs.Text.{if◌then◌otherwise◌, same}
use Rattle.catalogue.specs.Bytes.{and_left, and_right, eqb_yes, eqb_eq, same_eq, same_yes}
use Rattle.catalogue.specs.Laws.Bytes.{or-false}
use Rattle.catalogue.specs.Tree.{Letter, Wrap, Kind, Ty, wP, wR, wO, wK, wV, is_lit, is_ref, is_qual, same_ty, letter_code, wrap_code, kind_code}
use Rattle.catalogue.specs.Class.{stands}
use Rattle.catalogue.specs.Normal.{seek, later as next_place}
use Rattle.catalogue.proofs.Laws.LowBytes.{letter_low, wrap_low, kind_low}
use Rattle.normal_nodes.specs.Nodes.{Node, node, least_number, same_node, later, seek_by, a_ref, a_qual}

-- two tests of which each follows from the other
pub same_test : (p q : Bool) → (p ≡ true → q ≡ true) → (q ≡ true → p ≡ true) → p ≡ q
same_test true q f g = sym (f refl)
same_test false true f g = g refl
same_test false false f g = refl

-- ---------------------------------------------------------------- places in a list

module _ {A : Type 0} where
  pub at_left : (us ws : List A) (i : ℕ) (x : A) → get_elem? us i ≡ some x → get_elem? (us ++ ws) i ≡ some x
  at_left [] ws i x h = absurd (none-ne-some x h)
  at_left (u ∷ us) ws zero x h = h
  at_left (u ∷ us) ws (suc i) x h = at_left us ws i x h

  pub at_end : (us : List A) (x : A) → get_elem? (us ++ (x ∷ [])) (length us) ≡ some x
  at_end [] x = refl
  at_end (u ∷ us) x = at_end us x

  -- of a list with x at its end
  pub at_either : (us : List A) (x : A) (i : ℕ) (y : A) → get_elem? (us ++ (x ∷ [])) i ≡ some y
      → (get_elem? us i ≡ some y) ⊎ ((i ≡ length us) × (x ≡ y))
  at_either [] x zero y h = inr (refl, (cc))
  at_either [] x (suc i) y h = absurd (none-ne-some y h)
  at_either (u ∷ us) x zero y h = inl h
  at_either (u ∷ us) x (suc i) y h = later_or (at_either us x i y h)
    where
      later_or : (get_elem? us i ≡ some y) ⊎ ((i ≡ length us) × (x ≡ y)) → (get_elem? us i ≡ some y) ⊎ ((suc i ≡ suc (length us)) × (x ≡ y))
      later_or (inl k) = inl k
      later_or (inr k) = inr (ap suc k.0, k.1)

places_agree : (o : Option ℕ) → later o ≡ next_place o
places_agree none = refl
places_agree (some i) = refl

-- a test that holds of what stands for u alone finds the place of u
pub seek_law : {A : Type 0} (p : A → Bool) (u : Ty) (xs : List A) (vs : List Ty) → length xs ≡ length vs
    → ((i : ℕ) (x : A) (v : Ty) → get_elem? xs i ≡ some x → get_elem? vs i ≡ some v → p x ≡ same_ty u v) → seek_by p xs ≡ seek u vs
unfolding seek_by seek
seek_law p u [] [] e h = refl
seek_law p u [] (v ∷ vs) e h = absurd (omega arith)
seek_law p u (x ∷ xs) [] e h = absurd (omega arith)
seek_law p u (x ∷ xs) (v ∷ vs) e h =
    rw (h 0 x v refl refl, seek_law p u xs vs (omega arith) (λ i. h (suc i)))
    (ap (λ o. if same_ty u v then some 0 otherwise o) (places_agree (seek u vs)))

-- ---------------------------------------------------------------- equal nodes

pub node_eq : (x y : Node) → x.tag ≡ y.tag → x.of ≡ y.of → x.word ≡ y.word → x ≡ y
node_eq x y p q r = λ i. node (p i) (q i) (r i)

pub same_node_yes : (x : Node) → same_node x x ≡ true
unfolding same_node
same_node_yes x = rw (eqb_yes x.tag, eqb_yes x.of) (same_yes x.word)

pub same_node_eq : (x y : Node) → same_node x y ≡ true → x ≡ y
unfolding same_node
same_node_eq x y h =
    let a = eqb x.tag y.tag in
    let b = eqb x.of y.of in
    let c = same x.word y.word in
    let k = and_right a (b && c) h in
    node_eq x y (eqb_eq x.tag y.tag (and_left a (b && c) h)) (eqb_eq x.of y.of (and_left b c k)) (same_eq x.word y.word (and_right b c k))

-- ---------------------------------------------------------------- bytes and tags

pub letter_below : (l : Letter) → letter_code l < least_number
letter_below l = let h = leb-false 128 (letter_code l) (letter_low l) in omega arith

pub wrap_below : (c : Wrap) → wrap_code c < least_number
wrap_below c = let h = leb-false 128 (wrap_code c) (wrap_low c) in omega arith

pub kind_below : (k : Kind) → kind_code k < least_number
kind_below k = let h = leb-false 128 (kind_code k) (kind_low k) in omega arith

pub every_wrap : (P : Wrap → Type 0) → P wP → P wR → P wO → P wK → P wV → (c : Wrap) → P c
every_wrap P a b c d e wP = a
every_wrap P a b c d e wR = b
every_wrap P a b c d e wO = c
every_wrap P a b c d e wK = d
every_wrap P a b c d e wV = e

-- the tag of an argument is no byte
pub no_byte : (e c : ℕ) → c < least_number → eqb (least_number + e) c ≡ false
no_byte e c h = ne_eqb (least_number + e) c (λ q. omega arith)

pub stands_is : (q : Wrap) (t : Ty) → stands q t ≡ not (is_lit t || (a_ref (wrap_code q) && is_ref t || a_qual (wrap_code q) && is_qual t))
unfolding stands
stands_is wP t = ap not (sym (or-false (is_lit t)))
stands_is wR t = ap (λ p. not (is_lit t || p)) (sym (or-false (is_ref t)))
stands_is wO t = ap (λ p. not (is_lit t || p)) (sym (or-false (is_ref t)))
stands_is wK t = refl
stands_is wV t = refl
