-- Which tree a number is of. Assumes nothing.
use Rattle.std.specs.Prelude.{Bool, true, false, ◌&&◌, ◌⊎◌, ◌≡◌, ℕ, zero, suc, ◌+◌, ◌-◌, ◌≤◌, ltb}
use Rattle.std.proofs.lemmas.Bool.{false≢true}
use Rattle.std.proofs.Math.Bool.{and-false}
use mathlib.Core.List.{List, [], ◌∷◌, ◌++◌, append_assoc, append-nil}
use Rattle.std.proofs.Common.{inl, inr, sym, ap, ◌∙◌, arith, length-append}
use Rattle.std.proofs.Math.Option.{Option, none, some, none-ne-some}
use Rattle.std.proofs.Math.Path.{refl}
use Prim.Native.Char.{code}
use Rattle.std.proofs.Math.Dec.{eqb}
use Rattle.std.proofs.Math.ListN.{length, get_elem?}
use borrow.Author.Tests.{lt-ltb, le-ltb, le-leb}
use Rattle.grammar.specs.Text.{Text, if◌then◌otherwise◌, choose, digit, digit_value}
use Rattle.catalogue.specs.Bytes.{eqb_yes, eqb_eq}
use Rattle.catalogue.specs.Tree.{Letter, Wrap, Kind, Ty, Args, letter, wrap, root, sub, app, lit, one, also, is_lit, is_class, is_bare, is_ref, is_qual}
use Rattle.catalogue.specs.Tree.{single, same_ty, same_ty_eq, same_ty_yes, letter_code, wrap_code, kind_code}
use Rattle.catalogue.specs.Class.{stands, push, last_is}
use Rattle.catalogue.specs.Normal.{seek, known}
use Rattle.catalogue.proofs.Laws.NormalTree.{seek_at}
use Rattle.catalogue.specs.Recogniser.{with_code, all_kinds, Lead, lead_letter, lead_wrap, lead_digit, lead_S, lead_N, lead_L, lead_none, lead}
use Rattle.catalogue.proofs.Laws.ReadsBack.{lead_letter_is, lead_wrap_is, kind_at}
use Rattle.catalogue.proofs.Laws.Entries.{seek_none, at_has}
use Rattle.normal_walk.specs.Walk.{distinct, add_all, add as add_tree}
use Rattle.normal_nodes.specs.Laws.Nodes.{same_test, at_left, at_end, at_either, seek_law, node_eq, same_node_yes, same_node_eq, letter_below}
use Rattle.normal_nodes.specs.Laws.Nodes.{wrap_below, kind_below, every_wrap, no_byte, stands_is}
use Rattle.normal_nodes.specs.Nodes.{Node, least_number, arg_node, signed_kind, same_node, node_place, number_of, with_new, with_node, tag_of, a_lit}
use Rattle.normal_nodes.specs.Nodes.{a_bare, a_class, a_ref, a_qual, may_stand, table_place, add, note_add_all, firsts, note_last_is}

-- ---------------------------------------------------------------- trees of numbers

-- an entry of the list
abbrev pub Numbered : List Ty → ℕ → Ty → Type 0
Numbered ts d t = (i : ℕ) × ((d ≡ least_number + i) × (get_elem? ts i ≡ some t))

-- the number d is of the tree t, where ts are the nodes' trees
abbrev pub Den : List Ty → ℕ → Ty → Type 0
Den ts d (letter l) = d ≡ letter_code l
Den ts d (wrap c t) = Numbered ts d (wrap c t)
Den ts d (root n) = Numbered ts d (root n)
Den ts d (sub t n) = Numbered ts d (sub t n)
Den ts d (app t xs) = Numbered ts d (app t xs)
Den ts d (lit k g v) = Numbered ts d (lit k g v)

-- the trees of a table
abbrev pub Dens : List Ty → List ℕ → List Ty → Type 0
Dens ts [] [] = Unit {0}
Dens ts [] (t ∷ vs) = ⊥
Dens ts (d ∷ ds) [] = ⊥
Dens ts (d ∷ ds) (t ∷ vs) = Den ts d t × Dens ts ds vs

-- ---------------------------------------------------------------- arguments from the left

-- one more argument
abbrev pub snoc : Args → Ty → Args
snoc (one x) y = also x (one y)
snoc (also x xs) y = also x (snoc xs y)

-- all but the last, behind x
abbrev pub init : Ty → Args → Args
init x (one y) = one x
init x (also y ys) = also x (init y ys)

abbrev pub final : Args → Ty
final (one x) = x
final (also x xs) = final xs

-- what the last argument is put behind
abbrev pub front : Ty → Args → Ty
front t (one x) = t
front t (also x xs) = app t (init x xs)

-- ---------------------------------------------------------------- nodes of trees

abbrev pub NodeIs : List Ty → Node → Ty → Type 0
NodeIs ts x (letter l) = ⊥
NodeIs ts x (wrap c t) = (x.tag ≡ wrap_code c) × (Den ts x.of t × (x.word ≡ []))
NodeIs ts x (root n) = (x.tag ≡ code "0") × ((x.of ≡ 0) × (x.word ≡ n))
NodeIs ts x (sub t n) = (x.tag ≡ code "N") × (Den ts x.of t × (x.word ≡ n))
NodeIs ts x (app t xs) =
    (is_bare t ≡ true) × ((d : ℕ) × ((x.tag ≡ least_number + d) × (Den ts d (final xs) × (Den ts x.of (front t xs) × (x.word ≡ [])))))
NodeIs ts x (lit k g v) = (x.tag ≡ code "L") × ((x.of ≡ signed_kind (kind_code k) g) × (x.word ≡ v))

-- the nodes are those of the trees, and no tree stands twice
pub record Forest (ts : List Ty) (ns : List Node) : Type 0 where
  pub size : length ns ≡ length ts
  pub are : (i : ℕ) (t : Ty) → get_elem? ts i ≡ some t → (x : Node) × ((get_elem? ns i ≡ some x) × NodeIs ts x t)
  pub once : (i j : ℕ) (t : Ty) → get_elem? ts i ≡ some t → get_elem? ts j ≡ some t → i ≡ j

abbrev pub Extends : List Ty → List Ty → Type 0
Extends ts ts' = (more : List Ty) × (ts' ≡ ts ++ more)

pub forest_none : Forest [] []
forest_none = record {
  size = refl;
  are = λ i t e. absurd (none-ne-some t e);
  once = λ i j t e e'. absurd (none-ne-some t e);
}

pub ext_refl : (ts : List Ty) → Extends ts ts
ext_refl ts = ([], sym (append-nil ts))

pub ext_trans : (ts ts' ts'' : List Ty) → Extends ts ts' → Extends ts' ts'' → Extends ts ts''
ext_trans ts ts' ts'' e f = (e.0 ++ f.0, f.1 ∙ rw e.1 (append_assoc ts e.0 f.0))

-- ---------------------------------------------------------------- more trees

-- a letter, or a tree whose number is that of an entry
every_tree : (P : Ty → Type 0) → ((l : Letter) → P (letter l))
    → ((t : Ty) → ((ts : List Ty) (d : ℕ) → Den ts d t ≡ Numbered ts d t) → P t) → (t : Ty) → P t
every_tree P f g (letter l) = f l
every_tree P f g (wrap c t) = g (wrap c t) (λ ts d. refl)
every_tree P f g (root n) = g (root n) (λ ts d. refl)
every_tree P f g (sub t n) = g (sub t n) (λ ts d. refl)
every_tree P f g (app t xs) = g (app t xs) (λ ts d. refl)
every_tree P f g (lit k m v) = g (lit k m v) (λ ts d. refl)

numbered_more : (ts ts' : List Ty) → Extends ts ts' → (d : ℕ) (t : Ty) → Numbered ts d t → Numbered ts' d t
numbered_more ts ts' e d t h = (h.0, (h.1.0, rw e.1 (at_left ts e.0 h.0 t h.1.1)))

pub den_more : (ts ts' : List Ty) → Extends ts ts' → (d : ℕ) (t : Ty) → Den ts d t → Den ts' d t
den_more ts ts' e d t =
    every_tree (λ u. Den ts d u → Den ts' d u) (λ l h. h) (λ u q h. rw (q ts' d) (numbered_more ts ts' e d u (rw (q ts d) at h))) t

pub dens_more : (ts ts' : List Ty) → Extends ts ts' → (ds : List ℕ) (vs : List Ty) → Dens ts ds vs → Dens ts' ds vs
dens_more ts ts' e [] [] h = tt
dens_more ts ts' e [] (t ∷ vs) h = h
dens_more ts ts' e (d ∷ ds) [] h = h
dens_more ts ts' e (d ∷ ds) (t ∷ vs) h = (den_more ts ts' e d t h.0, dens_more ts ts' e ds vs h.1)

pub dens_push : (ts : List Ty) (ds : List ℕ) (vs : List Ty) (d : ℕ) (t : Ty) → Dens ts ds vs → Den ts d t → Dens ts (ds ++ (d ∷ [])) (push t vs)
dens_push ts [] [] d t h g = (g, tt)
dens_push ts [] (u ∷ vs) d t h g = absurd h
dens_push ts (e ∷ ds) [] d t h g = absurd h
dens_push ts (e ∷ ds) (u ∷ vs) d t h g = (h.0, dens_push ts ds vs d t h.1 g)

-- ---------------------------------------------------------------- the tree of a number

abbrev letter_of : Lead → Option Ty
letter_of (lead_letter l) = some (letter l)
letter_of (lead_wrap q) = none
letter_of lead_digit = none
letter_of lead_S = none
letter_of lead_N = none
letter_of lead_L = none
letter_of lead_none = none

tree_at : List Ty → ℕ → Option Ty
tree_at ts d = if ltb d least_number then letter_of (lead d) otherwise get_elem? ts (d - least_number)

den_tree : (ts : List Ty) (d : ℕ) (t : Ty) → Den ts d t → tree_at ts d ≡ some t
unfolding tree_at if◌then◌otherwise◌
den_tree ts d t =
    every_tree (λ u. Den ts d u → tree_at ts d ≡ some u)
    (λ l h. rw (h, lt-ltb (letter_code l) least_number (letter_below l), lead_letter_is l) refl) (λ u q h. entry u (rw (q ts d) at h)) t
  where
    entry : (u : Ty) → Numbered ts d u → tree_at ts d ≡ some u
    entry u h =
        let below : least_number ≤ d = omega (arith, h.1.0) in
        let place : d - least_number ≡ h.0 = omega (arith, h.1.0) in
        rw (le-ltb d least_number below, place) h.1.1

pub den_same : (ts : List Ty) (d : ℕ) (t u : Ty) → Den ts d t → Den ts d u → t ≡ u
den_same ts d t u h g = let p = den_tree ts d t h in let q = den_tree ts d u g in cc

-- ---------------------------------------------------------------- the tree of a node

-- one more argument
behind : Ty → Ty → Ty
behind (letter l) x = app (letter l) (one x)
behind (wrap c t) x = app (wrap c t) (one x)
behind (root n) x = app (root n) (one x)
behind (sub t n) x = app (sub t n) (one x)
behind (app t xs) x = app t (snoc xs x)
behind (lit k g v) x = app (lit k g v) (one x)

snoc_init : (x : Ty) (xs : Args) → snoc (init x xs) (final xs) ≡ also x xs
snoc_init x (one y) = refl
snoc_init x (also y ys) = ap (also x) (snoc_init y ys)

front_final : (t : Ty) (xs : Args) → is_bare t ≡ true → behind (front t xs) (final xs) ≡ app t xs
unfolding behind
front_final (letter l) (one x) b = refl
front_final (wrap c t) (one x) b = refl
front_final (root n) (one x) b = refl
front_final (sub t n) (one x) b = refl
front_final (app t ys) (one x) b = absurd (false≢true b)
front_final (lit k g v) (one x) b = refl
front_final t (also x xs) b = ap (app t) (snoc_init x xs)

lit_of : ℕ → Text → Option Ty
lit_of n w =
    if ltb n least_number then choose (with_code kind_code n all_kinds) (λ k. some (lit k false w)) none otherwise
    choose (with_code kind_code (n - least_number) all_kinds) (λ k. some (lit k true w)) none

lit_is : (k : Kind) (g : Bool) (v : Text) → lit_of (signed_kind (kind_code k) g) v ≡ some (lit k g v)
unfolding lit_of if◌then◌otherwise◌ choose
lit_is k true v =
    let e : kind_code k + least_number - least_number ≡ kind_code k = omega arith in
    rw (le-ltb (kind_code k + least_number) least_number (omega arith), e, kind_at k) refl
lit_is k false v = rw (lt-ltb (kind_code k) least_number (kind_below k), kind_at k) refl

-- by the tag, what has the number below, that number and the word
abbrev by_lead : Lead → Option Ty → ℕ → Text → Option Ty
by_lead (lead_letter l) o n w = none
by_lead (lead_wrap q) o n w = choose o (λ t. some (wrap q t)) none
by_lead lead_digit o n w = some (root w)
by_lead lead_S o n w = none
by_lead lead_N o n w = choose o (λ t. some (sub t w)) none
by_lead lead_L o n w = lit_of n w
by_lead lead_none o n w = none

node_tree : List Ty → Node → Option Ty
node_tree ts x =
    if ltb x.tag least_number then by_lead (lead x.tag) (tree_at ts x.of) x.of x.word otherwise
    choose (tree_at ts x.of) (λ t. choose (tree_at ts (x.tag - least_number)) (λ y. some (behind t y)) none) none

node_is : (ts : List Ty) (x : Node) (u : Ty) → NodeIs ts x u → node_tree ts x ≡ some u
unfolding node_tree if◌then◌otherwise◌ choose lead digit digit_value
node_is ts x (letter l) h = absurd h
node_is ts x (wrap c t) h =
    rw (h.0, lt-ltb (wrap_code c) least_number (wrap_below c), lead_wrap_is c, den_tree ts x.of t h.1.0) refl
node_is ts x (root n) h = rw h.0 (ap (λ w. some (root w)) h.1.1)
node_is ts x (sub t n) h = rw (h.0, den_tree ts x.of t h.1.0) (ap (λ w. some (sub t w)) h.1.1)
node_is ts x (app t xs) h =
    let d = h.1.0 in
    let a : x.tag ≡ least_number + d = h.1.1.0 in
    let e : x.tag - least_number ≡ d = omega arith in
    rw (le-ltb x.tag least_number (omega arith), den_tree ts x.of (front t xs) h.1.1.1.1.0, e, den_tree ts d (final xs) h.1.1.1.0)
    (ap some (front_final t xs h.0))
node_is ts x (lit k g v) h = rw (h.0, h.1.0, h.1.1) (lit_is k g v)

-- ---------------------------------------------------------------- the number of a tree, and its node

module _ {ts : List Ty} {ns : List Node} (f : Forest ts ns) where
  pub den_once : (t : Ty) (d e : ℕ) → Den ts d t → Den ts e t → d ≡ e
  den_once t d e =
      every_tree (λ u. Den ts d u → Den ts e u → d ≡ e) (λ l h g. h ∙ sym g) (λ u q h g. entry u (rw (q ts d) at h) (rw (q ts e) at g)) t
    where
      entry : (u : Ty) → Numbered ts d u → Numbered ts e u → d ≡ e
      entry u h g = h.1.0 ∙ ap (λ i. least_number + i) (f.once h.0 g.0 u h.1.1 g.1.1) ∙ sym g.1.0

  node_once : (u : Ty) (x y : Node) → NodeIs ts x u → NodeIs ts y u → x ≡ y
  node_once (letter l) x y h g = absurd h
  node_once (wrap c t) x y h g = node_eq x y (h.0 ∙ sym g.0) (den_once t x.of y.of h.1.0 g.1.0) (h.1.1 ∙ sym g.1.1)
  node_once (root n) x y h g = node_eq x y (h.0 ∙ sym g.0) (h.1.0 ∙ sym g.1.0) (h.1.1 ∙ sym g.1.1)
  node_once (sub t n) x y h g = node_eq x y (h.0 ∙ sym g.0) (den_once t x.of y.of h.1.0 g.1.0) (h.1.1 ∙ sym g.1.1)
  node_once (app t xs) x y h g =
      let a = h.1.1 in
      let b = g.1.1 in
      node_eq x y (a.0 ∙ ap (λ d. least_number + d) (den_once (final xs) h.1.0 g.1.0 a.1.0 b.1.0) ∙ sym b.0)
      (den_once (front t xs) x.of y.of a.1.1.0 b.1.1.0) (a.1.1.1 ∙ sym b.1.1.1)
  node_once (lit k m v) x y h g = node_eq x y (h.0 ∙ sym g.0) (h.1.0 ∙ sym g.1.0) (h.1.1 ∙ sym g.1.1)

-- ---------------------------------------------------------------- a node is noted

node_more : (ts ts' : List Ty) → Extends ts ts' → (x : Node) (u : Ty) → NodeIs ts x u → NodeIs ts' x u
node_more ts ts' e x (letter l) h = h
node_more ts ts' e x (wrap c t) h = (h.0, (den_more ts ts' e x.of t h.1.0, h.1.1))
node_more ts ts' e x (root n) h = h
node_more ts ts' e x (sub t n) h = (h.0, (den_more ts ts' e x.of t h.1.0, h.1.1))
node_more ts ts' e x (app t xs) h =
    let a = h.1.1 in
    (h.0, (h.1.0, (a.0, (den_more ts ts' e h.1.0 (final xs) a.1.0, (den_more ts ts' e x.of (front t xs) a.1.1.0, a.1.1.1)))))
node_more ts ts' e x (lit k g v) h = h

-- a letter has no node
node_den : (ts : List Ty) (x : Node) (u : Ty) → NodeIs ts x u → (ts' : List Ty) (d : ℕ) → Numbered ts' d u → Den ts' d u
node_den ts x u =
    every_tree (λ v. NodeIs ts x v → (ts' : List Ty) (d : ℕ) → Numbered ts' d v → Den ts' d v) (λ l h. absurd h) (λ v q h ts' d n. rw (q ts' d) n) u

pub record Noted (ts : List Ty) (x : Node) (ns : List Node) (u : Ty) : Type 0 where
  pub trees : List Ty
  pub more : Extends ts trees
  pub forest : Forest trees (with_node x ns)
  pub is : Den trees (number_of x ns) u

module _ {ts : List Ty} {ns : List Node} (f : Forest ts ns) (x : Node) (u : Ty) (h : NodeIs ts x u) where
  same_tree : (y : Node) (v : Ty) → NodeIs ts y v → same_node x y ≡ same_ty u v
  same_tree y v g = same_test (same_node x y) (same_ty u v) there back
    where
      there : same_node x y ≡ true → same_ty u v ≡ true
      there e =
          let p = node_is ts x u h in
          let q = node_is ts y v g in
          let s = same_node_eq x y e in
          let z : u ≡ v = cc in
          rw z (same_ty_yes v)

      back : same_ty u v ≡ true → same_node x y ≡ true
      back e = rw (node_once f u x y h (rw (sym (same_ty_eq u v e)) at g)) (same_node_yes y)

  place_agrees : node_place x ns ≡ seek u ts
  unfolding node_place
  place_agrees = seek_law (same_node x) u ns ts f.size at
    where
      at : (i : ℕ) (y : Node) (v : Ty) → get_elem? ns i ≡ some y → get_elem? ts i ≡ some v → same_node x y ≡ same_ty u v
      at i y v p q = let r = f.are i v q in let z : r.0 ≡ y = cc r.1.0 in same_tree y v (rw z at r.1.1)

  one_more : seek u ts ≡ none → Forest (push u ts) (ns ++ (x ∷ []))
  one_more e = record {
    size = simp length-append (ap (λ n. n + 1) f.size);
    are = λ i t q. is i t (at_either ts u i t q);
    once = λ i j t p q. differ i j t (at_either ts u i t p) (at_either ts u j t q);
  }
    where
      grown : Extends ts (push u ts)
      grown = (u ∷ [], refl)

      is : (i : ℕ) (t : Ty) → (get_elem? ts i ≡ some t) ⊎ ((i ≡ length ts) × (u ≡ t))
          → (y : Node) × ((get_elem? (ns ++ (x ∷ [])) i ≡ some y) × NodeIs (push u ts) y t)
      is i t (inl q) =
          let r = f.are i t q in
          (r.0, (at_left ns (x ∷ []) i r.0 r.1.0, node_more ts (push u ts) grown r.0 t r.1.1))
      is i t (inr q) = (x, (rw (q.0, ← f.size) (at_end ns x), rw (← q.1) (node_more ts (push u ts) grown x u h)))

      new : (i : ℕ) (t : Ty) → get_elem? ts i ≡ some t → u ≡ t → ⊥
      new i t p q = false≢true (sym (seek_none u ts e) ∙ at_has i ts u (p ∙ ap some (sym q)))

      differ : (i j : ℕ) (t : Ty) → (get_elem? ts i ≡ some t) ⊎ ((i ≡ length ts) × (u ≡ t))
          → (get_elem? ts j ≡ some t) ⊎ ((j ≡ length ts) × (u ≡ t)) → i ≡ j
      differ i j t (inl p) (inl q) = f.once i j t p q
      differ i j t (inl p) (inr q) = absurd (new i t p q.1)
      differ i j t (inr p) (inl q) = absurd (new j t q p.1)
      differ i j t (inr p) (inr q) = p.0 ∙ sym q.0

  noted_at : (o : Option ℕ) → seek u ts ≡ o → Noted ts x ns u
  unfolding with_node number_of
  noted_at none e = record {
    trees = push u ts;
    more = (u ∷ [], refl);
    forest = rw (place_agrees, e) (one_more e);
    is = rw (place_agrees, e) (node_den ts x u h (push u ts) (least_number + length ns) (length ns, (refl, rw f.size (at_end ts u))));
  }
  noted_at (some i) e = record {
    trees = ts;
    more = ext_refl ts;
    forest = rw (place_agrees, e) f;
    is = rw (place_agrees, e) (node_den ts x u h ts (least_number + i) (i, (refl, seek_at u ts i e)));
  }

pub note : {ts : List Ty} {ns : List Node} → Forest ts ns → (x : Node) (u : Ty) → NodeIs ts x u → Noted ts x ns u
note {ts} f x u h = noted_at f x u h (seek u ts) refl

pub first_arg : (ts : List Ty) (d e : ℕ) (t x : Ty) → is_bare t ≡ true → Den ts d t → Den ts e x → NodeIs ts (arg_node d e) (app t (one x))
first_arg ts d e t x b h g = (b, (e, (refl, (g, (h, refl)))))

final_snoc : (xs : Args) (x : Ty) → final (snoc xs x) ≡ x
final_snoc (one y) x = refl
final_snoc (also y ys) x = final_snoc ys x

init_snoc : (y : Ty) (ys : Args) (x : Ty) → init y (snoc ys x) ≡ also y ys
init_snoc y (one z) x = refl
init_snoc y (also z zs) x = ap (also y) (init_snoc z zs x)

front_snoc : (t : Ty) (xs : Args) (x : Ty) → front t (snoc xs x) ≡ app t xs
front_snoc t (one y) x = refl
front_snoc t (also y ys) x = ap (app t) (init_snoc y ys x)

pub next_arg : (ts : List Ty) (d e : ℕ) (t : Ty) (xs : Args) (x : Ty) → is_bare t ≡ true → Den ts d (app t xs) → Den ts e x
    → NodeIs ts (arg_node d e) (app t (snoc xs x))
next_arg ts d e t xs x b h g = (b, (e, (refl, (rw (final_snoc xs x) g, (rw (front_snoc t xs x) h, refl)))))

-- ---------------------------------------------------------------- tests by the tag

abbrev pub is_sub : Ty → Bool
is_sub (letter l) = false
is_sub (wrap c t) = false
is_sub (root n) = false
is_sub (sub t n) = true
is_sub (app t xs) = false
is_sub (lit k g v) = false

module _ {ts : List Ty} {ns : List Node} (f : Forest ts ns) (d : ℕ) (t : Ty) (h : Den ts d t) where
  -- a test of the tag is a test of the tree
  by_tag : (p : ℕ → Bool) (q : Ty → Bool) → ((l : Letter) → p 0 ≡ q (letter l)) → ((c : Wrap) (u : Ty) → p (wrap_code c) ≡ q (wrap c u))
      → ((n : Text) → p (code "0") ≡ q (root n)) → ((u : Ty) (n : Text) → p (code "N") ≡ q (sub u n))
      → ((u : Ty) (xs : Args) (e : ℕ) → p (least_number + e) ≡ q (app u xs)) → ((k : Kind) (g : Bool) (v : Text) → p (code "L") ≡ q (lit k g v))
      → p (tag_of ns d) ≡ q t
  unfolding tag_of if◌then◌otherwise◌ choose
  by_tag p q for_letter for_wrap for_root for_sub for_app for_lit =
      every_tree (λ u. Den ts d u → p (tag_of ns d) ≡ q u)
      (λ l g. rw (g, lt-ltb (letter_code l) least_number (letter_below l)) (for_letter l)) (λ u r g. entry u (rw (r ts d) at g)) t h
    where
      by_node : (x : Node) (u : Ty) → NodeIs ts x u → p x.tag ≡ q u
      by_node x (letter l) g = absurd g
      by_node x (wrap c u) g = rw g.0 (for_wrap c u)
      by_node x (root n) g = rw g.0 (for_root n)
      by_node x (sub u n) g = rw g.0 (for_sub u n)
      by_node x (app u xs) g = rw g.1.1.0 (for_app u xs g.1.0)
      by_node x (lit k m v) g = rw g.0 (for_lit k m v)

      entry : (u : Ty) → Numbered ts d u → p (tag_of ns d) ≡ q u
      entry u g =
          let r = f.are g.0 u g.1.1 in
          let below : least_number ≤ d = omega (arith, g.1.0) in
          let place : d - least_number ≡ g.0 = omega (arith, g.1.0) in
          rw (le-ltb d least_number below, place, r.1.0) (by_node r.0 u r.1.1)

  pub tag_lit : a_lit (tag_of ns d) ≡ is_lit t
  tag_lit =
      by_tag a_lit is_lit (λ l. refl) (λ c u. every_wrap (λ w. a_lit (wrap_code w) ≡ false) refl refl refl refl refl c) (λ n. refl)
      (λ u n. refl) (λ u xs e. no_byte e (code "L") (omega arith)) (λ k g v. refl)

  pub tag_bare : a_bare (tag_of ns d) ≡ is_bare t
  tag_bare =
      by_tag a_bare is_bare (λ l. refl) (λ c u. every_wrap (λ w. a_bare (wrap_code w) ≡ false) refl refl refl refl refl c) (λ n. refl)
      (λ u n. refl) (λ u xs e. rw (no_byte e (code "0") (omega arith), no_byte e (code "N") (omega arith)) refl) (λ k g v. refl)

  pub tag_class : a_class (tag_of ns d) ≡ is_class t
  tag_class =
      by_tag a_class is_class (λ l. refl) (λ c u. every_wrap (λ w. a_class (wrap_code w) ≡ false) refl refl refl refl refl c) (λ n. refl)
      (λ u n. refl)
      (λ u xs e. rw (no_byte e (code "0") (omega arith), no_byte e (code "N") (omega arith)) (le-leb least_number (least_number + e) (omega arith)))
      (λ k g v. refl)

  pub tag_root : eqb (tag_of ns d) (code "0") ≡ (single t && is_bare t)
  tag_root =
      by_tag (λ c. eqb c (code "0")) (λ u. single u && is_bare u) (λ l. refl)
      (λ c u. every_wrap (λ w. eqb (wrap_code w) (code "0") ≡ false) refl refl refl refl refl c) (λ n. refl) (λ u n. refl)
      (λ u xs e. no_byte e (code "0") (omega arith) ∙ sym (and-false (single u))) (λ k g v. refl)

  pub tag_sub : eqb (tag_of ns d) (code "N") ≡ is_sub t
  tag_sub =
      by_tag (λ c. eqb c (code "N")) is_sub (λ l. refl) (λ c u. every_wrap (λ w. eqb (wrap_code w) (code "N") ≡ false) refl refl refl refl refl c)
      (λ n. refl) (λ u n. refl) (λ u xs e. no_byte e (code "N") (omega arith)) (λ k g v. refl)

  tag_ref : a_ref (tag_of ns d) ≡ is_ref t
  tag_ref =
      by_tag a_ref is_ref (λ l. refl) (λ c u. every_wrap (λ w. a_ref (wrap_code w) ≡ is_ref (wrap w u)) refl refl refl refl refl c) (λ n. refl)
      (λ u n. refl) (λ u xs e. rw (no_byte e (code "R") (omega arith), no_byte e (code "O") (omega arith)) refl) (λ k g v. refl)

  tag_qual : a_qual (tag_of ns d) ≡ is_qual t
  tag_qual =
      by_tag a_qual is_qual (λ l. refl) (λ c u. every_wrap (λ w. a_qual (wrap_code w) ≡ is_qual (wrap w u)) refl refl refl refl refl c) (λ n. refl)
      (λ u n. refl) (λ u xs e. rw (no_byte e (code "K") (omega arith), no_byte e (code "V") (omega arith)) refl) (λ k g v. refl)

  pub tag_stands : (q : Wrap) → may_stand (wrap_code q) (tag_of ns d) ≡ stands q t
  unfolding may_stand
  tag_stands q = rw (tag_lit, tag_ref, tag_qual) (sym (stands_is q t))

-- ---------------------------------------------------------------- the table

-- both have an entry, or none
abbrev pub EntryIs : List Ty → Option ℕ → Option Ty → Type 0
EntryIs ts none none = Unit {0}
EntryIs ts none (some t) = ⊥
EntryIs ts (some d) none = ⊥
EntryIs ts (some d) (some t) = Den ts d t

pub entry_is : (ts : List Ty) (ds : List ℕ) (vs : List Ty) → Dens ts ds vs → (i : ℕ) → EntryIs ts (get_elem? ds i) (get_elem? vs i)
entry_is ts [] [] h i = tt
entry_is ts [] (t ∷ vs) h i = absurd h
entry_is ts (d ∷ ds) [] h i = absurd h
entry_is ts (d ∷ ds) (t ∷ vs) h zero = h.0
entry_is ts (d ∷ ds) (t ∷ vs) h (suc i) = entry_is ts ds vs h.1 i

dens_length : (ts : List Ty) (ds : List ℕ) (vs : List Ty) → Dens ts ds vs → length ds ≡ length vs
dens_length ts [] [] h = refl
dens_length ts [] (t ∷ vs) h = absurd h
dens_length ts (d ∷ ds) [] h = absurd h
dens_length ts (d ∷ ds) (t ∷ vs) h = ap suc (dens_length ts ds vs h.1)

module _ {ts : List Ty} {ns : List Node} (f : Forest ts ns) where
  same_number : (d e : ℕ) (t u : Ty) → Den ts d t → Den ts e u → eqb d e ≡ same_ty t u
  same_number d e t u h g =
      same_test (eqb d e) (same_ty t u)
      (λ q. rw (den_same ts e t u (rw (eqb_eq d e q) at h) g) (same_ty_yes u))
      (λ q. rw (den_once f u d e (rw (same_ty_eq t u q) at h) g) (eqb_yes e))

  seek_number : (ds : List ℕ) (vs : List Ty) → Dens ts ds vs → (d : ℕ) (u : Ty) → Den ts d u → table_place d ds ≡ seek u vs
  unfolding table_place
  seek_number ds vs h d u g = seek_law (eqb d) u ds vs (dens_length ts ds vs h) at
    where
      at : (i e : ℕ) (v : Ty) → get_elem? ds i ≡ some e → get_elem? vs i ≡ some v → eqb d e ≡ same_ty u v
      at i e v p q = same_number d e u v g (rw (p, q) at (entry_is ts ds vs h i))

  dens_add : (ds : List ℕ) (vs : List Ty) → Dens ts ds vs → (d : ℕ) (u : Ty) → Den ts d u → Dens ts (add d ds) (add_tree u vs)
  unfolding add add_tree
  dens_add ds vs h d u g = rw (seek_number ds vs h d u g) (go (seek u vs))
    where
      go : (o : Option ℕ) → Dens ts (with_new o d ds) (known o vs (push u vs))
      go none = dens_push ts ds vs d u h g
      go (some i) = h

  dens_all : (es : List ℕ) (ws : List Ty) → Dens ts es ws → (ds : List ℕ) (vs : List Ty) → Dens ts ds vs → Dens ts (note_add_all ds es) (add_all vs ws)
  unfolding note_add_all add_all
  dens_all [] [] g ds vs h = h
  dens_all [] (w ∷ ws) g ds vs h = absurd g
  dens_all (e ∷ es) [] g ds vs h = absurd g
  dens_all (e ∷ es) (w ∷ ws) g ds vs h = dens_all es ws g.1 (add e ds) (add_tree w vs) (dens_add ds vs h e w g.0)

  last_number : (ds : List ℕ) (vs : List Ty) → Dens ts ds vs → (d : ℕ) (u : Ty) → Den ts d u → note_last_is d ds ≡ last_is u vs
  unfolding note_last_is last_is
  last_number [] [] h d u g = refl
  last_number [] (v ∷ vs) h d u g = absurd h
  last_number (e ∷ ds) [] h d u g = absurd h
  last_number (e ∷ []) (v ∷ []) h d u g = same_number d e u v g h.0
  last_number (e ∷ []) (v ∷ w ∷ vs) h d u g = absurd h.1
  last_number (e ∷ e' ∷ ds) (v ∷ []) h d u g = absurd h.1
  last_number (e ∷ e' ∷ ds) (v ∷ w ∷ vs) h d u g = last_number (e' ∷ ds) (w ∷ vs) h.1 d u g

module _ {ts : List Ty} {ns : List Node} (f : Forest ts ns) (ds : List ℕ) (vs : List Ty) (h : Dens ts ds vs) where
  pub place_is : (d : ℕ) (u : Ty) → Den ts d u → table_place d (firsts ds) ≡ seek u (distinct vs)
  place_is d u g = seek_number f (firsts ds) (distinct vs) (dens_all f ds vs h [] [] tt) d u g

  pub newest_is : (d : ℕ) (u : Ty) → Den ts d u → note_last_is d ds ≡ last_is u vs
  newest_is d u g = last_number f ds vs h d u g
