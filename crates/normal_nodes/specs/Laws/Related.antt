-- A reading of the walk and one with numbers: when they agree, and one law for each way in which readings are joined and for each change of
-- what is kept.
use Rattle.std.specs.Prelude.{Bool, ◌≡◌, refl, ℕ, suc, eqb, length}
use Rattle.std.proofs.Math.Bool.{true, false}
use mathlib.Core.List.{List, [], ◌∷◌, ◌++◌, append_assoc}
use Rattle.std.proofs.Math.Option.{Option, none, some}
use Rattle.std.proofs.Math.Path.{ap}
use Rattle.std.proofs.Common.{◌∙◌}
use Rattle.std.proofs.Math.Seq.{take-append_seam}
use Rattle.grammar.specs.Text.{Text, if◌then◌otherwise◌, choose}
use Rattle.catalogue.specs.Tree.{Ty}
use Rattle.catalogue.specs.Spelling.{ref_bytes}
use Rattle.catalogue.specs.Class.{push}
use Rattle.catalogue.specs.Recogniser.{Rd, rd, stop, if_next}
use Rattle.normal_walk.specs.Walk.{Walk, Walker, got, bad, next, when, with, wrote}
use Rattle.normal_nodes.specs.Nodes.{Node, Notes, Noter, Got, next as next_note, when as when_note, with as with_note, table_place, firsts, go_to, put}
use Rattle.normal_nodes.specs.Nodes.{noted, pushed, counted, replaced, settled, entered, at_first}
use Rattle.normal_nodes.specs.Laws.Numbers.{Den, Dens, Forest, Extends, Noted, EntryIs, ext_refl, ext_trans, dens_more, dens_push, place_is}

-- ---------------------------------------------------------------- what is kept

-- ts are the nodes' trees; o is written, vs are the table's trees, k arguments are read, r is left
pub record Keeps (ts : List Ty) (o : Text) (vs : List Ty) (k : ℕ) (r : Text) (σ : Notes) : Type 0 where
  pub forest : Forest ts σ.nodes
  pub entries : Dens ts σ.table vs
  pub written : σ.out ≡ o
  pub counts : σ.args ≡ k
  pub left : σ.rest ≡ r

module _ {ts : List Ty} {o : Text} {vs : List Ty} {k : ℕ} {r : Text} {σ : Notes} (s : Keeps ts o vs k r σ) where
  pub keeps_go : (r' : Text) → Keeps ts o vs k r' (go_to r' σ)
  keeps_go r' = record { forest = s.forest; entries = s.entries; written = s.written; counts = s.counts; left = refl }

  pub keeps_put : (w : Text) → Keeps ts (o ++ w) vs k r (put w σ)
  keeps_put w = record {
    forest = s.forest;
    entries = s.entries;
    written = rw s.written refl;
    counts = s.counts;
    left = s.left;
  }

  pub keeps_noted : {x : Node} {u : Ty} (n : Noted ts x σ.nodes u) → Keeps n.trees o vs k r (noted x σ)
  keeps_noted n = record {
    forest = n.forest;
    entries = dens_more ts n.trees n.more σ.table vs s.entries;
    written = s.written;
    counts = s.counts;
    left = s.left;
  }

  pub keeps_pushed : (d : ℕ) (t : Ty) → Den ts d t → Keeps ts o (push t vs) k r (pushed d σ)
  keeps_pushed d t h = record {
    forest = s.forest;
    entries = dens_push ts σ.table vs d t s.entries h;
    written = s.written;
    counts = s.counts;
    left = s.left;
  }

  pub keeps_counted : Keeps ts o vs (suc k) r (counted σ)
  keeps_counted = record {
    forest = s.forest;
    entries = s.entries;
    written = s.written;
    counts = ap suc s.counts;
    left = s.left;
  }

  pub keeps_as : (o' : Text) → o ≡ o' → Keeps ts o' vs k r σ
  keeps_as o' e = record {
    forest = s.forest;
    entries = s.entries;
    written = s.written ∙ e;
    counts = s.counts;
    left = s.left;
  }

replaced_is : (o w v : Text) → v ≡ o ++ w → (i : Option ℕ) → replaced (length o) v i ≡ o ++ choose i ref_bytes w
unfolding choose
replaced_is o w v e none = e
replaced_is o w v e (some i) = rw (e, take-append_seam o w) refl

module _ {ts : List Ty} {vs : List Ty} {k : ℕ} {r : Text} {σ : Notes} (o w : Text) (s : Keeps ts (o ++ w) vs k r σ) (d : ℕ) (u : Ty) (h : Den ts d u) where
  -- an entry is written by its reference
  pub keeps_settled : Keeps ts (o ++ wrote u vs w) vs k r (settled d (length o) σ)
  unfolding settled wrote
  keeps_settled = record {
    forest = s.forest;
    entries = s.entries;
    written =
        replaced_is o w σ.out s.written (table_place d (firsts σ.table))
        ∙ ap (λ i. o ++ choose i ref_bytes w) (place_is s.forest σ.table vs s.entries d u h);
    counts = s.counts;
    left = s.left;
  }

  pub keeps_entered : Keeps ts (o ++ wrote u vs w) (push u vs) k r (entered d (length o) σ)
  unfolding settled
  keeps_entered = keeps_pushed keeps_settled d u h

-- ---------------------------------------------------------------- readings that agree

abbrev pub Never : {A : Type 0} → A → Type 0
Never x = ⊥

-- behind o, where ts were the nodes' trees, w is written for x, and D relates x and d
pub record Read {A B : Type 0} (ts : List Ty) (o : Text) (D : List Ty → B → A → Type 0) (x : A) (w : Text) (vs : List Ty) (k : ℕ) (r : Text) (d : B) (σ : Notes) : Type 0 where
  pub trees : List Ty
  pub more : Extends ts trees
  pub keeps : Keeps trees (o ++ w) vs k r σ
  pub is : D trees d x

-- Both read, or neither; where M holds of what the walk reads, it may read alone.
pub data Agree {A B : Type 0} (ts : List Ty) (o : Text) (D : List Ty → B → A → Type 0) (M : A → Type 0) : Walk A → Got B → Type 0 where
  both : {x : A} {w : Text} {vs : List Ty} {k : ℕ} {r : Text} {d : B} {σ : Notes} → Read ts o D x w vs k r d σ
      → Agree ts o D M (got x w vs k r) (Got.got d σ)
  alone : {x : A} {w : Text} {vs : List Ty} {k : ℕ} {r : Text} → M x → Agree ts o D M (got x w vs k r) Got.bad
  neither : Agree ts o D M bad Got.bad

module _ {A B : Type 0} {ts : List Ty} {o : Text} {D : List Ty → B → A → Type 0} {M : A → Type 0} where
  -- with the same trees
  pub agree_here : {x : A} {w : Text} {vs : List Ty} {k : ℕ} {r : Text} {d : B} {σ : Notes} → Keeps ts (o ++ w) vs k r σ → D ts d x
      → Agree ts o D M (got x w vs k r) (Got.got d σ)
  agree_here s h = both (record { trees = ts; more = ext_refl ts; keeps = s; is = h })

  pub agree_when : {p : Walk A} {q : Got B} (b c : Bool) → c ≡ b → (b ≡ true → Agree ts o D M p q) → Agree ts o D M (when b p) (when_note c q)
  agree_when true c e h = rw e (h refl)
  agree_when false c e h = rw e neither

  pub agree_with : {X : Type 0} (a a' : Rd X) (f : X → Text → Walk A) (g : X → Text → Got B) → a' ≡ a
      → ((x : X) (r : Text) → a ≡ rd x r → Agree ts o D M (f x r) (g x r)) → Agree ts o D M (with a f) (with_note a' g)
  agree_with (rd x r) a' f g e h = rw e (h x r refl)
  agree_with stop a' f g e h = rw e neither

  pub agree_if : (c : ℕ) (s s' : Text) (f : Text → Walk A) (g : Text → Got B) (p : Walk A) (q : Got B) → s' ≡ s
      → ((r : Text) → Agree ts o D M (f r) (g r)) → Agree ts o D M p q → Agree ts o D M (if_next c s f p) (if_next c s' g q)
  unfolding if◌then◌otherwise◌
  agree_if c [] s' f g p q e h k = rw e k
  agree_if c (d ∷ s) s' f g p q e h k = rw e (go (eqb d c))
    where
      go : (b : Bool) → Agree ts o D M (if b then f s otherwise p) (if b then g s otherwise q)
      go true = h s
      go false = k

  pub agree_next : {X Y : Type 0} {us : List Ty} {v : Text} {C : List Ty → Y → X → Type 0} {N : X → Type 0} {p : Walk X} {q : Got Y}
      (f : X → Text → Walker A) (g : Y → Noter B) → Agree us v C N p q
      → ((x : X) (w : Text) (vs : List Ty) (k : ℕ) (r : Text) (d : Y) (σ : Notes) → Read us v C x w vs k r d σ
      → Agree ts o D M (f x w vs k r) (g d σ))
      → ((x : X) (w : Text) (vs : List Ty) (k : ℕ) (r : Text) → N x → Agree ts o D M (f x w vs k r) Got.bad)
      → Agree ts o D M (next p f) (next_note q g)
  agree_next f g (both h) j l = j _ _ _ _ _ _ _ h
  agree_next f g (alone h) j l = l _ _ _ _ _ h
  agree_next f g neither j l = neither

  pub agree_then : {X Y : Type 0} {us : List Ty} {v : Text} {C : List Ty → Y → X → Type 0} {p : Walk X} {q : Got Y}
      (f : X → Text → Walker A) (g : Y → Noter B) → Agree us v C Never p q
      → ((x : X) (w : Text) (vs : List Ty) (k : ℕ) (r : Text) (d : Y) (σ : Notes) → Read us v C x w vs k r d σ
      → Agree ts o D M (f x w vs k r) (g d σ))
      → Agree ts o D M (next p f) (next_note q g)
  agree_then f g h j = agree_next f g h j (λ x w vs k r n. absurd n)

  pub agree_first : {p : Walk A} (s : Text) (f : ℕ → Text → Got B) (c : ℕ) (r : Text) → s ≡ c ∷ r → Agree ts o D M p (f c r)
      → Agree ts o D M p (at_first s f)
  agree_first s f c r e h = rw e h

  pub agree_no_first : (s : Text) (f : ℕ → Text → Got B) → s ≡ [] → Agree ts o D M bad (at_first s f)
  agree_no_first s f e = rw e neither

  -- a leaf that is read first, and what is joined to it
  pub agree_with_next : {X Y : Type 0} (a a' : Rd X) (f : X → Text → Walk A) (g : X → Text → Got Y) (j : Y → Noter B) → a' ≡ a
      → ((x : X) (r : Text) → Agree ts o D M (f x r) (next_note (g x r) j)) → Agree ts o D M (with a f) (next_note (with_note a' g) j)
  agree_with_next (rd x r) a' f g j e h = rw e (h x r)
  agree_with_next stop a' f g j e h = rw e neither

  pub agree_choose_next : {Y : Type 0} (us : List Ty) (p : Option Ty) (q : Option ℕ) (f : Ty → Walk A) (g : ℕ → Got Y) (j : Y → Noter B)
      → EntryIs us q p → ((t : Ty) (d : ℕ) → Den us d t → Agree ts o D M (f t) (next_note (g d) j))
      → Agree ts o D M (choose p f bad) (next_note (choose q g Got.bad) j)
  unfolding choose
  agree_choose_next us none none f g j e h = neither
  agree_choose_next us none (some d) f g j e h = absurd e
  agree_choose_next us (some t) none f g j e h = absurd e
  agree_choose_next us (some t) (some d) f g j e h = h t d e

  -- from fewer trees
  pub agree_from : {us : List Ty} {p : Walk A} {q : Got B} → Extends ts us → Agree us o D M p q → Agree ts o D M p q
  agree_from {us} e (both h) =
      both (record { trees = h.trees; more = ext_trans ts us h.trees e h.more; keeps = h.keeps; is = h.is })
  agree_from e (alone h) = alone h
  agree_from e neither = neither

  -- w is written before
  pub agree_onto : {X : Type 0} {us : List Ty} {C : List Ty → B → X → Type 0} {p : Walk X} {q : Got B} (w : Text) (m : X → A)
      → Extends ts us → Agree us (o ++ w) C Never p q → ((ts' : List Ty) (d : B) (x : X) → C ts' d x → D ts' d (m x))
      → Agree ts o D M (next p (λ x v vs k r. got (m x) (w ++ v) vs k r)) q
  agree_onto {us} w m e (both {x} {w = v} {d} h) j =
      both (record {
        trees = h.trees;
        more = ext_trans ts us h.trees e h.more;
        keeps = keeps_as h.keeps (o ++ (w ++ v)) (append_assoc o w v);
        is = j h.trees d x h.is;
      })
  agree_onto w m e (alone h) j = absurd h
  agree_onto w m e neither j = neither
