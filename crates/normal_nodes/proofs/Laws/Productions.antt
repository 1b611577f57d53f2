-- Each production of the walk agrees with that of the walk with numbers, where the readings that it is made of agree.
use Rattle.std.specs.Prelude.{Bool, not, ◌&&◌, List, [], ◌∷◌, ◌++◌, ◌≡◌, ℕ, suc, length}
use Rattle.std.proofs.Math.Bool.{true, false}
use Rattle.std.proofs.Common.{append_assoc, append-nil, sym, ap, ◌∙◌}
use Rattle.std.proofs.Math.Option.{Option, none, some}
use Rattle.std.proofs.Math.Path.{refl}
use Prim.Native.Char.{code}
use Rattle.std.proofs.Math.ListN.{get_elem?}
use Rattle.grammar.specs.Text.{Text, if◌then◌otherwise◌, choose}
use Rattle.catalogue.specs.Bytes.{and_right}
use Rattle.catalogue.specs.Tree.{Ty, Args, letter, wrap, root, sub, app, lit, one, also, is_class, is_bare, single}
use Rattle.catalogue.specs.Spelling.{name_bytes}
use Rattle.catalogue.specs.Class.{stands, push, last_is, push_new}
use Rattle.catalogue.specs.Recogniser.{if_next, Lead, lead_letter, lead_wrap, lead_digit, lead_S, lead_N, lead_L, lead_none}
use Rattle.normal_walk.specs.Walk.{Walk, Walker, got, bad, when, with, name, reference, literal, lit_bytes, wrote, in_brackets, with_args, enter, enter_nested}
use Rattle.normal_walk.specs.Walk.{at_lead, at_parts, end_or, at_more, at_arg}
use Rattle.normal_walk.specs.Laws.Joins.{OfRd}
use Rattle.normal_walk.proofs.Laws.Leaves.{Literal, lit_sound, Begins}
use Rattle.normal_nodes.specs.Nodes.{Node, Notes, Noter, Got, next as next_note, when as when_note, note_at_name, at_reference, root_node, sub_node}
use Rattle.normal_nodes.specs.Nodes.{arg_node, wrap_node, lit_node, number_of, tag_of, may_stand, go_to, put, noted, settled, entered, entered_nested}
use Rattle.normal_nodes.specs.Nodes.{note_with_args, note_at_lead, note_at_parts, note_end_or, note_at_more, note_at_arg}
use Rattle.normal_nodes.specs.Laws.Numbers.{Den, snoc, NodeIs, ext_refl, note, first_arg, next_arg, tag_bare, tag_class, tag_root, tag_sub, tag_stands, newest_is, entry_is}
use Rattle.normal_nodes.specs.Laws.Related.{Keeps, keeps_go, keeps_put, keeps_noted, keeps_counted, keeps_as, keeps_settled, keeps_entered, Never, Read}
use Rattle.normal_nodes.specs.Laws.Related.{Agree, both, alone, neither, agree_here, agree_when, agree_with, agree_if, agree_next, agree_then}
use Rattle.normal_nodes.specs.Laws.Related.{agree_with_next, agree_choose_next, agree_from, agree_onto}

-- ---------------------------------------------------------------- arguments from the left

-- the second behind the first
abbrev snocs : Args → Args → Args
snocs xs (one y) = snoc xs y
snocs xs (also y ys) = snocs (snoc xs y) ys

also_snocs : (x : Ty) (xs ys : Args) → snocs (also x xs) ys ≡ also x (snocs xs ys)
also_snocs x xs (one y) = refl
also_snocs x xs (also y ys) = also_snocs x (snoc xs y) ys

one_snocs : (x : Ty) (ys : Args) → snocs (one x) ys ≡ also x ys
one_snocs x (one y) = refl
one_snocs x (also y ys) = also_snocs x (one y) ys ∙ ap (also x) (one_snocs y ys)

-- t with the arguments before, if there are any
abbrev pub behind : Ty → Option Args → Ty
behind t none = t
behind t (some xs) = app t xs

-- the arguments behind those before
abbrev pub join : Option Args → Args → Args
join none ys = ys
join (some xs) ys = snocs xs ys

join_also : (b : Option Args) (x : Ty) (ys : Args) → join (some (join b (one x))) ys ≡ join b (also x ys)
join_also none x ys = one_snocs x ys
join_also (some xs) x ys = refl

arg_is : (ts : List Ty) (b : Option Args) (d e : ℕ) (t x : Ty) → is_bare t ≡ true → Den ts d (behind t b) → Den ts e x
    → NodeIs ts (arg_node d e) (app t (join b (one x)))
arg_is ts none d e t x p h g = first_arg ts d e t x p h g
arg_is ts (some xs) d e t x p h g = next_arg ts d e t xs x p h g

-- ---------------------------------------------------------------- what is related

-- behind t and the arguments before
abbrev pub ArgsIs : Ty → Option Args → List Ty → ℕ → Args → Type 0
ArgsIs t b ts d xs = Den ts d (app t (join b xs))

-- a part more, or arguments; and whether it is one part alone
abbrev pub Longer : Ty → Bool → Type 0
Longer (letter l) a = ⊥
Longer (wrap c t) a = ⊥
Longer (root n) a = ⊥
Longer (sub t n) a = a ≡ false
Longer (app t xs) a = a ≡ single t
Longer (lit k g v) a = ⊥

abbrev pub PartsIs : List Ty → ℕ → Ty → Type 0
PartsIs ts d u = Den ts d u × Longer u false

abbrev pub Lone : Ty → Type 0
Lone u = Longer u true

abbrev pub SameType : Walker Ty → Noter ℕ → Type 0
SameType f g =
    (ts : List Ty) (o : Text) (vs : List Ty) (k : ℕ) (s : Text) (σ : Notes) → Keeps ts o vs k s σ → Agree ts o Den Never (f vs k s) (g σ)

abbrev pub SameArgs : Walker Args → (ℕ → Noter ℕ) → Type 0
SameArgs f g =
    (ts : List Ty) (o : Text) (vs : List Ty) (k : ℕ) (s : Text) (σ : Notes) → Keeps ts o vs k s σ
    → (t : Ty) (b : Option Args) (d : ℕ) → is_bare t ≡ true → Den ts d (behind t b) → Agree ts o (ArgsIs t b) Never (f vs k s) (g d σ)

abbrev pub SameParts : Walker Ty → (ℕ → Noter ℕ) → Type 0
SameParts f g =
    (ts : List Ty) (o : Text) (vs : List Ty) (k : ℕ) (s : Text) (σ : Notes) → Keeps ts o vs k s σ
    → (from : ℕ) → from ≡ length o → Agree ts o PartsIs Lone (f vs k s) (g from σ)

-- o is written before the parts
abbrev pub SameMore : Text → (Ty → Text → Walker Ty) → (ℕ → Bool → Noter ℕ) → Type 0
SameMore o f g =
    (ts : List Ty) (w : Text) (vs : List Ty) (k : ℕ) (s : Text) (σ : Notes) → Keeps ts (o ++ w) vs k s σ
    → (t : Ty) (d : ℕ) (l : Bool) → Den ts d t → (is_bare t ≡ true → l ≡ single t) → Agree ts o PartsIs Lone (f t w vs k s) (g d l σ)

-- ---------------------------------------------------------------- a tree that enters the table

module _ {ts : List Ty} {vs : List Ty} {k : ℕ} {r : Text} {σ : Notes} (o w : Text) (s : Keeps ts (o ++ w) vs k r σ) where
  entered_read : (x : Node) (u : Ty) → NodeIs ts x u
      → Read ts o Den u (wrote u vs w) (push u vs) k r (number_of x σ.nodes) (entered (number_of x σ.nodes) (length o) (noted x σ))
  entered_read x u h =
      let n = note s.forest x u h in
      record {
        trees = n.trees;
        more = n.more;
        keeps = keeps_entered o w (keeps_noted s n) (number_of x σ.nodes) u n.is;
        is = n.is;
      }

-- what is joined to a first part, or to an entry
module _ {A B : Type 0} {D : List Ty → B → A → Type 0} {M : A → Type 0} {ts : List Ty} {o : Text} {vs : List Ty} {k : ℕ} {s : Text} {σ : Notes}
    (h : Keeps ts o vs k s σ) where
  name_same : (f : Text → Text → Walk A) (j : ℕ → Noter B)
      → ((n r : Text) (d : ℕ) (τ : Notes) → Read ts o Den (root n) (wrote (root n) vs (name_bytes n)) (push (root n) vs) k r d τ → Agree ts o D M (f n r) (j d τ))
      → Agree ts o D M (with (name s) f) (next_note (note_at_name (length o) σ) j)
  name_same f j g =
      agree_with_next (name s) (name σ.rest) _ _ _ (ap name h.left)
      (λ n r. g n r _ _ (entered_read o (name_bytes n) (keeps_put (keeps_go h r) (name_bytes n)) (root_node n) (root n) (refl, (refl, refl))))

  reference_same : (f : Ty → Text → Walk A) (j : ℕ → Noter B)
      → ((t : Ty) (r : Text) (d : ℕ) (τ : Notes) → Read ts o Den t (wrote t vs []) vs k r d τ → Agree ts o D M (f t r) (j d τ))
      → Agree ts o D M (with (reference s) (λ i r. choose (get_elem? vs i) (λ t. f t r) bad)) (next_note (at_reference (length o) σ) j)
  reference_same f j g =
      agree_with_next (reference s) (reference σ.rest) _ _ _ (ap reference h.left)
      (λ i r. agree_choose_next ts (get_elem? vs i) (get_elem? σ.table i) _ _ _ (entry_is ts σ.table vs h.entries i)
      (λ t d e. g t r d _ (record {
        trees = ts;
        more = ext_refl ts;
        keeps = keeps_settled o [] (keeps_as (keeps_go h r) _ (sym (append-nil o))) d t e;
        is = e;
      })))

-- ---------------------------------------------------------------- arguments

-- the arguments v behind w
args_keep : (o w v : Text) {ts : List Ty} {vs : List Ty} {k : ℕ} {r : Text} {σ : Notes} → Keeps ts (((o ++ w) ++ (code "I" ∷ [])) ++ v) vs k r σ
    → Keeps ts (o ++ (w ++ in_brackets (code "I") v)) vs k r (put (code "E" ∷ []) σ)
args_keep o w v s = keeps_as (keeps_put s (code "E" ∷ [])) _ (simp append_assoc)

module _ (o : Text) (args : Walker Args) (args' : ℕ → Noter ℕ) (p : SameArgs args args') where
  -- [I <template-args> E]
  with_args_same : {ts : List Ty} {t : Ty} {w : Text} {vs : List Ty} {k : ℕ} {r : Text} {d : ℕ} {σ : Notes} → Read ts o Den t w vs k r d σ
      → Agree ts o Den Never
      (if_next (code "I") r (λ r'. when (single t && is_bare t) (with_args t w (args vs k r') enter)) (got t w vs k r))
      (note_with_args d (length o) args' σ)
  with_args_same {ts} {t} {w} {r} {d} {σ} h =
      agree_if (code "I") r σ.rest _ _ _ _ h.keeps.left
      (λ r'. agree_when (single t && is_bare t) _ (tag_root h.keeps.forest d t h.is)
      (λ b. agree_from h.more (agree_then _ _
      (p _ _ _ _ _ _ (keeps_put (keeps_go h.keeps r') (code "I" ∷ [])) t none d (and_right (single t) (is_bare t) b) h.is)
      (λ xs v vs' k' r'' e τ g. agree_from g.more
      (agree_here (keeps_entered o (w ++ in_brackets (code "I") v) (args_keep o w v g.keeps) e (app t xs) g.is) g.is)))))
      (both h)

  -- <template-arg> (E | <template-args>)
  pub arg_same : {ts : List Ty} (w : Text) {vs : List Ty} {k : ℕ} {r : Text} {σ : Notes} → Keeps ts (o ++ w) vs k r σ
      → (t : Ty) (b : Option Args) (d : ℕ) → is_bare t ≡ true → Den ts d (behind t b) → (x : Ty) (e : ℕ) → Den ts e x
      → Agree ts o (ArgsIs t b) Never (at_arg x w vs k r args) (note_at_arg d e σ args')
  arg_same {ts} w {vs} {k} {r} {σ} s t b d q h x e g =
      let n = note s.forest (arg_node d e) (app t (join b (one x))) (arg_is ts b d e t x q h g) in
      agree_if (code "E") r σ.rest _ _ _ _ s.left
      (λ r'. agree_from n.more (agree_here (keeps_counted (keeps_noted (keeps_go s r') n)) n.is))
      (agree_onto w (also x) n.more
      (p _ _ _ _ _ _ (keeps_counted (keeps_noted s n)) t (some (join b (one x))) (number_of (arg_node d e) σ.nodes) q n.is)
      (λ ts' d' ys i. rw (join_also b x ys) at i))

-- ---------------------------------------------------------------- parts

longer_single : (u : Ty) (l : Bool) → Longer u l → l ≡ single u
longer_single (letter c) l h = absurd h
longer_single (wrap c t) l h = absurd h
longer_single (root n) l h = absurd h
longer_single (sub t n) l h = h
longer_single (app t xs) l h = h
longer_single (lit k g v) l h = absurd h

and_bare : (p q : Bool) → q ≡ true → p && q ≡ p
and_bare true q h = h
and_bare false q h = refl

module _ (o : Text) (more : Ty → Text → Walker Ty) (more' : ℕ → Bool → Noter ℕ) (p : SameMore o more more') where
  -- E | <more>
  end_same : {ts : List Ty} (w : Text) {vs : List Ty} {k : ℕ} {r : Text} {σ : Notes} → Keeps ts (o ++ w) vs k r σ
      → (u : Ty) (d : ℕ) (l : Bool) → Den ts d u → Longer u l → Agree ts o PartsIs Lone (end_or more u w vs k r) (note_end_or (length o) more' d l σ)
  end_same {ts} w {vs} {k} {r} {σ} s u d l h b =
      agree_if (code "E") r σ.rest _ _ _ _ s.left (λ r'. at_end r' l b)
      (p _ _ _ _ _ _ (keeps_entered o w s d u h) u d l h (λ i. longer_single u l b))
    where
      at_end : (r' : Text) (l : Bool) → Longer u l → Agree ts o PartsIs Lone (got u w vs k r') (when_note (not l) (Got.got d (go_to r' σ)))
      at_end r' true b = alone b
      at_end r' false b = agree_here (keeps_go s r') (h, b)

  -- <source-name> <more> | S [<seq-id>] _ <more>
  pub parts_same : (l : Lead) (c : ℕ) {ts : List Ty} {vs : List Ty} {k : ℕ} {s : Text} {σ : Notes} → Keeps ts o vs k (c ∷ s) σ
      → Agree ts o PartsIs Lone (at_parts l c vs k s more) (note_at_parts l (length o) s σ more')
  parts_same (lead_letter l) c h = neither
  parts_same (lead_wrap q) c h = neither
  parts_same lead_digit c h =
      name_same h _ _ (λ n r d τ g. agree_from g.more (p _ _ _ _ _ _ g.keeps (root n) d true g.is (λ b. refl)))
  parts_same lead_S c {s} h =
      reference_same (keeps_go h s) _ _
      (λ t r d τ g. agree_when (is_class t) _ (tag_class g.keeps.forest d t g.is)
      (λ b. agree_from g.more
      (p _ _ _ _ _ _ g.keeps t d _ g.is (λ q. tag_root g.keeps.forest d t g.is ∙ and_bare (single t) (is_bare t) q))))
  parts_same lead_N c h = neither
  parts_same lead_L c h = neither
  parts_same lead_none c h = neither

  module _ (args : Walker Args) (args' : ℕ → Noter ℕ) (q : SameArgs args args') where
    -- (I <template-args> E | <source-name>) (E | <more>)
    pub more_same : (i : Bool) (c : ℕ) {ts : List Ty} (w : Text) {vs : List Ty} {k : ℕ} {s : Text} {σ : Notes} → Keeps ts (o ++ w) vs k (c ∷ s) σ
        → (t : Ty) (d : ℕ) (l : Bool) → Den ts d t → (is_bare t ≡ true → l ≡ single t)
        → Agree ts o PartsIs Lone (at_more i c t w vs k s args more) (note_at_more i d l (length o) s σ args' more')
    more_same true c w {s} h t d l e b =
        agree_when (is_bare t) _ (tag_bare h.forest d t e)
        (λ z. agree_then _ _ (q _ _ _ _ _ _ (keeps_put (keeps_go h s) (code "I" ∷ [])) t none d z e)
        (λ xs v vs' k' r x τ g. agree_from g.more (end_same (w ++ in_brackets (code "I") v) (args_keep o w v g.keeps) (app t xs) x l g.is (b z))))
    more_same false c w {s} {σ} h t d l e b =
        agree_with (name (c ∷ s)) (name σ.rest) _ _ (ap name h.left)
        (λ n r i. let g = note h.forest (sub_node d n) (sub t n) (refl, (e, refl)) in
        agree_from g.more
        (end_same (w ++ name_bytes n) (keeps_as (keeps_put (keeps_noted (keeps_go h r) g) (name_bytes n)) _ (append_assoc o w (name_bytes n))) (sub t n) _ false g.is refl))

-- ---------------------------------------------------------------- types

-- N <parts> E
module _ {ts : List Ty} {vs : List Ty} {k : ℕ} {r : Text} {σ : Notes} (o w : Text) (s : Keeps ts (o ++ w) vs k r σ) where
  nested_keeps : (d : ℕ) (u : Ty) → Den ts d u → Longer u false
      → Keeps ts (o ++ wrote u vs w) (enter_nested u vs) k r (entered_nested d (length o) σ)
  unfolding entered_nested push_new if◌then◌otherwise◌
  nested_keeps d (letter l) h b = absurd b
  nested_keeps d (wrap c t) h b = absurd b
  nested_keeps d (root n) h b = absurd b
  nested_keeps d (sub t n) h b =
      rw (tag_sub s.forest d (sub t n) h, newest_is s.forest σ.table vs s.entries d (sub t n) h) (go (last_is (sub t n) vs))
    where
      go : (p : Bool) → Keeps ts (o ++ wrote (sub t n) vs w) (if p then vs otherwise push (sub t n) vs) k r (if p then settled d (length o) σ otherwise entered d (length o) σ)
      go true = keeps_settled o w s d (sub t n) h
      go false = keeps_entered o w s d (sub t n) h
  nested_keeps d (app t xs) h b = rw (tag_sub s.forest d (app t xs) h) (keeps_entered o w s d (app t xs) h)
  nested_keeps d (lit k g v) h b = absurd b

-- L <literal> E
lit_same : {ts : List Ty} {o : Text} {vs : List Ty} {k : ℕ} {s : Text} {σ : Notes} → Keeps ts o vs k s σ → (t : Ty) (r z : Text) → Literal z t r
    → Agree ts o Den Never (got t (lit_bytes t) vs k r) (Got.got (number_of (lit_node t) σ.nodes) (put (lit_bytes t) (noted (lit_node t) (go_to r σ))))
lit_same {ts} {o} {vs} {k} {s} {σ} h t r z e =
    let n = note h.forest (lit_node t) t (rw e.is (refl, (refl, refl))) in
    agree_from n.more (agree_here (keeps_put (keeps_noted (keeps_go h r) n) (lit_bytes t)) n.is)

last_length : (o : Text) (c : ℕ) → suc (length o) ≡ length (o ++ (c ∷ []))
last_length [] c = refl
last_length (x ∷ o) c = ap suc (last_length o c)

module _ (o : Text) (type : Walker Ty) (type' : Noter ℕ) (p : SameType type type') (args : Walker Args) (args' : ℕ → Noter ℕ) (q : SameArgs args args')
    (parts : Walker Ty) (parts' : ℕ → Noter ℕ) (m : SameParts parts parts') where
  pub lead_same : (l : Lead) (c : ℕ) → Begins l c → {ts : List Ty} {vs : List Ty} {k : ℕ} {s : Text} {σ : Notes} → Keeps ts o vs k (c ∷ s) σ
      → Agree ts o Den Never (at_lead l c vs k s type args parts) (note_at_lead l c (length o) s σ type' args' parts')
  unfolding OfRd
  lead_same (lead_letter l) c e {s} h = agree_here (keeps_put (keeps_go h s) (c ∷ [])) e
  lead_same (lead_wrap d) c e {s} h =
      agree_then _ _ (p _ _ _ _ _ _ (keeps_put (keeps_go h s) (c ∷ [])))
      (λ t w vs' k' r x τ g. agree_when (stands d t) _ (ap (λ z. may_stand z (tag_of τ.nodes x)) e ∙ tag_stands g.keeps.forest x t g.is d)
      (λ b. agree_from g.more (both (entered_read o (c ∷ w) (keeps_as g.keeps _ (append_assoc o (c ∷ []) w)) (wrap_node c x) (wrap d t) (e, (g.is, refl))))))
  lead_same lead_digit c e h = name_same h _ _ (λ n r d τ g. with_args_same o args args' q g)
  lead_same lead_S c e {s} h = reference_same (keeps_go h s) _ _ (λ t r d τ g. with_args_same o args args' q g)
  lead_same lead_N c e {s} h =
      agree_next _ _ (m _ _ _ _ _ _ (keeps_put (keeps_go h s) (c ∷ [])) (suc (length o)) (last_length o c))
      (λ u w vs' k' r d τ g. rw (← longer_single u false g.is.1) (agree_from g.more
      (agree_here (nested_keeps o (in_brackets c w) (keeps_as (keeps_put g.keeps (code "E" ∷ [])) _ (simp append_assoc)) d u g.is.0 g.is.1) g.is.0)))
      (λ u w vs' k' r n. rw (← longer_single u true n) neither)
  lead_same lead_L c e {s} h = agree_with (literal s) (literal s) _ _ refl (λ t r i. lit_same h t r s (rw i at (lit_sound s)))
  lead_same lead_none c e h = neither
