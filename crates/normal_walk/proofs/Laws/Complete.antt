-- Every spelling of the class is walked: its tree is found, its table and its arguments are kept, and the normal spelling is written.
use Rattle.std.specs.Prelude.{Bool, true, false, not, ◌&&◌, List, [], ◌∷◌, ◌++◌, ◌≡◌, ℕ, suc, ◌+◌, eqb}
use Rattle.std.proofs.Common.{append_assoc, ◌∙◌, arith}
use Rattle.std.proofs.Math.Option.{some}
use Rattle.std.proofs.Math.Path.{refl, ap}
use Prim.Native.Char.{code}
use Rattle.std.proofs.Math.ListN.{get_elem?}
use Rattle.grammar.specs.Text.{Text, if◌then◌otherwise◌, digit}
use Rattle.catalogue.specs.Bytes.{first, and_left, and_right}
use Rattle.catalogue.specs.Laws.Bytes.{or_right, not-true}
use Rattle.catalogue.specs.Tree.{Letter, Wrap, Kind, Ty, Args, letter, wrap, root, sub, app, lit, one, also, is_class, is_bare, single, letter_code, wrap_code, kind_code}
use Rattle.catalogue.specs.Spelling.{Sp, Pre, SpArgs, s_letter, s_wrap, s_ref, plain, templ, retempl, nest_sub, nest_app, s_lit, p_ref, p_root, p_sub, p_app}
use Rattle.catalogue.specs.Spelling.{s_one, s_also, ref_digits, name_bytes, minus, spell, spell_pre, spell_args}
use Rattle.catalogue.specs.Class.{name_ok, lit_ok, stands, push, push_new, entry, resolve, resolve_pre, resolve_args, number, count, count_pre, count_args}
use Rattle.catalogue.specs.Normal.{normal, normal_pre, normal_args}
use Rattle.catalogue.specs.Laws.WellFormed.{Post, post_ok, post_then, post_if, post_both, post_map, bare_class}
use Rattle.catalogue.proofs.Laws.ReadsBack.{lead_letter_is, lead_wrap_is, digit_IE, no_I, no_E, args_IE, name_first, next_no, front, inner, inner'}
use Rattle.normal_walk.specs.Walk.{got, when, distinct, wrote, with_args, enter}
use Rattle.normal_walk.specs.Laws.Table.{Kept, Table, TablePre, TableArgs, table_pre_root, table_pre_entry, entry_at, table, table_pre, table_args}
use Rattle.normal_walk.proofs.Laws.Fuel.{walked, walked_parts, walked_more, walked_args, args_is}
use Rattle.normal_walk.proofs.Laws.Steps.{walked_letter, walked_wrap, walked_N, lead_N_is, walked_name, walked_ref, walked_lit, parts_name, parts_ref, more_I, more_name}
use Rattle.normal_walk.proofs.Laws.NormalSpelling.{arg_bytes, wrote_entry, wrote_entry_pre, wrote_wrap, wrote_root, wrote_root_pre, wrote_sub}
use Rattle.normal_walk.proofs.Laws.NormalSpelling.{wrote_sub_pre, wrote_single, wrote_app, wrote_app_pre}

abbrev is_i : ℕ → Bool
is_i c = eqb c (code "I")

abbrev pub is_e : ℕ → Bool
is_e c = eqb c (code "E")

pub not_E : (c : ℕ) → digit 10 c ≡ true → is_e c ≡ false
not_E c h = or_right (is_i c) (is_e c) (digit_IE c h)

-- from the table vs, before anything but arguments
abbrev pub Walks : List Ty → Sp → Ty → List Ty → Type 0
Walks vs x t ws = (r : Text) (k : ℕ) → first is_i r ≡ false
    → walked vs k (spell x ++ r) ≡ got t (spell (normal t (distinct vs))) ws (k + count x) r

-- leading parts, before anything but the end
abbrev pub WalksPre : List Ty → Pre → Ty → List Ty → Type 0
WalksPre vs q t ws = (r : Text) (k : ℕ) → first is_e r ≡ false
    → walked_parts vs k (spell_pre q ++ r) ≡ walked_more t (spell_pre (normal_pre t (distinct vs))) ws (k + count_pre q) r

abbrev pub WalksArgs : List Ty → SpArgs → Args → List Ty → Type 0
WalksArgs vs ss xs ws = (r : Text) (k : ℕ)
    → walked_args vs k (spell_args ss ++ (code "E" ∷ r)) ≡ got xs (spell_args (normal_args xs (distinct vs))) ws (k + (count_args ss + number ss)) r

pub got_is : {A : Type 0} (x : A) (w v : Text) (ws : List Ty) (k j : ℕ) (r : Text) → w ≡ v → k ≡ j → got x w ws k r ≡ got x v ws j r
got_is x w v ws k j r e d = rw (e, d) refl

more_is : (t : Ty) (w v : Text) (ws : List Ty) (k j : ℕ) (r : Text) → w ≡ v → k ≡ j → walked_more t w ws k r ≡ walked_more t v ws j r
more_is t w v ws k j r e d = rw (e, d) refl

-- ---------------------------------------------------------------- types

letter_walks : (vs : List Ty) (l : Letter) → Walks vs (s_letter l) (letter l) vs
unfolding spell normal count
letter_walks vs l r k i = walked_letter vs k (letter_code l) r l (lead_letter_is l) ∙ got_is _ _ _ vs k (k + 0) r refl (omega arith)

lit_walks : (vs : List Ty) (l : Kind) (g : Bool) (v : Text) → lit_ok l g v ≡ true → Walks vs (s_lit l g v) (lit l g v) vs
unfolding spell normal count
lit_walks vs l g v p r k i =
    ap (λ s. walked vs k (76 ∷ kind_code l ∷ s)) (inner (minus g) v r)
    ∙ walked_lit vs k l g v r p
    ∙ got_is _ _ _ vs k (k + 0) r (ap (λ s. 76 ∷ kind_code l ∷ s) (append_assoc (minus g) v (69 ∷ []))) (omega arith)

-- behind the class t: the arguments
args_step : (t : Ty) (w : Text) (us : List Ty) (k : ℕ) (ss : SpArgs) (xs : Args) (ws : List Ty) (r : Text) → WalksArgs us ss xs ws
    → with_args t w (walked_args us k (spell_args ss ++ (69 ∷ r))) enter
    ≡ enter (app t xs) (w ++ arg_bytes (normal_args xs (distinct us))) ws (k + (count_args ss + number ss)) r
args_step t w us k ss xs ws r h = rw (h r k) refl

module _ {vs : List Ty} (a : Kept vs) where
  wrap_walks : (c : Wrap) (s : Sp) (t : Ty) (ws : List Ty) → Table vs t ws → stands c t ≡ true → Walks vs s t ws
      → Walks vs (s_wrap c s) (wrap c t) (push (wrap c t) ws)
  unfolding spell count
  wrap_walks c s t ws h p g r k i =
      walked_wrap vs k (wrap_code c) (spell s ++ r) c (lead_wrap_is c)
      ∙ rw (g r k i) (rw p (got_is _ _ _ _ _ _ r (wrote_wrap a c t ws h) refl))

  ref_walks : (i : ℕ) (t : Ty) → get_elem? vs i ≡ some t → Walks vs (s_ref i) t vs
  unfolding spell count
  ref_walks i t e r k z =
      walked_ref vs k i r t e ∙ next_no 73 r _ _ z ∙ got_is _ _ _ _ _ _ r (wrote_entry a t i e) (omega arith)

  plain_walks : (n : Text) → name_ok n ≡ true → Walks vs (plain n) (root n) (push (root n) vs)
  unfolding spell count
  plain_walks n p r k z =
      walked_name vs k n r p ∙ next_no 73 r _ _ z ∙ got_is _ _ _ _ _ _ r (wrote_root a n) (omega arith)

  templ_walks : (n : Text) (ss : SpArgs) (xs : Args) (ws : List Ty) → name_ok n ≡ true → TableArgs (push (root n) vs) xs ws
      → WalksArgs (push (root n) vs) ss xs ws → Walks vs (templ n ss) (app (root n) xs) (push (app (root n) xs) ws)
  unfolding spell count if◌then◌otherwise◌
  templ_walks n ss xs ws p h g r k z =
      ap (walked vs k) (front (name_bytes n) (spell_args ss) r)
      ∙ walked_name vs k n (73 ∷ (spell_args ss ++ (69 ∷ r))) p
      ∙ args_step (root n) (wrote (root n) vs (name_bytes n)) (push (root n) vs) k ss xs ws r g
      ∙ got_is _ _ _ _ _ _ r
      (rw (wrote_root_pre a n) (wrote_single a (root n) xs (push (root n) vs) ws (table_pre_root a n p) h refl refl)) refl

  retempl_walks : (i : ℕ) (ss : SpArgs) (t : Ty) (xs : Args) (ws : List Ty) → get_elem? vs i ≡ some t → TablePre vs t vs → single t && is_bare t ≡ true
      → TableArgs vs xs ws → WalksArgs vs ss xs ws → Walks vs (retempl i ss) (app t xs) (push (app t xs) ws)
  unfolding spell count if◌then◌otherwise◌
  retempl_walks i ss t xs ws e q p h g r k z =
      let s = and_left (single t) (is_bare t) p in
      let b = and_right (single t) (is_bare t) p in
      ap (λ s. walked vs k (83 ∷ s)) (front (ref_digits i ++ (95 ∷ [])) (spell_args ss) r)
      ∙ walked_ref vs k i (73 ∷ (spell_args ss ++ (69 ∷ r))) t e
      ∙ ap (λ p'. when p' (with_args t (wrote t vs []) (walked_args vs k (spell_args ss ++ (69 ∷ r))) enter)) p
      ∙ args_step t (wrote t vs []) vs k ss xs ws r g
      ∙ got_is _ _ _ _ _ _ r (rw (wrote_entry_pre a t i e (bare_class t b)) (wrote_single a t xs vs ws q h s b)) refl

  -- ---------------------------------------------------------------- classes of more parts

  nest_sub_walks : (q : Pre) (n : Text) (t : Ty) (ws : List Ty) → TablePre vs t ws → name_ok n ≡ true → WalksPre vs q t ws
      → Walks vs (nest_sub q n) (sub t n) (push_new (sub t n) ws)
  unfolding spell count if◌then◌otherwise◌
  nest_sub_walks q n t ws h p g r k z =
      ap (λ s. walked vs k (78 ∷ s)) (inner (spell_pre q) (name_bytes n) r)
      ∙ walked_N vs k 78 (spell_pre q ++ (name_bytes n ++ (69 ∷ r))) lead_N_is
      ∙ rw (
        g (name_bytes n ++ (69 ∷ r)) k (name_first is_e not_E n (69 ∷ r)),
        more_name ws (k + count_pre q) n (69 ∷ r) p t (spell_pre (normal_pre t (distinct vs))),
      ) (got_is _ _ _ _ _ _ r (wrote_sub a t n ws h) refl)

  nest_app_walks : (q : Pre) (ss : SpArgs) (t : Ty) (xs : Args) (us ws : List Ty) → TablePre vs t us → TableArgs us xs ws
      → not (single t) && is_bare t ≡ true → WalksPre vs q t us → WalksArgs us ss xs ws → Walks vs (nest_app q ss) (app t xs) (push (app t xs) ws)
  unfolding spell count if◌then◌otherwise◌
  nest_app_walks q ss t xs us ws h m p g f r k z =
      let s = and_left (not (single t)) (is_bare t) p in
      let b = and_right (not (single t)) (is_bare t) p in
      ap (λ s. walked vs k (78 ∷ s)) (inner' (spell_pre q) (spell_args ss) r)
      ∙ walked_N vs k 78 (spell_pre q ++ (73 ∷ (spell_args ss ++ (69 ∷ 69 ∷ r)))) lead_N_is
      ∙ rw (
        g (73 ∷ (spell_args ss ++ (69 ∷ 69 ∷ r))) k refl,
        more_I us (k + count_pre q) 73 (spell_args ss ++ (69 ∷ 69 ∷ r)) t (spell_pre (normal_pre t (distinct vs))) refl,
        b,
        f (69 ∷ r) (k + count_pre q),
        s,
      ) (got_is _ _ _ _ _ _ r (wrote_app a t xs us ws h m (not-true (single t) s)) (omega arith))

  -- ---------------------------------------------------------------- leading parts

  p_ref_walks : (i : ℕ) (t : Ty) → get_elem? vs i ≡ some t → is_class t ≡ true → WalksPre vs (p_ref i) t vs
  unfolding spell count
  p_ref_walks i t e c r k z = parts_ref vs k i r t e c ∙ more_is _ _ _ _ _ _ r (wrote_entry_pre a t i e c) (omega arith)

  p_root_walks : (n : Text) → name_ok n ≡ true → WalksPre vs (p_root n) (root n) (push (root n) vs)
  unfolding spell count
  p_root_walks n p r k z = parts_name vs k n r p ∙ more_is _ _ _ _ _ _ r (wrote_root_pre a n) (omega arith)

  p_sub_walks : (q : Pre) (n : Text) (t : Ty) (ws : List Ty) → TablePre vs t ws → name_ok n ≡ true → WalksPre vs q t ws
      → WalksPre vs (p_sub q n) (sub t n) (push (sub t n) ws)
  unfolding spell count
  p_sub_walks q n t ws h p g r k z =
      ap (walked_parts vs k) (append_assoc (spell_pre q) (name_bytes n) r)
      ∙ g (name_bytes n ++ r) k (name_first is_e not_E n r)
      ∙ more_name ws (k + count_pre q) n r p t (spell_pre (normal_pre t (distinct vs)))
      ∙ next_no 69 r _ _ z
      ∙ more_is _ _ _ _ _ _ r (wrote_sub_pre a t n ws h) refl

  p_app_walks : (q : Pre) (ss : SpArgs) (t : Ty) (xs : Args) (us ws : List Ty) → TablePre vs t us → TableArgs us xs ws → is_bare t ≡ true
      → WalksPre vs q t us → WalksArgs us ss xs ws → WalksPre vs (p_app q ss) (app t xs) (push (app t xs) ws)
  unfolding spell count
  p_app_walks q ss t xs us ws h m b g f r k z =
      ap (walked_parts vs k) (front (spell_pre q) (spell_args ss) r)
      ∙ g (73 ∷ (spell_args ss ++ (69 ∷ r))) k refl
      ∙ more_I us (k + count_pre q) 73 (spell_args ss ++ (69 ∷ r)) t (spell_pre (normal_pre t (distinct vs))) refl
      ∙ rw (b, f r (k + count_pre q)) (next_no 69 r _ _ z ∙ more_is _ _ _ _ _ _ r (wrote_app_pre a t xs us ws h m) (omega arith))

-- ---------------------------------------------------------------- arguments

one_walks : (vs : List Ty) (s : Sp) (t : Ty) (ws : List Ty) → Walks vs s t ws → WalksArgs vs (s_one s) (one t) ws
unfolding spell normal count if◌then◌otherwise◌
one_walks vs s t ws h r k = args_is vs k (spell s ++ (69 ∷ r)) ∙ rw (h (69 ∷ r) k refl) (got_is _ _ _ _ _ _ r refl (omega arith))

also_walks : (vs : List Ty) (s : Sp) (ss : SpArgs) (t : Ty) (xs : Args) (us ws : List Ty) → Table vs t us → Walks vs s t us → WalksArgs us ss xs ws
    → WalksArgs vs (s_also s ss) (also t xs) ws
unfolding spell normal count
also_walks vs s ss t xs us ws q h g r k =
    let ie = args_IE ss (69 ∷ r) in
    ap (walked_args vs k) (append_assoc (spell s) (spell_args ss) (69 ∷ r))
    ∙ args_is vs k (spell s ++ (spell_args ss ++ (69 ∷ r)))
    ∙ rw (h (spell_args ss ++ (69 ∷ r)) k (no_I (spell_args ss ++ (69 ∷ r)) ie))
    (next_no 69 (spell_args ss ++ (69 ∷ r)) _ _ (no_E (spell_args ss ++ (69 ∷ r)) ie)
    ∙ rw (g r (suc (k + count s))) (got_is _ _ _ _ _ _ r (rw q.is refl) (omega arith)))

-- ---------------------------------------------------------------- every spelling

-- the table and the walk
abbrev pub Both : List Ty → Sp → Ty → List Ty → Type 0
Both vs s t ws = Table vs t ws × Walks vs s t ws

abbrev pub BothPre : List Ty → Pre → Ty → List Ty → Type 0
BothPre vs q t ws = TablePre vs t ws × WalksPre vs q t ws

abbrev pub BothArgs : List Ty → SpArgs → Args → List Ty → Type 0
BothArgs vs ss xs ws = TableArgs vs xs ws × WalksArgs vs ss xs ws

pub both : (s : Sp) (vs : List Ty) → Kept vs → Post (resolve s vs) (Walks vs s) → Post (resolve s vs) (Both vs s)
both s vs a h = post_both (Table vs) (Walks vs s) (resolve s vs) (table s vs a) h

pub both_pre : (q : Pre) (vs : List Ty) → Kept vs → Post (resolve_pre q vs) (WalksPre vs q) → Post (resolve_pre q vs) (BothPre vs q)
both_pre q vs a h = post_both (TablePre vs) (WalksPre vs q) (resolve_pre q vs) (table_pre q vs a) h

both_args : (ss : SpArgs) (vs : List Ty) → Kept vs → Post (resolve_args ss vs) (WalksArgs vs ss) → Post (resolve_args ss vs) (BothArgs vs ss)
both_args ss vs a h = post_both (TableArgs vs) (WalksArgs vs ss) (resolve_args ss vs) (table_args ss vs a) h

mutual
  unfolding resolve

  pub walks : (s : Sp) (vs : List Ty) → Kept vs → Post (resolve s vs) (Walks vs s)
  walks (s_letter l) vs a = post_ok _ _ (Walks vs (s_letter l)) (letter_walks vs l)
  walks (s_wrap c s) vs a =
      post_then (Both vs s) (Walks vs (s_wrap c s)) (resolve s vs) _ (both s vs a (walks s vs a))
      (λ t ws h. post_if _ (stands c t) _ (λ p. post_ok _ _ (Walks vs (s_wrap c s)) (wrap_walks a c s t ws h.0 p h.1)))
  walks (s_ref i) vs a =
      post_map _ (Walks vs (s_ref i)) (entry (get_elem? vs i) vs) (λ t ws h. rw h.2 (ref_walks a i t h.1)) (entry_at vs i a.wf)
  walks (plain n) vs a = post_if _ (name_ok n) _ (λ p. post_ok _ _ (Walks vs (plain n)) (plain_walks a n p))
  walks (templ n ss) vs a =
      post_if _ (name_ok n) _
      (λ p. post_then (BothArgs (push (root n) vs) ss) (Walks vs (templ n ss)) (resolve_args ss (push (root n) vs)) _
      (both_args ss (push (root n) vs) (table_pre_root a n p).kept (walks_args ss (push (root n) vs) (table_pre_root a n p).kept))
      (λ xs ws h. post_ok _ _ (Walks vs (templ n ss)) (templ_walks a n ss xs ws p h.0 h.1)))
  walks (retempl i ss) vs a =
      post_then _ (Walks vs (retempl i ss)) (entry (get_elem? vs i) vs) _ (entry_at vs i a.wf)
      (λ t us r. post_if _ (single t && is_bare t) _
      (λ p. rw r.2 (post_then (BothArgs vs ss) (Walks vs (retempl i ss)) (resolve_args ss vs) _ (both_args ss vs a (walks_args ss vs a))
      (λ xs ws h. post_ok _ _ (Walks vs (retempl i ss))
      (retempl_walks a i ss t xs ws r.1
      (table_pre_entry a t i r.1 (bare_class t (and_right (single t) (is_bare t) p)) (rw r.2 at r.0)) p h.0 h.1)))))
  walks (nest_sub q n) vs a =
      post_then (BothPre vs q) (Walks vs (nest_sub q n)) (resolve_pre q vs) _ (both_pre q vs a (walks_pre q vs a))
      (λ t ws h. post_if _ (name_ok n) _ (λ p. post_ok _ _ (Walks vs (nest_sub q n)) (nest_sub_walks a q n t ws h.0 p h.1)))
  walks (nest_app q ss) vs a =
      post_then (BothPre vs q) (Walks vs (nest_app q ss)) (resolve_pre q vs) _ (both_pre q vs a (walks_pre q vs a))
      (λ t us r. post_if _ (not (single t) && is_bare t) _
      (λ p. post_then (BothArgs us ss) (Walks vs (nest_app q ss)) (resolve_args ss us) _ (both_args ss us r.0.kept (walks_args ss us r.0.kept))
      (λ xs ws h. post_ok _ _ (Walks vs (nest_app q ss)) (nest_app_walks a q ss t xs us ws r.0 h.0 p r.1 h.1))))
  walks (s_lit l g v) vs a = post_if _ (lit_ok l g v) _ (λ p. post_ok _ _ (Walks vs (s_lit l g v)) (lit_walks vs l g v p))

  pub walks_pre : (q : Pre) (vs : List Ty) → Kept vs → Post (resolve_pre q vs) (WalksPre vs q)
  walks_pre (p_ref i) vs a =
      post_then _ (WalksPre vs (p_ref i)) (entry (get_elem? vs i) vs) _ (entry_at vs i a.wf)
      (λ t ws h. post_if _ (is_class t) _ (λ p. post_ok _ _ (WalksPre vs (p_ref i)) (rw h.2 (p_ref_walks a i t h.1 p))))
  walks_pre (p_root n) vs a = post_if _ (name_ok n) _ (λ p. post_ok _ _ (WalksPre vs (p_root n)) (p_root_walks a n p))
  walks_pre (p_sub q n) vs a =
      post_then (BothPre vs q) (WalksPre vs (p_sub q n)) (resolve_pre q vs) _ (both_pre q vs a (walks_pre q vs a))
      (λ t ws h. post_if _ (name_ok n) _ (λ p. post_ok _ _ (WalksPre vs (p_sub q n)) (p_sub_walks a q n t ws h.0 p h.1)))
  walks_pre (p_app q ss) vs a =
      post_then (BothPre vs q) (WalksPre vs (p_app q ss)) (resolve_pre q vs) _ (both_pre q vs a (walks_pre q vs a))
      (λ t us r. post_if _ (is_bare t) _
      (λ p. post_then (BothArgs us ss) (WalksPre vs (p_app q ss)) (resolve_args ss us) _ (both_args ss us r.0.kept (walks_args ss us r.0.kept))
      (λ xs ws h. post_ok _ _ (WalksPre vs (p_app q ss)) (p_app_walks a q ss t xs us ws r.0 h.0 p r.1 h.1))))

  pub walks_args : (ss : SpArgs) (vs : List Ty) → Kept vs → Post (resolve_args ss vs) (WalksArgs vs ss)
  walks_args (s_one s) vs a =
      post_then (Walks vs s) (WalksArgs vs (s_one s)) (resolve s vs) _ (walks s vs a)
      (λ t ws h. post_ok _ _ (WalksArgs vs (s_one s)) (one_walks vs s t ws h))
  walks_args (s_also s ss) vs a =
      post_then (Both vs s) (WalksArgs vs (s_also s ss)) (resolve s vs) _ (both s vs a (walks s vs a))
      (λ t us h. post_then (WalksArgs us ss) (WalksArgs vs (s_also s ss)) (resolve_args ss us) _ (walks_args ss us h.0.kept)
      (λ xs ws g. post_ok _ _ (WalksArgs vs (s_also s ss)) (also_walks vs s ss t xs us ws h.0 h.1 g)))
