-- Every catalogue symbol is walked, and its normal symbol is written.
use Rattle.std.specs.Prelude.{Bool, true, false, not, ◌||◌, List, [], ◌∷◌, ◌++◌, ◌≡◌, refl, ℕ, ◌+◌, ◌≤◌, eqb, length}
use Rattle.std.proofs.Common.{append_assoc, append-nil, sym, ◌∙◌, ap, arith, length-append, le-leb}
use Rattle.std.proofs.Math.Option.{Option, none, some}
use Prim.Native.Char.{code}
use Rattle.grammar.specs.Text.{Text, if◌then◌otherwise◌}
use Rattle.catalogue.specs.Bytes.{and_left, and_right}
use Rattle.catalogue.specs.Laws.Bytes.{or-false}
use Rattle.catalogue.specs.Tree.{Ty, Args, Enc, root, sub, one, also, enc, is_lit}
use Rattle.catalogue.specs.Spelling.{Sp, Pre, SpArgs, SpName, Sym, s_letter, s_wrap, s_ref, plain, templ, retempl, nest_sub, nest_app, s_lit, s_one, s_also}
use Rattle.catalogue.specs.Spelling.{flat, scoped, symbol, name_bytes, const_byte, spell, spell_pre, spell_args, spell_name, spell_params, spell_sym}
use Rattle.catalogue.specs.Class.{name_ok, all_types, resolve, resolve_pre, resolve_args, resolve_name, resolve_params, resolve_sym, is_const, has_params}
use Rattle.catalogue.specs.Class.{count, count_pre, count_args, count_name, count_params, count_sym, most_arguments, Catalogue}
use Rattle.catalogue.specs.Normal.{normal, normal_pre, normal_args, normal_params, normal_name, normal_sym, after_name, write, normal_of}
use Rattle.catalogue.specs.Laws.WellFormed.{Post, post_ok, post_then, post_if, post_is}
use Rattle.catalogue.proofs.Laws.AnySpelling.{closed_empty}
use Rattle.catalogue.proofs.Laws.ReadsBack.{no_I, args_IE, name_first, name_one, next_no, inner}
use Rattle.catalogue.proofs.Laws.SymbolReadsBack.{not_N, pre_K}
use Rattle.catalogue.proofs.Laws.Decision.{resolves, few}
use Rattle.normal_walk.specs.Walk.{got, Walker, next, add_all, distinct, at_scoped, at_end, at_name, at_params, walk_sym}
use Rattle.normal_walk.specs.Laws.Table.{Kept, Table}
use Rattle.normal_walk.proofs.Laws.Fuel.{walked, walked_parts, walked_types, types_is}
use Rattle.normal_walk.proofs.Laws.Leaves.{name_spelled}
use Rattle.normal_walk.proofs.Laws.Steps.{more_name, walked_enc, sym_is}
use Rattle.normal_walk.proofs.Laws.Complete.{Walks, WalksPre, Both, BothPre, got_is, not_E, is_e, walks, walks_pre, both, both_pre}

-- ---------------------------------------------------------------- types to the end

spell_some : (s : Sp) → 1 ≤ length (spell s)
unfolding spell
spell_some (s_letter l) = omega arith
spell_some (s_wrap c s) = omega arith
spell_some (s_ref i) = omega arith
spell_some (plain n) = name_one n
spell_some (templ n ss) = let k = name_one n in simp length-append (omega (arith, simp length-append at k))
spell_some (retempl i ss) = omega arith
spell_some (nest_sub q n) = omega arith
spell_some (nest_app q ss) = omega arith
spell_some (s_lit k g v) = omega arith

args_some : (ss : SpArgs) → 1 ≤ length (spell_args ss)
unfolding spell
args_some (s_one s) = spell_some s
args_some (s_also s ss) = let k = spell_some s in simp length-append (omega arith)

end_more : (t : Ty) (w : Text) (vs : List Ty) (k : ℕ) (r : Text) (types : Walker Args) → 1 ≤ length r
    → at_end t w vs k r types ≡ next (types vs k r) (λ xs v vs' k' r'. got (also t xs) (w ++ v) vs' k' r')
end_more t w vs k [] types h = absurd (omega arith)
end_more t w vs k (c ∷ r) types h = refl

abbrev WalksTypes : List Ty → SpArgs → Args → List Ty → Type 0
WalksTypes vs ss xs ws = all_types xs ≡ true → (k : ℕ)
    → walked_types vs k (spell_args ss) ≡ got xs (spell_args (normal_args xs (distinct vs))) ws (k + count_args ss) []

one_types : (vs : List Ty) (s : Sp) (t : Ty) (ws : List Ty) → Walks vs s t ws → WalksTypes vs (s_one s) (one t) ws
unfolding spell normal count
one_types vs s t ws h p k =
    let e : walked vs k (spell s) ≡ got t (spell (normal t (distinct vs))) ws (k + count s) [] = rw (append-nil (spell s)) at (h [] k refl) in
    types_is vs k (spell s) ∙ rw e (rw p refl)

also_types : (vs : List Ty) (s : Sp) (ss : SpArgs) (t : Ty) (xs : Args) (us ws : List Ty) → Table vs t us → Walks vs s t us → WalksTypes us ss xs ws
    → WalksTypes vs (s_also s ss) (also t xs) ws
unfolding spell normal count
also_types vs s ss t xs us ws q h g p k =
    let i = no_I (spell_args ss) (rw (append-nil (spell_args ss)) at (args_IE ss [])) in
    types_is vs k (spell s ++ spell_args ss)
    ∙ rw (h (spell_args ss) k i, and_left (not (is_lit t)) (all_types xs) p)
    (end_more t (spell (normal t (distinct vs))) us (k + count s) (spell_args ss) walked_types (args_some ss)
    ∙ rw (g (and_right (not (is_lit t)) (all_types xs) p) (k + count s)) (got_is _ _ _ _ _ _ [] (rw q.is refl) (omega arith)))

walks_types : (ss : SpArgs) (vs : List Ty) → Kept vs → Post (resolve_args ss vs) (WalksTypes vs ss)
unfolding resolve
walks_types (s_one s) vs a =
    post_then (Walks vs s) (WalksTypes vs (s_one s)) (resolve s vs) _ (walks s vs a)
    (λ t ws h. post_ok _ _ (WalksTypes vs (s_one s)) (one_types vs s t ws h))
walks_types (s_also s ss) vs a =
    post_then (Both vs s) (WalksTypes vs (s_also s ss)) (resolve s vs) _ (both s vs a (walks s vs a))
    (λ t us h. post_then (WalksTypes us ss) (WalksTypes vs (s_also s ss)) (resolve_args ss us) _ (walks_types ss us h.0.kept)
    (λ xs ws g. post_ok _ _ (WalksTypes vs (s_also s ss)) (also_types vs s ss t xs us ws h.0 h.1 g)))

-- ---------------------------------------------------------------- the function's name

pub kept_empty : Kept []
unfolding add_all
kept_empty = record { wf = tt; closed = closed_empty }

record WalksName (m : SpName) (t : Ty) (us : List Ty) : Type 0 where
  kept : Kept us
  is : after_name t ≡ distinct us
  walk : (r : Text) → at_name (spell_name m ++ r) walked_parts ≡ got (is_const m) (spell_name (normal_name (is_const m) t)) us (count_name m) r

flat_walks : (n : Text) → name_ok n ≡ true → WalksName (flat n) (root n) []
unfolding add_all
flat_walks n p = record {
  kept = kept_empty;
  is = refl;
  walk = λ r. next_no 78 (name_bytes n ++ r) _ _ (name_first (λ c. eqb c 78) not_N n r) ∙ rw (name_spelled n r p) refl;
}

-- behind N, or N and K
scoped_walks : (c : Bool) (q : Pre) (n : Text) (t : Ty) (us : List Ty) → name_ok n ≡ true → WalksPre [] q t us → (r : Text)
    → at_scoped c (walked_parts [] 0 ((spell_pre q ++ (name_bytes n ++ (69 ∷ []))) ++ r))
    ≡ got c (78 ∷ (const_byte c ++ (spell_pre (normal_pre t []) ++ (name_bytes n ++ (69 ∷ []))))) us (count_pre q) r
unfolding if◌then◌otherwise◌ add_all
scoped_walks c q n t us p h r =
    ap (λ s. at_scoped c (walked_parts [] 0 s)) (inner (spell_pre q) (name_bytes n) r)
    ∙ rw (
      h (name_bytes n ++ (69 ∷ r)) 0 (name_first is_e not_E n (69 ∷ r)),
      more_name us (0 + count_pre q) n (69 ∷ r) p t (spell_pre (normal_pre t [])),
    ) (got_is _ _ _ _ _ _ r (ap (λ s. 78 ∷ (const_byte c ++ s)) (append_assoc (spell_pre (normal_pre t [])) (name_bytes n) (69 ∷ []))) (omega arith))

scoped_name : (c : Bool) (q : Pre) (n : Text) (t : Ty) (us : List Ty) → name_ok n ≡ true → BothPre [] q t us → WalksName (scoped c q n) (sub t n) us
unfolding if◌then◌otherwise◌ add_all
scoped_name true q n t us p h = record {
  kept = h.0.kept;
  is = h.0.is;
  walk = λ r. scoped_walks true q n t us p h.1 r;
}
scoped_name false q n t us p h = record {
  kept = h.0.kept;
  is = h.0.is;
  walk = λ r.
      next_no 75 ((spell_pre q ++ (name_bytes n ++ (69 ∷ []))) ++ r) _ _
      (rw (append_assoc (spell_pre q) (name_bytes n ++ (69 ∷ [])) r) (pre_K q ((name_bytes n ++ (69 ∷ [])) ++ r)))
      ∙ scoped_walks false q n t us p h.1 r;
}

walks_name : (m : SpName) → Post (resolve_name m) (WalksName m)
unfolding resolve_name
walks_name (flat n) = post_if _ (name_ok n) _ (λ p. post_ok _ _ (WalksName (flat n)) (flat_walks n p))
walks_name (scoped c q n) =
    post_then (BothPre [] q) (WalksName (scoped c q n)) (resolve_pre q []) _ (both_pre q [] kept_empty (walks_pre q [] kept_empty))
    (λ t us h. post_if _ (name_ok n) _ (λ p. post_ok _ _ (WalksName (scoped c q n)) (scoped_name c q n t us p h)))

-- ---------------------------------------------------------------- parameters

abbrev WalksParams : List Ty → Option SpArgs → Option Args → List Ty → Type 0
WalksParams vs ps xs ws = (c : Bool) → not c || has_params ps ≡ true → (w : Text) (k : ℕ)
    → at_params c w vs k (spell_params ps) walked_types ≡ got c (w ++ spell_params (normal_params xs (distinct vs))) ws (k + count_params ps) []

walks_params : (ps : Option SpArgs) (vs : List Ty) → Kept vs → Post (resolve_params ps vs) (WalksParams vs ps)
unfolding resolve_params
walks_params none vs a =
    post_ok _ _ (WalksParams vs none)
    (λ c p w k. rw (sym (or-false (not c)) ∙ p) (got_is _ _ _ _ _ _ [] (sym (append-nil w)) (omega arith)))
walks_params (some ss) vs a =
    post_then (WalksTypes vs ss) (WalksParams vs (some ss)) (resolve_args ss vs) _ (walks_types ss vs a)
    (λ xs ws h. post_if _ (all_types xs) _ (λ p. post_ok _ _ (WalksParams vs (some ss)) (λ c q w k. go c w k (spell_args ss) (args_some ss) xs ws (h p k))))
  where
    go : (c : Bool) (w : Text) (k : ℕ) (r : Text) → 1 ≤ length r → (xs : Args) (ws : List Ty)
        → walked_types vs k r ≡ got xs (spell_args (normal_args xs (distinct vs))) ws (k + count_args ss) []
        → at_params c w vs k r walked_types ≡ got c (w ++ spell_args (normal_args xs (distinct vs))) ws (k + count_args ss) []
    go c w k [] l xs ws e = absurd (omega arith)
    go c w k (d ∷ r) l xs ws e = rw e refl

-- ---------------------------------------------------------------- whole symbols

-- what stands behind _Z
abbrev pub behind : Sym → Text
behind (symbol m ps) = spell_name m ++ spell_params ps

-- the walk behind _Z: the table and the arguments of the written symbol, and the normal symbol behind _Z
pub record WalksSym (σ : Sym) (e : Enc) (us : List Ty) : Type 0 where
  pub const : Bool
  pub text : Text
  pub writes : write e ≡ code "_" ∷ code "Z" ∷ text
  pub walk : walked_enc (behind σ) ≡ got const text us (count_sym σ) []

sym_walks : (m : SpName) (ps : Option SpArgs) (t : Ty) (us : List Ty) (xs : Option Args) (vs : List Ty) → not (is_const m) || has_params ps ≡ true
    → WalksName m t us → WalksParams us ps xs vs → WalksSym (symbol m ps) (enc (is_const m) t xs) vs
unfolding write normal_sym spell_sym count_sym
sym_walks m ps t us xs vs p h g = record {
  const = is_const m;
  text = spell_name (normal_name (is_const m) t) ++ spell_params (normal_params xs (distinct us));
  writes = rw h.is refl;
  walk = rw (h.walk (spell_params ps)) (g (is_const m) p (spell_name (normal_name (is_const m) t)) (count_name m));
}

walks_sym : (σ : Sym) → Post (resolve_sym σ) (WalksSym σ)
unfolding resolve_sym
walks_sym (symbol m ps) =
    post_if _ (not (is_const m) || has_params ps) _
    (λ p. post_then (WalksName m) (WalksSym (symbol m ps)) (resolve_name m) _ (walks_name m)
    (λ t us h. post_then (WalksParams us ps) (WalksSym (symbol m ps)) (resolve_params ps us) _ (walks_params ps us h.kept)
    (λ xs vs g. post_ok _ _ (WalksSym (symbol m ps)) (sym_walks m ps t us xs vs p h g))))

pub catalogue_walks : {s : Text} (c : Catalogue s) → WalksSym c.written c.tree c.table
catalogue_walks c = post_is (WalksSym c.written) (resolve_sym c.written) c.tree c.table (resolves c) (walks_sym c.written)

pub spells_behind : (σ : Sym) → spell_sym σ ≡ code "_" ∷ code "Z" ∷ behind σ
unfolding spell_sym
spells_behind (symbol m ps) = refl

-- a catalogue symbol is walked, and its normal symbol is written
pub walk_complete : {s : Text} (c : Catalogue s) → walk_sym s ≡ some (normal_of c)
unfolding if◌then◌otherwise◌
walk_complete {s} c =
    let h = catalogue_walks c in
    let e : s ≡ 95 ∷ 90 ∷ behind c.written = sym c.spells ∙ spells_behind c.written in
    sym_is s ∙ rw (e, h.walk) (rw (le-leb (count_sym c.written) most_arguments (few c)) (ap some (sym h.writes)))
