-- What the walk writes for a tree is its normal spelling, from the table without later doubles.
use Rattle.std.specs.Prelude.{true, false, List, [], ◌∷◌, ◌++◌, ◌≡◌, ℕ}
use Rattle.std.proofs.lemmas.Bool.{false≢true}
use Rattle.std.proofs.Common.{append_assoc, ◌∙◌, ap}
use Rattle.std.proofs.Math.Option.{Option, none, some}
use Rattle.std.proofs.Math.Path.{refl}
use Prim.Native.Char.{code}
use Rattle.std.proofs.Math.ListN.{get_elem?}
use Rattle.grammar.specs.Text.{Text, choose}
use Rattle.catalogue.specs.Tree.{Wrap, Ty, Args, letter, wrap, root, sub, app, lit, is_class, is_bare, single, wrap_code}
use Rattle.catalogue.specs.Spelling.{Sp, Pre, SpArgs, s_wrap, plain, nest_sub, p_root, p_sub, p_app, ref_bytes, name_bytes, spell, spell_pre, spell_args}
use Rattle.catalogue.specs.Normal.{seek, ref_or, pre_or, templ_of, normal, normal_pre, normal_args}
use Rattle.catalogue.proofs.Laws.Entries.{has, has_seek, at_has}
use Rattle.normal_walk.specs.Walk.{distinct, wrote, in_brackets}
use Rattle.normal_walk.specs.Laws.Table.{distinct_has, Grows, seek_grown, self_grows, wrap_grows, sub_grows, app_grows, Kept, Table, TablePre, TableArgs}

ref_bytes_are : (o : Option ℕ) (s : Sp) → choose o ref_bytes (spell s) ≡ spell (ref_or o s)
unfolding choose spell
ref_bytes_are none s = refl
ref_bytes_are (some i) s = refl

pre_bytes : (o : Option ℕ) (q : Pre) → choose o ref_bytes (spell_pre q) ≡ spell_pre (pre_or o q)
unfolding choose spell
pre_bytes none q = refl
pre_bytes (some i) q = refl

-- u is sought in the table after its parts, or before them: the same
module _ (u : Ty) (vs ws : List Ty) (g : Grows u (distinct vs) (distinct ws)) where
  wrote_type : (w : Text) (s : Sp) → w ≡ spell s → wrote u ws w ≡ spell (ref_or (seek u (distinct vs)) s)
  unfolding wrote
  wrote_type w s e = rw (e, seek_grown g) (ref_bytes_are (seek u (distinct vs)) s)

  wrote_pre : (w : Text) (q : Pre) → w ≡ spell_pre q → wrote u ws w ≡ spell_pre (pre_or (seek u (distinct vs)) q)
  unfolding wrote
  wrote_pre w q e = rw (e, seek_grown g) (pre_bytes (seek u (distinct vs)) q)

-- ---------------------------------------------------------------- entries

wrote_known : (t : Ty) (vs : List Ty) → has t (distinct vs) ≡ true → (i : ℕ) × (seek t (distinct vs) ≡ some i) × (wrote t vs [] ≡ ref_bytes i)
unfolding wrote choose
wrote_known t vs h = let r = has_seek t (distinct vs) h in (r.0, r.1, rw r.1 refl)

known_type : {vs : List Ty} → Kept vs → (t : Ty) → has t (distinct vs) ≡ true → wrote t vs [] ≡ spell (normal t (distinct vs))
unfolding normal spell
known_type a (letter l) h = absurd (a.closed (letter l) h)
known_type {vs} a (wrap c t) h = let r = wrote_known (wrap c t) vs h in r.2 ∙ rw r.1 refl
known_type {vs} a (root n) h = let r = wrote_known (root n) vs h in r.2 ∙ rw r.1 refl
known_type {vs} a (sub t n) h = let r = wrote_known (sub t n) vs h in r.2 ∙ rw r.1 refl
known_type {vs} a (app t xs) h = let r = wrote_known (app t xs) vs h in r.2 ∙ rw r.1 refl
known_type a (lit k g v) h = absurd (a.closed (lit k g v) h)

known_pre : (vs : List Ty) (t : Ty) → is_class t ≡ true → has t (distinct vs) ≡ true → wrote t vs [] ≡ spell_pre (normal_pre t (distinct vs))
unfolding normal spell
known_pre vs (letter l) c h = absurd (false≢true c)
known_pre vs (wrap d t) c h = absurd (false≢true c)
known_pre vs (root n) c h = let r = wrote_known (root n) vs h in r.2 ∙ rw r.1 refl
known_pre vs (sub t n) c h = let r = wrote_known (sub t n) vs h in r.2 ∙ rw r.1 refl
known_pre vs (app t xs) c h = let r = wrote_known (app t xs) vs h in r.2 ∙ rw r.1 refl
known_pre vs (lit k g v) c h = absurd (false≢true c)

-- ---------------------------------------------------------------- classes of one part with arguments

-- what arguments of one part add
abbrev pub arg_bytes : SpArgs → Text
arg_bytes ss = in_brackets (code "I") (spell_args ss)

root_templ : (o : Option ℕ) (n : Text) (ss : SpArgs) → spell_pre (pre_or o (p_root n)) ++ arg_bytes ss ≡ spell (templ_of true (pre_or o (p_root n)) ss)
unfolding spell
root_templ none n ss = refl
root_templ (some i) n ss = refl

-- a part without arguments that stands alone is a source name
single_templ : (t : Ty) (us : List Ty) (ss : SpArgs) → single t ≡ true → is_bare t ≡ true
    → spell_pre (normal_pre t us) ++ arg_bytes ss ≡ spell (templ_of (single t) (normal_pre t us) ss)
unfolding normal
single_templ (letter l) us ss s b = absurd (false≢true s)
single_templ (wrap c t) us ss s b = absurd (false≢true s)
single_templ (root n) us ss s b = root_templ (seek (root n) us) n ss
single_templ (sub t n) us ss s b = absurd (false≢true s)
single_templ (app t xs) us ss s b = absurd (false≢true b)
single_templ (lit k g v) us ss s b = absurd (false≢true s)

nested_templ : (t : Ty) (us : List Ty) (ss : SpArgs) → single t ≡ false
    → in_brackets (code "N") (spell_pre (normal_pre t us) ++ arg_bytes ss) ≡ spell (templ_of (single t) (normal_pre t us) ss)
unfolding spell
nested_templ t us ss h = rw h (simp append_assoc)

-- ---------------------------------------------------------------- each kind of tree

module _ {vs : List Ty} (a : Kept vs) where
  pub wrote_entry : (t : Ty) (i : ℕ) → get_elem? vs i ≡ some t → wrote t vs [] ≡ spell (normal t (distinct vs))
  wrote_entry t i e = known_type a t (distinct_has t vs ∙ at_has i vs t e)

  pub wrote_entry_pre : (t : Ty) (i : ℕ) → get_elem? vs i ≡ some t → is_class t ≡ true → wrote t vs [] ≡ spell_pre (normal_pre t (distinct vs))
  wrote_entry_pre t i e c = known_pre vs t c (distinct_has t vs ∙ at_has i vs t e)

  pub wrote_wrap : (c : Wrap) (t : Ty) (ws : List Ty) → Table vs t ws
      → wrote (wrap c t) ws (wrap_code c ∷ spell (normal t (distinct vs))) ≡ spell (normal (wrap c t) (distinct vs))
  unfolding normal spell
  wrote_wrap c t ws h =
      wrote_type (wrap c t) vs ws (rw h.is at (wrap_grows c t (distinct vs) a.closed)) _ (s_wrap c (normal t (distinct vs))) refl

  pub wrote_root : (n : Text) → wrote (root n) vs (name_bytes n) ≡ spell (normal (root n) (distinct vs))
  unfolding normal spell
  wrote_root n = wrote_type (root n) vs vs (self_grows (root n) (distinct vs)) _ (plain n) refl

  pub wrote_root_pre : (n : Text) → wrote (root n) vs (name_bytes n) ≡ spell_pre (normal_pre (root n) (distinct vs))
  unfolding normal spell
  wrote_root_pre n = wrote_pre (root n) vs vs (self_grows (root n) (distinct vs)) _ (p_root n) refl

  module _ (t : Ty) (n : Text) (ws : List Ty) (h : TablePre vs t ws) where
    pub wrote_sub : wrote (sub t n) ws (in_brackets (code "N") (spell_pre (normal_pre t (distinct vs)) ++ name_bytes n)) ≡ spell (normal (sub t n) (distinct vs))
    unfolding normal spell
    wrote_sub =
        wrote_type (sub t n) vs ws (rw h.is at (sub_grows t n (distinct vs) a.closed)) _ (nest_sub (normal_pre t (distinct vs)) n)
        (ap (◌∷◌ 78) (append_assoc (spell_pre (normal_pre t (distinct vs))) (name_bytes n) (69 ∷ [])))

    pub wrote_sub_pre : wrote (sub t n) ws (spell_pre (normal_pre t (distinct vs)) ++ name_bytes n) ≡ spell_pre (normal_pre (sub t n) (distinct vs))
    unfolding normal spell
    wrote_sub_pre =
        wrote_pre (sub t n) vs ws (rw h.is at (sub_grows t n (distinct vs) a.closed)) _ (p_sub (normal_pre t (distinct vs)) n) refl

  module _ (t : Ty) (xs : Args) (us ws : List Ty) (h : TablePre vs t us) (g : TableArgs us xs ws) where
    grows : Grows (app t xs) (distinct vs) (distinct ws)
    grows = rw (h.is, g.is) at (app_grows t xs (distinct vs) a.closed)

    pub wrote_single : single t ≡ true → is_bare t ≡ true
        → wrote (app t xs) ws (spell_pre (normal_pre t (distinct vs)) ++ arg_bytes (normal_args xs (distinct us))) ≡ spell (normal (app t xs) (distinct vs))
    unfolding normal
    wrote_single s b =
        rw h.is (wrote_type (app t xs) vs ws grows _ (templ_of (single t) (normal_pre t (distinct vs)) (normal_args xs (distinct us)))
        (single_templ t (distinct vs) (normal_args xs (distinct us)) s b))

    pub wrote_app : single t ≡ false
        → wrote (app t xs) ws (in_brackets (code "N") (spell_pre (normal_pre t (distinct vs)) ++ arg_bytes (normal_args xs (distinct us))))
        ≡ spell (normal (app t xs) (distinct vs))
    unfolding normal
    wrote_app s =
        rw h.is (wrote_type (app t xs) vs ws grows _ (templ_of (single t) (normal_pre t (distinct vs)) (normal_args xs (distinct us)))
        (nested_templ t (distinct vs) (normal_args xs (distinct us)) s))

    pub wrote_app_pre : wrote (app t xs) ws (spell_pre (normal_pre t (distinct vs)) ++ arg_bytes (normal_args xs (distinct us)))
        ≡ spell_pre (normal_pre (app t xs) (distinct vs))
    unfolding normal spell
    wrote_app_pre =
        rw h.is (wrote_pre (app t xs) vs ws grows _ (p_app (normal_pre t (distinct vs)) (normal_args xs (distinct us))) refl)
