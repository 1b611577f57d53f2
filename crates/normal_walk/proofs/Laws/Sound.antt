-- What is walked is spelled so: a written type, leading parts or arguments that resolve, and the bytes left.
use Rattle.std.specs.Prelude.{Bool, true, false, not, ◌&&◌, ◌≡◌, refl, ℕ, zero, suc, ◌+◌, eqb}
use mathlib.Core.List.{List, [], ◌∷◌, ◌++◌, append_assoc}
use Rattle.std.proofs.Math.Option.{some}
use Rattle.std.proofs.Common.{sym, ◌∙◌}
use Rattle.std.proofs.Math.Path.{ap}
use Prim.Native.Char.{code}
use native.Mathlib.Omega.{arith}
use Rattle.std.proofs.Math.ListN.{get_elem?}
use Rattle.grammar.specs.Text.{Text}
use Rattle.catalogue.specs.Bytes.{eqb_eq}
use Rattle.catalogue.specs.Tree.{Wrap, Ty, Args, letter, wrap, root, sub, app, one, also, is_class, is_bare, single, wrap_code, kind_code}
use Rattle.catalogue.specs.Spelling.{Sp, Pre, SpArgs, s_letter, s_wrap, s_ref, plain, templ, retempl, nest_sub, nest_app, s_lit, p_ref, p_root, p_sub, p_app}
use Rattle.catalogue.specs.Spelling.{s_one, s_also, ref_digits, name_bytes, minus, spell, spell_pre, spell_args}
use Rattle.catalogue.specs.Class.{name_ok, stands, push, ok, resolve, resolve_pre, resolve_args, number, count, count_pre, count_args}
use Rattle.catalogue.specs.Recogniser.{Lead, lead_letter, lead_wrap, lead_digit, lead_S, lead_N, lead_L, lead_none, lead}
use Rattle.catalogue.proofs.Laws.ReadsBack.{front, inner, inner'}
use Rattle.normal_walk.specs.Walk.{Walker, name, reference, literal, enter_nested, at_lead, at_parts, at_more, at_arg, walk_type, walk_parts, walk_more, walk_args}
use Rattle.normal_walk.specs.Laws.Joins.{Of, of_got, of_bad, of_when, of_with, of_then, of_next, of_choose}
use Rattle.normal_walk.proofs.Laws.Leaves.{name_sound, ref_sound, Literal, lit_sound, Begins, begins}

-- ---------------------------------------------------------------- what a walk found

-- before the bytes s, from the table vs and k arguments
pub record Spelt (vs : List Ty) (k : ℕ) (s : Text) (t : Ty) (w : Text) (ws : List Ty) (j : ℕ) (r : Text) : Type 0 where
  pub written : Sp
  pub spells : spell written ++ r ≡ s
  pub resolves : resolve written vs ≡ ok t ws
  pub counts : j ≡ k + count written

pub record SpeltArgs (vs : List Ty) (k : ℕ) (s : Text) (xs : Args) (w : Text) (ws : List Ty) (j : ℕ) (r : Text) : Type 0 where
  pub written : SpArgs
  pub spells : spell_args written ++ (code "E" ∷ r) ≡ s
  pub resolves : resolve_args written vs ≡ ok xs ws
  pub counts : j ≡ k + (count_args written + number written)

-- leading parts t, and s is left
pub record SpeltPre (vs : List Ty) (k : ℕ) (s₀ : Text) (t : Ty) (ws : List Ty) (j : ℕ) (s : Text) : Type 0 where
  pub written : Pre
  pub spells : spell_pre written ++ s ≡ s₀
  pub resolves : resolve_pre written vs ≡ ok t ws
  pub counts : j ≡ k + count_pre written

-- behind N: leading parts, and one part more or arguments
pub data SpeltClass (vs : List Ty) (k : ℕ) (s₀ : Text) : Ty → Text → List Ty → ℕ → Text → Type 0 where
  ends_part : {t : Ty} {n w : Text} {ws : List Ty} {j : ℕ} {r : Text} → SpeltPre vs k s₀ t ws j (name_bytes n ++ (code "E" ∷ r)) → name_ok n ≡ true
      → SpeltClass vs k s₀ (sub t n) w ws j r
  ends_args : {t : Ty} {xs : Args} {us ws : List Ty} {w : Text} {i j : ℕ} {s r : Text} → SpeltPre vs k s₀ t us i (code "I" ∷ s) → is_bare t ≡ true
      → SpeltArgs us i s xs w ws j (code "E" ∷ r) → {v : Text} → SpeltClass vs k s₀ (app t xs) v ws j r

abbrev pub SoundType : Walker Ty → Type 0
SoundType f = (vs : List Ty) (k : ℕ) (s : Text) → Of (f vs k s) (Spelt vs k s)

abbrev pub SoundArgs : Walker Args → Type 0
SoundArgs f = (vs : List Ty) (k : ℕ) (s : Text) → Of (f vs k s) (SpeltArgs vs k s)

abbrev pub SoundParts : Walker Ty → Type 0
SoundParts f = (vs : List Ty) (k : ℕ) (s : Text) → Of (f vs k s) (SpeltClass vs k s)

abbrev pub SoundMore : (Ty → Text → Walker Ty) → Type 0
SoundMore f = (vs : List Ty) (k : ℕ) (s₀ : Text) (t : Ty) (w : Text) (ws : List Ty) (j : ℕ) (s : Text) → SpeltPre vs k s₀ t ws j s
    → Of (f t w ws j s) (SpeltClass vs k s₀)

-- ---------------------------------------------------------------- types

module _ (vs : List Ty) (k : ℕ) where
  wrap_spelt : (q : Wrap) (s : Text) (t : Ty) (w v : Text) (ws : List Ty) (j : ℕ) (r : Text) → stands q t ≡ true → Spelt vs k s t w ws j r
      → Spelt vs k (wrap_code q ∷ s) (wrap q t) v (push (wrap q t) ws) j r
  unfolding spell resolve count
  wrap_spelt q s t w v ws j r p h = record {
    written = s_wrap q h.written;
    spells = ap (◌∷◌ (wrap_code q)) h.spells;
    resolves = rw h.resolves (rw p refl);
    counts = h.counts;
  }

  plain_spelt : (n s w r : Text) → name_bytes n ++ r ≡ s → name_ok n ≡ true → Spelt vs k s (root n) w (push (root n) vs) k r
  unfolding spell resolve count
  plain_spelt n s w r e p = record { written = plain n; spells = e; resolves = rw p refl; counts = omega arith }

  templ_spelt : (n s w v r r' : Text) (xs : Args) (ws : List Ty) (j : ℕ) → name_bytes n ++ (code "I" ∷ r) ≡ s → name_ok n ≡ true
      → SpeltArgs (push (root n) vs) k r xs w ws j r' → Spelt vs k s (app (root n) xs) v (push (app (root n) xs) ws) j r'
  unfolding spell resolve count
  templ_spelt n s w v r r' xs ws j e p h = record {
    written = templ n h.written;
    spells = front (name_bytes n) (spell_args h.written) r' ∙ rw h.spells e;
    resolves = rw p (rw h.resolves refl);
    counts = h.counts;
  }

  ref_spelt : (i : ℕ) (t : Ty) (s w r : Text) → ref_digits i ++ (code "_" ∷ r) ≡ s → get_elem? vs i ≡ some t → Spelt vs k (code "S" ∷ s) t w vs k r
  unfolding spell resolve count
  ref_spelt i t s w r e g = record {
    written = s_ref i;
    spells = ap (◌∷◌ 83) (append_assoc (ref_digits i) (95 ∷ []) r ∙ e);
    resolves = rw g refl;
    counts = omega arith;
  }

  retempl_spelt : (i : ℕ) (t : Ty) (s w v r r' : Text) (xs : Args) (ws : List Ty) (j : ℕ) → ref_digits i ++ (code "_" ∷ code "I" ∷ r) ≡ s
      → get_elem? vs i ≡ some t → single t && is_bare t ≡ true → SpeltArgs vs k r xs w ws j r'
      → Spelt vs k (code "S" ∷ s) (app t xs) v (push (app t xs) ws) j r'
  unfolding spell resolve count
  retempl_spelt i t s w v r r' xs ws j e g p h = record {
    written = retempl i h.written;
    spells = ap (◌∷◌ 83)
        (front (ref_digits i ++ (95 ∷ [])) (spell_args h.written) r' ∙ append_assoc (ref_digits i) (95 ∷ []) (73 ∷ (spell_args h.written ++ (69 ∷ r')))
        ∙ rw h.spells e);
    resolves = rw g (rw p (rw h.resolves refl));
    counts = h.counts;
  }

  lit_spelt : (s : Text) (t : Ty) (w r : Text) → Literal s t r → Spelt vs k (code "L" ∷ s) t w vs k r
  unfolding spell resolve count
  lit_spelt s t w r h = record {
    written = s_lit h.kind h.neg h.digits;
    spells = ap (λ z. 76 ∷ kind_code h.kind ∷ z) (inner (minus h.neg) h.digits r) ∙ ap (◌∷◌ 76) h.spells;
    resolves = rw h.ok (rw h.is refl);
    counts = omega arith;
  }

  class_spelt : (s : Text) (u : Ty) (w v : Text) (ws : List Ty) (j : ℕ) (r : Text) → not (single u) ≡ true → SpeltClass vs k s u w ws j r
      → Spelt vs k (code "N" ∷ s) u v (enter_nested u ws) j r
  unfolding spell resolve count
  class_spelt s (sub t n) w v ws j r p (ends_part h e) = record {
    written = nest_sub h.written n;
    spells = ap (◌∷◌ 78) (inner (spell_pre h.written) (name_bytes n) r ∙ h.spells);
    resolves = rw h.resolves (rw e refl);
    counts = h.counts;
  }
  class_spelt s (app t xs) w v ws j r p (ends_args h b g) =
      let h' = h.counts in
      let g' = g.counts in
      record {
        written = nest_app h.written g.written;
        spells = ap (◌∷◌ 78) (inner' (spell_pre h.written) (spell_args g.written) r ∙ rw g.spells h.spells);
        resolves = rw h.resolves (rw (p, b) (rw g.resolves refl));
        counts = omega arith;
      }
  class_spelt s (Rattle.catalogue.specs.Tree.lit _ _ _) w v ws j r p x8 = elim x8 [ ]
  class_spelt s (root _) w v ws j r p x5 = elim x5 [ ]
  class_spelt s (wrap _ _) w v ws j r p x5 = elim x5 [ ]
  class_spelt s (letter _) w v ws j r p x3 = elim x3 [ ]

lead_sound : (l : Lead) (c : ℕ) (vs : List Ty) (k : ℕ) (s : Text) (type : Walker Ty) (args : Walker Args) (parts : Walker Ty)
    → Begins l c → SoundType type → SoundArgs args → SoundParts parts → Of (at_lead l c vs k s type args parts) (Spelt vs k (c ∷ s))
unfolding spell resolve count
lead_sound (lead_letter l) c vs k s type args parts b p q m =
    of_got _ (letter l) (c ∷ []) vs k s (record { written = s_letter l; spells = ap (λ d. d ∷ s) (sym b); resolves = refl; counts = omega arith })
lead_sound (lead_wrap d) c vs k s type args parts b p q m =
    of_then _ (Spelt vs k s) (type vs k s) _ (p vs k s)
    (λ t w ws j r h. of_when _ (stands d t) _ (λ e. of_got _ _ _ _ _ r (rw b (wrap_spelt vs k d s t w _ ws j r e h))))
lead_sound lead_digit c vs k s type args parts b p q m =
    of_with _ _ (name (c ∷ s)) _ (name_sound (c ∷ s))
    (λ n r h. of_next _ (code "I") r _ _
    (λ r' e. of_then _ (SpeltArgs (push (root n) vs) k r') (args (push (root n) vs) k r') _ (q (push (root n) vs) k r')
    (λ xs v ws j r'' g. of_got _ _ _ _ _ r'' (templ_spelt vs k n (c ∷ s) v _ r' r'' xs ws j (rw e at h.0) h.1 g)))
    (of_got _ _ _ _ _ r (plain_spelt vs k n (c ∷ s) _ r h.0 h.1)))
lead_sound lead_S c vs k s type args parts b p q m =
    of_with _ _ (reference s) _ (ref_sound s)
    (λ i r h. of_choose _ (get_elem? vs i) _ (λ t a. of_next _ (code "I") r _ _
    (λ r' e. of_when _ (single t && is_bare t) _
    (λ z. of_then _ (SpeltArgs vs k r') (args vs k r') _ (q vs k r')
    (λ xs v ws j r'' g. of_got _ _ _ _ _ r'' (rw b (retempl_spelt vs k i t s v _ r' r'' xs ws j (rw e at h) a z g)))))
    (of_got _ _ _ _ _ r (rw b (ref_spelt vs k i t s _ r h a)))))
lead_sound lead_N c vs k s type args parts b p q m =
    of_then _ (SpeltClass vs k s) (parts vs k s) _ (m vs k s)
    (λ u w ws j r h. of_when _ (not (single u)) _ (λ e. of_got _ _ _ _ _ r (rw b (class_spelt vs k s u w _ ws j r e h))))
lead_sound lead_L c vs k s type args parts b p q m =
    of_with _ _ (literal s) _ (lit_sound s) (λ t r h. of_got _ _ _ _ _ r (rw b (lit_spelt vs k s t _ r h)))
lead_sound lead_none c vs k s type args parts b p q m = of_bad _

-- ---------------------------------------------------------------- classes of more parts

module _ (vs : List Ty) (k : ℕ) (s₀ : Text) where
  sub_spelt : (t : Ty) (n : Text) (ws : List Ty) (j : ℕ) (r : Text) → name_ok n ≡ true → SpeltPre vs k s₀ t ws j (name_bytes n ++ r)
      → SpeltPre vs k s₀ (sub t n) (push (sub t n) ws) j r
  unfolding spell resolve count
  sub_spelt t n ws j r p h = record {
    written = p_sub h.written n;
    spells = append_assoc (spell_pre h.written) (name_bytes n) r ∙ h.spells;
    resolves = rw h.resolves (rw p refl);
    counts = h.counts;
  }

  app_spelt : (t : Ty) (xs : Args) (w : Text) (us ws : List Ty) (i j : ℕ) (s r : Text) → is_bare t ≡ true → SpeltPre vs k s₀ t us i (code "I" ∷ s)
      → SpeltArgs us i s xs w ws j r → SpeltPre vs k s₀ (app t xs) (push (app t xs) ws) j r
  unfolding spell resolve count
  app_spelt t xs w us ws i j s r b h g =
      let h' = h.counts in
      let g' = g.counts in
      record {
        written = p_app h.written g.written;
        spells = front (spell_pre h.written) (spell_args g.written) r ∙ rw g.spells h.spells;
        resolves = rw h.resolves (rw b (rw g.resolves refl));
        counts = omega arith;
      }

root_spelt : (vs : List Ty) (k : ℕ) (s n r : Text) → name_bytes n ++ r ≡ s → name_ok n ≡ true → SpeltPre vs k s (root n) (push (root n) vs) k r
unfolding spell resolve count
root_spelt vs k s n r e p = record { written = p_root n; spells = e; resolves = rw p refl; counts = omega arith }

entry_spelt : (vs : List Ty) (k : ℕ) (i : ℕ) (t : Ty) (s r : Text) → ref_digits i ++ (code "_" ∷ r) ≡ s → get_elem? vs i ≡ some t → is_class t ≡ true
    → SpeltPre vs k (code "S" ∷ s) t vs k r
unfolding spell resolve count
entry_spelt vs k i t s r e g p = record {
  written = p_ref i;
  spells = ap (◌∷◌ 83) (append_assoc (ref_digits i) (95 ∷ []) r ∙ e);
  resolves = rw g (rw p refl);
  counts = omega arith;
}

parts_sound : (l : Lead) (c : ℕ) (vs : List Ty) (k : ℕ) (s : Text) (more : Ty → Text → Walker Ty) → Begins l c → SoundMore more
    → Of (at_parts l c vs k s more) (SpeltClass vs k (c ∷ s))
parts_sound (lead_letter l) c vs k s more b p = of_bad _
parts_sound (lead_wrap d) c vs k s more b p = of_bad _
parts_sound lead_digit c vs k s more b p =
    of_with _ _ (name (c ∷ s)) _ (name_sound (c ∷ s))
    (λ n r h. p vs k (c ∷ s) (root n) _ (push (root n) vs) k r (root_spelt vs k (c ∷ s) n r h.0 h.1))
parts_sound lead_S c vs k s more b p =
    of_with _ _ (reference s) _ (ref_sound s)
    (λ i r h. of_choose _ (get_elem? vs i) _ (λ t a. of_when _ (is_class t) _
    (λ z. p vs k (c ∷ s) t _ vs k r (rw b (entry_spelt vs k i t s r h a z)))))
parts_sound lead_N c vs k s more b p = of_bad _
parts_sound lead_L c vs k s more b p = of_bad _
parts_sound lead_none c vs k s more b p = of_bad _

more_sound : (i : Bool) (c : ℕ) (t : Ty) (w : Text) (ws : List Ty) (j : ℕ) (s : Text) (args : Walker Args) (more : Ty → Text → Walker Ty)
    → eqb c (code "I") ≡ i → SoundArgs args → SoundMore more → (vs : List Ty) (k : ℕ) (s₀ : Text) → SpeltPre vs k s₀ t ws j (c ∷ s)
    → Of (at_more i c t w ws j s args more) (SpeltClass vs k s₀)
more_sound true c t w ws j s args more e q p vs k s₀ h =
    let h' : SpeltPre vs k s₀ t ws j (73 ∷ s) = rw (eqb_eq c 73 e) at h in
    of_when _ (is_bare t) _
    (λ b. of_then _ (SpeltArgs ws j s) (args ws j s) _ (q ws j s)
    (λ xs v us i r g. of_next _ (code "E") r _ _ (λ r' d. of_got _ _ _ _ _ r' (ends_args h' b (rw d at g)))
    (p vs k s₀ (app t xs) _ (push (app t xs) us) i r (app_spelt vs k s₀ t xs v ws us j i s r b h' g))))
more_sound false c t w ws j s args more e q p vs k s₀ h =
    of_with _ _ (name (c ∷ s)) _ (name_sound (c ∷ s))
    (λ n r g. let h' : SpeltPre vs k s₀ t ws j (name_bytes n ++ r) = rw g.0 h in
    of_next _ (code "E") r _ _ (λ r' d. of_got _ _ _ _ _ r' (ends_part (rw d at h') g.1))
    (p vs k s₀ (sub t n) _ (push (sub t n) ws) j r (sub_spelt vs k s₀ t n ws j r g.1 h')))

-- ---------------------------------------------------------------- arguments

one_spelt : (vs : List Ty) (k : ℕ) (s : Text) (t : Ty) (w : Text) (ws : List Ty) (j : ℕ) (r : Text) → Spelt vs k s t w ws j (code "E" ∷ r)
    → SpeltArgs vs k s (one t) w ws (suc j) r
unfolding spell resolve count
one_spelt vs k s t w ws j r h =
    let h' = h.counts in
    record { written = s_one h.written; spells = h.spells; resolves = rw h.resolves refl; counts = omega arith }

also_spelt : (vs : List Ty) (k : ℕ) (s : Text) (t : Ty) (w : Text) (us : List Ty) (j : ℕ) (r : Text) (xs : Args) (v u : Text) (ws : List Ty) (i : ℕ) (r' : Text)
    → Spelt vs k s t w us j r → SpeltArgs us (suc j) r xs v ws i r' → SpeltArgs vs k s (also t xs) u ws i r'
unfolding spell resolve count
also_spelt vs k s t w us j r xs v u ws i r' h g =
    let h' = h.counts in
    let g' = g.counts in
    record {
      written = s_also h.written g.written;
      spells = append_assoc (spell h.written) (spell_args g.written) (69 ∷ r') ∙ rw g.spells h.spells;
      resolves = rw h.resolves (rw g.resolves refl);
      counts = omega arith;
    }

arg_sound : (vs : List Ty) (k : ℕ) (s : Text) (t : Ty) (w : Text) (us : List Ty) (j : ℕ) (r : Text) (args : Walker Args) → SoundArgs args
    → Spelt vs k s t w us j r → Of (at_arg t w us j r args) (SpeltArgs vs k s)
arg_sound vs k s t w us j r args q h =
    of_next _ (code "E") r _ _ (λ r' e. of_got _ _ _ _ _ r' (one_spelt vs k s t w us j r' (rw e at h)))
    (of_then _ (SpeltArgs us (suc j) r) (args us (suc j) r) _ (q us (suc j) r)
    (λ xs v ws i r' g. of_got _ _ _ _ _ r' (also_spelt vs k s t w us j r xs v _ ws i r' h g)))

-- ---------------------------------------------------------------- every walk

mutual
  unfolding walk_type

  pub type_sound : (f : ℕ) → SoundType (walk_type f)
  type_sound zero vs k s = of_bad _
  type_sound (suc f) vs k [] = of_bad _
  type_sound (suc f) vs k (c ∷ s) =
      lead_sound (lead c) c vs k s _ _ _ (begins c) (λ us j r. type_sound f us j r) (λ us j r. args_sound f us j r) (λ us j r. class_sound f us j r)

  pub class_sound : (f : ℕ) → SoundParts (walk_parts f)
  class_sound zero vs k s = of_bad _
  class_sound (suc f) vs k [] = of_bad _
  class_sound (suc f) vs k (c ∷ s) =
      parts_sound (lead c) c vs k s _ (begins c) (λ us i s₀ t w ws j r h. loop_sound f us i s₀ t w ws j r h)

  pub loop_sound : (f : ℕ) → SoundMore (walk_more f)
  loop_sound zero vs k s₀ t w ws j s h = of_bad _
  loop_sound (suc f) vs k s₀ t w ws j [] h = of_bad _
  loop_sound (suc f) vs k s₀ t w ws j (c ∷ s) h =
      more_sound (eqb c (code "I")) c t w ws j s _ _ refl (λ us i r. args_sound f us i r)
      (λ us i s₁ u v xs l r g. loop_sound f us i s₁ u v xs l r g) vs k s₀ h

  pub args_sound : (f : ℕ) → SoundArgs (walk_args f)
  args_sound zero vs k s = of_bad _
  args_sound (suc f) vs k s =
      of_then _ (Spelt vs k s) (walk_type f vs k s) _ (type_sound f vs k s)
      (λ t w us j r h. arg_sound vs k s t w us j r _ (λ ws i r'. args_sound f ws i r') h)
