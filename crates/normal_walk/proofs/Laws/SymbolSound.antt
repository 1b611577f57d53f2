-- A symbol for which the walk writes something is a catalogue symbol.
use Rattle.std.specs.Prelude.{Bool, true, false, not, List, [], ◌∷◌, ◌++◌, ◌≡◌, refl, ℕ, zero, suc, ◌+◌, eqb, leb, length}
use Rattle.std.proofs.lemmas.Bool.{false≢true}
use Rattle.std.proofs.Common.{append_assoc, append-nil, sym, ◌∙◌, ap, arith, leb-true}
use Rattle.std.proofs.Math.Option.{Option, none, some}
use Prim.Native.Char.{code}
use Rattle.grammar.specs.Text.{Text, if◌then◌otherwise◌}
use Rattle.catalogue.specs.Bytes.{eqb_eq, and_both}
use Rattle.catalogue.specs.Laws.Bytes.{or_true}
use Rattle.catalogue.specs.Tree.{Ty, Args, Enc, root, sub, app, enc, is_lit, is_bare}
use Rattle.catalogue.specs.Spelling.{SpArgs, SpName, Sym, s_one, s_also, flat, scoped, symbol, name_bytes, const_byte, spell, spell_pre, spell_args, spell_name, spell_sym}
use Rattle.catalogue.specs.Class.{name_ok, all_types, ok, resolve, resolve_args, resolve_name, resolve_params, resolve_sym, is_const, count, count_args}
use Rattle.catalogue.specs.Class.{count_name, count_sym, most_arguments, Catalogue}
use Rattle.catalogue.specs.Recogniser.{if_next}
use Rattle.catalogue.proofs.Laws.ReadsBack.{inner}
use Rattle.catalogue.proofs.Laws.Decision.{valid_of}
use Rattle.normal_walk.specs.Walk.{Walk, got, bad, Walker, name, at_end, at_scoped, at_name, at_params, result, walk_type, walk_parts, walk_types, walk_enc, walk_sym}
use Rattle.normal_walk.specs.Laws.Joins.{Of, of_got, of_bad, of_when, of_with, of_then, of_next}
use Rattle.normal_walk.proofs.Laws.Leaves.{name_sound}
use Rattle.normal_walk.proofs.Laws.Sound.{Spelt, SpeltClass, ends_part, ends_args, SoundParts, type_sound, class_sound}

-- ---------------------------------------------------------------- types to the end

record SpeltTypes (vs : List Ty) (k : ℕ) (s : Text) (xs : Args) (w : Text) (ws : List Ty) (j : ℕ) (r : Text) : Type 0 where
  written : SpArgs
  spells : spell_args written ≡ s
  resolves : resolve_args written vs ≡ ok xs ws
  types : all_types xs ≡ true
  counts : j ≡ k + count_args written

abbrev SoundTypes : Walker Args → Type 0
SoundTypes f = (vs : List Ty) (k : ℕ) (s : Text) → Of (f vs k s) (SpeltTypes vs k s)

end_sound : (vs : List Ty) (k : ℕ) (s : Text) (t : Ty) (w : Text) (us : List Ty) (j : ℕ) (r : Text) (types : Walker Args) → SoundTypes types
    → not (is_lit t) ≡ true → Spelt vs k s t w us j r → Of (at_end t w us j r types) (SpeltTypes vs k s)
unfolding spell resolve count
end_sound vs k s t w us j [] types q p h =
    of_got _ _ _ _ _ [] (record {
      written = s_one h.written;
      spells = sym (append-nil (spell h.written)) ∙ h.spells;
      resolves = rw h.resolves refl;
      types = p;
      counts = h.counts;
    })
end_sound vs k s t w us j (c ∷ r) types q p h =
    of_then _ (SpeltTypes us j (c ∷ r)) (types us j (c ∷ r)) _ (q us j (c ∷ r))
    (λ xs v ws i r' g. let h' = h.counts in let g' = g.counts in
    of_got _ _ _ _ _ r' (record {
      written = s_also h.written g.written;
      spells = rw g.spells h.spells;
      resolves = rw h.resolves (rw g.resolves refl);
      types = and_both (not (is_lit t)) (all_types xs) p g.types;
      counts = omega arith;
    }))

types_sound : (f : ℕ) → SoundTypes (walk_types f)
unfolding walk_types
types_sound zero vs k s = of_bad _
types_sound (suc f) vs k s =
    of_then _ (Spelt vs k s) (walk_type f vs k s) _ (type_sound f vs k s)
    (λ t w us j r h. of_when _ (not (is_lit t)) _ (λ p. end_sound vs k s t w us j r _ (λ ws i r'. types_sound f ws i r') p h))

-- ---------------------------------------------------------------- the function's name

record SpeltName (s : Text) (c : Bool) (w : Text) (us : List Ty) (j : ℕ) (r : Text) : Type 0 where
  written : SpName
  tree : Ty
  const : is_const written ≡ c
  spells : spell_name written ++ r ≡ s
  resolves : resolve_name written ≡ ok tree us
  counts : j ≡ count_name written

-- behind N, or N and K
scoped_spelt : (c : Bool) (s : Text) (u : Ty) (w v : Text) (us : List Ty) (j : ℕ) (r : Text) → is_bare u ≡ true → SpeltClass [] 0 s u w us j r
    → SpeltName (code "N" ∷ (const_byte c ++ s)) c v us j r
unfolding resolve_name
scoped_spelt c s (sub t n) w v us j r b (ends_part h p) =
    let h' = h.counts in
    record {
      written = scoped c h.written n;
      tree = sub t n;
      const = refl;
      spells = ap (◌∷◌ 78)
          (append_assoc (const_byte c) (spell_pre h.written ++ (name_bytes n ++ (69 ∷ []))) r
          ∙ ap (λ z. const_byte c ++ z) (inner (spell_pre h.written) (name_bytes n) r ∙ h.spells));
      resolves = rw h.resolves (rw p refl);
      counts = omega arith;
    }
scoped_spelt c s (app t xs) w v us j r b (ends_args h p g) = absurd (false≢true b)
scoped_spelt c s (Rattle.catalogue.specs.Tree.lit _ _ _) w v us j r b x8 = elim x8 [ ]
scoped_spelt c s (root _) w v us j r b x5 = elim x5 [ ]
scoped_spelt c s (Rattle.catalogue.specs.Tree.wrap _ _) w v us j r b x5 = elim x5 [ ]
scoped_spelt c s (Rattle.catalogue.specs.Tree.letter _) w v us j r b x3 = elim x3 [ ]

scoped_sound : (c : Bool) (s : Text) (o : Walk Ty) → Of o (SpeltClass [] 0 s) → Of (at_scoped c o) (SpeltName (code "N" ∷ (const_byte c ++ s)))
scoped_sound c s o h =
    of_then _ (SpeltClass [] 0 s) o _ h (λ u w vs k r g. of_when _ (is_bare u) _ (λ b. of_got _ _ _ _ _ r (scoped_spelt c s u w _ vs k r b g)))

flat_spelt : (s n w r : Text) → name_bytes n ++ r ≡ s → name_ok n ≡ true → SpeltName s false w [] 0 r
unfolding resolve_name
flat_spelt s n w r e p = record { written = flat n; tree = root n; const = refl; spells = e; resolves = rw p refl; counts = refl }

name_spelt : (s : Text) (parts : Walker Ty) → SoundParts parts → Of (at_name s parts) (SpeltName s)
name_spelt s parts q =
    of_next _ (code "N") s _ _
    (λ r e. rw e (of_next _ (code "K") r _ _
    (λ r' d. rw d (scoped_sound true r' (parts [] 0 r') (q [] 0 r')))
    (scoped_sound false r (parts [] 0 r) (q [] 0 r))))
    (of_with _ _ (name s) _ (name_sound s) (λ n r h. of_got _ _ _ _ _ r (flat_spelt s n _ r h.0 h.1)))

-- ---------------------------------------------------------------- whole symbols

record SpeltSym (s : Text) (c : Bool) (w : Text) (vs : List Ty) (j : ℕ) (r : Text) : Type 0 where
  written : Sym
  tree : Enc
  spells : spell_sym written ≡ code "_" ∷ code "Z" ∷ s
  resolves : resolve_sym written ≡ ok tree vs
  counts : j ≡ count_sym written

params_spelt : (s : Text) (c : Bool) (w v : Text) (us : List Ty) (j : ℕ) (r : Text) (types : Walker Args) → SoundTypes types
    → SpeltName s c w us j r → Of (at_params c v us j r types) (SpeltSym s)
unfolding resolve_sym resolve_params spell_sym count_sym
params_spelt s c w v us j [] types q h =
    of_when _ (not c) _ (λ p. let h' = h.counts in
    of_got _ _ _ _ _ [] (record {
      written = symbol h.written none;
      tree = enc c h.tree none;
      spells = ap (λ z. 95 ∷ 90 ∷ z) h.spells;
      resolves = rw (h.const, p) (rw h.resolves refl);
      counts = omega arith;
    }))
params_spelt s c w v us j (d ∷ r) types q h =
    of_then _ (SpeltTypes us j (d ∷ r)) (types us j (d ∷ r)) _ (q us j (d ∷ r))
    (λ xs u ws i r' g. let h' = h.counts in let g' = g.counts in
    of_got _ _ _ _ _ r' (record {
      written = symbol h.written (some g.written);
      tree = enc c h.tree (some xs);
      spells = ap (λ z. 95 ∷ 90 ∷ z) (rw g.spells h.spells);
      resolves = rw (h.const, or_true (not c)) (rw h.resolves (rw g.resolves (rw g.types refl)));
      counts = omega arith;
    }))

enc_sound : (f : ℕ) (s : Text) → Of (walk_enc f s) (SpeltSym s)
unfolding walk_enc
enc_sound f s =
    of_then _ (SpeltName s) (at_name s (λ vs k r. walk_parts f vs k r)) _ (name_spelt s _ (λ vs k r. class_sound f vs k r))
    (λ c w vs k r h. params_spelt s c w w vs k r _ (λ us j r'. types_sound f us j r') h)

none_some : {A : Type 0} (v : A) → none ≡ some v → ⊥
none_some v p = let z : ◌≡◌ {A = ℕ} 0 1 = cc in omega arith

-- where a byte must come next, it does
next_some : (P : Text → Type 0) (c : ℕ) (s : Text) (f : Text → Option Text) {v : Text} → ((r : Text) → f r ≡ some v → P (c ∷ r))
    → if_next c s f none ≡ some v → P s
unfolding if◌then◌otherwise◌
next_some P c [] f {v} h e = absurd (none_some v e)
next_some P c (d ∷ s) f {v} h e = go (eqb d c) refl e
  where
    go : (p : Bool) → eqb d c ≡ p → (if p then f s otherwise none) ≡ some v → P (d ∷ s)
    go true i q = rw (eqb_eq d c i) (h s q)
    go false i q = absurd (none_some v q)

result_sound : (s : Text) (o : Walk Bool) (v : Text) → Of o (SpeltSym s) → result o ≡ some v → Catalogue (code "_" ∷ code "Z" ∷ s)
unfolding Of if◌then◌otherwise◌
result_sound s bad v h e = absurd (none_some v e)
result_sound s (got c w vs k r) v h e = go (leb k most_arguments) refl e
  where
    go : (p : Bool) → leb k most_arguments ≡ p → (if p then some (95 ∷ 90 ∷ w) otherwise none) ≡ some v → Catalogue (95 ∷ 90 ∷ s)
    go true d q = record {
      written = h.written;
      tree = h.tree;
      table = vs;
      spells = h.spells;
      holds = valid_of h.written h.tree vs h.resolves (rw h.counts at (leb-true k most_arguments d));
    }
    go false d q = absurd (none_some v q)

-- where the walk writes something, the text is a catalogue symbol
pub walk_sound : (s v : Text) → walk_sym s ≡ some v → Catalogue s
unfolding walk_sym
walk_sound s v h =
    next_some Catalogue (code "_") s _
    (λ r. next_some (λ q. Catalogue (code "_" ∷ q)) (code "Z") r _
    (λ r'. result_sound r' (walk_enc (suc (length r')) r') v (enc_sound (suc (length r')) r'))) h
