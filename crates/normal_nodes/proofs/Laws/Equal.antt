-- The walk with numbers writes the same symbol as the walk.
use Rattle.std.specs.Prelude.{Bool, true, false, not, ◌≡◌, refl, ℕ, zero, suc, eqb}
use mathlib.Core.List.{List, [], ◌∷◌, ◌++◌, append_assoc}
use Rattle.std.proofs.Math.Option.{none}
use Rattle.std.proofs.Common.{ap}
use Prim.Native.Char.{code}
use Rattle.std.proofs.Math.ListN.{length}
use Rattle.grammar.specs.Text.{Text, if◌then◌otherwise◌}
use Rattle.catalogue.specs.Tree.{Ty, Args, letter, wrap, root, sub, app, lit, also, is_lit, is_bare}
use Rattle.catalogue.specs.Spelling.{name_bytes, const_byte}
use Rattle.catalogue.specs.Recogniser.{lead}
use Rattle.normal_walk.specs.Walk.{Walk, Walker, name, walk_type, walk_parts, walk_more, walk_args, walk_types, at_lead, at_end, at_scoped, at_name, at_params}
use Rattle.normal_walk.specs.Walk.{result, walk_enc, walk_sym}
use Rattle.normal_walk.proofs.Laws.Leaves.{begins}
use Rattle.normal_walk.proofs.Laws.Fuel.{if_agree}
use Rattle.normal_nodes.specs.Nodes.{Notes, Noter, Got, note_type, note_parts, note_more, note_args, note_types, note_at_lead, note_at_end}
use Rattle.normal_nodes.specs.Nodes.{note_at_scoped, begun, at_function, note_at_params, symbol_of, note_encoding, note_symbol}
use Rattle.normal_nodes.specs.Laws.Numbers.{Den, forest_none, ext_refl, den_more, tag_bare, tag_lit}
use Rattle.normal_nodes.specs.Laws.Related.{Keeps, keeps_put, keeps_as, Never, Agree, both, alone, neither, agree_here, agree_when, agree_with, agree_if}
use Rattle.normal_nodes.specs.Laws.Related.{agree_next, agree_then, agree_first, agree_no_first, agree_from, agree_onto}
use Rattle.normal_nodes.proofs.Laws.Productions.{behind, Lone, SameType, SameArgs, SameParts, SameMore, arg_same, parts_same, more_same, lead_same}

-- ---------------------------------------------------------------- with the same fuel

record Same (f : ℕ) : Type 0 where
  type : SameType (walk_type f) (note_type f)
  args : SameArgs (walk_args f) (note_args f)
  parts : SameParts (walk_parts f) (note_parts f)
  more : (o : Text) → SameMore o (walk_more f) (λ d l σ. note_more f d l (length o) σ)

no_fuel : Same zero
unfolding walk_type note_type
no_fuel = record {
  type = λ ts o vs k s σ h. neither;
  args = λ ts o vs k s σ h t b d p i. neither;
  parts = λ ts o vs k s σ h from e. neither;
  more = λ o ts w vs k s σ h t d l i b. neither;
}

module _ (f : ℕ) (m : Same f) where
  lead_at : (o : Text) (c from : ℕ) → from ≡ length o → {ts : List Ty} {vs : List Ty} {k : ℕ} {s : Text} {σ : Notes} → Keeps ts o vs k (c ∷ s) σ
      → Agree ts o Den Never
      (at_lead (lead c) c vs k s (λ ws j r. walk_type f ws j r) (λ ws j r. walk_args f ws j r) (λ ws j r. walk_parts f ws j r))
      (note_at_lead (lead c) c from s σ (λ τ. note_type f τ) (λ t τ. note_args f t τ) (λ from τ. note_parts f from τ))
  lead_at o c from e h = rw e (lead_same o _ _ m.type _ _ m.args _ _ m.parts (lead c) c (begins c) h)

  type_at : SameType (walk_type (suc f)) (note_type (suc f))
  unfolding walk_type note_type
  type_at ts o vs k [] σ h = agree_no_first σ.rest _ h.left
  type_at ts o vs k (c ∷ s) σ h = agree_first σ.rest _ c s h.left (lead_at o c (length σ.out) (ap length h.written) h)

  parts_at : SameParts (walk_parts (suc f)) (note_parts (suc f))
  unfolding walk_type note_type
  parts_at ts o vs k [] σ h from e = agree_no_first σ.rest _ h.left
  parts_at ts o vs k (c ∷ s) σ h from e = agree_first σ.rest _ c s h.left (rw e (parts_same o _ _ (m.more o) (lead c) c h))

  more_at : (o : Text) → SameMore o (walk_more (suc f)) (λ d l σ. note_more (suc f) d l (length o) σ)
  unfolding walk_type note_type
  more_at o ts w vs k [] σ h t d l i b = agree_no_first σ.rest _ h.left
  more_at o ts w vs k (c ∷ s) σ h t d l i b =
      agree_first σ.rest _ c s h.left (more_same o _ _ (m.more o) _ _ m.args (eqb c (code "I")) c w h t d l i b)

  args_at : SameArgs (walk_args (suc f)) (note_args (suc f))
  unfolding walk_type note_type
  args_at ts o vs k s σ h t b d p i =
      agree_then _ _ (m.type ts o vs k s σ h)
      (λ x w vs' k' r e τ g. agree_from g.more
      (arg_same o _ _ m.args w g.keeps t b d p (den_more ts g.trees g.more d (behind t b) i) x e g.is))

same : (f : ℕ) → Same f
same zero = no_fuel
same (suc f) =
    let m = same f in
    record { type = type_at f m; args = args_at f m; parts = parts_at f m; more = more_at f m }

-- ---------------------------------------------------------------- whole symbols

-- nothing is said of what is read
abbrev Any : {A B : Type 0} → List Ty → B → A → Type 0
Any ts d x = Unit {0}

abbrev SameTypes : Walker Args → Noter (Unit {0}) → Type 0
SameTypes f g =
    (ts : List Ty) (o : Text) (vs : List Ty) (k : ℕ) (s : Text) (σ : Notes) → Keeps ts o vs k s σ → Agree ts o Any Never (f vs k s) (g σ)

module _ (types : Walker Args) (types' : Noter (Unit {0})) (p : SameTypes types types') {ts : List Ty} (o w : Text) {vs : List Ty} {k : ℕ} {σ : Notes} where
  end_same : (t : Ty) (r s : Text) → Keeps ts (o ++ w) vs k r σ → s ≡ r → Agree ts o Any Never (at_end t w vs k r types) (note_at_end σ s types')
  end_same t [] s h e = rw e (agree_here h tt)
  end_same t (c ∷ r) s h e = rw e (agree_onto w (also t) (ext_refl ts) (p _ _ _ _ _ _ h) (λ us d x i. tt))

  params_same : (c d : Bool) (r s : Text) → Keeps ts (o ++ w) vs k r σ → s ≡ r → d ≡ c
      → Agree ts o Any Never (at_params c w vs k r types) (note_at_params d σ s types')
  params_same c d [] s h e i =
      rw e (agree_when (not c) (not d) (ap not i) (λ b. agree_here h tt))
  params_same c d (x ∷ r) s h e i = rw e (agree_onto w (λ xs. c) (ext_refl ts) (p _ _ _ _ _ _ h) (λ us d x i. tt))

types_same : (f : ℕ) → SameTypes (walk_types f) (note_types f)
unfolding walk_types note_types
types_same zero ts o vs k s σ h = neither
types_same (suc f) ts o vs k s σ h =
    agree_then _ _ ((same f).type ts o vs k s σ h)
    (λ t w vs' k' r d τ g. agree_when (not (is_lit t)) _ (ap not (tag_lit g.keeps.forest d t g.is))
    (λ b. agree_from g.more (end_same _ _ (types_same f) o w t r τ.rest g.keeps g.keeps.left)))

abbrev start : Text
start = code "_" ∷ code "Z" ∷ []

begun_keeps : (w r : Text) → Keeps [] (start ++ w) [] 0 r (begun w r)
begun_keeps w r = record { forest = forest_none; entries = tt; written = refl; counts = refl; left = refl }

lone_bare : (u : Ty) → Lone u → is_bare u ≡ false
lone_bare (letter l) h = absurd h
lone_bare (wrap c t) h = absurd h
lone_bare (root n) h = absurd h
lone_bare (sub t n) h = h
lone_bare (app t xs) h = refl
lone_bare (lit k g v) h = absurd h

abbrev ConstIs : List Ty → Bool → Bool → Type 0
ConstIs ts d c = d ≡ c

module _ (parts : Walker Ty) (parts' : ℕ → Noter ℕ) (p : SameParts parts parts') where
  scoped_same : (c : Bool) (r : Text) (from : ℕ) → from ≡ length (start ++ (code "N" ∷ const_byte c))
      → Agree [] start ConstIs Never (at_scoped c (parts [] 0 r)) (note_at_scoped c (parts' from (begun (code "N" ∷ const_byte c) r)))
  scoped_same c r from e =
      agree_next _ _ (p _ _ _ _ _ _ (begun_keeps (code "N" ∷ const_byte c) r) from e)
      (λ u w vs k r' d τ g. agree_when (is_bare u) _ (tag_bare g.keeps.forest d u g.is.0)
      (λ b. agree_from g.more (agree_here (keeps_as (keeps_put g.keeps (code "E" ∷ [])) _ (simp append_assoc)) refl)))
      (λ u w vs k r' n. rw (lone_bare u n) neither)

  function_same : (s : Text) → Agree [] start ConstIs Never (at_name s parts) (at_function s parts')
  function_same s =
      agree_if (code "N") s s _ _ _ _ refl
      (λ r. agree_if (code "K") r r _ _ _ _ refl (λ r'. scoped_same true r' 4 refl) (scoped_same false r 3 refl))
      (agree_with (name s) (name s) _ _ refl (λ n r e. agree_here (begun_keeps (name_bytes n) r) refl))

encoding_same : (f : ℕ) (s : Text) → Agree [] start Any Never (walk_enc f s) (note_encoding f s)
unfolding walk_enc note_encoding
encoding_same f s =
    agree_then _ _ (function_same _ _ (same f).parts s)
    (λ c w vs k r d σ g. agree_from g.more
    (params_same _ _ (types_same f) start w c d r σ.rest g.keeps g.keeps.left g.is))

result_is : {p : Walk Bool} {q : Got (Unit {0})} → Agree [] start Any Never p q → symbol_of q ≡ result p
unfolding if◌then◌otherwise◌
result_is (both h) = rw (h.keeps.counts, h.keeps.written) refl
result_is (alone h) = absurd h
result_is neither = refl

pub nodes_are_walk : (s : Text) → note_symbol s ≡ walk_sym s
unfolding note_symbol walk_sym
nodes_are_walk s =
    if_agree (code "_") s _ _ none none
    (λ r e. if_agree (code "Z") r _ _ none none (λ r' e'. result_is (encoding_same (suc (length r')) r')) refl) refl
