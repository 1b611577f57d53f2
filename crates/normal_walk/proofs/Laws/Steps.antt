-- The walk one step at a time: by the first byte, and before what is spelled.
use Rattle.std.specs.Prelude.{Bool, true, false, not, ◌&&◌, List, [], ◌∷◌, ◌++◌, ◌≡◌, refl, ℕ, suc, ◌+◌, ◌≤◌, ◌<◌, eqb, length}
use Rattle.std.proofs.lemmas.Bool.{false≢true}
use Rattle.std.proofs.Common.{append_assoc, ◌∙◌, ap, arith}
use Rattle.std.proofs.Math.Option.{none, some}
use Prim.Native.Char.{code}
use Rattle.std.proofs.Math.ListN.{get_elem?}
use Rattle.grammar.specs.Text.{Text, if◌then◌otherwise◌, choose, digit, digit_value}
use Rattle.catalogue.specs.Bytes.{all, first, and_left}
use Rattle.catalogue.specs.Laws.Bytes.{or_left}
use Rattle.catalogue.specs.Tree.{Letter, Wrap, Kind, Ty, Args, letter, wrap, root, sub, lit, is_class, is_bare, single, kind_code}
use Rattle.catalogue.specs.Spelling.{ref_digits, ref_bytes, length_digits, name_bytes, minus}
use Rattle.catalogue.specs.Class.{name_ok, lit_ok, stands, push}
use Rattle.catalogue.specs.Laws.Numbers.{Some}
use Rattle.catalogue.specs.Recogniser.{rd, if_next, lead_letter, lead_wrap, lead_digit, lead_S, lead_N, lead_L, lead}
use Rattle.catalogue.proofs.Laws.ReadsBack.{lead_digit_is, digit_IE, digits_all, digits_some}
use Rattle.normal_walk.specs.Walk.{Walk, got, bad, Walker, next, when, with, name, reference, literal, wrote, in_brackets, with_args, enter}
use Rattle.normal_walk.specs.Walk.{enter_nested, lit_bytes, end_or, at_scoped, at_name, at_params, at_enc, result, walk_parts, walk_enc, walk_sym}
use Rattle.normal_walk.specs.Laws.Joins.{Of, of_got, of_when, of_with, of_then, of_next, of_map}
use Rattle.normal_walk.proofs.Laws.Leaves.{name_spelled, ref_spelled, lit_spelled}
use Rattle.normal_walk.proofs.Laws.Fewer.{Fewer, Shrinks, name_fewer, parts_fewer}
use Rattle.normal_walk.proofs.Laws.Fuel.{walked, walked_parts, walked_more, walked_args, walked_types, walked_is, parts_is, more_is, parts_fuel}
use Rattle.normal_walk.proofs.Laws.Fuel.{types_fuel, next_agree, if_agree}

-- ---------------------------------------------------------------- by the first byte

module _ (vs : List Ty) (k c : ℕ) (s : Text) where
  pub walked_letter : (l : Letter) → lead c ≡ lead_letter l → walked vs k (c ∷ s) ≡ got (letter l) (c ∷ []) vs k s
  walked_letter l h = walked_is vs k c s ∙ rw h refl

  pub walked_wrap : (q : Wrap) → lead c ≡ lead_wrap q
      → walked vs k (c ∷ s) ≡ next (walked vs k s) (λ t w vs' k' r. when (stands q t) (enter (wrap q t) (c ∷ w) vs' k' r))
  walked_wrap q h = walked_is vs k c s ∙ rw h refl

  pub walked_digit : lead c ≡ lead_digit
      → walked vs k (c ∷ s)
      ≡ with (name (c ∷ s)) (λ n r.
      if_next (code "I") r (λ r'. with_args (root n) (wrote (root n) vs (name_bytes n)) (walked_args (push (root n) vs) k r') enter)
      (enter (root n) (name_bytes n) vs k r))
  walked_digit h = walked_is vs k c s ∙ rw h refl

  pub walked_S : lead c ≡ lead_S
      → walked vs k (c ∷ s)
      ≡ with (reference s) (λ i r. choose (get_elem? vs i) (λ t.
      if_next (code "I") r (λ r'. when (single t && is_bare t) (with_args t (wrote t vs []) (walked_args vs k r') enter))
      (got t (wrote t vs []) vs k r)) bad)
  walked_S h = walked_is vs k c s ∙ rw h refl

  pub walked_N : lead c ≡ lead_N
      → walked vs k (c ∷ s)
      ≡ next (walked_parts vs k s) (λ u w vs' k' r. when (not (single u)) (got u (wrote u vs' (in_brackets c w)) (enter_nested u vs') k' r))
  walked_N h = walked_is vs k c s ∙ rw h refl

  pub walked_L : lead c ≡ lead_L → walked vs k (c ∷ s) ≡ with (literal s) (λ t r. got t (lit_bytes t) vs k r)
  walked_L h = walked_is vs k c s ∙ rw h refl

  pub parts_digit : lead c ≡ lead_digit
      → walked_parts vs k (c ∷ s) ≡ with (name (c ∷ s)) (λ n r. walked_more (root n) (wrote (root n) vs (name_bytes n)) (push (root n) vs) k r)
  parts_digit h = parts_is vs k c s ∙ rw h refl

  pub parts_S : lead c ≡ lead_S
      → walked_parts vs k (c ∷ s)
      ≡ with (reference s) (λ i r. choose (get_elem? vs i) (λ t. when (is_class t) (walked_more t (wrote t vs []) vs k r)) bad)
  parts_S h = parts_is vs k c s ∙ rw h refl

  module _ (t : Ty) (w : Text) where
    pub more_I : eqb c (code "I") ≡ true → walked_more t w vs k (c ∷ s) ≡ when (is_bare t) (with_args t w (walked_args vs k s) (end_or walked_more))
    more_I h = more_is vs k t w c s ∙ rw h refl

    pub more_digit : eqb c (code "I") ≡ false
        → walked_more t w vs k (c ∷ s) ≡ with (name (c ∷ s)) (λ n r. end_or walked_more (sub t n) (w ++ name_bytes n) vs k r)
    more_digit h = more_is vs k t w c s ∙ rw h refl

-- ---------------------------------------------------------------- before what is spelled

starts_digit : (d s : Text) → Some d → all (digit 10) d ≡ true → first (digit 10) (d ++ s) ≡ true
starts_digit [] s h e = absurd h
starts_digit (c ∷ d) s h e = and_left (digit 10 c) (all (digit 10) d) e

name_digit : (n r : Text) → first (digit 10) (name_bytes n ++ r) ≡ true
name_digit n r = rw (append_assoc (length_digits n) n r) (starts_digit (length_digits n) (n ++ r) (digits_some n) (digits_all n))

module _ (vs : List Ty) (k : ℕ) (n r : Text) (p : name_ok n ≡ true) where
  pub walked_name : walked vs k (name_bytes n ++ r)
      ≡ if_next (code "I") r (λ r'. with_args (root n) (wrote (root n) vs (name_bytes n)) (walked_args (push (root n) vs) k r') enter)
      (enter (root n) (name_bytes n) vs k r)
  walked_name = go (name_bytes n ++ r) (name_digit n r) (name_spelled n r p)
    where
      go : (s : Text) → first (digit 10) s ≡ true → name s ≡ rd n r
          → walked vs k s ≡ if_next (code "I") r (λ r'. with_args (root n) (wrote (root n) vs (name_bytes n)) (walked_args (push (root n) vs) k r') enter)
          (enter (root n) (name_bytes n) vs k r)
      go [] h e = absurd (false≢true h)
      go (c ∷ s) h e = walked_digit vs k c s (lead_digit_is c h) ∙ rw e refl

  pub parts_name : walked_parts vs k (name_bytes n ++ r) ≡ walked_more (root n) (wrote (root n) vs (name_bytes n)) (push (root n) vs) k r
  parts_name = go (name_bytes n ++ r) (name_digit n r) (name_spelled n r p)
    where
      go : (s : Text) → first (digit 10) s ≡ true → name s ≡ rd n r
          → walked_parts vs k s ≡ walked_more (root n) (wrote (root n) vs (name_bytes n)) (push (root n) vs) k r
      go [] h e = absurd (false≢true h)
      go (c ∷ s) h e = parts_digit vs k c s (lead_digit_is c h) ∙ rw e refl

  pub more_name : (t : Ty) (w : Text) → walked_more t w vs k (name_bytes n ++ r) ≡ end_or walked_more (sub t n) (w ++ name_bytes n) vs k r
  more_name t w = go (name_bytes n ++ r) (name_digit n r) (name_spelled n r p)
    where
      go : (s : Text) → first (digit 10) s ≡ true → name s ≡ rd n r
          → walked_more t w vs k s ≡ end_or walked_more (sub t n) (w ++ name_bytes n) vs k r
      go [] h e = absurd (false≢true h)
      go (c ∷ s) h e = more_digit vs k c s t w (or_left (eqb c 73) (eqb c 69) (digit_IE c h)) ∙ rw e refl

pub lead_S_is : lead (code "S") ≡ lead_S
unfolding lead digit digit_value if◌then◌otherwise◌
lead_S_is = refl

pub lead_N_is : lead (code "N") ≡ lead_N
unfolding lead digit digit_value if◌then◌otherwise◌
lead_N_is = refl

pub lead_L_is : lead (code "L") ≡ lead_L
unfolding lead digit digit_value if◌then◌otherwise◌
lead_L_is = refl

module _ (vs : List Ty) (k i : ℕ) (r : Text) (t : Ty) (e : get_elem? vs i ≡ some t) where
  pub walked_ref : walked vs k (ref_bytes i ++ r)
      ≡ if_next (code "I") r (λ r'. when (single t && is_bare t) (with_args t (wrote t vs []) (walked_args vs k r') enter)) (got t (wrote t vs []) vs k r)
  unfolding choose
  walked_ref =
      walked_S vs k (code "S") ((ref_digits i ++ (code "_" ∷ [])) ++ r) lead_S_is
      ∙ rw (append_assoc (ref_digits i) (95 ∷ []) r, ref_spelled i r) (rw e refl)

  pub parts_ref : is_class t ≡ true → walked_parts vs k (ref_bytes i ++ r) ≡ walked_more t (wrote t vs []) vs k r
  unfolding choose
  parts_ref p =
      parts_S vs k (code "S") ((ref_digits i ++ (code "_" ∷ [])) ++ r) lead_S_is
      ∙ rw (append_assoc (ref_digits i) (95 ∷ []) r, ref_spelled i r) (rw e (rw p refl))

pub walked_lit : (vs : List Ty) (j : ℕ) (k : Kind) (g : Bool) (v r : Text) → lit_ok k g v ≡ true
    → walked vs j (code "L" ∷ (kind_code k ∷ (minus g ++ (v ++ (code "E" ∷ r))))) ≡ got (lit k g v) (lit_bytes (lit k g v)) vs j r
walked_lit vs j k g v r p =
    walked_L vs j (code "L") (kind_code k ∷ (minus g ++ (v ++ (code "E" ∷ r)))) lead_L_is ∙ rw (lit_spelled k g v r p) refl

-- ---------------------------------------------------------------- fewer bytes are left

pub walked_parts_fewer : Shrinks walked_parts
unfolding walked_parts
walked_parts_fewer vs k s = parts_fewer (length s) vs k s

-- ---------------------------------------------------------------- whole symbols

-- behind _Z
abbrev pub walked_enc : Text → Walk Bool
walked_enc s = at_enc s walked_parts walked_types

name_agree : (s : Text) (parts parts' : Walker Ty) → ((r : Text) → length r < length s → parts [] 0 r ≡ parts' [] 0 r)
    → at_name s parts ≡ at_name s parts'
name_agree s parts parts' h =
    if_agree (code "N") s _ _ _ _
    (λ r e. let e' = ap length e in
    if_agree (code "K") r _ _ _ _ (λ r' d. let d' = ap length d in ap (at_scoped true) (h r' (omega arith))) (ap (at_scoped false) (h r (omega arith)))) refl

scoped_left : (n : ℕ) (c : Bool) (o : Walk Ty) → Of o (Fewer n) → Of (at_scoped c o) (Fewer n)
scoped_left n c o h = of_then _ (Fewer n) o _ h (λ u w vs k r l. of_when _ (is_bare u) _ (λ e. of_got _ _ _ _ _ r l))

pub name_left : (s : Text) → Of (at_name s walked_parts) (Fewer (length s))
name_left s =
    of_next _ (code "N") s _ _
    (λ r e. let e' = ap length e in
    of_next _ (code "K") r _ _
    (λ r' d. let d' = ap length d in
    scoped_left (length s) true _ (of_map _ (Fewer (length r')) _ (λ x w vs k q l. omega arith) (walked_parts_fewer [] 0 r')))
    (scoped_left (length s) false _ (of_map _ (Fewer (length r)) _ (λ x w vs k q l. omega arith) (walked_parts_fewer [] 0 r))))
    (of_with _ (λ n r. length r + 2 ≤ length s) (name s) _ (name_fewer s) (λ n r l. of_got _ _ _ _ _ r (omega arith)))

params_agree : (c : Bool) (w : Text) (vs : List Ty) (k : ℕ) (r : Text) (types types' : Walker Args) → types vs k r ≡ types' vs k r
    → at_params c w vs k r types ≡ at_params c w vs k r types'
params_agree c w vs k [] types types' h = refl
params_agree c w vs k (d ∷ r) types types' h = rw h refl

pub enc_is : (s : Text) → walk_enc (suc (length s)) s ≡ walked_enc s
unfolding walk_enc walked_parts walked_types
enc_is s =
    rw (name_agree s (λ vs k r. walk_parts (suc (length s)) vs k r) walked_parts
    (λ r l. parts_fuel (suc (length s)) (length r) [] 0 r (omega arith) (omega arith)))
    (next_agree (Fewer (length s)) (at_name s walked_parts) _ _ (name_left s)
    (λ c w vs k r l. params_agree c w vs k r _ _ (types_fuel (suc (length s)) (suc (length r)) vs k r (omega arith) (omega arith))))

pub sym_is : (s : Text) → walk_sym s ≡ if_next (code "_") s (λ r. if_next (code "Z") r (λ r'. result (walked_enc r')) none) none
unfolding walk_sym
sym_is s = if_agree (code "_") s _ _ _ _ (λ r e. if_agree (code "Z") r _ _ _ _ (λ r' d. ap result (enc_is r')) refl) refl
