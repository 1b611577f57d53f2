-- Every walk leaves fewer bytes than are before it.
use Rattle.std.specs.Prelude.{Bool, true, false, not, ◌&&◌, List, [], ◌∷◌, ◌++◌, ℕ, zero, suc, ◌+◌, ◌≤◌, ◌<◌, eqb, length}
use Rattle.std.proofs.Common.{ap, arith, length-append}
use Prim.Native.Char.{code}
use Rattle.std.proofs.Math.ListN.{get_elem?}
use Rattle.grammar.specs.Text.{Text}
use Rattle.catalogue.specs.Tree.{Ty, Args, letter, root, sub, app, is_class, is_bare, single}
use Rattle.catalogue.specs.Spelling.{name_bytes}
use Rattle.catalogue.specs.Class.{stands, push}
use Rattle.catalogue.specs.Recogniser.{Lead, lead_letter, lead_wrap, lead_digit, lead_S, lead_N, lead_L, lead_none, lead}
use Rattle.catalogue.proofs.Laws.ReadsBack.{name_long}
use Rattle.normal_walk.specs.Walk.{Walk, Walker, name, reference, literal, wrote, in_brackets, with_args, enter, end_or, at_lead, at_parts, at_more}
use Rattle.normal_walk.specs.Walk.{at_arg, walk_type, walk_parts, walk_more, walk_args}
use Rattle.normal_walk.specs.Laws.Joins.{OfRd, rd_map, Claim, Of, of_got, of_bad, of_when, of_with, of_then, of_next, of_choose, of_map}
use Rattle.normal_walk.proofs.Laws.Leaves.{name_sound, ref_sound, lit_sound}

-- ---------------------------------------------------------------- leaves leave fewer bytes

pub name_fewer : (s : Text) → OfRd (name s) (λ n r. length r + 2 ≤ length s)
name_fewer s = rd_map _ _ (name s) (λ n r h. rw (← h.0) (name_long n r h.1)) (name_sound s)

pub ref_fewer : (s : Text) → OfRd (reference s) (λ i r. length r < length s)
ref_fewer s = rd_map _ _ (reference s) (λ i r h. rw (← h) (simp length-append (omega arith))) (ref_sound s)

pub lit_fewer : (s : Text) → OfRd (literal s) (λ t r. length r < length s)
lit_fewer s = rd_map _ _ (literal s) (λ t r h. rw (← h.spells) (simp length-append (omega arith))) (lit_sound s)

-- ---------------------------------------------------------------- walks leave fewer bytes

-- fewer than n bytes are left
abbrev pub Fewer : {A : Type 0} → ℕ → Claim A
Fewer n x w vs k r = length r < n

-- a walk leaves fewer bytes than are before it
abbrev pub Shrinks : {A : Type 0} → Walker A → Type 0
Shrinks {A} f = (vs : List Ty) (k : ℕ) (s : Text) → Of (f vs k s) (Fewer (length s))

abbrev pub ShrinksMore : (Ty → Text → Walker Ty) → Type 0
ShrinksMore f = (t : Ty) (w : Text) → Shrinks (f t w)

cut_one : {A : Type 0} (m n : ℕ) (o : Walk A) → m ≤ n → Of o (Fewer m) → Of o (Fewer n)
cut_one m n o h p = of_map (Fewer n) (Fewer m) o (λ x w vs k r l. omega arith) p

with_args_fewer : (t : Ty) (w : Text) (n : ℕ) (o : Walk Args) (f : Ty → Text → Walker Ty) → Of o (Fewer n)
    → ((u : Ty) (v : Text) (vs : List Ty) (k : ℕ) (r : Text) → length r < n → Of (f u v vs k r) (Fewer n)) → Of (with_args t w o f) (Fewer n)
with_args_fewer t w n o f h g = of_then (Fewer n) (Fewer n) o _ h (λ xs v vs k r l. g (app t xs) (w ++ in_brackets (code "I") v) vs k r l)

lead_fewer : (l : Lead) (c : ℕ) (vs : List Ty) (k : ℕ) (s : Text) (type : Walker Ty) (args : Walker Args) (parts : Walker Ty)
    → Shrinks type → Shrinks args → Shrinks parts → Of (at_lead l c vs k s type args parts) (Fewer (suc (length s)))
lead_fewer (lead_letter l) c vs k s type args parts p q m = of_got _ (letter l) (c ∷ []) vs k s (omega arith)
lead_fewer (lead_wrap d) c vs k s type args parts p q m =
    of_then _ (Fewer (length s)) (type vs k s) _ (p vs k s)
    (λ t w vs' k' r h. of_when _ (stands d t) _ (λ e. of_got _ _ _ _ _ r (omega arith)))
lead_fewer lead_digit c vs k s type args parts p q m =
    of_with _ (λ n r. length r + 2 ≤ suc (length s)) (name (c ∷ s)) _ (name_fewer (c ∷ s))
    (λ n r h. of_next _ (code "I") r _ _
    (λ r' e. let e' = ap length e in
    with_args_fewer (root n) (wrote (root n) vs (name_bytes n)) (suc (length s)) (args (push (root n) vs) k r') enter
    (cut_one (length r') (suc (length s)) _ (omega arith) (q (push (root n) vs) k r')) (λ u v ws k' r'' l. of_got _ _ _ _ _ r'' l))
    (of_got _ _ _ _ _ r (omega arith)))
lead_fewer lead_S c vs k s type args parts p q m =
    of_with _ (λ i r. length r < length s) (reference s) _ (ref_fewer s)
    (λ i r h. of_choose _ (get_elem? vs i) _ (λ t a. of_next _ (code "I") r _ _
    (λ r' e. let e' = ap length e in
    of_when _ (single t && is_bare t) _ (λ b. with_args_fewer t (wrote t vs []) (suc (length s)) (args vs k r') enter
    (cut_one (length r') (suc (length s)) _ (omega arith) (q vs k r')) (λ u v ws k' r'' l. of_got _ _ _ _ _ r'' l)))
    (of_got _ _ _ _ _ r (omega arith))))
lead_fewer lead_N c vs k s type args parts p q m =
    of_then _ (Fewer (length s)) (parts vs k s) _ (m vs k s)
    (λ u w vs' k' r h. of_when _ (not (single u)) _ (λ e. of_got _ _ _ _ _ r (omega arith)))
lead_fewer lead_L c vs k s type args parts p q m =
    of_with _ (λ t r. length r < length s) (literal s) _ (lit_fewer s) (λ t r h. of_got _ _ _ _ _ r (omega arith))
lead_fewer lead_none c vs k s type args parts p q m = of_bad _

at_parts_fewer : (l : Lead) (c : ℕ) (vs : List Ty) (k : ℕ) (s : Text) (more : Ty → Text → Walker Ty) → ShrinksMore more
    → Of (at_parts l c vs k s more) (Fewer (suc (length s)))
at_parts_fewer (lead_letter l) c vs k s more p = of_bad _
at_parts_fewer (lead_wrap d) c vs k s more p = of_bad _
at_parts_fewer lead_digit c vs k s more p =
    of_with _ (λ n r. length r + 2 ≤ suc (length s)) (name (c ∷ s)) _ (name_fewer (c ∷ s))
    (λ n r h. cut_one (length r) (suc (length s)) _ (omega arith) (p (root n) (wrote (root n) vs (name_bytes n)) (push (root n) vs) k r))
at_parts_fewer lead_S c vs k s more p =
    of_with _ (λ i r. length r < length s) (reference s) _ (ref_fewer s)
    (λ i r h. of_choose _ (get_elem? vs i) _ (λ t a. of_when _ (is_class t) _
    (λ b. cut_one (length r) (suc (length s)) _ (omega arith) (p t (wrote t vs []) vs k r))))
at_parts_fewer lead_N c vs k s more p = of_bad _
at_parts_fewer lead_L c vs k s more p = of_bad _
at_parts_fewer lead_none c vs k s more p = of_bad _

end_fewer : (n : ℕ) (more : Ty → Text → Walker Ty) → ShrinksMore more → (u : Ty) (w : Text) (vs : List Ty) (k : ℕ) (r : Text) → length r < n
    → Of (end_or more u w vs k r) (Fewer n)
end_fewer n more p u w vs k r h =
    of_next _ (code "E") r _ _ (λ r' e. let e' = ap length e in of_got _ _ _ _ _ r' (omega arith))
    (cut_one (length r) n _ (omega arith) (p u (wrote u vs w) (push u vs) k r))

at_more_fewer : (i : Bool) (c : ℕ) (t : Ty) (w : Text) (vs : List Ty) (k : ℕ) (s : Text) (args : Walker Args) (more : Ty → Text → Walker Ty)
    → Shrinks args → ShrinksMore more → Of (at_more i c t w vs k s args more) (Fewer (suc (length s)))
at_more_fewer true c t w vs k s args more q p =
    of_when _ (is_bare t) _ (λ b. with_args_fewer t w (suc (length s)) (args vs k s) (end_or more) (cut_one (length s) (suc (length s)) _ (omega arith) (q vs k s))
    (λ u v ws k' r l. end_fewer (suc (length s)) more p u v ws k' r l))
at_more_fewer false c t w vs k s args more q p =
    of_with _ (λ n r. length r + 2 ≤ suc (length s)) (name (c ∷ s)) _ (name_fewer (c ∷ s))
    (λ n r h. end_fewer (suc (length s)) more p (sub t n) (w ++ name_bytes n) vs k r (omega arith))

arg_fewer : (n : ℕ) (t : Ty) (w : Text) (vs : List Ty) (k : ℕ) (r : Text) (args : Walker Args) → Shrinks args → length r < n
    → Of (at_arg t w vs k r args) (Fewer n)
arg_fewer n t w vs k r args q h =
    of_next _ (code "E") r _ _ (λ r' e. let e' = ap length e in of_got _ _ _ _ _ r' (omega arith))
    (of_then _ (Fewer (length r)) (args vs (suc k) r) _ (q vs (suc k) r) (λ xs v vs' k' r' l. of_got _ _ _ _ _ r' (omega arith)))

mutual
  unfolding walk_type

  pub type_fewer : (f : ℕ) → Shrinks (walk_type f)
  type_fewer zero vs k s = of_bad _
  type_fewer (suc f) vs k [] = of_bad _
  type_fewer (suc f) vs k (c ∷ s) = lead_fewer (lead c) c vs k s _ _ _ (λ ws j r. type_fewer f ws j r) (λ ws j r. args_fewer f ws j r) (λ ws j r. parts_fewer f ws j r)

  pub parts_fewer : (f : ℕ) → Shrinks (walk_parts f)
  parts_fewer zero vs k s = of_bad _
  parts_fewer (suc f) vs k [] = of_bad _
  parts_fewer (suc f) vs k (c ∷ s) = at_parts_fewer (lead c) c vs k s _ (λ t w ws j r. more_fewer f t w ws j r)

  pub more_fewer : (f : ℕ) → ShrinksMore (walk_more f)
  more_fewer zero t w vs k s = of_bad _
  more_fewer (suc f) t w vs k [] = of_bad _
  more_fewer (suc f) t w vs k (c ∷ s) = at_more_fewer (eqb c (code "I")) c t w vs k s _ _ (λ ws j r. args_fewer f ws j r) (λ u v ws j r. more_fewer f u v ws j r)

  pub args_fewer : (f : ℕ) → Shrinks (walk_args f)
  args_fewer zero vs k s = of_bad _
  args_fewer (suc f) vs k s =
      of_then _ (Fewer (length s)) (walk_type f vs k s) _ (type_fewer f vs k s)
      (λ t w vs' k' r h. arg_fewer (length s) t w vs' k' r _ (λ ws j r'. args_fewer f ws j r') h)
