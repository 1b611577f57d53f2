-- A reading of template arguments or of parts tells the number of a node that is there. Assumes nothing.
use Rattle.std.specs.Prelude.{Bool, true, false, not, List, [], ◌∷◌, ◌≡◌, refl, ℕ, zero, suc, ◌+◌, ◌≤◌, ◌<◌, eqb, length}
use Rattle.std.proofs.Math.Option.{Option, none, some, none-ne-some}
use Rattle.std.proofs.Common.{arith, length-append}
use Prim.Native.Char.{code}
use Rattle.grammar.specs.Text.{Text, if◌then◌otherwise◌}
use Rattle.catalogue.specs.Recogniser.{Rd, rd, stop, if_next, Lead, lead_letter, lead_wrap, lead_digit, lead_S, lead_N, lead_L, lead_none, lead}
use Rattle.catalogue.specs.Spelling.{name_bytes}
use Rattle.normal_walk.specs.Walk.{name}
use Rattle.normal_nodes.specs.Nodes.{Node, least_number, later, seek_by, node_place, number_at, number_of, with_new, with_node, Notes, Noter, Got, got, bad}
use Rattle.normal_nodes.specs.Nodes.{next, when, with, at_first, entered, go_to, put, noted, tag_of, a_bare, a_class, sub_node, arg_node}
use Rattle.normal_nodes.specs.Nodes.{at_reference, note_at_name, note_at_parts, note_end_or, note_at_more, note_type, note_parts, note_more, note_args}

-- d is the number of one of the nodes
abbrev pub NumberIn : ℕ → List Node → Type 0
NumberIn d ns = (least_number ≤ d) × (d < least_number + length ns)

abbrev pub TellsNode : Got ℕ → Type 0
TellsNode (got d τ) = NumberIn d τ.nodes
TellsNode bad = Unit {0}

-- ---------------------------------------------------------------- a node

pub seek_below : {A : Type 0} (p : A → Bool) (xs : List A) (i : ℕ) → seek_by p xs ≡ some i → i < length xs
unfolding seek_by if◌then◌otherwise◌
seek_below p [] i e = absurd (none-ne-some i e)
seek_below p (x ∷ xs) i e = go (p x) (seek_by p xs) (λ j f. seek_below p xs j f) e
  where
    go : (q : Bool) (o : Option ℕ) → ((j : ℕ) → o ≡ some j → j < length xs) → (if q then some 0 otherwise later o) ≡ some i → i < suc (length xs)
    go true o f g = let k : 0 ≡ i = cc in omega arith
    go false none f g = absurd (none-ne-some i g)
    go false (some j) f g = let k : suc j ≡ i = cc in omega (arith, f j refl)

pub number_in : (x : Node) (ns : List Node) → NumberIn (number_of x ns) (with_node x ns)
unfolding number_of with_node node_place
number_in x ns = go (seek_by _ ns) refl
  where
    go : (o : Option ℕ) → node_place x ns ≡ o → NumberIn (number_at o (length ns)) (with_new o x ns)
    go none e = (omega arith, omega (arith, length-append ns (x ∷ [])))
    go (some i) e = (omega arith, omega (arith, seek_below _ ns i e))

-- ---------------------------------------------------------------- joined readings

when_tells : (q : Bool) (g : Got ℕ) → TellsNode g → TellsNode (when q g)
when_tells true g h = h
when_tells false g h = tt

next_tells : (g : Got ℕ) (f : ℕ → Noter ℕ) → TellsNode g → ((u : ℕ) (τ : Notes) → NumberIn u τ.nodes → TellsNode (f u τ)) → TellsNode (next g f)
next_tells (got u τ) f h k = k u τ h
next_tells bad f h k = tt

after_tells : (g : Got ℕ) (f : ℕ → Noter ℕ) → ((u : ℕ) (τ : Notes) → TellsNode (f u τ)) → TellsNode (next g f)
after_tells (got u τ) f k = k u τ
after_tells bad f k = tt

pub with_tells : (o : Rd Text) (f : Text → Text → Got ℕ) → ((n r : Text) → TellsNode (f n r)) → TellsNode (with o f)
with_tells (rd n r) f k = k n r
with_tells stop f k = tt

if_next_tells : (c : ℕ) (s : Text) (f : Text → Got ℕ) (g : Got ℕ) → ((r : Text) → TellsNode (f r)) → TellsNode g → TellsNode (if_next c s f g)
unfolding if◌then◌otherwise◌
if_next_tells c [] f g k h = h
if_next_tells c (d ∷ s) f g k h = go (eqb d c)
  where
    go : (q : Bool) → TellsNode (if q then f s otherwise g)
    go true = k s
    go false = h

first_tells : (s : Text) (f : ℕ → Text → Got ℕ) → ((c : ℕ) (t : Text) → TellsNode (f c t)) → TellsNode (at_first s f)
first_tells [] f k = tt
first_tells (c ∷ s) f k = k c s

end_tells : (from : ℕ) (more : ℕ → Bool → Noter ℕ) (u : ℕ) (lone : Bool) (σ : Notes) → ((τ : Notes) → TellsNode (more u lone τ)) → NumberIn u σ.nodes
    → TellsNode (note_end_or from more u lone σ)
end_tells from more u lone σ k h =
    if_next_tells (code "E") σ.rest _ _ (λ r. when_tells (not lone) (got u (go_to r σ)) h) (k (entered u from σ))

-- ---------------------------------------------------------------- arguments and parts

pub args_tell : (m t : ℕ) (σ : Notes) → TellsNode (note_args m t σ)
unfolding note_args
args_tell zero t σ = tt
args_tell (suc m) t σ = after_tells (note_type m σ) _ λ x τ.
    if_next_tells (code "E") τ.rest _ _ (λ r. number_in (arg_node t x) τ.nodes) (args_tell m _ _)

pub more_tell : (m t : ℕ) (lone : Bool) (from : ℕ) (σ : Notes) → TellsNode (note_more m t lone from σ)
unfolding note_more
more_tell zero t lone from σ = tt
more_tell (suc m) t lone from σ = first_tells σ.rest _ λ c s. go (λ u l ρ. more_tell m u l from ρ) (eqb c (code "I")) s
  where
    go : ((u : ℕ) (l : Bool) (ρ : Notes) → TellsNode (note_more m u l from ρ)) → (q : Bool) (s : Text)
        → TellsNode (note_at_more q t lone from s σ (λ u τ. note_args m u τ) (λ u l τ. note_more m u l from τ))
    go k true s =
        when_tells (a_bare (tag_of σ.nodes t)) _
        (next_tells (note_args m t (put (code "I" ∷ []) (go_to s σ))) _ (args_tell m t (put (code "I" ∷ []) (go_to s σ)))
        (λ u τ h. end_tells from (λ v l ρ. note_more m v l from ρ) u lone (put (code "E" ∷ []) τ) (λ ρ. k u lone ρ) h))
    go k false s = with_tells (name σ.rest) _
        (λ n r. end_tells from (λ v l ρ. note_more m v l from ρ) (number_of (sub_node t n) σ.nodes) false
        (put (name_bytes n) (noted (sub_node t n) (go_to r σ))) (λ ρ. k (number_of (sub_node t n) σ.nodes) false ρ) (number_in (sub_node t n) σ.nodes))

pub parts_tell : (m from : ℕ) (σ : Notes) → TellsNode (note_parts m from σ)
unfolding note_parts
parts_tell zero from σ = tt
parts_tell (suc m) from σ = first_tells σ.rest _ λ c s. go (lead c) s
  where
    go : (l : Lead) (s : Text) → TellsNode (note_at_parts l from s σ (λ t lone τ. note_more m t lone from τ))
    go (lead_letter l) s = tt
    go (lead_wrap q) s = tt
    go lead_digit s = after_tells (note_at_name from σ) _ (λ t τ. more_tell m t true from τ)
    go lead_S s = after_tells (at_reference from (go_to s σ)) _
        (λ t τ. when_tells (a_class (tag_of τ.nodes t)) _ (more_tell m t (eqb (tag_of τ.nodes t) (code "0")) from τ))
    go lead_N s = tt
    go lead_L s = tt
    go lead_none s = tt
