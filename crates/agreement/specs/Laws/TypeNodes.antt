-- Types, one production at a time: what is said of a type's reading follows from what is said of its parts.
use Rattle.std.specs.Prelude.{Bool, true, false, List, [], ◌∷◌, ◌++◌, ◌≡◌, refl, ℕ, suc, ◌+◌, ◌≤◌, length}
use Rattle.std.proofs.Common.{append_assoc, ◌∙◌, arith, length-append}
use Rattle.std.proofs.Math.Option.{none, some}
use Prim.Native.Char.{code}
use Rattle.std.proofs.Math.ListN.{get_elem?}
use Rattle.grammar.specs.Text.{Text, b, if◌then◌otherwise◌, choose, starts}
use Rattle.grammar.specs.Tables.{◌⇒◌}
use Rattle.grammar.specs.Reader.{Result, Reader, onto, give, find, at_code}
use Rattle.grammar.specs.Grammar as g
use Rattle.grammar.specs.Grammar.{⟨type⟩, ⟨template-args⟩, ⟨source-name⟩, ⟨unqualified-name⟩, ⟨substitution⟩, reading}
use Rattle.catalogue.specs.Tree.{Letter, Wrap, Ty, Args, letter, wrap, root, app, letter_code, wrap_code, suffix, print, print_args}
use Rattle.catalogue.specs.Spelling.{ref_digits, length_digits, name_bytes}
use Rattle.catalogue.specs.Class.{name_ok, push}
use Rattle.catalogue.specs.Laws.Numbers.{ref_index}
use Rattle.catalogue.proofs.Laws.NormalForm.{arg_bytes}
use Rattle.catalogue.specs.Laws.WellFormed.{Wf}
use Rattle.catalogue.proofs.Laws.Count.{number_of}
use Rattle.agreement.specs.Laws.Verdict.{at, Verdict, reads, Gives, gives, next, give_by, give_end, at_code_hit, at_code_miss}
use Rattle.agreement.specs.Laws.Leaves.{source_name_is, unqualified_name_is, substitution_is}
use Rattle.agreement.specs.Laws.Heads.{named, numbered, no_std, name_first, Follow}
use Rattle.agreement.specs.Laws.Steps.{letter_by, wrapped_by, class_by, s_type_by}
use Rattle.agreement.specs.Laws.Printed.{no_slot, items, list_text}
use Rattle.agreement.specs.Laws.Rooms.{texts, texts_at, Grown, grown_push, grown_trans, bytes, Room, Kept}
use Rattle.agreement.specs.Laws.Pushes.{enter_by, entry_end, kept_same, kept_push, kept_app, room_part, room_list}

-- ---------------------------------------------------------------- what is said

-- the reading of a type t from the table us and the arguments a, up to r, with the table vs after it
abbrev pub Says : List Ty → List Ty → Ty → Text → List Text → ℕ → ℕ → Result Text → Type 0
Says us vs t r a d m o = Verdict (Room us vs a d m (bytes t) 0 0) (Gives (print t) r (texts vs) d (Kept us vs a d m 0 0)) o

-- of a list I .. E
abbrev pub SaysList : List Ty → List Ty → Args → Text → List Text → ℕ → ℕ → Result Text → Type 0
SaysList us vs xs r a d m o =
    Verdict (Room us vs a d (suc m) (length (list_text xs)) (number_of xs) (arg_bytes xs))
    (Gives (list_text xs) r (texts vs) d (Kept us vs a d (suc m) (number_of xs) (arg_bytes xs))) o

-- of the arguments in it, read behind those of l
abbrev pub SaysItems : List Ty → List Ty → Args → List Text → Text → List Text → ℕ → ℕ → Result (List Text) → Type 0
SaysItems us vs xs l r a d m o =
    Verdict (Room us vs a d m (length (print_args xs)) (number_of xs) (arg_bytes xs))
    (Gives (l ++ items xs) (code "E" ∷ r) (texts vs) d (Kept us vs a d m (number_of xs) (arg_bytes xs))) o

-- ---------------------------------------------------------------- names and references

pub source_gives : (n r : Text) (l a : List Text) (d : ℕ) (c : Text) (q : Bool) → name_ok n ≡ true → starts r (b "B") ≡ false
    → reading ⟨source-name⟩ (at (name_bytes n ++ r) l a d c q) ≡ give n (at r l a d c q)
source_gives n r l a d c q h e = rw (append_assoc (length_digits n) n r) (source_name_is (length_digits n) n r l a d c q (named n h) e)

pub unqualified_gives : (n r : Text) (l a : List Text) (d : ℕ) (c : Text) (q : Bool) → name_ok n ≡ true → starts r (b "B") ≡ false
    → reading ⟨unqualified-name⟩ (at (name_bytes n ++ r) l a d c q) ≡ give n (at r l a d c q)
unqualified_gives n r l a d c q h e = rw (append_assoc (length_digits n) n r) (unqualified_name_is (length_digits n) n r l a d c q (named n h) e)

pub reference_gives : (i : ℕ) (us : List Ty) (t : Ty) (r : Text) (a : List Text) (d : ℕ) (c : Text) (q : Bool) → get_elem? us i ≡ some t
    → reading ⟨substitution⟩ (at (code "S" ∷ (ref_digits i ++ (code "_" ∷ r))) (texts us) a d c q) ≡ give (print t) (at r (texts us) a d c q)
unfolding choose
reference_gives i us t r a d c q e =
    substitution_is (ref_digits i) r (texts us) a d c q (numbered i) ∙ rw (ref_index i, texts_at us i, e)

I_find : {A : Type 0} (x : A) (t : Text) → find ("I" ⇒ x ∷ []) (code "I" ∷ t) ≡ some (x, t)
unfolding find starts b if◌then◌otherwise◌
I_find x t = refl

pub I_miss : {A : Type 0} (x : A) (t : Text) → starts t (b "I") ≡ false → find ("I" ⇒ x ∷ []) t ≡ none
unfolding find if◌then◌otherwise◌
I_miss x t h = rw h

-- ---------------------------------------------------------------- letters and wrappers

pub letter_says : (l : Letter) (us : List Ty) (r : Text) (a : List Text) (d : ℕ) (c : Text) (q : Bool)
    → Says us us (letter l) r a d 1 (reading ⟨type⟩ (at (letter_code l ∷ r) (texts us) a d c q))
unfolding print
letter_says l us r a d c q =
    letter_by l r _ _ _ _ (λ p. let z = p.deep in omega arith) (λ k. give_end _ _ (λ p. p.text) (gives (kept_same us a d 1 (omega arith))))

pub wrap_says : (w : Wrap) (t : Ty) (us vs : List Ty) (x r : Text) (a : List Text) (d m : ℕ) (c : Text) (q : Bool) → Wf t
    → Says us vs t r a (d + 1) m (reading ⟨type⟩ (at x (texts us) a (d + 1) c q))
    → Says us (push (wrap w t) vs) (wrap w t) r a d (suc m) (reading ⟨type⟩ (at (wrap_code w ∷ x) (texts us) a d c q))
unfolding print g.wrapped if◌then◌otherwise◌
wrap_says w t us vs x r a d m c q f h =
    let len : length (print t) ≤ length (print t ++ suffix w) = simp length-append (omega arith) in
    wrapped_by w x _ _ _ _ (λ p. let z = p.deep in omega arith)
    (λ v e k. next _ h (λ p. room_part _ _ _ _ _ _ _ _ _ _ p (grown_push (wrap w t) vs) (omega arith) len)
    (λ u c' q' j.
    let z = j.deep in
    rw (no_slot t f, e)
    (entry_end (wrap w t) vs _ _ _ _ _ (λ p. p.table) (λ p. p.text) (λ i. kept_push (wrap w t) us vs a u (d + 1) m d (suc m) refl refl j
    (omega arith) i))))

-- ---------------------------------------------------------------- references and classes outside N

pub ref_says : (i : ℕ) (t : Ty) (us : List Ty) (r : Text) (a : List Text) (d : ℕ) (c : Text) (q : Bool) → get_elem? us i ≡ some t → Follow r
    → Says us us t r a d 1 (reading ⟨type⟩ (at (code "S" ∷ (ref_digits i ++ (code "_" ∷ r))) (texts us) a d c q))
unfolding g.s_type onto if◌then◌otherwise◌
ref_says i t us r a d c q e f =
    s_type_by _ _ _ _ _ (λ p. let z = p.deep in omega arith)
    (λ k. rw (no_std i r, reference_gives i us t r a (d + 1) c q e)
    (give_by _ _ _ (λ p. p.text) (at_code_miss _ _ _ (I_miss _ r f.no_args) (reads (gives (kept_same us a d 1 (omega arith)))))))

pub plain_says : (n : Text) (us : List Ty) (r : Text) (a : List Text) (d : ℕ) (c : Text) (q : Bool) → name_ok n ≡ true → Follow r
    → Says us (push (root n) us) (root n) r a d 1 (reading ⟨type⟩ (at (name_bytes n ++ r) (texts us) a d c q))
unfolding print g.class_type onto
plain_says n us r a d c q h f =
    class_by _ _ _ _ _ (name_first n r) (λ p. let z = p.deep in omega arith)
    (λ k. rw (source_gives n r (texts us) a (d + 1) c q h f.no_tag)
    (give_by _ _ _ (λ p. p.text)
    (enter_by (root n) us _ _ _ _ _ _ (λ p. p.table)
    (λ i. at_code_miss _ _ _ (I_miss _ r f.no_args)
    (give_end _ _ (λ p. p.text) (gives (kept_push (root n) us us a a d 1 d 1 refl refl (kept_same us a d 1 (omega arith)) (omega arith) i)))))))

-- arguments behind a class that is read already, up to the table vs
instance_says : (t : Ty) (xs : Args) (us vs ws : List Ty) (x r : Text) (a e : List Text) (d m : ℕ) (c : Text) (q : Bool) (n : Reader Text)
    → Kept us vs a d 1 0 0 e → Grown vs ws
    → SaysList vs ws xs r e (d + 1) m (reading ⟨template-args⟩ (at (code "I" ∷ x) (texts vs) e (d + 1) c q))
    → Verdict (Room us (push (app t xs) ws) a d (suc (suc m)) (bytes (app t xs)) 0 0)
    (Gives (print (app t xs)) r (texts (push (app t xs) ws)) (d + 1) (Kept us (push (app t xs) ws) a d (suc (suc m)) 0 0))
    (at_code ("I" ⇒ g.type_instance reading (print t) ∷ []) n (at (code "I" ∷ x) (texts vs) e (d + 1) c q))
unfolding print g.type_instance
instance_says t xs us vs ws x r a e d m c q n k gr h =
    let len : length (list_text xs) ≤ length (print t ++ list_text xs) = rw (length-append (print t) (list_text xs)) (omega arith) in
    at_code_hit _ _ _ _ x (I_find _ x)
    (next _ h (λ p. room_list t xs us vs ws a e e _ _ _ _ _ _ _ p k (omega arith) (omega arith) (grown_push (app t xs) ws) (omega arith) len)
    (λ u c' q' j.
    let z = j.deep in
    entry_end (app t xs) ws _ _ _ _ _ (λ p. p.table) (λ p. p.text)
    (λ i. kept_app t xs us vs ws a e e u d 1 (d + 1) (suc m) d (suc (suc m)) k (omega arith) (omega arith) j (omega arith) i)))

pub templ_says : (n : Text) (xs : Args) (us ws : List Ty) (x r : Text) (a : List Text) (d m : ℕ) (c : Text) (q : Bool) → name_ok n ≡ true
    → Grown (push (root n) us) ws
    → SaysList (push (root n) us) ws xs r a (d + 1) m (reading ⟨template-args⟩ (at (code "I" ∷ x) (texts (push (root n) us)) a (d + 1) c q))
    → Says us (push (app (root n) xs) ws) (app (root n) xs) r a d (suc (suc m)) (reading ⟨type⟩ (at (name_bytes n ++ (code "I" ∷ x))
    (texts us) a d c q))
unfolding print g.class_type onto starts b
templ_says n xs us ws x r a d m c q h gr s =
    let g0 : Grown (push (root n) us) (push (app (root n) xs) ws) = grown_trans (push (root n) us) ws _ gr (grown_push (app (root n) xs) ws) in
    let len : length n ≤ length (n ++ list_text xs) = rw (length-append n (list_text xs)) (omega arith) in
    class_by _ _ _ _ _ (name_first n (code "I" ∷ x)) (λ p. let z = p.deep in omega arith)
    (λ k. rw (source_gives n (code "I" ∷ x) (texts us) a (d + 1) c q h refl)
    (give_by _ _ _ (λ p. let z = p.text in omega arith)
    (enter_by (root n) us _ _ _ _ _ _ (λ p. (room_part us (push (root n) us) _ a d (suc (suc m)) d 0 _ 0 p g0 (omega arith) (omega arith)).table)
    (λ i. instance_says (root n) xs us (push (root n) us) ws x r a a d m c q _
    (kept_push (root n) us us a a d 1 d 1 refl refl (kept_same us a d 1 (omega arith)) (omega arith) i) gr s))))

pub retempl_says : (i : ℕ) (t : Ty) (xs : Args) (us ws : List Ty) (x r : Text) (a : List Text) (d m : ℕ) (c : Text) (q : Bool)
    → get_elem? us i ≡ some t
    → Grown us ws
    → SaysList us ws xs r a (d + 1) m (reading ⟨template-args⟩ (at (code "I" ∷ x) (texts us) a (d + 1) c q))
    → Says us (push (app t xs) ws) (app t xs) r a d (suc (suc m)) (reading ⟨type⟩ (at (code "S" ∷ (ref_digits i ++
    (code "_" ∷ code "I" ∷ x))) (texts us) a d c q))
unfolding print g.s_type onto if◌then◌otherwise◌
retempl_says i t xs us ws x r a d m c q e gr s =
    let len : length (print t) ≤ length (print t ++ list_text xs) = rw (length-append (print t) (list_text xs)) (omega arith) in
    s_type_by _ _ _ _ _ (λ p. let z = p.deep in omega arith)
    (λ k. rw (no_std i (code "I" ∷ x), reference_gives i us t (code "I" ∷ x) a (d + 1) c q e)
    (give_by _ _ _ (λ p. let z = p.text in omega arith)
    (instance_says t xs us us ws x r a a d m c q _ (kept_same us a d 1 (omega arith)) gr s)))
