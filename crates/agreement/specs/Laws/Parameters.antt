-- The types behind a function's name, to the symbol's end.
use Rattle.std.specs.Prelude.{Bool, true, false, not, ◌&&◌, List, [], ◌∷◌, ◌++◌, ◌≡◌, refl, ℕ, ◌+◌, ◌≤◌, ◌<◌, max, length}
use Rattle.std.proofs.Common.{append_assoc, append-nil, arith, length-append}
use Rattle.grammar.specs.Text.{Text, b, if◌then◌otherwise◌, choose, same, holds, join}
use Rattle.grammar.specs.Limits.{most_open}
use Rattle.grammar.specs.Tables.{letters}
use Rattle.grammar.specs.Reader.{Result, Reader, onto, steps, word_for}
use Rattle.grammar.specs.Grammar.{⟨type⟩, reading, ended, only_void}
use Rattle.catalogue.specs.Bytes.{first, and_left, and_right}
use Rattle.catalogue.specs.Laws.Bytes.{not-true}
use Rattle.catalogue.specs.Tree.{Ty, Args, letter, lv, one, also, word, print, print_args, is_lit, is_void, inside, same_ty}
use Rattle.catalogue.specs.Spelling.{Sp, SpArgs, s_one, s_also, spell, spell_args}
use Rattle.catalogue.specs.Class.{all_types, resolve, resolve_args}
use Rattle.catalogue.proofs.Laws.Limits.{depth, depth_args}
use Rattle.catalogue.specs.Laws.WellFormed.{Wf, WfArgs, AllWf, Good, resolve_wf}
use Rattle.agreement.specs.Laws.Verdict.{at, Verdict, Gives, gives, gives_as, next, assoc, then_by, weaken, step_on, step_off}
use Rattle.agreement.specs.Laws.After.{After, after_ok, after_then, after_also}
use Rattle.agreement.specs.Laws.Leaves.{starts_miss}
use Rattle.agreement.specs.Laws.Heads.{opens, some_bytes, spell_opens, args_opens, follow_end, follow_opens}
use Rattle.agreement.specs.Laws.Printed.{items, join_items}
use Rattle.agreement.specs.Laws.Rooms.{texts, Room, Kept, Grown, grows_args}
use Rattle.agreement.specs.Laws.Pushes.{same_trees, room_part}
use Rattle.agreement.specs.Laws.TypeNodes.{Says}
use Rattle.agreement.specs.Laws.Lists.{behind}
use Rattle.agreement.specs.Laws.Spellings.{SpRead, TypeIsNoLiteral, no_literal, reads_sp, spell_some}

-- ---------------------------------------------------------------- the loop

abbrev to_come : Text → Bool
to_come t = not (ended t)

abbrev one_type : List Text → Reader (List Text)
one_type l = λ s. onto (behind l) (reading ⟨type⟩ s)

abbrev pub types_loop : ℕ → List Text → Reader (List Text)
types_loop n l = steps n to_come one_type l

pub not_ended : (t : Text) → first opens t ≡ true → ended t ≡ false
unfolding ended opens holds b
not_ended t h = rw (some_bytes opens t h, starts_miss opens t (b ".") h refl)

-- the types read behind those of l, to the end
abbrev SaysTypes : List Ty → List Ty → Args → List Text → List Text → ℕ → Result (List Text) → Type 0
SaysTypes us ws xs l a m o =
    Verdict (Room us ws a 0 m (length (print_args xs)) 0 0) (Gives (l ++ items xs) [] (texts ws) 0 (Kept us ws a 0 m 0 0)) o

abbrev pub TypesRead : SpArgs → List Ty → Args → List Ty → Type 0
TypesRead ss us xs ws =
    all_types xs ≡ true → (n : ℕ) (l a : List Text) (c : Text) (q : Bool) → length (spell_args ss) < n
    → SaysTypes us ws xs l a (depth_args ss) (types_loop n l (at (spell_args ss) (texts us) a 0 c q))

last_type : (t : Ty) (us vs : List Ty) (x : Text) (l a : List Text) (n m : ℕ) (c : Text) (q : Bool) → first opens x ≡ true → 1 < n
    → Says us vs t [] a 0 m (reading ⟨type⟩ (at x (texts us) a 0 c q)) → SaysTypes us vs (one t) l a m (types_loop n l (at x (texts us) a 0 c q))
unfolding print items ended same
last_type t us vs x l a n m c q o h s =
    step_on _ _ _ _ _ (omega arith) (rw (not_ended x o))
    (λ n' i. assoc (behind l) _ _ (next _ s (λ p. p)
    (λ e c' q' k. then_by _ _ _ (step_off _ _ _ _ _ (omega arith) refl (gives k)))))

types_room : (us vs ws : List Ty) (a e : List Text) (m m' m'' len len' : ℕ) → m' ≤ m'' → len' ≤ len
    → Room us ws a 0 m'' len 0 0 → Kept us vs a 0 m 0 0 e → Room vs ws e 0 m' len' 0 0
types_room us vs ws a e m m' m'' len len' h l r k =
    let z1 = r.few in
    let z2 = r.small in
    let z3 = r.deep in
    let z4 = r.text in
    let z5 = k.few in
    let z6 = k.small in
    record { table = r.table; deep = omega arith; text = omega arith; few = omega arith; small = omega arith }

types_kept : (us vs ws : List Ty) (a e g : List Text) (m m' m'' : ℕ) → 0 + m'' ≤ most_open → Kept us vs a 0 m 0 0 e
    → Kept vs ws e 0 m' 0 0 g → Kept us ws a 0 m'' 0 0 g
types_kept us vs ws a e g m m' m'' h k j =
    let z1 = k.few in
    let z2 = k.small in
    let z3 = j.few in
    let z4 = j.small in
    record { deep = h; table = λ f. j.table (k.table f); few = omega arith; small = omega arith }

next_type : (t : Ty) (xs : Args) (us vs ws : List Ty) (x y : Text) (l a : List Text) (n m m' : ℕ) (c : Text) (q : Bool)
    → first opens x ≡ true → length y + 1 < n → Grown vs ws
    → Says us vs t y a 0 m (reading ⟨type⟩ (at x (texts us) a 0 c q))
    → ((n' : ℕ) (e : List Text) (c' : Text) (q' : Bool) → length y < n'
    → SaysTypes vs ws xs (l ++ (print t ∷ [])) e m' (types_loop n' (l ++ (print t ∷ [])) (at y (texts vs) e 0 c' q')))
    → SaysTypes us ws (also t xs) l a (max m m') (types_loop n l (at x (texts us) a 0 c q))
unfolding print items
next_type t xs us vs ws x y l a n m m' c q o h gr s k =
    step_on _ _ _ _ _ (omega arith) (rw (not_ended x o))
    (λ n' i. assoc (behind l) _ _ (next _ s (λ p. room_part _ _ _ _ _ _ _ _ _ _ p gr (omega arith) (simp length-append (omega arith)))
    (λ e c' q' j. then_by _ _ _ (weaken (k n' e c' q' (omega arith))
    (λ p. types_room us vs ws a e m m' (max m m') _ _ (omega arith) (simp length-append (omega arith)) p j)
    (gives_as _ _ (append_assoc l (print t ∷ []) (items xs)) (λ g' v. types_kept us vs ws a e g' m m' (max m m') (omega
    (arith, j.deep, v.deep)) j v))))))

one_read : (s : Sp) (us : List Ty) (t : Ty) (vs : List Ty) → TypeIsNoLiteral s t vs → SpRead s us [] 0 t vs → TypesRead (s_one s) us (one t) vs
unfolding spell depth
one_read s us t vs f h e n l a c q len =
    let k = spell_some s in
    let h' : Says us vs t [] a 0 (depth s) (reading ⟨type⟩ (at (spell s) (texts us) a 0 c q)) = rw (append-nil (spell s)) at ((h a c q).0
    (f (not-true (is_lit t) e))) in
    last_type t us vs (spell s) l a n (depth s) c q (rw (append-nil (spell s)) at (spell_opens s [])) (omega arith) h'

also_read : (s : Sp) (ss : SpArgs) (us : List Ty) (t : Ty) (vs : List Ty) (xs : Args) (ws : List Ty) → TypeIsNoLiteral s t vs → Grown vs ws
    → SpRead s us (spell_args ss) 0 t vs → TypesRead ss vs xs ws → TypesRead (s_also s ss) us (also t xs) ws
unfolding spell depth
also_read s ss us t vs xs ws f gr h i e n l a c q len =
    let k = spell_some s in
    let j = length-append (spell s) (spell_args ss) in
    let e' = not-true (is_lit t) (and_left (not (is_lit t)) (all_types xs) e) in
    next_type t xs us vs ws (spell s ++ spell_args ss) (spell_args ss) l a n (depth s) (depth_args ss) c q (spell_opens s (spell_args ss))
    (omega arith) gr ((h a c q).0 (f e'))
    (λ n' u c' q' z. i (and_right (not (is_lit t)) (all_types xs) e) n' (l ++ (print t ∷ [])) u c' q' z)

args_first : (ss : SpArgs) → first opens (spell_args ss) ≡ true
args_first ss = rw (append-nil (spell_args ss)) at (args_opens ss [])

pub reads_types : (ss : SpArgs) (us : List Ty) → AllWf us → After (resolve_args ss us) (TypesRead ss us)
unfolding resolve_args
reads_types (s_one s) us w =
    after_then _ (TypesRead (s_one s) us) (resolve s us) _ (after_also (TypeIsNoLiteral s) _ (resolve s us) (no_literal s us)
    (reads_sp s us w [] follow_end 0))
    (λ t vs k. after_ok _ _ (TypesRead (s_one s) us) (one_read s us t vs k.0 k.1.down))
reads_types (s_also s ss) us w =
    after_then _ (TypesRead (s_also s ss) us) (resolve s us) _
    (after_also Good _ (resolve s us) (resolve_wf s us w) (after_also (TypeIsNoLiteral s) _ (resolve s us) (no_literal s us)
    (reads_sp s us w (spell_args ss) (follow_opens (spell_args ss) (args_first ss)) 0)))
    (λ t vs k. after_then _ (TypesRead (s_also s ss) us) (resolve_args ss vs) _ (after_also _ _ _ (grows_args ss vs) (reads_types ss vs k.0.1))
    (λ xs ws j. after_ok _ _ (TypesRead (s_also s ss) us) (also_read s ss us t vs xs ws k.1.0 j.0 k.1.1.down j.1)))

-- ---------------------------------------------------------------- what is printed

word_void : word lv ≡ b "void"
unfolding word word_for letters choose same b if◌then◌otherwise◌
word_void = refl

void_is : (t : Ty) → Wf t → same (print t) (b "void") ≡ same_ty t (letter lv)
unfolding print
void_is t f = rw word_void at (same_trees t (letter lv) f tt)

-- a lone void prints nothing
only_void_is : (xs : Args) → WfArgs xs → only_void (items xs) ≡ is_void xs
unfolding only_void items
only_void_is (one t) f = void_is t f
only_void_is (also t (one u)) f = refl
only_void_is (also t (also u xs)) f = refl

pub types_text : (xs : Args) → WfArgs xs → (if only_void (items xs) && same [] [] then [] otherwise join (b ", ") (items xs)) ≡ inside (is_void xs) xs
unfolding same if◌then◌otherwise◌
types_text xs f = rw (only_void_is xs f, join_items xs) (go (is_void xs))
  where
    go : (z : Bool) → (if z && true then [] otherwise print_args xs) ≡ inside z xs
    go true = refl
    go false = refl
