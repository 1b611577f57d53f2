-- A function's name as it is read at the front of a symbol: its text, its qualifier, the table after it, and no return type to come.
use Rattle.std.specs.Prelude.{Bool, true, false, List, [], ◌∷◌, ◌++◌, ◌≡◌, ℕ, suc, ◌+◌, ◌≤◌, ◌<◌, length, ltb}
use Rattle.std.proofs.lemmas.Bool.{false≢true}
use Rattle.std.proofs.Common.{append_assoc, sym, ◌∙◌, ap, arith, length-append, ltb-true, lt-ltb}
use Rattle.std.proofs.Math.Path.{refl}
use Prim.Native.Char.{code}
use Rattle.grammar.specs.Text.{Text, b, if◌then◌otherwise◌, starts, join, each, digit, digit_value}
use Rattle.grammar.specs.Limits.{most_open}
use Rattle.grammar.specs.Reader.{State, Result, ok, Reader, onto, refuse, entered, find, set_depth}
use Rattle.grammar.specs.Grammar as g
use Rattle.grammar.specs.Grammar.{⟨name⟩, production, reading}
use Rattle.catalogue.specs.Bytes.{first}
use Rattle.catalogue.specs.Tree.{Ty, root, sub, print}
use Rattle.catalogue.specs.Spelling.{Pre, SpName, flat, scoped, spell_name, spell_pre, name_bytes, const_byte}
use Rattle.catalogue.specs.Class.{name_ok, resolve_pre, resolve_name, is_const}
use Rattle.catalogue.proofs.Laws.Limits.{depth_pre, depth_name}
use Rattle.agreement.specs.Laws.Verdict.{at, Verdict, reads, stops, in_onto, by_equal, in_reading, give_by, at_code_hit, at_code_miss}
use Rattle.agreement.specs.Laws.After.{After, after_ok, after_then, after_if}
use Rattle.agreement.specs.Laws.Leaves.{find_miss, clear}
use Rattle.agreement.specs.Laws.Heads.{heads, name_first, pre_heads}
use Rattle.agreement.specs.Laws.Printed.{join_snoc}
use Rattle.agreement.specs.Laws.Rooms.{texts, bytes, Room, Kept, grown_refl}
use Rattle.agreement.specs.Laws.Pushes.{kept_same, room_part}
use Rattle.agreement.specs.Laws.TypeNodes.{I_miss, unqualified_gives}
use Rattle.agreement.specs.Laws.Nested.{SaysPre, parts, ending, nested_by, ending_by, part_by, parts_end, last_part, goes_digit, name_longer}
use Rattle.agreement.specs.Laws.Spellings.{PreRead, reads_pre, name_tag, name_more}

-- the name y was read up to r with the qualifiers c; no template arguments ended it
pub data Names (y r : Text) (l : List Text) (d : ℕ) (c : Text) (K : List Text → Type 0) : Text → State → Type 0 where
  names : {a : List Text} → K a → Names y r l d c K y (at r l a d c false)

module _ {room : Type 0} {y r : Text} {l : List Text} {d : ℕ} {e : Text} {K : List Text → Type 0} where
  entered_name :
      (m : Reader Text) (r' : Text) (l' a : List Text) (c : Text) (q : Bool) → (room → d < most_open) →
      (d < most_open → Verdict room (Names y r l (d + 1) e K) (m (at r' l' a (d + 1) c q)))
      → Verdict room (Names y r l d e K) (entered m (at r' l' a d c q))
  unfolding entered onto set_depth if◌then◌otherwise◌
  entered_name m r' l' a c q w h = go (ltb d most_open) refl
    where
      leave : Text → Reader Text
      leave t = λ s. onto (λ _ u. ok t u) (set_depth d s)

      out : {o : Result Text} → Verdict room (Names y r l (d + 1) e K) o → Verdict room (Names y r l d e K) (onto leave o)
      out (reads (names k)) = reads (names k)
      out (stops k) = stops k

      go : (z : Bool) → ltb d most_open ≡ z → Verdict room (Names y r l d e K) ((if z then (λ s. onto (λ _ u. onto leave (m u)) (set_depth
          (d + 1) s)) otherwise refuse 8) (at r' l' a d c q))
      go true i = out (h (ltb-true d most_open i))
      go false i = stops (λ p. false≢true (sym i ∙ lt-ltb d most_open (w p)))

module _ {B : Type 0} {room room' : Type 0} {y r : Text} {l : List Text} {d : ℕ} {c : Text} {K : List Text → Type 0} {Q : B → State → Type 0} where
  pub name_next :
      {o : Result Text} (f : Text → Reader B) → Verdict room (Names y r l d c K) o → (room' → room) →
      ((a : List Text) → K a → Verdict room' Q (f y (at r l a d c false))) → Verdict room' Q (onto f o)
  unfolding onto
  name_next f (reads (names h)) w k = k _ h
  name_next f (stops h) w k = stops (λ p. h (w p))

-- what the qualifier of a name prints
abbrev pub qualified : Bool → Text
qualified k = each g.qualifier (const_byte k)

abbrev pub SaysName : Bool → Ty → List Ty → Text → ℕ → Result Text → Type 0
SaysName k t us r m o = Verdict (Room [] us [] 0 m (bytes t) 0 0) (Names (print t) r (texts us) 0 (qualified k) (Kept [] us [] 0 m 0 0)) o

flat_says : (n r : Text) → name_ok n ≡ true → starts r (b "I") ≡ false → starts r (b "B") ≡ false
    → SaysName false (root n) [] r 1 (reading ⟨name⟩ (at (name_bytes n ++ r) [] [] 0 [] false))
unfolding production g.name g.name_inner g.unscoped_name print texts each clear b digit digit_value if◌then◌otherwise◌
flat_says n r o e f =
    in_reading _ _ (entered_name _ _ _ _ _ _ (λ p. let z = p.deep in omega arith)
    (λ k. at_code_miss _ _ _ (find_miss (digit 10) _ (name_bytes n ++ r) (name_first n r) refl)
    (by_equal _ _ _ (unqualified_gives n r [] [] 1 [] false o f)
    (give_by _ _ _ (λ p. p.text) (at_code_miss _ _ _ (I_miss _ r e) (reads (names (kept_same [] [] 0 1 (omega arith)))))))))

scoped_says : (k : Bool) (n : Text) (t : Ty) (us : List Ty) (x r : Text) (m : ℕ) → name_ok n ≡ true → first heads x ≡ true
    → SaysPre [] us t x (name_bytes n ++ (code "E" ∷ r)) [] 1 m [] false
    → SaysName k (sub t n) us r (suc m) (reading ⟨name⟩ (at (code "N" ∷ (const_byte k ++ x)) [] [] 0 [] false))
unfolding production g.name g.name_inner print texts find starts b if◌then◌otherwise◌
scoped_says k n t us x r m o h s =
    let len = name_longer n (code "E" ∷ r) in
    let part : length (print t) ≤ length (print t ++ (b "::" ++ n)) = rw (length-append (print t) (b "::" ++ n)) (omega arith) in
    let part' : length n ≤ length (print t ++ (b "::" ++ n)) = rw (length-append (print t) (b "::" ++ n), length-append (b "::") n) (omega arith) in
    in_reading _ _ (entered_name _ _ _ _ _ _ (λ p. let z = p.deep in omega arith)
    (λ y. at_code_hit _ _ _ _ (const_byte k ++ x) refl
    (in_onto _ (nested_by (λ v u. ok v u) k x _ _ _ _ _ h
    (s Text _ _ (ending (λ v u. ok v u) k) (suc (length x)) (omega arith) (omega arith)
    (λ p. room_part _ _ _ _ _ _ _ _ _ _ p (grown_refl us) (omega arith) part)
    (λ n1 ts e c' z l1 l2 j f g.
    let j' : join (b "::") (ts ++ (n ∷ [])) ≡ print t ++ (b "::" ++ n) = join_snoc (b "::") ts n l2 ∙ ap (λ y. y ++ (b "::" ++ n)) j in
    let dp = g.deep in
    part_by _ n1 (parts ts) _ (omega arith) (goes_digit _ (name_first n (code "E" ∷ r)))
    (λ n2 y. last_part _ n us ts r e 1 c' z o (λ p. let u = p.text in omega arith)
    (parts_end _ n2 _ r _ _ _ _ _ (omega arith)
    (ending_by (λ v u. ok v u) k _ r _ _ _ _ _ (λ p. rw j' p.text)
    (rw (j', f refl) (reads (names (record { deep = omega arith; table = g.table; few = g.few; small = g.small })))))))))))))

-- ---------------------------------------------------------------- names

name_bytes_are : (k : Bool) (p : Pre) (n r : Text) → spell_name (scoped k p n) ++ r ≡ code "N" ∷ (const_byte k ++ (spell_pre p ++ (name_bytes n ++
    (code "E" ∷ r))))
name_bytes_are k p n r = simp append_assoc

abbrev pub NameRead : SpName → Text → Ty → List Ty → Type 0
NameRead m r t us = SaysName (is_const m) t us r (depth_name m) (reading ⟨name⟩ (at (spell_name m ++ r) [] [] 0 [] false))

scoped_read : (k : Bool) (p : Pre) (n r : Text) (t : Ty) (us : List Ty) → name_ok n ≡ true → PreRead p [] (name_bytes n ++ (code "E" ∷ r)) 1 t us
    → NameRead (scoped k p n) r (sub t n) us
unfolding texts
scoped_read k p n r t us o h = rw (name_bytes_are k p n r) (scoped_says k n t us _ r (depth_pre p) o (pre_heads p _) (h [] [] false))

-- every name that resolves is read, where no arguments and no tag follow it
pub reads_name : (m : SpName) (r : Text) → starts r (b "I") ≡ false → starts r (b "B") ≡ false → After (resolve_name m) (NameRead m r)
unfolding resolve_name
reads_name (flat n) r e f = after_if _ (name_ok n) _ (λ o. after_ok _ _ (NameRead (flat n) r) (flat_says n r o e f))
reads_name (scoped k p n) r e f =
    after_then (PreRead p [] (name_bytes n ++ (code "E" ∷ r)) 1) (NameRead (scoped k p n) r) (resolve_pre p []) _
    (reads_pre p [] tt (name_bytes n ++ (code "E" ∷ r)) (name_tag n _) (name_more n _) 1)
    (λ t us h. after_if _ (name_ok n) _ (λ o. after_ok _ _ (NameRead (scoped k p n) r) (scoped_read k p n r t us o h)))
