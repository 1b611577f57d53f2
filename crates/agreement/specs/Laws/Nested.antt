-- Nested names part by part: the loop over the parts, each part's step, the E, and the leading parts as a whole.
use Rattle.std.specs.Prelude.{Bool, true, false, List, [], ◌∷◌, ◌++◌, ◌≡◌, ℕ, suc, ◌+◌, ◌≤◌, ◌<◌, max, length}
use Rattle.std.proofs.Math.Option.{some}
use Rattle.std.proofs.Math.Path.{refl, ap}
use Rattle.std.proofs.Common.{◌∙◌, arith, length-append}
use Prim.Native.Char.{code}
use Rattle.std.proofs.Math.ListN.{get_elem?}
use Rattle.grammar.specs.Text.{Text, b, if◌then◌otherwise◌, choose, same, starts, holds, join, each, digit, digit_value}
use Rattle.grammar.specs.Limits.{most_open, most_text_bytes}
use Rattle.grammar.specs.Reader.{State, ok, Reader, onto, return, refuse, give, need, eat, every, go_to, steps, while, up_to_E, see, push_sub, set_args}
use Rattle.grammar.specs.Reader.{set_cv, set_templated, bytes_of}
use Rattle.grammar.specs.Grammar as g
use Rattle.grammar.specs.Grammar.{⟨template-args⟩, ⟨nested-name⟩, production, reading, Parts, last, onto_last}
use Rattle.grammar.specs.Laws.Fuel.{reading_is}
use Rattle.catalogue.specs.Bytes.{all, first}
use Rattle.catalogue.specs.Laws.Bytes.{run_of, past_of}
use Rattle.catalogue.specs.Tree.{Ty, Args, root, sub, app, print}
use Rattle.catalogue.specs.Spelling.{ref_digits, length_digits, name_bytes, const_byte}
use Rattle.catalogue.specs.Class.{name_ok, push}
use Rattle.catalogue.proofs.Laws.Count.{number_of}
use Rattle.catalogue.proofs.Laws.NormalForm.{arg_bytes}
use Rattle.agreement.specs.Laws.Verdict.{at, Verdict, next, assoc, then_by, by_equal, give_by, before_E, guarded, guarded_is, closed, closed_by, loop_on, loop_off}
use Rattle.agreement.specs.Laws.Leaves.{starts_miss}
use Rattle.agreement.specs.Laws.Heads.{heads, name_first, length_digit, some_bytes}
use Rattle.agreement.specs.Laws.Steps.{prefix_name, prefix_ref, prefix_list}
use Rattle.agreement.specs.Laws.Printed.{list_text, join_snoc, join_onto_last, length_onto_last, last_some, not_last, first_long}
use Rattle.agreement.specs.Laws.Rooms.{texts, Fits, Grown, grown_push, grown_trans, bytes, Room, Kept}
use Rattle.agreement.specs.Laws.Pushes.{enter_by, kept_same, kept_push, kept_app, room_part, room_list}
use Rattle.agreement.specs.Laws.TypeNodes.{SaysList, unqualified_gives, reference_gives}

-- ---------------------------------------------------------------- the loop

abbrev pub parts : List Text → Parts
parts ts = record { texts = ts; structor = false }

abbrev pub parts_loop : ℕ → Parts → Reader Parts
parts_loop n p = steps n before_E (guarded (g.prefix reading)) p

-- no E and no end: a part comes
pub record Goes (t : Text) : Type 0 where
  pub no_E : starts t (b "E") ≡ false
  pub some : same t [] ≡ false

pub goes_heads : (t : Text) → first heads t ≡ true → Goes t
unfolding heads digit digit_value if◌then◌otherwise◌ b
goes_heads t h = record { no_E = starts_miss heads t (b "E") h refl; some = some_bytes heads t h }

pub goes_digit : (t : Text) → first (digit 10) t ≡ true → Goes t
unfolding digit digit_value if◌then◌otherwise◌ b
goes_digit t h = record { no_E = starts_miss (digit 10) t (b "E") h refl; some = some_bytes (digit 10) t h }

pub goes_I : (t : Text) → Goes (code "I" ∷ t)
unfolding starts b same
goes_I t = record { no_E = refl; some = refl }

module _ {B : Type 0} {room : Type 0} {Q : B → State → Type 0} (K : Parts → Reader B) where
  -- one part, and the loop from there
  pub part_by :
      (n : ℕ) (p : Parts) (s : State) → 0 < n → Goes s.rest →
      ((m : ℕ) → n ≡ suc m → Verdict room Q (onto (λ y u. onto K (parts_loop m y u)) (g.prefix reading p s)))
      → Verdict room Q (onto K (parts_loop n p s))
  part_by n p s l f h =
      loop_on n before_E (guarded (g.prefix reading)) p K s l (rw f.no_E)
      (λ m e. by_equal _ _ _ (guarded_is (g.prefix reading) p s f.some) (h m e))

  pub parts_end :
      (n : ℕ) (p : Parts) (r : Text) (l a : List Text) (d : ℕ) (c : Text) (q : Bool) → 0 < n → Verdict room Q (K p (at (code "E" ∷ r) l a d c q)) →
      Verdict room Q (onto K (parts_loop n p (at (code "E" ∷ r) l a d c q)))
  unfolding starts b
  parts_end n p r l a d c q h k = loop_off n before_E (guarded (g.prefix reading)) p K _ h refl k

-- ---------------------------------------------------------------- one part

-- what each kind of part does with the text that it reads
abbrev old : List Text → Text → Reader Parts
old ts x = λ s. ok (parts (ts ++ (x ∷ []))) s

abbrev new : List Text → Text → Reader Parts
new ts x =
    λ s. onto (λ final u. onto (λ _ v. ok (parts (ts ++ (x ∷ []))) v) ((if final then return tt otherwise push_sub (join (b "::") (ts ++
    (x ∷ [])))) u)) (see "E" s)

abbrev listed : List Text → Text → Unit {0} → Reader Parts
listed ts x u = λ s. onto (λ final v. onto (λ _ w. ok (parts (onto_last x ts)) w) (set_templated final v)) (see "E" s)

abbrev args : List Text → Text → Reader Parts
args ts x = λ s. onto (listed ts x) (choose (last ts) (λ _. push_sub (join (b "::") (onto_last x ts))) (refuse 4) s)

module _ (ts : List Text) (x : Text) (l a : List Text) (d : ℕ) (c : Text) (q : Bool) where
  new_more : (r : Text) → starts r (b "E") ≡ false
      → new ts x (at r l a d c q) ≡ onto (λ _ v. ok (parts (ts ++ (x ∷ []))) v) (push_sub (join (b "::") (ts ++ (x ∷ []))) (at r l a d c q))
  unfolding see onto if◌then◌otherwise◌
  new_more r h = rw h

  new_last : (r : Text) → new ts x (at (code "E" ∷ r) l a d c q) ≡ ok (parts (ts ++ (x ∷ []))) (at (code "E" ∷ r) l a d c q)
  unfolding see onto if◌then◌otherwise◌ starts b
  new_last r = refl

  listed_is : (r : Text) → listed ts x tt (at r l a d c q) ≡ ok (parts (onto_last x ts)) (at r l a d c (starts r (b "E")))
  unfolding see onto set_templated
  listed_is r = refl

  args_is : (r y : Text) → last ts ≡ some y → args ts x (at r l a d c q) ≡ onto (listed ts x) (push_sub (join (b "::") (onto_last x ts))
      (at r l a d c q))
  unfolding choose
  args_is r y h = rw h

prefix_args_is : (ts : List Text) (t : Text) (l a : List Text) (d : ℕ) (c : Text) (q : Bool)
    → g.prefix_args reading (parts ts) (at t l a d c q) ≡ onto (args ts) (reading ⟨template-args⟩ (at t l [] d c q))
unfolding g.prefix_args g.name_args onto set_args
prefix_args_is ts t l a d c q = refl

module _ {B : Type 0} {room : Type 0} {Q : B → State → Type 0} (K : Parts → Reader B) where
  pub ref_part :
      (i : ℕ) (t : Ty) (us : List Ty) (ts : List Text) (r : Text) (a : List Text) (d : ℕ) (c : Text) (q : Bool) → get_elem? us i ≡ some t →
      (room → bytes t ≤ most_text_bytes) → Verdict room Q (K (parts (ts ++ (print t ∷ []))) (at r (texts us) a d c q)) →
      Verdict room Q (onto K (g.prefix reading (parts ts) (at (code "S" ∷ (ref_digits i ++ (code "_" ∷ r))) (texts us) a d c q)))
  unfolding g.old_prefix
  ref_part i t us ts r a d c q e w h =
      by_equal K _ (onto (old ts) (give (print t) (at r (texts us) a d c q)))
      (prefix_ref (parts ts) (texts us) a d c q (ref_digits i ++ (code "_" ∷ r)) ∙ ap (onto (old ts)) (reference_gives i us t r a d c q e))
      (assoc (old ts) K _ (give_by _ _ _ w (then_by K _ _ h)))

  -- a part before others: an entry
  pub name_part :
      (n : Text) (u : Ty) (us : List Ty) (ts : List Text) (r : Text) (a : List Text) (d : ℕ) (c : Text) (q : Bool) → name_ok n ≡ true →
      starts r (b "B") ≡ false → starts r (b "E") ≡ false → join (b "::") (ts ++ (n ∷ [])) ≡ print u → (room → length n ≤ most_text_bytes) →
      (room → Fits (push u us)) → (Fits (push u us) → Verdict room Q (K (parts (ts ++ (n ∷ []))) (at r (texts (push u us)) a d c q))) →
      Verdict room Q (onto K (g.prefix reading (parts ts) (at (name_bytes n ++ r) (texts us) a d c q)))
  unfolding g.new_prefix
  name_part n u us ts r a d c q o tag more e w v h =
      by_equal K _ (onto (new ts) (give n (at r (texts us) a d c q)))
      (prefix_name (parts ts) (texts us) a d c q (name_bytes n ++ r) (name_first n r) ∙ ap (onto (new ts)) (unqualified_gives n r
      (texts us) a d c q o tag))
      (assoc (new ts) K _ (give_by _ _ _ w
      (by_equal K _ _ (new_more ts n (texts us) a d c q r more)
      (assoc (λ _ v. ok (parts (ts ++ (n ∷ []))) v) K _ (rw e (enter_by u us _ _ _ _ _ _ v (λ f. then_by K _ _ (h f))))))))

  -- the last part: no entry
  pub last_part :
      (n : Text) (us : List Ty) (ts : List Text) (r : Text) (a : List Text) (d : ℕ) (c : Text) (q : Bool) → name_ok n ≡ true →
      (room → length n ≤ most_text_bytes) → Verdict room Q (K (parts (ts ++ (n ∷ []))) (at (code "E" ∷ r) (texts us) a d c q)) →
      Verdict room Q (onto K (g.prefix reading (parts ts) (at (name_bytes n ++ (code "E" ∷ r)) (texts us) a d c q)))
  unfolding g.new_prefix starts b
  last_part n us ts r a d c q o w h =
      by_equal K _ (onto (new ts) (give n (at (code "E" ∷ r) (texts us) a d c q)))
      (prefix_name (parts ts) (texts us) a d c q (name_bytes n ++ (code "E" ∷ r)) (name_first n (code "E" ∷ r))
      ∙ ap (onto (new ts)) (unqualified_gives n (code "E" ∷ r) (texts us) a d c q o refl))
      (assoc (new ts) K _ (give_by _ _ _ w (by_equal K _ _ (new_last ts n (texts us) a d c q r) (then_by K _ _ h))))

  -- arguments behind a part: an entry
  pub list_part :
      (xs : Args) (u : Ty) (vs ws : List Ty) (ts : List Text) (x r : Text) (a : List Text) (d m : ℕ) (c : Text) (q : Bool) →
      1 ≤ length ts → join (b "::") (onto_last (list_text xs) ts) ≡ print u →
      SaysList vs ws xs r [] d m (reading ⟨template-args⟩ (at (code "I" ∷ x) (texts vs) [] d c q)) →
      (room → Room vs ws [] d (suc m) (length (list_text xs)) (number_of xs) (arg_bytes xs)) → (room → Fits (push u ws)) →
      ((e : List Text) (c' : Text) → Kept vs ws [] d (suc m) (number_of xs) (arg_bytes xs) e → Fits (push u ws) →
      Verdict room Q (K (parts (onto_last (list_text xs) ts)) (at r (texts (push u ws)) e d c' (starts r (b "E"))))) →
      Verdict room Q (onto K (g.prefix reading (parts ts) (at (code "I" ∷ x) (texts vs) a d c q)))
  list_part xs u vs ws ts x r a d m c q l e s w v h =
      let y = last_some ts l in
      by_equal K _ (onto (args ts) (reading ⟨template-args⟩ (at (code "I" ∷ x) (texts vs) [] d c q)))
      (prefix_list (parts ts) (texts vs) a d c q x ∙ prefix_args_is ts (code "I" ∷ x) (texts vs) a d c q)
      (assoc (args ts) K _ (next _ s w
      (λ z c' q' k.
      by_equal K _ _ (args_is ts (list_text xs) (texts ws) z d c' q' r y.0 y.1)
      (assoc (listed ts (list_text xs)) K _ (rw e (enter_by u ws _ _ _ _ _ _ v
      (λ f. by_equal K _ _ (listed_is ts (list_text xs) (texts (push u ws)) z d c' q' r) (then_by K _ _ (h z c' k f)))))))))

-- ---------------------------------------------------------------- N .. E

-- no qualifier stands here
pub no_qualifier : (t : Text) → first heads t ≡ true → first (λ x. holds x (b "KVrRO")) t ≡ false
unfolding heads digit digit_value if◌then◌otherwise◌ holds b
no_qualifier [] h = refl
no_qualifier (x ∷ t) h =
    rw (not_last heads 75 x refl h, not_last heads 86 x refl h, not_last heads 114 x refl h, not_last heads 82 x refl h, not_last heads 79 x refl h)

const_qualifies : (k : Bool) → all (λ x. holds x (b "KVrRO")) (const_byte k) ≡ true
unfolding holds b
const_qualifies true = refl
const_qualifies false = refl

-- behind the E: the qualifiers' text is kept, the parts' text returned
abbrev pub finish : Bool → Parts → Reader Text
finish k p =
    λ s. onto (λ _ u. onto (λ _. give (join (b "::") p.texts)) ((if p.structor then set_templated false otherwise return tt) u)) (set_cv
    (each g.qualifier (const_byte k)) s)

nested_name_is : (k : Bool) (x : Text) (l a : List Text) (d : ℕ) (c : Text) (q : Bool) → first heads x ≡ true
    → reading ⟨nested-name⟩ (at (code "N" ∷ (const_byte k ++ x)) l a d c q)
    ≡ onto (finish k) (onto closed (parts_loop (suc (length x)) (parts []) (at x l a d c q)))
unfolding production g.nested_name need eat every onto go_to up_to_E while starts b if◌then◌otherwise◌
nested_name_is k x l a d c q h =
    rw (
      reading_is ⟨nested-name⟩ (at (code "N" ∷ (const_byte k ++ x)) l a d c q),
      run_of (λ y. holds y (b "KVrRO")) (const_byte k) x (const_qualifies k) (no_qualifier x h),
      past_of (λ y. holds y (b "KVrRO")) (const_byte k) x (const_qualifies k) (no_qualifier x h),
    )

-- what comes when the parts are read
abbrev pub ending : {B : Type 0} → (Text → Reader B) → Bool → Parts → Reader B
ending F k p = λ s. onto (λ y u. onto F (finish k y u)) (closed p s)

finish_is : (k : Bool) (ts : List Text) (r : Text) (l a : List Text) (d : ℕ) (c : Text) (q : Bool)
    → finish k (parts ts) (at r l a d c q) ≡ give (join (b "::") ts) (at r l a d (each g.qualifier (const_byte k)) q)
unfolding onto set_cv if◌then◌otherwise◌
finish_is k ts r l a d c q = refl

module _ {B : Type 0} {room : Type 0} {Q : B → State → Type 0} (F : Text → Reader B) where
  pub nested_by :
      (k : Bool) (x : Text) (l a : List Text) (d : ℕ) (c : Text) (q : Bool) → first heads x ≡ true →
      Verdict room Q (onto (ending F k) (parts_loop (suc (length x)) (parts []) (at x l a d c q))) →
      Verdict room Q (onto F (reading ⟨nested-name⟩ (at (code "N" ∷ (const_byte k ++ x)) l a d c q)))
  nested_by k x l a d c q f h =
      by_equal F _ _ (nested_name_is k x l a d c q f) (assoc (finish k) F _ (assoc closed _ _ h))

  pub ending_by :
      (k : Bool) (ts : List Text) (r : Text) (l a : List Text) (d : ℕ) (c : Text) (q : Bool) → (room → length (join (b "::") ts) ≤ most_text_bytes) →
      Verdict room Q (F (join (b "::") ts) (at r l a d (each g.qualifier (const_byte k)) q))
      → Verdict room Q (ending F k (parts ts) (at (code "E" ∷ r) l a d c q))
  ending_by k ts r l a d c q w h = closed_by _ _ _ _ _ _ _ _ (by_equal F _ _ (finish_is k ts r l a d c q) (give_by _ _ _ w h))

-- ---------------------------------------------------------------- leading parts

pub name_longer : (n r : Text) → length r < length (name_bytes n ++ r)
name_longer n r = let k = first_long (digit 10) (length_digits n) (length_digit n) in simp length-append (omega arith)

pub nothing : (e : List Text) → bytes_of [] ≤ bytes_of e
unfolding bytes_of
nothing e = omega arith

-- Leading parts at the front of x, up to r: whatever loop goes on from there, with the parts' texts joined to t's.
abbrev pub SaysPre : List Ty → List Ty → Ty → Text → Text → List Text → ℕ → ℕ → Text → Bool → Type 1
SaysPre us vs t x r a d m c q =
    (B room : Type 0) (Q : B → State → Type 0) (K : Parts → Reader B) (n : ℕ) → length x < n → d ≤ most_open → (room
    → Room us vs a d m (bytes t) 0 0) →
    ((n' : ℕ) (ts e : List Text) (c' : Text) (z : Bool) → length r < n' → 1 ≤ length ts → join (b "::") ts ≡ print t → (q ≡ false → z ≡ false) →
    Kept us vs a d m 0 0 e → Verdict room Q (onto K (parts_loop n' (parts ts) (at r (texts vs) e d c' z)))) →
    Verdict room Q (onto K (parts_loop n (parts []) (at x (texts us) a d c q)))

pub pre_ref_says : (i : ℕ) (t : Ty) (us : List Ty) (r : Text) (a : List Text) (d : ℕ) (c : Text) (q : Bool) → get_elem? us i ≡ some t
    → SaysPre us us t (code "S" ∷ (ref_digits i ++ (code "_" ∷ r))) r a d 0 c q
unfolding heads join digit digit_value if◌then◌otherwise◌
pre_ref_says i t us r a d c q e B room Q K n l h w k =
    let len : length r < length (ref_digits i ++ (code "_" ∷ r)) = rw (length-append (ref_digits i) (code "_" ∷ r)) (omega arith) in
    part_by K n (parts []) _ (omega arith) (goes_heads _ refl)
    (λ m j. ref_part _ i t us [] r a d c q e (λ p. (w p).text)
    (k m (print t ∷ []) a c q (omega arith) (omega arith) refl (λ z. z) (kept_same us a d 0 (omega arith))))

pub pre_root_says : (n : Text) (us : List Ty) (r : Text) (a : List Text) (d : ℕ) (c : Text) (q : Bool) → name_ok n ≡ true → starts r (b "B") ≡ false
    → starts r (b "E") ≡ false → SaysPre us (push (root n) us) (root n) (name_bytes n ++ r) r a d 0 c q
unfolding join print
pre_root_says n us r a d c q o tag more B room Q K n' l h w k =
    let len = name_longer n r in
    part_by K n' (parts []) _ (omega arith) (goes_digit _ (name_first n r))
    (λ m j. name_part _ n (root n) us [] r a d c q o tag more refl (λ p. (w p).text) (λ p. (w p).table)
    (λ f. k m (n ∷ []) a c q (omega arith) (omega arith) refl (λ z. z)
    (kept_push (root n) us us a a d 0 d 0 refl refl (kept_same us a d 0 (omega arith)) (omega arith) f)))

pub pre_sub_says : (n : Text) (t : Ty) (us vs : List Ty) (x r : Text) (a : List Text) (d m : ℕ) (c : Text) (q : Bool) → name_ok n ≡ true
    → starts r (b "B") ≡ false → starts r (b "E") ≡ false
    → SaysPre us vs t x (name_bytes n ++ r) a d m c q → SaysPre us (push (sub t n) vs) (sub t n) x r a d m c q
unfolding print
pre_sub_says n t us vs x r a d m c q o tag more s B room Q K n' l h w k =
    let len = name_longer n r in
    let part : length (print t) ≤ length (print t ++ (b "::" ++ n)) = rw (length-append (print t) (b "::" ++ n)) (omega arith) in
    let part' : length n ≤ length (print t ++ (b "::" ++ n)) = rw (length-append (print t) (b "::" ++ n), length-append (b "::") n) (omega arith) in
    s B room Q K n' l h (λ p. room_part _ _ _ _ _ _ _ _ _ _ (w p) (grown_push (sub t n) vs) (omega arith) part)
    (λ n1 ts e c' z l1 l2 j f g.
    let more_parts : length (ts ++ (n ∷ [])) ≡ length ts + 1 = rw (length-append ts (n ∷ [])) refl in
    let j' : join (b "::") (ts ++ (n ∷ [])) ≡ print t ++ (b "::" ++ n) = join_snoc (b "::") ts n l2 ∙ ap (λ y. y ++ (b "::" ++ n)) j in
    part_by K n1 (parts ts) _ (omega arith) (goes_digit _ (name_first n r))
    (λ m' i. name_part _ n (sub t n) vs ts r e d c' z o tag more j' (λ p. let y = (w p).text in omega arith) (λ p. (w p).table)
    (λ y. k m' (ts ++ (n ∷ [])) e c' z (omega arith) (omega arith) j' f (kept_push (sub t n) us vs a e d m d m refl refl g g.deep y))))

pub pre_app_says : (t : Ty) (xs : Args) (us vs ws : List Ty) (x y r : Text) (a : List Text) (d m m' : ℕ) (c : Text) (q : Bool)
    → starts r (b "E") ≡ false
    → length r < length y → Grown vs ws
    → SaysPre us vs t x (code "I" ∷ y) a d m c q
    → ((c' : Text) (z : Bool) → SaysList vs ws xs r [] d m' (reading ⟨template-args⟩ (at (code "I" ∷ y) (texts vs) [] d c' z)))
    → SaysPre us (push (app t xs) ws) (app t xs) x r a d (max m (suc m')) c q
unfolding print
pre_app_says t xs us vs ws x y r a d m m' c q more len gr s h B room Q K n l o' w k =
    let part : length (print t) ≤ length (print t ++ list_text xs) = rw (length-append (print t) (list_text xs)) (omega arith) in
    let part' : length (list_text xs) ≤ length (print t ++ list_text xs) = rw (length-append (print t) (list_text xs)) (omega arith) in
    s B room Q K n l o' (λ p. room_part _ _ _ _ _ _ _ _ _ _ (w p) (grown_trans vs ws _ gr (grown_push (app t xs) ws)) (omega arith) part)
    (λ n1 ts e c' z l1 l2 j f g.
    let j' : join (b "::") (onto_last (list_text xs) ts) ≡ print t ++ list_text xs = join_onto_last (b "::") (list_text xs) ts l2 ∙ ap
    (λ v. v ++ list_text xs) j in
    let same_parts = length_onto_last (list_text xs) ts in
    part_by K n1 (parts ts) _ (omega arith) (goes_I y)
    (λ n2 i. list_part _ xs (app t xs) vs ws ts y r e d m' c' z l2 j' (h c' z)
    (λ p. room_list t xs us vs ws a e [] d (max m (suc m')) _ d m d (suc m') (w p) g (omega arith) (nothing e) (grown_push (app t xs) ws)
    (omega arith) part')
    (λ p. (w p).table)
    (λ u c'' o fit.
    let dp = g.deep in
    let dp' = o.deep in
    k n2 (onto_last (list_text xs) ts) u c'' (starts r (b "E")) (omega arith) (omega arith) j' (λ _. more)
    (kept_app t xs us vs ws a e [] u d m d (suc m') d (max m (suc m')) g (omega arith) (nothing e) o (omega arith) fit))))
