-- Template arguments: a literal, an argument behind others, and a list I .. E, from what is said of the types in it.
use Rattle.std.specs.Prelude.{Bool, true, false, not, List, [], ◌∷◌, ◌++◌, ◌≡◌, ℕ, suc, ◌+◌, ◌≤◌, ◌<◌, max, length, eqb}
use Rattle.std.proofs.lemmas.Bool.{false≢true}
use Rattle.std.proofs.Common.{append_assoc, sym, arith, length-append, ne_eqb}
use Rattle.std.proofs.Math.Path.{refl}
use Prim.Native.Char.{code}
use Rattle.grammar.specs.Text.{Text, b, if◌then◌otherwise◌, choose, same, starts, holds, digit}
use Rattle.grammar.specs.Limits.{most_open, most_text_bytes}
use Rattle.grammar.specs.Tables.{◌⇒◌, letters, suffixes}
use Rattle.grammar.specs.Reader.{State, ok, Reader, onto, every, go_to, steps, word_for, push_arg, fits}
use Rattle.grammar.specs.Grammar as g
use Rattle.grammar.specs.Grammar.{⟨template-args⟩, ⟨template-arg⟩, production, reading}
use Rattle.catalogue.specs.Bytes.{all, first, and_left, and_right, and_both}
use Rattle.catalogue.specs.Laws.Bytes.{run_of, past_of}
use Rattle.catalogue.specs.Tree.{Letter, Kind, Ty, Args, lb, li, lj, ll, lm, kb, ki, kj, kl, km, lit, one, also, letter_code, kind_code, word, literal, print, print_args}
use Rattle.catalogue.specs.Laws.Numbers.{digit_low}
use Rattle.catalogue.specs.Spelling.{minus}
use Rattle.catalogue.specs.Class.{lit_ok}
use Rattle.catalogue.proofs.Laws.NormalForm.{arg_bytes, nbytes}
use Rattle.catalogue.specs.Laws.WellFormed.{WfArgs}
use Rattle.catalogue.proofs.Laws.Count.{number_of, nargs}
use Rattle.agreement.specs.Laws.Verdict.{at, Verdict, gives, next, assoc, then_by, by_equal, weaken, gives_as, before_E, guarded, guarded_is, closed}
use Rattle.agreement.specs.Laws.Verdict.{closed_by, up_to_E_is, in_reading, give_end, need_by, byte_E, byte_I, byte_L, entered_by, by_code_miss}
use Rattle.agreement.specs.Laws.Verdict.{push_arg_by, step_on, step_off}
use Rattle.agreement.specs.Laws.Leaves.{find_miss, clear, starts_miss}
use Rattle.agreement.specs.Laws.Heads.{opens, some_bytes}
use Rattle.agreement.specs.Laws.Steps.{literal_arg_by}
use Rattle.agreement.specs.Laws.Printed.{items, list_text, angled_items, lit_numeral}
use Rattle.agreement.specs.Laws.Rooms.{texts, Grown, sum_grown, fits_grown, bytes, bytes_snoc, fits_list, Room, Kept}
use Rattle.agreement.specs.Laws.TypeNodes.{Says, SaysList, SaysItems, letter_says}

-- ---------------------------------------------------------------- literals

-- the letter of a literal's type
abbrev letter_of : Kind → Letter
letter_of kb = lb
letter_of ki = li
letter_of kj = lj
letter_of kl = ll
letter_of km = lm

kind_code_is : (k : Kind) → kind_code k ≡ letter_code (letter_of k)
kind_code_is kb = refl
kind_code_is ki = refl
kind_code_is kj = refl
kind_code_is kl = refl
kind_code_is km = refl

-- not the _ of L_
abbrev not_line : ℕ → Bool
not_line x = not (eqb x (code "_"))

kind_line : (k : Kind) → not_line (letter_code (letter_of k)) ≡ true
kind_line kb = refl
kind_line ki = refl
kind_line kj = refl
kind_line kl = refl
kind_line km = refl

kind_short : (k : Kind) → length (word (letter_of k)) ≤ most_text_bytes
unfolding word word_for letters choose same b if◌then◌otherwise◌
kind_short kb = omega arith
kind_short ki = omega arith
kind_short kj = omega arith
kind_short kl = omega arith
kind_short km = omega arith

-- not the E that closes
abbrev not_E : ℕ → Bool
not_E x = not (eqb x (code "E"))

digit_not_E : (x : ℕ) → digit 10 x ≡ true → not_E x ≡ true
digit_not_E x h = let k = digit_low x h in let k1 = k.1 in rw (ne_eqb x 69 (λ e. omega arith))

digits_not_E : (v : Text) → all (digit 10) v ≡ true → all not_E v ≡ true
digits_not_E [] h = refl
digits_not_E (x ∷ v) h =
    and_both (not_E x) (all not_E v) (digit_not_E x (and_left (digit 10 x) (all (digit 10) v) h)) (digits_not_E v (and_right (digit 10 x)
    (all (digit 10) v) h))

minus_not_E : (g : Bool) (v : Text) → all (digit 10) v ≡ true → all not_E (minus g ++ v) ≡ true
minus_not_E true v h = digits_not_E v h
minus_not_E false v h = digits_not_E v h

-- the grammar's text of the value
no_minus : (v : Text) → all (digit 10) v ≡ true → starts v (b "n") ≡ false
unfolding starts b
no_minus [] h = refl
no_minus (x ∷ v) h =
    let k = digit_low x (and_left (digit 10 x) (all (digit 10) v) h) in
    let k1 = k.1 in
    rw (ne_eqb x 110 (λ e. omega arith))

literal_is : (k : Kind) (s : Bool) (v : Text) → lit_ok k s v ≡ true → g.literal (word (letter_of k)) (minus s ++ v) ≡ literal k s v
unfolding g.literal word word_for letters suffixes choose same lit_ok if◌then◌otherwise◌ b
literal_is kb true v h = absurd (false≢true h)
literal_is kb false v h = rw (no_minus v (lit_numeral kb false v h))
literal_is ki true v h = unfold starts in refl
literal_is ki false v h = rw (no_minus v (lit_numeral ki false v h))
literal_is kj true v h = absurd (false≢true h)
literal_is kj false v h = rw (no_minus v (lit_numeral kj false v h))
literal_is kl true v h = unfold starts in refl
literal_is kl false v h = rw (no_minus v (lit_numeral kl false v h))
literal_is km true v h = absurd (false≢true h)
literal_is km false v h = rw (no_minus v (lit_numeral km false v h))

line_clear : {A : Type 0} (x : A) → clear not_line ("_" ⇒ x ∷ []) ≡ true
unfolding clear b
line_clear x = refl

-- L, the type's letter, the value, E
pub literal_says : (k : Kind) (s : Bool) (v : Text) (us : List Ty) (r : Text) (a : List Text) (d : ℕ) (c : Text) (q : Bool) → lit_ok k s v ≡ true
    → Says us us (lit k s v) r a d 1 (reading ⟨template-arg⟩ (at (code "L" ∷ kind_code k ∷ (minus s ++ (v ++ (code "E" ∷ r)))) (texts us) a d c q))
unfolding production print g.expr_primary every onto go_to
literal_says k s v us r a d c q h =
    let ne = minus_not_E s v (lit_numeral k s v h) in
    literal_arg_by _ _ _ _ _ _
    (in_reading _ _
    (need_by "L" _ _ _ _ _ _ _ _ byte_L
    (rw (kind_code_is k, sym (append_assoc (minus s) v (code "E" ∷ r)))
    (by_code_miss _ _ _ _ (find_miss not_line _ _ (kind_line k) (line_clear _))
    (next _ (letter_says (letter_of k) us ((minus s ++ v) ++ (code "E" ∷ r)) a d c q)
    (λ p. record { table = p.table; deep = p.deep; text = kind_short k; few = p.few; small = p.small })
    (λ e c' q' j.
    rw (run_of not_E (minus s ++ v) (code "E" ∷ r) ne refl, past_of not_E (minus s ++ v) (code "E" ∷ r) ne refl)
    (need_by "E" _ _ _ _ _ _ _ _ byte_E
    (rw (literal_is k s v h) (give_end _ _ (λ p. p.text) (gives j))))))))))

-- ---------------------------------------------------------------- arguments one behind the other

abbrev pushed : Text → Reader Text
pushed t = λ u. onto (λ _ v. ok t v) (push_arg t u)

abbrev pub behind : List Text → Text → Reader (List Text)
behind l t = λ u. ok (l ++ (t ∷ [])) u

abbrev pub one_arg : List Text → Reader (List Text)
one_arg l = λ s. onto (behind l) (onto pushed (reading ⟨template-arg⟩ s))

abbrev pub args_loop : ℕ → List Text → Reader (List Text)
args_loop n l = steps n before_E (guarded one_arg) l

pub loops_on : (t : Text) → first opens t ≡ true → (before_E t ≡ true) × (same t [] ≡ false)
unfolding opens holds b
loops_on t h = (rw (starts_miss opens t (b "E") h refl), some_bytes opens t h)

-- the first argument of a list, with room for the rest
arg_fits : (t : Ty) (xs : Args) (us vs ws : List Ty) (a e : List Text) (d m len d' m' : ℕ)
    → Room us ws a d m len (suc (number_of xs)) (bytes t + arg_bytes xs)
    → Kept us vs a d' m' 0 0 e → Grown vs ws → fits (e ++ (print t ∷ [])) ≡ true
arg_fits t xs us vs ws a e d m len d' m' r k gr =
    let x = sum_grown nargs vs ws gr in
    let y = sum_grown nbytes vs ws gr in
    let z1 = r.few in
    let z2 = r.small in
    let z3 = k.few in
    let z4 = k.small in
    let z5 = length-append e (print t ∷ []) in
    let z6 = bytes_snoc e (print t) in
    fits_list (e ++ (print t ∷ [])) (omega arith) (omega arith)

last_fits : (t : Ty) (us vs : List Ty) (a e : List Text) (d m len d' m' : ℕ) → Room us vs a d m len 1 (bytes t)
    → Kept us vs a d' m' 0 0 e → fits (e ++ (print t ∷ [])) ≡ true
last_fits t us vs a e d m len d' m' r k =
    let z1 = r.few in
    let z2 = r.small in
    let z3 = k.few in
    let z4 = k.small in
    let z5 = length-append e (print t ∷ []) in
    let z6 = bytes_snoc e (print t) in
    fits_list (e ++ (print t ∷ [])) (omega arith) (omega arith)

last_kept : (t : Ty) (us vs : List Ty) (a e : List Text) (d m : ℕ) → Kept us vs a d m 0 0 e → Kept us vs a d m 1 (bytes t) (e ++ (print t ∷ []))
last_kept t us vs a e d m k =
    let z3 = k.few in
    let z4 = k.small in
    let z5 = length-append e (print t ∷ []) in
    let z6 = bytes_snoc e (print t) in
    record { deep = k.deep; table = k.table; few = omega arith; small = omega arith }

first_room : (t : Ty) (xs : Args) (us vs ws : List Ty) (a : List Text) (d m m' len : ℕ) → m ≤ m' → bytes t ≤ len
    → Room us ws a d m' len (suc (number_of xs)) (bytes t + arg_bytes xs) → Grown vs ws → Room us vs a d m (bytes t) 0 0
first_room t xs us vs ws a d m m' len h l r gr =
    let x = sum_grown nargs vs ws gr in
    let y = sum_grown nbytes vs ws gr in
    let z1 = r.few in
    let z2 = r.small in
    let z3 = r.deep in
    let z4 = r.text in
    record { table = fits_grown vs ws gr r.table; deep = omega arith; text = omega arith; few = omega arith; small = omega arith }

rest_room : (t : Ty) (xs : Args) (us vs ws : List Ty) (a e : List Text) (d m m' m'' len len' : ℕ) → m' ≤ m'' → len' ≤ len
    → Room us ws a d m'' len (suc (number_of xs)) (bytes t + arg_bytes xs) → Kept us vs a d m 0 0 e → Grown vs ws
    → Room vs ws (e ++ (print t ∷ [])) d m' len' (number_of xs) (arg_bytes xs)
rest_room t xs us vs ws a e d m m' m'' len len' h l r k gr =
    let z1 = r.few in
    let z2 = r.small in
    let z3 = r.deep in
    let z4 = r.text in
    let z5 = k.few in
    let z6 = k.small in
    let z7 = length-append e (print t ∷ []) in
    let z8 = bytes_snoc e (print t) in
    record { table = r.table; deep = omega arith; text = omega arith; few = omega arith; small = omega arith }

also_kept : (t : Ty) (xs : Args) (us vs ws : List Ty) (a e g : List Text) (d m m' m'' : ℕ) → d + m'' ≤ most_open → Kept us vs a d m 0 0 e
    → Kept vs ws (e ++ (print t ∷ [])) d m' (number_of xs) (arg_bytes xs) g → Kept us ws a d m'' (suc (number_of xs)) (bytes t + arg_bytes xs) g
also_kept t xs us vs ws a e g d m m' m'' h k j =
    let z1 = k.few in
    let z2 = k.small in
    let z3 = j.few in
    let z4 = j.small in
    let z7 = length-append e (print t ∷ []) in
    let z8 = bytes_snoc e (print t) in
    record { deep = h; table = λ f. j.table (k.table f); few = omega arith; small = omega arith }

module _ {B : Type 0} {room : Type 0} {Q : B → State → Type 0} where
  pushed_by :
      (t : Text) (K : Text → Reader B) (r : Text) (l a : List Text) (d : ℕ) (c : Text) (q : Bool) → (room → fits (a ++ (t ∷ [])) ≡ true) →
      Verdict room Q (K t (at r l (a ++ (t ∷ [])) d c q)) → Verdict room Q (onto K (pushed t (at r l a d c q)))
  pushed_by t K r l a d c q w h = assoc (λ _ v. ok t v) K _ (push_arg_by _ _ _ _ _ _ _ _ w (then_by K t _ h))

  item_by :
      (K : List Text → Reader B) (t : Ty) (us vs : List Ty) (l : List Text) (x r : Text) (a : List Text) (d m : ℕ) (c : Text) (q : Bool)
      → same x [] ≡ false →
      Says us vs t r a d m (reading ⟨template-arg⟩ (at x (texts us) a d c q)) → (room → Room us vs a d m (bytes t) 0 0) →
      ((e : List Text) → Kept us vs a d m 0 0 e → room → fits (e ++ (print t ∷ [])) ≡ true) →
      ((e : List Text) (c' : Text) (q' : Bool) → Kept us vs a d m 0 0 e
      → Verdict room Q (K (l ++ (print t ∷ [])) (at r (texts vs) (e ++ (print t ∷ [])) d c' q'))) →
      Verdict room Q (onto K (guarded one_arg l (at x (texts us) a d c q)))
  item_by K t us vs l x r a d m c q z s w v h =
      by_equal K _ _ (guarded_is one_arg l (at x (texts us) a d c q) z)
      (assoc (behind l) K _ (assoc pushed _ _ (next _ s w
      (λ e c' q' k. pushed_by (print t) _ r (texts vs) e d c' q' (v e k) (then_by K _ _ (h e c' q' k))))))

pub one_says : (t : Ty) (us vs : List Ty) (l : List Text) (x r : Text) (n : ℕ) (a : List Text) (d m : ℕ) (c : Text) (q : Bool)
    → first opens x ≡ true → 1 < n
    → Says us vs t (code "E" ∷ r) a d m (reading ⟨template-arg⟩ (at x (texts us) a d c q))
    → SaysItems us vs (one t) l r a d m (args_loop n l (at x (texts us) a d c q))
unfolding print items arg_bytes starts b
one_says t us vs l x r n a d m c q f u s =
    let o = loops_on x f in
    step_on _ _ _ _ _ (omega arith) o.0
    (λ n' i. item_by (args_loop n') t us vs l x (code "E" ∷ r) a d m c q o.1 s
    (λ p. record { table = p.table; deep = p.deep; text = p.text; few = omega (arith, p.few); small = omega (arith, p.small) })
    (λ e k p. last_fits t us vs a e d m _ d m p k)
    (λ e c' q' k. step_off _ _ _ _ _ (omega arith) refl (gives (last_kept t us vs a e d m k))))

pub also_says : (t : Ty) (xs : Args) (us vs ws : List Ty) (l : List Text) (x y r : Text) (n : ℕ) (a : List Text) (d m m' : ℕ) (c : Text)
    (q : Bool) → first opens x ≡ true
    → length y + 1 < n → Grown vs ws
    → Says us vs t y a d m (reading ⟨template-arg⟩ (at x (texts us) a d c q))
    → ((n' : ℕ) (e : List Text) (c' : Text) (q' : Bool) → length y < n'
    → SaysItems vs ws xs (l ++ (print t ∷ [])) r e d m' (args_loop n' (l ++ (print t ∷ [])) (at y (texts vs) e d c' q')))
    → SaysItems us ws (also t xs) l r a d (max m m') (args_loop n l (at x (texts us) a d c q))
unfolding print items arg_bytes
also_says t xs us vs ws l x y r n a d m m' c q f u gr s h =
    let o = loops_on x f in
    step_on _ _ _ _ _ (omega arith) o.0
    (λ n' i. item_by (args_loop n') t us vs l x y a d m c q o.1 s
    (λ p. first_room t xs us vs ws a d m (max m m') _ (omega arith) (simp length-append (omega arith)) p gr)
    (λ e k p. arg_fits t xs us vs ws a e d _ _ d m p k gr)
    (λ e c' q' k. weaken (h n' (e ++ (print t ∷ [])) c' q' (omega arith))
    (λ p. rest_room t xs us vs ws a e d m m' (max m m') _ _ (omega arith) (simp length-append (omega arith)) p k gr)
    (gives_as _ _ (append_assoc l (print t ∷ []) (items xs)) (λ g j. also_kept t xs us vs ws a e g d m m' (max m m') (omega
    (arith, k.deep, j.deep)) k j))))

-- ---------------------------------------------------------------- a list

pub list_says : (xs : Args) (us ws : List Ty) (x r : Text) (a : List Text) (d m : ℕ) (c : Text) (q : Bool) → WfArgs xs
    → SaysItems us ws xs [] r a (d + 1) m (args_loop (suc (length x)) [] (at x (texts us) a (d + 1) c q))
    → SaysList us ws xs r a d m (reading ⟨template-args⟩ (at (code "I" ∷ x) (texts us) a d c q))
unfolding production g.template_args
list_says xs us ws x r a d m c q f h =
    let len : length (print_args xs) ≤ length (list_text xs) = simp length-append (omega arith) in
    in_reading _ _
    (need_by "I" _ _ _ _ _ _ _ _ byte_I
    (entered_by _ _ _ _ _ _ (λ p. let z = p.deep in omega arith)
    (λ k. by_equal _ _ _ (up_to_E_is one_arg [] (at x (texts us) a (d + 1) c q))
    (assoc closed _ _
    (next _ h (λ p. record { table = p.table; deep = omega (arith, p.deep); text = omega (arith, p.text, len); few = p.few; small = p.small })
    (λ e c' q' j. closed_by _ _ r _ _ _ _ _
    (rw (angled_items xs f)
    (give_end _ _ (λ p. p.text)
    (gives (record { deep = omega (arith, j.deep); table = j.table; few = j.few; small = j.small }))))))))))
