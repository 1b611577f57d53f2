-- The texts of well-formed trees as the grammar handles them: joined parts, lists between < and >, and no byte 1 in any of them.
use Rattle.std.specs.Prelude.{Bool, true, false, not, ◌&&◌, ◌||◌, List, [], ◌∷◌, ◌++◌, ◌≡◌, refl, ℕ, suc, ◌≤◌, length, eqb}
use Rattle.std.proofs.lemmas.Bool.{false≢true, eqb-false}
use Rattle.std.proofs.Common.{append_assoc, sym, ◌∙◌, ap, arith, length-append, ne_eqb}
use Rattle.std.proofs.Math.Option.{none, some}
use Prim.Native.Char.{code}
use Rattle.grammar.specs.Text.{Text, b, if◌then◌otherwise◌, same, holds, ends, join, each, digit, digit_value}
use Rattle.grammar.specs.Tables.{letters}
use Rattle.grammar.specs.Reader.{word_for}
use Rattle.grammar.specs.Text.{choose}
use Rattle.grammar.specs.Grammar.{angled, last, onto_last, slot}
use Rattle.grammar.specs.Names.{without_slots}
use Rattle.catalogue.specs.Bytes.{all, first, and_left, and_right, and_both, eqb_eq, same_eq}
use Rattle.catalogue.specs.Laws.Bytes.{not-true}
use Rattle.catalogue.specs.Tree.{Letter, Wrap, Kind, Ty, Args, Enc, wP, wR, wO, wK, wV, kb, ki, kj, kl, km, letter, wrap, root, sub, app, lit, one, also, enc}
use Rattle.catalogue.specs.Tree.{word, suffix, sign, literal, closes, last_closes, shut, print, print_args, is_void, inside, tail, print_enc}
use Rattle.catalogue.specs.Class.{name_ok, word_byte, listed, reserved, numeral, leading_zero, lit_ok}
use Rattle.catalogue.specs.Laws.Numbers.{digit_36}
use Rattle.agreement.specs.Laws.Letters.{every_letter}
use Rattle.agreement.specs.Laws.Heads.{name_long}
use Rattle.catalogue.specs.Laws.WellFormed.{Wf, WfArgs, WfName, WfEnc, wf_name}

-- ---------------------------------------------------------------- joined texts

join_cons : (w t : Text) (us : List Text) → 1 ≤ length us → join w (t ∷ us) ≡ t ++ (w ++ join w us)
unfolding join
join_cons w t [] h = absurd (omega arith)
join_cons w t (u ∷ us) h = refl

pub join_snoc : (w : Text) (ts : List Text) (t : Text) → 1 ≤ length ts → join w (ts ++ (t ∷ [])) ≡ join w ts ++ (w ++ t)
unfolding join
join_snoc w [] t h = absurd (omega arith)
join_snoc w (u ∷ []) t h = refl
join_snoc w (u ∷ v ∷ ts) t h = rw (join_snoc w (v ∷ ts) t (omega arith)) (simp append_assoc)

pub length_onto_last : (w : Text) (ts : List Text) → length (onto_last w ts) ≡ length ts
unfolding onto_last
length_onto_last w [] = refl
length_onto_last w (t ∷ []) = refl
length_onto_last w (t ∷ u ∷ ts) = ap suc (length_onto_last w (u ∷ ts))

pub join_onto_last : (w x : Text) (ts : List Text) → 1 ≤ length ts → join w (onto_last x ts) ≡ join w ts ++ x
unfolding join onto_last
join_onto_last w x [] h = absurd (omega arith)
join_onto_last w x (t ∷ []) h = refl
join_onto_last w x (t ∷ u ∷ ts) h =
    let k = length_onto_last x (u ∷ ts) in
    join_cons w t (onto_last x (u ∷ ts)) (omega arith) ∙ rw (join_onto_last w x (u ∷ ts) (omega arith)) (simp append_assoc)

pub last_some : (ts : List Text) → 1 ≤ length ts → (x : Text) × (last ts ≡ some x)
unfolding last
last_some [] h = absurd (omega arith)
last_some (t ∷ []) h = (t, refl)
last_some (t ∷ u ∷ ts) h = last_some (u ∷ ts) (omega arith)

-- the texts of arguments
unfoldable pub items : Args → List Text
items (one t) = print t ∷ []
items (also t xs) = print t ∷ items xs

items_some : (xs : Args) → 1 ≤ length (items xs)
unfolding items
items_some (one t) = omega arith
items_some (also t xs) = omega arith

pub join_items : (xs : Args) → join (b ", ") (items xs) ≡ print_args xs
unfolding items join print
join_items (one t) = refl
join_items (also t xs) = join_cons (b ", ") (print t) (items xs) (items_some xs) ∙ rw (join_items xs) refl

-- ---------------------------------------------------------------- bytes

-- a test that the bytes of words, suffixes and marks pass: no byte 1, and none is the one at the end of a list
module _ (p : ℕ → Bool) where
  all_append_is : (x y : Text) → all p (x ++ y) ≡ all p x && all p y
  all_append_is [] y = refl
  all_append_is (c ∷ x) y = rw (all_append_is x y) (and_assoc (p c) (all p x) (all p y))
    where
      and_assoc : (u v w : Bool) → u && (v && w) ≡ (u && v) && w
      and_assoc true v w = refl
      and_assoc false v w = refl

  all_both : (x y : Text) → all p x ≡ true → all p y ≡ true → all p (x ++ y) ≡ true
  all_both x y h k = all_append_is x y ∙ and_both (all p x) (all p y) h k

pub all_map : (p q : ℕ → Bool) → ((x : ℕ) → p x ≡ true → q x ≡ true) → (t : Text) → all p t ≡ true → all q t ≡ true
all_map p q f [] h = refl
all_map p q f (x ∷ t) h =
    and_both (q x) (all q t) (f x (and_left (p x) (all p t) h)) (all_map p q f t (and_right (p x) (all p t) h))

-- a byte that fails a test is not one that passes it
pub unlike : (p : ℕ → Bool) (c : ℕ) → p c ≡ false → (x : ℕ) → p x ≡ true → not (eqb c x) ≡ true
unlike p c e x h = go (eqb c x) refl
  where
    go : (z : Bool) → eqb c x ≡ z → not z ≡ true
    go false k = refl
    go true k = absurd (false≢true (sym e ∙ rw (eqb_eq c x k) h))

-- not byte 1
abbrev free : ℕ → Bool
free x = not (eqb slot x)

pub name_words : (n : Text) → name_ok n ≡ true → all word_byte n ≡ true
unfolding name_ok
name_words [] h = refl
name_words (x ∷ n) h =
    and_left (all word_byte (x ∷ n)) (not (listed (x ∷ n) reserved))
    (and_right (not (digit 10 x)) (all word_byte (x ∷ n) && not (listed (x ∷ n) reserved)) h)

word_free : (x : ℕ) → word_byte x ≡ true → free x ≡ true
unfolding word_byte digit digit_value if◌then◌otherwise◌
word_free = unlike word_byte slot refl

digit_free : (x : ℕ) → digit 10 x ≡ true → free x ≡ true
unfolding digit digit_value if◌then◌otherwise◌
digit_free = unlike (digit 10) slot refl

letter_free : (l : Letter) → all free (word l) ≡ true
unfolding word word_for letters choose same b if◌then◌otherwise◌
letter_free l = every_letter (λ x. all free
    (word x) ≡ true) refl refl refl refl refl refl refl refl refl refl refl refl refl refl refl refl refl refl refl refl refl l

suffix_free : (c : Wrap) → all free (suffix c) ≡ true
unfolding b
suffix_free wP = refl
suffix_free wR = refl
suffix_free wO = refl
suffix_free wK = refl
suffix_free wV = refl

numeral_digits : (v : Text) → numeral v ≡ true → all (digit 10) v ≡ true
unfolding numeral
numeral_digits v h =
    and_left (all (digit 10) v) (not (leading_zero v)) (and_right (first (digit 10) v) (all (digit 10) v && not (leading_zero v)) h)

numeral_some : (v : Text) → numeral v ≡ true → first (digit 10) v ≡ true
unfolding numeral
numeral_some v h = and_left (first (digit 10) v) (all (digit 10) v && not (leading_zero v)) h

-- the digits of a number's literal
pub lit_numeral : (k : Kind) (g : Bool) (v : Text) → lit_ok k g v ≡ true → all (digit 10) v ≡ true
unfolding lit_ok same b digit digit_value if◌then◌otherwise◌
lit_numeral kb g v h = go v (and_right (not g) (same v (b "0") || same v (b "1")) h)
  where
    go : (v : Text) → same v (b "0") || same v (b "1") ≡ true → all (digit 10) v ≡ true
    go v k = either (same v (b "0")) refl k
      where
        either : (z : Bool) → same v (b "0") ≡ z → z || same v (b "1") ≡ true → all (digit 10) v ≡ true
        either true e j = rw (same_eq v (b "0") e) refl
        either false e j = rw (same_eq v (b "1") j) refl
lit_numeral ki g v h = numeral_digits v (and_left (numeral v) (not (g && same v (b "0"))) h)
lit_numeral kj g v h = numeral_digits v (and_right (not g) (numeral v) h)
lit_numeral kl g v h = numeral_digits v (and_left (numeral v) (not (g && same v (b "0"))) h)
lit_numeral km g v h = numeral_digits v (and_right (not g) (numeral v) h)

signed_free : (g : Bool) (v m : Text) → all (digit 10) v ≡ true → all free m ≡ true → all free (sign g ++ (v ++ m)) ≡ true
unfolding b
signed_free true v m h k = all_both free v m (all_map (digit 10) free digit_free v h) k
signed_free false v m h k = all_both free v m (all_map (digit 10) free digit_free v h) k

truth_free : (z : Bool) → all free (if z then b "true" otherwise b "false") ≡ true
unfolding b if◌then◌otherwise◌
truth_free true = refl
truth_free false = refl

lit_free : (k : Kind) (g : Bool) (v : Text) → lit_ok k g v ≡ true → all free (literal k g v) ≡ true
unfolding b
lit_free kb g v h = truth_free (same v (b "1"))
lit_free ki g v h = signed_free g v [] (lit_numeral ki g v h) refl
lit_free kj g v h = signed_free g v (b "u") (lit_numeral kj g v h) refl
lit_free kl g v h = signed_free g v (b "l") (lit_numeral kl g v h) refl
lit_free km g v h = signed_free g v (b "ul") (lit_numeral km g v h) refl

shut_free : (z : Bool) → all free (shut z) ≡ true
unfolding b
shut_free true = refl
shut_free false = refl

name_free : (n : Text) → name_ok n ≡ true → all free n ≡ true
name_free n h = all_map word_byte free word_free n (name_words n h)

mutual
  unfolding print b

  free_print : (t : Ty) → Wf t → all free (print t) ≡ true
  free_print (letter l) f = letter_free l
  free_print (wrap c t) f = all_both free (print t) (suffix c) (free_print t f.0) (suffix_free c)
  free_print (root n) f = name_free n f
  free_print (sub t n) f = all_both free (print t) (b "::" ++ n) (free_print t f.0) (name_free n f.2)
  free_print (app t xs) f =
      all_both free (print t) (b "<" ++ (print_args xs ++ shut (last_closes xs))) (free_print t f.0)
      (all_both free (print_args xs) (shut (last_closes xs)) (free_args xs f.2) (shut_free (last_closes xs)))
  free_print (lit k g v) f = lit_free k g v f

  free_args : (xs : Args) → WfArgs xs → all free (print_args xs) ≡ true
  free_args (one t) f = free_print t f
  free_args (also t xs) f = all_both free (print t) (b ", " ++ print_args xs) (free_print t f.0) (free_args xs f.1)

free_holds : (t : Text) → all free t ≡ true → holds slot t ≡ false
unfolding holds
free_holds [] h = refl
free_holds (x ∷ t) h =
    rw (not-true (eqb slot x) (and_left (not (eqb slot x)) (all free t) h)) (free_holds t (and_right (not (eqb slot x)) (all free t) h))

-- no text of a tree has byte 1, so a wrapper is put behind it
pub no_slot : (t : Ty) → Wf t → holds slot (print t) ≡ false
no_slot t f = free_holds (print t) (free_print t f)

name_free_enc : (c : Bool) (t : Ty) → WfName c t → all free (print t) ≡ true
name_free_enc c t f = free_print t (wf_name c t f)

tail_free : (c : Bool) → all free (tail c) ≡ true
unfolding b
tail_free true = refl
tail_free false = refl

inside_free : (z : Bool) (xs : Args) → WfArgs xs → all free (inside z xs) ≡ true
inside_free true xs f = refl
inside_free false xs f = free_args xs f

enc_free : (e : Enc) → WfEnc e → all free (print_enc e) ≡ true
unfolding print_enc b
enc_free (enc c t none) f = all_both free (print t) (tail c) (name_free_enc c t f.0) (tail_free c)
enc_free (enc c t (some xs)) f =
    all_both free (print t) (b "(" ++ (inside (is_void xs) xs ++ (b ")" ++ tail c))) (name_free_enc c t f.0)
    (all_both free (inside (is_void xs) xs) (b ")" ++ tail c) (inside_free (is_void xs) xs f.1.0) (tail_free c))

no_slots : (t : Text) → all free t ≡ true → without_slots t ≡ t
unfolding without_slots each if◌then◌otherwise◌
no_slots [] h = refl
no_slots (x ∷ t) h =
    rw (not_slot x (and_left (not (eqb slot x)) (all free t) h)) (ap (◌∷◌ x) (no_slots t (and_right (not (eqb slot x)) (all free t) h)))
  where
    not_slot : (x : ℕ) → not (eqb slot x) ≡ true → eqb x slot ≡ false
    not_slot x e = ne_eqb x slot (λ i. eqb-false slot x (not-true (eqb slot x) e) (sym i))

-- what is printed for a symbol is its tree's name
pub printed_clean : (e : Enc) → WfEnc e → without_slots (print_enc e) ≡ print_enc e
printed_clean e f = no_slots (print_enc e) (enc_free e f)

-- ---------------------------------------------------------------- where a text ends in >

ends_append : (c : ℕ) (x y : Text) → 1 ≤ length y → ends c (x ++ y) ≡ ends c y
unfolding ends
ends_append c [] y h = refl
ends_append c (z ∷ []) [] h = absurd (omega arith)
ends_append c (z ∷ []) (w ∷ y) h = refl
ends_append c (z ∷ w ∷ x) y h = ends_append c (w ∷ x) y h

pub not_last : (p : ℕ → Bool) (c x : ℕ) → p c ≡ false → p x ≡ true → eqb x c ≡ false
not_last p c x e h = go (eqb x c) refl
  where
    go : (z : Bool) → eqb x c ≡ z → z ≡ false
    go false k = refl
    go true k = absurd (false≢true (sym e ∙ (rw (eqb_eq x c k) at h)))

ends_pass : (p : ℕ → Bool) (c : ℕ) → p c ≡ false → (t : Text) → all p t ≡ true → ends c t ≡ false
unfolding ends
ends_pass p c e [] h = refl
ends_pass p c e (x ∷ []) h = not_last p c x e (and_left (p x) true h)
ends_pass p c e (x ∷ y ∷ t) h = ends_pass p c e (y ∷ t) (and_right (p x) (all p (y ∷ t)) h)

abbrev angle : ℕ
angle = code ">"

ends_word : (n : Text) → name_ok n ≡ true → ends angle n ≡ false
unfolding word_byte digit digit_value if◌then◌otherwise◌
ends_word n h = ends_pass word_byte angle refl n (name_words n h)

ends_letter : (l : Letter) → ends angle (word l) ≡ false
unfolding ends word word_for letters choose same b if◌then◌otherwise◌
ends_letter l = every_letter (λ x. ends angle
    (word x) ≡ false) refl refl refl refl refl refl refl refl refl refl refl refl refl refl refl refl refl refl refl refl refl l

suffix_ends : (c : Wrap) (x : Text) → ends angle (x ++ suffix c) ≡ false
unfolding ends b
suffix_ends wP x = ends_append angle x (suffix wP) (omega arith)
suffix_ends wR x = ends_append angle x (suffix wR) (omega arith)
suffix_ends wO x = ends_append angle x (suffix wO) (omega arith)
suffix_ends wK x = ends_append angle x (suffix wK) (omega arith)
suffix_ends wV x = ends_append angle x (suffix wV) (omega arith)

shut_ends : (z : Bool) (x : Text) → ends angle (x ++ shut z) ≡ true
unfolding ends b
shut_ends true x = ends_append angle x (shut true) (omega arith)
shut_ends false x = ends_append angle x (shut false) (omega arith)

pub first_long : (p : ℕ → Bool) (v : Text) → first p v ≡ true → 1 ≤ length v
first_long p [] h = absurd (false≢true h)
first_long p (x ∷ v) h = omega arith

truth_ends : (z : Bool) → ends angle (if z then b "true" otherwise b "false") ≡ false
unfolding ends b if◌then◌otherwise◌
truth_ends true = refl
truth_ends false = refl

signed_ends : (g : Bool) (v m : Text) → first (digit 10) v ≡ true → all (digit 10) v ≡ true → all word_byte m ≡ true
    → ends angle (sign g ++ (v ++ m)) ≡ false
unfolding word_byte digit digit_value if◌then◌otherwise◌
signed_ends g v m h k e =
    let l = first_long (digit 10) v h in
    let w : all word_byte (v ++ m) ≡ true = all_both word_byte v m (all_map (digit 10) word_byte digit_word v k) e in
    ends_append angle (sign g) (v ++ m) (simp length-append (omega arith)) ∙ ends_pass word_byte angle refl (v ++ m) w
  where
    digit_word : (x : ℕ) → digit 10 x ≡ true → word_byte x ≡ true
    digit_word x j = rw (digit_36 x j) refl

lit_ends : (k : Kind) (g : Bool) (v : Text) → lit_ok k g v ≡ true → ends angle (literal k g v) ≡ false
unfolding lit_ok word_byte digit digit_value b if◌then◌otherwise◌
lit_ends kb g v h = truth_ends (same v (b "1"))
lit_ends ki g v h = signed_ends g v [] (numeral_some v (and_left (numeral v) (not (g && same v (b "0"))) h)) (lit_numeral ki g v h) refl
lit_ends kj g v h = signed_ends g v (b "u") (numeral_some v (and_right (not g) (numeral v) h)) (lit_numeral kj g v h) refl
lit_ends kl g v h = signed_ends g v (b "l") (numeral_some v (and_left (numeral v) (not (g && same v (b "0"))) h)) (lit_numeral kl g v h) refl
lit_ends km g v h = signed_ends g v (b "ul") (numeral_some v (and_right (not g) (numeral v) h)) (lit_numeral km g v h) refl

print_ends : (t : Ty) → Wf t → ends angle (print t) ≡ closes t
unfolding print b
print_ends (letter l) f = ends_letter l
print_ends (wrap c t) f = suffix_ends c (print t)
print_ends (root n) f = ends_word n f
print_ends (sub t n) f =
    let k = name_long n f.2 in
    ap (ends angle) (sym (append_assoc (print t) (b "::") n)) ∙ ends_append angle (print t ++ b "::") n k ∙ ends_word n f.2
print_ends (app t xs) f =
    ap (ends angle) (sym (append_assoc (print t) (b "<") (print_args xs ++ shut (last_closes xs))) ∙ sym (append_assoc (print t ++ b "<")
    (print_args xs) (shut (last_closes xs))))
    ∙ shut_ends (last_closes xs) ((print t ++ b "<") ++ print_args xs)
print_ends (lit k g v) f = lit_ends k g v f

word_long : (l : Letter) → 1 ≤ length (word l)
unfolding word word_for letters choose same b if◌then◌otherwise◌
word_long l = every_letter (λ x. 1 ≤ length (word x)) (omega arith) (omega arith) (omega arith) (omega arith) (omega arith) (omega arith)
    (omega arith) (omega arith) (omega arith) (omega arith) (omega arith) (omega arith) (omega arith) (omega arith) (omega arith)
    (omega arith) (omega arith) (omega arith) (omega arith) (omega arith) (omega arith) l

signed_long : (g : Bool) (v m : Text) → first (digit 10) v ≡ true → 1 ≤ length (sign g ++ (v ++ m))
signed_long g v m h = let l = first_long (digit 10) v h in simp length-append (omega arith)

truth_long : (z : Bool) → 1 ≤ length (if z then b "true" otherwise b "false")
unfolding b if◌then◌otherwise◌
truth_long true = omega arith
truth_long false = omega arith

lit_long : (k : Kind) (g : Bool) (v : Text) → lit_ok k g v ≡ true → 1 ≤ length (literal k g v)
unfolding lit_ok
lit_long kb g v h = truth_long (same v (b "1"))
lit_long ki g v h = signed_long g v [] (numeral_some v (and_left (numeral v) (not (g && same v (b "0"))) h))
lit_long kj g v h = signed_long g v (b "u") (numeral_some v (and_right (not g) (numeral v) h))
lit_long kl g v h = signed_long g v (b "l") (numeral_some v (and_left (numeral v) (not (g && same v (b "0"))) h))
lit_long km g v h = signed_long g v (b "ul") (numeral_some v (and_right (not g) (numeral v) h))

pub print_long : (t : Ty) → Wf t → 1 ≤ length (print t)
unfolding print b
print_long (letter l) f = word_long l
print_long (wrap c t) f = let k = print_long t f.0 in simp length-append (omega arith)
print_long (root n) f = name_long n f
print_long (sub t n) f = simp length-append (omega arith)
print_long (app t xs) f = simp length-append (omega arith)
print_long (lit k g v) f = lit_long k g v f

args_long : (xs : Args) → WfArgs xs → 1 ≤ length (print_args xs)
unfolding print b
args_long (one t) f = print_long t f
args_long (also t xs) f = simp length-append (omega arith)

args_ends : (xs : Args) → WfArgs xs → ends angle (print_args xs) ≡ last_closes xs
unfolding print b
args_ends (one t) f = print_ends t f
args_ends (also t xs) f =
    ap (ends angle) (sym (append_assoc (print t) (b ", ") (print_args xs)))
    ∙ ends_append angle (print t ++ b ", ") (print_args xs) (args_long xs f.1) ∙ args_ends xs f.1

-- < .. >, as it stands behind a part
abbrev pub list_text : Args → Text
list_text xs = b "<" ++ (print_args xs ++ shut (last_closes xs))

shut_is : (z : Bool) → (if z then b " >" otherwise b ">") ≡ shut z
unfolding if◌then◌otherwise◌
shut_is true = refl
shut_is false = refl

pub angled_items : (xs : Args) → WfArgs xs → angled (items xs) ≡ list_text xs
unfolding angled
angled_items xs f =
    let e : ends angle (b "<" ++ print_args xs) ≡ last_closes xs = ends_append angle (b "<") (print_args xs) (args_long xs f) ∙ args_ends xs f in
    rw (join_items xs, e, shut_is (last_closes xs)) (append_assoc (b "<") (print_args xs) (shut (last_closes xs)))
