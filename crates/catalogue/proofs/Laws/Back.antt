-- A printed name is read back to its tree, so different well-formed trees print different names.
use Rattle.std.specs.Prelude.{Bool, true, false, not, ◌&&◌, ◌||◌, List, [], ◌∷◌, ◌++◌, ◌≡◌, refl, ℕ}
use Rattle.std.proofs.Common.{append_assoc, append-nil, sym, ◌∙◌, ap}
use Rattle.std.proofs.Math.Option.{none, some}
use Rattle.grammar.specs.Text.{Text, b, if◌then◌otherwise◌, choose, same, digit_value, digit}
use Rattle.grammar.specs.Tables.{Row, ◌⇒◌, letters}
use Rattle.grammar.specs.Reader.{word_for}
use Rattle.catalogue.specs.Bytes.{all, first, and_left, and_right, same_eq}
use Rattle.catalogue.specs.Laws.Bytes.{or_left, or_right, not-true, run_of, past_of}
use Rattle.catalogue.specs.Tree.{Letter, Wrap, Kind, Ty, Args, Enc, letter, wrap, root, sub, app, lit, one, also, enc, lv, lw, lb, lc, la, lh, ls, lt}
use Rattle.catalogue.specs.Tree.{li, lj, ll, lm, lx, ly, ln, lo, lf, ld, le, lg, lz, wP, wR, wO, wK, wV, kb, ki, kj, kl, km, same_ty_eq, is_lit, is_ref}
use Rattle.catalogue.specs.Tree.{word, suffix, sign, literal, last_closes, shut, print, print_args, is_void, inside, print_enc}
use Rattle.catalogue.specs.Class.{word_byte, reserved, listed, name_ok, leading_zero, numeral, lit_ok, stands}
use Rattle.catalogue.specs.Laws.WellFormed.{Wf, WfArgs, WfEnc, wf_name}
use Rattle.catalogue.specs.Laws.Numbers.{digit_36}
use Rattle.catalogue.specs.Laws.Words.{a_word, lex, NoWord, lex_word}
use Rattle.catalogue.specs.Laws.NameReader.{find, words, phrases, kind_of, number_of, from_word, Bracket, angle, paren, Frame, at_name, items, State}
use Rattle.catalogue.specs.Laws.NameReader.{want, have, gap, scope, minus, closed, gather, ampersand, step, walk, result, parse_name}

-- ---------------------------------------------------------------- words

unfoldable hit : Text → List (Row Ty) → Bool
hit x [] = false
hit x ((w ⇒ t) ∷ rows) = same x (b w) || hit x rows

find_none : (x : Text) (rows : List (Row Ty)) (d : Ty) → hit x rows ≡ false → find x rows d ≡ d
unfolding find hit if◌then◌otherwise◌
find_none x [] d h = refl
find_none x ((w ⇒ t) ∷ rows) d h =
    rw (or_left (same x (b w)) (hit x rows) h) (find_none x rows d (or_right (same x (b w)) (hit x rows) h))

hit_listed : (x : Text) → hit x words ≡ listed x reserved
unfolding hit listed words reserved
hit_listed x = refl

name_free : (n : Text) → name_ok n ≡ true → listed n reserved ≡ false
unfolding name_ok
name_free [] h = cc
name_free (c ∷ n) h =
    not-true (listed (c ∷ n) reserved) (and_right (all word_byte (c ∷ n)) (not (listed (c ∷ n) reserved))
    (and_right (not (digit 10 c)) (all word_byte (c ∷ n) && not (listed (c ∷ n) reserved)) h))

pub name_start : (n r : Text) → name_ok n ≡ true → first (digit 10) (n ++ r) ≡ false
unfolding name_ok
name_start [] r h = cc
name_start (c ∷ n) r h = not-true (digit 10 c) (and_left (not (digit 10 c)) (all word_byte (c ∷ n) && not (listed (c ∷ n) reserved)) h)

name_found : (n : Text) → name_ok n ≡ true → from_word n ≡ root n
unfolding from_word if◌then◌otherwise◌ name_ok
name_found [] h = cc
name_found (c ∷ n) h = rw (name_start (c ∷ n) [] h) (find_none (c ∷ n) words (root (c ∷ n)) (hit_listed (c ∷ n) ∙ name_free (c ∷ n) h))

abbrev wordy : Text → Bool
wordy [] = false
wordy (c ∷ n) = all word_byte (c ∷ n)

name_wordy : (n : Text) → name_ok n ≡ true → wordy n ≡ true
unfolding name_ok
name_wordy [] h = h
name_wordy (c ∷ n) h =
    and_left (all word_byte (c ∷ n)) (not (listed (c ∷ n) reserved))
    (and_right (not (digit 10 c)) (all word_byte (c ∷ n) && not (listed (c ∷ n) reserved)) h)

-- a word is one step
word_step : (x s : Text) (q : State) → wordy x ≡ true → NoWord (lex s) → walk (lex (x ++ s)) q ≡ walk (lex s) (step q (a_word x))
unfolding walk
word_step [] s q e h = cc
word_step (c ∷ n) s q e h = rw (lex_word c n s e h) refl

word_back : (l : Letter) (s : Text) (k : List Frame) → NoWord (lex s) → walk (lex (word l ++ s)) (want k) ≡ walk (lex s) (have (letter l) k)
unfolding lex walk step from_word find words phrases word_byte digit digit_value if◌then◌otherwise◌ same b word word_for letters choose print
word_back lv s k h = word_step (b "void") s (want k) refl h
word_back lw s k h = word_step (b "wchar_t") s (want k) refl h
word_back lb s k h = word_step (b "bool") s (want k) refl h
word_back lc s k h = word_step (b "char") s (want k) refl h
word_back la s k h = word_step (b "char") s (gap (root (b "signed")) k) refl h
word_back lh s k h = word_step (b "char") s (gap (root (b "unsigned")) k) refl h
word_back ls s k h = word_step (b "short") s (want k) refl h
word_back lt s k h = word_step (b "short") s (gap (root (b "unsigned")) k) refl h
word_back li s k h = word_step (b "int") s (want k) refl h
word_back lj s k h = word_step (b "int") s (gap (root (b "unsigned")) k) refl h
word_back ll s k h = word_step (b "long") s (want k) refl h
word_back lm s k h = word_step (b "long") s (gap (root (b "unsigned")) k) refl h
word_back lx s k h = word_step (b "long") s (gap (letter ll) k) refl h
word_back ly s k h = word_step (b "long") s (gap (letter lm) k) refl h
word_back ln s k h = word_step (b "__int128") s (want k) refl h
word_back lo s k h = word_step (b "__int128") s (gap (root (b "unsigned")) k) refl h
word_back lf s k h = word_step (b "float") s (want k) refl h
word_back ld s k h = word_step (b "double") s (want k) refl h
word_back le s k h = word_step (b "double") s (gap (letter ll) k) refl h
word_back lg s k h = word_step (b "__float128") s (want k) refl h
word_back lz s k h = refl

-- ---------------------------------------------------------------- marks

once : (t : Ty) → is_ref t ≡ false → ampersand t ≡ wrap wR t
once (letter l) h = refl
once (wrap wP t) h = refl
once (wrap wR t) h = cc
once (wrap wO t) h = refl
once (wrap wK t) h = refl
once (wrap wV t) h = refl
once (root n) h = refl
once (sub t n) h = refl
once (app t xs) h = refl
once (lit k g v) h = refl

no_ref : (t : Ty) → not (is_lit t || is_ref t) ≡ true → is_ref t ≡ false
no_ref t h = or_right (is_lit t) (is_ref t) (not-true (is_lit t || is_ref t) h)

suffix_no : (c : Wrap) (s : Text) → NoWord (lex (suffix c ++ s))
unfolding lex word_byte digit digit_value if◌then◌otherwise◌ b
suffix_no wP s = tt
suffix_no wR s = tt
suffix_no wO s = tt
suffix_no wK s = tt
suffix_no wV s = tt

wrap_back : (c : Wrap) (t : Ty) (s : Text) (k : List Frame) → stands c t ≡ true → NoWord (lex s)
    → walk (lex (suffix c ++ s)) (have t k) ≡ walk (lex s) (have (wrap c t) k)
unfolding lex walk step word_byte digit digit_value if◌then◌otherwise◌ b same stands
wrap_back wP t s k e h = refl
wrap_back wR t s k e h = rw (once t (no_ref t e)) refl
wrap_back wO t s k e h = rw (once t (no_ref t e)) refl
wrap_back wK t s k e h = word_step (b "const") s (gap t k) refl h
wrap_back wV t s k e h = word_step (b "volatile") s (gap t k) refl h

shut_no : (c : Bool) (s : Text) → NoWord (lex (shut c ++ s))
unfolding lex word_byte digit digit_value if◌then◌otherwise◌ b
shut_no true s = tt
shut_no false s = tt

shut_back : (c : Bool) (t u : Ty) (ts : List Ty) (s : Text) (k : List Frame)
    → walk (lex (shut c ++ s)) (have u (items angle t ts ∷ k)) ≡ walk (lex s) (have (app t (gather ts (one u))) k)
unfolding lex walk step word_byte digit digit_value if◌then◌otherwise◌ b
shut_back true t u ts s k = refl
shut_back false t u ts s k = refl

-- ---------------------------------------------------------------- literals

digit_word : (c : ℕ) → digit 10 c ≡ true → word_byte c ≡ true
unfolding word_byte
digit_word c h = rw (digit_36 c h) refl

all_words : (v m : Text) → all (digit 10) v ≡ true → all word_byte m ≡ true → all word_byte (v ++ m) ≡ true
all_words [] m h e = e
all_words (c ∷ v) m h e =
    rw (digit_word c (and_left (digit 10 c) (all (digit 10) v) h)) (all_words v m (and_right (digit 10 c) (all (digit 10) v) h) e)

number_back : (m : Text) (c : Kind) (v : Text) (g : Bool) → kind_of m ≡ c → first (digit 10) m ≡ false → all (digit 10) v ≡ true
    → number_of g (v ++ m) ≡ lit c g v
unfolding number_of
number_back m c v g e₁ e₂ h = rw (run_of (digit 10) v m h e₂, past_of (digit 10) v m h e₂, e₁) refl

first_on : (v m : Text) → first (digit 10) v ≡ true → first (digit 10) (v ++ m) ≡ true
first_on [] m h = cc
first_on (c ∷ v) m h = h

wordy_on : (v m : Text) → first (digit 10) v ≡ true → all (digit 10) v ≡ true → all word_byte m ≡ true → wordy (v ++ m) ≡ true
wordy_on [] m h d e = cc
wordy_on (c ∷ v) m h d e = all_words (c ∷ v) m d e

pub numeral_first : (v : Text) → numeral v ≡ true → first (digit 10) v ≡ true
unfolding numeral
numeral_first v h = and_left (first (digit 10) v) (all (digit 10) v && not (leading_zero v)) h

pub numeral_all : (v : Text) → numeral v ≡ true → all (digit 10) v ≡ true
unfolding numeral
numeral_all v h =
    and_left (all (digit 10) v) (not (leading_zero v)) (and_right (first (digit 10) v) (all (digit 10) v && not (leading_zero v)) h)

numeral_back : (m : Text) (c : Kind) (g : Bool) (v s : Text) (k : List Frame) → kind_of m ≡ c → first (digit 10) m ≡ false → all word_byte m ≡ true
    → numeral v ≡ true → NoWord (lex s)
    → walk (lex ((sign g ++ (v ++ m)) ++ s)) (want k) ≡ walk (lex s) (have (lit c g v) k)
unfolding lex walk step word_byte digit digit_value if◌then◌otherwise◌ b from_word
numeral_back m c true v s k e₁ e₂ e₃ h q =
    word_step (v ++ m) s (minus k) (wordy_on v m (numeral_first v h) (numeral_all v h) e₃) q
    ∙ ap (λ t. walk (lex s) (have t k)) (number_back m c v true e₁ e₂ (numeral_all v h))
numeral_back m c false v s k e₁ e₂ e₃ h q =
    word_step (v ++ m) s (want k) (wordy_on v m (numeral_first v h) (numeral_all v h) e₃) q
    ∙ ap (λ t. walk (lex s) (have t k)) (rw (first_on v m (numeral_first v h)) (number_back m c v false e₁ e₂ (numeral_all v h)))

or_first : (p q : Bool) → p || q ≡ true → q ≡ false → p ≡ true
or_first true q h e = refl
or_first false q h e = sym e ∙ h ∙ refl

truth_back : (g : Bool) (v s : Text) (k : List Frame) (p : Bool) → same v (b "1") ≡ p → lit_ok kb g v ≡ true → NoWord (lex s)
    → walk (lex (literal kb g v ++ s)) (want k) ≡ walk (lex s) (have (lit kb g v) k)
unfolding lex walk step word_byte digit digit_value if◌then◌otherwise◌ b same from_word find words lit_ok
truth_back true v s k p e h q = cc
truth_back false v s k true e h q = rw (same_eq v (b "1") e) (word_step (b "true") s (want k) refl q)
truth_back false v s k false e h q =
    rw (same_eq v (b "0") (or_first (same v (b "0")) (same v (b "1")) h e)) (word_step (b "false") s (want k) refl q)

lit_back : (c : Kind) (g : Bool) (v s : Text) (k : List Frame) → lit_ok c g v ≡ true → NoWord (lex s)
    → walk (lex (literal c g v ++ s)) (want k) ≡ walk (lex s) (have (lit c g v) k)
unfolding kind_of word_byte digit digit_value if◌then◌otherwise◌ b same lit_ok
lit_back kb g v s k h q = truth_back g v s k (same v (b "1")) refl h q
lit_back ki g v s k h q = numeral_back [] ki g v s k refl refl refl (and_left (numeral v) (not (g && same v (b "0"))) h) q
lit_back kj g v s k h q = numeral_back (b "u") kj g v s k refl refl refl (and_right (not g) (numeral v) h) q
lit_back kl g v s k h q = numeral_back (b "l") kl g v s k refl refl refl (and_left (numeral v) (not (g && same v (b "0"))) h) q
lit_back km g v s k h q = numeral_back (b "ul") km g v s k refl refl refl (and_right (not g) (numeral v) h) q

-- ---------------------------------------------------------------- every tree comes back

unfoldable last_of : Args → Ty
last_of (one t) = t
last_of (also t xs) = last_of xs

unfoldable before : Args → List Ty → List Ty
before (one t) ts = ts
before (also t xs) ts = before xs (t ∷ ts)

gather_before : (xs : Args) (ts : List Ty) → gather (before xs ts) (one (last_of xs)) ≡ gather ts xs
unfolding gather before last_of
gather_before (one t) ts = refl
gather_before (also t xs) ts = gather_before xs (t ∷ ts)

mutual
  unfolding print print_args lex walk step word_byte digit digit_value if◌then◌otherwise◌ b before last_of gather

  pub back : (t : Ty) → Wf t → (s : Text) (k : List Frame) → NoWord (lex s) → walk (lex (print t ++ s)) (want k) ≡ walk (lex s) (have t k)
  back (letter l) f s k q = word_back l s k q
  back (wrap c t) f s k q =
      rw (append_assoc (print t) (suffix c) s) (back t f.0 (suffix c ++ s) k (suffix_no c s) ∙ wrap_back c t s k f.1 q)
  back (root n) f s k q = word_step n s (want k) (name_wordy n f) q ∙ ap (λ t. walk (lex s) (have t k)) (name_found n f)
  back (sub t n) f s k q =
      rw (append_assoc (print t) (b "::" ++ n) s)
      (back t f.0 (b "::" ++ (n ++ s)) k tt ∙ word_step n s (scope t k) (name_wordy n f.2) q)
  back (app t xs) f s k q =
      rw (append_assoc (print t) (b "<" ++ (print_args xs ++ shut (last_closes xs))) s, append_assoc (print_args xs) (shut (last_closes xs)) s)
      (back t f.0 (b "<" ++ (print_args xs ++ (shut (last_closes xs) ++ s))) k tt
      ∙ back_args xs f.2 (shut (last_closes xs) ++ s) angle t [] k (shut_no (last_closes xs) s)
      ∙ shut_back (last_closes xs) t (last_of xs) (before xs []) s k
      ∙ ap (λ ys. walk (lex s) (have (app t ys) k)) (gather_before xs []))
  back (lit c g v) f s k q = lit_back c g v s k f q

  back_args : (xs : Args) → WfArgs xs → (s : Text) (m : Bracket) (c : Ty) (ts : List Ty) (k : List Frame) → NoWord (lex s)
      → walk (lex (print_args xs ++ s)) (want (items m c ts ∷ k)) ≡ walk (lex s) (have (last_of xs) (items m c (before xs ts) ∷ k))
  back_args (one t) f s m c ts k q = back t f s (items m c ts ∷ k) q
  back_args (also t xs) f s m c ts k q =
      rw (append_assoc (print t) (b ", " ++ print_args xs) s)
      (back t f.0 (b ", " ++ (print_args xs ++ s)) (items m c ts ∷ k) tt ∙ back_args xs f.1 s m c (t ∷ ts) k q)

-- types and arguments of different trees print differently
pub print_injective_type : (t u : Ty) → Wf t → Wf u → print t ≡ print u → t ≡ u
unfolding lex walk
print_injective_type t u f g h =
    let p : walk (lex (print t)) (want []) ≡ have t [] = rw (append-nil (print t)) at (back t f [] [] tt) in
    let q : walk (lex (print u)) (want []) ≡ have u [] = rw (append-nil (print u)) at (back u g [] [] tt) in
    cc

-- ---------------------------------------------------------------- a whole name

void_only : (xs : Args) → is_void xs ≡ true → xs ≡ one (letter lv)
void_only (one t) h = ap one (same_ty_eq t (letter lv) h)
void_only (also t xs) h = cc

list_back : (p : Bool) (xs : Args) → is_void xs ≡ p → WfArgs xs → (t : Ty) (s : Text)
    → walk (lex (inside p xs ++ (b ")" ++ s))) (want (items paren t [] ∷ [])) ≡ walk (lex s) (closed t xs)
unfolding walk lex step word_byte digit digit_value if◌then◌otherwise◌ b gather
list_back true xs e f t s = ap (λ ys. walk (lex s) (closed t ys)) (sym (void_only xs e))
list_back false xs e f t s =
    back_args xs f (b ")" ++ s) paren t [] [] tt ∙ ap (λ ys. walk (lex s) (closed t ys)) (gather_before xs [])

pub parse_name_print : (e : Enc) → WfEnc e → parse_name (print_enc e) ≡ some e
unfolding parse_name print_enc walk lex step result word_byte digit digit_value if◌then◌otherwise◌ b same
parse_name_print (enc true t none) f = cc f.2
parse_name_print (enc false t none) f = ap result (back t (wf_name false t f.0) [] (at_name ∷ []) tt)
parse_name_print (enc true t (some xs)) f =
    ap result
    (back t (wf_name true t f.0) (b "(" ++ (inside (is_void xs) xs ++ (b ")" ++ b " const"))) (at_name ∷ []) tt
    ∙ list_back (is_void xs) xs refl f.1.0 t (b " const"))
parse_name_print (enc false t (some xs)) f =
    ap result
    (back t (wf_name false t f.0) (b "(" ++ (inside (is_void xs) xs ++ (b ")" ++ []))) (at_name ∷ []) tt
    ∙ list_back (is_void xs) xs refl f.1.0 t [])

pub print_injective : (d e : Enc) → WfEnc d → WfEnc e → print_enc d ≡ print_enc e → d ≡ e
print_injective d e f g h =
    let p = parse_name_print d f in
    let q = parse_name_print e g in
    cc
