-- A written symbol is read behind its _Z as its tree's name, and refused only where a limit has no room for it.
use Rattle.std.specs.Prelude.{Bool, true, false, not, ◌&&◌, ◌||◌, List, [], ◌++◌, ◌≡◌, ℕ, suc, ◌+◌, ◌≤◌, length, eqb}
use Rattle.std.proofs.Common.{append_assoc, append-nil, ap, length-append}
use Rattle.std.proofs.Math.Option.{Option, none, some}
use Rattle.std.proofs.Math.Path.{refl}
use Prim.Native.Char.{code}
use native.Mathlib.Omega.{arith}
use Rattle.grammar.specs.Text.{Text, b, if◌then◌otherwise◌, choose, same, join, each, digit, digit_value}
use Rattle.grammar.specs.Limits.{most_open, most_entries, most_text_bytes, most_entry_bytes}
use Rattle.grammar.specs.Tables.{labels, qualifiers, letters}
use Rattle.grammar.specs.Reader.{bytes_of, State, ok, Reader, onto, return, give, while, set_cv, word_for}
use Rattle.grammar.specs.Grammar as g
use Rattle.grammar.specs.Grammar.{⟨encoding⟩, ⟨name⟩, ⟨type⟩, production, reading, ended, only_void}
use Rattle.catalogue.specs.Bytes.{first}
use Rattle.catalogue.specs.Tree.{Ty, Args, Enc, letter, lv, enc, one, also, print, print_args, is_void, inside, tail, print_enc, word, same_ty, same_ty_eq}
use Rattle.catalogue.specs.Spelling.{SpArgs, SpName, Sym, flat, scoped, symbol, spell_args, spell_name, spell_params, name_bytes}
use Rattle.catalogue.specs.Class.{name_ok, all_types, is_const, and_then, provided, resolve_pre, resolve_args, resolve_name, resolve_params, resolve_sym}
use Rattle.catalogue.specs.Class as class
use Rattle.catalogue.proofs.Laws.Count.{nargs}
use Rattle.catalogue.proofs.Laws.Limits.{depth_name, depth_args, depth_sym}
use Rattle.catalogue.proofs.Laws.NoDoubles.{sum}
use Rattle.catalogue.proofs.Laws.NormalForm.{nbytes}
use Rattle.catalogue.specs.Laws.WellFormed.{WfArgs, AllWf, GoodPre, GoodArgs, Post, post_ok, post_then, post_if, resolve_pre_wf, resolve_args_wf}
use Rattle.agreement.specs.Laws.Verdict.{at, Verdict, next, assoc, equal_by, by_equal, in_reading, by_code_miss, give_by, give_told}
use Rattle.agreement.specs.Laws.After.{After, after_ok, after_then, after_if, after_also}
use Rattle.agreement.specs.Laws.Leaves.{clear, find_miss}
use Rattle.agreement.specs.Laws.Heads.{name_first, first_map, follow_end, follow_opens, args_opens}
use Rattle.agreement.specs.Laws.Printed.{items}
use Rattle.agreement.specs.Laws.Rooms.{texts, bytes, Fits, Room, Kept, Grown, grown_refl, sum_grown, fits_grown, grows_args}
use Rattle.agreement.specs.Laws.Names.{name_next, qualified, NameRead, reads_name}
use Rattle.agreement.specs.Laws.Parameters.{types_loop, TypesRead, reads_types, types_text, not_ended}

-- ---------------------------------------------------------------- what is said of a symbol

pub record RoomSym (σ : Sym) (e : Enc) (us : List Ty) : Type 0 where
  pub table : Fits us
  pub deep : depth_sym σ ≤ most_open
  pub text : length (print_enc e) ≤ most_text_bytes
  pub few : sum nargs us ≤ most_entries
  pub small : sum nbytes us ≤ most_entry_bytes

-- the name of the tree e was read to the end, with the table us
pub record Told (σ : Sym) (e : Enc) (us : List Ty) (x : Text) (s : State) : Type 0 where
  pub text : x ≡ print_enc e
  pub whole : s.rest ≡ []
  pub table : Fits us
  pub deep : depth_sym σ ≤ most_open
  pub short : length (print_enc e) ≤ most_text_bytes

abbrev pub SymRead : Sym → Enc → List Ty → Type 0
SymRead (symbol m ps) e us = Verdict (RoomSym (symbol m ps) e us) (Told (symbol m ps) e us) (reading ⟨encoding⟩ (at
    (spell_name m ++ spell_params ps) [] [] 0 [] false))

-- ---------------------------------------------------------------- behind the name

abbrev with_types : Text → Text → Reader Text
with_types n q =
    λ s. onto (λ templated u. onto (λ r v. onto (λ ps. give (r ++ n ++ b "(" ++ ps ++ b ")" ++ q)) (g.bare_function_type reading v))
    ((if templated then (λ v. onto (λ r. return (r ++ b " ")) (reading ⟨type⟩ v)) otherwise return []) u)) (ok s.templated s)

abbrev after_name : Text → Reader Text
after_name n = λ s. onto (λ q u. onto (λ _ v. onto (λ t. if ended t then give (n ++ q) otherwise with_types n q) (ok v.rest v))
    (set_cv [] u)) (ok s.cv s)

function_is : (s : State) → g.function_or_data reading s ≡ onto after_name (reading ⟨name⟩ s)
unfolding g.function_or_data
function_is s = refl

abbrev in_brackets : Text → Text → Text → Reader Text
in_brackets n q ps = give ([] ++ n ++ b "(" ++ ps ++ b ")" ++ q)

abbrev types_end : List Text → Reader Text
types_end ts = λ s. onto (λ t. give (if only_void ts && same t [] then [] otherwise join (b ", ") ts)) (ok s.rest s)

module _ (n : Text) (l a : List Text) (d : ℕ) (c : Text) where
  no_types : after_name n (at [] l a d c false) ≡ give (n ++ c) (at [] l a d [] false)
  unfolding onto set_cv ended same if◌then◌otherwise◌
  no_types = refl

  some_types : (r : Text) → ended r ≡ false
      → after_name n (at r l a d c false) ≡ onto (in_brackets n c) (onto types_end (types_loop (suc (length r)) [] (at r l a d [] false)))
  unfolding onto set_cv if◌then◌otherwise◌ g.bare_function_type while
  some_types r h = rw h

  types_end_is : (ts : List Text) (q : Bool)
      → types_end ts (at [] l a d c q) ≡ give (if only_void ts && same [] [] then [] otherwise join (b ", ") ts) (at [] l a d c q)
  unfolding onto
  types_end_is ts q = refl

-- ---------------------------------------------------------------- encodings

-- a name begins with a digit or N
unfoldable name_head : ℕ → Bool
name_head x = digit 10 x || eqb x (code "N")

digit_head : (x : ℕ) → digit 10 x ≡ true → name_head x ≡ true
unfolding name_head
digit_head x h = rw h

name_heads : (m : SpName) (r : Text) → first name_head (spell_name m ++ r) ≡ true
unfolding name_head digit digit_value if◌then◌otherwise◌
name_heads (flat n) r = first_map (digit 10) name_head digit_head (name_bytes n ++ r) (name_first n r)
name_heads (scoped k p n) r = refl

module _ {room : Type 0} {Q : Text → State → Type 0} where
  encoding_by : (s : State) → first name_head s.rest ≡ true → Verdict room Q (onto after_name (reading ⟨name⟩ s))
      → Verdict room Q (reading ⟨encoding⟩ s)
  unfolding production g.encoding g.encoding_with g.thunks clear labels b name_head digit digit_value if◌then◌otherwise◌
  encoding_by s f h =
      in_reading _ _ (by_code_miss _ _ _ _ (find_miss name_head _ s.rest f refl) (by_code_miss _ _ _ _ (find_miss name_head _ s.rest f refl)
      (equal_by _ _ (function_is s) h)))

qualified_is : (k : Bool) → qualified k ≡ tail k
unfolding each g.qualifier choose word_for qualifiers same b if◌then◌otherwise◌
qualified_is true = refl
qualified_is false = refl

fits_none : Fits []
unfolding sum
fits_none = record { entries = omega arith; size = omega arith }

name_room : (m : SpName) (ps : Option SpArgs) (e : Enc) (t : Ty) (us ws : List Ty) → Grown us ws → bytes t ≤ length (print_enc e)
    → RoomSym (symbol m ps) e ws
    → Room [] us [] 0 (depth_name m) (bytes t) 0 0
unfolding sum depth_sym bytes_of
name_room m ps e t us ws gr l p =
    let x = sum_grown nargs us ws gr in
    let y = sum_grown nbytes us ws gr in
    let z1 = p.deep in
    let z2 = p.text in
    let z3 = p.few in
    let z4 = p.small in
    record { table = fits_grown us ws gr p.table; deep = omega arith; text = omega arith; few = omega arith; small = omega arith }

bare_says : (m : SpName) (t : Ty) (us : List Ty) → NameRead m [] t us → SymRead (symbol m none) (enc (is_const m) t none) us
unfolding print_enc
bare_says m t us h =
    let e : print t ++ qualified (is_const m) ≡ print t ++ tail (is_const m) = ap (λ z. print t ++ z) (qualified_is (is_const m)) in
    let len : bytes t ≤ length (print t ++ tail (is_const m)) = rw (length-append (print t) (tail (is_const m))) (omega arith) in
    encoding_by _ (name_heads m [])
    (name_next after_name h (name_room m none (enc (is_const m) t none) t us us (grown_refl us) len)
    (λ a k. equal_by _ _ (no_types (print t) (texts us) a 0 (qualified (is_const m)))
    (give_told _ _ (λ p. rw e p.text)
    (λ l. record { text = e; whole = refl; table = k.table fits_none; deep = alone m k.deep; short = rw e at l }))))
  where
    alone : (m : SpName) → 0 + depth_name m ≤ most_open → depth_sym (symbol m none) ≤ most_open
    alone m z = unfold depth_sym in omega arith

void_short : length (print_args (one (letter lv))) ≤ most_text_bytes
unfolding print word word_for letters choose same b if◌then◌otherwise◌
void_short = omega arith

args_short : (xs : Args) → length (inside (is_void xs) xs) ≤ most_text_bytes → length (print_args xs) ≤ most_text_bytes
args_short (one t) l = go (same_ty t (letter lv)) refl l
  where
    go : (z : Bool) → same_ty t (letter lv) ≡ z → length (inside z (one t)) ≤ most_text_bytes → length (print_args (one t)) ≤ most_text_bytes
    go true e k = rw (same_ty_eq t (letter lv) e) void_short
    go false e k = k
args_short (also t xs) l = l

together : (m : SpName) (ss : SpArgs) → 0 + depth_name m ≤ most_open → 0 + depth_args ss ≤ most_open → depth_sym (symbol m (some ss)) ≤ most_open
unfolding depth_sym
together m ss h k = omega arith

types_room : (m : SpName) (ss : SpArgs) (k : Bool) (t : Ty) (xs : Args) (us ws : List Ty) (a : List Text)
    → length (inside (is_void xs) xs) ≤ length (print_enc (enc k t (some xs))) → RoomSym (symbol m (some ss)) (enc k t (some xs)) ws
    → Kept [] us [] 0 (depth_name m) 0 0 a → Room us ws a 0 (depth_args ss) (length (print_args xs)) 0 0
unfolding sum depth_sym bytes_of
types_room m ss k t xs us ws a l p j =
    let z1 = p.deep in
    let z2 = p.text in
    let z3 = p.few in
    let z4 = p.small in
    let z5 = j.few in
    let z6 = j.small in
    record { table = p.table; deep = omega arith; text = args_short xs (omega arith); few = omega arith; small = omega arith }

types_says : (m : SpName) (ss : SpArgs) (t : Ty) (us : List Ty) (xs : Args) (ws : List Ty) → NameRead m (spell_args ss) t us → TypesRead ss us xs ws
    → all_types xs ≡ true → WfArgs xs → Grown us ws → SymRead (symbol m (some ss)) (enc (is_const m) t (some xs)) ws
unfolding print_enc
types_says m ss t us xs ws h i o f gr =
    let k = is_const m in
    let ins = inside (is_void xs) xs in
    let e : [] ++ print t ++ b "(" ++ ins ++ b ")" ++ qualified k ≡ print t ++ (b "(" ++ (ins ++ (b ")" ++ tail k))) = rw (qualified_is k)
    (simp append_assoc) in
    let len : bytes t ≤ length (print t ++ (b "(" ++ (ins ++ (b ")" ++ tail k)))) = simp length-append (omega arith) in
    let len' : length ins ≤ length (print t ++ (b "(" ++ (ins ++ (b ")" ++ tail k)))) = simp length-append (omega arith) in
    let first_type = rw (append-nil (spell_args ss)) at (args_opens ss []) in
    encoding_by _ (name_heads m (spell_args ss))
    (name_next after_name h (name_room m (some ss) (enc k t (some xs)) t us ws gr len)
    (λ a j. equal_by _ _ (some_types (print t) (texts us) a 0 (qualified k) (spell_args ss) (not_ended (spell_args ss) first_type))
    (assoc types_end (in_brackets (print t) (qualified k)) _
    (next _ (i o (suc (length (spell_args ss))) [] a [] false (omega arith)) (λ p. types_room m ss k t xs us ws a len' p j)
    (λ u c q v. by_equal _ _ _ (types_end_is (print t) (texts ws) u 0 c (items xs) q)
    (rw (types_text xs f)
    (give_by _ _ _ (λ p. let z = p.text in omega arith)
    (give_told _ _ (λ p. rw e p.text)
    (λ l. record {
      text = e;
      whole = refl;
      table = v.table (j.table fits_none);
      deep = together m ss j.deep
          v.deep;
      short = rw e at l;
    })))))))))

-- ---------------------------------------------------------------- symbols

name_good : (m : SpName) → Post (resolve_name m) (λ t us. AllWf us)
unfolding resolve_name
name_good (flat n) = post_if _ (name_ok n) _ (λ e. post_ok _ _ _ tt)
name_good (scoped k p n) =
    post_then GoodPre _ (resolve_pre p []) _ (resolve_pre_wf p [] tt) (λ t us h. post_if _ (name_ok n) _ (λ e. post_ok _ _ _ h.2))

pub reads_symbol : (σ : Sym) → After (resolve_sym σ) (SymRead σ)
unfolding resolve_sym resolve_params
reads_symbol (symbol m none) =
    after_if _ (not (is_const m) || false) _ (λ e.
    after_then (NameRead m []) (SymRead (symbol m none)) (resolve_name m) _ (reads_name m [] follow_end.no_args follow_end.no_tag)
    (λ t us h. after_ok _ _ (SymRead (symbol m none)) (bare_says m t us h)))
reads_symbol (symbol m (some ss)) =
    let r = spell_args ss in
    let f = follow_opens r (rw (append-nil r) at (args_opens ss [])) in
    after_if _ (not (is_const m) || true) _ (λ e.
    after_then _ (SymRead (symbol m (some ss))) (resolve_name m) _
    (after_also (λ t us. AllWf us) (NameRead m r) (resolve_name m) (name_good m) (reads_name m r f.no_args f.no_tag))
    (λ t us h. after_then (λ ps vs. (xs : Args) × (ps ≡ some xs) × SymRead (symbol m (some ss)) (enc (is_const m) t (some xs)) vs) (SymRead
    (symbol m (some ss)))
    (and_then (resolve_args ss us) (λ xs vs. provided (all_types xs) (class.ok (some xs) vs))) _
    (after_then _ _ (resolve_args ss us) _
    (after_also GoodArgs _ _ (resolve_args_wf ss us h.0) (after_also _ _ _ (grows_args ss us) (reads_types ss us h.0)))
    (λ xs vs k. after_if _ (all_types xs) _ (λ o.
    after_ok _ _ (λ ps vs. (xs : Args) × (ps ≡ some xs) × SymRead (symbol m (some ss)) (enc (is_const m) t (some xs)) vs)
    (xs, refl, types_says m ss t us xs vs h.1 k.1.1 o k.0.0 k.1.0))))
    (λ ps vs k. after_ok _ _ (SymRead (symbol m (some ss))) (rw k.1 k.2))))
