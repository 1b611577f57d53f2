-- Source names, references and literals: what is spelled is read, and what is read is spelled so.
use Rattle.std.specs.Prelude.{Bool, true, false, not, List, [], ◌∷◌, ◌++◌, ◌≡◌, refl, ℕ, suc, eqb, leb, length, take, drop}
use Rattle.std.proofs.Common.{append_assoc, ◌∙◌, ap, arith, length-take, take-append-drop, leb-true}
use Rattle.std.proofs.Math.Option.{Option, none, some}
use Prim.Native.Char.{code}
use Rattle.grammar.specs.Text.{Text, if◌then◌otherwise◌, choose, run, past, digit_value, digit, number}
use Rattle.grammar.specs.Grammar.{index}
use Rattle.catalogue.specs.Bytes.{first, eqb_eq}
use Rattle.catalogue.specs.Laws.Bytes.{not-true, run_of, past_of}
use Rattle.catalogue.specs.Tree.{Letter, Wrap, Kind, Ty, lit, letter_code, wrap_code, kind_code}
use Rattle.catalogue.specs.Spelling.{ref_digits, length_digits, name_bytes, minus}
use Rattle.catalogue.specs.Class.{name_ok, lit_ok}
use Rattle.catalogue.specs.Laws.Numbers.{ref_all, ref_index}
use Rattle.catalogue.specs.Recogniser.{rd, stop, cut, read_name, with_code, all_letters, all_wraps, all_kinds, Lead, lead_letter, lead_wrap, lead_digit}
use Rattle.catalogue.specs.Recogniser.{lead_S, lead_N, lead_L, lead_none, lead}
use Rattle.catalogue.proofs.Laws.ReadsBack.{name_read, name_some, kind_at, no_n, next_no}
use Rattle.catalogue.proofs.Laws.SymbolReadsBack.{lit_digits}
use Rattle.normal_walk.specs.Walk.{canonical, name, reference, value, literal}
use Rattle.normal_walk.proofs.Laws.Digits.{is_zero, run_past, run_all, decimal_of, decimal_first, ref_of, ref_canonical}
use Rattle.normal_walk.specs.Laws.Joins.{OfRd, rd_rd, rd_stop, rd_keep, rd_then, rd_next}

-- ---------------------------------------------------------------- source names

pub name_spelled : (n r : Text) → name_ok n ≡ true → name (name_bytes n ++ r) ≡ rd n r
unfolding name
name_spelled n r h =
    let e : first is_zero (name_bytes n ++ r) ≡ false =
    rw (append_assoc (length_digits n) n r) (decimal_first (suc (length n)) (length n) (n ++ r) (name_some n h) (omega arith)) in
    let d : read_name (name_bytes n ++ r) ≡ rd n r = rw (append_assoc (length_digits n) n r) (name_read n r h) in
    rw (e, d) (rw h refl)

cut_sound : (k : ℕ) (s : Text) → OfRd (cut k s) (λ n r. (n ++ r ≡ s) × (length n ≡ k))
unfolding cut if◌then◌otherwise◌
cut_sound k s = go (leb k (length s)) refl
  where
    go : (p : Bool) → leb k (length s) ≡ p → OfRd (if p then rd (take k s) (drop k s) otherwise stop) (λ n r. (n ++ r ≡ s) × (length n ≡ k))
    go true e = let l = leb-true k (length s) e in rd_rd _ (take k s) (drop k s) (take-append-drop k s, simp length-take (omega arith))
    go false e = rd_stop _

first_run : (p q : ℕ → Bool) (s : Text) → first p s ≡ false → first p (run q s) ≡ false
unfolding run if◌then◌otherwise◌
first_run p q [] h = refl
first_run p q (x ∷ s) h = go (q x)
  where
    go : (b : Bool) → first p (if b then x ∷ run q s otherwise []) ≡ false
    go true = h
    go false = refl

pub name_sound : (s : Text) → OfRd (name s) (λ n r. (name_bytes n ++ r ≡ s) × (name_ok n ≡ true))
unfolding name read_name
name_sound s =
    rd_keep _ (not (first is_zero s)) _
    (λ z. rd_then (λ n r. (n ++ r ≡ past (digit 10) s) × (length n ≡ number 10 0 (run (digit 10) s))) _ (read_name s) _
    (cut_sound (number 10 0 (run (digit 10) s)) (past (digit 10) s))
    (λ n r h. rd_keep _ (name_ok n) _
    (λ p. rd_rd _ n r (spelled n r z h.0 h.1 p, p))))
  where
    spelled : (n r : Text) → not (first is_zero s) ≡ true → n ++ r ≡ past (digit 10) s → length n ≡ number 10 0 (run (digit 10) s) → name_ok n ≡ true
        → name_bytes n ++ r ≡ s
    spelled n r z h l p =
        let k = name_some n p in
        let d = decimal_of (suc (number 10 0 (run (digit 10) s))) (run (digit 10) s) (first_run is_zero (digit 10) s (not-true (first is_zero s) z)) (run_all (digit 10) s)
        (omega arith) (omega arith) in
        append_assoc (length_digits n) n r ∙ rw (l, d, h) (run_past (digit 10) s)

-- ---------------------------------------------------------------- references

pub ref_spelled : (i : ℕ) (r : Text) → reference (ref_digits i ++ (code "_" ∷ r)) ≡ rd i r
unfolding reference digit digit_value if◌then◌otherwise◌
ref_spelled i r =
    rw (past_of (digit 36) (ref_digits i) (code "_" ∷ r) (ref_all i) refl, run_of (digit 36) (ref_digits i) (code "_" ∷ r) (ref_all i) refl, ref_canonical i, ref_index i) refl

pub ref_sound : (s : Text) → OfRd (reference s) (λ i r. ref_digits i ++ (code "_" ∷ r) ≡ s)
unfolding reference
ref_sound s =
    rd_next _ (code "_") (past (digit 36) s) _ stop
    (λ r e. rd_keep _ (canonical (run (digit 36) s)) _
    (λ p. rd_rd _ (index 36 (run (digit 36) s)) r (rw (ref_of (run (digit 36) s) p, ← e) (run_past (digit 36) s))))
    (rd_stop _)

-- ---------------------------------------------------------------- literals

value_spelled : (k : Kind) (g : Bool) (v r : Text) → lit_ok k g v ≡ true → value (some k) g (v ++ (69 ∷ r)) ≡ rd (lit k g v) r
unfolding digit digit_value if◌then◌otherwise◌
value_spelled k g v r h =
    let d = lit_digits k g v h in
    rw (past_of (digit 10) v (69 ∷ r) d refl, run_of (digit 10) v (69 ∷ r) d refl, h) refl

pub lit_spelled : (k : Kind) (g : Bool) (v r : Text) → lit_ok k g v ≡ true
    → literal (kind_code k ∷ (minus g ++ (v ++ (code "E" ∷ r)))) ≡ rd (lit k g v) r
unfolding literal if◌then◌otherwise◌
lit_spelled k true v r h = rw (kind_at k) (value_spelled k true v r h)
lit_spelled k false v r h =
    rw (kind_at k)
    (next_no 110 (v ++ (69 ∷ r)) (λ r'. value (some k) true r') (value (some k) false (v ++ (69 ∷ r))) (no_n v r (lit_digits k false v h))
    ∙ value_spelled k false v r h)

-- a literal that may stand, and its bytes behind L
pub record Literal (s : Text) (t : Ty) (r : Text) : Type 0 where
  pub kind : Kind
  pub neg : Bool
  pub digits : Text
  pub is : t ≡ lit kind neg digits
  pub ok : lit_ok kind neg digits ≡ true
  pub spells : kind_code kind ∷ (minus neg ++ (digits ++ (code "E" ∷ r))) ≡ s

code_sound : {A : Type 0} (f : A → ℕ) (c : ℕ) (xs : List A) (x : A) → with_code f c xs ≡ some x → c ≡ f x
unfolding with_code if◌then◌otherwise◌
code_sound f c [] x h = cc
code_sound f c (y ∷ ys) x h = go (λ k. code_sound f c ys x k) (eqb c (f y)) refl h
  where
    go : (with_code f c ys ≡ some x → c ≡ f x) → (p : Bool) → eqb c (f y) ≡ p → (if p then some y otherwise with_code f c ys) ≡ some x → c ≡ f x
    go ih true e q = let z : y ≡ x = cc in eqb_eq c (f y) e ∙ ap f z
    go ih false e q = ih q

value_sound : (o : Option Kind) (c : ℕ) (g : Bool) (s : Text) → ((k : Kind) → o ≡ some k → c ≡ kind_code k)
    → OfRd (value o g s) (λ t r. Literal (c ∷ (minus g ++ s)) t r)
value_sound none c g s h = rd_stop _
value_sound (some k) c g s h =
    rd_next _ (code "E") (past (digit 10) s) _ stop
    (λ r e. rd_keep _ (lit_ok k g (run (digit 10) s)) _
    (λ p. rd_rd _ (lit k g (run (digit 10) s)) r
    (record {
      kind = k;
      neg = g;
      digits = run (digit 10) s;
      is = refl;
      ok = p;
      spells = rw (← e, run_past (digit 10) s, ← h k refl) refl;
    })))
    (rd_stop _)

pub lit_sound : (s : Text) → OfRd (literal s) (Literal s)
unfolding literal
lit_sound [] = rd_stop _
lit_sound (c ∷ s) =
    rd_next _ (code "n") s _ _
    (λ r e. rw e (value_sound (with_code kind_code c all_kinds) c true r (λ k h. code_sound kind_code c all_kinds k h)))
    (value_sound (with_code kind_code c all_kinds) c false s (λ k h. code_sound kind_code c all_kinds k h))

-- ---------------------------------------------------------------- the first byte

-- what a byte is by its lead
abbrev pub Begins : Lead → ℕ → Type 0
Begins (lead_letter l) c = c ≡ letter_code l
Begins (lead_wrap q) c = c ≡ wrap_code q
Begins lead_digit c = digit 10 c ≡ true
Begins lead_S c = c ≡ code "S"
Begins lead_N c = c ≡ code "N"
Begins lead_L c = c ≡ code "L"
Begins lead_none c = Unit {0}

pub begins : (c : ℕ) → Begins (lead c) c
unfolding lead if◌then◌otherwise◌ choose
begins c = by_digit (digit 10 c) refl
  where
    by_letter : (o : Option Letter) → with_code letter_code c all_letters ≡ o → Begins (choose o lead_letter lead_none) c
    by_letter none e = tt
    by_letter (some l) e = code_sound letter_code c all_letters l e

    by_wrap : (o : Option Wrap) → with_code wrap_code c all_wraps ≡ o
        → Begins (choose o lead_wrap (choose (with_code letter_code c all_letters) lead_letter lead_none)) c
    by_wrap none e = by_letter (with_code letter_code c all_letters) refl
    by_wrap (some q) e = code_sound wrap_code c all_wraps q e

    rest : Lead
    rest = choose (with_code wrap_code c all_wraps) lead_wrap (choose (with_code letter_code c all_letters) lead_letter lead_none)

    by_L : (p : Bool) → eqb c (code "L") ≡ p → Begins (if p then lead_L otherwise rest) c
    by_L true e = eqb_eq c 76 e
    by_L false e = by_wrap (with_code wrap_code c all_wraps) refl

    by_N : (p : Bool) → eqb c (code "N") ≡ p → Begins (if p then lead_N otherwise if eqb c (code "L") then lead_L otherwise rest) c
    by_N true e = eqb_eq c 78 e
    by_N false e = by_L (eqb c (code "L")) refl

    by_S : (p : Bool) → eqb c (code "S") ≡ p
        → Begins (if p then lead_S otherwise if eqb c (code "N") then lead_N otherwise if eqb c (code "L") then lead_L otherwise rest) c
    by_S true e = eqb_eq c 83 e
    by_S false e = by_N (eqb c (code "N")) refl

    by_digit : (p : Bool) → digit 10 c ≡ p
        → Begins (if p then lead_digit otherwise if eqb c (code "S") then lead_S otherwise if eqb c (code "N") then lead_N otherwise if eqb c (code "L") then lead_L otherwise rest) c
    by_digit true e = e
    by_digit false e = by_S (eqb c (code "S")) refl
