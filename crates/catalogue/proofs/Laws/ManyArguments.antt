-- The count of 1,024 arguments: _Z1f1aI, the letter i some times, E is a catalogue symbol for 1 to 1,024 times and for no more.
use Rattle.std.specs.Prelude.{false, List, [], ◌∷◌, ◌++◌, ◌≡◌, refl, ℕ, zero, suc, ◌≤◌, ◌<◌, replicate}
use Rattle.std.proofs.Math.Option.{some}
use Rattle.std.proofs.Common.{◌∙◌, ap, arith}
use Prim.Native.Char.{code}
use Rattle.grammar.specs.Text.{Text, b, if◌then◌otherwise◌, same, digit, digit_value, decimal}
use Rattle.catalogue.specs.Tree.{Ty, Args, Enc, letter, root, app, one, also, enc, li}
use Rattle.catalogue.specs.Spelling.{Sym, SpArgs, s_letter, templ, s_one, s_also, flat, symbol, spell, spell_args, spell_sym}
use Rattle.catalogue.specs.Class.{word_byte, reserved, listed, name_ok, ok, resolve, resolve_args, resolve_name, resolve_params, resolve_sym, number}
use Rattle.catalogue.specs.Class.{count, count_args, count_sym, most_arguments, Catalogue}
use Rattle.catalogue.specs.Recogniser.{parse_sym}
use Rattle.catalogue.proofs.Laws.SymbolReadsBack.{parse_sym_spell}
use Rattle.catalogue.proofs.Laws.Decision.{valid_of, resolves, few}

-- one i, and so many more
unfoldable ints : ℕ → SpArgs
ints zero = s_one (s_letter li)
ints (suc k) = s_also (s_letter li) (ints k)

unfoldable int_args : ℕ → Args
int_args zero = one (letter li)
int_args (suc k) = also (letter li) (int_args k)

unfoldable with_ints : ℕ → Sym
with_ints k = symbol (flat (b "f")) (some (s_one (templ (b "a") (ints k))))

unfoldable pub ints_text : ℕ → Text
ints_text k = b "_Z1f1aI" ++ (replicate (suc k) (code "i") ++ b "E")

ints_resolve : (k : ℕ) (us : List Ty) → resolve_args (ints k) us ≡ ok (int_args k) us
unfolding resolve ints int_args
ints_resolve zero us = refl
ints_resolve (suc k) us = rw (ints_resolve k us) refl

ints_spell : (k : ℕ) → spell_args (ints k) ≡ replicate (suc k) (code "i")
unfolding spell ints
ints_spell zero = refl
ints_spell (suc k) = ap (◌∷◌ (code "i")) (ints_spell k)

ints_number : (k : ℕ) → number (ints k) ≡ suc k
unfolding ints
ints_number zero = refl
ints_number (suc k) = ap suc (ints_number k)

ints_count : (k : ℕ) → count_args (ints k) ≡ 0
unfolding ints count
ints_count zero = refl
ints_count (suc k) = let h = ints_count k in omega arith

tree : ℕ → Enc
tree k = enc false (root (b "f")) (some (one (app (root (b "a")) (int_args k))))

table : ℕ → List Ty
table k = root (b "a") ∷ app (root (b "a")) (int_args k) ∷ []

resolves_to : (k : ℕ) → resolve_sym (with_ints k) ≡ ok (tree k) (table k)
unfolding
    resolve_sym resolve_name resolve_params resolve with_ints tree table name_ok word_byte reserved listed same digit digit_value if◌then◌otherwise◌ b
resolves_to k = rw (ints_resolve k (root (b "a") ∷ [])) refl

spelled : (k : ℕ) → spell_sym (with_ints k) ≡ ints_text k
unfolding spell_sym spell with_ints ints_text decimal if◌then◌otherwise◌ b
spelled k = rw (ints_spell k) refl

counted : (k : ℕ) → count_sym (with_ints k) ≡ suc k
unfolding count_sym count with_ints
counted k = let p = ints_number k in let q = ints_count k in omega arith

pub many_in : (k : ℕ) → suc k ≤ most_arguments → Catalogue (ints_text k)
many_in k h =
    let p = counted k in
    record {
      written = with_ints k;
      tree = tree k;
      table = table k;
      spells = spelled k;
      holds = valid_of (with_ints k) (tree k) (table k) (resolves_to k) (omega arith);
    }

pub many_out : (k : ℕ) → most_arguments < suc k → Catalogue (ints_text k) → ⊥
many_out k h c =
    let p = parse_sym_spell (with_ints k) (tree k) (table k) (resolves_to k) in
    let q = parse_sym_spell c.written c.tree c.table (resolves c) in
    let e : parse_sym (ints_text k) ≡ some (with_ints k) = rw (spelled k) at p in
    let e' : parse_sym (ints_text k) ≡ some c.written = rw c.spells at q in
    let same_written : c.written ≡ with_ints k = cc in
    let f : count_sym c.written ≤ most_arguments = few c in
    let n : count_sym c.written ≡ suc k = ap count_sym same_written ∙ counted k in
    omega arith

pub 1024_in : Catalogue (ints_text 1023)
1024_in = many_in 1023 (omega arith)

pub 1025_out : Catalogue (ints_text 1024) → ⊥
1025_out = many_out 1024 (omega arith)
