-- The normal symbol: it is no larger than any symbol of its tree in all that is limited, it is itself a catalogue symbol of that
-- tree and its own normal symbol; and normal symbols are equal exactly when printed names are.
use mathlib.Core.List.{List, [], ◌∷◌}
use Rattle.std.specs.Prelude.{◌↔◌, ◌≡◌, refl, ℕ, ◌+◌, ◌≤◌, length}
use Rattle.std.proofs.Math.Option.{Option, none, some}
use Rattle.std.proofs.Common.{◌∙◌, ap, length-append}
use native.Mathlib.Omega.{arith}
use Rattle.grammar.specs.Text.{Text}
use Rattle.catalogue.specs.Tree.{Ty, Args, Enc, letter, wrap, root, sub, app, lit, one, also, enc, print, print_args, print_enc}
use Rattle.catalogue.specs.Spelling.{Sym, spell_sym}
use Rattle.catalogue.specs.Class.{ok, resolve_sym, count_sym, Catalogue}
use Rattle.catalogue.specs.Normal.{after_params, after_name, normal_sym, after_sym, write, normal_of}
use Rattle.catalogue.specs.Laws.WellFormed.{WfEnc, post_is, sym_wf}
use Rattle.catalogue.proofs.Laws.Back.{print_injective}
use Rattle.catalogue.proofs.Laws.NormalTree.{resolve_sym_normal}
use Rattle.catalogue.proofs.Laws.SymbolReadsBack.{parse_sym_spell}
use Rattle.catalogue.proofs.Laws.NoDoubles.{NoDup, after_pre_nodup, after_args_nodup, sum, sum_within}
use Rattle.catalogue.proofs.Laws.Limits.{short_sym, short_sym_length, depth_sym, Same}
use Rattle.catalogue.proofs.Laws.AnySpelling.{BesideSym, agree_sym}
use Rattle.catalogue.proofs.Laws.Count.{nargs, Counted, counted_sym}
use Rattle.catalogue.proofs.Laws.Decision.{valid_of, resolves, few, tree_wf, unique_tree}

-- ---------------------------------------------------------------- no entry twice

name_nodup : (t : Ty) → NoDup (after_name t)
unfolding NoDup
name_nodup (letter l) = tt
name_nodup (wrap c t) = tt
name_nodup (root n) = tt
name_nodup (sub t n) = after_pre_nodup t [] tt
name_nodup (app t xs) = tt
name_nodup (lit k g v) = tt

params_nodup : (ps : Option Args) (us : List Ty) → NoDup us → NoDup (after_params ps us)
params_nodup none us d = d
params_nodup (some xs) us d = after_args_nodup xs us d

pub sym_nodup : (e : Enc) → NoDup (after_sym e)
unfolding after_sym
sym_nodup (enc c t ps) = params_nodup ps (after_name t) (name_nodup t)

-- ---------------------------------------------------------------- weights of an entry

abbrev pub weight_one : Ty → ℕ
weight_one t = 1

abbrev pub printed : Ty → ℕ
printed t = length (print t)

unfoldable pub arg_bytes : Args → ℕ
arg_bytes (one t) = length (print t)
arg_bytes (also t xs) = length (print t) + arg_bytes xs

-- the bytes of the arguments of an entry's last list
abbrev pub nbytes : Ty → ℕ
nbytes (letter l) = 0
nbytes (wrap c t) = 0
nbytes (root n) = 0
nbytes (sub t n) = 0
nbytes (app t xs) = arg_bytes xs
nbytes (lit k g v) = 0

args_printed : (xs : Args) → arg_bytes xs ≤ length (print_args xs)
unfolding arg_bytes print
args_printed (one t) = omega arith
args_printed (also t xs) = let k = args_printed xs in simp length-append (omega arith)

pub nbytes_printed : (t : Ty) → nbytes t ≤ printed t
unfolding print
nbytes_printed (letter l) = omega arith
nbytes_printed (wrap c t) = omega arith
nbytes_printed (root n) = omega arith
nbytes_printed (sub t n) = omega arith
nbytes_printed (app t xs) = let k = args_printed xs in simp length-append (omega arith)
nbytes_printed (lit k g v) = omega arith

pub sum_one : (us : List Ty) → sum weight_one us ≡ length us
unfolding sum
sum_one [] = refl
sum_one (u ∷ us) = let k = sum_one us in omega arith

pub sum_le : (f g : Ty → ℕ) → ((t : Ty) → f t ≤ g t) → (us : List Ty) → sum f us ≤ sum g us
unfolding sum
sum_le f g h [] = omega arith
sum_le f g h (u ∷ us) = let k = sum_le f g h us in let l = h u in omega arith

-- ---------------------------------------------------------------- the normal symbol is no larger

-- the normal symbol of the tree e beside the symbol σ of that tree with the table us
pub record NoLarger (σ : Sym) (e : Enc) (us : List Ty) : Type 0 where
  pub entries : length (after_sym e) ≤ length us
  pub bytes : sum printed (after_sym e) ≤ sum printed us
  pub open_readings : depth_sym (normal_sym e) ≤ depth_sym σ
  pub arguments : count_sym (normal_sym e) ≤ count_sym σ
  pub argument_bytes : sum nbytes (after_sym e) ≤ sum printed us
  pub shortest : short_sym (normal_sym e) ≤ length (spell_sym σ)  -- each reference of the normal symbol counted as two bytes

module _ (σ : Sym) (e : Enc) (us : List Ty) (h : resolve_sym σ ≡ ok e us) where
  -- the tables of any two symbols of one tree have the same entries
  pub same_entries : Same us (after_sym e)
  same_entries = (post_is (BesideSym σ) (resolve_sym σ) e us h (agree_sym σ)).0

  -- any weight of entries sums to no more in the normal symbol's table
  pub sum_no_larger : (f : Ty → ℕ) → sum f (after_sym e) ≤ sum f us
  sum_no_larger f = sum_within f (after_sym e) us (sym_nodup e) (λ x k. same_entries x ∙ k)

  pub fewer_arguments : count_sym (normal_sym e) ≤ count_sym σ
  unfolding sum
  fewer_arguments =
      let a : sum nargs us ≡ sum nargs [] + count_sym σ = post_is (Counted [] (count_sym σ)) (resolve_sym σ) e us h (counted_sym σ) in
      let n : sum nargs (after_sym e) ≡ sum nargs [] + count_sym (normal_sym e) =
      post_is (Counted [] (count_sym (normal_sym e))) (resolve_sym (normal_sym e)) e (after_sym e)
      (resolve_sym_normal e (sym_wf σ e us h)) (counted_sym (normal_sym e)) in
      let w = sum_no_larger nargs in
      omega arith

  pub no_larger : NoLarger σ e us
  no_larger =
      let r = post_is (BesideSym σ) (resolve_sym σ) e us h (agree_sym σ) in
      let k = sum_no_larger weight_one in
      let l = sum_one (after_sym e) in
      let l' = sum_one us in
      let p = sum_no_larger printed in
      let q = sum_le nbytes printed nbytes_printed (after_sym e) in
      let m = short_sym_length σ in
      let n = r.2 in
      record {
        entries = omega arith;
        bytes = p;
        open_readings = r.1;
        arguments = fewer_arguments;
        argument_bytes = omega arith;
        shortest = omega arith;
      }

-- ---------------------------------------------------------------- the normal symbol is a catalogue symbol

-- of the same tree, with the table of the normal writing
unfoldable pub normal_catalogue : {s : Text} (c : Catalogue s) → Catalogue (normal_of c)
unfolding write
normal_catalogue c =
    let h = fewer_arguments c.written c.tree c.table (resolves c) in
    let k = few c in
    record {
      written = normal_sym c.tree;
      tree = c.tree;
      table = after_sym c.tree;
      spells = refl;
      holds = valid_of (normal_sym c.tree) c.tree (after_sym c.tree) (resolve_sym_normal c.tree (tree_wf c)) (omega arith);
    }

-- whatever way the normal symbol is found to be a catalogue symbol, its tree is the same
pub normal_tree : {s : Text} (c : Catalogue s) (d : Catalogue (normal_of c)) → d.tree ≡ c.tree
unfolding normal_catalogue
normal_tree c d = unique_tree d (normal_catalogue c)

-- it is its own normal symbol
pub normal_normal : {s : Text} (c : Catalogue s) (d : Catalogue (normal_of c)) → normal_of d ≡ normal_of c
normal_normal c d = ap write (normal_tree c d)

-- ---------------------------------------------------------------- names and normal symbols

pub write_injective : (d e : Enc) → WfEnc d → WfEnc e → write d ≡ write e → d ≡ e
unfolding write
write_injective d e f g h =
    let r₁ = resolve_sym_normal d f in
    let r₂ = resolve_sym_normal e g in
    let k₁ = parse_sym_spell (normal_sym d) d (after_sym d) r₁ in
    let k₂ = parse_sym_spell (normal_sym e) e (after_sym e) r₂ in
    cc

-- on trees: normal symbols are equal exactly when printed names are
pub names_normals : (d e : Enc) → WfEnc d → WfEnc e → (write d ≡ write e) ↔ (print_enc d ≡ print_enc e)
names_normals d e f g = ((λ h. ap print_enc (write_injective d e f g h)), (λ h. ap write (print_injective d e f g h)))

-- for every two catalogue symbols, however long their normal symbols
pub names_normals_of : {s t : Text} (c : Catalogue s) (d : Catalogue t) → (normal_of c ≡ normal_of d) ↔ (print_enc c.tree ≡ print_enc d.tree)
names_normals_of c d = names_normals c.tree d.tree (tree_wf c) (tree_wf d)
