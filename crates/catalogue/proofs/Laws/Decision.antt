-- The recogniser decides the class, both ways; so a text has at most one written symbol, tree and table.
use Rattle.std.specs.Prelude.{Bool, true, false, List, ◌↔◌, ◌≡◌, refl, ◌≤◌}
use Rattle.std.proofs.lemmas.Bool.{false≢true}
use Rattle.std.proofs.Math.Option.{Option, none, some}
use borrow.Author.Tests.{leb-true, le-leb}
use Rattle.grammar.specs.Text.{Text, choose, same}
use Rattle.catalogue.specs.Bytes.{same_eq, same_yes}
use Rattle.catalogue.specs.Tree.{Ty, Enc}
use Rattle.catalogue.specs.Spelling.{Sym, spell_sym}
use Rattle.catalogue.specs.Class.{Res, ok, wrong, provided, resolve_sym, count_sym, most_arguments, count_ok, valid, Catalogue}
use Rattle.catalogue.specs.Laws.WellFormed.{WfEnc, Post, post_wrong, post_if, post_is, post_self, post_map, sym_wf}
use Rattle.catalogue.specs.Recogniser.{parse_sym, classify}
use Rattle.catalogue.proofs.Laws.SymbolReadsBack.{parse_sym_spell}

-- ---------------------------------------------------------------- valid written symbols

module _ (σ : Sym) (e : Enc) (us : List Ty) where
  pub valid_resolves : valid σ ≡ ok e us → resolve_sym σ ≡ ok e us
  unfolding valid
  valid_resolves h = post_is (λ f vs. resolve_sym σ ≡ ok f vs) (valid σ) e us h (post_if _ (count_ok σ) (resolve_sym σ) (λ p. post_self (resolve_sym σ)))

  pub valid_few : valid σ ≡ ok e us → count_sym σ ≤ most_arguments
  unfolding valid count_ok
  valid_few h =
      post_is (λ f vs. count_sym σ ≤ most_arguments) (valid σ) e us h
      (post_if _ (count_ok σ) (resolve_sym σ)
      (λ p. post_map (λ f vs. resolve_sym σ ≡ ok f vs) _ (resolve_sym σ) (λ f vs k. leb-true (count_sym σ) most_arguments p) (post_self (resolve_sym σ))))

  pub valid_of : resolve_sym σ ≡ ok e us → count_sym σ ≤ most_arguments → valid σ ≡ ok e us
  unfolding valid count_ok
  valid_of h k = rw (le-leb (count_sym σ) most_arguments k) h

-- ---------------------------------------------------------------- the recogniser

-- what the recogniser finds in a catalogue symbol is its tree and its table
pub classify_complete : {s : Text} (c : Catalogue s) → classify s ≡ ok c.tree c.table
unfolding classify choose
classify_complete {s} c =
    let h = parse_sym_spell c.written c.tree c.table (valid_resolves c.written c.tree c.table c.holds) in
    let h' : parse_sym s ≡ some c.written = rw c.spells at h in
    let k : same (spell_sym c.written) s ≡ true = rw c.spells (same_yes s) in
    rw h' (rw k c.holds)

-- the text is a catalogue symbol with this tree and this table
abbrev Symbol : Text → Enc → List Ty → Type 0
Symbol s e us = (c : Catalogue s) × (c.tree ≡ e) × (c.table ≡ us)

-- where the recogniser finds a tree, the text is a catalogue symbol with that tree
pub classify_sound : (s : Text) (e : Enc) (us : List Ty) → classify s ≡ ok e us → (c : Catalogue s) × (c.tree ≡ e) × (c.table ≡ us)
unfolding classify choose
classify_sound s e us h = post_is (Symbol s) (classify s) e us h (go (parse_sym s))
  where
    go : (o : Option Sym) → Post (choose o (λ σ. provided (same (spell_sym σ) s) (valid σ)) wrong) (Symbol s)
    go none = post_wrong (Symbol s)
    go (some σ) =
        post_if (Symbol s) (same (spell_sym σ) s) (valid σ)
        (λ p. post_map _ (Symbol s) (valid σ)
        (λ f vs k. (record { written = σ; tree = f; table = vs; spells = same_eq (spell_sym σ) s p; holds = k }, refl, refl)) (post_self (valid σ)))

abbrev pub found : {A : Type 0} → Res A → Bool
found (ok x us) = true
found wrong = false

-- the text is a catalogue symbol, as a test
unfoldable pub is_catalogue : Text → Bool
is_catalogue s = found (classify s)

pub decides : (s : Text) → (is_catalogue s ≡ true) ↔ Catalogue s
unfolding is_catalogue
decides s = ((λ h. yes_found (classify s) refl h), (λ c. rw (classify_complete c) refl))
  where
    yes_found : (r : Res Enc) → classify s ≡ r → found r ≡ true → Catalogue s
    yes_found (ok e us) k h = (classify_sound s e us k).0
    yes_found wrong k h = absurd (false≢true h)

-- ---------------------------------------------------------------- one written symbol, tree and table

pub unique_written : {s : Text} (c d : Catalogue s) → c.written ≡ d.written
unique_written {s} c d =
    let h : parse_sym s ≡ some c.written = rw c.spells at
    (parse_sym_spell c.written c.tree c.table (valid_resolves c.written c.tree c.table c.holds)) in
    let k : parse_sym s ≡ some d.written = rw d.spells at
    (parse_sym_spell d.written d.tree d.table (valid_resolves d.written d.tree d.table d.holds)) in
    cc

pub unique_tree : {s : Text} (c d : Catalogue s) → c.tree ≡ d.tree
unique_tree c d = let h = classify_complete c in let k = classify_complete d in cc

pub unique_table : {s : Text} (c d : Catalogue s) → c.table ≡ d.table
unique_table c d = let h = classify_complete c in let k = classify_complete d in cc

-- ---------------------------------------------------------------- what a catalogue symbol has

pub resolves : {s : Text} (c : Catalogue s) → resolve_sym c.written ≡ ok c.tree c.table
resolves c = valid_resolves c.written c.tree c.table c.holds

pub few : {s : Text} (c : Catalogue s) → count_sym c.written ≤ most_arguments
few c = valid_few c.written c.tree c.table c.holds

pub tree_wf : {s : Text} (c : Catalogue s) → WfEnc c.tree
tree_wf c = sym_wf c.written c.tree c.table (resolves c)
