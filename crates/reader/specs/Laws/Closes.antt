-- Lists up to an E, and template arguments, one step at a time. Assumes nothing.
use Rattle.std.specs.Prelude.{◌≡◌, ℕ, ◌+◌, ◌<◌, ◌≤◌, Bool, true, false, List, [], ◌∷◌, length, drop, refl}
use Rattle.std.proofs.Math.Option.{Option, none, some}
use Rattle.std.proofs.Common.{sym, ◌∙◌, subst, drop-drop}
use Rattle.std.proofs.Math.Path.{ap}
use Prim.Native.Char.{code}
use Rattle.grammar.specs.Text.{Text, b, choose, join, starts}
use Rattle.grammar.specs.Limits.{most_open}
use Rattle.grammar.specs.Reader.{State, Result, ok, refused, Reader, onto, return, go_to, give, entered, up_to_E, one_more}
use Rattle.grammar.specs.Grammar.{reading, ⟨type⟩, ⟨template-args⟩, ⟨template-arg⟩, ⟨expr-primary⟩, skipped}
use Rattle.grammar.specs.Grammar as g
use Rattle.grammar.specs.Laws.Agree.{moved, bind, push_arg_keeps}
use Rattle.grammar.specs.Laws.Agree as agree
use Rattle.grammar.specs.Laws.Fuel.{reading_ends, reading_is}
use Rattle.grammar.specs.Loops.{argument}
use Rattle.grammar.specs.Laws.Loops.{closed, up_to_E_is}
use Rattle.grammar.specs.Laws.Steps.{at_level, entered_in, entered_8, need_yes, need_no, from_text, same_from}
use Rattle.grammar.specs.Laws.NameSteps.{starts_one, arg_L, arg_X, arg_J, arg_type}
use Rattle.parser.specs.Holds.{Memory, Holds, Stands, Refines, refuses}
use Rattle.parser.specs.Laws.Holds.{by_state, holds_entered, holds_moved}
use Rattle.parser.specs.Leaves.{left_at, Skips, Skipped_inside}
use Rattle.grammar.specs.States.{moved_to, deeper, Progress, Read}
use Rattle.std.specs.Prelude as returned
use Rattle.reader.specs.declared.lists.Kind.TheVariants.{Types, Arguments}
use Rattle.reader.specs.Lists.{Texts, Listed, Unlisted, Lists, listed, unlisted, refused_of}
use Rattle.reader.specs.Laws.Items.{looped}
use Rattle.grammar.specs.Refusals.{refusal_number}
use Rattle.grammar.specs.declared.refusal.Refusal.{Refusal}

-- ---------------------------------------------------------------- what a list says

pub record GotList (k d : ℕ) (s base : Text) (from : ℕ) (m : Memory) (p : Progress) (n count : ℕ) (f : Result (List Text)) : Type 0 where
  pub texts : List Text
  pub state : State
  pub stands : Stands k d s base from m p n (join (b ", ") texts) state
  pub count_is : count ≡ length texts
  pub is : f ≡ ok texts state

pub got_list :
    {k d : ℕ} {s base : Text} {from : ℕ} {m : Memory} {r : Texts} {f : Result (List Text)} {p : Progress} {n count : ℕ} →
    r ≡ Listed p n count → Lists k d s base from m r f → GotList k d s base from m p n count f
got_list {k} {d} {s} {base} {from} {m} {r} {f} {p} {n} {count} e h = told (subst (λ (x : Texts). Lists k d s base from m x f) e h)
  where
    told : {f : Result (List Text)} → Lists k d s base from m (Listed p n count) f → GotList k d s base from m p n count f
    told (listed {ts = ts} {σ = σ} w c) = record { texts = ts; state = σ; stands = w; count_is = c; is = refl }

pub list_refused : {k d : ℕ} {s base : Text} {from : ℕ} {m : Memory} {r : Texts} {f : Result (List Text)} {j : Refusal} → r ≡ Unlisted j → Lists k d s base from m r f → f ≡ refused (refusal_number j)
list_refused {k} {d} {s} {base} {from} {m} {r} {f} {j} e h = told (subst (λ (x : Texts). Lists k d s base from m x f) e h)
  where
    told : {f : Result (List Text)} → Lists k d s base from m (Unlisted j) f → f ≡ refused (refusal_number j)
    told unlisted = refl

-- the answer of a list that is none
pub refuses_list : {k d : ℕ} {s base : Text} {from : ℕ} {m : Memory} {r : Read} {list : Texts} {j : Refusal} → list ≡ Unlisted j → r ≡ refused_of list → Refines k d s base from m r (refused (refusal_number j))
refuses_list {k} {d} {s} {base} {from} {m} {r} {list} {j} e f = subst (λ (x : Read). Refines k d s base from m x (refused (refusal_number j))) (sym (f ∙ ap refused_of e)) refuses

-- ---------------------------------------------------------------- up to an E

pub up_types : (σ : State) → up_to_E (one_more (reading ⟨type⟩)) [] σ ≡ onto closed (looped Types [] σ)
up_types σ = up_to_E_is (one_more (reading ⟨type⟩)) (λ x u. bind (reading_ends ⟨type⟩ u) λ t v h. agree.reads h) [] σ

pub up_arguments : (σ : State) → up_to_E (one_more argument) [] σ ≡ onto closed (looped Arguments [] σ)
up_arguments σ =
    up_to_E_is (one_more argument) (λ x u. bind (bind (reading_ends ⟨template-arg⟩ u) λ t v h. bind (push_arg_keeps t v h) λ _ w k. agree.reads k) λ t v h. agree.reads h) [] σ

module _ {A : Type 0} {f : Result A} where
  pub closed_no : {ts : A} {τ : State} → f ≡ ok ts τ → starts τ.rest (69 ∷ []) ≡ false → onto closed f ≡ refused 4
  unfolding onto b
  closed_no {ts} {τ} e h = ap (onto closed) e ∙ ap (onto (λ _. return ts)) (need_no "E" τ h)

  pub closed_yes : {ts : A} {τ : State} → f ≡ ok ts τ → starts τ.rest (69 ∷ []) ≡ true → onto closed f ≡ ok ts (moved (drop 1 τ.rest) τ)
  unfolding onto b
  closed_yes {ts} {τ} e h = ap (onto closed) e ∙ ap (onto (λ _. return ts)) (need_yes "E" τ h)

-- ---------------------------------------------------------------- what stands ahead

pub behind_is : (s : Text) (at : ℕ) (σ : State) → σ.rest ≡ drop at s → moved (drop 1 σ.rest) σ ≡ moved (drop (at + 1) s) σ
behind_is s at σ e = ap (λ (t : Text). moved t σ) (ap (drop 1) e ∙ drop-drop 1 at s)

-- ---------------------------------------------------------------- template arguments

module _ (s : Text) (at : ℕ) (σ : State) (e : σ.rest ≡ drop at s) where
  pub arg_literal : starts σ.rest (76 ∷ []) ≡ true → reading ⟨template-arg⟩ σ ≡ reading ⟨expr-primary⟩ σ
  unfolding b
  arg_literal h = same_from (reading ⟨template-arg⟩) (reading ⟨expr-primary⟩) σ (starts_one σ.rest (code "L") h) (arg_L (drop 1 σ.rest) σ)

  arg_skips : starts σ.rest (88 ∷ []) ≡ true → reading ⟨template-arg⟩ σ ≡ g.expression reading (moved (drop (at + 1) s) σ)
  unfolding b
  arg_skips h = from_text (reading ⟨template-arg⟩) σ (starts_one σ.rest (code "X") h) (arg_X (drop 1 σ.rest) σ) ∙ ap (g.expression reading) (behind_is s at σ e)

  pub arg_skipped : {u : Text} → starts σ.rest (88 ∷ []) ≡ true → skipped (drop (at + 1) s) 1 ≡ some u → reading ⟨template-arg⟩ σ ≡ give (46 ∷ 46 ∷ 46 ∷ []) (moved u σ)
  unfolding g.expression onto choose go_to b
  arg_skipped h f = arg_skips h ∙ ap (λ (o : Option Text). choose {B = Reader Text} o (λ u. λ (v : State). onto (λ _. give (b "...")) (go_to u v)) (λ _. refused 4) (moved (drop (at + 1) s) σ)) f

  pub arg_open : starts σ.rest (88 ∷ []) ≡ true → skipped (drop (at + 1) s) 1 ≡ none → reading ⟨template-arg⟩ σ ≡ refused 4
  unfolding g.expression onto choose go_to
  arg_open h f = arg_skips h ∙ ap (λ (o : Option Text). choose {B = Reader Text} o (λ u. λ (v : State). onto (λ _. give (b "...")) (go_to u v)) (λ _. refused 4) (moved (drop (at + 1) s) σ)) f

  pub arg_pack : starts σ.rest (74 ∷ []) ≡ true → reading ⟨template-arg⟩ σ ≡ g.pack reading (moved (drop (at + 1) s) σ)
  unfolding b
  arg_pack h = from_text (reading ⟨template-arg⟩) σ (starts_one σ.rest (code "J") h) (arg_J (drop 1 σ.rest) σ) ∙ ap (g.pack reading) (behind_is s at σ e)

pub arg_other :
    (σ : State) → starts σ.rest (76 ∷ []) ≡ false → starts σ.rest (88 ∷ []) ≡ false → starts σ.rest (74 ∷ []) ≡ false →
    reading ⟨template-arg⟩ σ ≡ reading ⟨type⟩ σ
unfolding b
arg_other σ l x j = arg_type σ l x j

module _ {A B : Type 0} where
  pub then_refused : {f : Result A} {j : ℕ} (k : A → Reader B) → f ≡ refused j → onto k f ≡ refused j
  unfolding onto
  then_refused k e = ap (onto k) e

  pub then_ok : {f : Result A} {x : A} {τ : State} (k : A → Reader B) → f ≡ ok x τ → onto k f ≡ k x τ
  unfolding onto
  then_ok k e = ap (onto k) e

-- ---------------------------------------------------------------- skipped expressions

pub skips_to : {s : Text} {at e : ℕ} {r : returned.Option ℕ} → Skips s at r → r ≡ returned.Some e → (skipped (drop at s) 1 ≡ some (drop e s)) × ((at ≤ e) × (e ≤ length s))
unfolding left_at
skips_to {s} {at} {e} {r} h f = (sym h.is ∙ ap (left_at s) f, subst (λ (x : returned.Option ℕ). Skipped_inside s at x) f h.inside)

pub skips_none : {s : Text} {at : ℕ} {r : returned.Option ℕ} → Skips s at r → r ≡ returned.None → skipped (drop at s) 1 ≡ none
unfolding left_at
skips_none {s} {at} {r} h f = sym h.is ∙ ap (left_at s) f

-- ---------------------------------------------------------------- lists of template arguments

abbrev pub bracketed : Reader Text
bracketed = λ σ. onto (λ ts. give (g.angled ts)) (up_to_E (one_more argument) [] σ)

module _ (s : Text) (at : ℕ) (σ : State) (e : σ.rest ≡ drop at s) where
  pub args_no : starts σ.rest (73 ∷ []) ≡ false → reading ⟨template-args⟩ σ ≡ refused 4
  unfolding b onto g.production g.template_args
  args_no h = reading_is ⟨template-args⟩ σ ∙ ap (onto (λ _. entered bracketed)) (need_no "I" σ h)

  args_in : starts σ.rest (73 ∷ []) ≡ true → reading ⟨template-args⟩ σ ≡ entered bracketed (moved (drop (at + 1) s) σ)
  unfolding b onto g.production g.template_args
  args_in h = reading_is ⟨template-args⟩ σ ∙ ap (onto (λ _. entered bracketed)) (need_yes "I" σ h) ∙ ap (entered bracketed) (behind_is s at σ e)

  pub args_8 : starts σ.rest (73 ∷ []) ≡ true → most_open ≤ σ.depth → reading ⟨template-args⟩ σ ≡ refused 8
  args_8 h d = args_in h ∙ entered_8 bracketed (moved (drop (at + 1) s) σ) d

  pub args_is :
      starts σ.rest (73 ∷ []) ≡ true → σ.depth < most_open →
      reading ⟨template-args⟩ σ ≡ onto (λ t u. ok t (at_level σ.depth u)) (onto (λ ts. give (g.angled ts)) (onto closed (looped Arguments [] (at_level (σ.depth + 1) (moved (drop (at + 1) s) σ)))))
  args_is h d =
      args_in h
      ∙ entered_in bracketed (moved (drop (at + 1) s) σ) d
      ∙ ap (λ (x : Result (List Text)). onto (λ t u. ok t (at_level σ.depth u)) (onto (λ ts. give (g.angled ts)) x)) (up_arguments (at_level (σ.depth + 1) (moved (drop (at + 1) s) σ)))

pub args_open :
    {s : Text} {m : Memory} {p q r : Progress} {at : ℕ} {σ : State} → r ≡ deeper q → q ≡ moved_to p at → p.depth < most_open → at ≤ length s → Holds s m p σ →
    Holds s m r (at_level (σ.depth + 1) (moved (drop at s) σ))
args_open {at = at} e f d l h = by_state (e ∙ ap deeper f) (holds_entered (holds_moved h at l) d)
