-- Laws of lists of texts, and of each text behind a comma. Assumes nothing.
use Rattle.std.proofs.Common.{◌≡◌, ℕ, drop, sym, ap, ◌∙◌, subst}
use Rattle.std.specs.Prelude.{Result, Ok, Err, Option}
use Rattle.grammar.specs.declared.refusal.Refusal.{Refusal}
use Rattle.grammar.specs.Text.{Text}
use Rattle.grammar.specs.States.{peeked}
use Rattle.parser.specs.declared.demangler.Demangler.{Demangler}
use Rattle.parser.specs.Demanglers.{state_of, memory_of, outcome}
use Rattle.store.specs.declared.stack.Stack.{Stack}
use Rattle.parser.specs.Holds.{mem}
use Rattle.reader.specs.Cycle.{Itemized, Item}
use Rattle.reader.specs.declared.lists.Kind.{Kind}
use Rattle.reader.specs.declared.lists.Joined.{Joined}
use Rattle.reader.specs.Lists.{ReadsItems, Listed, Unlisted, ReadsItem}

module _ (kind : Kind) {s : Text} (d : Demangler) {d' : Demangler} (e : d.s.now ≡ s) where
  pub items_from : (l : Joined) → Itemized kind d d' (Ok l) → ReadsItems kind s (memory_of d) (memory_of d') (state_of d) (Listed (state_of d') l.n l.count)
  items_from l h = subst (λ (x : Text). ReadsItems kind x (memory_of d) (memory_of d') (state_of d) (Listed (state_of d') l.n l.count)) e h.is

  pub no_items_from : (j : Refusal) → Itemized kind d d' (Err j) → ReadsItems kind s (memory_of d) (memory_of d') (state_of d) (Unlisted j)
  no_items_from j h = subst (λ (x : Text). ReadsItems kind x (memory_of d) (memory_of d') (state_of d) (Unlisted j)) e h.is

-- what stands at the place, and a text that is read behind a comma, or behind none
module _ {s : Text} (d : Demangler) (e : d.s.now ≡ s) where
  pub peeked_from : {o v : Option ℕ} → o ≡ peeked (drop d.state.at d.s.now) → o ≡ v → peeked (drop d.state.at s) ≡ v
  peeked_from f g = ap (λ (t : Text). peeked (drop d.state.at t)) (sym e) ∙ sym f ∙ g

  pub item_from :
      (x : Stack) (kind : Kind) {d' : Demangler} (r : Result ℕ Refusal) → Item kind (record d { stack = x }) d' r →
      ReadsItem kind s (mem x.bytes.now (memory_of d).store (memory_of d).ends) (memory_of d') (state_of (record d { stack = x })) (outcome (state_of d') r)
  item_from x kind {d'} r h =
      subst (λ (y : Text). ReadsItem kind y (memory_of (record d { stack = x })) (memory_of d') (state_of (record d { stack = x })) (outcome (state_of d') r)) e h.is
