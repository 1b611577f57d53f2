-- What the state of the writing holds at another place, and the byte there. Assumes nothing.
use Rattle.std.specs.Prelude.{true, false, [], ◌∷◌, ◌≡◌, refl, ℕ, ◌+◌, ◌≤◌, ◌<◌, length, drop, get_or}
use Rattle.std.proofs.Common.{sym, ap, subst, ◌∙◌, arith, length-drop, drop-drop}
use Rattle.grammar.specs.Text.{Text, starts}
use Rattle.grammar.specs.Laws.Places.{rest_some}
use Rattle.grammar.specs.Laws.NameSteps.{starts_one}
use Rattle.catalogue.specs.Recogniser.{if_next}
use Rattle.normal_nodes.specs.Nodes.{Notes, go_to, counted}
use Rattle.normal_steps.specs.Laws.Tests.{next_not}
use Rattle.normal_steps.specs.States.{moved_to, counted_to}
use Rattle.normal_steps.specs.Carries.{Work, Carries, Ready, Copies}
use Rattle.normal_steps.specs.declared.state.State.{State}
use Rattle.normal_steps.specs.declared.state.Writer.{Writer}

module _ {s : Text} {ws : Work} {p : State} {σ : Notes} (h : Carries s ws p σ) where
  pub holds_moved : (to : ℕ) → p.at ≤ to → to ≤ length s → Carries s ws (moved_to p to) (go_to (drop to s) σ)
  holds_moved to l k = record {
    source = h.source;
    place = k;
    rest = refl;
    nodes_are = h.nodes_are;
    found = h.found;
    tabled = h.tabled;
    table_count = h.table_count;
    firsts_count = h.firsts_count;
    out_is = h.out_is;
    out_count = h.out_count;
    args_count = h.args_count;
    few_nodes = omega arith;
    few_entries = omega arith;
    few_args = omega arith;
    short = omega arith;
  }

  pub holds_counted : p.args + 1 ≤ p.at → Carries s ws (counted_to p (p.args + 1)) (counted σ)
  holds_counted l = record {
    source = h.source;
    place = h.place;
    rest = h.rest;
    nodes_are = h.nodes_are;
    found = h.found;
    tabled = h.tabled;
    table_count = h.table_count;
    firsts_count = h.firsts_count;
    out_is = h.out_is;
    out_count = h.out_count;
    args_count = omega arith;
    few_nodes = h.few_nodes;
    few_entries = h.few_entries;
    few_args = l;
    short = h.short;
  }

  -- the byte at the place
  pub first_byte : p.at < length s → σ.rest ≡ get_or s p.at 0 ∷ drop (p.at + 1) s
  first_byte l = h.rest ∙ rest_some s p.at l

  pub byte_is : (c : ℕ) → starts (drop p.at s) (c ∷ []) ≡ true → σ.rest ≡ c ∷ drop (p.at + 1) s
  byte_is c e = h.rest ∙ starts_one (drop p.at s) c e ∙ ap (λ (t : Text). c ∷ t) (drop-drop 1 p.at s)

  pub byte_not : {A : Type 0} (c : ℕ) (f : Text → A) (x : A) → starts (drop p.at s) (c ∷ []) ≡ false → if_next c σ.rest f x ≡ x
  byte_not c f x e = ap (λ (t : Text). if_next c t f x) h.rest ∙ next_not c f x (drop p.at s) e

  module _ {c : ℕ} {t : Text} (e : σ.rest ≡ c ∷ t) where
    some_left : p.at < length s
    some_left = omega (arith, ap length (sym h.rest ∙ e), length-drop p.at s)

    pub next_byte : (c ≡ get_or s p.at 0) × (t ≡ drop (p.at + 1) s)
    next_byte =
        let q : c ∷ t ≡ get_or s p.at 0 ∷ drop (p.at + 1) s = sym e ∙ first_byte some_left in
        (cc, cc)

    -- the state one byte on
    pub holds_next : Carries s ws (moved_to p (p.at + 1)) (go_to t σ)
    holds_next =
        subst (λ (r : Text). Carries s ws (moved_to p (p.at + 1)) (go_to r σ)) (sym next_byte.1) (holds_moved (p.at + 1) (omega arith) (omega (arith, some_left)))

pub copied_ready : (w w' : Writer) → Copies w w' → w.state.at < length w.s.now → Ready w → Ready w'
copied_ready w w' k l (σ, h) = (_, k.1 σ h _ _ (first_byte h l))
