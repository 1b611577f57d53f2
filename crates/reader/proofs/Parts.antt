-- Laws of the parts of a nested name, and of the arguments behind them. Assumes nothing.
use Rattle.std.proofs.Common.{◌≡◌, ℕ, ◌+◌, [], ◌∷◌, refl, sym, ap, ◌∙◌, subst}
use Rattle.std.specs.Prelude.{Ok, Bool, drop}
use Rattle.grammar.specs.Text.{Text, b, join, starts}
use Rattle.grammar.specs.Reader.{State, ok, onto, push_sub}
use Rattle.grammar.specs.Grammar.{reading, ⟨name⟩, ⟨expr-primary⟩, literal}
use Rattle.parser.specs.Holds.{mem, Pushes, keep}
use Rattle.grammar.specs.States.{read, args_to, templated_to}
use Rattle.parser.specs.declared.demangler.Demangler.{Demangler}
use Rattle.parser.specs.Demanglers.{state_of, memory_of, Held, PushesSub, lent}
use Rattle.parser.specs.Halves.{with_args}
use Rattle.parser.specs.Laws.Halves.{holds_no_args}
use Rattle.reader.specs.declared.lists.Parts.{Parts}
use Rattle.reader.specs.Laws.Argued.{Ended, argued, args_pushed}
use Rattle.reader.specs.Laws.Joined.{pushed_on, pushes_alike}
use Rattle.reader.specs.Lists.{Parted, Parting, Structors, Reached}
use Rattle.store.specs.declared.table.Table.{Table}
use Rattle.grammar.specs.Grammar as g

-- a constructor or destructor behind the parts so far
pub structor_parts :
    {c : ℕ} {d d' : Demangler} {q r : Parts} → Structors c d d' q r → {base : Text} {from : ℕ} {ps : g.Parts} {σ : State} (x : ℕ) (t : Text) → σ.rest ≡ c ∷ x ∷ t →
    Parted (keep d.state.depth) d.state.depth d.s.now base from (memory_of d) (state_of d) q ps σ →
    Parting (keep d.state.depth) d.state.depth d.s.now base (d.state.at + 1) (memory_of d') (Reached (state_of d') r) (g.ctor_dtor_name reading ps σ)
structor_parts {c} {d} {d'} {q} {r} u {base} {from} {ps} {σ} x t e h =
    subst
    (λ (y : Demangler). Parting (keep d.state.depth) d.state.depth d.s.now base (d.state.at + 1)
    (mem d'.stack.bytes.now (record { low = y.subs.bytes.now; high = y.args.bytes.now }) (record { low = y.subs.ends.now; high = y.args.ends.now })) (Reached (state_of d') r) (g.ctor_dtor_name reading ps σ))
    (sym u.others)
    (u.is d.s.now _ _ base from ps σ x t e h)

-- the parts, after they became an entry
pub parts_kept :
    {k l : ℕ} {s base : Text} {from : ℕ} {d d' : Demangler} {q : Parts} {ps : g.Parts} {σ : State} {u : Unit {0}} →
    Parted k l s base from (memory_of d) (state_of d) q ps σ → PushesSub q.n d d' (Ok u) →
    Parting k l s base from (memory_of d') (Reached (state_of d') q) (onto (λ _. λ (v : State). ok ps v) (push_sub (join (b "::") ps.texts) σ))
parts_kept {k} {l} {s} {base} {from} {d} {d'} {q} {ps} {σ} h u =
    subst
    (λ (y : Demangler). Pushes s (memory_of y) q.n (state_of y) (read (state_of y) q.n) (push_sub (join (b "::") ps.texts) σ) →
    Parting k l s base from (memory_of y) (Reached (state_of y) q) (onto (λ _. λ (v : State). ok ps v) (push_sub (join (b "::") ps.texts) σ)))
    (sym u.others)
    (λ v. pushed_on refl refl h v)
    (pushes_alike σ h.alike (u.is k l s base from h.shown σ h.stands))

-- no argument is left
module _ (d : Demangler) (y : Table) (kept : (y.bytes ≡ d.args.bytes) × (y.ends ≡ d.args.ends)) (none : (y.count ≡ 0) × (y.used ≡ 0)) where
  pub cleared_state : state_of (record d { args = y }) ≡ args_to (state_of d) 0 0
  cleared_state = ap (λ (c : ℕ). args_to (state_of d) c y.used) none.0 ∙ ap (λ (c : ℕ). args_to (state_of d) 0 c) none.1

  pub cleared_held : (σ : State) → Held d σ → Held (record d { args = y }) (with_args [] σ)
  cleared_held σ h = rw (kept.0, kept.1, none.0, none.1) (holds_no_args h)

  pub cleared_lent : lent (record d { args = y }) ≡ lent d
  cleared_lent = rw (kept.0, kept.1) refl

-- the parts with arguments behind the last, after they became an entry
pub args_kept :
    {k l : ℕ} {s base : Text} {from : ℕ} {d d' : Demangler} {q : Parts} (ps : g.Parts) (a : Text) {τ : State} {u : Unit {0}} {z : Bool} →
    d'.s.now ≡ s → z ≡ starts (drop d'.state.at d'.s.now) (69 ∷ []) → Parted k l s base from (memory_of d) (state_of d) q (argued ps a) τ → PushesSub q.n d d' (Ok u) →
    Parting k l s base from (memory_of d') (Reached (templated_to (state_of d') z) q) (onto (Ended ps a) (push_sub (join (b "::") (argued ps a).texts) τ))
args_kept {k} {l} {s} {base} {from} {d} {d'} {q} ps a {τ} {z = z} e i h u =
    subst
    (λ (y : Demangler). Pushes s (memory_of y) q.n (state_of y) (read (state_of y) q.n) (push_sub (join (b "::") (argued ps a).texts) τ) → z ≡ starts (drop y.state.at s) (69 ∷ []) →
    Parting k l s base from (memory_of y) (Reached (templated_to (state_of y) z) q) (onto (Ended ps a) (push_sub (join (b "::") (argued ps a).texts) τ)))
    (sym u.others)
    (λ v j. args_pushed ps a refl refl refl j h v)
    (pushes_alike τ h.alike (u.is k l s base from h.shown τ h.stands))
    (i ∙ ap (λ (t : Text). starts (drop d'.state.at t) (69 ∷ [])) e)
