-- Laws of a text that becomes an entry, or that goes on with its arguments. Assumes nothing.
use Rattle.std.proofs.Common.{◌≡◌, ℕ, ◌+◌, ◌≤◌, length, sym, refl, ap, subst, arith}
use Rattle.grammar.specs.Text.{Text}
use Rattle.grammar.specs.Limits.{most_entry_bytes, kept_bytes}
use Rattle.grammar.specs.Reader.{State, Result, ok, Reader, onto, push_sub, push_arg}
use Rattle.grammar.specs.States.{Progress, Read, read, Refused}
use Rattle.parser.specs.Holds.{Memory, Holds, Wrote, Stands, Refines, refuses, Pushes, pushed, full, keep, window}
use Rattle.parser.specs.Laws.Holds.{sooner, less, stands}
use Rattle.parser.specs.Laws.Halves.{newest_part}
use Rattle.std.specs.Prelude.{Ok, Result as Result'}
use Rattle.grammar.specs.Grammar.{reading, ⟨template-arg⟩}
use Rattle.reader.specs.declared.lists.Kind.{Kind}
use Rattle.reader.specs.declared.lists.Kind.TheVariants.{Arguments}
use Rattle.reader.specs.Lists.{kept_by, item_of}
use Rattle.reader.specs.Laws.Items.{argument_pushed}
use Rattle.parser.specs.declared.demangler.Demangler.{Demangler}
use Rattle.parser.specs.Demanglers.{state_of, memory_of, Parses, PushesSub, PushesArg, pushed_as}
use Rattle.reader.specs.Cycle.{Instance}
use Rattle.reader.specs.Laws.Standing.{stands_kept}
use Rattle.grammar.specs.declared.refusal.Refusal.{Refusal}

-- a text of n bytes was pushed, and it stands in the state that the push hands back
pub record Kept (k d : ℕ) (s base : Text) (from : ℕ) (m : Memory) (q : Progress) (j n : ℕ) (t : Text) (f : Result (Unit {0})) : Type 0 where
  pub state : State
  pub stands : Stands k d s base from m q n t state
  pub is : f ≡ ok tt state
  pub size : j ≡ n

-- a push that was refused is the whole answer
pub push_refused :
    {k d : ℕ} {s s' base : Text} {from : ℕ} {m m' : Memory} {p : Progress} {n : ℕ} {r : Read} {f : Result (Unit {0})} {j : Refusal} (g : Unit {0} → Reader Text) →
    r ≡ Refused j → Pushes s m n p r f → Refines k d s' base from m' r (onto g f)
unfolding onto
push_refused {k} {d} {s} {s'} {base} {from} {m} {m'} {p} {n} {r} {f} {j} g e u =
    subst (λ (x : Read). Refines k d s' base from m' x (onto g f)) (sym e) (told (subst (λ (x : Read). Pushes s m n p x f) e u))
  where
    told : {j : Refusal} {f : Result (Unit {0})} → Pushes s m n p (Refused j) f → Refines k d s' base from m' (Refused j) (onto g f)
    told full = refuses

-- what `instance` promises, at the depth of the caller
pub instance_at :
    {f : Text → Reader Text} {x : ℕ} {s : Text} {m m' : Memory} {p : Progress} {r : Read} {d : ℕ} {base : Text} {from : ℕ} {t : Text} {σ : State} {to : ℕ} →
    Instance f x s m m' p r → Stands (keep d) d s base from m p x t σ → length t ≤ most_entry_bytes → to ≤ p.at + 1 →
    Refines (keep d) d s base to m' r (f t σ)
instance_at {f} {x} {s} {m} {m'} {p} {r} {d} {base} {from} {t} {σ} {to} h w l i =
    sooner i (subst (λ (j : ℕ). Stands (keep j) j s base from m p x t σ → Refines (keep j) j s base (p.at + 1) m' r (f t σ)) w.level (λ v. h base from t σ v l) w)

-- ---------------------------------------------------------------- room on the stack

-- what a leaf keeps is more than what a reading at a depth does
pub narrow : {s s' base : Text} {from : ℕ} {m m' : Memory} {p : Progress} {r : Read} {f : Result Text} {σ : State} → Holds s m p σ → Refines kept_bytes p.depth s' base from m' r f → Refines (keep p.depth) p.depth s' base from m' r f
narrow h u = less (omega (arith, h.deep)) u

pub parses_narrow : {f : Reader Text} {from : ℕ} {d d' : Demangler} {r : Result' ℕ Refusal} → Parses f kept_bytes from d d' r → Parses f (keep d.state.depth) from d d' r
parses_narrow h = record { symbol = h.symbol; same = h.same; reads = λ σ u. narrow u (h.reads σ u) }

pub stood : {d : ℕ} {s base : Text} {from : ℕ} {m : Memory} {p : Progress} {n : ℕ} {t : Text} {σ : State} → Wrote (keep d) d s base from m p n t σ → Stands (keep d) d s base from m p n t σ
stood w = stands w (omega arith) (omega (arith, w.level, w.holds.deep))

pub stands_top : {k d : ℕ} {s base : Text} {from : ℕ} {m : Memory} {p : Progress} {n : ℕ} {t : Text} {σ : State} → Stands k d s base from m p n t σ → length t ≤ most_entry_bytes → n ≤ p.top
stands_top h l = (newest_part h l).0

-- the newest n bytes became an entry of a demangler, and stand on
pub kept_sub :
    {k l : ℕ} {s base : Text} {from n : ℕ} {d d' : Demangler} {t : Text} {σ : State} {u : Unit {0}} →
    Stands k l s base from (memory_of d) (state_of d) n t σ → PushesSub n d d' (Ok u) → Kept k l s base from (memory_of d') (state_of d') n n t (push_sub t σ)
kept_sub {k} {l} {s} {base} {from} {n} {d} {d'} {t} {σ} h u = told (u.is k l s base from t σ h)
  where
    told : {q : Progress} {j : ℕ} {f : Result (Unit {0})} → Pushes s (memory_of d') n (state_of d') (read q j) f → Kept k l s base from (memory_of d') q j n t f
    told (pushed {σ = σ'} v) = record {
      state = σ';
      stands =
          stands_kept h v (ap (λ (x : Demangler). window (memory_of x) (state_of x)) u.others) (ap (λ (x : Demangler). x.state.depth) u.others)
          (omega (arith, h.more, ap (λ (x : Demangler). x.state.at) u.others));
      is = refl;
      size = refl;
    }

-- the newest n bytes, an argument of a list, became a template argument of a demangler, or there was no room
pub argument_kept :
    {kind : Kind} {l : ℕ} {s base : Text} {from n : ℕ} {d d' : Demangler} {t : Text} {τ : State} (r : Result' (Unit {0}) Refusal) (σ : State) →
    kind ≡ Arguments → reading ⟨template-arg⟩ σ ≡ ok t τ → Wrote (keep l) l s base from (memory_of d) (state_of d) n t τ → PushesArg n d d' r →
    Stands (keep l) l s base from (memory_of d) (state_of d) n t τ → Refines (kept_by kind l) l s base from (memory_of d') (pushed_as (state_of d') n r) (item_of kind σ)
argument_kept {kind} {l} {s} {base} {from} {n} {d} {d'} {t} {τ} r σ k f w u h =
    subst
    (λ (y : Demangler). Pushes s (memory_of y) n (state_of y) (pushed_as (state_of y) n r) (push_arg t τ) →
    Refines (kept_by kind l) l s base from (memory_of y) (pushed_as (state_of y) n r) (item_of kind σ))
    (sym u.others)
    (λ v. argument_pushed σ k f w v)
    (u.is (keep l) l s base from t τ h)
