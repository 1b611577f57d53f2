-- Sums of what was taken and read, and the room that is left. Assumes nothing.
use Rattle.std.specs.Prelude.{◌≡◌, ℕ, suc, ◌+◌, ◌*◌, ◌≤◌, max}
use Rattle.std.proofs.Common.{sym, ap, subst, ◌∙◌, arith}
use Rattle.grammar.specs.Text.{Text}
use Rattle.normal_nodes.specs.Nodes.{Notes}
use Rattle.normal_steps.specs.States.{moved_to, written_to, counted_to}
use Rattle.normal_steps.specs.Carries.{Work, Carries, Room, Stretch, Took, Spent, Passed}
use Rattle.normal_steps.specs.declared.state.State.{State}

-- ---------------------------------------------------------------- steps

-- a step after one that wrote no more than there was, and what the next may put in the stead of a stretch
pub took_more : (b : ℕ) {n t o a n' t' o' b' : ℕ} {p q r : State} → Took n t o a p q → Took n' t' o' b' q r → b ≤ b'
    → max q.out (b' + o') ≤ max p.out (b + (o + o')) → Took (n + n') (t + t') (o + o') b p r
took_more b x y l m = record {
  at = omega arith;
  nodes = omega arith;
  more = omega arith;
  table = omega arith;
  out = omega (arith, y.out, m);
  args = omega arith;
  stands = omega arith;
}

pub took_less : {n t o b : ℕ} {p q : State} → Took n t o b p q → Took n (t + 1) o b p q
took_less x = record { at = x.at; nodes = x.nodes; more = x.more; table = omega arith; out = x.out; args = x.args; stands = x.stands }

-- an argument is counted behind a step that counted none
pub took_counted : {n t o b : ℕ} {p q r : State} → Took n t o b p q → r ≡ counted_to q (q.args + 1) → q.args + 1 ≤ p.args + n → Took n t o b p r
took_counted x e l = record {
  at = ap (λ (y : State). y.at) e ∙ x.at;
  nodes = omega (arith, ap (λ (y : State). y.nodes) e);
  more = omega (arith, ap (λ (y : State). y.nodes) e);
  table = omega (arith, ap (λ (y : State). y.table) e);
  out = omega (arith, x.out, ap (λ (y : State). y.out) e);
  args = omega (arith, ap (λ (y : State). y.args) e);
  stands = omega (arith, ap (λ (y : State). y.out) e);
}

-- of the room for a step and the next, the next's is left
pub room_after : {n t o n' t' b : ℕ} {p q : State} → Room (n + n') (t + t') p → Took n t o b p q → Room n' t' q
room_after m x = record { nodes = omega arith; table = omega arith; args = omega arith }

-- a stretch goes on behind a step that put no more than a reference in its stead
pub stretch_after : {n t o b : ℕ} {p q : State} → Stretch b p → Took n t o b p q → o ≤ 5 → Stretch b q
stretch_after m x l =
    record { stands = x.stands; fits = omega (arith, m.fits, x.at); spare = omega (arith, m.spare, m.fits, x.at, x.out) }

-- and behind one that wrote nothing
pub stretch_same : {n t b : ℕ} {p q : State} → Stretch b p → Took n t 0 p.out p q → Stretch b q
stretch_same m x =
    record { stands = omega (arith, m.stands, x.stands); fits = omega (arith, m.fits, x.at); spare = omega (arith, m.spare, x.at, x.out) }

pub passed_none : (p : State) {to : ℕ} {q : State} → q ≡ moved_to p to → Passed to 0 p q
passed_none p e = record {
  at = ap (λ (x : State). x.at) e;
  out = omega (arith, ap (λ (x : State). x.out) e);
  nodes = ap (λ (x : State). x.nodes) e;
  table = ap (λ (x : State). x.table) e;
  args = ap (λ (x : State). x.args) e;
}

pub passed_more : {to k : ℕ} (j : ℕ) {p q r : State} → Passed to k p q → r ≡ written_to q (q.out + j) → Passed to (k + j) p r
passed_more j w e = record {
  at = ap (λ (x : State). x.at) e ∙ w.at;
  out = omega (arith, ap (λ (x : State). x.out) e);
  nodes = ap (λ (x : State). x.nodes) e ∙ w.nodes;
  table = ap (λ (x : State). x.table) e ∙ w.table;
  args = ap (λ (x : State). x.args) e ∙ w.args;
}

-- two bytes that were read have room for a node and an entry
pub room_for : {s : Text} {ws : Work} {p q : State} {σ : Notes} {to k : ℕ} → Carries s ws p σ → Passed to k p q → p.at + 2 ≤ to → Room 1 1 q
room_for h w l = record {
  nodes = omega (arith, h.few_nodes, w.nodes, w.at);
  table = omega (arith, h.few_entries, w.table, w.at);
  args = omega (arith, h.few_args, w.args, w.at);
}

pub room_less : {n t : ℕ} {p : State} → Room n t p → Room n 0 p
room_less m = record { nodes = m.nodes; table = omega arith; args = m.args }

-- what was written for two bytes or more that were read, and no more than they are, begins a stretch
pub stretch_for : {s : Text} {ws : Work} {p q : State} {σ : Notes} {to k : ℕ} → Carries s ws p σ → Passed to k p q → p.at + 2 ≤ to → p.at + k ≤ to → Stretch p.out q
stretch_for h w l m = record {
  stands = omega (arith, w.out);
  fits = omega (arith, h.short, w.at);
  spare = omega (arith, h.short, w.at, w.out);
}

-- one byte that was read made no node and no entry
pub spent : {to k n t o b b' : ℕ} {p q r : State} → Passed to k p q → Took n t o b' q r → b ≤ b'
    → p.at + 1 + n ≤ to → p.at + 1 + t ≤ to → max q.out (b' + o) + 4 ≤ 4 * to → Spent 1 4 b p r
spent w x l f g m = record {
  at = omega arith;
  nodes = omega arith;
  table = omega arith;
  args = omega arith;
  out = omega (arith, w.at, x.at, x.out, m);
  stands = omega arith;
}

-- ---------------------------------------------------------------- readings

pub spent_less : {j k c b : ℕ} {p q : State} → k ≤ j → Spent j c b p q → Spent k c b p q
spent_less l v = record { at = omega arith; nodes = omega arith; table = omega arith; args = omega arith; out = v.out; stands = v.stands }

pub spent_stands : {k c a b : ℕ} {p q : State} → b ≤ a → Spent k c a p q → Spent k c b p q
spent_stands l v = record { at = v.at; nodes = v.nodes; table = v.table; args = v.args; out = v.out; stands = omega arith }

-- a byte was read for which nothing was written
pub spent_moved : {k c b : ℕ} {p q r : State} → r ≡ moved_to q (q.at + 1) → Spent k c b p q → Spent k (c + 1) b p r
spent_moved {k} {c} {b} {p} {q} {r} e v =
    subst (λ (x : State). Spent k (c + 1) b p x) (sym e) record {
      at = omega arith;
      nodes = omega arith;
      table = omega arith;
      args = omega arith;
      out = omega (arith, v.out);
      stands = v.stands;
    }

-- one reading after another
pub spent_spent : {j k a b c d : ℕ} {p q r : State} → Spent j d a p q → Spent k c b q r → Spent (j + k) c b p r
spent_spent v w = record { at = omega arith; nodes = omega arith; table = omega arith; args = omega arith; out = w.out; stands = w.stands }

-- a reading after a byte that was passed
pub passed_spent : {j k c b : ℕ} {p q r : State} → Passed (p.at + 1) j p q → Spent k c b q r → Spent (suc k) c b p r
passed_spent v w = record { at = omega arith; nodes = omega arith; table = omega arith; args = omega arith; out = w.out; stands = w.stands }

-- a node and an entry for each byte that was read and made none
pub spent_took : {k c a b n t o : ℕ} {p q r : State} → Spent (suc k) c a p q → Took n t o b q r → n ≤ 1 → t ≤ 1 → max q.out (b + o) + 4 ≤ 4 * q.at → Spent k 4 b p r
spent_took v w i j l = record {
  at = omega arith;
  nodes = omega arith;
  table = omega arith;
  args = omega arith;
  out = omega (arith, w.at, w.out, l);
  stands = w.stands;
}

-- E was written behind a reading, and what was read from b on may have given way to a reference
pub spent_closed : {k a b : ℕ} {p q r x : State} → Spent (suc k) 5 a p q → Took 0 0 1 q.out q r → Took 0 1 5 b r x → b + 9 ≤ 4 * q.at → Spent k 4 b p x
spent_closed v w y l = record {
  at = omega arith;
  nodes = omega arith;
  table = omega arith;
  args = omega arith;
  out = omega (arith, v.out, w.at, w.out, y.at, y.out, l);
  stands = y.stands;
}

-- a reading after a step that read nothing
pub took_spent : {a b c n t o : ℕ} {p q r : State} → Took n t o a p q → Spent 1 c b q r → n ≤ 1 → t ≤ 1 → Spent 0 c b p r
took_spent v w i j = record { at = omega arith; nodes = omega arith; table = omega arith; args = omega arith; out = w.out; stands = w.stands }

-- a reading between a byte and E, and what comes after
pub closed_spent : {a b b' c d : ℕ} {p q r x y : State} → Passed (p.at + 1) 1 p q → Spent 0 d a q r → Took 0 0 1 b' r x → Spent 0 c b x y → Spent 1 c b p y
closed_spent k v w u = record { at = omega arith; nodes = omega arith; table = omega arith; args = omega arith; out = u.out; stands = u.stands }

pub spent_nothing : {b : ℕ} {p : State} → Stretch b p → Spent 0 4 b p p
spent_nothing l =
    record { at = omega arith; nodes = omega arith; table = omega arith; args = omega arith; out = l.spare; stands = l.stands }

-- there is room for what each byte that made none may take
pub spent_room : {s : Text} {ws : Work} {σ : Notes} {k c b x y : ℕ} {p q : State} → Carries s ws p σ → Spent (suc k) c b p q → x ≤ 1 → y ≤ 1 → Room x y q
spent_room h v i j =
    record { nodes = omega (arith, h.few_nodes); table = omega (arith, h.few_entries); args = omega (arith, h.few_args) }

-- a tree of two bytes or more is a stretch
pub spent_stretch : {s : Text} {ws : Work} {σ : Notes} {k b : ℕ} {p q : State} → Carries s ws p σ → Spent k 4 b p q → p.at + 2 ≤ q.at → p.out ≤ b → Stretch p.out q
spent_stretch h v l m = record { stands = omega (arith, v.stands); fits = omega (arith, h.short); spare = v.out }
