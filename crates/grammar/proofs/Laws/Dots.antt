-- Document 01: "Bytes after the dot at which a reading ends have no influence: two symbols alike up to and including that dot, both within
-- 4,096 bytes and below 128, get the same answer (`GTt` and `GV` aside)". Here of any limit. After GTt and GV what is left is dropped (D-13),
-- so that their readings end at the end of the symbol, at no dot. Assumes nothing.
use Rattle.std.specs.Prelude.{◌≡◌, ℕ, ◌≤◌, Bool, false, [], ◌∷◌, ◌++◌, length}
use Rattle.std.proofs.Math.Option.{Option, none, some}
use Rattle.std.proofs.Math.Path.{refl, ap}
use Rattle.std.proofs.Common.{arith, le-ltb, length-append}
use Rattle.grammar.specs.Text.{Text, b, if◌then◌otherwise◌, choose, holds}
use Rattle.grammar.specs.Tables.{◌⇒◌}
use Rattle.grammar.specs.Reader.{Result, ok, refused, start, find}
use Rattle.grammar.specs.Grammar.{⟨encoding⟩, ended, reading}
use Rattle.grammar.specs.Names.{Answer, refusal, Lent, high, finished, mangled_name, front, demangle, answer, work_fits, within}
use Rattle.grammar.specs.Laws.Agree.{end, row, coded}
use Rattle.grammar.specs.Laws.Alike.{dot, Place, before, behind, other, Same, reads, passes, refuses, at, unseen, undotted, all_undotted, Hit, miss, hit, find_hit, ended_blind}
use Rattle.grammar.proofs.Laws.AlikeReadings.{reading_alike}

-- the bytes that a reading leaves; none where it is refused
unfoldable pub left_in : Result Text → Option Text
left_in (ok x s) = some s.rest
left_in (refused k) = none

-- the bytes that the reading of a symbol leaves
unfoldable pub left_of : Text → Option Text
left_of t = choose (find ("_Z" ⇒ tt {0} ∷ "__Z" ⇒ tt {0} ∷ []) t) (λ r. left_in (reading ⟨encoding⟩ (start r.1))) none

-- within the limit, and all bytes below 128
pub record Plain (limit : ℕ) (t : Text) : Type 0 where
  pub short : length t ≤ limit
  pub low : high t ≡ false

module _ {u v : Text} where
  finished_alike : {m : Bool} {q r : Result Text} → Same u v m q r → left_in q ≡ some (dot ∷ u) → finished q ≡ finished r
  unfolding left_in finished
  finished_alike (reads p) e = rw (unseen ended v ended_blind p)
  finished_alike (passes {s = s} h) e = let d : s.rest ≡ dot ∷ u = cc in absurd (omega (arith, h, ap length d))
  finished_alike refuses e = let z : ◌≡◌ {A = ℕ} 0 1 = cc in absurd (omega arith)

  told_alike :
      {m : Bool} {o o' : Option (Unit {0} × Text)} (h : Answer → Answer) → Hit u v (λ _ _. Unit {0}) m o o' →
      choose o (λ r. left_in (reading ⟨encoding⟩ (start r.1))) none ≡ some (dot ∷ u) →
      choose o (λ r. h (mangled_name r.1)) (refusal 3) ≡ choose o' (λ r. h (mangled_name r.1)) (refusal 3)
  unfolding choose mangled_name start
  told_alike h miss e = refl
  told_alike h (hit {t = t} r p) e = ap h (finished_alike (at (reading_alike ⟨encoding⟩) (start t) p) e)

front_alike :
    (limit : ℕ) (h : Answer → Answer) (t u v : Text) → left_of (t ++ (dot ∷ u)) ≡ some (dot ∷ u) →
    Plain limit (t ++ (dot ∷ u)) → Plain limit (t ++ (dot ∷ v)) →
    front limit (t ++ (dot ∷ u)) (λ r. h (mangled_name r)) ≡ front limit (t ++ (dot ∷ v)) (λ r. h (mangled_name r))
unfolding front left_of if◌then◌otherwise◌ coded undotted all_undotted holds b
front_alike limit h t u v e p q =
    rw (le-ltb limit (length (t ++ (dot ∷ u))) p.short, le-ltb limit (length (t ++ (dot ∷ v))) q.short, p.low, q.low)
    (told_alike h (find_hit (row tt tt (row tt tt end)) tt (before t)) e)

-- the answer
pub behind_dot :
    (limit : ℕ) (t u v : Text) → left_of (t ++ (b "." ++ u)) ≡ some (b "." ++ u) →
    Plain limit (t ++ (b "." ++ u)) → Plain limit (t ++ (b "." ++ v)) →
    demangle limit (t ++ (b "." ++ u)) ≡ demangle limit (t ++ (b "." ++ v))
unfolding demangle b
behind_dot limit t u v e p q = front_alike limit (λ a. a) t u v e p q

-- the answer of the entry for names, with slices of the same lengths
pub behind_dot_lent :
    (limit : ℕ) (l : Lent) (t u v : Text) → left_of (t ++ (b "." ++ u)) ≡ some (b "." ++ u) →
    Plain limit (t ++ (b "." ++ u)) → Plain limit (t ++ (b "." ++ v)) →
    answer limit l (t ++ (b "." ++ u)) ≡ answer limit l (t ++ (b "." ++ v))
unfolding answer b
behind_dot_lent limit l t u v e p q = front_alike limit (λ a. if work_fits l then within l.out a otherwise refusal 14) t u v e p q

-- the reading of the other symbol ends at that dot too

dot_next : {u t : Text} (v : Text) (p : Place u t) → t ≡ dot ∷ u → other v p ≡ dot ∷ v
dot_next v (before []) e = refl
dot_next {u} v (before (x ∷ w)) e = absurd (omega (arith, ap length e, length-append w (dot ∷ u)))
dot_next v (behind h) e = absurd (omega (arith, h, ap length e))

module _ {u v : Text} where
  left_alike : {m : Bool} {q r : Result Text} → Same u v m q r → left_in q ≡ some (dot ∷ u) → left_in r ≡ some (dot ∷ v)
  unfolding left_in
  left_alike (reads {s = s} p) e = let d : s.rest ≡ dot ∷ u = cc in ap some (dot_next v p d)
  left_alike (passes {s = s} h) e = let d : s.rest ≡ dot ∷ u = cc in absurd (omega (arith, h, ap length d))
  left_alike refuses e = let z : ◌≡◌ {A = ℕ} 0 1 = cc in absurd (omega arith)

  left_told :
      {m : Bool} {o o' : Option (Unit {0} × Text)} → Hit u v (λ _ _. Unit {0}) m o o' →
      choose o (λ r. left_in (reading ⟨encoding⟩ (start r.1))) none ≡ some (dot ∷ u) →
      choose o' (λ r. left_in (reading ⟨encoding⟩ (start r.1))) none ≡ some (dot ∷ v)
  unfolding choose start
  left_told miss e = let z : ◌≡◌ {A = ℕ} 0 1 = cc in absurd (omega arith)
  left_told (hit {t = t} r p) e = left_alike (at (reading_alike ⟨encoding⟩) (start t) p) e

pub ends_there_too : (t u v : Text) → left_of (t ++ (b "." ++ u)) ≡ some (b "." ++ u) → left_of (t ++ (b "." ++ v)) ≡ some (b "." ++ v)
unfolding left_of coded undotted all_undotted holds b
ends_there_too t u v e = left_told (find_hit (row tt tt (row tt tt end)) tt (before t)) e
