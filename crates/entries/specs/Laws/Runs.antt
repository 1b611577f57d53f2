-- What a run of an entry with the number 0 wrote, and when a run writes. Assumes nothing.
use Rattle.std.specs.Prelude.{Bool, true, false, ◌++◌, ◌≡◌, ℕ, ◌≤◌, leb, Result, Ok, Err}
use Rattle.std.proofs.Math.Option.{Option, none, some}
use Rattle.std.proofs.Math.Path.{refl, sym, ap, ap₂}
use Rattle.std.proofs.Common.{◌∙◌, arith, le-leb, leb-true}
use Rattle.std.proofs.Math.ListN.{length, take, drop}
use Rattle.std.proofs.Math.Seq.{take_at}
use Rattle.grammar.specs.Text.{Text, if◌then◌otherwise◌}
use Rattle.grammar.specs.Limits.{most_symbol_bytes}
use Rattle.grammar.specs.Names.{Answer, named, refusal, front, mangled_name, demangle, within, work_fits, answer, number_of, length_of, written}
use Rattle.grammar.specs.Laws.Fuel.{never_0}
use Rattle.catalogue.specs.Recogniser.{classify}
use Rattle.catalogue.specs.Answer.{normal_in, normal_told, normal_after, normal_symbol, normal_answer, normal_work_fits}
use Rattle.grammar.specs.declared.refusal.Refusal.{Refusal}
use Rattle.answer.specs.Told.{Slices, lent, told, numbered, number_in, bytes_in}
use Rattle.answer.specs.Laws.Told.{number_told, bytes_told}
use Rattle.normalize.specs.Laws.Fronts.{Alike, refuses, behind, fronted, normal_behind}
use Rattle.entries.specs.Outcome.{Outcome, leaves, Leaves, demangled, Demangles, normalized, Normalizes}

-- ---- an answer within slices, and without

abbrev cut : Bool → ℕ → Answer → Answer
cut q n a = if q then within n a otherwise refusal 14

cut_is : (q : Bool) (n : ℕ) (a : Answer) → number_of (cut q n a) ≡ 0 → cut q n a ≡ a
unfolding number_of within if◌then◌otherwise◌
cut_is false n a e = absurd (omega arith)
cut_is true n (refusal r) e = refl
cut_is true n (named t) e = go (leb (length t) n) e
  where
    go : (p : Bool) → number_of (if p then named t otherwise refusal 12) ≡ 0 → (if p then named t otherwise refusal 12) ≡ named t
    go true e = refl
    go false e = absurd (omega arith)

cut_named : (q : Bool) (n : ℕ) (x : Text) → q ≡ true → length x ≤ n → cut q n (named x) ≡ named x
unfolding within if◌then◌otherwise◌
cut_named q n x e h = rw (e, le-leb (length x) n h)

module _ (F : (Text → Answer) → Answer) (g : Text → Answer) (q : Bool) (n : ℕ) where
  cut_front : Alike F → number_of (F (λ u. cut q n (g u))) ≡ 0 → F (λ u. cut q n (g u)) ≡ F g
  unfolding number_of
  cut_front (refuses r h) e = h _ ∙ sym (h g)
  cut_front (behind u h) e = h _ ∙ cut_is q n (g u) (ap number_of (sym (h _)) ∙ e) ∙ sym (h g)

  named_front : Alike F → (x : Text) → F g ≡ named x → q ≡ true → length x ≤ n → F (λ u. cut q n (g u)) ≡ named x
  named_front (refuses r h) x e f l = h _ ∙ sym (h g) ∙ e
  named_front (behind u h) x e f l = h _ ∙ ap (cut q n) (sym (h g) ∙ e) ∙ cut_named q n x f l

-- ---- what an answer leaves

is_ok : (r : Result ℕ Refusal) {n : ℕ} → numbered r ≡ Ok n → r ≡ Ok n
is_ok (Ok k) e = let z : k ≡ _ = cc in ap Ok z
is_ok (Err k) e = cc

module _ (a : Answer) (l l' : Slices) (r : Result ℕ Refusal) (h : Leaves a l l' r) where
  answer_left : numbered r ≡ told a
  unfolding leaves
  answer_left = ap (λ (o : Outcome). o.answer) h

  number_left : number_in (numbered r) ≡ number_of a
  number_left = ap number_in answer_left ∙ number_told a

  name_left : (x : Text) → a ≡ named x → r ≡ Ok (bytes_in (numbered r))
  unfolding told
  name_left x e = let f : r ≡ Ok (length x) = is_ok r (answer_left ∙ ap told e) in f ∙ ap Ok (sym (ap (λ (q : Result ℕ Refusal). bytes_in (numbered q)) f))

  text_left : (x : Text) → a ≡ named x → take (bytes_in (numbered r)) l'.out ≡ x
  unfolding leaves length_of written
  text_left x e =
      let b : bytes_in (numbered r) ≡ length x = ap bytes_in answer_left ∙ bytes_told a ∙ ap length_of e in
      let o : l'.out ≡ x ++ drop (length x) l.out = ap (λ (o : Outcome). o.slices.out) h ∙ ap (λ (z : Answer). written z l.out) e in
      ap₂ (λ (n : ℕ) (t : Text). take n t) b o ∙ take_at x (drop (length x) l.out) (length x) refl

-- ---- the entry for names

has_name : (a : Answer) → (a ≡ refusal 0 → ⊥) → number_of a ≡ 0 → (x : Text) × (a ≡ named x)
unfolding number_of
has_name (named x) z e = (x, refl)
has_name (refusal r) z e = absurd (z (ap refusal e))

module _ (s : Text) (l l' : Slices) (r : Result ℕ Refusal) (h : Demangles s l l' r) where
  abbrev asked : Answer
  asked = answer most_symbol_bytes (lent l) s

  named_leaves : Leaves asked l l' r
  unfolding demangled
  named_leaves = h

  asked_name : number_in (numbered r) ≡ 0 → (x : Text) × ((asked ≡ named x) × (demangle most_symbol_bytes s ≡ named x))
  unfolding answer demangle
  asked_name z =
      let k : number_of asked ≡ 0 = sym (number_left asked l l' r named_leaves) ∙ z in
      let e : asked ≡ demangle most_symbol_bytes s = cut_front (front most_symbol_bytes s) mangled_name (work_fits (lent l)) (length l.out) (fronted s) k in
      let (x, i) = has_name (demangle most_symbol_bytes s) (never_0 most_symbol_bytes s) (ap number_of (sym e) ∙ k) in
      (x, (e ∙ i, i))

  -- the number 0 is always told by `Ok`
  pub named_at_0 : number_in (numbered r) ≡ 0 → r ≡ Ok (bytes_in (numbered r))
  named_at_0 z = let (x, (e, i)) = asked_name z in name_left asked l l' r named_leaves x e

  pub name_written : number_in (numbered r) ≡ 0 → demangle most_symbol_bytes s ≡ named (take (bytes_in (numbered r)) l'.out)
  name_written z = let (x, (e, i)) = asked_name z in i ∙ ap named (sym (text_left asked l l' r named_leaves x e))

  pub writes_name : (x : Text) → demangle most_symbol_bytes s ≡ named x → work_fits (lent l) ≡ true → length x ≤ length l.out
      → (number_in (numbered r) ≡ 0) × (take (bytes_in (numbered r)) l'.out ≡ x)
  unfolding answer demangle number_of
  writes_name x e f g =
      let i : asked ≡ named x = named_front (front most_symbol_bytes s) mangled_name (work_fits (lent l)) (length l.out) (fronted s) x e f g in
      (number_left asked l l' r named_leaves ∙ ap number_of i, text_left asked l l' r named_leaves x i)

-- ---- the entry for normal symbols

-- an accepted symbol of the class, and its normal symbol
pub record Has_normal (s v : Text) : Type 0 where
  pub name : Text
  pub accepted : demangle most_symbol_bytes s ≡ named name
  pub is : normal_in (classify s) ≡ some v
  pub short : length v ≤ most_symbol_bytes

told_is : (o : Option Text) → number_of (normal_told most_symbol_bytes o) ≡ 0 → (v : Text) × ((normal_told most_symbol_bytes o ≡ named v) × ((o ≡ some v) × (length v ≤ most_symbol_bytes)))
unfolding number_of normal_told if◌then◌otherwise◌
told_is none e = absurd (omega arith)
told_is (some v) e = go (leb (length v) most_symbol_bytes) refl e
  where
    go : (p : Bool) → leb (length v) most_symbol_bytes ≡ p → number_of (if p then named v otherwise refusal 13) ≡ 0
        → (u : Text) × (((if p then named v otherwise refusal 13) ≡ named u) × ((some v ≡ some u) × (length u ≤ most_symbol_bytes)))
    go true f e = (v, (refl, (refl, leb-true (length v) most_symbol_bytes f)))
    go false f e = absurd (omega arith)

has_normal : (s : Text) (a : Answer) → demangle most_symbol_bytes s ≡ a → number_of (normal_after most_symbol_bytes s a) ≡ 0
    → (v : Text) × ((normal_after most_symbol_bytes s a ≡ named v) × Has_normal s v)
unfolding number_of normal_after
has_normal s (named x) e z = let (v, (i, (j, k))) = told_is (normal_in (classify s)) z in (v, (i, record { name = x; accepted = e; is = j; short = k }))
has_normal s (refusal r) e z = absurd (never_0 most_symbol_bytes s (e ∙ ap refusal z))

normal_named : (s v : Text) → Has_normal s v → normal_symbol most_symbol_bytes s ≡ named v
unfolding normal_symbol normal_after normal_told if◌then◌otherwise◌
normal_named s v h = ap (normal_after most_symbol_bytes s) h.accepted ∙ ap (normal_told most_symbol_bytes) h.is ∙ rw (le-leb (length v) most_symbol_bytes h.short)

module _ (s : Text) (l l' : Slices) (r : Result ℕ Refusal) (h : Normalizes s l l' r) where
  abbrev wanted : Answer
  wanted = normal_answer most_symbol_bytes (lent l) s

  normal_leaves : Leaves wanted l l' r
  unfolding normalized
  normal_leaves = h

  abbrev behind_front : Text → Answer
  behind_front u = normal_after most_symbol_bytes s (mangled_name u)

  wanted_normal : number_in (numbered r) ≡ 0 → (v : Text) × ((wanted ≡ named v) × Has_normal s v)
  unfolding normal_answer normal_symbol
  wanted_normal z =
      let k : number_of wanted ≡ 0 = sym (number_left wanted l l' r normal_leaves) ∙ z in
      let e : wanted ≡ normal_symbol most_symbol_bytes s =
      cut_front (front most_symbol_bytes s) behind_front (normal_work_fits most_symbol_bytes (lent l)) (length l.out) (fronted s) k ∙ normal_behind s in
      let (v, (i, j)) = has_normal s (demangle most_symbol_bytes s) refl (ap number_of (sym e) ∙ k) in
      (v, (e ∙ i, j))

  -- the number 0 is always told by `Ok`
  pub normalized_at_0 : number_in (numbered r) ≡ 0 → r ≡ Ok (bytes_in (numbered r))
  normalized_at_0 z = let (v, (e, j)) = wanted_normal z in name_left wanted l l' r normal_leaves v e

  pub normal_written : number_in (numbered r) ≡ 0 → Has_normal s (take (bytes_in (numbered r)) l'.out)
  normal_written z = let (v, (e, j)) = wanted_normal z in rw (text_left wanted l l' r normal_leaves v e) j

  pub writes_normal : (v : Text) → Has_normal s v → normal_work_fits most_symbol_bytes (lent l) ≡ true → length v ≤ length l.out
      → (number_in (numbered r) ≡ 0) × (take (bytes_in (numbered r)) l'.out ≡ v)
  unfolding normal_answer number_of
  writes_normal v e f g =
      let i : wanted ≡ named v =
      named_front (front most_symbol_bytes s) behind_front (normal_work_fits most_symbol_bytes (lent l)) (length l.out) (fronted s) v (normal_behind s ∙ normal_named s v e) f g in
      (number_left wanted l l' r normal_leaves ∙ ap number_of i, text_left wanted l l' r normal_leaves v i)
