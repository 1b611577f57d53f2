-- Laws of the parts of a nested name: one part more, and arguments behind the last. Assumes nothing.
use Rattle.std.specs.Prelude.{◌≡◌, ℕ, ◌+◌, ◌*◌, ◌<◌, ◌≤◌, min, Bool, true, false, ◌&&◌, List, [], ◌∷◌, ◌++◌, length, take, drop, ◌==◌, ◌≢◌, nat_le}
use Rattle.std.proofs.lemmas.Bool.{false≢true, lt-leb}
use Rattle.std.proofs.Math.Bool.{and-false}
use Rattle.std.proofs.Math.Option.{some}
use Rattle.std.proofs.Math.Path.{refl, ap}
use Rattle.std.proofs.Common.{sym, ◌∙◌, subst, arith, eq-eqb, ne_eqb, length-append}
use Rattle.grammar.specs.Text.{Text, b, choose, join, starts, holds, digit, digit_value, if◌then◌otherwise◌}
use Rattle.grammar.specs.Limits.{most_entries, most_entry_bytes, most_length}
use Rattle.grammar.specs.Reader.{State, Result, ok, refused, Reader, onto, see, bytes_of, fits, push_sub, find, at_code}
use Rattle.grammar.specs.Grammar.{reading, Production, ⟨template-param⟩, ⟨unqualified-name⟩, ⟨source-name⟩, ⟨substitution⟩, last, digit_ahead, structor_ahead}
use Rattle.grammar.specs.Grammar as g
use Rattle.grammar.specs.Laws.Places.{starts_byte}
use Rattle.grammar.specs.Laws.Steps.{same_from}
use Rattle.grammar.specs.Laws.NameSteps.{unqualified_digit}
use Rattle.store.specs.Laws.Entries.{bytes_append, bytes_one}
use Rattle.store.specs.Stack.{Stack}
use Rattle.parser.specs.Holds.{Halves, Memory, mem, Holds, Wrote, Refines, refuses, Puts, Pushes, pushed, full, keep}
use Rattle.parser.specs.Laws.Wraps.{puts_top}
use Rattle.grammar.specs.States.{subs_to, Progress, Read, read, Refused}
use Rattle.reader.specs.declared.lists.Parts.{Parts}
use Rattle.reader.specs.Lists.{Prefix, Reached, Unreached, Alike, same_text, both_long, Parted, Parting, parted, unparted, before_part, longer_of, unread_of, part_of}
use Rattle.reader.specs.Laws.Separators.{join_more, before_size}
use Rattle.reader.specs.Laws.Standing.{parted_kept, stands_sized, wrote_behind, wrote_least}
use Rattle.grammar.specs.declared.refusal.Refusal.{Refusal}

-- ---------------------------------------------------------------- one part more

pub colons_size : (n : ℕ) → length (before_part n) ≡ 2 * min n 1
unfolding b
colons_size n = before_size (b "::") refl n

pub last_more : (ts : List Text) (x : Text) → last (ts ++ (x ∷ [])) ≡ some x
unfolding last
last_more [] x = refl
last_more (t ∷ []) x = refl
last_more (t ∷ u ∷ ts) x = last_more (u ∷ ts) x

abbrev pub one_part_more : g.Parts → Text → g.Parts
one_part_more ps x = record { texts = ps.texts ++ (x ∷ []); structor = ps.structor }

pub alike_append : {u t : Text} (v : Text) → Alike u t → Alike (u ++ v) (t ++ v)
alike_append v (same_text e) = same_text (ap (λ (y : Text). y ++ v) e)
alike_append {u} {t} v (both_long i j) = both_long (omega (arith, length-append u v)) (omega (arith, length-append t v))

pub shown_is : {u t : Text} → (most_entry_bytes < length u → most_entry_bytes < length t → ⊥) → Alike u t → u ≡ t
shown_is n (same_text e) = e
shown_is n (both_long i j) = absurd (n i j)

pub parted_more :
    {s base text text₁ : Text} {store ends : Halves} {from : ℕ} {m' : Memory} {p p₁ p' : Progress} {q : Parts} {m : ℕ} {ps : g.Parts} {x : Text} {σ τ : State} →
    Parted (keep p.depth) p.depth s base from (mem text store ends) p q ps σ → Puts text text₁ p p₁ (before_part q.count) →
    Wrote (keep p₁.depth) p₁.depth s (take p₁.top text₁) (p₁.at + 1) m' p' m x τ →
    Parted (keep p.depth) p.depth s base (p.at + 1) m' p' (longer_of q m) (one_part_more ps x) τ
unfolding choose
parted_more {s} {base} {text} {text₁} {store} {ends} {from} {m'} {p} {p₁} {p'} {q} {m} {ps} {x} {σ} {τ} h u w =
    let z : Text = before_part q.count in
    let c = h.stands in
    let e : join (b "::") (ps.texts ++ (x ∷ [])) ≡ join (b "::") ps.texts ++ (z ++ x) = join_more (b "::") q.count ps.texts x (omega (arith, h.count)) in
    let d : p₁.depth ≡ p.depth = ap (λ (r : Progress). r.depth) u.same in
    let i : p₁.at ≡ p.at = ap (λ (r : Progress). r.at) u.same in
    let y = wrote_behind {to = p.at + 1} c u w (omega arith) (omega arith) in
    record {
      shown = h.shown ++ (z ++ x);
      stands = stands_sized _ y refl (omega (arith, y.size, colons_size q.count));
      alike = rw e (alike_append (z ++ x) h.alike);
      final = λ _. rw (last_more ps.texts x) w.size;
      within = omega (arith, w.size, w.short);
      count = simp length-append (omega arith);
      structor = h.structor;
    }

-- ---------------------------------------------------------------- answers

module _ {k d : ℕ} {s base : Text} {from : ℕ} {m : Memory} where
  pub parts_by : {r : Prefix} {f f' : Result g.Parts} → f ≡ f' → Parting k d s base from m r f' → Parting k d s base from m r f
  parts_by {r} e h = subst (λ (x : Result g.Parts). Parting k d s base from m r x) (sym e) h

  pub answer_by : {r r' : Prefix} {f : Result g.Parts} → r ≡ r' → Parting k d s base from m r' f → Parting k d s base from m r f
  answer_by {f = f} e h = subst (λ (x : Prefix). Parting k d s base from m x f) (sym e) h

-- an answer without a text is the whole answer
pub unread_on : {k d k' d' : ℕ} {s base s' base' : Text} {from from' : ℕ} {m m' : Memory} {r : Read} {v : Prefix} {f : Result Text} {j : Refusal} (h : Text → Reader g.Parts) → r ≡ Refused j → v ≡ unread_of r → Refines k d s base from m r f → Parting k' d' s' base' from' m' v (onto h f)
unfolding onto
unread_on {k} {d} {k'} {d'} {s} {base} {s'} {base'} {from} {from'} {m} {m'} {r} {v} {f} {j} h e w a =
    answer_by (w ∙ ap unread_of e) (told (subst (λ (x : Read). Refines k d s base from m x f) e a))
  where
    told : {f : Result Text} → Refines k d s base from m (Refused j) f → Parting k' d' s' base' from' m' (Unreached j) (onto h f)
    told refuses = unparted

pub unpushed_on : {k' d' n : ℕ} {s s' base' : Text} {from' : ℕ} {m m' : Memory} {p : Progress} {r : Read} {v : Prefix} {f : Result (Unit {0})} {j : Refusal} (h : Unit {0} → Reader g.Parts) → r ≡ Refused j → v ≡ unread_of r → Pushes s m n p r f → Parting k' d' s' base' from' m' v (onto h f)
unfolding onto
unpushed_on {k'} {d'} {n} {s} {s'} {base'} {from'} {m} {m'} {p} {r} {v} {f} {j} h e w a =
    answer_by (w ∙ ap unread_of e) (told (subst (λ (x : Read). Pushes s m n p x f) e a))
  where
    told : {f : Result (Unit {0})} → Pushes s m n p (Refused j) f → Parting k' d' s' base' from' m' (Unreached j) (onto h f)
    told full = unparted

-- the parts, after they became an entry
pub pushed_on : {k d n i : ℕ} {s base : Text} {from : ℕ} {m m' : Memory} {p p' : Progress} {q : Parts} {ps : g.Parts} {σ : State} {r : Read} {f : Result (Unit {0})} {c e : ℕ} →
    r ≡ read p' i → m'.text ≡ m.text → Parted k d s base from m p q ps σ → Pushes s m' n (subs_to p c e) r f →
    Parting k d s base from m' (Reached p' q) (onto (λ _. λ (u : State). ok ps u) f)
unfolding onto
pushed_on {k} {d} {n} {i} {s} {base} {from} {m} {m'} {p} {p'} {q} {ps} {σ} {r} {f} {c} {e} a t h u = told (subst (λ (x : Read). Pushes s m' n (subs_to p c e) x f) a u)
  where
    told : {p' : Progress} {i : ℕ} {f : Result (Unit {0})} → Pushes s m' n (subs_to p c e) (read p' i) f → Parting k d s base from m' (Reached p' q) (onto (λ _. λ (u : State). ok ps u) f)
    told (pushed v) = parted {ps = ps} (parted_kept h v (ap (take p.top) t) refl h.stands.more)

-- ---------------------------------------------------------------- what an entry and an answer tell of the parts

long_unfit : (l : List Text) (t : Text) → most_entry_bytes < length t → fits (l ++ (t ∷ [])) ≡ false
unfolding fits
long_unfit l t i = ap (λ (q : Bool). nat_le (length (l ++ (t ∷ []))) most_entries && q) (lt-leb (bytes_of (l ++ (t ∷ []))) most_entry_bytes (omega (arith, bytes_append l (t ∷ []), bytes_one t))) ∙ and-false (nat_le (length (l ++ (t ∷ []))) most_entries)

pub push_long : (t : Text) (σ : State) → most_entry_bytes < length t → push_sub t σ ≡ refused 9
unfolding push_sub onto if◌then◌otherwise◌
push_long t σ i = rw (long_unfit σ.subs t i)

pub push_alike : {u t : Text} (σ : State) → Alike u t → push_sub u σ ≡ push_sub t σ
push_alike σ (same_text e) = ap (λ (y : Text). push_sub y σ) e
push_alike {u} {t} σ (both_long i j) = push_long u σ i ∙ sym (push_long t σ j)

pub pushes_alike : {s : Text} {m : Memory} {n : ℕ} {p : Progress} {r : Read} {u t : Text} (σ : State) → Alike u t → Pushes s m n p r (push_sub u σ) → Pushes s m n p r (push_sub t σ)
pushes_alike {s} {m} {n} {p} {r} σ a h = subst (λ (f : Result (Unit {0})). Pushes s m n p r f) (push_alike σ a) h

-- ---------------------------------------------------------------- a new prefix

abbrev pub Behind : g.Parts → Text → Reader g.Parts
Behind ps x = λ σ. onto (λ (final : Bool). λ u. onto (λ _. λ (v : State). ok (one_part_more ps x) v) ((if final then (λ (v : State). ok tt v) otherwise push_sub (join (b "::") (ps.texts ++ (x ∷ [])))) u)) (see "E" σ)

module _ (k : Production) (ps : g.Parts) (σ : State) where
  pub new_is : g.new_prefix reading k ps σ ≡ onto (Behind ps) (reading k σ)
  unfolding g.new_prefix
  new_is = refl

module _ (ps : g.Parts) (x : Text) (τ : State) where
  pub behind_last : starts τ.rest (b "E") ≡ true → Behind ps x τ ≡ ok (one_part_more ps x) τ
  unfolding see onto if◌then◌otherwise◌
  behind_last e = rw e

  pub behind_more : starts τ.rest (b "E") ≡ false → Behind ps x τ ≡ onto (λ _. λ (v : State). ok (one_part_more ps x) v) (push_sub (join (b "::") (ps.texts ++ (x ∷ []))) τ)
  unfolding see onto if◌then◌otherwise◌
  behind_more e = rw e

-- ---------------------------------------------------------------- how many bytes are there

pub more_top :
    {k d : ℕ} {s text text₁ : Text} {from : ℕ} {m' : Memory} {p p₁ p' : Progress} (q : Parts) {m : ℕ} {x : Text} {τ : State} →
    Stack text p.top → Puts text text₁ p p₁ (before_part q.count) → Wrote k d s (take p₁.top text₁) from m' p' m x τ → most_entry_bytes ≤ k →
    min q.n most_entry_bytes ≤ p.top → min (min (q.n + (2 * min q.count 1 + m)) most_length) most_entry_bytes ≤ p'.top
more_top q c u w l i =
    let a = puts_top (min q.n most_entry_bytes) c u i (omega arith) in
    omega (arith, wrote_least u.put.stack w l (min q.n most_entry_bytes + length (before_part q.count)) (omega (arith, a)), colons_size q.count)

-- the parts that a function hands back
pub parted_as : {k d : ℕ} {s base : Text} {from : ℕ} {m : Memory} {p : Progress} {q q' : Parts} {ps : g.Parts} {σ : State} → q' ≡ q → Parted k d s base from m p q ps σ → Parted k d s base from m p q' ps σ
parted_as {k} {d} {s} {base} {from} {m} {p} {q} {q'} {ps} {σ} e h = subst (λ (x : Parts). Parted k d s base from m p x ps σ) (sym e) h

-- ---------------------------------------------------------------- what a part is, by its first byte

module _ (c : ℕ) where
  pub part_T : c ≡ 84 → part_of c ≡ ⟨template-param⟩
  unfolding part_of if◌then◌otherwise◌
  part_T e = ap (λ (q : Bool). if q then ⟨template-param⟩ otherwise ⟨unqualified-name⟩) (eq-eqb c 84 e)

  pub part_other : (c ≢ 84) → part_of c ≡ ⟨unqualified-name⟩
  unfolding part_of if◌then◌otherwise◌
  part_other n = ap (λ (q : Bool). if q then ⟨template-param⟩ otherwise ⟨unqualified-name⟩) (ne_eqb c 84 n)

digit_not_letter : (c k : ℕ) → digit 10 c ≡ true → digit 10 k ≡ false → c ≢ k
digit_not_letter c k d f q = false≢true (sym f ∙ ap (digit 10) (sym q) ∙ d)

digit_other : (c : ℕ) → digit 10 c ≡ true → holds c (b "CDUL") ≡ false
unfolding holds b digit digit_value if◌then◌otherwise◌
digit_other c d =
    rw (ne_eqb c 67 (digit_not_letter c 67 d refl), ne_eqb c 68 (digit_not_letter c 68 d refl), ne_eqb c 85 (digit_not_letter c 85 d refl), ne_eqb c 76 (digit_not_letter c 76 d refl))

digit_first : (t : Text) (σ : State) → σ.rest ≡ t → digit_ahead t ≡ true → reading ⟨unqualified-name⟩ σ ≡ reading ⟨source-name⟩ σ
unfolding digit_ahead
digit_first [] σ r d = absurd (false≢true d)
digit_first (c ∷ t) σ r d = same_from (reading ⟨unqualified-name⟩) (reading ⟨source-name⟩) σ r (unqualified_digit c t σ (digit_other c d) d)

-- an unqualified name that begins with a digit is a source name
pub part_digit : {s : Text} {m : Memory} {p : Progress} {σ : State} → Holds s m p σ → digit_ahead (drop p.at s) ≡ true → reading ⟨unqualified-name⟩ σ ≡ reading ⟨source-name⟩ σ
part_digit {s} {p = p} {σ = σ} h e = digit_first (drop p.at s) σ h.rest e

module _ (ps : g.Parts) (σ : State) where
  pub old_is : g.old_prefix reading ps σ ≡ onto (λ (x : Text). λ (u : State). ok (one_part_more ps x) u) (reading ⟨substitution⟩ σ)
  unfolding g.old_prefix
  old_is = refl

  pub prefix_structor : structor_ahead σ.rest ≡ true → g.prefix reading ps σ ≡ g.ctor_dtor_name reading ps σ
  unfolding g.prefix onto if◌then◌otherwise◌
  prefix_structor e = rw e

  module _ (e : structor_ahead σ.rest ≡ false) where
    by_S : starts σ.rest (b "S") ≡ true → g.prefix reading ps σ ≡ g.old_prefix reading ps σ
    unfolding g.prefix onto if◌then◌otherwise◌ at_code find choose
    by_S f = rw (e, f)

    by_I : starts σ.rest (b "S") ≡ false → starts σ.rest (b "I") ≡ true → g.prefix reading ps σ ≡ g.prefix_args reading ps σ
    unfolding g.prefix onto if◌then◌otherwise◌ at_code find choose
    by_I f i = rw (e, f, i)

    by_new : (q : Bool) → starts σ.rest (b "S") ≡ false → starts σ.rest (b "I") ≡ false → starts σ.rest (b "T") ≡ q → g.prefix reading ps σ ≡ g.new_prefix reading (if q then ⟨template-param⟩ otherwise ⟨unqualified-name⟩) ps σ
    unfolding g.prefix onto if◌then◌otherwise◌ at_code find choose
    by_new true f i j = rw (e, f, i, j)
    by_new false f i j = rw (e, f, i, j)

    module _ {c : ℕ} {t : Text} (r : σ.rest ≡ c ∷ t) where
      first : (x : ℕ) {q : Bool} → (c == x) ≡ q → starts σ.rest (x ∷ []) ≡ q
      first x f = ap (λ (y : Text). starts y (x ∷ [])) r ∙ starts_byte c x t ∙ f

      pub prefix_S : c ≡ 83 → g.prefix reading ps σ ≡ g.old_prefix reading ps σ
      unfolding b
      prefix_S f = by_S (first 83 (eq-eqb c 83 f))

      pub prefix_I : c ≡ 73 → g.prefix reading ps σ ≡ g.prefix_args reading ps σ
      unfolding b
      prefix_I f = by_I (first 83 (ne_eqb c 83 (λ z. omega (arith, f, z)))) (first 73 (eq-eqb c 73 f))

      pub prefix_new : (c ≢ 73) → (c ≢ 83) → g.prefix reading ps σ ≡ g.new_prefix reading (part_of c) ps σ
      unfolding b part_of
      prefix_new i f = by_new (c == 84) (first 83 (ne_eqb c 83 f)) (first 73 (ne_eqb c 73 i)) (first 84 refl)

-- a constructor's two bytes
pub two_bytes : (c : ℕ) (t : Text) → structor_ahead (c ∷ t) ≡ true → (x : ℕ) × ((u : Text) × (t ≡ x ∷ u))
unfolding structor_ahead
two_bytes c [] e = absurd (false≢true e)
two_bytes c (x ∷ u) e = (x, (u, refl))
