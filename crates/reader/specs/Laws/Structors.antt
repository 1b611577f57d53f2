-- Laws of Structors.antt. Assumes nothing.
use Rattle.std.specs.Prelude.{◌≡◌, ℕ, ◌+◌, ◌-◌, ◌*◌, ◌<◌, ◌≤◌, min, Bool, true, false, List, [], ◌∷◌, ◌++◌, length, take, drop, ◌==◌, ◌≢◌, nat_le, refl}
use Rattle.std.proofs.Common.{append_assoc, sym, ap, ◌∙◌, subst, arith, length-append, length-drop, take-append-drop, take-take, take_all, drop_at, drop-drop, length-take-le, leb-true}
use Rattle.std.proofs.Common.{leb-false, eq-eqb, ne_eqb}
use Rattle.std.proofs.lemmas.List.{take-append-le}
use Rattle.grammar.specs.Text.{Text, b, choose, join, if◌then◌otherwise◌, run, after_last}
use Rattle.grammar.specs.Limits.{most_text_bytes, most_entry_bytes, most_length, kept_bytes}
use Rattle.grammar.specs.Reader.{State, ok, onto, go_to}
use Rattle.grammar.specs.Grammar.{reading, last, class_of}
use Rattle.grammar.specs.Grammar as g
use Rattle.grammar.specs.Laws.Agree.{moved}
use Rattle.grammar.specs.Laws.Places.{starts_byte}
use Rattle.store.specs.Stack.{Stack, Tail, newest}
use Rattle.store.specs.Laws.Lists as lists
use Rattle.store.specs.Laws.Tails.{newest_is, top_size}
use Rattle.grammar.specs.States.{Progress, moved_to}
use Rattle.grammar.specs.declared.part.Part.{Part}
use Rattle.parser.specs.Holds.{Halves, Memory, mem, Holds, Stands, Puts, keep}
use Rattle.parser.specs.Laws.Holds.{holds_moved}
use Rattle.parser.specs.Leaves.{Classed, class_in}
use Rattle.parser.specs.Laws.Leaves.{class_of_is}
use Rattle.parser.specs.Laws.Wraps.{stands_puts, end_text}
use Rattle.reader.specs.declared.lists.Parts.{Parts}
use Rattle.reader.specs.Lists.{Reached, Alike, same_text, both_long, Parted, Parting, parted, before_part}
use Rattle.reader.specs.Laws.Separators.{join_more}
use Rattle.reader.specs.Laws.Standing.{stands_kept, stands_sized}
use Rattle.reader.specs.Laws.Joined.{last_more, shown_is, colons_size, parts_by}
use Rattle.reader.specs.Structors.{tilde_of}

tilde_within : (q : Bool) → length {A = ℕ} (if q then 126 ∷ [] otherwise []) ≤ 1
unfolding if◌then◌otherwise◌
tilde_within true = omega arith
tilde_within false = omega arith

pub tilde_size : (c : ℕ) → length (tilde_of c) ≤ 1
unfolding tilde_of
tilde_size c = tilde_within (c == 68)

module _ (c : ℕ) where
  pub tilde_at : c ≡ 68 → tilde_of c ≡ 126 ∷ []
  unfolding tilde_of if◌then◌otherwise◌
  tilde_at e = rw (eq-eqb c 68 e)

  pub tilde_none : (c ≢ 68) → tilde_of c ≡ []
  unfolding tilde_of if◌then◌otherwise◌
  tilde_none n = rw (ne_eqb c 68 n)

-- ---------------------------------------------------------------- the definition

abbrev pub structor_more : g.Parts → ℕ → g.Parts
structor_more ps c = record { texts = ps.texts ++ ((tilde_of c ++ class_of ps.texts) ∷ []); structor = true }

pub ctor_dtor_is : (ps : g.Parts) (σ : State) (c x : ℕ) (t : Text) → σ.rest ≡ c ∷ x ∷ t → g.ctor_dtor_name reading ps σ ≡ ok (structor_more ps c) (moved t σ)
unfolding g.ctor_dtor_name onto go_to tilde_of b
ctor_dtor_is ps σ c x t e = rw (e, starts_byte c 68 (x ∷ t))

-- ---------------------------------------------------------------- the last part, and the class in it

abbrev last_part : List Text → Text
last_part ts = choose (last ts) (λ x. x) []

joined_last : (ts : List Text) → (f : Text) × (join (b "::") ts ≡ f ++ last_part ts)
unfolding join last choose
joined_last [] = ([], refl)
joined_last (t ∷ []) = ([], refl)
joined_last (t ∷ u ∷ ts) =
    let (f, e) = joined_last (u ∷ ts) in
    (t ++ (b "::" ++ f), ap (λ (y : Text). t ++ (b "::" ++ y)) e ∙ simp append_assoc refl)

class_of_last : (ts : List Text) → class_of ts ≡ class_in (last_part ts)
unfolding last choose class_in run after_last
class_of_last [] = class_of_is []
class_of_last (t ∷ []) = class_of_is (t ∷ [])
class_of_last (t ∷ u ∷ ts) = class_of_is (t ∷ u ∷ ts) ∙ sym (class_of_is (u ∷ ts)) ∙ class_of_last (u ∷ ts)

some_part : (ts : List Text) → 0 < length (last_part ts) → 0 < length ts
unfolding last choose
some_part [] l = l
some_part (t ∷ ts) l = omega arith

class_size : {l : Text} {r : Part} → Classed l r → length (class_in l) ≡ r.to - r.from
class_size {l} {r} h = ap length (sym h.is) ∙ length-take-le (r.to - r.from) (drop r.from l) (omega (arith, length-drop r.from l, h.inside))

-- bytes of the class, found below the top
class_seen :
    {k : ℕ} (base : Text) {text : Text} {top : ℕ} (f l z : Text) {n d m : ℕ} {r : Part} → Tail k (take top text) (base ++ ((f ++ l) ++ z)) → Stack text top → length ((f ++ l) ++ z) ≤ k →
    Classed l r → n ≡ length l → d ≡ n - r.from + length z → m ≤ r.to - r.from → take m (drop (top - d) text) ≡ take m (class_in l)
class_seen {k} base {text} {top} f l z {n} {d} {m} {r} t c i h e j o =
    let a : Text = take r.from l in
    let y : Text = drop r.from l in
    let q = newest_is base ((f ++ l) ++ z) t i in
    let s : length (take top text) ≡ top = top_size c in
    let u : length a ≡ r.from = length-take-le r.from l (omega (arith, h.inside)) in
    let v : length y ≡ n - r.from = omega (arith, length-drop r.from l, h.inside) in
    let x : (f ++ l) ++ z ≡ (f ++ a) ++ (y ++ z) = ap (λ (w : Text). (f ++ w) ++ z) (sym (take-append-drop r.from l)) ∙ simp append_assoc refl in
    let len : length ((f ++ l) ++ z) ≡ length (f ++ a) + d = ap length x ∙ length-append (f ++ a) (y ++ z) ∙ omega (arith, length-append y z) in
    lists.part_of (top - d) m top text (take top text) (omega (arith, h.inside, q.0)) (sym (take-take top top text (omega arith)))
    ∙ ap (λ (w : ℕ). take m (drop w (take top text))) {x = top - d} {y = length (take top text) - length ((f ++ l) ++ z) + length (f ++ a)} (omega (arith, q.0))
    ∙ ap (take m) (sym (drop-drop (length (f ++ a)) (length (take top text) - length ((f ++ l) ++ z)) (take top text)) ∙ ap (drop (length (f ++ a))) (q.1 ∙ x) ∙ drop_at (f ++ a) (y ++ z) (length (f ++ a)) refl)
    ∙ take-append-le m y z (omega (arith, h.inside))
    ∙ sym (take-take m (r.to - r.from) y o)
    ∙ ap (take m) h.is

-- ---------------------------------------------------------------- the state behind the two bytes

pub stands_two :
    {k d : ℕ} {s base : Text} {from : ℕ} {m : Memory} {p : Progress} {n : ℕ} {a : Text} {σ : State} {c x : ℕ} {t : Text} (from' : ℕ) →
    Stands k d s base from m p n a σ → σ.rest ≡ c ∷ x ∷ t → from' ≤ p.at + 2 → Stands k d s base from' m (moved_to p (p.at + 2)) n a (moved t σ)
stands_two {s = s} {m = m} {p = p} {σ = σ} {t = t} from' h e l =
    let i : p.at + 2 ≤ length s = omega (arith, h.holds.place, length-drop p.at s, ap length (sym h.holds.rest ∙ e)) in
    let f : drop (p.at + 2) s ≡ t = sym (drop-drop 2 p.at s) ∙ ap (drop 2) (sym h.holds.rest ∙ e) in
    stands_kept h (subst (λ (r : Text). Holds s m (moved_to p (p.at + 2)) (moved r σ)) f (holds_moved h.holds (p.at + 2) i)) refl refl l

module _ {s base : Text} {from : ℕ} {m : Memory} {p : Progress} {q : Parts} {ps : g.Parts} {σ : State} (h : Parted (keep p.depth) p.depth s base from m p q ps σ) {c x : ℕ} {t : Text} (e : σ.rest ≡ c ∷ x ∷ t) where
  -- the parts are too long already
  pub structor_long : {r : Progress} → r ≡ moved_to p (p.at + 2) → most_entry_bytes < q.n → Parting (keep p.depth) p.depth s base (p.at + 1) m (Reached r (record { n = q.n; last = 0; count = 1; structor = true })) (g.ctor_dtor_name reading ps σ)
  structor_long f l = rw f (parts_by (ctor_dtor_is ps σ c x t e) (parted {ps = structor_more ps c} (record {
    shown = h.shown;
    stands = stands_two (p.at + 1) h.stands e (omega arith);
    alike = longer h.alike;
    final = λ i. absurd (omega (arith, i, grown, long h.alike));
    within = omega arith;
    count = simp length-append (omega arith);
    structor = refl;
  })))
    where
      grown : length (join (b "::") ps.texts) ≤ length (join (b "::") (ps.texts ++ ((tilde_of c ++ class_of ps.texts) ∷ [])))
      grown = omega (arith, ap length (join_more (b "::") q.count ps.texts (tilde_of c ++ class_of ps.texts) (omega (arith, h.count))), length-append (join (b "::") ps.texts) (before_part q.count ++ (tilde_of c ++ class_of ps.texts)))

      long : Alike h.shown (join (b "::") ps.texts) → most_entry_bytes < length (join (b "::") ps.texts)
      long (same_text f) = omega (arith, ap length f, h.stands.size)
      long (both_long i j) = j

      longer : Alike h.shown (join (b "::") ps.texts) → Alike h.shown (join (b "::") (ps.texts ++ ((tilde_of c ++ class_of ps.texts) ∷ [])))
      longer a = both_long (omega (arith, h.stands.size)) (omega (arith, grown, long a))

-- ---------------------------------------------------------------- the class once more

-- a class of which no more than 16,384 bytes are put: the rest can only be missing where the parts are too long
alike_class :
    (j z y k : Text) {m n : ℕ} → m ≡ min n most_text_bytes → n ≡ length k → n ≤ length j → (0 < n → length z ≡ 2) → Alike (((j ++ z) ++ y) ++ take m k) (j ++ (z ++ (y ++ k)))
alike_class j z y k {m} {n} e f l w = go (nat_le n most_text_bytes) refl
  where
    go : (q : Bool) → nat_le n most_text_bytes ≡ q → Alike (((j ++ z) ++ y) ++ take m k) (j ++ (z ++ (y ++ k)))
    go true i = same_text (ap (λ (v : Text). ((j ++ z) ++ y) ++ v) (take_all m k (omega (arith, leb-true n most_text_bytes i))) ∙ simp append_assoc refl)
    go false i =
        let o = leb-false n most_text_bytes i in
        let x : length z ≡ 2 = w (omega arith) in
        both_long (simp length-append (omega (arith, length-take-le m k (omega arith)))) (simp length-append (omega arith))

pub structor_short :
    {s base text text₁ text₂ text₃ : Text} {store ends : Halves} {from : ℕ} {p p₁ p₂ p₃ : Progress} {q : Parts} {ps : g.Parts} {σ : State} {c d m : ℕ} {class : Part} →
    (h : Parted (keep p.depth) p.depth s base from (mem text store ends) p q ps σ) → q.n ≤ most_entry_bytes → (x : ℕ) (t : Text) → σ.rest ≡ c ∷ x ∷ t →
    Classed (newest text p.top q.last) class → Puts text text₁ p p₁ (before_part q.count) → Puts text₁ text₂ p₁ p₂ (tilde_of c) →
    m ≡ min (class.to - class.from) most_text_bytes → d ≡ q.last - class.from + (2 * min q.count 1 + length (tilde_of c)) → Puts text₂ text₃ p₂ p₃ (take m (drop (p₂.top - d) text₂)) →
    Parted (keep p.depth) p.depth s base (p.at + 1) (mem text₃ store ends) (moved_to p₃ (p.at + 2))
    (record { n = q.n + (2 * min q.count 1 + (length (tilde_of c) + m)); last = length (tilde_of c) + m; count = 1; structor = true }) (structor_more ps c) (moved t σ)
unfolding choose
structor_short {s} {base} {text} {text₁} {text₂} {text₃} {store} {ends} {from} {p} {p₁} {p₂} {p₃} {q} {ps} {σ} {c} {d} {m} {class} h l x t e r u v i o w =
    let ts : List Text = ps.texts in
    let j : Text = join (b "::") ts in
    let z : Text = before_part q.count in
    let y : Text = tilde_of c in
    let shown : h.shown ≡ j = shown_is (λ i _. omega (arith, i, h.stands.size, l)) h.alike in
    let size : length j ≡ q.n = omega (arith, h.stands.size, ap length shown) in
    let final : q.last ≡ length (last_part ts) = h.final (omega arith) in
    let (f, split) = joined_last ts in
    let st : Stands (keep p.depth) p.depth s base from (mem text store ends) p q.n (f ++ last_part ts) σ = subst (λ (a : Text). Stands (keep p.depth) p.depth s base from (mem text store ends) p q.n a σ) (shown ∙ split) h.stands in
    let seen : newest text p.top q.last ≡ last_part ts = ap (λ (n : ℕ). newest text p.top n) final ∙ end_text f (last_part ts) st (omega (arith, ap length split)) in
    let cls : Classed (last_part ts) class = subst (λ (a : Text). Classed a class) seen r in
    let named : class_of ts ≡ class_in (last_part ts) = class_of_last ts in
    let whole : length (class_of ts) ≡ class.to - class.from = ap length named ∙ class_size cls in
    let s₂ = stands_puts st u refl in
    let s₃ = stands_puts s₂ v refl in
    let len : length (z ++ y) ≡ 2 * min q.count 1 + length y = length-append z y ∙ omega (arith, colons_size q.count) in
    let long : length ((f ++ last_part ts) ++ (z ++ y)) ≡ q.n + (2 * min q.count 1 + length y) = length-append (f ++ last_part ts) (z ++ y) ∙ omega (arith, ap length split) in
    let at : take m (drop (p₂.top - d) text₂) ≡ take m (class_of ts) =
    class_seen base f (last_part ts) (z ++ y) {n = q.last} {d = d} {m = m} {r = class} (subst (λ (a : Text). Tail (keep p.depth) (take p₂.top text₂) (base ++ a)) (append_assoc (f ++ last_part ts) z y) s₃.tail) s₃.holds.text (omega (arith, tilde_size c)) cls final (omega (arith, len)) (omega arith)
    ∙ ap (take m) (sym named) in
    let s₄ = stands_puts s₃ (subst (λ (a : Text). Puts text₂ text₃ p₂ p₃ a) at w) refl in
    let same : p₃.at ≡ p.at = ap (λ (a : Progress). a.at) w.same ∙ ap (λ (a : Progress). a.at) v.same ∙ ap (λ (a : Progress). a.at) u.same in
    let s₅ : Stands (keep p.depth) p.depth s base (p.at + 1) (mem text₃ store ends) (moved_to p₃ (p.at + 2)) (min (length ((((f ++ last_part ts) ++ z) ++ y) ++ take m (class_of ts))) most_length) ((((f ++ last_part ts) ++ z) ++ y) ++ take m (class_of ts)) (moved t σ) =
    subst (λ (a : ℕ). Stands (keep p.depth) p.depth s base (p.at + 1) (mem text₃ store ends) (moved_to p₃ (a + 2)) (min (length ((((f ++ last_part ts) ++ z) ++ y) ++ take m (class_of ts))) most_length) ((((f ++ last_part ts) ++ z) ++ y) ++ take m (class_of ts)) (moved t σ)) same (stands_two (p.at + 1) s₄ e (omega arith)) in
    let join' : join (b "::") (ts ++ ((y ++ class_of ts) ∷ [])) ≡ j ++ (z ++ (y ++ class_of ts)) = join_more (b "::") q.count ts (y ++ class_of ts) (omega (arith, h.count)) in
    let count : 0 < class.to - class.from → length z ≡ 2 = λ (n : 0 < class.to - class.from). omega (arith, colons_size q.count, h.count, some_part ts (omega (arith, cls.inside))) in
    let all : length ((((f ++ last_part ts) ++ z) ++ y) ++ take m (class_of ts)) ≡ q.n + (2 * min q.count 1 + (length y + m)) =
    length-append (((f ++ last_part ts) ++ z) ++ y) (take m (class_of ts)) ∙ omega (arith, ap length (append_assoc (f ++ last_part ts) z y), long, length-take-le m (class_of ts) (omega arith)) in
    record {
      shown = (((f ++ last_part ts) ++ z) ++ y) ++ take m (class_of ts);
      stands = stands_sized _ s₅ refl (omega (arith, all, tilde_size c));
      alike = rw join' (subst (λ (a : Text). Alike (((a ++ z) ++ y) ++ take m (class_of ts)) (j ++ (z ++ (y ++ class_of ts)))) split (alike_class j z y (class_of ts) i (sym whole) (omega (arith, cls.inside, h.within)) count));
      final = λ n. rw (last_more ts (y ++ class_of ts)) (omega (arith, length-append y (class_of ts), ap length join', length-append j (z ++ (y ++ class_of ts)), length-append z (y ++ class_of ts), cls.inside, h.within, n));
      within = omega arith;
      count = simp length-append (omega arith);
      structor = refl;
    }

-- as the code hands it back
pub structor_named :
    {s base text text₁ text₂ text₃ : Text} {store ends : Halves} {from : ℕ} {p p₁ p₂ p₃ p₄ : Progress} {q : Parts} {ps : g.Parts} {σ : State} {c d m n j : ℕ} {class : Part} →
    (h : Parted (keep p.depth) p.depth s base from (mem text store ends) p q ps σ) → q.n ≤ most_entry_bytes → (x : ℕ) (t : Text) → σ.rest ≡ c ∷ x ∷ t →
    Classed (newest text p.top q.last) class → Puts text text₁ p p₁ (before_part q.count) → Puts text₁ text₂ p₁ p₂ (tilde_of c) →
    m ≡ min (class.to - class.from) most_text_bytes → d ≡ q.last - class.from + (2 * min q.count 1 + length (tilde_of c)) → Puts text₂ text₃ p₂ p₃ (take m (drop (p₂.top - d) text₂)) →
    p₄ ≡ moved_to p₃ (p.at + 2) → n ≡ q.n + (2 * min q.count 1 + (length (tilde_of c) + m)) → j ≡ length (tilde_of c) + m →
    Parting (keep p.depth) p.depth s base (p.at + 1) (mem text₃ store ends) (Reached p₄ (record { n = n; last = j; count = 1; structor = true })) (g.ctor_dtor_name reading ps σ)
structor_named {p₄ = p₄} {ps = ps} {σ = σ} {c = c} h l x t e r u v i o w f a k = rw (f, a, k) (parts_by (ctor_dtor_is ps σ c x t e) (parted {ps = structor_more ps c} (structor_short h l x t e r u v i o w)))

-- ---------------------------------------------------------------- how far below the top the class is

module _ (count : ℕ) {n n' m t : ℕ} (e : n' ≡ min (n + (2 * min count 1 + (t + m))) most_length) (l : n ≤ most_entry_bytes) (i : m ≤ most_text_bytes) (j : t ≤ 1) where
  pub exact : n' ≡ n + (2 * min count 1 + (t + m))
  exact = omega arith

  pub between : n' - n - m ≡ 2 * min count 1 + t
  between = omega (arith, exact)

pub again_room : {back top m x y : ℕ} → x ≡ y → m ≤ back → back + y ≤ top → y ≤ 3 → back ≤ most_entry_bytes → m ≤ most_text_bytes
    → (m ≤ back + x) × ((back + x ≤ top) × ((back + x ≤ kept_bytes) × (m ≤ most_text_bytes)))
again_room e i j k l o = (omega arith, (omega arith, (omega arith, o)))
