-- Laws of Literals.antt. Assumes nothing.
use Rattle.std.specs.Prelude.{Bool, ◌&&◌, List, [], ◌∷◌, ◌++◌, ◌≡◌, ℕ, suc, ◌+◌, ◌-◌, ◌≤◌, min, T, eqb, length, take, drop, nat_eq}
use Rattle.std.proofs.Math.Bool.{true, false}
use Rattle.std.proofs.Common.{append-nil, sym, ap, ◌∙◌, arith, length-append, take_at, take-take}
use Rattle.std.proofs.Math.Option.{Option, none, some}
use Rattle.std.proofs.Math.Path.{refl}
use borrow.Author.Tests.{eqb-true}
use Rattle.grammar.specs.Text.{Text, b, if◌then◌otherwise◌, choose, same, starts}
use Rattle.grammar.specs.Tables.{suffixes}
use Rattle.grammar.specs.Reader.{State, word_for}
use Rattle.grammar.specs.Grammar.{literal}
use Rattle.grammar.specs.Laws.Text.{same→eq}
use Rattle.grammar.specs.Limits.{most_text_bytes, most_entry_bytes, most_length}
use Rattle.store.specs.Stack.{Tail, Cut, newest}
use Rattle.store.specs.Laws.Tails.{newest_is, top_size, dropped, replaced}
use Rattle.store.specs.Laws.Lists.{drop_take}
use Rattle.grammar.specs.States.{Progress}
use Rattle.parser.specs.declared.literal.Kind.{Kind}
use Rattle.parser.specs.declared.literal.Kind.TheVariants.{Truth, Suffix, Cast}
use Rattle.parser.specs.Holds.{Halves, mem, Stands, Puts, Cuts}
use Rattle.parser.specs.Laws.Holds.{by_state, holds_text, holds_puts}
use Rattle.parser.specs.Laws.Wraps.{stands_puts}
use Rattle.std.specs.Cmp.Lexicographic.{pointwise}
use Rattle.parser.specs.Literals.{KindOf, truth, suffix, cast, signed, truth_of}

-- ---------------------------------------------------------------- texts on the stack

module _ {k d : ℕ} {s base : Text} {from : ℕ} {text : List ℕ} {store ends : Halves} {p : Progress} {n : ℕ} {a : Text} {σ : State} (h : Stands k d s base from (mem text store ends) p n a σ) where
  -- the newest text, read from the stack
  pub stands_newest : length a ≤ most_entry_bytes → (n ≡ length a) × (n ≤ p.top) × (newest text p.top n ≡ a)
  stands_newest l =
      let e : n ≡ length a = omega (arith, h.size) in
      let z = top_size h.holds.text in
      let w = newest_is base a h.tail (omega (arith, h.least)) in
      (e, omega (arith, w.0), ap (λ (m : ℕ). drop m (take p.top text)) {x = p.top - n} {y = length (take p.top text) - length a} (omega arith) ∙ w.1)

  pub stands_size : (m : ℕ) → m ≡ min (length a) most_length → Stands k d s base from (mem text store ends) p m a σ
  stands_size m e = record {
    holds = h.holds;
    tail = h.tail;
    size = e;
    level = h.level;
    more = h.more;
    least = h.least;
    most = h.most;
  }

-- behind a text another was put, then the first once more, and the old one below went
pub stands_turned :
    {k d : ℕ} {s base : Text} {from : ℕ} {text text₁ text₂ text₃ : List ℕ} {store ends : Halves} {p p₁ p₂ p₃ : Progress} {n : ℕ} {t x : Text} {σ : State} →
    length t ≤ most_text_bytes → length x ≤ most_text_bytes → Stands k d s base from (mem text store ends) p n t σ → Puts text text₁ p p₁ x →
    Puts text₁ text₂ p₁ p₂ (take n (drop (p₁.top - (n + length x)) text₁)) → Cuts text₂ text₃ p₂ p₃ n (n + length x) →
    Stands k d s base from (mem text₃ store ends) p₃ (min (length (x ++ t)) most_length) (x ++ t) σ
stands_turned {k} {d} {s} {base} {from} {text} {text₁} {text₂} {text₃} {store} {ends} {p} {p₁} {p₂} {p₃} {n} {t} {x} {σ} l m h u v w =
    let f : Stands k d s base from (mem text₁ store ends) p₁ (min (length (t ++ x)) most_length) (t ++ x) σ = stands_puts h u refl in
    let e : n ≡ length t = omega (arith, h.size) in
    let y : length (t ++ x) ≡ length t + length x = length-append t x in
    let y' : length (x ++ t) ≡ n + length x = length-append x t ∙ omega arith in
    let (i, j, o) = stands_newest f (omega arith) in
    let g : n + length x ≡ min (length (t ++ x)) most_length = omega arith in
    let r : take n (drop (p₁.top - (n + length x)) text₁) ≡ t =
    sym (take-take n (n + length x) (drop (p₁.top - (n + length x)) text₁) (omega arith))
    ∙ ap (λ (m : ℕ). take n (take m (drop (p₁.top - (n + length x)) text₁))) {x = n + length x} {y = p₁.top - (p₁.top - (n + length x))} (omega arith)
    ∙ ap (take n) (sym (drop_take (p₁.top - (n + length x)) p₁.top text₁) ∙ ap (newest text₁ p₁.top) g ∙ o)
    ∙ take_at t x n (sym e) in
    let c : Puts text₁ text₂ p₁ p₂ t = rw r at v in
    let q : Cut text₂ text₃ p₂.top p₃.top (length t) (length (x ++ t)) = rw (y', ← e) w.cut in
    let z = holds_puts c f.holds in
    record {
      holds = by_state w.same (holds_text z p₃.top w.cut.stack);
      tail = replaced base t x t f.tail f.holds.text c.put q h.most (omega (arith, h.least)) (omega arith);
      size = refl;
      level = ap (λ (q : Progress). q.depth) w.same ∙ ap (λ (q : Progress). q.depth) c.same ∙ f.level;
      more = omega (arith, ap (λ (q : Progress). q.at) w.same, ap (λ (q : Progress). q.at) c.same, f.more);
      least = h.least;
      most = h.most;
    }

-- the newest text goes; it has no more than 18 bytes
pub stands_bare :
    {k d : ℕ} {s base : Text} {from : ℕ} {text text' : List ℕ} {store ends : Halves} {p p' : Progress} {n : ℕ} {t : Text} {σ : State} →
    length t ≤ 18 → most_entry_bytes ≤ k → Stands (k + 18) d s base from (mem text store ends) p n t σ → Cuts text text' p p' n 0 →
    Stands k d s base from (mem text' store ends) p' 0 [] σ
stands_bare {k} {d} {s} {base} {from} {text} {text'} {store} {ends} {p} {p'} {n} {t} {σ} l m h u =
    let e : n ≡ length t = omega (arith, h.size) in
    let w : Tail (k + 18) (take p.top text) (base ++ (t ++ [])) = rw (append-nil t) h.tail in
    record {
      holds = by_state u.same (holds_text h.holds p'.top u.cut.stack);
      tail = dropped base t [] w h.holds.text (omega arith) (omega arith) (rw e at u.cut);
      size = omega arith;
      level = ap (λ (q : Progress). q.depth) u.same ∙ h.level;
      more = omega (arith, ap (λ (q : Progress). q.at) u.same, h.more);
      least = m;
      most = omega (arith, h.most);
    }

-- ---------------------------------------------------------------- values

same_size : (t w : Text) → same t w ≡ true → length t ≡ length w
same_size t w e = let h : T (same t w) = rw e tt in ap length (same→eq t w h)

-- what the code's test of a prefix tells
pub strip_starts : (s w : Text) → pointwise nat_eq (take (length w) s) w ≡ starts s w
unfolding starts
strip_starts [] [] = refl
strip_starts (x ∷ s) [] = refl
strip_starts [] (y ∷ w) = refl
strip_starts (x ∷ s) (y ∷ w) = ap (λ (q : Bool). eqb x y && q) (strip_starts s w)

pub signed_minus : (v : Text) → starts v (110 ∷ []) ≡ true → signed v ≡ 45 ∷ drop 1 v
unfolding signed b if◌then◌otherwise◌
signed_minus v e = rw e refl

pub signed_plain : (v : Text) → starts v (110 ∷ []) ≡ false → signed v ≡ v
unfolding signed b if◌then◌otherwise◌
signed_plain v e = rw e refl

pub length_signed : (v : Text) → length (signed v) ≡ length v
unfolding signed starts b if◌then◌otherwise◌
length_signed [] = refl
length_signed (x ∷ t) = go (eqb x 110 && starts t [])
  where
    go : (q : Bool) → length (if q then 45 ∷ t otherwise x ∷ t) ≡ suc (length t)
    go true = refl
    go false = refl

-- whether a value is 1
pub one_same : (v : Text) → same (signed v) (b "1") ≡ same v (b "1")
unfolding signed starts same b if◌then◌otherwise◌
one_same [] = refl
one_same (x ∷ t) = go (eqb x 110) refl
  where
    go : (q : Bool) → eqb x 110 ≡ q → same (if q && starts t [] then 45 ∷ t otherwise x ∷ t) (49 ∷ []) ≡ (eqb x 49 && same t [])
    go true f = rw (eqb-true x 110 f) refl
    go false f = refl

-- ---------------------------------------------------------------- literals by their kind

-- what a literal of each kind comes to
abbrev pub Said : Text → Text → Kind → Text → Type 0
Said t v Truth l = (l ≡ truth_of v) × (length t ≤ 18)
Said t v (Suffix w) l = (l ≡ signed v ++ w.now) × (length t ≤ 18) × (length w.now ≤ 3)
Said t v Cast l = l ≡ b "(" ++ t ++ b ")" ++ signed v

no_row : {x : Text} {P : Type 0} → none ≡ some x → P
no_row e = let z : ◌≡◌ {A = ℕ} 0 1 = cc in absurd (omega arith)

module _ (t v : Text) where
  abbrev told : Option Text → Text
  told o = choose o (λ x. signed v ++ x) (b "(" ++ t ++ b ")" ++ signed v)

  by_suffix : same t (b "bool") ≡ false → literal t v ≡ told (word_for suffixes t)
  unfolding literal signed if◌then◌otherwise◌
  by_suffix e = rw e refl

  -- a row of the table, and those behind it
  row : (w x : Text) (o : Option Text) {y : Text} → length w ≤ 18 → length x ≤ 3 → (if same t w then some x otherwise o) ≡ some y
      → (o ≡ some y → (length t ≤ 18) × (length y ≤ 3)) → (length t ≤ 18) × (length y ≤ 3)
  unfolding if◌then◌otherwise◌
  row w x o {y} l m e h = go (same t w) refl e
    where
      go : (q : Bool) → same t w ≡ q → (if q then some x otherwise o) ≡ some y → (length t ≤ 18) × (length y ≤ 3)
      go true i f = let z : x ≡ y = cc in (omega (arith, same_size t w i), omega (arith, ap length z))
      go false i f = h f

  pub short_row : {x : Text} → word_for suffixes t ≡ some x → (length t ≤ 18) × (length x ≤ 3)
  unfolding suffixes word_for b
  short_row {x} e =
      row (b "int") (b "") _ (omega arith) (omega arith) e
      (λ e. row (b "long") (b "l") _ (omega arith) (omega arith) e
      (λ e. row (b "unsigned int") (b "u") _ (omega arith) (omega arith) e
      (λ e. row (b "unsigned long") (b "ul") _ (omega arith) (omega arith) e
      (λ e. row (b "long long") (b "ll") _ (omega arith) (omega arith) e
      (λ e. row (b "unsigned long long") (b "ull") none (omega arith) (omega arith) e
      (λ e. no_row e))))))

  pub said : {k : Kind} → KindOf t k → Said t v k (literal t v)
  unfolding literal truth_of signed if◌then◌otherwise◌ b starts choose
  said (truth e) = (rw e refl, omega (arith, same_size t (b "bool") e))
  said (suffix {w} e f) = let z = short_row f in (by_suffix e ∙ ap told f, z.0, z.1)
  said (cast e f) = by_suffix e ∙ ap told f
