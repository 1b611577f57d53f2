-- Laws of Funcs.antt. Assumes nothing.
use Rattle.std.specs.Prelude.{◌≡◌, ℕ, ◌+◌, ◌≤◌, min, Bool, true, false, T, List, [], ◌∷◌, ◌++◌, length, take, nat_eq}
use Rattle.std.proofs.Common.{append_assoc, append-nil, sym, ap₂, ◌∙◌, subst, arith, length-append, inl, inr}
use Rattle.std.proofs.Math.Path.{refl, ap}
use mathlib.Core.Logic.{◌⊎◌}
use Rattle.grammar.specs.Text.{Text, b, if◌then◌otherwise◌, same, join}
use Rattle.grammar.specs.Reader.{State, ok, Reader, onto, recorded, up_to_E, one_more}
use Rattle.grammar.specs.Grammar.{reading, ⟨type⟩, slot, only_void}
use Rattle.grammar.specs.Grammar as g
use Rattle.grammar.specs.Laws.Text.{same→eq, same_not}
use Rattle.grammar.specs.Limits.{most_open, most_text_bytes, most_entry_bytes, most_length}
use Rattle.grammar.specs.Laws.Loops.{closed}
use Rattle.store.specs.Stack.{Tail, Cut, newest}
use Rattle.store.specs.Laws.Tails.{dropped}
use Rattle.parser.specs.Holds.{Halves, Memory, mem, window, Wrote, Stands, Refines, Puts, Cuts, keep}
use Rattle.parser.specs.Laws.Holds.{stands}
use Rattle.parser.specs.Laws.Wraps.{holds_cuts, end_text}
use Rattle.grammar.specs.States.{Progress, Read}
use Rattle.std.specs.Cmp.Lexicographic.{pointwise}
use Rattle.store.specs.Laws.Lists.{same_texts}
use Rattle.store.specs.declared.stack.Stack.{Stack}
use Rattle.parser.specs.declared.demangler.Demangler.{Demangler}
use Rattle.reader.specs.declared.lists.Kind.TheVariants.{Types}
use Rattle.reader.specs.Laws.Standing.{stands_behind}
use Rattle.reader.specs.Laws.Items.{looped}
use Rattle.reader.specs.Laws.Closes.{up_types}
use Rattle.reader.specs.declared.lists.Joined.{Joined}
use Rattle.reader.specs.Lists.{VoidAlone}
use Rattle.reader.specs.Funcs.{function_text, opening, FuncEnd}

-- ---------------------------------------------------------------- the definition

abbrev pub behind_returned : Text → Reader Text
behind_returned r u = onto (λ ts. recorded (function_text r ts)) (up_to_E (one_more (reading ⟨type⟩)) [] u)

module _ (σ : State) where
  pub function_open : g.function_type reading σ ≡ onto behind_returned (reading ⟨type⟩ σ)
  unfolding g.function_type
  function_open = refl

  pub function_of : {r : Text} {τ : State} → reading ⟨type⟩ σ ≡ ok r τ → g.function_type reading σ ≡ onto (λ ts. recorded (function_text r ts)) (onto closed (looped Types [] τ))
  unfolding onto
  function_of {r} {τ} e = function_open ∙ ap (onto behind_returned) e ∙ ap (onto (λ ts. recorded (function_text r ts))) (up_types τ)

-- ---------------------------------------------------------------- the stack

pub func_stands :
    {d : ℕ} {s base : Text} {from : ℕ} {text text' : Text} {store ends : Halves} {m : Memory} {q o last : Progress} {r n : ℕ} {t u : Text} {τ ρ : State} →
    Wrote (keep (d + 1)) d s base from (mem text store ends) q r t τ → Puts text text' q o opening → d ≤ most_open →
    Stands (keep (o.depth + 1)) o.depth s (window (mem text' store ends) o) o.at m last n u ρ →
    Stands (keep (d + 1)) d s base from m last (min (r + (5 + n)) most_length) (t ++ (opening ++ u)) ρ
func_stands w v l z = stands_behind (stands w (omega arith) (omega arith)) v z (omega (arith, ap (λ (y : Progress). y.depth) v.same, w.level)) (omega (arith, ap (λ (y : Progress). y.at) v.same, w.more))

pub func_ended :
    {d : ℕ} {s base : Text} {from : ℕ} {m m' : Memory} {p : Progress} {r n count : ℕ} {x : Read} {σ : State} (t : Text) (ts : List Text) →
    FuncEnd m m' p r n count x → Stands (keep (d + 1)) d s base from m p (min (r + (5 + n)) most_length) (t ++ (opening ++ join (b ", ") ts)) σ →
    r ≡ length t → n ≡ min (length (join (b ", ") ts)) most_length → count ≡ length ts →
    Refines (keep d) d s base from m' x (recorded (function_text t ts) σ)
func_ended {d} {s} {base} {from} {m} {m'} {p} {r} {n} {count} {x} {σ} t ts h w e f i =
    subst (λ (j : ℕ). Stands (keep (j + 1)) j s base from m p (min (r + (5 + n)) most_length) (t ++ (opening ++ join (b ", ") ts)) σ → Refines (keep j) j s base from m' x (recorded (function_text t ts) σ)) w.level
    (λ v. h s base from t ts σ v e f i) w

-- ---------------------------------------------------------------- the text, as it is put together

abbrev written : Text → List Text → Bool → Text
written r ts q = r ++ b " (" ++ (slot ∷ []) ++ b ")(" ++ (if q then [] otherwise join (b ", ") ts) ++ b ")"

module _ (t : Text) (ts : List Text) where
  opened : t ++ (32 ∷ 40 ∷ []) ++ (1 ∷ []) ++ (41 ∷ 40 ∷ []) ≡ t ++ opening
  opened = append_assoc (t ++ (32 ∷ 40 ∷ [])) (1 ∷ []) (41 ∷ 40 ∷ []) ∙ append_assoc t (32 ∷ 40 ∷ []) (1 ∷ 41 ∷ 40 ∷ [])

  pub function_listed : only_void ts ≡ false → function_text t ts ≡ (t ++ (opening ++ join (b ", ") ts)) ++ (41 ∷ [])
  unfolding b if◌then◌otherwise◌
  function_listed e =
      ap (written t ts) e
      ∙ ap (λ (y : Text). (y ++ join (b ", ") ts) ++ (41 ∷ [])) opened
      ∙ ap (λ (y : Text). y ++ (41 ∷ [])) (append_assoc t opening (join (b ", ") ts))

  pub function_bare : only_void ts ≡ true → function_text t ts ≡ (t ++ opening) ++ (41 ∷ [])
  unfolding b if◌then◌otherwise◌
  function_bare e =
      ap (written t ts) e
      ∙ ap (λ (y : Text). (y ++ []) ++ (41 ∷ [])) opened
      ∙ ap (λ (y : Text). y ++ (41 ∷ [])) (append-nil (t ++ opening))

-- ---------------------------------------------------------------- a lone void

pub void_text : (ts : List Text) → only_void ts ≡ true → join (b ", ") ts ≡ b "void"
unfolding only_void join
void_text [] e = let z : ◌≡◌ {A = ℕ} 0 1 = cc in absurd (omega arith)
void_text (t ∷ []) e = let h : T (same t (b "void")) = rw e tt in same→eq t (b "void") h
void_text (t ∷ u ∷ ts) e = let z : ◌≡◌ {A = ℕ} 0 1 = cc in absurd (omega arith)

pub only_one : (ts : List Text) → length ts ≡ 1 → only_void ts ≡ same (join (b ", ") ts) (b "void")
unfolding only_void join
only_one [] e = absurd (omega arith)
only_one (t ∷ []) e = refl
only_one (t ∷ u ∷ ts) e = absurd (omega arith)

not_one : (ts : List Text) → (length ts ≡ 1 → ⊥) → only_void ts ≡ false
unfolding only_void
not_one [] h = refl
not_one (t ∷ []) h = absurd (h refl)
not_one (t ∷ u ∷ ts) h = refl

-- what the code's tests of a list tell
module _ (l : Joined) (k : Stack) where
  pub alone_told : {r : Bool} {t w : Text} → l.count ≡ 1 → l.n ≡ 4 → t ≡ newest k.bytes.now k.top 4 → w ≡ b "void" → r ≡ pointwise nat_eq t w → VoidAlone l k r
  alone_told {t = t} {w = w} i j e f g = record { is = λ ts c n h. g ∙ same_texts t w ∙ ap₂ same (e ∙ h j) f ∙ sym (only_one ts (sym c ∙ i)); four = λ q. j }

  pub alone_unlike : {r : Bool} → r ≡ false → ((l.count ≡ 1) × (l.n ≡ 4 → ⊥)) ⊎ (l.count ≡ 1 → ⊥) → VoidAlone l k r
  unfolding b
  alone_unlike e (inl (i, j)) = record {
    is = λ ts c n h. e ∙ sym (only_one ts (sym c ∙ i) ∙ same_not (join (b ", ") ts) (b "void") (λ f. j (omega (arith, n, f))));
    four = λ q. let z : true ≡ false = sym q ∙ e in cc;
  }
  alone_unlike e (inr i) = record { is = λ ts c n h. e ∙ sym (not_one ts (λ f. i (c ∙ f))); four = λ q. let z : true ≡ false = sym q ∙ e in cc }

-- the newest text has four bytes, and it goes
module _ {k d : ℕ} {s base : Text} {from : ℕ} {text : Text} {store ends : Halves} {p : Progress} {n : ℕ} {σ : State} (t u : Text)
    (h : Stands k d s base from (mem text store ends) p n (t ++ (opening ++ u)) σ) (l : length t ≤ most_text_bytes) (e : length u ≡ 4) where
  apart : Stands k d s base from (mem text store ends) p n ((t ++ opening) ++ u) σ
  apart = subst (λ (y : Text). Stands k d s base from (mem text store ends) p n y σ) (sym (append_assoc t opening u)) h

  pub newest_four : newest text p.top 4 ≡ u
  newest_four = ap (newest text p.top) (sym e) ∙ end_text (t ++ opening) u apart (omega (arith, length-append (t ++ opening) u, length-append t opening))

  pub stands_without : (j : ℕ) {text' : Text} {p' : Progress} → most_entry_bytes ≤ j → j + 4 ≤ k → Cuts text text' p p' 4 0
      → Stands j d s base from (mem text' store ends) p' (length t + 5) (t ++ opening) σ
  stands_without j {text'} {p'} i o c =
      let a : Text = base ++ (t ++ opening) in
      let w : Tail k (take p.top text) (a ++ (u ++ [])) =
      subst (Tail k (take p.top text)) (sym (append_assoc base (t ++ opening) u) ∙ ap (λ (y : Text). a ++ y) (sym (append-nil u))) apart.tail in
      let x : Cut text text' p.top p'.top (length u) 0 = subst (λ (m : ℕ). Cut text text' p.top p'.top m 0) (sym e) c.cut in
      record {
        holds = holds_cuts c h.holds;
        tail = subst (Tail j (take p'.top text')) (append-nil a) (dropped a u [] w h.holds.text (omega arith) (omega arith) x);
        size = omega (arith, length-append t opening);
        level = ap (λ (q : Progress). q.depth) c.same ∙ h.level;
        more = omega (arith, ap (λ (q : Progress). q.at) c.same, h.more);
        least = i;
        most = omega (arith, h.most);
      }

-- ---------------------------------------------------------------- a demangler

-- an entry made behind another stack
pub recorded_behind : (d d' : Demangler) (x : Stack) → d' ≡ record d { stack = x; subs = d'.subs } → d' ≡ record d { stack = d'.stack; subs = d'.subs }
recorded_behind d d' x e = e ∙ ap (λ (y : Stack). record d { stack = y; subs = d'.subs }) (sym (ap (λ (z : Demangler). z.stack) e))
