-- The ways of a catalogue symbol through the productions: which reader the first byte of a type, an argument or a part picks.
use Rattle.std.specs.Prelude.{Bool, true, List, [], ◌∷◌, ◌≡◌, ℕ, ◌+◌, ◌<◌}
use Rattle.std.proofs.Math.Bool.{not}
use Rattle.std.proofs.Math.Option.{none, some}
use Rattle.std.proofs.Math.Path.{refl}
use Prim.Native.Char.{code}
use Prim.Native.String.{String}
use Rattle.std.proofs.Common.{arith, ne_eqb}
use Rattle.std.proofs.Math.Dec.{eqb}
use Rattle.grammar.specs.Text.{Text, b, if◌then◌otherwise◌, choose, same, starts, holds, digit, digit_value}
use Rattle.grammar.specs.Limits.{most_open}
use Rattle.grammar.specs.Tables.{Row, ◌⇒◌, letters, d_letters, wrappers}
use Rattle.grammar.specs.Reader.{State, Reader, onto, give, find, at_code, word_for}
use Rattle.grammar.specs.Grammar as g
use Rattle.grammar.specs.Grammar.{⟨type⟩, ⟨template-arg⟩, ⟨template-param⟩, ⟨expr-primary⟩, ⟨unqualified-name⟩, production, reading, Parts}
use Rattle.catalogue.specs.Laws.Numbers.{digit_low}
use Rattle.catalogue.specs.Bytes.{first}
use Rattle.catalogue.specs.Tree.{Letter, Wrap, lv, lw, lb, lc, la, lh, ls, lt, li, lj, ll, lm, lx, ly, ln, lo, lf, ld, le, lg, lz, wP, wR, wO, wK, wV}
use Rattle.catalogue.specs.Tree.{letter_code, wrap_code, word, suffix}
use Rattle.agreement.specs.Laws.Verdict.{at, Verdict, Gives, in_reading, entered_by, by_code_hit, by_code_miss, at_code_hit, at_code_miss}
use Rattle.agreement.specs.Laws.Leaves.{clear, find_miss}
use Rattle.agreement.specs.Laws.Heads.{opens, no_structor, first_map}

-- ---------------------------------------------------------------- the 21 letters and the five wrappers

pub letter_find : (l : Letter) (r : Text) → (w : String) × (find letters (letter_code l ∷ r) ≡ some (w, r)) × (b w ≡ word l)
unfolding find letters starts b if◌then◌otherwise◌ word word_for choose same
letter_find lv r = ("void", refl, refl)
letter_find lw r = ("wchar_t", refl, refl)
letter_find lb r = ("bool", refl, refl)
letter_find lc r = ("char", refl, refl)
letter_find la r = ("signed char", refl, refl)
letter_find lh r = ("unsigned char", refl, refl)
letter_find ls r = ("short", refl, refl)
letter_find lt r = ("unsigned short", refl, refl)
letter_find li r = ("int", refl, refl)
letter_find lj r = ("unsigned int", refl, refl)
letter_find ll r = ("long", refl, refl)
letter_find lm r = ("unsigned long", refl, refl)
letter_find lx r = ("long long", refl, refl)
letter_find ly r = ("unsigned long long", refl, refl)
letter_find ln r = ("__int128", refl, refl)
letter_find lo r = ("unsigned __int128", refl, refl)
letter_find lf r = ("float", refl, refl)
letter_find ld r = ("double", refl, refl)
letter_find le r = ("long double", refl, refl)
letter_find lg r = ("__float128", refl, refl)
letter_find lz r = ("...", refl, refl)

pub wrap_find : (c : Wrap) (r : Text) → (w : String × String) × (find wrappers (wrap_code c ∷ r) ≡ some (w, r)) × (b w.0 ≡ suffix c)
unfolding find wrappers starts b if◌then◌otherwise◌
wrap_find wP r = (("*", "*"), refl, refl)
wrap_find wR r = (("&", "&"), refl, refl)
wrap_find wO r = (("&&", "&&"), refl, refl)
wrap_find wK r = ((" const", " const"), refl, refl)
wrap_find wV r = ((" volatile", " volatile"), refl, refl)

pub wrap_miss : (c : Wrap) (r : Text) → (find letters (wrap_code c ∷ r) ≡ none) × (find d_letters (wrap_code c ∷ r) ≡ none)
unfolding find letters d_letters starts b if◌then◌otherwise◌
wrap_miss wP r = (refl, refl)
wrap_miss wR r = (refl, refl)
wrap_miss wO r = (refl, refl)
wrap_miss wK r = (refl, refl)
wrap_miss wV r = (refl, refl)

-- ---------------------------------------------------------------- types

module _ {room : Type 0} {y r : Text} {l : List Text} {d : ℕ} {K : List Text → Type 0} where
  pub letter_by :
      (x : Letter) (t : Text) (l' a : List Text) (c : Text) (q : Bool) → (room → d < most_open) →
      (d < most_open → Verdict room (Gives y r l (d + 1) K) (give (word x) (at t l' a (d + 1) c q))) →
      Verdict room (Gives y r l d K) (reading ⟨type⟩ (at (letter_code x ∷ t) l' a d c q))
  unfolding production g.type g.type_inner
  letter_by x t l' a c q w h =
      let f = letter_find x t in
      in_reading _ _ (entered_by _ _ _ _ _ _ w (λ k. by_code_hit _ _ _ f.0 _ t _ _ _ _ _ f.1 (rw f.2 (h k))))

  pub wrapped_by :
      (x : Wrap) (t : Text) (l' a : List Text) (c : Text) (q : Bool) → (room → d < most_open) →
      ((w : String × String) → b w.0 ≡ suffix x → d < most_open
      → Verdict room (Gives y r l (d + 1) K) (g.wrapped reading w (at t l' a (d + 1) c q))) →
      Verdict room (Gives y r l d K) (reading ⟨type⟩ (at (wrap_code x ∷ t) l' a d c q))
  unfolding production g.type g.type_inner
  wrapped_by x t l' a c q w h =
      let f = wrap_find x t in
      let m = wrap_miss x t in
      in_reading _ _ (entered_by _ _ _ _ _ _ w (λ k.
      by_code_miss _ _ _ _ m.0 (by_code_miss _ _ _ _ m.1 (by_code_hit _ _ _ f.0 _ t _ _ _ _ _ f.1 (h f.0 f.2 k)))))

  -- past letters, wrappers and F, A, M, u
  late :
      (p : ℕ → Bool) (t : Text) (l' a : List Text) (c : Text) (q : Bool) → first p t ≡ true →
      clear p letters ≡ true → clear p d_letters ≡ true → clear p wrappers ≡ true →
      clear p ("F" ⇒ tt {0} ∷ "A" ⇒ tt {0} ∷ "M" ⇒ tt {0} ∷ "u" ⇒ tt {0} ∷ []) ≡ true → (room → d < most_open) →
      (d < most_open → Verdict room (Gives y r l (d + 1) K) (at_code
      ("N" ⇒ g.nested_type reading ∷ "T" ⇒ reading ⟨template-param⟩ ∷ "S" ⇒ g.s_type reading ∷ []) (g.class_type reading) (at t l' a (d + 1) c q))) →
      Verdict room (Gives y r l d K) (reading ⟨type⟩ (at t l' a d c q))
  unfolding production g.type g.type_inner clear
  late p t l' a c q f e0 e1 e2 e3 w h =
      in_reading _ _ (entered_by _ _ _ _ _ _ w (λ k.
      by_code_miss _ _ _ _ (find_miss p _ t f e0)
      (by_code_miss _ _ _ _ (find_miss p _ t f e1)
      (by_code_miss _ _ _ _ (find_miss p _ t f e2)
      (by_code_miss _ _ _ _ (find_miss p _ t f e3) (h k))))))

  pub class_by :
      (t : Text) (l' a : List Text) (c : Text) (q : Bool) → first (digit 10) t ≡ true → (room → d < most_open) →
      (d < most_open → Verdict room (Gives y r l (d + 1) K) (g.class_type reading (at t l' a (d + 1) c q))) →
      Verdict room (Gives y r l d K) (reading ⟨type⟩ (at t l' a d c q))
  unfolding clear letters d_letters wrappers b digit digit_value if◌then◌otherwise◌
  class_by t l' a c q f w h =
      late (digit 10) t l' a c q f refl refl refl refl w (λ k. at_code_miss _ _ _ (find_miss (digit 10) _ t f refl) (h k))

  pub s_type_by :
      (t : Text) (l' a : List Text) (c : Text) (q : Bool) → (room → d < most_open) →
      (d < most_open → Verdict room (Gives y r l (d + 1) K) (g.s_type reading (at (code "S" ∷ t) l' a (d + 1) c q))) →
      Verdict room (Gives y r l d K) (reading ⟨type⟩ (at (code "S" ∷ t) l' a d c q))
  unfolding clear letters d_letters wrappers b find starts if◌then◌otherwise◌
  s_type_by t l' a c q w h =
      late (λ x. eqb x (code "S")) (code "S" ∷ t) l' a c q refl refl refl refl refl w (λ k. at_code_hit _ _ _ _ t refl (h k))

  pub nested_type_by :
      (t : Text) (l' a : List Text) (c : Text) (q : Bool) → (room → d < most_open) →
      (d < most_open → Verdict room (Gives y r l (d + 1) K) (g.nested_type reading (at (code "N" ∷ t) l' a (d + 1) c q))) →
      Verdict room (Gives y r l d K) (reading ⟨type⟩ (at (code "N" ∷ t) l' a d c q))
  unfolding clear letters d_letters wrappers b find starts if◌then◌otherwise◌
  nested_type_by t l' a c q w h =
      late (λ x. eqb x (code "N")) (code "N" ∷ t) l' a c q refl refl refl refl refl w (λ k. at_code_hit _ _ _ _ t refl (h k))

-- ---------------------------------------------------------------- template arguments

-- not the L of a literal
abbrev pub not_L : ℕ → Bool
not_L x = not (eqb x (code "L"))

L_find : {A : Type 0} (x : A) (t : Text) → find ("L" ⇒ x ∷ []) (code "L" ∷ t) ≡ some (x, t)
unfolding find starts b if◌then◌otherwise◌
L_find x t = refl

module _ {room : Type 0} {Q : Text → State → Type 0} where
  pub type_arg_by :
      (s : State) → first opens s.rest ≡ true → first not_L s.rest ≡ true → Verdict room Q (reading ⟨type⟩ s)
      → Verdict room Q (reading ⟨template-arg⟩ s)
  unfolding production g.template_arg clear opens holds b
  type_arg_by s f e h =
      in_reading _ _ (by_code_miss _ _ _ _ (find_miss opens _ s.rest f refl) (at_code_miss _ _ _ (find_miss not_L _ s.rest e refl) h))

  pub literal_arg_by :
      (t : Text) (l a : List Text) (d : ℕ) (c : Text) (q : Bool) →
      Verdict room Q (reading ⟨expr-primary⟩ (at (code "L" ∷ t) l a d c q)) → Verdict room Q (reading ⟨template-arg⟩ (at (code "L" ∷ t) l a d c q))
  unfolding production g.template_arg clear opens holds b
  literal_arg_by t l a d c q h =
      in_reading _ _ (by_code_miss _ _ _ _ (find_miss opens _ (code "L" ∷ t) refl refl) (at_code_hit _ _ _ _ t (L_find _ t) h))

-- ---------------------------------------------------------------- parts of nested names

at_code_skip : {B : Type 0} (rows : List (Row (Reader B))) (m : Reader B) (s : State) → find rows s.rest ≡ none → at_code rows m s ≡ m s
unfolding at_code onto choose
at_code_skip rows m s e = rw e

digit_part : (x : ℕ) → digit 10 x ≡ true → not (holds x (b "CD")) ≡ true
unfolding holds b
digit_part x h =
    let k = digit_low x h in
    let k1 = k.1 in
    rw (ne_eqb x 67 (λ e. omega arith), ne_eqb x 68 (λ e. omega arith))

module _ (p : Parts) (l a : List Text) (d : ℕ) (c : Text) (q : Bool) where
  pub prefix_name : (t : Text) → first (digit 10) t ≡ true → g.prefix reading p
      (at t l a d c q) ≡ g.new_prefix reading ⟨unqualified-name⟩ p (at t l a d c q)
  unfolding g.prefix onto if◌then◌otherwise◌ clear b digit digit_value
  prefix_name t f =
      rw (no_structor t (first_map (digit 10) (λ x. not (holds x (b "CD"))) digit_part t f))
      (at_code_skip _ _ _ (find_miss (digit 10) _ t f refl))

  pub prefix_ref : (t : Text) → g.prefix reading p (at (code "S" ∷ t) l a d c q) ≡ g.old_prefix reading p (at (code "S" ∷ t) l a d c q)
  unfolding g.prefix onto if◌then◌otherwise◌ at_code choose find starts b holds
  prefix_ref t = rw (no_structor (code "S" ∷ t) refl)

  pub prefix_list : (t : Text) → g.prefix reading p (at (code "I" ∷ t) l a d c q) ≡ g.prefix_args reading p (at (code "I" ∷ t) l a d c q)
  unfolding g.prefix onto if◌then◌otherwise◌ at_code choose find starts b holds
  prefix_list t = rw (no_structor (code "I" ∷ t) refl)
