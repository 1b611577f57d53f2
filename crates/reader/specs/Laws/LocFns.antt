-- The encoding of a local name as the code reads it: a name, and a list of types up to an E. Assumes nothing.
use Rattle.std.specs.Prelude.{◌≡◌, ℕ, ◌+◌, ◌<◌, ◌≤◌, Bool, true, false, List, [], ◌∷◌, ◌++◌, length, drop}
use Rattle.std.proofs.Common.{append-nil, append_assoc, sym, ◌∙◌, arith}
use Rattle.std.proofs.Math.Path.{refl, ap, subst}
use Rattle.std.proofs.Math.ListN.{length-append}
use Rattle.grammar.specs.Text.{Text, b, if◌then◌otherwise◌, starts, join}
use Rattle.grammar.specs.Limits.{most_text_bytes}
use Rattle.grammar.specs.Reader.{State, Result, ok, Reader, onto, give, see, need, while, one_more}
use Rattle.grammar.specs.Grammar.{reading, local_encoding, ⟨name⟩, ⟨type⟩}
use Rattle.grammar.specs.Laws.Agree.{moved}
use Rattle.grammar.specs.Loops.{before_E}
use Rattle.grammar.specs.States.{Progress, Read, read, Refused, moved_to}
use Rattle.parser.specs.Holds.{Halves, Memory, mem, window, Holds, Stands, Refines, refuses, Reads, Puts, keep, given_of}
use Rattle.parser.specs.Laws.Holds.{by, answers, Got, got, refused_on, less, sooner, given_refines, holds_puts, stands, short_enough}
use Rattle.parser.specs.Laws.Adds.{puts_from}
use Rattle.parser.specs.Laws.Wraps.{stands_puts}
use Rattle.parser.specs.Laws.Halves.{give_short, give_long}
use Rattle.grammar.specs.Laws.Places.{starts_inside}
use Rattle.grammar.specs.Laws.Runs.{need_here, need_not}
use Rattle.reader.specs.declared.lists.Kind.TheVariants.{Types}
use Rattle.reader.specs.Lists.{Texts, Listed, Unlisted, Lists, ReadsItems, refused_of}
use Rattle.reader.specs.Laws.Standing.{stands_moved, wrote_moved, joined}
use Rattle.reader.specs.Laws.Closes.{GotList, got_list, list_refused, then_refused, refuses_list}
use Rattle.grammar.specs.declared.refusal.Refusal.{Refusal}
use Rattle.grammar.specs.declared.refusal.Refusal.TheVariants.{LongText, NoRule}

-- ---------------------------------------------------------------- the definition

abbrev types : State → Result (List Text)
types = while before_E (one_more (reading ⟨type⟩)) []

abbrev closing : Text → Text → Reader Text
closing n ps v = onto (λ _. give (n ++ ps)) (need "E" v)

abbrev bracketed : Text → Reader Text
bracketed w u = ok ((b "(" ++ w) ++ b ")") u

abbrev listed_on : List Text → Reader Text
listed_on ts v = onto bracketed (give (join (b ", ") ts) v)

abbrev parameters : Reader Text
parameters u = onto listed_on (types u)

abbrev chosen : Bool → Reader Text
chosen q = if q then (λ v. ok [] v) otherwise parameters

abbrev encoded_on : Text → Reader Text
encoded_on n u = onto (closing n) (chosen (starts u.rest (b "E")) u)

encoding_is : (σ : State) → local_encoding reading σ ≡ onto encoded_on (reading ⟨name⟩ σ)
unfolding local_encoding onto see before_E
encoding_is σ = refl

module _ (n : Text) (s : Text) (at : ℕ) (σ : State) (e : σ.rest ≡ drop at s) where
  bare_is : starts (drop at s) (69 ∷ []) ≡ true → encoded_on n σ ≡ give n (moved (drop (at + 1) s) σ)
  unfolding onto b if◌then◌otherwise◌
  bare_is h =
      ap (λ (q : Bool). onto (closing n) (chosen q σ)) (ap (λ (t : Text). starts t (b "E")) e ∙ h)
      ∙ ap (onto (λ _. give (n ++ []))) (need_here "E" s at σ e h)
      ∙ ap (λ (t : Text). give t (moved (drop (at + 1) s) σ)) (append-nil n)

  open_is : starts (drop at s) (69 ∷ []) ≡ false → encoded_on n σ ≡ onto (closing n) (onto listed_on (types σ))
  unfolding b if◌then◌otherwise◌
  open_is h = ap (λ (q : Bool). onto (closing n) (chosen q σ)) (ap (λ (t : Text). starts t (b "E")) e ∙ h)

-- ---------------------------------------------------------------- lists

-- a list that was refused is the whole answer
pub unlisted_on :
    {k d k' d' : ℕ} {s base s' base' : Text} {from from' : ℕ} {m m' : Memory} {r : Texts} {v : Read} {f : Result (List Text)} {j : Refusal} (g : List Text → Reader Text) (g' : Text → Reader Text) →
    r ≡ Unlisted j → v ≡ refused_of r → Lists k d s base from m r f → Refines k' d' s' base' from' m' v (onto g' (onto g f))
unlisted_on g g' e i h = by (then_refused g' (then_refused g (list_refused e h))) (refuses_list e i)

regroup : (t w : Text) → ((t ++ b "(") ++ w) ++ b ")" ≡ t ++ ((b "(" ++ w) ++ b ")")
regroup t w = ap (λ (x : Text). x ++ b ")") (append_assoc t (b "(") w) ∙ append_assoc t (b "(" ++ w) (b ")")

-- ---------------------------------------------------------------- answers

abbrev Encoded : Text → Memory → Memory → Progress → Read → State → Type 0
Encoded s m m' p r σ = Refines (keep p.depth) p.depth s (window m p) (p.at + 1) m' r (local_encoding reading σ)

module _ {s : Text} {m : Memory} {p : Progress} {σ : State} (h : Holds s m p σ) {text₁ : Text} {store₁ ends₁ : Halves} {r : Read} (f : Reads (reading ⟨name⟩) (keep (p.depth + 1)) (p.at + 1) s m (mem text₁ store₁ ends₁) p r) where
  pub fn_refused : {j : Refusal} → r ≡ Refused j → Encoded s m (mem text₁ store₁ ends₁) p r σ
  fn_refused e = by (encoding_is σ) (refused_on encoded_on e (f σ h))

  module _ {named : Progress} {n : ℕ} (e : r ≡ read named n) where
    pub fn_got : Got (keep p.depth) p.depth s (window m p) (p.at + 1) (mem text₁ store₁ ends₁) named n (reading ⟨name⟩ σ)
    fn_got = got e (less (omega arith) (f σ h))

    named_is : local_encoding reading σ ≡ encoded_on fn_got.said fn_got.state
    unfolding onto
    named_is = encoding_is σ ∙ ap (onto encoded_on) fn_got.is

    pub fn_bare : {next : Progress} → starts (drop named.at s) (69 ∷ []) ≡ true → next ≡ moved_to named (named.at + 1) → Encoded s m (mem text₁ store₁ ends₁) p (read next n) σ
    fn_bare {next} x z =
        let y = fn_got in
        subst (λ (v : Progress). Encoded s m (mem text₁ store₁ ends₁) p (read v n) σ) (sym z)
        (answers
        (named_is ∙ bare_is y.said s named.at y.state y.wrote.holds.rest x ∙ give_short y.said _ y.wrote.short)
        (wrote_moved (named.at + 1) y.wrote (omega arith) (omega (arith, y.wrote.more)) (omega (arith, starts_inside s named.at 69 x))))

    module _ (x : starts (drop named.at s) (69 ∷ []) ≡ false) {text₂ : Text} {o : Progress} (u : Puts text₁ text₂ named o (b "(")) where
      opened_is : local_encoding reading σ ≡ onto (closing fn_got.said) (onto listed_on (types fn_got.state))
      opened_is = named_is ∙ open_is fn_got.said s named.at fn_got.state fn_got.wrote.holds.rest x

      pub fn_items_ready : Holds s (mem text₂ store₁ ends₁) o fn_got.state
      fn_items_ready = holds_puts u fn_got.wrote.holds

      opened : Stands (keep p.depth) p.depth s (window m p) (p.at + 1) (mem text₂ store₁ ends₁) o (n + 1) (fn_got.said ++ b "(") fn_got.state
      unfolding b
      opened =
          let w = fn_got.wrote in
          stands_puts (stands w (omega arith) (omega (arith, h.deep))) u (omega (arith, length-append fn_got.said (b "("), w.size, w.short))

      module _ {text₃ : Text} {store₃ ends₃ : Halves} {r₂ : Texts} (f₂ : ReadsItems Types s (mem text₂ store₁ ends₁) (mem text₃ store₃ ends₃) o r₂) where
        pub fn_items_refused : {j : Refusal} {v : Read} → r₂ ≡ Unlisted j → v ≡ refused_of r₂ → Encoded s m (mem text₃ store₃ ends₃) p v σ
        fn_items_refused i g = by opened_is (unlisted_on listed_on (closing fn_got.said) i g (f₂ fn_got.state fn_items_ready))

        module _ {last : Progress} {k count : ℕ} (i : r₂ ≡ Listed last k count) where
          pub fn_listing : GotList (keep (o.depth + 1)) o.depth s (window (mem text₂ store₁ ends₁) o) o.at (mem text₃ store₃ ends₃) last k count (types fn_got.state)
          fn_listing = got_list i (f₂ fn_got.state fn_items_ready)

          abbrev words : Text
          words = join (b ", ") fn_listing.texts

          listed_is : local_encoding reading σ ≡ onto (closing fn_got.said) (onto bracketed (give words fn_listing.state))
          unfolding onto
          listed_is = opened_is ∙ ap (λ (l : Result (List Text)). onto (closing fn_got.said) (onto listed_on l)) fn_listing.is

          pub fn_long : {m' : Memory} → most_text_bytes < k → Encoded s m m' p (Refused LongText) σ
          unfolding onto
          fn_long l = by (listed_is ∙ ap (λ (z : Result Text). onto (closing fn_got.said) (onto bracketed z)) (give_long words fn_listing.state (omega (arith, fn_listing.stands.size)))) refuses

          module _ (l : k ≤ most_text_bytes) where
            short : length words ≤ most_text_bytes
            short = omega (arith, fn_listing.stands.size)

            given_is : local_encoding reading σ ≡ closing fn_got.said ((b "(" ++ words) ++ b ")") fn_listing.state
            unfolding onto
            given_is = listed_is ∙ ap (λ (z : Result Text). onto (closing fn_got.said) (onto bracketed z)) (give_short words fn_listing.state short)

            pub fn_open : {m' : Memory} → starts (drop last.at s) (69 ∷ []) ≡ false → Encoded s m m' p (Refused NoRule) σ
            unfolding onto b
            fn_open y = by (given_is ∙ ap (onto (λ _. give (fn_got.said ++ ((b "(" ++ words) ++ b ")")))) (need_not "E" s last.at fn_listing.state fn_listing.stands.holds.rest y)) refuses

            closed_is : starts (drop last.at s) (69 ∷ []) ≡ true → local_encoding reading σ ≡ give (((fn_got.said ++ b "(") ++ words) ++ b ")") (moved (drop (last.at + 1) s) fn_listing.state)
            unfolding onto b
            closed_is y =
                given_is
                ∙ ap (onto (λ _. give (fn_got.said ++ ((b "(" ++ words) ++ b ")")))) (need_here "E" s last.at fn_listing.state fn_listing.stands.holds.rest y)
                ∙ ap (λ (z : Text). give z (moved (drop (last.at + 1) s) fn_listing.state)) (sym (regroup fn_got.said words))

            pub fn_given : {text₄ : Text} {o₃ o₄ : Progress} {v : Read} → starts (drop last.at s) (69 ∷ []) ≡ true → o₃ ≡ moved_to last (last.at + 1)
                → Puts text₃ text₄ o₃ o₄ (b ")") → v ≡ given_of o₄ (n + k + 2) → Encoded s m (mem text₄ store₃ ends₃) p v σ
            unfolding b
            fn_given {text₄} {o₃} {o₄} {v} y j q g =
                let w = fn_got.wrote in
                let z = fn_listing.stands in
                let t : Text = fn_got.said in
                let d : o.depth ≡ named.depth = ap (λ (a : Progress). a.depth) u.same in
                let a : o.at ≡ named.at = ap (λ (a : Progress). a.at) u.same in
                let st = joined opened (short_enough z short) (omega (arith, d, w.level)) (omega (arith, length-append t (b "("), w.short)) in
                let mv = stands_moved (last.at + 1) refl st (omega arith) (omega (arith, starts_inside s last.at 69 y)) in
                subst (λ (c : Read). Encoded s m (mem text₄ store₃ ends₃) p c σ) (sym g)
                (by (closed_is y) (sooner (omega (arith, w.more)) (given_refines (stands_puts mv (puts_from j q) (omega (arith, length-append t (b "("), length-append ((t ++ b "(") ++ words) (b ")"), length-append (t ++ b "(") words, w.size, w.short, z.size, short))))))
