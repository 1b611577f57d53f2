-- What the loop over source names keeps, one law for each way through its turn. Assumes nothing.
use Rattle.std.specs.Prelude.{[], ◌∷◌, ◌++◌, true, false, ◌≡◌, refl, ℕ, ◌+◌, ◌-◌, ◌≤◌, ◌<◌, min, length, drop, Some, None}
use Rattle.std.proofs.Common.{sym, ap, ◌∙◌, subst, arith, length-append}
use Rattle.grammar.specs.Text.{Text, starts}
use Rattle.grammar.specs.Limits.{most_length, kept_bytes}
use Rattle.grammar.specs.Reader.{State, onto}
use Rattle.grammar.specs.Grammar.{⟨source-name⟩, reading}
use Rattle.grammar.specs.Laws.Agree.{moved}
use Rattle.store.specs.Stack.{Stack}
use Rattle.grammar.specs.States.{Progress, Read, Refused, moved_to}
use Rattle.parser.specs.Holds.{Halves, Memory, mem, part, Reads, refuses, Puts, given_of}
use Rattle.parser.specs.Laws.Holds.{by, holds_moved, given_refines}
use Rattle.parser.specs.Laws.Halves.{part_size}
use Rattle.parser.specs.Adds.{Adds}
use Rattle.parser.specs.Laws.Adds.{adds_none, adds_more, adds_adds, adds_moved, puts_from, stands_adds}
use Rattle.parser.specs.Source.{identified, closers}
use Rattle.parser.specs.Laws.Source.{Located, identified_in, length_closers, tagged, tags_start, tags_refused, tags_end, tags_more}
use Rattle.grammar.specs.declared.refusal.Refusal.TheVariants.{NoRule}

-- from p on the text `pre` was put, with so many tags open, and the next source name goes inside
pub record Tagging (s text₀ text : Text) (p next : Progress) (n tags : ℕ) : Type 0 where
  pub pre : Text
  pub size : n ≡ min (length pre) most_length
  pub place : next.at ≤ length s
  pub more : p.at + tags ≤ next.at
  pub adds : Adds text₀ text (moved_to p next.at) next pre
  pub is : (σ : State) → σ.rest ≡ drop p.at s
      → reading ⟨source-name⟩ σ ≡ onto (tagged pre tags) (reading ⟨source-name⟩ (moved (drop next.at s) σ))

pub tagging_start : {s text : Text} {p : Progress} → p.at ≤ length s → Stack text p.top → Tagging s text text p p 0 0
tagging_start {s} {text} {p} l c = record {
  pre = [];
  size = refl;
  place = l;
  more = omega arith;
  adds = adds_none c;
  is = λ σ e. tags_start σ ∙ ap (λ (t : Text). onto (tagged [] 0) (reading ⟨source-name⟩ (moved t σ))) e;
}

module _ {s text₀ text : Text} {p next : Progress} {n tags : ℕ} (g : Tagging s text₀ text p next n tags) where
  pub tagging_refuses : {store ends : Halves} {m : Memory} → identified s next.at ≡ None
      → Reads (reading ⟨source-name⟩) kept_bytes (p.at + 1) s (mem text₀ store ends) m p (Refused NoRule)
  tagging_refuses e σ h = by (g.is σ h.rest ∙ tags_refused g.pre tags s next.at (moved (drop next.at s) σ) refl e) refuses

  module _ {from to : ℕ} (e : identified s next.at ≡ Some (record { from = from; to = to })) where
    pub located : Located s next.at from to
    located = identified_in s next.at (record { from = from; to = to }) g.place e

    -- the identifier was put
    pub tagging_name : {text' : Text} {q r : Progress} → q ≡ moved_to next to → Puts text text' q r (part s from to) → Adds text₀ text' (moved_to p to) r (g.pre ++ part s from to)
    tagging_name f h = adds_more (adds_moved to g.adds) (puts_from f h)

    size_name : {n' : ℕ} → n' ≡ min (n + (to - from)) most_length → n' ≡ min (length (g.pre ++ part s from to)) most_length
    size_name f = let l = located in omega (arith, g.size, length-append g.pre (part s from to), part_size s {from = from} {to = to} (omega arith) l.inside)

    -- the last identifier
    pub tagging_ends :
        {text' text'' : Text} {q r u : Progress} {n' n'' : ℕ} {v : Read} {store ends : Halves} →
        starts (drop to s) (66 ∷ []) ≡ false → q ≡ moved_to next to → Puts text text' q r (part s from to) → n' ≡ min (n + (to - from)) most_length →
        Adds text' text'' r u (closers tags) → n'' ≡ min (n' + tags) most_length → v ≡ given_of u n'' →
        Reads (reading ⟨source-name⟩) kept_bytes (p.at + 1) s (mem text₀ store ends) (mem text'' store ends) p v
    tagging_ends {n'' = n''} {v = v} t f h i a j o σ k =
        let l = located in
        let w : Text = (g.pre ++ part s from to) ++ closers tags in
        let z : n'' ≡ min (length w) most_length = omega (arith, size_name i, length-append (g.pre ++ part s from to) (closers tags), length_closers tags) in
        by (g.is σ k.rest ∙ tags_end g.pre tags s next.at (moved (drop next.at s) σ) refl e t)
        (rw o (given_refines (stands_adds (adds_adds (tagging_name f h) a) (holds_moved k to l.inside) z (omega (arith, l.behind, l.some, g.more)))))

    -- one that has a tag
    pub tagging_more :
        {text' text'' : Text} {q r q' r' : Progress} {n' n'' : ℕ} →
        starts (drop to s) (66 ∷ []) ≡ true → to < length s → q ≡ moved_to next to → Puts text text' q r (part s from to) → n' ≡ min (n + (to - from)) most_length →
        q' ≡ moved_to r (to + 1) → Puts text' text'' q' r' (91 ∷ 97 ∷ 98 ∷ 105 ∷ 58 ∷ []) → n'' ≡ min (n' + 5) most_length →
        Tagging s text₀ text'' p r' n'' (tags + 1)
    tagging_more {text'' = text''} {r = r} {r' = r'} {n'' = n''} t b f h i f' h' i' =
        let l = located in
        let a = adds_more (adds_moved (to + 1) (tagging_name f h)) (puts_from f' h') in
        let o : r'.at ≡ to + 1 = ap (λ (x : Progress). x.at) a.same in
        record {
          pre = (g.pre ++ part s from to) ++ (91 ∷ 97 ∷ 98 ∷ 105 ∷ 58 ∷ []);
          size = omega (arith, size_name i, length-append (g.pre ++ part s from to) (91 ∷ 97 ∷ 98 ∷ 105 ∷ 58 ∷ []));
          place = omega arith;
          more = omega (arith, g.more, l.behind, l.some);
          adds = subst (λ (x : ℕ). Adds text₀ text'' (moved_to p x) r' ((g.pre ++ part s from to) ++ (91 ∷ 97 ∷ 98 ∷ 105 ∷ 58 ∷ []))) (sym o) a;
          is = λ σ k. g.is σ k ∙ tags_more g.pre tags s next.at (moved (drop next.at s) σ) refl e t
              ∙ ap (λ (x : ℕ). onto (tagged ((g.pre ++ part s from to) ++ (91 ∷ 97 ∷ 98 ∷ 105 ∷ 58 ∷ [])) (tags + 1)) (reading ⟨source-name⟩ (moved (drop x s) σ))) (sym o);
        }
