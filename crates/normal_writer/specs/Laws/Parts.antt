-- The members that read nested names: what each may ask of the next, and what each answers. Assumes nothing.
use Rattle.std.specs.Prelude.{Bool, true, false, not, ◌≡◌, ℕ, zero, suc, ◌+◌, ◌≤◌, ◌<◌, eqb, length, drop, get_or, Option, Some, None}
use mathlib.Core.List.{[], ◌∷◌}
use Rattle.std.proofs.Math.Path.{refl, ap}
use Rattle.std.proofs.Common.{sym, subst, ◌∙◌, arith}
use Rattle.grammar.specs.Text.{Text, if◌then◌otherwise◌, starts, run, past, number}
use Rattle.catalogue.specs.Class.{name_ok}
use Rattle.catalogue.specs.Recogniser.{Rd, rd, stop, cut, read_name, Lead, lead_letter, lead_wrap, lead_digit, lead_S, lead_N, lead_L, lead_none, lead}
use Rattle.normal_walk.specs.Walk.{name}
use Rattle.normal_nodes.specs.Nodes.{Notes, Noter, Got, got, next, when, with, put, go_to, entered, entered_nested, tag_of, a_bare, a_class, at_reference, sub_node}
use Rattle.normal_nodes.specs.Nodes.{note_at_parts, note_at_more, note_end_or, note_args, note_parts, note_more}
use Rattle.grammar.specs.Laws.Places.{starts_byte}
use Rattle.normal_nodes.specs.Laws.Numbered.{TellsNode, with_tells, number_in, parts_tell}
use Rattle.normal_steps.specs.Leads.{class}
use Rattle.normal_steps.specs.Carries.{lent, Held, Ready, Stretch, Spare, Spent, Answers, tells, refuses, Reads, Fueled, Does, Copies, Closes, Tag, most_number, at_part, closed}
use Rattle.normal_writer.specs.Cycle.{Leads}
use Rattle.normal_steps.specs.Laws.Told.{answered, refused, by, within}
use Rattle.normal_steps.specs.Laws.Steps.{on_got, on_bad}
use Rattle.normal_steps.specs.Laws.Moves.{first_byte, byte_is, byte_not, holds_next}
use Rattle.normal_steps.specs.Laws.Tests.{byte_next}
use Rattle.normal_steps.specs.Laws.Limits.{spent_less, spent_spent, spent_stands, spent_moved, passed_spent, spent_closed, took_spent, stretch_after, closed_spent, spent_nothing, spent_room}
use Rattle.normal_steps.specs.Laws.Slices.{numbered}
use Rattle.normal_writer.specs.Laws.FirstBytes.{parts_none, parts_some, more_some}
use Rattle.normal_writer.specs.Laws.Types.{Here, here_inside, here_byte, Through, through_end}
use Rattle.normal_writer.specs.Laws.Types.{by_name, by_reference, Behind, FirstPart, args_at, args_from, args_closed, Enclosed, close_next, closed_next, Enters}
use Rattle.normal_writer.specs.Laws.Loops.{Told, moved, SoFar, SoFarInAny, so_far_in_any, so_far_lent, one_more}
use Rattle.normal_steps.specs.declared.lead.Lead.TheVariants.{Digit, S}
use Rattle.normal_steps.specs.declared.state.Writer.{Writer}

-- ---------------------------------------------------------------- nested

-- N was written and taken
abbrev behind_byte : Writer → ℕ → Text → ℕ → Notes → Got ℕ
behind_byte w c t m σ = note_parts m (suc (length σ.out)) (put (c ∷ []) (go_to t σ))

module _ (w w₁ w₂ : Writer) (z : w₁.s.now ≡ w.s.now) (k : Copies w w₁) where
  nested_at : {r : Option ℕ} → Fueled 1 5 w₁.state.out 0 (λ m. note_parts m w₁.state.out) w₁ w₂ r
      → {σ : Notes} → Held w σ → (m : ℕ) → length w.s.now ≤ suc m + w.state.at → (c : ℕ) (t : Text) → σ.rest ≡ c ∷ t
      → Answers (Spent 2 5 w.state.out w.state) w₂ r (behind_byte w c t m σ)
  nested_at u {σ} h m l c t e =
      let x : suc (length σ.out) ≡ w₁.state.out = omega (arith, h.out_count, k.0) in
      by (ap (λ (from : ℕ). note_parts m from (put (c ∷ []) (go_to t σ))) x)
      (within (λ x y. spent_stands (omega (arith, k.0)) (passed_spent k.0 y)) (u _ (k.1 σ h c t e) m (omega (arith, k.0, ap length z))))

  pub nested_refused : Fueled 1 5 w₁.state.out 0 (λ m. note_parts m w₁.state.out) w₁ w₂ None → (c : ℕ) → Leads lead_N c w w₂ None
  nested_refused u c σ h m l t i = by (on_bad _ (refused (nested_at u h m l c t i))) refuses

  module _ {d : ℕ} (u : Fueled 1 5 w₁.state.out 0 (λ m. note_parts m w₁.state.out) w₁ w₂ (Some d)) where
    pub nested_told : w.state.at < length w.s.now → (y : Ready w)
        → Told (Spent 2 5 w.state.out w.state) w₂ d (behind_byte w (get_or w.s.now w.state.at 0) (drop (w.state.at + 1) w.s.now) (length w.s.now) y.0)
    nested_told l (σ, h) = answered (nested_at u h (length w.s.now) (omega arith) _ _ (first_byte h l))

    pub nested_next : w.state.at < length w.s.now → Ready w → (Spare 1 w₂.state) × Ready w₂
    nested_next l y = close_next w w₂ y.1 (nested_told l y)

    pub nested_closed : (w₃ : Writer) → w.state.at < length w.s.now → Ready w → Closes w₂ w₃ → Enclosed w.state.out w w₃ d
    nested_closed w₃ l (σ, h) v =
        let a = nested_told l (σ, h) in
        closed_next w w₂ h a w₃
        (parts_tell (length w.s.now) (suc (length σ.out)) (put (get_or w.s.now w.state.at 0 ∷ []) (go_to (drop (w.state.at + 1) w.s.now) σ)))
        (omega arith) (omega (arith, h.short, a.limits.at)) v

    pub nested_answer : (w₃ w₄ : Writer) → Closes w₂ w₃ → Does 0 1 5 w.state.out (entered_nested d w.state.out) w₃ w₄
        → (c : ℕ) → Leads lead_N c w w₄ (Some d)
    nested_answer w₃ w₄ v x c σ h m l t i =
        let a = answered (nested_at u h m l c t i) in
        let b = v a.state a.holds in
        let y = x (closed a.state) b.holds in
        by (on_got _ a.is ∙ ap (λ (from : ℕ). got d (entered_nested d from (closed a.state))) (sym h.out_count))
        (tells y.holds (spent_closed a.limits b.limits y.limits (omega (arith, h.short, a.limits.at))) a.small)

-- ---------------------------------------------------------------- parts

abbrev pub PartsBy : Lead → Writer → Writer → Option ℕ → Type 0
PartsBy l w w' r =
    (σ : Notes) → Held w σ → (m : ℕ) → length w.s.now ≤ suc m + w.state.at → (c : ℕ) (t : Text) → σ.rest ≡ c ∷ t
    → Answers (Spent 1 5 w.state.out w.state) w' r (note_at_parts l w.state.out t σ (λ u lone τ. note_more m u lone w.state.out τ))

abbrev pub PartsFrom : Writer → Writer → Option ℕ → Type 0
PartsFrom w = Fueled 1 5 w.state.out 0 (λ m. note_parts m w.state.out) w

module _ (w : Writer) where
  pub parts_end : Through w → PartsFrom w w None
  parts_end e σ h m f = by (parts_none σ m w.state.out (through_end w h e)) refuses

  pub parts_by : (w' : Writer) {c : ℕ} {r : Option ℕ} {l : Lead} → Here w c → lead c ≡ l → PartsBy l w w' r → PartsFrom w w' r
  parts_by w' b e u σ h zero f = absurd (omega (arith, here_inside w b))
  parts_by w' b e u σ h (suc m) f =
      let i = here_byte w h b in
      by (parts_some σ m i w.state.out
      ∙ ap (λ (x : Lead). note_at_parts x w.state.out (drop (w.state.at + 1) w.s.now) σ (λ v lone τ. note_more m v lone w.state.out τ)) e)
      (u σ h m (omega arith) _ (drop (w.state.at + 1) w.s.now) i)

  -- another byte begins no parts
  pub parts_other : (l : Lead) → (class l ≡ Digit → ⊥) → (class l ≡ S → ⊥) → PartsBy l w w None
  parts_other (lead_letter l) i j σ h m f c t e = refuses
  parts_other (lead_wrap q) i j σ h m f c t e = refuses
  parts_other lead_digit i j σ h m f c t e = absurd (i refl)
  parts_other lead_S i j σ h m f c t e = absurd (j refl)
  parts_other lead_N i j σ h m f c t e = refuses
  parts_other lead_L i j σ h m f c t e = refuses
  parts_other lead_none i j σ h m f c t e = refuses

module _ (w w₁ : Writer) where
  pub parts_unnamed : FirstPart by_name w w₁ None → PartsBy lead_digit w w₁ None
  parts_unnamed u σ h m l c t i = by (on_bad _ (refused (u σ h c t i))) refuses

  pub parts_unreferred : FirstPart by_reference w w₁ None → PartsBy lead_S w w₁ None
  parts_unreferred u σ h m l c t i = by (on_bad _ (refused (u σ h c t i))) refuses

  module _ (w₂ : Writer) (z : w₁.s.now ≡ w.s.now) {d : ℕ} {r : Option ℕ} where
    pub parts_named : FirstPart by_name w w₁ (Some d) → Fueled 1 5 w.state.out 1 (λ m. note_more m d true w.state.out) w₁ w₂ r → PartsBy lead_digit w w₂ r
    parts_named u v σ h m l c t i =
        let a = answered (u σ h c t i) in
        by (on_got (λ d τ. note_more m d true w.state.out τ) a.is)
        (within (λ x y. spent_less (omega arith) (spent_spent a.limits.1 y)) (v a.state a.holds m (omega (arith, a.limits.0, ap length z))))

  module _ {d : ℕ} (u : FirstPart by_reference w w₁ (Some d)) {tag : ℕ} (g : Tag w₁ d tag) where
    referred_at : {σ : Notes} → Held w σ → (m c : ℕ) (t : Text) → σ.rest ≡ c ∷ t
        → (a : Told (Behind w.state) w₁ d (at_reference w.state.out (go_to t σ)))
        × (note_at_parts lead_S w.state.out t σ (λ u lone τ. note_more m u lone w.state.out τ) ≡ when (a_class tag) (note_more m d (eqb tag 48) w.state.out a.state))
    referred_at {σ} h m c t i =
        let a = answered (u σ h c t i) in (
          a,
          on_got (λ t τ. when (a_class (tag_of τ.nodes t)) (note_more m t (eqb (tag_of τ.nodes t) 48) w.state.out τ)) a.is
              ∙ ap (λ (x : ℕ). when (a_class x) (note_more m d (eqb x 48) w.state.out a.state)) (sym (g a.state a.holds)),
        )

    pub parts_barred : a_class tag ≡ false → PartsBy lead_S w w₁ None
    parts_barred e σ h m l c t i =
        let (a, f) = referred_at h m c t i in by (f ∙ ap (λ (b : Bool). when b (note_more m d (eqb tag 48) w.state.out a.state)) e) refuses

    pub parts_referred : (w₂ : Writer) {r : Option ℕ} → w₁.s.now ≡ w.s.now → a_class tag ≡ true
        → Fueled 1 5 w.state.out 1 (λ m. note_more m d (eqb tag 48) w.state.out) w₁ w₂ r → PartsBy lead_S w w₂ r
    parts_referred w₂ z e v σ h m l c t i =
        let (a, f) = referred_at h m c t i in
        by (f ∙ ap (λ (b : Bool). when b (note_more m d (eqb tag 48) w.state.out a.state)) e)
        (within (λ x y. spent_less (omega arith) (spent_spent a.limits.1 y)) (v a.state a.holds m (omega (arith, a.limits.0, ap length z))))

-- ---------------------------------------------------------------- more

with_next : (x : Rd Text) (g : Text → Text → Got ℕ) (f : ℕ → Noter ℕ) → with x (λ n r. next (g n r) f) ≡ next (with x g) f
with_next (rd n r) g f = refl
with_next stop g f = refl

name_none : name [] ≡ stop
unfolding name read_name cut run past number name_ok if◌then◌otherwise◌
name_none = refl

-- the end of a nested name, or more of its parts
abbrev pub Ends : ℕ → Bool → ℕ → Writer → Writer → Option ℕ → Type 0
Ends u lone from = Fueled 0 5 from 1 (λ m. note_end_or from (λ t l τ. note_more m t l from τ) u lone)

abbrev pub MoreFrom : ℕ → Bool → ℕ → Writer → Writer → Option ℕ → Type 0
MoreFrom t lone from = Fueled 1 5 from 1 (λ m. note_more m t lone from)

abbrev ending : ℕ → ℕ → Bool → ℕ → Noter ℕ
ending m from lone u τ = note_end_or from (λ v l ρ. note_more m v l from ρ) u lone τ

-- a part or arguments were read, and the end or more of the parts is next
pub record Onward (from t : ℕ) (lone : Bool) (w w' : Writer) (d : ℕ) (lone' : Bool) : Type 0 where
  pub source : w'.s.now ≡ w.s.now
  pub same : lent w' ≡ lent w
  pub enclosed : Enclosed from w w' d
  pub rest : (w'' : Writer) (r : Option ℕ) → Ends d lone' from w' w'' r → MoreFrom t lone from w w'' r

-- as `Onward`, in any slices
pub record OnwardInAny (from t : ℕ) (lone : Bool) (w w' : Writer) (d : ℕ) (lone' : Bool) : Type 0 where
  pub source : w'.s.now ≡ w.s.now
  pub enclosed : Enclosed from w w' d
  pub rest : (w'' : Writer) (r : Option ℕ) → Ends d lone' from w' w'' r → MoreFrom t lone from w w'' r

module _ {from t d : ℕ} {lone lone' : Bool} {w w' : Writer} where
  pub onward_in_any : Onward from t lone w w' d lone' → OnwardInAny from t lone w w' d lone'
  onward_in_any a = record { source = a.source; enclosed = a.enclosed; rest = a.rest }

  pub onward_lent : OnwardInAny from t lone w w' d lone' → lent w' ≡ lent w → Onward from t lone w w' d lone'
  onward_lent a n = record { source = a.source; same = n; enclosed = a.enclosed; rest = a.rest }

-- by other names
pub onward_as : {from t d d' : ℕ} {lone l l' : Bool} {w w₁ w' : Writer} → Onward from t lone w w₁ d l → w' ≡ w₁ → d' ≡ d → l' ≡ l → Onward from t lone w w' d' l'
onward_as {from} {t} {d} {d'} {lone} {l} {l'} {w} {w₁} {w'} a e f g =
    subst (λ (x : Writer). Onward from t lone w x d' l') (sym e)
    (subst (λ (x : ℕ). Onward from t lone w w₁ x l') (sym f) (subst (λ (x : Bool). Onward from t lone w w₁ d x) (sym g) a))

module _ (m t : ℕ) (lone : Bool) (from : ℕ) (σ : Notes) where
  part_by : (r : Text) → σ.rest ≡ r → starts r (73 ∷ []) ≡ false → note_more (suc m) t lone from σ ≡ next (at_part t σ) (ending m from false)
  unfolding note_more
  part_by [] e i = rw (e, name_none) refl
  part_by (c ∷ r) e i =
      more_some σ m e t lone from
      ∙ ap (λ (b : Bool). note_at_more b t lone from r σ (λ v τ. note_args m v τ) (λ v l τ. note_more m v l from τ)) (sym (starts_byte c 73 r) ∙ i)
      ∙ with_next (name σ.rest) _ (ending m from false)

module _ (w : Writer) (t : ℕ) (lone : Bool) (from : ℕ) where
  module _ (w₁ : Writer) (i : starts (drop w.state.at w.s.now) (73 ∷ []) ≡ false) where
    pub part_refused : Reads 1 w.state.out (at_part t) w w₁ None → MoreFrom t lone from w w₁ None
    part_refused u σ h zero l = absurd (omega (arith, h.place))
    part_refused u σ h (suc m) l = by (part_by m t lone from σ _ h.rest i ∙ on_bad (ending m from false) (refused (u σ h))) refuses

    module _ (z : w₁.s.now ≡ w.s.now) {d : ℕ} (u : Reads 1 w.state.out (at_part t) w w₁ (Some d)) where
      part_rest : (w₂ : Writer) (r : Option ℕ) → Ends d false from w₁ w₂ r → MoreFrom t lone from w w₂ r
      part_rest w₂ r v σ h zero l = absurd (omega (arith, h.place))
      part_rest w₂ r v σ h (suc m) l =
          let a = answered (u σ h) in
          by (part_by m t lone from σ _ h.rest i ∙ on_got (ending m from false) a.is)
          (within (λ x y. spent_spent a.limits.1 y) (v a.state a.holds m (omega (arith, a.limits.0, ap length z))))

      pub part_next : Stretch from w.state → Ready w → OnwardInAny from t lone w w₁ d false
      part_next b (σ, h) =
          let a = answered (u σ h) in
          record {
            source = z;
            enclosed = record {
              at = a.limits.0;
              small = a.small;
              numbered = numbered a.holds (subst TellsNode a.is (with_tells (name σ.rest) _ (λ n r. number_in (sub_node t n) σ.nodes)));
              stretch = record {
                stands = omega (arith, b.stands, a.limits.1.stands);
                fits = omega (arith, b.fits, a.limits.0);
                spare = a.limits.1.out;
              };
              room = spent_room h a.limits.1 (omega arith) (omega arith);
              ready = (a.state, a.holds);
            };
            rest = part_rest;
          }

      pub part_next_lent : lent w₁ ≡ lent w → Stretch from w.state → Ready w → Onward from t lone w w₁ d false
      part_next_lent n b h = onward_lent (part_next b h) n

  module _ (i : starts (drop w.state.at w.s.now) (73 ∷ []) ≡ true) {tag : ℕ} (g : Tag w t tag) where
    angled_by : {σ : Notes} (m : ℕ) → Held w σ → {b : Bool} → a_bare tag ≡ b
        → note_more (suc m) t lone from σ ≡ when b (next (args_at t w m σ) (λ u τ. ending m from lone u (closed τ)))
    angled_by {σ} m h e =
        let found = next (args_at t w m σ) (λ u τ. ending m from lone u (closed τ)) in
        more_some σ m (byte_is h 73 i) t lone from ∙ ap (λ (x : ℕ). when (a_bare x) found) (sym (g σ h)) ∙ ap (λ (b : Bool). when b found) e

    pub angled_barred : a_bare tag ≡ false → MoreFrom t lone from w w None
    angled_barred e σ h zero l = absurd (omega (arith, h.place))
    angled_barred e σ h (suc m) l = by (angled_by m h e) refuses

    module _ (e : a_bare tag ≡ true) (w₁ w₂ : Writer) (z : w₁.s.now ≡ w.s.now) (k : Copies w w₁) where
      pub angled_refused : Fueled 0 5 w₁.state.out 1 (λ m. note_args m t) w₁ w₂ None → MoreFrom t lone from w w₂ None
      angled_refused u σ h zero l = absurd (omega (arith, h.place))
      angled_refused u σ h (suc m) l = by (angled_by m h e ∙ on_bad _ (refused (args_from w w₁ w₂ t i z k u h m (omega arith)))) refuses

      module _ {d : ℕ} (u : Fueled 0 5 w₁.state.out 1 (λ m. note_args m t) w₁ w₂ (Some d)) (w₃ : Writer) (v : Closes w₂ w₃) (y : w₃.s.now ≡ w.s.now) where
        angled_rest : (w₄ : Writer) (r : Option ℕ) → Ends d lone from w₃ w₄ r → MoreFrom t lone from w w₄ r
        angled_rest w₄ r x σ h zero l = absurd (omega (arith, h.place))
        angled_rest w₄ r x σ h (suc m) l =
            let a = answered (args_from w w₁ w₂ t i z k u h m (omega arith)) in
            let b = v a.state a.holds in
            by (angled_by m h e ∙ on_got (λ u τ. ending m from lone u (closed τ)) a.is)
            (within (λ x y. closed_spent k.0 a.limits b.limits y) (x (closed a.state) b.holds m (omega (arith, k.0, a.limits, b.limits, ap length y))))

        pub angled_next : Stretch from w.state → Ready w → OnwardInAny from t lone w w₃ d lone
        angled_next b h = record { source = y; enclosed = args_closed w w₁ w₂ t i z k u w₃ h b v; rest = angled_rest }

        pub angled_next_lent : lent w₃ ≡ lent w → Stretch from w.state → Ready w → Onward from t lone w w₃ d lone
        angled_next_lent n b h = onward_lent (angled_next b h) n

-- ---------------------------------------------------------------- the end of a nested name, or more of its parts

module _ (w : Writer) (d : ℕ) (lone : Bool) (from : ℕ) where
  module _ (i : starts (drop w.state.at w.s.now) (69 ∷ []) ≡ true) where
    end_by : {σ : Notes} (m : ℕ) → Held w σ → {b : Bool} → lone ≡ b → ending m from lone d σ ≡ when (not b) (got d (go_to (drop (w.state.at + 1) w.s.now) σ))
    end_by {σ} m h e = byte_next _ _ (byte_is h 69 i) ∙ ap (λ (b : Bool). when (not b) (got d (go_to (drop (w.state.at + 1) w.s.now) σ))) e

    pub end_lone : lone ≡ true → Ends d lone from w w None
    end_lone e σ h m l = by (end_by m h e) refuses

    pub end_answer : lone ≡ false → d < most_number → Stretch from w.state → Ends d lone from w (moved w) (Some d)
    end_answer e y b σ h m l = by (end_by m h e) (tells (holds_next h (byte_is h 69 i)) (spent_moved refl (spent_nothing b)) y)

  pub end_more : (w₁ w₂ : Writer) {r : Option ℕ} → starts (drop w.state.at w.s.now) (69 ∷ []) ≡ false → w₁.s.now ≡ w.s.now
      → Enters d from w w₁ → MoreFrom d lone from w₁ w₂ r → Ends d lone from w w₂ r
  end_more w₁ w₂ i z v u σ h m l =
      let a = v σ h in
      by (byte_not h 69 _ _ i)
      (within (λ x y. took_spent a.limits y (omega arith) (omega arith)) (u (entered d from σ) a.holds m (omega (arith, a.limits, ap length z))))

-- ---------------------------------------------------------------- the loop of `more`

abbrev pub MoreSoFar : ℕ → Writer → ℕ → Bool → Writer → ℕ → Bool → Type 0
MoreSoFar from w₀ t₀ lone₀ w t lone = (Stretch from w.state) × SoFar (MoreFrom t₀ lone₀ from w₀) w₀ (MoreFrom t lone from w) w t

-- no E is behind what was read, and it enters the table
module _ {from t d : ℕ} {lone lone' : Bool} {w w₁ : Writer} (a : OnwardInAny from t lone w w₁ d lone') (w₂ : Writer) (v : Enters d from w₁ w₂) (z : w₂.s.now ≡ w₁.s.now) where
  pub more_behind : (w.state.at + 1 ≤ w₂.state.at) × (w₂.state.at ≤ length w₂.s.now)
  more_behind =
      let b = v a.enclosed.ready.0 a.enclosed.ready.1 in (omega (arith, a.enclosed.at, b.limits.at), b.holds.place)

  pub more_again : starts (drop w₁.state.at w₁.s.now) (69 ∷ []) ≡ false → {F : Writer → Option ℕ → Type 0} {w₀ : Writer}
      → SoFarInAny F w₀ (MoreFrom t lone from w) w t → (Stretch from w₂.state) × SoFarInAny F w₀ (MoreFrom d lone' from w₂) w₂ d
  more_again j y =
      let b = v a.enclosed.ready.0 a.enclosed.ready.1 in (
        stretch_after a.enclosed.stretch b.limits (omega arith),
        one_more w₂ y (z ∙ a.source) (omega (arith, more_behind)) a.enclosed.small (_, b.holds)
            (λ w' r k. a.rest w' r (end_more w₁ d lone' from w₂ w' j z v k)),
      )

module _ {from t d : ℕ} {lone lone' : Bool} {w w₁ : Writer} (a : Onward from t lone w w₁ d lone') (w₂ : Writer) (v : Enters d from w₁ w₂) (z : w₂.s.now ≡ w₁.s.now) where
  pub more_again_lent : lent w₂ ≡ lent w₁ → starts (drop w₁.state.at w₁.s.now) (69 ∷ []) ≡ false → {F : Writer → Option ℕ → Type 0} {w₀ : Writer}
      → SoFar F w₀ (MoreFrom t lone from w) w t → (Stretch from w₂.state) × SoFar F w₀ (MoreFrom d lone' from w₂) w₂ d
  more_again_lent n j y = let b = more_again (onward_in_any a) w₂ v z j (so_far_in_any y) in (b.0, so_far_lent b.1 (n ∙ a.same ∙ y.same))
