-- The members that read types and template arguments: what each may ask of the next, and what each answers. Assumes nothing.
use Rattle.grammar.specs.Laws.Places.{byte_there, byte_within, peek_end}
use Rattle.std.proofs.Common.{sym, ap, ◌∙◌, subst, arith}
use Rattle.std.specs.Prelude.{Bool, true, false, [], ◌∷◌, ◌≡◌, refl, ℕ, zero, suc, ◌+◌, ◌*◌, ◌≤◌, ◌<◌, eqb, length, drop, Option, Some, None}
use Rattle.grammar.specs.Text.{Text, starts}
use Rattle.grammar.specs.States.{peeked}
use Rattle.catalogue.specs.Tree.{Letter, Wrap}
use Rattle.catalogue.specs.Recogniser.{if_next, Lead, lead_letter, lead_wrap, lead_L, lead_none, lead}
use Rattle.normal_nodes.specs.Nodes.{Notes, Noter, Got, got, next, when, put, go_to, entered, note_at_lead, note_at_name, at_reference, note_with_args, note_type, note_args, note_parts}
use Rattle.normal_nodes.specs.Laws.Numbered.{TellsNode, args_tell}
use Rattle.normal_steps.specs.Carries.{lent, Held, Ready, Numbered, Stretch, Room, Spare, Spent, Tag}
use Rattle.normal_steps.specs.Carries.{Answers, tells, refuses, Reads, Fueled, Steps, Does, Copies, Closes, most_number, at_literal, counts_arg, wraps, closed}
use Rattle.normal_writer.specs.Cycle.{Leads, WithArgs}
use Rattle.normal_steps.specs.Laws.Told.{answered, refused, by, within}
use Rattle.normal_steps.specs.Laws.Steps.{on_got, on_bad}
use Rattle.normal_steps.specs.Laws.Moves.{first_byte, byte_is, byte_not, holds_next}
use Rattle.normal_steps.specs.Laws.Tests.{byte_next}
use Rattle.normal_steps.specs.Laws.Limits.{spent_less, spent_spent, passed_spent, passed_none, spent_took, spent_closed, spent_nothing, spent_moved, spent_stands, spent_stretch, spent_room}
use Rattle.normal_steps.specs.Laws.Slices.{numbered}
use Rattle.normal_writer.specs.Laws.FirstBytes.{type_none, type_some}
use Rattle.normal_writer.specs.Laws.Loops.{Told, moved, SoFar, SoFarInAny, so_far_in_any, so_far_lent, one_more}
use Rattle.normal_steps.specs.declared.state.State.{State}
use Rattle.normal_steps.specs.declared.state.Writer.{Writer}

-- ---------------------------------------------------------------- wrap

module _ (w w₁ w₂ : Writer) (z : w₁.s.now ≡ w.s.now) (k : Copies w w₁) where
  pub wrap_refused : Fueled 1 4 w₁.state.out 0 note_type w₁ w₂ None → (q : Wrap) (c : ℕ) → Leads (lead_wrap q) c w w₂ None
  wrap_refused u q c σ h m l t i = by (on_bad _ (refused (u _ (k.1 σ h c t i) m (omega (arith, k.0, ap length z))))) refuses

  module _ {d : ℕ} (u : Fueled 1 4 w₁.state.out 0 note_type w₁ w₂ (Some d)) where
    pub wrap_next : w.state.at < length w.s.now → Ready w → (d < most_number) × ((Stretch w.state.out w₂.state) × ((Room 1 1 w₂.state) × Ready w₂))
    wrap_next l (σ, h) =
        let a = answered (u _ (k.1 σ h _ _ (first_byte h l)) (length w₁.s.now) (omega arith)) in (
          a.small,
          (
            record { stands = omega (arith, a.limits.stands, k.0); fits = omega (arith, h.short, a.limits.at, k.0); spare = a.limits.out },
            (spent_room h (passed_spent k.0 a.limits) (omega arith) (omega arith), (a.state, a.holds)),
          ),
        )

    pub wrap_answer : (w₃ : Writer) {r : Option ℕ} (q : Wrap) (c : ℕ) → Steps 1 1 5 w.state.out (wraps c d w.state.out) w₂ w₃ r
        → Leads (lead_wrap q) c w w₃ r
    wrap_answer w₃ q c v σ h m l t i =
        let a = answered (u _ (k.1 σ h c t i) m (omega (arith, k.0, ap length z))) in
        by (on_got _ a.is ∙ ap (λ (from : ℕ). wraps c d from a.state) (sym h.out_count))
        (within (λ x y. spent_took (passed_spent k.0 a.limits) y (omega arith) (omega arith) (omega (arith, a.limits.out, a.limits.at, h.short, k.0)))
        (v a.state a.holds))

-- ---------------------------------------------------------------- a first part, and what follows it

-- a first part: what its reading is, from the place where it is written, behind a first byte
abbrev pub by_name : ℕ → Text → Noter ℕ
by_name from t σ = note_at_name from σ

abbrev pub by_reference : ℕ → Text → Noter ℕ
by_reference from t σ = at_reference from (go_to t σ)

-- it was read, two bytes or more
abbrev pub Behind : State → State → Type 0
Behind p q = (p.at + 2 ≤ q.at) × Spent 1 4 p.out p q

abbrev pub FirstPart : (ℕ → Text → Noter ℕ) → Writer → Writer → Option ℕ → Type 0
FirstPart f w w' r =
    (σ : Notes) → Held w σ → (c : ℕ) (t : Text) → σ.rest ≡ c ∷ t → Answers (Behind w.state) w' r (f w.state.out t σ)

-- a class of one part, with its arguments
abbrev pub Classed : (ℕ → Text → Noter ℕ) → Writer → Writer → Option ℕ → Type 0
Classed f w w' r =
    (c : ℕ) (σ : Notes) → Held w σ → (m : ℕ) → length w.s.now ≤ suc m + w.state.at → (t : Text) → σ.rest ≡ c ∷ t
    → Answers (Spent 1 4 w.state.out w.state) w' r (next (f (length σ.out) t σ) (λ d τ. note_with_args d (length σ.out) (λ v ρ. note_args m v ρ) τ))

module _ (w w₁ : Writer) {r : Option ℕ} where
  pub first_named : Reads 2 w.state.out (note_at_name w.state.out) w w₁ r → FirstPart by_name w w₁ r
  first_named u σ h c t e = u σ h

  pub first_referred : Reads 1 w.state.out (at_reference w.state.out) (moved w) w₁ r → FirstPart by_reference w w₁ r
  first_referred u σ h c t e =
      within (λ x (y, z). (omega arith, spent_less (omega arith) (passed_spent (passed_none w.state refl) z))) (u (go_to t σ) (holds_next h e))

-- c is the next byte
abbrev pub Here : Writer → ℕ → Type 0
Here w c = Some c ≡ peeked (drop w.state.at w.s.now)

pub here_inside : (w : Writer) {c : ℕ} → Here w c → w.state.at < length w.s.now
here_inside w e = byte_within w.s.now w.state.at (sym e)

pub here_byte : (w : Writer) {c : ℕ} {σ : Notes} → Held w σ → Here w c → σ.rest ≡ c ∷ drop (w.state.at + 1) w.s.now
here_byte w {c} h e = h.rest ∙ byte_there w.s.now w.state.at (sym e)

-- there is no next byte
abbrev pub Through : Writer → Type 0
Through w = None ≡ peeked (drop w.state.at w.s.now)

pub through_end : (w : Writer) {σ : Notes} → Held w σ → Through w → σ.rest ≡ []
through_end w h e = h.rest ∙ peek_end (drop w.state.at w.s.now) (sym e)

-- S or L was read, and nothing written for it
pub moved_ready : (w : Writer) → w.state.at < length w.s.now → Ready w → Ready (moved w)
moved_ready w l (σ, h) = (_, holds_next h (first_byte h l))

pub referred_ready : (w : Writer) → w.state.at < length w.s.now → Ready w → (Spare 4 (moved w).state) × Ready (moved w)
referred_ready w l (σ, h) = (omega (arith, h.short), moved_ready w l (σ, h))

module _ (w w₁ : Writer) (f : ℕ → Text → Noter ℕ) where
  class_at : (m : ℕ) (σ : Notes) (t : Text) → Held w σ
      → next (f (length σ.out) t σ) (λ d τ. note_with_args d (length σ.out) (λ v ρ. note_args m v ρ) τ)
      ≡ next (f w.state.out t σ) (λ d τ. note_with_args d w.state.out (λ v ρ. note_args m v ρ) τ)
  class_at m σ t h = ap (λ (from : ℕ). next (f from t σ) (λ d τ. note_with_args d from (λ v ρ. note_args m v ρ) τ)) (sym h.out_count)

  pub class_refused : FirstPart f w w₁ None → Classed f w w₁ None
  class_refused u c σ h m l t i = by (class_at m σ t h ∙ on_bad _ (refused (u σ h c t i))) refuses

  module _ {d : ℕ} (u : FirstPart f w w₁ (Some d)) where
    -- what may be asked of the next, and the place
    pub first_next : w.state.at < length w.s.now → Ready w
        → ((w.state.at + 2 ≤ w₁.state.at) × (w₁.state.at ≤ length w₁.s.now)) × (((d < most_number) × Stretch w.state.out w₁.state) × Ready w₁)
    first_next l (σ, h) =
        let a = answered (u σ h _ _ (first_byte h l)) in
        ((a.limits.0, a.holds.place), ((a.small, spent_stretch h a.limits.1 a.limits.0 (omega arith)), (a.state, a.holds)))

    pub class_answer : (w₂ : Writer) {r : Option ℕ} → w₁.s.now ≡ w.s.now → WithArgs d w.state.out w₁ w₂ r → Classed f w w₂ r
    class_answer w₂ z v c σ h m l t i =
        let a = answered (u σ h c t i) in
        by (class_at m σ t h ∙ on_got (λ d τ. note_with_args d w.state.out (λ v ρ. note_args m v ρ) τ) a.is)
        (within (λ x y. spent_spent a.limits.1 y) (v a.state a.holds m (omega (arith, a.limits.0, ap length z))))

-- ---------------------------------------------------------------- I <template-args> E

-- E was written behind what was read
pub record Enclosed (from : ℕ) (w w' : Writer) (d : ℕ) : Type 0 where
  pub at : w.state.at + 1 ≤ w'.state.at
  pub small : d < most_number
  pub numbered : Numbered w'.state d
  pub stretch : Stretch from w'.state
  pub room : Room 0 1 w'.state
  pub ready : Ready w'

-- what may be asked where it enters the table
pub enter_next : {from d : ℕ} {w w' : Writer} → Enclosed from w w' d
    → (Numbered w'.state d) × ((Stretch from w'.state) × ((Room 0 1 w'.state) × Ready w'))
enter_next a = (a.numbered, (a.stretch, (a.room, a.ready)))

module _ (w w₂ : Writer) {d k : ℕ} {g : Got ℕ} {σ : Notes} (h : Held w σ) (a : Told (Spent (suc k) 5 w.state.out w.state) w₂ d g) where
  pub close_next : (Spare 1 w₂.state) × Ready w₂
  close_next = (omega (arith, a.limits.out), (a.state, a.holds))

  pub closed_next : (w₃ : Writer) {from : ℕ} → TellsNode g → from ≤ w.state.out → from + 9 ≤ 4 * w₂.state.at → Closes w₂ w₃ → Enclosed from w w₃ d
  closed_next w₃ n l m v =
      let b = v a.state a.holds in
      let x = b.limits in
      let y = a.limits in
      let i = numbered a.holds (subst TellsNode a.is n) in
      record {
        at = omega arith;
        small = a.small;
        numbered = (i.0, omega (arith, i.1, x.more));
        stretch = record { stands = omega (arith, y.stands, x.stands); fits = omega (arith, m, x.at); spare = omega (arith, y.out, x.out, x.at) };
        room = record {
          nodes = omega (arith, h.few_nodes);
          table = omega (arith, h.few_entries);
          args = omega (arith, h.few_args);
        };
        ready = (_, b.holds);
      }

-- what was read enters the table
abbrev pub Enters : ℕ → ℕ → Writer → Writer → Type 0
Enters d from = Does 0 1 5 from (entered d from)

-- I and arguments, behind what has the number t
abbrev pub args_at : ℕ → Writer → ℕ → Notes → Got ℕ
args_at t w m σ = note_args m t (put (73 ∷ []) (go_to (drop (w.state.at + 1) w.s.now) σ))

module _ (w w₁ w₂ : Writer) (t : ℕ) (i : starts (drop w.state.at w.s.now) (73 ∷ []) ≡ true) (z : w₁.s.now ≡ w.s.now)
    (k : Copies w w₁) {r : Option ℕ} (u : Fueled 0 5 w₁.state.out 1 (λ m. note_args m t) w₁ w₂ r) where
  pub args_from : {σ : Notes} → Held w σ → (m : ℕ) → length w.s.now ≤ m + w.state.at → Answers (Spent 0 5 w₁.state.out w₁.state) w₂ r (args_at t w m σ)
  args_from {σ} h m l = u _ (k.1 σ h _ _ (byte_is h 73 i)) m (omega (arith, k.0, ap length z))

  pub args_read : {σ : Notes} → Held w σ → (m : ℕ) → length w.s.now ≤ m + w.state.at → Answers (Spent 1 5 w.state.out w.state) w₂ r (args_at t w m σ)
  args_read h m l = within (λ x y. spent_stands (omega (arith, k.0)) (passed_spent k.0 y)) (args_from h m l)

module _ (w w₁ w₂ : Writer) (t : ℕ) (i : starts (drop w.state.at w.s.now) (73 ∷ []) ≡ true) (z : w₁.s.now ≡ w.s.now)
    (k : Copies w w₁) {d : ℕ} (u : Fueled 0 5 w₁.state.out 1 (λ m. note_args m t) w₁ w₂ (Some d)) where
  pub args_told : (y : Ready w) → Told (Spent 1 5 w.state.out w.state) w₂ d (args_at t w (length w.s.now) y.0)
  args_told (σ, h) = answered (args_read w w₁ w₂ t i z k u h (length w.s.now) (omega arith))

  pub args_next : Ready w → (Spare 1 w₂.state) × Ready w₂
  args_next y = close_next w w₂ y.1 (args_told y)

  pub args_closed : (w₃ : Writer) {from : ℕ} → Ready w → Stretch from w.state → Closes w₂ w₃ → Enclosed from w w₃ d
  args_closed w₃ y l v =
      let a = args_told y in
      closed_next w w₂ y.1 a w₃ (args_tell (length w.s.now) t (put (73 ∷ []) (go_to (drop (w.state.at + 1) w.s.now) y.0))) l.stands
      (omega (arith, l.fits, a.limits.at)) v

-- ---------------------------------------------------------------- with_args

abbrev enclosed : ℕ → ℕ → Writer → ℕ → Notes → Got ℕ
enclosed t from w m σ = next (args_at t w m σ) (λ u τ. got u (entered u from (closed τ)))

module _ (w : Writer) (t from : ℕ) where
  pub without_args : starts (drop w.state.at w.s.now) (73 ∷ []) ≡ false → t < most_number → Stretch from w.state → WithArgs t from w w (Some t)
  without_args e l b σ h m f = by (byte_not h 73 _ _ e) (tells h (spent_nothing b) l)

  module _ (i : starts (drop w.state.at w.s.now) (73 ∷ []) ≡ true) {tag : ℕ} (g : Tag w t tag) where
    with_args_at : {σ : Notes} (m : ℕ) → Held w σ → {b : Bool} → eqb tag 48 ≡ b
        → note_with_args t from (λ v ρ. note_args m v ρ) σ ≡ when b (enclosed t from w m σ)
    with_args_at {σ} m h {b} e =
        byte_next _ _ (byte_is h 73 i)
        ∙ ap (λ (x : ℕ). when (eqb x 48) (enclosed t from w m σ)) (sym (g σ h))
        ∙ ap (λ (b : Bool). when b (enclosed t from w m σ)) e

    pub args_barred : eqb tag 48 ≡ false → WithArgs t from w w None
    args_barred e σ h m f = by (with_args_at m h e) refuses

    module _ (e : eqb tag 48 ≡ true) (w₁ w₂ : Writer) (z : w₁.s.now ≡ w.s.now) (k : Copies w w₁) where
      pub args_refused : Fueled 0 5 w₁.state.out 1 (λ m. note_args m t) w₁ w₂ None → WithArgs t from w w₂ None
      args_refused u σ h m f = by (with_args_at m h e ∙ on_bad _ (refused (args_read w w₁ w₂ t i z k u h m (omega arith)))) refuses

      pub args_answer : (w₃ w₄ : Writer) {d : ℕ} → Stretch from w.state → Fueled 0 5 w₁.state.out 1 (λ m. note_args m t) w₁ w₂ (Some d) → Closes w₂ w₃
          → Enters d from w₃ w₄ → WithArgs t from w w₄ (Some d)
      args_answer w₃ w₄ n u v x σ h m f =
          let a = answered (args_read w w₁ w₂ t i z k u h m (omega arith)) in
          let b = v a.state a.holds in
          let c = x (closed a.state) b.holds in
          by (with_args_at m h e ∙ on_got _ a.is)
          (tells c.holds (spent_closed a.limits b.limits c.limits (omega (arith, n.fits, a.limits.at))) a.small)

-- ---------------------------------------------------------------- args

abbrev behind_arg : ℕ → ℕ → Noter ℕ
behind_arg m d ρ = if_next 69 ρ.rest (λ r. got d (go_to r ρ)) (note_args m d ρ)

abbrev pub ArgsFrom : ℕ → Writer → Writer → Option ℕ → Type 0
ArgsFrom t w = Fueled 0 5 w.state.out 1 (λ m. note_args m t) w

-- of the loop
abbrev pub ArgsSoFar : Writer → ℕ → Writer → ℕ → Type 0
ArgsSoFar w₀ t₀ w t = SoFar (ArgsFrom t₀ w₀) w₀ (ArgsFrom t w) w t

args_by : (m t : ℕ) (σ : Notes) → note_args (suc m) t σ ≡ next (note_type m σ) (λ x τ. next (counts_arg t x τ) (behind_arg m))
unfolding note_args
args_by m t σ = refl

-- an argument was counted
pub record Counted (w w' : Writer) (d : ℕ) : Type 0 where
  pub state : Notes
  pub holds : Held w' state
  pub limits : Spent 0 4 w.state.out w.state w'.state
  pub at : w.state.at + 1 ≤ w'.state.at
  pub small : d < most_number

module _ (w w₁ : Writer) (t : ℕ) where
  pub arg_refused : Fueled 1 4 w.state.out 0 note_type w w₁ None → ArgsFrom t w w₁ None
  arg_refused u σ h zero l = absurd (omega (arith, h.place))
  arg_refused u σ h (suc m) l = by (args_by m t σ ∙ on_bad _ (refused (u σ h m (omega arith)))) refuses

  module _ {x : ℕ} (u : Fueled 1 4 w.state.out 0 note_type w w₁ (Some x)) where
    pub arg_next : t < most_number → Ready w → (t < most_number) × ((x < most_number) × ((Room 1 0 w₁.state) × Ready w₁))
    arg_next l (σ, h) =
        let a = answered (u σ h (length w.s.now) (omega arith)) in
        (l, (a.small, (spent_room h a.limits (omega arith) (omega arith), (a.state, a.holds))))

    module _ (w₂ : Writer) {d : ℕ} (v : Steps 1 0 0 w₁.state.out (counts_arg t x) w₁ w₂ (Some d)) where
      counted_at : {σ : Notes} → Held w σ → (m : ℕ) → length w.s.now ≤ m + w.state.at
          → (c : Counted w w₂ d) × (note_args (suc m) t σ ≡ behind_arg m d c.state)
      counted_at {σ} h m l =
          let a = answered (u σ h m (omega arith)) in
          let b = answered (v a.state a.holds) in (
            record {
              state = b.state;
              holds = b.holds;
              limits = spent_stands (omega (arith, a.limits, b.limits))
                  (spent_took a.limits b.limits (omega arith) (omega arith) (omega (arith, a.limits.out)));
              at = omega (arith, a.limits, b.limits);
              small = b.small;
            },
            args_by m t σ ∙ on_got (λ x τ. next (counts_arg t x τ) (behind_arg m)) a.is ∙ on_got (behind_arg m) b.is,
          )

      pub counted_next : Ready w → Counted w w₂ d
      counted_next (σ, h) = (counted_at h (length w.s.now) (omega arith)).0

      pub args_end : starts (drop w₂.state.at w₂.s.now) (69 ∷ []) ≡ true → ArgsFrom t w (moved w₂) (Some d)
      args_end j σ h zero l = absurd (omega (arith, h.place))
      args_end j σ h (suc m) l =
          let (c, f) = counted_at h m (omega arith) in
          let e = byte_is c.holds 69 j in
          by (f ∙ byte_next _ _ e) (tells (holds_next c.holds e) (spent_moved refl c.limits) c.small)

      module _ (z : w₂.s.now ≡ w.s.now) (j : starts (drop w₂.state.at w₂.s.now) (69 ∷ []) ≡ false) where
        args_more : (w₃ : Writer) (r : Option ℕ) → ArgsFrom d w₂ w₃ r → ArgsFrom t w w₃ r
        args_more w₃ r g σ h zero l = absurd (omega (arith, h.place))
        args_more w₃ r g σ h (suc m) l =
            let (c, f) = counted_at h m (omega arith) in
            by (f ∙ byte_not c.holds 69 _ _ j)
            (within (λ x y. spent_stands c.limits.stands (spent_spent c.limits y)) (g c.state c.holds m (omega (arith, c.at, ap length z))))

        pub args_again : {F : Writer → Option ℕ → Type 0} {w₀ : Writer} → SoFarInAny F w₀ (ArgsFrom t w) w t → SoFarInAny F w₀ (ArgsFrom d w₂) w₂ d
        args_again y = let c = counted_next y.ready in one_more w₂ y z (omega (arith, c.at)) c.small (c.state, c.holds) args_more

        pub args_again_lent : {F : Writer → Option ℕ → Type 0} {w₀ : Writer} → lent w₂ ≡ lent w → SoFar F w₀ (ArgsFrom t w) w t → SoFar F w₀ (ArgsFrom d w₂) w₂ d
        args_again_lent n y = so_far_lent (args_again (so_far_in_any y)) (n ∙ y.same)

-- ---------------------------------------------------------------- ty

module _ (w : Writer) where
  pub type_end : Through w → Fueled 1 4 w.state.out 0 note_type w w None
  type_end e σ h m f = by (type_none σ m (through_end w h e)) refuses

  pub type_by : (w' : Writer) {c : ℕ} {r : Option ℕ} {l : Lead} → Here w c → lead c ≡ l → Leads l c w w' r → Fueled 1 4 w.state.out 0 note_type w w' r
  type_by w' b e u σ h zero f = absurd (omega (arith, here_inside w b))
  type_by w' {c} b e u σ h (suc m) f =
      let i = here_byte w h b in
      by (type_some σ m i ∙ ap (λ (x : Lead).
      note_at_lead x c (length σ.out) (drop (w.state.at + 1) w.s.now) σ (λ τ. note_type m τ) (λ v τ. note_args m v τ) (λ from τ. note_parts m from τ)) e)
      (u σ h m (omega arith) (drop (w.state.at + 1) w.s.now) i)

  pub letter_answer : (w' : Writer) (l : Letter) (c : ℕ) → c < most_number → Copies w w' → Leads (lead_letter l) c w w' (Some c)
  letter_answer w' l c y k σ h m f t e =
      tells (k.1 σ h c t e)
      (let v = k.0 in record { at = omega arith; nodes = omega arith; table = omega arith; args = omega arith; out = omega (arith, h.short, v.at, v.out); stands = omega arith }) y

  pub literal_answer : (w' : Writer) {r : Option ℕ} (c : ℕ) → Reads 1 w.state.out at_literal (moved w) w' r → Leads lead_L c w w' r
  literal_answer w' c u σ h m f t e =
      within (λ x (y, z). spent_less (omega arith) (passed_spent (passed_none w.state refl) z)) (u (go_to t σ) (holds_next h e))

  pub none_answer : (c : ℕ) → Leads lead_none c w w None
  none_answer c σ h m f t e = refuses
