-- Laws of the stack. Assumes nothing.
use mathlib.Core.Path.{◌≡◌, refl, sym, ap, ap₂, ◌∙◌}
use mathlib.Core.List.{[], ◌∷◌, ◌++◌, append_assoc, append-nil}
use Prim.Native.Nat.{ℕ, ◌+◌, ◌-◌, ◌*◌, ◌≤◌, ◌<◌}
use native.Mathlib.Omega.{arith}
use lib.ListN.{length, take, drop, get_or, set, length-append, length-drop, length-set}
use lib.Seq.{paste, take-paste, length-paste, length-take-le, take_at, take_all, take-take, drop-drop, get_or-take, get_or-drop}
use Rattle.std.proofs.lemmas.List.{take_more_set}
use Rattle.grammar.specs.Text.{Text}
use Rattle.grammar.specs.Limits.{kept_bytes, stack_bytes}
use Rattle.grammar.specs.Grammar.{at_slots}
use Rattle.store.specs.Stack.{Stack, Put, Cut, Room, Grown, slots_in, at_slot, newest, below_newest}
use Rattle.store.specs.Laws.Lists.{drop_take, part_of}
use Rattle.store.specs.Laws.Tails.{top_size}
use Rattle.store.specs.Laws.Slots.{at_slot_yes, at_slot_no, at_slots_none, at_slots_more, at_slots_part, length_at_slots}

pub grown_set : {T : Text} {top : ℕ} (x : ℕ) → Stack T top → top < stack_bytes → Grown T (set T top x) top (top + 1) (x ∷ [])
grown_set {T} {top} x h l = record {
  top_is = refl;
  is = take_more_set T top x (omega (arith, h.size));
  stack = record { size = length-set T top x ∙ h.size; most = omega arith };
}

pub grown_then : {T T₁ T₂ : Text} {top r r₂ : ℕ} (t u : Text) → Grown T T₁ top r t → Grown T₁ T₂ r r₂ u → Grown T T₂ top r₂ (t ++ u)
grown_then {T} {T₁} {T₂} {top} {r} {r₂} t u g h = record {
  top_is = omega (arith, g.top_is, h.top_is, length-append t u);
  is = h.is ∙ ap (λ (z : Text). z ++ u) g.is ∙ append_assoc (take top T) t u;
  stack = h.stack;
}

-- what lay on the stack still does
pub grown_front : {T T' : Text} {top r : ℕ} (t : Text) → Stack T top → Grown T T' top r t → take top T' ≡ take top T
grown_front {T} {T'} {top} {r} t h g =
    sym (take-take top r T' (omega (arith, g.top_is)))
    ∙ ap (take top) g.is
    ∙ take_at (take top T) t top (top_size h)

-- ---- room

pub room_put : {T T₁ T₂ : Text} {top at r size : ℕ} (t : Text) → Stack T top → Room T T₁ top at size → Grown T₁ T₂ at r t → Put T T₂ top r t
room_put {T} {T₁} {T₂} {top} {at} {r} t c h g = record {
  lost = top - at;
  most = omega (arith, h.long, h.below);
  is = g.is ∙ ap (λ (w : Text). w ++ t) h.is;
  stack = g.stack;
}

-- a part of the newest bytes, before and after room was made
pub room_part : {T T₁ : Text} {top at size : ℕ} (a n : ℕ) → Room T T₁ top at size → top - at ≤ a → a + n ≤ top → take n (drop (a - (top - at)) T₁) ≡ take n (drop a T)
room_part {T} {T₁} {top} {at} a n h l m =
    part_of (a - (top - at)) n at T₁ (drop (top - at) T) (omega (arith, h.below))
    (h.is ∙ drop_take (top - at) top T ∙ ap (λ (k : ℕ). take k (drop (top - at) T)) {x = top - (top - at)} {y = at} (omega (arith, h.below)))
    ∙ ap (take n) (drop-drop (a - (top - at)) (top - at) T ∙ ap (λ (k : ℕ). drop k T) {x = top - at + (a - (top - at))} {y = a} (omega arith))

-- ---- cut

pub cut_is : {T T' : Text} {top k n : ℕ} → Stack T top → k + n ≤ top → T' ≡ paste T (top - n - k) (drop (top - n) T) n → Cut T T' top (top - k) k n
cut_is {T} {T'} {top} {k} {n} h l e =
    let from : ℕ = top - n in
    let to : ℕ = top - n - k in
    let ls : n ≤ length (drop from T) = simp length-drop (omega (arith, h.size, h.most)) in
    record {
      top_is = refl;
      is =
          ap (λ (j : ℕ). take j T') {x = top - k} {y = to + n} (omega arith)
          ∙ ap (take (to + n)) e
          ∙ take-paste T to (drop from T) n (omega (arith, h.size, h.most)) ls
          ∙ ap₂ (λ (i j : Text). i ++ j) (ap (λ (j : ℕ). take j T) {x = to} {y = top - (k + n)} (omega arith))
          (ap (λ (j : ℕ). take j (drop from T)) {x = n} {y = top - from} (omega arith) ∙ sym (drop_take from top T));
      stack = record {
        size = ap length e ∙ length-paste T to (drop from T) n (omega (arith, h.size, h.most)) ls ∙ h.size;
        most = omega (arith, h.most);
      };
    }

-- ---- what is put

pub again_put : {T T₁ T₂ : Text} {top at r : ℕ} (back n : ℕ) → Stack T top → n ≤ back → back ≤ top → back ≤ kept_bytes → Room T T₁ top at n
    → Grown T₁ T₂ at r (take n (drop (at - back) T₁)) → Put T T₂ top r (take n (drop (top - back) T))
again_put {T} {T₁} {T₂} {top} {at} back n c l m o h g =
    let i : at - back ≡ top - back - (top - at) = omega (arith, h.long, h.below) in
    let p : take n (drop (at - back) T₁) ≡ take n (drop (top - back) T) =
    ap (λ (k : ℕ). take n (drop k T₁)) i ∙ room_part (top - back) n h (omega (arith, h.long, h.below)) (omega arith) in
    room_put (take n (drop (top - back) T)) c h (rw p at g)

-- ---- weave

pub grown_none : {T : Text} {top : ℕ} → Stack T top → Grown T T top top []
grown_none {T} {top} h = record { top_is = omega arith; is = sym (append-nil (take top T)); stack = h }

pub part_size : {T : Text} {top : ℕ} (low d : ℕ) → Stack T top → low + d ≤ top → length (take d (drop low T)) ≡ d
part_size {T} low d h l = length-take-le d (drop low T) (simp length-drop (omega (arith, h.size, h.most)))

module _ {T : Text} {top : ℕ} (low d : ℕ) (word : Text) (x : ℕ) where
  pub slot_room : Stack T top → low + d ≤ top → top + length (at_slot (take d (drop low T) ++ word) x) ≤ stack_bytes → x ≡ 1 → top + d + length word + 1 ≤ stack_bytes
  slot_room h l f e =
      let i : length (at_slot (take d (drop low T) ++ word) x) ≡ length (take d (drop low T)) + length word + 1 =
      ap length (at_slot_yes (take d (drop low T) ++ word) x e) ∙ simp length-append in
      omega (arith, i, part_size low d h l)

  pub slot_put : {T₁ T₂ T₃ : Text} {r r₂ r₃ : ℕ} → x ≡ 1 → Grown T T₁ top r (take d (drop low T)) → Grown T₁ T₂ r r₂ word → Grown T₂ T₃ r₂ r₃ (x ∷ [])
      → Grown T T₃ top r₃ (at_slot (take d (drop low T) ++ word) x)
  slot_put e f g i = rw (at_slot_yes (take d (drop low T) ++ word) x e) (grown_then (take d (drop low T) ++ word) (x ∷ []) (grown_then (take d (drop low T)) word f g) i)

  pub byte_put : {T₁ : Text} {r : ℕ} → (x ≡ 1 → ⊥) → Grown T T₁ top r (x ∷ []) → Grown T T₁ top r (at_slot (take d (drop low T) ++ word) x)
  byte_put e g = rw (at_slot_no (take d (drop low T) ++ word) x e) g

pub newest_size : {T : Text} {top : ℕ} (n : ℕ) → Stack T top → n ≤ top → length (newest T top n) ≡ n
newest_size {T} {top} n h l = length-drop (top - n) (take top T) ∙ omega (arith, top_size h)

module _ {T : Text} {top : ℕ} (n d : ℕ) (word : Text) (h : Stack T top) (l : d + n ≤ top) where
  abbrev e : Text
  e = below_newest T top n d ++ word

  abbrev t : Text
  t = newest T top n

  size : length t ≡ n
  size = newest_size n h (omega arith)

  pub weave_size : length (at_slots (below_newest T top n d ++ word) (newest T top n)) ≡ n + slots_in (newest T top n) * (d + length word)
  weave_size =
      length_at_slots e t
      ∙ ap₂ (λ (i j : ℕ). i + slots_in t * j) size (length-append (below_newest T top n d) word ∙ ap (λ (k : ℕ). k + length word) (part_size (top - (d + n)) d h (omega arith)))

  pub pieces_none : Grown T T top top (at_slots (below_newest T top n d ++ word) (take (top - n - (top - n)) (newest T top n)))
  pieces_none =
      let i : at_slots e (take (top - n - (top - n)) t) ≡ [] = ap (λ (k : ℕ). at_slots e (take k t)) {x = top - n - (top - n)} {y = 0} (omega arith) ∙ at_slots_none e in
      rw i (grown_none h)

  pub pieces_done : {T' : Text} {at : ℕ} (i : ℕ) → top ≤ i → Grown T T' top at (at_slots (below_newest T top n d ++ word) (take (i - (top - n)) (newest T top n)))
      → Grown T T' top at (at_slots (below_newest T top n d ++ word) (newest T top n))
  pieces_done i p g = rw (take_all (i - (top - n)) t (omega (arith, size))) at g

  module _ {T' : Text} {at : ℕ} (i : ℕ) (b : top - n ≤ i) (j : i < top)
      (g : Grown T T' top at (at_slots (below_newest T top n d ++ word) (take (i - (top - n)) (newest T top n)))) where
    -- which of the newest bytes is the one at i
    abbrev k : ℕ
    k = i - (top - n)

    front : take top T' ≡ take top T
    front = grown_front (at_slots e (take k t)) h g

    byte_is : get_or T' i 0 ≡ get_or t k 0
    byte_is =
        sym (get_or-take top T' i 0 j)
        ∙ ap (λ (w : Text). get_or w i 0) front
        ∙ ap (λ (m : ℕ). get_or (take top T) m 0) {x = i} {y = top - n + k} (omega arith)
        ∙ sym (get_or-drop (top - n) (take top T) k 0)

    part_is : take d (drop (top - n - d) T') ≡ below_newest T top n d
    part_is =
        part_of (top - n - d) d top T' T (omega arith) front ∙ ap (λ (m : ℕ). take d (drop m T)) {x = top - n - d} {y = top - (d + n)} (omega arith)

    piece_is : at_slot (take d (drop (top - n - d) T') ++ word) (get_or T' i 0) ≡ at_slot e (get_or t k 0)
    piece_is = ap₂ (λ (y : Text) (z : ℕ). at_slot (y ++ word) z) part_is byte_is

    more_is : at_slots e (take (i + 1 - (top - n)) t) ≡ at_slots e (take k t) ++ at_slot e (get_or t k 0)
    more_is = ap (λ (m : ℕ). at_slots e (take m t)) {x = i + 1 - (top - n)} {y = k + 1} (omega arith) ∙ at_slots_more e t k (omega (arith, size))

    pub piece_fits : top + length (at_slots (below_newest T top n d ++ word) (newest T top n)) ≤ stack_bytes
        → at + length (at_slot (take d (drop (top - n - d) T') ++ word) (get_or T' i 0)) ≤ stack_bytes
    piece_fits f =
        rw piece_is
        (omega (arith, g.top_is, ap length more_is ∙ length-append (at_slots e (take k t)) (at_slot e (get_or t k 0)), at_slots_part e t (i + 1 - (top - n))))

    pub piece_more : {T'' : Text} {r : ℕ} → Grown T' T'' at r (at_slot (take d (drop (top - n - d) T') ++ word) (get_or T' i 0))
        → Grown T T'' top r (at_slots (below_newest T top n d ++ word) (take (i + 1 - (top - n)) (newest T top n)))
    piece_more p = rw more_is (grown_then (at_slots e (take k t)) (at_slot e (get_or t k 0)) g (rw piece_is at p))

-- the newest bytes, before and after room was made
module _ {T T₁ : Text} {top at size : ℕ} (n d : ℕ) (c : Stack T top) (h : Room T T₁ top at size) (l : d + n ≤ top) (m : d + n ≤ kept_bytes) where
  pub room_newest : newest T₁ at n ≡ newest T top n
  room_newest =
      ap (drop (at - n)) h.is
      ∙ drop-drop (at - n) (top - at) (take top T)
      ∙ ap (λ (k : ℕ). drop k (take top T)) {x = top - at + (at - n)} {y = top - n} (omega (arith, h.long, h.below))

  pub room_below : below_newest T₁ at n d ≡ below_newest T top n d
  room_below =
      ap (λ (k : ℕ). take d (drop k T₁)) {x = at - (d + n)} {y = top - (d + n) - (top - at)} (omega (arith, h.long, h.below))
      ∙ room_part (top - (d + n)) d h (omega (arith, h.long, h.below)) (omega arith)

  woven_is : (word : Text) → at_slots (below_newest T₁ at n d ++ word) (newest T₁ at n) ≡ at_slots (below_newest T top n d ++ word) (newest T top n)
  woven_is word = ap₂ (λ (x y : Text). at_slots (x ++ word) y) room_below room_newest

  pub weave_fits : (word : Text) → size ≡ n + slots_in (newest T top n) * (d + length word)
      → at + length (at_slots (below_newest T₁ at n d ++ word) (newest T₁ at n)) ≤ stack_bytes
  weave_fits word e = omega (arith, e, h.room, ap length (woven_is word) ∙ weave_size n d word c l)

  pub weave_put : {T₂ : Text} {r : ℕ} (word : Text) → Grown T₁ T₂ at r (at_slots (below_newest T₁ at n d ++ word) (newest T₁ at n))
      → Put T T₂ top r (at_slots (below_newest T top n d ++ word) (newest T top n))
  weave_put word g = room_put (at_slots (below_newest T top n d ++ word) (newest T top n)) c h (rw (woven_is word) at g)
