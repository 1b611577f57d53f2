-- A tree's text as an entry of the table, and how the room for a reading passes to its parts.
use Rattle.std.specs.Prelude.{Bool, List, [], ◌∷◌, ◌++◌, ◌≡◌, refl, ℕ, ◌+◌, ◌≤◌, length}
use Rattle.std.proofs.Math.Bool.{true, false}
use Rattle.std.proofs.Common.{sym, ◌∙◌, ap, arith}
use Rattle.grammar.specs.Text.{Text, if◌then◌otherwise◌, choose, same}
use Rattle.grammar.specs.Limits.{most_open, most_text_bytes}
use Rattle.grammar.specs.Reader.{State, Reader, onto, return, push_sub, recorded, bytes_of}
use Rattle.grammar.specs.Grammar.{last}
use Rattle.catalogue.specs.Bytes.{same_eq, same_yes}
use Rattle.catalogue.specs.Tree.{Ty, Args, app, print, same_ty, same_ty_eq, same_ty_yes}
use Rattle.catalogue.specs.Class.{push, last_is, push_new}
use Rattle.catalogue.proofs.Laws.NoDoubles.{sum}
use Rattle.catalogue.proofs.Laws.NormalForm.{arg_bytes, nbytes}
use Rattle.catalogue.specs.Laws.WellFormed.{Wf, AllWf}
use Rattle.catalogue.specs.Laws.Words.{lex}
use Rattle.catalogue.specs.Laws.NameReader.{walk, want, have}
use Rattle.catalogue.proofs.Laws.Back.{back}
use Rattle.catalogue.proofs.Laws.Count.{sum_push, nargs, number_of}
use Rattle.agreement.specs.Laws.Verdict.{at, Verdict, reads, Gives, gives, push_sub_by, recorded_end}
use Rattle.agreement.specs.Laws.Printed.{list_text}
use Rattle.agreement.specs.Laws.Rooms.{texts, texts_push, Fits, fits_push, push_fits, fits_grown, Grown, sum_grown, bytes, Room, Kept}

-- ---------------------------------------------------------------- entries

module _ {A : Type 0} {room : Type 0} {Q : A → State → Type 0} where
  pub enter_by :
      (t : Ty) (us : List Ty) (k : Unit {0} → Reader A) (r : Text) (a : List Text) (d : ℕ) (c : Text) (q : Bool) → (room → Fits (push t us)) →
      (Fits (push t us) → Verdict room Q (k tt (at r (texts (push t us)) a d c q)))
      → Verdict room Q (onto k (push_sub (print t) (at r (texts us) a d c q)))
  enter_by t us k r a d c q w h =
      push_sub_by _ _ _ _ _ _ _ _ (λ p. fits_push t us (w p)) (λ e. rw (texts_push us t) (h (push_fits t us e)))

module _ {room : Type 0} {K : List Text → Type 0} where
  pub entry_end :
      (t : Ty) (us : List Ty) (r : Text) (a : List Text) (d : ℕ) (c : Text) (q : Bool) → (room → Fits (push t us)) → (room
      → bytes t ≤ most_text_bytes) →
      (Fits (push t us) → K a) → Verdict room (Gives (print t) r (texts (push t us)) d K) (recorded (print t) (at r (texts us) a d c q))
  entry_end t us r a d c q w v h =
      recorded_end _ _ _ _ _ _ _ (λ p. fits_push t us (w p)) v (λ e. rw (texts_push us t) (gives (h (push_fits t us e))))

-- ---------------------------------------------------------------- the newest entry

-- trees that print alike are alike
pub print_alike : (t u : Ty) → Wf t → Wf u → print t ≡ print u → t ≡ u
unfolding lex walk
print_alike t u f g h =
    let x = back t f [] [] tt in
    let y = back u g [] [] tt in
    let z : have t [] ≡ have u [] = sym x ∙ ap (λ s. walk (lex (s ++ [])) (want [])) h ∙ y in
    cc

pub same_trees : (t u : Ty) → Wf t → Wf u → same (print t) (print u) ≡ same_ty t u
same_trees t u f g = go (same (print t) (print u)) refl (same_ty t u) refl
  where
    go : (p : Bool) → same (print t) (print u) ≡ p → (q : Bool) → same_ty t u ≡ q → p ≡ q
    go true e true k = refl
    go false e false k = refl
    go true e false k = sym (same_ty_yes u) ∙ (rw (print_alike t u f g (same_eq (print t) (print u) e)) at k)
    go false e true k = sym (rw (same_ty_eq t u k) at e) ∙ same_yes (print u)

newest : (t : Ty) (us : List Ty) → Wf t → AllWf us → choose (last (texts us)) (same (print t)) false ≡ last_is t us
unfolding last last_is texts choose
newest t [] f h = refl
newest t (u ∷ []) f h = same_trees t u f h.0
newest t (u ∷ v ∷ us) f h = newest t (v ∷ us) f h.1

last_push : (t : Ty) (us : List Ty) → last_is t (push t us) ≡ true
unfolding last_is
last_push t [] = same_ty_yes t
last_push t (u ∷ []) = same_ty_yes t
last_push t (u ∷ v ∷ us) = last_push t (v ∷ us)

module _ {room : Type 0} {K : List Text → Type 0} where
  -- a nested type that ends in arguments is the newest entry already
  pub old_entry_end :
      (t : Ty) (us : List Ty) (r : Text) (a : List Text) (d : ℕ) (c : Text) (q : Bool) → Wf t → AllWf (push t us) → K a →
      Verdict room (Gives (print t) r (texts (push t us)) d K)
      ((if choose (last (texts (push t us))) (same (print t)) false then return (print t) otherwise recorded (print t)) (at r (texts (push t us)) a d c q))
  unfolding if◌then◌otherwise◌
  old_entry_end t us r a d c q f g h = rw (newest t (push t us) f g, last_push t us) (reads (gives h))

module _ {room : Type 0} {K : List Text → Type 0} where
  -- a nested type is entered unless the newest entry is the same
  pub new_entry_end :
      (t : Ty) (us : List Ty) (r : Text) (a : List Text) (d : ℕ) (c : Text) (q : Bool) → Wf t → AllWf us → (room → Fits (push_new t us)) →
      (room → bytes t ≤ most_text_bytes) → ((Fits us → Fits (push_new t us)) → K a) →
      Verdict room (Gives (print t) r (texts (push_new t us)) d K)
      ((if choose (last (texts us)) (same (print t)) false then return (print t) otherwise recorded (print t)) (at r (texts us) a d c q))
  unfolding push_new if◌then◌otherwise◌
  new_entry_end t us r a d c q f g w v h = rw (newest t us f g) (go (last_is t us) w h)
    where
      go : (p : Bool) → (room → Fits (if p then us otherwise push t us)) → ((Fits us → Fits (if p then us otherwise push t us)) → K a) →
          Verdict room (Gives (print t) r (texts (if p then us otherwise push t us)) d K)
          ((if p then return (print t) otherwise recorded (print t)) (at r (texts us) a d c q))
      go true w h = reads (gives (h (λ e. e)))
      go false w h = entry_end t us r a d c q w v (λ e. h (λ _. e))

-- ---------------------------------------------------------------- room for parts

pub kept_same : (us : List Ty) (a : List Text) (d m : ℕ) → d + m ≤ most_open → Kept us us a d m 0 0 a
kept_same us a d m h = record { deep = h; table = λ e. e; few = omega arith; small = omega arith }

-- one entry more, without arguments of its own
pub kept_push :
    (u : Ty) (us vs : List Ty) (a e : List Text) (d m d' m' : ℕ) → nargs u ≡ 0 → nbytes u ≡ 0 → Kept us vs a d m 0 0 e → d' + m' ≤ most_open →
    Fits (push u vs) → Kept us (push u vs) a d' m' 0 0 e
kept_push u us vs a e d m d' m' n s k h f =
    let x = sum_push nargs u vs in
    let y = sum_push nbytes u vs in
    record { deep = h; table = λ _. f; few = omega arith; small = omega arith }

pub kept_new :
    (us vs ws : List Ty) (a e : List Text) (d m d' m' : ℕ) → sum nargs ws ≡ sum nargs vs → sum nbytes ws ≡ sum nbytes vs → Kept us vs a d m 0 0 e →
    d' + m' ≤ most_open → (Fits vs → Fits ws) → Kept us ws a d' m' 0 0 e
kept_new us vs ws a e d m d' m' n s k h f = record { deep = h; table = λ z. f (k.table z); few = omega arith; small = omega arith }

-- a list of arguments and the entry that it makes; f are the arguments before the list
pub kept_app :
    (t : Ty) (xs : Args) (us vs ws : List Ty) (a e f g : List Text) (d p d' m d'' m' : ℕ) → Kept us vs a d p 0 0 e → length f ≤ length e
    → bytes_of f ≤ bytes_of e →
    Kept vs ws f d' m (number_of xs) (arg_bytes xs) g → d'' + m' ≤ most_open → Fits (push (app t xs) ws) → Kept us (push (app t xs) ws) a d'' m' 0 0 g
kept_app t xs us vs ws a e f g d p d' m d'' m' k l s j h i =
    let x = sum_push nargs (app t xs) ws in
    let y = sum_push nbytes (app t xs) ws in
    record { deep = h; table = λ _. i; few = omega arith; small = omega arith }

pub room_part :
    (us vs ws : List Ty) (a : List Text) (d m d' m' len len' : ℕ) → Room us ws a d m len 0 0 → Grown vs ws → d' + m' ≤ d + m → len' ≤ len →
    Room us vs a d' m' len' 0 0
room_part us vs ws a d m d' m' len len' r g h l =
    let x = sum_grown nargs vs ws g in
    let y = sum_grown nbytes vs ws g in
    let p = r.deep in
    let q = r.text in
    let n = r.few in
    let s = r.small in
    record { table = fits_grown vs ws g r.table; deep = omega arith; text = omega arith; few = omega arith; small = omega arith }

pub room_list :
    (t : Ty) (xs : Args) (us vs ws : List Ty) (a e f : List Text) (d m len dd p d' m' : ℕ) → Room us (push (app t xs) ws) a d m len 0 0 →
    Kept us vs a dd p 0 0 e → length f ≤ length e → bytes_of f ≤ bytes_of e → Grown ws (push (app t xs) ws) → d' + m' ≤ d + m
    → length (list_text xs) ≤ len →
    Room vs ws f d' m' (length (list_text xs)) (number_of xs) (arg_bytes xs)
room_list t xs us vs ws a e f d m len dd p d' m' r k l s g h i =
    let x = sum_push nargs (app t xs) ws in
    let y = sum_push nbytes (app t xs) ws in
    let z1 = r.deep in
    let z2 = r.text in
    let z3 = r.few in
    let z4 = r.small in
    let z5 = k.few in
    let z6 = k.small in
    record { table = fits_grown ws _ g r.table; deep = omega arith; text = omega arith; few = omega arith; small = omega arith }
