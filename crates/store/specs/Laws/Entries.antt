-- Laws of tables. Assumes nothing.
use Rattle.std.specs.Prelude.{◌≡◌, refl, List, [], ◌∷◌, ◌++◌, ℕ, zero, suc, ◌+◌, ◌-◌, ◌≤◌, ◌<◌, length, take, drop, get_or, set}
use Rattle.std.proofs.Common.{sym, ap, ap₂, ◌∙◌, append_assoc, append-nil, add-one, arith, length-append, take_at, drop_at}
use Rattle.std.proofs.Math.Option.{none, some}
use Rattle.std.proofs.Math.ListN.{get_elem?}
use Rattle.std.proofs.Math.Seq.{take-nil}
use Rattle.grammar.specs.Text.{Text}
use Rattle.grammar.specs.Limits.{most_entries, most_entry_bytes}
use Rattle.grammar.specs.Reader.{bytes_of}
use Rattle.store.specs.Table.{Front, concat, ends_from, Entries, Sized, Placed}
use Rattle.store.specs.declared.table.Table.{Table as Code}
use Rattle.store.specs.Laws.Fronts.{front_none, front_as, front_at, front_written, front_set}

-- ---- lists of texts

pub length_concat : (l : List Text) → length (concat l) ≡ bytes_of l
unfolding concat bytes_of
length_concat [] = refl
length_concat (t ∷ l) = length-append t (concat l) ∙ ap (λ (n : ℕ). length t + n) (length_concat l)

pub concat_append : (l m : List Text) → concat (l ++ m) ≡ concat l ++ concat m
unfolding concat
concat_append [] m = refl
concat_append (t ∷ l) m = ap (λ (x : Text). t ++ x) (concat_append l m) ∙ sym (append_assoc t (concat l) (concat m))

pub bytes_append : (l m : List Text) → bytes_of (l ++ m) ≡ bytes_of l + bytes_of m
unfolding bytes_of
bytes_append [] m = omega arith
bytes_append (t ∷ l) m = omega (arith, bytes_append l m)

pub bytes_one : (t : Text) → bytes_of (t ∷ []) ≡ length t
unfolding bytes_of
bytes_one t = omega arith

pub concat_one : (t : Text) → concat (t ∷ []) ≡ t
unfolding concat
concat_one t = append-nil t

pub length_ends : (n : ℕ) (l : List Text) → length (ends_from n l) ≡ length l
unfolding ends_from
length_ends n [] = refl
length_ends n (t ∷ l) = ap suc (length_ends (n + length t) l)

pub ends_append : (n : ℕ) (l : List Text) (t : Text) → ends_from n (l ++ (t ∷ [])) ≡ ends_from n l ++ ((n + bytes_of l + length t) ∷ [])
unfolding ends_from bytes_of
ends_append n [] t = ap (λ (k : ℕ). k ∷ []) (omega arith)
ends_append n (u ∷ l) t =
    ap (λ (x : List ℕ). (n + length u) ∷ x) (ends_append (n + length u) l t ∙ ap (λ (k : ℕ). ends_from (n + length u) l ++ (k ∷ [])) (omega arith))

pub end_at : (n k : ℕ) (l : List Text) → k < length l → get_or (ends_from n l) k 0 ≡ n + bytes_of (take (suc k) l)
unfolding ends_from bytes_of
end_at n k [] h = absurd (omega arith)
end_at n zero (t ∷ l) h = omega arith
end_at n (suc k) (t ∷ l) h = end_at (n + length t) k l (omega arith) ∙ omega arith

pub concat_at : (k : ℕ) (l : List Text) → k < length l → concat l ≡ concat (take k l) ++ (get_or l k [] ++ concat (drop (suc k) l))
unfolding concat
concat_at k [] h = absurd (omega arith)
concat_at zero (t ∷ l) h = refl
concat_at (suc k) (t ∷ l) h =
    ap (λ (x : Text). t ++ x) (concat_at k l (omega arith)) ∙ sym (append_assoc t (concat (take k l)) (get_or l k [] ++ concat (drop (suc k) l)))

-- ---- entry k of a table

pub some_entry : (l : List Text) (k : ℕ) → k < length l → get_elem? l k ≡ some (get_or l k [])
some_entry [] k h = absurd (omega arith)
some_entry (t ∷ l) zero h = refl
some_entry (t ∷ l) (suc k) h = some_entry l k (omega arith)

pub no_entry : (l : List Text) (k : ℕ) → length l ≤ k → get_elem? l k ≡ none
no_entry [] k h = refl
no_entry (t ∷ l) zero h = absurd (omega arith)
no_entry (t ∷ l) (suc k) h = no_entry l k (omega arith)

next : (l : List Text) (k : ℕ) → k < length l → bytes_of (take (suc k) l) ≡ bytes_of (take k l) + length (get_or l k [])
unfolding bytes_of
next [] k h = absurd (omega arith)
next (t ∷ l) zero h = omega arith
next (t ∷ l) (suc k) h = omega (arith, next l k (omega arith))

-- the next entry starts where this one ends
pub next_start : (l : List Text) (k : ℕ) → k < length l → bytes_of (take (k + 1) l) ≡ bytes_of (take k l) + length (get_or l k [])
next_start l k h = ap (λ (j : ℕ). bytes_of (take j l)) (add-one k) ∙ next l k h

pub start_below : (l : List Text) (k : ℕ) → bytes_of (take k l) ≤ bytes_of l
unfolding bytes_of
start_below [] k = omega (arith, ap bytes_of (take-nil {A = Text} k))
start_below (t ∷ l) zero = omega arith
start_below (t ∷ l) (suc k) = omega (arith, start_below l k)

-- what `start` returns
pub start_at : (n k : ℕ) (ends : List ℕ) (l : List Text) → Front n (ends_from 0 l) ends → (k ≡ 0 → ⊥) → k ≤ length l → get_or ends (k - 1) 0 ≡ bytes_of (take k l)
start_at n k ends l e p h =
    front_at e (k - 1) (omega (arith, length_ends 0 l))
    ∙ end_at 0 (k - 1) l (omega arith)
    ∙ ap (λ (j : ℕ). 0 + bytes_of (take j l)) {x = suc (k - 1)} {y = k} (omega arith)
    ∙ omega arith

stored : {n : ℕ} {store : List ℕ} (k : ℕ) (l : List Text) → Front n (concat l) store → k < length l
    → take (length (get_or l k [])) (drop (bytes_of (take k l)) store) ≡ get_or l k []
stored {n} {store} k l f h =
    let t : Text = get_or l k [] in
    let z : Text = f.rest in
    let e : store ≡ concat (take k l) ++ (t ++ (concat (drop (suc k) l) ++ z)) =
    f.is
    ∙ ap (λ (x : Text). x ++ z) (concat_at k l h)
    ∙ append_assoc (concat (take k l)) (t ++ concat (drop (suc k) l)) z
    ∙ ap (λ (x : Text). concat (take k l) ++ x) (append_assoc t (concat (drop (suc k) l)) z) in
    ap (λ (x : Text). take (length t) (drop (bytes_of (take k l)) x)) e
    ∙ ap (take (length t)) (drop_at (concat (take k l)) (t ++ (concat (drop (suc k) l) ++ z)) (bytes_of (take k l)) (length_concat (take k l)))
    ∙ take_at t (concat (drop (suc k) l) ++ z) (length t) refl

module _ {l : List Text} {store ends : List ℕ} {count bytes : ℕ} (h : Entries l store ends count bytes) where
  -- what `Table::place` returns
  pub placed : {k from to : ℕ} → k < count → from ≡ bytes_of (take k l) → to ≡ bytes_of (take (k + 1) l) → Placed l store k from to
  placed {k} {from} {to} i f e =
      let w : k < length l = omega (arith, h.count_is) in
      let n : to ≡ from + length (get_or l k []) = omega (arith, next_start l k w) in
      record {
        size = n;
        within = omega (arith, start_below l (k + 1), h.bytes_is, h.room);
        is = ap₂ (λ (x y : ℕ). take x (drop y store)) {x = to - from} {y = length (get_or l k [])} (omega arith) f ∙ stored k l h.store_is w;
      }

  pub entries_sized : Sized store ends
  entries_sized = record { store_size = h.store_is.size; ends_size = h.ends_is.size }

  -- what `push` leaves: a text of k bytes more
  pub pushed : (t : Text) (k : ℕ) (store' ends' : List ℕ) → length t ≡ k → count < most_entries → bytes + k ≤ most_entry_bytes
      → length store' ≡ length store → take (bytes + k) store' ≡ take bytes store ++ t → ends' ≡ set ends count (bytes + k)
      → Entries (l ++ (t ∷ [])) store' ends' (count + 1) (bytes + k)
  pushed t k store' ends' m more fits z e f =
      let b : bytes ≡ length (concat l) = h.bytes_is ∙ sym (length_concat l) in
      let n : count ≡ length (ends_from 0 l) = h.count_is ∙ sym (length_ends 0 l) in
      record {
        store_is = rw (concat_append l (t ∷ []) ∙ ap (λ (x : Text). concat l ++ x) (concat_one t)) (front_written h.store_is t z (rw (b, ← m) at e));
        ends_is = rw (ends_append 0 l t)
            (front_as (f ∙ ap₂ (λ (i j : ℕ). set ends i j) n (omega (arith, h.bytes_is))) (front_set h.ends_is (0 + bytes_of l + length t) (omega arith)));
        count_is = omega (arith, h.count_is, length-append l (t ∷ []));
        bytes_is = omega (arith, h.bytes_is, bytes_append l (t ∷ []), bytes_one t);
        most = omega arith;
        room = fits;
      }

-- the same slices, given in another way
pub entries_as : {l : List Text} {store ends store' ends' : List ℕ} {count bytes : ℕ}
    → store' ≡ store → ends' ≡ ends → Entries l store ends count bytes → Entries l store' ends' count bytes
entries_as e f h = record {
  store_is = front_as e h.store_is;
  ends_is = front_as f h.ends_is;
  count_is = h.count_is;
  bytes_is = h.bytes_is;
  most = h.most;
  room = h.room;
}

-- what the struct of the code keeps
pub sized_of : (t : Code) → Sized t.bytes.now t.ends.now
sized_of t = record { store_size = t.bytes_size; ends_size = t.ends_size }

-- a table of no texts, whatever the slices hold
pub no_entries : {store ends : List ℕ} → Sized store ends → Entries [] store ends 0 0
unfolding concat ends_from bytes_of
no_entries h = record {
  store_is = front_none h.store_size;
  ends_is = front_none h.ends_size;
  count_is = refl;
  bytes_is = refl;
  most = omega arith;
  room = omega arith;
}
