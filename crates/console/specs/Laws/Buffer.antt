-- Laws of Buffer.antt: the input may be read in any chunks, and its lines handed over in any parts. Assumes nothing.
use Rattle.std.proofs.Math.Bool.{Bool, true}
use Rattle.std.specs.Prelude.{false, ◌≡◌, eqb}
use mathlib.Core.List.{List, [], ◌∷◌, ◌++◌, append_assoc, append-nil}
use Rattle.std.proofs.Math.Path.{refl, sym, ap}
use Rattle.std.proofs.Common.{Ok, ap₂, ◌∙◌, eq-eqb, ne_eqb, length-append, length-drop, take-add, take-take, drop-drop, length-take-le}
use Prim.Native.Nat.{ℕ, suc, ◌+◌, ◌-◌, ◌≤◌, ◌<◌}
use native.Mathlib.Omega.{arith}
use Rattle.std.proofs.Math.ListN.{length, take, drop}
use Rattle.std.proofs.Math.Seq.{take-length, take_at}
use Rattle.grammar.specs.Text.{Text, if◌then◌otherwise◌}
use Rattle.answer.specs.Told.{Slices}
use Rattle.answer.specs.Laws.Told.{long_fit, long_numbers_fit}
use Rattle.listing.specs.Listing.{line_feed, lines, bytes_taken, listing, fitting, work_sized, Outcome, lists, listed, Lists, most_line_bytes}
use Rattle.listing.specs.Cut.{cut_lines, column}
use Rattle.listing.specs.Laws.Cut.{cut_append, cut_listing}
use Rattle.listing.specs.Kinds.{LongFor}
use Rattle.listing.specs.Laws.Entry.{long_work}
use Rattle.listing.specs.Laws.Inside.{lists_inside, lists_some_line}
use Rattle.listing.specs.declared.listing.Kind.{Kind}
use Rattle.listing.specs.declared.listing.Listed.{Listed}
use Rattle.console.specs.Output.{header, output}
use Rattle.console.specs.Buffer.{part, used, waiting, kept, Nothing, Skips, Moves, closing, EndsLine, Completes, Keeps, added, Adds, completed, Fed}
use Rattle.console.specs.Laws.Lines.{taken_append, listing_append, fitting_front, lines_append, lines_take, column_append}
use Rattle.console.specs.Laws.Lines.{cut_taken, column_closing, cut_closing, lines_completed, lines_more, column_completed}
use Rattle.console.specs.declared.buffer.Buffer.{Buffer}

-- ---------------------------------------------------------------- parts

part_split : (l : Text) (from to end : ℕ) → from ≤ to → to ≤ end → part l from end ≡ part l from to ++ part l to end
part_split l from to end h k =
    ap (λ (j : ℕ). take j (drop from l)) {x = end - from} {y = to - from + (end - to)} (omega arith)
    ∙ take-add (to - from) (end - to) (drop from l)
    ∙ ap (λ (t : Text). part l from to ++ take (end - to) t) (drop-drop (to - from) from l ∙ ap (λ (j : ℕ). drop j l) {x = from + (to - from)} {y = to} (omega arith))

part_length : (l : Text) (from to : ℕ) → to ≤ length l → length (part l from to) ≡ to - from
part_length l from to h = length-take-le (to - from) (drop from l) (omega (arith, length-drop from l))

-- ---------------------------------------------------------------- the end, and one chunk more

completed_more : (all chunk : Text) (q : Bool) → q ≡ eqb (length chunk) 0 → completed q (all ++ chunk) ≡ all ++ added (column 0 all) chunk
unfolding completed added if◌then◌otherwise◌
completed_more all [] q e = ap (λ (p : Bool). completed p (all ++ [])) e ∙ ap (λ (t : Text). t ++ closing (column 0 t)) (append-nil all)
completed_more all (x ∷ t) q e = ap (λ (p : Bool). completed p (all ++ (x ∷ t))) (e ∙ ne_eqb (suc (length t)) 0 (λ z. omega arith))

not_ended : (all : Text) → completed false all ≡ all
unfolding completed if◌then◌otherwise◌
not_ended all = refl

closing_some : (n : ℕ) → 0 < n → line_feed ∷ [] ≡ closing n
unfolding closing if◌then◌otherwise◌
closing_some n h = ap (λ (q : Bool). if q then [] otherwise line_feed ∷ []) (sym (ne_eqb n 0 (λ z. omega arith)))

closing_none : (n : ℕ) → n ≤ 0 → [] ≡ closing n
unfolding closing if◌then◌otherwise◌
closing_none n h = ap (λ (q : Bool). if q then [] otherwise line_feed ∷ []) (sym (eq-eqb n 0 (omega arith)))

pub completes : {b r : Buffer} → b.start < b.end → EndsLine b r → Completes b r
completes {b} {r} h e =
    let c = closing_some (kept b) (omega arith) in
    record { is = e.is ∙ ap (λ (t : Text). used b ++ t) c; ends = e.ends ∙ ap (λ (t : Text). b.end + length t) c; from = e.from; start = e.start; lent = e.lent; size = e.size }

pub completes_none : (b : Buffer) → b.end ≤ b.start → Completes b b
completes_none b h =
    let c = closing_none (kept b) (omega arith) in
    record { is = sym (append-nil (used b)) ∙ ap (λ (t : Text). used b ++ t) c; ends = omega (arith, ap length c); from = refl; start = omega (arith, b.second); lent = refl; size = refl }

added_none : (n : ℕ) (chunk : Text) → length chunk ≡ 0 → added n chunk ≡ closing n
unfolding added
added_none n [] h = refl
added_none n (x ∷ t) h = absurd (omega arith)

added_some : (n : ℕ) (chunk : Text) → (length chunk ≡ 0 → ⊥) → added n chunk ≡ chunk
unfolding added
added_some n [] h = absurd (h refl)
added_some n (x ∷ t) h = refl

-- the line without line feed was moved to the front
module _ {b m : Buffer} (w : Moves b m) where
  front_is : used m ≡ part b.lines.now b.start b.end
  front_is =
      ap₂ take w.end w.is ∙ take_at (part b.lines.now b.start b.end) (drop (kept b) b.lines.now) (kept b) (part_length b.lines.now b.start b.end b.inside)

  pub moved_size : length m.lines.now ≡ length b.lines.now
  moved_size = omega (
    arith,
    ap length w.is,
    length-append (part b.lines.now b.start b.end) (drop (kept b) b.lines.now),
    part_length b.lines.now b.start b.end b.inside,
    length-drop (kept b) b.lines.now,
    b.inside,
  )

  front_kept : kept m ≡ kept b
  front_kept = omega (arith, w.end, w.start)

  pub adds_end : {chunk : Text} {r : Buffer} → length chunk ≡ 0 → Completes m r → Adds chunk b r
  adds_end {chunk} {r} e c =
      let a = added_none (kept b) chunk e in
      record {
        is = c.is ∙ ap₂ (λ (t u : Text). t ++ u) front_is (ap closing front_kept ∙ sym (ap (cut_lines (kept b)) a ∙ cut_closing (kept b)));
        last = omega (arith, c.start, ap (column (kept b)) a, column_closing (kept b));
        from = c.from ∙ w.from;
        lent = c.lent ∙ w.lent;
        size = c.size ∙ moved_size;
      }

  pub adds_chunk : {chunk : Text} {r : Buffer} → (length chunk ≡ 0 → ⊥) → Keeps chunk m r → Adds chunk b r
  adds_chunk {chunk} {r} e k =
      let a = added_some (kept b) chunk e in
      record {
        is = k.is ∙ ap₂ (λ (t u : Text). t ++ u) front_is (ap₂ cut_lines front_kept (sym a));
        last = k.last ∙ ap₂ (λ (j : ℕ) (t : Text). r.start + column j t) front_kept (sym a);
        from = k.from ∙ w.from;
        lent = k.lent ∙ w.lent;
        size = k.size ∙ moved_size;
      }

-- ---------------------------------------------------------------- what is listed of a part of the lines

module _ (kind : Kind) (input out : Text) where
  abbrev lines_listed : List Text
  lines_listed = fitting kind (length out) (lines input)

  abbrev if_sized : Bool → List Text
  if_sized q = if q then fitting kind (length out) (lines input) otherwise []

module _ (kind : Kind) (input out : Text) (work : Slices) {out' : Text} {work' : Slices} {r : Listed} (m : Lists kind input out out' work work' (Ok r)) (s : work_sized kind work ≡ true) where
  listed_taken : r.taken ≡ bytes_taken (lines_listed kind input out)
  unfolding listed lists if◌then◌otherwise◌
  listed_taken = ap (λ (x : Outcome). x.taken) m ∙ ap (λ (q : Bool). bytes_taken (if_sized kind input out q)) s

  listed_written : take r.written out' ≡ listing kind (lines_listed kind input out)
  unfolding listed lists if◌then◌otherwise◌
  listed_written =
      let t : Bool → Text = λ q. listing kind (if_sized kind input out q) in
      ap (λ (x : Outcome). take x.written x.out) m
      ∙ ap (λ (q : Bool). take (length (t q)) (t q ++ drop (length (t q)) out)) s
      ∙ take_at (t true) (drop (length (t true)) out) (length (t true)) refl

  -- they are the lines of the bytes that were taken
  listed_lines : lines (take r.taken input) ≡ lines_listed kind input out
  listed_lines =
      let e = fitting_front kind (length out) (lines input) in
      ap (λ (j : ℕ). lines (take j input)) (listed_taken ∙ ap bytes_taken (sym e)) ∙ lines_take input (length (lines_listed kind input out)) ∙ e

pub listed_inside : (kind : Kind) (b : Buffer) (out : Text) (work work' : Slices) {out' : Text} {r : Listed} → Lists kind (waiting b) out out' work work' (Ok r)
    → (b.from + r.taken ≤ b.start) × (r.written ≤ length out)
listed_inside kind b out work work' {out'} {r} m =
    let (a, c) = lists_inside kind (waiting b) out out' work work' (Ok r) m in
    (omega (arith, a, b.first, part_length b.lines.now b.from b.start (omega (arith, b.second, b.inside))), c)

pub long_sized : {kind : Kind} {work : Slices} → LongFor kind work → work_sized kind work ≡ true
long_sized {kind} {work} h = sym (long_work kind work h.name (long_fit h.work) (sym (long_numbers_fit h.numbers)))

some_line : (ss : List Text) → 1 ≤ bytes_taken ss → 1 ≤ length ss
unfolding bytes_taken
some_line [] h = absurd (omega arith)
some_line (s ∷ ss) h = omega arith

-- ---------------------------------------------------------------- all chunks so far

pub fed_none : (kind : Kind) {l : Text} {b : Buffer} → Nothing l b → Fed kind false [] header b
unfolding lines bytes_taken listing cut_lines column completed if◌then◌otherwise◌
fed_none kind {l} {b} n = record {
  done = [];
  whole = refl;
  lists = sym (append-nil header);
  is = ap (λ (j : ℕ). take j (drop b.from b.lines.now)) {x = 0} {y = b.end - b.from} (omega (arith, n.end));
  last = omega (arith, n.start, n.end);
}

module _ {kind : Kind} {q : Bool} {all handed : Text} {b : Buffer} (f : Fed kind q all handed b) where
  -- the buffer is empty at the end of the input: all of it is listed
  pub fed_all : q ≡ true → b.from ≡ b.start → handed ≡ output kind all
  unfolding output
  fed_all e h =
      let a : completed q all ≡ completed true all = ap (λ (p : Bool). completed p all) e in
      let z : b.end - b.from ≡ 0 = omega (arith, f.last, ap (column 0) a, column_completed all) in
      let d : f.done ≡ cut_lines 0 (completed true all) =
      sym (ap (cut_lines 0) (sym a) ∙ f.is ∙ ap (λ (j : ℕ). f.done ++ take j (drop b.from b.lines.now)) z ∙ append-nil f.done) in
      f.lists ∙ ap (λ (t : Text). header ++ t) (ap (λ (t : Text). listing kind (lines t)) d ∙ cut_listing kind (completed true all) ∙ ap (listing kind) (lines_completed all))

  -- a chunk more
  pub fed_chunk : {chunk : Text} {ended : Bool} {r : Buffer} → q ≡ false → b.from ≡ b.start → Adds chunk b r → ended ≡ eqb (length chunk) 0 → Fed kind ended (all ++ chunk) handed r
  fed_chunk {chunk} {ended} {r} e h a is_end =
      let n : ℕ = kept b in
      let rest : Text = part b.lines.now b.start b.end in
      let w : completed q all ≡ all = ap (λ (p : Bool). completed p all) e ∙ not_ended all in
      let c : column 0 all ≡ n = sym (ap (column 0) w) ∙ f.last in
      let m : completed ended (all ++ chunk) ≡ all ++ added n chunk = completed_more all chunk ended is_end ∙ ap (λ (j : ℕ). all ++ added j chunk) c in
      let u : Text = cut_lines n (added n chunk) in
      record {
        done = f.done;
        whole = f.whole;
        lists = f.lists;
        is =
            ap (cut_lines 0) m
            ∙ cut_append 0 all (added n chunk)
            ∙ ap₂ (λ (t : Text) (j : ℕ). t ++ cut_lines j (added n chunk)) (sym (ap (cut_lines 0) w) ∙ f.is ∙ ap (λ (j : ℕ). f.done ++ part b.lines.now j b.end) h) c
            ∙ append_assoc f.done rest u
            ∙ ap (λ (t : Text). f.done ++ t) (sym a.is ∙ ap (λ (j : ℕ). take j r.lines.now) {x = r.end} {y = r.end - 0} (omega arith))
            ∙ ap (λ (j : ℕ). f.done ++ part r.lines.now j r.end) (sym a.from);
        last = ap (column 0) m ∙ column_append 0 all (added n chunk) ∙ ap (λ (j : ℕ). column j (added n chunk)) c ∙ omega (arith, a.last);
      }

  -- the lines in the buffer are complete
  waiting_whole : bytes_taken (lines (waiting b)) ≡ length (waiting b)
  waiting_whole =
      let w : Text = completed q all in
      let rest : Text = part b.lines.now b.start b.end in
      let t : Text = waiting b ++ rest in
      let h : cut_lines 0 w ≡ f.done ++ t = f.is ∙ ap (λ (u : Text). f.done ++ u) (part_split b.lines.now b.from b.start b.end b.first b.second) in
      let k = lines_append f.done t f.whole in
      let n : bytes_taken (lines t) ≡ length (waiting b) = omega (
        arith,
        cut_taken w,
        ap (λ (u : Text). bytes_taken (lines u)) h,
        ap bytes_taken k,
        taken_append (lines f.done) (lines t),
        f.whole,
        ap length h,
        length-append f.done t,
        length-append (waiting b) rest,
        part_length b.lines.now b.start b.end b.inside,
        f.last,
      ) in
      let e : lines (waiting b) ≡ lines t =
      ap lines (sym (take_at (waiting b) rest (length (waiting b)) refl))
      ∙ ap (λ (j : ℕ). lines (take j t)) (sym (ap bytes_taken (take-length (lines t)) ∙ n))
      ∙ lines_take t (length (lines t))
      ∙ take-length (lines t) in
      ap bytes_taken e ∙ n

  module _ (out : Text) (work : Slices) {out' : Text} {work' : Slices} {r : Listed} (m : Lists kind (waiting b) out out' work work' (Ok r)) (s : work_sized kind work ≡ true) where
    -- some of its lines more are handed over
    pub fed_listed : {b' : Buffer} → Skips r.taken b b' → Fed kind q all (handed ++ take r.written out') b'
    fed_listed {b'} g =
        let l : Text = b.lines.now in
        let k : ℕ = r.taken in
        let front : Text = take k (waiting b) in
        let ss : List Text = fitting kind (length out) (lines (waiting b)) in
        let size = part_length l b.from b.start (omega (arith, b.second, b.inside)) in
        let within : k ≤ b.start - b.from = omega (arith, (lists_inside kind (waiting b) out out' work work' (Ok r) m).0, size) in
        let e : lines (f.done ++ front) ≡ lines f.done ++ ss = lines_append f.done front f.whole ∙ ap (λ (us : List Text). lines f.done ++ us) (listed_lines kind (waiting b) out work m s) in
        let c : part l b.from (b.from + k) ≡ front =
        ap (λ (j : ℕ). take j (drop b.from l)) {x = b.from + k - b.from} {y = k} (omega arith) ∙ sym (take-take k (b.start - b.from) (drop b.from l) within) in
        let left : part l (b.from + k) b.end ≡ part b'.lines.now b'.from b'.end =
        ap₂ (λ (t : Text) (j : ℕ). part t j b.end) (sym g.lines) (sym g.from) ∙ ap (part b'.lines.now b'.from) (sym g.end) in
        record {
          done = f.done ++ front;
          whole = omega (
            arith,
            ap bytes_taken e,
            taken_append (lines f.done) ss,
            f.whole,
            listed_taken kind (waiting b) out work m s,
            length-append f.done front,
            length-take-le k (waiting b) (omega (arith, within, size)),
          );
          lists =
              ap₂ (λ (t u : Text). t ++ u) f.lists (listed_written kind (waiting b) out work m s)
              ∙ append_assoc header (listing kind (lines f.done)) (listing kind ss)
              ∙ ap (λ (t : Text). header ++ t) (sym (ap (listing kind) e ∙ listing_append kind (lines f.done) ss));
          is =
              f.is
              ∙ ap (λ (t : Text). f.done ++ t)
              (part_split l b.from (b.from + k) b.end (omega arith) (omega (arith, within, b.first, b.second))
              ∙ ap₂ (λ (t u : Text). t ++ u) c left)
              ∙ sym (append_assoc f.done front (part b'.lines.now b'.from b'.end));
          last = f.last ∙ ap₂ (λ (i j : ℕ). i - j) (sym g.end) (sym g.start);
        }

    -- one line at least
    pub listed_more : most_line_bytes ≤ length out → b.from < b.start → 1 ≤ r.taken
    listed_more h k =
        (lists_some_line kind (waiting b) out out' work work' (Ok r) m s h).1
        (some_line (lines (waiting b)) (omega (arith, waiting_whole, part_length b.lines.now b.from b.start (omega (arith, b.second, b.inside)), k)))

  -- what was handed over is a front of the output for the input
  pub fed_front : (k : Text) × (output kind all ≡ handed ++ k)
  unfolding output
  fed_front =
      let w : Text = completed q all in
      let rest : Text = part b.lines.now b.from b.end in
      let (ss, e) = lines_more all q in
      let i : listing kind (lines w) ≡ listing kind (lines f.done) ++ listing kind (lines rest) =
      sym (cut_listing kind w)
      ∙ ap (λ (t : Text). listing kind (lines t)) f.is
      ∙ ap (listing kind) (lines_append f.done rest f.whole)
      ∙ listing_append kind (lines f.done) (lines rest) in
      let k : Text = listing kind (lines rest) ++ listing kind ss in (
        k,
        ap (λ (t : Text). header ++ t) (ap (listing kind) e ∙ listing_append kind (lines w) ss ∙ ap (λ (t : Text). t ++ listing kind ss) i ∙ append_assoc (listing kind (lines f.done)) (listing kind (lines rest)) (listing kind ss))
            ∙ sym (append_assoc header (listing kind (lines f.done)) k)
            ∙ ap (λ (t : Text). t ++ k) (sym f.lists),
      )
