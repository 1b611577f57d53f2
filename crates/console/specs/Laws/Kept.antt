-- Laws of what is kept of a chunk. Assumes nothing.
use mathlib.Core.List.{[], ◌∷◌, ◌++◌, append_assoc, append-nil}
use Rattle.std.specs.Prelude.{◌≡◌, refl, ℕ, suc, ◌+◌, ◌-◌, ◌≤◌, ◌<◌, length, get_or}
use Rattle.std.proofs.Math.Path.{sym, ap}
use Rattle.std.proofs.Common.{ap₂, ◌∙◌, arith, eq-eqb, length-drop, drop-cons, length-take-le}
use Rattle.std.proofs.Math.ListN.{take, drop, drop_of_length-le}
use Rattle.grammar.specs.Text.{Text}
use Rattle.listing.specs.Listing.{line_feed}
use Rattle.listing.specs.Cut.{cut_lines, column, most_kept}
use Rattle.listing.specs.Laws.Cut.{cut_feed, line_front}
use Rattle.listing.specs.Lines.{before_feed, feed_from}
use Rattle.listing.specs.Laws.Lines.{feed_there, feed_front}
use Rattle.console.specs.Buffer.{used, kept, EndsLine, Puts, Keeps, Begun}
use Rattle.console.specs.declared.buffer.Buffer.{Buffer}

module _ {chunk rest : Text} {b r : Buffer} (w : Begun chunk rest b r) where
  pub all_kept : length rest ≤ 0 → Keeps chunk b r
  unfolding cut_lines column
  all_kept h =
      let d : rest ≡ [] = drop_of_length-le rest {i = 0} h in
      record {
        is = sym (w.is ∙ ap (λ (t : Text). used r ++ cut_lines (kept r) t) d ∙ append-nil (used r));
        last = omega (arith, w.last ∙ ap (column (kept r)) d);
        from = w.from;
        lent = w.lent;
        size = w.size;
      }

  module _ {feed : ℕ} {s : Buffer} (e : feed ≡ feed_from rest 0) (l : feed ≤ length rest) (p : Puts (take feed rest) r s) where
    -- the bytes up to the next line feed
    pub begun_part : {left : Text} → left ≡ drop feed rest → Begun chunk left b s
    begun_part {left} is_left =
        let front : Text = before_feed rest in
        let f = line_front (kept r) rest in
        let part : take feed rest ≡ front = ap (λ (j : ℕ). take j rest) {x = feed} {y = length front} (omega arith) ∙ feed_front rest in
        let u : Text = take (most_kept - kept r) front in
        let same : take (most_kept - kept r) (take feed rest) ≡ u = ap (take (most_kept - kept r)) part in
        let put : used s ≡ used r ++ u = p.is ∙ ap (λ (t : Text). used r ++ t) same in
        let z : kept r + length u ≡ kept s = omega (arith, p.ends, ap length same, p.start) in
        let d : drop (length front) rest ≡ drop feed rest = ap (λ (j : ℕ). drop j rest) {x = length front} {y = feed} (omega arith) in
        let d' : drop (length front) rest ≡ left = d ∙ sym is_left in
        record {
          room = omega (arith, w.room, p.within, length-take-le feed rest l, length-drop feed rest, ap length is_left);
          is =
              w.is
              ∙ ap (λ (t : Text). used r ++ t) f.is
              ∙ sym (append_assoc (used r) u (cut_lines (kept r + length u) (drop (length front) rest)))
              ∙ ap₂ (λ (t v : Text). t ++ v) (sym put) (ap₂ cut_lines z d');
          last = w.last ∙ f.last ∙ ap₂ column z d';
          from = p.from ∙ w.from;
          lent = p.lent ∙ w.lent;
          size = p.size ∙ w.size;
        }

    -- and the line feed
    pub begun_line : {left : Text} {t : Buffer} → feed < length rest → EndsLine s t → left ≡ drop 1 (drop feed rest) → Begun chunk left b t
    begun_line {left} {t} h q is_left =
        let v = begun_part refl in
        let x : ℕ = get_or rest feed 0 in
        let next : drop feed rest ≡ x ∷ drop (suc feed) rest = drop-cons rest feed 0 h in
        let after : left ≡ drop (suc feed) rest = is_left ∙ ap (drop 1) next in
        let y : x ≡ 10 = ap (λ (j : ℕ). get_or rest j 0) e ∙ feed_there rest 0 (omega arith) in
        let (a, c) = cut_feed (kept s) x (drop (suc feed) rest) (eq-eqb x 10 y) in
        let z : 0 ≡ kept t = omega (arith, q.start) in
        record {
          room = omega (arith, v.room, q.ends, length-drop feed rest, length-drop 1 (drop feed rest), ap length is_left);
          is =
              v.is
              ∙ ap (λ (u : Text). used s ++ u) (ap (cut_lines (kept s)) next ∙ a ∙ ap₂ (λ (j : ℕ) (u : Text). j ∷ cut_lines 0 u) y (sym after))
              ∙ sym (append_assoc (used s) (line_feed ∷ []) (cut_lines 0 left))
              ∙ ap₂ (λ (u : Text) (j : ℕ). u ++ cut_lines j left) (sym q.is) z;
          last = v.last ∙ ap (column (kept s)) next ∙ c ∙ ap₂ column z (sym after);
          from = q.from ∙ v.from;
          lent = q.lent ∙ v.lent;
          size = q.size ∙ v.size;
        }
