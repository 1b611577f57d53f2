-- Laws of Turns.antt: one turn after another. Assumes nothing.
use Rattle.std.specs.Prelude.{Bool, true, false, [], ◌++◌, ◌≡◌, ℕ, eqb, length, take, drop, Result}
use Rattle.std.proofs.Common.{sym, ap, ◌∙◌, subst, append_assoc, take-append-drop}
use Rattle.std.proofs.Math.Seq.{take-append_seam}
use Rattle.std.specs.Io.KnownBytes.{Appends, Consumes, IsAtEnd, Keeps}
use Rattle.std.proofs.KnownBytes.{Appends-trans, Consumes-nil, Consumes-trans, Consumes-kept}
use Rattle.grammar.specs.Text.{Text}
use Rattle.listing.specs.declared.listing.Kind.{Kind}
use Rattle.console.specs.Output.{header, output}
use Rattle.console.specs.Buffer.{Nothing, Fed}
use Rattle.console.specs.Turns.{Known, Reads, WritesOn, Goes, Ends, Stops}
use Rattle.console.specs.Laws.Buffer.{fed_none, fed_all, fed_front}
use Rattle.console.specs.declared.buffer.Buffer.{Buffer}
use Rattle.console.specs.declared.failed.Failed.{Failed}

-- some of the output was written
stops_from : (kind : Kind) (left left' has has' : Known) (all s rest : Text) → Consumes left left' all → Appends has has' s → output kind all ≡ s ++ rest → Stops kind left left' has has'
stops_from kind left left' has has' all s rest c a e = record {
  all = all;
  n = length s;
  read = c;
  written = subst (Appends has has') (sym (ap (take (length s)) e ∙ take-append_seam s rest)) a;
}

-- some of what was handed over last was written
cut_short : (kind : Kind) (all before put rest : Text) (n : ℕ) → output kind all ≡ (before ++ put) ++ rest → output kind all ≡ (before ++ take n put) ++ (drop n put ++ rest)
cut_short kind all before put rest n e =
    e
    ∙ ap (λ (t : Text). (before ++ t) ++ rest) (sym (take-append-drop n put))
    ∙ ap (λ (t : Text). t ++ rest) (sym (append_assoc before (take n put) (drop n put)))
    ∙ append_assoc (before ++ take n put) (drop n put) rest

module _ (kind : Kind) (left has has' : Known) {l : Text} {b : Buffer} (m : Nothing l b) where
  pub goes_none : Appends has has' header → Goes kind false left left has has' b
  goes_none a = record { all = []; handed = header; fed = fed_none kind m; read = Consumes-nil left; written = a }

  pub stops_none : ((n : ℕ) × Appends has has' (take n header)) → Stops kind left left has has'
  stops_none (n, a) =
      let (rest, e) = fed_front (fed_none kind m) in
      stops_from kind left left has has' [] (take n header) (drop n header ++ rest) (Consumes-nil left) a (cut_short kind [] [] header rest n e)

module _ {kind : Kind} {q : Bool} {left left' has has' : Known} {b : Buffer} (w : Goes kind q left left' has has' b) where
  pub goes_read : {chunk : Text} {left'' : Known} {b' : Buffer} {n : ℕ} → q ≡ false → Reads chunk left' left'' b b' n → Goes kind (eqb n 0) left left'' has has' b'
  goes_read {chunk} {left''} {b'} {n} e r = record {
    all = w.all ++ take n chunk;
    handed = w.handed;
    fed = r.fed kind w.all w.handed (subst (λ (p : Bool). Fed kind p w.all w.handed b) e w.fed);
    read = Consumes-trans left left' left'' w.all (take n chunk) w.read r.read;
    written = w.written;
  }

  pub goes_written : {A : Type 0} {out : Text} {has'' : Known} {b' : Buffer} {r : Result A Failed} → (s : WritesOn kind out has' has'' b b' r) → Appends has' has'' (take s.put out)
      → Goes kind q left left' has has'' b'
  goes_written {A} {out} {has''} {b'} {r} s a = record {
    all = w.all;
    handed = w.handed ++ take s.put out;
    fed = s.fed q w.all w.handed w.fed;
    read = w.read;
    written = Appends-trans has has' has'' w.handed (take s.put out) w.written a;
  }

  pub ends : q ≡ true → b.from ≡ b.start → IsAtEnd left' → Ends kind left left' has has'
  ends e h i = record {
    all = w.all;
    read = w.read;
    ended = i;
    written = subst (Appends has has') (fed_all w.fed e h) w.written;
  }

  pub stops : {left'' : Known} → Keeps left' left'' → Stops kind left left'' has has'
  stops {left''} k =
      let (rest, e) = fed_front w.fed in
      stops_from kind left left'' has has' w.all w.handed rest (Consumes-kept left left' left'' w.all w.read k) w.written e

  pub stops_written : {A : Type 0} {out : Text} {has'' : Known} {b' : Buffer} {r : Result A Failed} → (s : WritesOn kind out has' has'' b b' r)
      → ((n : ℕ) × Appends has' has'' (take n (take s.put out))) → Stops kind left left' has has''
  stops_written {A} {out} {has''} {b'} {r} s (n, a) =
      let put : Text = take s.put out in
      let (rest, e) = fed_front (s.fed q w.all w.handed w.fed) in
      stops_from kind left left' has has'' w.all (w.handed ++ take n put) (drop n put ++ rest) w.read (Appends-trans has has' has'' w.handed (take n put) w.written a)
      (cut_short kind w.all w.handed put rest n e)
