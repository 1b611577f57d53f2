-- Laws of what stands in front in a slice. Assumes nothing.
use Rattle.std.specs.Prelude.{◌≡◌, refl, List, [], ◌∷◌, ◌++◌, ℕ, suc, ◌+◌, ◌≤◌, ◌<◌, length, take, drop, get_or, set}
use Rattle.std.proofs.Common.{sym, ap, ap₂, ◌∙◌, append_assoc, arith, length-append, length-set, take-append-drop, take_at}
use Rattle.std.proofs.Math.ListN.{get_or-append}
use Rattle.std.proofs.Math.Seq.{paste, take-length, append_snoc}
use Rattle.std.proofs.lemmas.List.Edits.{length-paste}
use Rattle.std.proofs.lemmas.List.{set_split}
use Rattle.store.specs.Table.{Front}

-- nothing stands in front of every slice
pub front_none : {n : ℕ} {l : List ℕ} → length l ≡ n → Front n [] l
front_none {n} {l} e = record { rest = l; is = refl; size = e }

-- the same slice, given in another way
pub front_as : {n : ℕ} {w l l' : List ℕ} → l' ≡ l → Front n w l → Front n w l'
front_as e h = record { rest = h.rest; is = e ∙ h.is; size = ap length e ∙ h.size }

module _ {n : ℕ} {w l : List ℕ} (h : Front n w l) where
  pub front_take : take (length w) l ≡ w
  front_take = ap (take (length w)) h.is ∙ take_at w h.rest (length w) refl

  pub front_most : length w ≤ n
  front_most = omega (arith, h.size, ap length h.is ∙ length-append w h.rest)

  pub front_at : (j : ℕ) → j < length w → get_or l j 0 ≡ get_or w j 0
  front_at j i = ap (λ (x : List ℕ). get_or x j 0) h.is ∙ get_or-append w h.rest 0 j i

  -- less of it stands in front, too
  pub front_less : (k : ℕ) → Front n (take k w) l
  front_less k = record {
    rest = drop k w ++ h.rest;
    is = h.is ∙ ap (λ (x : List ℕ). x ++ h.rest) (sym (take-append-drop k w)) ∙ append_assoc (take k w) (drop k w) h.rest;
    size = h.size;
  }

  -- a text is written behind it
  pub front_paste : (t : List ℕ) {l' : List ℕ} → length w + length t ≤ n → l' ≡ paste l (length w) t (length t) → Front n (w ++ t) l'
  front_paste t {l'} m e = record {
    rest = drop (length w + length t) l;
    is =
        e
        ∙ ap₂ (λ (x y : List ℕ). x ++ y ++ drop (length w + length t) l) front_take (take-length t);
    size = ap length e ∙ length-paste l (length w) t (length t) (omega (arith, h.size)) (omega arith) ∙ h.size;
  }

  -- a text is written behind it, and what is behind that may change
  pub front_written : (t : List ℕ) {l' : List ℕ} → length l' ≡ length l → take (length w + length t) l' ≡ take (length w) l ++ t → Front n (w ++ t) l'
  front_written t {l'} s e = record {
    rest = drop (length w + length t) l';
    is =
        sym (take-append-drop (length w + length t) l')
        ∙ ap (λ (x : List ℕ). x ++ drop (length w + length t) l') (e ∙ ap (λ (x : List ℕ). x ++ t) front_take);
    size = s ∙ h.size;
  }

  -- a number is written behind it
  pub front_set : (x : ℕ) → length w < n → Front n (w ++ (x ∷ [])) (set l (length w) x)
  front_set x m = record {
    rest = drop (suc (length w)) l;
    is =
        set_split l (length w) x (omega (arith, h.size))
        ∙ ap (λ (y : List ℕ). y ++ (x ∷ drop (suc (length w)) l)) front_take
        ∙ sym (append_snoc w x (drop (suc (length w)) l));
    size = length-set l (length w) x ∙ h.size;
  }
