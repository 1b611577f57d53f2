-- N .. E as a type, from what is said of its leading parts.
use Rattle.std.specs.Prelude.{Bool, true, false, List, [], ◌∷◌, ◌++◌, ◌≡◌, refl, ℕ, suc, ◌+◌, ◌≤◌, ◌<◌, max, length}
use Rattle.std.proofs.Common.{◌∙◌, ap, arith, length-append}
use Prim.Native.Char.{code}
use Rattle.grammar.specs.Text.{Text, b, if◌then◌otherwise◌, choose, same, join}
use Rattle.grammar.specs.Reader.{ok, Reader, onto, return, recorded}
use Rattle.grammar.specs.Grammar as g
use Rattle.grammar.specs.Grammar.{⟨type⟩, ⟨template-args⟩, reading, onto_last, last}
use Rattle.catalogue.specs.Bytes.{first}
use Rattle.catalogue.specs.Tree.{Ty, Args, sub, app, print}
use Rattle.catalogue.specs.Spelling.{name_bytes}
use Rattle.catalogue.specs.Class.{push, last_is, push_new}
use Rattle.catalogue.proofs.Laws.Count.{nargs, sum_push}
use Rattle.catalogue.proofs.Laws.NoDoubles.{sum}
use Rattle.catalogue.proofs.Laws.NormalForm.{nbytes}
use Rattle.catalogue.specs.Laws.WellFormed.{Wf, AllWf}
use Rattle.agreement.specs.Laws.Verdict.{at}
use Rattle.agreement.specs.Laws.Heads.{heads, name_first}
use Rattle.agreement.specs.Laws.Steps.{nested_type_by}
use Rattle.agreement.specs.Laws.Printed.{list_text, join_snoc, join_onto_last}
use Rattle.agreement.specs.Laws.Rooms.{texts, Grown, grown_push, grown_push_new, grown_trans}
use Rattle.agreement.specs.Laws.Pushes.{new_entry_end, old_entry_end, kept_new, kept_app, room_part, room_list}
use Rattle.agreement.specs.Laws.TypeNodes.{Says, SaysList}
use Rattle.agreement.specs.Laws.Nested.{SaysPre, parts, ending, nested_by, ending_by, part_by, parts_end, last_part, list_part, goes_digit, goes_I, name_longer, nothing}

-- ---------------------------------------------------------------- N .. E as a type

sum_push_new : (f : Ty → ℕ) (t : Ty) (us : List Ty) → f t ≡ 0 → sum f (push_new t us) ≡ sum f us
unfolding push_new if◌then◌otherwise◌
sum_push_new f t us z = go (last_is t us)
  where
    go : (p : Bool) → sum f (if p then us otherwise push t us) ≡ sum f us
    go true = refl
    go false = let k = sum_push f t us in omega arith

abbrev entered_new : Text → Reader Text
entered_new t = λ s. onto (λ l. if choose (last l) (same t) false then return t otherwise recorded t) (ok s.subs s)

pub nest_sub_says : (n : Text) (t : Ty) (us vs : List Ty) (x r : Text) (a : List Text) (d m : ℕ) (c : Text) (q : Bool) → Wf (sub t n) → AllWf vs
    → first heads x ≡ true → SaysPre us vs t x (name_bytes n ++ (code "E" ∷ r)) a (d + 1) m c q
    → Says us (push_new (sub t n) vs) (sub t n) r a d (suc m) (reading ⟨type⟩ (at (code "N" ∷ x) (texts us) a d c q))
unfolding print g.nested_type onto
nest_sub_says n t us vs x r a d m c q f h i s =
    let len = name_longer n (code "E" ∷ r) in
    let part : length (print t) ≤ length (print t ++ (b "::" ++ n)) = rw (length-append (print t) (b "::" ++ n)) (omega arith) in
    let part' : length n ≤ length (print t ++ (b "::" ++ n)) = rw (length-append (print t) (b "::" ++ n), length-append (b "::") n) (omega arith) in
    let s0 = sum_push_new nargs (sub t n) vs refl in
    let s1 = sum_push_new nbytes (sub t n) vs refl in
    nested_type_by _ _ _ _ _ (λ p. let z = p.deep in omega arith)
    (λ k. nested_by entered_new false x _ _ _ _ _ i
    (s Text _ _ (ending entered_new false) (suc (length x)) (omega arith) (omega arith)
    (λ p. room_part _ _ _ _ _ _ _ _ _ _ p (grown_push_new (sub t n) vs) (omega arith) part)
    (λ n1 ts e c' z l1 l2 j _ g.
    let j' : join (b "::") (ts ++ (n ∷ [])) ≡ print t ++ (b "::" ++ n) = join_snoc (b "::") ts n l2 ∙ ap (λ y. y ++ (b "::" ++ n)) j in
    let dp = g.deep in
    part_by _ n1 (parts ts) _ (omega arith) (goes_digit _ (name_first n (code "E" ∷ r)))
    (λ n2 y. last_part _ n vs ts r e (d + 1) c' z f.2 (λ p. let u = p.text in omega arith)
    (parts_end _ n2 _ r _ _ _ _ _ (omega arith)
    (ending_by entered_new false _ r _ _ _ _ _ (λ p. rw j' p.text)
    (rw j' (new_entry_end (sub t n) vs r e (d + 1) _ _ f h (λ p. p.table) (λ p. p.text)
    (λ o. kept_new us vs _ a e (d + 1) m d (suc m) s0 s1 g (omega arith) o)))))))))

pub nest_app_says : (t : Ty) (xs : Args) (us vs ws : List Ty) (x y r : Text) (a : List Text) (d m m' : ℕ) (c : Text) (q : Bool) → Wf (app t xs)
    → AllWf (push (app t xs) ws) → first heads x ≡ true → 0 < length y → Grown vs ws
    → SaysPre us vs t x (code "I" ∷ y) a (d + 1) m c q
    → ((c' : Text) (z : Bool) → SaysList vs ws xs (code "E" ∷ r) [] (d + 1) m' (reading ⟨template-args⟩ (at (code "I" ∷ y) (texts vs) []
    (d + 1) c' z)))
    → Says us (push (app t xs) ws) (app t xs) r a d (suc (max m (suc m'))) (reading ⟨type⟩ (at (code "N" ∷ x) (texts us) a d c q))
unfolding print g.nested_type onto
nest_app_says t xs us vs ws x y r a d m m' c q f h i len gr s v =
    let part : length (print t) ≤ length (print t ++ list_text xs) = rw (length-append (print t) (list_text xs)) (omega arith) in
    let part' : length (list_text xs) ≤ length (print t ++ list_text xs) = rw (length-append (print t) (list_text xs)) (omega arith) in
    nested_type_by _ _ _ _ _ (λ p. let z = p.deep in omega arith)
    (λ k. nested_by entered_new false x _ _ _ _ _ i
    (s Text _ _ (ending entered_new false) (suc (length x)) (omega arith) (omega arith)
    (λ p. room_part _ _ _ _ _ _ _ _ _ _ p (grown_trans vs ws _ gr (grown_push (app t xs) ws)) (omega arith) part)
    (λ n1 ts e c' z l1 l2 j _ g.
    let j' : join (b "::") (onto_last (list_text xs) ts) ≡ print t ++ list_text xs = join_onto_last (b "::") (list_text xs) ts l2 ∙ ap
    (λ v. v ++ list_text xs) j in
    let dp = g.deep in
    part_by _ n1 (parts ts) _ (omega arith) (goes_I y)
    (λ n2 eq. list_part _ xs (app t xs) vs ws ts y (code "E" ∷ r) e (d + 1) m' c' z l2 j' (v c' z)
    (λ p. room_list t xs us vs ws a e [] d (suc (max m (suc m'))) _ (d + 1) m (d + 1) (suc m') p g (omega arith) (nothing e) (grown_push
    (app t xs) ws) (omega arith) part')
    (λ p. p.table)
    (λ u c'' o fit.
    let dp' = o.deep in
    parts_end _ n2 _ r _ _ _ _ _ (omega arith)
    (ending_by entered_new false _ r _ _ _ _ _ (λ p. rw j' p.text)
    (rw j' (old_entry_end (app t xs) ws r u (d + 1) _ _ f h
    (kept_app t xs us vs ws a e [] u (d + 1) m (d + 1) (suc m') d (suc (max m (suc m'))) g (omega arith) (nothing e) o (omega arith) fit)))))))))
