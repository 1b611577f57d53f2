-- Each production reads two symbols alike that are so up to a dot (Alike.antt): with `read` the first, with `reading` the second. Assumes nothing.
use Rattle.std.specs.Prelude.{◌≡◌, ℕ, zero, suc, ◌*◌, ◌≤◌, Bool, true, false, not, ◌&&◌, ◌||◌, T, List, [], ◌∷◌, ◌++◌, length, take, drop, nat_le}
use Rattle.std.proofs.Math.Option.{Option, none, some}
use Rattle.std.proofs.Math.Path.{refl, ap}
use Prim.Native.String.{String}
use Rattle.std.proofs.Common.{arith}
use borrow.Author.Tests.{le-leb, leb-true, leb-false}
use Rattle.std.proofs.Math.ListN.{length-drop, length-append}
use Rattle.std.proofs.Math.Seq.{take-append-le, drop-append-le}
use Rattle.grammar.specs.Text.{Text, b, if◌then◌otherwise◌, choose, same, starts, holds, join, digit, digit_value, number}
use Rattle.grammar.specs.Tables.{◌⇒◌, letters, d_letters, operators, labels, abbreviations, wrappers}
use Rattle.grammar.specs.Reader.{State, Result, ok, refused, Reader, onto, refuse, start, go_to, give, one_more, cases}
use Rattle.grammar.specs.Grammar.{Production, ⟨encoding⟩, ⟨name⟩, ⟨nested-name⟩, ⟨unqualified-name⟩, ⟨source-name⟩, ⟨operator-name⟩, ⟨type⟩}
use Rattle.grammar.specs.Grammar.{⟨template-param⟩, ⟨template-args⟩, ⟨template-arg⟩, ⟨expr-primary⟩, ⟨substitution⟩, Parts, skipped, open_after}
use Rattle.grammar.specs.Grammar.{ended, digit_ahead, std_ahead, structor_ahead, only_void, unnamed_type_name, template_param, substitution, unsigned, offset, reading}
use Rattle.grammar.specs.Grammar as g
use Rattle.grammar.specs.Laws.Text.{both}
use Rattle.grammar.specs.Laws.Agree.{unread, moved, end, row, coded, all_coded}
use Rattle.grammar.specs.Laws.Fuel.{Left, stuck, fewer, skipped_shorter, reading_is}
use Rattle.grammar.specs.Laws.Loops.{items_shrink, args_shrink, parts_shrink}
use Rattle.grammar.specs.Laws.Alike.{dot, Place, before, behind, ahead_of, other, Same, reads, passes, refuses, Alike, alike, at, stays_past, bind, chosen, branch}
use Rattle.grammar.specs.Laws.Alike.{returns, refuses_alike, field, unseen, asked, told, ask, undotted, empty_blind, all_undotted}
use Rattle.grammar.specs.Laws.Alike.{ended_blind, list_blind, digit_blind, std_blind, structor_dot, structor_blind}
use Rattle.grammar.specs.Laws.Alike.{by_code_alike, by_table_alike, at_code_alike, every_alike, set_args_alike, set_cv_alike, set_templated_alike, give_alike}
use Rattle.grammar.specs.Laws.Alike.{push_sub_alike, push_arg_alike, recorded_alike, entered_alike, see_alike, eat_alike, need_alike, any_alike, while_alike, up_to_E_alike}

-- ---------------------------------------------------------------- productions of letters and digits alone

module _ {u v : Text} where
  unnamed_alike : Alike u v unnamed_type_name unnamed_type_name
  unfolding unnamed_type_name undotted holds b
  unnamed_alike =
      bind any_alike λ kind.
      bind (branch _ (bind (every_alike _) λ _. need_alike "E" tt) (returns tt)) λ _.
      bind (every_alike _) λ _.
      bind (eat_alike "_" tt) λ _. give_alike _

  template_param_alike : Alike u v template_param template_param
  unfolding template_param undotted holds b
  template_param_alike =
      bind (need_alike "T" tt) λ _.
      bind (every_alike _) λ d.
      bind (need_alike "_" tt) λ _.
      bind (field (λ s. s.args) λ s t. refl) λ l.
      branch _ (chosen _ give_alike (give_alike _)) (refuses_alike 4)

  substitution_alike : Alike u v substitution substitution
  unfolding substitution undotted holds coded all_coded all_undotted abbreviations b
  substitution_alike =
      bind (need_alike "S" tt) λ _.
      by_table_alike _ tt tt (λ w. give_alike _)
      (bind (every_alike _) λ d.
      bind (need_alike "_" tt) λ _.
      bind (field (λ s. s.subs) λ s t. refl) λ l.
      chosen _ give_alike (refuses_alike 7))

  offset_alike : Alike u v offset offset
  unfolding offset unsigned undotted holds b
  offset_alike =
      bind (eat_alike "n" tt) λ _.
      bind (every_alike _) λ d.
      branch _ (refuses_alike 4) (need_alike "_" tt)

-- ---------------------------------------------------------------- the productions made of others

module _ {u v : Text} (read : Production → Reader Text) (on : (k : Production) → Alike u v (read k) (reading k)) where
  items_alike : (k : Production) (l : List Text) → Alike u v (one_more (read k) l) (one_more (reading k) l)
  items_alike k l = bind (on k) λ t. returns _

  -- encodings

  bare_function_type_alike : Alike u v (g.bare_function_type read) (g.bare_function_type reading)
  unfolding g.bare_function_type
  bare_function_type_alike =
      bind (while_alike _ _ (items_alike ⟨type⟩) (items_shrink ⟨type⟩) (λ t. not (ended t)) (λ w u v. ap not (ended_blind w u v)) []) λ ts.
      told (λ t. if only_void ts && same t [] then [] otherwise join (b ", ") ts) (λ w u v. rw (empty_blind w u v)) give_alike

  function_or_data_alike : Alike u v (g.function_or_data read) (g.function_or_data reading)
  unfolding g.function_or_data
  function_or_data_alike =
      bind (on ⟨name⟩) λ n.
      bind (field (λ s. s.cv) λ s t. refl) λ q.
      bind (set_cv_alike []) λ _.
      ask ended ended_blind (give_alike _)
      (bind (field (λ s. s.templated) λ s t. refl) λ templated.
      bind (branch templated (bind (on ⟨type⟩) λ r. returns _) (returns [])) λ r.
      bind bare_function_type_alike λ ps. give_alike _)

  -- behind GTt and GV nothing is left, so that the dot has been passed
  anew_alike : (k : Production) → Alike u v (g.anew read k) (g.anew reading k)
  unfolding g.anew onto go_to
  anew_alike k = alike λ s p. gone s (read k (start s.rest)) _
    where
      gone : {m : Bool} (s : State) (q r : Result Text) → Same u v m (onto (λ t _. onto (λ _. λ z. ok t z) (go_to [] s)) q) r
      gone s (ok x z) r = passes {s = moved [] s} (omega arith)
      gone s (refused k) r = refuses

  encoding_alike : Alike u v (g.encoding read) (g.encoding reading)
  unfolding g.encoding g.encoding_with g.thunks undotted holds coded all_coded all_undotted labels b
  encoding_alike =
      by_table_alike _ tt tt (λ w. bind (on ⟨type⟩) λ t. give_alike _)
      (by_code_alike tt
      (row tt (bind (anew_alike ⟨encoding⟩) λ t. give_alike _)
      (row tt (bind (anew_alike ⟨name⟩) λ t. give_alike _)
      (row tt (bind offset_alike λ _. bind function_or_data_alike λ t. give_alike _)
      (row tt (bind offset_alike λ _. bind offset_alike λ _. bind function_or_data_alike λ t. give_alike _) end))))
      function_or_data_alike)

  -- names

  name_args_alike : Alike u v (g.name_args read) (g.name_args reading)
  unfolding g.name_args
  name_args_alike = bind (set_args_alike []) λ _. on ⟨template-args⟩

  name_instance_alike : (x : Text) → Alike u v (g.name_instance read x) (g.name_instance reading x)
  unfolding g.name_instance
  name_instance_alike x = bind name_args_alike λ a. bind (set_templated_alike true) λ _. recorded_alike _

  std_name_alike : Alike u v (g.std_name read) (g.std_name reading)
  unfolding g.std_name undotted holds coded all_undotted b
  std_name_alike =
      bind (need_alike "St" tt) λ _.
      bind (on ⟨unqualified-name⟩) λ x.
      bind (push_sub_alike _) λ _.
      at_code_alike tt (row tt (name_instance_alike _) end) (give_alike _)

  s_name_alike : Alike u v (g.s_name read) (g.s_name reading)
  unfolding g.s_name undotted holds coded all_undotted b
  s_name_alike =
      ask std_ahead std_blind std_name_alike
      (bind (on ⟨substitution⟩) λ x. at_code_alike tt (row tt (name_instance_alike x) end) (returns x))

  unscoped_name_alike : Alike u v (g.unscoped_name read) (g.unscoped_name reading)
  unfolding g.unscoped_name undotted holds coded all_undotted b
  unscoped_name_alike =
      bind (on ⟨unqualified-name⟩) λ x.
      at_code_alike tt (row tt (bind (push_sub_alike x) λ _. name_instance_alike x) end) (returns x)

  local_encoding_alike : Alike u v (g.local_encoding read) (g.local_encoding reading)
  unfolding g.local_encoding undotted holds b
  local_encoding_alike =
      bind (on ⟨name⟩) λ n.
      bind (see_alike "E" tt) λ bare.
      bind
      (branch bare (returns [])
      (bind
      (while_alike _ _ (items_alike ⟨type⟩) (items_shrink ⟨type⟩) (λ t. not (same t [] || starts t (b "E"))) (λ w u v. ap not (list_blind w u v)) []) λ ts.
      bind (give_alike _) λ w. returns _)) λ ps.
      bind (need_alike "E" tt) λ _. give_alike _

  local_name_alike : Alike u v (g.local_name read) (g.local_name reading)
  unfolding g.local_name undotted holds coded all_undotted b
  local_name_alike =
      bind (need_alike "Z" tt) λ _.
      bind local_encoding_alike λ outer.
      by_code_alike tt (row tt (give_alike _) end) (bind (on ⟨name⟩) λ n. give_alike _)

  name_alike : Alike u v (g.name read) (g.name reading)
  unfolding g.name g.name_inner undotted holds coded all_undotted b
  name_alike =
      entered_alike
      (at_code_alike tt
      (row tt (on ⟨nested-name⟩)
      (row tt s_name_alike
      (row tt (bind (need_alike "L" tt) λ _. on ⟨name⟩)
      (row tt local_name_alike end))))
      unscoped_name_alike)

  -- nested names

  ctor_dtor_name_read :
      (p : Parts) {t : Text} (s : State) (l : Place u t) → T (structor_ahead t) →
      Same u v (ahead_of l) (g.ctor_dtor_name read p (moved t s)) (g.ctor_dtor_name reading p (moved (other v l) s))
  unfolding g.ctor_dtor_name structor_ahead onto go_to starts holds digit digit_value if◌then◌otherwise◌ b
  ctor_dtor_name_read p s (before []) h = absurd (rw (structor_dot u) at h)
  ctor_dtor_name_read p s (before (x ∷ [])) h = absurd (both (holds x (b "CD")) _ h).1
  ctor_dtor_name_read p s (before (x ∷ y ∷ w)) h = reads {s = moved (w ++ (dot ∷ u)) s} (before w)
  ctor_dtor_name_read p s (behind {t = t} l) h = reads {s = moved (drop 2 t) s} (behind {t = drop 2 t} (simp length-drop (omega arith)))

  old_prefix_alike : (p : Parts) → Alike u v (g.old_prefix read p) (g.old_prefix reading p)
  unfolding g.old_prefix
  old_prefix_alike p = bind (on ⟨substitution⟩) λ x. returns _

  prefix_args_alike : (p : Parts) → Alike u v (g.prefix_args read p) (g.prefix_args reading p)
  unfolding g.prefix_args undotted holds b
  prefix_args_alike p =
      bind name_args_alike λ a.
      bind (chosen _ (λ _. push_sub_alike _) (refuses_alike 4)) λ _.
      bind (see_alike "E" tt) λ final.
      bind (set_templated_alike final) λ _. returns _

  new_prefix_alike : (k : Production) (p : Parts) → Alike u v (g.new_prefix read k p) (g.new_prefix reading k p)
  unfolding g.new_prefix undotted holds b
  new_prefix_alike k p =
      bind (on k) λ x.
      bind (see_alike "E" tt) λ final.
      bind (branch final (returns tt) (push_sub_alike _)) λ _. returns _

  part_alike :
      (c : Bool) {m : Bool} (f g f' g' : Reader Parts) (s s' : State) → (T c → Same u v m (f s) (f' s')) → Same u v m (g s) (g' s') →
      Same u v m ((if c then f otherwise g) s) ((if c then f' otherwise g') s')
  unfolding if◌then◌otherwise◌
  part_alike true f g f' g' s s' h k = h tt
  part_alike false f g f' g' s s' h k = k

  prefix_alike : (p : Parts) → Alike u v (g.prefix read p) (g.prefix reading p)
  unfolding g.prefix onto undotted holds coded all_undotted b
  prefix_alike p =
      alike λ s l. rw (← unseen structor_ahead v structor_blind l)
      (part_alike (structor_ahead s.rest) _ _ _ _ s _ (ctor_dtor_name_read p s l)
      (at (at_code_alike tt
      (row tt (old_prefix_alike p)
      (row tt (prefix_args_alike p)
      (row tt (new_prefix_alike ⟨template-param⟩ p) end)))
      (new_prefix_alike ⟨unqualified-name⟩ p)) s l))

  nested_name_alike : Alike u v (g.nested_name read) (g.nested_name reading)
  unfolding g.nested_name undotted holds b
  nested_name_alike =
      bind (need_alike "N" tt) λ _.
      bind (every_alike _) λ q.
      bind (up_to_E_alike _ _ prefix_alike parts_shrink _) λ p.
      bind (set_cv_alike _) λ _.
      bind (branch _ (set_templated_alike false) (returns tt)) λ _. give_alike _

  -- unqualified names

  unqualified_name_alike : Alike u v (g.unqualified_name read) (g.unqualified_name reading)
  unfolding g.unqualified_name undotted holds coded all_undotted b
  unqualified_name_alike =
      by_code_alike tt
      (row tt (bind any_alike λ _. give_alike _)
      (row tt (bind any_alike λ _. give_alike _)
      (row tt unnamed_alike
      (row tt (on ⟨unqualified-name⟩) end))))
      (bind (asked digit_ahead digit_blind) λ d. on _)

  -- a source name behind its digits
  abbrev tags : (Production → Reader Text) → Text → Reader Text
  tags r x = cases ("B" ⇒ (λ s. onto (λ w. give (x ++ b "[abi:" ++ w ++ b "]")) (r ⟨source-name⟩ s)) ∷ []) (give x)

  tags_alike : (x : Text) → Alike u v (tags read x) (tags reading x)
  unfolding undotted holds coded all_undotted b
  tags_alike x = by_code_alike tt (row tt (bind (on ⟨source-name⟩) λ w. give_alike _) end) (give_alike x)

  abbrev sized : (Production → Reader Text) → ℕ → Text → Reader Text
  sized r n t = if nat_le 1 n && nat_le n (length t) then (λ s. onto (λ _. tags r (take n t)) (go_to (drop n t) s)) otherwise refuse 4

  -- a name that goes by the dot
  sized_past : {m : Bool} (n : ℕ) (t : Text) (s : State) (r : Result Text) → length (drop n t) ≤ length u → Same u v m (sized read n t s) r
  unfolding onto go_to if◌then◌otherwise◌
  sized_past {m} n t s r l = go (nat_le 1 n && nat_le n (length t))
    where
      go : (c : Bool) → Same u v m ((if c then (λ z. onto (λ _. tags read (take n t)) (go_to (drop n t) z)) otherwise refuse 4) s) r
      go true = stays_past m r (at (tags_alike (take n t)) (moved (drop n t) s) (behind {t = drop n t} l)) refl
      go false = refuses

  -- a name that ends before the dot
  sized_before : (n : ℕ) (w : Text) (s : State) → n ≤ length w → Same u v true (sized read n (w ++ (dot ∷ u)) s) (sized reading n (w ++ (dot ∷ v)) (moved (w ++ (dot ∷ v)) s))
  unfolding onto go_to if◌then◌otherwise◌
  sized_before n w s h =
      let i : n ≤ length (w ++ (dot ∷ u)) = simp length-append (omega arith) in
      let j : n ≤ length (w ++ (dot ∷ v)) = simp length-append (omega arith) in
      rw (
        le-leb n (length (w ++ (dot ∷ u))) i,
        le-leb n (length (w ++ (dot ∷ v))) j,
        take-append-le n w (dot ∷ u) h,
        take-append-le n w (dot ∷ v) h,
        drop-append-le n w (dot ∷ u) h,
        drop-append-le n w (dot ∷ v) h,
      )
      (go (nat_le 1 n && true))
    where
      named_by : (Production → Reader Text) → Text → Bool → Reader Text
      named_by r t c = if c then (λ z. onto (λ _. tags r (take n w)) (go_to (drop n w ++ (dot ∷ t)) z)) otherwise refuse 4

      go : (c : Bool) → Same u v true (named_by read u c s) (named_by reading v c (moved (w ++ (dot ∷ v)) s))
      go true = at (tags_alike (take n w)) (moved (drop n w ++ (dot ∷ u)) s) (before (drop n w))
      go false = refuses

  sized_read : (n : ℕ) {t : Text} (s : State) (p : Place u t) → Same u v (ahead_of p) (sized read n t s) (sized reading n (other v p) (moved (other v p) s))
  sized_read n s (behind {t = t} l) = sized_past n t s _ (simp length-drop (omega arith))
  sized_read n s (before w) = go (nat_le n (length w)) refl
    where
      go : (c : Bool) → nat_le n (length w) ≡ c → Same u v true (sized read n (w ++ (dot ∷ u)) s) (sized reading n (w ++ (dot ∷ v)) (moved (w ++ (dot ∷ v)) s))
      go true e = sized_before n w s (leb-true n (length w) e)
      go false e = let l = leb-false n (length w) e in sized_past n (w ++ (dot ∷ u)) s _ (simp (length-drop, length-append) (omega arith))

  source_name_alike : Alike u v (g.source_name read) (g.source_name reading)
  unfolding g.source_name onto
  source_name_alike = bind (every_alike _) λ d. alike λ s p. sized_read (number 10 0 d) s p

  operator_name_alike : Alike u v (g.operator_name read) (g.operator_name reading)
  unfolding g.operator_name undotted holds coded all_coded all_undotted operators b
  operator_name_alike =
      by_table_alike _ tt tt (λ w. give_alike _)
      (by_code_alike tt
      (row tt (bind (on ⟨type⟩) λ t. bind (set_templated_alike false) λ _. give_alike _) end)
      (refuses_alike 4))

  -- types

  wrapped_alike : (w : String × String) → Alike u v (g.wrapped read w) (g.wrapped reading w)
  unfolding g.wrapped
  wrapped_alike w = bind (on ⟨type⟩) λ t. recorded_alike _

  function_type_alike : Alike u v (g.function_type read) (g.function_type reading)
  unfolding g.function_type
  function_type_alike =
      bind (on ⟨type⟩) λ r.
      bind (up_to_E_alike _ _ (items_alike ⟨type⟩) (items_shrink ⟨type⟩) []) λ ts. recorded_alike _

  array_type_alike : Alike u v (g.array_type read) (g.array_type reading)
  unfolding g.array_type undotted holds b
  array_type_alike =
      bind (every_alike _) λ n.
      bind (need_alike "_" tt) λ _.
      bind (on ⟨type⟩) λ t. give_alike _

  pointer_to_member_type_alike : Alike u v (g.pointer_to_member_type read) (g.pointer_to_member_type reading)
  unfolding g.pointer_to_member_type
  pointer_to_member_type_alike = bind (on ⟨type⟩) λ c. bind (on ⟨type⟩) λ m. recorded_alike _

  type_instance_alike : (x : Text) → Alike u v (g.type_instance read x) (g.type_instance reading x)
  unfolding g.type_instance
  type_instance_alike x = bind (on ⟨template-args⟩) λ a. recorded_alike _

  nested_type_alike : Alike u v (g.nested_type read) (g.nested_type reading)
  unfolding g.nested_type
  nested_type_alike =
      bind (on ⟨nested-name⟩) λ t.
      bind (field (λ s. s.subs) λ s t. refl) λ l. branch _ (returns t) (recorded_alike t)

  class_type_alike : Alike u v (g.class_type read) (g.class_type reading)
  unfolding g.class_type undotted holds coded all_undotted b
  class_type_alike =
      bind (on ⟨source-name⟩) λ x.
      bind (push_sub_alike x) λ _.
      at_code_alike tt (row tt (type_instance_alike x) end) (give_alike x)

  s_type_alike : Alike u v (g.s_type read) (g.s_type reading)
  unfolding g.s_type undotted holds coded all_undotted b
  s_type_alike =
      ask std_ahead std_blind std_name_alike
      (bind (on ⟨substitution⟩) λ x. at_code_alike tt (row tt (type_instance_alike x) end) (returns x))

  type_alike : Alike u v (g.type read) (g.type reading)
  unfolding g.type g.type_inner undotted holds coded all_coded all_undotted letters d_letters wrappers b
  type_alike =
      entered_alike
      (by_table_alike _ tt tt (λ w. give_alike _)
      (by_table_alike _ tt tt (λ w. give_alike _)
      (by_table_alike _ tt tt wrapped_alike
      (by_code_alike tt
      (row tt function_type_alike
      (row tt array_type_alike
      (row tt pointer_to_member_type_alike
      (row tt (on ⟨source-name⟩) end))))
      (at_code_alike tt
      (row tt nested_type_alike
      (row tt (on ⟨template-param⟩)
      (row tt s_type_alike end)))
      class_type_alike)))))

  -- template arguments

  template_args_alike : Alike u v (g.template_args read) (g.template_args reading)
  unfolding g.template_args undotted holds b
  template_args_alike =
      bind (need_alike "I" tt) λ _.
      entered_alike
      (bind
      (up_to_E_alike _ _ (λ l. bind (bind (on ⟨template-arg⟩) λ t. bind (push_arg_alike t) λ _. returns t) λ t. returns _) args_shrink []) λ ts.
      give_alike _)

  abbrev skips : Option Text → Reader Text
  skips o = choose o (λ t s. onto (λ _. give (b "...")) (go_to t s)) (refuse 4)

  -- an expression that goes by the dot
  skipped_past : {m : Bool} {t : Text} (o : Option Text) (s : State) (r : Result Text) → Left t o → length t ≤ length u → Same u v m (skips o s) r
  unfolding choose onto go_to
  skipped_past none s r stuck h = refuses
  skipped_past (some z) s r (fewer l) h = stays_past _ r (at (give_alike (b "...")) (moved z s) (behind {t = z} (omega (arith, l, h)))) refl

  skipped_read : (w : Text) (d : ℕ) (s : State) (z : Text) → Same u v true (skips (skipped (w ++ (dot ∷ u)) d) s) (skips (skipped (w ++ (dot ∷ v)) d) (moved z s))
  unfolding skipped choose onto go_to
  skipped_read [] zero s z = at (give_alike (b "...")) (moved (dot ∷ u) s) (before [])
  skipped_read [] (suc d) s z = skipped_past _ s _ (skipped_shorter u (open_after dot (suc d))) (omega arith)
  skipped_read (x ∷ w) zero s z = at (give_alike (b "...")) (moved (x ∷ (w ++ (dot ∷ u))) s) (before (x ∷ w))
  skipped_read (x ∷ w) (suc d) s z = skipped_read w (open_after x (suc d)) s z

  expression_read : {t : Text} (s : State) (p : Place u t) → Same u v (ahead_of p) (skips (skipped t 1) s) (skips (skipped (other v p) 1) (moved (other v p) s))
  expression_read s (before w) = skipped_read w 1 s (w ++ (dot ∷ v))
  expression_read s (behind {t = t} l) = skipped_past _ s _ (skipped_shorter t 1) l

  expression_alike : Alike u v (g.expression read) (g.expression reading)
  unfolding g.expression onto
  expression_alike = alike λ s p. expression_read s p

  pack_alike : Alike u v (g.pack read) (g.pack reading)
  unfolding g.pack
  pack_alike = bind (up_to_E_alike _ _ (items_alike ⟨template-arg⟩) (items_shrink ⟨template-arg⟩) []) λ ts. give_alike _

  template_arg_alike : Alike u v (g.template_arg read) (g.template_arg reading)
  unfolding g.template_arg undotted holds coded all_undotted b
  template_arg_alike =
      by_code_alike tt (row tt expression_alike (row tt pack_alike end))
      (at_code_alike tt (row tt (on ⟨expr-primary⟩) end) (on ⟨type⟩))

  expr_primary_alike : Alike u v (g.expr_primary read) (g.expr_primary reading)
  unfolding g.expr_primary undotted holds coded all_undotted b
  expr_primary_alike =
      bind (need_alike "L" tt) λ _.
      by_code_alike tt
      (row tt (bind (on ⟨name⟩) λ n. bind (eat_alike "E" tt) λ _. returns n) end)
      (bind (on ⟨type⟩) λ t.
      bind (every_alike _) λ x.
      bind (need_alike "E" tt) λ _. give_alike _)

  production_alike : (k : Production) → Alike u v (g.production read k) (g.production reading k)
  unfolding g.production
  production_alike ⟨encoding⟩ = encoding_alike
  production_alike ⟨name⟩ = name_alike
  production_alike ⟨nested-name⟩ = nested_name_alike
  production_alike ⟨unqualified-name⟩ = unqualified_name_alike
  production_alike ⟨source-name⟩ = source_name_alike
  production_alike ⟨operator-name⟩ = operator_name_alike
  production_alike ⟨type⟩ = type_alike
  production_alike ⟨template-param⟩ = template_param_alike
  production_alike ⟨template-args⟩ = template_args_alike
  production_alike ⟨template-arg⟩ = template_arg_alike
  production_alike ⟨expr-primary⟩ = expr_primary_alike
  production_alike ⟨substitution⟩ = substitution_alike

reading_parse : (k : Production) (s : State) → reading k s ≡ g.parse (4 * suc (unread s)) k s
unfolding reading
reading_parse k s = refl

module _ {u v : Text} where
  parse_alike : (n : ℕ) (k : Production) → Alike u v (g.parse n k) (reading k)
  unfolding g.parse
  parse_alike zero k = alike λ s p. refuses
  parse_alike (suc n) k = alike λ s p. rw (reading_is k (moved (other v p) s)) (at (production_alike (g.parse n) (parse_alike n) k) s p)

  pub reading_alike : (k : Production) → Alike u v (reading k) (reading k)
  reading_alike k = alike λ s p. rw (reading_parse k s) (at (parse_alike (4 * suc (unread s)) k) s p)
