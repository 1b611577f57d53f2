-- Fuel can be forgotten: no reading runs out of it, and `reading` is made of its productions with itself as their `read`.
-- Each production reads a byte before it reads one of no lower rank; two readings that agree on fewer bytes agree.
use Rattle.std.specs.Prelude.{◌≡◌, ℕ, zero, suc, ◌+◌, ◌*◌, ◌<◌, ◌≤◌, Bool, true, false, ◌&&◌, T, [], ◌∷◌, length, drop, ◌≢◌, nat_le}
use Rattle.std.proofs.Math.Option.{Option, none, some}
use Rattle.std.proofs.Common.{ap, ◌∙◌, length-drop, leb→le}
use native.Mathlib.Omega.{arith}
use Prim.Native.String.{String}
use Rattle.grammar.specs.Text.{Text, b, if◌then◌otherwise◌, choose, number}
use Rattle.grammar.specs.Laws.Text.{both}
use Rattle.grammar.specs.Tables.{letters, d_letters, operators, labels, abbreviations, wrappers}
use Rattle.grammar.specs.Reader.{State, Result, ok, refused, Reader, onto, give, go_to, set_args, push_arg, one_more, start}
use Rattle.grammar.specs.Grammar.{Production, ⟨encoding⟩, ⟨name⟩, ⟨nested-name⟩, ⟨unqualified-name⟩, ⟨source-name⟩, ⟨operator-name⟩, ⟨type⟩}
use Rattle.grammar.specs.Grammar.{⟨template-param⟩, ⟨template-args⟩, ⟨template-arg⟩, ⟨expr-primary⟩, ⟨substitution⟩, Parts, skipped, open_after}
use Rattle.grammar.specs.Grammar.{unnamed_type_name, template_param, substitution, unsigned, offset, reading}
use Rattle.grammar.specs.Grammar as g
use Rattle.grammar.specs.Names.{Answer, named, refusal, demangle, mangled_name, front, finished}
use Rattle.grammar.specs.Laws.Agree.{unread, Agree, reads, refuses, agree_eq, bind, weaken, tested, branch, chosen, coded, end, row, all_coded}
use Rattle.grammar.specs.Laws.Agree.{by_code_agree, by_table_agree, at_code_agree, Keeps, Takes, Shrinks, go_to_agree, every_keeps, give_keeps}
use Rattle.grammar.specs.Laws.Agree.{set_cv_keeps, set_templated_keeps, push_sub_keeps, push_arg_keeps, recorded_keeps, entered_agree, eat_keeps}
use Rattle.grammar.specs.Laws.Agree.{see_keeps, need_takes, need_keeps, any_keeps, while_keeps, up_to_E_keeps}

-- ---------------------------------------------------------------- productions of letters and digits alone

-- a length that fits, taken off
taken : (n m : ℕ) (t : Text) → T (nat_le 1 m && nat_le m (length t)) → length t < suc n → length (drop m t) < n
taken n m t h l =
    let (p, q) = both (nat_le 1 m) (nat_le m (length t)) h in
    let j = leb→le 1 m p in
    let i = leb→le m (length t) q in
    simp length-drop (omega arith)

-- what is left behind an expression is no more than there was
pub data Left (t : Text) : Option Text → Type 0 where
  stuck : Left t none
  fewer : {u : Text} → length u ≤ length t → Left t (some u)

longer : {t : Text} {o : Option Text} (x : ℕ) → Left t o → Left (x ∷ t) o
longer x stuck = stuck
longer x (fewer {u = u} l) = fewer {u = u} (omega arith)

pub skipped_shorter : (t : Text) (d : ℕ) → Left t (skipped t d)
unfolding skipped
skipped_shorter [] zero = fewer {u = []} (omega arith)
skipped_shorter [] (suc d) = stuck
skipped_shorter (c ∷ t) zero = fewer {u = c ∷ t} (omega arith)
skipped_shorter (c ∷ t) (suc d) = longer c (skipped_shorter t (open_after c (suc d)))

module _ {n : ℕ} where
  unnamed_keeps : Keeps n unnamed_type_name unnamed_type_name
  unfolding unnamed_type_name coded b
  unnamed_keeps s h =
      bind (any_keeps s h) λ kind u k.
      bind (branch _ _ _ _ _ u (bind (every_keeps _ u k) λ _ v l. need_keeps "E" tt v l) (reads k)) λ _ v l.
      bind (every_keeps _ v l) λ _ w m.
      bind (eat_keeps "_" w m) λ _. give_keeps _

  template_param_takes : Takes n template_param template_param
  unfolding template_param onto coded b
  template_param_takes s h =
      bind (need_takes "T" tt s h) λ _ u k.
      bind (every_keeps _ u k) λ d v l.
      bind (need_keeps "_" tt v l) λ _ w m.
      branch _ _ _ _ _ w (chosen _ _ _ _ _ w (λ x. give_keeps x w m) (give_keeps _ w m)) refuses

  substitution_takes : Takes n substitution substitution
  unfolding substitution onto coded all_coded b abbreviations
  substitution_takes s h =
      bind (need_takes "S" tt s h) λ _ u k.
      by_table_agree _ _ _ _ _ tt (λ w v l. give_keeps _ v (omega (arith, k, l)))
      (bind (every_keeps _ u k) λ d v l.
      bind (need_keeps "_" tt v l) λ _ w m.
      chosen _ _ _ _ _ w (λ x. give_keeps x w m) refuses)

  offset_keeps : Keeps n offset offset
  unfolding offset unsigned onto coded b
  offset_keeps s h =
      bind (eat_keeps "n" s h) λ _ u k.
      bind (every_keeps _ u k) λ d v l.
      branch _ _ _ _ _ v refuses (need_keeps "_" tt v l)

-- ---------------------------------------------------------------- the productions made of others

-- two ways to read that agree before fewer than n bytes
module _ (read read' : Production → Reader Text) (n : ℕ) (below : (k : Production) (u : State) → unread u < n → Agree (unread u) (read k u) (read' k u)) where
  abbrev Here : Production → Type 0
  Here k = Takes n (read k) (read' k)

  on : (k : Production) → Keeps n (read k) (read' k)
  on k u h = weaken (omega arith) (below k u h)

  either : (c : Bool) (j k : Production) (s : State) → Agree n (read j s) (read' j s) → Agree n (read k s) (read' k s) → Agree n (read (if c then j otherwise k) s) (read' (if c then j otherwise k) s)
  unfolding if◌then◌otherwise◌
  either true j k s h i = h
  either false j k s h i = i

  types_shrink : Shrinks n (λ l. one_more (read ⟨type⟩) l) (λ l. one_more (read' ⟨type⟩) l)
  types_shrink l s h = bind (below ⟨type⟩ s h) λ t u k. reads k

  -- encodings

  bare_function_type_keeps : Keeps n (g.bare_function_type read) (g.bare_function_type read')
  unfolding g.bare_function_type onto
  bare_function_type_keeps s h = bind (while_keeps _ _ types_shrink _ [] s h) λ ts u k. give_keeps _ u k

  function_or_data_takes : Here ⟨name⟩ → Takes n (g.function_or_data read) (g.function_or_data read')
  unfolding g.function_or_data onto
  function_or_data_takes name s h =
      bind (name s h) λ x u k.
      bind (set_cv_keeps [] u k) λ _ v l.
      branch _ _ _ _ _ v (give_keeps _ v l)
      (bind (branch _ _ _ _ _ v (bind (on ⟨type⟩ v l) λ r w m. reads m) (reads l)) λ r w m.
      bind (bare_function_type_keeps w m) λ ps. give_keeps _)

  anew_keeps : (k : Production) → Keeps n (g.anew read k) (g.anew read' k)
  unfolding g.anew start
  anew_keeps k s h =
      bind (on k (start s.rest) h) λ t u l.
      bind (go_to_agree [] s (omega (arith, l))) λ _ v m. reads m

  encoding_takes : Here ⟨name⟩ → Takes n (g.encoding read) (g.encoding read')
  unfolding g.encoding g.encoding_with g.thunks all_coded labels coded b
  encoding_takes name s h =
      by_table_agree _ _ _ _ _ tt (λ w v l. bind (on ⟨type⟩ v (omega (arith, l, h))) λ t. give_keeps _)
      (by_code_agree _ _ _ _ _ _
      (row tt (λ v l. bind (anew_keeps ⟨encoding⟩ v (omega (arith, l, h))) λ t. give_keeps _)
      (row tt (λ v l. bind (anew_keeps ⟨name⟩ v (omega (arith, l, h))) λ t. give_keeps _)
      (row tt (λ v l. bind (offset_keeps v (omega (arith, l, h))) λ _ w m. bind (base w m) λ t. give_keeps _)
      (row tt (λ v l. bind (offset_keeps v (omega (arith, l, h))) λ _ w m. bind (offset_keeps w m) λ _ x i. bind (base x i) λ t. give_keeps _) end))))
      (function_or_data_takes name s h))
    where
      base : Keeps n (g.function_or_data read) (g.function_or_data read')
      base w m = function_or_data_takes name w (omega arith)

  -- names

  name_args_shrinks : (s : State) → unread s < n → Agree (unread s) (g.name_args read s) (g.name_args read' s)
  unfolding g.name_args onto set_args
  name_args_shrinks s h = below ⟨template-args⟩ _ h

  name_instance_keeps : (x : Text) → Keeps n (g.name_instance read x) (g.name_instance read' x)
  unfolding g.name_instance
  name_instance_keeps x s h =
      bind (name_args_shrinks s h) λ a u k.
      bind (set_templated_keeps true u k) λ _ v l.
      weaken (omega arith) (recorded_keeps _ v l)

  std_name_takes : Takes n (g.std_name read) (g.std_name read')
  unfolding g.std_name coded b
  std_name_takes s h =
      bind (need_takes "St" tt s h) λ _ u k.
      bind (on ⟨unqualified-name⟩ u k) λ x v l.
      bind (push_sub_keeps _ v l) λ _ w m.
      at_code_agree _ _ _ _ (row tt (name_instance_keeps _ w m) end) (give_keeps _ w m)

  s_name_takes : Here ⟨substitution⟩ → Takes n (g.s_name read) (g.s_name read')
  unfolding g.s_name onto coded b
  s_name_takes sub s h =
      branch _ _ _ _ _ s (std_name_takes s h)
      (bind (sub s h) λ x u k. at_code_agree _ _ _ _ (row tt (name_instance_keeps _ u k) end) (reads k))

  unscoped_name_takes : Here ⟨unqualified-name⟩ → Takes n (g.unscoped_name read) (g.unscoped_name read')
  unfolding g.unscoped_name coded b
  unscoped_name_takes name s h =
      bind (name s h) λ x u k.
      at_code_agree _ _ _ _ (row tt (bind (push_sub_keeps x u k) λ _. name_instance_keeps x) end) (reads k)

  local_encoding_keeps : Keeps n (g.local_encoding read) (g.local_encoding read')
  unfolding g.local_encoding coded b
  local_encoding_keeps s h =
      bind (on ⟨name⟩ s h) λ x u k.
      bind (see_keeps "E" u k) λ bare v l.
      bind
      (branch _ _ _ _ _ v (reads l)
      (bind (while_keeps _ _ types_shrink _ [] v l) λ ts w m. bind (give_keeps _ w m) λ p y j. reads j)) λ ps w m.
      bind (need_keeps "E" tt w m) λ _. give_keeps _

  local_name_takes : Takes n (g.local_name read) (g.local_name read')
  unfolding g.local_name coded b
  local_name_takes s h =
      bind (need_takes "Z" tt s h) λ _ u k.
      bind (local_encoding_keeps u k) λ outer v l.
      by_code_agree _ _ _ _ _ _ (row tt (λ w m. give_keeps _ w (omega (arith, l, m))) end)
      (bind (on ⟨name⟩ v l) λ x. give_keeps _)

  name_takes : Here ⟨nested-name⟩ → Here ⟨substitution⟩ → Here ⟨unqualified-name⟩ → Takes n (g.name read) (g.name read')
  unfolding g.name g.name_inner coded b
  name_takes nested sub name =
      entered_agree _ _ λ s h.
      at_code_agree _ _ _ _
      (row tt (nested s h)
      (row tt (s_name_takes sub s h)
      (row tt (bind (need_takes "L" tt s h) λ _. on ⟨name⟩)
      (row tt (local_name_takes s h) end))))
      (unscoped_name_takes name s h)

  -- nested names

  ctor_dtor_name_shrinks : (p : Parts) (s : State) → T (g.structor_ahead s.rest) → Agree (unread s) (g.ctor_dtor_name read p s) (g.ctor_dtor_name read' p s)
  unfolding g.ctor_dtor_name g.structor_ahead onto
  ctor_dtor_name_shrinks p s h = bind (go_to_agree (drop 2 s.rest) s (shorter s.rest h)) λ _ u k. reads k
    where
      shorter : (t : Text) → T (g.structor_ahead t) → length (drop 2 t) < length t
      shorter [] k = absurd k
      shorter (x ∷ []) k = absurd k
      shorter (x ∷ y ∷ t) k = omega arith

  old_prefix_shrinks : Shrinks n (g.old_prefix read) (g.old_prefix read')
  unfolding g.old_prefix
  old_prefix_shrinks p s h = bind (below ⟨substitution⟩ s h) λ x u k. reads k

  prefix_args_shrinks : Shrinks n (g.prefix_args read) (g.prefix_args read')
  unfolding g.prefix_args
  prefix_args_shrinks p s h =
      bind (name_args_shrinks s h) λ a u k.
      bind (chosen _ _ _ _ _ u (λ x. push_sub_keeps _ u k) refuses) λ _ v l.
      bind (see_keeps "E" v l) λ final w m.
      bind (set_templated_keeps final w m) λ _ y j. reads j

  new_prefix_shrinks : (k : Production) → Shrinks n (g.new_prefix read k) (g.new_prefix read' k)
  unfolding g.new_prefix
  new_prefix_shrinks k p s h =
      bind (below k s h) λ x u k.
      bind (see_keeps "E" u k) λ final v l.
      bind (branch _ _ _ _ _ v (reads l) (push_sub_keeps _ v l)) λ _ w m. reads m

  pub prefix_shrinks : Shrinks n (g.prefix read) (g.prefix read')
  unfolding g.prefix onto coded b
  prefix_shrinks p s h =
      tested _ _ _ _ _ s (ctor_dtor_name_shrinks p s)
      (at_code_agree _ _ _ _
      (row tt (old_prefix_shrinks p s h)
      (row tt (prefix_args_shrinks p s h)
      (row tt (new_prefix_shrinks ⟨template-param⟩ p s h) end)))
      (new_prefix_shrinks ⟨unqualified-name⟩ p s h))

  nested_name_takes : Takes n (g.nested_name read) (g.nested_name read')
  unfolding g.nested_name coded b
  nested_name_takes s h =
      bind (need_takes "N" tt s h) λ _ u k.
      bind (every_keeps _ u k) λ q v l.
      bind (up_to_E_keeps _ _ prefix_shrinks _ v l) λ p w m.
      bind (set_cv_keeps _ w m) λ _ x j.
      bind (branch _ _ _ _ _ x (set_templated_keeps false x j) (reads j)) λ _. give_keeps _

  -- unqualified names

  unqualified_name_takes : Here ⟨source-name⟩ → Here ⟨operator-name⟩ → Takes n (g.unqualified_name read) (g.unqualified_name read')
  unfolding g.unqualified_name onto coded b
  unqualified_name_takes source operator s h =
      by_code_agree _ _ _ _ _ _
      (row tt (λ u k. bind (any_keeps u (omega (arith, h, k))) λ _. give_keeps _)
      (row tt (λ u k. bind (any_keeps u (omega (arith, h, k))) λ _. give_keeps _)
      (row tt (λ u k. unnamed_keeps u (omega (arith, h, k)))
      (row tt (λ u k. on ⟨unqualified-name⟩ u (omega (arith, h, k))) end))))
      (either _ _ _ s (source s h) (operator s h))

  source_name_takes : Takes n (g.source_name read) (g.source_name read')
  unfolding g.source_name onto coded b
  source_name_takes s h =
      bind (every_keeps {n = suc n} _ s h) λ d u k.
      tested _ _ _ _ _ u
      (λ c.
      bind (go_to_agree _ u (taken n (number 10 0 d) u.rest c k)) λ _ v l.
      by_code_agree _ _ _ _ _ _
      (row tt (λ w m. bind (on ⟨source-name⟩ w (omega (arith, l, m))) λ t. give_keeps _) end)
      (give_keeps _ v l))
      refuses

  operator_name_takes : Takes n (g.operator_name read) (g.operator_name read')
  unfolding g.operator_name all_coded operators coded b
  operator_name_takes s h =
      by_table_agree _ _ _ _ _ tt (λ w u k. give_keeps _ u (omega (arith, h, k)))
      (by_code_agree _ _ _ _ _ _
      (row tt (λ u k. bind (on ⟨type⟩ u (omega (arith, h, k))) λ t v l. bind (set_templated_keeps false v l) λ _. give_keeps _) end)
      refuses)

  -- types

  wrapped_keeps : (w : String × String) → Keeps n (g.wrapped read w) (g.wrapped read' w)
  unfolding g.wrapped
  wrapped_keeps w s h = bind (on ⟨type⟩ s h) λ t. recorded_keeps _

  function_type_keeps : Keeps n (g.function_type read) (g.function_type read')
  unfolding g.function_type
  function_type_keeps s h =
      bind (on ⟨type⟩ s h) λ r u k.
      bind (up_to_E_keeps _ _ types_shrink [] u k) λ ts. recorded_keeps _

  array_type_keeps : Keeps n (g.array_type read) (g.array_type read')
  unfolding g.array_type coded b
  array_type_keeps s h =
      bind (every_keeps _ s h) λ d u k.
      bind (need_keeps "_" tt u k) λ _ v l.
      bind (on ⟨type⟩ v l) λ t. give_keeps _

  pointer_to_member_type_keeps : Keeps n (g.pointer_to_member_type read) (g.pointer_to_member_type read')
  unfolding g.pointer_to_member_type
  pointer_to_member_type_keeps s h =
      bind (on ⟨type⟩ s h) λ c u k.
      bind (on ⟨type⟩ u k) λ m. recorded_keeps _

  type_instance_keeps : (x : Text) → Keeps n (g.type_instance read x) (g.type_instance read' x)
  unfolding g.type_instance
  type_instance_keeps x s h = bind (on ⟨template-args⟩ s h) λ a. recorded_keeps _

  nested_type_takes : Here ⟨nested-name⟩ → Takes n (g.nested_type read) (g.nested_type read')
  unfolding g.nested_type onto
  nested_type_takes nested s h =
      bind (nested s h) λ t u k. branch _ _ _ _ _ u (reads k) (recorded_keeps t u k)

  class_type_takes : Here ⟨source-name⟩ → Takes n (g.class_type read) (g.class_type read')
  unfolding g.class_type coded b
  class_type_takes source s h =
      bind (source s h) λ x u k.
      bind (push_sub_keeps x u k) λ _ v l.
      at_code_agree _ _ _ _ (row tt (type_instance_keeps x v l) end) (give_keeps x v l)

  s_type_takes : Here ⟨substitution⟩ → Takes n (g.s_type read) (g.s_type read')
  unfolding g.s_type onto coded b
  s_type_takes sub s h =
      branch _ _ _ _ _ s (std_name_takes s h)
      (bind (sub s h) λ x u k. at_code_agree _ _ _ _ (row tt (type_instance_keeps x u k) end) (reads k))

  type_takes : Here ⟨source-name⟩ → Here ⟨nested-name⟩ → Here ⟨template-param⟩ → Here ⟨substitution⟩ → Takes n (g.type read) (g.type read')
  unfolding g.type g.type_inner all_coded letters d_letters wrappers coded b
  type_takes source nested param sub =
      entered_agree _ _ λ s h.
      by_table_agree _ _ _ _ _ tt (λ w u k. give_keeps _ u (omega (arith, h, k)))
      (by_table_agree _ _ _ _ _ tt (λ w u k. give_keeps _ u (omega (arith, h, k)))
      (by_table_agree _ _ _ _ _ tt (λ w u k. wrapped_keeps w u (omega (arith, h, k)))
      (by_code_agree _ _ _ _ _ _
      (row tt (λ u k. function_type_keeps u (omega (arith, h, k)))
      (row tt (λ u k. array_type_keeps u (omega (arith, h, k)))
      (row tt (λ u k. pointer_to_member_type_keeps u (omega (arith, h, k)))
      (row tt (λ u k. on ⟨source-name⟩ u (omega (arith, h, k))) end))))
      (at_code_agree _ _ _ _
      (row tt (nested_type_takes nested s h)
      (row tt (param s h)
      (row tt (s_type_takes sub s h) end)))
      (class_type_takes source s h)))))

  -- template arguments

  args_shrink :
      Shrinks n
      (λ l. one_more (λ s. onto (λ t u. onto (λ _ v. ok t v) (push_arg t u)) (read ⟨template-arg⟩ s)) l)
      (λ l. one_more (λ s. onto (λ t u. onto (λ _ v. ok t v) (push_arg t u)) (read' ⟨template-arg⟩ s)) l)
  args_shrink l s h =
      bind (bind (below ⟨template-arg⟩ s h) λ t u k. bind (push_arg_keeps t u k) λ _ v m. reads m) λ t u k. reads k

  template_args_takes : Takes n (g.template_args read) (g.template_args read')
  unfolding g.template_args coded b
  template_args_takes s h =
      bind (need_takes "I" tt s h) λ _ u k.
      entered_agree _ _ (λ v l. bind (up_to_E_keeps _ _ args_shrink [] v l) λ ts. give_keeps _) u k

  expression_keeps : Keeps n (g.expression read) (g.expression read')
  unfolding g.expression onto choose
  expression_keeps s h = left (skipped s.rest 1) (skipped_shorter s.rest 1)
    where
      told : Option Text → Reader Text
      told o = choose o (λ u v. onto (λ _. give (b "...")) (go_to u v)) (λ _. refused 4)

      left : (o : Option Text) → Left s.rest o → Agree n (told o s) (told o s)
      left none stuck = refuses
      left (some u) (fewer l) = bind (go_to_agree u s (omega (arith, l, h))) λ _. give_keeps _

  pack_keeps : Keeps n (g.pack read) (g.pack read')
  unfolding g.pack
  pack_keeps s h =
      bind (up_to_E_keeps _ _ (λ l u k. bind (below ⟨template-arg⟩ u k) λ t v m. reads m) [] s h) λ ts. give_keeps _

  template_arg_takes : Here ⟨expr-primary⟩ → Here ⟨type⟩ → Takes n (g.template_arg read) (g.template_arg read')
  unfolding g.template_arg coded b
  template_arg_takes literal type s h =
      by_code_agree _ _ _ _ _ _
      (row tt (λ u k. expression_keeps u (omega (arith, h, k)))
      (row tt (λ u k. pack_keeps u (omega (arith, h, k))) end))
      (at_code_agree _ _ _ _ (row tt (literal s h) end) (type s h))

  expr_primary_takes : Takes n (g.expr_primary read) (g.expr_primary read')
  unfolding g.expr_primary coded b
  expr_primary_takes s h =
      bind (need_takes "L" tt s h) λ _ u k.
      by_code_agree _ _ _ _ _ _
      (row tt (λ v l. bind (on ⟨name⟩ v (omega (arith, k, l))) λ x w m. bind (eat_keeps "E" w m) λ _ y j. reads j) end)
      (bind (on ⟨type⟩ u k) λ t v l.
      bind (every_keeps _ v l) λ d w m.
      bind (need_keeps "E" tt w m) λ _. give_keeps _)

-- ---------------------------------------------------------------- the fuel

-- before its first byte a production reads those of a lower rank alone
unfoldable rank : Production → ℕ
rank ⟨encoding⟩ = 4
rank ⟨name⟩ = 3
rank ⟨nested-name⟩ = 1
rank ⟨unqualified-name⟩ = 2
rank ⟨source-name⟩ = 1
rank ⟨operator-name⟩ = 1
rank ⟨type⟩ = 2
rank ⟨template-param⟩ = 1
rank ⟨template-args⟩ = 1
rank ⟨template-arg⟩ = 3
rank ⟨expr-primary⟩ = 1
rank ⟨substitution⟩ = 1

rank_bounds : (k : Production) → (1 ≤ rank k) × (rank k ≤ 4)
unfolding rank
rank_bounds ⟨encoding⟩ = (omega arith, omega arith)
rank_bounds ⟨name⟩ = (omega arith, omega arith)
rank_bounds ⟨nested-name⟩ = (omega arith, omega arith)
rank_bounds ⟨unqualified-name⟩ = (omega arith, omega arith)
rank_bounds ⟨source-name⟩ = (omega arith, omega arith)
rank_bounds ⟨operator-name⟩ = (omega arith, omega arith)
rank_bounds ⟨type⟩ = (omega arith, omega arith)
rank_bounds ⟨template-param⟩ = (omega arith, omega arith)
rank_bounds ⟨template-args⟩ = (omega arith, omega arith)
rank_bounds ⟨template-arg⟩ = (omega arith, omega arith)
rank_bounds ⟨expr-primary⟩ = (omega arith, omega arith)
rank_bounds ⟨substitution⟩ = (omega arith, omega arith)

module _ (read read' : Production → Reader Text) (n : ℕ) (below : (k : Production) (u : State) → unread u < n → Agree (unread u) (read k u) (read' k u)) where
  production_takes : (k : Production) → ((j : Production) → rank j < rank k → Takes n (read j) (read' j)) → Takes n (g.production read k) (g.production read' k)
  unfolding g.production rank
  production_takes ⟨encoding⟩ at = encoding_takes read read' n below (at ⟨name⟩ (omega arith))
  production_takes ⟨name⟩ at =
      name_takes read read' n below (at ⟨nested-name⟩ (omega arith)) (at ⟨substitution⟩ (omega arith)) (at ⟨unqualified-name⟩ (omega arith))
  production_takes ⟨nested-name⟩ at = nested_name_takes read read' n below
  production_takes ⟨unqualified-name⟩ at =
      unqualified_name_takes read read' n below (at ⟨source-name⟩ (omega arith)) (at ⟨operator-name⟩ (omega arith))
  production_takes ⟨source-name⟩ at = source_name_takes read read' n below
  production_takes ⟨operator-name⟩ at = operator_name_takes read read' n below
  production_takes ⟨type⟩ at =
      type_takes read read' n below (at ⟨source-name⟩ (omega arith)) (at ⟨nested-name⟩ (omega arith))
      (at ⟨template-param⟩ (omega arith)) (at ⟨substitution⟩ (omega arith))
  production_takes ⟨template-param⟩ at = template_param_takes
  production_takes ⟨template-args⟩ at = template_args_takes read read' n below
  production_takes ⟨template-arg⟩ at = template_arg_takes read read' n below (at ⟨expr-primary⟩ (omega arith)) (at ⟨type⟩ (omega arith))
  production_takes ⟨expr-primary⟩ at = expr_primary_takes read read' n below
  production_takes ⟨substitution⟩ at = substitution_takes

-- with enough fuel two readings agree
enough :
    (e f : ℕ) (k : Production) (s : State) → 4 * unread s + rank k ≤ e → 4 * unread s + rank k ≤ f →
    Agree (unread s) (g.parse e k s) (g.parse f k s)
unfolding g.parse
enough zero f k s h i = let p = rank_bounds k in absurd (omega arith)
enough (suc e) zero k s h i = let p = rank_bounds k in absurd (omega arith)
enough (suc e) (suc f) k s h i =
    let p = rank_bounds k in
    production_takes (g.parse e) (g.parse f) (unread s)
    (λ j u l. let q = rank_bounds j in enough e f j u (omega arith) (omega arith)) k
    (λ j l u m. weaken (omega arith) (enough e f j u (omega arith) (omega arith))) s (omega arith)

agrees : (f : ℕ) (k : Production) (s : State) → 4 * unread s + rank k ≤ f → Agree (unread s) (g.parse f k s) (reading k s)
unfolding reading
agrees f k s h = let p = rank_bounds k in enough f (4 * suc (unread s)) k s h (omega arith)

-- what is enough for a name
pub name_fuelled : (f : ℕ) (s : State) → 4 * unread s + 3 ≤ f → g.parse f ⟨name⟩ s ≡ reading ⟨name⟩ s
unfolding rank
name_fuelled f s h = agree_eq (agrees f ⟨name⟩ s h)

-- fuel can be forgotten: a reading is its production with itself as `read`
pub reading_is : (k : Production) (s : State) → reading k s ≡ g.production reading k s
unfolding reading g.parse
reading_is k s =
    let p = rank_bounds k in
    let e : 4 * suc (unread s) ≡ suc (4 * unread s + 3) = omega arith in
    ap (λ (f : ℕ). g.parse f k s) e
    ∙ agree_eq (production_takes (g.parse (4 * unread s + 3)) reading (unread s)
    (λ j u l. let q = rank_bounds j in agrees (4 * unread s + 3) j u (omega arith)) k
    (λ j l u m. weaken (omega arith) (agrees (4 * unread s + 3) j u (omega arith))) s (omega arith))

-- a reading is no refusal 0, and reads a byte where it is a text
pub reading_ends : (k : Production) (s : State) → Agree (unread s) (reading k s) (reading k s)
unfolding reading
reading_ends k s = let p = rank_bounds k in agrees (4 * suc (unread s)) k s (omega arith)

-- a name, or a refusal with a number of document 01
data Told : Answer → Type 0 where
  by_name : {t : Text} → Told (named t)
  by_number : {r : ℕ} → Told (refusal (suc r))

told_if : (c : Bool) (x y : Answer) → Told x → Told y → Told (if c then x otherwise y)
unfolding if◌then◌otherwise◌
told_if true x y p q = p
told_if false x y p q = q

told_chosen : {A : Type 0} (o : Option A) (f : A → Answer) (y : Answer) → ((x : A) → Told (f x)) → Told y → Told (choose o f y)
unfolding choose
told_chosen (some x) f y p q = p x
told_chosen none f y p q = q

finished_told : {n : ℕ} {q : Result Text} (r : Result Text) → Agree n q r → Told (finished r)
unfolding finished
finished_told (ok t s) (reads h) = told_if _ _ _ by_name by_number
finished_told (refused r) refuses = by_number

told : (limit : ℕ) (t : Text) → Told (demangle limit t)
unfolding demangle front mangled_name
told limit t =
    told_if _ _ _ by_number
    (told_if _ _ _ by_number
    (told_chosen _ _ _ (λ r. finished_told _ (reading_ends ⟨encoding⟩ (start r.1))) by_number))

told_number : (a : Answer) → Told a → a ≢ refusal 0
told_number (named t) by_name e = let z : ◌≡◌ {A = ℕ} 0 1 = cc in omega arith
told_number (refusal (suc r)) by_number e = let z : ◌≡◌ {A = ℕ} (suc r) 0 = cc in omega arith
told_number (refusal zero) x4 e = elim x4 [ ]

-- no symbol runs out of fuel
pub never_0 : (limit : ℕ) (t : Text) → demangle limit t ≢ refusal 0
never_0 limit t e = told_number _ (told limit t) e
