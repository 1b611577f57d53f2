use Rattle.std.proofs.Common.{◌+◌, ◌-◌, ◌*◌, ◌≡◌, length}
use Rattle.parser.specs.Demanglers.{state_of, memory_of, lent}
use Rattle.reader.specs.Laws.Items.{Listing}
use Rattle.reader.specs.Laws.Nested.{Prefixing}
use Rattle.reader.specs.Laws.Packs.{Packing}
use Rattle.reader.proofs.cycle.+readers.Given as goal

abbrev pub decreases-array_type : goal.decreases-array_type
decreases-array_type l = 32 * (length l.d.now.s.now - l.d.now.state.at) + 9

abbrev pub decreases-at_s : goal.decreases-at_s
decreases-at_s l = 32 * (length l.d.now.s.now - l.d.now.state.at) + 6

abbrev pub decreases-behind_letter : goal.decreases-behind_letter
decreases-behind_letter l = 32 * (length l.d.now.s.now - l.d.now.state.at) + 6

abbrev pub decreases-class_type : goal.decreases-class_type
decreases-class_type l = 32 * (length l.d.now.s.now - l.d.now.state.at) + 6

abbrev pub decreases-expr_primary : goal.decreases-expr_primary
decreases-expr_primary l = 32 * (length l.d.now.s.now - l.d.now.state.at) + 9

abbrev pub decreases-function_type : goal.decreases-function_type
decreases-function_type l = 32 * (length l.d.now.s.now - l.d.now.state.at) + 13

abbrev pub decreases-instance : goal.decreases-instance
decreases-instance l = 32 * (length l.d.now.s.now - l.d.now.state.at) + 3

abbrev pub decreases-item : goal.decreases-item
decreases-item l = 32 * (length l.d.now.s.now - l.d.now.state.at) + 11

abbrev pub decreases-items : goal.decreases-items
decreases-items l = 32 * (length l.d.now.s.now - l.d.now.state.at) + 12

abbrev pub decreases-local_function : goal.decreases-local_function
decreases-local_function l = 32 * (length l.d.now.s.now - l.d.now.state.at) + 13

abbrev pub decreases-local_name : goal.decreases-local_name
decreases-local_name l = 32 * (length l.d.now.s.now - l.d.now.state.at) + 6

abbrev pub decreases-name : goal.decreases-name
decreases-name l = 32 * (length l.d.now.s.now - l.d.now.state.at) + 8

abbrev pub decreases-name_inner : goal.decreases-name_inner
decreases-name_inner l = 32 * (length l.d.now.s.now - l.d.now.state.at) + 7

abbrev pub decreases-nested_name : goal.decreases-nested_name
decreases-nested_name l = 32 * (length l.d.now.s.now - l.d.now.state.at) + 5

abbrev pub decreases-nested_type : goal.decreases-nested_type
decreases-nested_type l = 32 * (length l.d.now.s.now - l.d.now.state.at) + 6

abbrev pub decreases-new_prefix : goal.decreases-new_prefix
decreases-new_prefix l = 32 * (length l.d.now.s.now - l.d.now.state.at) + 3

abbrev pub decreases-operator_name : goal.decreases-operator_name
decreases-operator_name l = 32 * (length l.d.now.s.now - l.d.now.state.at) + 0

abbrev pub decreases-pack : goal.decreases-pack
decreases-pack l = 32 * (length l.d.now.s.now - l.d.now.state.at) + 11

abbrev pub decreases-part : goal.decreases-part
decreases-part l = 32 * (length l.d.now.s.now - l.d.now.state.at) + 2

abbrev pub decreases-plain : goal.decreases-plain
decreases-plain l = 32 * (length l.d.now.s.now - l.d.now.state.at) + 6

abbrev pub decreases-pointer_to_member_type : goal.decreases-pointer_to_member_type
decreases-pointer_to_member_type l = 32 * (length l.d.now.s.now - l.d.now.state.at) + 9

abbrev pub decreases-prefix : goal.decreases-prefix
decreases-prefix l = 32 * (length l.d.now.s.now - l.d.now.state.at) + 4

abbrev pub decreases-prefix_args : goal.decreases-prefix_args
decreases-prefix_args l = 32 * (length l.d.now.s.now - l.d.now.state.at) + 3

abbrev pub decreases-std_prefixed : goal.decreases-std_prefixed
decreases-std_prefixed l = 32 * (length l.d.now.s.now - l.d.now.state.at) + 5

abbrev pub decreases-template_arg : goal.decreases-template_arg
decreases-template_arg l = 32 * (length l.d.now.s.now - l.d.now.state.at) + 10

abbrev pub decreases-template_args : goal.decreases-template_args
decreases-template_args l = 32 * (length l.d.now.s.now - l.d.now.state.at) + 2

abbrev pub decreases-ty : goal.decreases-ty
decreases-ty l = 32 * (length l.d.now.s.now - l.d.now.state.at) + 8

abbrev pub decreases-type_inner : goal.decreases-type_inner
decreases-type_inner l = 32 * (length l.d.now.s.now - l.d.now.state.at) + 7

abbrev pub decreases-unqualified_name : goal.decreases-unqualified_name
decreases-unqualified_name l = 32 * (length l.d.now.s.now - l.d.now.state.at) + 1

abbrev pub decreases-wrapped : goal.decreases-wrapped
decreases-wrapped l = 32 * (length l.d.now.s.now - l.d.now.state.at) + 9

abbrev pub invariant-items-loop-c : goal.invariant-items-loop-c
invariant-items-loop-c l = record {
  symbol : l.d.s.now ≡ l.initial.d.s.now;
  same : lent l.d ≡ lent l.initial.d;
  so_far : Listing l.kind l.initial.d.s.now (memory_of l.initial.d) (state_of l.initial.d) (memory_of l.d) (state_of l.d) l.list.n l.list.count;
}

abbrev pub decreases-items-loop-c : goal.decreases-items-loop-c
decreases-items-loop-c l = length l.d.s.now - l.d.state.at

abbrev pub invariant-nested_name-loop-c : goal.invariant-nested_name-loop-c
invariant-nested_name-loop-c l = record {
  symbol : l.d.s.now ≡ l.initial.d.s.now;
  same : lent l.d ≡ lent l.initial.d;
  so_far : Prefixing l.initial.d.s.now (memory_of l.initial.d) (state_of l.initial.d) (memory_of l.d) (state_of l.d) l.parts;
}

abbrev pub decreases-nested_name-loop-c : goal.decreases-nested_name-loop-c
decreases-nested_name-loop-c l = length l.d.s.now - l.d.state.at

abbrev pub invariant-pack-loop-c : goal.invariant-pack-loop-c
invariant-pack-loop-c l = record {
  symbol : l.d.s.now ≡ l.initial.d.s.now;
  same : lent l.d ≡ lent l.initial.d;
  so_far : Packing l.initial.d.s.now (memory_of l.initial.d) (state_of l.initial.d) (memory_of l.d) (state_of l.d) l.outer l.n;
}

abbrev pub decreases-pack-loop-c : goal.decreases-pack-loop-c
decreases-pack-loop-c l = length l.d.s.now - l.d.state.at
