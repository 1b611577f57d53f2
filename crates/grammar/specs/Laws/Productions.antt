-- Whoever unfolds `productions` has the productions that are made of others, down to the readers of Reader.antt.
use Rattle.grammar.specs.Grammar as g

unfoldable pub productions : Unit {0}
unfolding
    g.bare_function_type
    g.function_or_data
    g.anew
    g.thunks
    g.encoding_with
    g.encoding
    g.name_args
    g.name_instance
    g.std_name
    g.s_name
    g.unscoped_name
    g.local_encoding
    g.local_name
    g.name_inner
    g.name
    g.ctor_dtor_name
    g.old_prefix
    g.prefix_args
    g.new_prefix
    g.prefix
    g.nested_name
    g.unqualified_name
    g.source_name
    g.operator_name
    g.wrapped
    g.function_type
    g.array_type
    g.pointer_to_member_type
    g.type_instance
    g.nested_type
    g.class_type
    g.s_type
    g.type_inner
    g.type
    g.template_args
    g.expression
    g.pack
    g.template_arg
    g.expr_primary
    g.production
productions = tt
