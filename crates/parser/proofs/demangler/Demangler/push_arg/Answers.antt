use Rattle.std.proofs.Math.Path.{refl}
use Rattle.grammar.specs.declared.refusal.Refusal.TheVariants.{ArgumentsFull}
use Rattle.parser.specs.Halves.{with_args}
use Rattle.parser.specs.Laws.Halves.{holds_args, push_arg_is}
use Rattle.parser.specs.Laws.Demanglers.{lent_args, pushes_full, pushes_more_lent}
use Rattle.parser.proofs.demangler.Demangler.push_arg.Goals as goal

pub returns-then-not-has_room : goal.returns-then-not-has_room
returns-then-not-has_room c = pushes_full ArgumentsFull (λ σ. σ.args) with_args push_arg_is (λ s σ h. h.args) c.has_room.ensures c.if-not-has_room.true

pub returns : goal.returns
returns c =
    pushes_more_lent ArgumentsFull (λ σ. σ.args) with_args push_arg_is (λ s σ h. h.args) c.has_room.ensures
    refl (lent_args c.args.self.now c.push.new.self c.push.ensures.same) (λ s σ l h e. holds_args h e) c.if-not-has_room.false c.newest.ensures c.push.ensures.entries
