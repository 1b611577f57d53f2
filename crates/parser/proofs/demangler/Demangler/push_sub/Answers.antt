use Rattle.std.proofs.Math.Path.{refl}
use Rattle.grammar.specs.declared.refusal.Refusal.TheVariants.{TableFull}
use Rattle.parser.specs.Halves.{with_subs}
use Rattle.parser.specs.Laws.Halves.{holds_subs, push_sub_is}
use Rattle.parser.specs.Laws.Demanglers.{lent_subs, pushes_full, pushes_more_lent}
use Rattle.parser.proofs.demangler.Demangler.push_sub.Goals as goal

pub returns-then-not-has_room : goal.returns-then-not-has_room
returns-then-not-has_room c = pushes_full TableFull (λ σ. σ.subs) with_subs push_sub_is (λ s σ h. h.subs) c.has_room.ensures c.if-not-has_room.true

pub returns : goal.returns
returns c =
    pushes_more_lent TableFull (λ σ. σ.subs) with_subs push_sub_is (λ s σ h. h.subs) c.has_room.ensures
    refl (lent_subs c.args.self.now c.push.new.self c.push.ensures.same) (λ s σ l h e. holds_subs h e) c.if-not-has_room.false c.newest.ensures c.push.ensures.entries
