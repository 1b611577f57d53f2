use Rattle.std.proofs.Math.Path.{sym, ap₂}
use Rattle.std.proofs.Common.{◌-◌, ◌∙◌, arith}
use Rattle.grammar.specs.Text.{same}
use Rattle.store.specs.Laws.Lists.{same_texts}
use Rattle.parser.specs.Laws.Halves.{last_none, last_chosen}
use Rattle.parser.specs.Laws.Wraps.{newest_text}
use Rattle.parser.proofs.demangler.Demangler.newest_entry.Goals as goal

pub returns-then-count-eq0 : goal.returns-then-count-eq0
returns-then-count-eq0 c k l s base from t σ h i =
    sym (last_none σ.subs t (omega (arith, c.if-count-eq0.true, h.holds.subs.count_is)))

pub returns : goal.returns
returns c k l s base from t σ h i =
    c.eq.ensures
    ∙ same_texts _ _
    ∙ ap₂ same (c.newest.ensures ∙ newest_text h (omega arith)) (c.get.ensures σ.subs h.holds.subs)
    ∙ sym (last_chosen σ.subs (c.args.self.now.subs.count - 1) t (omega (arith, c.if-count-eq0.false, h.holds.subs.count_is)))
