use Rattle.std.proofs.Math.Path.{refl}
use Rattle.parser.specs.Laws.Halves.{recorded_full}
use Rattle.parser.specs.Laws.Demanglers.{records_given, failed}
use Rattle.parser.proofs.demangler.Demangler.recorded.Goals as goal

pub returns-in_err-push_sub : goal.returns-in_err-push_sub
returns-in_err-push_sub c =
    let u = c.in_err-push_sub.ensures in
    rw (failed c.from_residual.result c.from_residual.ensures.1) (record { others = u.others; same = u.same; is = λ k l s base from t σ h. recorded_full t σ refl (u.is k l s base from t σ h) })

pub returns : goal.returns
returns c =
    let u = c.in_ok-push_sub.ensures in
    rw c.given.ensures (record { others = u.others; same = u.same; is = λ k l s base from t σ h. records_given c.args.self.now c.push_sub.new.self h u })
