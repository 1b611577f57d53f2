-- The class of a first byte, as the code tells it. Assumes nothing.
use Rattle.std.specs.Prelude.{Bool, true, false}
use Rattle.std.proofs.Math.Option.{Option, none, some}
use Rattle.catalogue.specs.Recogniser.{Lead as First, lead_letter, lead_wrap, lead_digit, lead_S, lead_N, lead_L, lead_none}
use Rattle.normal_steps.specs.declared.lead.Lead.{Lead}
use Rattle.normal_steps.specs.declared.lead.Lead.TheVariants.{Letter, Wrap, Digit, S, N, L, None}

abbrev pub class : First → Lead
class (lead_letter l) = Letter
class (lead_wrap q) = Wrap
class lead_digit = Digit
class lead_S = S
class lead_N = N
class lead_L = L
class lead_none = None

abbrev pub there : {A : Type 0} → Option A → Bool
there none = false
there (some x) = true
