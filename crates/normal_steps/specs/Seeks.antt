-- The place of the first that passes a test, as a loop finds it. Assumes nothing.
use Rattle.std.specs.Prelude.{Bool, List, ◌≡◌, ℕ, ◌<◌, Option, Some, None}
use Rattle.std.proofs.Math.Option.{none, some}
use Rattle.normal_nodes.specs.Nodes.{seek_by}

-- the place, below n, or no place
abbrev pub Sought : {A : Type 0} → (A → Bool) → List A → ℕ → Option ℕ → Type 0
Sought p xs n (Some r) = (r < n) × (seek_by p xs ≡ some r)
Sought p xs n None = seek_by p xs ≡ none
