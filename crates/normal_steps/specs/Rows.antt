-- The nodes in two slices, two numbers for each: its tag and the number below stand in e, the place of its word in the symbol in w.
use Rattle.std.specs.Prelude.{List, [], ◌∷◌, ◌++◌, ℕ, zero, suc, ◌+◌, ◌*◌, ◌≤◌, ◌<◌, length, get_or}
use Rattle.grammar.specs.Text.{Text}
use Rattle.normal_nodes.specs.Nodes.{Node, node}
use Rattle.grammar.specs.declared.part.Part.{Part}
use Rattle.normal_steps.specs.Parts.{part}
use Rattle.normal_steps.specs.declared.state.Row.{Row}

abbrev pub node_at : Text → Text → Text → ℕ → Node
node_at s e w i = node (get_or e (2 * i) 0) (get_or e (2 * i + 1) 0) (part s (get_or w (2 * i) 0) (get_or w (2 * i + 1) 0))

-- the first n nodes
unfoldable pub nodes_of : Text → Text → Text → ℕ → List Node
nodes_of s e w zero = []
nodes_of s e w (suc n) = nodes_of s e w n ++ (node_at s e w n ∷ [])

-- their words stand in the symbol
abbrev pub Inside : Text → Text → ℕ → Type 0
Inside s w n = (i : ℕ) → i < n → (get_or w (2 * i) 0 ≤ get_or w (2 * i + 1) 0) × (get_or w (2 * i + 1) 0 ≤ length s)

-- the node that the code looks up
abbrev pub node_of : Text → Row → Node
node_of s x = node x.tag x.of (part s x.word.from x.word.to)

-- the part stands in the symbol
abbrev pub Within : Text → Part → Type 0
Within s p = (p.from ≤ p.to) × (p.to ≤ length s)
