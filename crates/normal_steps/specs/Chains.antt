-- Nodes by buckets. Equal nodes have one bucket, and the nodes of a bucket stand in a chain, the newest at its head.
use Rattle.std.specs.Prelude.{true, List, [], ◌∷◌, ◌≡◌, ℕ, ◌+◌, ◌*◌, ◌%◌, ◌≤◌, ◌<◌, length, get_or}
use Rattle.grammar.specs.Text.{Text}
use Rattle.grammar.specs.Limits.{most_symbol_bytes}
use Rattle.catalogue.specs.Answer.{least_numbers}
use Rattle.normal_nodes.specs.Nodes.{Node, same_node}
use Rattle.normal_steps.specs.Limits.{middle}
use Rattle.normal_steps.specs.Rows.{node_at, Inside}

-- so many buckets
abbrev pub buckets : ℕ
buckets = most_symbol_bytes

unfoldable pub summed : ℕ → Text → ℕ
summed k [] = k
summed k (c ∷ t) = summed ((9 * k + c) % buckets) t

unfoldable pub bucket_of : Node → ℕ
bucket_of x = (8 * summed (x.of % buckets) x.word + x.tag) % buckets

-- node i is behind node k or is it, before the bound, and in bucket b
abbrev pub Reaches : (ℕ → Node) → ℕ → ℕ → ℕ → ℕ → Type 0
Reaches at b bound k i = (k ≤ i) × ((i < bound) × (bucket_of (at i) ≡ b))

-- the first half of c has for each bucket its newest node, the second half for each node the one before it in its bucket. For a bucket
-- without nodes, and behind the oldest, anything may stand there
pub record Linked (n : ℕ) (at : ℕ → Node) (c : List ℕ) : Type 0 where
  pub size : length c ≡ least_numbers
  pub head : (k : ℕ) → k < n → Reaches at (bucket_of (at k)) n k (get_or c (bucket_of (at k)) 0)
  pub next : (j k : ℕ) → k < j → j < n → bucket_of (at k) ≡ bucket_of (at j) → Reaches at (bucket_of (at j)) j k (get_or c (middle + j) 0)

-- no two nodes are equal
abbrev pub Distinct : ℕ → (ℕ → Node) → Type 0
Distinct n at = (i j : ℕ) → i < n → j < n → same_node (at i) (at j) ≡ true → i ≡ j

-- the first n nodes can be found
pub record Findable (s e w c : Text) (n : ℕ) : Type 0 where
  pub few : n ≤ most_symbol_bytes
  pub ends_size : length e ≡ least_numbers
  pub words_size : length w ≡ least_numbers
  pub inside : Inside s w n
  pub distinct : Distinct n (node_at s e w)
  pub linked : Linked n (node_at s e w) c
