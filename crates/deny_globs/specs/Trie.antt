-- A trie of literals: nodes with edges for characters, each with the numbers of the literals that end there.
use Rattle.std.specs.Prelude.{ℕ, ◌≡◌, ◌<◌, List, ◌∷◌, length, Some, Contains}
use Rattle.std.specs.Prelude.{slice_get}
use Rattle.std.specs.BTreeMap.{get}
use Rattle.std.specs.Ordering.{nat_cmp}
use Rattle.deny_globs.specs.declared.trie.TrieNode.{TrieNode}

-- The character leads from the node with this number to the next.
pub record IsEdge (nodes : List TrieNode) (number c next : ℕ) : Type 0 where
  pub node : TrieNode
  pub at : slice_get nodes number ≡ Some node
  pub leads : get nat_cmp node.edges c ≡ Some next

-- Each edge leads to a node of the trie.
pub record IsTrie (nodes : List TrieNode) : Type 0 where
  pub within : (number c next : ℕ) → IsEdge nodes number c next → next < length nodes

-- the path, read from the node with this number on, begins with a literal that has the number `found`
pub data Finds (nodes : List TrieNode) : ℕ → List ℕ → ℕ → Type 0 where
  ends_here : {number found : ℕ} {path : List ℕ} (node : TrieNode) → slice_get nodes number ≡ Some node
      → Contains node.numbers found → Finds nodes number path found
  goes_on : {number c next found : ℕ} {path : List ℕ} → IsEdge nodes number c next → Finds nodes next path found
      → Finds nodes number (c ∷ path) found
