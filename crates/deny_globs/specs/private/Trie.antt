-- A trie while literals are added.
use Rattle.std.specs.Prelude.{ℕ, ◌≡◌, ◌≤◌, ◌⊎◌, ◌↔◌, List, [], ◌∷◌, ◌++◌, length, Option, Some, None, Contains}
use Rattle.std.specs.Prelude.{slice_get, slice_set}
use Rattle.std.specs.BTreeMap.{BTreeMap, get, Updates, IsUnchanged}
use Rattle.std.specs.Ordering.{nat_cmp}
use Rattle.deny_globs.specs.declared.trie.TrieNode.{TrieNode}
use Rattle.deny_globs.specs.private.Literals.{IsBegun}
use Rattle.deny_globs.specs.Trie.{IsEdge, IsTrie, Finds}

-- the node to which the first of the characters leads
abbrev pub next_of : TrieNode → List ℕ → Option ℕ
next_of node [] = None
next_of node (c ∷ cs) = get nat_cmp node.edges c

abbrev pub HasNoEdge : List TrieNode → ℕ → ℕ → Type 0
HasNoEdge nodes number c = (next : ℕ) → IsEdge nodes number c next → ⊥

-- A node at which no literal ends or continues.
pub record IsBare (node : TrieNode) : Type 0 where
  pub numbers : (found : ℕ) → Contains node.numbers found → ⊥
  pub edges : (c next : ℕ) → get nat_cmp node.edges c ≡ Some next → ⊥

-- A bare node was added.
pub record AddsBare (old new : List TrieNode) : Type 0 where
  pub node : TrieNode
  pub bare : IsBare node
  pub whole : new ≡ old ++ node ∷ []

-- The character leads from the node at this index to the next, or nothing has changed.
pub record PutsEdge (old : List TrieNode) (index c next : ℕ) (new : List TrieNode) : Type 0 where
  pub node : TrieNode
  pub at : slice_get old index ≡ Some node
  pub edges : BTreeMap ℕ ℕ
  pub whole : new ≡ slice_set old index (record { numbers = node.numbers; edges = edges })
  pub updates : Updates nat_cmp node.edges edges c (Some next)

pub record PutsNoEdge (old : List TrieNode) (index : ℕ) (new : List TrieNode) : Type 0 where
  pub node : TrieNode
  pub at : slice_get old index ≡ Some node
  pub edges : BTreeMap ℕ ℕ
  pub whole : new ≡ slice_set old index (record { numbers = node.numbers; edges = edges })
  pub unchanged : IsUnchanged node.edges edges

-- The number was added to the node at this index.
pub record PutsNumber (old : List TrieNode) (index number : ℕ) (new : List TrieNode) : Type 0 where
  pub node : TrieNode
  pub at : slice_get old index ≡ Some node
  pub whole : new ≡ slice_set old index (record { numbers = node.numbers ++ number ∷ []; edges = node.edges })

-- Nodes and edges may have been added, and no number.
pub record Keeps (old new : List TrieNode) : Type 0 where
  pub trie : IsTrie new
  pub size : length old ≤ length new
  pub edges : (number c next : ℕ) → IsEdge old number c next → IsEdge new number c next
  pub finds : (number : ℕ) (path : List ℕ) (found : ℕ) → Finds new number path found ↔ Finds old number path found

-- The literal was added, with its number.
pub record AddsLiteral (literal : List ℕ) (own : ℕ) (old new : List TrieNode) : Type 0 where
  pub trie : IsTrie new
  pub kept : (path : List ℕ) (found : ℕ) → Finds old 0 path found → Finds new 0 path found
  pub added : (path : List ℕ) → IsBegun literal path → Finds new 0 path own
  pub only : (path : List ℕ) (found : ℕ) → Finds new 0 path found → Finds old 0 path found ⊎ (found ≡ own)
