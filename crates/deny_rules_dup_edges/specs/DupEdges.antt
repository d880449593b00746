-- The edges of a duplicate: those that lead to its crates.
use Rattle.std.specs.Prelude.{◌≡◌, ◌≤◌, ◌<◌, ℕ, Bool, true, false, List, [], ◌∷◌, Option, None, Some, length, slice_get}
use Rattle.std.specs.Prelude.{Contains, if◌then◌else◌}
use Rattle.std.specs.List.{AllZip}
use Rattle.std.specs.Ordering.{nat_cmp}
use Rattle.deny_base_lists.specs.Ascending.{Lists}
use Rattle.deny_base.specs.Edge.{edge_cmp}
use Rattle.deny_base.specs.declared.code.Code.TheVariants.{Duplicate}
use Rattle.deny_base.specs.declared.code.DiagnosticCode.{DiagnosticCode}
use Rattle.deny_base.specs.declared.code.DiagnosticCode.TheVariants.{Bans}
use Rattle.deny_base.specs.declared.edge.Edge.{Edge}
use Rattle.deny_base.specs.declared.key.Key.{Key}
use Rattle.deny_spec.specs.Graph.{Graph}
use Rattle.deny_spec.specs.Policy.{Policy}
use Rattle.deny_spec.specs.DiagParts.{crate_name_at}
use Rattle.deny_rules_dup_edges.specs.Above.{HasChain}
use Rattle.deny_rules_dup_edges.specs.declared.dup_edges.DupEdges.{DupEdges}
use Rattle.deny_rules_dup_edges.specs.declared.dup_edges.DupSet.{DupSet}

-- the edge is one of the graph, and its child is this crate or one of its dependents at any distance
pub record IsAbove (g : Graph) (place : ℕ) (e : Edge) : Type 0 where
  pub holds : Contains g.edges e
  pub leads : HasChain g e.child place

-- the edge is above one of these crates
pub record IsAboveOne (g : Graph) (places : List ℕ) (e : Edge) : Type 0 where
  pub place : ℕ
  pub is_one : Contains places place
  pub above : IsAbove g place e

-- the edge of this number is above the crate
pub record IsNumberOf (g : Graph) (edges : List Edge) (place : ℕ) (number : ℕ) : Type 0 where
  pub edge : Edge
  pub numbered : slice_get edges number ≡ Some edge
  pub above : IsAbove g place edge

-- the set of a crate: the numbers of the edges above it, ascending
pub record IsDupSetOf (g : Graph) (edges : List Edge) (place : ℕ) (set : DupSet) : Type 0 where
  pub of_crate : set.place ≡ place
  pub numbers : Lists nat_cmp (IsNumberOf g edges place) set.edges

-- the first set with the fewest edges
pub record IsSimplest (sets : List DupSet) (number : ℕ) : Type 0 where
  pub set : DupSet
  pub numbered : slice_get sets number ≡ Some set
  pub fewest : (other : ℕ) → (s : DupSet) → slice_get sets other ≡ Some s → length set.edges ≤ length s.edges
  pub first : (other : ℕ) → (s : DupSet) → slice_get sets other ≡ Some s → other < number
      → length set.edges < length s.edges

-- the simplest set, where the policy asks for it; without crates there is none
abbrev pub Simplest : Bool → List DupSet → Option ℕ → Type 0
Simplest true [] number = number ≡ None
Simplest true (set ∷ sets) None = ⊥
Simplest true (set ∷ sets) (Some number) = IsSimplest (set ∷ sets) number
Simplest false sets number = number ≡ None

-- the edges of the duplicate of a key, with their sets
pub record AreEdgesOf (p : Policy) (g : Graph) (key : Key) (shown : DupEdges) : Type 0 where
  pub name : shown.name ≡ crate_name_at g key.place
  pub edges : Lists edge_cmp (IsAboveOne g key.places) shown.edges
  -- a set for each crate, in the order of the key's places
  pub sets : AllZip (IsDupSetOf g shown.edges) key.places shown.sets
  pub simplest : Simplest p.simplest shown.sets shown.simplest
  -- the crate of the lowest version comes first
  pub lowest : shown.lowest ≡ (if p.lowest then Some 0 else None)

abbrev pub is_duplicate : DiagnosticCode → Bool
is_duplicate (Bans Duplicate) = true
is_duplicate _ = false

unfoldable pub is_of_duplicate : Key → Bool
is_of_duplicate key = is_duplicate key.code

-- the edges of each duplicate, in the order of their keys
abbrev pub ShowsEach : Policy → Graph → List Key → List DupEdges → Type 0
ShowsEach p g keys shown = AllZip (AreEdgesOf p g) keys shown
