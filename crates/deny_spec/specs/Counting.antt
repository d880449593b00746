-- Which crates count: those to which chains of edges lead from the members.
use Rattle.std.specs.Prelude.{◌≡◌, ◌==◌, ◌⊎◌, ℕ, zero, suc, Bool, not, IsTrue, List, filter, Contains}
use Rattle.deny_base.specs.Edge.{kind_number}
use Rattle.deny_base.specs.declared.edge.DepKind.{DepKind}
use Rattle.deny_base.specs.declared.edge.DepKind.TheVariants.{Dev}
use Rattle.deny_base.specs.declared.edge.Edge.{Edge}
use Rattle.deny_spec.specs.Graph.{Crate, Graph}

-- a chain of so many edges leads from one place to another: each edge begins where the one before it ends
abbrev pub Chain : List Edge → ℕ → ℕ → ℕ → Type 0
Chain edges a b zero = a ≡ b
Chain edges a b (suc n) = (e : Edge) × Contains edges e × (e.parent ≡ a) × Chain edges e.child b n

unfoldable pub is_of_kind : DepKind → Edge → Bool
is_of_kind kind e = kind_number e.kind == kind_number kind

-- the edges of all kinds but one
abbrev pub edges_without : DepKind → Graph → List Edge
edges_without kind g = filter (λ e. not (is_of_kind kind e)) g.edges

-- a chain without edges of this kind leads to this place from a member
pub record IsReachedWithout (kind : DepKind) (g : Graph) (place : ℕ) : Type 0 where
  pub member : ℕ
  pub length : ℕ
  pub is_member : Contains g.members member
  pub chain : Chain (edges_without kind g) member place length

-- a crate counts where a chain without dev edges leads to it from a member, or where all count
abbrev pub Counts : Bool → Graph → Crate → Type 0
Counts include_dev g c = IsTrue include_dev ⊎ IsReachedWithout Dev g c.place
