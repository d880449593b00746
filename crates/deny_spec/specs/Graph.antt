-- A dependency graph: crates in order, the members among them, and the edges between them.
use Rattle.std.specs.Prelude.{ℕ, ◌&&◌, ◌==◌, ◌++◌, Bool, List, Option, filter, codes}
use Rattle.std.specs.List.{list_any}
use Rattle.semver.specs.Identifiers.{parts_text}
use Rattle.semver.specs.Parse.{Held, Parts}
use Rattle.deny_base_lists.specs.TextMap.{TextFinMap}
use Rattle.deny_base.specs.declared.edge.DepKind.{DepKind}
use Rattle.deny_base.specs.declared.edge.Edge.{Edge}
use Rattle.deny_base.specs.declared.span.Kid.{Kid}
use Rattle.deny_spec.specs.declared.target_edge.TargetEdge.{TargetEdge}

-- the part of a repository that a git source asks for
pub data GitSpec : Type 0 where
  Any : GitSpec
  Branch : GitSpec
  Tag : GitSpec
  Rev : GitSpec

-- where a crate comes from; an address is the text of its URL
pub data Source : Type 0 where
  -- the registry crates.io, by its sparse index or not
  CratesIo : Bool → Source
  Registry : List ℕ → Source
  Sparse : List ℕ → Source
  -- an address, the part of the repository that is asked for, and its name
  Git : List ℕ → GitSpec → Option (List ℕ) → Source

-- a target of a crate, as its library or its build script
pub record Target : Type 0 where
  pub kind : List (List ℕ)
  pub src_path : List ℕ

-- a dependency as the crate's manifest declares it
pub record Dependency : Type 0 where
  pub name : List ℕ
  pub req : List Held
  pub kind : DepKind
  pub rename : Option (List ℕ)
  pub target : Option (List ℕ)
  pub path : Option (List ℕ)
  pub features : List (List ℕ)
  pub uses_default_features : Bool

-- a crate; its place is its number in graph order
pub record Crate : Type 0 where
  pub place : ℕ
  pub name : List ℕ
  pub version : Parts
  pub id : List ℕ
  -- none for a crate of this workspace or of a folder
  pub source : Option Source
  pub source_text : Option (List ℕ)
  pub license : Option (List ℕ)
  pub manifest_path : List ℕ
  -- the registries that it may be published to; all, where it does not say
  pub publish : Option (List (List ℕ))
  pub rust_version : Option Parts
  -- what each feature enables
  pub features : TextFinMap (List (List ℕ))
  pub targets : List Target
  pub deps : List Dependency
  -- the enabled features, ascending
  pub enabled : List (List ℕ)

-- members are named by their places; the root is the folder of the workspace; edges are those of the
-- target edges, whatever the target
pub record Graph : Type 0 where
  pub root : List ℕ
  pub crates : List Crate
  pub members : List ℕ
  pub edges : List Edge
  pub target_edges : List TargetEdge

-- how a crate is shown: `name = version`
abbrev pub crate_text : Crate → List ℕ
crate_text c = c.name ++ (codes " = " ++ parts_text c.version)

-- the id of a crate
abbrev pub kid_of : Crate → Kid
kid_of c = record { 0 = c.id }

-- whether an edge leads from one place to another
unfoldable pub leads : ℕ → ℕ → Edge → Bool
leads parent child e = (e.parent == parent) && (e.child == child)

-- the crates with an edge to the crate at this place
unfoldable pub dependents : Graph → ℕ → List Crate
dependents g child = filter (λ parent. list_any (leads parent.place child) g.edges) g.crates

-- the crates to which an edge leads from the crate at this place
unfoldable pub dependencies : Graph → ℕ → List Crate
dependencies g parent = filter (λ child. list_any (leads parent child.place) g.edges) g.crates
