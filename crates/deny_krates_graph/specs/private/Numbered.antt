-- How the numbers of resolved metadata relate to its ids.
use Rattle.std.specs.Prelude.{◌≡◌, ℕ, List, Bool, Contains, Ok}
use Rattle.std.specs.List.{AllZip}
use Rattle.semver.specs.Parse.{Parts, version_parts}
use Rattle.deny_base_lists.specs.Ascending.{Lists}
use Rattle.deny_krates_sources.specs.Checked.{distinct, known, node_ids, node_numbers, package_ids, package_numbers}
use Rattle.deny_krates_sources.specs.Checked.{resolved_node}
use Rattle.deny_krates_graph.specs.private.Graph.{IsKeptNode, kept_cmp}
use Rattle.deny_krates_graph.specs.private.Reach.{AreReached}
use Rattle.deny_krates_sources.specs.declared.checked.ResolvedNode.{ResolvedNode}
use Rattle.deny_krates_metadata.specs.declared.document.Document.{Document}
use Rattle.deny_krates_metadata.specs.declared.package.MetadataPackage.{MetadataPackage}
use Rattle.deny_krates_graph.specs.declared.graph.KeptPackage.{KeptPackage}

-- the version of a package parses
abbrev pub HasVersion : MetadataPackage → Type 0
HasVersion p = (version : Parts) × (version_parts p.version ≡ Ok version)

-- no two packages or nodes share an id, the numbers are those of the members and of each node in turn, and the
-- versions parse
pub record IsResolved (doc : Document) (starts : List ℕ) (rows : List ResolvedNode) : Type 0 where
  pub packages : distinct (package_ids doc) ≡ Ok tt
  pub nodes : distinct (node_ids doc) ≡ Ok tt
  pub starting : AllZip (λ id n. known (package_numbers doc) (node_numbers doc) id ≡ Ok n) doc.members starts
  pub resolving : AllZip (λ node r. resolved_node (package_numbers doc) (node_numbers doc) node ≡ Ok r) doc.nodes rows
  pub versions : (p : MetadataPackage) → Contains doc.packages p → HasVersion p

-- the document is resolved, the marks are those of the reached nodes, and the kept packages those of the marked
-- nodes
pub record IsNumbered (doc : Document) (starting : List ℕ) (rows : List ResolvedNode) (marks : List Bool)
    (kept : List KeptPackage) : Type 0 where
  pub resolved : IsResolved doc starting rows
  pub reached : AreReached rows starting marks
  pub lists : Lists kept_cmp (IsKeptNode doc.packages rows marks) kept
