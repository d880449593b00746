-- The faults of metadata, in their order, and what metadata without a fault resolves to.
use Rattle.std.specs.Prelude.{◌++◌, ℕ, List, [], ◌∷◌, Option, Some, None, Result, Ok, Err, ◌==◌, if◌then◌else◌, map}
use Rattle.std.specs.Result.{result_ok}
use Rattle.std.specs.List.{list_any, position_from}
use Rattle.semver.specs.Parse.{req_of, version_parts}
use Rattle.deny_base_lists.specs.Reader.{◌>>=◌, each, each_passes}
use Rattle.deny_spec.specs.Text.{same_text}
use Rattle.deny_krates_metadata.specs.Document.{value_at, document_of}
use Rattle.deny_krates_sources.specs.Source.{source_of}
use Rattle.deny_krates_sources.specs.Versions.{rust_version_of}
use Rattle.deny_krates_sources.specs.declared.checked.Link.{Link}
use Rattle.deny_krates_sources.specs.declared.checked.ResolvedNode.{ResolvedNode}
use Rattle.deny_krates_metadata.specs.declared.declaration.Declaration.{Declaration}
use Rattle.deny_krates_metadata.specs.declared.document.Document.{Document}
use Rattle.deny_krates_metadata.specs.declared.node.NeededAs.{NeededAs}
use Rattle.deny_krates_metadata.specs.declared.node.NodeDependency.{NodeDependency}
use Rattle.deny_krates_metadata.specs.declared.node.MetadataNode.{MetadataNode}
use Rattle.deny_krates_metadata.specs.declared.package.MetadataPackage.{MetadataPackage}
use Rattle.deny_krates_metadata.specs.declared.fault.MetadataFault.{MetadataFault}
use Rattle.deny_krates_metadata.specs.declared.fault.MetadataFault.TheVariants.{DuplicateId, DanglingId, Version}
use Rattle.deny_krates_metadata.specs.declared.fault.MetadataFault.TheVariants.{Requirement}
use Rattle.deny_krates_metadata.specs.declared.fault.MetadataFault.TheVariants.{Source, ManifestPath}

abbrev pub package_ids : Document → List (List ℕ)
package_ids doc = map (λ p. p.id) doc.packages

abbrev pub node_ids : Document → List (List ℕ)
node_ids doc = map (λ n. n.id) doc.nodes

-- ids that differ from each other and from those before them, or the fault of the first that does not
unfoldable pub distinct_after : List (List ℕ) → List (List ℕ) → Result (Unit {0}) MetadataFault
distinct_after before [] = Ok tt
distinct_after before (id ∷ ids) =
    if list_any (same_text id) before then Err (DuplicateId id) else distinct_after (before ++ id ∷ []) ids

abbrev pub distinct : List (List ℕ) → Result (Unit {0}) MetadataFault
distinct ids = distinct_after [] ids

-- a numbering of ids
abbrev pub Numbering : Type 0
Numbering = List ℕ → Option ℕ

-- the index of an id among these
abbrev pub number_in : List (List ℕ) → List ℕ → Option ℕ
number_in ids id = position_from (same_text id) 0 ids

abbrev pub package_numbers : Document → Numbering
package_numbers doc = number_in (package_ids doc)

abbrev pub node_numbers : Document → Numbering
node_numbers doc = number_in (node_ids doc)

-- the number of an id, or the fault of an id that has none
unfoldable pub number_or : List ℕ → Option ℕ → Result ℕ MetadataFault
number_or id None = Err (DanglingId id)
number_or id (Some n) = Ok n

-- the number of the node of an id, or the fault of an id that no package or no node has
unfoldable pub known : Numbering → Numbering → List ℕ → Result ℕ MetadataFault
known packages nodes id = do
  _ ← number_or id (packages id)
  number_or id (nodes id)

abbrev pub links_to : ℕ → List NeededAs → List Link
links_to node kinds = map (λ kind. record { node = node; needed_as = kind }) kinds

-- the links of these dependencies
unfoldable pub links_of : Numbering → Numbering → List NodeDependency → Result (List Link) MetadataFault
links_of packages nodes [] = Ok []
links_of packages nodes (dep ∷ deps) = do
  node ← known packages nodes dep.pkg
  links ← links_of packages nodes deps
  Ok (links_to node dep.kinds ++ links)

-- a node's own id comes before those of its dependencies
unfoldable pub resolved_node : Numbering → Numbering → MetadataNode → Result ResolvedNode MetadataFault
resolved_node packages nodes node = do
  owner ← number_or node.id (packages node.id)
  links ← links_of packages nodes node.deps
  Ok (record { owner = owner; links = links })

-- a reading that is required, or this fault
unfoldable pub read_or : {A : Type 0} → MetadataFault → Option A → Result (Unit {0}) MetadataFault
read_or fault None = Err fault
read_or fault (Some x) = Ok tt

-- an optional text whose reading is required where it is there, or this fault
unfoldable pub optional_reads : {A B : Type 0} → MetadataFault → (A → Option B) → Option A
    → Result (Unit {0}) MetadataFault
optional_reads fault read None = Ok tt
optional_reads fault read (Some x) = read_or fault (read x)

unfoldable pub version_reads : MetadataPackage → Result (Unit {0}) MetadataFault
version_reads p = do
  _ ← read_or (Version p.id) (result_ok (version_parts p.version))
  optional_reads (Version p.id) rust_version_of p.rust_version

unfoldable pub requirement_reads : List ℕ → Declaration → Result (Unit {0}) MetadataFault
requirement_reads id d = read_or (Requirement id) (result_ok (req_of d.req))

unfoldable pub requirements_read : MetadataPackage → Result (Unit {0}) MetadataFault
requirements_read p = each_passes (requirement_reads p.id) p.dependencies

unfoldable pub source_reads : MetadataPackage → Result (Unit {0}) MetadataFault
source_reads p = optional_reads (Source p.id) source_of p.source

unfoldable pub manifest_path_reads : MetadataPackage → Result (Unit {0}) MetadataFault
manifest_path_reads p = if list_any (λ byte. byte == 47) p.manifest_path then Ok tt else Err (ManifestPath p.id)

-- a document without fault, the numbers of its members' nodes, and what each node resolves to
pub record Resolved : Type 0 where
  pub document : Document
  pub starts : List ℕ
  pub rows : List ResolvedNode

-- the first fault in the texts of packages: first the versions of all, then the requirements, the sources and
-- the paths of the manifests
unfoldable pub packages_read : List MetadataPackage → Result (Unit {0}) MetadataFault
packages_read packages = do
  _ ← each_passes version_reads packages
  _ ← each_passes requirements_read packages
  _ ← each_passes source_reads packages
  each_passes manifest_path_reads packages

-- what a document resolves to by these numberings of packages and nodes, or its first fault
unfoldable pub resolved_by : Numbering → Numbering → Document → Result Resolved MetadataFault
resolved_by packages nodes doc = do
  starts ← each (known packages nodes) doc.members
  rows ← each (resolved_node packages nodes) doc.nodes
  _ ← packages_read doc.packages
  Ok (record { document = doc; starts = starts; rows = rows })

unfoldable pub resolved : Document → Result Resolved MetadataFault
resolved doc = do
  _ ← distinct (package_ids doc)
  _ ← distinct (node_ids doc)
  resolved_by (package_numbers doc) (node_numbers doc) doc

-- metadata, or its first fault
unfoldable pub checked : List ℕ → Result Resolved MetadataFault
checked bytes = do
  value ← value_at bytes
  doc ← document_of value
  resolved doc
