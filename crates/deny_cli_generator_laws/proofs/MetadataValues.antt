-- The JSON value of the metadata: as its text writes it, and as it is read, with the members of each object by name.
use Rattle.std.proofs.Common.{ℕ, List, codes, map}
use Rattle.serde_json.specs.Data.{Data, array, string, object, member, no_members, item, no_items, Items, Members}
use Rattle.serde_json.specs.View.{items_of}
use Rattle.deny_cli_generator.specs.Made.{name_at, version_at}
use Rattle.deny_cli_generator.specs.MetadataText.{id_at, path_text, registry}

-- a member whose value is a text
abbrev pub says : List ℕ → List ℕ → Members → Members
says key text others = member key (string text) others

-- an array with an element for each number
abbrev pub each : (ℕ → Data) → List ℕ → Items
each element numbers = items_of (map element numbers)

-- ---- a crate, by its texts

abbrev pub declaration_of : List ℕ → List ℕ → Data
declaration_of name version = object (says (codes "name") name (says (codes "req") version no_members))

abbrev pub dep_of : List ℕ → Data
dep_of id = object (says (codes "pkg") id no_members)

abbrev pub node_of : List ℕ → Data
node_of id = object (says (codes "id") id no_members)

abbrev pub written_package : List ℕ → List ℕ → List ℕ → List ℕ → List ℕ → Data
written_package name version id source path =
    object (says (codes "name") name (says (codes "version") version (says (codes "id") id
    (says (codes "source") source (says (codes "manifest_path") path no_members)))))

abbrev pub read_package : List ℕ → List ℕ → List ℕ → List ℕ → List ℕ → Data
read_package name version id source path =
    object (says (codes "id") id (says (codes "manifest_path") path (says (codes "name") name
    (says (codes "source") source (says (codes "version") version no_members)))))

-- ---- the member `app`, by its declarations and dependencies

abbrev pub written_app : Items → Data
written_app declarations =
    object (says (codes "name") (codes "app") (says (codes "version") (codes "0.1.0") (says (codes "id") (codes "app")
    (says (codes "manifest_path") (codes "/w/Cargo.toml")
    (member (codes "dependencies") (array declarations) no_members)))))

abbrev pub read_app : Items → Data
read_app declarations =
    object (member (codes "dependencies") (array declarations) (says (codes "id") (codes "app")
    (says (codes "manifest_path") (codes "/w/Cargo.toml") (says (codes "name") (codes "app")
    (says (codes "version") (codes "0.1.0") no_members)))))

abbrev pub written_app_node : Items → Data
written_app_node deps = object (says (codes "id") (codes "app") (member (codes "deps") (array deps) no_members))

abbrev pub read_app_node : Items → Data
read_app_node deps = object (member (codes "deps") (array deps) (says (codes "id") (codes "app") no_members))

-- ---- the whole value, by its packages and nodes

abbrev pub member_ids : Data
member_ids = array (item (string (codes "app")) no_items)

abbrev pub resolve_of : Items → Data
resolve_of nodes = object (member (codes "nodes") (array nodes) no_members)

abbrev pub written_whole : Items → Items → Data
written_whole packages nodes =
    object (member (codes "packages") (array packages) (member (codes "workspace_members") member_ids
    (says (codes "workspace_root") (codes "/w") (member (codes "resolve") (resolve_of nodes) no_members))))

abbrev pub read_whole : Items → Items → Data
read_whole packages nodes =
    object (member (codes "packages") (array packages) (member (codes "resolve") (resolve_of nodes)
    (member (codes "workspace_members") member_ids (says (codes "workspace_root") (codes "/w") no_members))))

-- ---- the values for numbers

unfoldable pub declaration : ℕ → Data
declaration number = declaration_of (name_at number) (version_at number)

unfoldable pub dep : ℕ → Data
dep number = dep_of (id_at number)

unfoldable pub node : ℕ → Data
node number = node_of (id_at number)

unfoldable pub package_written : ℕ → Data
package_written number =
    written_package (name_at number) (version_at number) (id_at number) registry (path_text number)

unfoldable pub package_read : ℕ → Data
package_read number = read_package (name_at number) (version_at number) (id_at number) registry (path_text number)

abbrev pub nodes : Data → List ℕ → Items
nodes app numbers = item app (each node numbers)

unfoldable pub written : List ℕ → Data
written numbers = written_whole (item (written_app (each declaration numbers)) (each package_written numbers))
    (nodes (written_app_node (each dep numbers)) numbers)

unfoldable pub value : List ℕ → Data
value numbers = read_whole (item (read_app (each declaration numbers)) (each package_read numbers))
    (nodes (read_app_node (each dep numbers)) numbers)
