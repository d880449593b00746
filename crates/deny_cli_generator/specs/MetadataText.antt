-- The generated metadata: a member `app` that depends on each crate, as cargo prints a graph.
use Rattle.std.specs.Prelude.{◌++◌, ℕ, List, codes, flat_map}
use Rattle.deny_cli_generator.specs.Made.{below, name_at, version_at}
use Rattle.deny_cli_generator.specs.PolicyText.{divided}

unfoldable pub registry : List ℕ
registry = codes "registry+https://github.com/rust-lang/crates.io-index"

unfoldable pub id_at : ℕ → List ℕ
id_at number = registry ++ (codes "#" ++ (name_at number ++ (codes "@" ++ version_at number)))

-- the declaration of a crate in the package of `app`
unfoldable pub declaration_text : ℕ → List ℕ
declaration_text number = divided number (codes ",")
    ++ (codes "{\"name\":\"" ++ (name_at number ++ (codes "\",\"req\":\"" ++ (version_at number ++ codes "\"}"))))

-- the package of a crate, behind that of `app`: its name, version and id, then its source and manifest
unfoldable pub naming_text : ℕ → List ℕ
naming_text number = codes ",{\"name\":\"" ++ (name_at number ++ (codes "\",\"version\":\"" ++ (version_at number
    ++ (codes "\",\"id\":\"" ++ id_at number))))

unfoldable pub path_text : ℕ → List ℕ
path_text number = codes "/r/" ++ (name_at number ++ (codes "-" ++ (version_at number ++ codes "/Cargo.toml")))

unfoldable pub placing_text : ℕ → List ℕ
placing_text number = codes "\",\"source\":\"" ++ (registry
    ++ (codes "\",\"manifest_path\":\"" ++ (path_text number ++ codes "\"}")))

unfoldable pub package_text : ℕ → List ℕ
package_text number = naming_text number ++ placing_text number

-- the dependency of the node of `app` on a crate
unfoldable pub dep_text : ℕ → List ℕ
dep_text number = divided number (codes ",") ++ (codes "{\"pkg\":\"" ++ (id_at number ++ codes "\"}"))

-- the node of a crate, behind that of `app`
unfoldable pub node_text : ℕ → List ℕ
node_text number = codes ",{\"id\":\"" ++ (id_at number ++ codes "\"}")

unfoldable pub member_text : List ℕ
member_text = codes "{\"name\":\"app\",\"version\":\"0.1.0\",\"id\":\"app\",\"manifest_path\":\"/w/Cargo.toml\""

unfoldable pub workspace_text : List ℕ
workspace_text = codes "],\"workspace_members\":[\"app\"],\"workspace_root\":\"/w\",\"resolve\":{\"nodes\":["

-- the package of `app`, which declares each crate, and the packages of the crates
unfoldable pub packages_text : List ℕ → List ℕ
packages_text numbers =
    member_text ++ (codes ",\"dependencies\":[" ++ (flat_map declaration_text numbers ++ (codes "]}"
    ++ flat_map package_text numbers)))

-- the node of `app`, which depends on each crate, and the nodes of the crates
unfoldable pub nodes_text : List ℕ → List ℕ
nodes_text numbers = codes "{\"id\":\"app\",\"deps\":[" ++ (flat_map dep_text numbers ++ (codes "]}"
    ++ flat_map node_text numbers))

-- the metadata of a number of crates
unfoldable pub metadata_text : ℕ → List ℕ
metadata_text crates = codes "{\"packages\":[" ++ (packages_text (below crates)
    ++ (workspace_text ++ (nodes_text (below crates) ++ codes "]}}")))
