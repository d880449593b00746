-- The JSON value of the metadata is read as the document.
use Rattle.std.proofs.Common.{◌≡◌, ◌+◌, ℕ, List, [], ◌∷◌, Result, Ok, map, refl}
use Rattle.std.specs.Fmt.{decimal}
use Rattle.serde_json.specs.Data.{Data, Items, item}
use Rattle.deny_krates_metadata.specs.Document.{declaration_at, document_of, features_given, features_member}
use Rattle.deny_krates_metadata.specs.Document.{kind_given, kind_member, kinds_of, node_at, node_dependency_at}
use Rattle.deny_krates_metadata.specs.Document.{package_at, resolve_given}
use Rattle.deny_krates_metadata.specs.Elements.{array_member, each_member, each_optional, elements_from, flag_given}
use Rattle.deny_krates_metadata.specs.Elements.{flag_member, given, object_at, object_itself, object_member}
use Rattle.deny_krates_metadata.specs.Elements.{optional_items, optional_text, optional_text_of, optional_texts}
use Rattle.deny_krates_metadata.specs.Elements.{part_of, path_to, required, text_at, text_member, texts_given}
use Rattle.deny_krates_metadata.specs.Member.{name_of}
use Rattle.deny_krates_metadata.specs.declared.fault.MetadataFault.{MetadataFault}
use Rattle.deny_krates_metadata.specs.declared.member.MetadataMember.TheVariants.{Dependencies, Deps, Nodes, Packages}
use Rattle.deny_krates_metadata.specs.declared.member.MetadataMember.TheVariants.{Resolve}
use Rattle.deny_cli_generator_laws.proofs.MetadataDocument.{all_nodes, app, app_node, crate_node, declared, document}
use Rattle.deny_cli_generator_laws.proofs.MetadataDocument.{needed, crate_package, packages}
use Rattle.deny_cli_generator_laws.proofs.MetadataValues.{declaration, dep, each, node, nodes, package_read, read_app}
use Rattle.deny_cli_generator_laws.proofs.MetadataValues.{read_app_node, value}

-- the elements of an array are read one by one, whatever the path of the array
elements_from-each : {A : Type 0} (read : List ℕ → Data → Result A MetadataFault) (element : ℕ → Data) (found : ℕ → A)
    → ((path : List ℕ) (n : ℕ) → read path (element n) ≡ Ok (found n))
    → (path : List ℕ) (index : ℕ) (numbers : List ℕ)
    → elements_from read path index (each element numbers) ≡ Ok (map found numbers)
unfolding elements_from
elements_from-each read element found is path index [] = refl
elements_from-each read element found is path index (n ∷ numbers) =
    rw (is (part_of path (decimal index)) n, elements_from-each read element found is path (index + 1) numbers)

elements_from-first : {A : Type 0} (read : List ℕ → Data → Result A MetadataFault) (path : List ℕ) (index : ℕ)
    → (d : Data) (ds : Items) (x : A) (xs : List A) → read (part_of path (decimal index)) d ≡ Ok x
    → elements_from read path (index + 1) ds ≡ Ok xs → elements_from read path index (item d ds) ≡ Ok (x ∷ xs)
unfolding elements_from
elements_from-first read path index d ds x xs first others = rw (first, others)

declaration-found : (path : List ℕ) (n : ℕ) → declaration_at path (declaration n) ≡ Ok (declared n)
unfolding declaration declaration_at object_at text_member kind_member kind_given optional_text optional_text_of
    each_optional optional_items elements_from flag_member flag_given given required name_of
declaration-found path n = refl

dep-found : (path : List ℕ) (n : ℕ) → node_dependency_at path (dep n) ≡ Ok (needed n)
unfolding dep node_dependency_at object_at text_member each_optional optional_items elements_from given required
    kinds_of name_of
dep-found path n = refl

node-found : (path : List ℕ) (n : ℕ) → node_at path (node n) ≡ Ok (crate_node n)
unfolding node node_at object_at text_member each_optional optional_items elements_from given required name_of
node-found path n = refl

package-found : (path : List ℕ) (n : ℕ) → package_at path (package_read n) ≡ Ok (crate_package n)
unfolding package_read package_at object_at text_member optional_text optional_text_of text_at optional_texts
    texts_given features_member features_given each_optional optional_items elements_from given required name_of
package-found path n = refl

-- ---- the package and the node of `app`

app-found : (path : List ℕ) (numbers : List ℕ)
    → package_at path (read_app (each declaration numbers)) ≡ Ok (app (map declared numbers))
unfolding package_at object_at text_member optional_text optional_text_of text_at optional_texts texts_given
    features_member features_given each_optional optional_items given required name_of elements_from
app-found path numbers =
    rw (elements_from-each declaration_at declaration declared declaration-found (path_to path Dependencies) 0 numbers)

app_node-found : (path : List ℕ) (numbers : List ℕ)
    → node_at path (read_app_node (each dep numbers)) ≡ Ok (app_node (map needed numbers))
unfolding node_at object_at text_member each_optional optional_items given required name_of elements_from
app_node-found path numbers =
    rw (elements_from-each node_dependency_at dep needed dep-found (path_to path Deps) 0 numbers)

-- ---- the whole document

packages-found : (path : List ℕ) (numbers : List ℕ)
    → elements_from package_at path 0 (item (read_app (each declaration numbers)) (each package_read numbers))
    ≡ Ok (packages numbers)
packages-found path numbers =
    elements_from-first package_at path 0 (read_app (each declaration numbers)) (each package_read numbers)
    (app (map declared numbers)) (map crate_package numbers) (app-found (part_of path (decimal 0)) numbers)
    (elements_from-each package_at package_read crate_package package-found path 1 numbers)

nodes-found : (path : List ℕ) (numbers : List ℕ)
    → elements_from node_at path 0 (nodes (read_app_node (each dep numbers)) numbers) ≡ Ok (all_nodes numbers)
nodes-found path numbers =
    elements_from-first node_at path 0 (read_app_node (each dep numbers)) (each node numbers)
    (app_node (map needed numbers)) (map crate_node numbers) (app_node-found (part_of path (decimal 0)) numbers)
    (elements_from-each node_at node crate_node node-found path 1 numbers)

pub value-found : (numbers : List ℕ) → document_of (value numbers) ≡ Ok (document numbers)
unfolding value document_of object_at resolve_given given array_member each_member text_member object_member
    object_itself required name_of elements_from text_at
value-found numbers =
    rw (packages-found (path_to [] Packages) numbers, nodes-found (path_to (path_to [] Resolve) Nodes) numbers)
