-- The text of the metadata is read as its JSON value.
use Rattle.std.proofs.Common.{◌≡◌, ◌≤◌, ◌<◌, ◌^◌, ◌∙◌, ◌||◌, ℕ, Bool, false, List, [], ◌∷◌, Some, ap, ap₂, arith}
use Rattle.std.proofs.Common.{option_and_then, option_map, refl, sym}
use Rattle.json.specs.Tree as tree
use Rattle.serde_json.specs.Data.{Data, item, Items}
use Rattle.serde_json.specs.Read.{of_items, of_json, read}
use Rattle.serde_json.specs.Written.{has_float, items_have_float, items_outline, outline}
use Rattle.deny_krates_metadata.proofs.ReadBackLemmas.{read-compact_text}
use Rattle.deny_cli_generator.specs.Made.{below}
use Rattle.deny_cli_generator.specs.MetadataText.{metadata_text}
use Rattle.deny_cli_generator_laws.proofs.MetadataValues.{declaration, dep, each, node, nodes, package_read}
use Rattle.deny_cli_generator_laws.proofs.MetadataValues.{package_written, read_app, read_app_node, read_whole, value}
use Rattle.deny_cli_generator_laws.proofs.MetadataValues.{written, written_app, written_app_node, written_whole}
use Rattle.deny_cli_generator_laws.proofs.MetadataWrittenLemmas.{written-text}

-- ---- arrays with an element for each number

module _ (element : ℕ → Data) where
  each-numbers : ((n : ℕ) → tree.HasNumbers (outline (element n))) → (numbers : List ℕ)
      → tree.ItemsHaveNumbers (items_outline (each element numbers))
  each-numbers have [] = tt
  each-numbers have (n ∷ numbers) = (have n, each-numbers have numbers)

  each-depth : (most : ℕ) → ((n : ℕ) → tree.depth (outline (element n)) ≤ most) → (numbers : List ℕ)
      → tree.items_depth (items_outline (each element numbers)) ≤ most
  each-depth most have [] = omega arith
  each-depth most have (n ∷ numbers) = omega (arith, have n, each-depth most have numbers)

  each-whole : ((n : ℕ) → has_float (element n) ≡ false) → (numbers : List ℕ)
      → items_have_float (each element numbers) ≡ false
  each-whole have [] = refl
  each-whole have (n ∷ numbers) = ap₂ (λ (a b : Bool). a || b) (have n) (each-whole have numbers)

  each-read : (found : ℕ → Data) → ((n : ℕ) → of_json (outline (element n)) ≡ Some (found n)) → (numbers : List ℕ)
      → of_items (items_outline (each element numbers)) ≡ Some (each found numbers)
  each-read found have [] = refl
  each-read found have (n ∷ numbers) =
      ap (option_and_then (λ (d : Data). option_map (item d) (of_items (items_outline (each element numbers)))))
      (have n) ∙ ap (option_map (item (found n))) (each-read found have numbers)

-- ---- its numbers are those of JSON: it has none

declaration-numbers : (n : ℕ) → tree.HasNumbers (outline (declaration n))
unfolding declaration
declaration-numbers n = (tt, (tt, tt))

dep-numbers : (n : ℕ) → tree.HasNumbers (outline (dep n))
unfolding dep
dep-numbers n = (tt, tt)

node-numbers : (n : ℕ) → tree.HasNumbers (outline (node n))
unfolding node
node-numbers n = (tt, tt)

package-numbers : (n : ℕ) → tree.HasNumbers (outline (package_written n))
unfolding package_written
package-numbers n = (tt, (tt, (tt, (tt, (tt, tt)))))

app-numbers : (declarations : Items) → tree.ItemsHaveNumbers (items_outline declarations)
    → tree.HasNumbers (outline (written_app declarations))
app-numbers declarations have = (tt, (tt, (tt, (tt, (have, tt)))))

app_node-numbers : (deps : Items) → tree.ItemsHaveNumbers (items_outline deps)
    → tree.HasNumbers (outline (written_app_node deps))
app_node-numbers deps have = (tt, (have, tt))

whole-numbers : (packages nodes : Items) → tree.ItemsHaveNumbers (items_outline packages)
    → tree.ItemsHaveNumbers (items_outline nodes) → tree.HasNumbers (outline (written_whole packages nodes))
whole-numbers packages nodes first second = (first, ((tt, tt), (tt, ((second, tt), tt))))

written-numbers : (numbers : List ℕ) → tree.HasNumbers (outline (written numbers))
unfolding written
written-numbers numbers =
    let declarations = each declaration numbers in
    let deps = each dep numbers in
    whole-numbers (item (written_app declarations) (each package_written numbers))
    (item (written_app_node deps) (each node numbers)) (
      app-numbers declarations (each-numbers declaration declaration-numbers numbers),
      each-numbers package_written package-numbers numbers,
    )
    (app_node-numbers deps (each-numbers dep dep-numbers numbers), each-numbers node node-numbers numbers)

-- ---- it is nested six levels deep

declaration-depth : (n : ℕ) → tree.depth (outline (declaration n)) ≤ 1
unfolding declaration
declaration-depth n = omega arith

dep-depth : (n : ℕ) → tree.depth (outline (dep n)) ≤ 1
unfolding dep
dep-depth n = omega arith

node-depth : (n : ℕ) → tree.depth (outline (node n)) ≤ 1
unfolding node
node-depth n = omega arith

package-depth : (n : ℕ) → tree.depth (outline (package_written n)) ≤ 1
unfolding package_written
package-depth n = omega arith

written-depth : (numbers : List ℕ) → tree.depth (outline (written numbers)) ≤ 127
unfolding written
written-depth numbers = omega (
  arith,
  each-depth declaration 1 declaration-depth numbers,
  each-depth dep 1 dep-depth numbers,
  each-depth node 1 node-depth numbers,
  each-depth package_written 1 package-depth numbers,
)

-- ---- the members of its objects are inserted by their names

declaration-read : (n : ℕ) → of_json (outline (declaration n)) ≡ Some (declaration n)
unfolding declaration
declaration-read n = refl

dep-read : (n : ℕ) → of_json (outline (dep n)) ≡ Some (dep n)
unfolding dep
dep-read n = refl

node-read : (n : ℕ) → of_json (outline (node n)) ≡ Some (node n)
unfolding node
node-read n = refl

package-read : (n : ℕ) → of_json (outline (package_written n)) ≡ Some (package_read n)
unfolding package_written package_read
package-read n = refl

app-read : (declarations : Items) → of_items (items_outline declarations) ≡ Some declarations
    → of_json (outline (written_app declarations)) ≡ Some (read_app declarations)
app-read declarations is = rw is

app_node-read : (deps : Items) → of_items (items_outline deps) ≡ Some deps
    → of_json (outline (written_app_node deps)) ≡ Some (read_app_node deps)
app_node-read deps is = rw is

item-read : (d made : Data) (ds mades : Items) → of_json (outline d) ≡ Some made
    → of_items (items_outline ds) ≡ Some mades → of_items (items_outline (item d ds)) ≡ Some (item made mades)
item-read d made ds mades first others = rw (first, others)

whole-read : (packages read_packages nodes read_nodes : Items)
    → of_items (items_outline packages) ≡ Some read_packages → of_items (items_outline nodes) ≡ Some read_nodes
    → of_json (outline (written_whole packages nodes)) ≡ Some (read_whole read_packages read_nodes)
whole-read packages read_packages nodes read_nodes first second = rw (first, second)

written-read : (numbers : List ℕ) → of_json (outline (written numbers)) ≡ Some (value numbers)
unfolding written value
written-read numbers =
    let declarations = each declaration numbers in
    let deps = each dep numbers in
    whole-read
    (item (written_app declarations) (each package_written numbers))
    (item (read_app declarations) (each package_read numbers))
    (item (written_app_node deps) (each node numbers)) (item (read_app_node deps) (each node numbers))
    (item-read (written_app declarations) (read_app declarations) (each package_written numbers)
    (each package_read numbers)
    (app-read declarations (each-read declaration declaration declaration-read numbers))
    (each-read package_written package_read package-read numbers))
    (item-read (written_app_node deps) (read_app_node deps) (each node numbers) (each node numbers)
    (app_node-read deps (each-read dep dep dep-read numbers)) (each-read node node node-read numbers))

-- ---- it has no float

declaration-whole : (n : ℕ) → has_float (declaration n) ≡ false
unfolding declaration
declaration-whole n = refl

dep-whole : (n : ℕ) → has_float (dep n) ≡ false
unfolding dep
dep-whole n = refl

node-whole : (n : ℕ) → has_float (node n) ≡ false
unfolding node
node-whole n = refl

package-whole : (n : ℕ) → has_float (package_read n) ≡ false
unfolding package_read
package-whole n = refl

pub value-whole : (numbers : List ℕ) → has_float (value numbers) ≡ false
unfolding value
value-whole numbers = rw (
  each-whole declaration declaration-whole numbers,
  each-whole dep dep-whole numbers,
  each-whole node node-whole numbers,
  each-whole package_read package-whole numbers,
)

-- ---- the whole value

pub metadata-read : (crates : ℕ) → crates < 2 ^ 64 → read (metadata_text crates) ≡ Some (value (below crates))
metadata-read crates few =
    let numbers = below crates in
    ap read (sym (written-text crates few))
    ∙ (read-compact_text (written numbers) (written-numbers numbers) (written-depth numbers) ∙ written-read numbers)
