-- The generated metadata is the text of the JSON value.
use Rattle.std.proofs.Common.{◌≡◌, ◌≤◌, ◌<◌, ◌+◌, ◌^◌, ◌∙◌, ◌++◌, ℕ, zero, suc, true, false, List, [], ◌∷◌, ap, ap₂}
use Rattle.std.proofs.Common.{append_assoc, arith, codes, refl, sym}
use Rattle.std.proofs.lemmas.Bool.{ne_eqb}
use Rattle.std.specs.List.{flat_map, range_with_len}
use Rattle.json.specs.Print.{escape, escape_byte}
use Rattle.serde_json.specs.Data.{Data, item, Items}
use Rattle.serde_json.specs.Written.{compact_text, items_text}
use Rattle.deny_cli_generator.specs.Made.{below, name_at, version_at}
use Rattle.deny_cli_generator.specs.MetadataText.{declaration_text, dep_text, id_at, member_text, metadata_text}
use Rattle.deny_cli_generator.specs.MetadataText.{naming_text, node_text, nodes_text, package_text, packages_text}
use Rattle.deny_cli_generator.specs.MetadataText.{path_text, placing_text, registry, workspace_text}
use Rattle.deny_cli_generator_laws.proofs.MetadataClean.{IsFew, id_at-clean, name_at-clean, path_text-clean}
use Rattle.deny_cli_generator_laws.proofs.MetadataClean.{registry-clean, version_at-clean}
use Rattle.deny_cli_generator_laws.proofs.MetadataValues.{declaration, declaration_of, dep, dep_of, each, node, node_of}
use Rattle.deny_cli_generator_laws.proofs.MetadataValues.{nodes, package_written, written, written_app}
use Rattle.deny_cli_generator_laws.proofs.MetadataValues.{written_app_node, written_package, written_whole}

-- ---- the texts of a crate

declaration_of-text : (name version : List ℕ) → escape name ≡ name → escape version ≡ version
    → compact_text (declaration_of name version)
    ≡ codes "{\"name\":\"" ++ (name ++ (codes "\",\"req\":\"" ++ (version ++ codes "\"}")))
unfolding escape_byte
declaration_of-text name version first second = simp (first, second, append_assoc)

dep_of-text : (id : List ℕ) → escape id ≡ id → compact_text (dep_of id) ≡ codes "{\"pkg\":\"" ++ (id ++ codes "\"}")
unfolding escape_byte
dep_of-text id clean = simp (clean, append_assoc)

node_of-text : (id : List ℕ) → escape id ≡ id → compact_text (node_of id) ≡ codes "{\"id\":\"" ++ (id ++ codes "\"}")
unfolding escape_byte
node_of-text id clean = simp (clean, append_assoc)

module _ (name version id source path : List ℕ) where
  written_package-text : escape name ≡ name → escape version ≡ version → escape id ≡ id → escape source ≡ source
      → escape path ≡ path
      → compact_text (written_package name version id source path)
      ≡ codes "{\"name\":\"" ++ (name ++ (codes "\",\"version\":\"" ++ (version ++ (codes "\",\"id\":\"" ++ (id
      ++ (codes "\",\"source\":\"" ++ (source ++ (codes "\",\"manifest_path\":\"" ++ (path ++ codes "\"}")))))))))
  unfolding escape_byte
  written_package-text first second third fourth fifth = simp (first, second, third, fourth, fifth, append_assoc)

written_app-text : (declarations : Items)
    → compact_text (written_app declarations)
    ≡ member_text ++ (codes ",\"dependencies\":[" ++ (items_text false declarations ++ codes "}"))
unfolding escape_byte member_text
written_app-text declarations = refl

written_app_node-text : (deps : Items)
    → compact_text (written_app_node deps)
    ≡ codes "{\"id\":\"app\",\"deps\":[" ++ (items_text false deps ++ codes "}")
unfolding escape_byte
written_app_node-text deps = refl

written_whole-text : (packages nodes : Items)
    → compact_text (written_whole packages nodes)
    ≡ codes "{\"packages\":[" ++ (items_text false packages
    ++ (codes ",\"workspace_members\":[\"app\"],\"workspace_root\":\"/w\",\"resolve\":{\"nodes\":["
    ++ (items_text false nodes ++ codes "}}")))
unfolding escape_byte
written_whole-text packages nodes = simp append_assoc

-- ---- the texts of numbers

package_text-parts : (number : ℕ)
    → package_text number
    ≡ 44 ∷ (codes "{\"name\":\"" ++ (name_at number ++ (codes "\",\"version\":\"" ++ (version_at number
    ++ (codes "\",\"id\":\"" ++ (id_at number ++ (codes "\",\"source\":\"" ++ (registry
    ++ (codes "\",\"manifest_path\":\"" ++ (path_text number ++ codes "\"}"))))))))))
unfolding package_text naming_text placing_text
package_text-parts number = simp append_assoc

module _ (number : ℕ) (few : IsFew number) where
  declaration-text : compact_text (declaration number)
      ≡ codes "{\"name\":\"" ++ (name_at number ++ (codes "\",\"req\":\"" ++ (version_at number ++ codes "\"}")))
  unfolding declaration
  declaration-text = declaration_of-text (name_at number) (version_at number) (name_at-clean number few)
      (version_at-clean number)

  dep-text : compact_text (dep number) ≡ codes "{\"pkg\":\"" ++ (id_at number ++ codes "\"}")
  unfolding dep
  dep-text = dep_of-text (id_at number) (id_at-clean number few)

  node-text : node_text number ≡ 44 ∷ compact_text (node number)
  unfolding node node_text
  node-text = ap (λ (text : List ℕ). 44 ∷ text) (sym (node_of-text (id_at number) (id_at-clean number few)))

  package-text : package_text number ≡ 44 ∷ compact_text (package_written number)
  unfolding package_written
  package-text = package_text-parts number ∙ ap (λ (text : List ℕ). 44 ∷ text)
      (sym (written_package-text (name_at number) (version_at number) (id_at number) registry (path_text number)
      (name_at-clean number few) (version_at-clean number) (id_at-clean number few) registry-clean
      (path_text-clean number few)))

  -- a comma is in front of each element but the first
  next_declaration : 0 < number → declaration_text number ≡ 44 ∷ compact_text (declaration number)
  unfolding declaration_text
  next_declaration some =
      rw (ne_eqb number 0 (λ is. omega arith)) (ap (λ (text : List ℕ). 44 ∷ text) (sym declaration-text))

  next_dep : 0 < number → dep_text number ≡ 44 ∷ compact_text (dep number)
  unfolding dep_text
  next_dep some = rw (ne_eqb number 0 (λ is. omega arith)) (ap (λ (text : List ℕ). 44 ∷ text) (sym dep-text))

first_declaration : declaration_text 0 ≡ compact_text (declaration 0)
unfolding declaration_text
first_declaration = sym (declaration-text 0 (omega arith))

first_dep : dep_text 0 ≡ compact_text (dep 0)
unfolding dep_text
first_dep = sym (dep-text 0 (omega arith))

-- ---- arrays with an element for each number

-- the elements of the numbers from one on, each behind a comma, with the closing bracket
later-text : (element : ℕ → Data) (text : ℕ → List ℕ) (from count : ℕ) (rest : List ℕ)
    → ((m : ℕ) → from ≤ m → m < from + count → text m ≡ 44 ∷ compact_text (element m))
    → flat_map text (range_with_len from count) ++ (93 ∷ rest)
    ≡ items_text true (each element (range_with_len from count)) ++ rest
later-text element text from zero rest is = refl
later-text element text from (suc count) rest is =
    let others = flat_map text (range_with_len (from + 1) count) in
    let items = items_text true (each element (range_with_len (from + 1) count)) in
    append_assoc (text from) others (93 ∷ rest)
    ∙ (ap₂ (λ (x y : List ℕ). x ++ y) (is from (omega arith) (omega arith))
    (later-text element text (from + 1) count rest (λ m least most. is m (omega arith) (omega arith)))
    ∙ ap (λ (x : List ℕ). 44 ∷ x) (sym (append_assoc (compact_text (element from)) items rest)))

all-text : (element : ℕ → Data) (text : ℕ → List ℕ) (count : ℕ) (rest : List ℕ)
    → text 0 ≡ compact_text (element 0)
    → ((m : ℕ) → 0 < m → m < count → text m ≡ 44 ∷ compact_text (element m))
    → flat_map text (below count) ++ (93 ∷ rest) ≡ items_text false (each element (below count)) ++ rest
all-text element text zero rest first is = refl
all-text element text (suc count) rest first is =
    let others = flat_map text (range_with_len 1 count) in
    let items = items_text true (each element (range_with_len 1 count)) in
    append_assoc (text 0) others (93 ∷ rest)
    ∙ (ap₂ (λ (x y : List ℕ). x ++ y) first
    (later-text element text 1 count rest (λ m least most. is m (omega arith) (omega arith)))
    ∙ sym (append_assoc (compact_text (element 0)) items rest))

-- ---- the whole text

-- the text before an array, the array, and the elements behind that of `app`
app_first : (start middle own own_items others items rest : List ℕ)
    → ((more : List ℕ) → own ++ (93 ∷ more) ≡ own_items ++ more) → others ++ (93 ∷ rest) ≡ items ++ rest
    → (start ++ (middle ++ (own ++ (codes "]}" ++ others)))) ++ (93 ∷ rest)
    ≡ ((start ++ (middle ++ (own_items ++ codes "}"))) ++ items) ++ rest
app_first start middle own own_items others items rest first second =
    simp append_assoc (ap (λ (text : List ℕ). start ++ (middle ++ text))
    (first (125 ∷ (others ++ (93 ∷ rest))) ∙ ap (λ (text : List ℕ). own_items ++ (125 ∷ text)) second))

module _ (crates : ℕ) (few : crates < 2 ^ 64) where
  declarations-text : (rest : List ℕ) → flat_map declaration_text (below crates) ++ (93 ∷ rest)
      ≡ items_text false (each declaration (below crates)) ++ rest
  declarations-text rest = all-text declaration declaration_text crates rest first_declaration
      (λ m some less. next_declaration m (omega arith) some)

  deps-text : (rest : List ℕ) → flat_map dep_text (below crates) ++ (93 ∷ rest)
      ≡ items_text false (each dep (below crates)) ++ rest
  deps-text rest = all-text dep dep_text crates rest first_dep (λ m some less. next_dep m (omega arith) some)

  crates-text : (rest : List ℕ) → flat_map package_text (below crates) ++ (93 ∷ rest)
      ≡ items_text true (each package_written (below crates)) ++ rest
  crates-text rest = later-text package_written package_text 0 crates rest
      (λ m least less. package-text m (omega arith))

  nodes-text : (rest : List ℕ) → flat_map node_text (below crates) ++ (93 ∷ rest)
      ≡ items_text true (each node (below crates)) ++ rest
  nodes-text rest = later-text node node_text 0 crates rest (λ m least less. node-text m (omega arith))

  all_packages-text : (rest : List ℕ) → packages_text (below crates) ++ (93 ∷ rest)
      ≡ items_text false (item (written_app (each declaration (below crates))) (each package_written (below crates)))
      ++ rest
  unfolding packages_text
  all_packages-text rest =
      let declarations = each declaration (below crates) in
      let items = items_text true (each package_written (below crates)) in
      app_first member_text (codes ",\"dependencies\":[") (flat_map declaration_text (below crates))
      (items_text false declarations) (flat_map package_text (below crates)) items rest
      declarations-text (crates-text rest)
      ∙ ap (λ (text : List ℕ). (text ++ items) ++ rest) (sym (written_app-text declarations))

  all_nodes-text : (rest : List ℕ) → nodes_text (below crates) ++ (93 ∷ rest)
      ≡ items_text false (nodes (written_app_node (each dep (below crates))) (below crates)) ++ rest
  unfolding nodes_text
  all_nodes-text rest =
      let deps = each dep (below crates) in
      let items = items_text true (each node (below crates)) in
      app_first [] (codes "{\"id\":\"app\",\"deps\":[") (flat_map dep_text (below crates)) (items_text false deps)
      (flat_map node_text (below crates)) items rest deps-text (nodes-text rest)
      ∙ ap (λ (text : List ℕ). (text ++ items) ++ rest) (sym (written_app_node-text deps))

  pub written-text : compact_text (written (below crates)) ≡ metadata_text crates
  unfolding written metadata_text workspace_text
  written-text =
      let packages = item (written_app (each declaration (below crates))) (each package_written (below crates)) in
      let all_nodes = nodes (written_app_node (each dep (below crates))) (below crates) in
      let middle = codes ",\"workspace_members\":[\"app\"],\"workspace_root\":\"/w\",\"resolve\":{\"nodes\":[" in
      written_whole-text packages all_nodes
      ∙ ap (λ (text : List ℕ). codes "{\"packages\":[" ++ text)
      (sym (all_packages-text (middle ++ (nodes_text (below crates) ++ codes "]}}"))
      ∙ ap (λ (text : List ℕ). items_text false packages ++ (middle ++ text)) (all_nodes-text (codes "}}"))))
