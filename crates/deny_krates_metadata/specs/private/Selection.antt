-- Which members of metadata are read, and values reduced to them.
use Rattle.std.specs.Prelude.{◌||◌, ℕ, List, Bool, true, false, if◌then◌else◌}
use Rattle.json.specs.Json as json
use Rattle.json.specs.Json.{Json}
use Rattle.deny_spec.specs.Text.{same_text}
use Rattle.deny_krates_metadata.specs.Member.{name_of}
use Rattle.deny_krates_metadata.specs.declared.member.MetadataMember.{MetadataMember}
use Rattle.deny_krates_metadata.specs.declared.member.MetadataMember.TheVariants as member
use Rattle.deny_krates_metadata.specs.declared.selection.Selection.{Selection}
use Rattle.deny_krates_metadata.specs.declared.selection.Selection.TheVariants.{All, Nothing, Metadata, Package, Target}
use Rattle.deny_krates_metadata.specs.declared.selection.Selection.TheVariants.{Declaration}
use Rattle.deny_krates_metadata.specs.declared.selection.Selection.TheVariants.{Resolve, Node, NodeDependency}

abbrev pub is_nothing : Selection → Bool
is_nothing All = false
is_nothing Nothing = true
is_nothing Metadata = false
is_nothing Package = false
is_nothing Target = false
is_nothing Declaration = false
is_nothing Resolve = false
is_nothing Node = false
is_nothing NodeDependency = false

abbrev pub all_if : Bool → Selection
all_if is_read = if is_read then All else Nothing

-- the name is that of the member
abbrev pub has : List ℕ → MetadataMember → Bool
has name m = same_text name (name_of m)

unfoldable pub metadata_member : List ℕ → Selection
metadata_member name =
    if has name member.Packages then Package
    else (if has name member.Resolve then Resolve
    else all_if (has name member.WorkspaceMembers || has name member.WorkspaceRoot))

unfoldable pub package_member : List ℕ → Selection
package_member name =
    if has name member.Targets then Target
    else (if has name member.Dependencies then Declaration
    else all_if (has name member.Name || (has name member.Version || (has name member.Id
    || (has name member.ManifestPath || (has name member.Source || (has name member.License
    || (has name member.RustVersion || (has name member.Publish || has name member.Features)))))))))

unfoldable pub target_member : List ℕ → Selection
target_member name = all_if (has name member.Kind || has name member.SrcPath)

unfoldable pub declaration_member : List ℕ → Selection
declaration_member name =
    all_if (has name member.Name || (has name member.Req || (has name member.Kind || (has name member.Rename
    || (has name member.Target || (has name member.Path || (has name member.Features
    || has name member.UsesDefaultFeatures)))))))

unfoldable pub resolve_member : List ℕ → Selection
resolve_member name = if has name member.Nodes then Node else Nothing

unfoldable pub node_member : List ℕ → Selection
node_member name =
    if has name member.Deps then NodeDependency
    else all_if (has name member.Id || has name member.Features)

unfoldable pub dependency_member : List ℕ → Selection
dependency_member name = all_if (has name member.Pkg || has name member.DepKinds)

-- what is read of a member, by its name
abbrev pub member_selected : Selection → List ℕ → Selection
member_selected All name = All
member_selected Nothing name = Nothing
member_selected Metadata name = metadata_member name
member_selected Package name = package_member name
member_selected Target name = target_member name
member_selected Declaration name = declaration_member name
member_selected Resolve name = resolve_member name
member_selected Node name = node_member name
member_selected NodeDependency name = dependency_member name

-- a value without the members and the elements of which nothing is read
abbrev mutual
  pub pruned : Selection → Json → Json
  pruned w json.null = json.null
  pruned w (json.boolean b) = json.boolean b
  pruned w (json.number s) = json.number s
  pruned w (json.string s) = json.string s
  pruned w (json.array js) = json.array (pruned_items w js)
  pruned w (json.object ms) = json.object (pruned_members w ms)

  pub pruned_items : Selection → json.Items → json.Items
  pruned_items w json.no_items = json.no_items
  pruned_items w (json.item j js) =
      if is_nothing w then pruned_items w js else json.item (pruned w j) (pruned_items w js)

  pub pruned_members : Selection → json.Members → json.Members
  pruned_members w json.no_members = json.no_members
  pruned_members w (json.member name j ms) =
      if is_nothing (member_selected w name) then pruned_members w ms
      else json.member name (pruned (member_selected w name) j) (pruned_members w ms)
