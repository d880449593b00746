-- Metadata that is reduced to the members that are read is read as the same document.
use Rattle.std.proofs.Common.{◌≡◌, ◌∙◌, ◌+◌, ℕ, List, [], ◌∷◌, Bool, true, false, cond, Option, Some, None}
use Rattle.std.proofs.Common.{Result, Ok, Err, option_map, option_and_then, refl, sym, ap, ap₂, true≢false}
use Rattle.std.specs.Prelude.{if◌then◌else◌, is_none}
use Rattle.std.specs.Fmt.{decimal}
use Rattle.std.specs.Str.{bytes_eq, is_utf8}
use Rattle.std.proofs.lemmas.Slice.Eq.{bytes_eq-Decides}
use Rattle.json.specs.Find as find
use Rattle.json.specs.Json as json
use Rattle.json.specs.Json.{Json}
use Rattle.serde_json.specs.Data.{Data}
use Rattle.serde_json.specs.Find.{as_array, as_str, get}
use Rattle.deny_krates_metadata.specs.Document.{declaration_at, document_at, document_of, features_given}
use Rattle.deny_krates_metadata.specs.Document.{features_member}
use Rattle.deny_krates_metadata.specs.Document.{kind_given, kind_member, needed_as_at, node_at, node_dependency_at}
use Rattle.deny_krates_metadata.specs.Document.{package_at, resolve_given, target_at}
use Rattle.deny_krates_metadata.specs.Elements.{array_member, each_member, each_optional, elements_from, flag_given}
use Rattle.deny_krates_metadata.specs.Elements.{flag_member, given, object_at, object_itself, object_member}
use Rattle.deny_krates_metadata.specs.Elements.{optional_items}
use Rattle.deny_krates_metadata.specs.Elements.{optional_text, optional_text_of, optional_texts, part_of, path_to}
use Rattle.deny_krates_metadata.specs.Elements.{required}
use Rattle.deny_krates_metadata.specs.Elements.{text_at, text_member, texts_given}
use Rattle.deny_krates_metadata.specs.Member.{name_of}
use Rattle.deny_base_lists.specs.Reader.{◌>>=◌}
use Rattle.deny_krates_metadata.specs.declared.document.Document.{Document}
use Rattle.deny_krates_metadata.specs.declared.fault.MetadataFault.{MetadataFault}
use Rattle.deny_krates_metadata.specs.declared.member.MetadataMember.TheVariants as named
use Rattle.deny_krates_metadata.specs.declared.member.MetadataMember.{MetadataMember}
use Rattle.deny_krates_metadata.specs.declared.selection.Selection.{Selection}
use Rattle.deny_krates_metadata.specs.declared.selection.Selection.TheVariants.{All, Metadata, Package, Target}
use Rattle.deny_krates_metadata.specs.declared.selection.Selection.TheVariants.{Declaration}
use Rattle.deny_krates_metadata.specs.declared.selection.Selection.TheVariants.{Resolve, Node, NodeDependency}
use Rattle.deny_krates_metadata.specs.private.Borrowed.{data_of, is_whole, items_of, parsed}
use Rattle.deny_krates_metadata.specs.private.Selection.{declaration_member, dependency_member, is_nothing}
use Rattle.deny_krates_metadata.specs.private.Selection.{member_selected}
use Rattle.deny_krates_metadata.specs.private.Selection.{metadata_member, node_member, package_member, pruned}
use Rattle.deny_krates_metadata.specs.private.Selection.{pruned_items}
use Rattle.deny_krates_metadata.specs.private.Selection.{pruned_members, resolve_member, target_member}
use Rattle.deny_krates_metadata.proofs.BorrowedLemmas.{get-data_of}
use Rattle.deny_krates_metadata.proofs.WholeLemmas.{value_whole}

-- ---- members that are read are found where they were found

mutual
  all_stays : (j : Json) → pruned All j ≡ j
  all_stays json.null = refl
  all_stays (json.boolean b) = refl
  all_stays (json.number s) = refl
  all_stays (json.string s) = refl
  all_stays (json.array js) = ap json.array (all_items js)
  all_stays (json.object ms) = ap json.object (all_members ms)

  all_items : (js : json.Items) → pruned_items All js ≡ js
  all_items json.no_items = refl
  all_items (json.item j js) = ap₂ json.item (all_stays j) (all_items js)

  all_members : (ms : json.Members) → pruned_members All ms ≡ ms
  all_members json.no_members = refl
  all_members (json.member name j ms) = ap₂ (json.member name) (all_stays j) (all_members ms)

none_later : (o : Option Json) → find.later_or o None ≡ o
none_later None = refl
none_later (Some j) = refl

some_later : (f : Json → Json) (o : Option Json) (j : Json)
    → find.later_or (option_map f o) (Some (f j)) ≡ option_map f (find.later_or o (Some j))
some_later f None j = refl
some_later f (Some k) j = refl

-- a member more, which is kept or not
found_one : (b n : Bool) (name key : List ℕ) (f g : Json → Json) (j : Json) (ms kept : json.Members)
    → bytes_eq key name ≡ b → (b ≡ true → n ≡ false) → (b ≡ true → g j ≡ f j)
    → find.get_member name kept ≡ option_map f (find.get_member name ms)
    → find.get_member name (if n then kept else json.member key (g j) kept)
    ≡ option_map f (find.get_member name (json.member key j ms))
found_one true true name key f g j ms kept is read same rest = absurd (true≢false (read refl))
found_one true false name key f g j ms kept is read same rest =
    ap₂ (λ o b. find.later_or o (cond b (Some (g j)) None)) rest is
    ∙ (ap (λ k. find.later_or (option_map f (find.get_member name ms)) (Some k)) (same refl)
    ∙ (some_later f (find.get_member name ms) j
    ∙ ap (λ b. option_map f (find.later_or (find.get_member name ms) (cond b (Some j) None))) (sym is)))
found_one false true name key f g j ms kept is read same rest =
    rest ∙ (ap (option_map f) (sym (none_later (find.get_member name ms)))
    ∙ ap (λ b. option_map f (find.later_or (find.get_member name ms) (cond b (Some j) None))) (sym is))
found_one false false name key f g j ms kept is read same rest =
    ap₂ (λ o b. find.later_or o (cond b (Some (g j)) None)) rest is
    ∙ (none_later (option_map f (find.get_member name ms))
    ∙ (ap (option_map f) (sym (none_later (find.get_member name ms)))
    ∙ ap (λ b. option_map f (find.later_or (find.get_member name ms) (cond b (Some j) None))) (sym is)))

found : (w : Selection) (name : List ℕ) (ms : json.Members) → is_nothing (member_selected w name) ≡ false
    → find.get_member name (pruned_members w ms)
    ≡ option_map (pruned (member_selected w name)) (find.get_member name ms)
found w name json.no_members some = refl
found w name (json.member key j ms) some =
    let same : bytes_eq key name ≡ true → key ≡ name = (bytes_eq-Decides key name).0 in
    found_one (bytes_eq key name) (is_nothing (member_selected w key)) name key (pruned (member_selected w name))
    (pruned (member_selected w key)) j ms (pruned_members w ms) refl
    (λ e. ap (λ k. is_nothing (member_selected w k)) (same e) ∙ some)
    (λ e. ap (λ k. pruned (member_selected w k) j) (same e)) (found w name ms some)

found_in : (w : Selection) (name : List ℕ) (j : Json) → is_nothing (member_selected w name) ≡ false
    → find.get name (pruned w j) ≡ option_map (pruned (member_selected w name)) (find.get name j)
found_in w name json.null some = refl
found_in w name (json.boolean b) some = refl
found_in w name (json.number s) some = refl
found_in w name (json.string s) some = refl
found_in w name (json.array js) some = refl
found_in w name (json.object ms) some = found w name ms some

-- the data of a value that is reduced to a selection
abbrev part : Selection → Json → Data
part w j = data_of (pruned w j)

mapped_twice : (w : Selection) (o : Option Json) → option_map data_of (option_map (pruned w) o) ≡ option_map (part w) o
mapped_twice w None = refl
mapped_twice w (Some j) = refl

-- a member of which a part is selected
get_part : (w v : Selection) (name : List ℕ) (j : Json) → member_selected w name ≡ v → is_nothing v ≡ false
    → get name (part w j) ≡ option_map (part v) (find.get name j)
get_part w v name j is some =
    get-data_of name (pruned w j)
    ∙ (ap (option_map data_of) (found_in w name j (ap is_nothing is ∙ some))
    ∙ (mapped_twice (member_selected w name) (find.get name j)
    ∙ ap (λ x. option_map (part x) (find.get name j)) is))

all_of : (o : Option Json) → option_map (part All) o ≡ option_map data_of o
all_of None = refl
all_of (Some j) = ap (λ k. Some (data_of k)) (all_stays j)

-- a member of which all is selected
get_all : (w : Selection) (name : List ℕ) (j : Json) → member_selected w name ≡ All
    → get name (part w j) ≡ get name (data_of j)
get_all w name j is = get_part w All name j is refl ∙ (all_of (find.get name j) ∙ sym (get-data_of name j))

-- ---- readers of members

text_same : (path : List ℕ) (m : MetadataMember) (a b : Data) → get (name_of m) a ≡ get (name_of m) b
    → text_member path m a ≡ text_member path m b
unfolding text_member
text_same path m a b e = ap (λ o. required (path_to path m) (option_and_then as_str o)) e

optional_text_same : (path : List ℕ) (m : MetadataMember) (a b : Data) → get (name_of m) a ≡ get (name_of m) b
    → optional_text path m a ≡ optional_text path m b
unfolding optional_text
optional_text_same path m a b e = ap (λ o. optional_text_of (path_to path m) (given o)) e

optional_texts_same : (path : List ℕ) (m : MetadataMember) (a b : Data) → get (name_of m) a ≡ get (name_of m) b
    → optional_texts path m a ≡ optional_texts path m b
unfolding optional_texts
optional_texts_same path m a b e = ap (λ o. texts_given (path_to path m) (given o)) e

flag_same : (path : List ℕ) (m : MetadataMember) (default : Bool) (a b : Data) → get (name_of m) a ≡ get (name_of m) b
    → flag_member path m default a ≡ flag_member path m default b
unfolding flag_member
flag_same path m default a b e = ap (λ o. flag_given (path_to path m) default (given o)) e

kind_same : (path : List ℕ) (a b : Data) → get (name_of named.Kind) a ≡ get (name_of named.Kind) b
    → kind_member path a ≡ kind_member path b
unfolding kind_member
kind_same path a b e = ap (λ o. kind_given (path_to path named.Kind) (given o)) e

features_same : (path : List ℕ) (a b : Data)
    → get (name_of named.Features) a ≡ get (name_of named.Features) b
    → features_member path a ≡ features_member path b
unfolding features_member
features_same path a b e = ap (λ o. features_given (path_to path named.Features) (given o)) e

each_same : {A : Type 0} (read : List ℕ → Data → Result A MetadataFault) (path : List ℕ) (m : MetadataMember)
    (a b : Data) → get (name_of m) a ≡ get (name_of m) b → each_member read path m a ≡ each_member read path m b
unfolding each_member array_member
each_same read path m a b e =
    ap (λ o. required (path_to path m) (option_and_then as_array o) >>= elements_from read (path_to path m) 0) e

each_optional_same : {A : Type 0} (read : List ℕ → Data → Result A MetadataFault) (path : List ℕ) (m : MetadataMember)
    (a b : Data) → get (name_of m) a ≡ get (name_of m) b → each_optional read path m a ≡ each_optional read path m b
unfolding each_optional
each_optional_same read path m a b e =
    ap (λ o. optional_items (path_to path m) (given o) >>= elements_from read (path_to path m) 0) e

object_same : (w : Selection) (path : List ℕ) (j : Json) → object_at path (part w j) ≡ object_at path (data_of j)
unfolding object_at
object_same w path json.null = refl
object_same w path (json.boolean b) = refl
object_same w path (json.number s) = refl
object_same w path (json.string s) = refl
object_same w path (json.array js) = refl
object_same w path (json.object ms) = refl

-- ---- elements

-- a reader that reads no more than a selection
abbrev Reads : {A : Type 0} → Selection → (List ℕ → Data → Result A MetadataFault) → Type 0
Reads w read = (path : List ℕ) (j : Json) → read path (part w j) ≡ read path (data_of j)

elements_same : {A : Type 0} (w : Selection) (read : List ℕ → Data → Result A MetadataFault) → is_nothing w ≡ false
    → Reads w read → (path : List ℕ) (index : ℕ) (js : json.Items)
    → elements_from read path index (items_of (pruned_items w js)) ≡ elements_from read path index (items_of js)
unfolding elements_from
elements_same w read some same path index json.no_items = refl
elements_same w read some same path index (json.item j js) =
    ap (λ b. elements_from read path index
    (items_of (if b then pruned_items w js else json.item (pruned w j) (pruned_items w js)))) some
    ∙ ap₂ (λ x xs. x >>= (λ y. xs >>= (λ ys. Ok (y ∷ ys)))) (same (part_of path (decimal index)) j)
    (elements_same w read some same path (index + 1) js)

given_same : {A : Type 0} (w : Selection) (read : List ℕ → Data → Result A MetadataFault) → is_nothing w ≡ false
    → Reads w read → (path : List ℕ) (o : Option Json)
    → (optional_items path (given (option_map (part w) o)) >>= elements_from read path 0)
    ≡ (optional_items path (given (option_map data_of o)) >>= elements_from read path 0)
unfolding given optional_items required
given_same w read some same path None = refl
given_same w read some same path (Some json.null) = refl
given_same w read some same path (Some (json.boolean b)) = refl
given_same w read some same path (Some (json.number s)) = refl
given_same w read some same path (Some (json.string s)) = refl
given_same w read some same path (Some (json.array js)) = elements_same w read some same path 0 js
given_same w read some same path (Some (json.object ms)) = refl

each_given_same : {A : Type 0} (w v : Selection) (m : MetadataMember) (read : List ℕ → Data → Result A MetadataFault)
    → member_selected w (name_of m) ≡ v → is_nothing v ≡ false → Reads v read → (path : List ℕ) (j : Json)
    → each_optional read path m (part w j) ≡ each_optional read path m (data_of j)
unfolding each_optional
each_given_same w v m read is some same path j =
    let next =
    λ (o : Option Data). optional_items (path_to path m) (given o) >>= elements_from read (path_to path m) 0 in
    ap next (get_part w v (name_of m) j is some)
    ∙ (given_same v read some same (path_to path m) (find.get (name_of m) j)
    ∙ ap next (sym (get-data_of (name_of m) j)))

asked_same : {A : Type 0} (w : Selection) (read : List ℕ → Data → Result A MetadataFault) → is_nothing w ≡ false
    → Reads w read → (path : List ℕ) (o : Option Json)
    → (required path (option_and_then as_array (option_map (part w) o)) >>= elements_from read path 0)
    ≡ (required path (option_and_then as_array (option_map data_of o)) >>= elements_from read path 0)
unfolding required
asked_same w read some same path None = refl
asked_same w read some same path (Some json.null) = refl
asked_same w read some same path (Some (json.boolean b)) = refl
asked_same w read some same path (Some (json.number s)) = refl
asked_same w read some same path (Some (json.string s)) = refl
asked_same w read some same path (Some (json.array js)) = elements_same w read some same path 0 js
asked_same w read some same path (Some (json.object ms)) = refl

each_asked_same : {A : Type 0} (w v : Selection) (m : MetadataMember) (read : List ℕ → Data → Result A MetadataFault)
    → member_selected w (name_of m) ≡ v → is_nothing v ≡ false → Reads v read → (path : List ℕ) (j : Json)
    → each_member read path m (part w j) ≡ each_member read path m (data_of j)
unfolding each_member array_member
each_asked_same w v m read is some same path j =
    let at = path_to path m in
    let next =
    λ (o : Option Data). required at (option_and_then as_array o) >>= elements_from read at 0 in
    ap next (get_part w v (name_of m) j is some)
    ∙ (asked_same v read some same (path_to path m) (find.get (name_of m) j)
    ∙ ap next (sym (get-data_of (name_of m) j)))

-- ---- the objects of metadata

target_same : Reads Target target_at
unfolding target_at target_member name_of
target_same path j =
    rw (
      object_same Target path j,
      each_same text_at path named.Kind (part Target j) (data_of j)
          (get_all Target (name_of named.Kind) j refl),
      text_same path named.SrcPath (part Target j) (data_of j)
          (get_all Target (name_of named.SrcPath) j refl),
    )
    refl

declaration_same : Reads Declaration declaration_at
unfolding declaration_at declaration_member name_of
declaration_same path j =
    let a = part Declaration j in
    let b = data_of j in
    rw (
      object_same Declaration path j,
      text_same path named.Name a b (get_all Declaration (name_of named.Name) j refl),
      text_same path named.Req a b (get_all Declaration (name_of named.Req) j refl),
      kind_same path a b (get_all Declaration (name_of named.Kind) j refl),
      optional_text_same path named.Rename a b
          (get_all Declaration (name_of named.Rename) j refl),
      optional_text_same path named.Target a b
          (get_all Declaration (name_of named.Target) j refl),
      optional_text_same path named.Path a b
          (get_all Declaration (name_of named.Path) j refl),
      each_optional_same text_at path named.Features a b
          (get_all Declaration (name_of named.Features) j refl),
      flag_same path named.UsesDefaultFeatures true a b
          (get_all Declaration (name_of named.UsesDefaultFeatures) j refl),
    )
    refl

package_same : Reads Package package_at
unfolding package_at package_member name_of
package_same path j =
    let a = part Package j in
    let b = data_of j in
    rw (
      object_same Package path j,
      text_same path named.Name a b (get_all Package (name_of named.Name) j refl),
      text_same path named.Version a b (get_all Package (name_of named.Version) j refl),
      text_same path named.Id a b (get_all Package (name_of named.Id) j refl),
      text_same path named.ManifestPath a b
          (get_all Package (name_of named.ManifestPath) j refl),
      optional_text_same path named.Source a b
          (get_all Package (name_of named.Source) j refl),
      optional_text_same path named.License a b
          (get_all Package (name_of named.License) j refl),
      optional_text_same path named.RustVersion a b
          (get_all Package (name_of named.RustVersion) j refl),
      optional_texts_same path named.Publish a b
          (get_all Package (name_of named.Publish) j refl),
      features_same path a b (get_all Package (name_of named.Features) j refl),
      each_given_same Package Target named.Targets target_at refl refl target_same path j,
      each_given_same Package Declaration named.Dependencies declaration_at refl refl declaration_same
          path j,
    )
    refl

dependency_same : Reads NodeDependency node_dependency_at
unfolding node_dependency_at dependency_member name_of
dependency_same path j =
    let a = part NodeDependency j in
    let b = data_of j in
    rw (
      object_same NodeDependency path j,
      text_same path named.Pkg a b (get_all NodeDependency (name_of named.Pkg) j refl),
      each_optional_same needed_as_at path named.DepKinds a b
          (get_all NodeDependency (name_of named.DepKinds) j refl),
    )
    refl

node_same : Reads Node node_at
unfolding node_at node_member name_of
node_same path j =
    let a = part Node j in
    let b = data_of j in
    rw (
      object_same Node path j,
      text_same path named.Id a b (get_all Node (name_of named.Id) j refl),
      each_optional_same text_at path named.Features a b
          (get_all Node (name_of named.Features) j refl),
      each_given_same Node NodeDependency named.Deps node_dependency_at refl refl dependency_same path j,
    )
    refl

nodes_same : (path : List ℕ) (j : Json)
    → each_member node_at path named.Nodes (part Resolve j)
    ≡ each_member node_at path named.Nodes (data_of j)
unfolding resolve_member name_of
nodes_same path j = each_asked_same Resolve Node named.Nodes node_at refl refl node_same path j

-- ---- the root

resolve_same : (o : Option Json)
    → is_none (given (option_map (part Resolve) o)) ≡ is_none (given (option_map data_of o))
unfolding given
resolve_same None = refl
resolve_same (Some json.null) = refl
resolve_same (Some (json.boolean b)) = refl
resolve_same (Some (json.number s)) = refl
resolve_same (Some (json.string s)) = refl
resolve_same (Some (json.array js)) = refl
resolve_same (Some (json.object ms)) = refl

-- the document of a workspace's members and folder, its packages and its nodes
abbrev joined : Result (List (List ℕ)) MetadataFault → Result (List ℕ) MetadataFault → Option Data → Option Data
    → Result Document MetadataFault
joined reads_members reads_root packages resolve = do
  listed ← required (path_to [] named.Packages) (option_and_then as_array packages)
  members ← reads_members
  workspace_root ← reads_root
  resolution ← required (path_to [] named.Resolve) (option_and_then object_itself resolve)
  read_packages ← elements_from package_at (path_to [] named.Packages) 0 listed
  nodes ← each_member node_at (path_to [] named.Resolve) named.Nodes resolution
  Ok (record { packages = read_packages; members = members; workspace_root = workspace_root; nodes = nodes })

joined_in : (members : List (List ℕ)) (root : List ℕ) (js : json.Items) (o : Option Json)
    → joined (Ok members) (Ok root) (Some (part Package (json.array js))) (option_map (part Resolve) o)
    ≡ joined (Ok members) (Ok root) (Some (data_of (json.array js))) (option_map data_of o)
unfolding required object_itself
joined_in members root js None = refl
joined_in members root js (Some json.null) = refl
joined_in members root js (Some (json.boolean b)) = refl
joined_in members root js (Some (json.number s)) = refl
joined_in members root js (Some (json.string s)) = refl
joined_in members root js (Some (json.array ks)) = refl
joined_in members root js (Some (json.object ms)) =
    rw (
      elements_same Package package_at refl package_same (path_to [] named.Packages) 0 js,
      nodes_same (path_to [] named.Resolve) (json.object ms),
    )
    refl

joined_by : (members : Result (List (List ℕ)) MetadataFault) (root : Result (List ℕ) MetadataFault) (js : json.Items)
    (o : Option Json)
    → joined members root (Some (part Package (json.array js))) (option_map (part Resolve) o)
    ≡ joined members root (Some (data_of (json.array js))) (option_map data_of o)
unfolding required
joined_by (Ok members) (Ok root) js o = joined_in members root js o
joined_by (Ok members) (Err e) js o = refl
joined_by (Err e) root js o = refl

joined_same : (members : Result (List (List ℕ)) MetadataFault) (root : Result (List ℕ) MetadataFault)
    (o p : Option Json)
    → joined members root (option_map (part Package) o) (option_map (part Resolve) p)
    ≡ joined members root (option_map data_of o) (option_map data_of p)
unfolding required
joined_same members root None p = refl
joined_same members root (Some json.null) p = refl
joined_same members root (Some (json.boolean b)) p = refl
joined_same members root (Some (json.number s)) p = refl
joined_same members root (Some (json.string s)) p = refl
joined_same members root (Some (json.array js)) p = joined_by members root js p
joined_same members root (Some (json.object ms)) p = refl

-- members that are never read make no difference to the document
document_same : (j : Json) → document_of (data_of (pruned Metadata j)) ≡ document_of (data_of j)
unfolding document_of resolve_given array_member object_member metadata_member name_of
document_same j =
    let a = part Metadata j in
    let b = data_of j in
    let packages = find.get (name_of named.Packages) j in
    let resolve = find.get (name_of named.Resolve) j in
    rw (
      object_same Metadata [] j,
      each_same text_at [] named.WorkspaceMembers a b
          (get_all Metadata (name_of named.WorkspaceMembers) j refl),
      text_same [] named.WorkspaceRoot a b
          (get_all Metadata (name_of named.WorkspaceRoot) j refl),
      get_part Metadata Package (name_of named.Packages) j refl refl,
      get_part Metadata Resolve (name_of named.Resolve) j refl refl,
      get-data_of (name_of named.Packages) j,
      get-data_of (name_of named.Resolve) j,
      resolve_same resolve,
      joined_same (each_member text_at [] named.WorkspaceMembers b)
          (text_member [] named.WorkspaceRoot b) packages resolve,
    )
    refl

-- the document of bytes is that of their reduced value
pub read_pruned : (bytes text : List ℕ) (v : Json) → is_utf8 bytes ≡ true → text ≡ bytes
    → (j : Json) × (parsed text ≡ Some j) × (is_whole j ≡ true) × (v ≡ pruned Metadata j)
    → document_at bytes ≡ document_of (data_of v)
unfolding document_at
read_pruned bytes text v utf8 same read =
    ap (λ r. r >>= document_of) (value_whole bytes read.0 utf8 (ap parsed (sym same) ∙ read.1) read.2)
    ∙ (sym (document_same read.0) ∙ ap (λ k. document_of (data_of k)) (sym read.3))
