-- Small cases of nodes and the edges between them worked out, so that the definitions can be read against them.
use Rattle.std.proofs.Common.{◌≡◌, ℕ, List, [], ◌∷◌, Bool, true, false, Option, Some, None, codes, map, refl}
use Rattle.std.specs.Cmp.Lexicographic.{nat_list_cmp_total, slice_cmp}
use Rattle.std.specs.FinMap as finite
use Rattle.std.specs.Ordering.{nat_cmp}
use Rattle.std.specs.Prelude.{⊤}
use Rattle.deny_base.specs.Edge.{kind_number}
use Rattle.deny_base.specs.declared.edge.DepKind.{DepKind}
use Rattle.deny_base.specs.declared.edge.DepKind.TheVariants.{Normal, Dev, Build}
use Rattle.deny_base.specs.declared.edge.Edge.{Edge}
use Rattle.deny_krates.specs.InOrder.{in_order}
use Rattle.deny_krates.specs.Nodes.{Incoming, Node, asked, asks_for, asks_in_vain, declared, declares, entries_of}
use Rattle.deny_krates.specs.Nodes.{feature_leads, has_edge, holds_plain, incoming_cmp, incoming_in, is_called}
use Rattle.deny_krates.specs.Nodes.{is_enabled, is_plain, leads_by_asking, leads_in_vain, leads_over, leads_undeclared}
use Rattle.deny_krates.specs.Nodes.{manifest_name, node_in, node_named, nodes_of, of_parents, own_features, own_leading}
use Rattle.deny_krates.specs.Nodes.{resolves_to, sources_at, sources_of_crate, sources_of_feature}
use Rattle.deny_spec.specs.Graph.{Crate, Dependency, Graph, dependents, leads}
use Rattle.deny_spec.specs.Groups.{has_name}
use Rattle.deny_spec.specs.Resolution.{agreeing, resolution, suits}
use Rattle.deny_spec.specs.declared.target_edge.TargetEdge.{TargetEdge}

-- a table of features, each with what it enables
abbrev Table : Type 0
Table = List (List ℕ × List (List ℕ))

crate : ℕ → List ℕ → Table → List (List ℕ) → List Dependency → Crate
crate place name table enabled deps = record {
  place = place;
  name = name;
  version = (1, 0, 0, [], []);
  id = name;
  source = None;
  source_text = None;
  license = None;
  manifest_path = codes "/Cargo.toml";
  publish = None;
  rust_version = None;
  features = finite.from_entries table;
  targets = [];
  deps = deps;
  enabled = enabled;
}

-- `lib`, whose `default` enables `fast`, and not `slow`
lib : Crate
lib = crate 1 (codes "lib")
    ((codes "default", codes "fast" ∷ codes "dep:slow" ∷ []) ∷ (codes "fast", codes "extra/slow" ∷ []) ∷ (
      codes "slow",
      [],
    ) ∷ [])
    (codes "default" ∷ codes "fast" ∷ []) []

to_lib : DepKind → Edge
to_lib kind = record { parent = 0; child = 1; kind = kind }

to_lib_for : DepKind → TargetEdge
to_lib_for kind = record { parent = 0; child = 1; kind = kind; target = None }

-- `app` with a feature `gui`, what that enables, and its declarations; and `lib`, to which edges of these kinds lead
app_on_lib : List (List ℕ) → List Dependency → List DepKind → Graph
app_on_lib gui deps kinds = record {
  root = [];
  crates = crate 0 (codes "app") ((codes "gui", gui) ∷ []) (codes "gui" ∷ []) deps ∷ lib ∷ [];
  members = 0 ∷ [];
  edges = map to_lib kinds;
  target_edges = map to_lib_for kinds;
}

-- a declaration of `lib`
on_lib : DepKind → Option (List ℕ) → List (List ℕ) → Bool → Dependency
on_lib kind rename features by_default = record {
  name = codes "lib";
  req = [];
  kind = kind;
  rename = rename;
  target = None;
  path = None;
  features = features;
  uses_default_features = by_default;
}

plainly : DepKind → Dependency
plainly kind = on_lib kind None [] true

app : Node
app = record { place = 0; feature = None }

of_lib : Option (List ℕ) → Node
of_lib feature = record { place = 1; feature = feature }

from : Node → Option DepKind → Incoming
from node kind = record { node = node; kind = kind }

gui_as : DepKind → Incoming
gui_as kind = from (record { place = 0; feature = Some (codes "gui") }) (Some kind)

by_default : Incoming
by_default = from (of_lib (Some (codes "default"))) None

by_fast : Incoming
by_fast = from (of_lib (Some (codes "fast"))) None

unfoldable on_cases : ⊤
unfolding crate lib to_lib to_lib_for app_on_lib on_lib plainly app of_lib from gui_as by_default by_fast
    incoming_in in_order incoming_cmp sources_at own_features own_leading of_parents sources_of_crate
    sources_of_feature leads_by_asking leads_in_vain leads_undeclared feature_leads declares declared resolves_to
    has_edge asks_for asks_in_vain asked leads_over is_called manifest_name holds_plain is_plain entries_of is_enabled
    dependents leads resolution agreeing suits has_name kind_number
on_cases = tt

-- looking up a feature in a table
get_in : (table : Table) (feature : List ℕ)
    → finite.get {R = slice_cmp nat_cmp} (finite.from_entries table) feature
    ≡ finite.find (slice_cmp nat_cmp) feature table
get_in table feature = finite.get-from_entries nat_list_cmp_total table feature

-- ---- nodes

crates_first : nodes_of (app_on_lib [] [] []) ≡ app ∷ of_lib None ∷ record { place = 0; feature = Some (codes "gui") }
    ∷ of_lib (Some (codes "default")) ∷ of_lib (Some (codes "fast")) ∷ []
unfolding nodes_of crate lib to_lib to_lib_for app_on_lib app of_lib
crates_first = refl

-- a feature that is not enabled is no node
not_enabled : node_named (app_on_lib [] [] []) (codes "lib") (Some (codes "slow")) ≡ None
unfolding node_named node_in is_enabled crate lib app_on_lib
not_enabled = refl

-- ---- features of the crate itself

-- each enabled feature leads to the crate, also without any edge to it
own_only : incoming_in (app_on_lib [] [] []) (of_lib None) ≡ by_default ∷ by_fast ∷ []
unfolding on_cases
own_only = refl

-- a plain entry leads to its feature, and neither an entry `dep:` nor a feature of a dependency does
plain_entries : incoming_in (app_on_lib [] [] []) (of_lib (Some (codes "fast"))) ≡ by_default ∷ []
unfolding on_cases
plain_entries = simp get_in

-- ---- declarations

-- the edge of a declaration goes to the features that it asks for, and not to the crate
asks_fast : List Dependency
asks_fast = on_lib Normal None (codes "fast" ∷ []) false ∷ []

to_the_feature : incoming_in (app_on_lib [] asks_fast (Normal ∷ [])) (of_lib (Some (codes "fast")))
    ≡ from app (Some Normal) ∷ by_default ∷ []
unfolding on_cases asks_fast
to_the_feature = simp get_in

not_to_the_crate : incoming_in (app_on_lib [] asks_fast (Normal ∷ [])) (of_lib None) ≡ by_default ∷ by_fast ∷ []
unfolding on_cases asks_fast
not_to_the_crate = refl

-- it does not go to `default` where default features are off
no_default : incoming_in (app_on_lib [] asks_fast (Normal ∷ [])) (of_lib (Some (codes "default"))) ≡ []
unfolding on_cases asks_fast
no_default = simp get_in

to_default : incoming_in (app_on_lib [] (plainly Normal ∷ []) (Normal ∷ [])) (of_lib (Some (codes "default")))
    ≡ from app (Some Normal) ∷ []
unfolding on_cases
to_default = simp get_in

-- where none of the features that are asked for is enabled, the edge goes to the crate
in_vain : incoming_in (app_on_lib [] (on_lib Normal None (codes "slow" ∷ []) false ∷ []) (Normal ∷ [])) (of_lib None)
    ≡ from app (Some Normal) ∷ by_default ∷ by_fast ∷ []
unfolding on_cases
in_vain = refl

-- an edge of a kind of which there is no declaration goes to the crate
undeclared : incoming_in (app_on_lib [] (plainly Normal ∷ []) (Normal ∷ Build ∷ [])) (of_lib None)
    ≡ from app (Some Build) ∷ by_default ∷ by_fast ∷ []
unfolding on_cases
undeclared = refl

-- two declarations of one kind give one edge, those of two kinds two, in the kinds' order
one_of_two : incoming_in (app_on_lib [] (plainly Normal ∷ plainly Normal ∷ []) (Normal ∷ []))
    (of_lib (Some (codes "default"))) ≡ from app (Some Normal) ∷ []
unfolding on_cases
one_of_two = simp get_in

two_kinds : incoming_in (app_on_lib [] (plainly Dev ∷ plainly Normal ∷ []) (Normal ∷ Dev ∷ []))
    (of_lib (Some (codes "default"))) ≡ from app (Some Normal) ∷ from app (Some Dev) ∷ []
unfolding on_cases
two_kinds = simp get_in

-- ---- features over a dependency

-- `lib/fast` leads to the feature `fast` of `lib`, by the kind of each declaration, and not to the crate
over_lib : incoming_in (app_on_lib (codes "lib/fast" ∷ []) (plainly Normal ∷ plainly Dev ∷ []) (Normal ∷ Dev ∷ []))
    (of_lib (Some (codes "fast"))) ≡ by_default ∷ gui_as Normal ∷ gui_as Dev ∷ []
unfolding on_cases
over_lib = simp get_in

not_over_lib : incoming_in (app_on_lib (codes "lib/fast" ∷ []) (plainly Normal ∷ []) (Normal ∷ [])) (of_lib None)
    ≡ by_default ∷ by_fast ∷ []
unfolding on_cases
not_over_lib = refl

weakly : incoming_in (app_on_lib (codes "lib?/fast" ∷ []) (plainly Normal ∷ []) (Normal ∷ []))
    (of_lib (Some (codes "fast"))) ≡ by_default ∷ gui_as Normal ∷ []
unfolding on_cases
weakly = simp get_in

-- a renamed dependency is known by its new name alone
renamed : List Dependency
renamed = on_lib Normal (Some (codes "engine")) [] true ∷ []

by_new_name : incoming_in (app_on_lib (codes "engine/fast" ∷ []) renamed (Normal ∷ [])) (of_lib (Some (codes "fast")))
    ≡ by_default ∷ gui_as Normal ∷ []
unfolding on_cases renamed
by_new_name = simp get_in

by_old_name : incoming_in (app_on_lib (codes "lib/fast" ∷ []) renamed (Normal ∷ [])) (of_lib (Some (codes "fast")))
    ≡ by_default ∷ []
unfolding on_cases renamed
by_old_name = simp get_in

-- an entry is divided at its first `/`, and may not name the dependency alone
not_of_lib : incoming_in
    (app_on_lib (codes "lib/fast/er" ∷ codes "dep:lib" ∷ codes "lib" ∷ []) (plainly Normal ∷ []) (Normal ∷ []))
    (of_lib (Some (codes "fast"))) ≡ by_default ∷ []
unfolding on_cases
not_of_lib = simp get_in
