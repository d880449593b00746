-- Worked cases: which crates lead to build time, by computing.
use Rattle.std.proofs.Common.{◌≡◌, ℕ, true, false, List, [], ◌∷◌, Contains, codes, None, refl, sym, subst, ◌∙◌}
use Rattle.std.specs.FinMap as finite
use Rattle.std.proofs.lemmas.Bool.{false≢true}
use Rattle.deny_base.specs.declared.edge.DepKind.{DepKind}
use Rattle.deny_base.specs.declared.edge.DepKind.TheVariants.{Normal, Build}
use Rattle.deny_base.specs.declared.edge.Edge.{Edge}
use Rattle.deny_base_lists.proofs.Members.{Contains-first, no_member}
use Rattle.deny_spec.specs.Graph.{Crate, Graph, dependencies, dependents, leads}
use Rattle.deny_krates_reach.specs.Reached.{AreDependentsInTurn, IsReached, executes_at_build_time, is_executed_kind}
use Rattle.deny_krates_reach.specs.Reached.{last_from, pair_count}

-- a crate with a target of each of these kinds
crate : ℕ → List ℕ → List (List ℕ) → Crate
crate place name kinds = record {
  place = place;
  name = name;
  version = (1, 0, 0, [], []);
  id = name;
  source = None;
  source_text = None;
  license = None;
  manifest_path = codes "/Cargo.toml";
  publish = None;
  rust_version = None;
  features = finite.empty;
  targets = record { kind = kinds; src_path = codes "/src/lib.rs" } ∷ [];
  deps = [];
  enabled = [];
}

edge : ℕ → ℕ → DepKind → Edge
edge parent child kind = record { parent = parent; child = child; kind = kind }

-- `app` depends on the procedural macro `p`, which depends on `x`; `app` depends on `y` too
app : Crate
app = crate 0 (codes "app") (codes "lib" ∷ [])

p : Crate
p = crate 1 (codes "p") (codes "proc-macro" ∷ [])

x : Crate
x = crate 2 (codes "x") (codes "lib" ∷ codes "cdylib" ∷ [])

y : Crate
y = crate 3 (codes "y") (codes "lib" ∷ [])

graph : Graph
graph = record {
  root = codes "/w";
  crates = app ∷ p ∷ x ∷ y ∷ [];
  members = 0 ∷ [];
  edges = edge 0 1 Normal ∷ edge 0 3 Normal ∷ edge 1 2 Normal ∷ edge 1 2 Build ∷ [];
  target_edges = [];
}

a_macro : executes_at_build_time p ≡ true
unfolding executes_at_build_time is_executed_kind p crate
a_macro = refl

a_build_script : executes_at_build_time (crate 0 (codes "s") (codes "lib" ∷ codes "custom-build" ∷ [])) ≡ true
unfolding executes_at_build_time is_executed_kind crate
a_build_script = refl

a_library : executes_at_build_time app ≡ false
unfolding executes_at_build_time is_executed_kind app crate
a_library = refl

the_macro_itself : IsReached graph p
the_macro_itself = record { above = []; in_turn = _; ends = a_macro }

needing_x : dependents graph 2 ≡ p ∷ []
unfolding dependents leads graph edge app crate p x y
needing_x = refl

needing_app : dependents graph 0 ≡ []
unfolding dependents leads graph edge app crate p x y
needing_app = refl

what_the_macro_needs : IsReached graph x
unfolding x crate
what_the_macro_needs = record {
  above = p ∷ [];
  in_turn = (subst (λ (cs : List Crate). Contains cs p) (sym needing_x) (Contains-first p []), _);
  ends = a_macro;
}

-- a crate that depends on the macro does not lead there
not_from : (above : List Crate) → AreDependentsInTurn graph app above
    → executes_at_build_time (last_from app above) ≡ true → ⊥
unfolding app crate
not_from [] in_turn ends = false≢true (sym a_library ∙ ends)
not_from (d ∷ ds) in_turn ends =
    no_member d (subst (λ (cs : List Crate). Contains cs d) needing_app in_turn.0)

what_needs_the_macro : IsReached graph app → ⊥
what_needs_the_macro reached = not_from reached.above reached.in_turn reached.ends

-- two edges between a parent and a child are one pair
three_pairs : pair_count graph ≡ 3
unfolding dependencies leads graph edge app crate p x y
three_pairs = refl
