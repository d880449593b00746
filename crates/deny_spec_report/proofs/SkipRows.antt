-- Worked cases of skips, skipped trees and groups: which keys hold.
use Rattle.std.proofs.Common.{◌≡◌, ◌==◌, List, [], ◌∷◌, true, false, Some, None, codes, refl, arith}
use Rattle.std.specs.Prelude.{◌&&◌}
use Rattle.deny_base.specs.Edge.{kind_number}
use Rattle.deny_base.specs.declared.code.Code.TheVariants as code
use Rattle.deny_base.specs.declared.edge.DepKind.TheVariants.{Dev}
use Rattle.deny_spec.specs.Facts as chains
use Rattle.deny_spec.specs.Counting.{edges_without, is_of_kind}
use Rattle.deny_spec.specs.Groups.{has_name, reduced, unmarked}
use Rattle.deny_spec.specs.Keys.{crate_key, unused_key}
use Rattle.deny_spec.specs.Policy.{Entry, Policy}
use Rattle.deny_spec.specs.Roots.{IsNear}
use Rattle.deny_spec_report.proofs.Cases.{skips_on_cases, all_count, app, chained_x, crate, crate_of, dev_edge, edge}
use Rattle.deny_spec_report.proofs.Cases.{entry_at, exactly, graph, not_the_first, one_x, plain, span, root_of}
use Rattle.deny_spec_report.proofs.Cases.{skip_keys}
use Rattle.deny_spec_report.proofs.Cases.{two_x}

-- `x` lies in the tree of `app`
in_a_tree : chains.Facts
in_a_tree = record { counts = λ c. true; in_tree = λ t c. has_name (codes "x") c }

tree_of_app : Policy
tree_of_app = record plain { skip_tree = root_of (codes "app") 20 ∷ [] }

-- a crate of a skipped tree is reported, and is left out of the group
in_skipped_tree : skip_keys tree_of_app one_x in_a_tree ≡ crate_key code.SkippedByRoot 1 (span 20) ∷ []
unfolding skips_on_cases in_a_tree tree_of_app
in_skipped_tree = refl

none_in_the_group : unmarked tree_of_app one_x in_a_tree (codes "x") ≡ []
unfolding skips_on_cases in_a_tree tree_of_app
none_in_the_group = refl

-- a skip reports both versions that it matches, keeps them from being a duplicate, and is needed
both_skipped : skip_keys (record plain { skip = entry_at (codes "x") 29 ∷ [] }) two_x all_count
    ≡ crate_key code.Skipped 1 (span 29) ∷ crate_key code.Skipped 2 (span 29) ∷ []
unfolding skips_on_cases
both_skipped = refl

none_hold : unmarked (record plain { skip = entry_at (codes "x") 29 ∷ [] }) two_x all_count (codes "x") ≡ []
unfolding skips_on_cases
none_hold = refl

-- a skip of a crate with one version is needless, one that no crate matches is unmatched
one_skipped : skip_keys (record plain { skip = entry_at (codes "x") 29 ∷ entry_at (codes "q") 33 ∷ [] }) one_x all_count
    ≡ crate_key code.Skipped 1 (span 29) ∷ unused_key code.UnmatchedSkip (span 33)
    ∷ unused_key code.UnnecessarySkip (span 29) ∷ []
unfolding skips_on_cases
one_skipped = refl

-- the first of two versions is internal to the second, and is left out of the group
one_version : unmarked plain chained_x all_count (codes "x") ≡ crate 2 (codes "x") 2 ∷ []
unfolding skips_on_cases
one_version = refl

-- a crate of a skipped tree that a skip matches is reported as skipped alone, and stays in the group, marked
both_entries : skip_keys (record tree_of_app { skip = entry_at (codes "x") 29 ∷ [] }) one_x in_a_tree
    ≡ crate_key code.Skipped 1 (span 29) ∷ unused_key code.UnnecessarySkip (span 29) ∷ []
unfolding skips_on_cases in_a_tree tree_of_app
both_entries = refl

stays_marked : reduced (record tree_of_app { skip = entry_at (codes "x") 29 ∷ [] }) one_x in_a_tree (codes "x")
    ≡ crate 1 (codes "x") 1 ∷ []
unfolding skips_on_cases in_a_tree tree_of_app
stays_marked = refl

-- a crate that does not count is reported neither for a tree that it lies in nor for a skip, which is unmatched
not_counting : skip_keys (record tree_of_app { skip = entry_at (codes "x") 29 ∷ [] }) one_x
    (record in_a_tree { counts = λ c. false })
    ≡ unused_key code.UnmatchedSkip (span 29) ∷ []
unfolding skips_on_cases in_a_tree tree_of_app
not_counting = refl

in_no_group : unmarked plain two_x not_the_first (codes "x") ≡ crate 2 (codes "x") 2 ∷ []
unfolding skips_on_cases
in_no_group = refl

-- one of two trees that has the crate is enough, and that tree alone is reported
two_trees : Policy
two_trees = record plain {
  skip_tree = root_of (codes "app") 20 ∷ record (root_of (codes "app") 21) { number = 1 } ∷ [];
}

in_the_second : chains.Facts
in_the_second = record { counts = λ c. true; in_tree = λ t c. (t.number == 1) && has_name (codes "x") c }

one_tree_reports : skip_keys two_trees one_x in_the_second ≡ crate_key code.SkippedByRoot 1 (span 21) ∷ []
unfolding skips_on_cases two_trees in_the_second
one_tree_reports = refl

one_tree_is_enough : unmarked two_trees one_x in_the_second (codes "x") ≡ []
unfolding skips_on_cases two_trees in_the_second
one_tree_is_enough = refl

-- one of two skips that matches the crates is enough
two_skips : unmarked (record plain { skip = entry_at (codes "q") 29 ∷ entry_at (codes "x") 33 ∷ [] }) two_x all_count
    (codes "x") ≡ []
unfolding skips_on_cases
two_skips = refl

-- a skip of one of two versions is needed, though it matches one crate alone
first_of_x : List Entry
first_of_x = record (entry_at (codes "x") 29) { spec = exactly 1 (entry_at (codes "x") 29).spec } ∷ []

needed : skip_keys (record plain { skip = first_of_x }) two_x all_count ≡ crate_key code.Skipped 1 (span 29) ∷ []
unfolding skips_on_cases first_of_x
needed = refl

-- a skip of one of two versions is needless where the first version is internal to the second
needless : skip_keys (record plain { skip = first_of_x }) chained_x all_count
    ≡ crate_key code.Skipped 1 (span 29) ∷ unused_key code.UnnecessarySkip (span 29) ∷ []
unfolding skips_on_cases first_of_x
needless = refl

-- an entry whose crate is not there has no tree
no_root : skip_keys (record plain { skip_tree = root_of (codes "q") 20 ∷ [] }) one_x all_count
    ≡ unused_key code.UnmatchedSkipRoot (span 20) ∷ []
unfolding skips_on_cases
no_root = refl

-- the first version stays in the group where one of its two dependents has its name and the other does not
by_another : unmarked plain
    (graph (crate 1 (codes "x") 1 ∷ crate 2 (codes "x") 2 ∷ []) (edge 0 1 ∷ edge 0 2 ∷ edge 2 1 ∷ []))
    all_count (codes "x")
    ≡ crate 1 (codes "x") 1 ∷ crate 2 (codes "x") 2 ∷ []
unfolding skips_on_cases
by_another = refl

-- a dependent by a dev edge is one as well
by_dev_edge : unmarked plain
    (graph (crate 1 (codes "x") 1 ∷ crate 2 (codes "x") 2 ∷ []) (edge 0 2 ∷ dev_edge 2 1 ∷ [])) all_count (codes "x")
    ≡ crate 2 (codes "x") 2 ∷ []
unfolding skips_on_cases
by_dev_edge = refl

-- crates without dependents are left out of a group of two, but not of a group of one
two_alone : unmarked plain (graph (crate 1 (codes "x") 1 ∷ crate 2 (codes "x") 2 ∷ []) []) all_count (codes "x") ≡ []
unfolding skips_on_cases
two_alone = refl

one_alone : unmarked plain (graph (crate 1 (codes "x") 1 ∷ []) []) all_count (codes "x") ≡ crate 1 (codes "x") 1 ∷ []
unfolding skips_on_cases
one_alone = refl

-- ---- how far a tree reaches

root_itself : IsNear (Some 1) 0
root_itself = omega arith

not_its_dependency : IsNear (Some 1) 1 → ⊥
not_its_dependency near = omega (arith, near)

as_depth_one : IsNear (Some 0) 0
as_depth_one = omega arith

not_farther : IsNear (Some 0) 1 → ⊥
not_farther near = omega (arith, near)

its_dependency : IsNear (Some 2) 1
its_dependency = omega arith

not_the_next : IsNear (Some 2) 2 → ⊥
not_the_next near = omega (arith, near)

however_far : IsNear None 7
however_far = tt

-- ---- what counts: a dev edge leads nowhere

no_dev_edge : edges_without Dev (graph [] (dev_edge 0 1 ∷ edge 1 2 ∷ [])) ≡ edge 1 2 ∷ []
unfolding graph app crate crate_of edge dev_edge is_of_kind kind_number
no_dev_edge = refl
