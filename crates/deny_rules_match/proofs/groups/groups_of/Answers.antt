use Rattle.std.proofs.Common.{◌≡◌, ◌++◌, ℕ, List, Bool, map, take, length, sym, ap, ◌∙◌}
use Rattle.std.proofs.lemmas.Simd.{map-map}
use Rattle.std.specs.List.{list_any}
use Rattle.deny_cfg.specs.PolicyView.{entry_view, policy_view}
use Rattle.deny_spec.specs.Graph.{Crate}
use Rattle.deny_spec.specs.Groups.{is_marked, is_in_skipped_tree, may_duplicate}
use Rattle.deny_spec.specs.Match.{matches}
use Rattle.deny_base_lists.proofs.Agreement.{map_on}
use Rattle.deny_rules_match.specs.Marks.{facts_of, marked}
use Rattle.deny_rules_match.specs.Matches.{skip_match}
use Rattle.deny_rules_match.specs.declared.entry_match.EntryMatch.{EntryMatch}
use Rattle.deny_rules_match.proofs.GroupLemmas.{left_by_marks, in_tree_are, hold_alike}
use Rattle.deny_rules_match.proofs.groups.groups_of.Goals as goal

pub returns-clause-groups : goal.returns-clause-groups
unfolding is_marked is_in_skipped_tree
returns-clause-groups c =
    let cfg = c.args.cfg.now in
    let g = c.args.krates.now in
    let placed = c.are_placed.ensures in
    let p = policy_view cfg in
    let m = c.args.marks.now in
    let facts = facts_of m in
    let skips : c.in_ok-marked.marked ≡ map (is_marked p) g.crates =
    c.in_ok-marked.ensures.marks ∙ ap (λ entries. map (λ (d : Crate). list_any (λ s. matches s.spec d)
    (map entry_view entries)) g.crates) c.as_slice.ensures in
    let trees : c.first_trees-trees.result.now ≡ take (length cfg.tree_skipped) m.trees =
    c.first_trees-trees.ensures ∙ (ap (λ (n : ℕ). take n c.as_slice-2.result.now) c.len.ensures
    ∙ ap (take (length cfg.tree_skipped)) c.as_slice-2.ensures) in
    let roots : c.in_ok-in_skipped_tree.in_skipped_tree ≡ map (is_in_skipped_tree p facts) g.crates =
    c.in_ok-in_skipped_tree.ensures
    ∙ (ap (λ (ts : List (List Bool)). map (λ (d : Crate). list_any (λ tree. marked tree d) ts) g.crates) trees
    ∙ map_on (λ (d : Crate). list_any (λ tree. marked tree d) (take (length cfg.tree_skipped) m.trees))
    (is_in_skipped_tree p facts) g.crates (λ d known. in_tree_are cfg.tree_skipped m.trees d)) in
    let candidates : c.in_ok-candidates.candidates ≡ map (may_duplicate p facts) g.crates =
    hold_alike p g facts c.as_slice-3.result.now c.as_slice-4.result.now c.as_slice-5.result.now
    c.in_ok-candidates.candidates placed (λ d _. ap (λ (ms : List Bool). marked ms d) c.as_slice-3.ensures.value)
    (c.as_slice-4.ensures ∙ skips) (c.as_slice-5.ensures ∙ roots) c.in_ok-candidates.ensures in
    record {
      marked = skips;
      in_skipped_tree = roots;
      reduced = left_by_marks g
          (may_duplicate p facts) c.as_slice-6.result.now c.in_ok-reduced.reduced placed
          (c.as_slice-6.ensures ∙ candidates) c.in_ok-reduced.ensures;
    }

pub returns-clause-skips : goal.returns-clause-skips
returns-clause-skips c =
    let g = c.args.krates.now in
    let facts = facts_of c.args.marks.now in
    c.in_ok-marked.ensures.found
    ∙ (ap (λ (es : List _). c.args.skips.now ++ map (λ s. skip_match g facts (entry_view s)) es) c.as_slice.ensures
    ∙ ap (λ (ms : List EntryMatch). c.args.skips.now ++ ms)
    (sym (map-map (skip_match g facts) entry_view c.args.cfg.now.skipped)))
