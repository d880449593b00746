-- The crates that are checked, by marks, are those that the rule checks.
use Rattle.std.proofs.Common.{◌≡◌, Bool, false, List, length, map, not, sym, ap, ◌∙◌}
use Rattle.std.specs.Prelude.{◌&&◌, Contains}
use Rattle.std.specs.List.{range_with_len}
use Rattle.std.specs.Option.{option_map_or}
use Rattle.std.proofs.lemmas.Simd.{map-map}
use Rattle.deny_base_lists.proofs.Agreement.{map_on}
use Rattle.deny_spec_report.specs.Wildcards.{is_asked}
use Rattle.deny_rules_match.specs.Groups.{AreGroups}
use Rattle.deny_rules_match.specs.Marks.{facts_of, marked}
use Rattle.deny_rules_match.specs.Placed.{ArePlaced}
use Rattle.deny_rules_match.specs.declared.facts.Marks.{Marks}
use Rattle.deny_rules_match.specs.declared.groups.Groups.{Groups}
use Rattle.deny_rules_match.proofs.MarkLemmas.{marked-is}
use Rattle.deny_krates.proofs.PlaceLemmas.{place_of}
use Rattle.deny_spec.specs.Crates.{is_git_source}
use Rattle.deny_spec.specs.Graph.{Crate, Graph}
use Rattle.deny_spec.specs.Groups.{is_marked, is_in_skipped_tree}
use Rattle.deny_spec.specs.Policy.{Policy}
use Rattle.deny_rules_manifests.specs.private.Asked.{is_asked_at}

module _ (p : Policy) (g : Graph) (marks : Marks) (groups : Groups) (placed : ArePlaced g.crates)
    (are : AreGroups p g (facts_of marks) groups) where
  asked_is : (c : Crate) → Contains g.crates c
      → is_asked_at g marks.counts.items groups c.place ≡ is_asked p (facts_of marks) c
  unfolding is_asked is_asked_at
  asked_is c is =
      ap (λ o. marked marks.counts.items c && (not (marked groups.marked c) && (not (marked groups.in_skipped_tree c)
      && not (option_map_or is_git_source o false)))) (placed.at c is)
      ∙ (ap (λ b. marked marks.counts.items c && (not b
      && (not (marked groups.in_skipped_tree c) && not (is_git_source c))))
      (marked-is g.crates placed (is_marked p) groups.marked are.marked c is)
      ∙ ap (λ b. marked marks.counts.items c && (not (is_marked p c) && (not b && not (is_git_source c))))
      (marked-is g.crates placed (is_in_skipped_tree p (facts_of marks)) groups.in_skipped_tree
      are.in_skipped_tree c is))

  pub asked_are : (asked : List Bool)
      → asked ≡ map (is_asked_at g marks.counts.items groups) (range_with_len 0 (length g.crates))
      → asked ≡ map (is_asked p (facts_of marks)) g.crates
  asked_are asked is =
      is
      ∙ (ap (map (is_asked_at g marks.counts.items groups)) (sym placed.places)
      ∙ (map-map (is_asked_at g marks.counts.items groups) place_of g.crates
      ∙ map_on (λ c. is_asked_at g marks.counts.items groups c.place) (is_asked p (facts_of marks)) g.crates asked_is))
