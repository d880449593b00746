-- The keys of skips, skipped trees and groups where spans of the policy are replaced.
use Rattle.std.proofs.Common.{◌≡◌, ◌≢◌, ◌==◌, ◌&&◌, ◌||◌, ◌∙◌, ℕ, Bool, List, ap, length, map, not}
use Rattle.std.proofs.Common.{refl, subst, sym}
use Rattle.std.specs.Prelude.{Contains, filter, filter_map, if◌then◌else◌, nat_le, option_map}
use Rattle.deny_base_lists.proofs.Agreement.{filter_on, find_on, list_any_on, same_test}
use Rattle.deny_base_lists.proofs.Members.{contains_map}
use Rattle.deny_base_lists.specs.Ascending.{Lists}
use Rattle.deny_base.specs.declared.code.Code.TheVariants as code
use Rattle.deny_base.specs.declared.entry.EntryKind.TheVariants.{Skip, SkipRoot}
use Rattle.deny_base.specs.declared.entry.Witness.TheVariants.{Krate}
use Rattle.deny_base.specs.declared.key.Key.{Key}
use Rattle.deny_base.specs.declared.level.LintLevel.{LintLevel}
use Rattle.deny_base.specs.declared.level.LintLevel.TheVariants.{Allow, Deny}
use Rattle.deny_spec.specs.Hits.{hit_of, root_hit, skip_hit}
use Rattle.deny_spec.specs.Crates.{is_git_source}
use Rattle.deny_spec.specs.Facts as chains
use Rattle.deny_spec.specs.Duplicates.{IsDuplicate, duplicate_level, is_denied_multiple}
use Rattle.deny_spec.specs.Graph.{Crate, Graph, kid_of}
use Rattle.deny_spec.specs.Groups.{group, has_name, is_in_group, is_internal, is_marked, is_in_skipped_tree}
use Rattle.deny_spec.specs.Groups.{may_duplicate}
use Rattle.deny_spec.specs.Groups.{reduced, unmarked}
use Rattle.deny_spec.specs.Keys.{crate_key, key_of, unused_key}
use Rattle.deny_spec.specs.Match.{matches}
use Rattle.deny_spec.specs.Policy.{Entry, Policy, Root}
use Rattle.deny_spec.specs.Roots.{IsInTree}
use Rattle.deny_spec.specs.Skips.{has_root, is_skipped_by_root, skipped_by_root_keys_of, unmatched_skip_root_keys}
use Rattle.deny_spec.specs.Skips.{is_hit_skip, is_needless, is_skipped, skipped_keys_of, unmatched_skip_keys}
use Rattle.deny_spec.specs.Skips.{unnecessary_skip_keys}
use Rattle.deny_spec.specs.VersionOrder.{version_cmp}
use Rattle.deny_spec.specs.View.{View}
use Rattle.deny_spec_report.specs.SkippedTrees.{skipped_by_root_keys}
use Rattle.deny_spec_report.specs.Skips.{skipped_keys}
use Rattle.deny_spec_report.specs.Wildcards.{is_allowed_path, is_asked, is_active_in, unresolved_keys, wildcard_keys}
use Rattle.deny_spec_report.specs.Wildcards.{wildcards_in}
use Rattle.deny_spec_report.proofs.WildcardLemmas.{AskAlike, same_unresolved_keys, same_wildcard_keys}
use Rattle.deny_spec_removal.specs.Renaming.{Renaming, renamed, renamed_entry, renamed_hit, renamed_root, renamed_spec}
use Rattle.deny_spec_removal.proofs.Anew.{any_anew, crate_hit_anew, filter_map_anew, flat_map_anew, spanned}
use Rattle.deny_spec_removal.proofs.Anew.{reported_alike}
use Rattle.deny_spec_removal.proofs.Anew.{reported_anew}

tree_there : (r : Renaming) (g : Graph) (t : Root) (k : Crate) → IsInTree g (renamed_root r t) k → IsInTree g t k
unfolding matches
tree_there r g t k is = record {
  root = is.root;
  known = is.known;
  matched = is.matched;
  edges = is.edges;
  near = is.near;
  chain = is.chain;
}

tree_back : (r : Renaming) (g : Graph) (t : Root) (k : Crate) → IsInTree g t k → IsInTree g (renamed_root r t) k
unfolding matches
tree_back r g t k is = record {
  root = is.root;
  known = is.known;
  matched = is.matched;
  edges = is.edges;
  near = is.near;
  chain = is.chain;
}

module _ (r : Renaming) (p : Policy) (g : Graph) (these those : chains.Facts) (are : chains.AreFacts p g these)
    (are_new : chains.AreFacts (renamed r p) g those) where
  -- ---- facts

  pub counts_same : (k : Crate) → Contains g.crates k → those.counts k ≡ these.counts k
  counts_same k known = same_test (those.counts k) (these.counts k) (are_new.counts k known) (are.counts k known)

  in_tree_same : (t : Root) (k : Crate) → Contains p.skip_tree t → Contains g.crates k
      → those.in_tree (renamed_root r t) k ≡ these.in_tree t k
  in_tree_same t k written known =
      let new = are_new.in_tree (renamed_root r t) (contains_map (renamed_root r) p.skip_tree t written) k known in
      same_test (those.in_tree (renamed_root r t) k) (these.in_tree t k)
      (λ is. tree_there r g t k (new.0 is), λ is. new.1 (tree_back r g t k is)) (are.in_tree t written k known)

  -- ---- groups

  marked_same : (k : Crate) → is_marked (renamed r p) k ≡ is_marked p k
  unfolding is_marked matches
  marked_same k = any_anew (λ s. matches s.spec k) (λ s. matches s.spec k) (renamed_entry r) p.skip (λ s is. refl)

  in_skipped_same : (k : Crate) → Contains g.crates k
      → is_in_skipped_tree (renamed r p) those k ≡ is_in_skipped_tree p these k
  unfolding is_in_skipped_tree
  in_skipped_same k known = any_anew (λ t. those.in_tree t k) (λ t. these.in_tree t k) (renamed_root r) p.skip_tree
      (λ t written. in_tree_same t k written known)

  hold_same : (k : Crate) → Contains g.crates k → may_duplicate (renamed r p) those k ≡ may_duplicate p these k
  unfolding may_duplicate
  hold_same k known =
      ap (λ b. b && (is_marked (renamed r p) k || not (is_in_skipped_tree (renamed r p) those k))) (counts_same k known)
      ∙ (ap (λ b. these.counts k && (b || not (is_in_skipped_tree (renamed r p) those k))) (marked_same k)
      ∙ ap (λ b. these.counts k && (is_marked p k || not b)) (in_skipped_same k known))

  asked_same : (k : Crate) → Contains g.crates k → is_asked (renamed r p) those k ≡ is_asked p these k
  unfolding is_asked
  asked_same k known =
      ap (λ b. b && (not (is_marked (renamed r p) k) && (not (is_in_skipped_tree (renamed r p) those k)
      && not (is_git_source k)))) (counts_same k known)
      ∙ (ap (λ b. these.counts k
      && (not b && (not (is_in_skipped_tree (renamed r p) those k) && not (is_git_source k))))
      (marked_same k)
      ∙ ap (λ b. these.counts k && (not (is_marked p k) && (not b && not (is_git_source k)))) (in_skipped_same k known))

  in_group_same : (name : List ℕ) (k : Crate) → Contains g.crates k
      → is_in_group (renamed r p) those name k ≡ is_in_group p these name k
  unfolding is_in_group
  in_group_same name k known = ap (λ b. has_name name k && b) (hold_same k known)

  group_same : (name : List ℕ) → group (renamed r p) g those name ≡ group p g these name
  group_same name = filter_on (is_in_group (renamed r p) those name) (is_in_group p these name) g.crates
      (in_group_same name)

  reduced_same : (name : List ℕ) → reduced (renamed r p) g those name ≡ reduced p g these name
  unfolding reduced
  reduced_same name = ap (λ (crates : List Crate). if length crates == 1 then crates else filter
      (λ c. not (is_internal g name c)) crates) (group_same name)

  unmarked_same : (name : List ℕ) → unmarked (renamed r p) g those name ≡ unmarked p g these name
  unmarked_same name =
      ap (λ (crates : List Crate). filter (λ c. not (is_marked (renamed r p) c)) crates) (reduced_same name)
      ∙ filter_on (λ c. not (is_marked (renamed r p) c)) (λ c. not (is_marked p c)) (reduced p g these name)
      (λ k is. ap (λ b. not b) (marked_same k))

  -- ---- duplicates

  denied_same : (k : Crate) → is_denied_multiple (renamed r p) k ≡ is_denied_multiple p k
  unfolding is_denied_multiple matches
  denied_same k = any_anew (λ s. matches s k) (λ s. matches s k) (renamed_spec r) p.deny_multiple (λ s is. refl)

  level_same : (crates : List Crate) → duplicate_level (renamed r p) crates ≡ duplicate_level p crates
  unfolding duplicate_level
  level_same crates = ap (λ (b : Bool). if b then Deny else p.multiple_versions)
      (list_any_on (is_denied_multiple (renamed r p)) (is_denied_multiple p) crates (λ k is. denied_same k))

  pub duplicates_there : (key : Key) → IsDuplicate p g these key → IsDuplicate (renamed r p) g those key
  duplicates_there key found =
      let d = found.2 in (
        found.0,
        found.1,
        record {
          crates = d.crates;
          listed = subst (λ (crates : List Crate). Lists version_cmp (Contains crates) d.crates)
              (sym (unmarked_same found.0.name)) d.listed;
          several = d.several;
          active = subst (λ (level : LintLevel). level ≢ Allow) (sym (level_same d.crates)) d.active;
          is = d.is;
        },
      )

  pub duplicates_back : (key : Key) → IsDuplicate (renamed r p) g those key → IsDuplicate p g these key
  duplicates_back key found =
      let d = found.2 in (
        found.0,
        found.1,
        record {
          crates = d.crates;
          listed = subst (λ (crates : List Crate). Lists version_cmp (Contains crates) d.crates)
              (unmarked_same found.0.name) d.listed;
          several = d.several;
          active = subst (λ (level : LintLevel). level ≢ Allow) (level_same d.crates) d.active;
          is = d.is;
        },
      )

  -- ---- wildcards

  asked_alike : AskAlike (renamed r p) p g those these
  unfolding wildcards_in is_active_in is_allowed_path
  asked_alike = record { level = refl; asked = asked_same; active = λ k m. refl }

  pub wildcards_stay : (view : View) → wildcard_keys (renamed r p) g those view ≡ wildcard_keys p g these view
  wildcards_stay view = same_wildcard_keys (renamed r p) p g those these view asked_alike

  pub unresolved_stay : (view : View) → unresolved_keys (renamed r p) g those view ≡ unresolved_keys p g these view
  unresolved_stay view = same_unresolved_keys (renamed r p) p g those these view asked_alike

  -- ---- skips

  skips_same : (s : Entry) (k : Crate) → Contains g.crates k
      → is_skipped those (renamed_entry r s) k ≡ is_skipped these s k
  unfolding is_skipped matches
  skips_same s k known = ap (λ b. b && matches s.spec k) (counts_same k known)

  skipped_of_anew : (s : Entry) → skipped_keys_of g those (renamed_entry r s) ≡ map (spanned r)
      (skipped_keys_of g these s)
  unfolding skipped_keys_of key_of
  skipped_of_anew s = reported_alike (is_skipped those (renamed_entry r s)) (is_skipped these s)
      (λ c. crate_key code.Skipped c.place (r.span s.spec.span)) (λ c. crate_key code.Skipped c.place s.spec.span)
      (spanned r) g.crates (λ k known. skips_same s k known) (λ c. refl)

  pub skipped_anew : skipped_keys (renamed r p) g those ≡ map (spanned r) (skipped_keys p g these)
  skipped_anew = flat_map_anew (skipped_keys_of g those) (skipped_keys_of g these) (renamed_entry r) (spanned r) p.skip
      (λ s written. skipped_of_anew s)

  hit_same : (s : Entry) → is_hit_skip g those (renamed_entry r s) ≡ is_hit_skip g these s
  unfolding is_hit_skip
  hit_same s = list_any_on (is_skipped those (renamed_entry r s)) (is_skipped these s) g.crates
      (λ k known. skips_same s k known)

  pub unmatched_anew : unmatched_skip_keys (renamed r p) g those ≡ map (spanned r) (unmatched_skip_keys p g these)
  unfolding unmatched_skip_keys key_of
  unmatched_anew = reported_anew (λ s. not (is_hit_skip g those s)) (λ s. not (is_hit_skip g these s)) (renamed_entry r)
      (λ s. unused_key code.UnmatchedSkip s.spec.span) (λ s. unused_key code.UnmatchedSkip s.spec.span) (spanned r)
      p.skip (λ s is. ap (λ b. not b) (hit_same s)) (λ s. refl)

  needless_same : (s : Entry) → is_needless (renamed r p) g those (renamed_entry r s) ≡ is_needless p g these s
  unfolding is_needless
  needless_same s =
      ap (λ b. b && nat_le (length (reduced (renamed r p) g those s.spec.name)) 1) (hit_same s)
      ∙ ap (λ (crates : List Crate). is_hit_skip g these s && nat_le (length crates) 1) (reduced_same s.spec.name)

  pub unnecessary_anew : unnecessary_skip_keys (renamed r p) g those ≡ map (spanned r) (unnecessary_skip_keys p g these)
  unfolding unnecessary_skip_keys key_of
  unnecessary_anew = reported_anew (is_needless (renamed r p) g those) (is_needless p g these) (renamed_entry r)
      (λ s. unused_key code.UnnecessarySkip s.spec.span) (λ s. unused_key code.UnnecessarySkip s.spec.span) (spanned r)
      p.skip (λ s is. needless_same s) (λ s. refl)

  skip_hit_anew : (s : Entry) → skip_hit g those (renamed_entry r s) ≡ option_map (renamed_hit r) (skip_hit g these s)
  unfolding skip_hit
  skip_hit_anew s =
      ap (option_map (λ (c : Crate). hit_of Skip (r.span s.spec.span) (Krate (kid_of c))))
      (find_on (is_skipped those (renamed_entry r s)) (is_skipped these s) g.crates (λ k known. skips_same s k known))
      ∙ crate_hit_anew r Skip s.spec.span _

  pub skip_hits_anew : filter_map (skip_hit g those) (map (renamed_entry r) p.skip)
      ≡ map (renamed_hit r) (filter_map (skip_hit g these) p.skip)
  skip_hits_anew = filter_map_anew (skip_hit g those) (skip_hit g these) (renamed_entry r) (renamed_hit r) p.skip
      (λ s is. skip_hit_anew s)

  -- ---- skipped trees

  by_root_same : (t : Root) (k : Crate) → Contains p.skip_tree t → Contains g.crates k
      → is_skipped_by_root (renamed r p) those (renamed_root r t) k ≡ is_skipped_by_root p these t k
  unfolding is_skipped_by_root
  by_root_same t k written known =
      ap (λ b. b && (not (is_marked (renamed r p) k) && those.in_tree (renamed_root r t) k)) (counts_same k known)
      ∙ (ap (λ b. these.counts k && (not b && those.in_tree (renamed_root r t) k)) (marked_same k)
      ∙ ap (λ b. these.counts k && (not (is_marked p k) && b)) (in_tree_same t k written known))

  by_root_of_anew : (t : Root) → Contains p.skip_tree t → skipped_by_root_keys_of (renamed r p) g those
      (renamed_root r t) ≡ map (spanned r) (skipped_by_root_keys_of p g these t)
  unfolding skipped_by_root_keys_of key_of
  by_root_of_anew t written = reported_alike (is_skipped_by_root (renamed r p) those (renamed_root r t))
      (is_skipped_by_root p these t) (λ c. crate_key code.SkippedByRoot c.place (r.span t.spec.span))
      (λ c. crate_key code.SkippedByRoot c.place t.spec.span) (spanned r) g.crates
      (λ k known. by_root_same t k written known) (λ c. refl)

  pub by_root_anew : skipped_by_root_keys (renamed r p) g those ≡ map (spanned r) (skipped_by_root_keys p g these)
  by_root_anew = flat_map_anew (skipped_by_root_keys_of (renamed r p) g those) (skipped_by_root_keys_of p g these)
      (renamed_root r) (spanned r) p.skip_tree (λ t written. by_root_of_anew t written)

  root_same : (t : Root) → has_root g (renamed_root r t) ≡ has_root g t
  unfolding has_root matches
  root_same t = refl

  pub unmatched_root_anew : unmatched_skip_root_keys (renamed r p) g ≡ map (spanned r) (unmatched_skip_root_keys p g)
  unfolding unmatched_skip_root_keys key_of
  unmatched_root_anew = reported_anew (λ t. not (has_root g t)) (λ t. not (has_root g t)) (renamed_root r)
      (λ t. unused_key code.UnmatchedSkipRoot t.spec.span) (λ t. unused_key code.UnmatchedSkipRoot t.spec.span)
      (spanned r) p.skip_tree (λ t is. ap (λ b. not b) (root_same t)) (λ t. refl)

  root_hit_anew : (t : Root) → root_hit g (renamed_root r t) ≡ option_map (renamed_hit r) (root_hit g t)
  unfolding root_hit matches
  root_hit_anew t = crate_hit_anew r SkipRoot t.spec.span _

  pub root_hits_anew : filter_map (root_hit g) (map (renamed_root r) p.skip_tree)
      ≡ map (renamed_hit r) (filter_map (root_hit g) p.skip_tree)
  root_hits_anew = filter_map_anew (root_hit g) (root_hit g) (renamed_root r) (renamed_hit r) p.skip_tree
      (λ t is. root_hit_anew t)
