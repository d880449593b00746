-- Two facts that are true of one policy and graph agree on its crates, so rules find the same by either.
use Rattle.std.proofs.Common.{◌≡◌, ◌==◌, ◌&&◌, ◌||◌, ℕ, List, not, ap, ◌∙◌, subst}
use Rattle.std.specs.Prelude.{Contains, filter, map, length, nat_le, if◌then◌else◌}
use Rattle.deny_base_lists.specs.Ascending.{Lists}
use Rattle.deny_base.specs.declared.key.Key.{Key}
use Rattle.deny_spec.specs.VersionOrder.{version_cmp}
use Rattle.deny_spec.specs.Duplicates.{IsDuplicate}
use Rattle.deny_spec.specs.Facts.{Facts, AreFacts}
use Rattle.deny_spec.specs.Graph.{Crate, Graph}
use Rattle.deny_spec.specs.Groups.{group, has_name, is_in_group, is_internal, is_marked, is_in_skipped_tree}
use Rattle.deny_spec.specs.Groups.{may_duplicate, reduced}
use Rattle.deny_spec.specs.Match.{matches}
use Rattle.deny_spec.specs.Policy.{Entry, Policy, Root}
use Rattle.deny_spec.specs.Skips.{is_skipped, is_skipped_by_root, is_hit_skip, is_needless, skipped_keys_of}
use Rattle.deny_spec.specs.Skips.{skipped_by_root_keys_of, unmatched_skip_keys, unnecessary_skip_keys}
use Rattle.deny_base_lists.proofs.Agreement.{AgreeOn, filter_on, list_any_on, same_test}

-- two facts that are true of one policy and graph
pub record TwoFacts (p : Policy) (g : Graph) (these those : Facts) : Type 0 where
  pub left : AreFacts p g these
  pub right : AreFacts p g those

count_alike : (p : Policy) (g : Graph) (these those : Facts) → TwoFacts p g these those
    → AgreeOn g.crates these.counts those.counts
count_alike p g these those both = λ c known. same_test (these.counts c) (those.counts c) (both.left.counts c known)
    (both.right.counts c known)

root_alike : (p : Policy) (g : Graph) (these those : Facts) → TwoFacts p g these those
    → AgreeOn g.crates (is_in_skipped_tree p these) (is_in_skipped_tree p those)
unfolding is_in_skipped_tree
root_alike p g these those both = λ c known. list_any_on (λ t. these.in_tree t c) (λ t. those.in_tree t c) p.skip_tree
    (λ t written. same_test (these.in_tree t c) (those.in_tree t c) (both.left.in_tree t written c known)
    (both.right.in_tree t written c known))

may_duplicate_alike : (p : Policy) (g : Graph) (these those : Facts) → TwoFacts p g these those
    → AgreeOn g.crates (may_duplicate p these) (may_duplicate p those)
unfolding may_duplicate
may_duplicate_alike p g these those both = λ c known.
    ap (λ b. b && (is_marked p c || not (is_in_skipped_tree p these c))) (count_alike p g these those both c known)
    ∙ ap (λ b. those.counts c && (is_marked p c || not b)) (root_alike p g these those both c known)

in_group_alike : (p : Policy) (g : Graph) (these those : Facts) (name : List ℕ) → TwoFacts p g these those
    → AgreeOn g.crates (is_in_group p these name) (is_in_group p those name)
unfolding is_in_group
in_group_alike p g these those name both = λ c known. ap (λ b. has_name name c && b)
    (may_duplicate_alike p g these those both c known)

groups_alike : (p : Policy) (g : Graph) (these those : Facts) (name : List ℕ) → TwoFacts p g these those
    → group p g these name ≡ group p g those name
groups_alike p g these those name both = filter_on (is_in_group p these name) (is_in_group p those name) g.crates
    (in_group_alike p g these those name both)

reduced_alike : (p : Policy) (g : Graph) (these those : Facts) (name : List ℕ) → TwoFacts p g these those
    → reduced p g these name ≡ reduced p g those name
unfolding reduced
reduced_alike p g these those name both =
    ap (λ (crates : List Crate). if length crates == 1 then crates else filter (λ c. not (is_internal g name c)) crates)
    (groups_alike p g these those name both)

pub duplicates_alike : (p : Policy) (g : Graph) (these those : Facts) (key : Key) → TwoFacts p g these those
    → IsDuplicate p g these key → IsDuplicate p g those key
duplicates_alike p g these those key both found =
    let c = found.0 in
    let d = found.2 in (
      c,
      found.1,
      record {
        crates = d.crates;
        listed = subst (λ (kept : List Crate). Lists version_cmp (Contains (filter (λ c. not (is_marked p c)) kept))
            d.crates) (reduced_alike p g these those c.name both) d.listed;
        several = d.several;
        active = d.active;
        is = d.is;
      },
    )

skipped_alike : (p : Policy) (g : Graph) (these those : Facts) (s : Entry) → TwoFacts p g these those
    → AgreeOn g.crates (is_skipped these s) (is_skipped those s)
unfolding is_skipped
skipped_alike p g these those s both = λ c known. ap (λ b. b && matches s.spec c)
    (count_alike p g these those both c known)

in_tree_alike : (p : Policy) (g : Graph) (these those : Facts) (t : Root) → TwoFacts p g these those
    → Contains p.skip_tree t → AgreeOn g.crates (is_skipped_by_root p these t) (is_skipped_by_root p those t)
unfolding is_skipped_by_root
in_tree_alike p g these those t both written = λ c known.
    ap (λ b. b && (not (is_marked p c) && these.in_tree t c)) (count_alike p g these those both c known)
    ∙ ap (λ b. those.counts c && (not (is_marked p c) && b))
    (same_test (these.in_tree t c) (those.in_tree t c) (both.left.in_tree t written c known)
    (both.right.in_tree t written c known))

pub skipped_keys_alike : (p : Policy) (g : Graph) (these those : Facts) → TwoFacts p g these those
    → AgreeOn p.skip (skipped_keys_of g these) (skipped_keys_of g those)
unfolding skipped_keys_of
skipped_keys_alike p g these those both = λ s written.
    ap (map _) (filter_on (is_skipped these s) (is_skipped those s) g.crates (skipped_alike p g these those s both))

pub in_tree_keys_alike : (p : Policy) (g : Graph) (these those : Facts) → TwoFacts p g these those
    → AgreeOn p.skip_tree (skipped_by_root_keys_of p g these) (skipped_by_root_keys_of p g those)
unfolding skipped_by_root_keys_of
in_tree_keys_alike p g these those both = λ t written.
    ap (map _) (filter_on (is_skipped_by_root p these t) (is_skipped_by_root p those t) g.crates
    (in_tree_alike p g these those t both written))

hit_alike : (p : Policy) (g : Graph) (these those : Facts) (s : Entry) → TwoFacts p g these those
    → is_hit_skip g these s ≡ is_hit_skip g those s
unfolding is_hit_skip
hit_alike p g these those s both = list_any_on (is_skipped these s) (is_skipped those s) g.crates
    (skipped_alike p g these those s both)

needless_alike : (p : Policy) (g : Graph) (these those : Facts) (s : Entry) → TwoFacts p g these those
    → is_needless p g these s ≡ is_needless p g those s
unfolding is_needless
needless_alike p g these those s both =
    ap (λ b. b && nat_le (length (reduced p g these s.spec.name)) 1) (hit_alike p g these those s both)
    ∙ ap (λ (crates : List Crate). is_hit_skip g those s && nat_le (length crates) 1)
    (reduced_alike p g these those s.spec.name both)

pub unmatched_alike : (p : Policy) (g : Graph) (these those : Facts) → TwoFacts p g these those
    → unmatched_skip_keys p g these ≡ unmatched_skip_keys p g those
unfolding unmatched_skip_keys
unmatched_alike p g these those both =
    ap (map _) (filter_on (λ s. not (is_hit_skip g these s)) (λ s. not (is_hit_skip g those s)) p.skip
    (λ s written. ap (λ b. not b) (hit_alike p g these those s both)))

pub unnecessary_alike : (p : Policy) (g : Graph) (these those : Facts) → TwoFacts p g these those
    → unnecessary_skip_keys p g these ≡ unnecessary_skip_keys p g those
unfolding unnecessary_skip_keys
unnecessary_alike p g these those both =
    ap (map _) (filter_on (is_needless p g these) (is_needless p g those) p.skip
    (λ s written. needless_alike p g these those s both))
