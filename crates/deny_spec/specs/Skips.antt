-- Skips and skipped trees: what they skip, and the keys of their findings.
use Rattle.std.specs.Prelude.{◌&&◌, Bool, not, List, filter, map, length, nat_le}
use Rattle.std.specs.List.{list_any}
use Rattle.deny_base.specs.declared.code.Code.TheVariants.{Skipped, SkippedByRoot, UnmatchedSkip, UnnecessarySkip}
use Rattle.deny_base.specs.declared.code.Code.TheVariants.{UnmatchedSkipRoot}
use Rattle.deny_base.specs.declared.key.Key.{Key}
use Rattle.deny_spec.specs.Facts.{Facts}
use Rattle.deny_spec.specs.Graph.{Crate, Graph}
use Rattle.deny_spec.specs.Groups.{is_marked, reduced}
use Rattle.deny_spec.specs.Keys.{crate_key, unused_key}
use Rattle.deny_spec.specs.Match.{matches}
use Rattle.deny_spec.specs.Policy.{Entry, Policy, Root}

-- a skip skips each counting crate that it matches
unfoldable pub is_skipped : Facts → Entry → Crate → Bool
is_skipped facts s c = facts.counts c && matches s.spec c

unfoldable pub skipped_keys_of : Graph → Facts → Entry → List Key
skipped_keys_of g facts s = map (λ c. crate_key Skipped c.place s.spec.span) (filter (is_skipped facts s) g.crates)

-- a counting crate that no skip matches is skipped by each skipped tree that it lies in
unfoldable pub is_skipped_by_root : Policy → Facts → Root → Crate → Bool
is_skipped_by_root p facts t c = facts.counts c && (not (is_marked p c) && facts.in_tree t c)

unfoldable pub skipped_by_root_keys_of : Policy → Graph → Facts → Root → List Key
skipped_by_root_keys_of p g facts t = map (λ c. crate_key SkippedByRoot c.place t.spec.span)
    (filter (is_skipped_by_root p facts t) g.crates)

-- a skip is hit by a counting crate that it matches
unfoldable pub is_hit_skip : Graph → Facts → Entry → Bool
is_hit_skip g facts s = list_any (is_skipped facts s) g.crates

unfoldable pub unmatched_skip_keys : Policy → Graph → Facts → List Key
unmatched_skip_keys p g facts = map (λ s. unused_key UnmatchedSkip s.spec.span)
    (filter (λ s. not (is_hit_skip g facts s)) p.skip)

-- a skip that is hit is needless where at most one crate of its name is left in the reduced group
unfoldable pub is_needless : Policy → Graph → Facts → Entry → Bool
is_needless p g facts s = is_hit_skip g facts s && nat_le (length (reduced p g facts s.spec.name)) 1

unfoldable pub unnecessary_skip_keys : Policy → Graph → Facts → List Key
unnecessary_skip_keys p g facts = map (λ s. unused_key UnnecessarySkip s.spec.span)
    (filter (is_needless p g facts) p.skip)

-- a skipped tree has a root where the entry matches a crate, counting or not
unfoldable pub has_root : Graph → Root → Bool
has_root g t = list_any (matches t.spec) g.crates

unfoldable pub unmatched_skip_root_keys : Policy → Graph → List Key
unmatched_skip_root_keys p g = map (λ t. unused_key UnmatchedSkipRoot t.spec.span)
    (filter (λ t. not (has_root g t)) p.skip_tree)
