use Rattle.std.proofs.Common.{rules}
use Rattle.std.specs.Ordering.{is_lt}
use Rattle.std.proofs.lemmas.List.MinMax.{ranks_by}
use Rattle.std.proofs.lemmas.List.Sorted.{answers_always}
use Rattle.deny_spec.specs.VersionOrder.{version_cmp}
use Rattle.deny_rules_crates.specs.private.Duplicates.{placed_view}
use Rattle.deny_rules_crates.proofs.VersionLemmas.{version_cmp-total, lists_by_version}
use Rattle.deny_rules_crates.proofs.duplicates.put_by_version.Goals as goal

pub returns : goal.returns
returns c =
    lists_by_version placed_view c.args.candidates.now.items c.sort_by.new.self.items
    c.in_ok-sort_by.ensures.permutation
    (c.in_ok-sort_by.ensures.sorted (λ a b. is_lt (version_cmp (placed_view a) (placed_view b)))
    (ranks_by version_cmp-total placed_view)
    (answers_always _ _ _ (λ f a r g called. search rules)))
    c.requires
