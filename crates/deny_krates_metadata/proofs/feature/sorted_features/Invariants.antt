use Rattle.std.proofs.Common.{◌≡◌}
use Rattle.deny_krates_metadata.specs.Document.{features_from}
use Rattle.deny_krates_metadata.specs.private.Borrowed.{sorted_view}
use Rattle.deny_base_lists.proofs.ReaderLemmas.{with_prefix}
use Rattle.deny_krates_metadata.proofs.feature.sorted_features.Given as goal

abbrev pub invariant-loop-name : goal.invariant-loop-name
invariant-loop-name l = features_from l.path (sorted_view l.sorted.entries) ≡ with_prefix l.features
    (features_from l.path (sorted_view l.name-iterator))
