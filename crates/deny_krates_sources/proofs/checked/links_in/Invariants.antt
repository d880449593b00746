use Rattle.std.proofs.Common.{◌≡◌, drop}
use Rattle.deny_krates_sources.specs.Checked.{links_of}
use Rattle.deny_krates_sources.specs.private.Index.{number_by}
use Rattle.deny_base_lists.proofs.ReaderLemmas.{with_prefix}
use Rattle.deny_krates_sources.proofs.checked.links_in.Given as goal

abbrev pub invariant-loop-dep : goal.invariant-loop-dep
invariant-loop-dep l =
    links_of (number_by l.indexes.packages) (number_by l.indexes.nodes) l.deps
    ≡ with_prefix l.links (links_of (number_by l.indexes.packages) (number_by l.indexes.nodes)
    (drop l.dep-index l.deps))
