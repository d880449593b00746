use Rattle.std.proofs.Common.{◌≡◌, drop}
use Rattle.deny_krates_sources.specs.Checked.{known}
use Rattle.deny_krates_sources.specs.private.Index.{number_by}
use Rattle.deny_base_lists.specs.Reader.{each}
use Rattle.deny_base_lists.proofs.ReaderLemmas.{with_prefix}
use Rattle.deny_krates_sources.proofs.checked.numbers.Given as goal

abbrev pub invariant-loop-member : goal.invariant-loop-member
invariant-loop-member l =
    each (known (number_by l.indexes.packages) (number_by l.indexes.nodes)) l.members
    ≡ with_prefix l.numbers (each (known (number_by l.indexes.packages) (number_by l.indexes.nodes))
    (drop l.member-index l.members))
