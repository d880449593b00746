use Rattle.std.proofs.Common.{◌≡◌, take, drop, map}
use Rattle.deny_krates_sources.specs.Checked.{distinct, distinct_after}
use Rattle.deny_krates_sources.specs.private.Index.{IsIndex}
use Rattle.deny_krates_sources.proofs.index.index_of.Given as goal

abbrev pub invariant-loop-number : goal.invariant-loop-number
invariant-loop-number g l = record {
  index : IsIndex l.index (map g.T.Identified.id_of (take l.number l.things));
  distinct : distinct (map g.T.Identified.id_of l.things)
      ≡ distinct_after (map g.T.Identified.id_of (take l.number l.things))
      (map g.T.Identified.id_of (drop l.number l.things));
}
