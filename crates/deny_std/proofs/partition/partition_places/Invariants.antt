use Rattle.std.proofs.Common.{◌≡◌, take}
use Rattle.std.specs.List.{flat_map}
use Rattle.deny_base_lists.specs.First.{FindsFirst}
use Rattle.deny_std.specs.private.FirstWitnesses.{place_in, is_same_span}
use Rattle.deny_std.specs.private.Partition.{ignored_at, reported_at}
use Rattle.deny_std.proofs.partition.partition_places.Given as goal

abbrev pub invariant-loop-place : goal.invariant-loop-place
invariant-loop-place l =
    record {
      reported : l.partition.reported ≡ flat_map (reported_at l.ignored.entries.now l.krates)
          (take l.place-index l.places);
      witnesses : FindsFirst is_same_span (flat_map (ignored_at l.ignored.entries.now l.krates)
          (take l.place-index l.places)) (place_in l.partition.witnesses);
    }
