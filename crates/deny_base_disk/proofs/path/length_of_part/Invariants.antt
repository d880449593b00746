use Rattle.std.proofs.Common.{◌≡◌, ◌+◌, drop}
use Rattle.std.specs.List.{position_or_len}
use Rattle.deny_base_disk.specs.Paths.{is_slash}
use Rattle.deny_base_disk.proofs.path.length_of_part.Given as goal

abbrev pub invariant-loop-index : goal.invariant-loop-index
invariant-loop-index l = l.index + position_or_len is_slash (drop l.index l.bytes) ≡ position_or_len is_slash l.bytes
