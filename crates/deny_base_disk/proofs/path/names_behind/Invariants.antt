use Rattle.std.proofs.Common.{◌≡◌, length}
use Rattle.deny_base_disk.specs.Paths.{names_behind}
use Rattle.deny_base_disk.proofs.path.names_behind.Given as goal

abbrev pub invariant-loop-byte : goal.invariant-loop-byte
invariant-loop-byte l = names_behind l.rest ≡ names_behind l.bytes

abbrev pub decreases-loop-byte : goal.decreases-loop-byte
decreases-loop-byte l = length l.rest
