use Rattle.std.proofs.Common.{◌≡◌, ◌+◌, take}
use Rattle.deny_base.specs.private.Marks.{location_after}
use Rattle.deny_base.proofs.files.advance.Given as goal

abbrev pub invariant-loop-byte : goal.invariant-loop-byte
invariant-loop-byte l = l.at ≡ location_after (take (l.from + l.byte-index) l.text)
