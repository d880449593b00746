use Rattle.std.proofs.Common.{◌≡◌, take}
use Rattle.deny_krates_sources.specs.private.Index.{hash_of}
use Rattle.deny_krates_sources.proofs.index.hash_of.Given as goal

abbrev pub invariant-loop-byte : goal.invariant-loop-byte
invariant-loop-byte l = l.hash ≡ hash_of (take l.byte-index l.text)
