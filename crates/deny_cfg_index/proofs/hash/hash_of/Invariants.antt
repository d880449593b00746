use Rattle.std.proofs.Common.{◌≡◌, take}
use Rattle.deny_cfg_index.specs.Hash.{hash_of}
use Rattle.deny_cfg_index.proofs.hash.hash_of.Given as goal

abbrev pub invariant-loop-byte : goal.invariant-loop-byte
invariant-loop-byte l = l.hash ≡ hash_of (take l.byte-index l.name)
