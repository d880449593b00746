use Rattle.std.proofs.Common.{take}
use Rattle.deny_std_table.specs.private.Draft.{Writes}
use Rattle.deny_std_table.proofs.draft.Draft.put_all.Given as goal

-- the bytes so far were written
abbrev pub invariant-loop-byte : goal.invariant-loop-byte
invariant-loop-byte l = Writes l.fn.self l.self (take l.byte-index l.bytes)
