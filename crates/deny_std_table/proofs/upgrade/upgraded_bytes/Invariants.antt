use Rattle.deny_std_table.specs.Width.{width_of}
use Rattle.deny_std_table.proofs.UpgradeLemmas.{CopiedSoFar, read_texts}
use Rattle.deny_std_table.proofs.upgrade.upgraded_bytes.Given as goal

-- the entries before this one were written, and their offsets
abbrev pub invariant-loop-i : goal.invariant-loop-i
invariant-loop-i l = CopiedSoFar (read_texts (width_of l.width) l.bytes l.count) l.i l.head l.body
