use Rattle.std.proofs.Common.{◌<◌, ◌^◌, arith}
use Rattle.deny_base_disk.proofs.CallLemmas.{after_failure, failure_counted, failure_later}
use Rattle.deny_base_disk.proofs.PieceLemmas.{piece_given, text_read}
use Rattle.deny_base_disk.proofs.memory_disk.MemoryDiskPackageFiles.read_at.Goals as goal

pub returns-in-Some-clause-bytes : goal.returns-in-Some-clause-bytes
returns-in-Some-clause-bytes c = piece_given _ _ _ _ _ _ _ (text_read _ _) c.in-Some.is c.piece_of-piece.ensures

-- the disk failed the call
pub returns-in-None-clause-later : goal.returns-in-None-clause-later
returns-in-None-clause-later c =
    let below : c.self.inside.faults < 2 ^ 64 = omega arith in
    failure_later _ c.args.self.now c.count_fault.new.self c.self.view_is below
    (after_failure _ _ _ _ c.self.view_is c.saturating_add-self-inside.ensures c.count_fault.ensures)

pub returns-in-None-clause-failed : goal.returns-in-None-clause-failed
returns-in-None-clause-failed c = λ _. failure_counted c.args.self.now c.count_fault.new.self _ _
    (after_failure _ _ _ _ c.self.view_is c.saturating_add-self-inside.ensures c.count_fault.ensures)

pub returns-in-None-clause-after : goal.returns-in-None-clause-after
returns-in-None-clause-after c =
    after_failure _ _ _ _ c.self.view_is c.saturating_add-self-inside.ensures c.count_fault.ensures
