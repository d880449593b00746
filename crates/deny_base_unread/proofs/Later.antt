-- A disk later, and calls that failed in a longer time.
use Rattle.std.proofs.Common.{◌≤◌, ℕ, List, arith}
use Rattle.deny_base_disk.specs.Count.{RoseBy}
use Rattle.deny_base_disk.specs.Disk.{Disk, FailedAt, IsLater}
use Rattle.deny_base_disk.specs.declared.disk.Call.{Call}

pub rose_wider : (n a b c d : ℕ) → a ≤ b → c ≤ d → RoseBy n b c → RoseBy n a d
rose_wider n a b c d before after rose = omega (arith, before, after, rose)

pub failed_wider : (a b c d : Disk) (call : Call) (path : List ℕ) → IsLater a b → IsLater c d
    → FailedAt b c call path → FailedAt a d call path
failed_wider a b c d call path before after failed = record {
  faults = rose_wider 1 a.faults b.faults c.faults d.faults before.faults after.faults failed.faults;
  faults_at = rose_wider 1 (a.faults_at call path) (b.faults_at call path) (c.faults_at call path)
      (d.faults_at call path) (before.faults_at call path) (after.faults_at call path) failed.faults_at;
}
