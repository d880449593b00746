-- A disk in memory that never fails, as contracts see it.
use Rattle.std.specs.Prelude.{ℕ, Some}
use Rattle.deny_base_disk.specs.Disk.{Disk, Files}

pub record Sure : Type 0 where
  pub files : Files
  -- the bytes that reading gave
  pub given : ℕ
  -- the entries that listing gave
  pub listed : ℕ

-- a disk that never fails tells its files, and no call failed
abbrev pub sure_seen : Sure → Disk
sure_seen sure =
    record { files = Some sure.files; faults = 0; faults_at = λ _ _. 0; given = sure.given; listed = sure.listed }
