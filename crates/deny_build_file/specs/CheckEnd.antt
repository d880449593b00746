-- How the check of a file ends where the disk fails.
use Rattle.std.specs.Prelude.{ℕ}
use Rattle.deny_base_disk.specs.declared.disk.DiskError.{DiskError}
use Rattle.deny_base_disk.specs.declared.disk.DiskError.TheVariants.{Failed, Memory}
use Rattle.deny_build_file.specs.declared.check_end.CheckEnd.{CheckEnd}
use Rattle.deny_build_file.specs.declared.check_end.CheckEnd.TheVariants.{Fault, Long, Memory as OutOfMemory}

-- the end of a check for each error of the disk
abbrev pub check_end_of : DiskError → CheckEnd
check_end_of Failed = Fault
check_end_of Memory = OutOfMemory

-- how many calls failed, at most, where a check ended so
abbrev pub failed_calls : CheckEnd → ℕ
failed_calls Fault = 1
failed_calls Long = 0
failed_calls OutOfMemory = 0
