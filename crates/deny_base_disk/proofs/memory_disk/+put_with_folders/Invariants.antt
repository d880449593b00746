use Rattle.std.proofs.Common.{length}
use Rattle.deny_base_disk.proofs.memory_disk.+put_with_folders.Given as goal

abbrev pub decreases-put_with_folders : goal.decreases-put_with_folders
decreases-put_with_folders l = length l.folders.now
