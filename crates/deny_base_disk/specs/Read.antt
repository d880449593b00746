-- Reading a text to its end.
use Rattle.std.specs.Prelude.{◌≡◌, ℕ, ◌+◌, ◌≤◌, List, length, take, IfSome}
use Rattle.deny_base_disk.specs.Count.{RoseBy}
use Rattle.deny_base_disk.specs.Disk.{Disk, Files, IsLater, bytes_at}
use Rattle.deny_base_disk.specs.declared.disk.DiskError.{DiskError}
use Rattle.deny_base_disk.specs.declared.disk.DiskError.TheVariants.{Failed, Memory}
use Rattle.deny_base_disk.specs.declared.read.ReadEnd.{ReadEnd}
use Rattle.deny_base_disk.specs.declared.read.ReadEnd.TheVariants.{Fault, Long, Memory as OutOfMemory}

-- where the disk tells its files, reading gave at most this number of bytes of them between the two disks
abbrev pub GaveAtMost : Disk → Disk → (Files → ℕ) → Type 0
GaveAtMost old new bytes = IfSome old.files (λ files. new.given ≤ old.given + bytes files)

-- reading gave at most as many bytes as the text at the path has
abbrev pub GaveOnce : Disk → Disk → List ℕ → Type 0
GaveOnce old new path = GaveAtMost old new (λ files. length (bytes_at files path))

-- the bytes are what was read of the path's text so far, from a disk that stood at `start`
pub record IsReading (start now : Disk) (path bytes : List ℕ) : Type 0 where
  pub later : IsLater start now
  pub given : RoseBy (length bytes) start.given now.given
  pub once : now.given ≤ start.given + length bytes
  pub faults : now.faults ≡ start.faults
  pub text : IfSome start.files (λ files. bytes ≡ take (length bytes) (bytes_at files path))

-- the bytes are all of the path's text
abbrev pub IsWhole : Disk → List ℕ → List ℕ → Type 0
IsWhole start path bytes = IfSome start.files (λ files. bytes ≡ bytes_at files path)

-- the result of reading where the disk answers with this error
abbrev pub read_end_of : DiskError → ReadEnd
read_end_of Failed = Fault
read_end_of Memory = OutOfMemory

-- how many calls failed, at most, where reading ended so
abbrev pub failed_calls : ReadEnd → ℕ
failed_calls Fault = 1
failed_calls Long = 0
failed_calls OutOfMemory = 0
