-- A file that is hashed piece by piece.
use Rattle.std.specs.Prelude.{◌≡◌, ℕ, List, length, IfSome}
use Rattle.sha2.specs.Hashers.{Holds256}
use Rattle.sha2.specs.declared.Sha256.{Sha256}
use Rattle.deny_base_disk.specs.Disk.{Disk, bytes_at}
use Rattle.deny_base_disk.specs.Read.{IsReading}

-- this many bytes of the path's text were read so far, and the hasher has taken them
pub record IsHashing (start now : Disk) (path : List ℕ) (hasher : Sha256) (count : ℕ) : Type 0 where
  pub message : List ℕ
  pub holds : Holds256 hasher message
  pub long : length message ≡ count
  pub reading : IsReading start now path message

-- the hasher has taken all of the path's text, which has this many bytes
abbrev pub HasHashed : Disk → List ℕ → Sha256 → ℕ → Type 0
HasHashed start path hasher count = IfSome start.files (λ files.
    Holds256 hasher (bytes_at files path) × (length (bytes_at files path) ≡ count))
