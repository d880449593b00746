-- A disk as contracts see it: what is at each path, where that is told, and its counts.
use Rattle.std.specs.Prelude.{◌≡◌, ℕ, ◌-◌, ◌<◌, ◌≤◌, Bool, true, false, List, [], length, take, drop, Option, Some}
use Rattle.std.specs.Prelude.{None}
use Rattle.std.specs.Ordering.{nat_cmp}
use Rattle.std.specs.Cmp.Lexicographic.{slice_cmp}
use Rattle.std.specs.FinMap as map
use Rattle.deny_base_disk.specs.Count.{Rose}
use Rattle.deny_base_disk.specs.declared.disk.Call.{Call}
use Rattle.deny_base_disk.specs.declared.disk.Place.{Place}
use Rattle.deny_base_disk.specs.declared.disk.Place.TheVariants.{Folder, File}

-- a folder or the text of a file at each path
abbrev pub Files : Type 0
Files = map.FinMap (slice_cmp nat_cmp) Place

pub record Disk : Type 0 where
  -- none where the disk does not tell
  pub files : Option Files
  -- the calls that failed
  pub faults : ℕ
  -- the calls of this kind on this path that failed
  pub faults_at : Call → List ℕ → ℕ
  -- the bytes that reading gave
  pub given : ℕ
  -- the entries that listing gave
  pub listed : ℕ

-- a disk that tells nothing of what it holds, and has one count of failures for every call and path
abbrev pub untold : ℕ → ℕ → ℕ → Disk
untold faults given listed =
    record { files = None; faults = faults; faults_at = λ _ _. faults; given = given; listed = listed }

-- a disk at a later time: what it holds stays, and no count falls
pub record IsLater (old new : Disk) : Type 0 where
  pub files : new.files ≡ old.files
  pub faults : old.faults ≤ new.faults
  pub faults_at : (call : Call) (path : List ℕ) → old.faults_at call path ≤ new.faults_at call path
  pub given : old.given ≤ new.given
  pub listed : old.listed ≤ new.listed

-- a call of this kind on this path failed in between
pub record FailedAt (old new : Disk) (call : Call) (path : List ℕ) : Type 0 where
  pub faults : Rose old.faults new.faults
  pub faults_at : Rose (old.faults_at call path) (new.faults_at call path)

abbrev pub is_folder : Option Place → Bool
is_folder None = false
is_folder (Some Folder) = true
is_folder (Some (File bytes)) = false

-- the text of the file at a path, if there is one
abbrev pub text_of : Option Place → List ℕ
text_of None = []
text_of (Some Folder) = []
text_of (Some (File bytes)) = bytes

-- the text that reading a path gives: the empty text where no file is at the path
abbrev pub bytes_at : Files → List ℕ → List ℕ
bytes_at files path = text_of (map.get files path)

-- the first `n` bytes of the buffer are the text's from `offset` on; they are none only for an
-- empty buffer or where the text has ended
pub record IsPieceOf (text : List ℕ) (offset n : ℕ) (buf : List ℕ) : Type 0 where
  pub within : n ≤ length text - offset
  pub bytes : take n buf ≡ take n (drop offset text)
  pub ends : n ≡ 0 → 0 < length buf → length text ≤ offset
