-- A disk in memory, as contracts see it.
use Rattle.std.specs.Prelude.{◌≡◌, ℕ, ◌==◌, ◌&&◌, ◌||◌, not, true, if◌then◌else◌, Bool, is_some, List, [], ◌∷◌, take}
use Rattle.std.specs.Prelude.{codes, Option, Some, None}
use Rattle.std.specs.List.{filter_map, enumerate_from, list_any}
use Rattle.std.specs.Str.{bytes_eq}
use Rattle.std.specs.FinMap as finite
use Rattle.deny_base_disk.specs.Count.{counted}
use Rattle.deny_base_disk.specs.Disk.{Disk, Files, is_folder}
use Rattle.deny_base_disk.specs.Paths.{is_path}
use Rattle.deny_base_disk.specs.declared.disk.DiskError.{DiskError}
use Rattle.deny_base_disk.specs.declared.disk.DiskError.TheVariants.{Failed, Memory as OutOfMemory}
use Rattle.deny_base_disk.specs.declared.disk.Place.{Place}
use Rattle.deny_base_disk.specs.declared.disk.Place.TheVariants.{Folder, File}

pub record Memory : Type 0 where
  pub files : Files
  -- the paths on which every call fails
  pub failing : List (List ℕ)
  -- the numbers of the calls that fail, whatever their paths
  pub failing_calls : List ℕ
  -- the most bytes that a call gives
  pub piece : ℕ
  -- the calls of both kinds so far: the number of the next call
  pub calls : ℕ
  -- the calls that failed
  pub faults : ℕ
  -- the bytes that reading gave
  pub given : ℕ
  -- the entries that listing gave
  pub listed : ℕ

-- a disk in memory tells its files, and has one count of failures for every call and path
abbrev pub memory_seen : Memory → Disk
memory_seen memory = record {
  files = Some memory.files;
  faults = memory.faults;
  faults_at = λ _ _. memory.faults;
  given = memory.given;
  listed = memory.listed;
}

abbrev pub is_failing : List (List ℕ) → List ℕ → Bool
is_failing failing path = list_any (λ other. bytes_eq other path) failing

abbrev pub is_failing_call : List ℕ → ℕ → Bool
is_failing_call failing number = list_any (λ other. other == number) failing

-- whether the next call is to fail, if it is on this path
abbrev pub fails_next : Memory → List ℕ → Bool
fails_next memory path = is_failing memory.failing path || is_failing_call memory.failing_calls memory.calls

-- the text of a file; a folder has none
abbrev pub file_text : Option Place → Option (List ℕ)
file_text None = None
file_text (Some Folder) = None
file_text (Some (File bytes)) = Some bytes

-- the text that a call reads; it fails where there is none
abbrev pub text_to_read : Memory → List ℕ → Option (List ℕ)
text_to_read memory path =
    if fails_next memory path then None else file_text (finite.get memory.files path)

-- whether a call lists; it fails where no folder is at the path
abbrev pub is_listing : Memory → List ℕ → Bool
is_listing memory path = not (fails_next memory path) && is_folder (finite.get memory.files path)

-- the disk after a call that gave nothing
abbrev pub called : Memory → Memory
called memory = record memory { calls = counted memory.calls 1 }

-- the disk after a call that ended with this error
abbrev pub failed_by : DiskError → Memory → Memory
failed_by Failed memory = record memory { calls = counted memory.calls 1; faults = counted memory.faults 1 }
failed_by OutOfMemory memory = called memory

-- the path of the folder whose name ends before the slash at this offset; the root is its slash
abbrev pub folder_before : List ℕ → ℕ → List ℕ
folder_before path offset = if offset == 0 then codes "/" else take offset path

-- the folder whose name ends at this offset, if a slash, whose code is 47, stands there
abbrev pub folder_at : List ℕ → ℕ × ℕ → Option (List ℕ)
folder_at path at = if at.1 == 47 then Some (folder_before path at.0) else None

-- the folders that the path goes through, the outermost first
abbrev pub folders_of : List ℕ → List (List ℕ)
folders_of path = filter_map (folder_at path) (enumerate_from 0 path)

-- a folder is put where nothing is at its path
abbrev pub with_folder : Files → List ℕ → Files
with_folder files folder =
    if is_some (finite.get files folder) then files else finite.insert files folder Folder

abbrev pub with_folders : Files → List (List ℕ) → Files
with_folders files [] = files
with_folders files (folder ∷ folders) = with_folders (with_folder files folder) folders

-- the file and the folders that its path goes through are put; the file replaces what was at its path
abbrev pub with_file : Files → List ℕ → List ℕ → Files
with_file files path bytes = finite.insert (with_folders files (folders_of path)) path (File bytes)

abbrev pub is_file : Option Place → Bool
is_file place = is_some (file_text place)

-- a file can be put at a path of the form of a file's that is no folder's, where none of its folders is a file
abbrev pub takes_file : Files → List ℕ → Bool
takes_file files path = is_path path
    && (not (is_folder (finite.get files path)) && not
    (list_any (λ folder. is_file (finite.get files folder)) (folders_of path)))

-- each path of a disk has the form of a file's path, or is the root
abbrev pub is_held : List ℕ → Bool
is_held path = is_path path || bytes_eq path (codes "/")

abbrev pub HoldsPaths : Files → Type 0
HoldsPaths files = (path : List ℕ) → is_some (finite.get files path) ≡ true → is_held path ≡ true
