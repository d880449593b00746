-- The folders without a list that a walk has found so far.
use Rattle.std.specs.Prelude.{◌≡◌, ℕ, ◌+◌, ◌≤◌, Bool, List, Contains, IfSome, Some, map, sum_by}
use Rattle.deny_base_disk.specs.Disk.{Disk}
use Rattle.deny_base.specs.declared.span.Kid.{Kid}
use Rattle.deny_base_unread.specs.Added.{added}
use Rattle.deny_base_unread.specs.Bound.{Folders}
use Rattle.deny_base.specs.declared.unread.Unread.{Unread}
use Rattle.deny_build_walk.specs.Cause.{HasCause}
use Rattle.deny_build_walk.specs.Folder.{failed_calls}
use Rattle.deny_build_walk.specs.declared.folder.NoList.TheVariants.{Crowded}
use Rattle.deny_build_walk.specs.declared.walk.Unlisted.{Unlisted}
use Rattle.deny_build_walk.specs.private.Crowded.{WasCrowded}

-- in a walk from a disk and a list of entries: the folders of the entries added since, each with its cause
pub record AreNoted (krate : Kid) (root : List ℕ) (by_git : Bool) (start : Disk) (first : List Unread) (now : Disk)
    (unread : List Unread) (unlisted : List Unlisted) : Type 0 where
  pub paths : map (λ n. n.path) unlisted ≡ map (λ u. u.path) (added first unread)
  pub causes : (folder : Folders) → folder (Some krate) ≡ root → (n : Unlisted) → Contains unlisted n
      → HasCause folder start now krate n
  -- each call that failed has its folder
  pub faults : now.faults ≤ start.faults + sum_by (λ n. failed_calls n.why) unlisted
  pub crowded : IfSome start.files (λ files. (n : Unlisted) → Contains unlisted n → n.why ≡ Crowded
      → WasCrowded krate root by_git files (added first unread) n.path)
