-- A folder whose entries were too many for a walk, with the walk as it stood before it.
use Rattle.std.specs.Prelude.{◌≡◌, ℕ, ◌+◌, ◌++◌, ◌∷◌, ◌^◌, ◌≤◌, All, Bool, List, Contains, Some}
use Rattle.std.specs.BTreeMap.Range.{IsLtBy}
use Rattle.std.specs.Cmp.Lexicographic.{slice_cmp}
use Rattle.std.specs.Ordering.{nat_cmp}
use Rattle.std.specs.declared.cmp.Ordering.TheVariants.{Less}
use Rattle.deny_base_disk.specs.Disk.{Files}
use Rattle.deny_base.specs.declared.span.Kid.{Kid}
use Rattle.deny_base.specs.Unread.{asked}
use Rattle.deny_base.specs.declared.purpose.Purpose.TheVariants as purpose
use Rattle.deny_base.specs.declared.unread.Unread.{Unread}
use Rattle.deny_build_walk.specs.Folder.{entries_of}
use Rattle.deny_build_walk.specs.private.Walking.{ToldWalk}

pub record WasCrowded (krate : Kid) (root : List ℕ) (by_git : Bool) (files : Files) (own : List Unread)
    (path : List ℕ) : Type 0 where
  -- the entries before that of the folder, and those after it
  pub before : List Unread
  pub behind : List Unread
  pub is : own ≡ before ++ asked (Some krate) purpose.List path ∷ behind
  pub above : (u : Unread) → Contains behind u → slice_cmp nat_cmp path u.path ≡ Less
  -- the walk before the folder
  pub pending : List (List ℕ)
  pub found : List (List ℕ)
  pub count : ℕ
  pub walk : ToldWalk krate root by_git files before (path ∷ pending) found count
  pub least : All (IsLtBy (slice_cmp nat_cmp) path) pending
  pub past : 2 ^ 24 + 1 ≤ count + entries_of files path
