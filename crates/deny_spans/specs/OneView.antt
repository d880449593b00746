-- A disk that tells its files determines what is seen of manifests.
use Rattle.std.specs.Prelude.{◌≡◌, ℕ, List, Some}
use Rattle.deny_base.specs.declared.files.File.{File}
use Rattle.deny_spec.specs.Graph.{Graph}
use Rattle.deny_spec.specs.View.{View}
use Rattle.deny_base_disk.specs.Disk.{Files}
use Rattle.deny_spans.specs.Seen.{IsSeen}
use Rattle.deny_base.specs.declared.unread.Unread.{Unread}
use Rattle.deny_spans_workspace.specs.declared.registries.Registry.{Registry}

-- the same files were added, the same manifests are malformed, and the view is the same
pub record AreSame (new other_new : List File) (malformed other_malformed : List (List ℕ))
    (view other_view : View) : Type 0 where
  pub files : new ≡ other_new
  pub paths : malformed ≡ other_malformed
  pub seen : view ≡ other_view

-- what was seen on a disk that tells its files is determined by the graph, the registries, the earlier files, and the
-- entries for what was not read
abbrev pub HasOneView : Graph → Type 0
HasOneView g = (files : Files) (registries : List Registry) (old new other_new : List File) (unread : List Unread)
    (malformed other_malformed : List (List ℕ)) (view other_view : View)
    → IsSeen (Some files) g registries old new unread malformed view
    → IsSeen (Some files) g registries old other_new unread other_malformed other_view
    → AreSame new other_new malformed other_malformed view other_view
