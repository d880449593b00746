-- What was read of a crate: what the disk tells, except what the entries say was not read.
use Rattle.std.specs.Prelude.{ℕ, Bool, true, false, List, Option, None, Some}
use Rattle.deny_base_disk.specs.Children.{children}
use Rattle.deny_base_disk.specs.Disk.{Files, bytes_at}
use Rattle.deny_base_disk.specs.declared.disk.Entry.{Entry}
use Rattle.deny_base.specs.declared.span.Kid.{Kid}
use Rattle.deny_base.specs.Unread.{is_unread}
use Rattle.deny_base.specs.declared.purpose.Purpose.{Purpose}
use Rattle.deny_base.specs.declared.purpose.Purpose.TheVariants as purpose
use Rattle.deny_base.specs.declared.unread.Unread.{Unread}

abbrev pub unless : {A : Type 0} → Bool → A → Option A
unless true x = None
unless false x = Some x

pub record View : Type 0 where
  -- the text at a path, read for a purpose; none where it was not read
  pub text : Purpose → List ℕ → Option (List ℕ)
  -- what the folder at a path holds; none where it was not listed
  pub list : List ℕ → Option (List Entry)

-- the view by these files and a test of what was not read
unfoldable pub view_by : Files → (Purpose → List ℕ → Bool) → View
view_by files unread = record {
  text = λ purpose path. unless (unread purpose path) (bytes_at files path);
  list = λ path. unless (unread purpose.List path) (children files path);
}

-- the view of one crate, or of a workspace that is none, by the entries of all
unfoldable pub view_of : Files → List Unread → Option Kid → View
view_of files us krate = view_by files (is_unread us krate)
