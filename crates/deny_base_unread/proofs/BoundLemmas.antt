-- A bound explains an entry where a text has the size, or reading gave as much; it does so in a longer time, too.
use Rattle.std.proofs.Common.{◌≡◌, ◌+◌, ◌≤◌, ◌^◌, ℕ, List, true, Option, None, Some, length, sym, ap, ◌∙◌}
use Rattle.std.specs.Prelude.{IfSome, option_map}
use Rattle.std.proofs.lemmas.Bool.{le-leb, leb-true}
use Rattle.deny_base_disk.specs.Count.{RoseBy, counted}
use Rattle.deny_base_disk.specs.Disk.{Disk, Files, IsLater, bytes_at}
use Rattle.deny_base.specs.declared.span.Kid.{Kid}
use Rattle.deny_base_unread.proofs.Later.{rose_wider}
use Rattle.deny_base_unread.specs.Bound.{Folders, entries_in, is_bound, is_past, size_told}
use Rattle.deny_base.specs.Purpose.{limit_for, spent_for}
use Rattle.deny_base.specs.Unread.{asked}
use Rattle.deny_base.specs.declared.purpose.Purpose.{Purpose}
use Rattle.deny_base.specs.declared.purpose.Purpose.TheVariants as purpose
use Rattle.deny_base.specs.declared.unread.Unread.{Unread}

past_wider : (limit size : Option ℕ) (a b c d : ℕ) → a ≤ b → c ≤ d → is_past limit size b c ≡ true
    → is_past limit size a d ≡ true
past_wider None size a b c d before after past = past
past_wider (Some limit) (Some size) a b c d before after past = past
past_wider (Some limit) None a b c d before after past =
    le-leb (counted a limit) d (rose_wider limit a b c d before after (leb-true (counted b limit) c past))

-- no count of what was given falls
spent_later : (p : Purpose) (old new : Disk) → IsLater old new → spent_for p old ≤ spent_for p new
spent_later purpose.Manifest old new later = later.given
spent_later purpose.Script old new later = later.given
spent_later purpose.List old new later = later.listed
spent_later purpose.Header old new later = later.given
spent_later purpose.Sum old new later = later.given

-- a bound that explains an entry does so in a longer time
pub bound_wider : (folder : Folders) (a b c d : Disk) (u : Unread) → IsLater a b → IsLater c d
    → is_bound folder b c u ≡ true → is_bound folder a d u ≡ true
unfolding is_bound
bound_wider folder a b c d u before after bound =
    let size : Option Files → Option ℕ = option_map (λ files. size_told files (folder u.krate) u.purpose u.path) in
    let spent : Disk → ℕ = spent_for u.purpose in
    past_wider (limit_for u.purpose) (size a.files) (spent a) (spent b) (spent c) (spent d)
    (spent_later u.purpose a b before) (spent_later u.purpose c d after)
    (ap (λ files. is_past (limit_for u.purpose) (size files) (spent b) (spent c)) (sym before.files) ∙ bound)

past_by_size : (limit : ℕ) (size : Option ℕ) (before after : ℕ) → RoseBy limit before after
    → IfSome size (λ n. limit ≤ n) → is_past (Some limit) size before after ≡ true
past_by_size limit None before after rose large = le-leb (counted before limit) after rose
past_by_size limit (Some n) before after rose large = le-leb limit n large

size_large : (told : Option Files) (limit : ℕ) (size : Files → ℕ) → IfSome told (λ files. limit ≤ size files)
    → IfSome (option_map size told) (λ n. limit ≤ n)
size_large None limit size large = tt
size_large (Some files) limit size large = large

-- a bound explains the entry of a manifest of 2 ^ 28 bytes or more
pub long_past : (folder : Folders) (old new : Disk) (krate : Option Kid) (path : List ℕ)
    → RoseBy (2 ^ 28) old.given new.given → IfSome old.files (λ files. 2 ^ 28 ≤ length (bytes_at files path))
    → is_bound folder old new (asked krate purpose.Manifest path) ≡ true
unfolding is_bound
long_past folder old new krate path rose large =
    past_by_size (2 ^ 28) (option_map (λ files. length (bytes_at files path)) old.files) old.given new.given rose
    (size_large old.files (2 ^ 28) (λ files. length (bytes_at files path)) large)

-- a bound explains the entry of a build script, or of a file whose sum is compared, of 2 ^ 40 bytes or more
pub script_past : (folder : Folders) (old new : Disk) (krate : Option Kid) (path : List ℕ)
    → RoseBy (2 ^ 40) old.given new.given → IfSome old.files (λ files. 2 ^ 40 ≤ length (bytes_at files path))
    → is_bound folder old new (asked krate purpose.Script path) ≡ true
unfolding is_bound
script_past folder old new krate path rose large =
    past_by_size (2 ^ 40) (option_map (λ files. length (bytes_at files path)) old.files) old.given new.given rose
    (size_large old.files (2 ^ 40) (λ files. length (bytes_at files path)) large)

pub sum_past : (folder : Folders) (old new : Disk) (krate : Option Kid) (path : List ℕ)
    → RoseBy (2 ^ 40) old.given new.given → IfSome old.files (λ files. 2 ^ 40 ≤ length (bytes_at files path))
    → is_bound folder old new (asked krate purpose.Sum path) ≡ true
unfolding is_bound
sum_past folder old new krate path rose large =
    past_by_size (2 ^ 40) (option_map (λ files. length (bytes_at files path)) old.files) old.given new.given rose
    (size_large old.files (2 ^ 40) (λ files. length (bytes_at files path)) large)

-- a bound explains the entry of a folder with which a package lists more than 2 ^ 24 entries
pub list_past : (folder : Folders) (old new : Disk) (krate : Option Kid) (path : List ℕ)
    → RoseBy (2 ^ 24 + 1) old.listed new.listed
    → IfSome old.files (λ files. 2 ^ 24 + 1 ≤ entries_in files (folder krate))
    → is_bound folder old new (asked krate purpose.List path) ≡ true
unfolding is_bound
list_past folder old new krate path rose large =
    past_by_size (2 ^ 24 + 1) (option_map (λ files. entries_in files (folder krate)) old.files) old.listed new.listed
    rose (size_large old.files (2 ^ 24 + 1) (λ files. entries_in files (folder krate)) large)
