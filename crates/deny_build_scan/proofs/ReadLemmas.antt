-- What reading one file gives, and its entry where it fails.
use Rattle.std.proofs.Common.{◌≡◌, ◌∙◌, ◌∷◌, ◌++◌, ◌≤◌, ◌^◌, [], ℕ, Bool, Err, IfOk, List, Ok, OnOk, Option}
use Rattle.std.proofs.Common.{Result, ap, arith, length, refl, subst, sym, true, ◌+◌}
use Rattle.deny_build_file.specs.CheckEnd as ends
use Rattle.deny_build_file.specs.declared.check_end.CheckEnd.{CheckEnd}
use Rattle.deny_build_scan.specs.Failures.{calls_of, failed_calls}
use Rattle.std.specs.Prelude.{IfSome}
use Rattle.deny_base.specs.declared.span.Kid.{Kid}
use Rattle.deny_spec.specs.declared.package.Failure.{Failure}
use Rattle.deny_spec.specs.declared.package.Failure.TheVariants.{Long, Unreadable}
use Rattle.deny_spec.specs.declared.package.Found.{Found}
use Rattle.deny_spec.specs.declared.package.Found.TheVariants.{Failed}
use Rattle.deny_base_lists.specs.declared.memory.NoMemory.{NoMemory}
use Rattle.deny_base_disk.specs.Count.{RoseBy}
use Rattle.deny_base_disk.specs.Disk.{Disk, FailedAt, Files, IsLater, bytes_at}
use Rattle.deny_base_disk.specs.declared.disk.Call.TheVariants.{Read}
use Rattle.deny_build_scan.specs.Seen.{IsKindSeen, IsSumSeen}
use Rattle.deny_build_scan.specs.Seen.IsKindSeen.{unknown}
use Rattle.deny_build_scan.specs.Seen.IsSumSeen.{failed}
use Rattle.deny_build_scan.specs.Why.{IsBecause}
use Rattle.deny_build_scan.specs.Why.CanFail.{file, header, long_file, long_script, script}
use Rattle.deny_build_scan.specs.private.Entries.{IsSummed, is_failed, noted}
use Rattle.deny_base_unread.proofs.BoundLemmas.{script_past, sum_past}
use Rattle.deny_base_unread.proofs.CauseLemmas.{caused_by_bound, caused_by_call}
use Rattle.deny_base_unread.proofs.ManifestLemmas.{caused_added}
use Rattle.deny_base_unread.specs.Added.{added}
use Rattle.deny_base_unread.specs.Bound.{Folders, is_bound}
use Rattle.deny_base_unread.specs.Causes.{AreCaused}
use Rattle.deny_base.specs.Unread.{asked}
use Rattle.deny_base.specs.declared.purpose.Purpose.{Purpose}
use Rattle.deny_base.specs.declared.purpose.Purpose.TheVariants as purpose
use Rattle.deny_base.specs.declared.unread.Unread.{Unread}

-- the entry of a failure is appended
pub failure_noted : (u : Unread) (us vs : List Unread) (failure : Failure) (result : Result Found NoMemory)
    → IfOk result (λ found. found ≡ Failed failure) → OnOk result (vs ≡ us ++ u ∷ [])
    → IfOk result (λ found. vs ≡ us ++ noted u found)
failure_noted u us vs failure (Ok found) is behind = behind ∙ ap (λ (f : Found). us ++ noted u f) (sym is)
failure_noted u us vs failure (Err end) is behind = tt

-- the calls that failed where a check of a file ended as a failure
pub failure_counted : (before now : ℕ) (end : CheckEnd) (failure : Failure) (result : Result Found NoMemory)
    → ends.failed_calls end ≡ failed_calls failure → now ≤ before + ends.failed_calls end
    → IfOk result (λ found. found ≡ Failed failure) → IfOk result (λ found. now ≤ before + calls_of found)
failure_counted before now end failure (Ok found) same most is =
    subst (λ (f : Found). now ≤ before + calls_of f) (sym is) (omega (arith, same, most))
failure_counted before now end failure (Err error) same most is = tt

module _ (folder : Folders) (old new : Disk) (krate : Option Kid) (path : List ℕ) where
  because_unreadable : (p : Purpose) → IsSummed p → FailedAt old new Read path
      → IsBecause folder old new (asked krate p path) Unreadable
  because_unreadable purpose.Manifest is failed_at = absurd is
  because_unreadable purpose.Script is failed_at = record { can = script; cause = failed_at }
  because_unreadable purpose.List is failed_at = absurd is
  because_unreadable purpose.Header is failed_at = absurd is
  because_unreadable purpose.Sum is failed_at = record { can = file; cause = failed_at }

  past : (p : Purpose) → IsSummed p → RoseBy (2 ^ 40) old.given new.given
      → IfSome old.files (λ files. 2 ^ 40 ≤ length (bytes_at files path))
      → is_bound folder old new (asked krate p path) ≡ true
  past purpose.Manifest is rose large = absurd is
  past purpose.Script is rose large = script_past folder old new krate path rose large
  past purpose.List is rose large = absurd is
  past purpose.Header is rose large = absurd is
  past purpose.Sum is rose large = sum_past folder old new krate path rose large

  because_long : (p : Purpose) → IsSummed p → is_bound folder old new (asked krate p path) ≡ true
      → IsBecause folder old new (asked krate p path) Long
  because_long purpose.Manifest is bound = absurd is
  because_long purpose.Script is bound = record { can = long_script; cause = bound }
  because_long purpose.List is bound = absurd is
  because_long purpose.Header is bound = absurd is
  because_long purpose.Sum is bound = record { can = long_file; cause = bound }

  sum_failed : (p : Purpose) (told : Option Files) (found : Found) (failure : Failure)
      → IsBecause folder old new (asked krate p path) failure → found ≡ Failed failure
      → IsSumSeen (IsBecause folder old new (asked krate p path)) told path (is_failed found) found
  sum_failed p told found failure because is =
      subst (λ (f : Found). IsSumSeen (IsBecause folder old new (asked krate p path)) told path (is_failed f) f)
      (sym is) (failed refl failure because)

  pub sum_unreadable : (p : Purpose) (told : Option Files) (found : Found) → IsSummed p → FailedAt old new Read path
      → found ≡ Failed Unreadable
      → IsSumSeen (IsBecause folder old new (asked krate p path)) told path (is_failed found) found
  sum_unreadable p told found summed failed_at =
      sum_failed p told found Unreadable (because_unreadable p summed failed_at)

  pub sum_long : (p : Purpose) (told : Option Files) (found : Found) → IsSummed p
      → RoseBy (2 ^ 40) old.given new.given → IfSome old.files (λ files. 2 ^ 40 ≤ length (bytes_at files path))
      → found ≡ Failed Long
      → IsSumSeen (IsBecause folder old new (asked krate p path)) told path (is_failed found) found
  sum_long p told found summed rose large =
      sum_failed p told found Long (because_long p summed (past p summed rose large))

  pub caused_unreadable : (p : Purpose) (us vs : List Unread) → IsSummed p → FailedAt old new Read path
      → vs ≡ us ++ asked krate p path ∷ [] → AreCaused folder old new (added us vs)
  caused_unreadable p us vs summed failed_at is =
      caused_added folder old new us vs (asked krate p path ∷ []) is (by_call p summed)
    where
      by_call : (q : Purpose) → IsSummed q → AreCaused folder old new (asked krate q path ∷ [])
      by_call purpose.Manifest is = absurd is
      by_call purpose.Script is = caused_by_call folder old new (asked krate purpose.Script path) failed_at
      by_call purpose.List is = absurd is
      by_call purpose.Header is = absurd is
      by_call purpose.Sum is = caused_by_call folder old new (asked krate purpose.Sum path) failed_at

  pub caused_long : (p : Purpose) (us vs : List Unread) → IsSummed p → IsLater old new
      → RoseBy (2 ^ 40) old.given new.given → IfSome old.files (λ files. 2 ^ 40 ≤ length (bytes_at files path))
      → vs ≡ us ++ asked krate p path ∷ [] → AreCaused folder old new (added us vs)
  caused_long p us vs summed later rose large is = caused_added folder old new us vs (asked krate p path ∷ []) is
      (caused_by_bound folder old new (asked krate p path) later (past p summed rose large))

  pub kind_unreadable : (told : Option Files) (no_archives : Bool) (found : Found) → FailedAt old new Read path
      → found ≡ Failed Unreadable
      → IsKindSeen (IsBecause folder old new (asked krate purpose.Header path)) told no_archives path
      (is_failed found) found
  kind_unreadable told no_archives found failed_at is =
      subst (λ (f : Found). IsKindSeen (IsBecause folder old new (asked krate purpose.Header path)) told no_archives
      path (is_failed f) f) (sym is) (unknown refl Unreadable (record { can = header; cause = failed_at }))
