-- The entries for what could not be read of manifests and of packages, put together: each part can be told from the
-- other by its purposes, and says what it said alone.
use Rattle.std.proofs.Common.{◌≡◌, ◌++◌, ℕ, Bool, false, true, not, List, Option, None, Some, ap, subst, inl, inr}
use Rattle.std.specs.Prelude.{Contains}
use Rattle.std.specs.List.{list_any}
use Rattle.std.specs.List.Sorted.{IsStrictlySortedBy}
use Rattle.std.specs.Ordering.{eq_by_cmp}
use Rattle.std.proofs.lemmas.List.Elements.{Contains-append_cases, Contains-append_left, Contains-append_right}
use Rattle.std.proofs.lemmas.List.Kept.{IsStrictlySortedBy-filter}
use Rattle.deny_base_lists.specs.Ascending.{Lists}
use Rattle.deny_base_lists.proofs.Booleans.{tests_agree}
use Rattle.deny_base_lists.proofs.Members.{Contains-filter, Contains-from_filter, any_from, any_passes, no_member}
use Rattle.deny_base_lists.proofs.Members.{passes_filter, empty_from_no_member}
use Rattle.deny_base_lists.proofs.Sorted.{one_ascending}
use Rattle.deny_base.specs.declared.span.Kid.{Kid}
use Rattle.deny_spec.specs.Building.{Building}
use Rattle.deny_spec.specs.declared.package.Failure.{Failure}
use Rattle.deny_spec.specs.declared.package.Failure.TheVariants.{Crowded, Long, Unlisted, Unreadable}
use Rattle.deny_spec.specs.declared.package.Package.{Package}
use Rattle.deny_spec.specs.Graph.{Crate, Graph, kid_of}
use Rattle.deny_base_disk.specs.Disk.{Disk, Files, IsLater}
use Rattle.deny_build_scan.proofs.Among.{AreSameEntries, seen_weaker, wanted_among}
use Rattle.deny_build_scan.specs.Seen.{ArePackagesSeenBy}
use Rattle.deny_build_scan.specs.Wanted.{IsWantedOf}
use Rattle.deny_build_scan.specs.Wanted.IsWantedOf.{by_folder, by_header, by_script, by_sum}
use Rattle.deny_build_scan.specs.Why.{HasCause, IsBecause, IsOfPurpose}
use Rattle.deny_rules.specs.Packages.{AreSeenBy, HaveCauses}
use Rattle.deny_spans.proofs.CountLemmas.{caused_listed}
use Rattle.deny_spans.specs.Wanted.{AreWanted, IsWanted}
use Rattle.deny_spans.specs.Wanted.IsWanted.{by_crate, by_workspace}
use Rattle.deny_base_unread.proofs.BoundLemmas.{bound_wider}
use Rattle.deny_base_unread.proofs.CauseLemmas.{caused_then}
use Rattle.deny_base_disk.proofs.PieceLemmas.{later_same}
use Rattle.deny_base_unread.proofs.Later.{failed_wider}
use Rattle.deny_base.proofs.UnreadEqual.{unread_cmp-total}
use Rattle.deny_base_unread.specs.Bound.{Folders}
use Rattle.deny_base_unread.specs.Causes.{AreCaused}
use Rattle.deny_base.specs.Purpose.{call_for}
use Rattle.deny_base.specs.Unread.{asked, is_unread, unread_cmp}
use Rattle.deny_base.specs.declared.purpose.Purpose.{Purpose}
use Rattle.deny_base.specs.declared.purpose.Purpose.TheVariants as purpose
use Rattle.deny_base.specs.declared.unread.Unread.{Unread}
use Rattle.deny_gate.specs.Unread.{is_for_manifest, of_manifests, of_packages}

abbrev pub for_manifest : Unread → Bool
for_manifest u = is_for_manifest u.purpose

-- ---- what an entry is for

manifest_wanted : (g : Graph) (u : Unread) → IsWanted g u → for_manifest u ≡ true
manifest_wanted g u (by_crate c member own is) = ap for_manifest is
manifest_wanted g u (by_workspace is) = ap for_manifest is

pub all_for_manifest : (g : Graph) (us : List Unread) → AreWanted g us → (u : Unread) → Contains us u
    → for_manifest u ≡ true
all_for_manifest g us wanted u at = manifest_wanted g u (wanted u at)

package_wanted : (told : Option Files) (b : Building) (reached : Crate → Bool) (g : Graph) (us : List Unread)
    (c : Crate) (contents : Package) (u : Unread) → IsWantedOf told b reached g us c contents u
    → for_manifest u ≡ false
package_wanted told b reached g us c contents u (by_script target asks is) = ap for_manifest is
package_wanted told b reached g us c contents u (by_folder path walked lies is) = ap for_manifest is
package_wanted told b reached g us c contents u (by_header path file is) = ap for_manifest is
package_wanted told b reached g us c contents u (by_sum path sum file is) = ap for_manifest is

pub none_for_manifest : (told : Option Files) (building : Option Building) (home : Option (List ℕ)) (g : Graph)
    (us : List Unread) (packages : List Package) → AreSeenBy told building home g us packages
    → (u : Unread) → Contains us u → for_manifest u ≡ false
none_for_manifest told None home g us packages seen u at =
    absurd (no_member u (subst (λ (vs : List Unread). Contains vs u) seen.0 at))
none_for_manifest told (Some b) home g us packages seen u at =
    let is = seen.wanted u at in
    package_wanted told b seen.reached g us is.crate _ u is.wanted

-- ---- a longer time

-- the cause of a failure within a span of time is one in a longer time
cause_wider : (folder : Folders) (old between new : Disk) (u : Unread) (failure : Failure) → IsLater old between
    → HasCause folder between new u failure → HasCause folder old new u failure
cause_wider folder old between new u Unreadable later failed =
    failed_wider old between new new (call_for u.purpose) u.path later (later_same new) failed
cause_wider folder old between new u Long later bound =
    bound_wider folder old between new new u later (later_same new) bound
cause_wider folder old between new u Unlisted later failed =
    failed_wider old between new new (call_for u.purpose) u.path later (later_same new) failed
cause_wider folder old between new u Crowded later bound =
    bound_wider folder old between new new u later (later_same new) bound

pub because_wider : (folder : Folders) (old between new : Disk) → IsLater old between → (u : Unread)
    (failure : Failure) → IsBecause folder between new u failure → IsBecause folder old new u failure
because_wider folder old between new later u failure is = record {
  can = is.can;
  cause = cause_wider folder old between new u failure later is.cause;
}

-- ---- the two parts

module _ (manifests packages joined : List Unread) (listed : Lists unread_cmp (Contains (manifests ++ packages)) joined)
    (mine : (u : Unread) → Contains manifests u → for_manifest u ≡ true)
    (others : (u : Unread) → Contains packages u → for_manifest u ≡ false) where
  of_first : (u : Unread) → Contains (of_manifests joined) u → Contains manifests u
  of_first u at =
      let passes : for_manifest u ≡ true = passes_filter for_manifest joined u at in
      elim (Contains-append_cases manifests packages u
      (listed.sound u (Contains-from_filter for_manifest joined u at).0)) [
        | inl here ↦ here
        | inr there ↦ absurd (cc (passes, others u there))
      ]

  to_first : (u : Unread) → Contains manifests u → Contains (of_manifests joined) u
  to_first u at = Contains-filter for_manifest joined u
      (listed.whole u (Contains-append_left manifests packages u at)) (mine u at)

  pub manifests_are : IsStrictlySortedBy unread_cmp manifests → of_manifests joined ≡ manifests
  manifests_are ascending = one_ascending unread_cmp-total (of_manifests joined) manifests
      (IsStrictlySortedBy-filter unread_cmp for_manifest joined listed.ascending) ascending of_first to_first

  of_second : (u : Unread) → Contains (of_packages joined) u → Contains packages u
  of_second u at =
      let passes : not (for_manifest u) ≡ true = passes_filter (λ v. not (for_manifest v)) joined u at in
      elim (Contains-append_cases manifests packages u
      (listed.sound u (Contains-from_filter (λ v. not (for_manifest v)) joined u at).0)) [
        | inl here ↦ let fails : not (for_manifest u) ≡ false = ap not (mine u here) in absurd (cc (passes, fails))
        | inr there ↦ there
      ]

  to_second : (u : Unread) → Contains packages u → Contains (of_packages joined) u
  to_second u at = Contains-filter (λ v. not (for_manifest v)) joined u
      (listed.whole u (Contains-append_right manifests packages u at)) (ap not (others u at))

  same_unread : (krate : Option Kid) (purpose : Purpose) (path : List ℕ)
      → is_unread packages krate purpose path ≡ is_unread (of_packages joined) krate purpose path
  unfolding is_unread
  same_unread krate purpose path =
      let test : Unread → Bool = λ u. eq_by_cmp unread_cmp (asked krate purpose path) u in
      tests_agree (list_any test packages) (list_any test (of_packages joined))
      (λ is.
      let one = any_passes test packages is in
      any_from test (of_packages joined) one.one (to_second one.one one.member) one.passes)
      (λ is.
      let one = any_passes test (of_packages joined) is in
      any_from test packages one.one (of_second one.one one.member) one.passes)

  same_entries : (g : Graph) → AreSameEntries g packages (of_packages joined)
  same_entries g c member = record {
    script = λ path. same_unread (Some (kid_of c)) purpose.Script path;
    list = λ path. same_unread (Some (kid_of c)) purpose.List path;
    header = λ path. same_unread (Some (kid_of c)) purpose.Header path;
    sum = λ path. same_unread (Some (kid_of c)) purpose.Sum path;
  }

  -- packages were seen by the entries that are for them
  pub seen_by_joined : (told : Option Files) (building : Option Building) (home : Option (List ℕ)) (g : Graph)
      (contents : List Package) → AreSeenBy told building home g packages contents
      → AreSeenBy told building home g (of_packages joined) contents
  seen_by_joined told None home g contents seen = (
    empty_from_no_member (of_packages joined) (λ u at.
        no_member u (subst (λ (vs : List Unread). Contains vs u) seen.0 (of_second u at))),
    seen.1,
  )
  seen_by_joined told (Some b) home g contents seen = record {
    reached = seen.reached;
    reports = seen.reports;
    seen = seen_weaker IsOfPurpose IsOfPurpose told b seen.reached home g packages (of_packages joined) contents
        (λ u failure is. is) (same_entries g) seen.seen;
    wanted = λ u at. wanted_among told b seen.reached g packages (of_packages joined) contents packages
        (same_entries g) seen.wanted u (of_second u at);
  }

  -- the entries for packages have the same causes, from before manifests were read
  pub causes_by_joined : (old between new : Disk) (building : Option Building) (home : Option (List ℕ)) (g : Graph)
      (contents : List Package) → IsLater old between → HaveCauses between new building home g packages contents
      → HaveCauses old new building home g (of_packages joined) contents
  causes_by_joined old between new None home g contents later causes = tt
  causes_by_joined old between new (Some b) home g contents later causes = record {
    reached = causes.reached;
    reports = causes.reports;
    because = λ folder are.
        subst (λ (told : Option Files). ArePackagesSeenBy (IsBecause folder old new) told b causes.reached home g
        (of_packages joined) contents) later.files
        (seen_weaker (IsBecause folder between new) (IsBecause folder old new) between.files b causes.reached home g
        packages (of_packages joined) contents (because_wider folder old between new later) (same_entries g)
        (causes.because folder are));
  }

  pub caused_by_joined : (folder : Folders) (old between new : Disk) → IsLater old between → IsLater between new
      → AreCaused folder old between manifests → AreCaused folder between new packages
      → AreCaused folder old new joined
  caused_by_joined folder old between new before after first second =
      caused_listed folder old new (manifests ++ packages) joined listed
      (caused_then folder old between new manifests packages before after first second)
