use Rattle.std.proofs.Common.{◌≡◌, ◌∙◌, ◌++◌, [], ℕ, Bool, List, Some, ap, append_assoc, arith, map, nat_cmp, refl, subst, true}
use Rattle.std.proofs.Common.{sum_by, sym}
use Rattle.std.specs.Prelude.{Contains, IfSome, nat_eq}
use Rattle.std.specs.Cmp.Lexicographic.{slice_cmp}
use Rattle.std.specs.List.{starts_with}
use Rattle.std.specs.Option.{option_copied}
use Rattle.deny_cfg_build.specs.BuildingView.{building_view}
use Rattle.deny_spec.specs.Paths.{path_cmp}
use Rattle.deny_spec.specs.declared.package.Seen.{Seen}
use Rattle.deny_krates.specs.Crates.{crate_view}
use Rattle.deny_base_lists.specs.Ascending.{Lists}
use Rattle.deny_spec.specs.Crates as crates
use Rattle.deny_spec.specs.Graph.{kid_of}
use Rattle.deny_base_disk.specs.Children.{prefix_of}
use Rattle.deny_base_disk.proofs.PieceLemmas.{later_then}
use Rattle.deny_build_scan.proofs.CallLemmas.{folders_counted}
use Rattle.deny_build_scan.proofs.PackagesLemmas.{caused_next}
use Rattle.deny_build_scan.proofs.WalkLemmas.{few_once, told_all, walk_seen}
use Rattle.deny_build_scan.proofs.WantedLemmas.{walk_wanted}
use Rattle.deny_build_scan.proofs.Zips.{zip_weaker}
use Rattle.deny_build_scan.proofs.package.walk.Goals as goal
use Rattle.deny_build_scan.specs.Failures.{calls_for_folders}
use Rattle.deny_build_scan.specs.Paths.{below}
use Rattle.deny_build_scan.specs.Seen.{IsFileSeen, IsWalkSeen}
use Rattle.deny_build_scan.specs.Why.{IsBecause}
use Rattle.deny_build_scan.specs.declared.order.FilePath.{FilePath}
use Rattle.deny_build_scan.specs.private.Entries.{entries_of_all, gaps_of}
use Rattle.deny_build_scan.specs.private.Folders.{folder_unseen}
use Rattle.deny_build_scan.specs.private.Walks.{IsOfWalk}
use Rattle.deny_base_unread.proofs.AddedLemmas.{added_is, longer_is, longer_then}
use Rattle.deny_base_unread.specs.Added.{IsLonger, added}
use Rattle.deny_base.specs.Unread.{is_unread}
use Rattle.deny_base_unread.specs.View.{view_of}
use Rattle.deny_base.specs.declared.unread.Unread.{Unread}
use Rattle.deny_build_walk.specs.Entries.{HasFewEntries, IsPastBound}
use Rattle.deny_build_walk.specs.Folder.{failed_calls}
use Rattle.deny_build_walk.specs.Walk.{IsFile, IsFolder}
use Rattle.deny_build_walk.specs.declared.folder.NoList.TheVariants.{Crowded}
use Rattle.deny_build_walk.specs.declared.walk.Unlisted.{Unlisted}

-- the entries of the package are those of folders, followed by those of files
own_is : (u0 u1 u2 more : List Unread) → IsLonger u0 u1 → u2 ≡ u1 ++ more → added u0 u2 ≡ added u0 u1 ++ more
own_is u0 u1 u2 more longer noted =
    added_is u0 (added u0 u1 ++ more) u2
    (noted ∙ ap (λ us. us ++ more) (sym longer) ∙ append_assoc u0 (added u0 u1) more)

pub returns-clause-seen : goal.returns-clause-seen
returns-clause-seen g c = λ place folder right.
    let a = c.args in
    let seen = g.D.PackageFiles.seen in
    let start = seen a.disk.now in
    let mid = seen c.walk_package.new.disk in
    let end = seen c.see_files.new.disk in
    let cr = crate_view place a.krate.now in
    let b = building_view a.config.now in
    let home = option_copied a.home in
    let walked = c.in_ok-walked.walked in
    let w = c.in_ok-walked.ensures in
    let f = c.in_ok-contents-2.ensures in
    let first : List Unread = added a.unread.now c.walk_package.new.unread in
    let paths : List (List ℕ) = map (λ (p : FilePath). p.path) c.as_slice-2.result.now in
    let files = c.in_ok-contents-2.field-0 in
    let why = IsBecause folder start end in
    let root : c.folder.result.now ≡ crates.folder cr = c.folder.ensures in
    let git : c.is_git_source.result ≡ crates.is_git_source cr = c.is_git_source.ensures in
    let unlisted : c.in_ok-contents.field-0 ≡ map (folder_unseen (crates.folder cr) home) walked.unlisted =
    c.in_ok-contents.ensures ∙ (λ i. map (folder_unseen (c.folder-2.ensures i) home) (c.as_slice.ensures i)) in
    subst (λ (us : List Unread). IsWalkSeen why start.files b home (is_unread us (Some (kid_of cr))) cr
    (record { script = a.contents.now.script; unlisted = c.in_ok-contents.field-0; files = files }))
    (sym (own_is a.unread.now c.walk_package.new.unread c.see_files.new.unread (entries_of_all b cr paths files)
    w.longer (f.noted place)))
    (subst (λ (ul : List Seen). IsWalkSeen why start.files b home
    (is_unread (first ++ entries_of_all b cr paths files) (Some (kid_of cr))) cr
    (record { script = a.contents.now.script; unlisted = ul; files = files })) (sym unlisted)
    (walk_seen b home cr start mid end c.walk_package.ensures.later c.see_files.ensures.later first w.lists paths files
    folder a.contents.now.script walked.files walked.unlisted w.ordered w.unlisted (w.why folder (right ∙ sym root))
    (subst (λ (r : List ℕ). IfSome start.files (λ fs. (n : Unlisted) → Contains walked.unlisted n → n.why ≡ Crowded
    → IsPastBound (crates.is_git_source cr) r (view_of fs first (Some (kid_of cr))).list fs n.path)) root
    (subst (λ (by_git : Bool). IfSome start.files (λ fs. (n : Unlisted) → Contains walked.unlisted n → n.why ≡ Crowded
    → IsPastBound by_git c.folder.result.now (view_of fs first (Some (kid_of cr))).list fs n.path)) git w.past))
    w.few
    (subst (λ (r : List ℕ). IfSome start.files (λ fs. HasFewEntries (crates.is_git_source cr) r
    (view_of fs first (Some (kid_of cr))).list fs)) root
    (subst (λ (by_git : Bool). IfSome start.files (λ fs. HasFewEntries by_git c.folder.result.now
    (view_of fs first (Some (kid_of cr))).list fs)) git
    (few_once start.files c.is_git_source.result c.folder.result.now (λ fs. (view_of fs first (Some (kid_of cr))).list)
    start mid (map (λ (u : Unread). u.path) first) w.once)))
    (subst (λ (r : List ℕ). IfSome start.files (λ fs. Lists (slice_cmp nat_cmp) (IsFile (crates.is_git_source cr) r
    (view_of fs first (Some (kid_of cr))).list) walked.files)) root
    (subst (λ (by_git : Bool). IfSome start.files (λ fs. Lists (slice_cmp nat_cmp) (IsFile by_git c.folder.result.now
    (view_of fs first (Some (kid_of cr))).list) walked.files)) git w.files))
    (subst (λ (ps : List FilePath). Lists path_cmp (Contains walked.files) (map (λ (p : FilePath). p.path) ps))
    (sym c.as_slice-2.ensures) c.in_ok-paths.ensures)
    (f.seen place folder)))

pub returns-clause-wanted : goal.returns-clause-wanted
returns-clause-wanted g c = λ place u there.
    let a = c.args in
    let seen = g.D.PackageFiles.seen in
    let start = seen a.disk.now in
    let mid = seen c.walk_package.new.disk in
    let end = seen c.see_files.new.disk in
    let cr = crate_view place a.krate.now in
    let b = building_view a.config.now in
    let home = option_copied a.home in
    let walked = c.in_ok-walked.walked in
    let w = c.in_ok-walked.ensures in
    let f = c.in_ok-contents-2.ensures in
    let first : List Unread = added a.unread.now c.walk_package.new.unread in
    let paths : List (List ℕ) = map (λ (p : FilePath). p.path) c.as_slice-2.result.now in
    let files = c.in_ok-contents-2.field-0 in
    let root : c.folder.result.now ≡ crates.folder cr = c.folder.ensures in
    let git : c.is_git_source.result ≡ crates.is_git_source cr = c.is_git_source.ensures in
    let own = own_is a.unread.now c.walk_package.new.unread c.see_files.new.unread (entries_of_all b cr paths files)
    w.longer (f.noted place) in
    let before = c.walk_package.ensures.later in
    let after = c.see_files.ensures.later in
    subst (λ (us : List Unread). IsOfWalk start.files b us cr
    (record { script = a.contents.now.script; unlisted = c.in_ok-contents.field-0; files = files }) u) (sym own)
    (walk_wanted b home cr start mid end before after first w.lists paths files
    (record { script = a.contents.now.script; unlisted = c.in_ok-contents.field-0; files = files }) refl
    (zip_weaker (λ path file. IsFileSeen (IsBecause (λ k. []) mid end) mid.files b home (gaps_of file) cr path file)
    (λ path file. file.path ≡ below (crates.folder cr) path) paths files (λ path file is. is.rest)
    (f.seen place (λ k. [])))
    (λ path in_order. subst (λ (r : List ℕ). starts_with nat_eq path (prefix_of r) ≡ true) root
    (w.below path ((subst (λ (ps : List FilePath). Lists path_cmp (Contains walked.files)
    (map (λ (p : FilePath). p.path) ps)) (sym c.as_slice-2.ensures) c.in_ok-paths.ensures).sound path in_order)))
    (subst (λ (r : List ℕ). IfSome start.files (λ fs. (v : Unread) → Contains first v
    → IsFolder (crates.is_git_source cr) r (view_of fs first (Some (kid_of cr))).list v.path)) root
    (subst (λ (by_git : Bool). IfSome start.files (λ fs. (v : Unread) → Contains first v
    → IsFolder by_git c.folder.result.now (view_of fs first (Some (kid_of cr))).list v.path)) git w.wanted))
    (told_all b home cr start mid end before after first w.lists paths files (λ k. []) start.files walked.files
    (subst (λ (r : List ℕ). IfSome start.files (λ fs. Lists (slice_cmp nat_cmp) (IsFile (crates.is_git_source cr) r
    (view_of fs first (Some (kid_of cr))).list) walked.files)) root
    (subst (λ (by_git : Bool). IfSome start.files (λ fs. Lists (slice_cmp nat_cmp) (IsFile by_git c.folder.result.now
    (view_of fs first (Some (kid_of cr))).list) walked.files)) git w.files))
    (subst (λ (ps : List FilePath). Lists path_cmp (Contains walked.files) (map (λ (p : FilePath). p.path) ps))
    (sym c.as_slice-2.ensures) c.in_ok-paths.ensures))
    u (subst (λ (us : List Unread). Contains us u) own there))

pub returns-clause-faults : goal.returns-clause-faults
returns-clause-faults g c =
    let home = option_copied c.args.home in
    let walked = c.in_ok-walked.walked in
    let shown : c.in_ok-contents.field-0 ≡ map (folder_unseen c.folder-2.result.now home) walked.unlisted =
    c.in_ok-contents.ensures ∙ ap (map (folder_unseen c.folder-2.result.now home)) c.as_slice.ensures in
    let calls : calls_for_folders c.in_ok-contents.field-0
    ≡ sum_by (λ (n : Unlisted). failed_calls n.why) walked.unlisted =
    ap calls_for_folders shown ∙ folders_counted c.folder-2.result.now home walked.unlisted in
    omega (arith, c.in_ok-walked.ensures.faults, c.in_ok-contents-2.ensures.faults, calls)

pub returns-clause-longer : goal.returns-clause-longer
returns-clause-longer g c =
    longer_then c.args.unread.now c.walk_package.new.unread c.see_files.new.unread c.in_ok-walked.ensures.longer
    (longer_is c.walk_package.new.unread _ c.see_files.new.unread (c.in_ok-contents-2.ensures.noted 0))

pub returns-clause-caused : goal.returns-clause-caused
returns-clause-caused g c = λ place folder right.
    let seen = g.D.PackageFiles.seen in
    let root : c.folder.result.now ≡ crates.folder (crate_view place c.args.krate.now) = c.folder.ensures in
    caused_next folder (seen c.args.disk.now) (seen c.walk_package.new.disk) (seen c.see_files.new.disk)
    c.args.unread.now c.walk_package.new.unread c.see_files.new.unread c.walk_package.ensures.later
    c.see_files.ensures.later c.in_ok-walked.ensures.longer
    (longer_is c.walk_package.new.unread _ c.see_files.new.unread (c.in_ok-contents-2.ensures.noted 0))
    (c.in_ok-walked.ensures.caused folder (right ∙ sym root)) (c.in_ok-contents-2.ensures.caused folder)

pub returns-in_err-contents-2-clause-later : goal.returns-in_err-contents-2-clause-later
returns-in_err-contents-2-clause-later g c = later_then _ _ _ c.walk_package.ensures.later c.see_files.ensures.later

pub returns-clause-later : goal.returns-clause-later
returns-clause-later g c = later_then _ _ _ c.walk_package.ensures.later c.see_files.ensures.later
