-- The calls that failed, added up over files, folders and packages.
use Rattle.std.proofs.Common.{◌≡◌, ◌∙◌, ◌+◌, ◌++◌, ◌∷◌, ◌≤◌, [], ℕ, List, Option, ap, arith, map, refl, sum_by}
use Rattle.std.proofs.lemmas.List.Sums.{sum_by-append}
use Rattle.deny_spec.specs.declared.package.Package.{Package}
use Rattle.deny_spec.specs.declared.package.PackageFile.{PackageFile}
use Rattle.deny_spec.specs.declared.package.Seen.{Seen}
use Rattle.deny_build_walk.specs.Folder as walked
use Rattle.deny_build_walk.specs.declared.folder.NoList.{NoList}
use Rattle.deny_build_walk.specs.declared.folder.NoList.TheVariants.{Crowded, Failed}
use Rattle.deny_build_walk.specs.declared.walk.Unlisted.{Unlisted}
use Rattle.deny_build_scan.specs.Failures.{calls_for, calls_for_files, calls_for_folders, calls_of, failed_calls}
use Rattle.deny_build_scan.specs.private.Folders.{failure_of, folder_unseen}

-- one more item, and the calls that failed for it
counted_more : {T : Type 0} (calls : T → ℕ) (start mid end : ℕ) (xs new : List T) (x : T) → new ≡ xs ++ x ∷ []
    → mid ≤ start + sum_by calls xs → end ≤ mid + calls x → end ≤ start + sum_by calls new
counted_more calls start mid end xs new x is before here =
    let both : sum_by calls new ≡ sum_by calls xs + (0 + calls x) =
    ap (sum_by calls) is ∙ sum_by-append calls xs (x ∷ []) in
    omega (arith, before, here, both)

pub file_counted : (start mid end : ℕ) (files new : List PackageFile) (file : PackageFile) → new ≡ files ++ file ∷ []
    → mid ≤ start + calls_for_files files → end ≤ mid + calls_of file.seen.found
    → end ≤ start + calls_for_files new
file_counted start mid end files new file =
    counted_more (λ (f : PackageFile). calls_of f.seen.found) start mid end files new file

pub package_counted : (start mid end : ℕ) (packages new : List Package) (contents : Package)
    → new ≡ packages ++ contents ∷ [] → mid ≤ start + sum_by calls_for packages → end ≤ mid + calls_for contents
    → end ≤ start + sum_by calls_for new
package_counted start mid end packages new contents =
    counted_more calls_for start mid end packages new contents

-- a folder without a list is shown with the failure of its call
same_calls : (why : NoList) → failed_calls (failure_of why) ≡ walked.failed_calls why
same_calls Failed = refl
same_calls Crowded = refl

pub folders_counted : (folder : List ℕ) (home : Option (List ℕ)) (unlisted : List Unlisted)
    → calls_for_folders (map (folder_unseen folder home) unlisted)
    ≡ sum_by (λ (n : Unlisted). walked.failed_calls n.why) unlisted
folders_counted folder home [] = refl
folders_counted folder home (n ∷ unlisted) =
    let shown : List Seen = map (folder_unseen folder home) unlisted in
    let here : calls_for_folders (folder_unseen folder home n ∷ shown)
    ≡ (0 + failed_calls (failure_of n.why)) + calls_for_folders shown =
    sum_by-append (λ (s : Seen). calls_of s.found) (folder_unseen folder home n ∷ []) shown in
    let there : sum_by (λ (m : Unlisted). walked.failed_calls m.why) (n ∷ unlisted)
    ≡ (0 + walked.failed_calls n.why) + sum_by (λ (m : Unlisted). walked.failed_calls m.why) unlisted =
    sum_by-append (λ (m : Unlisted). walked.failed_calls m.why) (n ∷ []) unlisted in
    omega (arith, here, there, same_calls n.why, folders_counted folder home unlisted)
