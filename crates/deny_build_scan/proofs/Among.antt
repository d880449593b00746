-- What was seen by some entries was also seen by others that give the same gaps, and by any weaker reason of
-- failures.
use Rattle.std.proofs.Common.{◌≡◌, ◌∙◌, ℕ, Bool, List, Option, None, Some, ap, subst, sym}
use Rattle.std.specs.Prelude.{◌↔◌, Contains, IfSome, not}
use Rattle.std.proofs.Math.Path.{fun_ext}
use Rattle.deny_spec.specs.Building.{Building}
use Rattle.deny_spec.specs.declared.package.Failure.{Failure}
use Rattle.deny_spec.specs.declared.package.Found.{Found}
use Rattle.deny_spec.specs.declared.package.Package.{Package}
use Rattle.deny_spec.specs.declared.package.PackageFile.{PackageFile}
use Rattle.deny_spec.specs.declared.package.Seen.{Seen}
use Rattle.deny_spec_report.specs.BuildScripts.{used}
use Rattle.deny_spec_report.specs.PackageFiles.{ByExtension, ByGlob, ByHeader, ByPath, BySum, Step, is_decided_by}
use Rattle.deny_spec_report.specs.PackageFiles.{step_of}
use Rattle.deny_spec.specs.Crates.{folder, is_git_source}
use Rattle.deny_spec.specs.Graph.{Crate, Graph, Target, kid_of}
use Rattle.deny_base_disk.specs.Children.{children}
use Rattle.deny_base_disk.specs.Disk.{Files}
use Rattle.deny_base_disk.specs.declared.disk.Entry.{Entry}
use Rattle.deny_build_scan.proofs.Zips.{zip_each, zip_weaker}
use Rattle.deny_build_scan.specs.Seen.{AreBoth, ArePackagesSeenBy, Gaps, IsFileSeen, IsFolderUnseen, IsFoundBy}
use Rattle.deny_build_scan.specs.Seen.{IsKindSeen, IsPackageSeenBy, IsScriptSeen, IsSumSeen, IsWalkSeen, of_crate}
use Rattle.deny_build_scan.specs.Seen.{script_asked}
use Rattle.deny_build_scan.specs.Seen.IsKindSeen.{known, unknown}
use Rattle.deny_build_scan.specs.Seen.IsSumSeen.{failed, taken}
use Rattle.deny_build_scan.specs.Wanted.{AreWantedPackages, IsFileOf, IsWantedOf}
use Rattle.deny_build_scan.specs.Wanted.IsWantedOf.{by_folder, by_header, by_script, by_sum}
use Rattle.deny_build_scan.specs.Why.{Why}
use Rattle.deny_base.specs.Unread.{asked, is_unread}
use Rattle.deny_base_unread.specs.View.{unless, view_by, view_of}
use Rattle.deny_base.specs.declared.purpose.Purpose.{Purpose}
use Rattle.deny_base.specs.declared.purpose.Purpose.TheVariants as purpose
use Rattle.deny_base.specs.declared.unread.Unread.{Unread}
use Rattle.deny_build_walk.specs.Entries.{HasFewEntries, IsPastBound}
use Rattle.deny_build_walk.specs.Walk.{IsFile, IsFolder}

-- two tests agree on what was not read of a package
pub record AreSameGaps (one other : Gaps) : Type 0 where
  pub script : (path : List ℕ) → one purpose.Script path ≡ other purpose.Script path
  pub list : (path : List ℕ) → one purpose.List path ≡ other purpose.List path
  pub header : (path : List ℕ) → one purpose.Header path ≡ other purpose.Header path
  pub sum : (path : List ℕ) → one purpose.Sum path ≡ other purpose.Sum path

-- the lists of a view depend on the entries for folders alone
pub same_lists : (files : Files) (one other : Gaps)
    → ((path : List ℕ) → one purpose.List path ≡ other purpose.List path)
    → (view_by files one).list ≡ (view_by files other).list
unfolding view_by
same_lists files one other same = fun_ext (λ path. ap (λ b. unless b (children files path)) (same path))

module _ (why weak : Why) (weaker : (u : Unread) (failure : Failure) → why u failure → weak u failure)
    (told : Option Files) (c : Crate) where
  pub sum_weaker : (p : Purpose) (path : List ℕ) (a b : Bool) → a ≡ b → (found : Found)
      → IsSumSeen (of_crate why c p path) told path a found → IsSumSeen (of_crate weak c p path) told path b found
  sum_weaker p path a b same _ (taken read sum is short) = taken (sym same ∙ read) sum is short
  sum_weaker p path a b same _ (failed gap failure because) =
      failed (sym same ∙ gap) failure (weaker (asked (Some (kid_of c)) p path) failure because)

  kind_weaker : (no_archives : Bool) (path : List ℕ) (a b : Bool) → a ≡ b → (found : Found)
      → IsKindSeen (of_crate why c purpose.Header path) told no_archives path a found
      → IsKindSeen (of_crate weak c purpose.Header path) told no_archives path b found
  kind_weaker no_archives path a b same _ (known read kind is) = known (sym same ∙ read) kind is
  kind_weaker no_archives path a b same _ (unknown gap failure because) =
      unknown (sym same ∙ gap) failure (weaker (asked (Some (kid_of c)) purpose.Header path) failure because)

  pub found_weaker : (no_archives : Bool) (one other : Gaps) (path : List ℕ) (step : Step) (found : Found)
      → one purpose.Header path ≡ other purpose.Header path → one purpose.Sum path ≡ other purpose.Sum path
      → IsFoundBy (of_crate why c) told no_archives one path step found
      → IsFoundBy (of_crate weak c) told no_archives other path step found
  found_weaker no_archives one other path (ByPath span) found header sum is = is
  found_weaker no_archives one other path ByGlob found header sum is = is
  found_weaker no_archives one other path (BySum wanted) found header sum is =
      sum_weaker purpose.Sum path (one purpose.Sum path) (other purpose.Sum path) sum found is
  found_weaker no_archives one other path ByExtension found header sum is = is
  found_weaker no_archives one other path ByHeader found header sum is =
      kind_weaker no_archives path (one purpose.Header path) (other purpose.Header path) header found is

  module _ (b : Building) (home : Option (List ℕ)) where
    pub file_weaker : (one other : Gaps) (path : List ℕ) (file : PackageFile)
        → one purpose.Header path ≡ other purpose.Header path → one purpose.Sum path ≡ other purpose.Sum path
        → IsFileSeen why told b home one c path file → IsFileSeen weak told b home other c path file
    file_weaker one other path file header sum is = record {
      rest = is.rest;
      globs = is.globs;
      shown = is.shown;
      found = found_weaker (not b.with_archives) one other path (step_of b (used b c) file.path (is_decided_by file))
          file.seen.found header sum is.found;
    }

    lists_same : (P : Files → (List ℕ → Option (List Entry)) → Type 0) (told : Option Files) (one other : Gaps)
        → ((path : List ℕ) → one purpose.List path ≡ other purpose.List path)
        → IfSome told (λ files. P files (view_by files one).list)
        → IfSome told (λ files. P files (view_by files other).list)
    lists_same P None one other same is = tt
    lists_same P (Some files) one other same is =
        subst (λ (list : List ℕ → Option (List Entry)). P files list) (same_lists files one other same) is

    folder_weaker : (one other : Gaps) → ((path : List ℕ) → one purpose.List path ≡ other purpose.List path)
        → (path : List ℕ) (seen : Seen) → IsFolderUnseen why told home one c path seen
        → IsFolderUnseen weak told home other c path seen
    folder_weaker one other same path seen is = record {
      shown = is.shown;
      failure = is.failure;
      found = is.found;
      because = weaker (asked (Some (kid_of c)) purpose.List path) is.failure is.because;
      past = λ crowds. lists_same (λ files list. IsPastBound (is_git_source c) (folder c) list files path) told one
          other same (is.past crowds);
    }

    pub walk_weaker : (one other : Gaps) (contents : Package)
        → ((path : List ℕ) → one purpose.List path ≡ other purpose.List path)
        → ((path : List ℕ) → one purpose.Header path ≡ other purpose.Header path)
        → ((path : List ℕ) → one purpose.Sum path ≡ other purpose.Sum path)
        → IsWalkSeen why told b home one c contents → IsWalkSeen weak told b home other c contents
    walk_weaker one other contents list header sum is = record {
      folders = is.folders;
      missing = record {
        ascending = is.missing.ascending;
        whole = λ path gap. is.missing.whole path (list path ∙ gap);
        sound = λ path there. sym (list path) ∙ is.missing.sound path there;
      };
      unlisted = zip_weaker (IsFolderUnseen why told home one c) (IsFolderUnseen weak told home other c) is.folders
          contents.unlisted (folder_weaker one other list) is.unlisted;
      paths = is.paths;
      ordered = is.ordered;
      all = lists_same (λ files lists. (path : List ℕ) → Contains is.paths path
          ↔ IsFile (is_git_source c) (folder c) lists path) told one other list is.all;
      files = zip_weaker (IsFileSeen why told b home one c) (IsFileSeen weak told b home other c) is.paths
          contents.files (λ path file. file_weaker one other path file (header path) (sum path)) is.files;
      most = is.most;
      few = lists_same (λ files lists. HasFewEntries (is_git_source c) (folder c) lists files) told one other list
          is.few;
    }

    script_weaker : (one other : Gaps) (target : Option Target) (seen : Option Seen) → AreSameGaps one other
        → AreBoth (IsScriptSeen why told home one c) target seen
        → AreBoth (IsScriptSeen weak told home other c) target seen
    script_weaker one other None None same is = tt
    script_weaker one other None (Some seen) same is = absurd is
    script_weaker one other (Some target) None same is = absurd is
    script_weaker one other (Some target) (Some seen) same is = record {
      shown = is.shown;
      found = sum_weaker purpose.Script target.src_path (one purpose.Script target.src_path)
          (other purpose.Script target.src_path) (same.script target.src_path) seen.found is.found;
    }

    pub package_weaker : (reached : Crate → Bool) (g : Graph) (one other : Gaps) (contents : Package)
        → AreSameGaps one other → IsPackageSeenBy why told b reached home g one c contents
        → IsPackageSeenBy weak told b reached home g other c contents
    package_weaker reached g one other contents same is = record {
      script = script_weaker one other (script_asked b g reached c) contents.script same is.script;
      walked = λ yes. walk_weaker one other contents same.list same.header same.sum (is.walked yes);
      not_walked = is.not_walked;
    }

-- two lists of entries agree on what was not read of the packages of a graph
abbrev pub AreSameEntries : Graph → List Unread → List Unread → Type 0
AreSameEntries g us vs = (c : Crate) → Contains g.crates c
    → AreSameGaps (is_unread us (Some (kid_of c))) (is_unread vs (Some (kid_of c)))

pub seen_weaker : (why weak : Why) (told : Option Files) (b : Building) (reached : Crate → Bool)
    (home : Option (List ℕ)) (g : Graph) (us vs : List Unread) (packages : List Package)
    → ((u : Unread) (failure : Failure) → why u failure → weak u failure) → AreSameEntries g us vs
    → ArePackagesSeenBy why told b reached home g us packages
    → ArePackagesSeenBy weak told b reached home g vs packages
seen_weaker why weak told b reached home g us vs packages weaker same =
    zip_each (λ c contents. IsPackageSeenBy why told b reached home g (is_unread us (Some (kid_of c))) c contents)
    (λ c contents. IsPackageSeenBy weak told b reached home g (is_unread vs (Some (kid_of c))) c contents)
    g.crates packages
    (λ c contents holds. package_weaker why weak weaker told c b home reached g (is_unread us (Some (kid_of c)))
    (is_unread vs (Some (kid_of c))) contents (same c holds))

-- ---- what is wanted

module _ (told : Option Files) (b : Building) (us vs : List Unread) (c : Crate)
    (same : (path : List ℕ) → is_unread us (Some (kid_of c)) purpose.List path
    ≡ is_unread vs (Some (kid_of c)) purpose.List path) where
  pub lists_among : (P : (List ℕ → Option (List Entry)) → Type 0) (told : Option Files)
      → IfSome told (λ files. P (view_of files us (Some (kid_of c))).list)
      → IfSome told (λ files. P (view_of files vs (Some (kid_of c))).list)
  unfolding view_of
  lists_among P None is = tt
  lists_among P (Some files) is = subst (λ (list : List ℕ → Option (List Entry)). P list)
      (same_lists files (is_unread us (Some (kid_of c))) (is_unread vs (Some (kid_of c))) same) is

  pub file_among : (contents : Package) (path : List ℕ) (step : Step) → IsFileOf told b us c contents path step
      → IsFileOf told b vs c contents path step
  file_among contents path step is = record {
    file = is.file;
    member = is.member;
    rest = is.rest;
    lies = lists_among (λ list. IsFile (is_git_source c) (folder c) list path) told is.lies;
    decides = is.decides;
  }

  pub wanted_of_among : (reached : Crate → Bool) (g : Graph) (contents : Package) (u : Unread)
      → IsWantedOf told b reached g us c contents u → IsWantedOf told b reached g vs c contents u
  wanted_of_among reached g contents u (by_script target asks is) = by_script target asks is
  wanted_of_among reached g contents u (by_folder path walked lies is) = by_folder path walked
      (lists_among (λ list. IsFolder (is_git_source c) (folder c) list path) told lies) is
  wanted_of_among reached g contents u (by_header path file is) =
      by_header path (file_among contents path ByHeader file) is
  wanted_of_among reached g contents u (by_sum path sum file is) =
      by_sum path sum (file_among contents path (BySum sum) file) is

pub wanted_among : (told : Option Files) (b : Building) (reached : Crate → Bool) (g : Graph) (us vs : List Unread)
    (packages : List Package) (ws : List Unread) → AreSameEntries g us vs
    → AreWantedPackages told b reached g us packages ws → AreWantedPackages told b reached g vs packages ws
wanted_among told b reached g us vs packages ws same wanted = λ u there.
    let is = wanted u there in
    record {
      crate = is.crate;
      member = is.member;
      wanted = wanted_of_among told b us vs is.crate (same is.crate is.member).list reached g _ u is.wanted;
    }
