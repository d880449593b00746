-- What is asked of packages does not change where bypasses, paths and globs that nothing hits are taken out.
use Rattle.std.specs.Prelude.{◌≡◌, Bool, true, List, Some, Contains, option_map}
use Rattle.deny_base.specs.declared.entry.EntryId.{EntryId}
use Rattle.deny_spec.specs.Building.{Building}
use Rattle.deny_spec.specs.declared.package.Package.{Package}
use Rattle.deny_spec.specs.declared.package.PackageFile.{PackageFile}
use Rattle.deny_spec.specs.Graph.{Crate}
use Rattle.deny_spec.specs.Policy as policy
use Rattle.deny_spec_report.specs.BuildScripts.{asks_script, is_checked, is_walked, used, wanted_sum}
use Rattle.deny_spec_report.specs.Circumstances.{Circumstances}
use Rattle.deny_spec_report.specs.Facts.{Facts}
use Rattle.deny_spec_report.specs.Hits.{both_hits}
use Rattle.deny_spec_report.specs.PackageFiles.{globs_of, is_decided_by, leaves_to_globs, path_of_used, step_of}
use Rattle.deny_spec_report.specs.Packages.{Scanning, scanning, package_of, walks}
use Rattle.deny_spec_removal.specs.Removal.{HaveNoHit, cut_building, cut_bypass, stays_glob}

-- without the entries that are taken out, crates are checked and walked as before, scripts are read as before, and each
-- file is decided on by the same rule
pub record AreAskedAlike (l : Scanning) (rest : Building) (taken : List EntryId) : Type 0 where
  pub checked : (c : Crate) → is_checked rest l.graph l.reached c ≡ is_checked l.building l.graph l.reached c
  pub bypass : (c : Crate) → Contains l.graph.crates c → is_checked l.building l.graph l.reached c ≡ true
      → used rest c ≡ option_map (cut_bypass taken) (used l.building c)
  pub sums : (c : Crate) → Contains l.graph.crates c → is_checked l.building l.graph l.reached c ≡ true
      → wanted_sum rest c ≡ wanted_sum l.building c
  pub scripts : (c : Crate) → Contains l.graph.crates c
      → asks_script rest l.graph l.reached c ≡ asks_script l.building l.graph l.reached c
  pub walked : (c : Crate) → Contains l.graph.crates c → (contents : Package)
      → is_walked rest l.graph l.reached contents c ≡ is_walked l.building l.graph l.reached contents c
  -- the files of walked crates have the same allowed paths, and the globs that match them stay
  pub paths : (c : Crate) → Contains l.graph.crates c → walks l c ≡ true
      → (file : PackageFile) → Contains (package_of l c).files file
      → path_of_used (used rest c) file.path ≡ path_of_used (used l.building c) file.path
  pub globs : (c : Crate) → Contains l.graph.crates c → walks l c ≡ true
      → (file : PackageFile) → Contains (package_of l c).files file
      → leaves_to_globs (path_of_used (used l.building c) file.path) ≡ true
      → (w : policy.SpannedText) → Contains (globs_of (used l.building c)) w → is_decided_by file w.value ≡ true
      → stays_glob taken w ≡ true
  pub steps : (c : Crate) → Contains l.graph.crates c → walks l c ≡ true
      → (file : PackageFile) → Contains (package_of l c).files file
      → step_of rest (used rest c) file.path (is_decided_by file)
      ≡ step_of l.building (used l.building c) file.path (is_decided_by file)

-- ---- the law

abbrev pub PackagesStay : Type 0
PackagesStay = (c : Circumstances) → (facts : Facts) → (counts : Crate → Bool) → (taken : List EntryId)
    → HaveNoHit (both_hits c facts counts) taken → (b : Building) → c.building ≡ Some b
    → AreAskedAlike (scanning c facts b) (cut_building taken b) taken
