-- Removal of bypasses, and of paths and globs of bypasses, from a policy, and of no entry of another kind.
use Rattle.std.specs.Prelude.{◌≡◌, Bool, true, false, List, Contains, Some, option_map}
use Rattle.std.specs.List.{list_any}
use Rattle.deny_base_lists.specs.Ascending.{Lists}
use Rattle.deny_base.specs.KeyOrder.{key_cmp}
use Rattle.deny_base.specs.declared.entry.EntryId.{EntryId}
use Rattle.deny_base.specs.declared.entry.EntryKind.TheVariants.{ReplacementIgnore, Skip, SkipRoot, Wrapper}
use Rattle.deny_base.specs.declared.key.Key.{Key}
use Rattle.deny_base.specs.declared.span.Span.{Span}
use Rattle.deny_spec.specs.Building.{AllowedPath, Building, Bypass}
use Rattle.deny_spec.specs.declared.package.PackageFile.{PackageFile}
use Rattle.deny_spec.specs.Policy as policy
use Rattle.deny_spec_report.specs.Circumstances.{Circumstances}
use Rattle.deny_spec_report.specs.Facts.{Facts, AreFacts}
use Rattle.deny_spec_report.specs.PackageFiles.{hits_glob, hits_path}
use Rattle.deny_spec_report.specs.Packages.{Scanning, is_used, scanning, meets_file}
use Rattle.deny_spec_report.specs.Holding.{Holds}
use Rattle.deny_spec_removal.specs.Removal.{AreGone, NoLicences, cut_building, is_taken, stays_bypass, stays_glob}
use Rattle.deny_spec_removal.specs.Removal.{stays_path}

abbrev pub without_bypasses_in : Circumstances → List EntryId → Circumstances
without_bypasses_in c taken = record c { building = option_map (cut_building taken) c.building }

-- a file of a crate that is walked and uses the bypass passes a test
abbrev pub is_met : Scanning → Bypass → (PackageFile → Bool) → Bool
is_met l y test = list_any (meets_file l y test) l.graph.crates

-- bypasses, paths and globs that are hit stay
pub record BypassesStay (l : Scanning) (taken : List EntryId) : Type 0 where
  pub bypasses : (y : Bypass) → Contains l.building.bypass y → is_used l y ≡ true → stays_bypass taken y ≡ true
  pub paths : (y : Bypass) → Contains l.building.bypass y → (a : AllowedPath) → Contains y.allow a
      → is_met l y (hits_path y a) ≡ true → stays_path taken a ≡ true
  pub globs : (y : Bypass) → Contains l.building.bypass y → (w : policy.SpannedText) → Contains y.globs w
      → is_met l y (hits_glob y w) ≡ true → stays_glob taken w ≡ true

-- what is hit of the policy on builds stays, and no entry that is taken out is of another kind
pub record AreUnhitBypasses (c : Circumstances) (facts : Facts) (taken : List EntryId) : Type 0 where
  pub bypasses : (b : Building) → c.building ≡ Some b → BypassesStay (scanning c facts b) taken
  pub no_skip : (span : Span) → is_taken taken Skip span ≡ false
  pub no_root : (span : Span) → is_taken taken SkipRoot span ≡ false
  pub no_wrapper : (span : Span) → is_taken taken Wrapper span ≡ false
  pub no_ignore : (span : Span) → is_taken taken ReplacementIgnore span ≡ false
  pub no_licence : NoLicences taken

-- ---- the law

-- a bypass that goes takes its paths and globs along, which nothing hits either
abbrev pub BypassesCanGo : Type 0
BypassesCanGo = (c : Circumstances) → (facts : Facts) → (taken : List EntryId) → (keys : List Key)
    → AreFacts c facts → AreUnhitBypasses c facts taken
    → Lists key_cmp (Holds c facts) keys → AreGone c (without_bypasses_in c taken) facts taken keys
