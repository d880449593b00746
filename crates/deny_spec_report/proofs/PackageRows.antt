-- Worked cases of packages: their keys, and the hits of bypasses.
use Rattle.std.proofs.Common.{◌≡◌, true, List, [], ◌∷◌, None, Some, codes, refl}
use Rattle.deny_base.specs.declared.code.Code.TheVariants as code
use Rattle.deny_base.specs.declared.code.DiagnosticCode.TheVariants.{Deprecated}
use Rattle.deny_base.specs.declared.entry.EntryKind.TheVariants as kind
use Rattle.deny_base.specs.declared.entry.Witness.TheVariants.{File, Krate}
use Rattle.deny_base.specs.declared.key.Section.TheVariants as section
use Rattle.deny_base.specs.declared.level.LintLevel.TheVariants.{Allow}
use Rattle.deny_base.specs.declared.span.Kid.{Kid}
use Rattle.deny_spec.specs.Building.{Building, Bypass}
use Rattle.deny_spec.specs.Unseen.{unseen_package}
use Rattle.deny_spec.specs.declared.package.ExecutableKind.TheVariants.{Interpreted, Native}
use Rattle.deny_spec.specs.declared.package.Failure.TheVariants.{Crowded, Unlisted, Unreadable}
use Rattle.deny_spec.specs.declared.package.Found.TheVariants.{Failed, Kind, Sum, Unasked}
use Rattle.deny_spec.specs.declared.package.NativeKind.TheVariants.{Elf}
use Rattle.deny_spec.specs.declared.package.Package.{Package}
use Rattle.deny_spec.specs.Graph.{Crate}
use Rattle.deny_spec.specs.Hits.{hit_of}
use Rattle.deny_spec.specs.Keys.{crate_key, no_span, unused_key}
use Rattle.deny_spec.specs.Policy as policy
use Rattle.deny_spec_report.specs.Circumstances.{built, unseen_by, with_packages}
use Rattle.deny_spec_report.specs.Packages.{Scanning, build_keys, build_keys_in, bypass_hits, bypass_hits_in}
use Rattle.deny_spec_report.specs.Packages.{deprecated_key}
use Rattle.deny_spec_report.specs.Packages.{deprecated_keys, deprecated_keys_in, package_keys, path_key}
use Rattle.deny_spec_report.proofs.Cases.{all_count, crate, plain, span, with_id, spanned_at}
use Rattle.deny_spec_report.proofs.BuildCases.{beside, builds_on_cases, bypass_of, everywhere, featured, file_of}
use Rattle.deny_spec_report.proofs.BuildCases.{harmless}
use Rattle.deny_spec_report.proofs.BuildCases.{listing, macro, checking, nowhere, one_sum, other_sum, over, path_at}
use Rattle.deny_spec_report.proofs.BuildCases.{path_with_sum, script_glob, scripted, seen_as, with_files, with_script}
use Rattle.deny_spec_report.proofs.BuildCases.{with_sum}

-- two versions of a procedural macro, known by their ids
unfoldable p1 : Crate
p1 = with_id (codes "p1") (macro 1 (codes "p") 1)

unfoldable p2 : Crate
p2 = with_id (codes "p2") (macro 2 (codes "p") 2)

unfoldable kid1 : Kid
kid1 = record { 0 = codes "p1" }

unfoldable kid2 : Kid
kid2 = record { 0 = codes "p2" }

unfoldable bypassing : List Bypass → Building
bypassing bypass = record checking { bypass = bypass }

-- ---- files without a bypass

unable : build_keys (over checking (p1 ∷ []) (with_files (file_of (codes "run") [] (Failed Unreadable) ∷ []) ∷ []))
    ≡ path_key code.UnableToCheckPath 1 no_span (codes "$crate/run") ∷ []
unfolding builds_on_cases p1
unable = refl

-- each file has a key of its own
executables : build_keys (over checking (p1 ∷ []) (with_files
    (harmless (codes "a")
    ∷ file_of (codes "run") [] (Kind (Some (Native Elf)))
    ∷ file_of (codes "run2") [] (Kind (Some (Native Elf)))
    ∷ file_of (codes "sh") [] (Kind (Some (Interpreted (codes "sh")))) ∷ []) ∷ []))
    ≡ path_key code.DetectedExecutable 1 no_span (codes "$crate/run")
    ∷ path_key code.DetectedExecutable 1 no_span (codes "$crate/run2")
    ∷ path_key code.DetectedExecutableScript 1 no_span (codes "$crate/sh") ∷ []
unfolding builds_on_cases p1
executables = refl

by_extension : build_keys (over (record checking { extensions = script_glob (codes "*.sh") 70 true ∷ [] }) (p1 ∷ [])
    (with_files (file_of (codes "a.sh") (codes "*.sh" ∷ []) Unasked ∷ []) ∷ []))
    ≡ path_key code.DeniedByExtension 1 no_span (codes "$crate/a.sh") ∷ []
unfolding builds_on_cases p1
by_extension = refl

-- a folder that could not be listed is reported, and files beside it all the same
folders : build_keys (over checking (p1 ∷ [])
    (record (with_files (file_of (codes "run") [] (Kind (Some (Native Elf))) ∷ [])) {
      unlisted = seen_as (codes "$crate/a") (Failed Unlisted) ∷ seen_as (codes "$crate/b") (Failed Crowded) ∷ [];
    } ∷ []))
    ≡ path_key code.UnableToCheckPath 1 no_span (codes "$crate/a")
    ∷ path_key code.UnableToCheckPath 1 no_span (codes "$crate/b")
    ∷ path_key code.DetectedExecutable 1 no_span (codes "$crate/run") ∷ []
unfolding builds_on_cases p1
folders = refl

-- a crate that is not checked has no keys
not_scanned : build_keys (over checking (crate 1 (codes "p") 1 ∷ [])
    (with_files (file_of (codes "run") [] (Kind (Some (Native Elf))) ∷ []) ∷ [])) ≡ []
unfolding builds_on_cases
not_scanned = refl

-- the package of a crate is the one at the crate's place
at_places : build_keys (over checking (p1 ∷ p2 ∷ [])
    (with_files [] ∷ with_files (file_of (codes "run") [] (Kind (Some (Native Elf))) ∷ []) ∷ []))
    ≡ path_key code.DetectedExecutable 2 no_span (codes "$crate/run") ∷ []
unfolding builds_on_cases p1 p2
at_places = refl

-- ---- globs

unfoldable on_sh : Bypass
on_sh = record (bypass_of (codes "p") 10) { globs = spanned_at (codes "*.sh") 60 ∷ [] }

-- the second version has such a file
unfoldable with_a_sh : Scanning
with_a_sh = over (bypassing (on_sh ∷ [])) (p1 ∷ p2 ∷ [])
    (with_files (harmless (codes "README") ∷ [])
    ∷ with_files (harmless (codes "README") ∷ file_of (codes "a.sh") (codes "*.sh" ∷ []) Unasked ∷ []) ∷ [])

glob_of_one : build_keys with_a_sh ≡ crate_key code.UnmatchedGlob 1 (span 60)
    ∷ path_key code.PathBypassedByGlob 2 no_span (codes "$crate/a.sh") ∷ []
unfolding builds_on_cases p1 p2 bypassing on_sh with_a_sh
glob_of_one = refl

glob_hits : bypass_hits with_a_sh ≡ hit_of kind.Bypass (span 10) (Krate kid1)
    ∷ hit_of kind.BypassGlob (span 60) (File kid2 (codes "a.sh")) ∷ []
unfolding builds_on_cases p1 p2 kid1 kid2 bypassing on_sh with_a_sh
glob_hits = refl

-- none has one
unfoldable without_sh : Scanning
without_sh = over (bypassing (on_sh ∷ [])) (p1 ∷ p2 ∷ [])
    (with_files (harmless (codes "README") ∷ []) ∷ with_files (harmless (codes "README") ∷ []) ∷ [])

glob_of_none : build_keys without_sh
    ≡ crate_key code.UnmatchedGlob 1 (span 60) ∷ crate_key code.UnmatchedGlob 2 (span 60) ∷ []
unfolding builds_on_cases p1 p2 bypassing on_sh without_sh
glob_of_none = refl

no_glob_hits : bypass_hits without_sh ≡ hit_of kind.Bypass (span 10) (Krate kid1) ∷ []
unfolding builds_on_cases p1 p2 kid1 bypassing on_sh without_sh
no_glob_hits = refl

-- the glob taken out
glob_gone : build_keys (record without_sh { building = bypassing (bypass_of (codes "p") 10 ∷ []) }) ≡ []
unfolding builds_on_cases p1 p2 bypassing without_sh
glob_gone = refl

-- ---- paths

unfoldable on_paths : Bypass
on_paths = record (bypass_of (codes "p") 10) {
  globs = spanned_at (codes "*.sh") 60 ∷ [];
  allow = path_at (codes "./a.sh") 20 ∷ path_with_sum (codes "b") 30 ∷ path_at (codes "b") 40 ∷ path_at (codes "c") 50
      ∷ [];
}

unfoldable with_paths : List Package → Scanning
with_paths packages = over (bypassing (on_paths ∷ [])) (p1 ∷ p2 ∷ []) packages

-- a path decides on a file before a glob, and the second of two equal paths is unmatched, as is one without a file
paths_reported : package_keys (with_paths
    (with_files (file_of (codes "a.sh") (codes "*.sh" ∷ []) Unasked ∷ file_of (codes "b") [] (Sum one_sum) ∷ [])
    ∷ unseen_package ∷ [])) p1
    ≡ path_key code.PathBypassed 1 (span 20) (codes "$crate/a.sh")
    ∷ path_key code.ChecksumMatch 1 (span 35) (codes "$crate/b")
    ∷ crate_key code.UnmatchedPathBypass 1 (span 40)
    ∷ crate_key code.UnmatchedPathBypass 1 (span 50)
    ∷ crate_key code.UnmatchedGlob 1 (span 60) ∷ []
unfolding builds_on_cases p1 p2 bypassing on_paths with_paths
paths_reported = refl

path_mismatched : package_keys (with_paths
    (with_files (file_of (codes "b") [] (Sum other_sum) ∷ file_of (codes "c") [] Unasked ∷ []) ∷ unseen_package ∷ []))
    p1
    ≡ path_key code.ChecksumMismatch 1 (span 35) (codes "$crate/b")
    ∷ path_key code.PathBypassed 1 (span 50) (codes "$crate/c")
    ∷ crate_key code.UnmatchedPathBypass 1 (span 20)
    ∷ crate_key code.UnmatchedPathBypass 1 (span 40)
    ∷ crate_key code.UnmatchedGlob 1 (span 60) ∷ []
unfolding builds_on_cases p1 p2 bypassing on_paths with_paths
path_mismatched = refl

-- the first of several crates and files is the witness, in the order of components
path_hits : bypass_hits (with_paths
    (with_files (harmless (codes "x") ∷ [])
    ∷ with_files (file_of (codes "b") [] (Sum other_sum) ∷ file_of (codes "d/z.sh") (codes "*.sh" ∷ []) Unasked
    ∷ file_of (codes "d-e.sh") (codes "*.sh" ∷ []) Unasked ∷ []) ∷ []))
    ≡ hit_of kind.Bypass (span 10) (Krate kid1)
    ∷ hit_of kind.BypassPath (span 30) (File kid2 (codes "b"))
    ∷ hit_of kind.BypassGlob (span 60) (File kid2 (codes "d/z.sh")) ∷ []
unfolding builds_on_cases p1 p2 kid1 kid2 bypassing on_paths with_paths
path_hits = refl

first_crate_hits : bypass_hits (with_paths
    (with_files (file_of (codes "c") [] Unasked ∷ []) ∷ with_files (file_of (codes "c") [] Unasked ∷ []) ∷ []))
    ≡ hit_of kind.Bypass (span 10) (Krate kid1)
    ∷ hit_of kind.BypassPath (span 50) (File kid1 (codes "c")) ∷ []
unfolding builds_on_cases p1 p2 kid1 bypassing on_paths with_paths
first_crate_hits = refl

-- ---- bypasses of no crate

-- only the first bypass that matches a crate is used
second_bypass : build_keys
    (over (bypassing (bypass_of (codes "p") 10 ∷ bypass_of (codes "p") 11 ∷ bypass_of (codes "a") 12
    ∷ [])) (p1 ∷ p2 ∷ []) (with_files [] ∷ with_files [] ∷ []))
    ≡ unused_key code.UnmatchedBypass (span 11) ∷ unused_key code.UnmatchedBypass (span 12) ∷ []
unfolding builds_on_cases p1 p2 bypassing
second_bypass = refl

-- a bypass for a crate that is not checked, or for a member
unscanned_bypass : build_keys (over (bypassing (bypass_of (codes "q") 10 ∷ bypass_of (codes "app") 11 ∷ []))
    (crate 1 (codes "q") 1 ∷ []) (unseen_package ∷ []))
    ≡ unused_key code.UnmatchedBypass (span 10) ∷ unused_key code.UnmatchedBypass (span 11) ∷ []
unfolding builds_on_cases bypassing
unscanned_bypass = refl

unscanned_hits : bypass_hits (over (bypassing (bypass_of (codes "q") 10 ∷ bypass_of (codes "app") 11 ∷ []))
    (crate 1 (codes "q") 1 ∷ []) (unseen_package ∷ [])) ≡ []
unfolding builds_on_cases bypassing
unscanned_hits = refl

-- ---- build scripts

unfoldable s : Crate
s = featured [] (codes "f" ∷ codes "h" ∷ []) (with_id (codes "s") (scripted 1 (codes "s") 1))

unfoldable s_kid : Kid
s_kid = record { 0 = codes "s" }

-- a checksum, a required feature that is not there, and a path and a glob that no file meets
unfoldable on_s : List policy.SpannedText → Bypass
on_s required = record (with_sum 15 (bypass_of (codes "s") 10)) {
  required = required;
  globs = spanned_at (codes "*.sh") 60 ∷ [];
  allow = path_at (codes "a") 20 ∷ [];
}

unfoldable scripts : List policy.SpannedText → Package → Scanning
scripts required contents = over (bypassing (on_s required ∷ [])) (s ∷ []) (contents ∷ [])

-- where the package passes, its files are not scanned
script_right : build_keys (scripts [] (with_script (Sum one_sum)))
    ≡ path_key code.ChecksumMatch 1 (span 15) (codes "$crate/x.rs") ∷ []
unfolding builds_on_cases s bypassing on_s scripts
script_right = refl

-- where the package passes, neither paths nor globs of its bypass are hit
script_right_hits : bypass_hits (scripts [] (record (with_script (Sum one_sum)) {
  files = file_of (codes "a") [] Unasked ∷ [];
})) ≡ hit_of kind.Bypass (span 10) (Krate s_kid) ∷ []
unfolding builds_on_cases s s_kid bypassing on_s scripts
script_right_hits = refl

script_wrong : build_keys (scripts [] (with_script (Sum other_sum)))
    ≡ path_key code.ChecksumMismatch 1 (span 15) (codes "$crate/x.rs")
    ∷ crate_key code.UnmatchedPathBypass 1 (span 20)
    ∷ crate_key code.UnmatchedGlob 1 (span 60) ∷ []
unfolding builds_on_cases s bypassing on_s scripts
script_wrong = refl

script_failed : build_keys (scripts [] (with_script (Failed Unreadable)))
    ≡ path_key code.ChecksumMismatch 1 (span 15) (codes "$crate/x.rs")
    ∷ crate_key code.UnmatchedPathBypass 1 (span 20)
    ∷ crate_key code.UnmatchedGlob 1 (span 60) ∷ []
unfolding builds_on_cases s bypassing on_s scripts
script_failed = refl

-- a bypass without a checksum asks nothing of the script
script_unasked : build_keys (over (bypassing (bypass_of (codes "s") 10 ∷ [])) (s ∷ []) (with_files [] ∷ [])) ≡ []
unfolding builds_on_cases s bypassing
script_unasked = refl

-- a script that is not allowed is reported alone, or with a wrong checksum, and the files are not scanned
script_denied : build_keys (over (listing [] checking) (s ∷ [])
    (record (with_script (Sum one_sum)) { files = file_of (codes "run") [] (Kind (Some (Native Elf))) ∷ [] } ∷ []))
    ≡ crate_key code.BuildScriptNotAllowed 1 no_span ∷ []
unfolding builds_on_cases s
script_denied = refl

denied_and_wrong : build_keys (over (listing [] (bypassing (on_s [] ∷ []))) (s ∷ []) (with_script (Sum other_sum) ∷ []))
    ≡ path_key code.ChecksumMismatch 1 (span 15) (codes "$crate/x.rs")
    ∷ crate_key code.BuildScriptNotAllowed 1 no_span ∷ []
unfolding builds_on_cases s bypassing on_s
denied_and_wrong = refl

denied_but_right : build_keys (over (listing [] (bypassing (on_s [] ∷ []))) (s ∷ []) (with_script (Sum one_sum) ∷ []))
    ≡ path_key code.ChecksumMatch 1 (span 15) (codes "$crate/x.rs") ∷ []
unfolding builds_on_cases s bypassing on_s
denied_but_right = refl

-- a crate whose script is allowed is not checked where the level of executables is `allow`
nothing_active : build_keys (record (scripts [] (with_script (Sum one_sum))) {
  building = record (bypassing (on_s [] ∷ [])) { executables = Allow };
}) ≡ unused_key code.UnmatchedBypass (span 10) ∷ []
unfolding builds_on_cases s bypassing on_s scripts
nothing_active = refl

-- ---- the older key

older_key : (deprecated_keys (record checking { older_key = Some (span 7) }) ≡ deprecated_key (span 7) ∷ [])
    × (deprecated_keys checking ≡ [])
unfolding builds_on_cases deprecated_keys
older_key = (refl, refl)

older_key_is : deprecated_key (span 7) ≡ record {
  section = section.Deprecated;
  place = 0;
  code = Deprecated;
  entry = span 7;
  text = [];
  other = 0;
  places = [];
}
unfolding builds_on_cases deprecated_key
older_key_is = refl

-- ---- circumstances

-- a policy that says nothing of builds
no_builds : (build_keys_in (unseen_by plain (beside (p1 ∷ [])) 3) (record { chains = all_count; reached = nowhere })
    ≡ [])
    × (deprecated_keys_in (unseen_by plain (beside (p1 ∷ [])) 3) ≡ [])
    × (bypass_hits_in (unseen_by plain (beside (p1 ∷ [])) 3) (record { chains = all_count; reached = nowhere }) ≡ [])
unfolding builds_on_cases p1
no_builds = (refl, refl, refl)

-- a policy on builds, by the test of the facts
by_facts : build_keys_in
    (with_packages (built (unseen_by plain (beside (crate 1 (codes "p") 1 ∷ [])) 3)
    (Some (record checking { with_dependencies = true }))) None
    (unseen_package ∷ with_files (file_of (codes "run") [] (Kind (Some (Native Elf))) ∷ []) ∷ []))
    (record { chains = all_count; reached = everywhere })
    ≡ path_key code.DetectedExecutable 1 no_span (codes "$crate/run") ∷ []
unfolding builds_on_cases
by_facts = refl
