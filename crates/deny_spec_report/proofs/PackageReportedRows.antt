-- Worked cases of messages about build scripts and the files of packages.
use Rattle.std.proofs.Common.{◌≡◌, ◌++◌, ℕ, true, false, List, [], ◌∷◌, Option, None, Some, codes, refl}
use Rattle.std.specs.Prelude.{⊤}
use Rattle.hex.specs.Hex.{encode_with}
use Rattle.deny_base.specs.declared.code.Code.TheVariants as code
use Rattle.deny_base.specs.declared.level.LintLevel.{LintLevel}
use Rattle.deny_base.specs.declared.level.LintLevel.TheVariants.{Allow, Deny, Warn}
use Rattle.deny_base.specs.declared.level.Severity.{Severity}
use Rattle.deny_base.specs.declared.level.Severity.TheVariants as severity
use Rattle.deny_base.specs.declared.span.Kid.{Kid}
use Rattle.deny_spec.specs.Building.{Building, Bypass}
use Rattle.deny_spec.specs.Unseen.{unseen_package}
use Rattle.deny_spec.specs.declared.package.ExecutableKind.TheVariants.{Interpreted, Native}
use Rattle.deny_spec.specs.declared.package.Failure.{Failure}
use Rattle.deny_spec.specs.declared.package.Failure.TheVariants.{Crowded, Long, Unlisted, Unreadable}
use Rattle.deny_spec.specs.declared.package.Found.{Found}
use Rattle.deny_spec.specs.declared.package.Found.TheVariants.{Failed, Kind, Sum, Unasked}
use Rattle.deny_spec.specs.declared.package.NativeKind.{NativeKind}
use Rattle.deny_spec.specs.declared.package.NativeKind.TheVariants.{Archive, Elf, Mach, Pe}
use Rattle.deny_spec.specs.declared.package.Package.{Package}
use Rattle.deny_spec.specs.Graph.{Crate}
use Rattle.deny_spec.specs.Keys.{crate_key, no_span, unused_key}
use Rattle.deny_spec.specs.DiagParts.{primary, secondary}
use Rattle.deny_spec_report.specs.Circumstances.{Circumstances, built, unseen_by, with_packages}
use Rattle.deny_spec_report.specs.EachCode.{message_as}
use Rattle.deny_spec_report.specs.Features.{named_at, unknown_feature_diag}
use Rattle.deny_spec_report.specs.Packages.{deprecated_key, path_key}
use Rattle.deny_spec_report.specs.PackageDiags.{bypassed_by_glob_diag, checksum_match_diag, checksum_mismatch_diag}
use Rattle.deny_spec_report.specs.PackageDiags.{denied_by_extension_diag, deprecated_diag, detected_diag}
use Rattle.deny_spec_report.specs.PackageDiags.{features_enabled_diag, file_shown, folder_shown, is_script_sum}
use Rattle.deny_spec_report.specs.PackageDiags.{mismatch_note}
use Rattle.deny_spec_report.specs.PackageDiags.{mismatch_severity, path_bypassed_diag, script_denied_diag}
use Rattle.deny_spec_report.specs.PackageDiags.{unable_to_check_diag, unmatched_bypass_diag, unmatched_glob_diag}
use Rattle.deny_spec_report.specs.PackageDiags.{unmatched_path_diag}
use Rattle.deny_spec_report.specs.MessageParts.{plainly}
use Rattle.deny_spec_report.specs.Diags.{key_message}
use Rattle.deny_spec_report.specs.declared.message.Message.{Message}
use Rattle.deny_spec_report.proofs.Cases.{plain, span, spanned_at}
use Rattle.deny_spec_report.proofs.BuildCases.{beside, builds_on_cases, bypass_of, featured, file_of, checking, one_sum}
use Rattle.deny_spec_report.proofs.BuildCases.{other_sum, path_at, path_with_sum, script_glob, scripted, seen_as}
use Rattle.deny_spec_report.proofs.BuildCases.{with_files}
use Rattle.deny_spec_report.proofs.BuildCases.{with_script, with_sum}

-- `s` with `f` and `h` enabled
unfoldable s : Crate
s = featured [] (codes "f" ∷ codes "h" ∷ []) (scripted 1 (codes "s") 1)

unfoldable s_kid : Option Kid
s_kid = Some (record { 0 = codes "s" })

unfoldable on_s : Bypass
on_s = record (with_sum 15 (bypass_of (codes "s") 10)) {
  required = spanned_at (codes "h") 40 ∷ spanned_at (codes "g") 41 ∷ spanned_at (codes "f") 42 ∷ [];
  globs = spanned_at (codes "*.sh") 60 ∷ spanned_at (codes "*.py") 61 ∷ spanned_at (codes "a.*") 62 ∷ [];
  allow = path_at (codes "a") 20 ∷ path_with_sum (codes "b") 30 ∷ [];
}

unfoldable policed : Building
policed = record checking {
  interpreted = Warn;
  extensions = script_glob (codes "*.rb") 70 false ∷ script_glob (codes "*.pl") 71 false ∷ script_glob
      (codes "*.rb") 8 true
      ∷ [];
  bypass = on_s ∷ [];
}

-- the policy is file 3, and the built-in globs are file 5
unfoldable seeing : Building → Package → Circumstances
seeing b contents = with_packages (built (unseen_by plain (beside (s ∷ [])) 3) (Some b)) (Some 5)
    (unseen_package ∷ contents ∷ [])

unfoldable here : Package → Circumstances
here contents = seeing policed contents

unfoldable reported_on_cases : ⊤
unfolding builds_on_cases encode_with s s_kid on_s policed seeing here message_as bypassed_by_glob_diag
    checksum_match_diag
    checksum_mismatch_diag denied_by_extension_diag deprecated_diag deprecated_key detected_diag features_enabled_diag
    file_shown folder_shown is_script_sum mismatch_note mismatch_severity path_bypassed_diag script_denied_diag
    unable_to_check_diag unmatched_bypass_diag unmatched_glob_diag unmatched_path_diag unknown_feature_diag named_at
reported_on_cases = tt

abbrev with_notes : List (List ℕ) → Message → Message
with_notes notes diag = record diag { notes = notes }

-- ---- files that pass

reported_path_bypassed : message_as code.PathBypassed (here unseen_package)
    (path_key code.PathBypassed 1 (span 20) (codes "$crate/a"))
    ≡ plainly severity.Help (codes "file explicitly allowed")
    (primary 3 (span 20) (codes "allowed path") ∷ []) s_kid
unfolding reported_on_cases
reported_path_bypassed = refl

-- a label for each glob of the bypass that matches the file, in the order of the bypass
reported_bypassed_by_glob : message_as code.PathBypassedByGlob
    (here (with_files (file_of (codes "a.sh") (codes "a.*" ∷ codes "*.sh" ∷ []) Unasked ∷ [])))
    (path_key code.PathBypassedByGlob 1 no_span (codes "$crate/a.sh"))
    ≡ with_notes (codes "path = '$crate/a.sh'" ∷ [])
    (plainly severity.Help (codes "file allowed by glob")
    (secondary 3 (span 60) [] ∷ secondary 3 (span 62) [] ∷ []) s_kid)
unfolding reported_on_cases
reported_bypassed_by_glob = refl

-- the globs are those of the file with the key's path, not those of files before it
reported_by_its_file : message_as code.PathBypassedByGlob
    (here (with_files
    (file_of (codes "a.sh") (codes "a.*" ∷ []) Unasked ∷ file_of (codes "b.py") (codes "*.py" ∷ []) Unasked ∷ [])))
    (path_key code.PathBypassedByGlob 1 no_span (codes "$crate/b.py"))
    ≡ with_notes (codes "path = '$crate/b.py'" ∷ [])
    (plainly severity.Help (codes "file allowed by glob") (secondary 3 (span 61) [] ∷ []) s_kid)
unfolding reported_on_cases
reported_by_its_file = refl

reported_checksum_match : message_as code.ChecksumMatch (here unseen_package)
    (path_key code.ChecksumMatch 1 (span 35) (codes "$crate/b"))
    ≡ with_notes (codes "path = '$crate/b'" ∷ [])
    (plainly severity.Help (codes "file checksum matched") (primary 3 (span 35) (codes "checksum") ∷ []) s_kid)
unfolding reported_on_cases
reported_checksum_match = refl

-- ---- checksums that differ

abbrev mismatched : Severity → ℕ → List ℕ → List ℕ → Message
mismatched severity start path error = with_notes (path ∷ error ∷ [])
    (plainly severity (codes "file did not match the expected checksum")
    (primary 3 (span start) (codes "expected checksum") ∷ []) s_kid)

reported_file_mismatch : message_as code.ChecksumMismatch
    (here (with_files (file_of (codes "b") [] (Sum other_sum) ∷ [])))
    (path_key code.ChecksumMismatch 1 (span 35) (codes "$crate/b"))
    ≡ mismatched severity.Error 35 (codes "path = '$crate/b'") (codes "error = 'calculated different checksum 0210'")
unfolding reported_on_cases
reported_file_mismatch = refl

reported_file_failure : message_as code.ChecksumMismatch (here (with_files (file_of (codes "b") [] (Failed Long) ∷ [])))
    (path_key code.ChecksumMismatch 1 (span 35) (codes "$crate/b"))
    ≡ mismatched severity.Error 35 (codes "path = '$crate/b'")
    (codes "error = 'the file has 1099511627776 bytes or more'")
unfolding reported_on_cases
reported_file_failure = refl

-- a checksum of a script that does not match is a warning
reported_script_mismatch : message_as code.ChecksumMismatch (here (with_script (Sum other_sum)))
    (path_key code.ChecksumMismatch 1 (span 15) (codes "$crate/x.rs"))
    ≡ mismatched severity.Warning 15 (codes "path = '$crate/x.rs'")
    (codes "error = 'calculated different checksum 0210'")
unfolding reported_on_cases
reported_script_mismatch = refl

reported_script_failure : message_as code.ChecksumMismatch (here (with_script (Failed Unreadable)))
    (path_key code.ChecksumMismatch 1 (span 15) (codes "$crate/x.rs"))
    ≡ mismatched severity.Warning 15 (codes "path = '$crate/x.rs'")
    (codes "error = 'build script failed checksum: the file could not be read'")
unfolding reported_on_cases
reported_script_failure = refl

-- ---- what denies files

-- a built-in glob has its label in the file of the built-in globs
reported_by_extension : message_as code.DeniedByExtension
    (here (with_files (file_of (codes "a.rb") (codes "*.rb" ∷ []) Unasked ∷ [])))
    (path_key code.DeniedByExtension 1 no_span (codes "$crate/a.rb"))
    ≡ with_notes (codes "path = '$crate/a.rb'" ∷ [])
    (plainly severity.Error (codes "path disallowed by extension")
    (secondary 3 (span 70) [] ∷ secondary 5 (span 8) (codes "builtin") ∷ []) s_kid)
unfolding reported_on_cases
reported_by_extension = refl

unfoldable run : Found → Package
run found = with_files (file_of (codes "run") [] found ∷ [])

abbrev detected : Severity → List ℕ → Message
detected severity note = with_notes (codes "path = '$crate/run'" ∷ note ∷ [])
    (plainly severity (codes "detected executable") [] s_kid)

abbrev reported_native : NativeKind → Message
reported_native kind = message_as code.DetectedExecutable (here (run (Kind (Some (Native kind)))))
    (path_key code.DetectedExecutable 1 no_span (codes "$crate/run"))

reported_executables : (reported_native Elf ≡ detected severity.Error (codes "executable-kind = 'elf'"))
    × (reported_native Pe ≡ detected severity.Error (codes "executable-kind = 'pe'"))
    × (reported_native Mach ≡ detected severity.Error (codes "executable-kind = 'mach'"))
    × (reported_native Archive ≡ detected severity.Error (codes "executable-kind = 'archive'"))
unfolding reported_on_cases run
reported_executables = (refl, refl, refl, refl)

-- a script is reported at the level of interpreted files
abbrev reported_script : LintLevel → Message
reported_script level = message_as code.DetectedExecutableScript
    (seeing (record policed { interpreted = level }) (run (Kind (Some (Interpreted (codes "python3"))))))
    (path_key code.DetectedExecutableScript 1 no_span (codes "$crate/run"))

reported_scripts : (reported_script Allow ≡ detected severity.Note (codes "interpreter = 'python3'"))
    × (reported_script Warn ≡ detected severity.Warning (codes "interpreter = 'python3'"))
    × (reported_script Deny ≡ detected severity.Error (codes "interpreter = 'python3'"))
unfolding reported_on_cases run
reported_scripts = (refl, refl, refl)

abbrev unable : List ℕ → List ℕ → Message
unable path error = with_notes (path ∷ error ∷ [])
    (plainly severity.Error (codes "unable to check if path is an executable") [] s_kid)

reported_unable : message_as code.UnableToCheckPath (here (run (Failed Unreadable)))
    (path_key code.UnableToCheckPath 1 no_span (codes "$crate/run"))
    ≡ unable (codes "path = $crate/run") (codes "error = the file could not be read")
unfolding reported_on_cases run
reported_unable = refl

abbrev reported_folder : Failure → Message
reported_folder failure = message_as code.UnableToCheckPath
    (here (record (run (Kind None)) { unlisted = seen_as (codes "$crate/d") (Failed failure) ∷ [] }))
    (path_key code.UnableToCheckPath 1 no_span (codes "$crate/d"))

reported_folders : (reported_folder Unlisted
    ≡ unable (codes "path = $crate/d") (codes "error = the folder could not be listed"))
    × (reported_folder Crowded
    ≡ unable (codes "path = $crate/d") (codes "error = the package has more than 16777216 entries"))
unfolding reported_on_cases run
reported_folders = (refl, refl)

-- ---- scripts

abbrev denied : Found → Message
denied found = message_as code.BuildScriptNotAllowed (here (with_script found))
    (crate_key code.BuildScriptNotAllowed 1 no_span)

abbrev plainly_denied : Message
plainly_denied = plainly severity.Error
    (codes "crate 's = 1.0.0' has a build script but is not allowed to have one") [] s_kid

-- a denied script has notes of its path and its checksum where it was read
reported_denied : (denied (Sum one_sum)
    ≡ with_notes (codes "path = '$crate/x.rs'" ∷ codes "checksum = '01ab'" ∷ []) plainly_denied)
    × (denied (Failed Unreadable) ≡ plainly_denied)
unfolding reported_on_cases
reported_denied = (refl, refl)

-- a label for each required feature that is enabled
reported_features_enabled : message_as code.FeaturesEnabled (here (with_script (Sum one_sum)))
    (crate_key code.FeaturesEnabled 1 (span 10))
    ≡ plainly severity.Note (codes "2 features enabled for crate with build script, checking sources")
    (secondary 3 (span 40) [] ∷ secondary 3 (span 42) [] ∷ []) s_kid
unfolding reported_on_cases
reported_features_enabled = refl

-- a required feature that the crate does not have has the message of an unknown feature
reported_unknown : message_as code.UnknownFeature (here (with_script (Sum one_sum)))
    (crate_key code.UnknownFeature 1 (span 41))
    ≡ plainly severity.Warning (codes "found unknown feature 'g' for crate 's = 1.0.0'")
    (primary 3 (span 41) (codes "unknown feature") ∷ []) s_kid
unfolding reported_on_cases
reported_unknown = refl

-- ---- unused entries

reported_unmatched : (message_as code.UnmatchedPathBypass (here unseen_package)
    (crate_key code.UnmatchedPathBypass 1 (span 20))
    ≡ plainly severity.Warning (codes "allowed path was not encountered") (primary 3 (span 20) [] ∷ []) s_kid)
    × (message_as code.UnmatchedGlob (here unseen_package) (crate_key code.UnmatchedGlob 1 (span 60))
    ≡ plainly severity.Warning (codes "glob was not encountered") (primary 3 (span 60) [] ∷ []) s_kid)
    × (message_as code.UnmatchedBypass (here unseen_package) (unused_key code.UnmatchedBypass (span 10))
    ≡ plainly severity.Warning (codes "crate build bypass was not encountered")
    (primary 3 (span 10) (codes "unmatched bypass") ∷ []) None)
unfolding reported_on_cases
reported_unmatched = (refl, refl, refl)

reported_deprecated : key_message (here unseen_package) (deprecated_key (span 7)) ≡ plainly severity.Warning
    (codes "[bans.allow-build-scripts] has been deprecated in favor of "
    ++ codes "[bans.build.allow-build-scripts], this will become an error in the future")
    (primary 3 (span 7) [] ∷ []) None
unfolding reported_on_cases
reported_deprecated = refl
