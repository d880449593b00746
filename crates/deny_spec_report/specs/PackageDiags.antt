-- The messages about build scripts, about the files of packages, and about bypasses.
use Rattle.std.specs.Prelude.{ℕ, ◌++◌, ◌∷◌, Bool, false, List, [], Option, None, Some, filter, find, map}
use Rattle.std.specs.Prelude.{option_and_then, codes, length, if◌then◌else◌}
use Rattle.std.specs.Fmt.{decimal}
use Rattle.std.specs.List.{flat_map, list_any}
use Rattle.std.specs.Option.{option_map_or}
use Rattle.hex.specs.Hex.{encode_lower}
use Rattle.deny_base.specs.Level.{severity_of}
use Rattle.deny_base.specs.declared.label.Label.{Label}
use Rattle.deny_base.specs.declared.key.Key.{Key}
use Rattle.deny_base.specs.declared.level.Severity.{Severity}
use Rattle.deny_base.specs.declared.level.Severity.TheVariants as severity
use Rattle.deny_base.specs.declared.span.Span.{Span}
use Rattle.deny_spec.specs.Building.{Building, Bypass, ScriptGlob}
use Rattle.deny_spec.specs.Unseen.{package_at}
use Rattle.deny_spec.specs.declared.package.ExecutableKind.{ExecutableKind}
use Rattle.deny_spec.specs.declared.package.ExecutableKind.TheVariants.{Interpreted, Native}
use Rattle.deny_spec.specs.declared.package.Failure.{Failure}
use Rattle.deny_spec.specs.declared.package.Failure.TheVariants.{Crowded, Long, Unlisted, Unreadable}
use Rattle.deny_spec.specs.declared.package.Found.{Found}
use Rattle.deny_spec.specs.declared.package.Found.TheVariants.{Failed, Kind, Sum, Unasked}
use Rattle.deny_spec.specs.declared.package.NativeKind.{NativeKind}
use Rattle.deny_spec.specs.declared.package.NativeKind.TheVariants.{Archive, Elf, Mach, Pe}
use Rattle.deny_spec.specs.declared.package.Package.{Package}
use Rattle.deny_spec.specs.declared.package.PackageFile.{PackageFile}
use Rattle.deny_spec.specs.declared.package.Seen.{Seen}
use Rattle.deny_spec.specs.Policy as policy
use Rattle.deny_spec.specs.Text.{same_text}
use Rattle.deny_spec.specs.DiagParts.{crate_at, kid_at, of_crate, primary, secondary}
use Rattle.deny_spec.specs.Wrappers.{same_span}
use Rattle.deny_spec_report.specs.BuildScripts.{required_enabled, script_found, used}
use Rattle.deny_spec_report.specs.Circumstances.{Circumstances, FileNumbers}
use Rattle.deny_spec_report.specs.PackageFiles.{globs_of, is_decided_by}
use Rattle.deny_spec_report.specs.Packages.{script_shown}
use Rattle.deny_spec_report.specs.MessageParts.{not_built, plainly}
use Rattle.deny_spec_report.specs.declared.message.Message.{Message}

-- ---- notes

abbrev pub quoted : List ℕ → List ℕ → List ℕ
quoted name text = name ++ (codes " = '" ++ (text ++ codes "'"))

abbrev pub path_note : Key → List ℕ
path_note key = quoted (codes "path") key.text

-- why something was not read
abbrev pub failure_text : Failure → List ℕ
failure_text Unreadable = codes "the file could not be read"
failure_text Long = codes "the file has 1099511627776 bytes or more"
failure_text Unlisted = codes "the folder could not be listed"
failure_text Crowded = codes "the package has more than 16777216 entries"

-- why a checksum is not the one that is expected
abbrev pub mismatch_text : Found → List ℕ
mismatch_text Unasked = []
mismatch_text (Sum sum) = codes "calculated different checksum " ++ encode_lower sum
mismatch_text (Kind kind) = []
mismatch_text (Failed failure) = failure_text failure

abbrev pub kind_text : NativeKind → List ℕ
kind_text Elf = codes "elf"
kind_text Pe = codes "pe"
kind_text Mach = codes "mach"
kind_text Archive = codes "archive"

abbrev pub executable_note : ExecutableKind → List ℕ
executable_note (Native kind) = quoted (codes "executable-kind") (kind_text kind)
executable_note (Interpreted name) = quoted (codes "interpreter") name

-- ---- what a key is about

-- the first file of a package with this shown path
unfoldable pub file_shown : Package → List ℕ → Option PackageFile
file_shown contents shown = find (λ file. same_text file.seen.shown shown) contents.files

unfoldable pub folder_shown : Package → List ℕ → Option Seen
folder_shown contents shown = find (λ seen. same_text seen.shown shown) contents.unlisted

abbrev pub package_of_key : Circumstances → Key → Package
package_of_key c key = package_at c.packages key.place

abbrev pub file_of_key : Circumstances → Key → Option PackageFile
file_of_key c key = file_shown (package_of_key c key) key.text

abbrev pub found_of_file : Option PackageFile → Found
found_of_file file = option_map_or (λ f. f.seen.found) file Unasked

-- the bypass of the crate of a key
abbrev pub used_by_key : Building → Circumstances → Key → Option Bypass
used_by_key b c key = option_and_then (used b) (crate_at c.graph key.place)

-- a span is that of the checksum of a bypass's script
abbrev pub is_sum_of_script : Span → Bypass → Bool
is_sum_of_script span y = option_map_or (λ sum. same_span sum.span span) y.script false

unfoldable pub is_script_sum : Building → Span → Bool
is_script_sum b span = list_any (is_sum_of_script span) b.bypass

-- ---- labels

abbrev pub glob_label : ℕ → policy.SpannedText → Label
glob_label file w = secondary file w.span []

-- the label of a glob of scripts, in the file of the built-in globs where it is built in
abbrev pub script_glob_label : FileNumbers → ScriptGlob → Label
script_glob_label files e = if e.built_in
    then secondary (option_map_or (λ number. number) files.globs 0) e.span (codes "builtin")
    else secondary files.policy e.span []

-- ---- messages

-- the message about a file, with a note of its path and these notes
abbrev pub of_path : Severity → List ℕ → List Label → List (List ℕ) → Circumstances → Key → Message
of_path severity message labels notes c key = record (plainly severity message labels (kid_at c.graph key.place)) {
  notes = path_note key ∷ notes;
}

unfoldable pub path_bypassed_diag : Circumstances → Key → Message
path_bypassed_diag c key = plainly severity.Help (codes "file explicitly allowed")
    (primary c.files.policy key.entry (codes "allowed path") ∷ []) (kid_at c.graph key.place)

-- the globs of a bypass that decide of a file, and those of scripts
abbrev pub own_globs : Option Bypass → PackageFile → List policy.SpannedText
own_globs used f = filter (λ w. is_decided_by f w.value) (globs_of used)

abbrev pub script_globs : Building → PackageFile → List ScriptGlob
script_globs b f = filter (λ e. is_decided_by f e.text) b.extensions

abbrev pub glob_labels : Building → Circumstances → Key → PackageFile → List Label
glob_labels b c key f = map (glob_label c.files.policy) (own_globs (used_by_key b c key) f)

unfoldable pub bypassed_by_glob_diag : Building → Circumstances → Key → Message
bypassed_by_glob_diag b c key = of_path severity.Help (codes "file allowed by glob")
    (option_map_or (glob_labels b c key) (file_of_key c key) []) [] c key

unfoldable pub checksum_match_diag : Circumstances → Key → Message
checksum_match_diag c key = of_path severity.Help (codes "file checksum matched")
    (primary c.files.policy key.entry (codes "checksum") ∷ []) [] c key

abbrev pub script_failed : Found → List ℕ
script_failed Unasked = []
script_failed (Sum sum) = []
script_failed (Kind kind) = []
script_failed (Failed failure) = codes "build script failed checksum: "

-- why the checksum of a script or of a file does not match
unfoldable pub mismatch_note : Building → Circumstances → Key → List ℕ
mismatch_note b c key = if is_script_sum b key.entry
    then script_failed (script_found (package_of_key c key)) ++ mismatch_text (script_found (package_of_key c key))
    else mismatch_text (found_of_file (file_of_key c key))

unfoldable pub mismatch_severity : Building → Key → Severity
mismatch_severity b key = if is_script_sum b key.entry then severity.Warning else severity.Error

unfoldable pub checksum_mismatch_diag : Building → Circumstances → Key → Message
checksum_mismatch_diag b c key = of_path (mismatch_severity b key)
    (codes "file did not match the expected checksum")
    (primary c.files.policy key.entry (codes "expected checksum") ∷ [])
    (quoted (codes "error") (mismatch_note b c key) ∷ []) c key

abbrev pub extension_labels : Building → Circumstances → PackageFile → List Label
extension_labels b c f = map (script_glob_label c.files) (script_globs b f)

unfoldable pub denied_by_extension_diag : Building → Circumstances → Key → Message
denied_by_extension_diag b c key = of_path severity.Error (codes "path disallowed by extension")
    (option_map_or (extension_labels b c) (file_of_key c key) []) [] c key

abbrev pub kind_notes : Found → List (List ℕ)
kind_notes Unasked = []
kind_notes (Sum sum) = []
kind_notes (Kind None) = []
kind_notes (Kind (Some kind)) = executable_note kind ∷ []
kind_notes (Failed failure) = []

unfoldable pub detected_diag : Severity → Circumstances → Key → Message
detected_diag severity c key =
    of_path severity (codes "detected executable") [] (kind_notes (found_of_file (file_of_key c key))) c key

abbrev pub failure_notes : Found → List (List ℕ)
failure_notes Unasked = []
failure_notes (Sum sum) = []
failure_notes (Kind kind) = []
failure_notes (Failed failure) = (codes "error = " ++ failure_text failure) ∷ []

-- what was found of the file with the key's path, or of the folder
abbrev pub found_at : Circumstances → Key → Found
found_at c key = option_map_or (λ f. f.seen.found) (file_of_key c key)
    (option_map_or (λ seen. seen.found) (folder_shown (package_of_key c key) key.text) Unasked)

unfoldable pub unable_to_check_diag : Circumstances → Key → Message
unable_to_check_diag c key = record
    (plainly severity.Error (codes "unable to check if path is an executable") [] (kid_at c.graph key.place)) {
      notes = (codes "path = " ++ key.text) ∷ failure_notes (found_at c key);
    }

-- notes of the path and the checksum of a script, where it was read
abbrev pub script_notes : List ℕ → Found → List (List ℕ)
script_notes shown Unasked = []
script_notes shown (Sum sum) = quoted (codes "path") shown ∷ quoted (codes "checksum") (encode_lower sum) ∷ []
script_notes shown (Kind kind) = []
script_notes shown (Failed failure) = []

unfoldable pub script_denied_diag : Circumstances → Key → Message
script_denied_diag c key = record
    (plainly severity.Error
    (of_crate (codes "crate '") c.graph key (codes "' has a build script but is not allowed to have one"))
    [] (kid_at c.graph key.place)) {
      notes = script_notes (script_shown (package_of_key c key)) (script_found (package_of_key c key));
    }

abbrev pub enabled_by_key : Building → Circumstances → Key → List policy.SpannedText
enabled_by_key b c key = option_map_or (required_enabled b) (crate_at c.graph key.place) []

unfoldable pub features_enabled_diag : Building → Circumstances → Key → Message
features_enabled_diag b c key = plainly severity.Note
    (decimal (length (enabled_by_key b c key))
    ++ codes " features enabled for crate with build script, checking sources")
    (map (glob_label c.files.policy) (enabled_by_key b c key)) (kid_at c.graph key.place)

unfoldable pub unmatched_path_diag : Circumstances → Key → Message
unmatched_path_diag c key = plainly severity.Warning (codes "allowed path was not encountered")
    (primary c.files.policy key.entry [] ∷ []) (kid_at c.graph key.place)

unfoldable pub unmatched_glob_diag : Circumstances → Key → Message
unmatched_glob_diag c key = plainly severity.Warning (codes "glob was not encountered")
    (primary c.files.policy key.entry [] ∷ []) (kid_at c.graph key.place)

unfoldable pub unmatched_bypass_diag : ℕ → Key → Message
unmatched_bypass_diag file key = plainly severity.Warning (codes "crate build bypass was not encountered")
    (primary file key.entry (codes "unmatched bypass") ∷ []) None

unfoldable pub deprecated_diag : ℕ → Key → Message
deprecated_diag file key = plainly severity.Warning
    (codes "[bans.allow-build-scripts] has been deprecated in favor of [bans.build.allow-build-scripts], "
    ++ codes "this will become an error in the future")
    (primary file key.entry [] ∷ []) None

-- ---- messages of a policy that may say nothing of builds

abbrev pub build_diag : (Building → Circumstances → Key → Message) → Circumstances → Key → Message
build_diag diag c key = option_map_or (λ b. diag b c key) c.building not_built

-- an interpreted file is reported at the policy's level for it
abbrev pub script_diag : Building → Circumstances → Key → Message
script_diag b c key = detected_diag (severity_of b.interpreted) c key

-- the features that bypasses require
abbrev pub required_features : Option Building → List policy.SpannedText
required_features building = option_map_or (λ b. flat_map (λ y. y.required) b.bypass) building []
