-- What failed in packages: entries say that something was not read, failures say how.
use Rattle.std.specs.Prelude.{ℕ, ◌+◌, List, [], ◌∷◌, ◌++◌, Option, sum_by}
use Rattle.std.specs.List.{flat_map}
use Rattle.std.specs.Option.{option_map_or}
use Rattle.deny_spec.specs.declared.package.Failure.{Failure}
use Rattle.deny_spec.specs.declared.package.Failure.TheVariants.{Crowded, Long, Unlisted, Unreadable}
use Rattle.deny_spec.specs.declared.package.Found.{Found}
use Rattle.deny_spec.specs.declared.package.Found.TheVariants.{Failed, Kind, Sum, Unasked}
use Rattle.deny_spec.specs.declared.package.Package.{Package}
use Rattle.deny_spec.specs.declared.package.PackageFile.{PackageFile}
use Rattle.deny_spec.specs.declared.package.Seen.{Seen}

abbrev pub failures_of : Found → List Failure
failures_of Unasked = []
failures_of (Sum sum) = []
failures_of (Kind kind) = []
failures_of (Failed failure) = failure ∷ []

-- the failures of the script, the folders and the files of a package
unfoldable pub package_failures : Package → List Failure
package_failures contents =
    option_map_or (λ seen. failures_of seen.found) contents.script []
    ++ (flat_map (λ (seen : Seen). failures_of seen.found) contents.unlisted
    ++ flat_map (λ (file : PackageFile). failures_of file.seen.found) contents.files)

abbrev pub failures_in : List Package → List Failure
failures_in packages = flat_map package_failures packages

-- how many calls failed, at most, where something was not read for this reason
abbrev pub failed_calls : Failure → ℕ
failed_calls Unreadable = 1
failed_calls Long = 0
failed_calls Unlisted = 1
failed_calls Crowded = 0

-- how many calls failed, at most, where this was found
abbrev pub calls_of : Found → ℕ
calls_of Unasked = 0
calls_of (Sum sum) = 0
calls_of (Kind kind) = 0
calls_of (Failed failure) = failed_calls failure

-- how many calls failed, at most, for the script, the folders and the files of a package
abbrev pub calls_for_script : Option Seen → ℕ
calls_for_script script = option_map_or (λ seen. calls_of seen.found) script 0

abbrev pub calls_for_folders : List Seen → ℕ
calls_for_folders unlisted = sum_by (λ seen. calls_of seen.found) unlisted

abbrev pub calls_for_files : List PackageFile → ℕ
calls_for_files files = sum_by (λ file. calls_of file.seen.found) files

abbrev pub calls_for : Package → ℕ
calls_for contents = calls_for_script contents.script
    + (calls_for_folders contents.unlisted + calls_for_files contents.files)
