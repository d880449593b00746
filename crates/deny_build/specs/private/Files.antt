-- The finding of a file: a code, and the span of an entry.
use Rattle.std.specs.Prelude.{ℕ, Bool, List, [], ◌∷◌, Option, None, Some}
use Rattle.deny_base.specs.declared.code.Code.{Code}
use Rattle.deny_base.specs.declared.code.Code.TheVariants as code
use Rattle.deny_base.specs.declared.key.Key.{Key}
use Rattle.deny_base.specs.declared.span.Span.{Span}
use Rattle.deny_spec_report.specs.PackageFiles.{Class, ChecksumMatch, ChecksumMismatch, DeniedByExtension}
use Rattle.deny_spec_report.specs.PackageFiles.{DetectedExecutable}
use Rattle.deny_spec_report.specs.PackageFiles.{DetectedExecutableScript, Harmless, PathBypassed, PathBypassedByGlob}
use Rattle.deny_spec_report.specs.PackageFiles.{UnableToCheckPath, class_by, step_by}
use Rattle.deny_spec_report.specs.Packages.{path_key}
use Rattle.deny_base_lists.specs.TextMap.{TextFinMap}
use Rattle.deny_spec.specs.Keys.{no_span}
use Rattle.deny_build.specs.declared.files.FileFinding.{FileFinding}
use Rattle.deny_build.specs.private.Globs.{decides}
use Rattle.deny_build.specs.private.FileMatch.{MatchedFile}

abbrev pub finding : Code → Span → Option FileFinding
finding code entry = Some (record { code = code; entry = entry })

-- the finding of a file by its class; none of a harmless file
abbrev pub finding_by : Class → Option FileFinding
finding_by (PathBypassed span) = finding code.PathBypassed span
finding_by PathBypassedByGlob = finding code.PathBypassedByGlob no_span
finding_by (ChecksumMatch span) = finding code.ChecksumMatch span
finding_by (ChecksumMismatch span) = finding code.ChecksumMismatch span
finding_by DeniedByExtension = finding code.DeniedByExtension no_span
finding_by UnableToCheckPath = finding code.UnableToCheckPath no_span
finding_by DetectedExecutable = finding code.DetectedExecutable no_span
finding_by DetectedExecutableScript = finding code.DetectedExecutableScript no_span
finding_by Harmless = None

abbrev pub finding_keys : ℕ → List ℕ → Option FileFinding → List Key
finding_keys place shown None = []
finding_keys place shown (Some one) = path_key one.code place one.entry shown ∷ []

-- the keys of a file, by the sets of the globs of its crate's bypass and of those of scripts
unfoldable pub matched_keys : TextFinMap Bool → TextFinMap Bool → ℕ → MatchedFile → List Key
matched_keys own scripts place m = finding_keys place m.file.seen.shown (finding_by (class_by
    (step_by m.path (decides own m.file) (decides scripts m.file)) m.file.seen.found))
