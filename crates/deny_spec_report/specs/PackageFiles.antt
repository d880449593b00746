-- The files of a package: which rule decides on each, and how.
use Rattle.std.specs.Prelude.{ℕ, ◌&&◌, Bool, true, is_some, List, [], Option, None, Some, option_and_then}
use Rattle.std.specs.Prelude.{if◌then◌else◌}
use Rattle.std.specs.List.{list_any}
use Rattle.deny_base.specs.declared.span.Span.{Span}
use Rattle.deny_base.specs.declared.span.Spanned.{Spanned}
use Rattle.deny_spec.specs.Building.{AllowedPath, Building, Bypass}
use Rattle.deny_spec.specs.Paths.{same_path}
use Rattle.deny_spec.specs.declared.package.ExecutableKind.{ExecutableKind}
use Rattle.deny_spec.specs.declared.package.ExecutableKind.TheVariants.{Interpreted, Native}
use Rattle.deny_spec.specs.declared.package.Found.{Found}
use Rattle.deny_spec.specs.declared.package.Found.TheVariants.{Failed, Kind, Sum, Unasked}
use Rattle.deny_spec.specs.declared.package.PackageFile.{PackageFile}
use Rattle.deny_spec.specs.Policy as policy
use Rattle.deny_spec.specs.Text.{same_text}
use Rattle.deny_spec_report.specs.BuildScripts.{has_sum}
use Rattle.deny_spec_report.specs.FirstMatch.{first_of, is_first}

-- ---- the allowed path and the globs of a file

abbrev pub path_span : AllowedPath → Span
path_span a = a.path.span

abbrev pub allows : AllowedPath → List ℕ → Bool
allows a path = same_path a.path.value path

-- the first of the paths that a bypass allows with the same components
unfoldable pub path_of : Bypass → List ℕ → Option AllowedPath
path_of y path = first_of allows y.allow path

abbrev pub path_of_used : Option Bypass → List ℕ → Option AllowedPath
path_of_used used path = option_and_then (λ y. path_of y path) used

abbrev pub globs_of : Option Bypass → List policy.SpannedText
globs_of None = []
globs_of (Some y) = y.globs

-- ---- which rule decides

pub data Step : Type 0 where
  -- an allowed path with this span, without a checksum
  ByPath : Span → Step
  -- globs of the bypass
  ByGlob : Step
  -- an allowed path, by its checksum
  BySum : Spanned (List ℕ) → Step
  -- globs of scripts
  ByExtension : Step
  -- the first bytes of the file
  ByHeader : Step

-- an allowed path without a checksum decides first, then globs, and then an allowed path by its checksum
abbrev pub step_allowed : AllowedPath → Bool → Option (Spanned (List ℕ)) → Step
step_allowed a by_glob None = ByPath (path_span a)
step_allowed a by_glob (Some sum) = if by_glob then ByGlob else BySum sum

abbrev pub step_by : Option AllowedPath → Bool → Bool → Step
step_by None by_glob by_extension = if by_glob then ByGlob else (if by_extension then ByExtension else ByHeader)
step_by (Some a) by_glob by_extension = step_allowed a by_glob a.checksum

-- whether a glob of the bypass passes a test; and below, whether a glob of scripts does
abbrev pub fits_own : (List ℕ → Bool) → Option Bypass → Bool
fits_own fits used = list_any (λ w. fits w.value) (globs_of used)

abbrev pub fits_script : (List ℕ → Bool) → Building → Bool
fits_script fits b = list_any (λ e. fits e.text) b.extensions

-- the rule that decides on the file at a path of a crate with a bypass, by the test of which globs match the path
unfoldable pub step_of : Building → Option Bypass → List ℕ → (List ℕ → Bool) → Step
step_of b used path fits = step_by (path_of_used used path) (fits_own fits used) (fits_script fits b)

-- a glob is one of those that match a file, by their texts
unfoldable pub is_decided_by : PackageFile → List ℕ → Bool
is_decided_by file glob = list_any (same_text glob) file.globs

-- ---- what was decided

pub data Class : Type 0 where
  PathBypassed : Span → Class
  PathBypassedByGlob : Class
  ChecksumMatch : Span → Class
  ChecksumMismatch : Span → Class
  DeniedByExtension : Class
  UnableToCheckPath : Class
  DetectedExecutable : Class
  DetectedExecutableScript : Class
  Harmless : Class

abbrev pub class_of_kind : Option ExecutableKind → Class
class_of_kind None = Harmless
class_of_kind (Some (Native kind)) = DetectedExecutable
class_of_kind (Some (Interpreted name)) = DetectedExecutableScript

abbrev pub class_by_header : Found → Class
class_by_header Unasked = Harmless
class_by_header (Sum sum) = Harmless
class_by_header (Kind kind) = class_of_kind kind
class_by_header (Failed failure) = UnableToCheckPath

abbrev pub class_by : Step → Found → Class
class_by (ByPath span) found = PathBypassed span
class_by ByGlob found = PathBypassedByGlob
class_by (BySum sum) found = if has_sum sum.value found then ChecksumMatch sum.span else ChecksumMismatch sum.span
class_by ByExtension found = DeniedByExtension
class_by ByHeader found = class_by_header found

unfoldable pub class_of : Building → Option Bypass → PackageFile → Class
class_of b used file = class_by (step_of b used file.path (is_decided_by file)) file.seen.found

-- ---- which entries a file hits

-- a file hits the first allowed path with its components
unfoldable pub hits_path : Bypass → AllowedPath → PackageFile → Bool
hits_path y a file = is_first path_span allows y.allow a file.path

-- no allowed path without a checksum decides first
abbrev pub leaves_to_globs : Option AllowedPath → Bool
leaves_to_globs None = true
leaves_to_globs (Some a) = is_some a.checksum

unfoldable pub hits_glob : Bypass → policy.SpannedText → PackageFile → Bool
hits_glob y w file = leaves_to_globs (path_of y file.path) && is_decided_by file w.value
