-- Policies on builds, crates with targets, and packages of worked cases.
use Rattle.std.proofs.Common.{◌+◌, ◌++◌, ℕ, Bool, true, false, List, [], ◌∷◌, None, Some, codes}
use Rattle.std.specs.Prelude.{⊤}
use Rattle.std.specs.FinMap as finite
use Rattle.std.specs.Fmt.{digits}
use Rattle.deny_base.specs.declared.level.LintLevel.TheVariants.{Allow, Deny}
use Rattle.deny_spec.specs.Building.{AllowedPath, Building, Bypass, ScriptGlob}
use Rattle.deny_spec.specs.Paths.{components, same_path}
use Rattle.deny_spec.specs.Unseen.{unseen_package}
use Rattle.deny_spec.specs.declared.package.Found.{Found}
use Rattle.deny_spec.specs.declared.package.Found.TheVariants.{Kind}
use Rattle.deny_spec.specs.declared.package.Package.{Package}
use Rattle.deny_spec.specs.declared.package.PackageFile.{PackageFile}
use Rattle.deny_spec.specs.declared.package.Seen.{Seen}
use Rattle.deny_spec.specs.Graph.{Crate, Graph}
use Rattle.deny_spec.specs.Keys.{key_of}
use Rattle.deny_spec.specs.Match.{matches}
use Rattle.deny_spec.specs.Policy.{Spec}
use Rattle.deny_krates_reach.specs.Reached.{executes_at_build_time, is_executed_kind}
use Rattle.deny_spec_report.specs.BuildScripts.{asks_script, is_checked, is_script, is_script_denied, is_script_ok}
use Rattle.deny_spec_report.specs.BuildScripts.{is_script_right, is_walked, may_have_script, passes_by_script}
use Rattle.deny_spec_report.specs.BuildScripts.{required_enabled, required_unknown, script_of, used, uses, wanted_sum}
use Rattle.deny_spec_report.specs.Features.{is_enabled}
use Rattle.deny_spec_report.specs.Members.{is_member}
use Rattle.deny_spec_report.specs.PackageFiles.{class_of, hits_glob, hits_path, is_decided_by, path_of, step_of}
use Rattle.deny_spec_report.specs.Packages.{Scanning, bypass_hit, bypass_hits_of, denied_script_keys, file_hit}
use Rattle.deny_spec_report.specs.Packages.{file_hit_at}
use Rattle.deny_spec_report.specs.Packages.{file_keys, glob_hit, is_used, meets_file, package_keys, path_hit, path_key}
use Rattle.deny_spec_report.specs.Packages.{right_script_keys, script_keys, sum_keys, unmatched_bypass_keys}
use Rattle.deny_spec_report.specs.Packages.{unmatched_glob_keys, unmatched_keys, unmatched_path_keys, walked_keys}
use Rattle.deny_spec_report.proofs.Cases.{crate, graph, on_cases, span, spec_at, spanned_at}

-- ---- crates

-- a crate with a target of each of these kinds
unfoldable pub with_targets : List (List ℕ) → Crate → Crate
with_targets [] c = record c { targets = [] }
with_targets (kind ∷ kinds) c = record c {
  targets = record { kind = kind ∷ []; src_path = codes "/r/p/x.rs" } ∷ (with_targets kinds c).targets;
}

-- a crate of a folder that is a procedural macro, and one that has a build script
unfoldable pub macro : ℕ → List ℕ → ℕ → Crate
macro place name major = with_targets (codes "proc-macro" ∷ []) (crate place name major)

unfoldable pub scripted : ℕ → List ℕ → ℕ → Crate
scripted place name major = with_targets (codes "lib" ∷ codes "custom-build" ∷ []) (crate place name major)

-- a crate with these features, some of which are enabled
unfoldable pub featured : List (List ℕ × List (List ℕ)) → List (List ℕ) → Crate → Crate
featured table enabled c = record c { features = finite.from_entries table; enabled = enabled }

-- the member `app` and other crates
unfoldable pub beside : List Crate → Graph
beside crates = graph crates []

-- ---- what a policy says

-- a policy that denies executables, and lets every crate have a build script
unfoldable pub checking : Building
checking = record {
  scripts = None;
  executables = Deny;
  interpreted = Allow;
  extensions = [];
  bypass = [];
  with_dependencies = false;
  with_workspace = false;
  with_archives = false;
  older_key = None;
}

-- a list of the crates that may have one
unfoldable pub listing : List Spec → Building → Building
listing specs b = record b { scripts = Some specs }

-- crates of a name may pass so
unfoldable pub bypass_of : List ℕ → ℕ → Bypass
bypass_of name start = record {
  spec = spec_at name start;
  script = None;
  required = [];
  globs = [];
  allow = [];
}

-- two checksums: they have 32 bytes, and rules only compare them
unfoldable pub one_sum : List ℕ
one_sum = 1 ∷ 171 ∷ []

unfoldable pub other_sum : List ℕ
other_sum = 2 ∷ 16 ∷ []

unfoldable pub with_sum : ℕ → Bypass → Bypass
with_sum start y = record y { script = Some (spanned_at one_sum start) }

unfoldable pub path_at : List ℕ → ℕ → AllowedPath
path_at path start = record { path = spanned_at path start; checksum = None }

-- an allowed path with a checksum, 5 bytes later
unfoldable pub path_with_sum : List ℕ → ℕ → AllowedPath
path_with_sum path start = record { path = spanned_at path start; checksum = Some (spanned_at one_sum (start + 5)) }

unfoldable pub script_glob : List ℕ → ℕ → Bool → ScriptGlob
script_glob text start built_in = record { text = text; span = span start; built_in = built_in }

-- ---- what was seen

unfoldable pub seen_as : List ℕ → Found → Seen
seen_as shown found = record { shown = shown; found = found }

-- a file of a crate's folder, of which these globs decide
unfoldable pub file_of : List ℕ → List (List ℕ) → Found → PackageFile
file_of path globs found = record { path = path; globs = globs; seen = seen_as (codes "$crate/" ++ path) found }

unfoldable pub harmless : List ℕ → PackageFile
harmless path = file_of path [] (Kind None)

-- a package with a script, and one with files
unfoldable pub with_script : Found → Package
with_script found = record unseen_package { script = Some (seen_as (codes "$crate/x.rs") found) }

unfoldable pub with_files : List PackageFile → Package
with_files files = record unseen_package { files = files }

-- ---- what the rules read

-- none leads to build time
unfoldable pub nowhere : Crate → Bool
nowhere c = false

unfoldable pub everywhere : Crate → Bool
everywhere c = true

-- `app` and other crates with packages, of the first of which nothing was seen
unfoldable pub over : Building → List Crate → List Package → Scanning
over b crates packages = record {
  building = b;
  graph = beside crates;
  packages = unseen_package ∷ packages;
  reached = nowhere;
}

-- ---- what a row unfolds

unfoldable pub builds_on_cases : ⊤
unfolding on_cases digits with_targets macro scripted featured beside checking listing bypass_of one_sum other_sum
    with_sum path_at path_with_sum script_glob seen_as file_of harmless with_script with_files nowhere everywhere over
    components same_path key_of matches executes_at_build_time is_executed_kind is_member is_enabled
    asks_script is_checked is_script is_script_denied is_script_ok is_script_right is_walked may_have_script
    passes_by_script required_enabled required_unknown script_of used uses wanted_sum class_of hits_glob hits_path
    is_decided_by path_of step_of bypass_hit bypass_hits_of denied_script_keys file_hit file_hit_at file_keys glob_hit
    is_used meets_file package_keys path_hit path_key right_script_keys script_keys sum_keys unmatched_bypass_keys
    unmatched_glob_keys unmatched_keys unmatched_path_keys walked_keys
builds_on_cases = tt
