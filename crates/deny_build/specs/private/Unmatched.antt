-- The keys of allowed paths and globs that match none of some files.
use Rattle.std.specs.BTreeMap.{BTreeMap}
use Rattle.std.specs.Prelude.{ℕ, ◌++◌, Bool, List, filter, is_some, map, not}
use Rattle.std.specs.List.{list_any}
use Rattle.deny_base.specs.declared.code.Code.TheVariants as code
use Rattle.deny_base.specs.declared.key.Key.{Key}
use Rattle.deny_base.specs.declared.span.Span.{Span}
use Rattle.deny_spec.specs.Building.{AllowedPath, Bypass}
use Rattle.deny_spec_report.specs.PackageFiles.{path_span}
use Rattle.deny_spec.specs.Keys.{crate_key}
use Rattle.deny_spec.specs.Policy.{SpannedText}
use Rattle.deny_build.specs.private.FileMatch.{MatchedFile, matches_glob, matches_path, number_at}

unfoldable pub missed_path_keys : ℕ → List MatchedFile → List AllowedPath → List Key
missed_path_keys place all paths = map (λ a. crate_key code.UnmatchedPathBypass place (path_span a))
    (filter (λ a. not (list_any (matches_path (path_span a)) all)) paths)

unfoldable pub missed_glob_keys : ℕ → List MatchedFile → List SpannedText → List Key
missed_glob_keys place all globs = map (λ w. crate_key code.UnmatchedGlob place w.span)
    (filter (λ w. not (list_any (matches_glob w.value) all)) globs)

abbrev pub missed_keys : ℕ → List MatchedFile → Bypass → List Key
missed_keys place all y = missed_path_keys place all y.allow ++ missed_glob_keys place all y.globs

-- the map has an index for the span of an allowed path
unfoldable pub is_path_matched : BTreeMap Span ℕ → AllowedPath → Bool
is_path_matched firsts a = is_some (number_at firsts (path_span a))
