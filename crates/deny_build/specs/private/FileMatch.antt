-- The files of crates with the paths of a bypass that match them.
use Rattle.std.specs.BTreeMap as tree
use Rattle.std.specs.BTreeMap.{BTreeMap}
use Rattle.std.specs.Prelude.{ℕ, ◌≡◌, ◌&&◌, Bool, false, List, Option, None, Some, find, map, option_map, slice_get}
use Rattle.std.specs.Option.{option_map_or}
use Rattle.deny_base.specs.KeyOrder.{span_cmp}
use Rattle.deny_base.specs.declared.span.Kid.{Kid}
use Rattle.deny_base.specs.declared.span.Span.{Span}
use Rattle.deny_cfg_build.specs.BuildingView.{path_view}
use Rattle.deny_spec.specs.Building.{AllowedPath, Bypass}
use Rattle.deny_spec.specs.declared.package.PackageFile.{PackageFile}
use Rattle.deny_spec_report.specs.PackageFiles.{is_decided_by, leaves_to_globs, path_of_used, path_span}
use Rattle.deny_spec.specs.Wrappers.{same_span}
use Rattle.deny_build.specs.declared.matched.FileMatch.{FileMatch}

-- a file of the crate with this id, and the first allowed path that matches it
pub record MatchedFile : Type 0 where
  pub kid : Kid
  pub file : PackageFile
  pub path : Option AllowedPath

abbrev pub matched_view : FileMatch → MatchedFile
matched_view m = record { kid = m.kid.now; file = m.file.now; path = option_map (λ a. path_view a.now) m.path }

-- a file with the path that matches it, of a crate with this bypass, if it has one
unfoldable pub matched_by : Option Bypass → Kid → PackageFile → MatchedFile
matched_by used kid file = record { kid = kid; file = file; path = path_of_used used file.path }

abbrev pub all_matched : Option Bypass → Kid → List PackageFile → List MatchedFile
all_matched used kid files = map (matched_by used kid) files

-- the path that matches the file has this span
unfoldable pub matches_path : Span → MatchedFile → Bool
matches_path span m = option_map_or (λ a. same_span (path_span a) span) m.path false

-- a glob of this text lets the file pass
unfoldable pub matches_glob : List ℕ → MatchedFile → Bool
matches_glob glob m = leaves_to_globs m.path && is_decided_by m.file glob

-- the file at the index is the first that passes; without an index none passes
abbrev pub IsFirstAt : (MatchedFile → Bool) → List MatchedFile → Option ℕ → Type 0
IsFirstAt test all None = find test all ≡ None
IsFirstAt test all (Some number) = (m : MatchedFile) × (slice_get all number ≡ Some m) × (find test all ≡ Some m)

-- a span that is looked up equals one that is there
abbrev pub is_same_span : Span → Span → Bool
is_same_span asked span = same_span span asked

-- the index that the map has for a span
abbrev pub number_at : BTreeMap Span ℕ → Span → Option ℕ
number_at firsts span = tree.get span_cmp firsts span
