-- Hits, by the files that are their witnesses.
use Rattle.std.specs.Prelude.{List, Option, find, option_map}
use Rattle.deny_base.specs.declared.entry.EntryKind.{EntryKind}
use Rattle.deny_base.specs.declared.entry.EntryKind.TheVariants.{BypassGlob, BypassPath}
use Rattle.deny_base.specs.declared.entry.Hit.{Hit}
use Rattle.deny_base.specs.declared.entry.Witness.TheVariants.{File}
use Rattle.deny_base.specs.declared.span.Span.{Span}
use Rattle.deny_spec.specs.Building.{AllowedPath}
use Rattle.deny_spec_report.specs.PackageFiles.{path_span}
use Rattle.deny_spec.specs.Hits.{hit_of}
use Rattle.deny_spec.specs.Policy.{SpannedText}
use Rattle.deny_build.specs.private.FileMatch.{MatchedFile, matches_glob, matches_path}

abbrev pub hit_by : EntryKind → Span → MatchedFile → Hit
hit_by kind span m = hit_of kind span (File m.kid m.file.path)

unfoldable pub path_hit_in : List MatchedFile → AllowedPath → Option Hit
path_hit_in all a = option_map (hit_by BypassPath (path_span a)) (find (matches_path (path_span a)) all)

unfoldable pub glob_hit_in : List MatchedFile → SpannedText → Option Hit
glob_hit_in all w = option_map (hit_by BypassGlob w.span) (find (matches_glob w.value) all)
