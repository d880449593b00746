-- The texts of globs, and sets of them.
use Rattle.std.specs.Prelude.{ℕ, Bool, List, Option, is_some, map}
use Rattle.std.specs.FinMap as finite
use Rattle.std.specs.List.{list_any}
use Rattle.deny_cfg_build.specs.BuildingView.{words_of}
use Rattle.deny_cfg_build.specs.declared.pattern.GlobPattern.{GlobPattern}
use Rattle.deny_spec.specs.Building.{Building, Bypass}
use Rattle.deny_spec.specs.declared.package.PackageFile.{PackageFile}
use Rattle.deny_spec_report.specs.PackageFiles.{globs_of}
use Rattle.deny_base_lists.specs.TextMap.{TextFinMap}
pub use Rattle.deny_spec.specs.TextSets.{IsSetOf}

-- the globs of a bypass, and those of script extensions
abbrev pub own_texts : Option Bypass → List (List ℕ)
own_texts used = map (λ w. w.value) (globs_of used)

abbrev pub script_texts : Building → List (List ℕ)
script_texts b = map (λ e. e.text) b.extensions

-- a file is decided by one of the globs of a set
abbrev pub decides : TextFinMap Bool → PackageFile → Bool
decides set file = list_any (λ glob. is_some (finite.get set glob)) file.globs

-- the text of a pattern
abbrev pub pattern_text : GlobPattern → List ℕ
pattern_text pattern = (words_of pattern).value
