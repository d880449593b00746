-- The table `build` as the rules see it.
use Rattle.std.specs.Prelude.{ℕ, Bool, true, false, List, [], ◌∷◌, Option, None, Some, map, option_map}
use Rattle.deny_base.specs.declared.span.Spanned.{Spanned}
use Rattle.deny_spec.specs.Building.{AllowedPath, Building, Bypass, ScriptGlob}
use Rattle.deny_cfg_entries.specs.SpecView.{spec_view}
use Rattle.deny_spec.specs.Policy.{SpannedText}
use Rattle.deny_cfg_tables.specs.declared.bans.cfg.bypass.BypassPath.{BypassPath}
use Rattle.deny_cfg_tables.specs.declared.bans.cfg.checksum.Checksum.{Checksum}
use Rattle.deny_cfg_build.specs.Globs.{extension_text}
use Rattle.deny_cfg_build.specs.declared.glob_set.ValidGlobSet.{ValidGlobSet}
use Rattle.deny_cfg_build.specs.declared.pattern.GlobPattern.{GlobPattern}
use Rattle.deny_cfg_build.specs.declared.pattern.GlobPattern.TheVariants.{Builtin, User}
use Rattle.deny_cfg_build.specs.declared.valid.ValidBuildConfig.{ValidBuildConfig}
use Rattle.deny_cfg_build.specs.declared.valid.ValidBypass.{ValidBypass}

-- the bytes of a checksum, with its span
abbrev pub checksum_view : Spanned Checksum → Spanned (List ℕ)
checksum_view sum = record { value = sum.value.0; span = sum.span }

abbrev pub path_view : BypassPath → AllowedPath
path_view file = record { path = file.path; checksum = option_map checksum_view file.checksum }

-- the text of a pattern, with its span
abbrev pub words_of : GlobPattern → SpannedText
words_of (Builtin glob) = glob.0
words_of (User glob) = glob

-- the globs of an entry of `bypass`, which may have none
abbrev pub globs_view : Option ValidGlobSet → List SpannedText
globs_view None = []
globs_view (Some globs) = map words_of globs.patterns

abbrev pub bypass_view : ValidBypass → Bypass
bypass_view entry = record {
  spec = spec_view entry.spec;
  script = option_map checksum_view entry.build_script;
  required = entry.required_features;
  globs = globs_view entry.allow_globs;
  allow = map path_view entry.allow;
}

abbrev pub is_built_in : GlobPattern → Bool
is_built_in (Builtin glob) = true
is_built_in (User glob) = false

-- a glob of files that count as scripts: that of an extension of the policy, or a built-in one
abbrev pub script_glob_view : GlobPattern → ScriptGlob
script_glob_view pattern = record {
  text = extension_text pattern;
  span = (words_of pattern).span;
  built_in = is_built_in pattern;
}

abbrev pub building_view : ValidBuildConfig → Building
building_view valid = record {
  scripts = option_map (map spec_view) valid.allow_build_scripts;
  executables = valid.executables;
  interpreted = valid.interpreted;
  extensions = map script_glob_view valid.script_extensions.patterns;
  bypass = map bypass_view valid.bypass;
  with_dependencies = valid.include_dependencies;
  with_workspace = valid.include_workspace;
  with_archives = valid.include_archives;
  older_key = valid.older_key;
}

abbrev pub builtin_file_in : List GlobPattern → Option ℕ
builtin_file_in [] = None
builtin_file_in (Builtin glob ∷ patterns) = Some glob.1
builtin_file_in (User glob ∷ patterns) = builtin_file_in patterns

-- the number of the file of the built-in globs, where the table has some
abbrev pub globs_file : ValidBuildConfig → Option ℕ
globs_file valid = builtin_file_in valid.script_extensions.patterns
