-- The file of a built-in pattern.
use Rattle.std.specs.Prelude.{ℕ, Option, None, Some}
use Rattle.deny_cfg_build.specs.declared.pattern.GlobPattern.{GlobPattern}
use Rattle.deny_cfg_build.specs.declared.pattern.GlobPattern.TheVariants.{Builtin, User}

-- the file of a pattern, where it is built in
abbrev pub file_of : GlobPattern → Option ℕ
file_of (Builtin glob) = Some glob.1
file_of (User glob) = None
