-- The built-in globs as patterns.
use Rattle.std.specs.Prelude.{ℕ}
use Rattle.deny_cfg_build.specs.declared.builtin.BuiltinGlob.{BuiltinGlob}
use Rattle.deny_cfg_build.specs.declared.pattern.GlobPattern.{GlobPattern}
use Rattle.deny_cfg_build.specs.declared.pattern.GlobPattern.TheVariants.{Builtin}

-- a built-in glob as a pattern, where its file has this number
abbrev pub builtin_of : ℕ → BuiltinGlob → GlobPattern
builtin_of file glob = Builtin (record { value = glob.text.now; span = glob.span }, file)
