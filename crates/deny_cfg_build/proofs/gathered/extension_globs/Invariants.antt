use Rattle.std.proofs.Common.{map}
use Rattle.deny_cfg_build.specs.Globs.{AreGlobsOf, extension_text}
use Rattle.deny_cfg_build.specs.declared.pattern.GlobPattern.TheVariants.{User}
use Rattle.deny_cfg_build.proofs.gathered.extension_globs.Given as goal

abbrev pub invariant-extensions : goal.invariant-extensions
invariant-extensions l = AreGlobsOf extension_text (map User l.yielded) l.all.patterns l.all.set
