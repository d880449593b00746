use Rattle.std.proofs.Common.{map}
use Rattle.deny_cfg_build.specs.Globs.{AreGlobsOf, own_text}
use Rattle.deny_cfg_build.specs.declared.pattern.GlobPattern.TheVariants.{User}
use Rattle.deny_cfg_build.proofs.gathered.own_globs.Given as goal

abbrev pub invariant-globs : goal.invariant-globs
invariant-globs l = AreGlobsOf own_text (map User l.yielded) l.all.patterns l.all.set
