use Rattle.std.specs.List.{AllZip}
use Rattle.deny_cfg_build.specs.Build.{IsBypassOf}
use Rattle.deny_cfg_build.proofs.build.bypasses_of.Given as goal

abbrev pub invariant-entries : goal.invariant-entries
invariant-entries l = AllZip IsBypassOf l.yielded l.all
