use Rattle.std.proofs.Common.{map, take}
use Rattle.deny_cfg_build.specs.private.Builtin.{builtin_of}
use Rattle.deny_cfg_build.specs.Globs.{extension_text}
use Rattle.deny_cfg_build.specs.private.Globs.{GathersMore}
use Rattle.deny_cfg_build.proofs.builtin.gather_some.Given as goal

abbrev pub invariant-loop-glob : goal.invariant-loop-glob
invariant-loop-glob l =
    GathersMore extension_text (map (builtin_of l.fn.file) (take l.glob-index l.globs)) l.fn.all.patterns l.fn.all.set
    l.all.patterns l.all.set
