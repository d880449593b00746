use Rattle.std.proofs.Common.{map, take}
use Rattle.deny_cfg_build.specs.Globs.{extension_text}
use Rattle.deny_build.specs.private.Globs.{IsSetOf}
use Rattle.deny_build.proofs.glob_texts.script_set.Given as goal

abbrev pub invariant-loop-pattern : goal.invariant-loop-pattern
invariant-loop-pattern l = IsSetOf (map extension_text (take l.pattern-index l.globs)) l.set
