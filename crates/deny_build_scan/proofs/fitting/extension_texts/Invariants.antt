use Rattle.std.proofs.Common.{◌≡◌, map, take}
use Rattle.deny_cfg_build.specs.Globs.{extension_text}
use Rattle.deny_build_scan.proofs.fitting.extension_texts.Given as goal

abbrev pub invariant-loop-pattern : goal.invariant-loop-pattern
invariant-loop-pattern l = l.texts ≡ map (λ pattern. extension_text pattern.now) (take l.pattern-index l.patterns)
