use Rattle.std.proofs.Common.{◌≡◌, map, take}
use Rattle.deny_cfg_build.specs.Globs.{own_text}
use Rattle.deny_build_scan.proofs.fitting.own_texts.Given as goal

abbrev pub invariant-loop-pattern : goal.invariant-loop-pattern
invariant-loop-pattern l = l.texts ≡ map (λ pattern. own_text pattern.now) (take l.pattern-index l.patterns)
