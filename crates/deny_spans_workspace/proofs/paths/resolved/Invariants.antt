use Rattle.std.proofs.Common.{◌≡◌}
use Rattle.std.specs.Prelude.{fold}
use Rattle.std.specs.Path.{components_remaining, path_components}
use Rattle.deny_spans_workspace.specs.Paths.{further, resolved}
use Rattle.deny_spans_workspace.proofs.paths.resolved.Given as goal

abbrev pub invariant-loop-part : goal.invariant-loop-part
invariant-loop-part l = fold further l.parts (components_remaining l.part-iterator) ≡ resolved (path_components l.path)
