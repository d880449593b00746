use Rattle.std.proofs.Common.{◌≡◌, ◌++◌}
use Rattle.std.specs.Path.{components_remaining, path_components}
use Rattle.deny_spans_workspace.proofs.paths.components.Given as goal

abbrev pub invariant-loop-part : goal.invariant-loop-part
invariant-loop-part l = l.parts ++ components_remaining l.part-iterator ≡ path_components l.path
