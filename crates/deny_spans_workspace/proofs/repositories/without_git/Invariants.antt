use Rattle.std.proofs.Common.{◌≡◌, length}
use Rattle.deny_spans_workspace.specs.Repositories.{without_git}
use Rattle.deny_spans_workspace.proofs.repositories.without_git.Given as goal

abbrev pub invariant-loop-shorter : goal.invariant-loop-shorter
invariant-loop-shorter l = without_git l.rest ≡ without_git l.path

abbrev pub decreases-loop-shorter : goal.decreases-loop-shorter
decreases-loop-shorter l = length l.rest
