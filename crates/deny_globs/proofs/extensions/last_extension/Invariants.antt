use Rattle.std.proofs.Common.{◌≡◌, ◌≤◌, length, drop, None}
use Rattle.deny_globs.specs.private.Index.{behind_last_dot}
use Rattle.deny_globs.proofs.extensions.last_extension.Given as goal

abbrev pub invariant-loop-index : goal.invariant-loop-index
invariant-loop-index l = record {
  inside : l.index ≤ length l.path;
  none : behind_last_dot (drop l.index l.path) ≡ None;
}

abbrev pub decreases-loop-index : goal.decreases-loop-index
decreases-loop-index l = l.index
